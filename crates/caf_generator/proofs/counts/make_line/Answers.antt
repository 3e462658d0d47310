use Rattle.std.proofs.Common.{refl, ◌∙◌, ap, append_assoc}
use Rattle.caf_generator.proofs.counts.make_line.Goals as goal

pub returns : goal.returns
returns c = c.of_vec.ensures ∙ ap (λ v. v.items) c.into_bytes.ensures.value ∙ c.in_ok-text.ensures.ok ∙ simp append_assoc refl
