use Rattle.std.proofs.Common.{◌≡◌, ℕ, List, sym, ap}
use Rattle.std.specs.Prelude.{bytes_eq}
use Rattle.std.specs.Bool.{one_answer}
use Rattle.std.proofs.lemmas.Slice.Eq.{bytes_eq-Decides}
use Rattle.caf_steps.specs.declared.reference.Reference.{Reference}
use Rattle.caf_words.specs.Several.{ids_of}
use Rattle.caf_message.specs.Content.{ids_in}
use Rattle.caf_actor.proofs.content.has_types.Goals as goal

pub returns-clause-answer : goal.returns-clause-answer
returns-clause-answer c =
    let ids : List ℕ = ids_in c.args.message.now.content in
    let types : List ℕ = ids_of c.args.types.now in
    let same = bytes_eq-Decides types ids in
    let answer = c.has_types.ensures.answer in
    one_answer {P = types ≡ ids} c.has_types.result (bytes_eq types ids) (λ is. sym (answer.0 is), λ is. answer.1 (sym is)) same

pub returns-clause-kept : goal.returns-clause-kept
returns-clause-kept c = ap (λ (r : Reference). r.content) c.has_types.ensures.looked.is
