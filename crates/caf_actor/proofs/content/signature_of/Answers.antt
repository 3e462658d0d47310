use Rattle.std.proofs.Common.{◌∙◌, sym, ap, ℕ, List}
use Rattle.std.specs.Prelude.{bytes_eq}
use Rattle.caf_types.specs.declared.shape.TypeId.{TypeId}
use Rattle.caf_words.specs.Several.{ids_of}
use Rattle.caf_message.specs.Content.{ids_in}
use Rattle.caf_actor.specs.Rules.{takes_ids}
use Rattle.caf_actor.proofs.ListLemmas.{find_here, find_on}
use Rattle.caf_actor.proofs.content.signature_of.Goals as goal

pub returns-then-has_types-clause-found : goal.returns-then-has_types-clause-found
returns-then-has_types-clause-found c =
    let ids = ids_in c.args.message.now.content in
    let types = ap (λ (ts : List TypeId). bytes_eq (ids_of ts) ids) (sym c.as_slice.ensures) in
    let looked = ap (λ (words : List ℕ). bytes_eq (ids_of c.as_slice.result.now) (ids_in words)) (sym c.loop-signature.invariant.kept) in
    sym (find_here (takes_ids ids) c.as_slice-signature-items.result.now c.loop-signature.signature-index c.signature-item.result c.loop-signature-test.true c.signature-item.is
    (types ∙ looked ∙ sym c.has_types.ensures.answer ∙ c.if-has_types.true))
    ∙ c.loop-signature.invariant.same

pub loop-signature-preserved : goal.loop-signature-preserved
loop-signature-preserved c =
    let ids = ids_in c.args.message.now.content in
    let types = ap (λ (ts : List TypeId). bytes_eq (ids_of ts) ids) (sym c.as_slice.ensures) in
    let looked = ap (λ (words : List ℕ). bytes_eq (ids_of c.as_slice.result.now) (ids_in words)) (sym c.loop-signature.invariant.kept) in
    record {
      same = sym (find_on (takes_ids ids) c.as_slice-signature-items.result.now c.loop-signature.signature-index c.signature-item.result c.loop-signature-test.true c.signature-item.is
          (types ∙ looked ∙ sym c.has_types.ensures.answer ∙ c.if-has_types.false))
          ∙ c.loop-signature.invariant.same;
      kept = c.has_types.ensures.kept ∙ c.loop-signature.invariant.kept;
    }
