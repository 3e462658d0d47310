use Rattle.std.proofs.Common.{◌≡◌, List, map, true, sym, subst, ap, ◌∙◌}
use Rattle.std.specs.Prelude.{◌==◌}
use Rattle.std.specs.List.{list_any}
use Rattle.caf_observe.specs.Places.{has_place, with_place}
use Rattle.caf_actor.specs.PlainForms.{plain_output}
use Rattle.caf_actor.specs.PlainOutput.{PlainOutput}
use Rattle.caf_kinds.specs.Places.{numbers_of}
use Rattle.caf_kinds.specs.Sights.{Sights, notified}
use Rattle.caf_kinds.specs.SightLaws.{with_known}
use Rattle.caf_kinds.specs.declared.place.PlaceNumber.{PlaceNumber}
use Rattle.caf_kinds.proofs.SightLemmas.{has_number, rising_all, few_all, kept_unreached, nothing_new}
use Rattle.caf_kinds.proofs.sights.Sights.notify_of.Goals as goal

pub returns-then-has : goal.returns-then-has
returns-then-has c =
    let gone = c.self.inside.gone in
    let p = c.args.place.number in
    let known : has_place (numbers_of gone) p ≡ true =
    sym (has_number gone p) ∙ subst (λ (ps : List PlaceNumber). list_any (λ (q : PlaceNumber). q.number == p) ps ≡ true) c.as_slice.ensures (sym c.has.ensures ∙ c.if-has.true) in
    subst (λ (s : Sights). ◌≡◌ {A = Sights × List PlainOutput} (s, map plain_output c.new.result) (notified s (with_place s.gone p))) c.self.view_is
    (nothing_new _ c.self.invariant (with_place (numbers_of gone) p) (with_known 0 (numbers_of gone) p c.self.invariant.gone known) _ (ap (map plain_output) c.new.ensures))

pub split-requires : goal.split-requires
split-requires c =
    few_all c.in_ok-gone.gone
    (rising_all c.self.inside.gone c.in_ok-gone.gone c.args.place c.self.invariant.gone
    (subst (λ (ps : List PlaceNumber). numbers_of c.in_ok-gone.gone ≡ with_place (numbers_of ps) c.args.place.number) c.as_slice-2.ensures c.in_ok-gone.ensures))

pub invariant_of-self-2 : goal.invariant_of-self-2
invariant_of-self-2 c = record {
  gone = rising_all c.self.inside.gone c.in_ok-gone.gone c.args.place c.self.invariant.gone
      (subst (λ (ps : List PlaceNumber). numbers_of c.in_ok-gone.gone ≡ with_place (numbers_of ps) c.args.place.number) c.as_slice-2.ensures c.in_ok-gone.ensures);
  held = kept_unreached c.in_ok-gone.gone c.replace-held.result c.in_ok-held.held c.in_ok-held.ensures.kept;
}
