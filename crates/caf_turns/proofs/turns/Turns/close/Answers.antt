use Rattle.std.proofs.Common.{rules, ◌≡◌, ◌≢◌, ◌<◌, ◌≤◌, ℕ, [], false, refl, length, vec_capacity, sym, ◌∙◌, subst, arith}
use Rattle.caf_turns.specs.Limits.{all_parts}
use Rattle.std.proofs.lemmas.List.{get_or-set_other, get_or-set_same}
use Rattle.std.specs.Slots.{slots_filled, slots_len}
use mathlib.Core.Logic.{dite}
use native.Mathlib.Decide.{ℕ_discrete}
use mathlib.Core.Option.{some}
use lib.ListN.{get_elem?}
use Rattle.caf_turns.specs.Rule.{Opens}
use Rattle.caf_turns.proofs.ListLemmas.{same_slot, some_body}
use Rattle.caf_turns.proofs.RuleLemmas.{ends, has_room, opens_more}
use Rattle.caf_turns.proofs.turns.Turns.close.Goals as goal

pub loop-i-init : goal.loop-i-init
loop-i-init g c =
    let v = c.seat.inside.seat.me.0 in
    let every : v.parts ≡ all_parts = search rules in
    let none_out : v.out ≡ [] = search rules in
    let same : v.opening ≡ c.args.seat.opening = search rules in
    let one : v.rooms ≡ 1 = has_room _ _ _ _ _ v c.close_with-closed.ensures.values.2 every in
    let roomy : c.seat.inside.seat.table_id.slots ≤ vec_capacity c.seat.inside.room = c.seat.invariant.5 (λ z. absurd (omega arith)) in (
      search rules,
      search rules,
      search rules,
      refl,
      search rules,
      search rules,
      search rules,
      (λ k body e. search rules),
      rw same at (ends _ _ _ _ _ v c.close_with-closed.ensures.values.2 every none_out c.seat.invariant.1),
    )

pub unreachable-requires : goal.unreachable-requires
unreachable-requires g c =
    let lt : c.loop-i.i < length c.args.seat.opening = search rules in
    let y = c.loop-i.invariant.8 c.loop-i.i lt in
    c.in_default.not-Some _ (same_slot _ _ _ c.take-taken.ensures.value y.1)

pub loop-i-preserved : goal.loop-i-preserved
loop-i-preserved g c =
    let lt : c.loop-i.i < length c.args.seat.opening = search rules in
    let y = c.loop-i.invariant.8 c.loop-i.i lt in
    let same = some_body _ _ (sym c.in-Some.is ∙ same_slot _ _ _ c.take-taken.ensures.value y.1) in
    let o = c.take-taken.ensures.others in
    let inv = c.loop-i.invariant in
    let long : length c.loop-i.room.items ≡ c.loop-i.i = search rules in
    let inside : c.loop-i.i < length (slots_filled c.loop-i.closed.slots) = search rules in (
      (λ k le below. let ne : k ≢ c.loop-i.i = omega arith in let weak : c.loop-i.i ≤ k = omega arith in let b : k < slots_len c.loop-i.closed.slots = rw (← o.2) below in
          rw o.1 (get_or-set_other _ c.loop-i.i k false false ne ∙ inv.0 k weak b)),
      (λ k below. dite (ℕ_discrete k c.loop-i.i)
          (λ at. rw (o.1, at) (get_or-set_same _ c.loop-i.i false false inside))
          (λ ne. let weak : k < c.loop-i.i = omega arith in rw o.1 (get_or-set_other _ c.loop-i.i k false false ne ∙ inv.1 k weak))),
      search rules,
      search rules,
      search rules,
      search rules,
      search rules,
      subst (λ l. (k : ℕ) (body : _) → get_elem? l k ≡ some body → Opens g.T.Marked.has_mark c.args.seat.opening k body) (sym c.in-Ok.ensures.items)
          (opens_more g.T.Marked.has_mark c.args.seat.opening _ c.loop-i.i _ _ long same y.2 inv.7),
      λ k below. rw o.0 (inv.8 k below),
    )
