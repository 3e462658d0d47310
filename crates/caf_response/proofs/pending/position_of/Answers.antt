use Rattle.std.proofs.Common.{◌≡◌, ◌<◌, ℕ, true, false, subst, arith}
use Rattle.std.specs.Prelude.{length, ◌==◌}
use Rattle.std.proofs.lemmas.Bool.Decides.{nat_tests}
use Rattle.caf_message.proofs.ListLemmas.{pick_none}
use Rattle.caf_response.specs.declared.pending.Waiting.{Waiting}
use Rattle.caf_response.specs.Pending.{has_number}
use Rattle.caf_response.proofs.PickLemmas.{none_before-more, pick-at_index}
use Rattle.caf_response.proofs.pending.position_of.Goals as goal

equal : (a b : ℕ) → a ≡ b → (a == b) ≡ true
equal a b e = grind (arith, nat_tests)

not_equal : (a b : ℕ) → (a ≡ b → ⊥) → (a == b) ≡ false
not_equal a b e = grind (arith, nat_tests)

pub returns-then-index-number : goal.returns-then-index-number
returns-then-index-number c =
    let stack = c.args.stack.now.items in
    let within : c.loop-i.i < length stack = omega arith in (
      within,
      pick-at_index (has_number c.args.number) stack c.loop-i.i c.index.result.now c.loop-i.invariant within
          (subst (λ (w : Waiting). has_number c.args.number w ≡ true) c.index.ensures (equal _ _ c.if-index-number.true)),
    )

pub loop-i-preserved : goal.loop-i-preserved
loop-i-preserved c =
    none_before-more (has_number c.args.number) c.args.stack.now.items c.loop-i.i c.index.result.now c.loop-i.invariant
    (subst (λ (w : Waiting). has_number c.args.number w ≡ false) c.index.ensures (not_equal _ _ c.if-index-number.false))

pub returns : goal.returns
returns c =
    let stack = c.args.stack.now.items in
    pick_none (has_number c.args.number) stack (λ k h x q. c.loop-i.invariant k (let l : k < c.loop-i.i = omega arith in l) x q)
