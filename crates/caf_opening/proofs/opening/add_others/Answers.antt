use Rattle.std.proofs.Common.{◌≡◌, ℕ, ◌+◌, ◌<◌, List, length, get_or, true, ap, sym, subst, ◌∙◌, arith}
use Rattle.std.specs.List.{AllByRecursion}
use Rattle.caf_kinds.specs.Starting.{has_short_lines}
use Rattle.caf_kinds.specs.declared.setup.Setup.{Setup}
use Rattle.caf_opening.specs.Opening.{actor_at, own_files, files_left, AreKnown}
use Rattle.caf_opening.proofs.OpeningLemmas.{left_short, one_more_actor, one_more_known}
use Rattle.caf_opening.proofs.opening.add_others.Goals as goal

pub loop-before-preserved : goal.loop-before-preserved
loop-before-preserved c =
    let places = c.args.places.now in
    let script = c.args.script.now in
    let n = c.loop-before.before in
    let left = c.loop-before.left in
    let d = c.index-setups-before.result in
    let test = c.loop-before-test.true in
    let long = ap length c.as_slice-setups.ensures in
    let within : n < length places = omega (arith, test, long) in
    let same : d ≡ get_or places n d = c.index-setups-before.is ∙ ap (λ (ss : List Setup). get_or ss n d) c.as_slice-setups.ensures in
    let gone : c.take_files-own.new.left ≡ files_left (get_or places n d).kind left = c.take_files-own.ensures.left ∙ ap (λ (s : Setup). files_left s.kind left) same in
    let is = c.in_ok-actor.ensures.actor ∙ ap (λ (fs : List (List ℕ)). actor_at places script (n + 1) d fs) c.take_files-own.ensures.own
    ∙ ap (λ (s : Setup). actor_at places script (n + 1) s (own_files s.kind left)) same in (
      one_more_actor places script n d c.loop-before.actors c.push.new.self _ left c.take_files-own.new.left _ within c.loop-before.invariant.0 c.in_ok-push.ensures.added is gone,
      subst (AllByRecursion (λ bytes. has_short_lines 0 bytes ≡ true)) (sym gone) (left_short (get_or places n d).kind left c.loop-before.invariant.1),
      subst AreKnown (sym c.in_ok-push.ensures.added) (one_more_known c.loop-before.actors c.in_ok-actor.actor c.loop-before.invariant.2 c.in_ok-actor.ensures.known),
    )
