use Rattle.std.proofs.Common.{map, refl, sym, ◌∙◌, arith}
use Rattle.caf_actor.specs.PlainForms.{plain_output}
use Rattle.caf_script.proofs.ScriptLemmas.{left_on, played_none, played_all}
use Rattle.caf_script.proofs.script.Script.play.Goals as goal

pub returns-then-not-can_play-clause-played : goal.returns-then-not-can_play-clause-played
returns-then-not-can_play-clause-played c =
    let s = c.loop-turn.self in
    sym (played_none s s.plan (map plain_output c.loop-turn.outputs) refl (sym c.can_play.ensures ∙ c.if-not-can_play.true)) ∙ c.loop-turn.invariant.0

pub returns-then-not-can_play-clause-left : goal.returns-then-not-can_play-clause-left
returns-then-not-can_play-clause-left c = c.loop-turn.invariant.2

pub returns-in_err-play_next-clause-left : goal.returns-in_err-play_next-clause-left
returns-in_err-play_next-clause-left c = left_on c.args.self.now c.loop-turn.self c.play_next.new.self c.loop-turn.invariant.2 c.play_next.ensures.left

pub loop-turn-preserved : goal.loop-turn-preserved
loop-turn-preserved c =
    let left = c.loop-turn.invariant.1 in
    let shorter = c.in_ok-play_next.ensures.shorter in (
      c.in_ok-play_next.ensures.same ∙ c.loop-turn.invariant.0,
      omega (arith, left, shorter),
      left_on c.args.self.now c.loop-turn.self c.play_next.new.self c.loop-turn.invariant.2 c.play_next.ensures.left,
    )

pub returns-clause-played : goal.returns-clause-played
returns-clause-played c =
    let s = c.loop-turn.self in
    let left = c.loop-turn.invariant.1 in
    let all = c.len-turn-end.ensures in
    let over = c.loop-turn-test.false in
    sym (played_all s (map plain_output c.loop-turn.outputs) (omega (arith, left, all, over))) ∙ c.loop-turn.invariant.0

pub returns-clause-left : goal.returns-clause-left
returns-clause-left c = c.loop-turn.invariant.2
