use Rattle.std.proofs.Common.{◌≡◌, ℕ, Some, ◌+◌, length, subst, ap, ◌∙◌}
use Rattle.std.specs.Prelude.{slice_get}
use Rattle.caf_actor.specs.Record.{ends, heard, IsComplete}
use Rattle.caf_driver.specs.Driving.{state_of}
use Rattle.caf_kinds.specs.declared.kind.Kind.{Kind}
use Rattle.caf_record.specs.RunRecord.{record_of, HasStarts}
use Rattle.caf_play.specs.Ending.{EndsAs, IsLegalWithin, IsOverBudget, IsExhausted, machine, ticks_of}
use Rattle.caf_play.specs.declared.played.PlayEnd.TheVariants as play
use Rattle.caf_play.proofs.PlayLemmas.{Shows, all_shown, ok_to, some_start}
use Rattle.caf_play.proofs.playing.play.Goals as goal

pub run-requires-clause-stands : goal.run-requires-clause-stands
run-requires-clause-stands g c =
    let start = some_start c.args.setups.now c.args.script.now c.in_ok-actors.actors in
    (start.0, c.in_ok-driver.ensures.driven start.0 start.1)

pub returns-clause-legal : goal.returns-clause-legal
returns-clause-legal g c = λ start starts.
    ok_to (Shows (ticks_of c.args.script.now) c.args.budget start) (λ x. IsLegalWithin (ticks_of c.args.script.now) (record_of start x.kept)) c.parted.result
    (all_shown c.args.setups.now c.args.script.now c.args.files c.ticks_of-ticks.result c.args.budget c.len.result c.in_ok-actors.actors c.finish.result
    (state_of c.in_ok-driver.driver) (state_of c.run.new.driver) c.in_ok-end.end c.parted.result
    c.in_ok-actors.ensures.actors c.in_ok-actors.ensures.count c.in_ok-driver.ensures.driven c.in_ok-end.ensures (c.ticks_of-ticks.ensures ∙ ap ticks_of c.as_slice.ensures) c.len.ensures c.finish.ensures c.parted.ensures start starts)
    (λ x s. s.legal)

pub returns-clause-complete : goal.returns-clause-complete
returns-clause-complete g c = λ start starts.
    ok_to (Shows (ticks_of c.args.script.now) c.args.budget start) (λ x. x.end ≡ play.Done → IsComplete machine (ticks_of c.args.script.now) (record_of start x.kept)) c.parted.result
    (all_shown c.args.setups.now c.args.script.now c.args.files c.ticks_of-ticks.result c.args.budget c.len.result c.in_ok-actors.actors c.finish.result
    (state_of c.in_ok-driver.driver) (state_of c.run.new.driver) c.in_ok-end.end c.parted.result
    c.in_ok-actors.ensures.actors c.in_ok-actors.ensures.count c.in_ok-driver.ensures.driven c.in_ok-end.ensures (c.ticks_of-ticks.ensures ∙ ap ticks_of c.as_slice.ensures) c.len.ensures c.finish.ensures c.parted.ensures start starts)
    (λ x s. λ e. (subst (EndsAs (ticks_of c.args.script.now) c.args.budget (record_of start x.kept)) e s.so).complete)

pub returns-clause-ticks : goal.returns-clause-ticks
returns-clause-ticks g c = λ start starts.
    ok_to (Shows (ticks_of c.args.script.now) c.args.budget start) (λ x. x.end ≡ play.Done → length (heard ((record_of start x.kept).journal 0)) ≡ (ticks_of c.args.script.now) + 1) c.parted.result
    (all_shown c.args.setups.now c.args.script.now c.args.files c.ticks_of-ticks.result c.args.budget c.len.result c.in_ok-actors.actors c.finish.result
    (state_of c.in_ok-driver.driver) (state_of c.run.new.driver) c.in_ok-end.end c.parted.result
    c.in_ok-actors.ensures.actors c.in_ok-actors.ensures.count c.in_ok-driver.ensures.driven c.in_ok-end.ensures (c.ticks_of-ticks.ensures ∙ ap ticks_of c.as_slice.ensures) c.len.ensures c.finish.ensures c.parted.ensures start starts)
    (λ x s. λ e. (subst (EndsAs (ticks_of c.args.script.now) c.args.budget (record_of start x.kept)) e s.so).heard)

pub returns-clause-budget : goal.returns-clause-budget
returns-clause-budget g c = λ start starts.
    ok_to (Shows (ticks_of c.args.script.now) c.args.budget start) (λ x. x.end ≡ play.Budget → IsOverBudget (ticks_of c.args.script.now) c.args.budget (record_of start x.kept)) c.parted.result
    (all_shown c.args.setups.now c.args.script.now c.args.files c.ticks_of-ticks.result c.args.budget c.len.result c.in_ok-actors.actors c.finish.result
    (state_of c.in_ok-driver.driver) (state_of c.run.new.driver) c.in_ok-end.end c.parted.result
    c.in_ok-actors.ensures.actors c.in_ok-actors.ensures.count c.in_ok-driver.ensures.driven c.in_ok-end.ensures (c.ticks_of-ticks.ensures ∙ ap ticks_of c.as_slice.ensures) c.len.ensures c.finish.ensures c.parted.ensures start starts)
    (λ x s. λ e. subst (EndsAs (ticks_of c.args.script.now) c.args.budget (record_of start x.kept)) e s.so)

pub returns-clause-exhausted : goal.returns-clause-exhausted
returns-clause-exhausted g c = λ start starts.
    ok_to (Shows (ticks_of c.args.script.now) c.args.budget start) (λ x. (place : ℕ) → x.end ≡ play.Exhausted place → IsExhausted (ticks_of c.args.script.now) c.args.budget (record_of start x.kept) place) c.parted.result
    (all_shown c.args.setups.now c.args.script.now c.args.files c.ticks_of-ticks.result c.args.budget c.len.result c.in_ok-actors.actors c.finish.result
    (state_of c.in_ok-driver.driver) (state_of c.run.new.driver) c.in_ok-end.end c.parted.result
    c.in_ok-actors.ensures.actors c.in_ok-actors.ensures.count c.in_ok-driver.ensures.driven c.in_ok-end.ensures (c.ticks_of-ticks.ensures ∙ ap ticks_of c.as_slice.ensures) c.len.ensures c.finish.ensures c.parted.ensures start starts)
    (λ x s. λ place e. subst (EndsAs (ticks_of c.args.script.now) c.args.budget (record_of start x.kept)) e s.so)

pub returns-clause-kinds : goal.returns-clause-kinds
returns-clause-kinds g c = λ start starts.
    ok_to (Shows (ticks_of c.args.script.now) c.args.budget start) (λ x. (place : ℕ) (kind : Kind) → slice_get x.kinds place ≡ Some kind → (ends machine (record_of start x.kept) place).behavior ≡ kind) c.parted.result
    (all_shown c.args.setups.now c.args.script.now c.args.files c.ticks_of-ticks.result c.args.budget c.len.result c.in_ok-actors.actors c.finish.result
    (state_of c.in_ok-driver.driver) (state_of c.run.new.driver) c.in_ok-end.end c.parted.result
    c.in_ok-actors.ensures.actors c.in_ok-actors.ensures.count c.in_ok-driver.ensures.driven c.in_ok-end.ensures (c.ticks_of-ticks.ensures ∙ ap ticks_of c.as_slice.ensures) c.len.ensures c.finish.ensures c.parted.ensures start starts)
    (λ x s. s.kinds)

pub returns-clause-starts : goal.returns-clause-starts
returns-clause-starts g c = λ start starts.
    ok_to (Shows (ticks_of c.args.script.now) c.args.budget start) (λ x. HasStarts machine start x.kept) c.parted.result
    (all_shown c.args.setups.now c.args.script.now c.args.files c.ticks_of-ticks.result c.args.budget c.len.result c.in_ok-actors.actors c.finish.result
    (state_of c.in_ok-driver.driver) (state_of c.run.new.driver) c.in_ok-end.end c.parted.result
    c.in_ok-actors.ensures.actors c.in_ok-actors.ensures.count c.in_ok-driver.ensures.driven c.in_ok-end.ensures (c.ticks_of-ticks.ensures ∙ ap ticks_of c.as_slice.ensures) c.len.ensures c.finish.ensures c.parted.ensures start starts)
    (λ x s. s.starts)
