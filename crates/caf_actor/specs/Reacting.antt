-- What follows where the behaviour is given an input: its outputs are sent, then its answer, then what
-- its quitting causes.
use Rattle.std.specs.Prelude.{ℕ, List}
use Rattle.caf_actor.specs.declared.origin.Origin.{Origin}
use Rattle.caf_actor.specs.PlainInput.{PlainInput, Content}
use Rattle.caf_actor.specs.Rules.{Rules}
use Rattle.caf_actor.specs.Snapshot.{Handled, with_snapshot}
use Rattle.caf_actor.specs.Sending.{send_outputs}
use Rattle.caf_actor.specs.Answering.{answer}
use Rattle.caf_actor.specs.Quitting.{quit_where}

-- the behaviour takes an input, and its outputs are sent
abbrev pub react : {S : Type 0} → Rules S → Handled S → PlainInput → Handled S
react rules t i =
    send_outputs (with_snapshot t (record t.snapshot { behavior = rules.next t.snapshot.behavior i })) (rules.reaction t.snapshot.behavior i).outputs

-- an input that is no content; its answer is dropped
abbrev pub give : {S : Type 0} → Rules S → Handled S → PlainInput → Handled S
give rules t i = quit_where (react rules t i) (rules.reaction t.snapshot.behavior i).quit

abbrev pub give_content : {S : Type 0} → Rules S → Handled S → Origin → List ℕ → Handled S
give_content rules t origin words =
    let i = Content origin words in
    quit_where (answer (react rules t i) origin words (rules.reaction t.snapshot.behavior i).answer) (rules.reaction t.snapshot.behavior i).quit
