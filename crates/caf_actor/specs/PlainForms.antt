-- From the types of the code to their plain forms: messages become their contents.
use Rattle.std.specs.Prelude.{List, map}
use Rattle.caf_message.specs.Envelope.{plain_envelope}
use Rattle.caf_actor.specs.declared.input.Input.{Input}
use Rattle.caf_actor.specs.declared.input.Input.TheVariants as input
use Rattle.caf_actor.specs.declared.output.Output.{Output}
use Rattle.caf_actor.specs.declared.output.Output.TheVariants as output
use Rattle.caf_actor.specs.declared.reaction.Answer.{Answer}
use Rattle.caf_actor.specs.declared.reaction.Answer.TheVariants as answer
use Rattle.caf_actor.specs.declared.reaction.Reaction.{Reaction}
use Rattle.caf_actor.specs.declared.post.Post.{Post}
use Rattle.caf_actor.specs.PlainInput.{PlainInput}
use Rattle.caf_actor.specs.PlainInput as plain_in
use Rattle.caf_actor.specs.PlainOutput.{PlainOutput}
use Rattle.caf_actor.specs.PlainOutput as plain_out
use Rattle.caf_actor.specs.PlainReaction.{PlainAnswer, PlainReaction}
use Rattle.caf_actor.specs.PlainReaction as plain_re
use Rattle.caf_actor.specs.PlainPost.{PlainPost}
use Rattle.caf_actor.specs.declared.snapshot.Snapshot.{Snapshot}
use Rattle.caf_actor.specs.Snapshot.{Handled, so_far}

abbrev pub plain_input : Input → PlainInput
plain_input input.Start = plain_in.Start
plain_input input.Stop = plain_in.Stop
plain_input (input.Content origin message) = plain_in.Content origin message.content
plain_input (input.Response tag message) = plain_in.Response tag message.content
plain_input (input.Failed tag sec) = plain_in.Failed tag sec
plain_input (input.Down place reason) = plain_in.Down place reason
plain_input input.Tick = plain_in.Tick

abbrev pub plain_output : Output → PlainOutput
plain_output (output.Tell to priority message) = plain_out.Tell to priority message.content
plain_output (output.TellMany places priority message) = plain_out.TellMany places priority message.content
plain_output (output.Request to priority mode tag expected message) = plain_out.Request to priority mode tag expected message.content
plain_output (output.Exit to reason) = plain_out.Exit to reason
plain_output (output.Link to) = plain_out.Link to
plain_output (output.Unlink to) = plain_out.Unlink to
plain_output (output.Watch to) = plain_out.Watch to
plain_output (output.Unwatch to) = plain_out.Unwatch to
plain_output (output.Deliver requester number message) = plain_out.Deliver requester number message.content
plain_output (output.Break requester number sec) = plain_out.Break requester number sec
plain_output (output.Spawn place) = plain_out.Spawn place
plain_output (output.Tick to) = plain_out.Tick to
plain_output (output.Delay ticks to priority message) = plain_out.Delay ticks to priority message.content
plain_output (output.Within ticks to priority mode tag expected message) = plain_out.Within ticks to priority mode tag expected message.content

abbrev pub plain_answer : Answer → PlainAnswer
plain_answer (answer.Value message) = plain_re.Value message.content
plain_answer (answer.Error sec) = plain_re.Error sec
plain_answer (answer.Delegate to) = plain_re.Delegate to
plain_answer answer.Hold = plain_re.Hold
plain_answer answer.Nothing = plain_re.Nothing

abbrev pub plain_reaction : Reaction → PlainReaction
plain_reaction r = record { outputs = map plain_output r.outputs; answer = plain_answer r.answer; quit = r.quit }

abbrev pub plain_post : Post → PlainPost
plain_post p = record { to = p.to; envelope = plain_envelope p.envelope }

-- a snapshot, and what was posted on the way to it
abbrev pub reached : {S : Type 0} → Snapshot S → List Post → Handled S
reached s posts = so_far s (map plain_post posts)
