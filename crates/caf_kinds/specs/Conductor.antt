-- A conductor plays its script.
use Rattle.std.specs.Prelude.{ℕ, ◌≤◌, List, [], ◌++◌, length, map, Contains}
use Rattle.std.specs.List.{AllByRecursion}
use Rattle.caf_signature.specs.declared.interface.Signature.{Signature}
use Rattle.caf_actor.specs.PlainInput.{PlainInput, Start, Stop, Content, Response, Failed, Down, Tick}
use Rattle.caf_actor.specs.PlainOutput.{PlainOutput, content_sent}
use Rattle.caf_actor.specs.PlainReaction as answer
use Rattle.caf_actor.specs.Rules.{WhereGiven, output_targets, output_count, IsNoTick}
use Rattle.caf_script.specs.Step.{Step, sent}
use Rattle.caf_script.specs.Reply as reply
use Rattle.caf_script.specs.Script.{Played, goes_on, answered, resolved, ticked, ended}
use Rattle.caf_script.specs.declared.script.Script.{Script}
use Rattle.caf_kinds.specs.Who.{Who, IsWho}
use Rattle.caf_kinds.specs.Lawful.{IsSound}
use Rattle.caf_kinds.specs.Signals.{signalled}
use Rattle.caf_kinds.specs.declared.signal.Signal.TheVariants as signal
use Rattle.caf_kinds.specs.Reacting.{Reacted, quiet, answers, sends, failed}

-- it takes no content
abbrev pub interface : List Signature
interface = []

pub record Conducting : Type 0 where
  pub identity : Who
  pub script : Script

-- ---- what holds of its script

-- a step sends one thing: content of the table's types, or an exit, to peers
pub record MaySend (peers : List ℕ) (o : PlainOutput) : Type 0 where
  pub targets : AllByRecursion (Contains peers) (output_targets o)
  pub content : WhereGiven IsSound (content_sent o)
  pub no_tick : IsNoTick o
  pub few : output_count o ≤ 1

abbrev pub MayPlay : List ℕ → Step → Type 0
MayPlay peers step = AllByRecursion (MaySend peers) (sent step)

pub record IsPlan (peers : List ℕ) (plan : List Step) : Type 0 where
  pub steps : AllByRecursion (MayPlay peers) plan
  pub few : length plan ≤ 1000

pub record IsConducting (s : Conducting) : Type 0 where
  pub who : IsWho s.identity
  pub plan : IsPlan s.identity.peers s.script.plan

-- ---- its reactions

-- it sends what the script sends
abbrev pub plays : Conducting → Played → Reacted Conducting
plays s played = (record s { script = played.0 }, sends played.1 answer.Nothing)

-- the tick is handed on to each peer, and then the script goes on
abbrev pub ticks : Conducting → Played → Reacted Conducting
ticks s played = (record s { script = played.0 }, sends (map (signalled signal.Tick) s.identity.peers ++ played.1) answer.Nothing)

-- each peer is told to quit, and the script is over
abbrev pub stops : Conducting → Reacted Conducting
stops s = (record s { script = ended s.script }, sends (map (signalled signal.Kill) s.identity.peers) answer.Nothing)

abbrev pub reacted : Conducting → PlainInput → Reacted Conducting
reacted s Start = plays s (goes_on s.script)
reacted s Stop = stops s
reacted s Tick = ticks s (goes_on (ticked s.script))
reacted s (Response tag words) = plays s (goes_on (answered s.script tag words))
reacted s (Failed tag why) = plays s (goes_on (resolved s.script tag (reply.Failed why)))
reacted s (Down place why) = (s, quiet)
reacted s (Content origin words) = (s, answers failed)
