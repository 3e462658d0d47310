-- What a scripted behaviour does.
use Rattle.std.specs.Prelude.{ℕ, ◌+◌, ◌&&◌, nat_le, bytes_eq, if◌then◌else◌, Bool, false, List, [], ◌∷◌, ◌++◌, length, min, Option, Some, None, slice_index_or, unwrap_or, map, codes}
use Rattle.std.specs.List.{list_any}
use Rattle.std.specs.FinMap as finite
use Rattle.std.specs.Ordering.{nat_cmp}
use Rattle.caf_types.specs.ShapeTree.{unsigned}
use Rattle.caf_types.specs.Table.{Named, named}
use Rattle.caf_types.specs.declared.notice.Priority.TheVariants as priority
use Rattle.caf_types.specs.declared.sec.Sec.TheVariants as sec
use Rattle.caf_words.specs.Several.{ids_of}
use Rattle.caf_message.specs.Content.{ids_in}
use Rattle.caf_message.specs.Entries.{TableEntries}
use Rattle.caf_signature.specs.declared.interface.Signature.{Signature}
use Rattle.caf_actor.specs.declared.origin.Origin.{Origin}
use Rattle.caf_actor.specs.Answering.{is_asked}
use Rattle.caf_actor.specs.PlainInput.{PlainInput, Start, Stop, Content, Response, Failed, Down, Tick}
use Rattle.caf_actor.specs.PlainOutput.{PlainOutput}
use Rattle.caf_actor.specs.PlainOutput as output
use Rattle.caf_actor.specs.PlainReaction.{PlainAnswer, PlainReaction}
use Rattle.caf_actor.specs.PlainReaction as answer
use Rattle.caf_actor.specs.Rules.{Rules, signature_for, takes_ids}
use Rattle.caf_scripted.specs.declared.act.Act.{Act}
use Rattle.caf_scripted.specs.declared.act.Sending.{Sending}
use Rattle.caf_scripted.specs.declared.act.Sending.TheVariants as sending
use Rattle.caf_scripted.specs.declared.act.Reply.{Reply}
use Rattle.caf_scripted.specs.declared.act.Reply.TheVariants as reply
use Rattle.caf_scripted.specs.declared.act.Cue.{Cue}
use Rattle.caf_scripted.specs.declared.act.Signal.{Signal}
use Rattle.caf_scripted.specs.declared.act.Signal.TheVariants as signal
use Rattle.caf_scripted.specs.Script.{last_act, passes_on, no_cue, without_ticks, exits_alone}
use Rattle.caf_scripted.specs.declared.act.Note.{Note}
use Rattle.caf_scripted.specs.declared.act.Note.TheVariants as note
use Rattle.caf_scripted.specs.declared.scripted.Scripted.{Scripted}

-- ---- which act

-- one act for each content, in order; after the last one it echoes
abbrev pub act_now : Scripted → Act
act_now s = slice_index_or s.acts s.done last_act

-- one cue for each input that is no content, in order: as many were given as there are notes
abbrev pub cue_now : Scripted → Cue
cue_now s = slice_index_or s.cues (length s.notes) no_cue

-- the first peer, or itself
abbrev pub first_peer : ℕ → List ℕ → ℕ
first_peer place [] = place
first_peer place (p ∷ ps) = p

-- while it sleeps it keeps the first input of its interface for later
abbrev pub takes_first : List Signature → List ℕ → Bool
takes_first [] ids = false
takes_first (s ∷ ss) ids = takes_ids ids s

-- ---- answers

-- content whose result is of the same types answers itself
abbrev pub echo_by : Option Signature → List ℕ → PlainAnswer
echo_by None words = answer.Error sec.Failed
echo_by (Some s) words = if bytes_eq (ids_of s.result) (ids_of s.input) then answer.Value words else answer.Error sec.Failed

abbrev pub echo : List Signature → List ℕ → PlainAnswer
echo interface words = echo_by (signature_for interface (ids_in words)) words

abbrev pub ignore : Origin → PlainAnswer
ignore origin = if is_asked origin then answer.Error sec.Failed else answer.Nothing

abbrev pub answer_by : Scripted → ℕ → Origin → List ℕ → Reply → PlainAnswer
answer_by s to origin words reply.Echo = echo s.interface words
answer_by s to origin words reply.Fail = answer.Error sec.Failed
answer_by s to origin words reply.Ignore = ignore origin
answer_by s to origin words reply.Delegate = answer.Delegate to
answer_by s to origin words reply.Hold = answer.Hold

-- ---- outputs

-- all peers, where these are few enough
abbrev pub few : List ℕ → List ℕ
few peers = if nat_le (length peers) 512 then peers else []

abbrev pub output_by : Scripted → ℕ → Origin → List ℕ → Sending → PlainOutput
output_by s to origin words sending.Tell = output.Tell to origin.priority words
output_by s to origin words sending.Fan = output.TellMany (few s.peers) origin.priority words
output_by s to origin words (sending.Ask mode tag expected) = output.Request to origin.priority mode tag (expected ∷ []) words
output_by s to origin words (sending.Exit why) = output.Exit to why
output_by s to origin words sending.Link = output.Link to
output_by s to origin words sending.Unlink = output.Unlink to
output_by s to origin words sending.Watch = output.Watch to
output_by s to origin words sending.Unwatch = output.Unwatch to
output_by s to origin words (sending.Deliver requester number) = output.Deliver requester number words
output_by s to origin words (sending.Break requester number why) = output.Break requester number why
output_by s to origin words sending.Spawn = output.Spawn (first_peer s.place s.reserve)
output_by s to origin words (sending.Delay ticks) = output.Delay ticks to origin.priority words
output_by s to origin words (sending.AskWithin ticks mode tag expected) = output.Within ticks to origin.priority mode tag (expected ∷ []) words

abbrev pub outputs_by : Scripted → ℕ → Origin → List ℕ → Option Sending → List PlainOutput
outputs_by s to origin words None = []
outputs_by s to origin words (Some what) = output_by s to origin words what ∷ []

-- ---- reactions

abbrev pub reaction_to : Scripted → ℕ → Origin → List ℕ → Act → PlainReaction
reaction_to s to origin words a = record { outputs = outputs_by s to origin words a.sending ++ outputs_by s to origin words a.afterwards; answer = answer_by s to origin words a.reply; quit = a.quit }

-- ---- reactions to what is no content

-- the content of one number of 64 bits
abbrev pub number_content : ℕ → List ℕ
number_content n = 1 ∷ 2 ∷ min n 18446744073709551615 ∷ []

-- where that content comes from
abbrev pub own_origin : ℕ → Origin
own_origin place = record { sender = place; mid = record { requester = place; number = 0; response = false }; priority = priority.Normal }

abbrev pub signal_output : Signal → ℕ → PlainOutput
signal_output (signal.Exit why) to = output.Exit to why
signal_output signal.Tick to = output.Tick to

abbrev pub signals_by : List ℕ → Option Signal → List PlainOutput
signals_by peers None = []
signals_by peers (Some what) = map (signal_output what) (few peers)

abbrev pub reaction_by : Scripted → Cue → PlainReaction
reaction_by s c = record { outputs = outputs_by s (first_peer s.place s.peers) (own_origin s.place) (number_content c.number) c.sending ++ signals_by s.peers c.signal; answer = answer.Nothing; quit = c.quit }

abbrev pub reaction : Scripted → PlainInput → PlainReaction
reaction s (Content origin words) = reaction_to s (first_peer s.place s.peers) origin words (act_now s)
reaction s Stop = reaction_by s (exits_alone (cue_now s))
reaction s Tick = reaction_by s (cue_now s)
reaction s Start = reaction_by s (without_ticks (cue_now s))
reaction s (Response tag words) = reaction_by s (without_ticks (cue_now s))
reaction s (Failed tag why) = reaction_by s (without_ticks (cue_now s))
reaction s (Down place why) = reaction_by s (without_ticks (cue_now s))

-- ---- the next value

abbrev pub acted : Scripted → Act → Scripted
acted s a = record s { is_asleep = unwrap_or a.sleeps s.is_asleep; done = min (s.done + 1) 18446744073709551615 }

abbrev pub noted : Scripted → Note → Scripted
noted s n = record s { notes = s.notes ++ n ∷ [] }

abbrev pub next : Scripted → PlainInput → Scripted
next s (Content origin words) = acted s (act_now s)
next s Start = noted s note.Started
next s Stop = noted s note.Stopped
next s (Response tag words) = noted s (note.Responded tag)
next s (Failed tag why) = noted s (note.Failed tag why)
next s (Down place why) = noted s (note.Down place why)
next s Tick = noted s note.Ticked

-- the type of the numbers that it sends
abbrev pub scripted_entries : TableEntries
scripted_entries = finite.insert (finite.empty {X = Named} {R = nat_cmp}) 2 (named (codes "unsigned") unsigned)

-- some act passes its content on
abbrev pub delegates : Scripted → List ℕ → Bool
delegates s ids = list_any passes_on s.acts

abbrev pub skips : Scripted → List ℕ → Bool
skips s ids = s.is_asleep && takes_first s.interface ids

abbrev pub scripted_rules : Rules Scripted
scripted_rules = record {
  place = λ s. s.place;
  interface = λ s. s.interface;
  peers = λ s. s.peers;
  reserve = λ s. s.reserve;
  skips = skips;
  delegates = delegates;
  next = next;
  reaction = reaction;
}
