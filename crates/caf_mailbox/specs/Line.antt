-- One of the two lists, by its queues.
use Rattle.std.specs.Prelude.{◌≡◌, ℕ, ◌+◌, ◌≤◌, [], count_by, Bool, true, List, ◌++◌, map, Option, Some, None, if◌then◌else◌}
use Rattle.std.specs.List.{AllByRecursion}
use Rattle.std.specs.Option.{option_map}
use Rattle.std.specs.VecDeque.{deque_len, deque_capacity}
use Rattle.caf_message.specs.declared.envelope.Taken.{Taken}
use Rattle.caf_message.specs.Envelope.{plain_envelope, is_system, is_response, is_content}
use Rattle.caf_message.specs.Lists.{pick}
use Rattle.caf_mailbox.specs.Arrived.{Arrived, all_arrived, at_arrived, without_numbers, number_taken}
use Rattle.caf_mailbox.specs.Order.{woven, IsOrdered, AreBelow, is_before, least}
use Rattle.caf_mailbox.specs.Search.{taken_at}
use Rattle.caf_mailbox.specs.declared.class.Class.{Class}
use Rattle.caf_mailbox.specs.declared.class.Class.TheVariants.{Notice, Response, Content}
use Rattle.caf_mailbox.specs.declared.line.Line.{Line}
use Rattle.caf_mailbox.specs.declared.queue.Found.{Found}

-- ---- what a line holds

-- those with a number, in order of arrival
abbrev pub numbered : Line → List Arrived
numbered l = woven (all_arrived l.notices.items) (woven l.responses.here (all_arrived l.contents.items))

-- and the late ones behind them
abbrev pub in_line : Line → List Taken
in_line l = without_numbers (numbered l) ++ map plain_envelope l.late.items

-- ---- what always holds

-- all of one class, in order of arrival
pub record IsQueue (is_one : Taken → Bool) (zs : List Arrived) : Type 0 where
  pub ordered : IsOrdered zs
  pub class : AllByRecursion (λ z. is_one z.1 ≡ true) zs

pub record IsSorted (l : Line) : Type 0 where
  pub notices : IsQueue is_system (all_arrived l.notices.items)
  pub responses : IsQueue is_response l.responses.here
  pub contents : IsQueue is_content (all_arrived l.contents.items)

-- no number was given from this one on
pub record IsUpTo (next : ℕ) (l : Line) : Type 0 where
  pub notices : AreBelow next (all_arrived l.notices.items)
  pub responses : AreBelow next l.responses.here
  pub contents : AreBelow next (all_arrived l.contents.items)

-- ---- room

-- the queues have room for the notices and the contents
pub record HasRoom (es : List Taken) (l : Line) : Type 0 where
  pub notices : deque_len l.notices + count_by is_system es ≤ deque_capacity l.notices
  pub contents : deque_len l.contents + count_by is_content es ≤ deque_capacity l.contents

-- no place is free for a response
abbrev pub HasNoPlaces : Line → Type 0
HasNoPlaces l = l.responses.room ≡ []

-- ---- the first one of a queue

abbrev pub number_of : Option Found → Option ℕ
number_of found = option_map (λ f. f.number) found

abbrev pub taken_where : List Arrived → Option Found → Option (Arrived × List Arrived)
taken_where zs None = None
taken_where zs (Some f) = taken_at zs f.position

-- the first one that passes was found
pub record IsFound (test : Taken → Bool) (zs : List Arrived) (found : Option Found) : Type 0 where
  pub place : taken_where zs found ≡ pick (at_arrived test) zs
  pub number : number_of found ≡ number_taken (pick (at_arrived test) zs)

-- the class of the first one, by the numbers of the first ones of each class
abbrev pub first_class : Option ℕ → Option ℕ → Option ℕ → Class
first_class notice response content = if is_before notice (least response content) then Notice else if is_before response content then Response else Content

-- ---- one line and a later one

-- the same envelopes in each queue
pub record HasSameItems (old new : Line) : Type 0 where
  pub notices : new.notices.items ≡ old.notices.items
  pub responses : new.responses.here ≡ old.responses.here
  pub contents : new.contents.items ≡ old.contents.items
  pub late : new.late.items ≡ old.late.items

-- no number came in
abbrev pub KeepsBounds : Line → Line → Type 0
KeepsBounds old new = (next : ℕ) → IsUpTo next old → IsUpTo next new
