-- Envelopes by their senders, and what notes tell of them.
use Rattle.std.specs.Prelude.{◌≡◌, ℕ, ◌==◌, List, ◌++◌, filter, Contains}
use Rattle.std.specs.List.{AllByRecursion}
use Rattle.caf_message.specs.declared.envelope.Taken.{Taken}
use Rattle.caf_inbox.specs.declared.view.Note.{Note}

-- those of a sender, in order
abbrev pub from_sender : ℕ → List Taken → List Taken
from_sender s es = filter (λ e. e.sender == s) es

-- each is of one of these senders
abbrev pub AreFrom : List ℕ → List Taken → Type 0
AreFrom senders es = AllByRecursion (λ e. Contains senders e.sender) es

-- the second list begins with the first
abbrev pub IsPrefix : List Taken → List Taken → Type 0
IsPrefix xs ys = (rest : List Taken) × (xs ++ rest ≡ ys)

-- each note of a lane is a prefix of what these have of its sender
abbrev pub AreWithin : List Taken → List Note → Type 0
AreWithin es notes = AllByRecursion (λ n. IsPrefix n.pushed (from_sender n.sender es)) notes

-- each of these is a prefix of what the reader took
abbrev pub AreBefore : List Taken → List (List Taken) → Type 0
AreBefore taken notes = AllByRecursion (λ n. IsPrefix n taken) notes

-- what each of these has of the sender is a prefix of what was pushed
abbrev pub AreBehind : ℕ → List Taken → List (List Taken) → Type 0
AreBehind s pushed notes = AllByRecursion (λ n. IsPrefix (from_sender s n) pushed) notes
