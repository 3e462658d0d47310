-- What a batch needs of a list: room for its notices and contents, and a place for each of its responses.
use Rattle.std.specs.Prelude.{◌≡◌, ℕ, suc, ◌+◌, count_by, Bool, List, [], ◌∷◌, ◌++◌, if◌then◌else◌}
use Rattle.caf_message.specs.declared.envelope.Taken.{Taken}
use Rattle.caf_message.specs.Envelope.{is_system, is_response, is_content}
use Rattle.caf_mailbox.specs.declared.tally.Tally.{Tally}

-- the number of arrival, and the number of the request
abbrev pub Places : Type 0
Places = List (ℕ × ℕ)

abbrev pub place_for : ℕ → Taken → Places
place_for number e = if is_response e then (number, e.mid.number) ∷ [] else []

-- where it comes into the list
abbrev pub place_in : (Taken → Bool) → ℕ → Taken → Places
place_in into number e = if into e then place_for number e else []

-- one for each response that comes into the list, with the numbers from the first one on
abbrev pub places_for : (Taken → Bool) → ℕ → List Taken → Places
places_for into number [] = []
places_for into number (e ∷ es) = place_in into number e ++ places_for into (suc number) es

abbrev pub BeginsWith : Places → Places → Type 0
BeginsWith first all = (rest : Places) × (all ≡ first ++ rest)

-- ---- counts

abbrev pub no_tally : Tally
no_tally = record { notices = 0; contents = 0 }

pub record IsTally (es : List Taken) (tally : Tally) : Type 0 where
  pub notices : tally.notices ≡ count_by is_system es
  pub contents : tally.contents ≡ count_by is_content es

-- one more is counted, or has its place
pub record IsOneMore (number : ℕ) (e : Taken) (tally more : Tally) (room wider : Places) : Type 0 where
  pub notices : more.notices ≡ tally.notices + count_by is_system (e ∷ [])
  pub contents : more.contents ≡ tally.contents + count_by is_content (e ∷ [])
  pub places : wider ≡ room ++ place_for number e
