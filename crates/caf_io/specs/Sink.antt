-- What a sink holds after a write.
use Rattle.std.specs.Prelude.{◌≡◌, ℕ, ◌≤◌, List, ◌++◌, length, take, Option, None, Some}

-- what was written before, and then the piece; a sink that tells nothing goes on telling nothing
abbrev pub added : (before : Option (List ℕ)) (piece : List ℕ) → Option (List ℕ)
added None piece = None
added (Some bytes) piece = Some (bytes ++ piece)

-- a prefix of the piece was added: none of its bytes, some, or all
abbrev pub AddsPrefix : (before now : Option (List ℕ)) (piece : List ℕ) → Type 0
AddsPrefix before now piece = (count : ℕ) × (count ≤ length piece) × (now ≡ added before (take count piece))
