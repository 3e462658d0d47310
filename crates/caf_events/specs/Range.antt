-- What the types of the program hold: numbers of 64 bits, UTF-8 texts, bytes.
use Rattle.std.specs.Prelude.{◌<◌, ◌^◌, List, [], ◌∷◌, length}
use Rattle.std.specs.Int.{w64}
use Rattle.std.specs.Int.RustNames.{FitsSigned}
use Rattle.std.specs.Str.{IsUtf8}
use Rattle.caf_words.specs.Spelling.{AreBytes}
use Rattle.caf_events.specs.Event.{Event, unsigned, signed, text, bytes, list, object}

abbrev pub IsInRange : Event → Type 0
IsInRange (unsigned n) = n < 2 ^ 64
IsInRange (signed z) = FitsSigned w64 z
IsInRange (text bs) = AreBytes bs × (length bs < 2 ^ 64) × IsUtf8 bs
IsInRange (bytes bs) = AreBytes bs × (length bs < 2 ^ 64)
IsInRange (list n) = n < 2 ^ 64
IsInRange (object n) = n < 2 ^ 64
IsInRange _ = Unit {0}

abbrev pub AreInRange : List Event → Type 0
AreInRange [] = Unit {0}
AreInRange (e ∷ es) = IsInRange e × AreInRange es
