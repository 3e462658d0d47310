-- The words of events.
use Rattle.std.specs.Prelude.{ℕ, List, [], ◌∷◌, flat_map, length}
use Rattle.std.specs.Int.{w64, cast_unsigned}
use Rattle.caf_words.specs.Spelling.{bit, packed}
use Rattle.caf_events.specs.Event.{Event, unit, flag, unsigned, signed, text, bytes, place, list, object, field}

-- a field's name has none
abbrev pub words_of : Event → List ℕ
words_of unit = 0 ∷ []
words_of (flag b) = bit b ∷ []
words_of (unsigned n) = n ∷ []
words_of (signed z) = cast_unsigned w64 z ∷ []
words_of (text bs) = length bs ∷ packed bs
words_of (bytes bs) = length bs ∷ packed bs
words_of (place n) = n ∷ []
words_of (list n) = n ∷ []
words_of (object n) = n ∷ []
words_of (field name) = []

abbrev pub all_words : List Event → List ℕ
all_words es = flat_map words_of es
