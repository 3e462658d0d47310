-- The word form: how values are spelled as words of 64 bits.
use Rattle.std.specs.Prelude.{◌≡◌, ℕ, zero, suc, ◌+◌, ◌/◌, ◌^◌, ◌<◌, ℤ, Bool, true, false, List, [], ◌∷◌, ◌++◌, length, take, drop}
use Rattle.std.specs.Int.{w64, from_le_bytes, cast_unsigned}
use Rattle.std.specs.Int.RustNames.{FitsSigned}
use Rattle.std.specs.Str.{IsUtf8}
use Rattle.caf_types.specs.ShapeTree.{ShapeTree, unit, flag, unsigned, signed, text, bytes, place, list, object, Parts, no_parts, part}
use Rattle.caf_types.specs.Limits.{places}
use Rattle.caf_words.specs.Datum.{Datum, a_unit, a_flag, an_unsigned, a_signed, a_text, some_bytes, a_place, a_list, an_object, Data, no_data, more, count}

-- how many words hold n bytes
abbrev pub words_for : ℕ → ℕ
words_for n = (n + 7) / 8

-- n words of eight bytes each, the first byte lowest; where the bytes end, zeros
abbrev pub packed_in : ℕ → List ℕ → List ℕ
packed_in zero bs = []
packed_in (suc n) bs = from_le_bytes w64 bs ∷ packed_in n (drop 8 bs)

abbrev pub packed : List ℕ → List ℕ
packed bs = packed_in (words_for (length bs)) bs

abbrev pub bit : Bool → ℕ
bit false = 0
bit true = 1

-- the one spelling of a value
abbrev mutual
  pub spelling : Datum → List ℕ
  spelling a_unit = 0 ∷ []
  spelling (a_flag b) = bit b ∷ []
  spelling (an_unsigned n) = n ∷ []
  spelling (a_signed z) = cast_unsigned w64 z ∷ []
  spelling (a_text bs) = length bs ∷ packed bs
  spelling (some_bytes bs) = length bs ∷ packed bs
  spelling (a_place n) = n ∷ []
  spelling (a_list ds) = count ds ∷ spellings ds
  spelling (an_object ds) = count ds ∷ spellings ds

  -- several, one after the other
  pub spellings : Data → List ℕ
  spellings no_data = []
  spellings (more d ds) = spelling d ++ spellings ds

-- words that begin with those: these stay, whatever follows them
abbrev pub IsFront : List ℕ → List ℕ → Type 0
IsFront front words = take (length front) words ≡ front

-- a list of bytes
abbrev pub AreBytes : List ℕ → Type 0
AreBytes [] = Unit {0}
AreBytes (b ∷ bs) = (b < 256) × AreBytes bs

-- each value is spelled, one after the other
abbrev pub EachSpells : (Datum → List ℕ → Type 0) → Data → List ℕ → Type 0
EachSpells S no_data ws = ws ≡ []
EachSpells S (more d ds) ws = (a : List ℕ) × (b : List ℕ) × S d a × EachSpells S ds b × (ws ≡ a ++ b)

-- the value is of the shape, and the words are its spelling: one case for each shape
abbrev mutual
  pub Spells : ShapeTree → Datum → List ℕ → Type 0
  Spells unit d ws = (d ≡ a_unit) × (ws ≡ 0 ∷ [])
  Spells flag d ws = (b : Bool) × (d ≡ a_flag b) × (ws ≡ bit b ∷ [])
  Spells unsigned d ws = (n : ℕ) × (n < 2 ^ 64) × (d ≡ an_unsigned n) × (ws ≡ n ∷ [])
  Spells signed d ws = (z : ℤ) × FitsSigned w64 z × (d ≡ a_signed z) × (ws ≡ cast_unsigned w64 z ∷ [])
  Spells text d ws = (bs : List ℕ) × AreBytes bs × (length bs < 2 ^ 64) × IsUtf8 bs × (d ≡ a_text bs) × (ws ≡ length bs ∷ packed bs)
  Spells bytes d ws = (bs : List ℕ) × AreBytes bs × (length bs < 2 ^ 64) × (d ≡ some_bytes bs) × (ws ≡ length bs ∷ packed bs)
  Spells place d ws = (n : ℕ) × (n < places) × (d ≡ a_place n) × (ws ≡ n ∷ [])
  Spells (list f) d ws = (ds : Data) × (count ds < 2 ^ 64) × (d ≡ a_list ds) × (rest : List ℕ) × EachSpells (Spells f) ds rest × (ws ≡ count ds ∷ rest)
  Spells (object ps) d ws = (ds : Data) × (count ds < 2 ^ 64) × (d ≡ an_object ds) × (rest : List ℕ) × PartsSpell ps ds rest × (ws ≡ count ds ∷ rest)

  pub PartsSpell : Parts → Data → List ℕ → Type 0
  PartsSpell no_parts ds ws = (ds ≡ no_data) × (ws ≡ [])
  PartsSpell (part n f ps) ds ws = (e : Datum) × (es : Data) × (ds ≡ more e es) × (a : List ℕ) × (b : List ℕ) × Spells f e a × PartsSpell ps es b × (ws ≡ a ++ b)
