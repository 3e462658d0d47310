-- Reading values from words, in order, up to the first fault.
use Rattle.std.specs.Prelude.{ℕ, zero, suc, ◌+◌, ◌-◌, ◌==◌, nat_lt, if◌then◌else◌, Bool, true, false, List, [], ◌∷◌, length, take, drop, flat_map, Option, Some, None, Result, Ok, Err}
use Rattle.std.specs.Int.{w64, to_le_bytes, cast_signed}
use Rattle.std.specs.Str.{is_utf8}
use Rattle.caf_types.specs.ShapeTree.{ShapeTree, unit, flag, unsigned, signed, text, bytes, place, list, object, Parts, no_parts, part, count_parts}
use Rattle.caf_types.specs.Limits.{places}
use Rattle.caf_words.specs.Datum.{Datum, a_unit, a_flag, an_unsigned, a_signed, a_text, some_bytes, a_place, a_list, an_object, Data, no_data, more}
use Rattle.caf_words.specs.Spelling.{words_for}

-- ---- readers: of whatever input R, with whatever fault E

-- a thing and the input after it, or a fault
abbrev pub Reads : Type 0 → Type 0 → Type 0 → Type 0
Reads R E A = Result (A × R) E

infixl 10 ◌>>=◌
abbrev pub ◌>>=◌ : {A B E : Type 0} → Result A E → (A → Result B E) → Result B E
(Ok x) >>= f = f x
(Err e) >>= f = Err e

-- a value, and then others
abbrev pub then_more : {R E : Type 0} → Reads R E Datum → (R → Reads R E Data) → Reads R E Data
then_more one others = one >>= λ x. others x.1 >>= λ y. Ok (more x.0 y.0, y.1)

-- so many values
abbrev pub many : {R E : Type 0} → (R → Reads R E Datum) → ℕ → R → Reads R E Data
many read zero r = Ok (no_data, r)
many read (suc n) r = then_more (read r) (many read n)

-- ---- words: a thing and the words after it, or the number of words from the faulty one on

abbrev pub Got : Type 0 → Type 0
Got A = Reads (List ℕ) ℕ A

abbrev pub first_of : List ℕ → Got ℕ
first_of [] = Err 0
first_of (w ∷ ws) = Ok (w, ws)

-- a word where it has a meaning; ws are the words from it on, and rest those after it
abbrev pub taken : Option Datum → List ℕ → List ℕ → Got Datum
taken None ws rest = Err (length ws)
taken (Some d) ws rest = Ok (d, rest)

abbrev pub one_word : (ℕ → Option Datum) → List ℕ → Got Datum
one_word meaning ws = first_of ws >>= λ x. taken (meaning x.0) ws x.1

abbrev pub unit_in : ℕ → Option Datum
unit_in w = if w == 0 then Some a_unit else None

abbrev pub flag_in : ℕ → Option Datum
flag_in w = if w == 0 then Some (a_flag false) else if w == 1 then Some (a_flag true) else None

abbrev pub place_in : ℕ → Option Datum
place_in w = if nat_lt w places then Some (a_place w) else None

-- ---- texts and bytes: first the end of the words, then the filling, then UTF-8

-- the bytes of words
abbrev pub bytes_in : List ℕ → List ℕ
bytes_in ws = flat_map (to_le_bytes w64) ws

abbrev pub are_zeros : List ℕ → Bool
are_zeros [] = true
are_zeros (b ∷ bs) = if b == 0 then are_zeros bs else false

-- n bytes and their filling, in k words
abbrev pub unpacked : ℕ → ℕ → List ℕ → Got (List ℕ)
unpacked n k ws = if nat_lt (length ws) k then Err 0
    else if are_zeros (drop n (bytes_in (take k ws))) then Ok (take n (bytes_in (take k ws)), drop k ws)
    else Err (length ws + 1 - k)

abbrev pub bytes_at : List ℕ → Got (List ℕ)
bytes_at ws = first_of ws >>= λ x. unpacked x.0 (words_for x.0) x.1

abbrev pub text_at : List ℕ → Got Datum
text_at ws = bytes_at ws >>= λ x. if is_utf8 x.0 then Ok (a_text x.0, x.1) else Err (length ws)

abbrev pub some_bytes_at : List ℕ → Got Datum
some_bytes_at ws = bytes_at ws >>= λ x. Ok (some_bytes x.0, x.1)

-- ---- lists and objects

abbrev pub list_at : (ℕ → List ℕ → Got Data) → List ℕ → Got Datum
list_at items ws = first_of ws >>= λ n. items n.0 n.1 >>= λ x. Ok (a_list x.0, x.1)

-- the values of fields as an object
abbrev pub as_object : Got Data → Got Datum
as_object read = read >>= λ x. Ok (an_object x.0, x.1)

abbrev pub fields_after : Bool → (List ℕ → Got Data) → List ℕ → List ℕ → Got Datum
fields_after false fields ws rest = Err (length ws)
fields_after true fields ws rest = as_object (fields rest)

abbrev pub object_at : ℕ → (List ℕ → Got Data) → List ℕ → Got Datum
object_at n fields ws = first_of ws >>= λ x. fields_after (x.0 == n) fields ws x.1

abbrev mutual
  pub reading : ShapeTree → List ℕ → Got Datum
  reading unit = one_word unit_in
  reading flag = one_word flag_in
  reading unsigned = one_word (λ w. Some (an_unsigned w))
  reading signed = one_word (λ w. Some (a_signed (cast_signed w64 w)))
  reading text = text_at
  reading bytes = some_bytes_at
  reading place = one_word place_in
  reading (list f) = list_at (many (reading f))
  reading (object ps) = object_at (count_parts ps) (each_reading ps)

  pub each_reading : Parts → List ℕ → Got Data
  each_reading no_parts ws = Ok (no_data, ws)
  each_reading (part name f ps) ws = then_more (reading f ws) (each_reading ps)
