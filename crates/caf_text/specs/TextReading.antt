-- Reading a value from its text form, byte by byte, up to the first byte that no form goes on with.
use Rattle.std.specs.Prelude.{ℕ, zero, suc, ◌+◌, ◌-◌, ◌*◌, ◌^◌, ◌==◌, ◌&&◌, ◌||◌, nat_lt, nat_le, if◌then◌else◌, Bool, true, false, pos, negsuc, List, [], ◌∷◌, ◌++◌, length, codes, Option, Some, None, Result, Ok, Err}
use Rattle.std.specs.Str.{is_utf8}
use Rattle.caf_types.specs.ShapeTree.{ShapeTree, unit, flag, unsigned, signed, text, bytes, place, list, object, Parts, no_parts, part}
use Rattle.caf_words.specs.Datum.{Datum, a_unit, a_flag, an_unsigned, a_signed, a_text, some_bytes, a_place, a_list, an_object, Data, no_data, more}
use Rattle.caf_words.specs.Reading.{Got, ◌>>=◌, then_more}
use Rattle.caf_text.specs.TextForm.{comma, colon, is_escaped}
use Rattle.caf_text.specs.declared.quoted.Mark.{Mark}
use Rattle.caf_text.specs.declared.quoted.Mark.TheVariants as marks
use Rattle.caf_text.specs.declared.quoted.Move.{Move}
use Rattle.caf_text.specs.declared.quoted.Move.TheVariants as moves

-- these bytes, one after the other
abbrev pub literal : List ℕ → List ℕ → Got (Unit {0})
literal [] cs = Ok (tt, cs)
literal (x ∷ xs) [] = Err 0
literal (x ∷ xs) (c ∷ cs) = if x == c then literal xs cs else Err (length (c ∷ cs))

-- a word that means a value
abbrev pub word : List ℕ → Datum → List ℕ → Got Datum
word xs d cs = literal xs cs >>= λ x. Ok (d, x.1)

-- one reader behind the byte k, and another at any other byte
abbrev pub choice : {A : Type 0} → ℕ → (List ℕ → Got A) → (List ℕ → Got A) → List ℕ → Got A
choice k one other [] = Err 0
choice k one other (c ∷ cs) = if c == k then one cs else other (c ∷ cs)

abbrev pub flag_at : List ℕ → Got Datum
flag_at = choice 116 (word (codes "rue") (a_flag true)) (word (codes "false") (a_flag false))

-- ---- numbers

abbrev pub is_digit : ℕ → Bool
is_digit c = nat_le 48 c && nat_le c 57

-- the number with one more digit, where that is a digit and the number not above the greatest
abbrev pub with_digit : ℕ → ℕ → ℕ → Option ℕ
with_digit greatest n c = if is_digit c && nat_le (n * 10 + (c - 48)) greatest then Some (n * 10 + (c - 48)) else None

abbrev pub digit_taken : Option ℕ → (ℕ → Got ℕ) → ℕ → List ℕ → Got ℕ
digit_taken None on n here = Ok (n, here)
digit_taken (Some m) on n here = on m

-- further digits
abbrev pub digits : ℕ → List ℕ → ℕ → Got ℕ
digits greatest [] n = Ok (n, [])
digits greatest (c ∷ cs) n = digit_taken (with_digit greatest n c) (digits greatest cs) n (c ∷ cs)

-- a number that begins with a digit from 1 to 9
abbrev pub nonzero : ℕ → List ℕ → Got ℕ
nonzero greatest [] = Err 0
nonzero greatest (c ∷ cs) = if nat_le 49 c && nat_le c 57 then digits greatest cs (c - 48) else Err (length (c ∷ cs))

-- a number without leading zeros
abbrev pub number : ℕ → List ℕ → Got ℕ
number greatest = choice 48 (λ cs. Ok (0, cs)) (nonzero greatest)

-- behind a `-` stands a number from 1 to 2^63
abbrev pub signed_at : List ℕ → Got Datum
signed_at = choice 45 (λ cs. nonzero (2 ^ 63) cs >>= λ x. Ok (a_signed (negsuc (x.0 - 1)), x.1)) (λ cs. number (2 ^ 63 - 1) cs >>= λ x. Ok (a_signed (pos x.0), x.1))

-- ---- texts and bytes, behind the opening quote

-- the value of a digit `0` to `9` or `a` to `f`
abbrev pub digit_value : ℕ → Option ℕ
digit_value c = if nat_le 48 c && nat_le c 57 then Some (c - 48) else if nat_le 97 c && nat_le c 102 then Some (c - 87) else None

abbrev pub pair_value : Option ℕ → Option ℕ → Option ℕ
pair_value None low = None
pair_value (Some high) None = None
pair_value (Some high) (Some low) = Some (high * 16 + low)

-- the first digit of an escaped byte: these are below 32, or 127
abbrev pub escape_move : ℕ → Move
escape_move c = if c == 48 || c == 49 || c == 55 then moves.Go (marks.Half c) else moves.Halt

abbrev pub half_move : Option ℕ → Move
half_move None = moves.Halt
half_move (Some b) = if is_escaped b then moves.Put marks.Text b else moves.Halt

abbrev pub digit_move : ℕ → Option ℕ → Move
digit_move c None = moves.Halt
digit_move c (Some high) = moves.Go (marks.Pair c)

abbrev pub bytes_move : ℕ → Move
bytes_move c = if c == 34 then moves.Close else digit_move c (digit_value c)

abbrev pub pair_move : Option ℕ → Move
pair_move None = moves.Halt
pair_move (Some b) = moves.Put marks.Bytes b

abbrev pub text_move : ℕ → Move
text_move c = if c == 34 then moves.Close else if c == 92 then moves.Go marks.Slash else if nat_lt c 32 then moves.Halt else if c == 127 then moves.Halt else moves.Put marks.Text c

abbrev pub slash_move : ℕ → Move
slash_move c = if c == 34 then moves.Put marks.Text 34 else if c == 92 then moves.Put marks.Text 92 else if c == 110 then moves.Put marks.Text 10 else if c == 120 then moves.Go marks.Escape else moves.Halt

-- what a byte does behind a mark
abbrev pub move : Mark → ℕ → Move
move marks.Text c = text_move c
move marks.Slash c = slash_move c
move marks.Escape c = escape_move c
move (marks.Half first) c = half_move (pair_value (digit_value first) (digit_value c))
move marks.Bytes c = bytes_move c
move (marks.Pair first) c = pair_move (pair_value (digit_value first) (digit_value c))

abbrev pub moved : Move → (Mark → List ℕ → Got (List ℕ)) → List ℕ → List ℕ → List ℕ → Got (List ℕ)
moved moves.Close on bs here rest = Ok (bs, rest)
moved (moves.Go m) on bs here rest = on m bs
moved (moves.Put m b) on bs here rest = on m (bs ++ b ∷ [])
moved moves.Halt on bs here rest = Err (length here)

-- the bytes up to the closing quote
abbrev pub unquoted : List ℕ → Mark → List ℕ → Got (List ℕ)
unquoted [] m bs = Err 0
unquoted (c ∷ cs) m bs = moved (move m c) (unquoted cs) bs (c ∷ cs) cs

abbrev pub text_at : List ℕ → Got Datum
text_at cs = literal (34 ∷ []) cs >>= λ x. unquoted x.1 marks.Text [] >>= λ y. if is_utf8 y.0 then Ok (a_text y.0, y.1) else Err (length y.1)

abbrev pub some_bytes_at : List ℕ → Got Datum
some_bytes_at cs = literal (120 ∷ 34 ∷ []) cs >>= λ x. unquoted x.1 marks.Bytes [] >>= λ y. Ok (some_bytes y.0, y.1)

abbrev pub place_at : List ℕ → Got Datum
place_at cs = literal (64 ∷ []) cs >>= λ x. number 255 x.1 >>= λ y. Ok (a_place y.0, y.1)

-- ---- lists and objects

-- behind a value of a list: whether it was the last one
abbrev pub separator : List ℕ → Got Bool
separator = choice 93 (λ cs. Ok (true, cs)) (λ cs. literal comma cs >>= λ x. Ok (false, x.1))

abbrev pub after_value : (List ℕ → Got Data) → Datum → Bool → List ℕ → Got Data
after_value others d true cs = Ok (more d no_data, cs)
after_value others d false cs = others cs >>= λ y. Ok (more d y.0, y.1)

-- at most so many values, up to the closing bracket
abbrev pub values : (List ℕ → Got Datum) → ℕ → List ℕ → Got Data
values one zero cs = Err (length cs)
values one (suc n) cs = one cs >>= λ x. separator x.1 >>= λ s. after_value (values one n) x.0 s.0 s.1

-- a list has no more values than bytes
abbrev pub values_or_none : (List ℕ → Got Datum) → List ℕ → Got Data
values_or_none one = choice 93 (λ cs. Ok (no_data, cs)) (λ cs. values one (length cs) cs)

abbrev pub list_at : (List ℕ → Got Data) → List ℕ → Got Datum
list_at items cs = literal (91 ∷ []) cs >>= λ x. items x.1 >>= λ y. Ok (a_list y.0, y.1)

-- a field's value, behind its name
abbrev pub field_at : List ℕ → List ℕ → (List ℕ → Got Datum) → List ℕ → Got Datum
field_at before name one cs = literal before cs >>= λ a. literal name a.1 >>= λ b. literal colon b.1 >>= λ c. one c.1

abbrev pub object_at : (List ℕ → Got Data) → List ℕ → Got Datum
object_at fields cs = literal (123 ∷ []) cs >>= λ a. fields a.1 >>= λ x. literal (125 ∷ []) x.1 >>= λ b. Ok (an_object x.0, b.1)

abbrev mutual
  pub reading : ShapeTree → List ℕ → Got Datum
  reading unit = word (codes "unit") a_unit
  reading flag = flag_at
  reading unsigned = λ cs. number (2 ^ 64 - 1) cs >>= λ x. Ok (an_unsigned x.0, x.1)
  reading signed = signed_at
  reading text = text_at
  reading bytes = some_bytes_at
  reading place = place_at
  reading (list f) = list_at (values_or_none (reading f))
  reading (object ps) = object_at (fields_at ps [])

  -- the fields in declared order, with `before` in front of the first and a comma in front of each other
  pub fields_at : Parts → List ℕ → List ℕ → Got Data
  fields_at no_parts before cs = Ok (no_data, cs)
  fields_at (part name f ps) before cs = then_more (field_at before name (reading f) cs) (fields_at ps comma)

-- ---- a whole input: the value, or how many bytes are left

abbrev pub nothing_left : Datum → List ℕ → Result Datum ℕ
nothing_left d [] = Ok d
nothing_left d (c ∷ cs) = Err (length (c ∷ cs))

abbrev pub untext : ShapeTree → List ℕ → Result Datum ℕ
untext f cs = reading f cs >>= λ x. nothing_left x.0 x.1
