-- What is read from words are the parts that the words are.
use Rattle.std.proofs.Common.{◌≡◌, ℕ, ◌+◌, ◌<◌, true, false, eqb, ltb, cond, List, [], ◌∷◌, ◌++◌, length, get_or, drop, Option, Some, None, refl, sym, ap, subst, ◌∙◌, inl, inr, codes, arith}
use Rattle.std.proofs.lemmas.List.{length-append, append_assoc, at_drop_more}
use Rattle.std.proofs.lemmas.List.Sums.{split_at_first, passes_at_first}
use Rattle.std.proofs.lemmas.Slice.Eq.{bytes_eq-Decides}
use Rattle.std.proofs.lemmas.Bool.{lt-ltb, ltb-true}
use Rattle.std.proofs.lemmas.Bool.Decides.{Decides-eqb}
use Rattle.std.specs.Prelude.{option_map, option_and_then}
use Rattle.std.specs.Str.{bytes_eq}
use Rattle.std.specs.List.{position_or_len, before_first, after_first}
use Rattle.caf_command.specs.Words.{is_plain}
use Rattle.caf_command.specs.Options.{name_of, valued_named}
use Rattle.caf_command.specs.Parts.{BeginsWith, AreParts}
use Rattle.caf_command.specs.Reading.{value_met, option_met, word_met, after, parts_from}
use Rattle.caf_command.specs.declared.options.Valued.{Valued}
use Rattle.caf_command.specs.declared.options.Valued.TheVariants.{Scenario, Workers, Budget}
use Rattle.caf_command.specs.Part.{Part}
use Rattle.caf_command.specs.Part as part
use Rattle.caf_command.specs.Met.{Met}
use Rattle.caf_command.specs.Met as word

-- ---- parts are read as they are

met-opening : (o : Valued) → word_met None (name_of o) ≡ Some (word.Opening o)
met-opening Scenario = refl
met-opening Workers = refl
met-opening Budget = refl

-- how long a text with more behind it is
joined_fits : (name v : List ℕ) → ltb (length name) (length (name ++ 61 ∷ v)) ≡ true
joined_fits name v = lt-ltb _ _ (omega (arith, length-append name (61 ∷ v)))

met-joined : (o : Valued) (v : List ℕ) → word_met None (name_of o ++ 61 ∷ v) ≡ value_met o v
met-joined Scenario v = rw (joined_fits (codes "--scenario") v) refl
met-joined Workers v = rw (joined_fits (codes "--workers") v) refl
met-joined Budget v = rw (joined_fits (codes "--max-messages") v) refl

value-plain : (o : Valued) (v : List ℕ) → is_plain v ≡ true → value_met o v ≡ Some (word.Part (part.Value o v))
value-plain o v e = rw e refl

-- what a part puts before what is read behind it
module _ (ps : List Part) (rest : List (List ℕ)) (behind : parts_from rest None ≡ Some ps) where
  part-read : (waits : Option Valued) (w : List ℕ) (p : Part) → word_met waits w ≡ Some (word.Part p) → parts_from (w ∷ rest) waits ≡ Some (p ∷ ps)
  part-read waits w p e = rw (e, behind) refl

  opening-read : (o : Valued) (v : List ℕ) → is_plain v ≡ true → parts_from (name_of o ∷ v ∷ rest) None ≡ Some (part.Value o v ∷ ps)
  opening-read o v e = ap (λ m. after m (parts_from (v ∷ rest))) (met-opening o) ∙ part-read (Some o) v (part.Value o v) (value-plain o v e)

  begins-read : (p : Part) (words : List (List ℕ)) → BeginsWith p words rest → parts_from words None ≡ Some (p ∷ ps)
  begins-read (part.Value o v) words (plain, inl e) = rw e (opening-read o v plain)
  begins-read (part.Value o v) words (plain, inr e) = rw e (part-read None (name_of o ++ 61 ∷ v) (part.Value o v) (met-joined o v ∙ value-plain o v plain))
  begins-read part.Trace words e = rw e (part-read None (codes "--trace") part.Trace refl)
  begins-read (part.File f) words (plain, e) = rw e (part-read None f (part.File f) (rw plain refl))

-- the words that are parts are read as these parts
pub parts_are_read : (ps : List Part) (words : List (List ℕ)) → AreParts ps words → parts_from words None ≡ Some ps
parts_are_read [] words e = rw e refl
parts_are_read (p ∷ ps) words h = begins-read ps h.0 (parts_are_read ps h.0 h.2) p words h.1

-- ---- what is read are parts

-- the words, where that option waits, with the option's name before them
abbrev pub with_name : Option Valued → List (List ℕ) → List (List ℕ)
with_name None words = words
with_name (Some o) words = name_of o ∷ words

value-is : (o : Valued) (v : List ℕ) (m : Met) → value_met o v ≡ Some m → (is_plain v ≡ true) × (m ≡ word.Part (part.Value o v))
value-is o v m e = elim (is_plain v) as (λ b. cond b (Some (word.Part (part.Value o v))) None ≡ Some m → (b ≡ true) × (m ≡ word.Part (part.Value o v))) [
  | true ↦ λ s. (refl, cc)
  | false ↦ λ s. absurd cc
] e

valued-is : (text : List ℕ) (o : Valued) → valued_named text ≡ Some o → text ≡ name_of o
valued-is text o e =
    elim (bytes_eq text (codes "--scenario")) as (λ b. (b ≡ true → text ≡ codes "--scenario") → cond b (Some Scenario) (cond (bytes_eq text (codes "--workers")) (Some Workers) (cond (bytes_eq text (codes "--max-messages")) (Some Budget) None)) ≡ Some o → text ≡ name_of o) [
      | true ↦ λ same s. let is : Scenario ≡ o = cc in subst (λ x. text ≡ name_of x) is (same refl)
      | false ↦ λ _ s.
          elim (bytes_eq text (codes "--workers")) as (λ b. (b ≡ true → text ≡ codes "--workers") → cond b (Some Workers) (cond (bytes_eq text (codes "--max-messages")) (Some Budget) None) ≡ Some o → text ≡ name_of o) [
            | true ↦ λ same t. let is : Workers ≡ o = cc in subst (λ x. text ≡ name_of x) is (same refl)
            | false ↦ λ _ t.
                elim (bytes_eq text (codes "--max-messages")) as (λ b. (b ≡ true → text ≡ codes "--max-messages") → cond b (Some Budget) None ≡ Some o → text ≡ name_of o) [
                  | true ↦ λ same u. let is : Budget ≡ o = cc in subst (λ x. text ≡ name_of x) is (same refl)
                  | false ↦ λ _ u. absurd cc
                ] (bytes_eq-Decides text (codes "--max-messages")).0 t
          ] (bytes_eq-Decides text (codes "--workers")).0 s
    ] (bytes_eq-Decides text (codes "--scenario")).0 e

-- what an option was made of
abbrev OptionMade : (m : Met) (text : List ℕ) → Type 0
OptionMade (word.Opening o) text = text ≡ name_of o
OptionMade (word.Part (part.Value o v)) text = (is_plain v ≡ true) × (text ≡ name_of o ++ 61 ∷ v)
OptionMade (word.Part part.Trace) text = ⊥
OptionMade (word.Part (part.File f)) text = ⊥

joined-made : (text before value : List ℕ) (m : Met) → text ≡ before ++ 61 ∷ value → (o : Option Valued) → valued_named before ≡ o
    → option_and_then (λ option. value_met option value) o ≡ Some m → OptionMade m text
joined-made text before value m whole None named e = absurd cc
joined-made text before value m whole (Some o) named e =
    let is = value-is o value m e in
    rw is.1 (is.0, whole ∙ ap (λ n. n ++ 61 ∷ value) (valued-is before o named))

opening-made : (text : List ℕ) (m : Met) (o : Option Valued) → valued_named text ≡ o → option_map word.Opening o ≡ Some m → OptionMade m text
opening-made text m None named e = absurd cc
opening-made text m (Some o) named e = let is : m ≡ word.Opening o = cc in rw is (valued-is text o named)

option-made : (text : List ℕ) (m : Met) → option_met text ≡ Some m → OptionMade m text
option-made text m e =
    elim (ltb (position_or_len (λ b. eqb b 61) text) (length text)) as (λ t. (t ≡ true → position_or_len (λ b. eqb b 61) text < length text)
    → cond t (option_and_then (λ option. value_met option (after_first (λ b. eqb b 61) text)) (valued_named (before_first (λ b. eqb b 61) text))) (option_map word.Opening (valued_named text)) ≡ Some m → OptionMade m text) [
      | true ↦ λ lt s.
          let here : get_or text (position_or_len (λ b. eqb b 61) text) 0 ≡ 61 = (Decides-eqb _ _).0 (passes_at_first (λ b. eqb b 61) text 0 (lt refl)) in
          let whole = split_at_first (λ b. eqb b 61) text 0 (lt refl) in
          joined-made text (before_first (λ b. eqb b 61) text) (after_first (λ b. eqb b 61) text) m
          (whole ∙ ap (λ x. before_first (λ b. eqb b 61) text ++ x ∷ after_first (λ b. eqb b 61) text) here) _ refl s
      | false ↦ λ _ s. opening-made text m _ refl s
    ] (ltb-true _ _) e

module _ (rest : List (List ℕ)) where
  abbrev pub Made : Option Valued → (m : Met) (text : List ℕ) → Type 0
  Made waits (word.Part p) text = BeginsWith p (with_name waits (text ∷ rest)) rest
  Made None (word.Opening o) text = text ≡ name_of o
  Made (Some option) (word.Opening o) text = ⊥

  option-makes : (m : Met) (text : List ℕ) → OptionMade m text → Made None m text
  option-makes (word.Opening o) text h = h
  option-makes (word.Part (part.Value o v)) text h = (h.0, inr (ap (λ w. w ∷ rest) h.1))
  option-makes (word.Part part.Trace) text h = absurd h
  option-makes (word.Part (part.File f)) text h = absurd h

  made : (waits : Option Valued) (text : List ℕ) (m : Met) → word_met waits text ≡ Some m → Made waits m text
  made (Some o) text m e = let is = value-is o text m e in subst (λ x. Made (Some o) x text) (sym is.1) (is.0, inl refl)
  made None text m e =
      elim (is_plain text) as (λ b. is_plain text ≡ b → cond b (Some (word.Part (part.File text))) (cond (bytes_eq text (codes "--trace")) (Some (word.Part part.Trace)) (option_met text)) ≡ Some m → Made None m text) [
        | true ↦ λ plain s. let is : word.Part (part.File text) ≡ m = cc in subst (λ x. Made None x text) is (plain, refl)
        | false ↦ λ _ s.
            elim (bytes_eq text (codes "--trace")) as (λ b. (b ≡ true → text ≡ codes "--trace") → cond b (Some (word.Part part.Trace)) (option_met text) ≡ Some m → Made None m text) [
              | true ↦ λ same t. let is : word.Part part.Trace ≡ m = cc in subst (λ x. Made None x text) is (ap (λ w. w ∷ rest) (same refl))
              | false ↦ λ _ t. option-makes m text (option-made text m t)
            ] (bytes_eq-Decides text (codes "--trace")).0 s
      ] refl e

read-step : (words : List (List ℕ)) → ((waits : Option Valued) (ps : List Part) → parts_from words waits ≡ Some ps → AreParts ps (with_name waits words))
    → (waits : Option Valued) (text : List ℕ) (ps : List Part) (m : Option Met) → word_met waits text ≡ m → after m (parts_from words) ≡ Some ps → AreParts ps (with_name waits (text ∷ words))
read-step words ih waits text ps None met e = absurd cc
read-step words ih None text ps (Some (word.Opening o)) met e =
    rw (made words None text (word.Opening o) met) (ih (Some o) ps e)
read-step words ih (Some option) text ps (Some (word.Opening o)) met e = absurd (made words (Some option) text (word.Opening o) met)
read-step words ih waits text ps (Some (word.Part p)) met e =
    elim (parts_from words None) as (λ r. parts_from words None ≡ r → option_map (λ parts. p ∷ parts) r ≡ Some ps → AreParts ps (with_name waits (text ∷ words))) [
      | None ↦ λ _ s. absurd cc
      | Some qs ↦ λ is s. let whole : p ∷ qs ≡ ps = cc in
          subst (λ xs. AreParts xs (with_name waits (text ∷ words))) whole (words, made words waits text (word.Part p) met, ih None qs is)
    ] refl e

-- the parts that are read are parts of the words
pub read_are_parts : (words : List (List ℕ)) (waits : Option Valued) (ps : List Part) → parts_from words waits ≡ Some ps → AreParts ps (with_name waits words)
read_are_parts [] None ps e = let none : [] ≡ ps = cc in subst (λ xs. AreParts xs []) none refl
read_are_parts [] (Some o) ps e = absurd cc
read_are_parts (text ∷ words) waits ps e = read-step words (read_are_parts words) waits text ps (word_met waits text) refl e

-- ---- the loop over the words

module _ (parts : List Part) (words : List (List ℕ)) (i : ℕ) (waits : Option Valued) (text : List ℕ) (inside : i < length words) (is : text ≡ get_or words i text) where
  abbrev so_far : List Part → Option (List Part) → Option (List Part)
  so_far front = option_map (λ (rest : List Part). front ++ rest)

  one_read : so_far parts (parts_from (drop i words) waits) ≡ so_far parts (after (word_met waits text) (parts_from (drop (i + 1) words)))
  one_read = at_drop_more (λ xs. so_far parts (parts_from xs waits)) words i text inside
      ∙ ap (λ t. so_far parts (after (word_met waits t) (parts_from (drop (i + 1) words)))) (sym is)

  push_part : (p : Part) (rest : Option (List Part)) → so_far (parts ++ p ∷ []) rest ≡ so_far parts (option_map (λ parts. p ∷ parts) rest)
  push_part p None = refl
  push_part p (Some qs) = ap Some (append_assoc parts (p ∷ []) qs)

  pub part_more : (p : Part) → word_met waits text ≡ Some (word.Part p) → so_far (parts ++ p ∷ []) (parts_from (drop (i + 1) words) None) ≡ so_far parts (parts_from (drop i words) waits)
  part_more p e = push_part p (parts_from (drop (i + 1) words) None) ∙ sym (one_read ∙ ap (λ m. so_far parts (after m (parts_from (drop (i + 1) words)))) e)

  pub opening_more : (o : Valued) → word_met waits text ≡ Some (word.Opening o) → so_far parts (parts_from (drop (i + 1) words) (Some o)) ≡ so_far parts (parts_from (drop i words) waits)
  opening_more o e = sym (one_read ∙ ap (λ m. so_far parts (after m (parts_from (drop (i + 1) words)))) e)

-- ---- each word by itself

abbrev pub KnownAs : Met → (text : List ℕ) → Type 0
KnownAs (word.Opening o) text = text ≡ name_of o
KnownAs (word.Part (part.Value o v)) text = (is_plain v ≡ true) × (text ≡ name_of o ++ 61 ∷ v)
KnownAs (word.Part part.Trace) text = text ≡ codes "--trace"
KnownAs (word.Part (part.File f)) text = (is_plain f ≡ true) × (text ≡ f)

option-known : (m : Met) (text : List ℕ) → OptionMade m text → KnownAs m text
option-known (word.Opening o) text h = h
option-known (word.Part (part.Value o v)) text h = h
option-known (word.Part part.Trace) text h = absurd h
option-known (word.Part (part.File f)) text h = absurd h

pub known_as : (text : List ℕ) (m : Met) → word_met None text ≡ Some m → KnownAs m text
known_as text m e =
    elim (is_plain text) as (λ b. is_plain text ≡ b → cond b (Some (word.Part (part.File text))) (cond (bytes_eq text (codes "--trace")) (Some (word.Part part.Trace)) (option_met text)) ≡ Some m → KnownAs m text) [
      | true ↦ λ plain s. let is : word.Part (part.File text) ≡ m = cc in subst (λ x. KnownAs x text) is (plain, refl)
      | false ↦ λ _ s.
          elim (bytes_eq text (codes "--trace")) as (λ b. (b ≡ true → text ≡ codes "--trace") → cond b (Some (word.Part part.Trace)) (option_met text) ≡ Some m → KnownAs m text) [
            | true ↦ λ same t. let is : word.Part part.Trace ≡ m = cc in subst (λ x. KnownAs x text) is (same refl)
            | false ↦ λ _ t. option-known m text (option-made text m t)
          ] (bytes_eq-Decides text (codes "--trace")).0 s
    ] refl e
