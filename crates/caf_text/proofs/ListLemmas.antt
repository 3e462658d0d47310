-- How far the readers of lists go.
use Rattle.std.proofs.Common.{◌≡◌, ℕ, zero, suc, ◌+◌, eqb, ◌≤◌, Bool, true, false, List, [], ◌∷◌, ◌++◌, length, length-append, Option, Some, None, Ok, Err, refl, sym, ap, subst, ◌∙◌, append_assoc, append-nil, arith}
use Rattle.caf_words.specs.Datum.{Datum, Data, no_data, more}
use Rattle.caf_words.specs.Reading.{Got, ◌>>=◌}
use Rattle.caf_text.specs.TextForm.{comma, joined}
use Rattle.caf_text.specs.TextReading.{literal, separator, after_value, values, values_or_none}
use Rattle.caf_text.proofs.StopLemmas.{ends, Stops, no_cons, pure_stops, literal_stops, then_stops, make_stops, choice_stops, same_stops}
use Rattle.caf_text.proofs.ValueLemmas.{AllAre}

-- ---- what stands behind a value

abbrev pub separator_text : Bool → List ℕ
separator_text true = 93 ∷ []
separator_text false = comma

pub separator_stops : (cs : List ℕ) → Stops (λ (b : Bool). Unit {0}) separator_text separator cs
separator_stops =
    choice_stops 93 (λ cs. Ok (true, cs)) (λ cs. literal comma cs >>= λ x. Ok (false, x.1)) (λ b. b ≡ true) (λ b. b ≡ false) (λ b. Unit {0}) (λ b. []) (λ b. comma) separator_text
    (λ cs. pure_stops (λ b. b ≡ true) true cs refl)
    (λ cs. make_stops (λ u. Unit {0}) (λ u. comma) (literal comma) (λ u. false) (λ b. b ≡ false) (λ b. comma) (λ u v. (refl, refl)) cs (literal_stops comma cs))
    (λ b e. (tt, ap separator_text e))
    (λ b e. (tt, ap separator_text e))
    (true, tt)

-- a literal takes its length
after_length : Got (Unit {0}) → ℕ
after_length (Ok x) = length x.1
after_length (Err n) = 0

no_err : {A : Type 0} (n : ℕ) (x : A) (rest : List ℕ) → ◌≡◌ {A = Got A} (Err n) (Ok (x, rest)) → ⊥
no_err n x rest h = absurd cc

literal_takes : (xs cs rest : List ℕ) (u : Unit {0}) → literal xs cs ≡ Ok (u, rest) → length rest + length xs ≤ length cs
unfolding after_length
literal_takes [] cs rest u e = let h : length cs ≡ length rest = ap after_length e in omega arith
literal_takes (x ∷ xs) [] rest u e = absurd (no_err 0 u rest e)
literal_takes (x ∷ xs) (c ∷ cs) rest u e = go (eqb x c) refl (literal_takes xs cs rest u)
  where
    go : (b : Bool) → eqb x c ≡ b → (literal xs cs ≡ Ok (u, rest) → length rest + length xs ≤ length cs) → length rest + length (x ∷ xs) ≤ length (c ∷ cs)
    go true q k = let h : length rest + length xs ≤ length cs = k (rw q at e) in omega arith
    go false q k = absurd (no_err (length (c ∷ cs)) u rest (rw q at e))

after_separator : Got Bool → ℕ
after_separator (Ok x) = length x.1
after_separator (Err n) = 0

abbrev not_last : Got (Unit {0}) → Got Bool
not_last read = read >>= λ x. Ok (false, x.1)

left_of : Got Bool → List ℕ
left_of (Ok y) = y.1
left_of (Err n) = []

comma_takes : (read : Got (Unit {0})) (b : Bool) (rest : List ℕ) → ◌≡◌ {A = Got Bool} (not_last read) (Ok (b, rest)) → (u : Unit {0}) × (◌≡◌ {A = Got (Unit {0})} read (Ok (u, rest)))
unfolding left_of
comma_takes (Ok x) b rest e = (x.0, ap (λ ys. Ok (x.0, ys)) (ap left_of e))
comma_takes (Err n) b rest e = absurd (no_err n b rest e)

-- a separator takes a byte at least
separator_takes : (cs rest : List ℕ) (b : Bool) → separator cs ≡ Ok (b, rest) → length rest + 1 ≤ length cs
unfolding after_separator
separator_takes [] rest b e = absurd (no_err 0 b rest e)
separator_takes (c ∷ cs) rest b e = go (eqb c 93) refl
  where
    go : (t : Bool) → eqb c 93 ≡ t → length rest + 1 ≤ length (c ∷ cs)
    go true q = let h : length cs ≡ length rest = ap after_separator (rw q at e) in omega arith
    go false q = let p = comma_takes (literal comma (c ∷ cs)) b rest (rw q at e) in let h : length rest + 2 ≤ length (c ∷ cs) = literal_takes comma (c ∷ cs) rest p.0 p.1 in omega arith

-- ---- values up to the closing bracket

module _ (V : Datum → Type 0) (T : Datum → List ℕ) (one : List ℕ → Got Datum) (ones : (cs : List ℕ) → Stops V T one cs) (some : (d : Datum) × V d) where
  abbrev round : (List ℕ → Got Data) → List ℕ → Got Data
  round others cs = one cs >>= λ x. separator x.1 >>= λ s. after_value others x.0 s.0 s.1

  -- a reader with as many rounds as bytes
  abbrev whole : List ℕ → Got Data
  whole cs = values one (length cs) cs

  same_after : (others more_others : List ℕ → Got Data) (d : Datum) (cs rest : List ℕ) (b : Bool) → separator cs ≡ Ok (b, rest) → others rest ≡ more_others rest
      → (separator cs >>= λ s. after_value others d s.0 s.1) ≡ (separator cs >>= λ s. after_value more_others d s.0 s.1)
  same_after others more_others d cs rest true e same = rw e refl
  same_after others more_others d cs rest false e same = rw (e, same) refl

  same_behind : (others more_others : List ℕ → Got Data) (d : Datum) (cs : List ℕ) (read : Got Bool) → separator cs ≡ read → ((rest : List ℕ) → length rest + 1 ≤ length cs → others rest ≡ more_others rest)
      → (separator cs >>= λ s. after_value others d s.0 s.1) ≡ (separator cs >>= λ s. after_value more_others d s.0 s.1)
  same_behind others more_others d cs (Ok x) e same = same_after others more_others d cs x.1 x.0 e (same x.1 (separator_takes cs x.1 x.0 e))
  same_behind others more_others d cs (Err n) e same = rw e refl

  same_round : (others more_others : List ℕ → Got Data) (cs : List ℕ) → ((rest : List ℕ) → length rest + 1 ≤ length cs → others rest ≡ more_others rest) → round others cs ≡ round more_others cs
  same_round others more_others cs same = go (ones cs).0 (ones cs).1 (ones cs).2 (ones cs).3.parts (ones cs).3.is
    where
      go : (o : Option Datum) (front back : List ℕ) → cs ≡ front ++ back → one cs ≡ ends o back → round others cs ≡ round more_others cs
      go None front back parts e = rw e refl
      go (Some d) front back parts e =
          let l : length cs ≡ length front + length back = ap length parts ∙ length-append front back in
          rw e (same_behind others more_others d back (separator back) refl (λ rest h. same rest (omega arith)))

  none : (others : List ℕ → Got Data) → round others [] ≡ Err 0
  none others = go (ones []).0 (ones []).1 (ones []).2 (ones []).3.parts (ones []).3.is
    where
      go : (o : Option Datum) (front back : List ℕ) → [] ≡ front ++ back → one [] ≡ ends o back → round others [] ≡ Err 0
      go None [] [] parts e = rw e refl
      go (Some d) [] [] parts e = rw e refl
      go o (x ∷ front) back parts e = absurd (no_cons parts)
      go o [] (x ∷ back) parts e = absurd (no_cons parts)

  -- more rounds than bytes change nothing
  enough : (n m : ℕ) (cs : List ℕ) → length cs ≤ n → length cs ≤ m → values one n cs ≡ values one m cs
  enough zero zero cs h k = refl
  enough (suc n) (suc m) cs h k = same_round (values one n) (values one m) cs (λ rest l. enough n m rest (omega arith) (omega arith))
  enough zero (suc m) [] h k = sym (none (values one m))
  enough (suc n) zero [] h k = none (values one n)
  enough zero (suc m) (c ∷ cs) h k = absurd (omega arith)
  enough (suc n) zero (c ∷ cs) h k = absurd (omega arith)

  unrolled : (cs : List ℕ) → whole cs ≡ round whole cs
  unrolled [] = sym (none whole)
  unrolled (c ∷ cs) = same_round (values one (length cs)) whole (c ∷ cs) (λ rest h. enough (length cs) (length rest) rest (omega arith) (omega arith))

  abbrev NotNone : Data → Type 0
  NotNone no_data = ⊥
  NotNone (more d ds) = Unit {0}

  abbrev Some_values : Data → Type 0
  Some_values ds = AllAre V ds × NotNone ds

  abbrev closing : Data → List ℕ
  closing ds = joined T [] ds ++ 93 ∷ []

  abbrev others_of : Data → Data
  others_of no_data = no_data
  others_of (more d ds) = ds

  -- what stands behind a value, before other values
  abbrev tail_text : Data → List ℕ
  tail_text no_data = 93 ∷ []
  tail_text (more e es) = comma ++ closing (more e es)

  tail_of : (d : Datum) (es : Data) → closing (more d es) ≡ T d ++ tail_text es
  tail_of d no_data = ap (λ xs. xs ++ 93 ∷ []) (append-nil (T d))
  tail_of d (more e es) = append_assoc (T d) (comma ++ (T e ++ joined T comma es)) (93 ∷ []) ∙ ap (λ xs. T d ++ xs) (append_assoc comma (T e ++ joined T comma es) (93 ∷ []))

  tail_some : (es : Data) → NotNone es → tail_text es ≡ comma ++ closing es
  tail_some no_data h = absurd h
  tail_some (more e es) h = refl

  module _ (d : Datum) where
    abbrev Behind : Data → Type 0
    Behind ds = (es : Data) × AllAre V es × (ds ≡ more d es)

    abbrev After : Bool → Data → Type 0
    After true ds = ds ≡ more d no_data
    After false ds = (es : Data) × Some_values es × (ds ≡ more d es)

    abbrev after_text : Bool → Data → List ℕ
    after_text true ds = []
    after_text false ds = closing (others_of ds)

    joins : (b : Bool) (ds : Data) → Unit {0} → After b ds → Behind ds × (tail_text (others_of ds) ≡ separator_text b ++ after_text b ds)
    joins true ds u w = ((no_data, tt, w), ap (λ es. tail_text (others_of es)) w)
    joins false ds u w = ((w.0, w.1.0, w.2), ap (λ es. tail_text (others_of es)) w.2 ∙ tail_some w.0 w.1.1 ∙ ap (λ es. comma ++ closing (others_of es)) (sym w.2))

    after_some : (b : Bool) → Unit {0} → (ds : Data) × After b ds
    after_some true u = (more d no_data, refl)
    after_some false u = (more d (more some.0 no_data), (more some.0 no_data, ((some.1, tt), tt), refl))

    after_stops : (b : Bool) (cs : List ℕ) → (b ≡ false → Stops Some_values closing whole cs) → Stops (After b) (after_text b) (after_value whole d b) cs
    after_stops true cs k = pure_stops (After true) (more d no_data) cs refl
    after_stops false cs k = make_stops Some_values closing whole (more d) (After false) (after_text false) (λ es h. ((es, h, refl), refl)) cs (k refl)

    behind_stops : (cs : List ℕ) → ((rest : List ℕ) → length rest + 1 ≤ length cs → Stops Some_values closing whole rest) → Stops Behind (λ ds. tail_text (others_of ds)) (λ ys. separator ys >>= λ s. after_value whole d s.0 s.1) cs
    behind_stops cs k =
        then_stops (λ (b : Bool). Unit {0}) separator_text separator (after_value whole d) After after_text Behind (λ ds. tail_text (others_of ds)) joins after_some cs (separator_stops cs)
        (λ b e. after_stops b (separator_stops cs).2 (λ q. k (separator_stops cs).2 (separator_takes cs (separator_stops cs).2 b e)))

  nothing : Stops Some_values closing whole []
  nothing = (None, [], [], record { parts = refl; is = refl; local = λ c r s e. absurd (no_cons e); good = λ before u. (more some.0 no_data, closing (more some.0 no_data), ((some.1, tt), tt), refl) })

  round_stops : (cs : List ℕ) → ((rest : List ℕ) → length rest + 1 ≤ length cs → Stops Some_values closing whole rest) → Stops Some_values closing (round whole) cs
  round_stops cs k =
      then_stops V T one (λ d ys. separator ys >>= λ s. after_value whole d s.0 s.1) Behind (λ d ds. tail_text (others_of ds)) Some_values closing
      (λ d ds v w. ((subst (AllAre V) (sym w.2) (v, w.1), subst NotNone (sym w.2) tt), ap closing w.2 ∙ tail_of d w.0 ∙ ap (λ es. T d ++ tail_text (others_of es)) (sym w.2)))
      (λ d v. (more d no_data, (no_data, tt, refl)))
      cs (ones cs)
      (λ d e. behind_stops d (ones cs).2 (λ rest h. let l : length cs ≡ length (ones cs).1 + length (ones cs).2 = ap length (ones cs).3.parts ∙ length-append (ones cs).1 (ones cs).2 in k rest (omega arith)))

  values_stops : (n : ℕ) (cs : List ℕ) → length cs ≤ n → Stops Some_values closing whole cs
  values_stops zero [] h = nothing
  values_stops zero (c ∷ cs) h = absurd (omega arith)
  values_stops (suc n) cs h = same_stops Some_values closing (round whole) whole unrolled cs (round_stops cs (λ rest l. values_stops n rest (omega arith)))

  pub items_stops : (cs : List ℕ) → Stops (AllAre V) closing (values_or_none one) cs
  items_stops =
      choice_stops 93 (λ cs. Ok (no_data, cs)) whole (λ ds. ds ≡ no_data) Some_values (AllAre V) (λ ds. []) closing closing
      (λ cs. pure_stops (λ ds. ds ≡ no_data) no_data cs refl)
      (λ cs. values_stops (length cs) cs (omega arith))
      (λ ds e. (subst (AllAre V) (sym e) tt, ap closing e))
      (λ ds h. (h.0, refl))
      (no_data, tt)
