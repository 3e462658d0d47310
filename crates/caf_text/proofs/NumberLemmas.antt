-- Numbers are read as they are written.
use Rattle.std.proofs.Common.{◌≡◌, ℕ, ◌+◌, ◌-◌, ◌*◌, ◌/◌, ◌%◌, ◌^◌, ◌<◌, ◌≤◌, ◌&&◌, nat_le, le-leb, leb-true, Bool, true, false, List, [], ◌∷◌, ◌++◌, length, Some, None, Ok, Err, decimal, refl, sym, ap, subst, ◌∙◌, append_assoc, append-nil, arith}
use Rattle.std.proofs.lemmas.Fmt.{decimal_digit, decimal_step, decimal_by_steps}
use Rattle.caf_text.specs.TextReading.{is_digit, digits, nonzero, number}
use Rattle.caf_text.proofs.StopLemmas.{Stops, heads, no_cons, none_to_read, halts_first, choice_stops}

pub both : (a b : Bool) → (a && b) ≡ true → (a ≡ true) × (b ≡ true)
both true b h = (refl, h)
both false b h = absurd cc

one_more : (n d : ℕ) → 1 ≤ n → d < 10 → n * 10 + d < 2 ^ 64 → decimal (n * 10 + d) ≡ decimal n ++ (48 + d) ∷ []
one_more n d low small fits =
    let q : (n * 10 + d) / 10 ≡ n = omega arith in
    let r : (n * 10 + d) % 10 ≡ d = omega arith in
    decimal_step (n * 10 + d) (omega arith) fits ∙ ap (λ x. decimal x ++ (48 + (n * 10 + d) % 10) ∷ []) q ∙ ap (λ x. decimal n ++ (48 + x) ∷ []) r

record Run (g : ℕ) (cs : List ℕ) (n m : ℕ) (front back : List ℕ) : Type 0 where
  parts : cs ≡ front ++ back
  is : digits g cs n ≡ Ok (m, back)
  local : (c : ℕ) (r s : List ℕ) → back ≡ c ∷ r → digits g (front ++ c ∷ s) n ≡ Ok (m, c ∷ s)
  least : 1 ≤ m
  most : m ≤ g
  text : decimal n ++ front ≡ decimal m

abbrev Runs : ℕ → List ℕ → ℕ → Type 0
Runs g cs n = (m : ℕ) × (front : List ℕ) × (back : List ℕ) × Run g cs n m front back

digits_run : (g : ℕ) → g < 2 ^ 64 → (cs : List ℕ) (n : ℕ) → 1 ≤ n → n ≤ g → Runs g cs n
digits_run g small [] n low high = (n, [], [], record { parts = refl; is = refl; local = λ c r s e. absurd (no_cons e); least = low; most = high; text = append-nil (decimal n) })
digits_run g small (c ∷ cs) n low high = go (is_digit c && nat_le (n * 10 + (c - 48)) g) refl (digits_run g small cs)
  where
    go : (b : Bool) → (is_digit c && nat_le (n * 10 + (c - 48)) g) ≡ b → ((k : ℕ) → 1 ≤ k → k ≤ g → Runs g cs k) → Runs g (c ∷ cs) n
    go true q rest =
        let t = both (is_digit c) (nat_le (n * 10 + (c - 48)) g) q in
        let d = both (nat_le 48 c) (nat_le c 57) t.0 in
        let from : 48 ≤ c = leb-true _ _ d.0 in
        let to : c ≤ 57 = leb-true _ _ d.1 in
        let top : n * 10 + (c - 48) ≤ g = leb-true _ _ t.1 in
        let p = rest (n * 10 + (c - 48)) (omega arith) top in
        let digit : 48 + (c - 48) ≡ c = omega arith in
        let text : decimal (n * 10 + (c - 48)) ≡ decimal n ++ c ∷ [] = one_more n (c - 48) low (omega arith) (omega arith) ∙ ap (λ x. decimal n ++ x ∷ []) digit in (
          p.0,
          c ∷ p.1,
          p.2,
          record {
            parts = ap (λ xs. c ∷ xs) p.3.parts;
            is = rw q p.3.is;
            local = λ e r s h. rw q (p.3.local e r s h);
            least = p.3.least;
            most = p.3.most;
            text = sym (append_assoc (decimal n) (c ∷ []) p.1) ∙ ap (λ xs. xs ++ p.1) (sym text) ∙ p.3.text;
          },
        )
    go false q rest = (
      n,
      [],
      c ∷ cs,
      record {
        parts = refl;
        is = rw q refl;
        local = λ e r s h. subst (λ x. digits g (x ∷ s) n ≡ Ok (n, x ∷ s)) (heads h) (rw q refl);
        least = low;
        most = high;
        text = append-nil (decimal n);
      },
    )

abbrev pub IsNonzero : ℕ → ℕ → Type 0
IsNonzero g n = (1 ≤ n) × (n ≤ g)

pub nonzero_stops : (g : ℕ) → 9 ≤ g → g < 2 ^ 64 → (cs : List ℕ) → Stops (IsNonzero g) decimal (nonzero g) cs
nonzero_stops g nine small [] = none_to_read (IsNonzero g) decimal (nonzero g) refl (1, (omega arith, omega arith))
nonzero_stops g nine small (c ∷ cs) = go (nat_le 49 c && nat_le c 57) refl
  where
    go : (b : Bool) → (nat_le 49 c && nat_le c 57) ≡ b → Stops (IsNonzero g) decimal (nonzero g) (c ∷ cs)
    go true q =
        let t = both (nat_le 49 c) (nat_le c 57) q in
        let from : 49 ≤ c = leb-true _ _ t.0 in
        let to : c ≤ 57 = leb-true _ _ t.1 in
        let p = digits_run g small cs (c - 48) (omega arith) (omega arith) in
        let digit : 48 + (c - 48) ≡ c = omega arith in
        let text : decimal (c - 48) ≡ c ∷ [] = decimal_digit (c - 48) (omega arith) ∙ ap (λ x. x ∷ []) digit in (
          Some p.0,
          c ∷ p.1,
          p.2,
          record {
            parts = ap (λ xs. c ∷ xs) p.3.parts;
            is = rw q p.3.is;
            local = λ e r s h. rw q (p.3.local e r s h);
            good = λ before u. ((p.3.least, p.3.most), ap (λ xs. xs ++ p.1) (sym text) ∙ p.3.text);
          },
        )
    go false q = halts_first (IsNonzero g) decimal (nonzero g) c cs (λ s. rw q refl) (1, (omega arith, omega arith))

pub number_stops : (g : ℕ) → 9 ≤ g → g < 2 ^ 64 → (cs : List ℕ) → Stops (λ n. n ≤ g) decimal (number g) cs
number_stops g nine small =
    choice_stops 48 (λ cs. Ok (0, cs)) (nonzero g) (λ n. n ≡ 0) (IsNonzero g) (λ n. n ≤ g) (λ n. []) decimal decimal
    (λ cs. (Some 0, [], cs, record { parts = refl; is = refl; local = λ c r s e. refl; good = λ before u. (refl, refl) }))
    (nonzero_stops g nine small)
    (λ n e. ((let h : n ≤ g = omega arith in h), ap decimal e ∙ decimal_digit 0 (omega arith)))
    (λ n h. (h.1, refl))
    (0, omega arith)

-- ---- what was written is read again

-- no digit comes first
abbrev pub NoDigit : List ℕ → Type 0
NoDigit rest = (c : ℕ) (r : List ℕ) → rest ≡ c ∷ r → is_digit c ≡ false

digits_end : (g n : ℕ) (rest : List ℕ) → NoDigit rest → digits g rest n ≡ Ok (n, rest)
digits_end g n [] h = refl
digits_end g n (c ∷ rest) h = rw (h c rest refl) refl

abbrev Begins : ℕ → ℕ → List ℕ → Type 0
Begins g n ds = 1 ≤ n → n ≤ g → (rest : List ℕ) → nonzero g (ds ++ rest) ≡ digits g rest n

begins_one : (g n : ℕ) → n < 10 → Begins g n ((48 + n) ∷ [])
begins_one g n small low high rest =
    let a : nat_le 49 (48 + n) ≡ true = le-leb _ _ (omega arith) in
    let b : nat_le (48 + n) 57 ≡ true = le-leb _ _ (omega arith) in
    let e : 48 + n - 48 ≡ n = omega arith in
    rw (a, b, e) refl

begins_more : (g n : ℕ) (ds : List ℕ) → 10 ≤ n → Begins g (n / 10) ds → Begins g n (ds ++ (48 + n % 10) ∷ [])
begins_more g n ds ten h low high rest =
    let a : nat_le 48 (48 + n % 10) ≡ true = le-leb _ _ (omega arith) in
    let b : nat_le (48 + n % 10) 57 ≡ true = le-leb _ _ (omega arith) in
    let e : n / 10 * 10 + (48 + n % 10 - 48) ≡ n = omega arith in
    let t : nat_le n g ≡ true = le-leb _ _ high in
    ap (nonzero g) (append_assoc ds ((48 + n % 10) ∷ []) rest) ∙ h (omega arith) (omega arith) ((48 + n % 10) ∷ rest) ∙ rw (a, b, e, t) refl

pub nonzero_again : (g n : ℕ) → g < 2 ^ 64 → 1 ≤ n → n ≤ g → (rest : List ℕ) → NoDigit rest → nonzero g (decimal n ++ rest) ≡ Ok (n, rest)
nonzero_again g n small low high rest h =
    decimal_by_steps (Begins g) (begins_one g) (begins_more g) n (omega arith) low high rest ∙ digits_end g n rest h
