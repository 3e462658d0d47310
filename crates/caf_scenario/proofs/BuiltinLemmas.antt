-- The names and setups of the built-in scenario.
use Rattle.std.proofs.Common.{◌≡◌, ℕ, zero, suc, ◌+◌, ◌/◌, ◌%◌, ◌^◌, ◌<◌, ◌≤◌, ◌&&◌, Bool, true, List, [], ◌∷◌, ◌++◌, map, length, refl, sym, ap, ◌∙◌, arith, append_assoc}
use Rattle.std.specs.Prelude.{decimal, nat_le}
use Rattle.std.specs.List.{list_all, range_with_len}
use Rattle.std.proofs.lemmas.List.Folds.{list_all-append}
use Rattle.std.proofs.lemmas.List.FromFn.{map-range_with_len_more}
use Rattle.std.proofs.lemmas.Fmt.{decimal_by_steps, length-decimal-le}
use Rattle.std.proofs.lemmas.Bool.{le-leb}
use Rattle.caf_types.specs.Name.{is_name, is_name_byte}
use Rattle.caf_kinds.specs.declared.setup.Setup.{Setup}
use Rattle.caf_kinds.specs.declared.setup.KindName.TheVariants as name
use Rattle.caf_scenario.specs.Builtin.{counter_name, counters_telling, plain_setup}

-- ---- a counter's name is one

digit_named : (d : ℕ) → d < 10 → is_name_byte (48 + d) ≡ true
digit_named zero l = refl
digit_named (suc zero) l = refl
digit_named (suc (suc zero)) l = refl
digit_named (suc (suc (suc zero))) l = refl
digit_named (suc (suc (suc (suc zero)))) l = refl
digit_named (suc (suc (suc (suc (suc zero))))) l = refl
digit_named (suc (suc (suc (suc (suc (suc zero)))))) l = refl
digit_named (suc (suc (suc (suc (suc (suc (suc zero))))))) l = refl
digit_named (suc (suc (suc (suc (suc (suc (suc (suc zero)))))))) l = refl
digit_named (suc (suc (suc (suc (suc (suc (suc (suc (suc zero))))))))) l = refl
digit_named (suc (suc (suc (suc (suc (suc (suc (suc (suc (suc d)))))))))) l = absurd (omega (arith, l))

abbrev AreNamed : ℕ → List ℕ → Type 0
AreNamed n ds = list_all is_name_byte ds ≡ true

one_more : (n : ℕ) (ds : List ℕ) → 10 ≤ n → AreNamed (n / 10) ds → AreNamed n (ds ++ ((48 + n % 10) ∷ []))
one_more n ds ten so_far =
    list_all-append is_name_byte ds ((48 + n % 10) ∷ [])
    ∙ ap (λ b. b && list_all is_name_byte ((48 + n % 10) ∷ [])) so_far
    ∙ ap (λ b. b && true) (digit_named (n % 10) (omega arith))

digits_named : (n : ℕ) → n < 2 ^ 64 → list_all is_name_byte (decimal n) ≡ true
digits_named n wide = decimal_by_steps AreNamed (λ m small. ap (λ b. b && true) (digit_named m small)) one_more n wide

pub counter_named : (n : ℕ) → n ≤ 200 → is_name (counter_name n) ≡ true
counter_named n few =
    let wide : n < 2 ^ 64 = omega (arith, few) in
    let short : length (decimal n) ≤ 3 = length-decimal-le 3 n (omega arith) (omega (arith, few)) wide in
    let low : nat_le (suc (length (decimal n))) 64 ≡ true = le-leb _ _ (omega (arith, short)) in
    let some : nat_le 1 (suc (length (decimal n))) ≡ true = le-leb _ _ (omega arith) in
    ap (λ (b : Bool). (b && nat_le (suc (length (decimal n))) 64) && list_all is_name_byte (counter_name n)) some
    ∙ ap (λ (b : Bool). (true && b) && list_all is_name_byte (counter_name n)) low
    ∙ ap (λ (b : Bool). (true && true) && (true && b)) (digits_named n wide)

-- ---- one after the other

-- one name more
pub names_on : (n : ℕ) (first front now : List (List ℕ)) (text : List ℕ) → now ≡ front ++ text ∷ [] → text ≡ counter_name (n + 1)
    → front ≡ first ++ map counter_name (range_with_len 1 n) → now ≡ first ++ map counter_name (range_with_len 1 (n + 1))
names_on n first front now text pushed is so_far =
    let order : 1 + n ≡ n + 1 = omega arith in
    pushed
    ∙ ap (λ (t : List ℕ). front ++ t ∷ []) is
    ∙ ap (λ (xs : List (List ℕ)). xs ++ counter_name (n + 1) ∷ []) so_far
    ∙ append_assoc first (map counter_name (range_with_len 1 n)) (counter_name (n + 1) ∷ [])
    ∙ ap (λ (xs : List (List ℕ)). first ++ xs) (sym (map-range_with_len_more counter_name 1 n (n + 1) order))

counters_shift : (collector n : ℕ) → counters_telling collector (suc n) ≡ counters_telling collector n ++ plain_setup name.Counter (collector ∷ []) ∷ []
counters_shift collector zero = refl
counters_shift collector (suc n) = ap (λ (xs : List Setup). plain_setup name.Counter (collector ∷ []) ∷ xs) (counters_shift collector n)

-- one counter more
pub counters_on : (collector n : ℕ) (first front now : List Setup) (s : Setup) → now ≡ front ++ s ∷ [] → s ≡ plain_setup name.Counter (collector ∷ [])
    → front ≡ first ++ counters_telling collector n → now ≡ first ++ counters_telling collector (n + 1)
counters_on collector n first front now s pushed is so_far =
    let count : suc n ≡ n + 1 = omega arith in
    pushed
    ∙ ap (λ (t : Setup). front ++ t ∷ []) is
    ∙ ap (λ (xs : List Setup). xs ++ plain_setup name.Counter (collector ∷ []) ∷ []) so_far
    ∙ append_assoc first (counters_telling collector n) (plain_setup name.Counter (collector ∷ []) ∷ [])
    ∙ ap (λ (xs : List Setup). first ++ xs) (sym (counters_shift collector n) ∙ ap (counters_telling collector) count)
