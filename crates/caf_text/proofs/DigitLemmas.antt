-- Hexadecimal digits are written and read back.
use Rattle.std.proofs.Common.{◌≡◌, ℕ, zero, suc, ◌+◌, ◌*◌, ◌-◌, ◌<◌, ◌≤◌, ◌&&◌, nat_le, cond, Bool, true, false, slice_index, Option, Some, None, refl, sym, ◌∙◌, arith}
use borrow.Author.Tests.{leb-true}
use Rattle.hex.specs.Hex.{lower_digits}
use Rattle.caf_text.specs.TextReading.{digit_value, pair_value}

pub sixteen : (P : ℕ → Type 0) → P 0 → P 1 → P 2 → P 3 → P 4 → P 5 → P 6 → P 7 → P 8 → P 9 → P 10 → P 11 → P 12 → P 13 → P 14 → P 15 → (n : ℕ) → n < 16 → P n
sixteen P p0 p1 p2 p3 p4 p5 p6 p7 p8 p9 p10 p11 p12 p13 p14 p15 zero h = p0
sixteen P p0 p1 p2 p3 p4 p5 p6 p7 p8 p9 p10 p11 p12 p13 p14 p15 (suc zero) h = p1
sixteen P p0 p1 p2 p3 p4 p5 p6 p7 p8 p9 p10 p11 p12 p13 p14 p15 (suc (suc zero)) h = p2
sixteen P p0 p1 p2 p3 p4 p5 p6 p7 p8 p9 p10 p11 p12 p13 p14 p15 (suc (suc (suc zero))) h = p3
sixteen P p0 p1 p2 p3 p4 p5 p6 p7 p8 p9 p10 p11 p12 p13 p14 p15 (suc (suc (suc (suc zero)))) h = p4
sixteen P p0 p1 p2 p3 p4 p5 p6 p7 p8 p9 p10 p11 p12 p13 p14 p15 (suc (suc (suc (suc (suc zero))))) h = p5
sixteen P p0 p1 p2 p3 p4 p5 p6 p7 p8 p9 p10 p11 p12 p13 p14 p15 (suc (suc (suc (suc (suc (suc zero)))))) h = p6
sixteen P p0 p1 p2 p3 p4 p5 p6 p7 p8 p9 p10 p11 p12 p13 p14 p15 (suc (suc (suc (suc (suc (suc (suc zero))))))) h = p7
sixteen P p0 p1 p2 p3 p4 p5 p6 p7 p8 p9 p10 p11 p12 p13 p14 p15 (suc (suc (suc (suc (suc (suc (suc (suc zero)))))))) h = p8
sixteen P p0 p1 p2 p3 p4 p5 p6 p7 p8 p9 p10 p11 p12 p13 p14 p15 (suc (suc (suc (suc (suc (suc (suc (suc (suc zero))))))))) h = p9
sixteen P p0 p1 p2 p3 p4 p5 p6 p7 p8 p9 p10 p11 p12 p13 p14 p15 (suc (suc (suc (suc (suc (suc (suc (suc (suc (suc zero)))))))))) h = p10
sixteen P p0 p1 p2 p3 p4 p5 p6 p7 p8 p9 p10 p11 p12 p13 p14 p15 (suc (suc (suc (suc (suc (suc (suc (suc (suc (suc (suc zero))))))))))) h = p11
sixteen P p0 p1 p2 p3 p4 p5 p6 p7 p8 p9 p10 p11 p12 p13 p14 p15 (suc (suc (suc (suc (suc (suc (suc (suc (suc (suc (suc (suc zero)))))))))))) h = p12
sixteen P p0 p1 p2 p3 p4 p5 p6 p7 p8 p9 p10 p11 p12 p13 p14 p15 (suc (suc (suc (suc (suc (suc (suc (suc (suc (suc (suc (suc (suc zero))))))))))))) h = p13
sixteen P p0 p1 p2 p3 p4 p5 p6 p7 p8 p9 p10 p11 p12 p13 p14 p15 (suc (suc (suc (suc (suc (suc (suc (suc (suc (suc (suc (suc (suc (suc zero)))))))))))))) h = p14
sixteen P p0 p1 p2 p3 p4 p5 p6 p7 p8 p9 p10 p11 p12 p13 p14 p15 (suc (suc (suc (suc (suc (suc (suc (suc (suc (suc (suc (suc (suc (suc (suc zero))))))))))))))) h = p15
sixteen P p0 p1 p2 p3 p4 p5 p6 p7 p8 p9 p10 p11 p12 p13 p14 p15 (suc (suc (suc (suc (suc (suc (suc (suc (suc (suc (suc (suc (suc (suc (suc (suc n)))))))))))))))) h = absurd (omega arith)

pub digit_back : (n : ℕ) → n < 16 → digit_value (slice_index lower_digits n) ≡ Some n
digit_back = sixteen (λ n. digit_value (slice_index lower_digits n) ≡ Some n) refl refl refl refl refl refl refl refl refl refl refl refl refl refl refl refl

low_digit : (n : ℕ) → n < 16 → n < 10 → slice_index lower_digits n ≡ 48 + n
low_digit = sixteen (λ n. n < 10 → slice_index lower_digits n ≡ 48 + n) (λ h. refl) (λ h. refl) (λ h. refl) (λ h. refl) (λ h. refl) (λ h. refl) (λ h. refl) (λ h. refl) (λ h. refl) (λ h. refl) (λ h. absurd (omega arith)) (λ h. absurd (omega arith)) (λ h. absurd (omega arith)) (λ h. absurd (omega arith)) (λ h. absurd (omega arith)) (λ h. absurd (omega arith))

high_digit : (n : ℕ) → n < 16 → 10 ≤ n → slice_index lower_digits n ≡ 87 + n
high_digit = sixteen (λ n. 10 ≤ n → slice_index lower_digits n ≡ 87 + n) (λ h. absurd (omega arith)) (λ h. absurd (omega arith)) (λ h. absurd (omega arith)) (λ h. absurd (omega arith)) (λ h. absurd (omega arith)) (λ h. absurd (omega arith)) (λ h. absurd (omega arith)) (λ h. absurd (omega arith)) (λ h. absurd (omega arith)) (λ h. absurd (omega arith)) (λ h. refl) (λ h. refl) (λ h. refl) (λ h. refl) (λ h. refl) (λ h. refl)

both : (a b : Bool) → (a && b) ≡ true → (a ≡ true) × (b ≡ true)
both true b h = (refl, h)
both false b h = absurd cc

some_is : (x y : ℕ) → Some x ≡ Some y → x ≡ y
some_is x y e = cc

letter : (c n : ℕ) (b : Bool) → (nat_le 97 c && nat_le c 102) ≡ b → cond b (Some (c - 87)) None ≡ Some n → (n < 16) × (c ≡ slice_index lower_digits n)
letter c n true q e =
    let p = both (nat_le 97 c) (nat_le c 102) q in
    let low : 97 ≤ c = leb-true _ _ p.0 in
    let high : c ≤ 102 = leb-true _ _ p.1 in
    let is : c - 87 ≡ n = some_is (c - 87) n e in
    let lt : n < 16 = omega arith in
    (lt, (let s : c ≡ 87 + n = omega arith in s) ∙ sym (high_digit n lt (omega arith)))
letter c n false q e = absurd cc

digit_or_letter : (c n : ℕ) (b : Bool) → (nat_le 48 c && nat_le c 57) ≡ b → cond b (Some (c - 48)) (cond (nat_le 97 c && nat_le c 102) (Some (c - 87)) None) ≡ Some n
    → (n < 16) × (c ≡ slice_index lower_digits n)
digit_or_letter c n true q e =
    let p = both (nat_le 48 c) (nat_le c 57) q in
    let low : 48 ≤ c = leb-true _ _ p.0 in
    let high : c ≤ 57 = leb-true _ _ p.1 in
    let is : c - 48 ≡ n = some_is (c - 48) n e in
    let lt : n < 16 = omega arith in
    (lt, (let s : c ≡ 48 + n = omega arith in s) ∙ sym (low_digit n lt (omega arith)))
digit_or_letter c n false q e = letter c n (nat_le 97 c && nat_le c 102) refl e

pub digit_is : (c n : ℕ) → digit_value c ≡ Some n → (n < 16) × (c ≡ slice_index lower_digits n)
digit_is c n e = digit_or_letter c n (nat_le 48 c && nat_le c 57) refl e

pub pair_is : (o p : Option ℕ) (b : ℕ) → pair_value o p ≡ Some b → (x : ℕ) × (y : ℕ) × (o ≡ Some x) × (p ≡ Some y) × (x * 16 + y ≡ b)
pair_is (Some x) (Some y) b e = (x, y, refl, refl, some_is (x * 16 + y) b e)
pair_is (Some x) None b e = absurd cc
pair_is None p b e = absurd cc
