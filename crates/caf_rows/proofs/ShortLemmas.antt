-- No line of a file is longer than the file.
use Rattle.std.proofs.Common.{◌≡◌, ℕ, ◌+◌, ◌≤◌, ◌==◌, ◌&&◌, Bool, true, false, if◌then◌else◌, List, [], ◌∷◌, length, refl, arith}
use Rattle.std.specs.Prelude.{nat_le}
use Rattle.std.specs.List.{list_all}
use Rattle.std.proofs.lemmas.Bool.{le-leb, leb-true}
use Rattle.caf_kinds.specs.Starting.{has_short_lines}
use Rattle.caf_typing.specs.Opens.{HaveShortLines}

both : (a b : Bool) → a ≡ true → b ≡ true → (a && b) ≡ true
both true b p q = q
both false b p q = absurd cc

first_of : (a b : Bool) → (a && b) ≡ true → a ≡ true
first_of true b e = refl
first_of false b e = absurd cc

second_of : (a b : Bool) → (a && b) ≡ true → b ≡ true
second_of true b e = e
second_of false b e = absurd cc

lines_short : (before : ℕ) (bytes : List ℕ) → before + length bytes ≤ 1048576 → has_short_lines before bytes ≡ true
lines_short before [] few = refl
lines_short before (byte ∷ bytes) few =
    both (nat_le (before + 1) 1048576) _ (le-leb (before + 1) 1048576 (omega (arith, few)))
    (lines_short (if byte == 10 then 0 else before + 1) bytes (go (byte == 10)))
  where
    go : (b : Bool) → (if b then 0 else before + 1) + length bytes ≤ 1048576
    go true = omega (arith, few)
    go false = omega (arith, few)

pub all_short : (files : List (List ℕ)) → list_all (λ (file : List ℕ). nat_le (length file) 1048576) files ≡ true → HaveShortLines files
all_short [] e = tt
all_short (file ∷ files) e = (
  lines_short 0 file (let h = leb-true (length file) 1048576 (first_of _ _ e) in omega (arith, h)),
  all_short files (second_of _ _ e),
)
