-- The first limit that is passed in the front of a file is the first in the file.
use Rattle.std.proofs.Common.{◌≡◌, ℕ, ◌≤◌, List, ◌++◌, length, take, Option, Some, None, IfSome, sym, ap, subst, ◌∙◌, arith}
use Rattle.std.proofs.lemmas.List.{length-append, length-take, take-take}
use Rattle.std.proofs.Math.Seq.{take-add}
use Rattle.caf_io.specs.Files.{AreNext}
use Rattle.std.specs.Io.{StartsWith}
use Rattle.caf_corpus.specs.Limits.{IsFine, PassesAt, IsFirst}
use Rattle.caf_corpus.specs.declared.scan.Passed.{Passed}
use Rattle.caf_corpus.specs.declared.scan.Passed.TheVariants.{Line, Corpus}

-- the front of a file, and then the bytes that are next in it
pub next_in_front : (file bytes part : List ℕ) (from : ℕ) → from ≡ length bytes → StartsWith file bytes → AreNext file from part → StartsWith file (bytes ++ part)
next_in_front file bytes part from at start next =
    let len = length-append bytes part in
    let two = take-add (length bytes) (length part) file in
    cc

module _ (before : ℕ) (file front : List ℕ) (starts : StartsWith file front) where
  front_fits : length front ≤ length file
  front_fits = omega (arith, ap length starts, length-take (length front) file)

  same_front : (k : ℕ) → k ≤ length front → take k front ≡ take k file
  same_front k h = ap (take k) (sym starts) ∙ take-take k (length front) file h

  fine_in_file : (k : ℕ) → k ≤ length front → IsFine before front k → IsFine before file k
  fine_in_file k h fine = rw (← same_front k h) fine

  passes_in_file : (k : ℕ) → k ≤ length front → (passed : Passed) → PassesAt before front k passed → PassesAt before file k passed
  passes_in_file k h (Line line) passes = rw (← same_front k h) passes
  passes_in_file k h (Corpus line) passes = rw (← same_front k h) passes

  pub first_in_file : (passed : Passed) → IsFirst before front passed → IsFirst before file passed
  first_in_file passed first = record {
    at = first.at;
    inside = omega (arith, front_fits, first.inside);
    passes = passes_in_file first.at (omega (arith, first.inside)) passed first.passes;
    fine = λ k h. fine_in_file k (omega (arith, first.inside)) (first.fine k h);
  }

-- what is said of the file before a part is read, and then of that part
pub then_of_file : (P Q R : List ℕ → Type 0) (a b : Option (List ℕ)) → a ≡ b → IfSome a (λ file. P file → Q file) → IfSome b (λ file. Q file → R file) → IfSome a (λ file. P file → R file)
then_of_file P Q R None b same first second = tt
then_of_file P Q R (Some file) None same first second = absurd cc
then_of_file P Q R (Some file) (Some other) same first second =
    let is : other ≡ file = cc in
    λ p. subst (λ f. Q f → R f) is second (first p)
