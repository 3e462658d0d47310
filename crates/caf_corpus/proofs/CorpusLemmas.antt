-- One more file of a corpus, and the file in which a limit is passed.
use Rattle.std.proofs.Common.{◌≡◌, ℕ, ◌+◌, ◌<◌, ◌≤◌, List, [], ◌∷◌, ◌++◌, length, get_or, take, drop, Option, IfSome, sym, ap, subst, ◌∙◌, arith}
use Rattle.std.specs.List.{All, AllZip, sum_by}
use Rattle.std.proofs.lemmas.List.{length-take, take_more, take-append-drop, at_drop_more}
use Rattle.std.proofs.lemmas.List.Sums.{sum_by_push}
use Rattle.std.proofs.lemmas.List.Elements.{All-push, AllZip-push}
use Rattle.caf_io.specs.Files.{Content, told_file, IsThere}
use Rattle.caf_corpus.specs.Limits.{HasShortLines, IsFirst}
use Rattle.caf_corpus.specs.Corpus.{IsFileOf, IsWithin, PassesFirst}
use Rattle.caf_corpus.specs.declared.scan.Passed.{Passed}
use Rattle.caf_corpus.specs.declared.scan.TheConstants.{LARGEST_CORPUS}

-- how many bytes the files have together
abbrev pub bytes_of : List (List ℕ) → ℕ
bytes_of corpus = sum_by (λ (file : List ℕ). length file) corpus

pub bytes_more : (corpus : List (List ℕ)) (bytes : List ℕ) → bytes_of (corpus ++ bytes ∷ []) ≡ bytes_of corpus + length bytes
bytes_more corpus bytes = sum_by_push (λ (file : List ℕ). length file) corpus bytes

pub within_more : (corpus : List (List ℕ)) (bytes : List ℕ) → IsWithin corpus → HasShortLines bytes → bytes_of corpus + length bytes ≤ LARGEST_CORPUS → IsWithin (corpus ++ bytes ∷ [])
within_more corpus bytes within short fits = record {
  lines = All-push HasShortLines corpus bytes within.lines short;
  bytes = rw (bytes_more corpus bytes) fits;
}

module _ (told : Option Content) (names : List (List ℕ)) (i : ℕ) (name : List ℕ) (inside : i < length names) (is : name ≡ get_or names i name) where
  names_more : take (i + 1) names ≡ take i names ++ name ∷ []
  names_more = take_more names i name inside ∙ ap (λ n. take i names ++ n ∷ []) (sym is)

  pub whole_more : (corpus : List (List ℕ)) (bytes : List ℕ) → AllZip (IsFileOf told) (take i names) corpus → IsFileOf told name bytes
      → AllZip (IsFileOf told) (take (i + 1) names) (corpus ++ bytes ∷ [])
  whole_more corpus bytes whole file = rw names_more (AllZip-push (IsFileOf told) (take i names) corpus name bytes whole file)

  pub there_more : All (IsThere told) (take i names) → IsThere told name → All (IsThere told) (take (i + 1) names)
  there_more all there = rw names_more (All-push (IsThere told) (take i names) name all there)

  names_split : names ≡ take i names ++ name ∷ drop (i + 1) names
  names_split = sym (take-append-drop i names)
      ∙ at_drop_more (λ rest. take i names ++ rest) names i name inside
      ∙ ap (λ n. take i names ++ n ∷ drop (i + 1) names) (sym is)

  pub passed_here : (corpus : List (List ℕ)) (number before : ℕ) (passed : Passed) → number ≡ i + 1 → before ≡ bytes_of corpus
      → AllZip (IsFileOf told) (take i names) corpus → IsWithin corpus → All (IsThere told) (take i names) → IsThere told name
      → IfSome (told_file told name) (λ file. IsFirst before file passed) → PassesFirst told names number passed
  passed_here corpus number before passed at so_far whole within all there first = record {
    earlier = take i names;
    name = name;
    later = drop (i + 1) names;
    split = names_split;
    position = omega (arith, length-take i names);
    corpus = corpus;
    whole = whole;
    within = within;
    all_there = all;
    is_there = there;
    first = subst (λ n. IfSome (told_file told name) (λ file. IsFirst n file passed)) so_far first;
  }
