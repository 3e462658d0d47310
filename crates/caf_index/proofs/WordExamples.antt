-- The definition of a file's words, on files that one can read off by hand.
use Rattle.std.proofs.Common.{◌≡◌, [], ◌∷◌, refl}
use Rattle.std.specs.Prelude.{codes}
use Rattle.caf_index.specs.Words.{words_of}

-- `The cat` and `the dog`
two_lines : words_of (codes "The cat\nthe dog\n") ≡ (codes "the", 1) ∷ (codes "cat", 1) ∷ (codes "the", 2) ∷ (codes "dog", 2) ∷ []
two_lines = refl

-- no bytes, and blanks alone
empty_file : words_of [] ≡ []
empty_file = refl

blanks : words_of (codes " \n \n") ≡ []
blanks = refl

-- a last line without a line end
no_line_end : words_of (codes "one two") ≡ (codes "one", 1) ∷ (codes "two", 1) ∷ []
no_line_end = refl

-- bytes above 127 separate words: `caf`, 195, 169, `s`
high_bytes : words_of (99 ∷ 97 ∷ 102 ∷ 195 ∷ 169 ∷ 115 ∷ 10 ∷ []) ≡ (codes "caf", 1) ∷ (codes "s", 1) ∷ []
high_bytes = refl
