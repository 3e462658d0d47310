-- Postings of small texts, computed.
use Rattle.std.proofs.Common.{◌≡◌, [], ◌∷◌, refl}
use Rattle.std.specs.Prelude.{codes}
use Rattle.caf_index.specs.Postings.{posting_at, postings_of}

-- by word, then by line, each pair once; the last line has no line end
in_order : postings_of 7 (codes "the cat\nthe Cat the\nant") ≡ posting_at (codes "ant") 9 ∷ posting_at (codes "cat") 7 ∷ posting_at (codes "cat") 8 ∷ posting_at (codes "the") 7 ∷ posting_at (codes "the") 8 ∷ []
in_order = refl

-- no bytes, and blanks alone
no_bytes : postings_of 1 [] ≡ []
no_bytes = refl

blanks : postings_of 1 (codes " \n \n") ≡ []
blanks = refl

-- a word is before a longer one that it begins; bytes above 127 separate words: `caf`, 195, 169, `s`
high_bytes : postings_of 1 (99 ∷ 97 ∷ 102 ∷ 195 ∷ 169 ∷ 115 ∷ 10 ∷ 115 ∷ 97 ∷ []) ≡ posting_at (codes "caf") 1 ∷ posting_at (codes "s") 1 ∷ posting_at (codes "sa") 2 ∷ []
high_bytes = refl

-- numbers stop at 2^64 - 1, and a pair is there once also then
numbers_stop : postings_of 18446744073709551614 (codes "a\na\na\nb") ≡ posting_at (codes "a") 18446744073709551614 ∷ posting_at (codes "a") 18446744073709551615 ∷ posting_at (codes "b") 18446744073709551615 ∷ []
numbers_stop = refl
