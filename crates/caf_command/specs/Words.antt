-- Words that are no options.
use Rattle.std.specs.Prelude.{ℕ, ◌==◌, Bool, false, not, List, [], ◌∷◌}

-- a word that can name a file or be a value: it isn't empty and doesn't begin with `-` (45)
abbrev pub is_plain : List ℕ → Bool
is_plain [] = false
is_plain (b ∷ bs) = not (b == 45)
