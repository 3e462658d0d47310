-- The lines of the report, each with the number of its step.
use Rattle.std.specs.Prelude.{ℕ, List, [], ◌∷◌, ◌++◌, codes, decimal}
use Rattle.caf_types.specs.Sec.{sec_name}
use Rattle.caf_types.specs.declared.sec.Sec.{Sec}

-- the request was not sent
abbrev pub unsent_line : ℕ → List ℕ
unsent_line number = codes "unsent " ++ (decimal number ++ 10 ∷ [])

-- the request was answered by an error
abbrev pub error_line : ℕ → Sec → List ℕ
error_line number why = codes "reply " ++ (decimal number ++ (codes ": error " ++ (sec_name why ++ 10 ∷ [])))

-- the front of the line of a request that was answered by values
abbrev pub value_front : ℕ → List ℕ
value_front number = codes "reply " ++ (decimal number ++ 58 ∷ [])

-- that line; the text of the values begins with a space
abbrev pub value_line : ℕ → List ℕ → List ℕ
value_line number values = value_front number ++ (values ++ 10 ∷ [])
