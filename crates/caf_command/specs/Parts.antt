-- The parts that the words behind `run` are.
use Rattle.std.specs.Prelude.{◌≡◌, ◌⊎◌, ℕ, true, List, [], ◌∷◌, ◌++◌, codes}
use Rattle.std.specs.List.{flat_map, sum_by}
use Rattle.caf_command.specs.Words.{is_plain}
use Rattle.caf_command.specs.Options.{name_of}
use Rattle.caf_command.specs.declared.options.Valued.{Valued}
use Rattle.caf_command.specs.declared.options.Valued.TheVariants.{Scenario, Workers, Budget}
use Rattle.caf_command.specs.Part.{Part}
use Rattle.caf_command.specs.Part.{Value, Trace, File}

-- the words begin with the part, and the rest stands behind it. The value of an option is the next word, or what
-- follows the first `=` (61) of the option's own word
abbrev pub BeginsWith : Part → (words rest : List (List ℕ)) → Type 0
BeginsWith (Value option value) words rest = (is_plain value ≡ true)
    × ((words ≡ name_of option ∷ value ∷ rest) ⊎ (words ≡ (name_of option ++ 61 ∷ value) ∷ rest))
BeginsWith Trace words rest = words ≡ codes "--trace" ∷ rest
BeginsWith (File name) words rest = (is_plain name ≡ true) × (words ≡ name ∷ rest)

-- the words are these parts, one behind the other, and nothing else
abbrev pub AreParts : List Part → (words : List (List ℕ)) → Type 0
AreParts [] words = words ≡ []
AreParts (part ∷ parts) words = (rest : List (List ℕ)) × BeginsWith part words rest × AreParts parts rest

-- the values that were given to the option, in order
abbrev pub values_in : Valued → Part → List (List ℕ)
values_in Scenario (Value Scenario value) = value ∷ []
values_in Workers (Value Workers value) = value ∷ []
values_in Budget (Value Budget value) = value ∷ []
values_in _ _ = []

abbrev pub values_of : Valued → List Part → List (List ℕ)
values_of option = flat_map (values_in option)

-- how often `--trace` stands there
abbrev pub traces_in : Part → ℕ
traces_in Trace = 1
traces_in _ = 0

abbrev pub traces_of : List Part → ℕ
traces_of = sum_by traces_in

-- the names of files, in order
abbrev pub files_in : Part → List (List ℕ)
files_in (File name) = name ∷ []
files_in _ = []

abbrev pub files_of : List Part → List (List ℕ)
files_of = flat_map files_in
