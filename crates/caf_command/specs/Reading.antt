-- How the words behind `run` are read, one after another.
use Rattle.std.specs.Prelude.{ℕ, ◌==◌, nat_lt, List, [], ◌∷◌, length, Option, Some, None, codes, if◌then◌else◌, option_map, option_and_then, Bool, is_some}
use Rattle.std.specs.Str.{bytes_eq}
use Rattle.std.specs.List.{position_or_len, before_first, after_first}
use Rattle.caf_command.specs.Words.{is_plain}
use Rattle.caf_command.specs.Options.{valued_named}
use Rattle.caf_command.specs.declared.options.Valued.{Valued}
use Rattle.caf_command.specs.Part.{Part}
use Rattle.caf_command.specs.Part as part
use Rattle.caf_command.specs.Met.{Met}
use Rattle.caf_command.specs.Met as word

-- the option with this value
abbrev pub value_met : Valued → (value : List ℕ) → Option Met
value_met option value = if is_plain value then Some (word.Part (part.Value option value)) else None

-- an option, which may have its value behind `=` (61)
abbrev pub option_met : List ℕ → Option Met
option_met text = if nat_lt (position_or_len (λ b. b == 61) text) (length text)
    then option_and_then (λ option. value_met option (after_first (λ b. b == 61) text)) (valued_named (before_first (λ b. b == 61) text))
    else option_map word.Opening (valued_named text)

-- what the word is, where that option waits for its value
abbrev pub word_met : Option Valued → List ℕ → Option Met
word_met (Some option) text = value_met option text
word_met None text = if is_plain text then Some (word.Part (part.File text))
    else (if bytes_eq text (codes "--trace") then Some (word.Part part.Trace) else option_met text)

abbrev pub ended : Option Valued → Option (List Part)
ended None = Some []
ended (Some option) = None

abbrev pub after : Option Met → (Option Valued → Option (List Part)) → Option (List Part)
after None next = None
after (Some (word.Part p)) next = option_map (λ parts. p ∷ parts) (next None)
after (Some (word.Opening option)) next = next (Some option)

-- the parts that the words are, where that option waits for its value
abbrev pub parts_from : List (List ℕ) → Option Valued → Option (List Part)
parts_from [] waits = ended waits
parts_from (text ∷ words) waits = after (word_met waits text) (parts_from words)

-- the word is one that may stand behind `run`
abbrev pub is_known : List ℕ → Bool
is_known text = is_some (word_met None text)
