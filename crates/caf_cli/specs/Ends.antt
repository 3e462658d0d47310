-- How writing a text ends.
use Rattle.std.specs.Prelude.{◌≡◌, ℕ, List, Option}
use Rattle.caf_io.specs.Sink.{added, AddsPrefix}
use Rattle.caf_cli.specs.declared.end.End.{End}
use Rattle.caf_cli.specs.declared.end.End.TheVariants.{Done, Write}

-- the sink has the text more than before, or a prefix of it
abbrev pub HasTried : (text : List ℕ) (before now : Option (List ℕ)) → End → Type 0
HasTried text before now Done = now ≡ added before text
HasTried text before now Write = AddsPrefix before now text
HasTried text before now _ = ⊥
