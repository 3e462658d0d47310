-- What each command promises of its end.
use Rattle.std.specs.Prelude.{◌≡◌, ◌⊎◌, ℕ, List, Option, None}
use Rattle.caf_io.specs.Files.{Content}
use Rattle.caf_command.specs.declared.command.Command.{Command}
use Rattle.caf_command.specs.declared.command.Command.TheVariants as command
use Rattle.caf_record.specs.declared.run_record.RunRecord.{RunRecord}
use Rattle.caf_cli.specs.Make.{MakeEnds}
use Rattle.caf_cli.specs.Quiet.{PlainEnds, CheckEnds}
use Rattle.caf_cli.specs.Run.{RunEnds}
use Rattle.caf_cli.specs.declared.end.End.{End}
use Rattle.caf_cli.specs.declared.end.End.TheVariants.{Usage, Memory}

-- of a command that is no run; a run isn't done
abbrev pub QuietEnds : Option Content → Command → (before now : Option (List ℕ)) → End → Type 0
QuietEnds told (command.Run words) before now end = (end ≡ Usage) ⊎ (end ≡ Memory)
QuietEnds told (command.Check name) before now end = CheckEnds told name before now end
QuietEnds told (command.Plain names) before now end = PlainEnds told names before now end
QuietEnds told (command.Make lines) before now end = MakeEnds lines before now end

-- of any command; a record is kept of a run alone
abbrev pub CommandEnds : Option Content → Command → (kept : Option RunRecord) (before now : Option (List ℕ)) → End → Type 0
CommandEnds told (command.Run words) kept before now end = RunEnds told words kept before now end
CommandEnds told other kept before now end = (kept ≡ None) × QuietEnds told other before now end
