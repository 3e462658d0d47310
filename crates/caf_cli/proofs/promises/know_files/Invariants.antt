use Rattle.std.proofs.Common.{◌≡◌, ℕ, ◌<◌, List, get_or, true}
use Rattle.caf_words.specs.Datum.{are_bytes}
use Rattle.caf_cli.proofs.promises.know_files.Given as goal

-- of the files so far
abbrev pub invariant-loop-bytes : goal.invariant-loop-bytes
invariant-loop-bytes l = (k : ℕ) (d : List ℕ) → k < l.bytes-index → are_bytes (get_or l.files k d) ≡ true
