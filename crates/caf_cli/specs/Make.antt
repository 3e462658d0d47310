-- What the command `make` promises of its end.
use Rattle.std.specs.Prelude.{◌≡◌, ◌⊎◌, ℕ, ◌+◌, ◌-◌, ◌^◌, min, List, [], ◌∷◌, length, slice_get, Option, Some, None}
use Rattle.std.specs.List.{sum_by, count_by}
use Rattle.std.specs.FinMap as map
use Rattle.caf_corpus.specs.Limits.{is_line_end}
use Rattle.caf_generator.specs.Generator.{files_of}
use Rattle.caf_generator.specs.MakeLine.{make_line_of}
use Rattle.caf_generator.specs.declared.counts.Counts.{Counts}
use Rattle.caf_index.specs.Chunks.{chunks_of}
use Rattle.caf_index.specs.Index.{Entries, entry_count}
use Rattle.caf_play.specs.declared.played.Played.{Played}
use Rattle.caf_play.specs.declared.played.PlayEnd.{PlayEnd}
use Rattle.caf_play.specs.declared.played.PlayEnd.TheVariants as play
use Rattle.caf_report.specs.Report.{index_at}
use Rattle.caf_scenario.specs.Builtin.{IsBuiltin, collector_place}
use Rattle.caf_scenario.specs.declared.scenario.Scenario.{Scenario}
use Rattle.caf_cli.specs.Ends.{HasTried}
use Rattle.caf_cli.specs.Play.{IsPlay}
use Rattle.caf_cli.specs.declared.end.End.{End}
use Rattle.caf_cli.specs.declared.end.End.TheVariants.{Memory, Budget, Exhausted}

-- ---- the numbers

-- numbers stop there
abbrev pub stopped : ℕ → ℕ
stopped n = min n (2 ^ 64 - 1)

abbrev pub words_in : Option Entries → ℕ
words_in (Some index) = map.len index
words_in None = 0

abbrev pub entries_in : Option Entries → ℕ
entries_in (Some index) = stopped (entry_count index)
entries_in None = 0

-- how large the files are
abbrev pub sizes_of : List (List ℕ) → Counts
sizes_of files = record {
  files = length files;
  bytes = stopped (sum_by (λ (file : List ℕ). length file) files);
  lines = stopped (sum_by (λ (file : List ℕ). count_by is_line_end file) files);
  chunks = stopped (sum_by (λ (file : List ℕ). length (chunks_of file)) files);
  words = 0;
  postings = 0;
}

-- and how large the index is
abbrev pub with_index : Counts → Option Entries → Counts
with_index sizes index = record {
  files = sizes.files;
  bytes = sizes.bytes;
  lines = sizes.lines;
  chunks = sizes.chunks;
  words = words_in index;
  postings = entries_in index;
}

-- ---- the play

-- the built-in scenario over four counters was played over the lines' files
pub record IsPlayOfLines (lines : ℕ) (end : PlayEnd) : Type 0 where
  pub scenario : Scenario
  pub built_in : IsBuiltin 4 scenario
  pub played : Played
  pub play : IsPlay scenario (files_of lines) 10000000 played
  pub so : played.end ≡ end

-- the text is the line of its numbers, where the index is that of the collector at its end
pub record IsMade (lines : ℕ) (text : List ℕ) : Type 0 where
  pub play : IsPlayOfLines lines play.Done
  pub text_is : text ≡ make_line_of (with_index (sizes_of (files_of lines)) (index_at (slice_get play.played.kinds (collector_place 4))))

-- why there is no text
abbrev pub IsNotMade : (lines : ℕ) → End → Type 0
IsNotMade lines Memory = Unit {0}
IsNotMade lines Budget = IsPlayOfLines lines play.Budget
IsNotMade lines (Exhausted place) = IsPlayOfLines lines (play.Exhausted place)
IsNotMade lines _ = ⊥

pub record HasMade (lines : ℕ) (before now : Option (List ℕ)) (end : End) : Type 0 where
  pub text : List ℕ
  pub made : IsMade lines text
  pub tried : HasTried text before now end

abbrev pub MakeEnds : (lines : ℕ) (before now : Option (List ℕ)) → End → Type 0
MakeEnds lines before now end = HasMade lines before now end ⊎ IsNotMade lines end
