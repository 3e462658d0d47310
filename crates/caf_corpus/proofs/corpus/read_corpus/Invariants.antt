use Rattle.std.proofs.Common.{◌≡◌, ℕ, ◌<◌, List, length, take, vec_len}
use Rattle.std.specs.List.{AllZip, sum_by, All}
use Rattle.caf_io.specs.Files.{IsThere}
use Rattle.caf_corpus.specs.Corpus.{IsFileOf, IsWithin}
use Rattle.caf_corpus.proofs.corpus.read_corpus.Given as goal

-- the corpus so far is that of the files before
abbrev pub invariant-loop-name : goal.invariant-loop-name
invariant-loop-name g l = record {
  number : l.number ≡ l.name-index;
  room : 0 < vec_len l.buffer;
  before : l.before ≡ sum_by (λ (file : List ℕ). length file) l.corpus;
  whole : AllZip (IsFileOf (g.F.Files.told l.fn.files)) (take l.name-index l.fn.names) l.corpus;
  within : IsWithin l.corpus;
  all_there : All (IsThere (g.F.Files.told l.fn.files)) (take l.name-index l.fn.names);
  told : g.F.Files.told l.files ≡ g.F.Files.told l.fn.files;
  faults : (other : List ℕ) → g.F.Files.faults l.files other ≡ g.F.Files.faults l.fn.files other;
}
