-- The line that tells what a run over generated files came to.
use Rattle.std.specs.Prelude.{ℕ, List, [], ◌∷◌, ◌++◌, codes, decimal}
use Rattle.caf_generator.specs.declared.counts.Counts.{Counts}

-- each count behind its name, and byte 10
abbrev pub make_line_of : Counts → List ℕ
make_line_of counts =
    codes "files " ++ decimal counts.files
    ++ codes " bytes " ++ decimal counts.bytes
    ++ codes " lines " ++ decimal counts.lines
    ++ codes " chunks " ++ decimal counts.chunks
    ++ codes " words " ++ decimal counts.words
    ++ codes " postings " ++ decimal counts.postings
    ++ 10 ∷ []
