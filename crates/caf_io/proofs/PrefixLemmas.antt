-- What was read of a file so far is a prefix of it.
use Rattle.std.proofs.Common.{◌≡◌, ℕ, List, ◌++◌, length}
use Rattle.std.proofs.lemmas.List.{length-append}
use Rattle.std.proofs.Math.Seq.{take-add}
use Rattle.std.specs.Io.{StartsWith}
use Rattle.caf_io.specs.Files.{AreNext}

-- a prefix, and then the bytes that are next in the file
pub StartsWith-append : (file bytes part : List ℕ) (from : ℕ) → from ≡ length bytes → StartsWith file bytes
    → AreNext file from part → StartsWith file (bytes ++ part)
StartsWith-append file bytes part from at start next =
    let len = length-append bytes part in
    let two = take-add (length bytes) (length part) file in
    cc
