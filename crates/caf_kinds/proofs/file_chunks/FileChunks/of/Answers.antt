use Rattle.std.proofs.Common.{◌≡◌, ◌^◌, ◌<◌, length, map, sym, ap, subst, ◌∙◌, arith}
use Rattle.std.specs.List.{AllByRecursion}
use Rattle.caf_kinds.specs.FileChunks.{AreByteLists, chunk_in, IsPlaceIn, places_from}
use Rattle.caf_kinds.proofs.ChunkPlaceLemmas.{all_chunks_there, all_places_in, are_files}
use Rattle.caf_kinds.proofs.file_chunks.FileChunks.of.Goals as goal

pub invariant_of-result : goal.invariant_of-result
invariant_of-result c =
    let files = c.args.files in
    let same : c.in_ok-places.places ≡ places_from 1 0 files = c.in_ok-places.ensures ∙ ap (places_from 1 0) c.as_slice-2.ensures in
    let bytes : AreByteLists files = subst AreByteLists c.as_slice.ensures c.know_files.ensures in
    let few : length files < 2 ^ 64 = omega arith in
    let long : length c.in_ok-places.places < 2 ^ 64 = omega arith in
    let fits : length (places_from 1 0 files) < 2 ^ 64 = omega (arith, long, ap length same) in
    subst (AllByRecursion (IsPlaceIn files)) (sym same) (all_places_in files few (are_files files bytes c.requires) fits)

pub returns : goal.returns
returns c =
    let files = c.args.files in
    let same : c.in_ok-places.places ≡ places_from 1 0 files = c.in_ok-places.ensures ∙ ap (places_from 1 0) c.as_slice-2.ensures in
    ap (map (chunk_in files)) same ∙ all_chunks_there files
