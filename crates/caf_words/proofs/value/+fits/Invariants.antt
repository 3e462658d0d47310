use Rattle.std.proofs.Common.{◌≡◌, map, drop, length, ◌≤◌}
use Rattle.caf_types.specs.Shape.{tree, parts}
use Rattle.caf_words.specs.Datum as of
use Rattle.caf_words.specs.Datum.{data_of}
use Rattle.caf_words.specs.Value.{datum}
use Rattle.caf_words.proofs.value.+fits.Given as goal

abbrev pub invariant-all_fit-loop-item : goal.invariant-all_fit-loop-item
invariant-all_fit-loop-item l = of.all_fit (of.fits (tree l.shape)) (data_of (map datum (drop l.item-index l.items))) ≡ of.all_fit (of.fits (tree l.shape)) (data_of (map datum l.items))

abbrev pub invariant-each_fits-loop-i : goal.invariant-each_fits-loop-i
invariant-each_fits-loop-i l = (of.each_fits (parts (drop l.i l.fields)) (data_of (map datum (drop l.i l.items))) ≡ of.each_fits (parts l.fields) (data_of (map datum l.items))) × (l.i ≤ length l.items)
