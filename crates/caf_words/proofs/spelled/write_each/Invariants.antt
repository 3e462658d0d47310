use Rattle.std.proofs.Common.{◌≡◌, ◌++◌, map, drop}
use Rattle.caf_words.specs.Datum.{data_of, are_in_range}
use Rattle.caf_words.specs.Spelling.{spellings, IsFront}
use Rattle.caf_words.proofs.spelled.write_each.Given as goal

abbrev pub invariant-loop-item : goal.invariant-loop-item
invariant-loop-item g l =
    let means = map g.T.Spelled.means in record {
      added : l.words.items ++ spellings (data_of (means (drop l.item-index l.items))) ≡ l.fn.words.items ++ spellings (data_of (means l.items));
      in_range : are_in_range (data_of (means (drop l.item-index l.items))) ≡ are_in_range (data_of (means l.items));
      front : IsFront l.fn.words.items l.words.items;
    }
