use Rattle.std.proofs.Common.{◌∷◌, ◌<◌, ◌^◌, [], map, length, append_assoc, sym, subst}
use Rattle.caf_words.specs.Datum.{data_of, count, are_in_range}
use Rattle.caf_words.specs.Spelling.{spellings}
use Rattle.caf_words.proofs.RangeLemmas.{counts}
use Rattle.caf_words.proofs.CountLemmas.{count_of}
use Rattle.caf_words.proofs.spelled.write_list.Goals as goal

pub returns-clause-spelled : goal.returns-clause-spelled
returns-clause-spelled g c =
    rw (c.in_ok-write_each.ensures.spelled, c.in_ok-write_word.ensures.spelled, count_of g.T.Spelled.means c.args.items.now)
    (append_assoc c.args.words.now.items (length c.args.items.now ∷ []) (spellings (data_of (map g.T.Spelled.means c.args.items.now))))

pub returns-clause-in_range : goal.returns-clause-in_range
returns-clause-in_range g c =
    counts (count (data_of (map g.T.Spelled.means c.args.items.now))) (are_in_range (data_of (map g.T.Spelled.means c.args.items.now)))
    (subst (λ n. n < 2 ^ 64) (sym (count_of g.T.Spelled.means c.args.items.now)) c.in_ok-write_word.ensures.in_range)
    c.in_ok-write_each.ensures.in_range
