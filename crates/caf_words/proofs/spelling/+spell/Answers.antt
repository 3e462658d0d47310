use Rattle.std.proofs.Common.{◌∷◌, ◌<◌, ◌^◌, [], map, length, append_assoc, sym, subst}
use Rattle.caf_words.specs.Datum.{data_of, count, are_in_range}
use Rattle.caf_words.specs.Value.{datum}
use Rattle.caf_words.specs.Spelling.{spellings}
use Rattle.caf_words.proofs.CountLemmas.{count_values}
use Rattle.caf_words.proofs.RangeLemmas.{counts}
use Rattle.caf_words.proofs.spelling.+spell.Goals as goal

pub write_counted-returns-clause-spelled : goal.write_counted-returns-clause-spelled
write_counted-returns-clause-spelled t c =
    rw (c.in_ok-write_values.ensures.spelled, c.in_ok-write_word.ensures.spelled, count_values c.args.values.now)
    (append_assoc c.args.words.now.items (length c.args.values.now ∷ []) (spellings (data_of (map datum c.args.values.now))))

pub write_counted-returns-clause-in_range : goal.write_counted-returns-clause-in_range
write_counted-returns-clause-in_range t c =
    counts (count (data_of (map datum c.args.values.now))) (are_in_range (data_of (map datum c.args.values.now)))
    (subst (λ n. n < 2 ^ 64) (sym (count_values c.args.values.now)) c.in_ok-write_word.ensures.in_range)
    c.in_ok-write_values.ensures.in_range
