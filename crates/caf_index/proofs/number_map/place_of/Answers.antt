use Rattle.std.proofs.Common.{◌<◌, subst, arith}
use Rattle.caf_index.proofs.NumberMapLemmas.{place_past_last}
use Rattle.caf_index.proofs.number_map.place_of.Goals as goal

pub returns-then-last-key-clause-absent : goal.returns-then-last-key-clause-absent
returns-then-last-key-clause-absent g c =
    place_past_last c.args.key c.args.entries.now c.index-entries-count.result c.requires (omega arith) (subst (λ e. e.0 < c.args.key) c.index-entries-count.is c.if-last-key.true)
