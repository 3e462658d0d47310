use Rattle.std.proofs.Common.{sym, ap, ◌∙◌, ◌-◌, ◌^◌, min}
use Rattle.caf_index.specs.Index.{entry_count, index_of_rows}
use Rattle.caf_index.proofs.CountLemmas.{entry_count-empty}
use Rattle.caf_index.proofs.index.Index.new.Goals as goal

pub invariant_of-result : goal.invariant_of-result
invariant_of-result c = sym (ap (λ n. min n (2 ^ 64 - 1)) (ap (λ rows. entry_count (index_of_rows rows)) c.new.ensures.empty ∙ entry_count-empty))
