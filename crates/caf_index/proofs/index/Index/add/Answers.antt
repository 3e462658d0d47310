use Rattle.std.proofs.Common.{sym, ◌∙◌}
use Rattle.caf_index.proofs.CountLemmas.{count-new, count-old}
use Rattle.caf_index.proofs.index.Index.add.Goals as goal

pub invariant_of-self-then-is_new : goal.invariant_of-self-then-is_new
invariant_of-self-then-is_new c =
    count-new _ _ _ _ _ c.self.inside.entries _ c.self.invariant c.in_ok-is_new.ensures.added (sym c.if-is_new.true ∙ c.in_ok-is_new.ensures.is_new) c.saturating_add-self-inside.ensures

pub invariant_of-self-else-is_new : goal.invariant_of-self-else-is_new
invariant_of-self-else-is_new c =
    count-old _ _ _ _ _ c.self.inside.entries c.self.invariant c.in_ok-is_new.ensures.added (sym c.if-is_new.false ∙ c.in_ok-is_new.ensures.is_new)
