use Rattle.caf_types.specs.Table.{built_in, shape_at}
use Rattle.caf_types.specs.TypeTable.{seen}
use Rattle.caf_scripted.proofs.BatchLemmas.{has_numbers}
use Rattle.caf_scripted.proofs.stage.Stage.take_batch.Goals as goal

pub batch-requires-clause-entries : goal.batch-requires-clause-entries
batch-requires-clause-entries c = has_numbers (seen c.self.inside.table) c.self.invariant.0

pub invariant_of-self-2 : goal.invariant_of-self-2
invariant_of-self-2 c = (
  c.self.invariant.0,
  λ whole. c.in_ok-posts.ensures.fit (shape_at built_in) (c.self.invariant.1 c.in_ok-posts.ensures.whole.0) c.requires.fits,
)
