use Rattle.caf_index.proofs.PostingLemmas.{word-text}
use Rattle.caf_index.proofs.posting.push_word.Goals as goal

pub unreachable-requires : goal.unreachable-requires
unreachable-requires c = c.in-Err.ensures.cases.0 (word-text c.args.word.now c.requires)
