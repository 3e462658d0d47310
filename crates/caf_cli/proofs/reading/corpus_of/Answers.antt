use Rattle.std.proofs.Common.{ap}
use Rattle.std.specs.Prelude.{Err}
use Rattle.caf_corpus.specs.declared.corpus.CorpusFault.{CorpusFault}
use Rattle.caf_cli.proofs.reading.corpus_of.Goals as goal

pub returns-in-Err-Read-clause-refused : goal.returns-in-Err-Read-clause-refused
returns-in-Err-Read-clause-refused g c = (c.in-Err-Read.ensures.read c.in-Err-Read.name (ap (λ (why : CorpusFault). Err why) c.in-Err-Read.field-0-is)).0
