use Rattle.caf_cli.proofs.PlayLemmas.{is_play}
use Rattle.caf_cli.proofs.TableLemmas.{has_entries}
use Rattle.caf_types.specs.TypeTable.{seen}
use Rattle.caf_cli.proofs.playing.play_over.Goals as goal

pub play-requires-clause-entries : goal.play-requires-clause-entries
play-requires-clause-entries c = has_entries (seen c.args.table.now) c.requires.table

pub returns : goal.returns
returns c =
    let all = c.play.ensures in
    is_play c.args.scenario.now c.args.files c.args.budget c.play.result c.requires.opens.few
    all.legal all.complete all.ticks all.budget all.exhausted all.kinds all.starts all.known all.count
