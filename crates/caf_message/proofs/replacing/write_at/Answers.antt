use Rattle.std.proofs.Common.{◌≡◌, arith}
use Rattle.caf_message.proofs.StepLemmas.{wrote, left}
use Rattle.caf_message.proofs.replacing.write_at.Goals as goal

pub returns-then-word : goal.returns-then-word
returns-then-word c = wrote c.args.tuple.now c.word.new.self c.set.new.self c.args.i c.word.result c.args.word c.requires.sole c.word.ensures.step c.set.ensures

pub returns-else-word : goal.returns-else-word
returns-else-word c =
    let same : c.word.result ≡ c.args.word = omega arith in
    left c.args.tuple.now c.word.new.self c.args.i c.word.result c.args.word c.requires.sole c.word.ensures.step c.word.ensures.value same
