use Rattle.std.proofs.Common.{◌++◌, take, drop}
use Rattle.caf_message.specs.Message.{Rewrites}
use Rattle.caf_message.proofs.replacing.rewrite.Given as goal

-- the first words stand there, and behind them what stood there before
abbrev pub invariant-loop-i : goal.invariant-loop-i
invariant-loop-i l = Rewrites (take l.i l.words ++ drop l.i l.initial.tuple.content) l.initial.tuple l.tuple
