use Rattle.std.proofs.Common.{◌≡◌, ◌+◌, take}
use Rattle.caf_steps.specs.Reference.{looked}
use Rattle.caf_words.specs.Several.{ids_of}
use Rattle.caf_message.specs.Content.{ids_in}
use Rattle.caf_message.proofs.words.has_types.Given as goal

-- the first IDs are those that are wanted
abbrev pub invariant-loop-i : goal.invariant-loop-i
invariant-loop-i l = record {
  same : take l.i (ids_in l.fn.tuple.content) ≡ take l.i (ids_of l.types);
  looked : l.tuple ≡ looked (l.i + 1) l.fn.tuple;
}
