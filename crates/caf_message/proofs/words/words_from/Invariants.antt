use Rattle.std.proofs.Common.{◌≡◌, ◌+◌, ◌-◌, ◌++◌, length, drop, vec_len}
use Rattle.std.specs.Prelude.{vec_capacity}
use Rattle.caf_steps.specs.declared.reference.Reference.{Reference}
use Rattle.caf_steps.specs.Reference.{looked}
use Rattle.caf_message.proofs.words.words_from.Given as goal

-- the words read so far, and those that are left
abbrev pub invariant-loop-i : goal.invariant-loop-i
invariant-loop-i l = record {
  content : l.tuple.content ≡ l.initial.tuple.content;
  words : l.words.items ++ drop l.i l.initial.tuple.content ≡ drop l.first l.initial.tuple.content;
  count : vec_len l.words + l.first ≡ l.i;
  room : vec_capacity l.words ≡ length l.initial.tuple.content - l.first;
  looked : (r : Reference) → l.initial.tuple ≡ looked l.first r → l.tuple ≡ looked l.i r;
}
