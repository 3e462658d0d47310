use Rattle.std.proofs.Common.{◌≡◌, ◌≤◌, ◌+◌, ◌*◌, true, false, take, length}
use Rattle.caf_actor.specs.Sharing.{contents_of, to_each, to_copies, retained_times, further_of}
use Rattle.caf_actor.proofs.sharing.further_messages.Given as goal

abbrev pub invariant-loop-place : goal.invariant-loop-place
invariant-loop-place l = record {
  contents : contents_of l.further.items ≡ to_each (take l.place-index l.places) l.fn.message.content;
  kept : l.message.content ≡ l.fn.message.content;
  shared : l.shares ≡ true → 4096 ≤ l.fn.message.room → length l.places ≤ 1023 →
      (l.message ≡ retained_times l.place-index l.fn.message) × (4096 ≤ l.message.room + 3 * l.place-index);
  seconds : l.shares ≡ true → 4096 ≤ l.fn.message.room → length l.places ≤ 1023 →
      l.further.items ≡ further_of l.fn.message 0 (take l.place-index l.places);
  copied : l.shares ≡ false → l.further.items ≡ to_copies (take l.place-index l.places) l.fn.message.content;
}
