use Rattle.std.proofs.Common.{◌≡◌, ◌++◌, length}
use Rattle.caf_actor.specs.PlainForms.{reached}
use Rattle.caf_actor.specs.Sharing.{contents_of, tell_each, bodies, contents}
use Rattle.caf_actor.proofs.snapshot.Snapshot.tell_each.Given as goal

abbrev pub invariant-loop-to : goal.invariant-loop-to
invariant-loop-to g l = record {
  told : tell_each (reached l.self l.posts) l.priority (contents_of l.addressed) ≡ tell_each (reached l.fn.self l.fn.posts) l.fn.priority (contents_of l.fn.addressed);
  references : bodies l.posts ++ contents l.addressed ≡ bodies l.fn.posts ++ contents l.fn.addressed;
}

abbrev pub decreases-loop-to : goal.decreases-loop-to
decreases-loop-to g l = length l.addressed
