use Rattle.std.proofs.Common.{◌≡◌, length}
use Rattle.caf_actor.specs.PlainForms.{reached}
use Rattle.caf_actor.specs.Quitting.{all_cached, shell_all}
use Rattle.caf_actor.proofs.snapshot.Snapshot.shell_all.Given as goal

abbrev pub invariant-loop-envelope : goal.invariant-loop-envelope
invariant-loop-envelope g l =
    shell_all (reached l.self l.posts) l.reason (all_cached l.caches) ≡ shell_all (reached l.fn.self l.fn.posts) l.fn.reason (all_cached l.fn.caches)

abbrev pub decreases-loop-envelope : goal.decreases-loop-envelope
decreases-loop-envelope g l = length (all_cached l.caches)
