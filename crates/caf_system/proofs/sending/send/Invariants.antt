use Rattle.std.proofs.Common.{◌≡◌, ◌++◌, List, map}
use Rattle.std.specs.List.{AllByRecursion}
use Rattle.caf_message.specs.Entries.{entry_shape}
use Rattle.caf_actor.specs.Leads.{PostFits}
use Rattle.caf_actor.specs.PlainForms.{plain_post}
use Rattle.caf_actor.specs.PlainPost.{PlainPost}
use Rattle.caf_actor.specs.Record.{to_place}
use Rattle.caf_system.specs.Station.{AreLanesOf, HasSent}
use Rattle.caf_system.proofs.sending.send.Given as goal

abbrev pub invariant-loop-post : goal.invariant-loop-post
invariant-loop-post g l = record {
  done : List PlainPost;
  all : done ++ map plain_post l.post-iterator.rest.items ≡ map plain_post l.fn.posts.items;
  own : AllByRecursion (λ (p : PlainPost). AreLanesOf p.envelope.sender l.fn.lanes.items) (map plain_post l.post-iterator.rest.items);
  fits : AllByRecursion (PostFits (entry_shape g.B.Entries.entries)) (map plain_post l.post-iterator.rest.items);
  sent : HasSent l.fn.lanes.items (λ b. to_place b done) l.lanes.items;
}
