-- What is handed from actor to actor fits what the kinds need.
use Rattle.std.specs.Prelude.{List}
use Rattle.std.specs.List.{AllByRecursion}
use Rattle.caf_message.specs.Entries.{entry_shape}
use Rattle.caf_message.specs.Envelope.{EnvelopeFits, plain_envelope}
use Rattle.caf_message.specs.declared.envelope.Envelope.{Envelope}
use Rattle.caf_actor.specs.Actor.{ActorState, CachesFit, DelaysFit}
use Rattle.caf_actor.specs.declared.post.Post.{Post}
use Rattle.caf_kinds.specs.Core.{core_entries}
use Rattle.caf_kinds.specs.declared.kind.Kind.{Kind}

abbrev pub IsFitting : Envelope → Type 0
IsFitting e = EnvelopeFits (entry_shape core_entries) (plain_envelope e)

abbrev pub AreFitting : List Post → Type 0
AreFitting posts = AllByRecursion (λ (p : Post). IsFitting p.envelope) posts

-- what the actor keeps fits
pub record KeepsFitting (a : ActorState Kind) : Type 0 where
  pub caches : CachesFit (entry_shape core_entries) a.snapshot.caches
  pub delays : DelaysFit (entry_shape core_entries) a.snapshot.delays
