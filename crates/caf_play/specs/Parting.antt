-- The parts of the actors of a run that is over.
use Rattle.std.specs.Prelude.{◌≡◌, ℕ, ◌+◌, List, length, map}
use Rattle.std.specs.List.{AllByRecursion}
use Rattle.caf_actor.specs.Actor.{ActorState}
use Rattle.caf_actor.specs.Record.{cut_in}
use Rattle.caf_record.specs.RunRecord.{journal_at}
use Rattle.caf_kinds.specs.declared.kind.Kind.{Kind}
use Rattle.caf_play.specs.declared.played.PlayEnd.{PlayEnd}
use Rattle.caf_play.specs.declared.played.Played.{Played}

abbrev pub kinds_of : List (ActorState Kind) → List Kind
kinds_of actors = map (λ a. a.snapshot.behavior) actors

-- those of the setups and a conductor, each of which began with the stamp 0
pub record HasParted (setups : ℕ) (actors : List (ActorState Kind)) (e : PlayEnd) (played : Played) : Type 0 where
  pub end : played.end ≡ e
  pub kinds : played.kinds ≡ kinds_of actors
  pub journals : played.kept.journals ≡ map (λ a. a.journal) actors
  pub starts : length played.kept.starts ≡ length actors
  pub zeros : AllByRecursion (λ stamp. stamp ≡ 0) played.kept.starts
  pub cut : played.kept.cut ≡ cut_in (journal_at (map (λ a. a.journal) actors) 0)
  pub count : length actors ≡ setups + 1
