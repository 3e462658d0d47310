-- The machine of a behaviour has stamps.
use Rattle.std.proofs.Common.{◌≡◌, ℕ, List, [], ◌∷◌}
use Rattle.std.specs.List.{AllByRecursion}
use Rattle.caf_actor.specs.PlainPost.{PlainPost}
use Rattle.caf_actor.specs.Rules.{Rules}
use Rattle.caf_actor.specs.Record.{machine_of}
use Rattle.caf_actor.proofs.StampLemmas.{IsPostOf, posts_of_place, taken_before, stamp_rises, stamp_after}
use Rattle.caf_record.proofs.StandsLemmas.{HasStamps}

stamps_of : (place stamp : ℕ) (ps : List PlainPost) → AllByRecursion (IsPostOf place stamp) ps → AllByRecursion (λ p. p.envelope.stamp ≡ stamp) ps
stamps_of place stamp [] h = tt
stamps_of place stamp (p ∷ ps) h = (h.0.1, stamps_of place stamp ps h.1)

pub has_stamps : {S : Type 0} (rules : Rules S) → HasStamps (machine_of rules)
has_stamps rules = record {
  posts = λ s es. stamps_of s.place _ _ (posts_of_place rules s es);
  taken = λ s es. taken_before s.stamp es;
  rises = λ s es. stamp_rises s.stamp es;
  after = λ s es. stamp_after rules s es;
}
