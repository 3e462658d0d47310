-- What a call of a saver adds, and what a refused one leaves.
use Rattle.std.specs.Prelude.{List, ◌++◌}
use Rattle.caf_events.specs.Event.{Event}

-- the events come behind what was told before, whatever that was
pub record Tells {S : Type 0} (told : S → List Event → Type 0) (old new : S) (more : List Event) : Type 0 where
  pub after : (es : List Event) → told old es → told new (es ++ more)

-- what was told stays, and nothing is added
pub record Keeps {S : Type 0} (told : S → List Event → Type 0) (old new : S) : Type 0 where
  pub same : (es : List Event) → told old es → told new es
