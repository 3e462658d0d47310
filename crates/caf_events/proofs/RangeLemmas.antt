-- Bytes by position and as a list, and events in range.
use Rattle.std.proofs.Common.{ℕ, suc, ◌<◌, List, [], ◌∷◌, ◌++◌, get_or}
use Rattle.caf_words.specs.Spelling.{AreBytes}
use Rattle.caf_events.specs.Event.{Event}
use Rattle.caf_events.specs.Range.{IsInRange, AreInRange}

pub bytes_are : (bs : List ℕ) → ((i : ℕ) → get_or bs i 0 < 256) → AreBytes bs
bytes_are [] h = tt
bytes_are (b ∷ bs) h = (h 0, bytes_are bs (λ i. h (suc i)))

pub range_more : (es : List Event) (e : Event) → AreInRange es → IsInRange e → AreInRange (es ++ e ∷ [])
range_more [] e h i = (i, tt)
range_more (x ∷ es) e h i = (h.0, range_more es e h.1 i)

pub range_split : (xs ys : List Event) → AreInRange (xs ++ ys) → AreInRange xs × AreInRange ys
range_split [] ys h = (tt, h)
range_split (x ∷ xs) ys h = let p = range_split xs ys h.1 in ((h.0, p.0), p.1)
