-- Contents that fit the needed entries fit each table that has them.
use Rattle.std.proofs.Common.{◌≡◌, ℕ, List, [], ◌∷◌, Option, Some}
use Rattle.std.specs.List.{AllByRecursion}
use Rattle.caf_types.specs.ShapeTree.{ShapeTree}
use Rattle.caf_message.specs.declared.envelope.Plain.{Plain}
use Rattle.caf_message.specs.declared.envelope.Plain.TheVariants as «plain»
use Rattle.caf_message.specs.declared.envelope.Taken.{Taken}
use Rattle.caf_message.specs.Envelope.{BodyFits, EnvelopeFits}
use Rattle.caf_message.proofs.FitsLemmas.{Fits-more}

module _ (little great : ℕ → Option ShapeTree) (more : (id : ℕ) (f : ShapeTree) → little id ≡ Some f → great id ≡ Some f) where
  body_more : (b : Plain) → BodyFits little b → BodyFits great b
  body_more («plain».Content words) h = Fits-more little great more words h
  body_more («plain».Failure sec) h = tt
  body_more («plain».System what) h = tt

  pub all_more_fit : (es : List Taken) → AllByRecursion (EnvelopeFits little) es → AllByRecursion (EnvelopeFits great) es
  all_more_fit [] h = tt
  all_more_fit (e ∷ es) h = (body_more e.body h.0, all_more_fit es h.1)
