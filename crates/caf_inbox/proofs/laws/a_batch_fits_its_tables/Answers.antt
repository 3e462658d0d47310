use Rattle.std.proofs.Common.{ℕ, List, Option}
use Rattle.caf_types.specs.ShapeTree.{ShapeTree}
use Rattle.caf_types.specs.Table.{shape_at}
use Rattle.caf_message.specs.Entries.{entry_shape}
use Rattle.caf_message.specs.Envelope.{BodyFits, EnvelopeFits}
use Rattle.caf_message.specs.Fits.{Fits}
use Rattle.caf_message.specs.declared.envelope.Plain.{Plain}
use Rattle.caf_message.specs.declared.envelope.Plain.TheVariants.{Content, Failure, System}
use Rattle.caf_inbox.proofs.ListLemmas.{all_weaker}
use Rattle.caf_inbox.proofs.laws.a_batch_fits_its_tables.Goals as goal

body_fits : (s t : ℕ → Option ShapeTree) → ((words : List ℕ) → Fits s words → Fits t words) → (b : Plain) → BodyFits s b → BodyFits t b
body_fits s t f (Content words) h = f words h
body_fits s t f (Failure sec) h = tt
body_fits s t f (System what) h = tt

pub returns : goal.returns
returns c table entries batch has h =
    all_weaker (EnvelopeFits (entry_shape entries)) (EnvelopeFits (shape_at table))
    (λ e k. body_fits (entry_shape entries) (shape_at table) (λ words w. c.entries_fit_their_tables.ensures table entries words has w) e.body k) batch h
