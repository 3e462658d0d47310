-- What fits the needed entries fits the table of the kinds, and one batch keeps that.
use Rattle.std.proofs.Common.{◌≡◌, ℕ, List, [], ◌∷◌, ◌++◌, map, Some, refl}
use Rattle.std.specs.List.{AllByRecursion}
use Rattle.caf_types.specs.ShapeTree.{ShapeTree, unit}
use Rattle.caf_types.specs.Table.{Table, shape_at}
use Rattle.caf_message.specs.Entries.{entry_shape}
use Rattle.caf_message.specs.Envelope.{EnvelopeFits, BodyFits}
use Rattle.caf_message.specs.Fits.{HaveShapes}
use Rattle.caf_message.specs.declared.envelope.Plain.{Plain}
use Rattle.caf_message.specs.declared.envelope.Plain.TheVariants as «plain»
use Rattle.caf_message.specs.declared.envelope.Taken.{Taken}
use Rattle.caf_message.proofs.FitsLemmas.{Fits-more, entry_shapes_stand}
use Rattle.caf_mailbox.specs.Caches.{CachedLists}
use Rattle.caf_actor.specs.Actor.{CachesFit}
use Rattle.caf_actor.specs.Leads.{PostFits}
use Rattle.caf_actor.specs.PlainForms.{plain_post}
use Rattle.caf_actor.specs.declared.post.Post.{Post}
use Rattle.caf_kinds.specs.Core.{core, core_entries}
use Rattle.caf_kinds.specs.Laws.{core_is_needed}
use Rattle.caf_rows.specs.Fitting.{AreFitting}
use Rattle.caf_rows.proofs.CoreLemmas.{core_has}

-- the row of one atom is of the entries
pub start_known : HaveShapes (entry_shape core_entries) (206 ∷ []) (unit ∷ [])
start_known = rw (core_is_needed 206 unit refl) refl

module _ (t : Table) (same : t ≡ core) where
  grows : (id : ℕ) (f : ShapeTree) → entry_shape core_entries id ≡ Some f → shape_at t id ≡ Some f
  grows id f e = entry_shapes_stand t core_entries (core_has t same) id f e

  body_fits : (b : Plain) → BodyFits (entry_shape core_entries) b → BodyFits (shape_at t) b
  body_fits («plain».Content words) fits = Fits-more (entry_shape core_entries) (shape_at t) grows words fits
  body_fits («plain».Failure why) fits = tt
  body_fits («plain».System notice) fits = tt

  pub all_fit : (es : List Taken) → AllByRecursion (EnvelopeFits (entry_shape core_entries)) es → AllByRecursion (EnvelopeFits (shape_at t)) es
  all_fit [] all = tt
  all_fit (e ∷ es) all = (body_fits e.body all.0, all_fit es all.1)

  pub caches_fit : (lists : CachedLists) → CachesFit (entry_shape core_entries) lists → CachesFit (shape_at t) lists
  caches_fit lists fit = record { urgent = all_fit lists.urgent fit.urgent; normal = all_fit lists.normal fit.normal }

pub posts_fit : (posts : List Post) → AllByRecursion (PostFits (entry_shape core_entries)) (map plain_post posts) → AreFitting posts
posts_fit [] all = tt
posts_fit (p ∷ posts) all = (all.0, posts_fit posts all.1)

-- what holds of all holds of the last
pub last_of : {A : Type 0} (P : A → Type 0) (xs : List A) (x : A) → AllByRecursion P (xs ++ x ∷ []) → P x
last_of P [] x all = all.0
last_of P (y ∷ ys) x all = last_of P ys x all.1
