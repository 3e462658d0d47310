-- All actors and what waits for them, after one of them took a batch.
use Rattle.std.proofs.Common.{◌≡◌, ℕ, zero, suc, ◌+◌, ◌<◌, ◌≤◌, ◌==◌, min, max, nat_lt, IsTrue, Bool, true, false, List, [], ◌∷◌, ◌++◌, length, slice_get, slice_set, slice_index_or, Option, Some, ap, sym, ◌∙◌, subst, arith, inl, inr, ◌⊎◌, ◌≢◌}
use Rattle.std.specs.List.{AllByRecursion}
use Rattle.std.proofs.lemmas.List.{length-set}
use Rattle.caf_types.specs.ShapeTree.{ShapeTree}
use Rattle.caf_message.specs.declared.envelope.Taken.{Taken}
use Rattle.caf_message.specs.Entries.{TableEntries, entry_shape}
use Rattle.caf_message.specs.Envelope.{EnvelopeFits}
use Rattle.caf_mailbox.proofs.NextLemmas.{all_append}
use Rattle.caf_actor.specs.Actor.{ActorState}
use Rattle.caf_actor.specs.Drain.{stamp_due}
use Rattle.caf_actor.specs.Leads.{LeadsWithin, GoesWithin, PostFits}
use Rattle.caf_actor.specs.PlainPost.{PlainPost}
use Rattle.caf_actor.specs.Record.{to_place, when}
use Rattle.caf_actor.specs.Rules.{Rules}
use Rattle.caf_actor.proofs.StampLemmas.{IsPostOf, posts_of_place, stamp_after, stamp_rises}
use Rattle.caf_record.proofs.BatchLemmas.{all_to}
use Rattle.caf_driver.specs.Mail.{waiting_in}
use Rattle.caf_driver.specs.Delivery.{HasDelivered}
use Rattle.caf_driver.specs.Population.{PopulationSeen, IsPlace, IsReady, IsSound, greatest_of, handled_by, IsPopulation, HasMade, HasTaken}
use Rattle.caf_driver.proofs.ListLemmas.{set_get}
use Rattle.caf_driver.proofs.PopulationLemmas.{greatest_set, handled_set}

-- ---- lists

pub all_through : {A : Type 0} (P Q : A → Type 0) → ((x : A) → P x → Q x) → (xs : List A) → AllByRecursion P xs → AllByRecursion Q xs
all_through P Q f [] all = tt
all_through P Q f (x ∷ xs) all = (f x all.0, all_through P Q f xs all.1)

pub found : {A : Type 0} (xs : List A) (i : ℕ) (x : A) → x ≡ slice_index_or xs i x → i < length xs → slice_get xs i ≡ Some x
found [] i x e lt = absurd (omega arith)
found (y ∷ xs) zero x e lt = ap Some (sym e)
found (y ∷ xs) (suc i) x e lt = found xs i x e (omega arith)

-- ---- posts

pub less_of : (a b : ℕ) → IsTrue (nat_lt a b) → a < b
less_of a b h = grind (arith)

pub goes_to : (n : ℕ) (ps : List PlainPost) → AllByRecursion (GoesWithin (IsPlace n)) ps → AllByRecursion (λ (p : PlainPost). p.to < n) ps
goes_to n ps all = all_through (GoesWithin (IsPlace n)) (λ (p : PlainPost). p.to < n) (λ p h. less_of p.to n h.to) ps all

module _ (shape_of : ℕ → Option ShapeTree) (n latest : ℕ) where
  -- what goes to places alone, fits and has this stamp
  all_sound : (place stamp : ℕ) → stamp ≤ latest → (ps : List PlainPost) → AllByRecursion (GoesWithin (IsPlace n)) ps → AllByRecursion (PostFits shape_of) ps → AllByRecursion (IsPostOf place stamp) ps → AllByRecursion (λ p. IsSound shape_of n latest p.envelope) ps
  all_sound place stamp le [] goes fits of = tt
  all_sound place stamp le (p ∷ ps) goes fits of =
      let is : p.envelope.stamp ≡ stamp = of.0.1 in
      (record { fits = fits.0; leads = goes.0.leads; stamp = omega arith }, all_sound place stamp le ps goes.1 fits.1 of.1)

  pub later_sound : (before : ℕ) → before ≤ latest → (es : List Taken) → AllByRecursion (IsSound shape_of n before) es → AllByRecursion (IsSound shape_of n latest) es
  later_sound before le es all = all_through (IsSound shape_of n before) (IsSound shape_of n latest) (λ e h. let low = h.stamp in record { fits = h.fits; leads = h.leads; stamp = omega arith }) es all

-- ---- the batch

module _ {S : Type 0} (valid : S → Type 0) (rules : Rules S) (entries : TableEntries) (old new : PopulationSeen S) (place : ℕ) (es : List Taken) (before after : ActorState S) (posts : List PlainPost) (stamp left : ℕ)
    (h : IsPopulation valid rules entries old) (at : slice_get old.actors place ≡ Some before) (actors : new.actors ≡ slice_set old.actors place after)
    (made : HasMade valid rules entries es before after posts stamp left) (leads : AllByRecursion (LeadsWithin (IsPlace (length old.actors))) es) where
  pub ready_before : IsReady valid rules entries (length old.actors) place before
  ready_before = h.ready place before at

  ready_after : IsReady valid rules entries (length old.actors) place after
  ready_after = made.ready (length old.actors) place ready_before leads

  pub goes_now : AllByRecursion (GoesWithin (IsPlace (length old.actors))) posts
  goes_now = made.goes (length old.actors) place ready_before leads

  same_length : length new.actors ≡ length old.actors
  same_length = ap length actors ∙ length-set old.actors place after

  due : stamp ≡ stamp_due before.snapshot.stamp es
  due = made.same_stamp ∙ ap (λ s. s.stamp) made.played.snapshot ∙ stamp_after rules before.snapshot es

  of_place : AllByRecursion (IsPostOf before.snapshot.place (stamp_due before.snapshot.stamp es)) posts
  of_place = subst (λ ps. AllByRecursion (IsPostOf before.snapshot.place (stamp_due before.snapshot.stamp es)) ps) (sym made.same_posts) (posts_of_place rules before.snapshot es)

  pub own_senders : AllByRecursion (λ (p : PlainPost). p.envelope.sender ≡ place) posts
  own_senders = all_through (IsPostOf before.snapshot.place (stamp_due before.snapshot.stamp es)) (λ (p : PlainPost). p.envelope.sender ≡ place) (λ p of. of.0 ∙ ready_before.place) posts of_place

  rises : before.snapshot.stamp ≤ after.snapshot.stamp
  rises =
      let low = stamp_rises before.snapshot.stamp es in
      let is = due in
      let same = made.same_stamp in
      omega arith

  module _ (delivered : HasDelivered old.mail place posts new.mail) (latest : new.latest ≡ max old.latest stamp) (handled : new.handled ≡ min (old.handled + left) 18446744073709551615) where
    ready_new : (i : ℕ) (a : ActorState S) → slice_get new.actors i ≡ Some a → IsReady valid rules entries (length old.actors) i a
    ready_new i a q = go (set_get old.actors place i after a (ap (λ xs. slice_get xs i) (sym actors) ∙ q))
      where
        go : ((i ≡ place) × (a ≡ after)) ⊎ ((i ≢ place) × (slice_get old.actors i ≡ Some a)) → IsReady valid rules entries (length old.actors) i a
        go (inl here) = subst (λ k. IsReady valid rules entries (length old.actors) k a) (sym here.0) (subst (λ x. IsReady valid rules entries (length old.actors) place x) (sym here.1) ready_after)
        go (inr there) = h.ready i a there.1

    sound_new : (a b : ℕ) → AllByRecursion (IsSound (entry_shape entries) (length old.actors) new.latest) (waiting_in new.mail a b)
    sound_new a b =
        let low : old.latest ≤ new.latest = omega arith in
        let P = IsSound (entry_shape entries) (length old.actors) new.latest in
        subst (λ xs. AllByRecursion P xs) (sym (delivered.waiting a b))
        (all_append P (waiting_in old.mail a b) (when (a == place) (to_place b posts))
        (later_sound (entry_shape entries) (length old.actors) new.latest old.latest low (waiting_in old.mail a b) (h.sound a b)) (news (a == place)))
      where
        news : (c : Bool) → AllByRecursion (IsSound (entry_shape entries) (length old.actors) new.latest) (when c (to_place b posts))
        news false = tt
        news true =
            let is = due in
            let most : stamp_due before.snapshot.stamp es ≤ new.latest = omega arith in
            all_to (IsSound (entry_shape entries) (length old.actors) new.latest) b posts
            (all_sound (entry_shape entries) (length old.actors) new.latest before.snapshot.place (stamp_due before.snapshot.stamp es) most posts goes_now (made.fits (length old.actors) place ready_before) of_place)

    pub population_taken : IsPopulation valid rules entries new
    population_taken =
        let same = sym same_length in
        record {
          some = subst (λ n. 0 < n) same h.some;
          few = let few = h.few in let is = same_length in omega arith;
          ready = subst (λ n. (i : ℕ) (a : ActorState S) → slice_get new.actors i ≡ Some a → IsReady valid rules entries n i a) same ready_new;
          mail = delivered.mail;
          boxes = delivered.places ∙ h.boxes ∙ same;
          sound = subst (λ n. (a b : ℕ) → AllByRecursion (IsSound (entry_shape entries) n new.latest) (waiting_in new.mail a b)) same sound_new;
          latest = latest ∙ (let first = h.latest in let is = made.same_stamp in let set = greatest_set old.actors place before after at rises in
              ap (λ x. max x stamp) first ∙ ap (λ x. max (greatest_of old.actors) x) is ∙ sym set) ∙ ap greatest_of (sym actors);
          handled = let first = h.handled in let sum = handled_set old.actors place before after at in let more = made.more in let is = ap handled_by actors in omega arith;
        }

    pub has_taken : HasTaken rules place es old new
    has_taken = record {
      before = before;
      at = at;
      after = after;
      actors = actors;
      played = made.played;
      waiting = λ a b. delivered.waiting a b ∙ ap (λ ps. waiting_in old.mail a b ++ when (a == place) (to_place b ps)) made.same_posts;
    }

  pub stamp_is : (a : ActorState S) → slice_get old.actors place ≡ Some a → stamp ≡ stamp_due a.snapshot.stamp es
  stamp_is a q =
      let same : Some before ≡ Some a = sym at ∙ q in
      let is : before ≡ a = cc in
      due ∙ ap (λ x. stamp_due x.snapshot.stamp es) is

pub all_leads : (shape_of : ℕ → Option ShapeTree) (n latest : ℕ) (es : List Taken) → AllByRecursion (IsSound shape_of n latest) es → AllByRecursion (LeadsWithin (IsPlace n)) es
all_leads shape_of n latest es all = all_through (IsSound shape_of n latest) (LeadsWithin (IsPlace n)) (λ e h. h.leads) es all

pub all_fits : (shape_of : ℕ → Option ShapeTree) (n latest : ℕ) (es : List Taken) → AllByRecursion (IsSound shape_of n latest) es → AllByRecursion (EnvelopeFits shape_of) es
all_fits shape_of n latest es all = all_through (IsSound shape_of n latest) (EnvelopeFits shape_of) (λ e h. h.fits) es all
