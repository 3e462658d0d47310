-- A station, as its actor takes a batch.
use Rattle.std.proofs.Common.{◌≡◌, ◌≢◌, List, [], ◌∷◌, ◌++◌, map, Option, Some, None, false, refl, ap, sym, ◌∙◌, subst, append_assoc}
use Rattle.std.specs.Prelude.{MatchOption, IfSome}
use Rattle.std.proofs.lemmas.List.{append-nil}
use Rattle.std.specs.List.{AllByRecursion}
use Rattle.caf_message.specs.declared.envelope.Taken.{Taken}
use Rattle.caf_message.specs.Entries.{TableEntries, entry_shape}
use Rattle.caf_mailbox.proofs.NextLemmas.{all_append}
use Rattle.caf_actor.specs.declared.journal.TakenBatch.{TakenBatch}
use Rattle.caf_actor.specs.declared.snapshot.Snapshot.{Snapshot}
use Rattle.caf_actor.specs.Actor.{ActorState, CachesFit, DelaysFit}
use Rattle.caf_actor.specs.Drain.{stamp_due, batch_of}
use Rattle.caf_actor.specs.PlainPost.{PlainPost}
use Rattle.caf_actor.specs.Record.{Machine, machine_of, joined, after, sent, AreStamped, to_place}
use Rattle.caf_actor.specs.Rules.{Rules}
use Rattle.caf_actor.proofs.StampLemmas.{place_stays, posts_of_place, IsPostOf}
use Rattle.caf_record.proofs.BatchLemmas.{joined_one, after_append, sent_append, stamped_append}
use Rattle.caf_inbox.specs.Ends.{LaneSeen}
use Rattle.caf_inbox.specs.Senders.{AreFrom}
use Rattle.caf_driver.specs.Population.{HasPlayed}
use Rattle.caf_driver.specs.Driver.{HasCounted}
use Rattle.caf_driver.proofs.TakenLemmas.{all_through}
use Rattle.caf_driver.proofs.TurnLemmas.{played_counted}
use Rattle.caf_system.specs.Station.{StationSeen, AreLanesOf, IsStation, HasSent, GoesOn}
use Rattle.caf_system.proofs.SendingLemmas.{none_sent, sent_then, sent_same, own_still}

-- ---- answers that may be none

pub of_some : {A : Type 0} (P : Type 0) (Q : A → Type 0) (o : Option A) (x : A) → o ≡ Some x → MatchOption o P Q → Q x
of_some P Q o x e h = subst (λ a. MatchOption a P Q) e h

pub of_if_some : {A : Type 0} (Q : A → Type 0) (o : Option A) (x : A) → o ≡ Some x → IfSome o Q → Q x
of_if_some Q o x e h = subst (λ a. IfSome a Q) e h

pub of_none : {A : Type 0} (P : Type 0) (Q : A → Type 0) (o : Option A) → ((x : A) → o ≡ Some x → ⊥) → MatchOption o P Q → P
of_none P Q None never h = h
of_none P Q (Some x) never h = absurd (never x refl)

pub map_filled : {A B : Type 0} (f : A → B) (xs : List A) → xs ≢ [] → map f xs ≢ []
map_filled f [] filled e = filled refl
map_filled f (x ∷ xs) filled e = cc

module _ {S : Type 0} (rules : Rules S) where
  abbrev m : Machine (Snapshot S)
  m = machine_of rules

  -- ---- how stations go on

  -- the actor and the lanes as they were
  pub goes_nowhere : (old new : StationSeen S) → new.actor ≡ old.actor → new.lanes ≡ old.lanes → new.reader.inbox ≡ old.reader.inbox → new.reader.senders ≡ old.reader.senders → GoesOn rules old new
  goes_nowhere old new same lanes inbox senders = record {
    more = [];
    journal = ap (λ (a : ActorState S). a.journal) same ∙ sym (append-nil old.actor.journal);
    filled = tt;
    stamped = tt;
    snapshot = ap (λ (a : ActorState S). a.snapshot) same;
    lanes = subst (λ ls. HasSent old.lanes (sent m old.actor.snapshot []) ls) (sym lanes) (none_sent old.lanes);
    inbox = inbox;
    senders = senders;
    counted = λ first h. subst (λ a. HasCounted first m a) (sym same) h;
  }

  pub goes_on_from : (first then last : StationSeen S) → GoesOn rules first then → GoesOn rules then last → GoesOn rules first last
  goes_on_from first then last h k = record {
    more = h.more ++ k.more;
    journal = k.journal ∙ ap (λ bs. bs ++ k.more) h.journal ∙ append_assoc first.actor.journal h.more k.more;
    filled = all_append (λ (b : TakenBatch). b.taken ≢ []) h.more k.more h.filled k.filled;
    stamped = stamped_append m first.actor.snapshot h.more k.more h.stamped (subst (λ s. AreStamped m s k.more) h.snapshot k.stamped);
    snapshot = k.snapshot ∙ ap (λ s. after m s k.more) h.snapshot ∙ sym (after_append m first.actor.snapshot h.more k.more);
    lanes = sent_same first.lanes last.lanes (λ b. sent m first.actor.snapshot h.more b ++ sent m then.actor.snapshot k.more b) (sent m first.actor.snapshot (h.more ++ k.more))
        (λ b. ap (λ s. sent m first.actor.snapshot h.more b ++ sent m s k.more b) h.snapshot ∙ sym (sent_append m first.actor.snapshot h.more k.more b))
        (sent_then first.lanes then.lanes last.lanes (sent m first.actor.snapshot h.more) (sent m then.actor.snapshot k.more) h.lanes k.lanes);
    inbox = k.inbox ∙ h.inbox;
    senders = k.senders ∙ h.senders;
    counted = λ one c. k.counted one (h.counted one c);
  }

  -- ---- a batch

  module _ (es : List Taken) (old new : StationSeen S) (filled : es ≢ []) (played : HasPlayed rules es old.actor new.actor)
      (pushed : HasSent old.lanes (λ b. to_place b (batch_of rules old.actor.snapshot es).posts) new.lanes)
      (inbox : new.reader.inbox ≡ old.reader.inbox) (senders : new.reader.senders ≡ old.reader.senders) where
    abbrev batch : TakenBatch
    batch = record { stamp = stamp_due old.actor.snapshot.stamp es; taken = es }

    pub goes_on_by : GoesOn rules old new
    goes_on_by = record {
      more = batch ∷ [];
      journal = played.journal;
      filled = (filled, tt);
      stamped = (refl, tt);
      snapshot = played.snapshot;
      lanes = sent_same old.lanes new.lanes (λ b. to_place b (batch_of rules old.actor.snapshot es).posts) (sent m old.actor.snapshot (batch ∷ []))
          (λ b. ap (to_place b) (sym (append-nil (batch_of rules old.actor.snapshot es).posts))) pushed;
      inbox = inbox;
      senders = senders;
      counted = played_counted rules (λ p. old.actor.snapshot) es old.actor new.actor played;
    }

    pub station_after : (entries : TableEntries) → IsStation entries old → old.held ≡ [] → new.held ≡ [] → new.actor.is_broken ≡ false
        → new.reader.taken ≡ old.reader.taken ++ es → AreFrom new.reader.senders es
        → CachesFit (entry_shape entries) new.actor.snapshot.caches → DelaysFit (entry_shape entries) new.actor.snapshot.delays → IsStation entries new
    station_after entries h none still whole taken from caches delays = record {
      whole = whole;
      caches = caches;
      delays = delays;
      taken = taken
          ∙ ap (λ ts. ts ++ es) (h.taken ∙ ap (λ ts. joined old.actor.journal ++ ts) none ∙ append-nil (joined old.actor.journal))
          ∙ sym (ap joined played.journal ∙ joined_one old.actor.journal batch)
          ∙ sym (append-nil (joined new.actor.journal)) ∙ ap (λ ts. joined new.actor.journal ++ ts) (sym still);
      known = subst (λ ts. AreFrom new.reader.senders ts) (sym taken) (all_append (λ (e : Taken). _) old.reader.taken es (subst (λ ss. AreFrom ss old.reader.taken) (sym senders) h.known) from);
      lanes = subst (λ p. AreLanesOf p new.lanes) (sym (ap (λ (s : Snapshot S). s.place) played.snapshot ∙ place_stays rules old.actor.snapshot es))
          (own_still old.actor.snapshot.place old.lanes new.lanes (λ b. to_place b (batch_of rules old.actor.snapshot es).posts) h.lanes pushed);
    }

  pub station_idle : (old new : StationSeen S) → (entries : TableEntries) → IsStation entries old → new.actor ≡ old.actor → new.lanes ≡ old.lanes → new.held ≡ old.held → new.reader.senders ≡ old.reader.senders
      → new.reader.taken ≡ old.reader.taken → IsStation entries new
  station_idle old new entries h same lanes held senders taken = record {
    whole = ap (λ (a : ActorState S). a.is_broken) same ∙ h.whole;
    caches = subst (λ (a : ActorState S). CachesFit (entry_shape entries) a.snapshot.caches) (sym same) h.caches;
    delays = subst (λ (a : ActorState S). DelaysFit (entry_shape entries) a.snapshot.delays) (sym same) h.delays;
    taken = taken ∙ h.taken ∙ ap (λ (a : ActorState S). joined a.journal ++ old.held) (sym same) ∙ ap (λ ts. joined new.actor.journal ++ ts) (sym held);
    known = subst (λ ts. AreFrom new.reader.senders ts) (sym taken) (subst (λ ss. AreFrom ss old.reader.taken) (sym senders) h.known);
    lanes = subst (λ ls. AreLanesOf new.actor.snapshot.place ls) (sym lanes) (subst (λ (a : ActorState S). AreLanesOf a.snapshot.place old.lanes) (sym same) h.lanes);
  }

  -- what a batch makes is posted by the station's own sender
  pub own_posts : (s : Snapshot S) (es : List Taken) (lanes : List LaneSeen) → AreLanesOf s.place lanes
      → AllByRecursion (λ (p : PlainPost). AreLanesOf p.envelope.sender lanes) (batch_of rules s es).posts
  own_posts s es lanes own =
      all_through (IsPostOf s.place (stamp_due s.stamp es)) (λ (p : PlainPost). AreLanesOf p.envelope.sender lanes)
      (λ p of. subst (λ a. AreLanesOf a lanes) (sym of.0) own) (batch_of rules s es).posts (posts_of_place rules s es)

  -- ---- what is held back

  pub station_holding : (es : List Taken) (old new : StationSeen S) → (entries : TableEntries) → IsStation entries old → new.actor ≡ old.actor → new.lanes ≡ old.lanes → new.reader.senders ≡ old.reader.senders
      → old.held ≡ [] → new.held ≡ es → new.reader.taken ≡ old.reader.taken ++ es → AreFrom new.reader.senders es → IsStation entries new
  station_holding es old new entries h same lanes senders none held taken from = record {
    whole = ap (λ (a : ActorState S). a.is_broken) same ∙ h.whole;
    caches = subst (λ (a : ActorState S). CachesFit (entry_shape entries) a.snapshot.caches) (sym same) h.caches;
    delays = subst (λ (a : ActorState S). DelaysFit (entry_shape entries) a.snapshot.delays) (sym same) h.delays;
    taken = taken
        ∙ ap (λ ts. ts ++ es) (h.taken ∙ ap (λ ts. joined old.actor.journal ++ ts) none ∙ append-nil (joined old.actor.journal))
        ∙ ap (λ (a : ActorState S). joined a.journal ++ es) (sym same) ∙ ap (λ ts. joined new.actor.journal ++ ts) (sym held);
    known = subst (λ ts. AreFrom new.reader.senders ts) (sym taken) (all_append (λ (e : Taken). _) old.reader.taken es (subst (λ ss. AreFrom ss old.reader.taken) (sym senders) h.known) from);
    lanes = subst (λ ls. AreLanesOf new.actor.snapshot.place ls) (sym lanes) (subst (λ (a : ActorState S). AreLanesOf a.snapshot.place old.lanes) (sym same) h.lanes);
  }
