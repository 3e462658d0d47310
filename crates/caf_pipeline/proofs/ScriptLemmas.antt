-- At rest the conductor of an undisturbed run has played its script, and each part is still of its kind.
use Rattle.std.proofs.Common.{◌≡◌, ℕ, suc, ◌+◌, ◌<◌, Bool, true, false, List, [], ◌∷◌, ◌++◌, Option, Some, None, inl, inr, refl, sym, subst, ap, ◌∙◌, arith}
use Rattle.std.specs.Prelude.{◌⊎◌, Contains, bytes_eq}
use Rattle.std.specs.List.{AllByRecursion}
use Rattle.std.proofs.lemmas.List.Elements.{Contains-append_right, Contains-append_cases}
use Rattle.caf_index.proofs.ContainsLemmas.{contains-none, contains-cases}
use Rattle.caf_words.specs.Several.{ids_of}
use Rattle.caf_mailbox.specs.Caches.{nothing_cached}
use Rattle.caf_mailbox.proofs.NextLemmas.{all_append}
use Rattle.caf_message.specs.Content.{ids_in}
use Rattle.caf_message.specs.Envelope.{start_envelope}
use Rattle.caf_message.specs.declared.envelope.Taken.{Taken}
use Rattle.caf_record.proofs.ListLemmas.{all_left, all_right}
use Rattle.caf_record.proofs.StampedLemmas.{has_stamps}
use Rattle.caf_response.specs.declared.pending.Waiting.{Waiting}
use Rattle.caf_response.specs.Pending.{WaitingRequests}
use Rattle.caf_actor.specs.Handling.{response_input}
use Rattle.caf_actor.specs.PlainInput.{PlainInput, Start, Response, Failed}
use Rattle.caf_actor.specs.Record.{Kept, machine_of, IsAtRest, ends, joined}
use Rattle.caf_actor.specs.Run.{Turn}
use Rattle.caf_actor.specs.declared.journal.TakenBatch.{TakenBatch}
use Rattle.caf_actor.specs.declared.snapshot.Snapshot.{Snapshot}
use Rattle.caf_script.specs.Reply as reply
use Rattle.caf_script.specs.Reply.{Reply}
use Rattle.caf_script.specs.Script.{goes_on, answered, answered_at, step_of}
use Rattle.caf_script.specs.Script as script
use Rattle.caf_script.specs.declared.script.Script.{Script}
use Rattle.caf_kinds.specs.Conductor.{Conducting, plays}
use Rattle.caf_kinds.specs.FileChunks.{all_chunks}
use Rattle.caf_kinds.specs.Kinds.{kind_rules, name_of}
use Rattle.caf_kinds.specs.Planning.{conductor_of}
use Rattle.caf_kinds.specs.Setups.{setup_at}
use Rattle.caf_kinds.specs.Starting.{started, who_of}
use Rattle.caf_kinds.specs.Who.{Who}
use Rattle.caf_kinds.specs.declared.kind.Kind.{Kind}
use Rattle.caf_kinds.specs.declared.kind.Kind.TheVariants as kind
use Rattle.caf_kinds.specs.declared.script.Step.{Step}
use Rattle.caf_kinds.specs.declared.setup.KindName.{KindName}
use Rattle.caf_kinds.specs.declared.setup.KindName.TheVariants as name
use Rattle.caf_kinds.specs.declared.setup.Setup.{Setup}
use Rattle.caf_opening.specs.Opening.{conductor_at_0, who_conducts}
use Rattle.caf_steady.specs.Outline.{Outline, Outlined, outline_of, with_outline}
use Rattle.caf_steady.specs.Reading.{react, read, in_turn, all_in_turn}
use Rattle.caf_steady.specs.Steady.{Brings, HasRead, IsSteady, reading}
use Rattle.caf_steady.proofs.ClassLemmas.{steady_behavior}
use Rattle.caf_steady.proofs.ReadingLemmas.{brought_in_turn, reads_in_turn}
use Rattle.caf_pipeline.specs.Contents.{comes}
use Rattle.caf_pipeline.specs.Flow.{IsUndisturbedRecord}
use Rattle.caf_pipeline.proofs.ArrivalLemmas.{all_turns_have}
use Rattle.caf_pipeline.proofs.CollectedLemmas.{brought, steady, starts}
use Rattle.caf_pipeline.proofs.ConductedLemmas.{IsConducted, without_request, all_conducted}
use Rattle.caf_pipeline.proofs.FirstLemmas.{starts_first}
use Rattle.caf_pipeline.proofs.IdleLemmas.{is_part, HasPlayed, goes_nowhere, resolved_plan}
use Rattle.caf_pipeline.proofs.ListLemmas.{got_at}
use Rattle.caf_pipeline.proofs.NameLemmas.{after_named}
use Rattle.caf_pipeline.proofs.PlaceLemmas.{setup_from_1, at_each_place}
use Rattle.caf_pipeline.proofs.ReadLemmas.{outputs_same}
use Rattle.caf_pipeline.proofs.SenderLemmas.{all_turns_had}
use Rattle.caf_pipeline.proofs.SentLemmas.{script_is_sent}

-- ---- a conductor with nothing left to play

abbrev pub Anything : List Reply → WaitingRequests → Type 0
Anything rs w = Unit {0}

abbrev pub PlayedOut : Outlined Kind → Type 0
PlayedOut o = HasPlayed Anything o.outline.behavior o.outline.pending

played_at : (o : Outlined Kind) (i : PlainInput) (c : Conducting) → kind_rules.next o.outline.behavior i ≡ kind.Conductor c → c.script.plan ≡ [] → PlayedOut (react kind_rules o i)
played_at o i c next none =
    record { conducting = c; is = outputs_same (with_outline o (record o.outline { behavior = kind_rules.next o.outline.behavior i })) (kind_rules.reaction o.outline.behavior i).outputs ∙ next; none_left = none; known = tt }

plays_out : (o : Outlined Kind) (i : PlainInput) (next : Script) (h : PlayedOut o) → kind_rules.next (kind.Conductor h.conducting) i ≡ kind.Conductor (plays h.conducting (goes_on next)).0 → next.plan ≡ [] → PlayedOut (react kind_rules o i)
plays_out o i next h leads none =
    played_at o i (plays h.conducting (next, [])).0
    (ap (λ (x : Kind). kind_rules.next x i) h.is ∙ leads ∙ ap (λ (p : script.Played). kind.Conductor (plays h.conducting p).0) (goes_nowhere next none)) none

pub answered_plan : (s : Script) (o : Option ℕ) (words : List ℕ) → (answered_at s o words).plan ≡ s.plan
answered_plan s None words = refl
answered_plan s (Some step) words = refl

value_played : (o : Outlined Kind) (tag : ℕ) (words : List ℕ) → PlayedOut o → PlayedOut (react kind_rules o (Response tag words))
value_played o tag words h = plays_out o (Response tag words) (answered h.conducting.script tag words) h refl (answered_plan h.conducting.script (step_of tag) words ∙ h.none_left)

error_played : (o : Outlined Kind) (tag : ℕ) (sec : _) → PlayedOut o → PlayedOut (react kind_rules o (Failed tag sec))
error_played o tag sec h = plays_out o (Failed tag sec) (script.resolved h.conducting.script tag (reply.Failed sec)) h refl (resolved_plan h.conducting.script (step_of tag) (reply.Failed sec) ∙ h.none_left)

pub played_out : IsConducted (λ e. Unit {0}) PlayedOut
played_out = record {
  on_start = λ o h. plays_out o Start h.conducting.script h refl h.none_left;
  on_value = λ o e words found h q body response f. answer (without_request o found.1) found.0 words (record { conducting = h.conducting; is = h.is; none_left = h.none_left; known = tt });
  on_error = λ o e sec found h q body f. error_played (without_request o found.1) found.0.tag sec (record { conducting = h.conducting; is = h.is; none_left = h.none_left; known = tt });
}
  where
    answer : (o : Outlined Kind) (w : Waiting) (words : List ℕ) → PlayedOut o → PlayedOut (react kind_rules o (response_input w words))
    answer o w words h = go (bytes_eq (ids_of w.expected) (ids_in words)) refl
      where
        go : (b : Bool) → bytes_eq (ids_of w.expected) (ids_in words) ≡ b → PlayedOut (react kind_rules o (response_input w words))
        go true q = rw q (value_played o w.tag words h)
        go false q = rw q (error_played o w.tag _ h)

pub any_envelopes : (es : List Taken) → AllByRecursion (λ (e : Taken). Unit {0}) es
any_envelopes [] = tt
any_envelopes (e ∷ es) = (tt, any_envelopes es)

-- ---- kinds

name_started : (who : Who) (s : Setup) (setups : List Setup) (steps : List Step) (own : List (List ℕ)) (k : KindName) → name_of (started who s setups steps own k) ≡ k
name_started who s setups steps own name.Echo = refl
name_started who s setups steps own name.Cell = refl
name_started who s setups steps own name.Calc = refl
name_started who s setups steps own name.Holder = refl
name_started who s setups steps own name.Quitter = refl
name_started who s setups steps own name.Source = refl
name_started who s setups steps own name.Relay = refl
name_started who s setups steps own name.Counter = refl
name_started who s setups steps own name.Lines = refl
name_started who s setups steps own name.Collector = refl
name_started who s setups steps own name.Watcher = refl
name_started who s setups steps own name.Spawner = refl
name_started who s setups steps own name.Alarm = refl
name_started who s setups steps own name.Conductor = refl

-- ---- a record at rest

module _ (setups : List Setup) (steps : List Step) (files : List (List ℕ)) (ticks : ℕ) (k : Kept (Snapshot Kind)) (ts : List Turn) (is : IsUndisturbedRecord setups steps files ticks k ts) where
  abbrev pub mayAt : ℕ → PlainInput → Bool
  mayAt q = comes setups (all_chunks files) q

  pub read_any : (q : ℕ) → q < k.places → HasRead kind_rules (mayAt q) (k.start q) (k.journal q)
  read_any q low =
      let begun = steady setups steps files ticks k ts is q low in
      let steady_now : IsSteady kind_rules (mayAt q) (k.start q) = record { behavior = steady_behavior (comes setups (all_chunks files)) kind_rules q (k.start q).behavior begun.keeps; begun = begun.begun; here = begun.here; awaits = begun.awaits } in
      reads_in_turn kind_rules (mayAt q) (k.start q) (k.journal q) steady_now begun.empty (brought setups steps files ticks k ts is q)

  pub none_cached : (q : ℕ) → q < k.places → (ends (machine_of kind_rules) k q).caches ≡ nothing_cached
  none_cached q low = (read_any q low).handled

  pub turns_brought : (q : ℕ) (bs : List TakenBatch) → AllByRecursion (Brings (mayAt q)) (joined bs) → AllByRecursion (Brings (mayAt q)) (all_in_turn bs)
  turns_brought q [] all = tt
  turns_brought q (b ∷ bs) all =
      all_append (Brings (mayAt q)) (in_turn b.taken) (all_in_turn bs) (brought_in_turn kind_rules (mayAt q) b.taken (all_left (Brings (mayAt q)) b.taken (joined bs) all))
      (turns_brought q bs (all_right (Brings (mayAt q)) b.taken (joined bs) all))

  -- each other place has a part
  pub is_a_part : (q : ℕ) → suc q < k.places → is_part (name_of (ends (machine_of kind_rules) k (suc q)).behavior) ≡ true
  is_a_part q low =
      let places = is.opens.places in
      let got = got_at setups q (omega (arith, low, places)) in
      let s = got.0 in
      let one : setup_at setups (q + 1) ≡ Some s = setup_from_1 setups q ∙ got.1 in
      let next : q + 1 ≡ suc q = omega arith in
      let at : setup_at setups (suc q) ≡ Some s = ap (setup_at setups) (sym next) ∙ one in
      let begins = (starts setups steps files ticks k ts is (suc q) s at).behavior in
      let named : name_of (ends (machine_of kind_rules) k (suc q)).behavior ≡ s.kind =
      after_named (k.start (suc q)) (k.journal (suc q)) ∙ ap name_of begins ∙ name_started (who_of (suc q) s) s setups steps (starts setups steps files ticks k ts is (suc q) s at).own s.kind in
      let part : is_part s.kind ≡ true =
      at_each_place (λ (t : Setup). is_part t.kind ≡ true) setups is.undisturbed.pipeline is.undisturbed.actors
      (λ t so. ap is_part so.kind_is) (λ t so. ap is_part so.kind_is) (λ t so. ap is_part so.kind_is) (λ t so. ap is_part so.kind_is) (λ t so. ap is_part so.kind_is) q s got.1 in
      ap is_part named ∙ part

  -- ---- the conductor

  abbrev pub conducting : Conducting
  conducting = conductor_of who_conducts setups steps

  abbrev pub opened : Outlined Kind
  opened = record { outline = outline_of (k.start 0); sent = [] }

  pub opens_as : outline_of (k.start 0) ≡ outline_of (conductor_at_0 setups steps).snapshot
  opens_as = ap outline_of (is.opens.start 0 (conductor_at_0 setups steps) refl)

  pub record HasBegun : Type 0 where
    pub later : List TakenBatch
    pub reads : reading kind_rules (k.start 0) (k.journal 0) ≡ read kind_rules (react kind_rules opened Start) (all_in_turn later)
    pub brings : AllByRecursion (Brings (mayAt 0)) (all_in_turn later)
    pub had : (e : Taken) → Contains (all_in_turn later) e → Contains (joined (k.journal 0)) e
    pub has : (e : Taken) → Contains (joined (k.journal 0)) e → (e ≡ start_envelope) ⊎ Contains (all_in_turn later) e

  pub has_begun : IsAtRest (machine_of kind_rules) k → HasBegun
  has_begun rest =
      let first = starts_first (machine_of kind_rules) (has_stamps kind_rules) ticks k ts is.legal is.merge rest is.silent in
      record {
        later = first.later;
        reads = ap (λ (bs : List TakenBatch). reading kind_rules (k.start 0) bs) first.whole ∙ ap (λ (es : List Taken). read kind_rules opened (in_turn es ++ all_in_turn first.later)) first.taken;
        brings = turns_brought 0 first.later
            (all_right (Brings (mayAt 0)) first.first.taken (joined first.later) (subst (λ (bs : List TakenBatch). AllByRecursion (Brings (mayAt 0)) (joined bs)) first.whole (brought setups steps files ticks k ts is 0)));
        had = λ e in_later.
            subst (λ (bs : List TakenBatch). Contains (joined bs) e) (sym first.whole)
            (Contains-append_right first.first.taken (joined first.later) e (all_turns_had first.later e in_later));
        has = λ e there. elim (Contains-append_cases first.first.taken (joined first.later) e (subst (λ (bs : List TakenBatch). Contains (joined bs) e) first.whole there)) [
          | inl here ↦ elim (contains-cases start_envelope e [] (subst (λ (es : List Taken). Contains es e) first.taken here)) [ inl is_it ↦ inl (sym is_it) | inr none ↦ absurd (contains-none e none) ]
          | inr in_later ↦ inr (all_turns_have first.later e in_later)
        ];
      }

  pub starts_played : PlayedOut (react kind_rules opened Start)
  starts_played =
      played_at opened Start (plays conducting (goes_on conducting.script)).0 (ap (λ (l : Outline Kind). kind_rules.next l.behavior Start) opens_as) (script_is_sent who_conducts setups steps is.undisturbed).none_left

  pub conductor_played : IsAtRest (machine_of kind_rules) k → 0 < k.places → HasPlayed Anything (ends (machine_of kind_rules) k 0).behavior (ends (machine_of kind_rules) k 0).pending
  conductor_played rest low =
      let begun = has_begun rest in
      let played = all_conducted setups (all_chunks files) (λ e. Unit {0}) PlayedOut played_out (react kind_rules opened Start) (all_in_turn begun.later) begun.brings (any_envelopes (all_in_turn begun.later)) starts_played in
      let stands : outline_of (ends (machine_of kind_rules) k 0) ≡ (read kind_rules (react kind_rules opened Start) (all_in_turn begun.later)).outline = (read_any 0 low).stands ∙ ap (λ (o : Outlined Kind). o.outline) begun.reads in
      subst (λ (l : Outline Kind). HasPlayed Anything l.behavior l.pending) (sym stands) played
