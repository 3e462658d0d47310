-- How many envelopes an undisturbed run handles: no more than its places had to begin with, which is what files and
-- script are worth.
use Rattle.std.proofs.Common.{◌≡◌, ℕ, zero, suc, ◌+◌, ◌*◌, ◌≤◌, ◌<◌, ◌==◌, Bool, true, List, [], ◌∷◌, length, map, cond, Some, refl, sym, subst, ap, ◌∙◌, arith}
use Rattle.std.specs.List.{AllByRecursion}
use Rattle.caf_mailbox.proofs.NextLemmas.{all_append}
use Rattle.caf_mailbox.specs.Caches.{CachedLists}
use Rattle.caf_record.proofs.ListLemmas.{all_left, all_right}
use Rattle.caf_response.specs.Promised.{Promised}
use Rattle.caf_actor.specs.PlainInput.{PlainInput}
use Rattle.caf_actor.specs.Record.{Kept, Machine, machine_of, joined, posted, sum_below, handled_at, handled}
use Rattle.caf_actor.specs.Run.{Turn}
use Rattle.caf_actor.specs.declared.journal.TakenBatch.{TakenBatch}
use Rattle.caf_actor.specs.declared.snapshot.Snapshot.{Snapshot}
use Rattle.caf_carriers.proofs.CountLemmas.{sum_less, sum_plus, self_same}
use Rattle.caf_kinds.specs.FileChunks.{all_chunks}
use Rattle.caf_kinds.specs.Kinds.{kind_rules}
use Rattle.caf_kinds.specs.Planning.{conductor_of}
use Rattle.caf_kinds.specs.Setups.{setup_at}
use Rattle.caf_kinds.specs.Source as source
use Rattle.caf_kinds.specs.Starting.{who_of}
use Rattle.caf_kinds.specs.declared.contents.Chunk.{Chunk}
use Rattle.caf_kinds.specs.declared.kind.Kind.{Kind}
use Rattle.caf_kinds.specs.declared.script.Step.{Step}
use Rattle.caf_kinds.specs.declared.setup.KindName.TheVariants as name
use Rattle.caf_kinds.specs.declared.setup.Setup.{Setup}
use Rattle.caf_opening.specs.Opening.{actor_at, conductor_at_0, who_conducts}
use Rattle.caf_steady.specs.Outline.{Outlined, outline_of, bare}
use Rattle.caf_steady.specs.Reading.{in_turn, all_in_turn}
use Rattle.caf_steady.specs.Steady.{Brings, IsSteady, HasRead, reading}
use Rattle.caf_steady.proofs.ClassLemmas.{steady_behavior}
use Rattle.caf_steady.proofs.ReadingLemmas.{brought_in_turn, reads_in_turn}
use Rattle.caf_pipeline.specs.Undisturbed.{Pipeline}
use Rattle.caf_pipeline.specs.Contents.{comes, comes_as}
use Rattle.caf_pipeline.specs.Flow.{IsUndisturbedRecord}
use Rattle.caf_pipeline.specs.Numbers.{enough, UndisturbedRunsAreShort, EnoughIsNeverSpent}
use Rattle.caf_pipeline.proofs.ListLemmas.{got_at}
use Rattle.caf_pipeline.proofs.PlaceLemmas.{IsSo, setup_from_1, at_each_place}
use Rattle.caf_pipeline.proofs.OpeningLemmas.{source_place, stands}
use Rattle.caf_pipeline.proofs.CollectedLemmas.{chunks, brought, steady, starts, begins_as}
use Rattle.caf_pipeline.proofs.CollectorPayLemmas.{Keeps, collector_pays}
use Rattle.caf_pipeline.proofs.ConductorPayLemmas.{Conducts, plan_cost, whole_script}
use Rattle.caf_pipeline.proofs.ConductorPayLemmas as conductor
use Rattle.caf_pipeline.proofs.PayLemmas.{Has, turns_weigh}
use Rattle.caf_pipeline.proofs.QuietLemmas.{is_quiet}
use Rattle.caf_pipeline.proofs.PriceLemmas.{price, PaysFor, all_have}
use Rattle.caf_pipeline.proofs.SourcePayLemmas.{Funds, source_pays}
use Rattle.caf_pipeline.proofs.TellerPayLemmas.{Measures, lines_pays, Relays, relay_pays, Counts, counter_pays}
use Rattle.caf_pipeline.proofs.HeavyLemmas.{heavy, sum_most}
use Rattle.caf_pipeline.proofs.BurdenLemmas.{weigh, taken_most}

turns_bring : (may : PlainInput → Bool) (bs : List TakenBatch) → AllByRecursion (Brings may) (joined bs) → AllByRecursion (Brings may) (all_in_turn bs)
turns_bring may [] all = tt
turns_bring may (b ∷ bs) all =
    all_append (Brings may) (in_turn b.taken) (all_in_turn bs) (brought_in_turn kind_rules may b.taken (all_left (Brings may) b.taken (joined bs) all))
    (turns_bring may bs (all_right (Brings may) b.taken (joined bs) all))

module _ (setups : List Setup) (script : List Step) (files : List (List ℕ)) (ticks : ℕ) (k : Kept (Snapshot Kind)) (ts : List Turn) (is : IsUndisturbedRecord setups script files ticks k ts) where
  abbrev p : Pipeline
  p = is.undisturbed.pipeline

  abbrev cs : List Chunk
  cs = all_chunks files

  abbrev m : Machine (Snapshot Kind)
  m = machine_of kind_rules

  -- ---- at first

  -- the source has its chunks, and the conductor its script
  abbrev worth : ℕ → ℕ
  worth place = cond (place == p.source) (8 * length cs + 3) 0 + cond (place == 0) (2 * length script) 0

  -- an actor that holds nothing, and has the stamp 0
  abbrev IsNew : Snapshot Kind → Type 0
  IsNew x = (x.holds ≡ []) × (x.stamp ≡ 0)

  is_new : (q : ℕ) → q < k.places → IsNew (k.start q)
  is_new zero low = subst IsNew (sym (is.opens.start 0 (conductor_at_0 setups script) refl)) (refl, refl)
  is_new (suc j) low =
      let places = is.opens.places in
      let s = got_at setups j (omega (arith, low, places)) in
      let stand = stands setups p script files is.undisturbed.actors j s.0 s.1 in
      subst IsNew (sym (is.opens.start (suc j) (actor_at setups script (1 + j) s.0 stand.own) stand.there)) (refl, refl)

  pub no_stamps : (q : ℕ) → q < k.places → m.stamp_of (k.start q) ≡ 0
  no_stamps q low = (is_new q low).1

  no_caches : (q : ℕ) → q < k.places → m.cached_in (k.start q) ≡ 0
  no_caches q low = ap (λ (c : CachedLists). length c.urgent + length c.normal) (steady setups script files ticks k ts is q low).empty

  -- ---- what a place sent

  abbrev began : ℕ → Outlined Kind
  began q = record { outline = outline_of (k.start q); sent = [] }

  abbrev HasAt : (ℕ → Kind → Type 0) → ℕ → ℕ → Outlined Kind → Type 0
  HasAt Inv q n o = Has (price setups) kind_rules q Inv n o

  begins_with : (Inv : ℕ → Kind → Type 0) (q n : ℕ) → q < k.places → Inv n (k.start q).behavior → HasAt Inv q n (began q)
  begins_with Inv q n low inv =
      let none = ap (λ (hs : List Promised). length hs) (is_new q low).0 in
      record { left = n; inv = inv; within = omega (arith, none) }

  read_at : (q : ℕ) → q < k.places → HasRead kind_rules (comes setups cs q) (k.start q) (k.journal q)
  read_at q low =
      let begun = steady setups script files ticks k ts is q low in
      let steady_now : IsSteady kind_rules (comes setups cs q) (k.start q) = record { behavior = steady_behavior (comes setups cs) kind_rules q (k.start q).behavior begun.keeps; begun = begun.begun; here = begun.here; awaits = begun.awaits } in
      reads_in_turn kind_rules (comes setups cs q) (k.start q) (k.journal q) steady_now begun.empty (brought setups script files ticks k ts is q)

  turns : (q : ℕ) → AllByRecursion (Brings (comes setups cs q)) (all_in_turn (k.journal q))
  turns q = turns_bring (comes setups cs q) (k.journal q) (brought setups script files ticks k ts is q)

  posts_within : (Inv : ℕ → Kind → Type 0) (q n : ℕ) → q < k.places → HasAt Inv q n (reading kind_rules (k.start q) (k.journal q)) → weigh (price setups) (map bare (posted m (k.start q) (k.journal q))) ≤ n
  posts_within Inv q n low has =
      let same = ap (weigh (price setups)) (read_at q low).sent in
      let most = has.within in
      omega (arith, same, most)

  abbrev IsPaid : ℕ → Type 0
  IsPaid q = weigh (price setups) (map bare (posted m (k.start q) (k.journal q))) ≤ worth q + heavy (price setups q) (joined (k.journal q))

  part_paid : (q : ℕ) (s : Setup) (there : setup_at setups q ≡ Some s) (Inv : ℕ → Kind → Type 0) (n : ℕ) → ((n : ℕ) (b : Kind) (i : PlainInput) → Inv n b → comes_as cs q (Some s) i ≡ true → PaysFor setups cs q s there Inv n b i)
      → Inv n (k.start q).behavior → n ≤ worth q → IsPaid q
  part_paid q s there Inv n pays inv few =
      let low = (starts setups script files ticks k ts is q s there).within in
      let has = all_have setups cs q s there Inv pays n (began q) (all_in_turn (k.journal q)) (turns q) (begins_with Inv q n low inv) in
      let most = posts_within Inv q (n + heavy (price setups q) (all_in_turn (k.journal q))) low has in
      let same = turns_weigh (price setups q) (k.journal q) in
      omega (arith, most, same, few)

  -- ---- each place

  abbrev Paid : Setup → Type 0
  Paid s = (q : ℕ) → setup_at setups q ≡ Some s → IsPaid q

  source_paid : (s : Setup) → IsSo s name.Source (p.lines ∷ p.relay ∷ p.collector ∷ []) → Paid s
  source_paid s so q there =
      let here = source_place setups p is.undisturbed.actors q s there so.kind_is in
      let stand = starts setups script files ticks k ts is q s there in
      let same : (q == p.source) ≡ true = ap (λ (x : ℕ). q == x) here ∙ self_same q in
      let mine : cond (q == p.source) (8 * length cs + 3) 0 ≡ 8 * length cs + 3 = rw same refl in
      let whole : length (all_chunks stand.own) ≡ length cs = ap (λ (fs : List (List ℕ)). length (all_chunks fs)) (stand.all so.kind_is) in
      part_paid q s there (Funds setups cs p is.undisturbed.actors q (who_of q s) (sym here) so.peers_are s there so.kind_is) (8 * length cs + 3)
      (source_pays setups cs p is.undisturbed.actors q (who_of q s) (sym here) so.peers_are s there so.kind_is)
      (record { source = source.started (who_of q s) stand.own; is = begins_as setups script files ticks k ts is q s name.Source there so.kind_is; identity = refl; chunks = ap all_chunks (stand.all so.kind_is); has = omega arith })
      (omega (arith, mine))

  lines_paid : (s : Setup) → IsSo s name.Lines (p.collector ∷ []) → Paid s
  lines_paid s so q there =
      part_paid q s there (Measures setups cs p is.undisturbed.actors (chunks setups script files ticks k ts is) q (who_of q s) s there) 0
      (lines_pays setups cs p is.undisturbed.actors (chunks setups script files ticks k ts is) q (who_of q s) s there so.peers_are so.kind_is)
      (begins_as setups script files ticks k ts is q s name.Lines there so.kind_is) (omega arith)

  relay_paid : (s : Setup) → IsSo s name.Relay p.counters → Paid s
  relay_paid s so q there =
      part_paid q s there (Relays setups cs p is.undisturbed.actors (chunks setups script files ticks k ts is) q (who_of q s) s there) 0
      (relay_pays setups cs p is.undisturbed.actors (chunks setups script files ticks k ts is) q (who_of q s) s there so.peers_are so.kind_is)
      (begins_as setups script files ticks k ts is q s name.Relay there so.kind_is) (omega arith)

  counter_paid : (s : Setup) → IsSo s name.Counter (p.collector ∷ []) → Paid s
  counter_paid s so q there =
      part_paid q s there (Counts setups cs p is.undisturbed.actors (chunks setups script files ticks k ts is) q (who_of q s) s there) 0
      (counter_pays setups cs p is.undisturbed.actors (chunks setups script files ticks k ts is) q (who_of q s) s there so.peers_are so.kind_is)
      (record { count = 0; is = begins_as setups script files ticks k ts is q s name.Counter there so.kind_is }) (omega arith)

  collector_paid : (s : Setup) → IsSo s name.Collector [] → Paid s
  collector_paid s so q there =
      part_paid q s there (Keeps setups cs (chunks setups script files ticks k ts is) q s there so.kind_is) 0
      (collector_pays setups cs (chunks setups script files ticks k ts is) q s there so.kind_is)
      (record { collector = _; is = begins_as setups script files ticks k ts is q s name.Collector there so.kind_is; held = tt }) (omega arith)

  conductor_paid : 0 < k.places → IsPaid 0
  conductor_paid low =
      let n = plan_cost setups (conductor_of who_conducts setups script).script.plan in
      let most = whole_script setups script who_conducts is.undisturbed in
      let first : Conducts setups cs n (k.start 0).behavior =
      record { conducting = conductor_of who_conducts setups script; is = ap (λ (x : Snapshot Kind). x.behavior) (is.opens.start 0 (conductor_at_0 setups script) refl); has = refl } in
      let has = conductor.all_have setups cs n (began 0) (all_in_turn (k.journal 0)) (turns 0) (begins_with (Conducts setups cs) 0 n low first) in
      let sent = posts_within (Conducts setups cs) 0 n low has in
      omega (arith, most, sent)

  paid : (q : ℕ) → q < k.places → IsPaid q
  paid zero low = conductor_paid low
  paid (suc j) low =
      let places = is.opens.places in
      let s = got_at setups j (omega (arith, low, places)) in
      let next : j + 1 ≡ suc j = omega arith in
      at_each_place Paid setups p is.undisturbed.actors source_paid lines_paid relay_paid collector_paid counter_paid j s.0 s.1 (suc j) (ap (setup_at setups) (sym next) ∙ setup_from_1 setups j ∙ s.1)

  -- ---- all places

  pub few_taken : sum_below k.places (λ q. length (joined (k.journal q))) ≤ 8 * length cs + 2 * length script + 4
  few_taken =
      let most = taken_most (price setups) m ticks k is.legal is.silent worth paid in
      let parts = sum_plus k.places (λ q. cond (q == p.source) (8 * length cs + 3) 0) (λ q. cond (q == 0) (2 * length script) 0) in
      let chunks = sum_most k.places p.source (8 * length cs + 3) in
      let steps = sum_most k.places 0 (2 * length script) in
      omega (arith, most, parts, chunks, steps)

  -- what was cached at first is nothing, so no more left the lists than were taken
  few_handled : handled m k < enough setups script files
  few_handled =
      let few = sum_less k.places (handled_at m k) (λ q. length (joined (k.journal q))) (λ q low. let none = no_caches q low in omega (arith, none)) in
      let most = few_taken in
      omega (arith, few, most)

pub runs_are_short : UndisturbedRunsAreShort
runs_are_short setups script files ticks k ts is = few_handled setups script files ticks k ts is

pub enough_never_spent : EnoughIsNeverSpent
enough_never_spent setups script files budget k ts is are opens legal merge unstopped many =
    let silent = is_quiet (machine_of kind_rules) k legal unstopped in
    let few = runs_are_short setups script files 0 k ts (record { undisturbed = is; indexable = are; opens = opens; legal = legal; merge = merge; silent = silent }) in
    omega (arith, few, many)
