-- What the collector of an undisturbed run has counted and answered, where all is at rest.
use Rattle.std.proofs.Common.{◌≡◌, ℕ, suc, ◌+◌, ◌-◌, ◌<◌, nat_lt, true, false, List, [], ◌∷◌, length, count_by, Option, Some, None, inl, inr, refl, sym, subst, ap, ◌∙◌, arith}
use Rattle.std.specs.Prelude.{◌⊎◌, Contains}
use Rattle.std.specs.FinMap as finite
use Rattle.std.specs.List.{AllByRecursion, sum_by}
use Rattle.caf_index.specs.Chunks.{lines_of}
use Rattle.caf_index.specs.Filled.{with_entries}
use Rattle.caf_index.specs.Index.{Entries}
use Rattle.caf_index.specs.PlainIndex.{plain_index_of}
use Rattle.caf_index.proofs.ContainsLemmas.{contains-here, contains-later}
use Rattle.caf_message.specs.Envelope.{start_envelope}
use Rattle.caf_message.specs.declared.envelope.Plain.{Plain}
use Rattle.caf_message.specs.declared.envelope.Plain.TheVariants as «plain»
use Rattle.caf_message.specs.declared.envelope.Taken.{Taken}
use Rattle.caf_types.specs.declared.notice.Mid.{Mid}
use Rattle.caf_actor.specs.Answering.{is_asked, origin_of}
use Rattle.caf_actor.specs.Record.{Kept, machine_of, IsAtRest, ends, joined}
use Rattle.caf_actor.specs.Run.{Turn}
use Rattle.caf_actor.specs.declared.snapshot.Snapshot.{Snapshot}
use Rattle.caf_response.specs.Holds.{is_of}
use Rattle.caf_response.specs.Promised.{Promised}
use Rattle.caf_kinds.specs.FileChunks.{AreChunks, all_chunks}
use Rattle.caf_kinds.specs.Kinds.{kind_rules, index_of}
use Rattle.caf_kinds.specs.Lines.{extent_of}
use Rattle.caf_kinds.specs.Setups.{setup_at}
use Rattle.caf_kinds.specs.declared.contents.Chunk.{Chunk}
use Rattle.caf_kinds.specs.declared.contents.Extent.{Extent}
use Rattle.caf_kinds.specs.declared.kind.Kind.{Kind}
use Rattle.caf_kinds.specs.declared.script.Step.{Step}
use Rattle.caf_kinds.specs.declared.setup.KindName.{KindName}
use Rattle.caf_kinds.specs.declared.setup.KindName.TheVariants as name
use Rattle.caf_kinds.specs.declared.setup.Setup.{Setup}
use Rattle.caf_opening.specs.Opening.{actor_at}
use Rattle.caf_steady.specs.Outline.{Outline, Outlined, Bare, outline_of}
use Rattle.caf_steady.specs.Reading.{all_in_turn}
use Rattle.caf_steady.specs.Steady.{Brings, reading}
use Rattle.caf_pipeline.specs.Undisturbed.{Pipeline}
use Rattle.caf_pipeline.specs.Contents.{comes}
use Rattle.caf_pipeline.specs.Flow.{IsUndisturbedRecord}
use Rattle.caf_pipeline.proofs.AnsweringLemmas.{AllSteps, all_steps}
use Rattle.caf_pipeline.proofs.CollectingLemmas.{IsRight, Collecting, IsReplied}
use Rattle.caf_pipeline.proofs.QuestionLemmas.{IsAsked, IsAskedSo}
use Rattle.caf_pipeline.proofs.CollectingLemmas as collecting
use Rattle.caf_pipeline.proofs.BalanceLemmas.{SentBy, balances, collector_took}
use Rattle.caf_pipeline.proofs.CollectedLemmas.{chunks, brought, starts, begins_as}
use Rattle.caf_pipeline.proofs.CollectorLemmas.{Collects}
use Rattle.caf_pipeline.proofs.CountLemmas.{weigh_all, weigh_one, lines_of_all, bytes_of_all}
use Rattle.caf_pipeline.proofs.FlowLemmas.{as_content}
use Rattle.caf_pipeline.proofs.IndexedLemmas.{told_entries}
use Rattle.caf_pipeline.proofs.ListLemmas.{one_of}
use Rattle.caf_pipeline.proofs.OpeningLemmas.{stands}
use Rattle.caf_pipeline.proofs.PassingLemmas.{weight_as, weight_at, kind_weight}
use Rattle.caf_pipeline.proofs.PlaceLemmas.{one_of_setups}
use Rattle.caf_pipeline.proofs.ScriptLemmas.{read_any, turns_brought}
use Rattle.caf_pipeline.proofs.SenderLemmas.{from_where, all_turns_had}
use Rattle.caf_pipeline.proofs.TallyLemmas.{Tallied}
use Rattle.caf_pipeline.proofs.ComingLemmas.{came, body_weight, none_each, one_each, lines_each, bytes_each}
use Rattle.caf_pipeline.proofs.UndisturbedLemmas.{undisturbed_files_are_indexed}
use Rattle.caf_pipeline.proofs.WeightLemmas.{taken_weight}

pub each_of : {A : Type 0} (P : A → Type 0) (xs : List A) → ((x : A) → Contains xs x → P x) → AllByRecursion P xs
each_of P [] each = tt
each_of P (x ∷ xs) each = (each x (contains-here x xs), each_of P xs (λ y has. each y (contains-later x y xs has)))

weigh_same : {A : Type 0} (f g : A → ℕ) (xs : List A) → ((x : A) → f x ≡ g x) → weigh_all f xs ≡ weigh_all g xs
weigh_same f g [] same = refl
weigh_same f g (x ∷ xs) same = let one = same x in let rest = weigh_same f g xs same in omega (arith, one, rest)

weigh_none : {A : Type 0} (xs : List A) → weigh_all (λ x. 0) xs ≡ 0
weigh_none [] = refl
weigh_none (x ∷ xs) = let rest = weigh_none xs in omega (arith, rest)

-- the same weights at the collector
came_so : (setups : List Setup) (place : ℕ) (s : Setup) → setup_at setups place ≡ Some s → s.kind ≡ name.Collector → (a f : ℕ) (h : Extent → ℕ) (es : List Taken) → taken_weight (weight_at a f h setups) place es ≡ came a f h es
came_so setups place s at is a f h [] = refl
came_so setups place s at is a f h (e ∷ es) =
    let one : weight_at a f h setups place e.body ≡ body_weight a f h e.body = ap (λ (o : Option Setup). weight_as a f h o e.body) at ∙ by e.body in
    let rest = came_so setups place s at is a f h es in
    omega (arith, one, rest)
  where
    by : (b : Plain) → weight_as a f h (Some s) b ≡ body_weight a f h b
    by («plain».Content words) = ap (λ (k : KindName). kind_weight a f h k words) is
    by («plain».Failure sec) = refl
    by («plain».System what) = refl

module _ (setups : List Setup) (steps : List Step) (files : List (List ℕ)) (ticks : ℕ) (k : Kept (Snapshot Kind)) (ts : List Turn) (is : IsUndisturbedRecord setups steps files ticks k ts) (rest : IsAtRest (machine_of kind_rules) k) where
  abbrev pub p : Pipeline
  p = is.undisturbed.pipeline

  abbrev pub up : Setup
  up = is.undisturbed.actors.collector.setup

  abbrev pub cs : List Chunk
  cs = all_chunks files

  abbrev pub each : AreChunks cs
  each = chunks setups steps files ticks k ts is

  abbrev pub turns : List Taken
  turns = all_in_turn (k.journal p.collector)

  abbrev pub sent_of : ℕ → List Bare
  sent_of q = (reading kind_rules (k.start q) (k.journal q)).sent

  abbrev pub lines : ℕ
  lines = sum_by (λ bytes. length (lines_of bytes)) files

  abbrev pub bytes : ℕ
  bytes = sum_by length files

  abbrev pub index : Entries
  index = with_entries finite.empty (told_entries turns)

  -- ---- what the collector has to count

  took : (a f : ℕ) (h : Extent → ℕ) → came a f h turns ≡ weigh_all (λ c. h (extent_of c) + a) cs + f
  took a f h = sym (came_so setups p.collector up is.undisturbed.actors.collector.at is.undisturbed.actors.collector.kind_is a f h turns) ∙ collector_took setups steps files ticks k ts is rest a f h

  first_tallied : Tallied (length cs) lines bytes index (record { postings = 0; extents = 0; lines = 0; bytes = 0; chunks = None }) finite.empty turns
  first_tallied =
      let posts = took 1 0 none_each in
      let extents = took 0 0 one_each in
      let ls = took 0 0 lines_each in
      let bs = took 0 0 bytes_each in
      let fs = took 0 1 none_each in
      let one = weigh_one cs in
      let none : weigh_all (λ (c : Chunk). 0) cs ≡ 0 = weigh_none cs in
      let lines_sum = weigh_same (λ (c : Chunk). length (lines_of c.bytes) + 0) (λ c. length (lines_of c.bytes)) cs (λ c. omega arith) ∙ lines_of_all files in
      let bytes_sum = weigh_same (λ (c : Chunk). length c.bytes + 0) (λ c. length c.bytes) cs (λ c. omega arith) ∙ bytes_of_all files in
      record {
        postings_are = omega (arith, posts, one);
        extents_are = omega (arith, extents, one);
        lines_are = omega (arith, ls, lines_sum);
        bytes_are = omega (arith, bs, bytes_sum);
        finish_is = inl (refl, omega (arith, fs, none));
        index_is = refl;
      }

  -- ---- the collector

  holds_none : (k.start p.collector).holds ≡ []
  holds_none =
      let one = one_of_setups setups p.collector up is.undisturbed.actors.collector.at in
      let low = one.from_1 in
      let stand = stands setups p steps files is.undisturbed.actors (p.collector - 1) up one.got in
      let here : suc (p.collector - 1) ≡ p.collector = omega (arith, low) in
      let start = is.opens.start (suc (p.collector - 1)) (actor_at setups steps (1 + (p.collector - 1)) up stand.own) stand.there in
      ap (λ (q : ℕ). (k.start q).holds) (sym here) ∙ ap (λ (x : Snapshot Kind). x.holds) start

  abbrev CollectingAt : Outlined Kind → List Taken → Type 0
  CollectingAt = Collecting setups cs each is.indexable.few_chunks p.collector up is.undisturbed.actors.collector.at is.undisturbed.actors.collector.kind_is lines bytes index

  abbrev first_at : Outlined Kind
  first_at = record { outline = outline_of (k.start p.collector); sent = [] }

  begins : CollectingAt first_at turns
  begins = record {
    collector = _;
    is = begins_as setups steps files ticks k ts is p.collector up name.Collector is.undisturbed.actors.collector.at is.undisturbed.actors.collector.kind_is;
    matches = λ m. ap (λ (hs : List Promised). count_by (is_of 0 m) hs) holds_none;
    held = tt;
    waits = tt;
    right = tt;
    tallied = first_tallied;
  }

  pub collector_within : p.collector < k.places
  collector_within = (starts setups steps files ticks k ts is p.collector up is.undisturbed.actors.collector.at).within

  pub 0_within : 0 < k.places
  0_within = let places = is.opens.places in omega (arith, places)

  pub brings_at : (q : ℕ) → AllByRecursion (Brings (comes setups cs q)) (all_in_turn (k.journal q))
  brings_at q = turns_brought setups steps files ticks k ts is q (k.journal q) (brought setups steps files ticks k ts is q)

  -- who sent what a place took
  pub record IsFrom (b : ℕ) (e : Taken) : Type 0 where
    pub place : ℕ
    pub bare : Bare
    pub is_sent : Contains (sent_of place) bare
    pub mid : bare.mid ≡ e.mid
    pub body : bare.body ≡ e.body
    pub sends : SentBy setups steps files ticks k ts is rest 0 0 none_each place bare

  pub taken_from : (b : ℕ) (e : Taken) → Contains (joined (k.journal b)) e → (e ≡ start_envelope) ⊎ IsFrom b e
  taken_from b e has = elim (from_where (machine_of kind_rules) ticks k is.legal rest is.silent b e has) [
    | inl start ↦ inl start
    | inr sent ↦
        (let there = subst (λ (bs : List Bare). Contains bs sent.bare) (read_any setups steps files ticks k ts is sent.place sent.below).sent sent.is_sent in
        inr (record {
          place = sent.place;
          bare = sent.bare;
          is_sent = there;
          mid = sent.mid;
          body = sent.body;
          sends = one_of (SentBy setups steps files ticks k ts is rest 0 0 none_each sent.place) (sent_of sent.place) sent.bare (balances setups steps files ticks k ts is rest 0 0 none_each sent.place sent.below).sends there;
        }))
  ]

  no_number : (e : Taken) → e.mid.number ≡ 0 → is_asked (origin_of e) ≡ true → ⊥
  no_number e none asked = let bad : false ≡ true = sym (ap (λ n. nat_lt 0 n) none) ∙ asked in cc

  asked_so : (e : Taken) → Contains turns e → IsAskedSo e
  asked_so e has = go (taken_from p.collector e (all_turns_had (k.journal p.collector) e has))
    where
      by : (x : IsFrom p.collector e) → SentBy setups steps files ticks k ts is rest 0 0 none_each x.place x.bare → IsAskedSo e
      by x (inl first) = elim first.1.asks [
        | inl none ↦ λ yes. absurd (no_number e (ap (λ (m : Mid). m.number) (sym x.mid) ∙ none) yes)
        | inr it ↦ λ yes. (it.0, subst (λ (m : Mid). IsAsked m.number it.0) x.mid it.1, sym x.body ∙ first.1.body ∙ ap «plain».Content it.2)
      ]
      by x (inr (inl second)) =
          let b = as_content setups cs p.collector up is.undisturbed.actors.collector.at Collects
          (collecting.goes setups cs each is.indexable.few_chunks p.collector up is.undisturbed.actors.collector.at is.undisturbed.actors.collector.kind_is lines bytes index) e
          (one_of (Brings (comes setups cs p.collector)) turns e (brings_at p.collector) has) in
          let bad : true ≡ false = sym second.1.response ∙ ap (λ (m : Mid). m.response) x.mid ∙ b.no_reply in
          cc
      by x (inr (inr told)) = λ yes. absurd (no_number e (ap (λ (m : Mid). m.number) (sym x.mid) ∙ told.number) yes)

      go : (e ≡ start_envelope) ⊎ IsFrom p.collector e → IsAskedSo e
      go (inl start) = λ yes. absurd (no_number e (ap (λ (x : Taken). x.mid.number) start) yes)
      go (inr x) = by x x.sends

  abbrev pub collected : Outlined Kind
  collected = reading kind_rules (k.start p.collector) (k.journal p.collector)

  pub steps_of : AllSteps setups cs each is.indexable.few_chunks p.collector up is.undisturbed.actors.collector.at is.undisturbed.actors.collector.kind_is lines bytes index first_at turns collected
  steps_of = all_steps setups cs each is.indexable.few_chunks p.collector up is.undisturbed.actors.collector.at is.undisturbed.actors.collector.kind_is lines bytes index first_at turns (brings_at p.collector) (each_of IsAskedSo turns asked_so) begins

  abbrev pub RightAt : Bare → Type 0
  RightAt = IsRight setups cs each is.indexable.few_chunks p.collector up is.undisturbed.actors.collector.at is.undisturbed.actors.collector.kind_is lines bytes index

  pub all_right : AllByRecursion RightAt collected.sent
  all_right = steps_of.collecting.right

  -- ---- its index

  pub index_is : index ≡ plain_index_of files
  index_is =
      let end = steps_of.collecting in
      let has_read = read_any setups steps files ticks k ts is p.collector collector_within in
      let same : index_of (ends (machine_of kind_rules) k p.collector).behavior ≡ Some end.collector.index = ap (λ (o : Outline Kind). index_of o.behavior) has_read.stands ∙ ap index_of end.is in
      let both : Some end.collector.index ≡ Some (plain_index_of files) = sym same ∙ undisturbed_files_are_indexed setups steps files ticks k ts is rest in
      let one : end.collector.index ≡ plain_index_of files = cc in
      sym end.tallied.index_is ∙ one
