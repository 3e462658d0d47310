-- What the collector of an undisturbed run took, where all is at rest: as much weight as all chunks have, and one finish.
use Rattle.std.proofs.Common.{◌≡◌, ℕ, zero, suc, ◌+◌, ◌<◌, ◌==◌, Bool, true, false, cond, List, [], ◌∷◌, take, inl, inr, refl, sym, subst, ap, ◌∙◌, arith}
use Rattle.std.specs.Prelude.{◌⊎◌, Contains}
use Rattle.std.specs.FinMap as finite
use Rattle.std.specs.List.{AllByRecursion}
use Rattle.std.proofs.lemmas.List.{take_all}
use Rattle.caf_index.proofs.ContainsLemmas.{contains-cases}
use Rattle.caf_message.specs.declared.envelope.Plain.{Plain}
use Rattle.caf_message.specs.declared.envelope.Taken.{Taken}
use Rattle.caf_carriers.proofs.CountLemmas.{sum_same, sum_plus, sum_one, self_same, same_number}
use Rattle.caf_actor.specs.Record.{Kept, machine_of, IsAtRest, ends, joined, posted}
use Rattle.caf_actor.specs.Run.{Turn}
use Rattle.caf_actor.specs.declared.snapshot.Snapshot.{Snapshot}
use Rattle.caf_kinds.specs.FileChunks.{AreChunks, all_chunks}
use Rattle.caf_kinds.specs.Kinds.{kind_rules}
use Rattle.caf_kinds.specs.Lines.{extent_of}
use Rattle.caf_kinds.specs.Starting.{who_of}
use Rattle.caf_kinds.specs.declared.contents.Chunk.{Chunk}
use Rattle.caf_kinds.specs.declared.contents.Extent.{Extent}
use Rattle.caf_kinds.specs.declared.kind.Kind.{Kind}
use Rattle.caf_kinds.specs.declared.kind.Kind.TheVariants as kind
use Rattle.caf_kinds.specs.declared.script.Step.{Step}
use Rattle.caf_kinds.specs.declared.setup.KindName.{KindName}
use Rattle.caf_kinds.specs.declared.setup.KindName.TheVariants as name
use Rattle.caf_kinds.specs.declared.setup.Setup.{Setup}
use Rattle.caf_kinds.specs.declared.source.Stage.{Stage}
use Rattle.caf_kinds.specs.declared.source.Stage.TheVariants as stage
use Rattle.caf_steady.specs.Outline.{Outline, Outlined, Bare, outline_of}
use Rattle.caf_steady.specs.Reading.{all_in_turn}
use Rattle.caf_steady.specs.Steady.{Brings, reading}
use Rattle.caf_pipeline.specs.Undisturbed.{Pipeline, IsSetUp, IsPipeline}
use Rattle.caf_pipeline.specs.Contents.{told_to, asked_of, comes}
use Rattle.caf_pipeline.specs.Flow.{IsUndisturbedRecord}
use Rattle.caf_pipeline.specs.Indexed.{HasToldAll}
use Rattle.caf_pipeline.proofs.BegunLemmas.{started as source_started}
use Rattle.caf_pipeline.proofs.CollectedLemmas.{chunks, brought, starts, begins_as, may_come}
use Rattle.caf_pipeline.proofs.CollectorLemmas.{Collects}
use Rattle.caf_pipeline.proofs.CountLemmas.{weigh_all}
use Rattle.caf_pipeline.proofs.DoneLemmas.{who, begins_source, source_waits, source_told}
use Rattle.caf_pipeline.proofs.IssueLemmas.{IsSentRight}
use Rattle.caf_pipeline.proofs.ListLemmas.{one_of, all_of}
use Rattle.caf_pipeline.proofs.PassingLemmas.{weight_at, bare_weight, all_pass, lines_tells, relay_tells, counter_tells}
use Rattle.caf_pipeline.proofs.ReplyLemmas.{IsReply, all_reply}
use Rattle.caf_pipeline.proofs.RestLemmas.{told_all}
use Rattle.caf_pipeline.proofs.ScriptLemmas.{read_any, turns_brought}
use Rattle.caf_pipeline.proofs.SenderLemmas.{turns_weigh}
use Rattle.caf_pipeline.proofs.SourceWeightLemmas.{done_weight, SourceWeighs, source_weighs}
use Rattle.caf_pipeline.proofs.StartedLemmas.{first_sent, issued}
use Rattle.caf_pipeline.proofs.TellerLemmas.{MeasuresFor, RelaysFor, CountsFor, lines_goes, relay_goes, counter_goes}
use Rattle.caf_pipeline.proofs.TellingLemmas.{IsToldBare}
use Rattle.caf_pipeline.proofs.UndisturbedLemmas.{told_start}
use Rattle.caf_pipeline.proofs.WeightLemmas.{taken_weight, posted_weight, all_weighs}
use Rattle.caf_pipeline.proofs.TotalLemmas.{differ, not_0, replies_weigh, asks_weigh, source_takes_none, posts_weigh, none_at_0}

module _ (setups : List Setup) (steps : List Step) (files : List (List ℕ)) (ticks : ℕ) (k : Kept (Snapshot Kind)) (ts : List Turn) (is : IsUndisturbedRecord setups steps files ticks k ts) (rest : IsAtRest (machine_of kind_rules) k)
    (a f : ℕ) (h : Extent → ℕ) where
  abbrev p : Pipeline
  p = is.undisturbed.pipeline

  abbrev are : IsPipeline setups p
  are = is.undisturbed.actors

  abbrev cs : List Chunk
  cs = all_chunks files

  abbrev each : AreChunks cs
  each = chunks setups steps files ticks k ts is

  abbrev w : ℕ → Plain → ℕ
  w = weight_at a f h setups

  abbrev pub chunk_told : Chunk → ℕ
  chunk_told c = h (extent_of c) + a

  abbrev pub sum_told : ℕ
  sum_told = weigh_all chunk_told cs + f

  abbrev pub sent_of : ℕ → List Bare
  sent_of q = (reading kind_rules (k.start q) (k.journal q)).sent

  abbrev turns : ℕ → List Taken
  turns q = all_in_turn (k.journal q)

  abbrev first_at : ℕ → Outlined Kind
  first_at q = record { outline = outline_of (k.start q); sent = [] }

  -- what a place sends: the conductor asks, the collector replies, and the others tell
  abbrev pub SentBy : ℕ → Bare → Type 0
  SentBy q b = ((q ≡ 0) × IsSentRight b) ⊎ (((q ≡ p.collector) × IsReply b) ⊎ IsToldBare b)

  -- it sends as much weight as it takes, but for the source, which adds all, and for the collector, which keeps all
  pub record Balances (q : ℕ) : Type 0 where
    pub weighs : bare_weight w (sent_of q) + cond (q == p.collector) (taken_weight w q (turns q)) 0 ≡ taken_weight w q (turns q) + cond (q == p.source) sum_told 0
    pub sends : AllByRecursion (SentBy q) (sent_of q)

  -- ---- the conductor

  at_0 : Balances 0
  at_0 =
      let right = (issued setups steps files ticks k ts is 0 0 finite.empty).sent in
      let sent = first_sent setups steps files ticks k ts is rest in
      let all = subst (AllByRecursion IsSentRight) (sym sent) right in
      let light = asks_weigh setups a f h (sent_of 0) all in
      let none = none_at_0 setups a f h (turns 0) in
      let no_collector = not_0 setups name.Collector [] p.collector are.collector in
      let no_source = not_0 setups name.Source (p.lines ∷ p.relay ∷ p.collector ∷ []) p.source are.source in
      record { weighs = rw (no_collector, no_source) (omega (arith, light, none)); sends = all_of IsSentRight (SentBy 0) (sent_of 0) (λ b r. inl (refl, r)) all }

  -- ---- those that pass on what they take

  passing : (q : ℕ) → (q == p.collector) ≡ false → (q == p.source) ≡ false → bare_weight w (sent_of q) ≡ 0 + taken_weight w q (turns q) → AllByRecursion IsToldBare (sent_of q) → Balances q
  passing q no_collector no_source weighs told = record { weighs = rw (no_collector, no_source) (omega (arith, weighs)); sends = all_of IsToldBare (SentBy q) (sent_of q) (λ b t. inr (inr t)) told }

  brings : (q : ℕ) → AllByRecursion (Brings (comes setups cs q)) (turns q)
  brings q = turns_brought setups steps files ticks k ts is q (k.journal q) (brought setups steps files ticks k ts is q)

  at_lines : Balances p.lines
  at_lines =
      let up = are.lines in
      let me = who_of p.lines up.setup in
      let passed = all_pass setups cs p.lines up.setup up.at (MeasuresFor setups cs p are each me)
      (λ b i inv e. lines_goes setups cs p are each p.lines me up.setup up.peers_are up.kind_is b i inv (may_come setups steps files ticks k ts is p.lines up.setup i up.at e)) w
      (λ o og words inv told has. lines_tells setups cs p are each a f h p.lines me up.setup up.at up.peers_are up.kind_is o og words inv told (subst (λ (n : KindName). Contains (told_to cs n (og.sender == p.lines)) words) up.kind_is has))
      (ap asked_of up.kind_is) (first_at p.lines) (turns p.lines) (begins_as setups steps files ticks k ts is p.lines up.setup name.Lines up.at up.kind_is) (brings p.lines) in
      passing p.lines (differ setups name.Lines name.Collector (p.collector ∷ []) [] p.lines p.collector up are.collector (λ e. cc))
      (differ setups name.Lines name.Source (p.collector ∷ []) (p.lines ∷ p.relay ∷ p.collector ∷ []) p.lines p.source up are.source (λ e. cc)) passed.weighs (passed.told tt)

  at_relay : Balances p.relay
  at_relay =
      let up = are.relay in
      let me = who_of p.relay up.setup in
      let passed = all_pass setups cs p.relay up.setup up.at (RelaysFor setups cs p are each me)
      (λ b i inv e. relay_goes setups cs p are each p.relay me up.setup up.peers_are up.kind_is b i inv (may_come setups steps files ticks k ts is p.relay up.setup i up.at e)) w
      (λ o og words inv told has. relay_tells setups cs p are each a f h p.relay me up.setup up.at up.peers_are up.kind_is o og words inv told (subst (λ (n : KindName). Contains (told_to cs n (og.sender == p.relay)) words) up.kind_is has))
      (ap asked_of up.kind_is) (first_at p.relay) (turns p.relay) (begins_as setups steps files ticks k ts is p.relay up.setup name.Relay up.at up.kind_is) (brings p.relay) in
      passing p.relay (differ setups name.Relay name.Collector p.counters [] p.relay p.collector up are.collector (λ e. cc))
      (differ setups name.Relay name.Source p.counters (p.lines ∷ p.relay ∷ p.collector ∷ []) p.relay p.source up are.source (λ e. cc)) passed.weighs (passed.told tt)

  at_counter : (q : ℕ) → IsSetUp setups name.Counter (p.collector ∷ []) q → Balances q
  at_counter q up =
      let me = who_of q up.setup in
      let passed = all_pass setups cs q up.setup up.at (CountsFor setups cs p are each me)
      (λ b i inv e. counter_goes setups cs p are each q me up.setup up.peers_are up.kind_is b i inv (may_come setups steps files ticks k ts is q up.setup i up.at e)) w
      (λ o og words inv told has. counter_tells setups cs p are each a f h q me up.setup up.at up.peers_are up.kind_is o og words inv told (subst (λ (n : KindName). Contains (told_to cs n (og.sender == q)) words) up.kind_is has))
      (ap asked_of up.kind_is) (first_at q) (turns q) (record { count = 0; is = begins_as setups steps files ticks k ts is q up.setup name.Counter up.at up.kind_is }) (brings q) in
      passing q (differ setups name.Counter name.Collector (p.collector ∷ []) [] q p.collector up are.collector (λ e. cc))
      (differ setups name.Counter name.Source (p.collector ∷ []) (p.lines ∷ p.relay ∷ p.collector ∷ []) q p.source up are.source (λ e. cc)) passed.weighs (passed.told tt)

  -- ---- the source and the collector

  source_done : HasToldAll (ends (machine_of kind_rules) k p.source).behavior
  source_done = told_all setups steps files ticks k ts is rest (source_started setups steps files ticks k ts is (told_start setups steps files ticks k ts is rest))

  abbrev source_weight : Stage → ℕ
  source_weight t = done_weight setups cs p are each p.source (who setups steps files ticks k ts is) refl refl are.source.peers_are are.source.setup are.source.at are.source.kind_is a f h t

  source_end : SourceWeighs setups cs p are each p.source (who setups steps files ticks k ts is) refl refl are.source.peers_are are.source.setup are.source.at are.source.kind_is a f h (reading kind_rules (k.start p.source) (k.journal p.source))
  source_end =
      let begins = begins_source setups steps files ticks k ts is in
      let waits = source_waits setups steps files ticks k ts is in
      let first = ap (λ n. weigh_all chunk_told (take n cs)) (source_told setups steps files ticks k ts is) in
      let none = ap source_weight waits in
      source_weighs setups cs p are each p.source (who setups steps files ticks k ts is) refl refl are.source.peers_are are.source.setup are.source.at are.source.kind_is a f h (first_at p.source) (turns p.source) (brings p.source)
      (record { inv = begins; weighs = omega (arith, first, none); told = tt; done_all = λ d. (let bad : stage.Waiting ≡ stage.Done = sym waits ∙ d in absurd cc) })

  source_sum : bare_weight w (sent_of p.source) ≡ sum_told
  source_sum =
      let end = source_end in
      let has_read = read_any setups steps files ticks k ts is p.source (starts setups steps files ticks k ts is p.source are.source.setup are.source.at).within in
      let same : (ends (machine_of kind_rules) k p.source).behavior ≡ kind.Source end.inv.source = ap (λ (o : Outline Kind). o.behavior) has_read.stands ∙ end.inv.is in
      let done : end.inv.source.stage ≡ stage.Done = subst HasToldAll same source_done in
      let whole : take end.inv.source.told cs ≡ cs = take_all end.inv.source.told cs (end.done_all done) in
      let all = ap (weigh_all chunk_told) whole in
      let finish = ap source_weight done in
      let sum = end.weighs in
      omega (arith, sum, all, finish)

  at_source : Balances p.source
  at_source =
      let none = source_takes_none setups a f h p.source are.source.setup are.source.at are.source.kind_is (turns p.source) in
      let sum = source_sum in
      let no_collector = differ setups name.Source name.Collector (p.lines ∷ p.relay ∷ p.collector ∷ []) [] p.source p.collector are.source are.collector (λ e. cc) in
      record {
        weighs = rw (no_collector, self_same p.source) (omega (arith, none, sum));
        sends = all_of IsToldBare (SentBy p.source) (sent_of p.source) (λ b t. inr (inr t)) source_end.told;
      }

  at_collector : Balances p.collector
  at_collector =
      let up = are.collector in
      let begins : Collects (k.start p.collector).behavior = record { collector = _; is = begins_as setups steps files ticks k ts is p.collector up.setup name.Collector up.at up.kind_is; held = tt } in
      let replies = all_reply setups cs each is.indexable.few_chunks p.collector up.setup up.at up.kind_is (first_at p.collector) (turns p.collector) begins (brings p.collector) tt in
      let light = replies_weigh setups a f h (sent_of p.collector) replies in
      let no_source = differ setups name.Collector name.Source [] (p.lines ∷ p.relay ∷ p.collector ∷ []) p.collector p.source up are.source (λ e. cc) in
      record {
        weighs = rw (self_same p.collector, no_source) (omega (arith, light));
        sends = all_of IsReply (SentBy p.collector) (sent_of p.collector) (λ b r. inr (inl (refl, r))) replies;
      }

  -- ---- all places

  pub balances : (q : ℕ) → q < k.places → Balances q
  balances zero low = at_0
  balances (suc j) low =
      let places = is.opens.places in
      elim (contains-cases p.source (suc j) (p.lines ∷ p.relay ∷ p.collector ∷ p.counters) (are.no_others (suc j) (omega arith) (omega (arith, low, places)))) [
        | inl here ↦ subst Balances here at_source
        | inr more ↦ elim (contains-cases p.lines (suc j) (p.relay ∷ p.collector ∷ p.counters) more) [
          | inl here ↦ subst Balances here at_lines
          | inr more ↦ elim (contains-cases p.relay (suc j) (p.collector ∷ p.counters) more) [
            | inl here ↦ subst Balances here at_relay
            | inr more ↦ elim (contains-cases p.collector (suc j) p.counters more) [
              | inl here ↦ subst Balances here at_collector
              | inr more ↦ at_counter (suc j) (one_of (IsSetUp setups name.Counter (p.collector ∷ [])) p.counters (suc j) are.counters more)
            ]
          ]
        ]
      ]

  collector_within : p.collector < k.places
  collector_within = (starts setups steps files ticks k ts is p.collector are.collector.setup are.collector.at).within

  source_within : p.source < k.places
  source_within = (starts setups steps files ticks k ts is p.source are.source.setup are.source.at).within

  pub collector_took : taken_weight w p.collector (turns p.collector) ≡ sum_told
  collector_took =
      let n = k.places in
      let all = all_weighs (machine_of kind_rules) ticks k is.legal rest is.silent w refl in
      let taken = sum_same n (λ q. taken_weight w q (turns q)) (λ q. taken_weight w q (joined (k.journal q))) (λ q low. turns_weigh w q (k.journal q)) in
      let posts = sum_same n (λ q. posted_weight w (posted (machine_of kind_rules) (k.start q) (k.journal q))) (λ q. bare_weight w (sent_of q))
      (λ q low. posts_weigh w (posted (machine_of kind_rules) (k.start q) (k.journal q)) ∙ ap (bare_weight w) (read_any setups steps files ticks k ts is q low).sent) in
      let each_one = sum_same n (λ q. bare_weight w (sent_of q) + cond (q == p.collector) (taken_weight w q (turns q)) 0) (λ q. taken_weight w q (turns q) + cond (q == p.source) sum_told 0) (λ q low. (balances q low).weighs) in
      let left = sum_plus n (λ q. bare_weight w (sent_of q)) (λ q. cond (q == p.collector) (taken_weight w q (turns q)) 0) in
      let right = sum_plus n (λ q. taken_weight w q (turns q)) (λ q. cond (q == p.source) sum_told 0) in
      let only = sum_same n (λ q. cond (q == p.collector) (taken_weight w q (turns q)) 0) (λ q. cond (q == p.collector) (taken_weight w p.collector (turns p.collector)) 0) (λ q low. at_it q (q == p.collector) refl)
      ∙ sum_one n p.collector (taken_weight w p.collector (turns p.collector)) collector_within in
      let added = sum_one n p.source sum_told source_within in
      omega (arith, all, taken, posts, each_one, left, right, only, added)
    where
      at_it : (q : ℕ) (t : Bool) → (q == p.collector) ≡ t → cond (q == p.collector) (taken_weight w q (turns q)) 0 ≡ cond (q == p.collector) (taken_weight w p.collector (turns p.collector)) 0
      at_it q true e = rw e (ap (λ (x : ℕ). taken_weight w x (turns x)) (same_number q p.collector e))
      at_it q false e = rw e refl
