-- A chunk that the relay took comes to a counter, and its postings to the collector; and so with lines and extents.
use Rattle.std.proofs.Common.{◌≡◌, ℕ, ◌<◌, true, List, [], ◌∷◌, length, Option, Some, refl, sym, subst, ap, ◌∙◌, arith}
use Rattle.std.specs.Prelude.{◌%◌, Contains}
use Rattle.std.specs.List.{AllByRecursion}
use Rattle.caf_types.specs.declared.notice.Priority.TheVariants as priority
use Rattle.caf_index.proofs.ContainsLemmas.{contains-here}
use Rattle.caf_actor.specs.Answering.{origin_of}
use Rattle.caf_actor.specs.PlainInput.{PlainInput, Content}
use Rattle.caf_actor.specs.PlainOutput.{PlainOutput, Tell}
use Rattle.caf_actor.specs.Record.{Kept, machine_of, IsAtRest, joined}
use Rattle.caf_actor.specs.Run.{Turn}
use Rattle.caf_actor.specs.declared.snapshot.Snapshot.{Snapshot}
use Rattle.caf_kinds.specs.FileChunks.{IsChunk, AreChunks, all_chunks}
use Rattle.caf_kinds.specs.Kinds.{kind_rules, reacted}
use Rattle.caf_kinds.specs.Pipeline.{chunk_content, postings_content}
use Rattle.caf_kinds.specs.Reacting.{Reacted}
use Rattle.caf_kinds.specs.Relay.{lowered, peer_for}
use Rattle.caf_kinds.specs.Setups.{setup_at}
use Rattle.caf_kinds.specs.Starting.{started, who_of}
use Rattle.caf_kinds.specs.declared.contents.Chunk.{Chunk}
use Rattle.caf_kinds.specs.declared.kind.Kind.{Kind}
use Rattle.caf_kinds.specs.declared.kind.Kind.TheVariants as kind
use Rattle.caf_kinds.specs.declared.script.Step.{Step}
use Rattle.caf_kinds.specs.declared.setup.KindName.{KindName}
use Rattle.caf_kinds.specs.declared.setup.KindName.TheVariants as name
use Rattle.caf_kinds.specs.declared.setup.Setup.{Setup}
use Rattle.caf_steady.specs.Classes.{BeginsSteady}
use Rattle.caf_steady.specs.Steady.{Brings}
use Rattle.caf_pipeline.specs.Undisturbed.{Pipeline, IsSetUp}
use Rattle.caf_pipeline.specs.Parts.{told_extent}
use Rattle.caf_pipeline.specs.Contents.{relayed, counted, comes_as, comes}
use Rattle.caf_pipeline.specs.Flow.{HasTaken, IsUndisturbedRecord, IsCollected, RelayedChunksAreCollected}
use Rattle.caf_pipeline.proofs.ListLemmas.{one_of}
use Rattle.caf_pipeline.proofs.PartLemmas.{hands_on}
use Rattle.caf_pipeline.proofs.OpeningLemmas.{are_chunks}
use Rattle.caf_pipeline.proofs.BeginLemmas.{begins, parts_take_theirs}
use Rattle.caf_pipeline.proofs.StartLemmas.{StartsAs, starts_as}
use Rattle.caf_pipeline.proofs.TellerLemmas.{MeasuresFor, RelaysFor, CountsFor, lines_goes, relay_goes, counter_goes, got}
use Rattle.caf_pipeline.proofs.ReadLemmas.{DoesTell}
use Rattle.caf_pipeline.proofs.FlowLemmas.{flows}

-- the one thing that a reaction tells
tells_one : (to : ℕ) (said : List ℕ) (b : Kind) (i : PlainInput) (x : Reacted Kind) (one : PlainOutput) → reacted b i ≡ x → x.1.outputs ≡ one ∷ [] → DoesTell to said one
    → (o : PlainOutput) × Contains (kind_rules.reaction b i).outputs o × DoesTell to said o
tells_one to said b i x one e only does =
    (one, subst (λ (os : List PlainOutput). Contains os one) (sym (ap (λ (y : Reacted Kind). y.1.outputs) e ∙ only)) (contains-here one []), does)

module _ (setups : List Setup) (script : List Step) (files : List (List ℕ)) (ticks : ℕ) (k : Kept (Snapshot Kind)) (ts : List Turn) (is : IsUndisturbedRecord setups script files ticks k ts) where
  abbrev pub p : Pipeline
  p = is.undisturbed.pipeline

  abbrev pub cs : List Chunk
  cs = all_chunks files

  pub chunks : AreChunks cs
  chunks = are_chunks files is.indexable

  pub brought : (q : ℕ) → AllByRecursion (Brings (comes setups cs q)) (joined (k.journal q))
  brought q = parts_take_theirs setups script files ticks k ts is.undisturbed is.indexable is.opens is.legal is.merge is.silent q

  pub steady : (q : ℕ) → q < k.places → BeginsSteady (comes setups cs) kind_rules q (k.start q)
  steady q low = begins setups p script files is.undisturbed.actors chunks k is.undisturbed.plays is.opens q low

  pub starts : (q : ℕ) (s : Setup) → setup_at setups q ≡ Some s → StartsAs setups script files k q s
  starts q s at = starts_as setups p script files k is.undisturbed.actors is.opens q s at

  pub begins_as : (q : ℕ) (s : Setup) (kind : KindName) (at : setup_at setups q ≡ Some s) → s.kind ≡ kind → (k.start q).behavior ≡ started (who_of q s) s setups script (starts q s at).own kind
  begins_as q s kind at e = (starts q s at).behavior ∙ ap (λ (n : KindName). started (who_of q s) s setups script (starts q s at).own n) e

  pub may_come : (q : ℕ) (s : Setup) (i : PlainInput) → setup_at setups q ≡ Some s → comes setups cs q i ≡ true → comes_as cs q (Some s) i ≡ true
  may_come q s i at e = sym (ap (λ (o : Option Setup). comes_as cs q o i) at) ∙ e

  module _ (rest : IsAtRest (machine_of kind_rules) k) (c : Chunk) (has : Contains cs c) where
    is_chunk : IsChunk c
    is_chunk = one_of IsChunk cs c chunks has

    -- a counter takes the chunk that it is told, and the collector its postings
    counter_flows : (q : ℕ) → Contains p.counters q → HasTaken k q (relayed c) → HasTaken k p.collector (counted c)
    counter_flows q at taken =
        let up = one_of (IsSetUp setups name.Counter (p.collector ∷ [])) p.counters q is.undisturbed.actors.counters at in
        let who = who_of q up.setup in
        flows setups cs q up.setup up.at (CountsFor setups cs p is.undisturbed.actors chunks who)
        (λ b i inv e. counter_goes setups cs p is.undisturbed.actors chunks q who up.setup up.peers_are up.kind_is b i inv (may_come q up.setup i up.at e))
        p.collector (counted c) ticks k is.legal rest (steady q (starts q up.setup up.at).within)
        (record { count = 0; is = begins_as q up.setup name.Counter up.at up.kind_is }) (brought q) (relayed c) taken
        (λ b inv. subst (λ (x : Kind). (o : PlainOutput) × Contains (kind_rules.reaction x (Content (origin_of taken.envelope) (relayed c))).outputs o × DoesTell p.collector (counted c) o) (sym inv.is)
        (tells_one p.collector (counted c) (kind.Counter (record { identity = who; count = inv.count })) (Content (origin_of taken.envelope) (relayed c)) _ (Tell p.collector priority.Normal (counted c))
        (hands_on.counts (record { identity = who; count = inv.count }) (origin_of taken.envelope) (lowered c) p.collector (hands_on.lowered_is_chunk c is_chunk) up.peers_are) refl (refl, refl)))

    relay_flows : HasTaken k p.relay (chunk_content c) → HasTaken k p.collector (counted c)
    relay_flows taken =
        let up = is.undisturbed.actors.relay in
        let who = who_of p.relay up.setup in
        let some = is.undisturbed.actors.some in
        let to = got setups cs p is.undisturbed.actors chunks p.counters (c.number % length p.counters) (omega (arith, some)) in
        counter_flows to.0 to.2
        (flows setups cs p.relay up.setup up.at (RelaysFor setups cs p is.undisturbed.actors chunks who)
        (λ b i inv e. relay_goes setups cs p is.undisturbed.actors chunks p.relay who up.setup up.peers_are up.kind_is b i inv (may_come p.relay up.setup i up.at e))
        to.0 (relayed c) ticks k is.legal rest (steady p.relay (starts p.relay up.setup up.at).within)
        (begins_as p.relay up.setup name.Relay up.at up.kind_is) (brought p.relay) (chunk_content c) taken
        (λ b inv. subst (λ (x : Kind). (o : PlainOutput) × Contains (kind_rules.reaction x (Content (origin_of taken.envelope) (chunk_content c))).outputs o × DoesTell to.0 (relayed c) o) (sym inv)
        (tells_one to.0 (relayed c) (kind.Relay (record { identity = who })) (Content (origin_of taken.envelope) (chunk_content c)) _ (Tell to.0 priority.Normal (relayed c))
        (hands_on.relays (record { identity = who }) (origin_of taken.envelope) c to.0 is_chunk (ap (λ (ps : List ℕ). peer_for ps c.number) up.peers_are ∙ to.1)) refl (refl, refl))))

    lines_flows : HasTaken k p.lines (chunk_content c) → HasTaken k p.collector (told_extent c)
    lines_flows taken =
        let up = is.undisturbed.actors.lines in
        let who = who_of p.lines up.setup in
        flows setups cs p.lines up.setup up.at (MeasuresFor setups cs p is.undisturbed.actors chunks who)
        (λ b i inv e. lines_goes setups cs p is.undisturbed.actors chunks p.lines who up.setup up.peers_are up.kind_is b i inv (may_come p.lines up.setup i up.at e))
        p.collector (told_extent c) ticks k is.legal rest (steady p.lines (starts p.lines up.setup up.at).within)
        (begins_as p.lines up.setup name.Lines up.at up.kind_is) (brought p.lines) (chunk_content c) taken
        (λ b inv. subst (λ (x : Kind). (o : PlainOutput) × Contains (kind_rules.reaction x (Content (origin_of taken.envelope) (chunk_content c))).outputs o × DoesTell p.collector (told_extent c) o) (sym inv)
        (tells_one p.collector (told_extent c) (kind.Lines (record { identity = who })) (Content (origin_of taken.envelope) (chunk_content c)) _ (Tell p.collector priority.Normal (told_extent c))
        (hands_on.measures (record { identity = who }) (origin_of taken.envelope) c p.collector is_chunk up.peers_are) refl (refl, refl)))

    pub collected : IsCollected p k c
    collected = record {
      postings = λ taken. subst (HasTaken k p.collector) (ap postings_content (hands_on.lowered_postings c)) (relay_flows taken);
      extent = lines_flows;
    }

pub chunks_are_collected : RelayedChunksAreCollected
chunks_are_collected setups script files ticks k ts is rest c has = collected setups script files ticks k ts is rest c has
