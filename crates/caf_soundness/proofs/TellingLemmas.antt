-- A source, lines and a counter tell their peers what these take.
use Rattle.std.proofs.Common.{◌≡◌, ℕ, zero, suc, ◌-◌, ◌<◌, ◌==◌, Bool, false, List, [], ◌∷◌, length, map, take, Option, Some, None, if◌then◌else◌, refl, sym, subst, arith}
use Rattle.std.specs.Prelude.{slice_get}
use Rattle.std.specs.List.{AllByRecursion}
use Rattle.std.proofs.lemmas.Bool.Decides.{nat_tests}
use Rattle.caf_message.specs.Content.{ids_in}
use Rattle.caf_mailbox.proofs.NextLemmas.{all_append}
use Rattle.caf_actor.specs.declared.origin.Origin.{Origin}
use Rattle.caf_actor.specs.PlainInput.{PlainInput, Start, Stop, Content, Response, Failed, Down, Tick}
use Rattle.caf_actor.specs.PlainOutput.{PlainOutput}
use Rattle.caf_actor.specs.PlainReaction.{PlainReaction}
use Rattle.caf_record.proofs.ListLemmas.{self_equal}
use Rattle.caf_kinds.specs.Asking.{type_ids, has, asked}
use Rattle.caf_kinds.specs.Counter as counter
use Rattle.caf_kinds.specs.Keeping.{on_if}
use Rattle.caf_kinds.specs.Kinds.{reacted, as_kind}
use Rattle.caf_kinds.specs.Lines as lines
use Rattle.caf_kinds.specs.Peers.{taker_of}
use Rattle.caf_kinds.specs.Pipeline.{of_chunk, of_postings, of_extent, of_finish, counting, chunk_in, chunk_content, postings_content, extent_content, finish_content, to_peer}
use Rattle.caf_kinds.specs.Reacting.{Reacted}
use Rattle.caf_kinds.specs.Setups.{setup_at}
use Rattle.caf_kinds.specs.Source as source
use Rattle.caf_kinds.specs.Source.{Sourced}
use Rattle.caf_kinds.specs.declared.contents.Chunk.{Chunk}
use Rattle.caf_kinds.specs.declared.counter.Counter.{Counter}
use Rattle.caf_kinds.specs.declared.kind.Kind.TheVariants as kind
use Rattle.caf_kinds.specs.declared.lines.Lines.{Lines}
use Rattle.caf_kinds.specs.declared.setup.Setup.{Setup}
use Rattle.caf_kinds.specs.declared.source.Stage.{Stage}
use Rattle.caf_kinds.specs.declared.source.Stage.TheVariants as stage
use Rattle.caf_soundness.specs.Typed.{face, Serves}
use Rattle.caf_soundness.proofs.LogLemmas.{Log}
use Rattle.caf_soundness.proofs.ComesLemmas.{Accepts, Sends}
use Rattle.caf_soundness.proofs.KindLemmas.{IsSet, Acts, quiet_acts, failed_acts, value_acts}
use Rattle.caf_soundness.proofs.ServeLemmas.{Takes, served, chunk_taken, finish_taken, postings_taken, extent_taken}

-- what holds at each of the first positions holds of the first items
all_taken : (P : ℕ → Type 0) (xs : List ℕ) (n : ℕ) → ((i x : ℕ) → i < n → slice_get xs i ≡ Some x → P x) → AllByRecursion P (take n xs)
all_taken P xs zero each = tt
all_taken P [] (suc n) each = tt
all_taken P (x ∷ xs) (suc n) each = (each 0 x (omega arith) refl, all_taken P xs n (λ i y less e. each (suc i) y (omega (arith, less)) e))

module _ (setups : List Setup) (l : Log) (place : ℕ) where
  abbrev Sent : PlainOutput → Type 0
  Sent o = Sends (face setups) l o

  -- content to a peer, where there is that peer
  pub to_peer_sent : (peers : List ℕ) (n : ℕ) (words : List ℕ) → ((p : ℕ) → slice_get peers n ≡ Some p → Accepts (face setups) p words) → AllByRecursion Sent (to_peer (slice_get peers n) words)
  to_peer_sent peers n words takes = go (slice_get peers n) refl
    where
      go : (o : Option ℕ) → slice_get peers n ≡ o → AllByRecursion Sent (to_peer o words)
      go None e = tt
      go (Some p) e = (takes p e, tt)

  -- ---- source

  abbrev SourceActs : PlainInput → Reacted Sourced → Type 0
  SourceActs i r = Acts setups l place i (as_kind kind.Source r)

  more_taken : (s : Sourced) → IsSet setups l place (kind.Source s) → Accepts (face setups) s.identity.place source.more_content
  more_taken s set =
      subst (λ (p : ℕ). Accepts (face setups) p source.more_content) (sym set.own) (subst (Takes (type_ids source.going_on)) set.takes refl)

  not_last : (i count : ℕ) → i < count → (i == count) ≡ false
  not_last i count less = grind (arith, nat_tests)

  chunk_there : (s : Sourced) → IsSet setups l place (kind.Source s) → (c : Chunk) (i p : ℕ) → i < length s.identity.peers - 1 → slice_get s.identity.peers i ≡ Some p → Accepts (face setups) p (chunk_content c)
  chunk_there s set c i p less e =
      let wanted = set.peers (λ e. absurd cc) i p e in
      let early : (i == length s.identity.peers - 1) ≡ false = not_last i (length s.identity.peers - 1) less in
      let taker : Serves (setup_at setups p) (taker_of of_chunk) =
      subst (λ (b : Bool). Serves (setup_at setups p) (if b then taker_of of_finish else taker_of of_chunk)) early wanted in
      served (taker_of of_chunk) (Takes (type_ids of_chunk)) chunk_taken (setup_at setups p) taker

  chunks_sent : (s : Sourced) → IsSet setups l place (kind.Source s) → (cs : List Chunk) → AllByRecursion Sent (map (source.tells_all s) cs)
  chunks_sent s set [] = tt
  chunks_sent s set (c ∷ cs) = (
    all_taken (λ p. Accepts (face setups) p (chunk_content c)) s.identity.peers (length s.identity.peers - 1) (chunk_there s set c),
    chunks_sent s set cs,
  )

  finish_there : (s : Sourced) → IsSet setups l place (kind.Source s) → (words : List ℕ) → ids_in words ≡ type_ids of_finish → (p : ℕ) → slice_get s.identity.peers (length s.identity.peers - 1) ≡ Some p → Accepts (face setups) p words
  finish_there s set words ids p e =
      let wanted = set.peers (λ e. absurd cc) (length s.identity.peers - 1) p e in
      let taker : Serves (setup_at setups p) (taker_of of_finish) =
      subst (λ (b : Bool). Serves (setup_at setups p) (if b then taker_of of_finish else taker_of of_chunk)) (self_equal (length s.identity.peers - 1)) wanted in
      subst (λ (x : List ℕ). Takes x (face setups p)) (sym ids) (served (taker_of of_finish) (Takes (type_ids of_finish)) finish_taken (setup_at setups p) taker)

  follows_sent : (s : Sourced) → IsSet setups l place (kind.Source s) → (cs : List Chunk) → AllByRecursion Sent (source.follows s cs)
  follows_sent s set [] =
      to_peer_sent s.identity.peers (length s.identity.peers - 1) (finish_content (source.finish_of (length s.chunks))) (finish_there s set (finish_content (source.finish_of (length s.chunks))) refl)
  follows_sent s set (c ∷ cs) = (more_taken s set, tt)

  start_acts : (s : Sourced) (origin : Origin) (words : List ℕ) → IsSet setups l place (kind.Source s) → (at : Stage) → SourceActs (Content origin words) (source.on_start at s)
  start_acts s origin words set stage.Waiting = record { outputs = (more_taken s set, tt); answer = tt; holds = tt }
  start_acts s origin words set stage.Telling = value_acts setups l place origin words _ (kind.Source s) tt
  start_acts s origin words set stage.Done = value_acts setups l place origin words _ (kind.Source s) tt

  more_acts : (s : Sourced) (origin : Origin) (words : List ℕ) → IsSet setups l place (kind.Source s) → (at : Stage) → SourceActs (Content origin words) (source.on_more at s)
  more_acts s origin words set stage.Telling = record {
    outputs = all_append Sent (map (source.tells_all s) (source.next_chunks s)) (source.follows s (source.chunks_left s)) (chunks_sent s set (source.next_chunks s)) (follows_sent s set (source.chunks_left s));
    answer = tt;
    holds = tt;
  }
  more_acts s origin words set stage.Waiting = value_acts setups l place origin words _ (kind.Source s) tt
  more_acts s origin words set stage.Done = value_acts setups l place origin words _ (kind.Source s) tt

  source_given : (s : Sourced) (origin : Origin) (words : List ℕ) → IsSet setups l place (kind.Source s) → SourceActs (Content origin words) (source.given s words)
  source_given s origin words set =
      let i : PlainInput = Content origin words in
      on_if (SourceActs i) (has source.starting words) _ _ (λ _. start_acts s origin words set s.stage)
      (λ _. on_if (SourceActs i) (has source.going_on words) _ _ (λ _. more_acts s origin words set s.stage)
      (λ _. failed_acts setups l place origin words (kind.Source s) tt))

  pub source_acts : (s : Sourced) (i : PlainInput) → IsSet setups l place (kind.Source s) → Acts setups l place i (reacted (kind.Source s) i)
  source_acts s (Content origin words) set = source_given s origin words set
  source_acts s Start set = quiet_acts setups l place Start (kind.Source s) tt
  source_acts s Stop set = quiet_acts setups l place Stop (kind.Source s) tt
  source_acts s (Response tag words) set = quiet_acts setups l place (Response tag words) (kind.Source s) tt
  source_acts s (Failed tag why) set = quiet_acts setups l place (Failed tag why) (kind.Source s) tt
  source_acts s (Down from why) set = quiet_acts setups l place (Down from why) (kind.Source s) tt
  source_acts s Tick set = quiet_acts setups l place Tick (kind.Source s) tt

  -- ---- lines

  abbrev LinesActs : Lines → PlainInput → PlainReaction → Type 0
  LinesActs s i r = Acts setups l place i (kind.Lines s, r)

  extent_there : (s : Lines) → IsSet setups l place (kind.Lines s) → (c : Chunk) (p : ℕ) → slice_get s.identity.peers 0 ≡ Some p → Accepts (face setups) p (extent_content (lines.extent_of c))
  extent_there s set c p e = served (taker_of of_extent) (Takes (type_ids of_extent)) extent_taken (setup_at setups p) (set.peers (λ e. absurd cc) 0 p e)

  lines_chunk : (s : Lines) (origin : Origin) (words : List ℕ) → IsSet setups l place (kind.Lines s) → (o : Option Chunk) → LinesActs s (Content origin words) (lines.on_chunk s o)
  lines_chunk s origin words set (Some c) = record { outputs = to_peer_sent s.identity.peers 0 (extent_content (lines.extent_of c)) (extent_there s set c); answer = tt; holds = tt }
  lines_chunk s origin words set None = failed_acts setups l place origin words (kind.Lines s) tt

  pub lines_acts : (s : Lines) (i : PlainInput) → IsSet setups l place (kind.Lines s) → Acts setups l place i (reacted (kind.Lines s) i)
  lines_acts s (Content origin words) set =
      on_if (LinesActs s (Content origin words)) (has of_chunk words) _ _ (λ _. lines_chunk s origin words set (chunk_in (asked of_chunk words)))
      (λ _. failed_acts setups l place origin words (kind.Lines s) tt)
  lines_acts s Start set = quiet_acts setups l place Start (kind.Lines s) tt
  lines_acts s Stop set = quiet_acts setups l place Stop (kind.Lines s) tt
  lines_acts s (Response tag words) set = quiet_acts setups l place (Response tag words) (kind.Lines s) tt
  lines_acts s (Failed tag why) set = quiet_acts setups l place (Failed tag why) (kind.Lines s) tt
  lines_acts s (Down from why) set = quiet_acts setups l place (Down from why) (kind.Lines s) tt
  lines_acts s Tick set = quiet_acts setups l place Tick (kind.Lines s) tt

  -- ---- counter

  abbrev CounterActs : PlainInput → Reacted Counter → Type 0
  CounterActs i r = Acts setups l place i (as_kind kind.Counter r)

  postings_there : (s : Counter) → IsSet setups l place (kind.Counter s) → (c : Chunk) (p : ℕ) → slice_get s.identity.peers 0 ≡ Some p → Accepts (face setups) p (postings_content (counter.postings_at c))
  postings_there s set c p e = served (taker_of of_postings) (Takes (type_ids of_postings)) postings_taken (setup_at setups p) (set.peers (λ e. absurd cc) 0 p e)

  counted_acts : (s : Counter) (origin : Origin) (words : List ℕ) → IsSet setups l place (kind.Counter s) → (c : Chunk)
      → CounterActs (Content origin words) (counter.counted s, counter.told s (postings_content (counter.postings_at c)))
  counted_acts s origin words set c =
      on_if (λ (r : PlainReaction). CounterActs (Content origin words) (counter.counted s, r)) (counter.is_small (postings_content (counter.postings_at c))) _ _
      (λ _. record { outputs = to_peer_sent s.identity.peers 0 (postings_content (counter.postings_at c)) (postings_there s set c); answer = tt; holds = tt })
      (λ _. failed_acts setups l place origin words (kind.Counter (counter.counted s)) tt)

  counter_chunk : (s : Counter) (origin : Origin) (words : List ℕ) → IsSet setups l place (kind.Counter s) → (o : Option Chunk) → CounterActs (Content origin words) (counter.on_chunk s o)
  counter_chunk s origin words set (Some c) = counted_acts s origin words set c
  counter_chunk s origin words set None = failed_acts setups l place origin words (kind.Counter s) tt

  pub counter_acts : (s : Counter) (i : PlainInput) → IsSet setups l place (kind.Counter s) → Acts setups l place i (reacted (kind.Counter s) i)
  counter_acts s (Content origin words) set =
      on_if (CounterActs (Content origin words)) (has of_chunk words) _ _ (λ _. counter_chunk s origin words set (chunk_in (asked of_chunk words)))
      (λ _. on_if (CounterActs (Content origin words)) (has counting words) _ _ (λ _. value_acts setups l place origin words _ (kind.Counter s) tt)
      (λ _. failed_acts setups l place origin words (kind.Counter s) tt))
  counter_acts s Start set = quiet_acts setups l place Start (kind.Counter s) tt
  counter_acts s Stop set = quiet_acts setups l place Stop (kind.Counter s) tt
  counter_acts s (Response tag words) set = quiet_acts setups l place (Response tag words) (kind.Counter s) tt
  counter_acts s (Failed tag why) set = quiet_acts setups l place (Failed tag why) (kind.Counter s) tt
  counter_acts s (Down from why) set = quiet_acts setups l place (Down from why) (kind.Counter s) tt
  counter_acts s Tick set = quiet_acts setups l place Tick (kind.Counter s) tt
