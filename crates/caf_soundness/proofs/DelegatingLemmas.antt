-- A relay and a spawner pass content on to those who take it and answer it as they do.
use Rattle.std.proofs.Common.{◌≡◌, ℕ, ◌==◌, ◌%◌, Bool, true, false, List, length, Option, Some, None, if◌then◌else◌, refl, ap, sym, ◌∙◌}
use Rattle.std.specs.Prelude.{slice_get, bytes_eq}
use Rattle.std.proofs.lemmas.Slice.Eq.{bytes_eq-Decides}
use Rattle.caf_types.specs.declared.sec.Sec.TheVariants as sec
use Rattle.caf_message.specs.Content.{ids_in}
use Rattle.caf_signature.specs.declared.interface.Signature.{Signature}
use Rattle.caf_actor.specs.declared.origin.Origin.{Origin}
use Rattle.caf_actor.specs.PlainInput.{PlainInput, Start, Stop, Content, Response, Failed, Down, Tick}
use Rattle.caf_actor.specs.PlainReaction.{PlainReaction}
use Rattle.caf_actor.specs.Rules.{declared_for}
use Rattle.caf_kinds.specs.Asking.{of_unsigned, of_signed, type_ids, has, asked}
use Rattle.caf_kinds.specs.Calc.{adding}
use Rattle.caf_kinds.specs.Keeping.{on_if}
use Rattle.caf_kinds.specs.Kinds.{reacted, as_kind}
use Rattle.caf_kinds.specs.Pipeline.{of_chunk, counting, chunk_in, chunk_content, passed_to}
use Rattle.caf_kinds.specs.Reacting.{Reacted, answers}
use Rattle.caf_kinds.specs.Relay as relay
use Rattle.caf_kinds.specs.SendLaws.{all_at}
use Rattle.caf_kinds.specs.Setups.{setup_at}
use Rattle.caf_kinds.specs.Spawner as spawner
use Rattle.caf_kinds.specs.declared.contents.Chunk.{Chunk}
use Rattle.caf_kinds.specs.declared.kind.Kind.TheVariants as kind
use Rattle.caf_kinds.specs.declared.relay.Relay.{Relay}
use Rattle.caf_kinds.specs.declared.setup.Setup.{Setup}
use Rattle.caf_kinds.specs.declared.spawner.Spawner.{Spawner}
use Rattle.caf_soundness.specs.Typed.{face, child_face, IsExpected, Serves}
use Rattle.caf_soundness.proofs.LogLemmas.{Log}
use Rattle.caf_soundness.proofs.ComesLemmas.{Accepts}
use Rattle.caf_soundness.proofs.KindLemmas.{IsSet, Acts, quiet_acts, failed_acts}
use Rattle.caf_soundness.proofs.ServeLemmas.{Takes, Answers, relayed_face, served, relayed_taken, count_answered, sum_answered}
use Rattle.caf_soundness.proofs.TellingLemmas.{to_peer_sent}

no_place_expected : IsExpected sec.NoPlace
no_place_expected = record { message = λ e. absurd cc; response = λ e. absurd cc }

module _ (setups : List Setup) (l : Log) (place : ℕ) where
  -- ---- what is passed on

  -- another place answers the content as this one does
  passed_fine : (takes : List Signature) (words types result : List ℕ) (to : ℕ) → takes ≡ face setups place → bytes_eq types (ids_in words) ≡ true → declared_for takes types ≡ Some result → Answers types result (face setups to)
      → declared_for (face setups to) (ids_in words) ≡ declared_for (face setups place) (ids_in words)
  passed_fine takes words types result to same e here there =
      let of_words : types ≡ ids_in words = (bytes_eq-Decides types (ids_in words)).0 e in
      ap (declared_for (face setups to)) (sym of_words) ∙ there ∙ sym here ∙ ap (λ (s : List Signature). declared_for s types) same ∙ ap (declared_for (face setups place)) of_words

  -- ---- relay

  abbrev RelayActs : Relay → PlainInput → PlainReaction → Type 0
  RelayActs s i r = Acts setups l place i (kind.Relay s, r)

  relayed_there : (s : Relay) → IsSet setups l place (kind.Relay s) → (c : Chunk) (n p : ℕ) → slice_get s.identity.peers n ≡ Some p → Accepts (face setups) p (chunk_content c)
  relayed_there s set c n p e = served relayed_face (Takes (type_ids of_chunk)) relayed_taken (setup_at setups p) (set.peers (λ e. absurd cc) n p e)

  relay_chunk : (s : Relay) (origin : Origin) (words : List ℕ) → IsSet setups l place (kind.Relay s) → (o : Option Chunk) → RelayActs s (Content origin words) (relay.on_chunk s o)
  relay_chunk s origin words set (Some c) = record {
    outputs = to_peer_sent setups l place s.identity.peers (c.number % length s.identity.peers) (chunk_content (relay.lowered c)) (relayed_there s set (relay.lowered c) (c.number % length s.identity.peers));
    answer = tt;
    holds = tt;
  }
  relay_chunk s origin words set None = failed_acts setups l place origin words (kind.Relay s) tt

  relay_count : (s : Relay) (origin : Origin) (words : List ℕ) → IsSet setups l place (kind.Relay s) → has counting words ≡ true → (o : Option ℕ) → slice_get s.identity.peers 0 ≡ o
      → RelayActs s (Content origin words) (answers (passed_to o))
  relay_count s origin words set e (Some p) q = record {
    outputs = tt;
    answer = passed_fine relay.interface words (type_ids counting) (type_ids of_unsigned) p set.takes e refl
        (served relayed_face (Answers (type_ids counting) (type_ids of_unsigned)) count_answered (setup_at setups p) (set.peers (λ e. absurd cc) 0 p q));
    holds = tt;
  }
  relay_count s origin words set e None q = failed_acts setups l place origin words (kind.Relay s) tt

  pub relay_acts : (s : Relay) (i : PlainInput) → IsSet setups l place (kind.Relay s) → Acts setups l place i (reacted (kind.Relay s) i)
  relay_acts s (Content origin words) set =
      on_if (RelayActs s (Content origin words)) (has of_chunk words) _ _ (λ _. relay_chunk s origin words set (chunk_in (asked of_chunk words)))
      (λ _. on_if (RelayActs s (Content origin words)) (has counting words) _ _ (λ e. relay_count s origin words set e (slice_get s.identity.peers 0) refl)
      (λ _. failed_acts setups l place origin words (kind.Relay s) tt))
  relay_acts s Start set = quiet_acts setups l place Start (kind.Relay s) tt
  relay_acts s Stop set = quiet_acts setups l place Stop (kind.Relay s) tt
  relay_acts s (Response tag words) set = quiet_acts setups l place (Response tag words) (kind.Relay s) tt
  relay_acts s (Failed tag why) set = quiet_acts setups l place (Failed tag why) (kind.Relay s) tt
  relay_acts s (Down from why) set = quiet_acts setups l place (Down from why) (kind.Relay s) tt
  relay_acts s Tick set = quiet_acts setups l place Tick (kind.Relay s) tt

  -- ---- spawner

  abbrev SpawnerActs : PlainInput → Reacted Spawner → Type 0
  SpawnerActs i r = Acts setups l place i (as_kind kind.Spawner r)

  begins_acts : (s : Spawner) (origin : Origin) (words : List ℕ) (o : Option ℕ) → SpawnerActs (Content origin words) (spawner.begins s o)
  begins_acts s origin words (Some p) = record { outputs = (tt, tt); answer = tt; holds = tt }
  begins_acts s origin words None = record { outputs = tt; answer = no_place_expected; holds = tt }

  abbrev Adds : ℕ → Type 0
  Adds p = Answers (type_ids adding) (type_ids of_signed) (face setups p)

  passes_acts : (s : Spawner) (origin : Origin) (words : List ℕ) → IsSet setups l place (kind.Spawner s) → has adding words ≡ true → (o : Option ℕ) → ((p : ℕ) → o ≡ Some p → Adds p) → SpawnerActs (Content origin words) (spawner.passes s o)
  passes_acts s origin words set e (Some p) adds = record {
    outputs = tt;
    answer = passed_fine spawner.interface words (type_ids adding) (type_ids of_signed) p set.takes e refl (adds p refl);
    holds = tt;
  }
  passes_acts s origin words set e None adds = failed_acts setups l place origin words (kind.Spawner s) tt

  turn_adds : (s : Spawner) → IsSet setups l place (kind.Spawner s) → (p : ℕ) → spawner.in_turn s ≡ Some p → Adds p
  turn_adds s set p e = go (s.started == 0) e
    where
      go : (b : Bool) → (if b then None else slice_get s.identity.reserve (s.passed % s.started)) ≡ Some p → Adds p
      go true q = absurd cc
      go false q =
          served child_face (Answers (type_ids adding) (type_ids of_signed)) sum_answered (setup_at setups p)
          (all_at (λ (r : ℕ). Serves (setup_at setups r) child_face) s.identity.reserve (s.passed % s.started) p set.reserve q)

  pub spawner_acts : (s : Spawner) (i : PlainInput) → IsSet setups l place (kind.Spawner s) → Acts setups l place i (reacted (kind.Spawner s) i)
  spawner_acts s (Content origin words) set =
      on_if (SpawnerActs (Content origin words)) (has spawner.spawning words) _ _ (λ _. begins_acts s origin words (slice_get s.identity.reserve s.started))
      (λ _. on_if (SpawnerActs (Content origin words)) (has adding words) _ _ (λ e. passes_acts s origin words set e (spawner.in_turn s) (turn_adds s set))
      (λ _. failed_acts setups l place origin words (kind.Spawner s) tt))
  spawner_acts s Start set = quiet_acts setups l place Start (kind.Spawner s) tt
  spawner_acts s Stop set = quiet_acts setups l place Stop (kind.Spawner s) tt
  spawner_acts s (Response tag words) set = quiet_acts setups l place (Response tag words) (kind.Spawner s) tt
  spawner_acts s (Failed tag why) set = quiet_acts setups l place (Failed tag why) (kind.Spawner s) tt
  spawner_acts s (Down from why) set = quiet_acts setups l place (Down from why) (kind.Spawner s) tt
  spawner_acts s Tick set = quiet_acts setups l place Tick (kind.Spawner s) tt
