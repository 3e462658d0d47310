-- A source keeps the laws.
use Rattle.std.specs.Prelude.{◌≡◌, ℕ, zero, suc, ◌+◌, ◌-◌, ◌*◌, ◌≤◌, ◌<◌, Bool, true, List, [], ◌∷◌, ◌++◌, length, map, take, drop, Contains, refl}
use Rattle.std.proofs.Common.{arith}
use Rattle.std.proofs.lemmas.List.{length-take}
use Rattle.std.specs.List.{AllByRecursion}
use Rattle.caf_words.specs.Datum.{no_data, more, a_unit}
use Rattle.caf_actor.specs.declared.origin.Origin.{Origin}
use Rattle.caf_actor.specs.PlainInput.{PlainInput, Start, Stop, Content, Response, Failed, Down, Tick}
use Rattle.caf_actor.specs.PlainOutput.{PlainOutput}
use Rattle.caf_actor.specs.Rules.{outputs_count}
use Rattle.caf_kinds.specs.Asking.{type_ids, has}
use Rattle.caf_kinds.specs.Who.{Who, fixed}
use Rattle.caf_kinds.specs.Reacting.{Reacted, answers, failed, done}
use Rattle.caf_kinds.specs.Lawful.{IsLawful, IsLawfulOutput, IsTarget, IsSound}
use Rattle.caf_kinds.specs.Keeping.{on_if, unit_sound, answers_by, answer_kept, failed_kept, quiet_kept}
use Rattle.caf_kinds.specs.Pipeline.{finish_content}
use Rattle.caf_kinds.specs.PipelineLaws.{chunk_sound, finish_sound, is_target, itself_is_target, to_peer_lawful, to_peer_few}
use Rattle.caf_kinds.specs.FileChunks.{AreChunks}
use Rattle.caf_kinds.specs.Source.{starting, going_on, interface, Sourced, IsValid, takers, last_peer, tells_all, tells_itself, more_content, finish_of, follows, next_chunks, chunks_left, goes_on, on_more, on_start, given, reacted}
use Rattle.caf_kinds.specs.declared.contents.Chunk.{Chunk}
use Rattle.caf_kinds.specs.declared.source.Stage.{Stage}
use Rattle.caf_kinds.specs.declared.source.Stage.TheVariants as stage

abbrev pub Keeps : (List ℕ → Bool) → Sourced → PlainInput → Reacted Sourced → Type 0
Keeps d s i r = IsLawful (fixed s.identity interface) (fixed r.0.identity interface) (IsValid r.0) d i r.1

abbrev AreOutputs : Sourced → Origin → List ℕ → List PlainOutput → Type 0
AreOutputs s origin words os = AllByRecursion (IsLawfulOutput s.identity (Content origin words)) os

more_sound : IsSound more_content
more_sound = (going_on, record { core = refl; values = more a_unit no_data; words_are = refl; fit = refl; range = refl })

-- ---- whom it tells

-- the first of the peers are peers
front_there : (peers : List ℕ) (n : ℕ) (x : ℕ) → Contains (take n peers) x → Contains peers x
front_there peers zero x k = absurd (let lt : k.0 < 0 = k.1 in omega arith)
front_there [] (suc n) x k = absurd (let lt : k.0 < 0 = k.1 in omega arith)
front_there (p ∷ peers) (suc n) x (zero, lt, e) = (zero, omega arith, e)
front_there (p ∷ peers) (suc n) x (suc k, lt, e) =
    let there = front_there peers n x (k, omega arith, e) in
    (suc there.0, let less : there.0 < length peers = there.1 in omega arith, there.2)

targets_of : (who : Who) (xs : List ℕ) → ((x : ℕ) → Contains xs x → Contains who.peers x) → AllByRecursion (IsTarget who) xs
targets_of who [] into = tt
targets_of who (x ∷ xs) into = (
  is_target who x (into x (zero, omega arith, refl)),
  targets_of who xs (λ y k. into y (suc k.0, (let lt : k.0 < length xs = k.1 in omega arith), k.2)),
)

chunks_out : (s : Sourced) (origin : Origin) (words : List ℕ) (cs : List Chunk) → AreChunks cs → (os : List PlainOutput) → AreOutputs s origin words os → AreOutputs s origin words (map (tells_all s) cs ++ os)
chunks_out s origin words [] all os rest = rest
chunks_out s origin words (c ∷ cs) all os rest = (
  record {
    targets = targets_of s.identity (takers s) (λ x k. front_there s.identity.peers (length s.identity.peers - 1) x k);
    content = chunk_sound c all.0.range;
    at_stop = λ e. absurd cc;
    at_ticks = λ e. tt;
  },
  chunks_out s origin words cs all.1 os rest,
)

itself_out : (s : Sourced) (origin : Origin) (words : List ℕ) → AreOutputs s origin words (tells_itself s ∷ [])
itself_out s origin words = (record { targets = (itself_is_target s.identity, tt); content = more_sound; at_stop = λ e. absurd cc; at_ticks = λ e. tt }, tt)

follows_out : (s : Sourced) (origin : Origin) (words : List ℕ) (left : List Chunk) → AreOutputs s origin words (follows s left)
follows_out s origin words [] = to_peer_lawful s.identity origin words (finish_content (finish_of (length s.chunks))) (length s.identity.peers - 1) (finish_sound (length s.chunks))
follows_out s origin words (c ∷ cs) = itself_out s origin words

-- ---- how many they are

follows_few : (s : Sourced) (left : List Chunk) → outputs_count (follows s left) ≤ 1
follows_few s [] = to_peer_few (last_peer s) (finish_content (finish_of (length s.chunks)))
follows_few s (c ∷ cs) = omega arith

chunks_count : (s : Sourced) (cs : List Chunk) (os : List PlainOutput) → length (takers s) ≤ 16 → outputs_count (map (tells_all s) cs ++ os) ≤ 16 * length cs + outputs_count os
chunks_count s [] os few = omega arith
chunks_count s (c ∷ cs) os few = omega (arith, chunks_count s cs os few)

takers_few : (s : Sourced) → IsValid s → length (takers s) ≤ 16
takers_few s valid = omega (arith, valid.peers, length-take (length s.identity.peers - 1) s.identity.peers)

next_few : (s : Sourced) → length (next_chunks s) ≤ 32
next_few s = omega (arith, length-take 32 (drop s.told s.chunks))

told_few : (s : Sourced) → IsValid s → outputs_count (map (tells_all s) (next_chunks s) ++ follows s (chunks_left s)) ≤ 1024
told_few s valid = omega (arith, chunks_count s (next_chunks s) (follows s (chunks_left s)) (takers_few s valid), next_few s, follows_few s (chunks_left s))

-- ---- some of the chunks are chunks

take_all : (n : ℕ) (cs : List Chunk) → AreChunks cs → AreChunks (take n cs)
take_all zero cs all = tt
take_all (suc n) [] all = tt
take_all (suc n) (c ∷ cs) all = (all.0, take_all n cs all.1)

drop_all : (n : ℕ) (cs : List Chunk) → AreChunks cs → AreChunks (drop n cs)
drop_all zero cs all = all
drop_all (suc n) [] all = tt
drop_all (suc n) (c ∷ cs) all = drop_all n cs all.1

-- ---- inputs

goes_on_keeps : (d : List ℕ → Bool) (s : Sourced) (origin : Origin) (words : List ℕ) → IsValid s → has going_on words ≡ true → Keeps d s (Content origin words) (goes_on s)
goes_on_keeps d s origin words valid e = record {
  same = refl;
  valid = record { chunks = valid.chunks; peers = valid.peers };
  outputs = chunks_out s origin words (next_chunks s) (take_all 32 (drop s.told s.chunks) (drop_all s.told s.chunks valid.chunks)) (follows s (chunks_left s)) (follows_out s origin words (chunks_left s));
  few = told_few s valid;
  answer = answers_by interface (type_ids going_on) origin words _ e refl unit_sound;
}

more_keeps : (d : List ℕ → Bool) (s : Sourced) (origin : Origin) (words : List ℕ) → IsValid s → has going_on words ≡ true → (at : Stage) → Keeps d s (Content origin words) (on_more at s)
more_keeps d s origin words valid e stage.Telling = goes_on_keeps d s origin words valid e
more_keeps d s origin words valid e _ =
    let me = fixed s.identity interface in
    answer_kept me me (IsValid s) d (Content origin words) done refl valid (answers_by interface (type_ids going_on) origin words _ e refl unit_sound)

start_keeps : (d : List ℕ → Bool) (s : Sourced) (origin : Origin) (words : List ℕ) → IsValid s → has starting words ≡ true → (at : Stage) → Keeps d s (Content origin words) (on_start at s)
start_keeps d s origin words valid e stage.Waiting = record {
  same = refl;
  valid = record { chunks = valid.chunks; peers = valid.peers };
  outputs = itself_out s origin words;
  few = omega arith;
  answer = answers_by interface (type_ids starting) origin words _ e refl unit_sound;
}
start_keeps d s origin words valid e _ =
    let me = fixed s.identity interface in
    answer_kept me me (IsValid s) d (Content origin words) done refl valid (answers_by interface (type_ids starting) origin words _ e refl unit_sound)

given_keeps : (d : List ℕ → Bool) (s : Sourced) (origin : Origin) (words : List ℕ) → IsValid s → Keeps d s (Content origin words) (given s words)
given_keeps d s origin words valid =
    let i = Content origin words in
    on_if (Keeps d s i) (has starting words) (on_start s.stage s) _
    (λ e. start_keeps d s origin words valid e s.stage)
    (λ _. on_if (Keeps d s i) (has going_on words) (on_more s.stage s) (s, answers failed)
    (λ e. more_keeps d s origin words valid e s.stage)
    (λ _. failed_kept (fixed s.identity interface) (IsValid s) d i valid))

pub keeps : (d : List ℕ → Bool) (s : Sourced) (i : PlainInput) → IsValid s → Keeps d s i (reacted s i)
keeps d s (Content origin words) valid = given_keeps d s origin words valid
keeps d s Start valid = quiet_kept (fixed s.identity interface) (IsValid s) d Start valid tt
keeps d s Stop valid = quiet_kept (fixed s.identity interface) (IsValid s) d Stop valid tt
keeps d s (Response tag words) valid = quiet_kept (fixed s.identity interface) (IsValid s) d (Response tag words) valid tt
keeps d s (Failed tag why) valid = quiet_kept (fixed s.identity interface) (IsValid s) d (Failed tag why) valid tt
keeps d s (Down place why) valid = quiet_kept (fixed s.identity interface) (IsValid s) d (Down place why) valid tt
keeps d s Tick valid = quiet_kept (fixed s.identity interface) (IsValid s) d Tick valid tt
