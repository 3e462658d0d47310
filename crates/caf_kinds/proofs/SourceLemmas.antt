-- What a source tells at one [more], in numbers.
use Rattle.std.proofs.Common.{◌≡◌, ℕ, zero, suc, ◌+◌, ◌-◌, ◌<◌, ◌≤◌, min, List, [], ◌∷◌, ◌++◌, length, get_or, take, drop, map, refl, sym, ap, ◌∙◌, arith}
use Rattle.std.specs.Prelude.{Result, Ok, Err, OnOk}
use Rattle.std.proofs.lemmas.List.{length-take, length-drop, take_more, get_or-drop, map-append}
use Rattle.caf_actor.specs.PlainForms.{plain_output}
use Rattle.caf_actor.specs.PlainOutput.{PlainOutput}
use Rattle.caf_actor.specs.PlainReaction.{PlainReaction}
use Rattle.caf_actor.specs.declared.output.Output.{Output}
use Rattle.caf_kinds.specs.Who.{Who}
use Rattle.caf_kinds.specs.Reacting.{Reacted}
use Rattle.caf_kinds.specs.Source.{Sourced, tells_all, tells_itself, follows, stage_with, next_chunks, chunks_left, reaction_on, goes_on}
use Rattle.caf_kinds.specs.declared.contents.Chunk.{Chunk}
use Rattle.caf_kinds.specs.declared.source.Stage.{Stage}
use Rattle.caf_kinds.specs.declared.source.Stage.TheVariants as stage

pub next_length : (s : Sourced) → length (next_chunks s) ≡ min 32 (length s.chunks - s.told)
next_length s = omega (arith, length-take 32 (drop s.told s.chunks), length-drop s.told s.chunks)

left_length : (s : Sourced) → length (chunks_left s) ≡ length s.chunks - s.told - 32
left_length s = omega (arith, length-drop 32 (drop s.told s.chunks), length-drop s.told s.chunks)

-- ---- what is left

-- where fewer were told than there are, some are left; else none is
abbrev IsEnd : Sourced → ℕ → Type 0
IsEnd s end = end ≡ s.told + length (next_chunks s)

some_left : (s : Sourced) (end : ℕ) → IsEnd s end → end < length s.chunks → 0 < length (chunks_left s)
some_left s end is lt = omega (arith, left_length s, next_length s)

none_left : (s : Sourced) (end : ℕ) → IsEnd s end → length s.chunks ≤ end → length (chunks_left s) ≡ 0
none_left s end is le = omega (arith, left_length s, next_length s)

on_some : (s : Sourced) (left : List Chunk) → 0 < length left → (follows s left ≡ tells_itself s ∷ []) × (stage_with left ≡ stage.Telling)
on_some s [] lt = absurd (omega arith)
on_some s (c ∷ cs) lt = (refl, refl)

on_none : (s : Sourced) (left : List Chunk) → length left ≡ 0 → (follows s left ≡ follows s []) × (stage_with left ≡ stage.Done)
on_none s [] e = (refl, refl)
on_none s (c ∷ cs) e = absurd (omega arith)

pub goes_on_with : (s : Sourced) (end : ℕ) → IsEnd s end → end < length s.chunks → (follows s (chunks_left s) ≡ tells_itself s ∷ []) × (stage_with (chunks_left s) ≡ stage.Telling)
goes_on_with s end is lt = on_some s (chunks_left s) (some_left s end is lt)

pub ends_with : (s : Sourced) (end : ℕ) → IsEnd s end → length s.chunks ≤ end → (follows s (chunks_left s) ≡ follows s []) × (stage_with (chunks_left s) ≡ stage.Done)
ends_with s end is le = on_none s (chunks_left s) (none_left s end is le)

pub on_ok_map : {A E P Q : Type 0} (r : Result A E) → (P → Q) → OnOk r P → OnOk r Q
on_ok_map (Ok x) f p = f p
on_ok_map (Err e) f p = tt

-- ---- one chunk after another

no_chunk : Chunk
no_chunk = record { file = 0; number = 0; line = 0; bytes = [] }

pub told_more : (s : Sourced) (number : ℕ) (outputs new : List Output) (o : Output) → s.told ≤ number → number < length s.chunks
    → map plain_output outputs ≡ map (tells_all s) (take (number - s.told) (drop s.told s.chunks))
    → new ≡ outputs ++ o ∷ [] → ((c : Chunk) → plain_output o ≡ tells_all s (get_or s.chunks number c))
    → map plain_output new ≡ map (tells_all s) (take (number + 1 - s.told) (drop s.told s.chunks))
told_more s number outputs new o le lt before more is =
    let rest = drop s.told s.chunks in
    let at : number - s.told < length rest = omega (arith, length-drop s.told s.chunks) in
    let next : number + 1 - s.told ≡ number - s.told + 1 = omega arith in
    let place : s.told + (number - s.told) ≡ number = omega arith in
    let item : get_or rest (number - s.told) no_chunk ≡ get_or s.chunks number no_chunk = get_or-drop s.told s.chunks (number - s.told) no_chunk ∙ ap (λ (n : ℕ). get_or s.chunks n no_chunk) place in
    ap (map plain_output) more ∙ map-append plain_output outputs (o ∷ [])
    ∙ ap (λ (os : List PlainOutput). os ++ plain_output o ∷ []) before
    ∙ ap (λ (p : PlainOutput). map (tells_all s) (take (number - s.told) rest) ++ p ∷ []) (is no_chunk ∙ ap (tells_all s) (sym item))
    ∙ sym (map-append (tells_all s) (take (number - s.told) rest) (get_or rest (number - s.told) no_chunk ∷ []))
    ∙ ap (map (tells_all s)) (sym (take_more rest (number - s.told) no_chunk at))
    ∙ ap (λ (n : ℕ). map (tells_all s) (take n rest)) (sym next)

take_taken : (n : ℕ) (cs : List Chunk) → take (length (take n cs)) cs ≡ take n cs
take_taken zero cs = refl
take_taken (suc n) [] = refl
take_taken (suc n) (c ∷ cs) = ap (λ (ds : List Chunk). c ∷ ds) (take_taken n cs)

pub told_all : (s : Sourced) (number end : ℕ) (outputs : List Output) → number ≡ end → IsEnd s end
    → map plain_output outputs ≡ map (tells_all s) (take (number - s.told) (drop s.told s.chunks)) → map plain_output outputs ≡ map (tells_all s) (next_chunks s)
told_all s number end outputs same is all =
    let count : number - s.told ≡ length (next_chunks s) = omega arith in
    all ∙ ap (λ (n : ℕ). map (tells_all s) (take n (drop s.told s.chunks))) count ∙ ap (map (tells_all s)) (take_taken 32 (drop s.told s.chunks))

-- ---- the next value

abbrev source_with : Who → List Chunk → ℕ → Stage → Sourced
source_with who chunks told at = record { identity = who; chunks = chunks; told = told; stage = at }

abbrev went : Sourced → PlainReaction → Reacted Sourced
went s r = (s, r)

pub went_on : (s : Sourced) (who : Who) (chunks : List Chunk) (end : ℕ) (at : Stage) (r : PlainReaction) → who ≡ s.identity → chunks ≡ s.chunks → IsEnd s end
    → at ≡ stage_with (chunks_left s) → r ≡ reaction_on s → went (source_with who chunks end at) r ≡ goes_on s
went_on s who chunks end at r a b is q t =
    ap (λ (w : Who). went (source_with w chunks end at) r) a
    ∙ ap (λ (cs : List Chunk). went (source_with s.identity cs end at) r) b
    ∙ ap (λ (n : ℕ). went (source_with s.identity s.chunks n at) r) is
    ∙ ap (λ (g : Stage). went (source_with s.identity s.chunks (s.told + length (next_chunks s)) g) r) q
    ∙ ap (λ (p : PlainReaction). went (source_with s.identity s.chunks (s.told + length (next_chunks s)) (stage_with (chunks_left s))) p) t
