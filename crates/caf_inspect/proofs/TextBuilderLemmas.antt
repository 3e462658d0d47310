-- Writing what stands behind a value, and opening parts.
use Rattle.std.proofs.Common.{◌≡◌, ℕ, zero, suc, ◌-◌, ◌<◌, List, [], ◌∷◌, ◌++◌, refl, sym, ap, ◌∙◌, arith}
use Rattle.caf_text.specs.TextForm.{comma}
use Rattle.caf_inspect.specs.TextBuilder.{frame_of, frames_onto, frames_of}
use Rattle.caf_inspect.specs.TextStack.{Frame, State, state, give, given, opened}
use Rattle.caf_inspect.specs.declared.text_builder.Open.{Open}

pub given_whole : (n : ℕ) (frame : ℕ → Frame) (closing : ℕ) (fs : List Frame) (t : List ℕ) (up : List ℕ → State) → n ≡ 0 → given n frame closing fs t up ≡ up (t ++ closing ∷ [])
given_whole zero frame closing fs t up h = refl
given_whole (suc n) frame closing fs t up h = absurd (omega arith)

pub given_open : (n : ℕ) (frame : ℕ → Frame) (closing : ℕ) (fs : List Frame) (t : List ℕ) (up : List ℕ → State) → 0 < n → given n frame closing fs t up ≡ state (frame (n - 1) ∷ fs) (t ++ comma)
given_open zero frame closing fs t up h = absurd (omega arith)
given_open (suc n) frame closing fs t up h = let e : suc n - 1 ≡ n = omega arith in rw e refl

pub opened_none : (n : ℕ) (frame : ℕ → Frame) (opening closing : ℕ) (fs : List Frame) (t : List ℕ) → n ≡ 0 → opened n frame opening closing fs t ≡ give fs (t ++ opening ∷ closing ∷ [])
opened_none zero frame opening closing fs t h = refl
opened_none (suc n) frame opening closing fs t h = absurd (omega arith)

pub opened_some : (n : ℕ) (frame : ℕ → Frame) (opening closing : ℕ) (fs : List Frame) (t : List ℕ) → (n ≡ 0 → ⊥) → opened n frame opening closing fs t ≡ state (frame (n - 1) ∷ fs) (t ++ opening ∷ [])
opened_some zero frame opening closing fs t h = absurd (h refl)
opened_some (suc n) frame opening closing fs t h = let e : suc n - 1 ≡ n = omega arith in rw e refl

-- the part that was opened last stands first
onto_last : (fs : List Frame) (ps : List Open) (p : Open) → frames_onto fs (ps ++ p ∷ []) ≡ frame_of p ∷ frames_onto fs ps
onto_last fs [] p = refl
onto_last fs (q ∷ ps) p = onto_last (frame_of q ∷ fs) ps p

pub last_first : (ps : List Open) (p : Open) → frames_of (ps ++ p ∷ []) ≡ frame_of p ∷ frames_of ps
last_first ps p = onto_last [] ps p

-- a value in the part that was opened last
pub into_last : (ps qs : List Open) (p : Open) (t : List ℕ) (whole : State) → ps ≡ qs ++ p ∷ [] → give (frames_of ps) t ≡ whole → give (frame_of p ∷ frames_of qs) t ≡ whole
into_last ps qs p t whole is so_far = ap (λ fs. give fs t) (sym (last_first qs p)) ∙ ap (λ rs. give (frames_of rs) t) (sym is) ∙ so_far
