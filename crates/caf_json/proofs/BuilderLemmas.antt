-- Putting a value into an open part, and opening parts.
use Rattle.std.proofs.Common.{◌≡◌, ℕ, zero, suc, ◌==◌, Bool, true, false, not, ◌-◌, List, [], ◌∷◌, ◌++◌, length, Result, Ok, Err, OnErr, refl, sym, ap, ◌∙◌, arith}
use Rattle.std.proofs.lemmas.Bool.Decides.{nat_tests}
use Rattle.serde_json.specs.Data.{Data as Json, array, no_items, object, Members, no_members}
use Rattle.serde_json.specs.View.{items_of}
use Rattle.caf_json.specs.Builder.{frame_of, frames_onto, frames_of, IsOpen}
use Rattle.caf_json.specs.Stack.{Frame, in_array, in_object, State, state, give, array_given, object_given, opened_array, opened_object}
use Rattle.caf_json.specs.declared.part.Part.{Part}

pub array_whole : (n : ℕ) (js : List Json) (up : Json → State) (stay : Frame → State) → n ≡ 0 → array_given n js up stay ≡ up (array (items_of js))
array_whole zero js up stay h = refl
array_whole (suc n) js up stay h = absurd (omega arith)

pub array_open : (n : ℕ) (js : List Json) (up : Json → State) (stay : Frame → State) → (n ≡ 0 → ⊥) → array_given n js up stay ≡ stay (in_array (n - 1) js)
array_open zero js up stay h = absurd (h refl)
array_open (suc n) js up stay h = let e : suc n - 1 ≡ n = omega arith in rw e refl

pub object_whole : (n : ℕ) (ms : Members) (key : List ℕ) (up : Json → State) (stay : Frame → State) → n ≡ 0 → object_given n ms key up stay ≡ up (object ms)
object_whole zero ms key up stay h = refl
object_whole (suc n) ms key up stay h = absurd (omega arith)

pub object_open : (n : ℕ) (ms : Members) (key : List ℕ) (up : Json → State) (stay : Frame → State) → (n ≡ 0 → ⊥) → object_given n ms key up stay ≡ stay (in_object (n - 1) ms key)
object_open zero ms key up stay h = absurd (h refl)
object_open (suc n) ms key up stay h = let e : suc n - 1 ≡ n = omega arith in rw e refl

pub array_none : (n : ℕ) (fs : List Frame) (last : Json) → n ≡ 0 → opened_array n fs last ≡ give fs last (array no_items)
array_none zero fs last h = refl
array_none (suc n) fs last h = absurd (omega arith)

pub array_some : (n : ℕ) (fs : List Frame) (last : Json) → (n ≡ 0 → ⊥) → opened_array n fs last ≡ state (in_array (n - 1) [] ∷ fs) last
array_some zero fs last h = absurd (h refl)
array_some (suc n) fs last h = let e : suc n - 1 ≡ n = omega arith in rw e refl

pub object_none : (n : ℕ) (fs : List Frame) (last : Json) → n ≡ 0 → opened_object n fs last ≡ give fs last (object no_members)
object_none zero fs last h = refl
object_none (suc n) fs last h = absurd (omega arith)

pub object_some : (n : ℕ) (fs : List Frame) (last : Json) → (n ≡ 0 → ⊥) → opened_object n fs last ≡ state (in_object (n - 1) no_members [] ∷ fs) last
object_some zero fs last h = absurd (h refl)
object_some (suc n) fs last h = let e : suc n - 1 ≡ n = omega arith in rw e refl

-- the part that was opened last stands first
onto_last : (fs : List Frame) (ps : List Part) (p : Part) → frames_onto fs (ps ++ p ∷ []) ≡ frame_of p ∷ frames_onto fs ps
onto_last fs [] p = refl
onto_last fs (q ∷ ps) p = onto_last (frame_of q ∷ fs) ps p

pub last_first : (ps : List Part) (p : Part) → frames_of (ps ++ p ∷ []) ≡ frame_of p ∷ frames_of ps
last_first ps p = onto_last [] ps p

pub into_last : (ps qs : List Part) (p : Part) (last j : Json) (new whole : State) → ps ≡ qs ++ p ∷ [] → new ≡ give (frame_of p ∷ frames_of qs) last j → give (frames_of ps) last j ≡ whole → new ≡ whole
into_last ps qs p last j new whole is given so_far =
    given ∙ ap (λ fs. give fs last j) (sym (last_first qs p)) ∙ ap (λ rs. give (frames_of rs) last j) (sym is) ∙ so_far

-- ---- whether anything is open

onto_open : (f : Frame) (fs : List Frame) (ps : List Part) (last : Json) → IsOpen (state (frames_onto (f ∷ fs) ps) last)
onto_open f fs [] last = tt
onto_open f fs (p ∷ ps) last = onto_open (frame_of p) (f ∷ fs) ps last

pub is_open : (ps : List Part) (last : Json) → (length ps ≡ 0 → ⊥) → IsOpen (state (frames_of ps) last)
is_open [] last h = absurd (h refl)
is_open (p ∷ ps) last h = onto_open (frame_of p) [] ps last

pub on_err : {A E P Q : Type 0} (r : Result A E) → (P → Q) → OnErr r (P → Q)
on_err (Ok x) p = tt
on_err (Err e) p = p

pub some_open : (b : Bool) (n : ℕ) → b ≡ (n == 0) → not b ≡ true → n ≡ 0 → ⊥
some_open b n e h none = let is : b ≡ true = e ∙ ap (λ k. k == 0) none in let q : false ≡ true = ap not (sym is) ∙ h in absurd cc

pub none_open : (b : Bool) (n : ℕ) → b ≡ (n == 0) → not b ≡ false → n ≡ 0
none_open b zero e h = refl
none_open b (suc n) e h = let z : (suc n == 0) ≡ false = grind (arith, nat_tests) in let is : b ≡ false = e ∙ z in let q : true ≡ false = ap not (sym is) ∙ h in absurd cc
