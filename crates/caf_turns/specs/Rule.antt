-- The turn rule: who has a body, and what is known of what is due to it.
use Rattle.std.specs.Prelude.{◌≡◌, ◌≢◌, ℕ, ◌+◌, ◌*◌, ◌<◌, ◌≤◌, ◌==◌, if◌then◌else◌, List, [], ◌∷◌, length, slice_index, Option, Some, None}
use mathlib.Core.Option as maybe
use mathlib.Core.Option.{some, none}
use lib.ListN.{get_elem?}
use Rattle.atomic_table.specs.Table.{State}
use Rattle.caf_turns.specs.declared.view.View.{View}
use Rattle.caf_turns.specs.Steps.{IsIn, announced, last_look}
use Rattle.caf_turns.specs.Limits.{all_parts, most_announcements}

-- where a body is: at home, out with the seat of a number, or on its way out of or into its slot with that seat
pub data Place : Type 0 where
  home : Place
  held : ℕ → Place
  moving : ℕ → Place

-- the seat j holds a body that is at this place
abbrev pub Has : ℕ → Place → Type 0
Has j home = ⊥
Has j (held k) = k ≡ j
Has j (moving k) = k ≡ j

-- the sum over all views
abbrev pub total : {T : Type 0} → (View T → ℕ) → List (View T) → ℕ
total f [] = 0
total f (v ∷ vs) = f v + total f vs

module _ {T M : Type 0} (has : T → M → Type 0) (opening : List T) where
  -- it has the marks that the body i had when it was given
  abbrev pub Opens : ℕ → T → Type 0
  Opens i y = (a : T) × (get_elem? opening i ≡ some a) × ((m : M) → has a m → has y m)

  -- the turn word x and the slot h of the body i, while it is at this place, with n seats
  abbrev pub At : ℕ → ℕ → ℕ → maybe.Option (maybe.Option (Option T)) → Place → Type 0
  At n i x h home = (x ≡ 0) × ((y : T) × (h ≡ some (some (Some y))) × Opens i y)
  At n i x h (held j) = (x ≡ 1) × (h ≡ some (some None)) × (j < n)
  At n i x h (moving j) = (x ≡ 1) × (h ≡ some none) × (j < n)

  -- what holds of the seat j and its view, where the bodies are at these places and this is due to them
  pub record Knows (place : ℕ → Place) (due : ℕ → ℕ) (j : ℕ) (v : View T) : Type 0 where
    pub same : v.parts ≢ 0 → v.opening ≡ opening
    pub has_out : (i : ℕ) → IsIn i v.out → place i ≡ held j
    pub is_out : (i : ℕ) → i < length opening → place i ≡ held j → IsIn i v.out
    pub has_hand : (i : ℕ) → v.hand ≡ Some i → place i ≡ moving j
    pub is_hand : (i : ℕ) → i < length opening → place i ≡ moving j → v.hand ≡ Some i
    pub looks : (i r : ℕ) → i < length opening → last_look i v.steps ≡ Some r → Has j (place i) × (r ≤ due i)
    pub few : announced v.steps + most_announcements * v.splits ≤ most_announcements * v.parts
    pub idle : v.parts ≡ 0 → (v.out ≡ []) × (v.hand ≡ None) × (v.rooms ≡ 0)

  pub record TurnRule (s : State (Option T) (View T)) : Type 0 where
    pub place : ℕ → Place
    pub wide : length s.words ≡ length opening + length opening
    pub deep : length s.homes ≡ length opening
    pub each_body : (i : ℕ) → i < length opening → At (length s.views) i (slice_index s.words i) (get_elem? s.homes i) (place i)
    pub each_due : (i : ℕ) → i < length opening → slice_index s.words (length opening + i) ≤ total (λ v. announced v.steps) s.views
    pub each_seat : (j : ℕ) (v : View T) → get_elem? s.views j ≡ some v → Knows place (λ i. slice_index s.words (length opening + i)) j v
    pub parts : total (λ v. v.parts) s.views ≡ all_parts
    pub rooms : total (λ v. v.rooms) s.views ≡ 1

-- the place of the body i becomes p
abbrev pub put_at : (ℕ → Place) → ℕ → Place → ℕ → Place
put_at place i p = λ k. if k == i then p else place k
