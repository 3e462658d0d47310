-- Telling one event to the JSON saver.
use Rattle.std.proofs.Common.{◌≡◌, true, false, ℕ, List, [], ◌∷◌, ◌++◌, length, take, get_or, refl, sym, ap, subst, ◌∙◌}
use Rattle.std.proofs.Math.Seq.{get_or-append_seam, take-append_seam}
use Rattle.serde_json.specs.Data.{null, Data as Json}
use Rattle.caf_types.specs.ShapeTree.{ShapeTree}
use Rattle.caf_words.specs.Datum.{Datum, fits}
use Rattle.caf_events.specs.Event.{Event, events}
use Rattle.caf_events.specs.Item.{events_in}
use Rattle.caf_events.specs.Range.{IsInRange}
use Rattle.caf_events.specs.Tells.{Tells, Keeps}
use Rattle.caf_events.proofs.RangeLemmas.{range_more}
use Rattle.caf_events.proofs.OfShapeLemmas.{is_of}
use Rattle.caf_json.specs.Builder.{built, IsOpen}
use Rattle.caf_json.specs.Saver.{SavesJson}
use Rattle.caf_json.specs.Stack.{State, state, step, steps, json}
use Rattle.caf_json.specs.declared.saver.JsonSaver.{JsonSaver}
use Rattle.caf_json.proofs.BuildingLemmas.{built_whole, steps_whole}

steps_more : (s : State) (es : List Event) (e : Event) → steps s (es ++ e ∷ []) ≡ step (steps s es) e
steps_more s [] e = refl
steps_more s (x ∷ es) e = steps_more (step s x) es e

pub json_told : {old new : JsonSaver} {e : Event} → events_in new.items.items ≡ events_in old.items.items ++ e ∷ [] → old.is_broken ≡ false → new.is_broken ≡ false
    → built new.builder ≡ step (built old.builder) e → IsInRange e → Tells SavesJson old new (e ∷ [])
json_told {old = old} {new = new} {e = e} listed was is stepped range = record {
  after = λ es h. record {
    listed = listed ∙ ap (λ xs. xs ++ e ∷ []) h.listed;
    whole = λ _. stepped ∙ ap (λ s. step s e) (h.whole was) ∙ (let m = steps_more (state [] null) es e in sym m);
    broken = λ b. absurd (let q : false ≡ true = sym is ∙ b in cc);
    range = range_more es e h.range range;
  };
}

pub json_kept : {old new : JsonSaver} → events_in new.items.items ≡ events_in old.items.items → old.is_broken ≡ false → (new.is_broken ≡ false → built new.builder ≡ built old.builder)
    → (new.is_broken ≡ true → IsOpen (built old.builder)) → Keeps SavesJson old new
json_kept {old = old} {new = new} listed was whole broken = record {
  same = λ es h. record {
    listed = listed ∙ h.listed;
    whole = λ b. whole b ∙ h.whole was;
    broken = λ b. subst IsOpen (h.whole was) (broken b);
    range = h.range;
  };
}

-- the events were built anew
pub json_mended : {old new : JsonSaver} → events_in new.items.items ≡ events_in old.items.items → new.is_broken ≡ false → built new.builder ≡ steps (state [] null) (events_in old.items.items) → Keeps SavesJson old new
json_mended {old = old} {new = new} listed is anew = record {
  same = λ es h. record {
    listed = listed ∙ h.listed;
    whole = λ _. anew ∙ ap (steps (state [] null)) h.listed;
    broken = λ b. absurd (let q : false ≡ true = sym is ∙ b in cc);
    range = h.range;
  };
}

pub json_same : {saver : JsonSaver} → Keeps SavesJson saver saver
json_same = record { same = λ es h. h }

-- a saver that was told one value isn't broken
pub not_broken : (saver : JsonSaver) (f : ShapeTree) (d : Datum) → fits f d ≡ true → SavesJson saver (events f d) → saver.is_broken ≡ false
not_broken saver f d fit saved = go saver.is_broken refl
  where
    go : (b : _) → saver.is_broken ≡ b → saver.is_broken ≡ false
    go false e = e
    go true e = absurd (subst IsOpen (steps_whole f d (is_of f d fit)) (saved.broken e))

-- the item that was put behind others
pub item_behind : {A : Type 0} (xs ys : List A) (x y : A) (n : ℕ) → ys ≡ xs ++ x ∷ [] → n ≡ length xs → y ≡ get_or ys n y → y ≡ x
item_behind xs ys x y n e is at = at ∙ ap (λ zs. get_or zs n y) e ∙ ap (λ k. get_or (xs ++ x ∷ []) k y) is ∙ get_or-append_seam xs x [] y

-- and the others again
pub front_again : {A : Type 0} (xs ys zs : List A) (x : A) (n : ℕ) → ys ≡ xs ++ x ∷ [] → n ≡ length xs → zs ≡ take n ys → zs ≡ xs
front_again xs ys zs x n e is t = t ∙ ap (take n) e ∙ ap (λ k. take k (xs ++ x ∷ [])) is ∙ take-append_seam xs (x ∷ [])
