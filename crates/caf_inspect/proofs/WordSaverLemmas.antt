-- The words of a value's events are its spelling.
use Rattle.std.proofs.Common.{◌≡◌, ℕ, ◌<◌, ◌^◌, List, [], ◌∷◌, ◌++◌, refl, sym, ap, subst, ◌∙◌, arith}
use Rattle.std.proofs.lemmas.List.{append-nil}
use Rattle.std.proofs.lemmas.List.Concat.{flat_map-append}
use Rattle.caf_types.specs.ShapeTree as tree
use Rattle.caf_types.specs.ShapeTree.{ShapeTree, Parts, no_parts, part, count_parts}
use Rattle.caf_words.specs.Datum.{Datum, a_text, some_bytes, Data, no_data, more, count}
use Rattle.caf_words.specs.Spelling.{spelling, spellings, Spells, EachSpells, PartsSpell}
use Rattle.caf_events.specs.Event.{Event, events, each_events, part_events}
use Rattle.caf_events.proofs.OfShapeLemmas.{IsOf, PartsAre, AllAre, count_of}
use Rattle.caf_events.proofs.RangeLemmas.{range_split}
use Rattle.caf_events.specs.Range.{AreInRange}
use Rattle.caf_inspect.specs.WordForm.{words_of, all_words}

joined : (xs ys : List Event) (a b : List ℕ) → all_words xs ≡ a → all_words ys ≡ b → all_words (xs ++ ys) ≡ a ++ b
joined xs ys a b p q = flat_map-append words_of xs ys ∙ cc

each_saved : (P : Datum → Type 0) (one : Datum → List Event) → ((d : Datum) → P d → all_words (one d) ≡ spelling d) → (ds : Data) → AllAre P ds → all_words (each_events one ds) ≡ spellings ds
each_saved P one s no_data h = refl
each_saved P one s (more d ds) h = joined (one d) (each_events one ds) (spelling d) (spellings ds) (s d h.0) (each_saved P one s ds h.1)

mutual
  pub all_saved : (f : ShapeTree) (d : Datum) → IsOf f d → all_words (events f d) ≡ spelling d
  all_saved tree.unit d h = rw h refl
  all_saved tree.flag d h = rw (h.1) refl
  all_saved tree.unsigned d h = rw (h.1) refl
  all_saved tree.signed d h = rw (h.1) refl
  all_saved tree.text d h = rw (h.1) (append-nil (spelling (a_text h.0)))
  all_saved tree.bytes d h = rw (h.1) (append-nil (spelling (some_bytes h.0)))
  all_saved tree.place d h = rw (h.2) refl
  all_saved (tree.list f) d h = rw (h.2) (ap (λ (ws : List ℕ). count h.0 ∷ ws) (each_saved (IsOf f) (events f) (all_saved f) h.0 h.1))
  all_saved (tree.object ps) d h =
      rw (h.2) (ap (λ (ws : List ℕ). count_parts ps ∷ ws) (parts_saved ps h.0 h.1) ∙ ap (λ k. k ∷ spellings h.0) (sym (count_of ps h.0 h.1)))

  parts_saved : (ps : Parts) (ds : Data) → PartsAre ps ds → all_words (part_events ps ds) ≡ spellings ds
  parts_saved no_parts ds h = rw h refl
  parts_saved (part name f ps) ds h = rw (h.4) (joined (events f h.0) (part_events ps h.1) (spelling h.0) (spellings h.1) (all_saved f h.0 h.2) (parts_saved ps h.1 h.3))

-- ---- with numbers in range, the words spell the value

each_spells : (P : Datum → Type 0) (S : Datum → List ℕ → Type 0) (one : Datum → List Event) → ((d : Datum) → P d → AreInRange (one d) → S d (spelling d))
    → (ds : Data) → AllAre P ds → AreInRange (each_events one ds) → EachSpells S ds (spellings ds)
each_spells P S one s no_data h r = refl
each_spells P S one s (more d ds) h r =
    let p = range_split (one d) (each_events one ds) r in
    (spelling d, spellings ds, s d h.0 p.0, each_spells P S one s ds h.1 p.1, refl)

mutual
  pub all_spell : (f : ShapeTree) (d : Datum) → IsOf f d → AreInRange (events f d) → Spells f d (spelling d)
  all_spell tree.unit d h r = (h, ap spelling h)
  all_spell tree.flag d h r = (h.0, h.1, ap spelling h.1)
  all_spell tree.unsigned d h r = let q = subst (λ x. AreInRange (events tree.unsigned x)) h.1 r in (h.0, q.0, h.1, ap spelling h.1)
  all_spell tree.signed d h r = let q = subst (λ x. AreInRange (events tree.signed x)) h.1 r in (h.0, q.0, h.1, ap spelling h.1)
  all_spell tree.text d h r = let q = subst (λ x. AreInRange (events tree.text x)) h.1 r in (h.0, q.0.0, q.0.1, q.0.2, h.1, ap spelling h.1)
  all_spell tree.bytes d h r = let q = subst (λ x. AreInRange (events tree.bytes x)) h.1 r in (h.0, q.0.0, q.0.1, h.1, ap spelling h.1)
  all_spell tree.place d h r = (h.0, h.1, h.2, ap spelling h.2)
  all_spell (tree.list f) d h r =
      let q = subst (λ x. AreInRange (events (tree.list f) x)) h.2 r in
      (h.0, q.0, h.2, spellings h.0, each_spells (IsOf f) (Spells f) (events f) (all_spell f) h.0 h.1 q.1, ap spelling h.2)
  all_spell (tree.object ps) d h r =
      let q = subst (λ x. AreInRange (events (tree.object ps) x)) h.2 r in
      (h.0, subst (λ k. k < 2 ^ 64) (sym (count_of ps h.0 h.1)) q.0, h.2, spellings h.0, parts_spell ps h.0 h.1 q.1, ap spelling h.2)

  parts_spell : (ps : Parts) (ds : Data) → PartsAre ps ds → AreInRange (part_events ps ds) → PartsSpell ps ds (spellings ds)
  parts_spell no_parts ds h r = (h, ap spellings h)
  parts_spell (part name f ps) ds h r =
      let q = subst (λ x. AreInRange (part_events (part name f ps) x)) h.4 r in
      let p = range_split (events f h.0) (part_events ps h.1) q.1 in
      (h.0, h.1, h.4, spelling h.0, spellings h.1, all_spell f h.0 h.2 p.0, parts_spell ps h.1 h.3 p.1, ap spellings h.4)
