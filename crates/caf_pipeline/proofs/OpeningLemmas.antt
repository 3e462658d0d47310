-- How the actors of an undisturbed run begin: who stands where, with which files, and none of them as a child.
use Rattle.std.proofs.Common.{◌≡◌, ◌≢◌, ℕ, zero, suc, ◌+◌, ◌<◌, ◌==◌, true, false, List, [], ◌∷◌, length, Some, inl, inr, refl, sym, subst, ap, ◌∙◌, arith}
use Rattle.std.specs.Prelude.{not, slice_get}
use Rattle.std.specs.List.{AllByRecursion, list_any}
use Rattle.std.proofs.lemmas.List.{length-map}
use Rattle.caf_index.proofs.ContainsLemmas.{contains-cases}
use Rattle.caf_kinds.specs.FileChunks.{AreChunks, all_chunks, chunk_in, places_from}
use Rattle.caf_kinds.specs.Setups.{setup_at}
use Rattle.caf_kinds.specs.declared.script.Step.{Step}
use Rattle.caf_kinds.specs.declared.setup.KindName.{KindName}
use Rattle.caf_kinds.specs.declared.setup.KindName.TheVariants as name
use Rattle.caf_kinds.specs.declared.setup.Setup.{Setup}
use Rattle.caf_kinds.proofs.ChunkPlaceLemmas.{all_chunks_there, all_places_in, places_are_chunks, are_files}
use Rattle.caf_opening.specs.Opening.{own_files, files_left, is_child, actor_at, actors_from}
use Rattle.caf_pipeline.specs.Undisturbed.{Pipeline, IsSetUp, IsPipeline}
use Rattle.caf_pipeline.specs.Contents.{AreIndexable}
use Rattle.caf_pipeline.proofs.ListLemmas.{all_at, one_of}
use Rattle.caf_pipeline.proofs.PlaceLemmas.{setup_from_1, one_of_setups, setup_is_so, at_each_place}

-- ---- chunks

pub are_chunks : (files : List (List ℕ)) → AreIndexable files → AreChunks (all_chunks files)
are_chunks files are =
    let there = all_chunks_there files in
    let long = ap length (sym there) ∙ length-map (places_from 1 0 files) (chunk_in files) in
    let few = are.few_chunks in
    subst AreChunks there (places_are_chunks files (places_from 1 0 files) (all_places_in files are.few (are_files files are.bytes are.short) (omega (arith, long, few))))

-- ---- the one source

pub source_place : (setups : List Setup) (p : Pipeline) → IsPipeline setups p → (place : ℕ) (s : Setup) → setup_at setups place ≡ Some s → s.kind ≡ name.Source → p.source ≡ place
source_place setups p is place s at source =
    let one = one_of_setups setups place s at in
    elim (contains-cases p.source place (p.lines ∷ p.relay ∷ p.collector ∷ p.counters) (is.no_others place one.from_1 one.within)) [
      | inl here ↦ here
      | inr more ↦ elim (contains-cases p.lines place (p.relay ∷ p.collector ∷ p.counters) more) [
        | inl here ↦ (let so = setup_is_so setups name.Lines (p.collector ∷ []) place s (subst (IsSetUp setups name.Lines (p.collector ∷ [])) here is.lines) at in let clash : name.Lines ≡ name.Source = sym so.kind_is ∙ source in absurd cc)
        | inr more ↦ elim (contains-cases p.relay place (p.collector ∷ p.counters) more) [
          | inl here ↦ (let so = setup_is_so setups name.Relay p.counters place s (subst (IsSetUp setups name.Relay p.counters) here is.relay) at in let clash : name.Relay ≡ name.Source = sym so.kind_is ∙ source in absurd cc)
          | inr more ↦ elim (contains-cases p.collector place p.counters more) [
            | inl here ↦ (let so = setup_is_so setups name.Collector [] place s (subst (IsSetUp setups name.Collector []) here is.collector) at in let clash : name.Collector ≡ name.Source = sym so.kind_is ∙ source in absurd cc)
            | inr more ↦ (let so = setup_is_so setups name.Counter (p.collector ∷ []) place s (one_of (IsSetUp setups name.Counter (p.collector ∷ [])) p.counters place is.counters more) at in let clash : name.Counter ≡ name.Source = sym so.kind_is ∙ source in absurd cc)
          ]
        ]
      ]
    ]

-- ---- the files

left_at : ℕ → List Setup → List (List ℕ) → List (List ℕ)
left_at zero ss files = files
left_at (suc j) [] files = files
left_at (suc j) (s ∷ ss) files = left_at j ss (files_left s.kind files)

other_leaves : (k : KindName) (files : List (List ℕ)) → k ≢ name.Source → files_left k files ≡ files
other_leaves name.Source files other = absurd (other refl)
other_leaves name.Echo files other = refl
other_leaves name.Cell files other = refl
other_leaves name.Calc files other = refl
other_leaves name.Holder files other = refl
other_leaves name.Quitter files other = refl
other_leaves name.Relay files other = refl
other_leaves name.Counter files other = refl
other_leaves name.Lines files other = refl
other_leaves name.Collector files other = refl
other_leaves name.Watcher files other = refl
other_leaves name.Spawner files other = refl
other_leaves name.Alarm files other = refl
other_leaves name.Conductor files other = refl

all_left_at : (j : ℕ) (ss : List Setup) (files : List (List ℕ)) → ((i : ℕ) (t : Setup) → i < j → slice_get ss i ≡ Some t → t.kind ≢ name.Source) → left_at j ss files ≡ files
unfolding left_at
all_left_at zero ss files others = refl
all_left_at (suc j) [] files others = refl
all_left_at (suc j) (s ∷ ss) files others =
    ap (left_at j ss) (other_leaves s.kind files (others 0 s (omega arith) refl)) ∙ all_left_at j ss files (λ i t low e. others (suc i) t (omega (arith, low)) e)

actor_there : (places : List Setup) (script : List Step) (p : ℕ) (ss : List Setup) (files : List (List ℕ)) (j : ℕ) (s : Setup) → slice_get ss j ≡ Some s
    → slice_get (actors_from places script p ss files) j ≡ Some (actor_at places script (p + j) s (own_files s.kind (left_at j ss files)))
unfolding left_at
actor_there places script p [] files j s e = absurd cc
actor_there places script p (t ∷ ss) files zero s e =
    let same : t ≡ s = cc in
    let here : p ≡ p + 0 = omega arith in
    ap (λ (x : Setup). Some (actor_at places script p x (own_files x.kind files))) same ∙ ap (λ (q : ℕ). Some (actor_at places script q s (own_files s.kind files))) here
actor_there places script p (t ∷ ss) files (suc j) s e =
    let there : p + 1 + j ≡ p + suc j = omega arith in
    actor_there places script (p + 1) ss (files_left t.kind files) j s e
    ∙ ap (λ (q : ℕ). Some (actor_at places script q s (own_files s.kind (left_at j ss (files_left t.kind files))))) there

-- a source has all files
own_all : (k : KindName) (left files : List (List ℕ)) → k ≡ name.Source → left ≡ files → own_files k left ≡ files
own_all k left files is all = ap (λ (x : KindName). own_files x left) is ∙ all

-- the actor behind that many setups: where it is a source, it has all files
pub record Stands (setups : List Setup) (script : List Step) (files : List (List ℕ)) (j : ℕ) (s : Setup) : Type 0 where
  pub own : List (List ℕ)
  pub there : slice_get (actors_from setups script 1 setups files) j ≡ Some (actor_at setups script (1 + j) s own)
  pub all : s.kind ≡ name.Source → own ≡ files

pub stands : (setups : List Setup) (p : Pipeline) (script : List Step) (files : List (List ℕ)) → IsPipeline setups p → (j : ℕ) (s : Setup) → slice_get setups j ≡ Some s → Stands setups script files j s
stands setups p script files is j s e = record {
  own = own_files s.kind (left_at j setups files);
  there = actor_there setups script 1 setups files j s e;
  all = λ source. own_all s.kind (left_at j setups files) files source (all_left_at j setups files (λ i t low got kind.
      let here = source_place setups p is (j + 1) s (setup_from_1 setups j ∙ e) source in
      let there = source_place setups p is (i + 1) t (setup_from_1 setups i ∙ got) kind in
      omega (arith, here, there, low)));
}

-- ---- none is a child

none_keeps : (q : ℕ) (ss : List Setup) → AllByRecursion (λ (s : Setup). s.reserve ≡ []) ss → list_any (λ (s : Setup). list_any (λ r. r == q) s.reserve) ss ≡ false
none_keeps q [] all = refl
none_keeps q (s ∷ ss) all = rw (all.0, none_keeps q ss all.1) refl

pub no_child : (setups : List Setup) (p : Pipeline) → IsPipeline setups p → (q : ℕ) → not (is_child setups q) ≡ true
no_child setups p is q =
    let childless : Setup → Type 0 = λ (s : Setup). s.reserve ≡ [] in
    ap not (none_keeps q setups (all_at childless setups (at_each_place childless setups p is (λ s so. so.childless) (λ s so. so.childless) (λ s so. so.childless) (λ s so. so.childless) (λ s so. so.childless))))
