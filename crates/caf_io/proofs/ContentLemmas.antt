-- The content of files in memory, read as a finite map.
use Rattle.std.proofs.Common.{◌≡◌, ℕ, Bool, true, false, cond, List, [], ◌∷◌, map, Some, None, Option, ap, sym, ◌∙◌, string_bytes, refl}
use Rattle.std.specs.Prelude.{Result, Ok, Err, OnOk}
use Rattle.std.specs.declared.string.String.{String}
use Rattle.std.specs.Ordering.{nat_cmp, is_eq, eq_by_cmp}
use Rattle.std.specs.Cmp.{eq_by_cmp_equiv}
use Rattle.std.specs.Cmp.Lexicographic.{slice_cmp, nat_list_cmp_total}
use Rattle.std.specs.Str.{bytes_eq}
use Rattle.std.specs.String.{string_cmp}
use Rattle.std.specs.Option.{option_map}
use Rattle.std.specs.Map.{lookup, set_value}
use Rattle.std.specs.BTreeMap.{BTreeMap, get_by_text, UpdatesBy}
use Rattle.std.specs.FinMap as finite
use Rattle.std.proofs.lemmas.Map.Text.{btree_map_updates_text, is_eq-slice_cmp}

-- the test of a look-up by bytes
abbrev pub is_named : {Y : Type 0} → List ℕ → String Y → Bool
is_named name key = is_eq (slice_cmp nat_cmp name (string_bytes key))

option_map-cond : {X V : Type 0} (value : X → V) (b : Bool) (x : X) (o : Option X)
    → option_map value (cond b (Some x) o) ≡ cond b (Some (value x)) (option_map value o)
option_map-cond value true x o = refl
option_map-cond value false x o = refl

module _ {Y X V : Type 0} (value : X → V) where
  -- the entries with their keys as bytes
  abbrev pub by_name : String Y × X → List ℕ × V
  by_name entry = (string_bytes entry.0, value entry.1)

  find-by_name : (name : List ℕ) (entries : List (String Y × X))
      → finite.find (slice_cmp nat_cmp) name (map by_name entries) ≡ option_map value (lookup (is_named name) entries)
  find-by_name name [] = refl
  find-by_name name (e ∷ es) =
      elim (is_named name e.0) as (λ b. cond b (Some (value e.1)) (finite.find (slice_cmp nat_cmp) name (map by_name es)) ≡ option_map value (cond b (Some e.1) (lookup (is_named name) es))) [
        | true ↦ refl
        | false ↦ find-by_name name es
      ]

  -- what the finite map has at a name is what the files have there
  get-by_name : (name : List ℕ) (entries : List (String Y × X))
      → finite.get (finite.from_entries {R = slice_cmp nat_cmp} (map by_name entries)) name ≡ option_map value (lookup (is_named name) entries)
  get-by_name name entries = finite.get-from_entries nat_list_cmp_total (map by_name entries) name ∙ find-by_name name entries

  pub get-found : (name : List ℕ) (entries : List (String Y × X)) (file : X) → lookup (is_named name) entries ≡ Some file
      → finite.get (finite.from_entries {R = slice_cmp nat_cmp} (map by_name entries)) name ≡ Some (value file)
  get-found name entries file found = get-by_name name entries ∙ ap (option_map value) found

  pub get-absent : (name : List ℕ) (entries : List (String Y × X)) → lookup (is_named name) entries ≡ None
      → finite.get (finite.from_entries {R = slice_cmp nat_cmp} (map by_name entries)) name ≡ None
  get-absent name entries absent = get-by_name name entries ∙ ap (option_map value) absent

  -- a file that changes and keeps its bytes leaves the content
  pub by_name-set_value : (test : String Y → Bool) (entries : List (String Y × X)) (old new : X)
      → lookup test entries ≡ Some old → value new ≡ value old → map by_name (set_value test entries new) ≡ map by_name entries
  by_name-set_value test [] old new found same = refl
  by_name-set_value test (e ∷ es) old new found same =
      elim (test e.0) as (λ b. cond b (Some e.1) (lookup test es) ≡ Some old → map by_name (cond b ((e.0, new) ∷ es) (e ∷ set_value test es new)) ≡ by_name e ∷ map by_name es) [
        | true ↦ λ here. cc
        | false ↦ λ later. ap (λ rest. by_name e ∷ rest) (by_name-set_value test es old new later same)
      ] found

  -- a file that is added is added to the content
  pub by_name-insert : (name : List ℕ) (file : X) (before after : BTreeMap (String Y) X)
      → UpdatesBy string_cmp (λ key. slice_cmp nat_cmp name (string_bytes key)) before after (Some file)
      → finite.from_entries {R = slice_cmp nat_cmp} (map by_name after.entries) ≡ finite.insert (finite.from_entries (map by_name before.entries)) name (value file)
  by_name-insert name file before after updates =
      finite.same_map nat_list_cmp_total (finite.slice_cmp-IsAntisymmetric finite.nat_cmp-IsAntisymmetric) _ _
      (λ other. get-by_name other after.entries
      ∙ ap (option_map value) (btree_map_updates_text name before after (Some file) updates other)
      ∙ option_map-cond value (bytes_eq name other) file (get_by_text before other)
      ∙ ap (λ b. cond b (Some (value file)) (option_map value (get_by_text before other)))
      (sym (is_eq-slice_cmp name other) ∙ (eq_by_cmp_equiv nat_list_cmp_total).symm name other)
      ∙ ap (cond (eq_by_cmp (slice_cmp nat_cmp) other name) (Some (value file))) (sym (get-by_name other before.entries))
      ∙ sym (finite.get-insert nat_list_cmp_total (finite.from_entries (map by_name before.entries)) name (value file) other))

-- what an answer gives, where it comes
pub on_ok : {T E : Type 0} {P Q : Type 0} (r : Result T E) → OnOk r P → (P → Q) → OnOk r Q
on_ok (Ok x) p f = f p
on_ok (Err e) p f = p
