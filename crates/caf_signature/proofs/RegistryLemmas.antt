-- A tree's look-ups and insertions are those of the finite map that it is seen as.
use Rattle.std.proofs.Common.{◌≡◌, ℕ, List, [], ◌∷◌, map, Some, cond, refl, sym, ap, ◌∙◌}
use Rattle.std.specs.Ordering.{nat_cmp, is_eq}
use Rattle.std.specs.Cmp.Lexicographic.{slice_cmp}
use Rattle.std.specs.BTreeMap.{BTreeMap, get_by_text, is_at}
use Rattle.std.specs.BTreeMap as tree
use Rattle.std.specs.Map.{lookup}
use Rattle.std.specs.FinMap as finite
use Rattle.std.specs.FinMap.{find, nat_cmp-IsAntisymmetric, slice_cmp-IsAntisymmetric}
use Rattle.std.specs.String.{string_bytes, string_cmp}
use Rattle.std.specs.declared.string.String.{String}
use Rattle.std.proofs.lemmas.Cmp.{nat_list_cmp_total, nat_list_eq_equiv}
use Rattle.std.proofs.lemmas.Map.Text.{btree_map_updates_text, is_eq-slice_cmp}
use Rattle.std.specs.Str.{bytes_eq}
use Rattle.caf_signature.specs.Registry.{Registered, registrations}

bytes_eq-swap : (xs ys : List ℕ) → bytes_eq xs ys ≡ bytes_eq ys xs
bytes_eq-swap xs ys = nat_list_eq_equiv.symm xs ys

find-registrations : {Y : Type 0} (es : List (String Y × Registered)) (q : List ℕ) →
    find (slice_cmp nat_cmp) q (map (λ e. (string_bytes e.0, e.1)) es) ≡ lookup (is_at (λ k. slice_cmp nat_cmp q (string_bytes k))) es
find-registrations [] q = refl
find-registrations (e ∷ es) q = ap (cond (is_eq (slice_cmp nat_cmp q (string_bytes e.0))) (Some e.1)) (find-registrations es q)

pub get-registrations : {Y : Type 0} (es : List (String Y × Registered)) (q : List ℕ) →
    finite.get (registrations es) q ≡ lookup (is_at (λ k. slice_cmp nat_cmp q (string_bytes k))) es
get-registrations es q = finite.get-from_entries nat_list_cmp_total _ q ∙ find-registrations es q

pub insert-registrations : {Y : Type 0} (bs : List ℕ) (r : Registered) (m n : BTreeMap (String Y) Registered) →
    tree.UpdatesBy string_cmp (λ k. slice_cmp nat_cmp bs (string_bytes k)) m n (Some r) →
    registrations n.entries ≡ finite.insert (registrations m.entries) bs r
insert-registrations bs r m n updates =
    finite.same_map nat_list_cmp_total (slice_cmp-IsAntisymmetric nat_cmp-IsAntisymmetric) _ _ (λ q.
    let old : finite.get (registrations m.entries) q ≡ get_by_text m q = get-registrations m.entries q in
    let new : finite.get (registrations n.entries) q ≡ get_by_text n q = get-registrations n.entries q in
    let after : get_by_text n q ≡ cond (bytes_eq bs q) (Some r) (get_by_text m q) = btree_map_updates_text bs m n (Some r) updates q in
    let inserted : finite.get (finite.insert (registrations m.entries) bs r) q ≡ cond (is_eq (slice_cmp nat_cmp q bs)) (Some r) (finite.get (registrations m.entries) q) =
    finite.get-insert nat_list_cmp_total (registrations m.entries) bs r q in
    let same : is_eq (slice_cmp nat_cmp q bs) ≡ bytes_eq bs q = is_eq-slice_cmp q bs ∙ bytes_eq-swap q bs in
    new ∙ after ∙ sym (inserted ∙ rw (same, old) refl))
