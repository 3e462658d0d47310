-- What holds of all envelopes of a batch.
use Rattle.std.proofs.Common.{◌≡◌, ◌∙◌, ◌==◌, ℕ, Bool, true, false, cond, List, [], ◌∷◌, ◌++◌, map, None, Some, refl, sym, subst, arith}
use Rattle.std.proofs.lemmas.Bool.{eqb-true}
use Rattle.std.specs.Prelude.{codes, nat_lt}
use Rattle.std.specs.FinMap as finite
use Rattle.std.specs.Cmp.{nat_cmp_total}
use Rattle.std.specs.Ordering.{nat_cmp, eq_by_cmp, is_eq}
use Rattle.caf_types.specs.ShapeTree.{unsigned}
use Rattle.caf_types.specs.Table.{Named, Table, built_in, named, type_at}
use Rattle.caf_message.specs.Entries.{HasEntries}
use Rattle.std.specs.List.{AllByRecursion}
use Rattle.caf_message.specs.declared.envelope.Taken.{Taken}
use Rattle.caf_message.specs.declared.envelope.Envelope.{Envelope}
use Rattle.caf_message.specs.Envelope.{plain_envelope}
use Rattle.caf_scripted.specs.Scripted.{scripted_entries}

pub all_push : (P : Taken → Type 0) (es : List Envelope) (e : Envelope) → AllByRecursion P (map plain_envelope es) → P (plain_envelope e) → AllByRecursion P (map plain_envelope (es ++ e ∷ []))
all_push P [] e h k = (k, tt)
all_push P (x ∷ xs) e h k = (h.0, all_push P xs e h.1 k)

same_number : (x y : ℕ) → eq_by_cmp nat_cmp x y ≡ true → x ≡ y
same_number x y h = go (nat_lt x y) (x == y) refl refl
  where
    go : (b c : Bool) → nat_lt x y ≡ b → (x == y) ≡ c → x ≡ y
    go true c e f = let no : false ≡ true = rw e at h in cc
    go false true e f = eqb-true x y f
    go false false e f = let no : false ≡ true = rw (e, f) at h in cc

-- the built-in types have the type of the numbers
pub has_numbers : (t : Table) → t ≡ built_in → HasEntries t scripted_entries
has_numbers t e id n q = subst (λ (table : Table). type_at table.types id ≡ Some n) (sym e) (go (eq_by_cmp nat_cmp id 2) refl)
  where
    got : finite.get scripted_entries id ≡ cond (eq_by_cmp nat_cmp id 2) (Some (named (codes "unsigned") unsigned)) (finite.get (finite.empty {X = Named} {R = nat_cmp}) id)
    got = finite.get-insert nat_cmp_total (finite.empty {X = Named} {R = nat_cmp}) 2 (named (codes "unsigned") unsigned) id

    go : (b : Bool) → eq_by_cmp nat_cmp id 2 ≡ b → type_at built_in.types id ≡ Some n
    go true same =
        let is : id ≡ 2 = same_number id 2 same in
        let found : Some (named (codes "unsigned") unsigned) ≡ Some n = sym (rw same at got) ∙ q in
        rw is found
    go false other =
        let no : None ≡ Some n = sym (finite.get-empty {X = Named} nat_cmp id) ∙ sym (rw other at got) ∙ q in
        cc
