use Rattle.std.proofs.Common.{◌≡◌, ℕ, List, Bool, true, false, refl, ap, subst}
use Rattle.std.specs.Str.{IsUtf8, is_utf8}
use Rattle.std.proofs.lemmas.Str.{IsUtf8-from_is_utf8, is_utf8-from_IsUtf8}
use Rattle.std.proofs.Math.Logic.{∥∥₁_elim}
use Rattle.std.specs.Coded.{coded_bool, Coded-set}
use Rattle.caf_types.proofs.letters.Letters.from_utf8.Goals as goal

-- bytes that aren't UTF-8 fail the test
fails : (bs : List ℕ) (b : Bool) → (IsUtf8 bs → ⊥) → is_utf8 bs ≡ b → is_utf8 bs ≡ false
fails bs true h e = absurd (h (IsUtf8-from_is_utf8 bs e))
fails bs false h e = e

pub returns-in-Ok : goal.returns-in-Ok
returns-in-Ok c =
    let same : c.in-Ok.text.bytes ≡ c.args.bytes = c.in-Ok.ensures.ok in
    (subst (λ v. is_utf8 v.items ≡ true) same (∥∥₁_elim c.in-Ok.text.ok (Coded-set coded_bool _ _) (is_utf8-from_IsUtf8 c.in-Ok.text.bytes.items)), ap (λ v. v.items) same)

pub returns : goal.returns
returns c = fails c.args.bytes.items _ (λ u. let no : false ≡ true = rw c.in-Err.is at (c.from_utf8.ensures.succeeds u) in absurd cc) refl
