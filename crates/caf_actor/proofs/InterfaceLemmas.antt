-- Signatures and the IDs of contents.
use Rattle.std.proofs.Common.{◌≡◌, ℕ, Bool, true, false, List, [], ◌∷◌, Option, Some, refl}
use Rattle.std.proofs.lemmas.Slice.Eq.{bytes_eq-Decides}
use Rattle.caf_words.specs.Several.{ids_of}
use Rattle.caf_signature.specs.declared.interface.Signature.{Signature}
use Rattle.caf_actor.specs.Rules.{takes_ids, signature_for}

-- the signature that was found takes the IDs
pub found_takes : (ids : List ℕ) (signatures : List Signature) (s : Signature) → signature_for signatures ids ≡ Some s → ids_of s.input ≡ ids
found_takes ids [] s q = cc
found_takes ids (r ∷ rs) s q = go (found_takes ids rs s) (takes_ids ids r) refl
  where
    go : (signature_for rs ids ≡ Some s → ids_of s.input ≡ ids) → (b : Bool) → takes_ids ids r ≡ b → ids_of s.input ≡ ids
    go later true e =
        let here : ◌≡◌ {A = Option Signature} (Some r) (Some s) = rw e at q in
        let same : r ≡ s = cc in
        rw (← same) ((bytes_eq-Decides (ids_of r.input) ids).0 e)
    go later false e = later (rw e at q)
