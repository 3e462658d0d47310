-- Lists of type IDs, compared as they are and by their numbers.
use Rattle.std.proofs.Common.{◌≡◌, ◌==◌, ◌&&◌, Bool, List, [], ◌∷◌, refl, ap}
use Rattle.std.specs.Prelude.{bytes_eq}
use Rattle.std.specs.Cmp.Lexicographic.{pointwise}
use Rattle.caf_types.specs.declared.shape.TypeId.{TypeId}
use Rattle.caf_words.specs.Several.{ids_of}

pub same_numbers : (xs ys : List TypeId) → pointwise (λ (a b : TypeId). a.0 == b.0) xs ys ≡ bytes_eq (ids_of xs) (ids_of ys)
same_numbers [] [] = refl
same_numbers [] (y ∷ ys) = refl
same_numbers (x ∷ xs) [] = refl
same_numbers (x ∷ xs) (y ∷ ys) = ap (λ (rest : Bool). x.0 == y.0 && rest) (same_numbers xs ys)
