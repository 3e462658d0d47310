-- Reading each of some elements, one after the other.
use Rattle.std.proofs.Common.{◌≡◌, ℕ, ◌+◌, ◌<◌, List, [], ◌∷◌, ◌++◌, map, drop, get_or, length, Ok, Err, refl, sym, ap, ◌∙◌, append_assoc}
use Rattle.std.proofs.lemmas.List.{drop_more}
use Rattle.serde_json.specs.Data.{Data as Json}
use Rattle.serde_json.specs.View.{view, items_of, items_view}
use Rattle.serde_json.specs.declared.value.Value.{Value}
use Rattle.caf_scenario.specs.Forms.{listed}
use Rattle.caf_scenario.specs.Read.{Read, ◌>>=◌, then_more, each_of}

listed_is : (js : List Json) → listed (items_of js) ≡ js
listed_is [] = refl
listed_is (j ∷ js) = ap (λ ks. j ∷ ks) (listed_is js)

-- the elements of an array
pub elements_are : (vs : List Value) → listed (items_view vs) ≡ map view vs
elements_are vs = listed_is (map view vs)

-- what is read, behind what was read before
abbrev pub with_front : {A : Type 0} → List A → Read (List A) → Read (List A)
with_front front read = read >>= λ xs. Ok (front ++ xs)

regroup : {A : Type 0} (front : List A) (x : A) (others : Read (List A)) → with_front front (others >>= λ xs. Ok (x ∷ xs)) ≡ with_front (front ++ x ∷ []) others
regroup front x (Ok xs) = ap Ok (sym (append_assoc front (x ∷ []) xs))
regroup front x (Err e) = refl

pub goes_on : {A : Type 0} (front : List A) (one : Read A) (others : Read (List A)) (x : A) (total : Read (List A))
    → one ≡ Ok x → with_front front (then_more one others) ≡ total → with_front (front ++ x ∷ []) others ≡ total
goes_on front one others x total e so_far = sym (regroup front x others) ∙ (rw e at so_far)

pub each_more : {A B C : Type 0} (see : A → B) (one : ℕ → B → Read C) (n i : ℕ) (xs : List A) (x : A) → i < length xs → x ≡ get_or xs i x
    → each_of one n (map see (drop i xs)) ≡ then_more (one n (see x)) (each_of one (n + 1) (map see (drop (i + 1) xs)))
each_more see one n i xs x lt is = ap (λ ys. each_of one n (map see ys)) (drop_more xs i x lt ∙ ap (λ y. y ∷ drop (i + 1) xs) (sym is))
