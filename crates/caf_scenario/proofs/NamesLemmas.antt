-- Names that are entered one by one are those of the actors so far.
use Rattle.std.proofs.Common.{◌≡◌, ◌≢◌, ℕ, ◌+◌, ◌<◌, ◌≤◌, Bool, true, false, ◌||◌, cond, List, [], ◌∷◌, ◌++◌, length, take, get_or, Option, Some, None, is_some, refl, sym, ap, subst, ◌∙◌, arith}
use Rattle.std.specs.Prelude.{bytes_eq}
use Rattle.std.proofs.lemmas.List.{take_more, length-take-le}
use Rattle.std.proofs.lemmas.Slice.Eq.{bytes_eq-Decides}
use Rattle.caf_kinds.specs.declared.setup.KindName.{KindName}
use Rattle.caf_scenario.specs.declared.written.WrittenActor.{WrittenActor}
use Rattle.caf_scenario.specs.Actors.{Finder, kind_of, named_from, actor_named, conductor}
use Rattle.caf_scenario.specs.Entered.{IsEntered}

abbrev Found : Type 0
Found = Option (ℕ × KindName)

abbrev or_found : Found → Found → Found
or_found None o = o
or_found (Some x) o = Some x

-- one actor more
named_on : (p : ℕ) (xs : List WrittenActor) (a : WrittenActor) (q : List ℕ)
    → named_from p (xs ++ a ∷ []) q ≡ or_found (named_from p xs q) (cond (bytes_eq a.name q) (Some (p + length xs, kind_of a)) None)
named_on p [] a q = ap (λ (n : ℕ). cond (bytes_eq a.name q) (Some (n, kind_of a)) None) (omega arith)
named_on p (b ∷ bs) a q = go (bytes_eq b.name q) (named_on (p + 1) bs a q)
  where
    go : (t : Bool)
        → named_from (p + 1) (bs ++ a ∷ []) q ≡ or_found (named_from (p + 1) bs q) (cond (bytes_eq a.name q) (Some (p + 1 + length bs, kind_of a)) None)
        → cond t (Some (p, kind_of b)) (named_from (p + 1) (bs ++ a ∷ []) q)
        ≡ or_found (cond t (Some (p, kind_of b)) (named_from (p + 1) bs q)) (cond (bytes_eq a.name q) (Some (p + length (b ∷ bs), kind_of a)) None)
    go true rest = refl
    go false rest =
        rest ∙ ap (λ (n : ℕ). or_found (named_from (p + 1) bs q) (cond (bytes_eq a.name q) (Some (n, kind_of a)) None)) (omega arith)

second_of_or : (a b : Bool) → (a || b) ≡ false → b ≡ false
second_of_or true b e = absurd cc
second_of_or false b e = e

none_is : (o : Found) → is_some o ≡ false → o ≡ None
none_is None e = refl
none_is (Some x) e = absurd cc

behind_none : (o : Found) (o' : Found) → o ≡ None → or_found o o' ≡ o'
behind_none o o' e = ap (λ (x : Found). or_found x o') e

before_none : (o : Found) → or_found o None ≡ o
before_none None = refl
before_none (Some x) = refl

-- a name that was free is entered with its actor
pub entered : (xs : List WrittenActor) (i : ℕ) (a : WrittenActor) (before after : Finder) → i < length xs → a ≡ get_or xs i a
    → ((q : List ℕ) → before q ≡ actor_named (take i xs) q) → IsEntered a.name (i + 1, kind_of a) before after
    → (q : List ℕ) → after q ≡ actor_named (take (i + 1) xs) q
entered xs i a before after lt is known e q = found ∙ sym whole
  where
    whole : actor_named (take (i + 1) xs) q ≡ or_found (actor_named (take i xs) q) (cond (bytes_eq a.name q) (Some (i + 1, kind_of a)) None)
    whole =
        let more : take (i + 1) xs ≡ take i xs ++ a ∷ [] = take_more xs i a lt ∙ ap (λ (x : WrittenActor). take i xs ++ x ∷ []) (sym is) in
        let count : 1 + length (take i xs) ≡ i + 1 = (let short : i ≤ length xs = omega arith in omega (arith, length-take-le i xs short)) in
        ap (λ (ys : List WrittenActor). named_from 1 ys q) more
        ∙ named_on 1 (take i xs) a q
        ∙ ap (λ (n : ℕ). or_found (named_from 1 (take i xs) q) (cond (bytes_eq a.name q) (Some (n, kind_of a)) None)) count

    free : actor_named (take i xs) a.name ≡ None
    free = sym (known a.name) ∙ none_is (before a.name) (second_of_or (bytes_eq a.name conductor) (is_some (before a.name)) e.free)

    go : (t : Bool) → bytes_eq a.name q ≡ t → after q ≡ or_found (actor_named (take i xs) q) (cond t (Some (i + 1, kind_of a)) None)
    go true t =
        let same : a.name ≡ q = (bytes_eq-Decides a.name q).0 t in
        subst (λ (n : List ℕ). after n ≡ or_found (actor_named (take i xs) n) (Some (i + 1, kind_of a))) same
        (e.there ∙ sym (behind_none (actor_named (take i xs) a.name) (Some (i + 1, kind_of a)) free))
    go false t =
        let other : q ≢ a.name = (λ (h : q ≡ a.name). let yes : bytes_eq a.name q ≡ true = (bytes_eq-Decides a.name q).1 (sym h) in cc) in
        e.others q other ∙ known q ∙ sym (before_none (actor_named (take i xs) q))

    found : after q ≡ or_found (actor_named (take i xs) q) (cond (bytes_eq a.name q) (Some (i + 1, kind_of a)) None)
    found = go (bytes_eq a.name q) refl
