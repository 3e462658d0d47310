-- Where some envelope is eligible, and what is left.
use Rattle.std.proofs.Common.{◌≡◌, ◌∙◌, Bool, true, false, List, [], ◌∷◌, Option, Some, None, is_some, refl, sym, ap}
use Rattle.std.specs.List.{list_any}
use Rattle.std.specs.Option.{option_map}
use Rattle.caf_message.specs.declared.envelope.Taken.{Taken}
use Rattle.caf_message.specs.Lists.{pick, keep}
use Rattle.caf_mailbox.specs.Caches.{CachedLists, has_eligible, next_of}

pub some_keep : {A : Type 0} (x : A) (o : Option (A × List A)) → is_some (keep x o) ≡ is_some o
some_keep x (Some p) = refl
some_keep x None = refl

pub some_pick : {A : Type 0} (test : A → Bool) (xs : List A) → is_some (pick test xs) ≡ list_any test xs
some_pick test [] = refl
some_pick test (x ∷ xs) = by (test x) refl (some_keep x (pick test xs) ∙ some_pick test xs)
  where
    by : (b : Bool) → test x ≡ b → is_some (keep x (pick test xs)) ≡ list_any test xs → is_some (pick test (x ∷ xs)) ≡ list_any test (x ∷ xs)
    by true q rest = rw q refl
    by false q rest = rw q rest

pub some_map : {A B : Type 0} (f : A → B) (o : Option A) → is_some (option_map f o) ≡ is_some o
some_map f (Some x) = refl
some_map f None = refl

-- an urgent one is eligible
pub some_urgent : (test : Taken → Bool) (lists : CachedLists) (p : Taken × List Taken) → pick test lists.urgent ≡ Some p → true ≡ has_eligible test lists
some_urgent test lists p found = rw (← some_pick test lists.urgent, found) refl

-- none of the urgent ones is eligible
pub some_normal : (test : Taken → Bool) (lists : CachedLists) → pick test lists.urgent ≡ None → is_some (pick test lists.normal) ≡ has_eligible test lists
some_normal test lists none = rw (← some_pick test lists.urgent, none) (some_pick test lists.normal)

-- some envelope is taken exactly where some one is eligible
pub some_next : (test : Taken → Bool) (lists : CachedLists) → is_some (next_of test lists) ≡ has_eligible test lists
some_next test lists = by (pick test lists.urgent) (pick test lists.normal) refl refl
  where
    by : (o p : Option (Taken × List Taken)) → pick test lists.urgent ≡ o → pick test lists.normal ≡ p → is_some (next_of test lists) ≡ has_eligible test lists
    by (Some x) p e f = rw e (some_urgent test lists x e)
    by None (Some y) e f = let h = some_normal test lists e in rw (e, f) (sym (ap is_some f) ∙ h)
    by None None e f = let h = some_normal test lists e in rw (e, f) (sym (ap is_some f) ∙ h)
