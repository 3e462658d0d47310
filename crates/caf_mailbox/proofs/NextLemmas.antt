-- What is left when the next envelope is taken: one fewer, and none that was not there.
use Rattle.std.proofs.Common.{◌≡◌, ℕ, suc, ◌+◌, ◌∙◌, Bool, true, false, List, [], ◌∷◌, ◌++◌, length, Option, Some, None, refl, ap, subst, sym, arith, if◌then◌else◌}
use Rattle.std.specs.Prelude.{◌↔◌, filter, IsNone}
use Rattle.std.specs.Option.{option_map}
use Rattle.std.specs.List.{AllByRecursion}
use Rattle.caf_message.specs.declared.envelope.Taken.{Taken}
use Rattle.caf_message.specs.Lists.{pick, keep}
use Rattle.caf_mailbox.specs.Caches.{CachedLists, nothing_cached, is_urgent, is_normal, filed, urgent_else_normal, next_of, first_of}

-- ---- one list

module _ {A : Type 0} where
  shorter : (x : A) (xs : List A) (p : A × List A) (b : Bool) (o : Option (A × List A)) → ((r : A × List A) → o ≡ Some r → length xs ≡ suc (length r.1)) →
      (if b then Some (x, xs) else keep x o) ≡ Some p → length (x ∷ xs) ≡ suc (length p.1)
  shorter x xs p true o before q = let is : (x, xs) ≡ p = cc in ap (λ (r : A × List A). suc (length r.1)) is
  shorter x xs p false (Some r) before q = let is : (r.0, x ∷ r.1) ≡ p = cc in ap suc (before r refl) ∙ ap (λ (r : A × List A). suc (length r.1)) is
  shorter x xs p false None before q = cc

  pub length_pick : (test : A → Bool) (xs : List A) (p : A × List A) → pick test xs ≡ Some p → length xs ≡ suc (length p.1)
  length_pick test [] p q = cc
  length_pick test (x ∷ xs) p q = shorter x xs p (test x) (pick test xs) (length_pick test xs) q

  keeps : (P : A → Type 0) (x : A) (xs : List A) (p : A × List A) (b : Bool) (o : Option (A × List A)) → ((r : A × List A) → o ≡ Some r → P r.0 × AllByRecursion P r.1) →
      P x → AllByRecursion P xs → (if b then Some (x, xs) else keep x o) ≡ Some p → P p.0 × AllByRecursion P p.1
  keeps P x xs p true o before own all q = let is : (x, xs) ≡ p = cc in subst (λ (r : A × List A). P r.0 × AllByRecursion P r.1) is (own, all)
  keeps P x xs p false (Some r) before own all q =
      let is : (r.0, x ∷ r.1) ≡ p = cc in
      let h = before r refl in
      subst (λ (t : A × List A). P t.0 × AllByRecursion P t.1) is (h.0, (own, h.1))
  keeps P x xs p false None before own all q = cc

  pub all_pick : (test : A → Bool) (P : A → Type 0) (xs : List A) (p : A × List A) → AllByRecursion P xs → pick test xs ≡ Some p → P p.0 × AllByRecursion P p.1
  all_pick test P [] p all q = cc
  all_pick test P (x ∷ xs) p all q = keeps P x xs p (test x) (pick test xs) (λ r. all_pick test P xs r all.1) all.0 all.1 q

  pub all_append : (P : A → Type 0) (xs ys : List A) → AllByRecursion P xs → AllByRecursion P ys → AllByRecursion P (xs ++ ys)
  all_append P [] ys one two = two
  all_append P (x ∷ xs) ys one two = (one.0, all_append P xs ys one.1 two)

  pub all_filter : (test : A → Bool) (P : A → Type 0) (xs : List A) → AllByRecursion P xs → AllByRecursion P (filter test xs)
  all_filter test P [] all = tt
  all_filter test P (x ∷ xs) all = by (test x) refl (all_filter test P xs all.1)
    where
      by : (b : Bool) → test x ≡ b → AllByRecursion P (filter test xs) → AllByRecursion P (filter test (x ∷ xs))
      by true e rest = rw e (all.0, rest)
      by false e rest = rw e rest

-- ---- both lists

-- how many envelopes are cached
abbrev pub cached : CachedLists → ℕ
cached lists = length lists.urgent + length lists.normal

-- each cached envelope has the property
abbrev pub AllCached : (Taken → Type 0) → CachedLists → Type 0
AllCached P lists = AllByRecursion P lists.urgent × AllByRecursion P lists.normal

fewer : (lists : CachedLists) (urgent normal : Option (Taken × List Taken)) (p : Taken × CachedLists) → ((r : Taken × List Taken) → urgent ≡ Some r → length lists.urgent ≡ suc (length r.1)) →
    ((r : Taken × List Taken) → normal ≡ Some r → length lists.normal ≡ suc (length r.1)) → urgent_else_normal lists urgent normal ≡ Some p → cached lists ≡ suc (cached p.1)
fewer lists (Some r) normal p one two q =
    let is : (r.0, record { urgent = r.1; normal = lists.normal }) ≡ p = cc in
    let less = one r refl in
    let count : cached lists ≡ suc (length r.1 + length lists.normal) = omega (arith, less) in
    count ∙ ap (λ (t : Taken × CachedLists). suc (cached t.1)) is
fewer lists None (Some r) p one two q =
    let is : (r.0, record { urgent = lists.urgent; normal = r.1 }) ≡ p = cc in
    let less = two r refl in
    let count : cached lists ≡ suc (length lists.urgent + length r.1) = omega (arith, less) in
    count ∙ ap (λ (t : Taken × CachedLists). suc (cached t.1)) is
fewer lists None None p one two q = cc

-- one envelope fewer is cached
pub cached_next : (test : Taken → Bool) (lists : CachedLists) (p : Taken × CachedLists) → next_of test lists ≡ Some p → cached lists ≡ suc (cached p.1)
cached_next test lists p q =
    fewer lists (pick test lists.urgent) (pick test lists.normal) p (length_pick test lists.urgent) (length_pick test lists.normal) q

still : (P : Taken → Type 0) (lists : CachedLists) (urgent normal : Option (Taken × List Taken)) (p : Taken × CachedLists) → AllCached P lists →
    ((r : Taken × List Taken) → urgent ≡ Some r → P r.0 × AllByRecursion P r.1) → ((r : Taken × List Taken) → normal ≡ Some r → P r.0 × AllByRecursion P r.1) →
    urgent_else_normal lists urgent normal ≡ Some p → P p.0 × AllCached P p.1
still P lists (Some r) normal p all one two q =
    let is : (r.0, record { urgent = r.1; normal = lists.normal }) ≡ p = cc in
    let h = one r refl in
    subst (λ (t : Taken × CachedLists). P t.0 × AllCached P t.1) is (h.0, (h.1, all.1))
still P lists None (Some r) p all one two q =
    let is : (r.0, record { urgent = lists.urgent; normal = r.1 }) ≡ p = cc in
    let h = two r refl in
    subst (λ (t : Taken × CachedLists). P t.0 × AllCached P t.1) is (h.0, (all.0, h.1))
still P lists None None p all one two q = cc

-- what holds of each cached envelope holds of the one that is taken and of those that stay
pub all_next : (test : Taken → Bool) (P : Taken → Type 0) (lists : CachedLists) (p : Taken × CachedLists) → AllCached P lists → next_of test lists ≡ Some p → P p.0 × AllCached P p.1
all_next test P lists p all q =
    still P lists (pick test lists.urgent) (pick test lists.normal) p all (λ r. all_pick test P lists.urgent r all.0) (λ r. all_pick test P lists.normal r all.1) q

-- what holds of each cached envelope and of each one of a batch holds once the batch is filed
pub all_filed : (P : Taken → Type 0) (lists : CachedLists) (batch : List Taken) → AllCached P lists → AllByRecursion P batch → AllCached P (filed lists batch)
all_filed P lists batch all more =
    (all_append P lists.urgent (filter is_urgent batch) all.0 (all_filter is_urgent P batch more), all_append P lists.normal (filter is_normal batch) all.1 (all_filter is_normal P batch more))

-- ---- with every envelope eligible

-- the urgent list before the normal one, each from its front
pub first_in_order : (lists : CachedLists) (p : Taken × CachedLists) → first_of lists ≡ Some p → lists.urgent ++ lists.normal ≡ p.0 ∷ (p.1.urgent ++ p.1.normal)
first_in_order lists p q = by lists.urgent lists.normal q
  where
    by : (urgent normal : List Taken) → first_of (record { urgent = urgent; normal = normal }) ≡ Some p → urgent ++ normal ≡ p.0 ∷ (p.1.urgent ++ p.1.normal)
    by (e ∷ es) normal s = let is : (e, record { urgent = es; normal = normal }) ≡ p = cc in ap (λ (t : Taken × CachedLists). t.0 ∷ (t.1.urgent ++ t.1.normal)) is
    by [] (e ∷ es) s = let is : (e, record { urgent = []; normal = es }) ≡ p = cc in ap (λ (t : Taken × CachedLists). t.0 ∷ (t.1.urgent ++ t.1.normal)) is
    by [] [] s = cc

pub no_first : (lists : CachedLists) → first_of lists ≡ None → lists ≡ nothing_cached
no_first lists q = by lists.urgent lists.normal q
  where
    by : (urgent normal : List Taken) → first_of (record { urgent = urgent; normal = normal }) ≡ None → record { urgent = urgent; normal = normal } ≡ nothing_cached
    by (e ∷ es) normal s = cc
    by [] (e ∷ es) s = cc
    by [] [] s = refl

-- nothing is taken exactly where nothing is cached
pub none_first : {B : Type 0} (f : B → Taken × CachedLists) (r : Option B) (lists : CachedLists) → option_map f r ≡ first_of lists → IsNone r ↔ (lists ≡ nothing_cached)
none_first f None lists e = (λ none. no_first lists (sym e), λ empty. refl)
none_first f (Some x) lists e = (λ none. (cc), λ empty. let gone : first_of lists ≡ None = ap first_of empty in cc)
