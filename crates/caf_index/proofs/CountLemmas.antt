-- A sum over the values of a finite map, and what a new value does to it.
use Rattle.std.proofs.Common.{◌≡◌, ℕ, ◌+◌, ◌-◌, ◌^◌, min, Bool, true, false, cond, not, List, [], ◌∷◌, length, Option, Some, None, refl, sym, ap, ◌∙◌, arith}
use Rattle.std.specs.Prelude.{T, ◌&&◌, sum_by, unwrap_or}
use Rattle.std.specs.Ordering.{nat_cmp, is_eq, is_lt}
use Rattle.std.specs.declared.cmp.Ordering.{Ordering}
use Rattle.std.specs.declared.cmp.Ordering.TheVariants.{Less, Equal, Greater}
use Rattle.std.specs.Cmp.{IsTotalOrder, nat_cmp_total}
use Rattle.std.specs.Cmp.Lexicographic.{slice_cmp, nat_list_cmp_total}
use Rattle.std.specs.FinMap as map
use Rattle.std.specs.FinMap.{FinMap, put, find, is_sorted}
use Rattle.std.specs.FinMap.Entries.{below_all, by_order}
use Rattle.std.proofs.lemmas.List.Sums.{sum_by-cons}
use Rattle.caf_index.specs.Index.{Entries, Files, Lines, files_of, lines_in, has_entry, with_line, with_entry, line_count, entry_count}

T_first : (a b : Bool) → T (a && b) → T a
T_first true b p = tt
T_first false b p = p

T_second : (a b : Bool) → T (a && b) → T b
T_second true b p = p
T_second false b p = absurd p

less_from : (r : Ordering) → T (is_lt r) → r ≡ Less
less_from Less p = refl
less_from Equal p = absurd p
less_from Greater p = absurd p

-- f of the value, and 0 where there is none
abbrev pub value_or_0 : {X : Type 0} → (X → ℕ) → Option X → ℕ
value_or_0 f None = 0
value_or_0 f (Some x) = f x

module _ {K X : Type 0} {R : K → K → Ordering} (o : IsTotalOrder R) (f : X → ℕ) where
  find_below : (k x : K) (es : List (K × X)) → R k x ≡ Less → T (below_all R x es) → find R k es ≡ None
  find_below k x [] less h = refl
  find_below k x (e ∷ es) less h =
      ap (λ r. cond (is_eq r) (Some e.1) (find R k es)) (o.trans k x e.0 less (less_from _ (T_first _ _ h)))
      ∙ find_below k x es less (T_second _ _ h)

  total-put : (k : K) (v : X) (es : List (K × X)) → T (is_sorted R es) → sum_by (λ (e : K × X). f e.1) (put R k v es) + value_or_0 f (find R k es) ≡ sum_by (λ (e : K × X). f e.1) es + f v
  total-put k v [] h = omega arith
  total-put k v (e ∷ es) h =
      elim (R k e.0) as (λ r. R k e.0 ≡ r → sum_by (λ (e : K × X). f e.1) (by_order r ((k, v) ∷ e ∷ es) ((e.0, v) ∷ es) (e ∷ put R k v es)) + value_or_0 f (cond (is_eq r) (Some e.1) (find R k es)) ≡ sum_by (λ (e : K × X). f e.1) (e ∷ es) + f v) [
        | Less ↦ λ p.
            let none : find R k es ≡ None = find_below k e.0 es p (T_first _ _ h) in
            let none_is : value_or_0 f (find R k es) ≡ 0 = ap (value_or_0 f) none in
            let split : sum_by (λ (e : K × X). f e.1) ((k, v) ∷ e ∷ es) ≡ f v + sum_by (λ (e : K × X). f e.1) (e ∷ es) = sum_by-cons (λ (e : K × X). f e.1) (k, v) (e ∷ es) in
            omega (arith, none_is, split)
        | Equal ↦ λ p.
            let new : sum_by (λ (e : K × X). f e.1) ((e.0, v) ∷ es) ≡ f v + sum_by (λ (e : K × X). f e.1) es = sum_by-cons (λ (e : K × X). f e.1) (e.0, v) es in
            let old : sum_by (λ (e : K × X). f e.1) (e ∷ es) ≡ f e.1 + sum_by (λ (e : K × X). f e.1) es = sum_by-cons (λ (e : K × X). f e.1) e es in
            omega (arith, new, old)
        | Greater ↦ λ p.
            let new : sum_by (λ (e : K × X). f e.1) (e ∷ put R k v es) ≡ f e.1 + sum_by (λ (e : K × X). f e.1) (put R k v es) = sum_by-cons (λ (e : K × X). f e.1) e (put R k v es) in
            let old : sum_by (λ (e : K × X). f e.1) (e ∷ es) ≡ f e.1 + sum_by (λ (e : K × X). f e.1) es = sum_by-cons (λ (e : K × X). f e.1) e es in
            let rest : sum_by (λ (e : K × X). f e.1) (put R k v es) + value_or_0 f (find R k es) ≡ sum_by (λ (e : K × X). f e.1) es + f v = total-put k v es (T_second _ _ h) in
            omega (arith, new, old, rest)
      ] refl

  pub total-insert : (m : FinMap R X) (k : K) (v : X) → sum_by (λ (e : K × X). f e.1) (map.entries (map.insert m k v)) + value_or_0 f (map.get m k) ≡ sum_by (λ (e : K × X). f e.1) (map.entries m) + f v
  total-insert m k v =
      ap (λ es. sum_by (λ (e : K × X). f e.1) es + value_or_0 f (map.get m k)) (map.entries-insert o m k v)
      ∙ ap (λ x. sum_by (λ (e : K × X). f e.1) (put R k v (map.entries m)) + value_or_0 f x) (map.get-entries m k)
      ∙ total-put k v (map.entries m) (map.entries_sorted m)

-- f of the value, or of a default for which f is 0
value_or_default : {X : Type 0} (f : X → ℕ) (o : Option X) (d : X) → f d ≡ 0 → value_or_0 f o ≡ f (unwrap_or o d)
value_or_default f None d none = sym none
value_or_default f (Some x) d none = refl

pub entries-empty : {K X : Type 0} (R : K → K → Ordering) → map.entries (map.empty {X = X} {R = R}) ≡ []
entries-empty {X = X} R = no_length _ (sym (map.len-entries map.empty) ∙ map.len-empty R X)
  where
    no_length : {A : Type 0} (es : List A) → length es ≡ 0 → es ≡ []
    no_length [] e = refl
    no_length (x ∷ es) e = absurd (omega arith)

pub line_count-empty : line_count map.empty ≡ 0
line_count-empty = ap (sum_by (λ (file : ℕ × Lines). map.len file.1)) (entries-empty nat_cmp)

pub entry_count-empty : entry_count map.empty ≡ 0
entry_count-empty = ap (sum_by (λ (word : List ℕ × Files). line_count word.1)) (entries-empty (slice_cmp nat_cmp))

-- one line more, unless it is there
pub line_count-with_line : (files : Files) (file line : ℕ) → line_count (with_line files file line) + cond (map.contains_key (lines_in files file) line) 1 0 ≡ line_count files + 1
line_count-with_line files file line =
    let lines = lines_in files file in
    let total : line_count (with_line files file line) + value_or_0 map.len (map.get files file) ≡ line_count files + map.len (map.insert lines line tt) = total-insert nat_cmp_total map.len files file (map.insert lines line tt) in
    let had : value_or_0 map.len (map.get files file) ≡ map.len lines = value_or_default map.len (map.get files file) map.empty (map.len-empty nat_cmp (Unit {0})) in
    let new : map.len (map.insert lines line tt) ≡ cond (map.contains_key lines line) (map.len lines) (map.len lines + 1) = map.len-insert nat_cmp_total lines line tt in
    counted _ (line_count (with_line files file line)) (line_count files) _ _ _ total had new
  where
    counted : (b : Bool) (after before some lines more : ℕ) → after + some ≡ before + more → some ≡ lines → more ≡ cond b lines (lines + 1) → after + cond b 1 0 ≡ before + 1
    counted true after before some lines more t h n = omega arith
    counted false after before some lines more t h n = omega arith

-- one entry more, unless it is there
pub entry_count-with_entry : (index : Entries) (word : List ℕ) (file line : ℕ) → entry_count (with_entry index word file line) + cond (has_entry index word file line) 1 0 ≡ entry_count index + 1
entry_count-with_entry index word file line =
    let files = files_of index word in
    let total : entry_count (with_entry index word file line) + value_or_0 line_count (map.get index word) ≡ entry_count index + line_count (with_line files file line) = total-insert nat_list_cmp_total line_count index word (with_line files file line) in
    let had : value_or_0 line_count (map.get index word) ≡ line_count files = value_or_default line_count (map.get index word) map.empty line_count-empty in
    let new : line_count (with_line files file line) + cond (has_entry index word file line) 1 0 ≡ line_count files + 1 = line_count-with_line files file line in
    counted _ (entry_count (with_entry index word file line)) (entry_count index) _ _ _ total had new
  where
    counted : (b : Bool) (after before some files more : ℕ) → after + some ≡ before + more → some ≡ files → more + cond b 1 0 ≡ files + 1 → after + cond b 1 0 ≡ before + 1
    counted true after before some files more t h n = omega arith
    counted false after before some files more t h n = omega arith

-- what a counter of the entries becomes, which stops at the greatest number
pub count-new : (index new : Entries) (word : List ℕ) (file line count next : ℕ) → count ≡ min (entry_count index) (2 ^ 64 - 1) → new ≡ with_entry index word file line → true ≡ not (has_entry index word file line)
    → next ≡ min (count + 1) (2 ^ 64 - 1) → next ≡ min (entry_count new) (2 ^ 64 - 1)
count-new index new word file line count next is added fresh one_more =
    let total : entry_count (with_entry index word file line) + cond (has_entry index word file line) 1 0 ≡ entry_count index + 1 = entry_count-with_entry index word file line in
    let none : cond (has_entry index word file line) 1 0 ≡ 0 = zero_from (has_entry index word file line) fresh in
    let same : entry_count new ≡ entry_count (with_entry index word file line) = ap entry_count added in
    omega (arith, total, none, same, is, one_more)
  where
    zero_from : (b : Bool) → true ≡ not b → ◌≡◌ {A = ℕ} (cond b 1 0) 0
    zero_from true e = cc
    zero_from false e = refl

pub count-old : (index new : Entries) (word : List ℕ) (file line count : ℕ) → count ≡ min (entry_count index) (2 ^ 64 - 1) → new ≡ with_entry index word file line → false ≡ not (has_entry index word file line) → count ≡ min (entry_count new) (2 ^ 64 - 1)
count-old index new word file line count is added known =
    let total : entry_count (with_entry index word file line) + cond (has_entry index word file line) 1 0 ≡ entry_count index + 1 = entry_count-with_entry index word file line in
    let one : cond (has_entry index word file line) 1 0 ≡ 1 = one_from (has_entry index word file line) known in
    let same : entry_count new ≡ entry_count (with_entry index word file line) = ap entry_count added in
    omega (arith, total, one, same, is)
  where
    one_from : (b : Bool) → false ≡ not b → ◌≡◌ {A = ℕ} (cond b 1 0) 1
    one_from true e = refl
    one_from false e = cc
