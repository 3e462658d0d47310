-- One of the two lists: the numbered envelopes of all classes, and the late ones.
use Rattle.std.proofs.Common.{◌≡◌, ◌∙◌, ℕ, zero, suc, ◌<◌, ◌≤◌, Bool, true, false, List, [], ◌∷◌, ◌++◌, length, map, Option, Some, None, IfNone, IfSome, refl, sym, ap, subst, arith, if◌then◌else◌}
use Rattle.std.specs.Prelude.{nat_le, filter, slice_get, remove}
use Rattle.std.specs.List.{AllByRecursion}
use Rattle.std.specs.Option.{option_map}
use Rattle.caf_message.specs.declared.envelope.Plain.{Plain}
use Rattle.caf_message.specs.declared.envelope.Plain.TheVariants as «plain»
use Rattle.caf_message.specs.declared.envelope.Taken.{Taken}
use Rattle.caf_message.specs.Envelope.{plain_envelope, is_system, is_response, is_content, is_system_body, is_response_body, is_content_body}
use Rattle.caf_message.specs.Lists.{pick, keep}
use Rattle.caf_mailbox.specs.Search.{taken_at}
use Rattle.caf_mailbox.specs.Order.{put, woven, IsOrdered, is_before, least}
use Rattle.caf_mailbox.specs.Passed.{NonePass}
use Rattle.caf_mailbox.specs.Arrived.{Arrived, all_arrived, without_numbers, at_arrived, number_taken}
use Rattle.caf_mailbox.specs.Line.{numbered, in_line, taken_where, number_of, first_class, IsQueue, IsSorted, IsFound}
use Rattle.caf_mailbox.specs.Responses.{CachedResponses, no_responses}
use Rattle.caf_mailbox.specs.declared.class.Class.{Class}
use Rattle.caf_mailbox.specs.declared.class.Class.TheVariants as classes
use Rattle.caf_mailbox.specs.declared.line.Line.{Line}
use Rattle.caf_mailbox.specs.declared.queue.Found.{Found}
use Rattle.caf_message.proofs.ListLemmas.{pick_none}
use Rattle.caf_mailbox.proofs.NextLemmas.{all_pick}
use Rattle.caf_mailbox.proofs.SearchLemmas.{pick_is}
use Rattle.caf_mailbox.proofs.OrderLemmas.{ordered-pick, ordered-woven, pick-woven, earlier, number-earlier, first_side, second_side}

-- ---- classes are apart

abbrev by_body : (is_one : Bool → Plain → Bool) (other : Bool → Plain → Bool) → Type 0
by_body is_one other = (response : Bool) (body : Plain) → is_one response body ≡ true → other response body ≡ false

notice_content : by_body (λ r b. is_system_body b) is_content_body
notice_content r («plain».Content words) q = cc
notice_content r («plain».Failure sec) q = refl
notice_content r («plain».System what) q = refl

response_content : by_body is_response_body is_content_body
response_content true («plain».Content words) q = refl
response_content false («plain».Content words) q = cc
response_content r («plain».Failure sec) q = refl
response_content r («plain».System what) q = refl

pub notice_no_content : (e : Taken) → is_system e ≡ true → is_content e ≡ false
notice_no_content e q = notice_content e.mid.response e.body q

pub response_no_content : (e : Taken) → is_response e ≡ true → is_content e ≡ false
response_no_content e q = response_content e.mid.response e.body q

-- ---- the first one that passes, of a list in two parts

module _ {A : Type 0} (test : A → Bool) where
  pick-first : (xs ys : List A) (p : A × List A) → pick test xs ≡ Some p → pick test (xs ++ ys) ≡ Some (p.0, p.1 ++ ys)
  pick-first [] ys p e = cc
  pick-first (x ∷ xs) ys p e = by (test x) (pick test xs) refl refl (λ r is. pick-first xs ys r is) e
    where
      by : (b : Bool) (o : Option (A × List A)) → test x ≡ b → pick test xs ≡ o → ((r : A × List A) → pick test xs ≡ Some r → pick test (xs ++ ys) ≡ Some (r.0, r.1 ++ ys))
          → (if b then Some (x, xs) else keep x o) ≡ Some p → pick test (x ∷ (xs ++ ys)) ≡ Some (p.0, p.1 ++ ys)
      by true o q is more e' = let same : (x, xs) ≡ p = cc in rw q (ap (λ (r : A × List A). Some (r.0, r.1 ++ ys)) same)
      by false None q is more e' = cc
      by false (Some r) q is more e' =
          let same : (r.0, x ∷ r.1) ≡ p = cc in
          let rest = more r is in
          rw (q, rest) (ap (λ (s : A × List A). Some (s.0, s.1 ++ ys)) same)

  pick-second : (xs ys : List A) → pick test xs ≡ None → pick test (xs ++ ys) ≡ option_map (λ q. (q.0, xs ++ q.1)) (pick test ys)
  pick-second [] ys e = by (pick test ys)
    where
      by : (o : Option (A × List A)) → o ≡ option_map (λ q. (q.0, q.1)) o
      by None = refl
      by (Some r) = refl
  pick-second (x ∷ xs) ys e = by (test x) (pick test xs) refl refl (λ is. pick-second xs ys is) e
    where
      on : (o : Option (A × List A)) → keep x (option_map (λ q. (q.0, xs ++ q.1)) o) ≡ option_map (λ q. (q.0, x ∷ (xs ++ q.1))) o
      on None = refl
      on (Some r) = refl

      by : (b : Bool) (o : Option (A × List A)) → test x ≡ b → pick test xs ≡ o → (pick test xs ≡ None → pick test (xs ++ ys) ≡ option_map (λ q. (q.0, xs ++ q.1)) (pick test ys))
          → (if b then Some (x, xs) else keep x o) ≡ None → pick test (x ∷ (xs ++ ys)) ≡ option_map (λ q. (q.0, x ∷ (xs ++ q.1))) (pick test ys)
      by true o q is more e' = cc
      by false None q is more e' = let rest = more is in rw (q, rest) (on (pick test ys))
      by false (Some r) q is more e' = cc

module _ (test : Taken → Bool) where
  abbrev plainly : Option (Arrived × List Arrived) → Option (Taken × List Taken)
  plainly o = option_map (λ p. (p.0.1, without_numbers p.1)) o

  pick-numbers : (zs : List Arrived) → pick test (without_numbers zs) ≡ plainly (pick (at_arrived test) zs)
  pick-numbers [] = refl
  pick-numbers (z ∷ zs) = by (test z.1) (pick (at_arrived test) zs) refl (pick-numbers zs)
    where
      by : (b : Bool) (o : Option (Arrived × List Arrived)) → test z.1 ≡ b → pick test (without_numbers zs) ≡ plainly o
          → (if b then Some (z.1, without_numbers zs) else keep z.1 (pick test (without_numbers zs))) ≡ plainly (if b then Some (z, zs) else keep z o)
      by true o q rest = refl
      by false None q rest = rw rest refl
      by false (Some r) q rest = rw rest refl

  -- one with a number was taken
  pub line_some : (zs left : List Arrived) (a : Arrived) (late late' : List Taken) → late' ≡ late → Some (a, left) ≡ pick (at_arrived test) zs → Some (a.1, without_numbers left ++ late') ≡ pick test (without_numbers zs ++ late)
  line_some zs left a late late' same is = rw same (sym (pick-first test (without_numbers zs) late (a.1, without_numbers left) (pick-numbers zs ∙ ap plainly (sym is))))

  -- none with a number passes
  pub line_none : {B : Type 0} (f : B → Taken) (zs : List Arrived) (late left : List Taken) (r : Option B) → None ≡ pick (at_arrived test) zs → option_map (λ b. (f b, left)) r ≡ pick test late
      → option_map (λ b. (f b, without_numbers zs ++ left)) r ≡ pick test (without_numbers zs ++ late)
  line_none {B} f zs late left r none is =
      by r ∙ ap (option_map {U = Taken × List Taken} (λ q. (q.0, without_numbers zs ++ q.1))) is ∙ sym (pick-second test (without_numbers zs) late (pick-numbers zs ∙ ap plainly (sym none)))
    where
      by : (r : Option B) → option_map (λ b. (f b, without_numbers zs ++ left)) r ≡ option_map {U = Taken × List Taken} (λ (q : Taken × List Taken). (q.0, without_numbers zs ++ q.1)) (option_map (λ b. (f b, left)) r)
      by None = refl
      by (Some b) = refl

pub same_parts : (old new : Line) → numbered new ≡ numbered old → new.late ≡ old.late → in_line new ≡ in_line old
same_parts old new one two = ap (λ zs. without_numbers zs ++ map plain_envelope new.late.items) one ∙ ap (λ late. without_numbers (numbered old) ++ map plain_envelope late.items) two

-- ---- the contents among all

abbrev content_of : List Arrived → List Taken
content_of zs = filter is_content (without_numbers zs)

content-put : (x : Arrived) (ys : List Arrived) → is_content x.1 ≡ false → content_of (put x ys) ≡ content_of ys
content-put x [] apart = rw apart refl
content-put x (y ∷ ys) apart = by (nat_le x.0 y.0) (content-put x ys apart)
  where
    under : (b : Bool) → content_of (put x ys) ≡ content_of ys → (if b then y.1 ∷ content_of (put x ys) else content_of (put x ys)) ≡ (if b then y.1 ∷ content_of ys else content_of ys)
    under true rest = ap (λ es. y.1 ∷ es) rest
    under false rest = rest

    by : (b : Bool) → content_of (put x ys) ≡ content_of ys → content_of (if b then x ∷ y ∷ ys else y ∷ put x ys) ≡ content_of (y ∷ ys)
    by true rest = rw apart refl
    by false rest = under (is_content y.1) rest

content-woven : (xs ys : List Arrived) → AllByRecursion (λ z. is_content z.1 ≡ false) xs → content_of (woven xs ys) ≡ content_of ys
content-woven [] ys all = refl
content-woven (x ∷ xs) ys all = content-put x (woven xs ys) all.0 ∙ content-woven xs ys all.1

content-all : (zs : List Arrived) → AllByRecursion (λ z. is_content z.1 ≡ true) zs → content_of zs ≡ without_numbers zs
content-all [] all = refl
content-all (z ∷ zs) all = rw all.0 (ap (λ es. z.1 ∷ es) (content-all zs all.1))

filter-parts : {A : Type 0} (test : A → Bool) (xs ys : List A) → filter test (xs ++ ys) ≡ filter test xs ++ filter test ys
filter-parts test [] ys = refl
filter-parts test (x ∷ xs) ys = by (test x) (filter-parts test xs ys)
  where
    by : (b : Bool) → filter test (xs ++ ys) ≡ filter test xs ++ filter test ys → (if b then x ∷ filter test (xs ++ ys) else filter test (xs ++ ys)) ≡ (if b then x ∷ filter test xs else filter test xs) ++ filter test ys
    by true rest = ap (λ zs. x ∷ zs) rest
    by false rest = rest

others : (is_one : Taken → Bool) → ((e : Taken) → is_one e ≡ true → is_content e ≡ false) → (zs : List Arrived) → AllByRecursion (λ z. is_one z.1 ≡ true) zs → AllByRecursion (λ z. is_content z.1 ≡ false) zs
others is_one apart [] all = tt
others is_one apart (z ∷ zs) all = (apart z.1 all.0, others is_one apart zs all.1)

-- those with a number stand before the late ones
pub contents-line : (l : Line) → IsSorted l → filter is_content (in_line l) ≡ without_numbers (all_arrived l.contents.items) ++ filter is_content (map plain_envelope l.late.items)
contents-line l sorted =
    filter-parts is_content (without_numbers (numbered l)) (map plain_envelope l.late.items)
    ∙ ap (λ es. es ++ filter is_content (map plain_envelope l.late.items))
    (content-woven (all_arrived l.notices.items) (woven l.responses.here (all_arrived l.contents.items)) (others is_system notice_no_content _ sorted.notices.class)
    ∙ content-woven l.responses.here (all_arrived l.contents.items) (others is_response response_no_content _ sorted.responses.class)
    ∙ content-all (all_arrived l.contents.items) sorted.contents.class)

-- ---- how many at the front do not pass

get-first : {A : Type 0} (xs ys : List A) (k : ℕ) (x : A) → slice_get xs k ≡ Some x → slice_get (xs ++ ys) k ≡ Some x
get-first [] ys k x e = cc
get-first (y ∷ xs) ys zero x e = e
get-first (y ∷ xs) ys (suc k) x e = get-first xs ys k x e

get-first_from : {A : Type 0} (xs ys : List A) (k : ℕ) (x : A) → k < length xs → slice_get (xs ++ ys) k ≡ Some x → slice_get xs k ≡ Some x
get-first_from [] ys k x l e = absurd (omega arith)
get-first_from (y ∷ xs) ys zero x l e = e
get-first_from (y ∷ xs) ys (suc k) x l e = get-first_from xs ys k x (omega arith) e

get-numbers : (zs : List Arrived) (k : ℕ) (z : Arrived) → slice_get zs k ≡ Some z → slice_get (without_numbers zs) k ≡ Some z.1
get-numbers [] k z e = cc
get-numbers (y ∷ zs) zero z e = let same : y ≡ z = cc in ap (λ (a : Arrived). Some a.1) same
get-numbers (y ∷ zs) (suc k) z e = get-numbers zs k z e

get-numbers_from : (zs : List Arrived) (k : ℕ) (e : Taken) → slice_get (without_numbers zs) k ≡ Some e → (z : Arrived) × (slice_get zs k ≡ Some z) × (z.1 ≡ e)
get-numbers_from [] k e q = cc
get-numbers_from (y ∷ zs) zero e q = (y, refl, cc)
get-numbers_from (y ∷ zs) (suc k) e q = get-numbers_from zs k e q

length-numbers : (zs : List Arrived) → length (without_numbers zs) ≡ length zs
length-numbers [] = refl
length-numbers (z ∷ zs) = ap suc (length-numbers zs)

module _ (test : Taken → Bool) (zs : List Arrived) (others : List Taken) (n : ℕ) where
  pub pass_queue : NonePass test (without_numbers zs ++ others) n → NonePass (at_arrived test) zs n
  pass_queue all k l z e = all k l z.1 (get-first (without_numbers zs) others k z.1 (get-numbers zs k z e))

  pub pass_line : n ≤ length zs → NonePass (at_arrived test) zs n → NonePass test (without_numbers zs ++ others) n
  pass_line le all k l e q =
      let len = length-numbers zs in
      let found = get-numbers_from zs k e (get-first_from (without_numbers zs) others k e (omega arith) q) in
      ap test (sym found.2) ∙ all k l found.0 found.1

get-remove : {A : Type 0} (xs : List A) (i k : ℕ) (x : A) → k < i → slice_get (remove xs i) k ≡ Some x → slice_get xs k ≡ Some x
get-remove [] zero k x l e = absurd (omega arith)
get-remove [] (suc i) k x l e = e
get-remove (y ∷ xs) zero k x l e = absurd (omega arith)
get-remove (y ∷ xs) (suc i) zero x l e = e
get-remove (y ∷ xs) (suc i) (suc k) x l e = get-remove xs i k x (omega arith) e

shorter-remove : {A : Type 0} (xs : List A) (i : ℕ) (x : A) → slice_get xs i ≡ Some x → i ≤ length (remove xs i)
shorter-remove [] i x e = cc
shorter-remove (y ∷ xs) zero x e = omega arith
shorter-remove (y ∷ xs) (suc i) x e = let rest = shorter-remove xs i x e in omega arith

-- ---- the first one of a queue

pub all_at : {A : Type 0} (P : A → Type 0) (xs : List A) (k : ℕ) (x : A) → AllByRecursion P xs → slice_get xs k ≡ Some x → P x
all_at P [] k x all e = cc
all_at P (y ∷ xs) zero x all e = let same : y ≡ x = cc in subst P same all.0
all_at P (y ∷ xs) (suc k) x all e = all_at P xs k x all.1 e

pub all_of : (is_one : Taken → Bool) (P : Taken → Type 0) → ((e : Taken) → is_one e ≡ true → P e) → (zs : List Arrived) → AllByRecursion (λ z. is_one z.1 ≡ true) zs → AllByRecursion (λ z. P z.1) zs
all_of is_one P so [] all = tt
all_of is_one P so (z ∷ zs) all = (so z.1 all.0, all_of is_one P so zs all.1)

module _ (test : Taken → Bool) (zs : List Arrived) where
  pub found_at : (i : ℕ) (z : Arrived) → NonePass (at_arrived test) zs i → slice_get zs i ≡ Some z → test z.1 ≡ true → IsFound test zs (Some (record { position = i; number = z.0 }))
  found_at i z none at passes =
      let is : pick (at_arrived test) zs ≡ taken_at zs i = pick_is (at_arrived test) zs i z none at passes in
      record { place = sym is; number = rw (is, at) refl }

  pub found_none : NonePass (at_arrived test) zs (length zs) → IsFound test zs None
  found_none none = let is : pick (at_arrived test) zs ≡ None = pick_none (at_arrived test) zs none in record { place = sym is; number = rw is refl }

  -- none of its class passes
  pub found_no_class : (is_one : Taken → Bool) → ((e : Taken) → is_one e ≡ true → test e ≡ false) → AllByRecursion (λ z. is_one z.1 ≡ true) zs → IsFound test zs None
  found_no_class is_one fails all = found_none (λ k l z e. fails z.1 (all_at (λ y. is_one y.1 ≡ true) zs k z all e))

  pub pass_same : (other : Arrived → Bool) (n : ℕ) → AllByRecursion (λ z. test z.1 ≡ other z) zs → NonePass other zs n → NonePass (at_arrived test) zs n
  pass_same other n all none k l z e = all_at (λ y. test y.1 ≡ other y) zs k z all e ∙ none k l z e

-- ---- one queue after a removal

second_is : (a : Arrived) (xs : List Arrived) (b : Arrived) (ys : List Arrived) → ◌≡◌ {A = Option (Arrived × List Arrived)} (Some (a, xs)) (Some (b, ys)) → xs ≡ ys
second_is a xs b ys e = ap rest e
  where
    rest : Option (Arrived × List Arrived) → List Arrived
    rest None = []
    rest (Some p) = p.1

pub kept_on : {B : Type 0} (r : Option B) (a b c : List Arrived) → IfNone r (a ≡ b) → b ≡ c → IfNone r (a ≡ c)
kept_on None a b c e f = e ∙ f
kept_on (Some x) a b c e f = tt

module _ {B : Type 0} (f : B → Arrived) (zs left : List Arrived) (found : Option Found) (r : Option B) (taken : option_map (λ b. (f b, left)) r ≡ taken_where zs found) (kept : IfNone r (left ≡ zs)) where
  -- those before it still do not pass
  pub pass_taken : (test : Arrived → Bool) (n : ℕ) → IfSome found (λ g. n ≤ g.position) → NonePass test zs n → NonePass test left n
  pass_taken test n before all = by r found taken kept before
    where
      got : (g : Found) (o : Option Arrived) (b : B) → slice_get zs g.position ≡ o → ◌≡◌ {A = Option (Arrived × List Arrived)} (Some (f b, left)) (option_map (λ x. (x, remove zs g.position)) o) → n ≤ g.position → NonePass test left n
      got g None b is e le = cc
      got g (Some x) b is e le = let same : left ≡ remove zs g.position = second_is (f b) left x (remove zs g.position) e in λ k l z q. all k l z (get-remove zs g.position k z (omega arith) (ap (λ xs. slice_get xs k) (sym same) ∙ q))

      by : (r : Option B) (found : Option Found) → option_map (λ b. (f b, left)) r ≡ taken_where zs found → IfNone r (left ≡ zs) → IfSome found (λ g. n ≤ g.position) → NonePass test left n
      by None found e same le = subst (λ xs. NonePass test xs n) (sym same) all
      by (Some b) None e same le = cc
      by (Some b) (Some g) e same le = got g (slice_get zs g.position) b refl e le

  pub within_taken : (n : ℕ) → IfSome found (λ g. n ≤ g.position) → n ≤ length zs → n ≤ length left
  within_taken n before within = by r found taken kept before
    where
      got : (g : Found) (o : Option Arrived) (b : B) → slice_get zs g.position ≡ o → ◌≡◌ {A = Option (Arrived × List Arrived)} (Some (f b, left)) (option_map (λ x. (x, remove zs g.position)) o) → n ≤ g.position → n ≤ length left
      got g None b is e le = cc
      got g (Some x) b is e le = let same : left ≡ remove zs g.position = second_is (f b) left x (remove zs g.position) e in let less = shorter-remove zs g.position x is in let len = ap length same in omega arith

      by : (r : Option B) (found : Option Found) → option_map (λ b. (f b, left)) r ≡ taken_where zs found → IfNone r (left ≡ zs) → IfSome found (λ g. n ≤ g.position) → n ≤ length left
      by None found e same le = let len = ap length same in omega arith
      by (Some b) None e same le = cc
      by (Some b) (Some g) e same le = got g (slice_get zs g.position) b refl e le

module _ {B : Type 0} (f : B → Arrived) (test : Arrived → Bool) (zs left : List Arrived) (r : Option B) (taken : option_map (λ b. (f b, left)) r ≡ pick test zs) (kept : IfNone r (left ≡ zs)) where
  pub all_taken : (P : Arrived → Type 0) → AllByRecursion P zs → AllByRecursion P left
  all_taken P all = by r taken kept
    where
      by : (r : Option B) → option_map (λ b. (f b, left)) r ≡ pick test zs → IfNone r (left ≡ zs) → AllByRecursion P left
      by None e same = subst (λ xs. AllByRecursion P xs) (sym same) all
      by (Some b) e same = (all_pick test P zs (f b, left) all (sym e)).1

  pub queue_taken : (is_one : Taken → Bool) → IsQueue is_one zs → IsQueue is_one left
  queue_taken is_one queue = record { ordered = by r taken kept; class = all_taken (λ z. is_one z.1 ≡ true) queue.class }
    where
      by : (r : Option B) → option_map (λ b. (f b, left)) r ≡ pick test zs → IfNone r (left ≡ zs) → IsOrdered left
      by None e same = subst (λ xs. IsOrdered xs) (sym same) queue.ordered
      by (Some b) e same = ordered-pick test zs (f b, left) queue.ordered (sym e)

-- ---- the first one of three queues

module _ (test : Taken → Bool) (ns rs cs : List Arrived) (one : IsOrdered ns) (two : IsOrdered rs) (three : IsOrdered cs) (n : Option Found) (r : Option ℕ) (c : Option Found) (fn : IsFound test ns n) (fr : r ≡ number_taken (pick (at_arrived test) rs)) (fc : IsFound test cs c) where
  abbrev t : Arrived → Bool
  t = at_arrived test

  both_picked : pick t (woven rs cs) ≡ earlier t rs cs (pick t rs) (pick t cs)
  both_picked = pick-woven t rs cs two three

  all_picked : pick t (woven ns (woven rs cs)) ≡ earlier t ns (woven rs cs) (pick t ns) (pick t (woven rs cs))
  all_picked = pick-woven t ns (woven rs cs) one (ordered-woven rs cs three)

  least_number : number_taken (pick t (woven rs cs)) ≡ least r (number_of c)
  least_number =
      ap number_taken both_picked ∙ number-earlier t rs cs (pick t rs) (pick t cs)
      ∙ ap (λ a. least a (number_taken (pick t cs))) (sym fr) ∙ ap (least r) (sym fc.number)

  is_first : (b : Bool) → is_before (number_of n) (least r (number_of c)) ≡ b → is_before (number_taken (pick t ns)) (number_taken (pick t (woven rs cs))) ≡ b
  is_first b e = ap (λ a. is_before a (number_taken (pick t (woven rs cs)))) (sym fn.number) ∙ ap (is_before (number_of n)) least_number ∙ e

  is_second : (b : Bool) → is_before r (number_of c) ≡ b → is_before (number_taken (pick t rs)) (number_taken (pick t cs)) ≡ b
  is_second b e = ap (λ a. is_before a (number_taken (pick t cs))) (sym fr) ∙ ap (is_before r) (sym fc.number) ∙ e

  -- after the search, which keeps the queues
  module _ {B : Type 0} (f : B → Arrived) (res : Option B) (left ns' cs' : List Arrived) (same_ns : ns' ≡ ns) (same_cs : cs' ≡ cs) where
    pub notice_taken : is_before (number_of n) (least r (number_of c)) ≡ true → option_map (λ b. (f b, left)) res ≡ taken_where ns' n
        → option_map (λ b. (f b, woven left (woven rs cs'))) res ≡ pick t (woven ns (woven rs cs))
    notice_taken e taken =
        rw same_cs (first_side t f ns (woven rs cs) (pick t ns) (pick t (woven rs cs)) res left (is_first true e) (taken ∙ ap (λ zs. taken_where zs n) same_ns ∙ fn.place) ∙ sym all_picked)

    pub response_taken : is_before r (number_of c) ≡ true → is_before (number_of n) (least r (number_of c)) ≡ false → option_map (λ b. (f b, left)) res ≡ pick t rs
        → option_map (λ b. (f b, woven ns' (woven left cs'))) res ≡ pick t (woven ns (woven rs cs))
    response_taken e e' taken =
        rw (same_ns, same_cs) (second_side t f ns (woven rs cs) (pick t ns) (pick t (woven rs cs)) res (woven left cs) (is_first false e')
        (first_side t f rs cs (pick t rs) (pick t cs) res left (is_second true e) taken ∙ sym both_picked) ∙ sym all_picked)

    pub content_taken : is_before r (number_of c) ≡ false → is_before (number_of n) (least r (number_of c)) ≡ false → option_map (λ b. (f b, left)) res ≡ taken_where cs' c
        → option_map (λ b. (f b, woven ns' (woven rs left))) res ≡ pick t (woven ns (woven rs cs))
    content_taken e e' taken =
        rw same_ns (second_side t f ns (woven rs cs) (pick t ns) (pick t (woven rs cs)) res (woven rs left) (is_first false e')
        (second_side t f rs cs (pick t rs) (pick t cs) res left (is_second false e) (taken ∙ ap (λ zs. taken_where zs c) same_cs ∙ fc.place) ∙ sym both_picked) ∙ sym all_picked)

-- ---- which class is first

module _ (n r c : Option ℕ) where
  pub notice_first : first_class n r c ≡ classes.Notice → is_before n (least r c) ≡ true
  notice_first is = by (is_before n (least r c)) (is_before r c) is
    where
      by : (a b : Bool) → (if a then classes.Notice else if b then classes.Response else classes.Content) ≡ classes.Notice → a ≡ true
      by true b e = refl
      by false true e = cc
      by false false e = cc

  pub response_first : first_class n r c ≡ classes.Response → (is_before n (least r c) ≡ false) × (is_before r c ≡ true)
  response_first is = by (is_before n (least r c)) (is_before r c) is
    where
      by : (a b : Bool) → (if a then classes.Notice else if b then classes.Response else classes.Content) ≡ classes.Response → (a ≡ false) × (b ≡ true)
      by true b e = cc
      by false true e = (refl, refl)
      by false false e = cc

  pub content_first : first_class n r c ≡ classes.Content → (is_before n (least r c) ≡ false) × (is_before r c ≡ false)
  content_first is = by (is_before n (least r c)) (is_before r c) is
    where
      by : (a b : Bool) → (if a then classes.Notice else if b then classes.Response else classes.Content) ≡ classes.Content → (a ≡ false) × (b ≡ false)
      by true b e = cc
      by false true e = cc
      by false false e = (refl, refl)

pub class_is : (a b r : Option ℕ) (n c : Option Found) (x y : Class) → a ≡ number_of n → b ≡ number_of c → x ≡ first_class a r b → x ≡ y → first_class (number_of n) r (number_of c) ≡ y
class_is a b r n c x y one two is same =
    ap (λ o. first_class o r (number_of c)) (sym one) ∙ ap (λ o. first_class a r o) (sym two) ∙ sym is ∙ same

-- ---- what the search of the three queues found

pub record Searched (test : Taken → Bool) (l : Line) (ns' cs' : List Arrived) (n : Option Found) (r : Option ℕ) (c : Option Found) : Type 0 where
  pub sorted : IsSorted l
  pub notice : IsFound test (all_arrived l.notices.items) n
  pub response : r ≡ number_taken (pick (at_arrived test) l.responses.here)
  pub content : IsFound test (all_arrived l.contents.items) c
  pub same_notices : ns' ≡ all_arrived l.notices.items
  pub same_contents : cs' ≡ all_arrived l.contents.items

module _ (test : Taken → Bool) (l : Line) (ns' cs' : List Arrived) (n : Option Found) (r : Option ℕ) (c : Option Found) (s : Searched test l ns' cs' n r c) {B : Type 0} (f : B → Arrived) (res : Option B) (left : List Arrived) where
  abbrev ns : List Arrived
  ns = all_arrived l.notices.items

  abbrev rs : List Arrived
  rs = l.responses.here

  abbrev cs : List Arrived
  cs = all_arrived l.contents.items

  abbrev Out : List Arrived → Type 0
  Out zs = option_map (λ b. (f b, left)) res ≡ pick (at_arrived test) zs

  pub notice_picked : option_map (λ b. (f b, left)) res ≡ taken_where ns' n → Out ns
  notice_picked taken = taken ∙ ap (λ zs. taken_where zs n) s.same_notices ∙ s.notice.place

  pub content_picked : option_map (λ b. (f b, left)) res ≡ taken_where cs' c → Out cs
  content_picked taken = taken ∙ ap (λ zs. taken_where zs c) s.same_contents ∙ s.content.place

  pub notice_out : first_class (number_of n) r (number_of c) ≡ classes.Notice → option_map (λ b. (f b, left)) res ≡ taken_where ns' n
      → option_map (λ b. (f b, woven left (woven rs cs'))) res ≡ pick (at_arrived test) (numbered l)
  notice_out is taken =
      notice_taken test ns rs cs s.sorted.notices.ordered s.sorted.responses.ordered s.sorted.contents.ordered n r c s.notice s.response s.content f res left ns' cs' s.same_notices s.same_contents
      (notice_first (number_of n) r (number_of c) is) taken

  pub response_out : first_class (number_of n) r (number_of c) ≡ classes.Response → Out rs → option_map (λ b. (f b, woven ns' (woven left cs'))) res ≡ pick (at_arrived test) (numbered l)
  response_out is taken =
      let e = response_first (number_of n) r (number_of c) is in
      response_taken test ns rs cs s.sorted.notices.ordered s.sorted.responses.ordered s.sorted.contents.ordered n r c s.notice s.response s.content f res left ns' cs' s.same_notices s.same_contents e.1 e.0 taken

  pub content_out : first_class (number_of n) r (number_of c) ≡ classes.Content → option_map (λ b. (f b, left)) res ≡ taken_where cs' c
      → option_map (λ b. (f b, woven ns' (woven rs left))) res ≡ pick (at_arrived test) (numbered l)
  content_out is taken =
      let e = content_first (number_of n) r (number_of c) is in
      content_taken test ns rs cs s.sorted.notices.ordered s.sorted.responses.ordered s.sorted.contents.ordered n r c s.notice s.response s.content f res left ns' cs' s.same_notices s.same_contents e.1 e.0 taken

-- ---- contents alone

pub alone : (ns rs cs : List Arrived) → ns ≡ [] → rs ≡ [] → woven ns (woven rs cs) ≡ cs
alone ns rs cs one two = rw (one, two) refl

module _ (test : Taken → Bool) (l : Line) (one : l.notices.items ≡ []) (two : l.responses ≡ no_responses) {B : Type 0} (f : B → Arrived) (res : Option B) (left : List Arrived) where
  none_first : all_arrived l.notices.items ≡ []
  none_first = ap all_arrived one

  none_second : l.responses.here ≡ []
  none_second = ap (λ (r : CachedResponses). r.here) two

  pub alone_out : option_map (λ b. (f b, left)) res ≡ pick (at_arrived test) (all_arrived l.contents.items)
      → option_map (λ b. (f b, woven (all_arrived l.notices.items) (woven l.responses.here left))) res ≡ pick (at_arrived test) (numbered l)
  alone_out taken =
      ap (λ (zs : List Arrived). option_map (λ b. (f b, zs)) res) (alone (all_arrived l.notices.items) l.responses.here left none_first none_second) ∙ taken
      ∙ ap (pick (at_arrived test)) (sym (alone (all_arrived l.notices.items) l.responses.here (all_arrived l.contents.items) none_first none_second))

  pub alone_kept : IfNone res (left ≡ all_arrived l.contents.items) → IfNone res (woven (all_arrived l.notices.items) (woven l.responses.here left) ≡ numbered l)
  alone_kept kept = by res kept
    where
      by : (r : Option B) → IfNone r (left ≡ all_arrived l.contents.items) → IfNone r (woven (all_arrived l.notices.items) (woven l.responses.here left) ≡ numbered l)
      by None e = ap (λ (zs : List Arrived). woven (all_arrived l.notices.items) (woven l.responses.here zs)) e
      by (Some b) e = tt
