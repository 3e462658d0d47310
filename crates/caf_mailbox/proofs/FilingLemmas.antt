-- Lists that get a batch.
use Rattle.std.proofs.Common.{◌≡◌, ◌∙◌, ℕ, zero, suc, ◌+◌, ◌<◌, ◌≤◌, Bool, true, false, List, [], ◌∷◌, ◌++◌, length, Some, map, take, get_or, filter, count_by, refl, sym, ap, subst, arith, append_assoc, length-append, not, cond, if◌then◌else◌}
use Rattle.std.specs.Prelude.{slice_get}
use Rattle.std.specs.List.{AllByRecursion}
use Rattle.std.proofs.lemmas.List.Sums.{sum_by-cons}
use Rattle.std.proofs.lemmas.List.{map-append, append-nil}
use Rattle.caf_message.specs.declared.envelope.Taken.{Taken}
use Rattle.caf_message.specs.declared.envelope.Plain.{Plain}
use Rattle.caf_message.specs.declared.envelope.Plain.TheVariants as «plain»
use Rattle.caf_message.specs.Envelope.{is_system, is_response, is_content, is_system_body, is_response_body, is_content_body}
use Rattle.caf_mailbox.specs.Caches.{is_urgent, is_normal}
use Rattle.caf_mailbox.specs.Arrived.{Arrived, without_numbers, all_arrived}
use Rattle.caf_mailbox.specs.Line.{in_line, numbered, IsQueue, IsSorted, IsUpTo, HasRoom, HasSameItems}
use Rattle.caf_mailbox.specs.Places.{Places, place_for, place_in, places_for, BeginsWith, IsTally, IsOneMore}
use Rattle.caf_mailbox.specs.declared.tally.Tally.{Tally}
use Rattle.caf_mailbox.specs.Kept.{IsKept}
use Rattle.caf_mailbox.specs.Order.{woven, AreBelow}
use Rattle.caf_mailbox.specs.declared.line.Line.{Line}
use Rattle.caf_mailbox.proofs.OrderLemmas.{all-woven, woven-first, woven-second, ordered-last, below-more, below-last}

-- ---- counts

pub count_one : {A : Type 0} (test : A → Bool) (x : A) (rest : List A) → test x ≡ true → count_by test (x ∷ rest) ≡ 1 + count_by test rest
count_one test x rest passes = rw (sum_by-cons (λ y. cond (test y) 1 0) x rest, passes) refl

pub count_more : {A : Type 0} (test : A → Bool) (x : A) (rest : List A) → count_by test rest ≤ count_by test (x ∷ rest)
count_more test x rest = let e = sum_by-cons (λ y. cond (test y) 1 0) x rest in omega arith

count_alone : {A : Type 0} (test : A → Bool) (x : A) (rest : List A) → count_by test (x ∷ []) ≤ count_by test (x ∷ rest)
count_alone test x rest =
    let e = sum_by-cons (λ y. cond (test y) 1 0) x rest in
    let f = sum_by-cons (λ y. cond (test y) 1 0) x [] in
    omega arith

pub room_alone : (e : Taken) (rest : List Taken) (l : Line) → HasRoom (e ∷ rest) l → HasRoom (e ∷ []) l
room_alone e rest l room = record {
  notices = let h = room.notices in let less = count_alone is_system e rest in omega arith;
  contents = let h = room.contents in let less = count_alone is_content e rest in omega arith;
}

pub no_room : (e : Taken) (rest : List Taken) (l : Line) → HasRoom (e ∷ rest) l → HasRoom [] l
no_room e rest l room = record {
  notices = let h = room.notices in omega arith;
  contents = let h = room.contents in omega arith;
}

-- ---- classes are apart

abbrev no_class : (is_one other : Bool → Plain → Bool) → Type 0
no_class is_one other = (response : Bool) (body : Plain) → is_one response body ≡ true → other response body ≡ false

notice_content : no_class (λ r b. is_system_body b) is_content_body
notice_content r («plain».Content words) q = cc
notice_content r («plain».Failure sec) q = refl
notice_content r («plain».System what) q = refl

notice_response : no_class (λ r b. is_system_body b) is_response_body
notice_response r («plain».Content words) q = cc
notice_response r («plain».Failure sec) q = cc
notice_response r («plain».System what) q = refl

response_notice : no_class is_response_body (λ r b. is_system_body b)
response_notice r («plain».Content words) q = refl
response_notice r («plain».Failure sec) q = refl
response_notice r («plain».System what) q = cc

response_content : no_class is_response_body is_content_body
response_content true («plain».Content words) q = refl
response_content false («plain».Content words) q = cc
response_content r («plain».Failure sec) q = refl
response_content r («plain».System what) q = cc

content_notice : no_class is_content_body (λ r b. is_system_body b)
content_notice r («plain».Content words) q = refl
content_notice r («plain».Failure sec) q = cc
content_notice r («plain».System what) q = cc

content_response : no_class is_content_body is_response_body
content_response true («plain».Content words) q = cc
content_response false («plain».Content words) q = refl
content_response r («plain».Failure sec) q = cc
content_response r («plain».System what) q = cc

-- ---- places

pub notice_no_place : (n : ℕ) (e : Taken) → is_system e ≡ true → place_for n e ≡ []
notice_no_place n e q = let no : is_response e ≡ false = notice_response e.mid.response e.body q in rw no refl

pub content_no_place : (n : ℕ) (e : Taken) → is_content e ≡ true → place_for n e ≡ []
content_no_place n e q = let no : is_response e ≡ false = content_response e.mid.response e.body q in rw no refl

pub response_place : (n : ℕ) (e : Taken) → is_response e ≡ true → place_for n e ≡ (n, e.mid.number) ∷ []
response_place n e q = rw q refl

pub first_place : (n : ℕ) (e : Taken) (room : Places) → is_response e ≡ true → BeginsWith (place_for n e) room → slice_get room 0 ≡ Some (n, e.mid.number)
first_place n e room q begins = ap (λ ps. slice_get ps 0) (begins.1 ∙ ap (λ ps. ps ++ begins.0) (response_place n e q))

pub no_more : (first rest : Places) → first ≡ [] → rest ≡ first ++ rest
no_more first rest none = rw none refl

-- ---- one more is counted

one : (test : Taken → Bool) (e : Taken) → test e ≡ true → count_by test (e ∷ []) ≡ 1
one test e q = count_one test e [] q

none : (test : Taken → Bool) (e : Taken) → test e ≡ false → count_by test (e ∷ []) ≡ 0
none test e q = rw (sum_by-cons (λ y. cond (test y) 1 0) e [], q) refl

module _ (n : ℕ) (e : Taken) (t t' : Tally) (room room' : Places) where
  pub one_notice : is_system e ≡ true → t'.notices ≡ t.notices + 1 → t'.contents ≡ t.contents → room' ≡ room → IsOneMore n e t t' room room'
  one_notice q more same room_is = record {
    notices = let c = one is_system e q in omega arith;
    contents = let c = none is_content e (notice_content e.mid.response e.body q) in omega arith;
    places = room_is ∙ sym (append-nil room) ∙ ap (λ ps. room ++ ps) (sym (notice_no_place n e q));
  }

  pub one_content : is_content e ≡ true → t'.notices ≡ t.notices → t'.contents ≡ t.contents + 1 → room' ≡ room → IsOneMore n e t t' room room'
  one_content q same more room_is = record {
    notices = let c = none is_system e (content_notice e.mid.response e.body q) in omega arith;
    contents = let c = one is_content e q in omega arith;
    places = room_is ∙ sym (append-nil room) ∙ ap (λ ps. room ++ ps) (sym (content_no_place n e q));
  }

  pub one_response : is_response e ≡ true → t'.notices ≡ t.notices → t'.contents ≡ t.contents → room' ≡ room ++ (n, e.mid.number) ∷ [] → IsOneMore n e t t' room room'
  one_response q same same' made = record {
    notices = let c = none is_system e (response_notice e.mid.response e.body q) in omega arith;
    contents = let c = none is_content e (response_content e.mid.response e.body q) in omega arith;
    places = made ∙ ap (λ ps. room ++ ps) (sym (response_place n e q));
  }

-- ---- a batch is gone over

module _ {A B : Type 0} (f : A → B) where
  pub more_taken : (xs : List A) (i : ℕ) (x : A) → i < length xs → x ≡ get_or xs i x → map f (take (i + 1) xs) ≡ map f (take i xs) ++ f x ∷ []
  more_taken [] i x l e = absurd (omega arith)
  more_taken (y ∷ ys) zero x l e = ap (λ (z : A). f z ∷ []) (sym e)
  more_taken (y ∷ ys) (suc i) x l e =
      let number : suc i + 1 ≡ suc (i + 1) = omega arith in
      ap (λ (n : ℕ). map f (take n (y ∷ ys))) number ∙ ap (λ zs. f y ∷ zs) (more_taken ys i x (omega arith) e)

  pub taken_length : (xs : List A) (i : ℕ) → i ≤ length xs → length (map f (take i xs)) ≡ i
  taken_length xs zero l = refl
  taken_length [] (suc i) l = absurd (omega arith)
  taken_length (x ∷ xs) (suc i) l = ap suc (taken_length xs i (omega arith))

pub below_up : {A : Type 0} (n m : ℕ) (xs : List (ℕ × A)) → n ≤ m → AreBelow n xs → AreBelow m xs
below_up n m [] le below = tt
below_up n m (x ∷ xs) le below = let first = below.0 in (omega arith, below_up n m xs le below.1)

pub record IsSurvey (into : Taken → Bool) (next : ℕ) (es : List Taken) (counts : Tally) (room : Places) : Type 0 where
  pub tally : IsTally (filter into es) counts
  pub places : room ≡ places_for into next es

module _ (into : Taken → Bool) where
  filter-last : (es : List Taken) (e : Taken) → filter into (es ++ e ∷ []) ≡ filter into es ++ (if into e then e ∷ [] else [])
  filter-last [] e = refl
  filter-last (f ∷ es) e = by (into f) (filter-last es e)
    where
      by : (b : Bool) → filter into (es ++ e ∷ []) ≡ filter into es ++ (if into e then e ∷ [] else [])
          → (if b then f ∷ filter into (es ++ e ∷ []) else filter into (es ++ e ∷ [])) ≡ (if b then f ∷ filter into es else filter into es) ++ (if into e then e ∷ [] else [])
      by true rest = ap (λ fs. f ∷ fs) rest
      by false rest = rest

  count-last : (test : Taken → Bool) (es : List Taken) (e : Taken) → count_by test (es ++ e ∷ []) ≡ count_by test es + count_by test (e ∷ [])
  count-last test [] e = omega arith
  count-last test (f ∷ es) e =
      let a = sum_by-cons (λ y. cond (test y) 1 0) f (es ++ e ∷ []) in
      let b = sum_by-cons (λ y. cond (test y) 1 0) f es in
      let c = count-last test es e in
      omega arith

  places-last : (next : ℕ) (es : List Taken) (e : Taken) → places_for into next (es ++ e ∷ []) ≡ places_for into next es ++ place_in into (next + length es) e
  places-last next [] e = let number : next ≡ next + 0 = omega arith in append-nil (place_in into next e) ∙ ap (λ (n : ℕ). place_in into n e) number
  places-last next (f ∷ es) e =
      let number : suc next + length es ≡ next + suc (length es) = omega arith in
      let rest : places_for into (suc next) (es ++ e ∷ []) ≡ places_for into (suc next) es ++ place_in into (next + suc (length es)) e = subst (λ (n : ℕ). places_for into (suc next) (es ++ e ∷ []) ≡ places_for into (suc next) es ++ place_in into n e) number (places-last (suc next) es e) in
      ap (λ ps. place_in into next f ++ ps) rest ∙ sym (append_assoc (place_in into next f) (places_for into (suc next) es) (place_in into (next + suc (length es)) e))

  pub survey_none : (next : ℕ) (t : Tally) → t.notices ≡ 0 → t.contents ≡ 0 → (room : Places) → room ≡ [] → IsSurvey into next [] t room
  survey_none next t a b room e = record { tally = record { notices = a; contents = b }; places = e }

  pub survey_in : (next : ℕ) (es more : List Taken) (e : Taken) (n : ℕ) (t t' : Tally) (room room' : Places) → more ≡ es ++ e ∷ [] → n ≡ next + length es → into e ≡ true → IsOneMore n e t t' room room' → IsSurvey into next es t room
      → IsSurvey into next more t' room'
  survey_in next es more e n t t' room room' m number q one so =
      let fs : filter into more ≡ filter into es ++ e ∷ [] = ap (filter into) m ∙ filter-last es e ∙ ap (λ (b : Bool). filter into es ++ (if b then e ∷ [] else [])) q in
      let ps : places_for into next more ≡ places_for into next es ++ place_for n e =
      ap (places_for into next) m ∙ places-last next es e ∙ ap (λ (b : Bool). places_for into next es ++ (if b then place_for (next + length es) e else [])) q ∙ ap (λ (k : ℕ). places_for into next es ++ place_for k e) (sym number) in
      record {
        tally = record {
          notices = one.notices ∙ ap (λ (k : ℕ). k + count_by is_system (e ∷ [])) so.tally.notices ∙ sym (count-last is_system (filter into es) e) ∙ ap (count_by is_system) (sym fs);
          contents = one.contents ∙ ap (λ (k : ℕ). k + count_by is_content (e ∷ [])) so.tally.contents ∙ sym (count-last is_content (filter into es) e) ∙ ap (count_by is_content) (sym fs);
        };
        places = one.places ∙ ap (λ rs. rs ++ place_for n e) so.places ∙ sym ps;
      }

  pub survey_out : (next : ℕ) (es more : List Taken) (e : Taken) (t : Tally) (room : Places) → more ≡ es ++ e ∷ [] → into e ≡ false → IsSurvey into next es t room → IsSurvey into next more t room
  survey_out next es more e t room m q so =
      let fs : filter into more ≡ filter into es = ap (filter into) m ∙ filter-last es e ∙ ap (λ (b : Bool). filter into es ++ (if b then e ∷ [] else [])) q ∙ append-nil (filter into es) in
      let ps : places_for into next more ≡ places_for into next es =
      ap (places_for into next) m ∙ places-last next es e ∙ ap (λ (b : Bool). places_for into next es ++ (if b then place_for (next + length es) e else [])) q ∙ append-nil (places_for into next es) in
      record {
        tally = record { notices = so.tally.notices ∙ ap (count_by is_system) (sym fs); contents = so.tally.contents ∙ ap (count_by is_content) (sym fs) };
        places = so.places ∙ sym ps;
      }

  -- each place is below the next number
  below_append : (n : ℕ) (ps qs : Places) → AreBelow n ps → AreBelow n qs → AreBelow n (ps ++ qs)
  below_append n [] qs one two = two
  below_append n (p ∷ ps) qs one two = (one.0, below_append n ps qs one.1 two)

  one_below : (n k : ℕ) (e : Taken) → k < n → AreBelow n (place_in into k e)
  one_below n k e less = by (into e) (is_response e)
    where
      by : (b c : Bool) → AreBelow n (if b then (if c then (k, e.mid.number) ∷ [] else []) else [])
      by true true = (omega arith, tt)
      by true false = tt
      by false c = tt

  pub places_below : (next n : ℕ) (es : List Taken) → next + length es ≤ n → AreBelow n (places_for into next es)
  places_below next n [] le = tt
  places_below next n (e ∷ es) le = below_append n (place_in into next e) (places_for into (suc next) es) (one_below n next e (omega arith)) (places_below (suc next) n es (omega arith))

  pub few : (test : Taken → Bool) (es : List Taken) → count_by test (filter into es) ≤ length es
  few test [] = omega arith
  few test (e ∷ es) = by (into e) (few test es)
    where
      by : (b : Bool) → count_by test (filter into es) ≤ length es → count_by test (if b then e ∷ filter into es else filter into es) ≤ suc (length es)
      by false rest = omega arith
      by true rest = let c = sum_by-cons (λ y. cond (test y) 1 0) e (filter into es) in at_most (test e) c rest where
        at_most : (b : Bool) → count_by test (e ∷ filter into es) ≡ cond b 1 0 + count_by test (filter into es) → count_by test (filter into es) ≤ length es → count_by test (e ∷ filter into es) ≤ suc (length es)
        at_most true c r = omega arith
        at_most false c r = omega arith

-- ---- one more at the end

pub added : (zs more : List Arrived) (z : Arrived) (late : List Taken) → late ≡ [] → more ≡ zs ++ z ∷ [] → without_numbers more ++ late ≡ (without_numbers zs ++ late) ++ z.1 ∷ []
added zs more z late none is =
    rw (none, is, map-append (λ (y : Arrived). y.1) zs (z ∷ []))
    (append-nil (without_numbers zs ++ z.1 ∷ []) ∙ ap (λ es. es ++ z.1 ∷ []) (sym (append-nil (without_numbers zs))))

pub class-last : (is_one : Taken → Bool) (zs : List Arrived) (z : Arrived) → is_one z.1 ≡ true → AllByRecursion (λ y. is_one y.1 ≡ true) zs → AllByRecursion (λ y. is_one y.1 ≡ true) (zs ++ z ∷ [])
class-last is_one [] z passes all = (passes, tt)
class-last is_one (y ∷ zs) z passes all = (all.0, class-last is_one zs z passes all.1)

pub queue-last : (is_one : Taken → Bool) (n : ℕ) (e : Taken) (zs more : List Arrived) → more ≡ zs ++ (n, e) ∷ [] → is_one e ≡ true → AreBelow n zs → IsQueue is_one zs → IsQueue is_one more
queue-last is_one n e zs more is passes below queue =
    subst (λ ys. IsQueue is_one ys) (sym is) (record { ordered = ordered-last zs (n, e) queue.ordered below; class = class-last is_one zs (n, e) passes queue.class })

pub below-added : (n : ℕ) (e : Taken) (zs more : List Arrived) → more ≡ zs ++ (n, e) ∷ [] → AreBelow n zs → AreBelow (n + 1) more
below-added n e zs more is below = subst (λ ys. AreBelow (n + 1) ys) (sym is) (below-last n zs e below)

pub up_to_more : (n : ℕ) (l : Line) → IsUpTo n l → IsUpTo (n + 1) l
up_to_more n l up_to = record { notices = below-more n _ up_to.notices; responses = below-more n _ up_to.responses; contents = below-more n _ up_to.contents }

module _ (l : Line) (n : ℕ) (e : Taken) (up_to : IsUpTo n l) where
  abbrev notices : List Arrived
  notices = all_arrived l.notices.items

  abbrev responses : List Arrived
  responses = l.responses.here

  abbrev contents : List Arrived
  contents = all_arrived l.contents.items

  second : woven notices (woven responses contents ++ (n, e) ∷ []) ≡ numbered l ++ (n, e) ∷ []
  second = woven-second notices (woven responses contents) (n, e) up_to.notices

  pub notice_in : (more : List Arrived) → more ≡ notices ++ (n, e) ∷ [] → woven more (woven responses contents) ≡ numbered l ++ (n, e) ∷ []
  notice_in more is =
      ap (λ ns. woven ns (woven responses contents)) is
      ∙ woven-first notices (woven responses contents) (n, e) up_to.notices (all-woven (λ x. suc x.0 ≤ n) responses contents up_to.responses up_to.contents)

  pub response_in : (more : List Arrived) → more ≡ responses ++ (n, e) ∷ [] → woven notices (woven more contents) ≡ numbered l ++ (n, e) ∷ []
  response_in more is =
      ap (λ rs. woven notices (woven rs contents)) is ∙ ap (woven notices) (woven-first responses contents (n, e) up_to.responses up_to.contents) ∙ second

  pub content_in : (more : List Arrived) → more ≡ contents ++ (n, e) ∷ [] → woven notices (woven responses more) ≡ numbered l ++ (n, e) ∷ []
  content_in more is = ap (λ cs. woven notices (woven responses cs)) is ∙ ap (woven notices) (woven-second responses contents (n, e) up_to.responses) ∙ second

-- ---- the same envelopes

pub same_line : (old new : Line) → HasSameItems old new → in_line new ≡ in_line old
same_line old new same = rw (same.notices, same.responses, same.contents, same.late) refl

pub same_sorted : (old new : Line) → HasSameItems old new → IsSorted old → IsSorted new
same_sorted old new same sorted = record {
  notices = subst (λ xs. IsQueue is_system (all_arrived xs)) (sym same.notices) sorted.notices;
  responses = subst (λ zs. IsQueue is_response zs) (sym same.responses) sorted.responses;
  contents = subst (λ xs. IsQueue is_content (all_arrived xs)) (sym same.contents) sorted.contents;
}

pub same_up_to : (n : ℕ) (old new : Line) → HasSameItems old new → IsUpTo n old → IsUpTo n new
same_up_to n old new same up_to = record {
  notices = subst (λ xs. AreBelow n (all_arrived xs)) (sym same.notices) up_to.notices;
  responses = subst (λ zs. AreBelow n zs) (sym same.responses) up_to.responses;
  contents = subst (λ xs. AreBelow n (all_arrived xs)) (sym same.contents) up_to.contents;
}

pub same_kept : (n : ℕ) (urgent urgent' normal normal' : Line) → HasSameItems urgent urgent' → HasSameItems normal normal' → IsKept n urgent normal → IsKept n urgent' normal'
same_kept n urgent urgent' normal normal' one two kept = record {
  urgent = same_sorted urgent urgent' one kept.urgent;
  normal = same_sorted normal normal' two kept.normal;
  urgent_up_to = same_up_to n urgent urgent' one kept.urgent_up_to;
  normal_up_to = same_up_to n normal normal' two kept.normal_up_to;
}

-- ---- how many are in both lists

both_parts : (es : List Taken) → length (filter is_urgent es) + length (filter is_normal es) ≡ length es
both_parts [] = refl
both_parts (e ∷ es) = by (is_urgent e) (both_parts es)
  where
    by : (b : Bool) → length (filter is_urgent es) + length (filter is_normal es) ≡ length es
        → length (if b then e ∷ filter is_urgent es else filter is_urgent es) + length (if not b then e ∷ filter is_normal es else filter is_normal es) ≡ suc (length es)
    by true rest = omega (arith, rest)
    by false rest = omega (arith, rest)

pub counted : (xs ys xs' ys' es : List Taken) → xs' ≡ xs ++ filter is_urgent es → ys' ≡ ys ++ filter is_normal es → length xs' + length ys' ≡ length xs + length ys + length es
counted xs ys xs' ys' es one two =
    let parts = both_parts es in
    let first : length xs' ≡ length xs + length (filter is_urgent es) = ap length one ∙ length-append xs (filter is_urgent es) in
    let second : length ys' ≡ length ys + length (filter is_normal es) = ap length two ∙ length-append ys (filter is_normal es) in
    omega (arith, parts, first, second)
