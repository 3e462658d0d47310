-- Where each held question has a hold, all that can be answered are answered, each by a reply of its own.
use Rattle.std.proofs.Common.{◌≡◌, ℕ, ◌+◌, ◌<◌, ◌==◌, ◌&&◌, Bool, true, false, List, [], ◌∷◌, ◌++◌, map, count_by, Option, Some, None, inl, inr, refl, sym, subst, ap, ◌∙◌, arith}
use Rattle.std.specs.Prelude.{Contains}
use Rattle.std.specs.List.{AllByRecursion}
use Rattle.std.proofs.lemmas.List.Elements.{Contains-append_left, Contains-push}
use Rattle.caf_index.proofs.ContainsLemmas.{contains-none, contains-here, contains-later, contains-cases}
use Rattle.caf_mailbox.proofs.NextLemmas.{all_append}
use Rattle.caf_message.specs.Lists.{pick}
use Rattle.caf_message.specs.declared.envelope.Plain.TheVariants as «plain»
use Rattle.caf_record.proofs.ListLemmas.{and_left, and_right}
use Rattle.caf_response.specs.Holds.{is_of, take_hold}
use Rattle.caf_response.specs.Promised.{Promised}
use Rattle.caf_carriers.proofs.CountLemmas.{one, count-cons, self_same, same_number}
use Rattle.caf_actor.specs.PlainOutput.{PlainOutput, Deliver}
use Rattle.caf_kinds.specs.declared.questions.HeldQuestion.{HeldQuestion}
use Rattle.caf_kinds.specs.declared.questions.Question.{Question}
use Rattle.caf_steady.specs.Outline.{Outlined, Bare, with_outline, reply, settle_hold, send_output, send_outputs}

-- ---- the first that passes

module _ {A : Type 0} where
  pub pick_some : (test : A → Bool) (xs : List A) → 0 < count_by test xs → (r : A × List A) × (pick test xs ≡ Some r)
  pick_some test [] some = absurd (omega (arith, some))
  pick_some test (x ∷ xs) some = go (test x) refl (pick_some test xs)
    where
      behind : test x ≡ false → (r : A × List A) × (pick test xs ≡ Some r) → (r : A × List A) × (pick test (x ∷ xs) ≡ Some r)
      behind q rest = ((rest.0.0, x ∷ rest.0.1), rw (q, rest.1) refl)

      go : (b : Bool) → test x ≡ b → (0 < count_by test xs → (r : A × List A) × (pick test xs ≡ Some r)) → (r : A × List A) × (pick test (x ∷ xs) ≡ Some r)
      go true q later = ((x, xs), rw q refl)
      go false q later = let all = count-cons test x xs in let none : one (test x) ≡ 0 = ap one q in behind q (later (omega (arith, some, all, none)))

  pub record Picked (first : A → Bool) (xs : List A) (r : A × List A) : Type 0 where
    pub passes : first r.0 ≡ true
    pub counts : (f : A → Bool) → count_by f xs ≡ one (f r.0) + count_by f r.1

  pub picked : (first : A → Bool) (xs : List A) (r : A × List A) → pick first xs ≡ Some r → Picked first xs r
  picked first [] r q = cc
  picked first (x ∷ xs) r q = go (first x) refl (pick first xs) refl q (picked first xs)
    where
      go : (b : Bool) → first x ≡ b → (o : Option (A × List A)) → pick first xs ≡ o → pick first (x ∷ xs) ≡ Some r → ((s : A × List A) → pick first xs ≡ Some s → Picked first xs s) → Picked first (x ∷ xs) r
      go true e o f q later =
          let both : ◌≡◌ {A = Option (A × List A)} (Some (x, xs)) (Some r) = rw e at q in
          let is : (x, xs) ≡ r = cc in
          subst (Picked first (x ∷ xs)) is (record { passes = e; counts = λ g. count-cons g x xs })
      go false e None f q later = let both : ◌≡◌ {A = Option (A × List A)} None (Some r) = rw (e, f) at q in cc
      go false e (Some s) f q later =
          let both : ◌≡◌ {A = Option (A × List A)} (Some (s.0, x ∷ s.1)) (Some r) = rw (e, f) at q in
          let is : (s.0, x ∷ s.1) ≡ r = cc in
          let rest = later s f in
          subst (Picked first (x ∷ xs)) is (record {
            passes = rest.passes;
            counts = λ g. (let before = count-cons g x xs in let after = count-cons g x s.1 in let less = rest.counts g in omega (arith, before, after, less));
          })

-- ---- replies

-- the held question has that number
abbrev pub has_asked : ℕ → HeldQuestion → Bool
has_asked n h = h.number == n

-- the response to place 0's request of that number
pub record IsReplyTo (number : ℕ) (words : List ℕ) (b : Bare) : Type 0 where
  pub to : b.to ≡ 0
  pub number_is : b.mid.number ≡ number
  pub response : b.mid.response ≡ true
  pub body : b.body ≡ «plain».Content words

abbrev pub delivery : (Question → List ℕ) → HeldQuestion → PlainOutput
delivery answer h = Deliver h.requester h.number (answer h.question)

module _ {S : Type 0} (answer : Question → List ℕ) (P : Bare → Type 0) where
  pub record Delivers (o : Outlined S) (hs others : List HeldQuestion) (end : Outlined S) : Type 0 where
    pub holds : (n : ℕ) → count_by (is_of 0 n) end.outline.holds ≡ count_by (has_asked n) others
    pub grows : (b : Bare) → Contains o.sent b → Contains end.sent b
    pub replied : (h : HeldQuestion) → Contains hs h → (b : Bare) × Contains end.sent b × IsReplyTo h.number (answer h.question) b
    pub all : ((h : HeldQuestion) (b : Bare) → Contains hs h → IsReplyTo h.number (answer h.question) b → P b) → AllByRecursion P o.sent → AllByRecursion P end.sent

  pub deliver_all : (o : Outlined S) (hs others : List HeldQuestion) → AllByRecursion (λ h. h.requester ≡ 0) hs
      → ((n : ℕ) → count_by (is_of 0 n) o.outline.holds ≡ count_by (has_asked n) hs + count_by (has_asked n) others) → Delivers o hs others (send_outputs o (map (delivery answer) hs))
  deliver_all o [] others zeros match = record {
    holds = λ n. (let m = match n in omega (arith, m));
    grows = λ b has. has;
    replied = λ h has. absurd (contains-none h has);
    all = λ each before. before;
  }
  deliver_all o (h ∷ hs) others zeros match = go (pick_some (is_of 0 h.number) o.outline.holds some) (deliver_all (send_output o (delivery answer h)) hs others zeros.1)
    where
      some : 0 < count_by (is_of 0 h.number) o.outline.holds
      some =
          let m = match h.number in
          let c = count-cons (has_asked h.number) h hs in
          let own : one (has_asked h.number h) ≡ 1 = ap one (self_same h.number) in
          omega (arith, m, c, own)

      go : (found : (r : Promised × List Promised) × (take_hold o.outline.holds 0 h.number ≡ Some r))
          → (((n : ℕ) → count_by (is_of 0 n) (send_output o (delivery answer h)).outline.holds ≡ count_by (has_asked n) hs + count_by (has_asked n) others) → Delivers (send_output o (delivery answer h)) hs others (send_outputs (send_output o (delivery answer h)) (map (delivery answer) hs)))
          → Delivers o (h ∷ hs) others (send_outputs o (map (delivery answer) (h ∷ hs)))
      go found later =
          let words = answer h.question in
          let r = found.0 in
          let is = picked (is_of 0 h.number) o.outline.holds r found.1 in
          let zero_is : r.0.mid.requester ≡ 0 = same_number r.0.mid.requester 0 (and_left (r.0.mid.requester == 0) (r.0.mid.number == h.number) is.passes) in
          let number_is : r.0.mid.number ≡ h.number = same_number r.0.mid.number h.number (and_right (r.0.mid.requester == 0) (r.0.mid.number == h.number) is.passes) in
          let now : Outlined S = reply (with_outline o (record o.outline { holds = r.1 })) r.0 («plain».Content words) in
          let same : send_output o (delivery answer h) ≡ now = ap (λ (q : ℕ). settle_hold o (take_hold o.outline.holds q h.number) («plain».Content words)) zeros.0 ∙ ap (λ x. settle_hold o x («plain».Content words)) found.1 in
          let bare : Bare = record { sender = o.outline.place; to = r.0.mid.requester; mid = record { requester = r.0.mid.requester; number = r.0.mid.number; response = true }; priority = r.0.priority; body = «plain».Content words } in
          let sent : (send_output o (delivery answer h)).sent ≡ o.sent ++ bare ∷ [] = ap (λ (x : Outlined S). x.sent) same in
          let reply_is : IsReplyTo h.number words bare = record { to = zero_is; number_is = number_is; response = refl; body = refl } in
          let left = λ (n : ℕ). (
          let m = match n in
          let c = count-cons (has_asked n) h hs in
          let p = is.counts (is_of 0 n) in
          let own : is_of 0 n r.0 ≡ has_asked n h = ap (λ (x : ℕ). (x == 0) && (r.0.mid.number == n)) zero_is ∙ ap (λ (x : ℕ). x == n) number_is in
          let ones = ap one own in
          let held = ap (λ (x : Outlined S). count_by (is_of 0 n) x.outline.holds) same in
          let e : count_by (is_of 0 n) (send_output o (delivery answer h)).outline.holds ≡ count_by (has_asked n) hs + count_by (has_asked n) others = omega (arith, m, c, p, ones, held) in e) in
          let rest = later left in
          let in_it : Contains (send_output o (delivery answer h)).sent bare = subst (λ (bs : List Bare). Contains bs bare) (sym sent) (Contains-push o.sent bare) in
          record {
            holds = rest.holds;
            grows = λ b has. rest.grows b (subst (λ (bs : List Bare). Contains bs b) (sym sent) (Contains-append_left o.sent (bare ∷ []) b has));
            replied = λ x has. elim (contains-cases h x hs has) [
              | inl here ↦ subst (λ (y : HeldQuestion). (b : Bare) × Contains (send_outputs o (map (delivery answer) (h ∷ hs))).sent b × IsReplyTo y.number (answer y.question) b) here (bare, rest.grows bare in_it, reply_is)
              | inr more ↦ rest.replied x more
            ];
            all = λ each before. rest.all (λ x b has replies. each x b (later_has x has) replies) (subst (AllByRecursion P) (sym sent) (all_append P o.sent (bare ∷ []) before (each h bare first_has reply_is, tt)));
          }
        where
          later_has : (x : HeldQuestion) → Contains hs x → Contains (h ∷ hs) x
          later_has x has = contains-later h x hs has

          first_has : Contains (h ∷ hs) h
          first_has = contains-here h hs
