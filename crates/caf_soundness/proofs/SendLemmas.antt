-- One envelope more keeps all as it is to be.
use Rattle.std.proofs.Common.{◌≡◌, ℕ, ◌==◌, Bool, true, false, List, [], ◌∷◌, Option, Some, None, if◌then◌else◌, refl, sym, ap, subst, ◌∙◌}
use Rattle.std.specs.List.{AllByRecursion}
use Rattle.caf_types.specs.declared.notice.Mid.{Mid}
use Rattle.caf_types.specs.declared.notice.Notice.{Notice}
use Rattle.caf_types.specs.declared.notice.Priority.{Priority}
use Rattle.caf_types.specs.declared.sec.Sec.{Sec}
use Rattle.caf_message.specs.Content.{ids_in}
use Rattle.caf_message.specs.Lists.{pick}
use Rattle.caf_message.specs.declared.envelope.Plain.{Plain}
use Rattle.caf_message.specs.declared.envelope.Plain.TheVariants as «plain»
use Rattle.caf_mailbox.proofs.NextLemmas.{all_append}
use Rattle.caf_response.specs.Holds.{is_of, take_hold}
use Rattle.caf_response.specs.Promised.{Promised}
use Rattle.caf_signature.specs.declared.interface.Signature.{Signature}
use Rattle.caf_actor.specs.Rules.{Rules}
use Rattle.caf_actor.specs.Snapshot.{Handled, with_snapshot}
use Rattle.caf_actor.specs.Sending.{post, posting, tell, tell_many, notify, reply, settle_hold}
use Rattle.caf_record.proofs.ListLemmas.{same_of, and_left, and_right}
use Rattle.caf_soundness.specs.Typed.{IsExpected}
use Rattle.caf_soundness.proofs.LogLemmas.{Log, Declares}
use Rattle.caf_soundness.proofs.ComesLemmas.{Accepts, BodyComes, Arrives, Good}

-- ---- lists

-- the first that passes does pass
pub picked_passes : {A : Type 0} (test : A → Bool) (xs : List A) (p : A × List A) → pick test xs ≡ Some p → test p.0 ≡ true
picked_passes test [] p q = cc
picked_passes {A} test (x ∷ xs) p q = go (picked_passes test xs) (test x) refl (pick test xs) refl
  where
    go : ((r : A × List A) → pick test xs ≡ Some r → test r.0 ≡ true) → (b : Bool) → test x ≡ b → (o : Option (A × List A)) → pick test xs ≡ o → test p.0 ≡ true
    go later true e o r = let here : ◌≡◌ {A = Option (A × List A)} (Some (x, xs)) (Some p) = rw e at q in let is : (x, xs) ≡ p = cc in ap (λ (t : A × List A). test t.0) (sym is) ∙ e
    go later false e (Some o) r =
        let here : ◌≡◌ {A = Option (A × List A)} (Some (o.0, x ∷ o.1)) (Some p) = rw (e, r) at q in
        let is : (o.0, x ∷ o.1) ≡ p = cc in
        ap (λ (t : A × List A). test t.0) (sym is) ∙ later o r
    go later false e None r = let here : ◌≡◌ {A = Option (A × List A)} None (Some p) = rw (e, r) at q in cc

module _ (face : ℕ → List Signature) {S : Type 0} (rules : Rules S) (T : Log → ℕ → S → Type 0) (first : Log) (place : ℕ) where
  abbrev pub Ok : Log → Handled S → Type 0
  Ok l t = Good face rules T first place l t

  pub on_if : (l : Log) (b : Bool) (t u : Handled S) → Ok l t → Ok l u → Ok l (if b then t else u)
  on_if l true t u h k = h
  on_if l false t u h k = k

  -- ---- one envelope

  pub post_good : (l : Log) (t : Handled S) (to : ℕ) (mid : Mid) (priority : Priority) (body : Plain) → BodyComes face l to mid body → Ok l t → Ok l (post t to mid priority body)
  post_good l t to mid priority body c h = record {
    grown = h.grown;
    others = h.others;
    at_is = h.at_is;
    typed = h.typed;
    numbered = h.numbered;
    awaits = h.awaits;
    waits = h.waits;
    cached = h.cached;
    delayed = h.delayed;
    posted = all_append (Arrives face l) t.posts (posting t.snapshot to mid priority body ∷ []) h.posted (c, tt);
  }

  pub tell_good : (l : Log) (t : Handled S) (to : ℕ) (priority : Priority) (words : List ℕ) → Accepts face to words → Ok l t → Ok l (tell t to priority words)
  tell_good l t to priority words c h = post_good l t to _ priority («plain».Content words) (c, λ e. absurd cc) h

  pub tell_many_good : (l : Log) (t : Handled S) (places : List ℕ) (priority : Priority) (words : List ℕ) → AllByRecursion (λ to. Accepts face to words) places → Ok l t → Ok l (tell_many t places priority words)
  tell_many_good l t [] priority words c h = h
  tell_many_good l t (to ∷ places) priority words c h = tell_many_good l (tell t to priority words) places priority words c.1 (tell_good l t to priority words c.0 h)

  pub notify_good : (l : Log) (t : Handled S) (to : ℕ) (what : Notice) → Ok l t → Ok l (notify t to what)
  notify_good l t to what h = post_good l t to _ _ («plain».System what) tt h

  pub error_good : (l : Log) (t : Handled S) (p : Promised) (why : Sec) → IsExpected why → Ok l t → Ok l (reply t p («plain».Failure why))
  error_good l t p why is h = post_good l t _ _ _ («plain».Failure why) is h

  pub value_good : (l : Log) (t : Handled S) (p : Promised) (words : List ℕ) → Declares l p.mid.requester p.mid.number (ids_in words) → Ok l t → Ok l (reply t p («plain».Content words))
  value_good l t p words d h = post_good l t _ _ _ («plain».Content words) d h

  -- ---- holds

  found_hold : (holds : List Promised) (requester number : ℕ) (found : Promised × List Promised) → take_hold holds requester number ≡ Some found
      → (found.0.mid.requester ≡ requester) × (found.0.mid.number ≡ number)
  found_hold holds requester number found e =
      let passes = picked_passes (is_of requester number) holds found e in (
        same_of found.0.mid.requester requester (and_left (found.0.mid.requester == requester) (found.0.mid.number == number) passes),
        same_of found.0.mid.number number (and_right (found.0.mid.requester == requester) (found.0.mid.number == number) passes),
      )

  pub deliver_good : (l : Log) (t : Handled S) (requester number : ℕ) (words : List ℕ) → Declares l requester number (ids_in words) → Ok l t
      → (found : Option (Promised × List Promised)) → take_hold t.snapshot.holds requester number ≡ found → Ok l (settle_hold t found («plain».Content words))
  deliver_good l t requester number words d h None e = h
  deliver_good l t requester number words d h (Some found) e =
      let of = found_hold t.snapshot.holds requester number found e in
      value_good l (with_snapshot t (record t.snapshot { holds = found.1 })) found.0 words
      (subst (λ (r : ℕ). Declares l r found.0.mid.number (ids_in words)) (sym of.0) (subst (λ (n : ℕ). Declares l requester n (ids_in words)) (sym of.1) d)) h

  pub break_good : (l : Log) (t : Handled S) (why : Sec) → IsExpected why → Ok l t → (found : Option (Promised × List Promised)) → Ok l (settle_hold t found («plain».Failure why))
  break_good l t why is h None = h
  break_good l t why is h (Some found) = error_good l (with_snapshot t (record t.snapshot { holds = found.1 })) found.0 why is h
