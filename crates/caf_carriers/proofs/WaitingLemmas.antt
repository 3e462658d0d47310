-- What issuing and resolving do to the waiting requests.
use Rattle.std.proofs.Common.{◌≡◌, ℕ, ◌+◌, ap, subst, ◌==◌, Bool, true, false, List, [], ◌∷◌, count_by, Option, Some, None, refl, arith}
use Rattle.caf_types.specs.declared.shape.TypeId.{TypeId}
use Rattle.caf_message.specs.Lists.{pick}
use Rattle.caf_response.specs.declared.pending.Mode.{Mode}
use Rattle.caf_response.specs.declared.pending.Mode.TheVariants.{Awaited, Multiplexed}
use Rattle.caf_response.specs.declared.pending.Waiting.{Waiting}
use Rattle.caf_response.specs.Pending.{WaitingRequests, issued, issued_within, has_number, from_awaited, resolved, without_due, resolved_where, due_by, expired, waiting_count}
use Rattle.caf_response.proofs.NumberLemmas.{picked}
use Rattle.caf_carriers.proofs.CountLemmas.{one, count-cons, count-last, same_number}

-- ---- issuing

pub record PutIn (n : ℕ) (r more : WaitingRequests) : Type 0 where
  pub count : waiting_count more n ≡ waiting_count r n + one (r.next == n)
  pub next : more.next ≡ r.next + 1

pub put_issued : (n : ℕ) (r : WaitingRequests) (mode : Mode) (tag : ℕ) (expected : List TypeId) → PutIn n r (issued r mode tag expected)
put_issued n r Awaited tag expected =
    let w : Waiting = record { number = r.next; tag = tag; expected = expected } in
    let count = count-cons (has_number n) w r.awaited in
    record { count = omega arith; next = refl }
put_issued n r Multiplexed tag expected =
    let w : Waiting = record { number = r.next; tag = tag; expected = expected } in
    let count = count-last (has_number n) r.multiplexed w in
    record { count = omega arith; next = refl }

pub put_within : (n : ℕ) (r : WaitingRequests) (mode : Mode) (tag : ℕ) (expected : List TypeId) (due : ℕ) → PutIn n r (issued_within r mode tag expected due)
put_within n r mode tag expected due = let put = put_issued n r mode tag expected in record { count = put.count; next = put.next }

-- ---- resolving

-- what is resolved no longer waits, and no number is given
pub record TookOut (n : ℕ) (r : WaitingRequests) (found : Waiting × WaitingRequests) : Type 0 where
  pub count : waiting_count r n ≡ one (has_number n found.0) + waiting_count found.1 n
  pub next : found.1.next ≡ r.next

-- and it is the one of that number
pub record TookNumber (n number : ℕ) (r : WaitingRequests) (found : Waiting × WaitingRequests) : Type 0 where
  pub out : TookOut n r found
  pub number_is : found.0.number ≡ number
  pub due_is : found.1.due ≡ without_due number r.due

pub took_number : (n : ℕ) (r : WaitingRequests) (number : ℕ) (found : Waiting × WaitingRequests) → resolved r number ≡ Some found → TookNumber n number r found
took_number n r number found q = go (pick (has_number number) r.multiplexed) refl
  where
    stack : (p : Option (Waiting × List Waiting)) → pick (has_number number) r.awaited ≡ p → from_awaited r number p ≡ Some found → TookNumber n number r found
    stack None f e = cc
    stack (Some p) f e =
        let is : (p.0, record r { awaited = p.1; due = without_due number r.due }) ≡ found = cc in
        let both = picked (has_number number) (has_number n) r.awaited p f in
        let count = both.1 in
        let here : TookNumber n number r (p.0, record r { awaited = p.1; due = without_due number r.due }) = record {
          out = record { count = omega arith; next = refl };
          number_is = same_number p.0.number number both.0;
          due_is = refl;
        } in
        subst (λ (u : Waiting × WaitingRequests). TookNumber n number r u) is here

    go : (p : Option (Waiting × List Waiting)) → pick (has_number number) r.multiplexed ≡ p → TookNumber n number r found
    go None f = stack (pick (has_number number) r.awaited) refl (rw f at q)
    go (Some p) f =
        let same : ◌≡◌ {A = Option (Waiting × WaitingRequests)} (Some (p.0, record r { multiplexed = p.1; due = without_due number r.due })) (Some found) = rw f at q in
        let is : (p.0, record r { multiplexed = p.1; due = without_due number r.due }) ≡ found = cc in
        let both = picked (has_number number) (has_number n) r.multiplexed p f in
        let count = both.1 in
        let here : TookNumber n number r (p.0, record r { multiplexed = p.1; due = without_due number r.due }) = record {
          out = record { count = omega arith; next = refl };
          number_is = same_number p.0.number number both.0;
          due_is = refl;
        } in
        subst (λ (u : Waiting × WaitingRequests). TookNumber n number r u) is here

pub took_expired : (n : ℕ) (r : WaitingRequests) (now : ℕ) (found : Waiting × WaitingRequests) → expired r now ≡ Some found → TookOut n r found
took_expired n r now found q = go (due_by now r.due) q
  where
    go : (number : Option ℕ) → resolved_where r number ≡ Some found → TookOut n r found
    go None e = cc
    go (Some number) e = (took_number n r number found e).out

-- what isn't found doesn't wait
pub none_waits : (r : WaitingRequests) (number : ℕ) → resolved r number ≡ None → waiting_count r number ≡ 0
none_waits r number q = go (pick (has_number number) r.multiplexed) refl
  where
    none_picked : (ws : List Waiting) → pick (has_number number) ws ≡ None → count_by (has_number number) ws ≡ 0
    none_picked [] e = refl
    none_picked (w ∷ ws) e = each (has_number number w) refl (pick (has_number number) ws) refl (none_picked ws)
      where
        each : (b : Bool) → has_number number w ≡ b → (o : Option (Waiting × List Waiting)) → pick (has_number number) ws ≡ o → (pick (has_number number) ws ≡ None → count_by (has_number number) ws ≡ 0)
            → count_by (has_number number) (w ∷ ws) ≡ 0
        each true f o g later = let no : ◌≡◌ {A = Option (Waiting × List Waiting)} (Some (w, ws)) None = rw f at e in cc
        each false f None g later =
            let rest = later g in
            let all = count-cons (has_number number) w ws in
            let here : one (has_number number w) ≡ 0 = ap one f in
            omega arith
        each false f (Some p) g later = let no : ◌≡◌ {A = Option (Waiting × List Waiting)} (Some (p.0, w ∷ p.1)) None = rw (f, g) at e in cc

    stack : (p : Option (Waiting × List Waiting)) → pick (has_number number) r.awaited ≡ p → from_awaited r number p ≡ None → count_by (has_number number) r.awaited ≡ 0
    stack None f e = none_picked r.awaited f
    stack (Some p) f e = cc

    go : (p : Option (Waiting × List Waiting)) → pick (has_number number) r.multiplexed ≡ p → waiting_count r number ≡ 0
    go None f =
        let multiplexed = none_picked r.multiplexed f in
        let awaited = stack (pick (has_number number) r.awaited) refl (rw f at q) in
        omega arith
    go (Some p) f = let no : ◌≡◌ {A = Option (Waiting × WaitingRequests)} (Some (p.0, record r { multiplexed = p.1; due = without_due number r.due })) None = rw f at q in cc
