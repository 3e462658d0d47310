-- Delayed messages in their lines, seen as one list.
use Rattle.std.proofs.Common.{◌≡◌, ℕ, Bool, true, false, cond, List, [], ◌∷◌, Option, Some, None, refl, sym, ap, ◌∙◌, subst, arith}
use Rattle.std.specs.Prelude.{nat_lt, nat_le, Result, Ok, Err, OnOk, slice_get, is_some}
use Rattle.std.specs.Option.{option_map, IfNone}
use Rattle.std.specs.List.{AllByRecursion}
use Rattle.std.proofs.lemmas.Bool.Decides.{nat_tests}
use Rattle.caf_types.specs.declared.notice.Priority.{Priority}
use Rattle.caf_message.specs.Lists.{pick}
use Rattle.caf_message.specs.declared.message.Message.{Message}
use Rattle.caf_response.specs.declared.delays.Delayed.{Delayed}
use Rattle.caf_response.specs.Lines.{key_order, put_in, comes_before, has_key, in_lines, first_within, AreFiled}
use Rattle.caf_response.specs.Delays.{PlainDelay, plain_delay, plain_delays, due_key, is_due_before, delayed, next_delay, given_out, as_parcel}

before-due : (d e : Delayed) → comes_before due_key d e ≡ is_due_before (plain_delay d) (plain_delay e)
before-due d e = due_lt d.due e.due where
  due_lt : (m n : ℕ) → Rattle.std.specs.Ordering.is_lt (key_order (m, 0) (n, 0)) ≡ nat_lt m n
  due_lt m n = grind (arith, nat_tests)

pub plain-put : (ds : List Delayed) (d : Delayed) → plain_delays (put_in (comes_before due_key) ds d) ≡ put_in is_due_before (plain_delays ds) (plain_delay d)
plain-put [] d = refl
plain-put (e ∷ ds) d = go (comes_before due_key d e) (sym (before-due d e)) (plain-put ds d) where
  go : (b : Bool) → is_due_before (plain_delay d) (plain_delay e) ≡ b → plain_delays (put_in (comes_before due_key) ds d) ≡ put_in is_due_before (plain_delays ds) (plain_delay d)
      → plain_delays (cond b (d ∷ e ∷ ds) (e ∷ put_in (comes_before due_key) ds d)) ≡ put_in is_due_before (plain_delays (e ∷ ds)) (plain_delay d)
  go true q rest = rw q refl
  go false q rest = rw q (ap (λ xs. plain_delay e ∷ xs) rest)

pub added-plain : (old new : List Delayed) (d : Delayed) (seen : List PlainDelay) → plain_delays old ≡ seen → new ≡ put_in (comes_before due_key) old d
    → plain_delays new ≡ delayed seen d.due d.to d.priority d.message.content
added-plain old new d seen is e = ap plain_delays e ∙ plain-put old d ∙ ap (λ ds. put_in is_due_before ds (plain_delay d)) is

both : Delayed × List Delayed → PlainDelay × List PlainDelay
both p = (plain_delay p.0, plain_delays p.1)

within-plain : (now : ℕ) (ds : List Delayed) → option_map both (first_within due_key now ds) ≡ next_delay (plain_delays ds) now
unfolding both
within-plain now [] = refl
within-plain now (d ∷ ds) = go (nat_le d.due now) where
  go : (b : Bool) → option_map both (cond b (Some (d, ds)) None) ≡ cond b (Some (plain_delay d, plain_delays ds)) None
  go true = refl
  go false = refl

-- what is given out
pub given-plain : (d : Delayed) (old new : List Delayed) (now : ℕ) → Some (d, new) ≡ first_within due_key now old
    → (seen : List PlainDelay) → plain_delays old ≡ seen
    → Some (given_out (d.to, d.priority, d.message) (plain_delays new)) ≡ option_map as_parcel (next_delay seen now)
unfolding both
given-plain d old new now e seen is =
    ap (λ x. option_map as_parcel (option_map both x)) e ∙ ap (option_map as_parcel) (within-plain now old) ∙ ap (λ ds. option_map as_parcel (next_delay ds now)) is

pub none-plain : (old : List Delayed) (now : ℕ) → None ≡ first_within due_key now old → (seen : List PlainDelay) → plain_delays old ≡ seen → None ≡ next_delay seen now
none-plain old now e seen is = ap (option_map both) e ∙ within-plain now old ∙ ap (λ ds. next_delay ds now) is

pub given-some : (d : Delayed) (old new : List Delayed) (now : ℕ) → Some (d, new) ≡ first_within due_key now old → (seen : List PlainDelay) → plain_delays old ≡ seen → true ≡ is_some (next_delay seen now)
given-some d old new now e seen is = ap (λ x. is_some (option_map both x)) e ∙ ap is_some (within-plain now old) ∙ ap (λ ds. is_some (next_delay ds now)) is
