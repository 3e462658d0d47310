-- The actors of the bank keep the laws of behaviours.
use Rattle.std.specs.Prelude.{◌≡◌, ℕ, ◌≤◌, ◌++◌, Bool, true, false, List, [], ◌∷◌, map, Contains, Option, Some, None, refl}
use Rattle.std.proofs.Common.{subst, arith}
use Rattle.std.specs.List.{AllByRecursion}
use Rattle.caf_types.specs.ShapeTree.{ShapeTree}
use Rattle.caf_types.specs.Table.{shape_at}
use Rattle.caf_words.specs.Datum.{no_data, more, a_unit, an_unsigned}
use Rattle.caf_message.specs.Content.{ids_in}
use Rattle.caf_message.specs.Entries.{entry_shape}
use Rattle.caf_signature.specs.declared.interface.Signature.{Signature}
use Rattle.caf_actor.specs.declared.origin.Origin.{Origin}
use Rattle.caf_actor.specs.PlainInput.{PlainInput, Start, Stop, Content}
use Rattle.caf_actor.specs.PlainOutput.{PlainOutput}
use Rattle.caf_actor.specs.PlainReaction.{PlainAnswer}
use Rattle.caf_actor.specs.PlainReaction as answer
use Rattle.caf_actor.specs.Rules.{OutputFits, AnswerFits, output_targets, answer_targets, outputs_count, IsExit, IsNoTick, is_input, takes_ids, declared_for, StaysValid, StaysSameActor, SkipsInputs, FitsItsTable, FitsItsEntries, AnswersRequests, AnswersAsDeclared, DelegatesAsTold, SendsToPeers, SendsFew, TicksAtTicks, StopsWithExits}
use Rattle.caf_kinds.specs.Asking.{Types, type_ids}
use Rattle.example_bank.specs.Types.{bank_entries, signature_of, depositing, withdrawing, waiting_for, balance, number_content}
use Rattle.example_bank.specs.Entries.{Grows, entries_grow, table_grows, fits, number_fits}
use Rattle.example_bank.specs.Account.{decide}
use Rattle.example_bank.specs.Member.{released, replied, peers_of, role_after, outputs_of, answer_of, ask_in, rules, IsMember}
use Rattle.example_bank.specs.declared.account.Waiting.{Waiting}
use Rattle.example_bank.specs.declared.account.Reply.{Reply}
use Rattle.example_bank.specs.declared.account.Reply.TheVariants as reply
use Rattle.example_bank.specs.declared.member.Role.{Role}
use Rattle.example_bank.specs.declared.member.Role.TheVariants as role

-- ---- no reaction changes who an actor is

pub stays_valid : StaysValid IsMember rules
stays_valid m i valid given = valid

same_peers : (r : Role) (i : PlainInput) → peers_of (role_after r i) ≡ peers_of r
same_peers (role.Teller gots) i = refl
same_peers (role.Account a) i = refl

pub stays_same_actor : StaysSameActor IsMember rules
stays_same_actor m i valid given = record { place = refl; interface = refl; peers = same_peers m.role i; reserve = refl }

pub skips_inputs : SkipsInputs IsMember rules
skips_inputs m ids valid e = cc

-- ---- outputs

-- whom an actor of this role may send to
abbrev pub Knows : ℕ → List ℕ → Role → ℕ → Type 0
Knows place reserve r to = Contains (place ∷ (peers_of r ++ reserve)) to

-- what the laws ask of all outputs
pub record AreLawful (P : ℕ → Type 0) (os : List PlainOutput) : Type 0 where
  pub fit : (shape_of : ℕ → Option ShapeTree) → Grows shape_of → AllByRecursion (OutputFits shape_of) os
  pub go : AllByRecursion (λ o. AllByRecursion P (output_targets o)) os
  pub few : outputs_count os ≤ 1024
  pub no_ticks : AllByRecursion IsNoTick os

none_lawful : (P : ℕ → Type 0) → AreLawful P []
none_lawful P = record { fit = λ shape_of grows. tt; go = tt; few = omega arith; no_ticks = tt }

-- a held request is answered by a number
released_lawful : (P : ℕ → Type 0) (n : ℕ) (o : Option Waiting) → AreLawful P (released n o)
released_lawful P n None = none_lawful P
released_lawful P n (Some w) = record { fit = λ shape_of grows. (number_fits shape_of grows n, tt); go = (tt, tt); few = omega arith; no_ticks = (tt, tt) }

outputs_lawful : (place : ℕ) (reserve : List ℕ) (r : Role) (i : PlainInput) → AreLawful (Knows place reserve r) (outputs_of r i)
outputs_lawful place reserve (role.Teller gots) Start =
    let giro : AllByRecursion (Knows place reserve (role.Teller gots)) (1 ∷ []) = ((1, omega arith, refl), tt) in
    let savings : AllByRecursion (Knows place reserve (role.Teller gots)) (2 ∷ []) = ((2, omega arith, refl), tt) in
    record {
      fit = λ shape_of grows. (
        fits shape_of grows depositing (more a_unit (more (an_unsigned 100) no_data)) refl refl refl,
        (
          fits shape_of grows withdrawing (more a_unit (more (an_unsigned 150) no_data)) refl refl refl,
          (
            fits shape_of grows waiting_for (more a_unit (more (an_unsigned 50) no_data)) refl refl refl,
            (
              fits shape_of grows withdrawing (more a_unit (more (an_unsigned 60) no_data)) refl refl refl,
              (
                fits shape_of grows depositing (more a_unit (more (an_unsigned 60) no_data)) refl refl refl,
                (fits shape_of grows balance (more a_unit no_data) refl refl refl, tt),
              ),
            ),
          ),
        ),
      );
      go = (giro, (giro, (savings, (giro, (savings, (giro, tt))))));
      few = omega arith;
      no_ticks = (tt, (tt, (tt, (tt, (tt, (tt, tt))))));
    }
outputs_lawful place reserve (role.Teller gots) Stop =
    record { fit = λ shape_of grows. (tt, (tt, tt)); go = (((1, omega arith, refl), tt), (((2, omega arith, refl), tt), tt)); few = omega arith; no_ticks = (tt, (tt, tt)) }
outputs_lawful place reserve (role.Teller gots) _ = none_lawful (Knows place reserve (role.Teller gots))
outputs_lawful place reserve (role.Account a) (Content origin words) =
    let o = decide a origin (ask_in words) in
    released_lawful (Knows place reserve (role.Account a)) o.account.balance o.released
outputs_lawful place reserve (role.Account a) _ = none_lawful (Knows place reserve (role.Account a))

pub sends_few : SendsFew IsMember rules
sends_few m i valid given = (outputs_lawful m.place m.reserve m.role i).few

pub ticks_at_ticks : TicksAtTicks IsMember rules
ticks_at_ticks m i valid given other = (outputs_lawful m.place m.reserve m.role i).no_ticks

stop_exits : (r : Role) → AllByRecursion IsExit (outputs_of r Stop)
stop_exits (role.Teller gots) = (tt, (tt, tt))
stop_exits (role.Account a) = tt

pub stops_with_exits : StopsWithExits IsMember rules
stops_with_exits m valid = stop_exits m.role

-- ---- answers

-- a number, an error, or a hold
abbrev pub IsReply : PlainAnswer → Type 0
IsReply (answer.Value words) = (n : ℕ) × (words ≡ number_content n)
IsReply (answer.Error why) = Unit {0}
IsReply (answer.Delegate to) = ⊥
IsReply answer.Hold = Unit {0}
IsReply answer.Nothing = ⊥

replied_is : (n : ℕ) (r : Reply) → IsReply (replied n r)
replied_is n reply.Balance = (n, refl)
replied_is n reply.Refused = tt
replied_is n reply.Later = tt

-- so content is answered
answer_is : (r : Role) (origin : Origin) (words : List ℕ) → IsReply (answer_of r (Content origin words))
answer_is (role.Teller gots) origin words = tt
answer_is (role.Account a) origin words = let o = decide a origin (ask_in words) in replied_is o.account.balance o.reply

pub answers_requests : AnswersRequests IsMember rules
answers_requests m origin words valid given asked q = subst IsReply q (answer_is m.role origin words)

pub delegates_as_told : DelegatesAsTold IsMember rules
delegates_as_told m origin words to valid given q = absurd (subst IsReply q (answer_is m.role origin words))

-- all that is taken is answered by numbers
abbrev declared_in : List Types → List Signature
declared_in all = map (λ types. signature_of (type_ids types)) all

declares_number : (all : List Types) (ids : List ℕ) → is_input (declared_in all) ids ≡ true → declared_for (declared_in all) ids ≡ Some (2 ∷ [])
declares_number [] ids e = absurd cc
declares_number (types ∷ all) ids e = go (takes_ids ids (signature_of (type_ids types))) refl (λ taken. declares_number all ids taken)
  where
    go : (b : Bool) → takes_ids ids (signature_of (type_ids types)) ≡ b → (is_input (declared_in all) ids ≡ true → declared_for (declared_in all) ids ≡ Some (2 ∷ [])) → declared_for (declared_in (types ∷ all)) ids ≡ Some (2 ∷ [])
    go true q others = rw q refl
    go false q others = rw q (others (rw q at e))

pub answers_as_declared : AnswersAsDeclared IsMember rules
answers_as_declared m origin words value valid given q =
    let is : (n : ℕ) × (value ≡ number_content n) = subst IsReply q (answer_is m.role origin words) in
    rw (valid, is.1) (declares_number (depositing ∷ withdrawing ∷ waiting_for ∷ balance ∷ []) (ids_in words) (subst (λ (ss : List Signature). is_input ss (ids_in words) ≡ true) valid given))

-- ---- whole reactions

reply_fits : (shape_of : ℕ → Option ShapeTree) → Grows shape_of → (a : PlainAnswer) → IsReply a → AnswerFits shape_of a
reply_fits shape_of grows (answer.Value words) (n, is) = rw is (number_fits shape_of grows n)
reply_fits shape_of grows _ is = tt

reply_goes : (P : ℕ → Type 0) (a : PlainAnswer) → IsReply a → AllByRecursion P (answer_targets a)
reply_goes P (answer.Delegate to) is = absurd is
reply_goes P _ is = tt

-- what is no content is not answered
answer_fits : (shape_of : ℕ → Option ShapeTree) → Grows shape_of → (r : Role) (i : PlainInput) → AnswerFits shape_of (answer_of r i)
answer_fits shape_of grows r (Content origin words) = reply_fits shape_of grows (answer_of r (Content origin words)) (answer_is r origin words)
answer_fits shape_of grows (role.Teller gots) _ = tt
answer_fits shape_of grows (role.Account a) _ = tt

answer_goes : (P : ℕ → Type 0) (r : Role) (i : PlainInput) → AllByRecursion P (answer_targets (answer_of r i))
answer_goes P r (Content origin words) = reply_goes P (answer_of r (Content origin words)) (answer_is r origin words)
answer_goes P (role.Teller gots) _ = tt
answer_goes P (role.Account a) _ = tt

pub sends_to_peers : SendsToPeers IsMember rules
sends_to_peers m i valid given = record { outputs = (outputs_lawful m.place m.reserve m.role i).go; answer = answer_goes (Knows m.place m.reserve m.role) m.role i }

pub fits_its_table : FitsItsTable IsMember rules bank_entries
fits_its_table t m i has valid given h = record { outputs = (outputs_lawful m.place m.reserve m.role i).fit (shape_at t) (table_grows t has); answer = answer_fits (shape_at t) (table_grows t has) m.role i }

pub fits_its_entries : FitsItsEntries IsMember rules bank_entries
fits_its_entries m i valid given h = record { outputs = (outputs_lawful m.place m.reserve m.role i).fit (entry_shape bank_entries) entries_grow; answer = answer_fits (entry_shape bank_entries) entries_grow m.role i }
