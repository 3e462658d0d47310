-- Which question a request of place 0 asks, by its number.
use Rattle.std.proofs.Common.{◌≡◌, ℕ, ◌≤◌, ◌<◌, Bool, true, false, List, [], ◌∷◌, count_by, refl, sym, ap, arith}
use Rattle.std.specs.Prelude.{◌⊎◌, not, bytes_eq, Contains}
use Rattle.std.specs.List.{AllByRecursion, filter}
use Rattle.caf_index.proofs.ContainsLemmas.{contains-here, contains-later}
use Rattle.caf_message.specs.declared.envelope.Plain.TheVariants as «plain»
use Rattle.caf_message.specs.declared.envelope.Taken.{Taken}
use Rattle.caf_carriers.proofs.CountLemmas.{one, count-cons}
use Rattle.caf_actor.specs.Answering.{is_asked, origin_of}
use Rattle.caf_kinds.specs.declared.kind.Kind.{Kind}
use Rattle.caf_kinds.specs.declared.kind.Kind.TheVariants as kind
use Rattle.caf_kinds.specs.declared.questions.HeldQuestion.{HeldQuestion}
use Rattle.caf_kinds.specs.declared.questions.Question.{Question}
use Rattle.caf_kinds.specs.declared.questions.Question.TheVariants as question
use Rattle.caf_pipeline.specs.Parts.{index_content, totals_content}

-- ---- lists

pub filter_passes : {A : Type 0} (test : A → Bool) (xs : List A) → AllByRecursion (λ x. test x ≡ true) (filter test xs)
filter_passes test [] = tt
filter_passes test (x ∷ xs) = go (test x) refl (filter_passes test xs)
  where
    go : (b : Bool) → test x ≡ b → AllByRecursion (λ y. test y ≡ true) (filter test xs) → AllByRecursion (λ y. test y ≡ true) (filter test (x ∷ xs))
    go true q rest = rw q (q, rest)
    go false q rest = rw q rest

pub counted_has : {A : Type 0} (test : A → Bool) (xs : List A) → 0 < count_by test xs → (x : A) × Contains xs x × (test x ≡ true)
counted_has test [] some = absurd (omega (arith, some))
counted_has test (x ∷ xs) some = go (test x) refl (counted_has test xs)
  where
    go : (b : Bool) → test x ≡ b → (0 < count_by test xs → (y : _) × Contains xs y × (test y ≡ true)) → (y : _) × Contains (x ∷ xs) y × (test y ≡ true)
    go true q later = (x, contains-here x xs, q)
    go false q later =
        let all = count-cons test x xs in
        let none : one (test x) ≡ 0 = ap one q in
        let rest = later (omega (arith, some, all, none)) in
        (rest.0, contains-later x rest.0 xs rest.1, rest.2)

pub from_not : (b : Bool) → not b ≡ true → b ≡ false
from_not true e = cc
from_not false e = refl

-- ---- questions by number

-- place 0's first request asks for the index, all others for totals
abbrev pub IsAsked : ℕ → Question → Type 0
IsAsked number q = ((number ≡ 1) × (q ≡ question.Index)) ⊎ ((2 ≤ number) × (q ≡ question.Totals))

abbrev pub content_of_question : Question → List ℕ
content_of_question question.Index = index_content
content_of_question question.Totals = totals_content

-- a request to the collector has the content of its number
abbrev pub IsAskedSo : Taken → Type 0
IsAskedSo e = is_asked (origin_of e) ≡ true → (q : Question) × IsAsked e.mid.number q × (e.body ≡ «plain».Content (content_of_question q))

pub same_question : (q r : Question) → content_of_question q ≡ content_of_question r → q ≡ r
same_question question.Index question.Index e = refl
same_question question.Totals question.Totals e = refl
same_question question.Index question.Totals e = let bad : true ≡ false = sym (ap (λ ws. bytes_eq index_content ws) (sym e)) in cc
same_question question.Totals question.Index e = let bad : true ≡ false = sym (ap (λ ws. bytes_eq index_content ws) e) in cc

abbrev pub held_in : Kind → List HeldQuestion
held_in (kind.Collector c) = c.held
held_in _ = []
