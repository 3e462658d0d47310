-- Envelopes by their senders, as lists grow.
use Rattle.std.proofs.Common.{◌≡◌, ◌≢◌, ℕ, ◌==◌, true, false, List, [], ◌∷◌, ◌++◌, Contains, sym, refl, ap, ◌∙◌, subst, append_assoc, append-nil, eq-eqb, ne_eqb}
use Rattle.std.proofs.lemmas.List.Elements.{filter-append, All-contains, All-from_recursion}
use Rattle.caf_message.specs.declared.envelope.Taken.{Taken}
use Rattle.caf_inbox.specs.declared.view.Note.{Note}
use Rattle.caf_inbox.specs.Senders.{from_sender, AreFrom, IsPrefix, AreWithin, AreBefore, AreBehind}
use Rattle.caf_inbox.proofs.ListLemmas.{all_weaker}

-- ---- one envelope

pub from_sender-own : (s : ℕ) (e : Taken) → e.sender ≡ s → from_sender s (e ∷ []) ≡ e ∷ []
from_sender-own s e own = let q : (e.sender == s) ≡ true = eq-eqb e.sender s own in rw q refl

pub from_sender-other : (s : ℕ) (e : Taken) → e.sender ≢ s → from_sender s (e ∷ []) ≡ []
from_sender-other s e other = let q : (e.sender == s) ≡ false = ne_eqb e.sender s other in rw q refl

-- ---- lists

pub from_sender-append : (s : ℕ) (xs ys : List Taken) → from_sender s (xs ++ ys) ≡ from_sender s xs ++ from_sender s ys
from_sender-append s xs ys = filter-append (λ (e : Taken). e.sender == s) xs ys

-- one more of the sender, and one more of another
pub from_sender-push_own : (s : ℕ) (es : List Taken) (e : Taken) → e.sender ≡ s → from_sender s (es ++ e ∷ []) ≡ from_sender s es ++ e ∷ []
from_sender-push_own s es e own = from_sender-append s es (e ∷ []) ∙ ap (λ l. from_sender s es ++ l) (from_sender-own s e own)

pub from_sender-push_other : (s : ℕ) (es : List Taken) (e : Taken) → e.sender ≢ s → from_sender s (es ++ e ∷ []) ≡ from_sender s es
from_sender-push_other s es e other = from_sender-append s es (e ∷ []) ∙ ap (λ l. from_sender s es ++ l) (from_sender-other s e other) ∙ append-nil (from_sender s es)

-- none is of a sender that has no lane
pub from_sender-none : (s : ℕ) (senders : List ℕ) (es : List Taken) → ¬ Contains senders s → AreFrom senders es → from_sender s es ≡ []
from_sender-none s senders [] new h = refl
from_sender-none s senders (e ∷ es) new h =
    let q : (e.sender == s) ≡ false = ne_eqb e.sender s (λ same. new (subst (λ a. Contains senders a) same h.0)) in rw q (from_sender-none s senders es new h.1)

-- ---- prefixes

pub is_prefix_of_same : (xs ys : List Taken) → xs ≡ ys → IsPrefix xs ys
is_prefix_of_same xs ys e = ([], append-nil xs ∙ e)

pub is_prefix_of_more : (xs ys more : List Taken) → IsPrefix xs ys → IsPrefix xs (ys ++ more)
is_prefix_of_more xs ys more p = (p.0 ++ more, sym (append_assoc xs p.0 more) ∙ ap (λ l. l ++ more) p.1)

pub from_sender-prefix : (s : ℕ) (xs ys : List Taken) → IsPrefix xs ys → IsPrefix (from_sender s xs) (from_sender s ys)
from_sender-prefix s xs ys p = (from_sender s p.0, sym (from_sender-append s xs p.0) ∙ ap (from_sender s) p.1)

pub from_sender-prefix_of_more : (s : ℕ) (xs es more : List Taken) → IsPrefix xs (from_sender s es) → IsPrefix xs (from_sender s (es ++ more))
from_sender-prefix_of_more s xs es more p = subst (λ l. IsPrefix xs l) (sym (from_sender-append s es more)) (is_prefix_of_more xs (from_sender s es) (from_sender s more) p)

-- two lists, each a prefix of the other
pub same_by_prefixes : (xs ys : List Taken) → IsPrefix xs ys → IsPrefix ys xs → xs ≡ ys
same_by_prefixes [] [] p q = refl
same_by_prefixes [] (y ∷ ys) p q = cc
same_by_prefixes (x ∷ xs) [] p q = cc
same_by_prefixes (x ∷ xs) (y ∷ ys) p q =
    let e : x ≡ y = let f = p.1 in cc in let t = same_by_prefixes xs ys (p.0, let f = p.1 in cc) (q.0, let f = q.1 in cc) in λ i. e i ∷ t i

-- ---- notes

pub are_within_more : (es more : List Taken) (notes : List Note) → AreWithin es notes → AreWithin (es ++ more) notes
are_within_more es more =
    all_weaker (λ n. IsPrefix n.pushed (from_sender n.sender es)) (λ n. IsPrefix n.pushed (from_sender n.sender (es ++ more))) (λ n p. from_sender-prefix_of_more n.sender n.pushed es more p)

pub are_before_more : (taken more : List Taken) (notes : List (List Taken)) → AreBefore taken notes → AreBefore (taken ++ more) notes
are_before_more taken more = all_weaker (λ n. IsPrefix n taken) (λ n. IsPrefix n (taken ++ more)) (λ n p. is_prefix_of_more n taken more p)

pub are_behind_more : (s : ℕ) (pushed more : List Taken) (notes : List (List Taken)) → AreBehind s pushed notes → AreBehind s (pushed ++ more) notes
are_behind_more s pushed more = all_weaker (λ n. IsPrefix (from_sender s n) pushed) (λ n. IsPrefix (from_sender s n) (pushed ++ more)) (λ n p. is_prefix_of_more (from_sender s n) pushed more p)

-- what the reader took is a prefix of what was pushed
pub are_behind_pushed : (s : ℕ) (pushed taken more : List Taken) (notes : List (List Taken)) → pushed ≡ from_sender s (taken ++ more) → AreBefore taken notes → AreBehind s pushed notes
are_behind_pushed s pushed taken more notes is =
    all_weaker (λ n. IsPrefix n taken) (λ n. IsPrefix (from_sender s n) pushed)
    (λ n p. subst (λ l. IsPrefix (from_sender s n) l) (sym is) (from_sender-prefix s n (taken ++ more) (is_prefix_of_more n taken more p))) notes

-- a lane all of whose envelopes were taken: the reader met a note of all that it pushed and took what the notes tell
-- of, and the lane met a note of all that was taken
pub all_taken : (s : ℕ) (taken pushed : List Taken) (met : List Note) (heard : List (List Taken)) → Contains met (record { sender = s; pushed = pushed }) → AreWithin taken met → Contains heard taken → AreBehind s pushed heard
    → from_sender s taken ≡ pushed
all_taken s taken pushed met heard noted within told behind =
    same_by_prefixes (from_sender s taken) pushed
    (All-contains (λ (n : List Taken). IsPrefix (from_sender s n) pushed) heard taken (All-from_recursion (λ (n : List Taken). IsPrefix (from_sender s n) pushed) heard behind) told)
    (All-contains (λ (n : Note). IsPrefix n.pushed (from_sender n.sender taken)) met (record { sender = s; pushed = pushed })
    (All-from_recursion (λ (n : Note). IsPrefix n.pushed (from_sender n.sender taken)) met within) noted)
