-- What a reader knows as it pops.
use Rattle.std.proofs.Common.{◌≡◌, ◌≢◌, Option, Some, None, MatchOption, List, [], ◌∷◌, ◌++◌, Contains, sym, ap, ◌∙◌, subst, append_assoc, append-nil}
use Rattle.caf_message.specs.declared.envelope.Taken.{Taken}
use Rattle.caf_inbox.specs.declared.view.View.{View}
use Rattle.caf_inbox.specs.Senders.{AreFrom, IsPrefix}
use Rattle.caf_inbox.specs.Views.{logged, HasTaken}
use Rattle.caf_inbox.proofs.ListLemmas.{all_push}

-- ---- pops, one after the other

pub has_taken_none : (v w : View) → w ≡ v → HasTaken v w []
has_taken_none v w e = (e ∙ ap (λ l. record v { log = l }) (sym (append-nil v.log)), tt)

pub has_taken_more : (v w u : View) (es : List Taken) (e : Taken) → HasTaken v w es → u ≡ logged w e → Contains w.senders e.sender → HasTaken v u (es ++ e ∷ [])
has_taken_more v w u es e h is from = (
  is ∙ ap (λ (y : View). logged y e) h.0 ∙ ap (λ l. record v { log = l }) (append_assoc v.log es (e ∷ [])),
  all_push (λ (a : Taken). Contains v.senders a.sender) es e h.1 (subst (λ (y : View). Contains y.senders e.sender) h.0 from),
)

-- ---- what a take answers

pub offers : {B : Type 0} (answer : Option (List B)) (batch : List B) (N : Type 0) (S : List B → Type 0)
    → MatchOption answer (batch ≡ []) (λ b. (b ≡ batch) × (b ≢ [])) → (batch ≡ [] → N) → (batch ≢ [] → S batch) → MatchOption answer N S
offers None batch N S h none some = none h
offers (Some b) batch N S h none some = subst S (sym h.0) (some (λ e. h.1 (h.0 ∙ e)))

pub has_taken_same : (v w : View) (es : List Taken) → HasTaken v w es → es ≡ [] → w ≡ v
has_taken_same v w es h e = h.0 ∙ ap (λ l. record v { log = l }) (ap (λ l. v.log ++ l) e ∙ append-nil v.log)

pub has_taken_log : (v w : View) (es : List Taken) → HasTaken v w es → w.log ≡ v.log ++ es
has_taken_log v w es h = ap (λ (y : View). y.log) h.0

pub has_taken_prefix : (v w : View) (es : List Taken) → HasTaken v w es → IsPrefix v.log w.log
has_taken_prefix v w es h = (es, sym (has_taken_log v w es h))

pub has_taken_from : (v w : View) (es : List Taken) → HasTaken v w es → AreFrom w.senders es
has_taken_from v w es h = subst (λ (y : View). AreFrom y.senders es) (sym h.0) h.1
