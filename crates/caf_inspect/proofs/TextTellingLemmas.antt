-- Telling one event to the text saver.
use Rattle.std.proofs.Common.{◌≡◌, ℕ, zero, suc, List, [], ◌∷◌, ◌++◌, refl, sym, ap, ◌∙◌, append_assoc, string_bytes}
use Rattle.std.proofs.lemmas.List.{append-nil}
use Rattle.caf_text.specs.TextForm.{comma, colon}
use Rattle.caf_events.specs.Event as event
use Rattle.caf_events.specs.Event.{Event}
use Rattle.caf_events.specs.Range.{IsInRange}
use Rattle.caf_events.specs.Tells.{Tells}
use Rattle.caf_events.proofs.RangeLemmas.{range_more}
use Rattle.caf_inspect.specs.TextBuilder.{frames_of, built}
use Rattle.caf_inspect.specs.TextSaver.{text_state, SavesText}
use Rattle.caf_inspect.specs.TextStack.{Frame, in_list, in_object, State, state, step, steps, give, opened, take_in, put_behind}
use Rattle.caf_inspect.specs.declared.text_builder.TextBuilder.{TextBuilder}
use Rattle.caf_inspect.specs.declared.text_saver.TextSaver.{TextSaver}

steps_more : (s : State) (es : List Event) (e : Event) → steps s (es ++ e ∷ []) ≡ step (steps s es) e
steps_more s [] e = refl
steps_more s (x ∷ es) e = steps_more (step s x) es e

-- what is written stands behind what was
behind : (fs : List Frame) (t u x : List ℕ) → state fs ((t ++ u) ++ x) ≡ put_behind t (state fs (u ++ x))
behind fs t u x = ap (state fs) (append_assoc t u x)

give_behind : (fs : List Frame) (t u : List ℕ) → give fs (t ++ u) ≡ put_behind t (give fs u)
give_behind [] t u = refl
give_behind (in_list zero ∷ fs) t u = ap (give fs) (append_assoc t u (93 ∷ [])) ∙ give_behind fs t (u ++ 93 ∷ [])
give_behind (in_list (suc n) ∷ fs) t u = behind (in_list n ∷ fs) t u comma
give_behind (in_object zero ∷ fs) t u = ap (give fs) (append_assoc t u (125 ∷ [])) ∙ give_behind fs t (u ++ 125 ∷ [])
give_behind (in_object (suc n) ∷ fs) t u = behind (in_object n ∷ fs) t u comma

written : (fs : List Frame) (t u x : List ℕ) → give fs ((t ++ u) ++ x) ≡ put_behind t (give fs (u ++ x))
written fs t u x = ap (give fs) (append_assoc t u x) ∙ give_behind fs t (u ++ x)

opened_behind : (n : ℕ) (frame : ℕ → Frame) (opening closing : ℕ) (fs : List Frame) (t u : List ℕ) → opened n frame opening closing fs (t ++ u) ≡ put_behind t (opened n frame opening closing fs u)
opened_behind zero frame opening closing fs t u = written fs t u (opening ∷ closing ∷ [])
opened_behind (suc n) frame opening closing fs t u = behind (frame n ∷ fs) t u (opening ∷ [])

taken_behind : (e : Event) (fs : List Frame) (t u : List ℕ) → take_in e fs (t ++ u) ≡ put_behind t (take_in e fs u)
taken_behind event.unit fs t u = written fs t u _
taken_behind (event.flag b) fs t u = written fs t u _
taken_behind (event.unsigned n) fs t u = written fs t u _
taken_behind (event.signed z) fs t u = written fs t u _
taken_behind (event.text bs) fs t u = written fs t u _
taken_behind (event.bytes bs) fs t u = written fs t u _
taken_behind (event.place n) fs t u = written fs t u _
taken_behind (event.list n) fs t u = opened_behind n in_list 91 93 fs t u
taken_behind (event.object n) fs t u = opened_behind n in_object 123 125 fs t u
taken_behind (event.field name) fs t u = ap (λ x. state fs (x ++ colon)) (append_assoc t u name) ∙ behind fs t (u ++ name) colon

step_behind : (e : Event) (fs : List Frame) (t : List ℕ) → put_behind t (step (state fs []) e) ≡ step (state fs t) e
step_behind e fs t = sym (taken_behind e fs t []) ∙ ap (take_in e fs) (append-nil t)

pub text_told : {old new : TextSaver} {e : Event} (opened wrote : TextBuilder) → built opened ≡ state (frames_of old.parts.items) [] → built wrote ≡ step (built opened) e
    → text_state new ≡ put_behind (string_bytes old.text) (built wrote) → IsInRange e → Tells SavesText old new (e ∷ [])
text_told {old = old} {new = new} {e = e} opened wrote begun stepped added range =
    let whole : text_state new ≡ step (text_state old) e = added ∙ ap (put_behind (string_bytes old.text)) (stepped ∙ ap (λ s. step s e) begun) ∙ step_behind e (frames_of old.parts.items) (string_bytes old.text) in
    record {
      after = λ es h. record {
        form = whole ∙ ap (λ s. step s e) h.form ∙ (let m = steps_more (state [] []) es e in sym m);
        range = range_more es e h.range range;
      };
    }
