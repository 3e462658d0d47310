-- A holder keeps the laws.
use Rattle.std.specs.Prelude.{◌≡◌, ℕ, if◌then◌else◌, Bool, true, List, [], ◌∷◌, ◌++◌, length, map, Option, Some, None, refl}
use Rattle.std.proofs.Common.{arith}
use Rattle.caf_actor.specs.declared.origin.Origin.{Origin}
use Rattle.caf_actor.specs.PlainInput.{PlainInput, Start, Stop, Content, Response, Failed, Down, Tick}
use Rattle.caf_actor.specs.PlainReaction.{PlainAnswer}
use Rattle.caf_actor.specs.PlainReaction as answer
use Rattle.std.specs.List.{AllByRecursion}
use Rattle.caf_words.specs.Datum.{Data}
use Rattle.caf_actor.specs.Answering.{is_asked}
use Rattle.caf_actor.specs.Rules.{outputs_count}
use Rattle.caf_kinds.specs.Asking.{of_text, type_ids, type_shapes, has, asked, content}
use Rattle.caf_kinds.specs.Who.{Who, fixed}
use Rattle.caf_kinds.specs.Reacting.{Reacted, answers, quiet, failed}
use Rattle.caf_kinds.specs.Lawful.{IsContentOf, IsLawfulOutput, IsLawful}
use Rattle.caf_kinds.specs.Keeping.{on_if, asked_is, unsigned_sound, answers_by, answer_kept, failed_kept, quiet_kept}
use Rattle.caf_kinds.specs.Held.{Held, held, delivered, AreTexts}
use Rattle.caf_kinds.specs.Holder.{settling, interface, holds, settles, given, reacted}
use Rattle.caf_kinds.specs.declared.holder.Holder.{Holder}

abbrev pub Keeps : (List ℕ → Bool) → Holder → PlainInput → Reacted Holder → Type 0
Keeps d s i r = IsLawful (fixed s.identity interface) (fixed r.0.identity interface) (AreTexts r.0.held) d i r.1

texts_push : (hs : List Held) (h : Held) → AreTexts hs → IsContentOf of_text h.text → AreTexts (hs ++ h ∷ [])
texts_push [] h all one = (one, tt)
texts_push (x ∷ xs) h all one = (all.0, texts_push xs h all.1 one)

holds_keeps : (d : List ℕ → Bool) (s : Holder) (origin : Origin) (words : List ℕ) → AreTexts s.held → (o : Option Data) → asked of_text words ≡ o → Keeps d s (Content origin words) (holds s origin o)
holds_keeps d s origin words valid None q = failed_kept (fixed s.identity interface) (AreTexts s.held) d (Content origin words) valid
holds_keeps d s origin words valid (Some values) q =
    let me = fixed s.identity interface in
    let fine = asked_is (type_ids of_text) (type_shapes of_text) words values q in
    let one : IsContentOf of_text (content of_text values) = record { core = refl; values = values; words_are = refl; fit = fine.fit; range = fine.range } in
    let h = held origin (content of_text values) in
    answer_kept me me (AreTexts (s.held ++ h ∷ [])) d (Content origin words) answer.Hold refl (texts_push s.held h valid one) tt

deliveries : (who : Who) (origin : Origin) (words : List ℕ) (hs : List Held) → AreTexts hs → AllByRecursion (IsLawfulOutput who (Content origin words)) (map delivered hs)
deliveries who origin words [] all = tt
deliveries who origin words (h ∷ hs) all = (record { targets = tt; content = (of_text, all.0); at_stop = λ e. absurd cc; at_ticks = λ e. tt }, deliveries who origin words hs all.1)

deliveries_count : (hs : List Held) → outputs_count (map delivered hs) ≡ 0
deliveries_count [] = refl
deliveries_count (h ∷ hs) = omega (arith, deliveries_count hs)

settles_keeps : (d : List ℕ → Bool) (s : Holder) (origin : Origin) (words : List ℕ) → AreTexts s.held → has settling words ≡ true → Keeps d s (Content origin words) (settles s)
settles_keeps d s origin words valid e = record {
  same = refl;
  valid = tt;
  outputs = deliveries s.identity origin words s.held valid;
  few = omega (arith, deliveries_count s.held);
  answer = answers_by interface (type_ids settling) origin words _ e refl (unsigned_sound (length s.held));
}

given_keeps : (d : List ℕ → Bool) (s : Holder) (origin : Origin) (words : List ℕ) → AreTexts s.held → Keeps d s (Content origin words) (given s origin words)
given_keeps d s origin words valid =
    let me = fixed s.identity interface in
    let i = Content origin words in
    on_if (Keeps d s i) (has of_text words) (if is_asked origin then holds s origin (asked of_text words) else (s, quiet)) _
    (λ _. on_if (Keeps d s i) (is_asked origin) (holds s origin (asked of_text words)) (s, quiet)
    (λ _. holds_keeps d s origin words valid (asked of_text words) refl)
    (λ e. quiet_kept me (AreTexts s.held) d i valid e))
    (λ _. on_if (Keeps d s i) (has settling words) (settles s) (s, answers failed)
    (λ e. settles_keeps d s origin words valid e)
    (λ _. failed_kept me (AreTexts s.held) d i valid))

pub keeps : (d : List ℕ → Bool) (s : Holder) (i : PlainInput) → AreTexts s.held → Keeps d s i (reacted s i)
keeps d s (Content origin words) valid = given_keeps d s origin words valid
keeps d s Start valid = quiet_kept (fixed s.identity interface) (AreTexts s.held) d Start valid tt
keeps d s Stop valid = quiet_kept (fixed s.identity interface) (AreTexts s.held) d Stop valid tt
keeps d s (Response tag words) valid = quiet_kept (fixed s.identity interface) (AreTexts s.held) d (Response tag words) valid tt
keeps d s (Failed tag why) valid = quiet_kept (fixed s.identity interface) (AreTexts s.held) d (Failed tag why) valid tt
keeps d s (Down place why) valid = quiet_kept (fixed s.identity interface) (AreTexts s.held) d (Down place why) valid tt
keeps d s Tick valid = quiet_kept (fixed s.identity interface) (AreTexts s.held) d Tick valid tt
