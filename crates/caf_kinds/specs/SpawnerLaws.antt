-- A spawner keeps the laws.
use Rattle.std.specs.Prelude.{◌≡◌, ℕ, ◌%◌, ◌<◌, ◌==◌, slice_get, Bool, true, false, List, Contains, Option, Some, None, refl}
use Rattle.std.proofs.Common.{arith}
use Rattle.std.proofs.lemmas.Bool.{lt-ltb}
use Rattle.caf_actor.specs.declared.origin.Origin.{Origin}
use Rattle.caf_actor.specs.PlainInput.{PlainInput, Start, Stop, Content, Response, Failed, Down, Tick}
use Rattle.caf_actor.specs.PlainReaction as answer
use Rattle.caf_words.specs.Datum.{no_data, more, a_place}
use Rattle.caf_words.specs.Fitting.{both_hold}
use Rattle.caf_kinds.specs.Asking.{type_ids, has}
use Rattle.caf_kinds.specs.Calc.{adding}
use Rattle.caf_kinds.specs.Who.{IsWho, fixed}
use Rattle.caf_kinds.specs.Reacting.{Reacted, answers, failed}
use Rattle.caf_kinds.specs.Lawful.{IsSound, IsLawful}
use Rattle.caf_kinds.specs.Keeping.{on_if, answers_by, answer_kept, failed_kept, quiet_kept}
use Rattle.caf_kinds.specs.SendLaws.{all_at, contained_at, child_is_target}
use Rattle.caf_kinds.specs.Spawner.{spawning, of_place, interface, delegates, place_content, begins, in_turn, passes, given, reacted}
use Rattle.caf_kinds.specs.declared.spawner.Spawner.{Spawner}

abbrev pub Keeps : Spawner → PlainInput → Reacted Spawner → Type 0
Keeps s i r = IsLawful (fixed s.identity interface) (fixed r.0.identity interface) (IsWho r.0.identity) delegates i r.1

place_sound : (p : ℕ) → p < 256 → IsSound (place_content p)
place_sound p low = (of_place, record { core = refl; values = more (a_place p) no_data; words_are = refl; fit = both_hold (lt-ltb p 256 low) refl; range = refl })

begins_keeps : (s : Spawner) (origin : Origin) (words : List ℕ) → IsWho s.identity → has spawning words ≡ true → (o : Option ℕ) → slice_get s.identity.reserve s.started ≡ o → Keeps s (Content origin words) (begins s o)
begins_keeps s origin words valid e None q = answer_kept (fixed s.identity interface) (fixed s.identity interface) (IsWho s.identity) delegates (Content origin words) _ refl valid tt
begins_keeps s origin words valid e (Some p) q = record {
  same = refl;
  valid = valid;
  outputs = (record { targets = (child_is_target s.identity p (contained_at s.identity.reserve s.started p q), tt); content = tt; at_stop = λ r. absurd cc; at_ticks = λ r. tt }, tt);
  few = omega arith;
  answer = answers_by interface (type_ids spawning) origin words _ e refl (place_sound p (all_at (λ n. n < 256) s.identity.reserve s.started p valid.reserve q));
}

turn_contained : (s : Spawner) (p : ℕ) → in_turn s ≡ Some p → Contains s.identity.reserve p
turn_contained s p e = go (s.started == 0) refl
  where
    go : (b : Bool) → (s.started == 0) ≡ b → Contains s.identity.reserve p
    go true q = let bad : ◌≡◌ {A = Option ℕ} None (Some p) = rw q at e in absurd cc
    go false q = contained_at s.identity.reserve (s.passed % s.started) p (rw q at e)

passes_keeps : (s : Spawner) (origin : Origin) (words : List ℕ) → IsWho s.identity → has adding words ≡ true → (o : Option ℕ) → in_turn s ≡ o → Keeps s (Content origin words) (passes s o)
passes_keeps s origin words valid e None q = failed_kept (fixed s.identity interface) (IsWho s.identity) delegates (Content origin words) valid
passes_keeps s origin words valid e (Some p) q =
    answer_kept (fixed s.identity interface) (fixed s.identity interface) (IsWho s.identity) delegates (Content origin words) (answer.Delegate p) refl valid
    (e, child_is_target s.identity p (turn_contained s p q))

given_keeps : (s : Spawner) (origin : Origin) (words : List ℕ) → IsWho s.identity → Keeps s (Content origin words) (given s words)
given_keeps s origin words valid =
    let i = Content origin words in
    on_if (Keeps s i) (has spawning words) (begins s (slice_get s.identity.reserve s.started)) _
    (λ e. begins_keeps s origin words valid e (slice_get s.identity.reserve s.started) refl)
    (λ _. on_if (Keeps s i) (has adding words) (passes s (in_turn s)) (s, answers failed)
    (λ e. passes_keeps s origin words valid e (in_turn s) refl)
    (λ _. failed_kept (fixed s.identity interface) (IsWho s.identity) delegates i valid))

pub keeps : (s : Spawner) (i : PlainInput) → IsWho s.identity → Keeps s i (reacted s i)
keeps s (Content origin words) valid = given_keeps s origin words valid
keeps s Start valid = quiet_kept (fixed s.identity interface) (IsWho s.identity) delegates Start valid tt
keeps s Stop valid = quiet_kept (fixed s.identity interface) (IsWho s.identity) delegates Stop valid tt
keeps s (Response tag words) valid = quiet_kept (fixed s.identity interface) (IsWho s.identity) delegates (Response tag words) valid tt
keeps s (Failed tag why) valid = quiet_kept (fixed s.identity interface) (IsWho s.identity) delegates (Failed tag why) valid tt
keeps s (Down place why) valid = quiet_kept (fixed s.identity interface) (IsWho s.identity) delegates (Down place why) valid tt
keeps s Tick valid = quiet_kept (fixed s.identity interface) (IsWho s.identity) delegates Tick valid tt
