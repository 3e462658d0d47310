-- A watcher keeps the laws.
use Rattle.std.specs.Prelude.{◌≡◌, ℕ, nat_le, Bool, true, List, [], ◌∷◌, ◌++◌, length, map, filter, Option, Some, refl}
use Rattle.std.specs.List.{AllByRecursion}
use Rattle.std.proofs.Common.{arith}
use Rattle.caf_types.specs.declared.reason.Reason.{Reason}
use Rattle.caf_actor.specs.declared.origin.Origin.{Origin}
use Rattle.caf_actor.specs.PlainInput.{PlainInput, Start, Stop, Content, Response, Failed, Down, Tick}
use Rattle.caf_actor.specs.PlainOutput.{PlainOutput}
use Rattle.caf_actor.specs.PlainOutput as output
use Rattle.caf_actor.specs.PlainReaction as answer
use Rattle.caf_actor.specs.Answering.{is_asked}
use Rattle.caf_words.specs.Datum.{Data, no_data, more, a_unit, an_unsigned}
use Rattle.caf_kinds.specs.Asking.{type_ids, has, asked}
use Rattle.caf_kinds.specs.Who.{Who, fixed}
use Rattle.caf_kinds.specs.Reacting.{Reacted, answers, quiet, failed}
use Rattle.caf_kinds.specs.Lawful.{IsLawful, IsLawfulOutput}
use Rattle.caf_kinds.specs.Keeping.{on_if, unit_sound, answers_by, answer_kept, failed_kept, quiet_kept}
use Rattle.caf_kinds.specs.SendLaws.{peer_is_target, to_peers, count_each, count_none}
use Rattle.caf_kinds.specs.Sights.{AreRising, places_content, sought, told, is_reached, with_down}
use Rattle.caf_kinds.specs.SightLaws.{unreached_more, sights_downed, places_sound}
use Rattle.caf_kinds.specs.Watcher.{watching, linking, seeing, interface, IsWatching, watches, links, seeks, sees, given, downed, reacted}
use Rattle.caf_kinds.specs.declared.sights.Sought.{Sought}
use Rattle.caf_kinds.specs.declared.watcher.Watcher.{Watcher}

abbrev pub Keeps : (List ℕ → Bool) → Watcher → PlainInput → Reacted Watcher → Type 0
Keeps d s i r = IsLawful (fixed s.identity interface) (fixed r.0.identity interface) (IsWatching r.0) d i r.1

-- ---- to all peers

watches_keeps : (d : List ℕ → Bool) (s : Watcher) (origin : Origin) (words : List ℕ) → IsWatching s → has watching words ≡ true → Keeps d s (Content origin words) (watches s)
watches_keeps d s origin words valid e = record {
  same = refl;
  valid = valid;
  outputs = to_peers s.identity (Content origin words) output.Watch
      (λ p at. record { targets = (peer_is_target s.identity p at, tt); content = tt; at_stop = λ q. absurd cc; at_ticks = λ q. tt });
  few = (let few = valid.who.peers in let all = count_each output.Watch (λ p. refl) s.identity.peers in omega arith);
  answer = answers_by interface (type_ids watching) origin words _ e refl unit_sound;
}

links_keeps : (d : List ℕ → Bool) (s : Watcher) (origin : Origin) (words : List ℕ) → IsWatching s → has linking words ≡ true → Keeps d s (Content origin words) (links s)
links_keeps d s origin words valid e = record {
  same = refl;
  valid = valid;
  outputs = to_peers s.identity (Content origin words) output.Link
      (λ p at. record { targets = (peer_is_target s.identity p at, tt); content = tt; at_stop = λ q. absurd cc; at_ticks = λ q. tt });
  few = (let few = valid.who.peers in let all = count_each output.Link (λ p. refl) s.identity.peers in omega arith);
  answer = answers_by interface (type_ids linking) origin words _ e refl unit_sound;
}

-- ---- what is sought

seeks_keeps : (d : List ℕ → Bool) (s : Watcher) (origin : Origin) (words : List ℕ) → IsWatching s → has seeing words ≡ true → (least : ℕ) → Keeps d s (Content origin words) (seeks s origin least)
seeks_keeps d s origin words valid e least =
    let me = fixed s.identity interface in
    let i = Content origin words in
    on_if (Keeps d s i) (nat_le least (length s.sights.gone)) (s, answers (answer.Value (places_content s.sights.gone))) _
    (λ _. answer_kept me me (IsWatching s) d i (answer.Value (places_content s.sights.gone)) refl valid
    (answers_by interface (type_ids seeing) origin words _ e refl (places_sound s.sights.gone valid.sights.gone)))
    (λ low. on_if (Keeps d s i) (is_asked origin) (record s { sights = record s.sights { held = s.sights.held ++ sought origin least ∷ [] } }, answers answer.Hold) (s, quiet)
    (λ _. answer_kept me me _ d i answer.Hold refl
    (record { who = valid.who; sights = record { gone = valid.sights.gone; held = unreached_more (length s.sights.gone) s.sights.held (sought origin least) valid.sights.held low } }) tt)
    (λ none. quiet_kept me (IsWatching s) d i valid none))

sees_keeps : (d : List ℕ → Bool) (s : Watcher) (origin : Origin) (words : List ℕ) → IsWatching s → has seeing words ≡ true → (o : Option Data) → Keeps d s (Content origin words) (sees s origin o)
sees_keeps d s origin words valid e (Some (more a_unit (more (an_unsigned least) no_data))) = seeks_keeps d s origin words valid e least
sees_keeps d s origin words valid e _ = failed_kept (fixed s.identity interface) (IsWatching s) d (Content origin words) valid

given_keeps : (d : List ℕ → Bool) (s : Watcher) (origin : Origin) (words : List ℕ) → IsWatching s → Keeps d s (Content origin words) (given s origin words)
given_keeps d s origin words valid =
    let i = Content origin words in
    on_if (Keeps d s i) (has watching words) (watches s) _
    (λ e. watches_keeps d s origin words valid e)
    (λ _. on_if (Keeps d s i) (has linking words) (links s) _
    (λ e. links_keeps d s origin words valid e)
    (λ _. on_if (Keeps d s i) (has seeing words) (sees s origin (asked seeing words)) (s, answers failed)
    (λ e. sees_keeps d s origin words valid e (asked seeing words))
    (λ _. failed_kept (fixed s.identity interface) (IsWatching s) d i valid)))

-- ---- down notices

deliveries : (who : Who) (p : ℕ) (why : Reason) (gone : List ℕ) → AreRising 0 gone → (hs : List Sought) → AllByRecursion (IsLawfulOutput who (Down p why)) (map (told gone) hs)
deliveries who p why gone rising [] = tt
deliveries who p why gone rising (h ∷ hs) = (record { targets = tt; content = places_sound gone rising; at_stop = λ e. absurd cc; at_ticks = λ e. tt }, deliveries who p why gone rising hs)

downed_keeps : (d : List ℕ → Bool) (s : Watcher) (p : ℕ) (why : Reason) → IsWatching s → Keeps d s (Down p why) (downed s p)
downed_keeps d s p why valid =
    let after = sights_downed s.sights p valid.sights in
    let gone = with_down s.sights.gone p in
    let reached = filter (is_reached (length gone)) s.sights.held in
    record {
      same = refl;
      valid = record { who = valid.who; sights = after };
      outputs = deliveries s.identity p why gone after.gone reached;
      few = (let none = count_none (told gone) (λ h. refl) reached in omega arith);
      answer = tt;
    }

pub keeps : (d : List ℕ → Bool) (s : Watcher) (i : PlainInput) → IsWatching s → Keeps d s i (reacted s i)
keeps d s (Content origin words) valid = given_keeps d s origin words valid
keeps d s (Down p why) valid = downed_keeps d s p why valid
keeps d s Start valid = quiet_kept (fixed s.identity interface) (IsWatching s) d Start valid tt
keeps d s Stop valid = quiet_kept (fixed s.identity interface) (IsWatching s) d Stop valid tt
keeps d s (Response tag words) valid = quiet_kept (fixed s.identity interface) (IsWatching s) d (Response tag words) valid tt
keeps d s (Failed tag why) valid = quiet_kept (fixed s.identity interface) (IsWatching s) d (Failed tag why) valid tt
keeps d s Tick valid = quiet_kept (fixed s.identity interface) (IsWatching s) d Tick valid tt
