-- A relay keeps the laws.
use Rattle.std.specs.Prelude.{◌≡◌, ℕ, ◌%◌, ◌^◌, nat_lt, true, List, [], ◌∷◌, length, map, slice_get, Option, Some, None, refl}
use Rattle.std.proofs.Common.{arith, ap, ◌∙◌}
use Rattle.std.proofs.lemmas.Bool.Decides.{nat_tests}
use Rattle.std.proofs.lemmas.List.{length-map}
use Rattle.std.specs.List.{list_all}
use Rattle.caf_words.specs.Datum.{are_bytes}
use Rattle.caf_actor.specs.declared.origin.Origin.{Origin}
use Rattle.caf_actor.specs.PlainInput.{PlainInput, Start, Stop, Content, Response, Failed, Down, Tick}
use Rattle.caf_actor.specs.PlainReaction.{PlainReaction}
use Rattle.caf_index.specs.Words.{lower_case}
use Rattle.caf_kinds.specs.Asking.{type_ids, has, asked}
use Rattle.caf_kinds.specs.Who.{fixed}
use Rattle.caf_kinds.specs.Reacting.{Reacted, answers, failed}
use Rattle.caf_kinds.specs.Lawful.{IsLawful, IsLawfulAnswer, IsSound}
use Rattle.caf_kinds.specs.Keeping.{on_if, first_of_and, second_of_and, unit_sound, answers_by, answer_kept, failed_kept, quiet_kept}
use Rattle.caf_kinds.specs.Pipeline.{of_chunk, counting, chunk_in, chunk_content, passed_to}
use Rattle.caf_kinds.specs.PipelineLaws.{HasRanges, both_true, in_range, at_chunk, chunk_sound, to_peer_lawful, to_peer_few, peer_is_target}
use Rattle.caf_kinds.specs.Relay.{interface, lowered, peer_for, on_chunk, given, delegates, reacted}
use Rattle.caf_kinds.specs.declared.contents.Chunk.{Chunk}
use Rattle.caf_kinds.specs.declared.relay.Relay.{Relay}

-- bytes in lower case are bytes

lower_byte : (b : ℕ) → nat_lt b 256 ≡ true → nat_lt (lower_case b) 256 ≡ true
lower_byte b e = grind (arith, nat_tests)

lower_bytes : (bs : List ℕ) → list_all (λ b. nat_lt b 256) bs ≡ true → list_all (λ b. nat_lt b 256) (map lower_case bs) ≡ true
lower_bytes [] e = refl
lower_bytes (b ∷ bs) e =
    both_true (nat_lt (lower_case b) 256) _ (lower_byte b (first_of_and (nat_lt b 256) (list_all (λ b. nat_lt b 256) bs) e)) (lower_bytes bs (second_of_and (nat_lt b 256) (list_all (λ b. nat_lt b 256) bs) e))

lower_are_bytes : (bs : List ℕ) → are_bytes bs ≡ true → are_bytes (map lower_case bs) ≡ true
lower_are_bytes bs e =
    both_true (nat_lt (length (map lower_case bs)) (2 ^ 64)) _
    (ap (λ n. nat_lt n (2 ^ 64)) (length-map bs lower_case) ∙ first_of_and (nat_lt (length bs) (2 ^ 64)) (list_all (λ b. nat_lt b 256) bs) e)
    (lower_bytes bs (second_of_and (nat_lt (length bs) (2 ^ 64)) (list_all (λ b. nat_lt b 256) bs) e))

lowered_sound : (c : Chunk) → HasRanges c → IsSound (chunk_content (lowered c))
lowered_sound c h = chunk_sound (lowered c) (in_range (lowered c) (record { file = h.file; number = h.number; line = h.line; bytes = lower_are_bytes c.bytes h.bytes }))

abbrev Lawful : Relay → PlainInput → PlainReaction → Type 0
Lawful s i r = IsLawful (fixed s.identity interface) (fixed s.identity interface) (Unit {0}) delegates i r

chunk_lawful : (s : Relay) (origin : Origin) (words : List ℕ) → has of_chunk words ≡ true → (c : Chunk) → HasRanges c → Lawful s (Content origin words) (on_chunk s (Some c))
chunk_lawful s origin words e c h = record {
  same = refl;
  valid = tt;
  outputs = to_peer_lawful s.identity origin words (chunk_content (lowered c)) (c.number % length s.identity.peers) (lowered_sound c h);
  few = omega (arith, to_peer_few (peer_for s.identity.peers c.number) (chunk_content (lowered c)));
  answer = answers_by interface (type_ids of_chunk) origin words _ e refl unit_sound;
}

-- it is passed on where that was said of its types
passes : (s : Relay) (origin : Origin) (words : List ℕ) → has counting words ≡ true → (o : Option ℕ) → slice_get s.identity.peers 0 ≡ o → IsLawfulAnswer (fixed s.identity interface) delegates (Content origin words) (passed_to o)
passes s origin words e None q = tt
passes s origin words e (Some p) q = (e, peer_is_target s.identity 0 p q)

given_lawful : (s : Relay) (origin : Origin) (words : List ℕ) → Lawful s (Content origin words) (given s words)
given_lawful s origin words =
    let me = fixed s.identity interface in
    let i = Content origin words in
    on_if (Lawful s i) (has of_chunk words) (on_chunk s (chunk_in (asked of_chunk words))) _
    (λ e. at_chunk (λ (o : Option Chunk). Lawful s i (on_chunk s o)) words (failed_kept me (Unit {0}) delegates i tt) (chunk_lawful s origin words e) (asked of_chunk words) refl)
    (λ _. on_if (Lawful s i) (has counting words) (answers (passed_to (slice_get s.identity.peers 0))) (answers failed)
    (λ e. answer_kept me me (Unit {0}) delegates i (passed_to (slice_get s.identity.peers 0)) refl tt (passes s origin words e (slice_get s.identity.peers 0) refl))
    (λ _. failed_kept me (Unit {0}) delegates i tt))

abbrev pub Keeps : Relay → PlainInput → Reacted Relay → Type 0
Keeps s i r = IsLawful (fixed s.identity interface) (fixed r.0.identity interface) (Unit {0}) delegates i r.1

pub keeps : (s : Relay) (i : PlainInput) → Keeps s i (reacted s i)
keeps s (Content origin words) = given_lawful s origin words
keeps s Start = quiet_kept (fixed s.identity interface) (Unit {0}) delegates Start tt tt
keeps s Stop = quiet_kept (fixed s.identity interface) (Unit {0}) delegates Stop tt tt
keeps s (Response tag words) = quiet_kept (fixed s.identity interface) (Unit {0}) delegates (Response tag words) tt tt
keeps s (Failed tag why) = quiet_kept (fixed s.identity interface) (Unit {0}) delegates (Failed tag why) tt tt
keeps s (Down place why) = quiet_kept (fixed s.identity interface) (Unit {0}) delegates (Down place why) tt tt
keeps s Tick = quiet_kept (fixed s.identity interface) (Unit {0}) delegates Tick tt tt
