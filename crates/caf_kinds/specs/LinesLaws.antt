-- A lines keeps the laws.
use Rattle.std.specs.Prelude.{◌≡◌, ℕ, suc, ◌+◌, ◌≤◌, ◌^◌, nat_lt, Bool, true, List, [], ◌∷◌, length, slice_get, Option, Some, refl}
use Rattle.std.proofs.Common.{arith}
use Rattle.std.proofs.lemmas.Bool.{lt-ltb, ltb-true}
use Rattle.std.specs.List.{list_all}
use Rattle.caf_actor.specs.declared.origin.Origin.{Origin}
use Rattle.caf_actor.specs.PlainInput.{PlainInput, Start, Stop, Content, Response, Failed, Down, Tick}
use Rattle.caf_actor.specs.PlainReaction.{PlainReaction}
use Rattle.caf_index.specs.Words.{is_line_end}
use Rattle.caf_index.specs.Chunks.{lines_of, before_lines}
use Rattle.caf_kinds.specs.Asking.{type_ids, has, asked}
use Rattle.caf_kinds.specs.Who.{fixed}
use Rattle.caf_kinds.specs.Reacting.{Reacted, answers, failed}
use Rattle.caf_kinds.specs.Lawful.{IsLawful, IsSound}
use Rattle.caf_kinds.specs.Keeping.{on_if, first_of_and, unit_sound, answers_by, failed_kept, quiet_kept}
use Rattle.caf_kinds.specs.Pipeline.{of_chunk, chunk_in, extent_content}
use Rattle.caf_kinds.specs.PipelineLaws.{HasRanges, at_chunk, extent_sound, to_peer_lawful, to_peer_few}
use Rattle.caf_kinds.specs.Lines.{interface, extent_of, on_chunk, given, reacted}
use Rattle.caf_kinds.specs.declared.contents.Chunk.{Chunk}
use Rattle.caf_kinds.specs.declared.lines.Lines.{Lines}

-- bytes have no more lines than they are

one_more : (byte : ℕ) (lines : List (List ℕ)) (n : ℕ) → length lines ≤ n → length (before_lines byte lines) ≤ n + 1
one_more byte [] n h = omega arith
one_more byte (line ∷ lines) n h = omega arith

pub few_lines : (bytes : List ℕ) → length (lines_of bytes) ≤ length bytes
few_lines [] = omega arith
few_lines (byte ∷ bytes) =
    on_if (λ (ls : List (List ℕ)). length ls ≤ suc (length bytes)) (is_line_end byte) ((byte ∷ []) ∷ lines_of bytes) (before_lines byte (lines_of bytes))
    (λ _. omega (arith, few_lines bytes)) (λ _. omega (arith, one_more byte (lines_of bytes) (length bytes) (few_lines bytes)))

told_sound : (c : Chunk) → HasRanges c → IsSound (extent_content (extent_of c))
told_sound c h =
    let few = ltb-true (length c.bytes) (2 ^ 64) (first_of_and (nat_lt (length c.bytes) (2 ^ 64)) (list_all (λ b. nat_lt b 256) c.bytes) h.bytes) in
    extent_sound (extent_of c) h.file (lt-ltb (length (lines_of c.bytes)) (2 ^ 64) (omega (arith, few, few_lines c.bytes))) (lt-ltb (length c.bytes) (2 ^ 64) few)

abbrev Lawful : (List ℕ → Bool) → Lines → PlainInput → PlainReaction → Type 0
Lawful d s i r = IsLawful (fixed s.identity interface) (fixed s.identity interface) (Unit {0}) d i r

chunk_lawful : (d : List ℕ → Bool) (s : Lines) (origin : Origin) (words : List ℕ) → has of_chunk words ≡ true → (c : Chunk) → HasRanges c → Lawful d s (Content origin words) (on_chunk s (Some c))
chunk_lawful d s origin words e c h = record {
  same = refl;
  valid = tt;
  outputs = to_peer_lawful s.identity origin words (extent_content (extent_of c)) 0 (told_sound c h);
  few = omega (arith, to_peer_few (slice_get s.identity.peers 0) (extent_content (extent_of c)));
  answer = answers_by interface (type_ids of_chunk) origin words _ e refl unit_sound;
}

given_lawful : (d : List ℕ → Bool) (s : Lines) (origin : Origin) (words : List ℕ) → Lawful d s (Content origin words) (given s words)
given_lawful d s origin words =
    let me = fixed s.identity interface in
    let i = Content origin words in
    on_if (Lawful d s i) (has of_chunk words) (on_chunk s (chunk_in (asked of_chunk words))) (answers failed)
    (λ e. at_chunk (λ (o : Option Chunk). Lawful d s i (on_chunk s o)) words (failed_kept me (Unit {0}) d i tt) (chunk_lawful d s origin words e) (asked of_chunk words) refl)
    (λ _. failed_kept me (Unit {0}) d i tt)

abbrev pub Keeps : (List ℕ → Bool) → Lines → PlainInput → Reacted Lines → Type 0
Keeps d s i r = IsLawful (fixed s.identity interface) (fixed r.0.identity interface) (Unit {0}) d i r.1

pub keeps : (d : List ℕ → Bool) (s : Lines) (i : PlainInput) → Keeps d s i (reacted s i)
keeps d s (Content origin words) = given_lawful d s origin words
keeps d s Start = quiet_kept (fixed s.identity interface) (Unit {0}) d Start tt tt
keeps d s Stop = quiet_kept (fixed s.identity interface) (Unit {0}) d Stop tt tt
keeps d s (Response tag words) = quiet_kept (fixed s.identity interface) (Unit {0}) d (Response tag words) tt tt
keeps d s (Failed tag why) = quiet_kept (fixed s.identity interface) (Unit {0}) d (Failed tag why) tt tt
keeps d s (Down place why) = quiet_kept (fixed s.identity interface) (Unit {0}) d (Down place why) tt tt
keeps d s Tick = quiet_kept (fixed s.identity interface) (Unit {0}) d Tick tt tt
