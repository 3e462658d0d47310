-- A counter keeps the laws.
use Rattle.std.specs.Prelude.{◌≡◌, ℕ, Bool, true, List, slice_get, Option, refl}
use Rattle.std.proofs.Common.{arith}
use Rattle.caf_actor.specs.declared.origin.Origin.{Origin}
use Rattle.caf_actor.specs.PlainInput.{PlainInput, Start, Stop, Content, Response, Failed, Down, Tick}
use Rattle.caf_actor.specs.PlainReaction.{PlainReaction}
use Rattle.caf_kinds.specs.Asking.{type_ids, has, asked}
use Rattle.caf_kinds.specs.Who.{fixed}
use Rattle.caf_kinds.specs.Reacting.{Reacted, answers, failed, unsigned}
use Rattle.caf_kinds.specs.Lawful.{IsLawful, IsSound}
use Rattle.caf_kinds.specs.Keeping.{on_if, unit_sound, unsigned_sound, answers_by, answer_kept, failed_kept, quiet_kept}
use Rattle.caf_kinds.specs.Pipeline.{of_chunk, counting, chunk_in, postings_content, to_peer, sends}
use Rattle.caf_kinds.specs.PipelineLaws.{at_chunk, to_peer_lawful, to_peer_few}
use Rattle.caf_kinds.specs.PostingsLaws.{postings_sound}
use Rattle.caf_kinds.specs.Counter.{interface, postings_at, is_small, told, on_chunk, given, reacted}
use Rattle.caf_kinds.specs.declared.contents.Chunk.{Chunk}
use Rattle.caf_kinds.specs.declared.counter.Counter.{Counter}

abbrev Lawful : (List ℕ → Bool) → Counter → PlainInput → PlainReaction → Type 0
Lawful d s i r = IsLawful (fixed s.identity interface) (fixed s.identity interface) (Unit {0}) d i r

told_lawful : (d : List ℕ → Bool) (s : Counter) (origin : Origin) (words : List ℕ) → has of_chunk words ≡ true → (content : List ℕ) → IsSound content → Lawful d s (Content origin words) (told s content)
told_lawful d s origin words e content sound =
    on_if (Lawful d s (Content origin words)) (is_small content) (sends (to_peer (slice_get s.identity.peers 0) content)) (answers failed)
    (λ _. record {
      same = refl;
      valid = tt;
      outputs = to_peer_lawful s.identity origin words content 0 sound;
      few = omega (arith, to_peer_few (slice_get s.identity.peers 0) content);
      answer = answers_by interface (type_ids of_chunk) origin words _ e refl unit_sound;
    })
    (λ _. failed_kept (fixed s.identity interface) (Unit {0}) d (Content origin words) tt)

abbrev pub Keeps : (List ℕ → Bool) → Counter → PlainInput → Reacted Counter → Type 0
Keeps d s i r = IsLawful (fixed s.identity interface) (fixed r.0.identity interface) (Unit {0}) d i r.1

given_keeps : (d : List ℕ → Bool) (s : Counter) (origin : Origin) (words : List ℕ) → Keeps d s (Content origin words) (given s words)
given_keeps d s origin words =
    let me = fixed s.identity interface in
    let i = Content origin words in
    on_if (Keeps d s i) (has of_chunk words) (on_chunk s (chunk_in (asked of_chunk words))) _
    (λ e. at_chunk (λ (o : Option Chunk). Keeps d s i (on_chunk s o)) words (failed_kept me (Unit {0}) d i tt)
    (λ c h. told_lawful d s origin words e (postings_content (postings_at c)) (postings_sound c h)) (asked of_chunk words) refl)
    (λ _. on_if (Keeps d s i) (has counting words) (s, answers (unsigned s.count)) (s, answers failed)
    (λ e. answer_kept me me (Unit {0}) d i (unsigned s.count) refl tt (answers_by interface (type_ids counting) origin words _ e refl (unsigned_sound s.count)))
    (λ _. failed_kept me (Unit {0}) d i tt))

pub keeps : (d : List ℕ → Bool) (s : Counter) (i : PlainInput) → Keeps d s i (reacted s i)
keeps d s (Content origin words) = given_keeps d s origin words
keeps d s Start = quiet_kept (fixed s.identity interface) (Unit {0}) d Start tt tt
keeps d s Stop = quiet_kept (fixed s.identity interface) (Unit {0}) d Stop tt tt
keeps d s (Response tag words) = quiet_kept (fixed s.identity interface) (Unit {0}) d (Response tag words) tt tt
keeps d s (Failed tag why) = quiet_kept (fixed s.identity interface) (Unit {0}) d (Failed tag why) tt tt
keeps d s (Down place why) = quiet_kept (fixed s.identity interface) (Unit {0}) d (Down place why) tt tt
keeps d s Tick = quiet_kept (fixed s.identity interface) (Unit {0}) d Tick tt tt
