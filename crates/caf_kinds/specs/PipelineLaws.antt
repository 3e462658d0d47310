-- What the actors of a pipeline tell is sound, where what they were asked is, and goes to peers.
use Rattle.std.specs.Prelude.{◌≡◌, ℕ, zero, suc, ◌≤◌, ◌<◌, ◌^◌, ◌&&◌, nat_lt, Bool, true, false, List, [], ◌∷◌, ◌++◌, length, slice_get, Option, Some, None, Contains, refl}
use Rattle.std.proofs.Common.{arith}
use Rattle.std.specs.List.{AllByRecursion}
use Rattle.std.proofs.lemmas.List.Elements.{Contains-append_left}
use Rattle.caf_words.specs.Datum.{Data, no_data, more, an_unsigned, some_bytes, an_object, is_in_range, are_bytes}
use Rattle.caf_actor.specs.declared.origin.Origin.{Origin}
use Rattle.caf_actor.specs.PlainInput.{Content}
use Rattle.caf_actor.specs.Rules.{outputs_count}
use Rattle.caf_kinds.specs.Asking.{type_ids, type_shapes, asked}
use Rattle.caf_kinds.specs.Who.{Who}
use Rattle.caf_kinds.specs.Contents.{chunk_means, extent_means, summary_means, total_means, finish_means}
use Rattle.caf_kinds.specs.Lawful.{IsSound, IsTarget, IsLawfulOutput}
use Rattle.caf_kinds.specs.Keeping.{first_of_and, second_of_and, asked_is, below}
use Rattle.caf_kinds.specs.Pipeline.{of_chunk, of_extent, of_summary, of_total, of_finish, chunk_content, extent_content, summary_content, total_content, finish_content, stopped, chunk_in, to_peer}
use Rattle.caf_kinds.specs.declared.contents.Chunk.{Chunk}
use Rattle.caf_kinds.specs.declared.contents.Extent.{Extent}

pub both_true : (a b : Bool) → a ≡ true → b ≡ true → (a && b) ≡ true
both_true true b p q = q
both_true false b p q = p

-- ---- chunks that were asked

-- the parts of a chunk are in their ranges
pub record HasRanges (c : Chunk) : Type 0 where
  pub file : nat_lt c.file (2 ^ 64) ≡ true
  pub number : nat_lt c.number (2 ^ 64) ≡ true
  pub line : nat_lt c.line (2 ^ 64) ≡ true
  pub bytes : are_bytes c.bytes ≡ true

pub has_ranges : (c : Chunk) → is_in_range (chunk_means c) ≡ true → HasRanges c
has_ranges c e =
    let rest = second_of_and (nat_lt c.file (2 ^ 64)) _ e in
    let others = second_of_and (nat_lt c.number (2 ^ 64)) _ rest in
    let last = second_of_and (nat_lt c.line (2 ^ 64)) _ others in
    record {
      file = first_of_and (nat_lt c.file (2 ^ 64)) _ e;
      number = first_of_and (nat_lt c.number (2 ^ 64)) _ rest;
      line = first_of_and (nat_lt c.line (2 ^ 64)) _ others;
      bytes = first_of_and (are_bytes c.bytes) true last;
    }

pub in_range : (c : Chunk) → HasRanges c → is_in_range (chunk_means c) ≡ true
in_range c h =
    both_true (nat_lt c.file (2 ^ 64)) _ h.file
    (both_true (nat_lt c.number (2 ^ 64)) _ h.number (both_true (nat_lt c.line (2 ^ 64)) _ h.line (both_true (are_bytes c.bytes) true h.bytes refl)))

-- what holds where no chunk was asked, and at each chunk whose parts are in their ranges, holds at what was asked
pub at_chunk : (P : Option Chunk → Type 0) (words : List ℕ) → P None → ((c : Chunk) → HasRanges c → P (Some c)) → (o : Option Data) → asked of_chunk words ≡ o → P (chunk_in o)
at_chunk P words none some (Some (more (an_object (more (an_unsigned file) (more (an_unsigned number) (more (an_unsigned line) (more (some_bytes bytes) no_data))))) no_data)) e =
    let c : Chunk = record { file = file; number = number; line = line; bytes = bytes } in
    some c (has_ranges c (first_of_and (is_in_range (chunk_means c)) true (asked_is (type_ids of_chunk) (type_shapes of_chunk) words (more (chunk_means c) no_data) e).range))
at_chunk P words none some _ e = none

-- ---- contents

pub chunk_sound : (c : Chunk) → is_in_range (chunk_means c) ≡ true → IsSound (chunk_content c)
chunk_sound c e = (of_chunk, record { core = refl; values = more (chunk_means c) no_data; words_are = refl; fit = refl; range = both_true (is_in_range (chunk_means c)) true e refl })

pub extent_sound : (x : Extent) → nat_lt x.file (2 ^ 64) ≡ true → nat_lt x.lines (2 ^ 64) ≡ true → nat_lt x.bytes (2 ^ 64) ≡ true → IsSound (extent_content x)
extent_sound x file lines bytes = (of_extent, record { core = refl; values = more (extent_means x) no_data; words_are = refl; fit = refl; range = rw (file, lines, bytes) refl })

pub summary_sound : (words postings : ℕ) → IsSound (summary_content (record { words = stopped words; postings = stopped postings }))
summary_sound words postings = (of_summary, record { core = refl; values = more (summary_means (record { words = stopped words; postings = stopped postings })) no_data; words_are = refl; fit = refl; range = rw (below words, below postings) refl })

pub total_sound : (lines bytes : ℕ) → IsSound (total_content (record { lines = stopped lines; bytes = stopped bytes }))
total_sound lines bytes = (of_total, record { core = refl; values = more (total_means (record { lines = stopped lines; bytes = stopped bytes })) no_data; words_are = refl; fit = refl; range = rw (below lines, below bytes) refl })

pub finish_sound : (chunks : ℕ) → IsSound (finish_content (record { chunks = stopped chunks }))
finish_sound chunks = (of_finish, record { core = refl; values = more (finish_means (record { chunks = stopped chunks })) no_data; words_are = refl; fit = refl; range = rw (below chunks) refl })

-- ---- where it goes

peer_there : (peers : List ℕ) (n p : ℕ) → slice_get peers n ≡ Some p → Contains peers p
peer_there [] n p e = absurd cc
peer_there (x ∷ xs) zero p e = (zero, omega arith, cc)
peer_there (x ∷ xs) (suc n) p e = let k = peer_there xs n p e in (suc k.0, let lt : k.0 < length xs = k.1 in omega arith, k.2)

later : (x : ℕ) (xs : List ℕ) (p : ℕ) → Contains xs p → Contains (x ∷ xs) p
later x xs p k = (suc k.0, let lt : k.0 < length xs = k.1 in omega arith, k.2)

-- a peer may be sent to
pub is_target : (who : Who) (p : ℕ) → Contains who.peers p → IsTarget who p
is_target who p has = later who.place (who.peers ++ who.reserve) p (Contains-append_left who.peers who.reserve p has)

pub peer_is_target : (who : Who) (n p : ℕ) → slice_get who.peers n ≡ Some p → IsTarget who p
peer_is_target who n p e = is_target who p (peer_there who.peers n p e)

pub itself_is_target : (who : Who) → IsTarget who who.place
itself_is_target who = (zero, omega arith, refl)

-- sound content to a peer
pub to_peer_lawful : (who : Who) (origin : Origin) (given words : List ℕ) (n : ℕ) → IsSound words → AllByRecursion (IsLawfulOutput who (Content origin given)) (to_peer (slice_get who.peers n) words)
to_peer_lawful who origin given words n sound = go (slice_get who.peers n) refl
  where
    go : (o : Option ℕ) → slice_get who.peers n ≡ o → AllByRecursion (IsLawfulOutput who (Content origin given)) (to_peer o words)
    go None e = tt
    go (Some p) e = (record { targets = (peer_is_target who n p e, tt); content = sound; at_stop = λ q. absurd cc; at_ticks = λ q. tt }, tt)

pub to_peer_few : (o : Option ℕ) (words : List ℕ) → outputs_count (to_peer o words) ≤ 1
to_peer_few None words = omega arith
to_peer_few (Some p) words = omega arith
