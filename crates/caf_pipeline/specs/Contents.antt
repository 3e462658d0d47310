-- Which contents come to which part of a pipeline, and the law that no others do.
use Rattle.std.specs.Prelude.{◌≡◌, ℕ, ◌+◌, ◌<◌, ◌==◌, ◌&&◌, ◌||◌, ◌^◌, not, bytes_eq, Bool, true, false, List, [], ◌∷◌, ◌++◌, length, map, slice_get, Option, Some, None}
use Rattle.std.specs.List.{AllByRecursion, list_any}
use Rattle.caf_actor.specs.Actor.{ActorState}
use Rattle.caf_actor.specs.declared.snapshot.Snapshot.{Snapshot}
use Rattle.caf_actor.specs.Answering.{is_asked}
use Rattle.caf_actor.specs.Merge.{IsMerge}
use Rattle.caf_actor.specs.PlainInput.{PlainInput, Start, Content, Response, Failed}
use Rattle.caf_actor.specs.Record.{Kept, machine_of, IsLegal, heard, joined}
use Rattle.caf_actor.specs.Run.{Turn}
use Rattle.caf_kinds.specs.FileChunks.{all_chunks, AreByteLists}
use Rattle.caf_kinds.specs.Kinds.{kind_rules}
use Rattle.caf_kinds.specs.Pipeline.{chunk_content}
use Rattle.caf_kinds.specs.Relay.{lowered}
use Rattle.caf_kinds.specs.Setups.{setup_at}
use Rattle.caf_kinds.specs.Source.{more_content}
use Rattle.caf_kinds.specs.declared.contents.Chunk.{Chunk}
use Rattle.caf_kinds.specs.declared.kind.Kind.{Kind}
use Rattle.caf_kinds.specs.declared.script.Step.{Step}
use Rattle.caf_kinds.specs.declared.setup.KindName.{KindName}
use Rattle.caf_kinds.specs.declared.setup.KindName.TheVariants as name
use Rattle.caf_kinds.specs.declared.setup.Setup.{Setup}
use Rattle.caf_opening.specs.Opening.{opening_of}
use Rattle.caf_steady.specs.Steady.{Brings}
use Rattle.caf_pipeline.specs.Undisturbed.{IsUndisturbed, HaveShortLines}
use Rattle.caf_pipeline.specs.Parts.{start_content, index_content, totals_content, told_postings, told_extent, told_finish}

-- ---- what comes, where these are the chunks of all files

-- the chunk as the relay tells it, and what a counter tells of that
abbrev pub relayed : Chunk → List ℕ
relayed c = chunk_content (lowered c)

abbrev pub counted : Chunk → List ℕ
counted c = told_postings (lowered c)

-- contents that are no requests: `own` are those that it tells itself
abbrev pub told_to : List Chunk → KindName → Bool → List (List ℕ)
told_to cs name.Source true = more_content ∷ []
told_to cs name.Source false = start_content ∷ []
told_to cs name.Lines own = map chunk_content cs
told_to cs name.Relay own = map chunk_content cs
told_to cs name.Counter own = map relayed cs
told_to cs name.Collector own = map counted cs ++ (map told_extent cs ++ told_finish (length cs) ∷ [])
told_to cs _ own = []

-- requests of place 0
abbrev pub asked_of : KindName → List (List ℕ)
asked_of name.Collector = index_content ∷ totals_content ∷ []
asked_of _ = []

abbrev pub is_one_of : List ℕ → List (List ℕ) → Bool
is_one_of words contents = list_any (bytes_eq words) contents

-- where no setup stands is the conductor, to which Start and replies come
abbrev pub comes_as : List Chunk → ℕ → Option Setup → PlainInput → Bool
comes_as cs place None Start = true
comes_as cs place None (Response tag words) = true
comes_as cs place None (Failed tag sec) = true
comes_as cs place None _ = false
comes_as cs place (Some s) (Content origin words) =
    (not (is_asked origin) && is_one_of words (told_to cs s.kind (origin.sender == place))) || ((origin.mid.requester == 0) && is_one_of words (asked_of s.kind))
comes_as cs place (Some s) _ = false

abbrev pub comes : List Setup → List Chunk → ℕ → PlainInput → Bool
comes setups cs place i = comes_as cs place (setup_at setups place) i

-- ---- records

-- bytes in short lines, and no more files and chunks than can be numbered
pub record AreIndexable (files : List (List ℕ)) : Type 0 where
  pub bytes : AreByteLists files
  pub short : HaveShortLines files
  pub few : length files < 2 ^ 64
  pub few_chunks : length (all_chunks files) < 2 ^ 64

-- each place begins as the opening says
pub record OpensAs (setups : List Setup) (script : List Step) (files : List (List ℕ)) (k : Kept (Snapshot Kind)) : Type 0 where
  pub places : k.places ≡ length setups + 1
  pub start : (p : ℕ) (a : ActorState Kind) → slice_get (opening_of setups script files) p ≡ Some a → k.start p ≡ a.snapshot

-- in a legal record that opens so, in which no tick and no Stop was taken, each place took only such contents
abbrev pub PartsTakeTheirContents : Type 0
PartsTakeTheirContents = (setups : List Setup) (script : List Step) (files : List (List ℕ)) (ticks : ℕ) (k : Kept (Snapshot Kind)) (ts : List Turn)
    → IsUndisturbed setups script → AreIndexable files → OpensAs setups script files k
    → IsLegal (machine_of kind_rules) ticks k → IsMerge k ts → heard (k.journal 0) ≡ []
    → (p : ℕ) → AllByRecursion (Brings (comes setups (all_chunks files) p)) (joined (k.journal p))
