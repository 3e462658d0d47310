-- What comes after Stop leaves the collector's index as it was.
use Rattle.std.proofs.Common.{◌≡◌, ℕ, zero, suc, ◌<◌, ◌==◌, Bool, true, false, List, [], ◌∷◌, refl, subst, ap, ◌∙◌, arith}
use Rattle.std.proofs.lemmas.Bool.Decides.{nat_tests}
use Rattle.caf_response.specs.Pending.{WaitingRequests}
use Rattle.caf_actor.specs.Record.{Kept, Machine, machine_of, AreNotices, ends, heard}
use Rattle.caf_actor.specs.Run.{Turn}
use Rattle.caf_actor.specs.declared.journal.TakenBatch.{TakenBatch}
use Rattle.caf_actor.specs.declared.snapshot.Snapshot.{Snapshot}
use Rattle.caf_kinds.specs.Kinds.{kind_rules, index_of}
use Rattle.caf_kinds.specs.declared.kind.Kind.{Kind}
use Rattle.caf_kinds.specs.declared.script.Step.{Step}
use Rattle.caf_kinds.specs.declared.setup.Setup.{Setup}
use Rattle.caf_pipeline.specs.Flow.{IsUndisturbedRecord}
use Rattle.caf_pipeline.specs.Indexed.{IsIndexed}
use Rattle.caf_pipeline.specs.Complete.{IsCompleteRecord, CompleteFilesAreIndexed}
use Rattle.caf_pipeline.proofs.CollectedLemmas.{starts}
use Rattle.caf_pipeline.proofs.CutLemmas.{AreParted, parted, kept_early, early_legal, early_merge, early_silent, early_rest, winds_down}
use Rattle.caf_pipeline.proofs.IdleLemmas.{IsPart, part_stays, HasPlayed, conductor_stays}
use Rattle.caf_pipeline.proofs.LateLemmas.{StaysIdle}
use Rattle.caf_pipeline.proofs.PlaceLemmas.{one_of_setups}
use Rattle.caf_pipeline.proofs.ScriptLemmas.{Anything, none_cached, is_a_part, conductor_played}
use Rattle.caf_pipeline.proofs.UndisturbedLemmas.{undisturbed_files_are_indexed}

module _ (setups : List Setup) (script : List Step) (files : List (List ℕ)) (k : Kept (Snapshot Kind)) (ts : List Turn) (is : IsCompleteRecord setups script files k ts) where
  abbrev m : Machine (Snapshot Kind)
  m = machine_of kind_rules

  -- no tick was taken, and Stop at most once
  pub no_second : (b c : TakenBatch) (bs : List TakenBatch) → heard (k.journal 0) ≡ b ∷ c ∷ bs → ⊥
  no_second b c bs e = let all = subst (AreNotices m 0 k 1) e is.complete.legal.notices in let few = all.1.0.number in omega (arith, few)

  module _ (at : AreParted ts) where
    abbrev early : Kept (Snapshot Kind)
    early = kept_early kind_rules k ts is.complete.legal is.merge at

    abbrev pub up_to_stop : IsUndisturbedRecord setups script files 0 early at.early
    up_to_stop = record {
      undisturbed = is.undisturbed;
      indexable = is.indexable;
      opens = record { places = is.opens.places; start = is.opens.start };
      legal = early_legal kind_rules k ts is.complete.legal is.merge at;
      merge = early_merge kind_rules k ts is.complete.legal is.merge at;
      silent = early_silent kind_rules k ts is.complete.legal is.merge at;
    }

    abbrev value : ℕ → Kind
    value p = (ends m early p).behavior

    abbrev IdleIf : Bool → Kind → Kind → WaitingRequests → Type 0
    IdleIf true v b w = HasPlayed Anything b w
    IdleIf false v b w = IsPart v b

    idle_stays : (b : Bool) (v : Kind) → StaysIdle kind_rules (IdleIf b v)
    idle_stays true v = conductor_stays Anything (λ s w number found sec known e. tt) (λ rs w known. tt)
    idle_stays false v = part_stays v

    idle_at : (p : ℕ) → p < k.places → IdleIf (p == 0) (value p) (value p) (ends m early p).pending
    idle_at zero low = conductor_played setups script files 0 early at.early up_to_stop (early_rest kind_rules k ts is.complete.legal is.merge at) low
    idle_at (suc p) low = let no : (suc p == 0) ≡ false = grind (arith, nat_tests) in rw no (record { part = is_a_part setups script files 0 early at.early up_to_stop p low; is = refl })

    stays_put : (p : ℕ) → 0 < p → p < k.places → (ends m k p).behavior ≡ value p
    stays_put p above low =
        let down = winds_down kind_rules k ts is.complete.legal is.merge at (λ q. IdleIf (q == 0) (value q)) (λ q. idle_stays (q == 0) (value q)) idle_at (none_cached setups script files 0 early at.early up_to_stop) p low in
        let no : (p == 0) ≡ false = grind (arith, nat_tests, above) in
        let part : IsPart (value p) (ends m k p).behavior = rw no at down in
        part.is

    indexed_at : IsIndexed k is.undisturbed.pipeline files
    indexed_at =
        let col = is.undisturbed.pipeline.collector in
        let up = is.undisturbed.actors.collector in
        let above = (one_of_setups setups col up.setup up.at).from_1 in
        let low = (starts setups script files 0 early at.early up_to_stop col up.setup up.at).within in
        ap index_of (stays_put col above low) ∙ undisturbed_files_are_indexed setups script files 0 early at.early up_to_stop (early_rest kind_rules k ts is.complete.legal is.merge at)

  indexed : IsIndexed k is.undisturbed.pipeline files
  indexed = go (heard (k.journal 0)) refl
    where
      go : (bs : List TakenBatch) → heard (k.journal 0) ≡ bs → IsIndexed k is.undisturbed.pipeline files
      go [] e =
          undisturbed_files_are_indexed setups script files 0 k ts
          (record { undisturbed = is.undisturbed; indexable = is.indexable; opens = is.opens; legal = is.complete.legal; merge = is.merge; silent = e }) is.complete.rest
      go (b ∷ []) e = indexed_at (parted ts b (ap heard (is.merge.parts 0) ∙ e))
      go (b ∷ c ∷ bs) e = absurd (no_second b c bs e)

pub complete_files_are_indexed : CompleteFilesAreIndexed
complete_files_are_indexed setups script files k ts is = indexed setups script files k ts is
