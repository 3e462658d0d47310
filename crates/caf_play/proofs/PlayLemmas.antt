-- What a play shows, once its driver is taken apart.
use Rattle.std.proofs.Common.{◌≡◌, ℕ, zero, suc, ◌+◌, ◌<◌, List, [], ◌∷◌, length, map, Option, Some, Result, Ok, Err, refl, sym, ap, subst, ◌∙◌, arith}
use Rattle.std.specs.Prelude.{slice_get, slice_index_or, IfOk}
use Rattle.std.specs.List.{AllByRecursion}
use Rattle.std.proofs.lemmas.List.{length-map}
use Rattle.caf_actor.specs.Actor.{ActorState}
use Rattle.caf_actor.specs.Record.{Kept, ends}
use Rattle.caf_actor.specs.declared.journal.TakenBatch.{TakenBatch}
use Rattle.caf_actor.specs.declared.snapshot.Snapshot.{Snapshot}
use Rattle.caf_driver.specs.Driver.{DriverState, IsDriven, journals_of, record_in}
use Rattle.caf_driver.specs.Opening.{StartsAt}
use Rattle.caf_driver.proofs.ListLemmas.{get_some, field_at}
use Rattle.caf_kinds.specs.Kinds.{kind_rules}
use Rattle.caf_kinds.specs.declared.kind.Kind.{Kind}
use Rattle.caf_kinds.specs.declared.script.Step.{Step}
use Rattle.caf_kinds.specs.declared.setup.Setup.{Setup}
use Rattle.caf_opening.specs.Opening.{actors_from, conductor_at_0, opening_of, files_left}
use Rattle.caf_record.specs.RunRecord.{kept_from, record_of, HasStarts}
use Rattle.caf_play.specs.Ending.{machine, ticks_of, IsLegalWithin, EndsAs, HasEnded}
use Rattle.caf_play.specs.Parting.{kinds_of, HasParted}
use Rattle.caf_play.specs.declared.played.PlayEnd.{PlayEnd}
use Rattle.caf_play.specs.declared.played.PlayEnd.TheVariants as play
use Rattle.caf_play.specs.declared.played.Played.{Played}
use Rattle.caf_play.proofs.DriveLemmas.{at_end}

-- ---- the first stamps

abbrev at_0 : ActorState Kind → Type 0
at_0 a = a.snapshot.stamp ≡ 0

others_at_0 : (places : List Setup) (script : List Step) (p : ℕ) (setups : List Setup) (files : List (List ℕ)) → AllByRecursion at_0 (actors_from places script p setups files)
others_at_0 places script p [] files = tt
others_at_0 places script p (s ∷ setups) files = (refl, others_at_0 places script (p + 1) setups (files_left s.kind files))

all_at_0 : (places : List Setup) (script : List Step) (files : List (List ℕ)) → AllByRecursion at_0 (opening_of places script files)
all_at_0 places script files = (refl, others_at_0 places script 1 places files)

one_of : {A : Type 0} (P : A → Type 0) (xs : List A) (k : ℕ) (x : A) → AllByRecursion P xs → slice_get xs k ≡ Some x → P x
one_of P [] k x all at = absurd cc
one_of P (y ∷ ys) zero x all at = let same : y ≡ x = cc in subst P same all.0
one_of P (y ∷ ys) (suc k) x all at = one_of P ys k x all.1 at

begins_at_0 : (places : List Setup) (script : List Step) (files : List (List ℕ)) (start : ℕ → Snapshot Kind) → StartsAt start (opening_of places script files)
    → (p : ℕ) → p < length (opening_of places script files) → (start p).stamp ≡ 0
begins_at_0 places script files start starts p within =
    let a = get_some (opening_of places script files) p within in
    ap (λ (s : Snapshot Kind). s.stamp) (sym (starts p a.0 a.1)) ∙ one_of at_0 (opening_of places script files) p a.0 (all_at_0 places script files) a.1

zero_at : (stamps : List ℕ) (p : ℕ) → AllByRecursion (λ stamp. stamp ≡ 0) stamps → p < length stamps → slice_get stamps p ≡ Some 0
zero_at stamps p all within =
    let found = get_some stamps p within in
    found.1 ∙ ap (λ (n : ℕ). Some n) (one_of (λ stamp. stamp ≡ 0) stamps p found.0 all found.1)

-- snapshots with which these actors start
pub some_start : (places : List Setup) (script : List Step) (actors : List (ActorState Kind)) → (start : ℕ → Snapshot Kind) × StartsAt start actors
some_start places script actors =
    let other : Snapshot Kind = (conductor_at_0 places script).snapshot in (
      λ p. slice_index_or (map (λ (a : ActorState Kind). a.snapshot) actors) p other,
      λ p a at. sym (field_at (λ (x : ActorState Kind). x.snapshot) actors p a other at),
    )

-- ---- the record

same_record : (setups : ℕ) (start : ℕ → Snapshot Kind) (d : DriverState Kind) (e : PlayEnd) (played : Played) → HasParted setups d.actors e played
    → record_of start played.kept ≡ record_in start d
same_record setups start d e played parted =
    ap (λ (js : List (List TakenBatch)). kept_from start js played.kept.cut) parted.journals
    ∙ ap (λ (cut : Option ℕ). kept_from start (journals_of d) cut) parted.cut

legal_within : (all budget : ℕ) (k : Kept (Snapshot Kind)) (e : PlayEnd) → EndsAs all budget k e → IsLegalWithin all k
legal_within all budget k play.Done so = (all, (omega arith, so.complete.legal))
legal_within all budget k play.Budget so = (so.ticks, (so.few, so.legal))
legal_within all budget k (play.Exhausted p) so = (so.ticks, (so.few, so.legal))

-- ---- all of it

pub record Shows (all budget : ℕ) (start : ℕ → Snapshot Kind) (played : Played) : Type 0 where
  pub legal : IsLegalWithin all (record_of start played.kept)
  pub so : EndsAs all budget (record_of start played.kept) played.end
  pub kinds : (place : ℕ) (kind : Kind) → slice_get played.kinds place ≡ Some kind → (ends machine (record_of start played.kept) place).behavior ≡ kind
  pub starts : HasStarts machine start played.kept

kind_at : (actors : List (ActorState Kind)) (place : ℕ) (kind : Kind) → slice_get (kinds_of actors) place ≡ Some kind
    → (a : ActorState Kind) × (slice_get actors place ≡ Some a) × (a.snapshot.behavior ≡ kind)
kind_at [] place kind at = absurd cc
kind_at (a ∷ actors) zero kind at = (a, refl, cc)
kind_at (a ∷ actors) (suc place) kind at = kind_at actors place kind at

pub ok_to : {A E : Type 0} (P Q : A → Type 0) (r : Result A E) → IfOk r P → ((x : A) → P x → Q x) → IfOk r Q
ok_to P Q (Ok x) h to = to x h
ok_to P Q (Err e) h to = tt

pub shown : (all budget : ℕ) (places : List Setup) (script : List Step) (files : List (List ℕ)) (start : ℕ → Snapshot Kind) (d : DriverState Kind) (e : PlayEnd) (played : Played)
    → length (opening_of places script files) ≡ length places + 1 → StartsAt start (opening_of places script files)
    → HasEnded all budget start d e → HasParted (length places) d.actors e played → Shows all budget start played
shown all budget places script files start d e played count starts ended parted =
    let same = same_record (length places) start d e played parted in
    let so : EndsAs all budget (record_of start played.kept) played.end =
    subst (λ (k : Kept (Snapshot Kind)). EndsAs all budget k played.end) (sym same) (subst (EndsAs all budget (record_in start d)) (sym parted.end) ended.so) in
    let journals : length played.kept.journals ≡ length d.actors = ap length parted.journals ∙ length-map d.actors (λ (a : ActorState Kind). a.journal) in
    let stamps = parted.starts in
    let many = parted.count in
    record {
      legal = legal_within all budget (record_of start played.kept) played.end so;
      so = so;
      kinds = λ place kind at.
          let found = kind_at d.actors place kind (sym (ap (λ (ks : List Kind). slice_get ks place) parted.kinds) ∙ at) in
          ap (λ (k : Kept (Snapshot Kind)). (ends machine k place).behavior) same
          ∙ ap (λ (s : Snapshot Kind). s.behavior) (sym (at_end start d ended.legal ended.some place found.0 found.1))
          ∙ found.2;
      starts = record {
        count = omega (arith, journals, stamps);
        stamps = λ place within.
            zero_at played.kept.starts place parted.zeros (omega (arith, within, journals, stamps))
            ∙ ap (λ (n : ℕ). Some n) (sym (begins_at_0 places script files start starts place (omega (arith, within, journals, many, count))));
      };
    }

pub all_shown : {E : Type 0} (places : List Setup) (script : List Step) (files : List (List ℕ)) (ticks budget len : ℕ) (actors finished : List (ActorState Kind))
    (first last : DriverState Kind) (e : PlayEnd) (r : Result Played E)
    → actors ≡ opening_of places script files → length actors ≡ length places + 1
    → ((start : ℕ → Snapshot Kind) → StartsAt start actors → IsDriven kind_rules start first)
    → ((start : ℕ → Snapshot Kind) → IsDriven kind_rules start first → HasEnded ticks budget start last e)
    → ticks ≡ ticks_of script → len ≡ length places → finished ≡ last.actors → IfOk r (HasParted len finished e)
    → (start : ℕ → Snapshot Kind) → StartsAt start (opening_of places script files) → IfOk r (Shows (ticks_of script) budget start)
all_shown places script files ticks budget len actors finished first last e r same many driven ended counted long handed parted start starts =
    let led = driven start (subst (StartsAt start) (sym same) starts) in
    let over : HasEnded (ticks_of script) budget start last e = subst (λ (n : ℕ). HasEnded n budget start last e) counted (ended start led) in
    ok_to (HasParted len finished e) (Shows (ticks_of script) budget start) r parted
    (λ played parts. shown (ticks_of script) budget places script files start last e played (sym (ap length same) ∙ many) starts over
    (subst (λ (n : ℕ). HasParted n last.actors e played) long (subst (λ (those : List (ActorState Kind)). HasParted len those e played) handed parts)))
