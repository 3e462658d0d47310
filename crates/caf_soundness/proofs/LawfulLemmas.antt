-- What no reaction of a kind changes, and what it answers: where a source and a conductor are concerned, of any value.
use Rattle.std.proofs.Common.{◌≡◌, ℕ, true, List, Some, refl, ap, sym, subst, ◌∙◌}
use Rattle.std.proofs.lemmas.Slice.Eq.{bytes_eq-Decides}
use Rattle.caf_message.specs.Content.{ids_in}
use Rattle.caf_actor.specs.declared.origin.Origin.{Origin}
use Rattle.caf_actor.specs.PlainInput.{PlainInput, Start, Stop, Content, Response, Failed, Down, Tick}
use Rattle.caf_actor.specs.PlainReaction.{Value}
use Rattle.caf_actor.specs.Rules.{MayBeGiven, IsSameActor, declared_for}
use Rattle.caf_kinds.specs.Asking.{Types, of_unit, type_ids, has, unit_content}
use Rattle.caf_kinds.specs.Conductor as conductor
use Rattle.caf_kinds.specs.Conductor.{Conducting}
use Rattle.caf_kinds.specs.Keeping.{on_if}
use Rattle.caf_kinds.specs.Kinds.{IsValid, interface, kind_rules, reacted}
use Rattle.caf_kinds.specs.Laws.{stays_valid, stays_same_actor, answers_as_declared}
use Rattle.caf_kinds.specs.Reacting.{Reacted, answers, failed}
use Rattle.caf_kinds.specs.Source as source
use Rattle.caf_kinds.specs.Source.{Sourced}
use Rattle.caf_kinds.specs.Who.{Who}
use Rattle.caf_kinds.specs.declared.kind.Kind.{Kind}
use Rattle.caf_kinds.specs.declared.kind.Kind.TheVariants as kind
use Rattle.caf_kinds.specs.declared.source.Stage.{Stage}
use Rattle.caf_kinds.specs.declared.source.Stage.TheVariants as stage

-- what is to be known of a value: nothing of a source's chunks and of a conductor's script
abbrev pub IsUsable : Kind → Type 0
IsUsable (kind.Source s) = Unit {0}
IsUsable (kind.Conductor s) = Unit {0}
IsUsable k = IsValid k

pub record IsLawful (k : Kind) (i : PlainInput) : Type 0 where
  pub usable : IsUsable (reacted k i).0
  pub same : IsSameActor IsValid kind_rules k (reacted k i).0
  pub declared : (origin : Origin) (words value : List ℕ) → i ≡ Content origin words → (reacted k i).1.answer ≡ Value value → declared_for (interface k) (ids_in words) ≡ Some (ids_in value)

-- ---- by the laws

content_declared : (k : Kind) (i : PlainInput) → IsValid k → MayBeGiven kind_rules k i → (origin : Origin) (words value : List ℕ) → i ≡ Content origin words → (reacted k i).1.answer ≡ Value value
    → declared_for (interface k) (ids_in words) ≡ Some (ids_in value)
content_declared k i valid may origin words value is e =
    answers_as_declared k origin words value valid (subst (MayBeGiven kind_rules k) is may) (subst (λ (j : PlainInput). (reacted k j).1.answer ≡ Value value) is e)

by_laws : (k : Kind) (i : PlainInput) → IsValid k → MayBeGiven kind_rules k i → IsUsable (reacted k i).0 → IsLawful k i
by_laws k i valid may usable = record { usable = usable; same = stays_same_actor k i valid may; declared = content_declared k i valid may }

-- ---- a source

abbrev Answers : List ℕ → Reacted Sourced → Type 0
Answers words r = (value : List ℕ) → r.1.answer ≡ Value value → declared_for source.interface (ids_in words) ≡ Some (ids_in value)

unit_declared : (types : Types) (words : List ℕ) → has types words ≡ true → declared_for source.interface (type_ids types) ≡ Some (type_ids of_unit) → (value : List ℕ) → Value unit_content ≡ Value value
    → declared_for source.interface (ids_in words) ≡ Some (ids_in value)
unit_declared types words e declares value q =
    let same : unit_content ≡ value = cc in
    let of_words : type_ids types ≡ ids_in words = (bytes_eq-Decides (type_ids types) (ids_in words)).0 e in
    subst (λ (v : List ℕ). declared_for source.interface (ids_in words) ≡ Some (ids_in v)) same
    (ap (declared_for source.interface) (sym of_words) ∙ declares)

start_answers : (s : Sourced) (words : List ℕ) → has source.starting words ≡ true → (at : Stage) → Answers words (source.on_start at s)
start_answers s words e stage.Waiting = unit_declared source.starting words e refl
start_answers s words e stage.Telling = unit_declared source.starting words e refl
start_answers s words e stage.Done = unit_declared source.starting words e refl

more_answers : (s : Sourced) (words : List ℕ) → has source.going_on words ≡ true → (at : Stage) → Answers words (source.on_more at s)
more_answers s words e stage.Waiting = unit_declared source.going_on words e refl
more_answers s words e stage.Telling = unit_declared source.going_on words e refl
more_answers s words e stage.Done = unit_declared source.going_on words e refl

source_answers : (s : Sourced) (words : List ℕ) → Answers words (source.given s words)
source_answers s words =
    on_if (Answers words) (has source.starting words) _ _ (λ e. start_answers s words e s.stage)
    (λ _. on_if (Answers words) (has source.going_on words) _ (s, answers failed) (λ e. more_answers s words e s.stage) (λ _. λ value q. absurd cc))

abbrev IsSame : Sourced → Reacted Sourced → Type 0
IsSame s r = r.0.identity ≡ s.identity

start_same : (s : Sourced) (at : Stage) → IsSame s (source.on_start at s)
start_same s stage.Waiting = refl
start_same s stage.Telling = refl
start_same s stage.Done = refl

more_same : (s : Sourced) (at : Stage) → IsSame s (source.on_more at s)
more_same s stage.Waiting = refl
more_same s stage.Telling = refl
more_same s stage.Done = refl

source_same : (s : Sourced) (i : PlainInput) → (source.reacted s i).0.identity ≡ s.identity
source_same s (Content origin words) =
    on_if (IsSame s) (has source.starting words) _ _ (λ _. start_same s s.stage)
    (λ _. on_if (IsSame s) (has source.going_on words) _ (s, answers failed) (λ _. more_same s s.stage) (λ _. refl))
source_same s Start = refl
source_same s Stop = refl
source_same s (Response tag words) = refl
source_same s (Failed tag why) = refl
source_same s (Down from why) = refl
source_same s Tick = refl

source_lawful : (s : Sourced) (i : PlainInput) → IsLawful (kind.Source s) i
source_lawful s i =
    let same = source_same s i in
    record {
      usable = tt;
      same = record {
        place = ap (λ (w : Who). w.place) same;
        interface = refl;
        peers = ap (λ (w : Who). w.peers) same;
        reserve = ap (λ (w : Who). w.reserve) same;
      };
      declared = λ origin words value is e. source_answers s words value (subst (λ (j : PlainInput). (source.reacted s j).1.answer ≡ Value value) is e);
    }

-- ---- a conductor

conductor_same : (s : Conducting) (i : PlainInput) → (conductor.reacted s i).0.identity ≡ s.identity
conductor_same s (Content origin words) = refl
conductor_same s Start = refl
conductor_same s Stop = refl
conductor_same s (Response tag words) = refl
conductor_same s (Failed tag why) = refl
conductor_same s (Down from why) = refl
conductor_same s Tick = refl

none_answered : (s : Conducting) (origin : Origin) (words value : List ℕ) → (conductor.reacted s (Content origin words)).1.answer ≡ Value value → ⊥
none_answered s origin words value e = cc

conductor_lawful : (s : Conducting) (i : PlainInput) → IsLawful (kind.Conductor s) i
conductor_lawful s i =
    let same = conductor_same s i in
    record {
      usable = tt;
      same = record {
        place = ap (λ (w : Who). w.place) same;
        interface = refl;
        peers = ap (λ (w : Who). w.peers) same;
        reserve = ap (λ (w : Who). w.reserve) same;
      };
      declared = λ origin words value is e. absurd (none_answered s origin words value (subst (λ (j : PlainInput). (conductor.reacted s j).1.answer ≡ Value value) is e));
    }

-- ---- any kind

pub lawful : (k : Kind) (i : PlainInput) → IsUsable k → MayBeGiven kind_rules k i → IsLawful k i
lawful (kind.Source s) i usable may = source_lawful s i
lawful (kind.Conductor s) i usable may = conductor_lawful s i
lawful (kind.Echo s) i usable may = by_laws (kind.Echo s) i usable may tt
lawful (kind.Cell s) i usable may = by_laws (kind.Cell s) i usable may (stays_valid (kind.Cell s) i usable may)
lawful (kind.Calc s) i usable may = by_laws (kind.Calc s) i usable may tt
lawful (kind.Holder s) i usable may = by_laws (kind.Holder s) i usable may (stays_valid (kind.Holder s) i usable may)
lawful (kind.Quitter s) i usable may = by_laws (kind.Quitter s) i usable may tt
lawful (kind.Relay s) i usable may = by_laws (kind.Relay s) i usable may tt
lawful (kind.Counter s) i usable may = by_laws (kind.Counter s) i usable may tt
lawful (kind.Lines s) i usable may = by_laws (kind.Lines s) i usable may tt
lawful (kind.Collector s) i usable may = by_laws (kind.Collector s) i usable may tt
lawful (kind.Watcher s) i usable may = by_laws (kind.Watcher s) i usable may (stays_valid (kind.Watcher s) i usable may)
lawful (kind.Spawner s) i usable may = by_laws (kind.Spawner s) i usable may (stays_valid (kind.Spawner s) i usable may)
lawful (kind.Alarm s) i usable may = by_laws (kind.Alarm s) i usable may tt
