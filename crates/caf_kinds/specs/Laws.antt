-- The laws of behaviours, for the kinds. That a kind keeps them is one line here.
use Rattle.std.specs.Prelude.{◌≡◌, ℕ, ◌==◌, ◌⊎◌, Bool, true, false, List, [], ◌∷◌, cond, Option, Some, None, refl}
use Rattle.std.proofs.Common.{ap, sym, ◌∙◌, subst, inl, inr}
use Rattle.std.proofs.lemmas.Bool.{lt-ltb}
use Rattle.std.proofs.lemmas.Cmp.{eq_by_cmp_equiv}
use Rattle.std.specs.Cmp.{nat_cmp_total, unsigned_tied}
use Rattle.std.specs.List.{AllByRecursion}
use Rattle.std.specs.Option.{option_map}
use Rattle.std.specs.Ordering.{nat_cmp, eq_by_cmp}
use Rattle.std.specs.FinMap as finite
use Rattle.caf_types.specs.ShapeTree.{ShapeTree}
use Rattle.caf_types.specs.Table.{Named, type_at, shape_at}
use Rattle.caf_words.proofs.SeveralLemmas.{several_spelled}
use Rattle.caf_message.specs.Content.{ids_in}
use Rattle.caf_message.specs.Entries.{entry_shape}
use Rattle.caf_message.specs.Fits.{Fits}
use Rattle.caf_message.proofs.FitsLemmas.{content_fits, Fits-more, entry_shapes_stand}
use Rattle.caf_actor.specs.Answering.{is_asked}
use Rattle.caf_actor.specs.PlainInput.{PlainInput, Start, Stop, Content, Response, Failed, Down, Tick}
use Rattle.caf_actor.specs.PlainOutput.{PlainOutput, content_sent}
use Rattle.caf_actor.specs.PlainReaction.{PlainAnswer, PlainReaction}
use Rattle.caf_actor.specs.PlainReaction as answer
use Rattle.caf_actor.specs.Rules.{WhereGiven, InputFits, OutputFits, AnswerFits, ReactionFits, MayBeGiven, output_targets, answer_targets, IsExit, IsNoTick, StaysValid, StaysSameActor, SkipsInputs, FitsItsTable, FitsItsEntries, AnswersRequests, AnswersAsDeclared, DelegatesAsTold, SendsToPeers, SendsFew, TicksAtTicks, StopsWithExits}
use Rattle.caf_kinds.specs.Core.{core, core_entries}
use Rattle.caf_kinds.specs.Asking.{type_ids, type_shapes}
use Rattle.caf_kinds.specs.Who.{Fixed}
use Rattle.caf_kinds.specs.Lawful.{IsSound, IsGiven, IsTarget, AnswersContent, IsLawfulAnswer, IsLawfulOutput, IsLawful}
use Rattle.caf_kinds.specs.EchoLaws as echo
use Rattle.caf_kinds.specs.CellLaws as cell
use Rattle.caf_kinds.specs.CalcLaws as calc
use Rattle.caf_kinds.specs.HolderLaws as holder
use Rattle.caf_kinds.specs.QuitterLaws as quitter
use Rattle.caf_kinds.specs.SourceLaws as source
use Rattle.caf_kinds.specs.RelayLaws as relay
use Rattle.caf_kinds.specs.CounterLaws as counter
use Rattle.caf_kinds.specs.LinesLaws as lines
use Rattle.caf_kinds.specs.CollectorLaws as collector
use Rattle.caf_kinds.specs.WatcherLaws as watcher
use Rattle.caf_kinds.specs.SpawnerLaws as spawner
use Rattle.caf_kinds.specs.AlarmLaws as alarm
use Rattle.caf_kinds.specs.ConductorLaws as conductor
use Rattle.caf_kinds.specs.declared.kind.Kind.{Kind}
use Rattle.caf_kinds.specs.declared.kind.Kind.TheVariants as kind
use Rattle.caf_kinds.specs.Kinds.{interface, fixed_of, IsValid, delegates, reacted, kind_rules}

-- ---- one line a kind

abbrev pub Keeps : Kind → PlainInput → Type 0
Keeps k i = IsLawful (fixed_of k) (fixed_of (reacted k i).0) (IsValid (reacted k i).0) (delegates k) i (reacted k i).1

pub keeps : (k : Kind) (i : PlainInput) → IsValid k → IsGiven (interface k) i → Keeps k i
keeps (kind.Echo s) i valid given = echo.keeps (delegates (kind.Echo s)) s i
keeps (kind.Cell s) i valid given = cell.keeps (delegates (kind.Cell s)) s i valid
keeps (kind.Calc s) i valid given = calc.keeps (delegates (kind.Calc s)) s i
keeps (kind.Holder s) i valid given = holder.keeps (delegates (kind.Holder s)) s i valid
keeps (kind.Quitter s) i valid given = quitter.keeps (delegates (kind.Quitter s)) s i
keeps (kind.Source s) i valid given = source.keeps (delegates (kind.Source s)) s i valid
keeps (kind.Relay s) i valid given = relay.keeps s i
keeps (kind.Counter s) i valid given = counter.keeps (delegates (kind.Counter s)) s i
keeps (kind.Lines s) i valid given = lines.keeps (delegates (kind.Lines s)) s i
keeps (kind.Collector s) i valid given = collector.keeps (delegates (kind.Collector s)) s i
keeps (kind.Watcher s) i valid given = watcher.keeps (delegates (kind.Watcher s)) s i valid
keeps (kind.Spawner s) i valid given = spawner.keeps s i valid
keeps (kind.Alarm s) i valid given = alarm.keeps (delegates (kind.Alarm s)) s i
keeps (kind.Conductor s) i valid given = conductor.keeps (delegates (kind.Conductor s)) s i valid

-- ---- the types of the kinds' table

found_is : (es : List (ℕ × Named)) (id : ℕ) → finite.find nat_cmp id es ≡ type_at es id
found_is [] id = refl
found_is (e ∷ es) id =
    let flipped : eq_by_cmp nat_cmp id e.0 ≡ (e.0 == id) = (eq_by_cmp_equiv nat_cmp_total).symm id e.0 ∙ unsigned_tied e.0 id in
    ap (λ (b : Bool). cond b (Some e.1) (finite.find nat_cmp id es)) flipped ∙ ap (λ (o : Option Named). cond (e.0 == id) (Some e.1) o) (found_is es id)

entry_at : (id : ℕ) → finite.get core_entries id ≡ type_at core.types id
entry_at id = finite.get-from_entries nat_cmp_total core.types id ∙ found_is core.types id

pub core_is_needed : (id : ℕ) (f : ShapeTree) → shape_at core id ≡ Some f → entry_shape core_entries id ≡ Some f
core_is_needed id f e = ap (option_map (λ (n : Named). n.shape)) (entry_at id) ∙ e

-- ---- what fits

-- the shapes that the kinds' table has
abbrev Grows : (ℕ → Option ShapeTree) → Type 0
Grows shape_of = (id : ℕ) (f : ShapeTree) → shape_at core id ≡ Some f → shape_of id ≡ Some f

sound_fits : (shape_of : ℕ → Option ShapeTree) → Grows shape_of → (words : List ℕ) → IsSound words → Fits shape_of words
sound_fits shape_of grows words (types, is) =
    Fits-more (shape_at core) shape_of grows words
    (subst (Fits (shape_at core)) (sym is.words_are)
    (content_fits (shape_at core) (type_ids types) (type_shapes types) is.values is.core (several_spelled (type_shapes types) is.values is.fit is.range)))

all_map : {A : Type 0} (P Q : A → Type 0) → ((x : A) → P x → Q x) → (xs : List A) → AllByRecursion P xs → AllByRecursion Q xs
all_map P Q f [] all = tt
all_map P Q f (x ∷ xs) all = (f x all.0, all_map P Q f xs all.1)

where_map : (P Q : List ℕ → Type 0) → ((words : List ℕ) → P words → Q words) → (o : Option (List ℕ)) → WhereGiven P o → WhereGiven Q o
where_map P Q f None h = tt
where_map P Q f (Some words) h = f words h

module _ (shape_of : ℕ → Option ShapeTree) (grows : Grows shape_of) (me : Fixed) (d : List ℕ → Bool) where
  output_fits : (i : PlainInput) (o : PlainOutput) → IsLawfulOutput me.who i o → OutputFits shape_of o
  output_fits i o is = where_map IsSound (Fits shape_of) (sound_fits shape_of grows) (content_sent o) is.content

  value_fits : (given words : List ℕ) → Fits shape_of given → IsSound words ⊎ (words ≡ given) → Fits shape_of words
  value_fits given words fit (inl is) = sound_fits shape_of grows words is
  value_fits given words fit (inr same) = subst (Fits shape_of) (sym same) fit

  content_answer_fits : (i : PlainInput) (words : List ℕ) → InputFits shape_of i → AnswersContent me.interface i words → Fits shape_of words
  content_answer_fits (Content origin given) words fit is = value_fits given words fit is.1
  content_answer_fits Start words fit is = absurd is
  content_answer_fits Stop words fit is = absurd is
  content_answer_fits (Response tag given) words fit is = absurd is
  content_answer_fits (Failed tag why) words fit is = absurd is
  content_answer_fits (Down place why) words fit is = absurd is
  content_answer_fits Tick words fit is = absurd is

  answer_fits : (i : PlainInput) (a : PlainAnswer) → InputFits shape_of i → IsLawfulAnswer me d i a → AnswerFits shape_of a
  answer_fits i (answer.Value words) fit is = content_answer_fits i words fit is
  answer_fits i (answer.Error sec) fit is = tt
  answer_fits i (answer.Delegate to) fit is = tt
  answer_fits i answer.Hold fit is = tt
  answer_fits i answer.Nothing fit is = tt

  reaction_fits : (after : Fixed) (V : Type 0) (i : PlainInput) (r : PlainReaction) → InputFits shape_of i → IsLawful me after V d i r → ReactionFits shape_of r
  reaction_fits after V i r fit is = record {
    outputs = all_map (IsLawfulOutput me.who i) (OutputFits shape_of) (output_fits i) r.outputs is.outputs;
    answer = answer_fits i r.answer fit is.answer;
  }

-- ---- the laws

given_is : (k : Kind) (i : PlainInput) → MayBeGiven kind_rules k i → IsGiven (interface k) i
given_is k (Content origin words) given = given
given_is k Start given = tt
given_is k Stop given = tt
given_is k (Response tag words) given = tt
given_is k (Failed tag why) given = tt
given_is k (Down place why) given = tt
given_is k Tick given = tt

-- what a kind keeps, where it may be given the input
kept : (k : Kind) (i : PlainInput) → IsValid k → MayBeGiven kind_rules k i → Keeps k i
kept k i valid given = keeps k i valid (given_is k i given)

pub stays_valid : StaysValid IsValid kind_rules
stays_valid k i valid given = (kept k i valid given).valid

pub stays_same_actor : StaysSameActor IsValid kind_rules
stays_same_actor k i valid given =
    let same = (kept k i valid given).same in
    record {
      place = ap (λ (f : Fixed). f.who.place) same;
      interface = ap (λ (f : Fixed). f.interface) same;
      peers = ap (λ (f : Fixed). f.who.peers) same;
      reserve = ap (λ (f : Fixed). f.who.reserve) same;
    }

pub skips_inputs : SkipsInputs IsValid kind_rules
skips_inputs (kind.Echo s) ids valid e = echo.skips_inputs s ids e
skips_inputs _ ids valid e = absurd cc

pub fits_its_table : FitsItsTable IsValid kind_rules core_entries
fits_its_table t k i has valid given fit =
    reaction_fits (shape_at t) (λ id f e. entry_shapes_stand t core_entries has id f (core_is_needed id f e)) (fixed_of k) (delegates k)
    (fixed_of (reacted k i).0) (IsValid (reacted k i).0) i (reacted k i).1 fit (kept k i valid given)

pub fits_its_entries : FitsItsEntries IsValid kind_rules core_entries
fits_its_entries k i valid given fit =
    reaction_fits (entry_shape core_entries) core_is_needed (fixed_of k) (delegates k)
    (fixed_of (reacted k i).0) (IsValid (reacted k i).0) i (reacted k i).1 fit (kept k i valid given)

pub answers_requests : AnswersRequests IsValid kind_rules
answers_requests k origin words valid given asked q =
    let is = (kept k (Content origin words) valid given).answer in
    let none : is_asked origin ≡ false = subst (IsLawfulAnswer (fixed_of k) (delegates k) (Content origin words)) q is in
    let some : is_asked origin ≡ true = lt-ltb 0 origin.mid.number asked in
    let bad : true ≡ false = sym some ∙ none in
    absurd cc

pub answers_as_declared : AnswersAsDeclared IsValid kind_rules
answers_as_declared k origin words value valid given q =
    let is = (kept k (Content origin words) valid given).answer in
    let answered : AnswersContent (interface k) (Content origin words) value = subst (IsLawfulAnswer (fixed_of k) (delegates k) (Content origin words)) q is in
    answered.0

pub delegates_as_told : DelegatesAsTold IsValid kind_rules
delegates_as_told k origin words to valid given q =
    let is = (kept k (Content origin words) valid given).answer in
    let passed : (delegates k (ids_in words) ≡ true) × IsTarget (fixed_of k).who to = subst (IsLawfulAnswer (fixed_of k) (delegates k) (Content origin words)) q is in
    passed.0

answer_goes : (me : Fixed) (d : List ℕ → Bool) (i : PlainInput) (a : PlainAnswer) → IsLawfulAnswer me d i a → AllByRecursion (IsTarget me.who) (answer_targets a)
answer_goes me d i (answer.Value words) is = tt
answer_goes me d i (answer.Error sec) is = tt
answer_goes me d i (answer.Delegate to) is = (is.1, tt)
answer_goes me d i answer.Hold is = tt
answer_goes me d i answer.Nothing is = tt

pub sends_to_peers : SendsToPeers IsValid kind_rules
sends_to_peers k i valid given =
    let is = kept k i valid given in
    record {
      outputs = all_map (IsLawfulOutput (fixed_of k).who i) (λ o. AllByRecursion (IsTarget (fixed_of k).who) (output_targets o)) (λ o out. out.targets) (reacted k i).1.outputs is.outputs;
      answer = answer_goes (fixed_of k) (delegates k) i (reacted k i).1.answer is.answer;
    }

pub sends_few : SendsFew IsValid kind_rules
sends_few k i valid given = (kept k i valid given).few

pub ticks_at_ticks : TicksAtTicks IsValid kind_rules
ticks_at_ticks k i valid given other =
    all_map (IsLawfulOutput (fixed_of k).who i) IsNoTick (λ o out. out.at_ticks other) (reacted k i).1.outputs (kept k i valid given).outputs

pub stops_with_exits : StopsWithExits IsValid kind_rules
stops_with_exits k valid =
    all_map (IsLawfulOutput (fixed_of k).who Stop) IsExit (λ o out. out.at_stop refl) (reacted k Stop).1.outputs (kept k Stop valid tt).outputs
