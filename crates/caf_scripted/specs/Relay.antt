-- A behaviour that replaces each number that it is given and tells it on, and its laws.
use Rattle.std.specs.Prelude.{◌≡◌, ℕ, ◌≤◌, bytes_eq, codes, if◌then◌else◌, Bool, true, false, List, [], ◌∷◌, ◌++◌, Option, Some, None, refl, Contains}
use Rattle.std.proofs.Common.{ap, arith}
use Rattle.std.specs.List.{AllByRecursion}
use Rattle.std.specs.Option.{option_map}
use Rattle.caf_types.specs.ShapeTree.{ShapeTree, unsigned}
use Rattle.caf_types.specs.Table.{Named, shape_at, named}
use Rattle.caf_types.specs.declared.sec.Sec.TheVariants as sec
use Rattle.caf_message.specs.Content.{ids_in}
use Rattle.caf_message.specs.Entries.{entry_shape}
use Rattle.caf_actor.specs.declared.origin.Origin.{Origin}
use Rattle.caf_actor.specs.Answering.{is_asked}
use Rattle.caf_actor.specs.PlainInput.{PlainInput, Start, Stop, Content, Response, Failed, Down, Tick}
use Rattle.caf_actor.specs.PlainOutput.{PlainOutput}
use Rattle.caf_actor.specs.PlainOutput as output
use Rattle.caf_actor.specs.PlainReaction.{PlainAnswer, PlainReaction}
use Rattle.caf_actor.specs.PlainReaction as answer
use Rattle.caf_actor.specs.Rules.{Rules, OutputFits, ReactionFits, IsTarget, HasTargets, output_targets, answer_targets, outputs_count, is_tick, IsNoTick, IsExit, StaysValid, StaysSameActor, SkipsInputs, FitsItsTable, FitsItsEntries, AnswersRequests, AnswersAsDeclared, DelegatesAsTold, SendsToPeers, SendsFew, TicksAtTicks, StopsWithExits}
use Rattle.caf_scripted.specs.declared.relay.Relay.{Relay}
use Rattle.caf_scripted.specs.declared.relay.TheConstants.{RELAYED}
use Rattle.caf_scripted.specs.Scripted.{ignore, number_content, scripted_entries}
use Rattle.caf_scripted.specs.Laws.{number_fits, entry_is_there, ignore_fits, ignores, ignore_answers}

-- ---- what it does

abbrev pub is_number : List ℕ → Bool
is_number words = bytes_eq (2 ∷ []) (ids_in words)

abbrev pub told_on : Relay → Origin → List ℕ → List PlainOutput
told_on r origin words = if is_number words then output.Tell r.peer origin.priority (number_content RELAYED) ∷ [] else []

abbrev pub relayed : Relay → Origin → List ℕ → PlainReaction
relayed r origin words = record { outputs = told_on r origin words; answer = ignore origin; quit = None }

abbrev pub nothing : PlainReaction
nothing = record { outputs = []; answer = answer.Nothing; quit = None }

abbrev pub relay_reaction : Relay → PlainInput → PlainReaction
relay_reaction r (Content origin words) = relayed r origin words
relay_reaction r _ = nothing

abbrev pub relay_rules : Rules Relay
relay_rules = record {
  place = λ r. r.place;
  interface = λ r. r.interface;
  peers = λ r. r.peer ∷ [];
  reserve = λ r. r.reserve;
  skips = λ r ids. false;
  delegates = λ r ids. false;
  next = λ r i. r;
  reaction = relay_reaction;
}

abbrev pub AnyRelay : Relay → Type 0
AnyRelay r = Unit {0}

-- ---- its laws

pub stays_valid : StaysValid AnyRelay relay_rules
stays_valid r i valid given = tt

pub stays_same_actor : StaysSameActor AnyRelay relay_rules
stays_same_actor r i valid given = record { place = refl; interface = refl; peers = refl; reserve = refl }

pub skips_inputs : SkipsInputs AnyRelay relay_rules
skips_inputs r ids valid h = cc

told_on_fits : (shape_of : ℕ → Option ShapeTree) → shape_of 2 ≡ Some unsigned → (r : Relay) (origin : Origin) (words : List ℕ) → AllByRecursion (OutputFits shape_of) (told_on r origin words)
told_on_fits shape_of known r origin words = go (is_number words)
  where
    go : (b : Bool) → AllByRecursion (OutputFits shape_of) (if b then output.Tell r.peer origin.priority (number_content RELAYED) ∷ [] else [])
    go true = (number_fits shape_of known RELAYED, tt)
    go false = tt

all_fit : (shape_of : ℕ → Option ShapeTree) → shape_of 2 ≡ Some unsigned → (r : Relay) (i : PlainInput) → ReactionFits shape_of (relay_reaction r i)
all_fit shape_of known r (Content origin words) = record { outputs = told_on_fits shape_of known r origin words; answer = ignore_fits shape_of origin }
all_fit shape_of known r Start = record { outputs = tt; answer = tt }
all_fit shape_of known r Stop = record { outputs = tt; answer = tt }
all_fit shape_of known r (Response tag words) = record { outputs = tt; answer = tt }
all_fit shape_of known r (Failed tag why) = record { outputs = tt; answer = tt }
all_fit shape_of known r (Down place why) = record { outputs = tt; answer = tt }
all_fit shape_of known r Tick = record { outputs = tt; answer = tt }

pub fits_its_table : FitsItsTable AnyRelay relay_rules scripted_entries
fits_its_table t r i has valid given h = all_fit (shape_at t) (ap (option_map (λ (n : Named). n.shape)) (has 2 (named (codes "unsigned") unsigned) entry_is_there)) r i

pub fits_its_entries : FitsItsEntries AnyRelay relay_rules scripted_entries
fits_its_entries r i valid given h = all_fit (entry_shape scripted_entries) (ap (option_map (λ (n : Named). n.shape)) entry_is_there) r i

pub answers_requests : AnswersRequests AnyRelay relay_rules
answers_requests r origin words valid given asked q = ignore_answers origin asked q

pub answers_as_declared : AnswersAsDeclared AnyRelay relay_rules
answers_as_declared r origin words value valid given q = absurd (ignores origin value q)

delegates_nothing : (origin : Origin) (to : ℕ) → ignore origin ≡ answer.Delegate to → ⊥
delegates_nothing origin to q = go (is_asked origin) q
  where
    go : (b : Bool) → (if b then answer.Error sec.Failed else answer.Nothing) ≡ answer.Delegate to → ⊥
    go true e = cc
    go false e = cc

pub delegates_as_told : DelegatesAsTold AnyRelay relay_rules
delegates_as_told r origin words to valid given q = absurd (delegates_nothing origin to q)

told_on_goes : (r : Relay) (origin : Origin) (words : List ℕ) → AllByRecursion (λ o. AllByRecursion (IsTarget relay_rules r) (output_targets o)) (told_on r origin words)
told_on_goes r origin words = go (is_number words)
  where
    go : (b : Bool) → AllByRecursion (λ o. AllByRecursion (IsTarget relay_rules r) (output_targets o)) (if b then output.Tell r.peer origin.priority (number_content RELAYED) ∷ [] else [])
    go true = (((1, omega arith, refl), tt), tt)
    go false = tt

ignore_goes : (r : Relay) (origin : Origin) → AllByRecursion (IsTarget relay_rules r) (answer_targets (ignore origin))
ignore_goes r origin = go (is_asked origin)
  where
    go : (b : Bool) → AllByRecursion (IsTarget relay_rules r) (answer_targets (if b then answer.Error sec.Failed else answer.Nothing))
    go true = tt
    go false = tt

pub sends_to_peers : SendsToPeers AnyRelay relay_rules
sends_to_peers r (Content origin words) valid given = record { outputs = told_on_goes r origin words; answer = ignore_goes r origin }
sends_to_peers r Start valid given = record { outputs = tt; answer = tt }
sends_to_peers r Stop valid given = record { outputs = tt; answer = tt }
sends_to_peers r (Response tag words) valid given = record { outputs = tt; answer = tt }
sends_to_peers r (Failed tag why) valid given = record { outputs = tt; answer = tt }
sends_to_peers r (Down place why) valid given = record { outputs = tt; answer = tt }
sends_to_peers r Tick valid given = record { outputs = tt; answer = tt }

told_on_few : (r : Relay) (origin : Origin) (words : List ℕ) → outputs_count (told_on r origin words) ≤ 1024
told_on_few r origin words = go (is_number words)
  where
    go : (b : Bool) → outputs_count (if b then output.Tell r.peer origin.priority (number_content RELAYED) ∷ [] else []) ≤ 1024
    go true = omega arith
    go false = omega arith

pub sends_few : SendsFew AnyRelay relay_rules
sends_few r (Content origin words) valid given = told_on_few r origin words
sends_few r Start valid given = omega arith
sends_few r Stop valid given = omega arith
sends_few r (Response tag words) valid given = omega arith
sends_few r (Failed tag why) valid given = omega arith
sends_few r (Down place why) valid given = omega arith
sends_few r Tick valid given = omega arith

told_on_is_no_tick : (r : Relay) (origin : Origin) (words : List ℕ) → AllByRecursion IsNoTick (told_on r origin words)
told_on_is_no_tick r origin words = go (is_number words)
  where
    go : (b : Bool) → AllByRecursion IsNoTick (if b then output.Tell r.peer origin.priority (number_content RELAYED) ∷ [] else [])
    go true = (tt, tt)
    go false = tt

pub ticks_at_ticks : TicksAtTicks AnyRelay relay_rules
ticks_at_ticks r (Content origin words) valid given other = told_on_is_no_tick r origin words
ticks_at_ticks r Start valid given other = tt
ticks_at_ticks r Stop valid given other = tt
ticks_at_ticks r (Response tag words) valid given other = tt
ticks_at_ticks r (Failed tag why) valid given other = tt
ticks_at_ticks r (Down place why) valid given other = tt
ticks_at_ticks r Tick valid given other = tt

pub stops_with_exits : StopsWithExits AnyRelay relay_rules
stops_with_exits r valid = tt
