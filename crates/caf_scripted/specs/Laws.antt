-- The laws of behaviours, for scripted ones.
use Rattle.std.specs.Prelude.{◌≡◌, ℕ, ◌+◌, ◌≤◌, ◌<◌, nat_le, bytes_eq, if◌then◌else◌, Bool, true, false, List, [], ◌∷◌, ◌++◌, length, map, codes, cond, min, Option, Some, None, refl, Contains}
use Rattle.std.proofs.Common.{zero, suc, ◌||◌, slice_index_or, ap, sym, ◌∙◌, arith}
use Rattle.std.proofs.lemmas.Bool.{lt-ltb, leb-true}
use Rattle.std.proofs.lemmas.Slice.Eq.{bytes_eq-Decides}
use Rattle.std.specs.List.{AllByRecursion, list_any}
use Rattle.std.specs.FinMap as finite
use Rattle.std.specs.Option.{option_map}
use Rattle.std.specs.Cmp.{nat_cmp_total}
use Rattle.caf_types.specs.ShapeTree.{ShapeTree, unsigned}
use Rattle.caf_types.specs.Table.{Named, Table, shape_at, named}
use Rattle.caf_types.specs.declared.sec.Sec.TheVariants as sec
use Rattle.caf_types.specs.declared.reason.Reason.{Reason}
use Rattle.caf_words.specs.Several.{ids_of}
use Rattle.caf_words.specs.Datum.{an_unsigned, no_data, more}
use Rattle.caf_message.specs.Content.{ids_in}
use Rattle.caf_message.specs.Entries.{HasEntries, entry_shape}
use Rattle.caf_message.specs.Fits.{Fits}
use Rattle.caf_signature.specs.declared.interface.Signature.{Signature}
use Rattle.caf_actor.specs.declared.origin.Origin.{Origin}
use Rattle.caf_actor.specs.Answering.{is_asked}
use Rattle.caf_actor.specs.PlainInput.{PlainInput, Start, Stop, Content, Response, Failed, Down, Tick}
use Rattle.caf_actor.specs.PlainOutput.{PlainOutput}
use Rattle.caf_actor.specs.PlainReaction.{PlainAnswer, PlainReaction}
use Rattle.caf_actor.specs.PlainReaction as answer
use Rattle.caf_actor.specs.Rules.{InputFits, OutputFits, AnswerFits, ReactionFits, IsTarget, HasTargets, signature_for, declared_for, is_input, output_targets, answer_targets, outputs_count, StaysValid, StaysSameActor, SkipsInputs, FitsItsTable, FitsItsEntries, AnswersRequests, AnswersAsDeclared, DelegatesAsTold, SendsToPeers, SendsFew, TicksAtTicks, StopsWithExits, IsNoTick, IsExit}
use Rattle.caf_actor.proofs.InterfaceLemmas.{found_takes}
use Rattle.caf_scripted.specs.declared.act.Act.{Act}
use Rattle.caf_scripted.specs.declared.act.Sending.{Sending}
use Rattle.caf_scripted.specs.declared.act.Sending.TheVariants as sending
use Rattle.caf_scripted.specs.declared.act.Reply.{Reply}
use Rattle.caf_scripted.specs.declared.act.Reply.TheVariants as reply
use Rattle.caf_scripted.specs.declared.act.Cue.{Cue}
use Rattle.caf_scripted.specs.declared.act.Signal.{Signal}
use Rattle.caf_scripted.specs.declared.act.Signal.TheVariants as signal
use Rattle.caf_scripted.specs.Script.{last_act, is_delegate, passes_on, no_tick, without_ticks, exits_alone}
use Rattle.caf_scripted.specs.declared.scripted.Scripted.{Scripted}
use Rattle.caf_scripted.specs.Scripted.{act_now, first_peer, takes_first, echo_by, ignore, few, answer_by, output_by, outputs_by, reaction_to, cue_now, number_content, own_origin, signal_output, signals_by, reaction_by, reaction, scripted_rules, scripted_entries}

abbrev pub AnyValue : Scripted → Type 0
AnyValue s = Unit {0}

pub stays_valid : StaysValid AnyValue scripted_rules
stays_valid s i valid given = tt

pub stays_same_actor : StaysSameActor AnyValue scripted_rules
stays_same_actor s Start valid given = record { place = refl; interface = refl; peers = refl; reserve = refl }
stays_same_actor s Stop valid given = record { place = refl; interface = refl; peers = refl; reserve = refl }
stays_same_actor s (Content origin words) valid given = record { place = refl; interface = refl; peers = refl; reserve = refl }
stays_same_actor s (Response tag words) valid given = record { place = refl; interface = refl; peers = refl; reserve = refl }
stays_same_actor s (Failed tag why) valid given = record { place = refl; interface = refl; peers = refl; reserve = refl }
stays_same_actor s (Down place why) valid given = record { place = refl; interface = refl; peers = refl; reserve = refl }
stays_same_actor s Tick valid given = record { place = refl; interface = refl; peers = refl; reserve = refl }

-- ---- skips

first_is_input : (interface : List Signature) (ids : List ℕ) → takes_first interface ids ≡ true → is_input interface ids ≡ true
first_is_input [] ids h = cc
first_is_input (s ∷ ss) ids h = rw h refl

pub skips_inputs : SkipsInputs AnyValue scripted_rules
skips_inputs s ids valid h = go s.is_asleep refl
  where
    go : (b : Bool) → s.is_asleep ≡ b → is_input s.interface ids ≡ true
    go true e = first_is_input s.interface ids (rw e at h)
    go false e = let no : false ≡ true = rw e at h in cc

-- ---- what fits

echo_fits : (shape_of : ℕ → Option ShapeTree) (found : Option Signature) (words : List ℕ) → Fits shape_of words → AnswerFits shape_of (echo_by found words)
echo_fits shape_of None words h = tt
echo_fits shape_of (Some s) words h = go (bytes_eq (ids_of s.result) (ids_of s.input))
  where
    go : (b : Bool) → AnswerFits shape_of (if b then answer.Value words else answer.Error sec.Failed)
    go true = h
    go false = tt

pub ignore_fits : (shape_of : ℕ → Option ShapeTree) (origin : Origin) → AnswerFits shape_of (ignore origin)
ignore_fits shape_of origin = go (is_asked origin)
  where
    go : (b : Bool) → AnswerFits shape_of (if b then answer.Error sec.Failed else answer.Nothing)
    go true = tt
    go false = tt

answer_fits : (shape_of : ℕ → Option ShapeTree) (s : Scripted) (to : ℕ) (origin : Origin) (words : List ℕ) (r : Reply) → Fits shape_of words → AnswerFits shape_of (answer_by s to origin words r)
answer_fits shape_of s to origin words reply.Echo h = echo_fits shape_of (signature_for s.interface (ids_in words)) words h
answer_fits shape_of s to origin words reply.Fail h = tt
answer_fits shape_of s to origin words reply.Ignore h = ignore_fits shape_of origin
answer_fits shape_of s to origin words reply.Delegate h = tt
answer_fits shape_of s to origin words reply.Hold h = tt

output_fits : (shape_of : ℕ → Option ShapeTree) (s : Scripted) (to : ℕ) (origin : Origin) (words : List ℕ) (what : Sending) → Fits shape_of words → OutputFits shape_of (output_by s to origin words what)
output_fits shape_of s to origin words sending.Tell h = h
output_fits shape_of s to origin words sending.Fan h = h
output_fits shape_of s to origin words (sending.Ask mode tag expected) h = h
output_fits shape_of s to origin words (sending.Exit why) h = tt
output_fits shape_of s to origin words sending.Link h = tt
output_fits shape_of s to origin words sending.Unlink h = tt
output_fits shape_of s to origin words sending.Watch h = tt
output_fits shape_of s to origin words sending.Unwatch h = tt
output_fits shape_of s to origin words (sending.Deliver requester number) h = h
output_fits shape_of s to origin words (sending.Break requester number why) h = tt
output_fits shape_of s to origin words sending.Spawn h = tt
output_fits shape_of s to origin words (sending.Delay ticks) h = h
output_fits shape_of s to origin words (sending.AskWithin ticks mode tag expected) h = h

outputs_fit : (shape_of : ℕ → Option ShapeTree) (s : Scripted) (to : ℕ) (origin : Origin) (words : List ℕ) (what : Option Sending) → Fits shape_of words → AllByRecursion (OutputFits shape_of) (outputs_by s to origin words what)
outputs_fit shape_of s to origin words None h = tt
outputs_fit shape_of s to origin words (Some what) h = (output_fits shape_of s to origin words what h, tt)

both_fit : (shape_of : ℕ → Option ShapeTree) (xs ys : List PlainOutput) → AllByRecursion (OutputFits shape_of) xs → AllByRecursion (OutputFits shape_of) ys → AllByRecursion (OutputFits shape_of) (xs ++ ys)
both_fit shape_of [] ys h k = k
both_fit shape_of (x ∷ xs) ys h k = (h.0, both_fit shape_of xs ys h.1 k)

reaction_fits : (shape_of : ℕ → Option ShapeTree) (s : Scripted) (to : ℕ) (origin : Origin) (words : List ℕ) (a : Act) → Fits shape_of words → ReactionFits shape_of (reaction_to s to origin words a)
reaction_fits shape_of s to origin words a h = record { outputs = both_fit shape_of (outputs_by s to origin words a.sending) (outputs_by s to origin words a.afterwards) (outputs_fit shape_of s to origin words a.sending h) (outputs_fit shape_of s to origin words a.afterwards h); answer = answer_fits shape_of s to origin words a.reply h }

pub number_fits : (shape_of : ℕ → Option ShapeTree) → shape_of 2 ≡ Some unsigned → (n : ℕ) → Fits shape_of (number_content n)
number_fits shape_of known n = record {
  ids = 2 ∷ [];
  values = more (an_unsigned (min n 18446744073709551615)) no_data;
  means = record {
    shapes = unsigned ∷ [];
    have_shapes = ap (λ (o : Option ShapeTree). o ∷ []) known;
    are_values = (an_unsigned (min n 18446744073709551615), no_data, refl, min n 18446744073709551615 ∷ [], [], (min n 18446744073709551615, omega arith, refl, refl), (refl, refl), refl);
    words_are = refl;
  };
}

signals_fit : (shape_of : ℕ → Option ShapeTree) (what : Signal) (places : List ℕ) → AllByRecursion (OutputFits shape_of) (map (signal_output what) places)
signals_fit shape_of what [] = tt
signals_fit shape_of (signal.Exit why) (p ∷ ps) = (tt, signals_fit shape_of (signal.Exit why) ps)
signals_fit shape_of signal.Tick (p ∷ ps) = (tt, signals_fit shape_of signal.Tick ps)

signals_by_fit : (shape_of : ℕ → Option ShapeTree) (peers : List ℕ) (what : Option Signal) → AllByRecursion (OutputFits shape_of) (signals_by peers what)
signals_by_fit shape_of peers None = tt
signals_by_fit shape_of peers (Some what) = signals_fit shape_of what (few peers)

cue_fits : (shape_of : ℕ → Option ShapeTree) → shape_of 2 ≡ Some unsigned → (s : Scripted) (c : Cue) → ReactionFits shape_of (reaction_by s c)
cue_fits shape_of known s c =
    let to = first_peer s.place s.peers in
    let words = number_content c.number in
    record { outputs = both_fit shape_of (outputs_by s to (own_origin s.place) words c.sending) (signals_by s.peers c.signal) (outputs_fit shape_of s to (own_origin s.place) words c.sending (number_fits shape_of known c.number)) (signals_by_fit shape_of s.peers c.signal); answer = tt }

all_fit : (shape_of : ℕ → Option ShapeTree) → shape_of 2 ≡ Some unsigned → (s : Scripted) (i : PlainInput) → InputFits shape_of i → ReactionFits shape_of (reaction s i)
all_fit shape_of known s Start h = cue_fits shape_of known s (without_ticks (cue_now s))
all_fit shape_of known s Stop h = cue_fits shape_of known s (exits_alone (cue_now s))
all_fit shape_of known s (Content origin words) h = reaction_fits shape_of s (first_peer s.place s.peers) origin words (act_now s) h
all_fit shape_of known s (Response tag words) h = cue_fits shape_of known s (without_ticks (cue_now s))
all_fit shape_of known s (Failed tag why) h = cue_fits shape_of known s (without_ticks (cue_now s))
all_fit shape_of known s (Down place why) h = cue_fits shape_of known s (without_ticks (cue_now s))
all_fit shape_of known s Tick h = cue_fits shape_of known s (cue_now s)

pub entry_is_there : finite.get scripted_entries 2 ≡ Some (named (codes "unsigned") unsigned)
entry_is_there = finite.get-insert nat_cmp_total finite.empty 2 (named (codes "unsigned") unsigned) 2

pub fits_its_table : FitsItsTable AnyValue scripted_rules scripted_entries
fits_its_table t s i has valid given h = all_fit (shape_at t) (ap (option_map (λ (n : Named). n.shape)) (has 2 (named (codes "unsigned") unsigned) entry_is_there)) s i h

pub fits_its_entries : FitsItsEntries AnyValue scripted_rules scripted_entries
fits_its_entries s i valid given h = all_fit (entry_shape scripted_entries) (ap (option_map (λ (n : Named). n.shape)) entry_is_there) s i h

-- ---- answers

abbrev is_nothing : PlainAnswer → Bool
is_nothing answer.Nothing = true
is_nothing _ = false

echo_is_no_nothing : (found : Option Signature) (words : List ℕ) → is_nothing (echo_by found words) ≡ false
echo_is_no_nothing None words = refl
echo_is_no_nothing (Some s) words = go (bytes_eq (ids_of s.result) (ids_of s.input))
  where
    go : (b : Bool) → is_nothing (if b then answer.Value words else answer.Error sec.Failed) ≡ false
    go true = refl
    go false = refl

is_no_nothing : (s : Scripted) (to : ℕ) (origin : Origin) (words : List ℕ) (r : Reply) → is_asked origin ≡ true → is_nothing (answer_by s to origin words r) ≡ false
is_no_nothing s to origin words reply.Echo asked = echo_is_no_nothing (signature_for s.interface (ids_in words)) words
is_no_nothing s to origin words reply.Fail asked = refl
is_no_nothing s to origin words reply.Ignore asked = rw asked refl
is_no_nothing s to origin words reply.Delegate asked = refl
is_no_nothing s to origin words reply.Hold asked = refl

pub ignore_answers : (origin : Origin) → 0 < origin.mid.number → ignore origin ≡ answer.Nothing → ⊥
ignore_answers origin asked q = let no : ◌≡◌ {A = PlainAnswer} (answer.Error sec.Failed) answer.Nothing = rw (lt-ltb 0 origin.mid.number asked) at q in cc

pub answers_requests : AnswersRequests AnyValue scripted_rules
answers_requests s origin words valid given asked q =
    let here = is_no_nothing s (first_peer s.place s.peers) origin words (act_now s).reply (lt-ltb 0 origin.mid.number asked) in
    let no : false ≡ true = sym here ∙ ap is_nothing q in
    cc

echo_declares : (interface : List Signature) (found : Option Signature) (words value : List ℕ) → signature_for interface (ids_in words) ≡ found → echo_by found words ≡ answer.Value value → declared_for interface (ids_in words) ≡ Some (ids_in value)
echo_declares interface None words value e q = cc
echo_declares interface (Some s) words value e q = go (bytes_eq (ids_of s.result) (ids_of s.input)) refl
  where
    go : (b : Bool) → bytes_eq (ids_of s.result) (ids_of s.input) ≡ b → declared_for interface (ids_in words) ≡ Some (ids_in value)
    go true same =
        let kept : ◌≡◌ {A = PlainAnswer} (answer.Value words) (answer.Value value) = rw same at q in
        let it : words ≡ value = cc in
        let takes = found_takes (ids_in words) interface s e in
        let result = (bytes_eq-Decides (ids_of s.result) (ids_of s.input)).0 same in
        rw e (ap (λ (ids : List ℕ). Some ids) (result ∙ takes ∙ ap ids_in it))
    go false other = let no : ◌≡◌ {A = PlainAnswer} (answer.Error sec.Failed) (answer.Value value) = rw other at q in cc

pub ignores : (origin : Origin) (value : List ℕ) → ignore origin ≡ answer.Value value → ⊥
ignores origin value q = go (is_asked origin) refl
  where
    go : (b : Bool) → is_asked origin ≡ b → ⊥
    go true e = let no : ◌≡◌ {A = PlainAnswer} (answer.Error sec.Failed) (answer.Value value) = rw e at q in cc
    go false e = let no : ◌≡◌ {A = PlainAnswer} answer.Nothing (answer.Value value) = rw e at q in cc

answer_declares : (s : Scripted) (to : ℕ) (origin : Origin) (words value : List ℕ) (r : Reply) → answer_by s to origin words r ≡ answer.Value value → declared_for s.interface (ids_in words) ≡ Some (ids_in value)
answer_declares s to origin words value reply.Echo q = echo_declares s.interface (signature_for s.interface (ids_in words)) words value refl q
answer_declares s to origin words value reply.Fail q = cc
answer_declares s to origin words value reply.Ignore q = absurd (ignores origin value q)
answer_declares s to origin words value reply.Delegate q = cc
answer_declares s to origin words value reply.Hold q = cc

pub answers_as_declared : AnswersAsDeclared AnyValue scripted_rules
answers_as_declared s origin words value valid given q = answer_declares s (first_peer s.place s.peers) origin words value (act_now s).reply q

-- ---- targets

first_is_target : (place : ℕ) (peers : List ℕ) → Contains (place ∷ peers) (first_peer place peers)
first_is_target place [] = (0, omega arith, refl)
first_is_target place (p ∷ ps) = (1, omega arith, refl)

behind : (xs : List ℕ) (x y : ℕ) → Contains xs x → Contains (y ∷ xs) x
behind xs x y h = let within = h.1 in (suc h.0, omega arith, h.2)

peers_are_targets : (all peers : List ℕ) (place : ℕ) → ((p : ℕ) → Contains peers p → Contains all p) → AllByRecursion (Contains (place ∷ all)) peers
peers_are_targets all [] place within = tt
peers_are_targets all (p ∷ ps) place within =
    (behind all p place (within p (0, omega arith, refl)), peers_are_targets all ps place (λ q h. within q (behind ps q p h)))

in_first : (xs ys : List ℕ) (x : ℕ) → Contains xs x → Contains (xs ++ ys) x
in_first [] ys x h = let within = h.1 in absurd (omega arith)
in_first (y ∷ xs) ys x h = at (in_first xs ys x) h.0 h.1 h.2
  where
    at : (Contains xs x → Contains (xs ++ ys) x) → (k : ℕ) → k < length (y ∷ xs) → slice_index_or (y ∷ xs) k x ≡ x → Contains ((y ∷ xs) ++ ys) x
    at later zero lt is = (0, omega arith, is)
    at later (suc k) lt is = behind (xs ++ ys) x y (later (k, omega arith, is))

in_second : (xs ys : List ℕ) (x : ℕ) → Contains ys x → Contains (xs ++ ys) x
in_second [] ys x h = h
in_second (y ∷ xs) ys x h = behind (xs ++ ys) x y (in_second xs ys x h)

first_peer_is_target : (s : Scripted) → IsTarget scripted_rules s (first_peer s.place s.peers)
first_peer_is_target s = in_first (s.place ∷ s.peers) s.reserve (first_peer s.place s.peers) (first_is_target s.place s.peers)

child_is_target : (s : Scripted) → IsTarget scripted_rules s (first_peer s.place s.reserve)
child_is_target s = go s.reserve (λ x h. in_second s.peers s.reserve x h)
  where
    go : (reserve : List ℕ) → ((x : ℕ) → Contains reserve x → Contains (s.peers ++ s.reserve) x) → Contains (s.place ∷ (s.peers ++ s.reserve)) (first_peer s.place reserve)
    go [] within = (0, omega arith, refl)
    go (p ∷ ps) within = behind (s.peers ++ s.reserve) p s.place (within p (0, omega arith, refl))

few_are_targets : (s : Scripted) → AllByRecursion (IsTarget scripted_rules s) (few s.peers)
few_are_targets s = go (nat_le (length s.peers) 512)
  where
    go : (b : Bool) → AllByRecursion (IsTarget scripted_rules s) (if b then s.peers else [])
    go true = peers_are_targets (s.peers ++ s.reserve) s.peers s.place (λ p h. in_first s.peers s.reserve p h)
    go false = tt

output_targets_are : (s : Scripted) (to : ℕ) (origin : Origin) (words : List ℕ) (what : Sending) → IsTarget scripted_rules s to → AllByRecursion (IsTarget scripted_rules s) (output_targets (output_by s to origin words what))
output_targets_are s to origin words sending.Tell h = (h, tt)
output_targets_are s to origin words sending.Fan h = few_are_targets s
output_targets_are s to origin words (sending.Ask mode tag expected) h = (h, tt)
output_targets_are s to origin words (sending.Exit why) h = (h, tt)
output_targets_are s to origin words sending.Link h = (h, tt)
output_targets_are s to origin words sending.Unlink h = (h, tt)
output_targets_are s to origin words sending.Watch h = (h, tt)
output_targets_are s to origin words sending.Unwatch h = (h, tt)
output_targets_are s to origin words (sending.Deliver requester number) h = tt
output_targets_are s to origin words (sending.Break requester number why) h = tt
output_targets_are s to origin words sending.Spawn h = (child_is_target s, tt)
output_targets_are s to origin words (sending.Delay ticks) h = (h, tt)
output_targets_are s to origin words (sending.AskWithin ticks mode tag expected) h = (h, tt)

outputs_targets_are : (s : Scripted) (to : ℕ) (origin : Origin) (words : List ℕ) (what : Option Sending) → IsTarget scripted_rules s to → AllByRecursion (λ o. AllByRecursion (IsTarget scripted_rules s) (output_targets o)) (outputs_by s to origin words what)
outputs_targets_are s to origin words None h = tt
outputs_targets_are s to origin words (Some what) h = (output_targets_are s to origin words what h, tt)

echo_has_none : (s : Scripted) (found : Option Signature) (words : List ℕ) → AllByRecursion (IsTarget scripted_rules s) (answer_targets (echo_by found words))
echo_has_none s None words = tt
echo_has_none s (Some signature) words = go (bytes_eq (ids_of signature.result) (ids_of signature.input))
  where
    go : (b : Bool) → AllByRecursion (IsTarget scripted_rules s) (answer_targets (if b then answer.Value words else answer.Error sec.Failed))
    go true = tt
    go false = tt

ignore_has_none : (s : Scripted) (origin : Origin) → AllByRecursion (IsTarget scripted_rules s) (answer_targets (ignore origin))
ignore_has_none s origin = go (is_asked origin)
  where
    go : (b : Bool) → AllByRecursion (IsTarget scripted_rules s) (answer_targets (if b then answer.Error sec.Failed else answer.Nothing))
    go true = tt
    go false = tt

answer_targets_are : (s : Scripted) (to : ℕ) (origin : Origin) (words : List ℕ) (r : Reply) → IsTarget scripted_rules s to → AllByRecursion (IsTarget scripted_rules s) (answer_targets (answer_by s to origin words r))
answer_targets_are s to origin words reply.Echo h = echo_has_none s (signature_for s.interface (ids_in words)) words
answer_targets_are s to origin words reply.Fail h = tt
answer_targets_are s to origin words reply.Ignore h = ignore_has_none s origin
answer_targets_are s to origin words reply.Delegate h = (h, tt)
answer_targets_are s to origin words reply.Hold h = tt

both_are : (s : Scripted) (xs ys : List PlainOutput) → AllByRecursion (λ o. AllByRecursion (IsTarget scripted_rules s) (output_targets o)) xs → AllByRecursion (λ o. AllByRecursion (IsTarget scripted_rules s) (output_targets o)) ys → AllByRecursion (λ o. AllByRecursion (IsTarget scripted_rules s) (output_targets o)) (xs ++ ys)
both_are s [] ys h k = k
both_are s (x ∷ xs) ys h k = (h.0, both_are s xs ys h.1 k)

signals_targets_are : (s : Scripted) (what : Signal) (places : List ℕ) → AllByRecursion (IsTarget scripted_rules s) places → AllByRecursion (λ o. AllByRecursion (IsTarget scripted_rules s) (output_targets o)) (map (signal_output what) places)
signals_targets_are s what [] h = tt
signals_targets_are s (signal.Exit why) (p ∷ ps) h = ((h.0, tt), signals_targets_are s (signal.Exit why) ps h.1)
signals_targets_are s signal.Tick (p ∷ ps) h = ((h.0, tt), signals_targets_are s signal.Tick ps h.1)

signals_by_targets_are : (s : Scripted) (what : Option Signal) → AllByRecursion (λ o. AllByRecursion (IsTarget scripted_rules s) (output_targets o)) (signals_by s.peers what)
signals_by_targets_are s None = tt
signals_by_targets_are s (Some what) = signals_targets_are s what (few s.peers) (few_are_targets s)

cue_has_targets : (s : Scripted) (c : Cue) → HasTargets scripted_rules s (reaction_by s c)
cue_has_targets s c =
    let to = first_peer s.place s.peers in
    let words = number_content c.number in
    record { outputs = both_are s (outputs_by s to (own_origin s.place) words c.sending) (signals_by s.peers c.signal) (outputs_targets_are s to (own_origin s.place) words c.sending (first_peer_is_target s)) (signals_by_targets_are s c.signal); answer = tt }

pub sends_to_peers : SendsToPeers AnyValue scripted_rules
sends_to_peers s Start valid given = cue_has_targets s (without_ticks (cue_now s))
sends_to_peers s Stop valid given = cue_has_targets s (exits_alone (cue_now s))
sends_to_peers s (Content origin words) valid given =
    let to = first_peer s.place s.peers in
    let h = first_peer_is_target s in
    record { outputs = both_are s (outputs_by s to origin words (act_now s).sending) (outputs_by s to origin words (act_now s).afterwards) (outputs_targets_are s to origin words (act_now s).sending h) (outputs_targets_are s to origin words (act_now s).afterwards h); answer = answer_targets_are s to origin words (act_now s).reply h }
sends_to_peers s (Response tag words) valid given = cue_has_targets s (without_ticks (cue_now s))
sends_to_peers s (Failed tag why) valid given = cue_has_targets s (without_ticks (cue_now s))
sends_to_peers s (Down place why) valid given = cue_has_targets s (without_ticks (cue_now s))
sends_to_peers s Tick valid given = cue_has_targets s (cue_now s)

-- ---- how many

few_length : (peers : List ℕ) → length (few peers) + 0 ≤ 512
few_length peers = go (nat_le (length peers) 512) refl
  where
    go : (b : Bool) → nat_le (length peers) 512 ≡ b → length (if b then peers else []) + 0 ≤ 512
    go true e = let h = leb-true (length peers) 512 e in omega arith
    go false e = omega arith

output_few : (s : Scripted) (to : ℕ) (origin : Origin) (words : List ℕ) (what : Sending) → outputs_count (output_by s to origin words what ∷ []) ≤ 512
output_few s to origin words sending.Tell = omega arith
output_few s to origin words sending.Fan = few_length s.peers
output_few s to origin words (sending.Ask mode tag expected) = omega arith
output_few s to origin words (sending.Exit why) = omega arith
output_few s to origin words sending.Link = omega arith
output_few s to origin words sending.Unlink = omega arith
output_few s to origin words sending.Watch = omega arith
output_few s to origin words sending.Unwatch = omega arith
output_few s to origin words (sending.Deliver requester number) = omega arith
output_few s to origin words (sending.Break requester number why) = omega arith
output_few s to origin words sending.Spawn = omega arith
output_few s to origin words (sending.Delay ticks) = omega arith
output_few s to origin words (sending.AskWithin ticks mode tag expected) = omega arith

outputs_few : (s : Scripted) (to : ℕ) (origin : Origin) (words : List ℕ) (what : Option Sending) → outputs_count (outputs_by s to origin words what) ≤ 512
outputs_few s to origin words None = omega arith
outputs_few s to origin words (Some what) = output_few s to origin words what

both_count : (xs ys : List PlainOutput) → outputs_count (xs ++ ys) ≡ outputs_count xs + outputs_count ys
both_count [] ys = omega arith
both_count (x ∷ xs) ys = let later = both_count xs ys in omega arith

signals_few : (what : Signal) (places : List ℕ) → outputs_count (map (signal_output what) places) ≤ length places
signals_few what [] = omega arith
signals_few (signal.Exit why) (p ∷ ps) = let later = signals_few (signal.Exit why) ps in omega arith
signals_few signal.Tick (p ∷ ps) = let later = signals_few signal.Tick ps in omega arith

signals_by_few : (peers : List ℕ) (what : Option Signal) → outputs_count (signals_by peers what) ≤ 512
signals_by_few peers None = omega arith
signals_by_few peers (Some what) =
    let each = signals_few what (few peers) in
    let all = few_length peers in
    omega arith

cue_is_few : (s : Scripted) (c : Cue) → outputs_count (reaction_by s c).outputs ≤ 1024
cue_is_few s c =
    let first = outputs_few s (first_peer s.place s.peers) (own_origin s.place) (number_content c.number) c.sending in
    let second = signals_by_few s.peers c.signal in
    let sum = both_count (outputs_by s (first_peer s.place s.peers) (own_origin s.place) (number_content c.number) c.sending) (signals_by s.peers c.signal) in
    omega arith

pub sends_few : SendsFew AnyValue scripted_rules
sends_few s Start valid given = cue_is_few s (without_ticks (cue_now s))
sends_few s Stop valid given = cue_is_few s (exits_alone (cue_now s))
sends_few s (Content origin words) valid given =
    let to = first_peer s.place s.peers in
    let first = outputs_few s to origin words (act_now s).sending in
    let second = outputs_few s to origin words (act_now s).afterwards in
    let sum = both_count (outputs_by s to origin words (act_now s).sending) (outputs_by s to origin words (act_now s).afterwards) in
    omega arith
sends_few s (Response tag words) valid given = cue_is_few s (without_ticks (cue_now s))
sends_few s (Failed tag why) valid given = cue_is_few s (without_ticks (cue_now s))
sends_few s (Down place why) valid given = cue_is_few s (without_ticks (cue_now s))
sends_few s Tick valid given = cue_is_few s (cue_now s)

exits_are_exits : (why : Reason) (places : List ℕ) → AllByRecursion IsExit (map (signal_output (signal.Exit why)) places)
exits_are_exits why [] = tt
exits_are_exits why (p ∷ ps) = (tt, exits_are_exits why ps)

calm_is_exits : (peers : List ℕ) (what : Option Signal) → AllByRecursion IsExit (signals_by peers (no_tick what))
calm_is_exits peers None = tt
calm_is_exits peers (Some (signal.Exit why)) = exits_are_exits why (few peers)
calm_is_exits peers (Some signal.Tick) = tt

pub stops_with_exits : StopsWithExits AnyValue scripted_rules
stops_with_exits s valid = calm_is_exits s.peers (cue_now s).signal

-- ---- delegations, and ticks that are handed on

passes_here : (acts : List Act) (n : ℕ) → passes_on (slice_index_or acts n last_act) ≡ true → list_any passes_on acts ≡ true
passes_here [] n h = cc
passes_here (a ∷ acts) zero h = rw h refl
passes_here (a ∷ acts) (suc n) h = go (passes_on a) (passes_here acts n h)
  where
    go : (b : Bool) → list_any passes_on acts ≡ true → (b || list_any passes_on acts) ≡ true
    go true later = refl
    go false later = later

echo_passes_none : (found : Option Signature) (words : List ℕ) (to : ℕ) → echo_by found words ≡ answer.Delegate to → ⊥
echo_passes_none None words to q = cc
echo_passes_none (Some s) words to q = go (bytes_eq (ids_of s.result) (ids_of s.input)) refl
  where
    go : (b : Bool) → bytes_eq (ids_of s.result) (ids_of s.input) ≡ b → ⊥
    go true e = let no : ◌≡◌ {A = PlainAnswer} (answer.Value words) (answer.Delegate to) = rw e at q in cc
    go false e = let no : ◌≡◌ {A = PlainAnswer} (answer.Error sec.Failed) (answer.Delegate to) = rw e at q in cc

ignore_passes_none : (origin : Origin) (to : ℕ) → ignore origin ≡ answer.Delegate to → ⊥
ignore_passes_none origin to q = go (is_asked origin) refl
  where
    go : (b : Bool) → is_asked origin ≡ b → ⊥
    go true e = let no : ◌≡◌ {A = PlainAnswer} (answer.Error sec.Failed) (answer.Delegate to) = rw e at q in cc
    go false e = let no : ◌≡◌ {A = PlainAnswer} answer.Nothing (answer.Delegate to) = rw e at q in cc

only_delegates : (s : Scripted) (to place : ℕ) (origin : Origin) (words : List ℕ) (r : Reply) → answer_by s to origin words r ≡ answer.Delegate place → is_delegate r ≡ true
only_delegates s to place origin words reply.Echo q = absurd (echo_passes_none (signature_for s.interface (ids_in words)) words place q)
only_delegates s to place origin words reply.Fail q = cc
only_delegates s to place origin words reply.Ignore q = absurd (ignore_passes_none origin place q)
only_delegates s to place origin words reply.Delegate q = refl
only_delegates s to place origin words reply.Hold q = cc

pub delegates_as_told : DelegatesAsTold AnyValue scripted_rules
delegates_as_told s origin words to valid given q =
    passes_here s.acts s.done (only_delegates s (first_peer s.place s.peers) to origin words (act_now s).reply q)

output_is_no_tick : (s : Scripted) (to : ℕ) (origin : Origin) (words : List ℕ) (what : Sending) → IsNoTick (output_by s to origin words what)
output_is_no_tick s to origin words sending.Tell = tt
output_is_no_tick s to origin words sending.Fan = tt
output_is_no_tick s to origin words (sending.Ask mode tag expected) = tt
output_is_no_tick s to origin words (sending.Exit why) = tt
output_is_no_tick s to origin words sending.Link = tt
output_is_no_tick s to origin words sending.Unlink = tt
output_is_no_tick s to origin words sending.Watch = tt
output_is_no_tick s to origin words sending.Unwatch = tt
output_is_no_tick s to origin words (sending.Deliver requester number) = tt
output_is_no_tick s to origin words (sending.Break requester number why) = tt
output_is_no_tick s to origin words sending.Spawn = tt
output_is_no_tick s to origin words (sending.Delay ticks) = tt
output_is_no_tick s to origin words (sending.AskWithin ticks mode tag expected) = tt

no_ticks : (s : Scripted) (to : ℕ) (origin : Origin) (words : List ℕ) (first second : Option Sending) → AllByRecursion IsNoTick (outputs_by s to origin words first ++ outputs_by s to origin words second)
no_ticks s to origin words None None = tt
no_ticks s to origin words None (Some b) = (output_is_no_tick s to origin words b, tt)
no_ticks s to origin words (Some a) None = (output_is_no_tick s to origin words a, tt)
no_ticks s to origin words (Some a) (Some b) = (output_is_no_tick s to origin words a, (output_is_no_tick s to origin words b, tt))

exits_are_no_ticks : (why : Reason) (places : List ℕ) → AllByRecursion IsNoTick (map (signal_output (signal.Exit why)) places)
exits_are_no_ticks why [] = tt
exits_are_no_ticks why (p ∷ ps) = (tt, exits_are_no_ticks why ps)

calm_has_no_ticks : (peers : List ℕ) (what : Option Signal) → AllByRecursion IsNoTick (signals_by peers (no_tick what))
calm_has_no_ticks peers None = tt
calm_has_no_ticks peers (Some (signal.Exit why)) = exits_are_no_ticks why (few peers)
calm_has_no_ticks peers (Some signal.Tick) = tt

sending_first : (s : Scripted) (to : ℕ) (origin : Origin) (words : List ℕ) (first : Option Sending) (others : List PlainOutput) → AllByRecursion IsNoTick others → AllByRecursion IsNoTick (outputs_by s to origin words first ++ others)
sending_first s to origin words None others h = h
sending_first s to origin words (Some what) others h = (output_is_no_tick s to origin words what, h)

cue_has_no_ticks : (s : Scripted) (c : Cue) → AllByRecursion IsNoTick (reaction_by s (without_ticks c)).outputs
cue_has_no_ticks s c = sending_first s (first_peer s.place s.peers) (own_origin s.place) (number_content c.number) c.sending (signals_by s.peers (no_tick c.signal)) (calm_has_no_ticks s.peers c.signal)

pub ticks_at_ticks : TicksAtTicks AnyValue scripted_rules
ticks_at_ticks s Start valid given other = cue_has_no_ticks s (cue_now s)
ticks_at_ticks s Stop valid given other = calm_has_no_ticks s.peers (cue_now s).signal
ticks_at_ticks s (Content origin words) valid given other = no_ticks s (first_peer s.place s.peers) origin words (act_now s).sending (act_now s).afterwards
ticks_at_ticks s (Response tag words) valid given other = cue_has_no_ticks s (cue_now s)
ticks_at_ticks s (Failed tag why) valid given other = cue_has_no_ticks s (cue_now s)
ticks_at_ticks s (Down place why) valid given other = cue_has_no_ticks s (cue_now s)
ticks_at_ticks s Tick valid given other = absurd cc
