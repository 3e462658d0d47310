-- What is read from a document, or the first fault on the way.
use Rattle.std.specs.Prelude.{◌≡◌, ℕ, ◌+◌, Bool, true, false, List, [], ◌∷◌, Option, Some, None, Result, Ok, Err}
use Rattle.caf_scenario.specs.declared.fault.ScenarioFault.{ScenarioFault}
use Rattle.caf_scenario.specs.declared.fault.ScenarioFault.TheVariants as fault

-- why a document is refused
pub data Cause : Type 0 where
  malformed : Cause
  field : List ℕ → Cause
  kind : List ℕ → Cause
  twice : List ℕ → Cause
  unknown : List ℕ → Cause
  interface : List ℕ → List ℕ → Cause
  many : Cause
  no_memory : Cause

abbrev pub Read : Type 0 → Type 0
Read A = Result A Cause

infixl 10 ◌>>=◌
abbrev pub ◌>>=◌ : {A B : Type 0} → Read A → (A → Read B) → Read B
(Ok x) >>= f = f x
(Err e) >>= f = Err e

-- where there is none, that is the cause
abbrev pub or_cause : {A : Type 0} → Cause → Option A → Read A
or_cause e None = Err e
or_cause e (Some x) = Ok x

abbrev pub then_more : {A : Type 0} → Read A → Read (List A) → Read (List A)
then_more one others = one >>= λ x. others >>= λ xs. Ok (x ∷ xs)

-- each in order, the first of them at position i
abbrev pub each_of : {A B : Type 0} → (ℕ → A → Read B) → ℕ → List A → Read (List B)
each_of one i [] = Ok []
each_of one i (x ∷ xs) = then_more (one i x) (each_of one (i + 1) xs)

-- ---- causes

-- the first of two that is there
abbrev pub or_else : Option Cause → Option Cause → Option Cause
or_else None e = e
or_else (Some f) e = Some f

-- the cause, where that doesn't hold
abbrev pub unless : Bool → Cause → Option Cause
unless true e = None
unless false e = Some e

-- ---- what the program answers

abbrev pub cause_of : ScenarioFault → Cause
cause_of fault.Malformed = malformed
cause_of (fault.Field path) = field path
cause_of (fault.Kind text) = kind text
cause_of (fault.Twice name) = twice name
cause_of (fault.Unknown name) = unknown name
cause_of (fault.Interface of for) = interface of for
cause_of fault.Many = many
cause_of fault.Memory = no_memory

-- want of memory has no cause
abbrev pub HasCause : ScenarioFault → Type 0
HasCause fault.Memory = ⊥
HasCause _ = Unit {0}

-- it is that cause
abbrev pub IsFault : ScenarioFault → Cause → Type 0
IsFault f e = HasCause f → cause_of f ≡ e

abbrev pub Fails : {Y : Type 0} → ScenarioFault → Read Y → Type 0
Fails f read = HasCause f → read ≡ Err (cause_of f)

-- it answers what is read, as it is seen, or the cause why nothing is
abbrev pub Gives : {X Y : Type 0} → (X → Y) → Result X ScenarioFault → Read Y → Type 0
Gives view (Ok x) read = read ≡ Ok (view x)
Gives view (Err f) read = Fails f read

-- it answers the cause where there is one, and else something of which that holds
abbrev pub Passes : {X : Type 0} → (X → Type 0) → Result X ScenarioFault → Option Cause → Type 0
Passes P (Ok x) e = (e ≡ None) × P x
Passes P (Err f) e = HasCause f → e ≡ Some (cause_of f)
