-- Kinds that only answer: an echo, a cell, a calc and a quitter.
use Rattle.std.proofs.Common.{ℕ, ℤ, true, false, List, Option, Some, None}
use Rattle.caf_types.specs.declared.reason.Reason.{Reason}
use Rattle.caf_words.specs.Datum.{Data, no_data, more, a_unit, a_signed, a_text, is_i64}
use Rattle.caf_types.specs.Reason.{reason_named}
use Rattle.caf_actor.specs.declared.origin.Origin.{Origin}
use Rattle.caf_actor.specs.PlainInput.{PlainInput, Start, Stop, Content, Response, Failed, Down, Tick}
use Rattle.caf_actor.specs.PlainReaction.{PlainReaction, PlainAnswer}
use Rattle.caf_kinds.specs.Asking.{of_text, has, asked}
use Rattle.caf_kinds.specs.Calc as calc
use Rattle.caf_kinds.specs.Cell as cell
use Rattle.caf_kinds.specs.Echo as echo
use Rattle.caf_kinds.specs.Keeping.{on_if}
use Rattle.caf_kinds.specs.Kinds.{reacted, as_kind}
use Rattle.caf_kinds.specs.Quitter as quitter
use Rattle.caf_kinds.specs.Reacting.{Reacted, failed, signed}
use Rattle.caf_kinds.specs.declared.calc.Calc.{Calc}
use Rattle.caf_kinds.specs.declared.cell.Cell.{Cell}
use Rattle.caf_kinds.specs.declared.echo.Echo.{Echo}
use Rattle.caf_kinds.specs.declared.kind.Kind.TheVariants as kind
use Rattle.caf_kinds.specs.declared.quitter.Quitter.{Quitter}
use Rattle.caf_kinds.specs.declared.setup.Setup.{Setup}
use Rattle.caf_soundness.proofs.LogLemmas.{Log}
use Rattle.caf_soundness.proofs.KindLemmas.{IsFine, Acts, quiet_acts, failed_acts, value_acts, failed_expected}

module _ (setups : List Setup) (l : Log) (place : ℕ) where
  -- ---- echo

  abbrev EchoActs : PlainInput → Reacted Echo → Type 0
  EchoActs i r = Acts setups l place i (as_kind kind.Echo r)

  echo_given : (s : Echo) (origin : Origin) (words : List ℕ) → EchoActs (Content origin words) (echo.given s words)
  echo_given s origin words =
      let i : PlainInput = Content origin words in
      on_if (EchoActs i) (has of_text words) _ _
      (λ e. value_acts setups l place origin words _ (kind.Echo s) tt)
      (λ _. on_if (EchoActs i) (has echo.waking words) _ _
      (λ e. value_acts setups l place origin words _ (kind.Echo (echo.asleep false s)) tt)
      (λ _. on_if (EchoActs i) (has echo.resting words) _ _
      (λ e. value_acts setups l place origin words _ (kind.Echo (echo.asleep true s)) tt)
      (λ _. failed_acts setups l place origin words (kind.Echo s) tt)))

  pub echo_acts : (s : Echo) (i : PlainInput) → Acts setups l place i (reacted (kind.Echo s) i)
  echo_acts s (Content origin words) = echo_given s origin words
  echo_acts s Start = quiet_acts setups l place Start (kind.Echo s) tt
  echo_acts s Stop = quiet_acts setups l place Stop (kind.Echo s) tt
  echo_acts s (Response tag words) = quiet_acts setups l place (Response tag words) (kind.Echo s) tt
  echo_acts s (Failed tag why) = quiet_acts setups l place (Failed tag why) (kind.Echo s) tt
  echo_acts s (Down from why) = quiet_acts setups l place (Down from why) (kind.Echo s) tt
  echo_acts s Tick = quiet_acts setups l place Tick (kind.Echo s) tt

  -- ---- cell

  abbrev CellActs : PlainInput → Reacted Cell → Type 0
  CellActs i r = Acts setups l place i (as_kind kind.Cell r)

  put_acts : (s : Cell) (origin : Origin) (words : List ℕ) (o : Option Data) → CellActs (Content origin words) (cell.put s o)
  put_acts s origin words (Some (more a_unit (more (a_signed v) no_data))) = value_acts setups l place origin words _ (kind.Cell (record s { value = v })) tt
  put_acts s origin words _ = failed_acts setups l place origin words (kind.Cell s) tt

  cell_given : (s : Cell) (origin : Origin) (words : List ℕ) → CellActs (Content origin words) (cell.given s words)
  cell_given s origin words =
      let i : PlainInput = Content origin words in
      on_if (CellActs i) (has cell.putting words) _ _
      (λ e. put_acts s origin words (asked cell.putting words))
      (λ _. on_if (CellActs i) (has cell.getting words) _ _
      (λ e. value_acts setups l place origin words _ (kind.Cell s) tt)
      (λ _. failed_acts setups l place origin words (kind.Cell s) tt))

  pub cell_acts : (s : Cell) (i : PlainInput) → Acts setups l place i (reacted (kind.Cell s) i)
  cell_acts s (Content origin words) = cell_given s origin words
  cell_acts s Start = quiet_acts setups l place Start (kind.Cell s) tt
  cell_acts s Stop = quiet_acts setups l place Stop (kind.Cell s) tt
  cell_acts s (Response tag words) = quiet_acts setups l place (Response tag words) (kind.Cell s) tt
  cell_acts s (Failed tag why) = quiet_acts setups l place (Failed tag why) (kind.Cell s) tt
  cell_acts s (Down from why) = quiet_acts setups l place (Down from why) (kind.Cell s) tt
  cell_acts s Tick = quiet_acts setups l place Tick (kind.Cell s) tt

  -- ---- calc

  abbrev Answered : PlainInput → PlainAnswer → Type 0
  Answered i a = IsFine setups place i a

  number_fine : (origin : Origin) (words : List ℕ) (z : ℤ) → Answered (Content origin words) (calc.number z)
  number_fine origin words z = on_if (Answered (Content origin words)) (is_i64 z) (signed z) failed (λ e. tt) (λ e. failed_expected)

  two_fine : (origin : Origin) (words : List ℕ) (f : ℤ → ℤ → ℤ) (o : Option Data) → Answered (Content origin words) (calc.on_two f o)
  two_fine origin words f (Some (more a_unit (more (a_signed x) (more (a_signed y) no_data)))) = number_fine origin words (f x y)
  two_fine origin words f _ = failed_expected

  calc_fine : (origin : Origin) (words : List ℕ) → Answered (Content origin words) (calc.answer_to words)
  calc_fine origin words =
      let i : PlainInput = Content origin words in
      on_if (Answered i) (has calc.adding words) _ _ (λ e. two_fine origin words calc.sum (asked calc.adding words))
      (λ _. on_if (Answered i) (has calc.subtracting words) _ _ (λ e. two_fine origin words calc.difference (asked calc.subtracting words))
      (λ _. on_if (Answered i) (has calc.multiplying words) _ failed (λ e. two_fine origin words calc.product (asked calc.multiplying words)) (λ _. failed_expected)))

  pub calc_acts : (s : Calc) (i : PlainInput) → Acts setups l place i (reacted (kind.Calc s) i)
  calc_acts s (Content origin words) = record { outputs = tt; answer = calc_fine origin words; holds = tt }
  calc_acts s Start = quiet_acts setups l place Start (kind.Calc s) tt
  calc_acts s Stop = quiet_acts setups l place Stop (kind.Calc s) tt
  calc_acts s (Response tag words) = quiet_acts setups l place (Response tag words) (kind.Calc s) tt
  calc_acts s (Failed tag why) = quiet_acts setups l place (Failed tag why) (kind.Calc s) tt
  calc_acts s (Down from why) = quiet_acts setups l place (Down from why) (kind.Calc s) tt
  calc_acts s Tick = quiet_acts setups l place Tick (kind.Calc s) tt

  -- ---- quitter

  abbrev QuitterActs : Quitter → PlainInput → PlainReaction → Type 0
  QuitterActs s i r = Acts setups l place i (kind.Quitter s, r)

  quits_acts : (s : Quitter) (origin : Origin) (words : List ℕ) (o : Option Reason) → QuitterActs s (Content origin words) (quitter.quits o)
  quits_acts s origin words (Some why) = record { outputs = tt; answer = tt; holds = tt }
  quits_acts s origin words None = failed_acts setups l place origin words (kind.Quitter s) tt

  leaves_acts : (s : Quitter) (origin : Origin) (words : List ℕ) (o : Option Data) → QuitterActs s (Content origin words) (quitter.leaves o)
  leaves_acts s origin words (Some (more a_unit (more (a_text text) no_data))) = quits_acts s origin words (reason_named text)
  leaves_acts s origin words _ = failed_acts setups l place origin words (kind.Quitter s) tt

  quitter_given : (s : Quitter) (origin : Origin) (words : List ℕ) → QuitterActs s (Content origin words) (quitter.reaction_to words)
  quitter_given s origin words =
      let i : PlainInput = Content origin words in
      on_if (QuitterActs s i) (has quitter.leaving words) _ _
      (λ e. leaves_acts s origin words (asked quitter.leaving words))
      (λ _. on_if (QuitterActs s i) (has of_text words) _ _
      (λ e. value_acts setups l place origin words _ (kind.Quitter s) tt)
      (λ _. failed_acts setups l place origin words (kind.Quitter s) tt))

  pub quitter_acts : (s : Quitter) (i : PlainInput) → Acts setups l place i (reacted (kind.Quitter s) i)
  quitter_acts s (Content origin words) = quitter_given s origin words
  quitter_acts s Start = quiet_acts setups l place Start (kind.Quitter s) tt
  quitter_acts s Stop = quiet_acts setups l place Stop (kind.Quitter s) tt
  quitter_acts s (Response tag words) = quiet_acts setups l place (Response tag words) (kind.Quitter s) tt
  quitter_acts s (Failed tag why) = quiet_acts setups l place (Failed tag why) (kind.Quitter s) tt
  quitter_acts s (Down from why) = quiet_acts setups l place (Down from why) (kind.Quitter s) tt
  quitter_acts s Tick = quiet_acts setups l place Tick (kind.Quitter s) tt
