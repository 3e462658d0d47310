-- An envelope that was sent, and the place that it goes to.
use Rattle.std.specs.Prelude.{ℕ}
use Rattle.caf_message.specs.declared.envelope.Taken.{Taken}

pub record PlainPost : Type 0 where
  pub to : ℕ
  pub envelope : Taken
