-- What is kept of who an actor is: all of one kind take the same.
use Rattle.std.specs.Prelude.{◌≡◌, List}
use Rattle.caf_signature.specs.declared.interface.Signature.{Signature}
use Rattle.caf_kinds.specs.Who.{Who, IsWho}

pub record IsIdentity (taken kept : List Signature) (w : Who) : Type 0 where
  pub interface : kept ≡ taken
  pub who : IsWho w
