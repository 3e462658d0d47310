use Rattle.std.proofs.Common.{append_assoc}
use Rattle.caf_kinds.proofs.table.declare_objects.Goals as goal

-- each type that was declared stands behind the ones before it
pub returns : goal.returns
returns c = rw (c.in_ok-declare-6.ensures, c.in_ok-declare-5.ensures, c.in_ok-declare-4.ensures, c.in_ok-declare-3.ensures, c.in_ok-declare-2.ensures, c.in_ok-declare.ensures) (simp append_assoc)
