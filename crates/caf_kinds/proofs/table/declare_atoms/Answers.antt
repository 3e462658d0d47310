use Rattle.std.proofs.Common.{append_assoc}
use Rattle.caf_kinds.proofs.table.declare_atoms.Goals as goal

-- each type that was declared stands behind the ones before it
pub returns : goal.returns
returns c = rw (c.in_ok-declare-20.ensures, c.in_ok-declare-19.ensures, c.in_ok-declare-18.ensures, c.in_ok-declare-17.ensures, c.in_ok-declare-16.ensures, c.in_ok-declare-15.ensures, c.in_ok-declare-14.ensures, c.in_ok-declare-13.ensures, c.in_ok-declare-12.ensures, c.in_ok-declare-11.ensures, c.in_ok-declare-10.ensures, c.in_ok-declare-9.ensures, c.in_ok-declare-8.ensures, c.in_ok-declare-7.ensures, c.in_ok-declare-6.ensures, c.in_ok-declare-5.ensures, c.in_ok-declare-4.ensures, c.in_ok-declare-3.ensures, c.in_ok-declare-2.ensures, c.in_ok-declare.ensures) (simp append_assoc)
