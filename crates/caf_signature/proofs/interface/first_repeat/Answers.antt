use Rattle.std.proofs.Common.{◌≡◌, List, Some, true, false, is_some, length, take, find, slice_get, refl, sym, subst, rules, arith}
use Rattle.std.proofs.lemmas.List.{take_all}
use Rattle.std.proofs.lemmas.Option.{slice_get_read}
use Rattle.caf_signature.specs.declared.interface.Signature.{Signature}
use Rattle.caf_signature.specs.Interface.{takes, HaveDifferingInputs}
use Rattle.caf_signature.proofs.InterfaceLemmas.{repeats, differ_more}
use Rattle.caf_signature.proofs.interface.first_repeat.Goals as goal

pub returns-then-is_some : goal.returns-then-is_some
returns-then-is_some c =
    let at : slice_get c.args.signatures.now c.loop-i.i ≡ Some c.index-signatures-i.result =
    slice_get_read c.args.signatures.now (length c.args.signatures.now) c.loop-i.i c.index-signatures-i.result refl (omega arith) c.index-signatures-i.is in
    let some : is_some (find (takes c.index-signatures-i.result.input) (take c.loop-i.i c.args.signatures.now)) ≡ true = search rules in
    repeats c.args.signatures.now c.loop-i.i c.index-signatures-i.result at c.loop-i.invariant some

pub loop-i-preserved : goal.loop-i-preserved
loop-i-preserved c =
    let none : is_some (find (takes c.index-signatures-i.result.input) (take c.loop-i.i c.args.signatures.now)) ≡ false = search rules in
    differ_more c.args.signatures.now c.loop-i.i c.index-signatures-i.result (omega arith) (sym c.index-signatures-i.is) c.loop-i.invariant none

pub returns : goal.returns
returns c = subst (λ (s : List Signature). HaveDifferingInputs s) (take_all c.loop-i.i c.args.signatures.now c.loop-i-test.false) c.loop-i.invariant
