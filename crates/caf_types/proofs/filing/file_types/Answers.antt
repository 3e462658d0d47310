use Rattle.std.proofs.Common.{take}
use Rattle.caf_types.specs.Listing.{types_of}
use Rattle.caf_types.proofs.FilingLemmas.{still_filed, one_filed, filed_first}
use Rattle.caf_types.proofs.filing.file_types.Goals as goal

pub returns-in_err-file_type-clause-kept : goal.returns-in_err-file_type-clause-kept
returns-in_err-file_type-clause-kept c =
    let e = c.in_err-file_type.ensures in
    filed_first 0 (types_of c.args.listed.now) (types_of (take c.loop-i.i c.args.added.now)) _ _
    (still_filed (types_of c.args.listed.now) c.args.added.now c.loop-i.i c.index-added-i.result _ _ _ _ c.loop-i-test.true c.index-added-i.is c.loop-i.invariant.filed c.loop-i.invariant.new e.other_ids e.other_names)

pub loop-i-preserved : goal.loop-i-preserved
loop-i-preserved c =
    let e = c.in_ok-file_type.ensures in
    let next = one_filed c.args.listed.now c.args.added.now c.loop-i.i c.index-added-i.result _ _ _ _ c.loop-i-test.true c.index-added-i.is c.loop-i.invariant.filed c.loop-i.invariant.new e.other_ids e.other_names e.by_id e.by_name in
    record { filed = next.0; new = next.1 }

pub returns-clause-kept : goal.returns-clause-kept
returns-clause-kept c = filed_first 0 (types_of c.args.listed.now) (types_of (take c.loop-i.i c.args.added.now)) _ _ c.loop-i.invariant.filed
