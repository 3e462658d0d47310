use Rattle.std.proofs.Common.{rules, ◌≡◌, ◌<◌, ◌≤◌, ◌+◌, ◌-◌, ◌==◌, ◌∙◌, true, false, length, take, drop, refl, sym, arith, eq-eqb}
use Rattle.std.specs.List.{list_any}
use Rattle.caf_types.specs.Limits.{latest_stamp}
use Rattle.caf_message.specs.declared.envelope.Envelope.{Envelope}
use Rattle.caf_driver.proofs.ListLemmas.{test_of}
use Rattle.caf_driver.proofs.RunsLemmas.{any_between, any_later}
use Rattle.caf_driver.proofs.arrivals.is_at_end_between.Goals as goal

pub loop-i-preserved : goal.loop-i-preserved
loop-i-preserved c =
    let items = c.args.queue.now.items in
    let e = c.index.result.now in
    let test = λ (x : Envelope). x.stamp == latest_stamp in
    let low : c.args.from ≤ c.loop-i.i = search rules in
    let less : c.loop-i.i < length items = (let bound = c.requires.bound in let here = c.loop-i-test.true in omega arith) in
    let not_last : (e.stamp == latest_stamp) ≡ false = test_of e.stamp latest_stamp c.if-index-eq-LATEST_STAMP.false in
    any_between test c.args.from c.loop-i.i items e low c.index.ensures less ∙ rw (c.loop-i.invariant, not_last) refl

pub returns-then-index-eq-LATEST_STAMP : goal.returns-then-index-eq-LATEST_STAMP
returns-then-index-eq-LATEST_STAMP c =
    let items = c.args.queue.now.items in
    let e = c.index.result.now in
    let test = λ (x : Envelope). x.stamp == latest_stamp in
    let low : c.args.from ≤ c.loop-i.i = search rules in
    let less : c.loop-i.i < length items = (let bound = c.requires.bound in let here = c.loop-i-test.true in omega arith) in
    let last : (e.stamp == latest_stamp) ≡ true = eq-eqb e.stamp latest_stamp c.if-index-eq-LATEST_STAMP.true in
    let some : list_any test (take (c.loop-i.i + 1 - c.args.from) (drop c.args.from items)) ≡ true = any_between test c.args.from c.loop-i.i items e low c.index.ensures less ∙ rw (c.loop-i.invariant, last) refl in
    let le : c.loop-i.i + 1 - c.args.from ≤ c.args.to - c.args.from = (let here = c.loop-i-test.true in omega arith) in
    sym (any_later test c.args.from (c.loop-i.i + 1 - c.args.from) (c.args.to - c.args.from) items some le)
