use Rattle.std.proofs.Common.{rules, sym}
use Rattle.caf_actor.specs.PlainForms.{plain_post}
use Rattle.caf_driver.proofs.TakenLemmas.{found}
use Rattle.caf_system.proofs.SendingLemmas.{sent_nowhere, sent_one}
use Rattle.caf_system.proofs.sending.push.Goals as goal

pub returns-then-post-len : goal.returns-then-post-len
returns-then-post-len g c = sent_nowhere c.args.lanes.now.items (plain_post c.args.post) (search rules)

pub push-requires-clause-sender : goal.push-requires-clause-sender
push-requires-clause-sender g c =
    sym (c.requires.own c.args.post.to c.index_mut-lane.result.now (found c.args.lanes.now.items c.args.post.to c.index_mut-lane.result.now c.index_mut-lane.ensures.value (search rules)))

pub returns : goal.returns
returns g c =
    sent_one c.args.lanes.now.items (plain_post c.args.post) c.index_mut-lane.result.now c.push.new.self
    (found c.args.lanes.now.items c.args.post.to c.index_mut-lane.result.now c.index_mut-lane.ensures.value (search rules)) (search rules)
