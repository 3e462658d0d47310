use Rattle.std.proofs.Common.{◌≡◌, ◌∙◌, refl, sym, ap, arith, length, not, true, false}
use Rattle.caf_message.specs.Envelope.{plain_envelope}
use Rattle.caf_mailbox.specs.Caches.{is_urgent, is_normal, is_urgent_priority}
use Rattle.caf_mailbox.proofs.LateLemmas.{put_one, leave_one, put_all, count_one, count_none}
use Rattle.caf_mailbox.proofs.late.file_late.Goals as goal

pub loop-envelope-init : goal.loop-envelope-init
loop-envelope-init c =
    let same : c.into_iter-envelope-iterator.result.rest.items ≡ c.args.batch.items = c.into_iter-envelope-iterator.ensures.into_iter_gives.0 in
    rw same (record { urgent = refl; normal = refl; urgent_room = c.requires.urgent_room; normal_room = c.requires.normal_room })

pub put-requires : goal.put-requires
put-requires c =
    let one = count_one plain_envelope is_urgent _ _ c.in-Some.envelope c.in-Some.ensures.steps.0 (ap is_urgent_priority c.in-Urgent.is) in
    let room = c.loop-envelope.invariant.urgent_room in
    omega arith

pub loop-envelope-preserved-in-Urgent : goal.loop-envelope-preserved-in-Urgent
loop-envelope-preserved-in-Urgent c =
    let rest = c.in-Some.ensures.steps.0 in
    let passes : is_urgent (plain_envelope c.in-Some.envelope) ≡ true = ap is_urgent_priority c.in-Urgent.is in
    let fails : is_normal (plain_envelope c.in-Some.envelope) ≡ false = ap not passes in
    let one = count_one plain_envelope is_urgent _ _ c.in-Some.envelope rest passes in
    let none = count_none plain_envelope is_normal _ _ c.in-Some.envelope rest fails in
    let urgent_room = c.loop-envelope.invariant.urgent_room in
    let normal_room = c.loop-envelope.invariant.normal_room in
    record {
      urgent = put_one plain_envelope is_urgent _ _ _ _ c.in-Some.envelope rest c.put.ensures.items passes ∙ c.loop-envelope.invariant.urgent;
      normal = leave_one plain_envelope is_normal _ _ _ c.in-Some.envelope rest fails ∙ c.loop-envelope.invariant.normal;
      urgent_room = omega (arith, c.put.ensures.len, c.put.ensures.capacity);
      normal_room = omega arith;
    }

pub put-requires-in-Normal : goal.put-requires-in-Normal
put-requires-in-Normal c =
    let one = count_one plain_envelope is_normal _ _ c.in-Some.envelope c.in-Some.ensures.steps.0 (ap (λ p. not (is_urgent_priority p)) c.in-Normal.is) in
    let room = c.loop-envelope.invariant.normal_room in
    omega arith

pub loop-envelope-preserved : goal.loop-envelope-preserved
loop-envelope-preserved c =
    let rest = c.in-Some.ensures.steps.0 in
    let fails : is_urgent (plain_envelope c.in-Some.envelope) ≡ false = ap is_urgent_priority c.in-Normal.is in
    let passes : is_normal (plain_envelope c.in-Some.envelope) ≡ true = ap not fails in
    let one = count_one plain_envelope is_normal _ _ c.in-Some.envelope rest passes in
    let none = count_none plain_envelope is_urgent _ _ c.in-Some.envelope rest fails in
    let urgent_room = c.loop-envelope.invariant.urgent_room in
    let normal_room = c.loop-envelope.invariant.normal_room in
    record {
      urgent = leave_one plain_envelope is_urgent _ _ _ c.in-Some.envelope rest fails ∙ c.loop-envelope.invariant.urgent;
      normal = put_one plain_envelope is_normal _ _ _ _ c.in-Some.envelope rest c.put-in-Normal.ensures.items passes ∙ c.loop-envelope.invariant.normal;
      urgent_room = omega arith;
      normal_room = omega (arith, c.put-in-Normal.ensures.len, c.put-in-Normal.ensures.capacity);
    }

pub returns-clause-urgent : goal.returns-clause-urgent
returns-clause-urgent c =
    let rest = c.loop-envelope.envelope-iterator.rest in
    let empty : length rest.items ≡ 0 = sym rest.ok.0 ∙ c.in-None.ensures.steps.0 in
    sym (put_all plain_envelope is_urgent c.loop-envelope.urgent.items rest.items empty) ∙ c.loop-envelope.invariant.urgent

pub returns-clause-normal : goal.returns-clause-normal
returns-clause-normal c =
    let rest = c.loop-envelope.envelope-iterator.rest in
    let empty : length rest.items ≡ 0 = sym rest.ok.0 ∙ c.in-None.ensures.steps.0 in
    sym (put_all plain_envelope is_normal c.loop-envelope.normal.items rest.items empty) ∙ c.loop-envelope.invariant.normal
