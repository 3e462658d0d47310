use Rattle.std.proofs.Common.{◌≡◌, ◌∙◌, ◌+◌, [], ◌∷◌, ◌++◌, map, take, length, not, sym, ap, subst, arith}
use Rattle.caf_message.specs.Envelope.{plain_envelope, is_system, is_content}
use Rattle.caf_mailbox.specs.Caches.{is_urgent, is_normal, is_urgent_priority}
use Rattle.caf_mailbox.specs.Order.{AreBelow}
use Rattle.caf_mailbox.specs.Responses.{CachedResponses}
use Rattle.caf_mailbox.specs.declared.tally.Tally.{Tally}
use Rattle.caf_mailbox.proofs.FilingLemmas.{IsSurvey, survey_in, survey_out, more_taken, taken_length, below_up, places_below, few}
use Rattle.caf_mailbox.proofs.tally.make_places.Goals as goal
use Rattle.caf_mailbox.proofs.tally.make_places.Goals.{in-Urgent+in_ok-add_one-in-Urgent, in-Normal+in_ok-add_one-in-Normal}

pub add_one-requires-clause-notices : goal.add_one-requires-clause-notices
add_one-requires-clause-notices c =
    let batch = c.args.batch.now in
    let i = c.loop-envelope.envelope-index in
    let es = map plain_envelope (take i batch) in
    let so = c.loop-envelope.invariant in
    let len = taken_length plain_envelope batch i (omega (arith, c.loop-envelope-test.true)) in
    let most = few is_urgent is_system es in
    let counted = so.urgent.tally.notices in
    let fits = c.requires.numbers in
    omega (arith, c.loop-envelope-test.true)

pub add_one-requires-clause-contents : goal.add_one-requires-clause-contents
add_one-requires-clause-contents c =
    let batch = c.args.batch.now in
    let i = c.loop-envelope.envelope-index in
    let es = map plain_envelope (take i batch) in
    let so = c.loop-envelope.invariant in
    let len = taken_length plain_envelope batch i (omega (arith, c.loop-envelope-test.true)) in
    let most = few is_urgent is_content es in
    let counted = so.urgent.tally.contents in
    let fits = c.requires.numbers in
    omega (arith, c.loop-envelope-test.true)

pub add_one-requires-clause-here : goal.add_one-requires-clause-here
add_one-requires-clause-here c =
    let so = c.loop-envelope.invariant in
    let number = so.number in
    below_up c.args.next c.loop-envelope.number c.loop-envelope.urgent.here (omega arith) (subst (AreBelow c.args.next) (sym so.urgent_here) c.requires.urgent)

pub add_one-requires-clause-room : goal.add_one-requires-clause-room
add_one-requires-clause-room c =
    let batch = c.args.batch.now in
    let i = c.loop-envelope.envelope-index in
    let es = map plain_envelope (take i batch) in
    let so = c.loop-envelope.invariant in
    let len = taken_length plain_envelope batch i (omega (arith, c.loop-envelope-test.true)) in
    let number = so.number in
    subst (AreBelow c.loop-envelope.number) (sym so.urgent.places) (places_below is_urgent c.args.next c.loop-envelope.number es (omega arith))

pub add_one-requires-in-Normal-clause-notices : goal.add_one-requires-in-Normal-clause-notices
add_one-requires-in-Normal-clause-notices c =
    let batch = c.args.batch.now in
    let i = c.loop-envelope.envelope-index in
    let es = map plain_envelope (take i batch) in
    let so = c.loop-envelope.invariant in
    let len = taken_length plain_envelope batch i (omega (arith, c.loop-envelope-test.true)) in
    let most = few is_normal is_system es in
    let counted = so.normal.tally.notices in
    let fits = c.requires.numbers in
    omega (arith, c.loop-envelope-test.true)

pub add_one-requires-in-Normal-clause-contents : goal.add_one-requires-in-Normal-clause-contents
add_one-requires-in-Normal-clause-contents c =
    let batch = c.args.batch.now in
    let i = c.loop-envelope.envelope-index in
    let es = map plain_envelope (take i batch) in
    let so = c.loop-envelope.invariant in
    let len = taken_length plain_envelope batch i (omega (arith, c.loop-envelope-test.true)) in
    let most = few is_normal is_content es in
    let counted = so.normal.tally.contents in
    let fits = c.requires.numbers in
    omega (arith, c.loop-envelope-test.true)

pub add_one-requires-in-Normal-clause-here : goal.add_one-requires-in-Normal-clause-here
add_one-requires-in-Normal-clause-here c =
    let so = c.loop-envelope.invariant in
    let number = so.number in
    below_up c.args.next c.loop-envelope.number c.loop-envelope.normal.here (omega arith) (subst (AreBelow c.args.next) (sym so.normal_here) c.requires.normal)

pub add_one-requires-in-Normal-clause-room : goal.add_one-requires-in-Normal-clause-room
add_one-requires-in-Normal-clause-room c =
    let batch = c.args.batch.now in
    let i = c.loop-envelope.envelope-index in
    let es = map plain_envelope (take i batch) in
    let so = c.loop-envelope.invariant in
    let len = taken_length plain_envelope batch i (omega (arith, c.loop-envelope-test.true)) in
    let number = so.number in
    subst (AreBelow c.loop-envelope.number) (sym so.normal.places) (places_below is_normal c.args.next c.loop-envelope.number es (omega arith))

pub loop-envelope-preserved : goal.loop-envelope-preserved
loop-envelope-preserved c =
    let batch = c.args.batch.now in
    let i = c.loop-envelope.envelope-index in
    let es = map plain_envelope (take i batch) in
    let so = c.loop-envelope.invariant in
    let len = taken_length plain_envelope batch i (omega (arith, c.loop-envelope-test.true)) in
    let e = plain_envelope c.envelope-item.result in
    let more = map plain_envelope (take (i + 1) batch) in
    let is : more ≡ es ++ e ∷ [] = more_taken plain_envelope batch i c.envelope-item.result c.loop-envelope-test.true c.envelope-item.is in
    let before = so.number in
    let number : c.loop-envelope.number ≡ c.args.next + length es = omega arith in
    elim c.match-envelope.branch [
      | in-Urgent+in_ok-add_one-in-Urgent w ↦ record {
        urgent_here =
            ap (λ (r : CachedResponses). r.here) w.urgent-is ∙ w.in_ok-add_one-in-Urgent.ensures.here ∙ so.urgent_here;
        normal_here =
            ap (λ (r : CachedResponses). r.here) w.normal-is ∙ so.normal_here;
        urgent =
            subst (λ (r : CachedResponses). IsSurvey is_urgent c.args.next more c.match-envelope.urgent_tally r.room) (sym w.urgent-is)
            (subst (λ (u : Tally). IsSurvey is_urgent c.args.next more u w.add_one.new.responses.room) (sym w.urgent_tally-is)
            (survey_in is_urgent c.args.next es more e c.loop-envelope.number c.loop-envelope.urgent_tally w.add_one.new.tally c.loop-envelope.urgent.room w.add_one.new.responses.room is number (ap is_urgent_priority w.in-Urgent.is) w.in_ok-add_one-in-Urgent.ensures.more so.urgent));
        normal =
            subst (λ (r : CachedResponses). IsSurvey is_normal c.args.next more c.match-envelope.normal_tally r.room) (sym w.normal-is)
            (subst (λ (u : Tally). IsSurvey is_normal c.args.next more u c.loop-envelope.normal.room) (sym w.normal_tally-is)
            (survey_out is_normal c.args.next es more e c.loop-envelope.normal_tally c.loop-envelope.normal.room is (ap (λ p. not (is_urgent_priority p)) w.in-Urgent.is) so.normal));
        number = omega arith;
      }
      | in-Normal+in_ok-add_one-in-Normal w ↦ record {
        urgent_here =
            ap (λ (r : CachedResponses). r.here) w.urgent-is ∙ so.urgent_here;
        normal_here =
            ap (λ (r : CachedResponses). r.here) w.normal-is ∙ w.in_ok-add_one-in-Normal.ensures.here ∙ so.normal_here;
        urgent =
            subst (λ (r : CachedResponses). IsSurvey is_urgent c.args.next more c.match-envelope.urgent_tally r.room) (sym w.urgent-is)
            (subst (λ (u : Tally). IsSurvey is_urgent c.args.next more u c.loop-envelope.urgent.room) (sym w.urgent_tally-is)
            (survey_out is_urgent c.args.next es more e c.loop-envelope.urgent_tally c.loop-envelope.urgent.room is (ap is_urgent_priority w.in-Normal.is) so.urgent));
        normal =
            subst (λ (r : CachedResponses). IsSurvey is_normal c.args.next more c.match-envelope.normal_tally r.room) (sym w.normal-is)
            (subst (λ (u : Tally). IsSurvey is_normal c.args.next more u w.add_one-in-Normal.new.responses.room) (sym w.normal_tally-is)
            (survey_in is_normal c.args.next es more e c.loop-envelope.number c.loop-envelope.normal_tally w.add_one-in-Normal.new.tally c.loop-envelope.normal.room w.add_one-in-Normal.new.responses.room is number (ap (λ p. not (is_urgent_priority p)) w.in-Normal.is) w.in_ok-add_one-in-Normal.ensures.more so.normal));
        number = omega arith;
      }
    ]
