use Rattle.std.proofs.Common.{◌≡◌, ◌<◌, ◌≤◌, ◌∙◌, sym, subst, rules}
use Rattle.caf_carriers.proofs.ClosesLemmas.{closes_all}
use Rattle.caf_carriers.proofs.RequestLemmas.{legal_is_carried, resting_stands}
use Rattle.caf_driver.specs.declared.drive.DriveEnd.TheVariants.{Rest}
use Rattle.caf_driver.specs.Driver.{record_in, ticks_in}
use Rattle.caf_driver.specs.Driving.{state_of}
use Rattle.caf_driver.proofs.CompleteLemmas.{complete_driven}
use Rattle.caf_driver.proofs.LegalLemmas.{legal_driven}
use Rattle.caf_driver.proofs.TurnedLemmas.{few_of, rests_driven, ends_driven}
use Rattle.caf_driver.proofs.driver.Driver.drive.Goals as goal

pub returns-in-Some-clause-legal : goal.returns-in-Some-clause-legal
returns-in-Some-clause-legal g c = λ start driven.
    let meaning = g.B.Behavior.rules in
    let d = state_of c.loop-end.self in
    legal_driven meaning start d (few_of meaning start d c.end.ensures.settled) (c.loop-end.invariant.driven start driven)

pub returns-in-Some-clause-ends : goal.returns-in-Some-clause-ends
returns-in-Some-clause-ends g c = λ start driven.
    let meaning = g.B.Behavior.rules in
    let d = state_of c.loop-end.self in
    let low : c.args.budget ≤ 18446744073709551615 = search rules in
    let started = subst (λ n. 0 < n) (sym c.loop-end.invariant.spoken) c.requires.started in
    ends_driven meaning start d c.args.budget c.in-Some.end low c.end.ensures.settled started (c.loop-end.invariant.driven start driven) c.in-Some.ensures.end

pub returns-in-Some-clause-carried : goal.returns-in-Some-clause-carried
returns-in-Some-clause-carried g c = λ start driven fresh ts merge.
    let meaning = g.B.Behavior.rules in
    let laws = g.met.B.Behavior in
    let d = state_of c.loop-end.self in
    let legal = legal_driven meaning start d (few_of meaning start d c.end.ensures.settled) (c.loop-end.invariant.driven start driven) in
    legal_is_carried g.B.Behavior.is_valid meaning laws.stays_valid laws.stays_same_actor laws.sends_to_peers laws.answers_requests (ticks_in d) (record_in start d) ts fresh legal.legal merge

pub returns-in-Some-clause-standing : goal.returns-in-Some-clause-standing
returns-in-Some-clause-standing g c = λ start driven at_rest fresh ts merge.
    let meaning = g.B.Behavior.rules in
    let laws = g.met.B.Behavior in
    let d = state_of c.loop-end.self in
    let led = c.loop-end.invariant.driven start driven in
    let legal = legal_driven meaning start d (few_of meaning start d c.end.ensures.settled) led in
    let started = subst (λ n. 0 < n) (sym c.loop-end.invariant.spoken) c.requires.started in
    let is : c.in-Some.end ≡ Rest = cc in
    let rest = rests_driven meaning start d c.args.budget c.in-Some.end c.end.ensures.settled started led c.in-Some.ensures.end is in
    resting_stands g.B.Behavior.is_valid meaning laws.stays_valid laws.stays_same_actor laws.sends_to_peers laws.answers_requests (ticks_in d) (record_in start d) ts fresh legal.legal rest.0 merge

pub returns-in-Some-clause-complete : goal.returns-in-Some-clause-complete
returns-in-Some-clause-complete g c = λ start driven at_rest stopped said.
    let meaning = g.B.Behavior.rules in
    let d = state_of c.loop-end.self in
    let led = c.loop-end.invariant.driven start driven in
    let legal = legal_driven meaning start d (few_of meaning start d c.end.ensures.settled) led in
    let started = subst (λ n. 0 < n) (sym c.loop-end.invariant.spoken) c.requires.started in
    let is : c.in-Some.end ≡ Rest = cc in
    let rest = rests_driven meaning start d c.args.budget c.in-Some.end c.end.ensures.settled started led c.in-Some.ensures.end is in
    complete_driven meaning start d legal rest.0 rest.1 (c.loop-end.invariant.stopped ∙ stopped) (subst (λ n. 1 < n) (sym c.loop-end.invariant.spoken) said)

pub returns-in-Some-clause-closed : goal.returns-in-Some-clause-closed
returns-in-Some-clause-closed g c = λ start driven at_rest stopped said fresh closer ts merge.
    let meaning = g.B.Behavior.rules in
    let laws = g.met.B.Behavior in
    let d = state_of c.loop-end.self in
    let led = c.loop-end.invariant.driven start driven in
    let legal = legal_driven meaning start d (few_of meaning start d c.end.ensures.settled) led in
    let started = subst (λ n. 0 < n) (sym c.loop-end.invariant.spoken) c.requires.started in
    let is : c.in-Some.end ≡ Rest = cc in
    let rest = rests_driven meaning start d c.args.budget c.in-Some.end c.end.ensures.settled started led c.in-Some.ensures.end is in
    let complete = complete_driven meaning start d legal rest.0 rest.1 (c.loop-end.invariant.stopped ∙ stopped) (subst (λ n. 1 < n) (sym c.loop-end.invariant.spoken) said) in
    closes_all g.B.Behavior.is_valid meaning laws.stays_valid laws.stays_same_actor laws.sends_to_peers laws.answers_requests (ticks_in d) (record_in start d) ts fresh closer complete merge
