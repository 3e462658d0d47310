use Rattle.std.proofs.Common.{subst, arith}
use Rattle.caf_kinds.specs.Starting.{IsTypedStep}
use Rattle.caf_kinds.proofs.PlanningLemmas.{is_peer, is_sent}
use Rattle.caf_kinds.proofs.planning.planned.Goals as goal

pub returns-in_ok-message-in-Tell-clause-played : goal.returns-in_ok-message-in-Tell-clause-played
returns-in_ok-message-in-Tell-clause-played c =
    let s = c.in-Tell in
    let m = c.in_ok-message-in-Tell in
    let sent = is_sent c.args.places.now s.to s.types s.values m.message.content (subst (IsTypedStep c.args.places.now) s.is c.requires.typed) m.ensures.content m.ensures.sound in
    (record { targets = (sent.peer, tt); content = sent.sound; no_tick = tt; few = omega arith }, tt)

pub returns-in_ok-again-in-Request-clause-played : goal.returns-in_ok-again-in-Request-clause-played
returns-in_ok-again-in-Request-clause-played c =
    let s = c.in-Request in
    let m = c.in_ok-message-in-Request in
    let sent = is_sent c.args.places.now s.to s.types s.values m.message.content (subst (IsTypedStep c.args.places.now) s.is c.requires.typed) m.ensures.content m.ensures.sound in
    (record { targets = (sent.peer, tt); content = sent.sound; no_tick = tt; few = omega arith }, tt)

pub returns-in_ok-again-in-Within-clause-played : goal.returns-in_ok-again-in-Within-clause-played
returns-in_ok-again-in-Within-clause-played c =
    let s = c.in-Within in
    let m = c.in_ok-message-in-Within in
    let sent = is_sent c.args.places.now s.to s.types s.values m.message.content (subst (IsTypedStep c.args.places.now) s.is c.requires.typed) m.ensures.content m.ensures.sound in
    (record { targets = (sent.peer, tt); content = sent.sound; no_tick = tt; few = omega arith }, tt)

pub returns-in-Exit-clause-played : goal.returns-in-Exit-clause-played
returns-in-Exit-clause-played c =
    (record { targets = (is_peer c.args.places.now c.in-Exit.to (subst (IsTypedStep c.args.places.now) c.in-Exit.is c.requires.typed), tt); content = tt; no_tick = tt; few = omega arith }, tt)
