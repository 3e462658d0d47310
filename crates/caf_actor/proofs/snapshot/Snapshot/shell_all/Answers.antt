use Rattle.std.proofs.Common.{◌∙◌, sym, ap, arith, List, length}
use Rattle.caf_message.specs.declared.envelope.Taken.{Taken}
use Rattle.caf_message.specs.declared.envelope.Body.{Body}
use Rattle.caf_message.specs.Envelope.{plain_envelope, plain_body}
use Rattle.caf_actor.specs.PlainForms.{reached}
use Rattle.caf_actor.specs.declared.origin.Origin.{Origin}
use Rattle.caf_actor.specs.Snapshot.{Handled}
use Rattle.caf_actor.specs.Quitting.{handle_shell, shell_all, all_cached}
use Rattle.caf_mailbox.proofs.NextLemmas.{first_in_order}
use Rattle.caf_actor.proofs.snapshot.Snapshot.shell_all.Goals as goal

pub loop-envelope-smaller : goal.loop-envelope-smaller
loop-envelope-smaller g c =
    let first = first_in_order c.loop-envelope.caches (plain_envelope c.in-Some.envelope, c.pop_any.new.self) (sym c.in-Some.ensures.first) in
    let shorter = ap (λ (es : List Taken). length es) first in
    omega arith

pub loop-envelope-preserved : goal.loop-envelope-preserved
loop-envelope-preserved g c =
    let first = first_in_order c.loop-envelope.caches (plain_envelope c.in-Some.envelope, c.pop_any.new.self) (sym c.in-Some.ensures.first) in
    let t : Handled g.row.B.Denot = reached c.loop-envelope.self c.loop-envelope.posts in
    let met = ap (λ (s : Origin × Body). handle_shell t c.args.reason s.0 (plain_body s.1)) (sym c.split-body.ensures) ∙ c.in_ok-handle_shell.ensures in
    sym (ap (shell_all t c.args.reason) first ∙ ap (λ (u : Handled g.row.B.Denot). shell_all u c.args.reason (all_cached c.pop_any.new.self)) met) ∙ c.loop-envelope.invariant
