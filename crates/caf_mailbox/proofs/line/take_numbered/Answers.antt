use Rattle.std.proofs.Common.{◌≤◌, suc}
use Rattle.caf_message.specs.Envelope.{is_content}
use Rattle.caf_mailbox.specs.Arrived.{Arrived, arrived, all_arrived, at_arrived}
use Rattle.caf_mailbox.proofs.LineLemmas.{alone_out, alone_kept, all_taken, queue_taken}
use Rattle.caf_mailbox.proofs.line.take_numbered.Goals as goal

pub returns-then-has_contents_alone-clause-taken : goal.returns-then-has_contents_alone-clause-taken
returns-then-has_contents_alone-clause-taken g c =
    let h = c.if-has_contents_alone.ensures in
    alone_out (g.E.Eligible.test c.args.test.now) c.args.line.now h.0 h.1 arrived c.take_content.result (all_arrived c.take_content.new.queue.items) c.take_content.ensures.taken

pub returns-then-has_contents_alone-clause-kept : goal.returns-then-has_contents_alone-clause-kept
returns-then-has_contents_alone-clause-kept g c =
    let h = c.if-has_contents_alone.ensures in
    alone_kept (g.E.Eligible.test c.args.test.now) c.args.line.now h.0 h.1 arrived c.take_content.result (all_arrived c.take_content.new.queue.items) c.take_content.ensures.kept

pub returns-then-has_contents_alone-clause-sorted : goal.returns-then-has_contents_alone-clause-sorted
returns-then-has_contents_alone-clause-sorted g c =
    let line = c.args.line.now in
    let test = at_arrived (g.E.Eligible.test c.args.test.now) in
    record {
      notices = c.requires.sorted.notices;
      responses = c.requires.sorted.responses;
      contents = queue_taken arrived test (all_arrived line.contents.items) (all_arrived c.take_content.new.queue.items) c.take_content.result c.take_content.ensures.taken c.take_content.ensures.kept is_content c.requires.sorted.contents;
    }

pub returns-then-has_contents_alone-clause-up_to : goal.returns-then-has_contents_alone-clause-up_to
returns-then-has_contents_alone-clause-up_to g c = λ next up_to.
    let line = c.args.line.now in
    let test = at_arrived (g.E.Eligible.test c.args.test.now) in
    record {
      notices = up_to.notices;
      responses = up_to.responses;
      contents = all_taken arrived test (all_arrived line.contents.items) (all_arrived c.take_content.new.queue.items) c.take_content.result c.take_content.ensures.taken c.take_content.ensures.kept (λ (z : Arrived). suc z.0 ≤ next) up_to.contents;
    }
