use Rattle.std.proofs.Common.{◌∙◌, ◌++◌, sym, ap, map}
use Rattle.caf_message.specs.Envelope.{plain_envelope, is_system, is_response, is_content}
use Rattle.caf_mailbox.specs.Arrived.{all_arrived}
use Rattle.caf_mailbox.specs.Line.{numbered}
use Rattle.caf_mailbox.proofs.OrderLemmas.{below-more}
use Rattle.caf_mailbox.proofs.FilingLemmas.{added, notice_in, response_in, content_in, queue-last, below-added, first_place, response_place, notice_no_place, content_no_place, no_more}
use Rattle.caf_mailbox.proofs.line.put_in.Goals as goal

pub returns-in-Notice-clause-added : goal.returns-in-Notice-clause-added
returns-in-Notice-clause-added c =
    let line = c.args.line.now in
    added (numbered line) _ (c.args.number, plain_envelope c.args.envelope) _ (ap (map plain_envelope) c.requires.late)
    (notice_in line c.args.number (plain_envelope c.args.envelope) c.requires.up_to (all_arrived c.put.new.queue.items) c.put.ensures.items)

pub returns-in-Notice-clause-places : goal.returns-in-Notice-clause-places
returns-in-Notice-clause-places c = no_more _ c.args.line.now.responses.room (notice_no_place c.args.number (plain_envelope c.args.envelope) c.in-Notice.ensures)

pub returns-in-Notice-clause-sorted : goal.returns-in-Notice-clause-sorted
returns-in-Notice-clause-sorted c =
    let sorted = c.requires.sorted in
    record {
      notices = queue-last is_system c.args.number (plain_envelope c.args.envelope) _ _ c.put.ensures.items c.in-Notice.ensures c.requires.up_to.notices sorted.notices;
      responses = sorted.responses;
      contents = sorted.contents;
    }

pub returns-in-Notice-clause-up_to : goal.returns-in-Notice-clause-up_to
returns-in-Notice-clause-up_to c =
    let up_to = c.requires.up_to in
    record {
      notices = below-added c.args.number (plain_envelope c.args.envelope) _ _ c.put.ensures.items up_to.notices;
      responses = below-more c.args.number _ up_to.responses;
      contents = below-more c.args.number _ up_to.contents;
    }

pub put_in-requires : goal.put_in-requires
put_in-requires c = first_place c.args.number (plain_envelope c.args.envelope) c.args.line.now.responses.room c.in-Response.ensures c.requires.place

pub returns-in-Response-clause-added : goal.returns-in-Response-clause-added
returns-in-Response-clause-added c =
    let line = c.args.line.now in
    added (numbered line) _ (c.args.number, plain_envelope c.args.envelope) _ (ap (map plain_envelope) c.requires.late)
    (response_in line c.args.number (plain_envelope c.args.envelope) c.requires.up_to c.put_in.new.self.here c.put_in.ensures.here)

pub returns-in-Response-clause-sorted : goal.returns-in-Response-clause-sorted
returns-in-Response-clause-sorted c =
    let sorted = c.requires.sorted in
    record {
      notices = sorted.notices;
      responses = queue-last is_response c.args.number (plain_envelope c.args.envelope) _ _ c.put_in.ensures.here c.in-Response.ensures c.requires.up_to.responses sorted.responses;
      contents = sorted.contents;
    }

pub returns-in-Response-clause-up_to : goal.returns-in-Response-clause-up_to
returns-in-Response-clause-up_to c =
    let up_to = c.requires.up_to in
    record {
      notices = below-more c.args.number _ up_to.notices;
      responses = below-added c.args.number (plain_envelope c.args.envelope) _ _ c.put_in.ensures.here up_to.responses;
      contents = below-more c.args.number _ up_to.contents;
    }

pub returns-in-Response-clause-places : goal.returns-in-Response-clause-places
returns-in-Response-clause-places c =
    c.put_in.ensures.room ∙ ap (λ ps. ps ++ c.put_in.new.self.room) (sym (response_place c.args.number (plain_envelope c.args.envelope) c.in-Response.ensures))

pub returns-in-Content-clause-added : goal.returns-in-Content-clause-added
returns-in-Content-clause-added c =
    let line = c.args.line.now in
    added (numbered line) _ (c.args.number, plain_envelope c.args.envelope) _ (ap (map plain_envelope) c.requires.late)
    (content_in line c.args.number (plain_envelope c.args.envelope) c.requires.up_to (all_arrived c.put-in-Content.new.queue.items) c.put-in-Content.ensures.items)

pub returns-in-Content-clause-places : goal.returns-in-Content-clause-places
returns-in-Content-clause-places c = no_more _ c.args.line.now.responses.room (content_no_place c.args.number (plain_envelope c.args.envelope) c.in-Content.ensures)

pub returns-in-Content-clause-sorted : goal.returns-in-Content-clause-sorted
returns-in-Content-clause-sorted c =
    let sorted = c.requires.sorted in
    record {
      notices = sorted.notices;
      responses = sorted.responses;
      contents = queue-last is_content c.args.number (plain_envelope c.args.envelope) _ _ c.put-in-Content.ensures.items c.in-Content.ensures c.requires.up_to.contents sorted.contents;
    }

pub returns-in-Content-clause-up_to : goal.returns-in-Content-clause-up_to
returns-in-Content-clause-up_to c =
    let up_to = c.requires.up_to in
    record {
      notices = below-more c.args.number _ up_to.notices;
      responses = below-more c.args.number _ up_to.responses;
      contents = below-added c.args.number (plain_envelope c.args.envelope) _ _ c.put-in-Content.ensures.items up_to.contents;
    }
