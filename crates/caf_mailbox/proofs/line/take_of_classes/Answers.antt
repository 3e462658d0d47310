use Rattle.std.proofs.Common.{◌≡◌, ◌∙◌, ◌≤◌, suc, List, sym, ap, subst}
use Rattle.caf_message.specs.declared.envelope.Taken.{Taken}
use Rattle.caf_message.specs.Envelope.{is_system, is_response, is_content}
use Rattle.caf_mailbox.specs.Arrived.{Arrived, arrived, all_arrived, at_arrived}
use Rattle.caf_mailbox.specs.Awaited.{is_awaited}
use Rattle.caf_mailbox.specs.Line.{IsQueue, taken_where}
use Rattle.caf_mailbox.specs.Order.{AreBelow}
use Rattle.caf_mailbox.specs.declared.class.Class.TheVariants as classes
use Rattle.caf_mailbox.proofs.LineLemmas.{Searched, class_is, all_of, kept_on, all_taken, queue_taken, pass_taken, notice_picked, content_picked, notice_out, response_out, content_out}
use Rattle.caf_mailbox.proofs.line.take_of_classes.Goals as goal

pub returns-in-Notice-clause-taken : goal.returns-in-Notice-clause-taken
returns-in-Notice-clause-taken g c =
    let line = c.args.line.now in
    let test = g.E.Eligible.test c.args.test.now in
    let n = c.first_from-notice.result in
    let r = c.first-response.result in
    let k = c.first_content-content.result in
    let ns = all_arrived c.first_from-notice.new.queue.items in
    let cs = all_arrived c.first_content-content.new.queue.items in
    let s : Searched test line ns cs n r k =
    record {
      sorted = c.requires.sorted;
      notice = c.first_from-notice.ensures.found;
      response = c.first-response.ensures test (all_of is_response (λ (e : Taken). test e ≡ is_awaited c.awaits.result e.mid.number) c.awaits.ensures line.responses.here c.requires.sorted.responses.class);
      content = c.first_content-content.ensures.found;
      same_notices = c.first_from-notice.ensures.kept;
      same_contents = c.first_content-content.ensures.kept;
    } in
    notice_out test line ns cs n r k s arrived c.take_at.result (all_arrived c.take_at.new.queue.items) (class_is c.number_of.result c.number_of-2.result r n k c.first_class.result classes.Notice c.number_of.ensures c.number_of-2.ensures c.first_class.ensures c.in-Notice.is) c.take_at.ensures.taken

pub returns-in-Notice-clause-sorted : goal.returns-in-Notice-clause-sorted
returns-in-Notice-clause-sorted g c =
    let line = c.args.line.now in
    let test = g.E.Eligible.test c.args.test.now in
    let n = c.first_from-notice.result in
    let r = c.first-response.result in
    let k = c.first_content-content.result in
    let ns = all_arrived c.first_from-notice.new.queue.items in
    let cs = all_arrived c.first_content-content.new.queue.items in
    let s : Searched test line ns cs n r k =
    record {
      sorted = c.requires.sorted;
      notice = c.first_from-notice.ensures.found;
      response = c.first-response.ensures test (all_of is_response (λ (e : Taken). test e ≡ is_awaited c.awaits.result e.mid.number) c.awaits.ensures line.responses.here c.requires.sorted.responses.class);
      content = c.first_content-content.ensures.found;
      same_notices = c.first_from-notice.ensures.kept;
      same_contents = c.first_content-content.ensures.kept;
    } in
    let left = all_arrived c.take_at.new.queue.items in
    let taken = notice_picked test line ns cs n r k s arrived c.take_at.result left c.take_at.ensures.taken in
    let kept = kept_on c.take_at.result _ _ (all_arrived line.notices.items) c.take_at.ensures.kept s.same_notices in
    record {
      notices = queue_taken arrived (at_arrived test) (all_arrived line.notices.items) left c.take_at.result taken kept is_system c.requires.sorted.notices;
      responses = c.requires.sorted.responses;
      contents = subst (λ (zs : List Arrived). IsQueue is_content zs) (sym s.same_contents) c.requires.sorted.contents;
    }

pub returns-in-Notice-clause-up_to : goal.returns-in-Notice-clause-up_to
returns-in-Notice-clause-up_to g c = λ next up_to.
    let line = c.args.line.now in
    let test = g.E.Eligible.test c.args.test.now in
    let n = c.first_from-notice.result in
    let r = c.first-response.result in
    let k = c.first_content-content.result in
    let ns = all_arrived c.first_from-notice.new.queue.items in
    let cs = all_arrived c.first_content-content.new.queue.items in
    let s : Searched test line ns cs n r k =
    record {
      sorted = c.requires.sorted;
      notice = c.first_from-notice.ensures.found;
      response = c.first-response.ensures test (all_of is_response (λ (e : Taken). test e ≡ is_awaited c.awaits.result e.mid.number) c.awaits.ensures line.responses.here c.requires.sorted.responses.class);
      content = c.first_content-content.ensures.found;
      same_notices = c.first_from-notice.ensures.kept;
      same_contents = c.first_content-content.ensures.kept;
    } in
    let left = all_arrived c.take_at.new.queue.items in
    let taken = notice_picked test line ns cs n r k s arrived c.take_at.result left c.take_at.ensures.taken in
    let kept = kept_on c.take_at.result _ _ (all_arrived line.notices.items) c.take_at.ensures.kept s.same_notices in
    record {
      notices = all_taken arrived (at_arrived test) (all_arrived line.notices.items) left c.take_at.result taken kept (λ (z : Arrived). suc z.0 ≤ next) up_to.notices;
      responses = up_to.responses;
      contents = subst (λ (zs : List Arrived). AreBelow next zs) (sym s.same_contents) up_to.contents;
    }

pub returns-in-Response-clause-taken : goal.returns-in-Response-clause-taken
returns-in-Response-clause-taken g c =
    let line = c.args.line.now in
    let test = g.E.Eligible.test c.args.test.now in
    let n = c.first_from-notice.result in
    let r = c.first-response.result in
    let k = c.first_content-content.result in
    let ns = all_arrived c.first_from-notice.new.queue.items in
    let cs = all_arrived c.first_content-content.new.queue.items in
    let s : Searched test line ns cs n r k =
    record {
      sorted = c.requires.sorted;
      notice = c.first_from-notice.ensures.found;
      response = c.first-response.ensures test (all_of is_response (λ (e : Taken). test e ≡ is_awaited c.awaits.result e.mid.number) c.awaits.ensures line.responses.here c.requires.sorted.responses.class);
      content = c.first_content-content.ensures.found;
      same_notices = c.first_from-notice.ensures.kept;
      same_contents = c.first_content-content.ensures.kept;
    } in
    let left = c.take.new.self.here in
    let taken = c.take.ensures.taken (at_arrived test) s.response in
    response_out test line ns cs n r k s arrived c.take.result left (class_is c.number_of.result c.number_of-2.result r n k c.first_class.result classes.Response c.number_of.ensures c.number_of-2.ensures c.first_class.ensures c.in-Response.is) taken

pub returns-in-Response-clause-sorted : goal.returns-in-Response-clause-sorted
returns-in-Response-clause-sorted g c =
    let line = c.args.line.now in
    let test = g.E.Eligible.test c.args.test.now in
    let n = c.first_from-notice.result in
    let r = c.first-response.result in
    let k = c.first_content-content.result in
    let ns = all_arrived c.first_from-notice.new.queue.items in
    let cs = all_arrived c.first_content-content.new.queue.items in
    let s : Searched test line ns cs n r k =
    record {
      sorted = c.requires.sorted;
      notice = c.first_from-notice.ensures.found;
      response = c.first-response.ensures test (all_of is_response (λ (e : Taken). test e ≡ is_awaited c.awaits.result e.mid.number) c.awaits.ensures line.responses.here c.requires.sorted.responses.class);
      content = c.first_content-content.ensures.found;
      same_notices = c.first_from-notice.ensures.kept;
      same_contents = c.first_content-content.ensures.kept;
    } in
    let left = c.take.new.self.here in
    let taken = c.take.ensures.taken (at_arrived test) s.response in
    record {
      notices = subst (λ (zs : List Arrived). IsQueue is_system zs) (sym s.same_notices) c.requires.sorted.notices;
      responses = queue_taken arrived (at_arrived test) line.responses.here left c.take.result taken c.take.ensures.kept is_response c.requires.sorted.responses;
      contents = subst (λ (zs : List Arrived). IsQueue is_content zs) (sym s.same_contents) c.requires.sorted.contents;
    }

pub returns-in-Response-clause-up_to : goal.returns-in-Response-clause-up_to
returns-in-Response-clause-up_to g c = λ next up_to.
    let line = c.args.line.now in
    let test = g.E.Eligible.test c.args.test.now in
    let n = c.first_from-notice.result in
    let r = c.first-response.result in
    let k = c.first_content-content.result in
    let ns = all_arrived c.first_from-notice.new.queue.items in
    let cs = all_arrived c.first_content-content.new.queue.items in
    let s : Searched test line ns cs n r k =
    record {
      sorted = c.requires.sorted;
      notice = c.first_from-notice.ensures.found;
      response = c.first-response.ensures test (all_of is_response (λ (e : Taken). test e ≡ is_awaited c.awaits.result e.mid.number) c.awaits.ensures line.responses.here c.requires.sorted.responses.class);
      content = c.first_content-content.ensures.found;
      same_notices = c.first_from-notice.ensures.kept;
      same_contents = c.first_content-content.ensures.kept;
    } in
    let left = c.take.new.self.here in
    let taken = c.take.ensures.taken (at_arrived test) s.response in
    record {
      notices = subst (λ (zs : List Arrived). AreBelow next zs) (sym s.same_notices) up_to.notices;
      responses = all_taken arrived (at_arrived test) line.responses.here left c.take.result taken c.take.ensures.kept (λ (z : Arrived). suc z.0 ≤ next) up_to.responses;
      contents = subst (λ (zs : List Arrived). AreBelow next zs) (sym s.same_contents) up_to.contents;
    }

pub returns-in-Content-clause-taken : goal.returns-in-Content-clause-taken
returns-in-Content-clause-taken g c =
    let line = c.args.line.now in
    let test = g.E.Eligible.test c.args.test.now in
    let n = c.first_from-notice.result in
    let r = c.first-response.result in
    let k = c.first_content-content.result in
    let ns = all_arrived c.first_from-notice.new.queue.items in
    let cs = all_arrived c.first_content-content.new.queue.items in
    let s : Searched test line ns cs n r k =
    record {
      sorted = c.requires.sorted;
      notice = c.first_from-notice.ensures.found;
      response = c.first-response.ensures test (all_of is_response (λ (e : Taken). test e ≡ is_awaited c.awaits.result e.mid.number) c.awaits.ensures line.responses.here c.requires.sorted.responses.class);
      content = c.first_content-content.ensures.found;
      same_notices = c.first_from-notice.ensures.kept;
      same_contents = c.first_content-content.ensures.kept;
    } in
    content_out test line ns cs n r k s arrived c.take_at-in-Content.result (all_arrived c.take_at-in-Content.new.queue.items) (class_is c.number_of.result c.number_of-2.result r n k c.first_class.result classes.Content c.number_of.ensures c.number_of-2.ensures c.first_class.ensures c.in-Content.is) c.take_at-in-Content.ensures.taken

pub returns-in-Content-clause-sorted : goal.returns-in-Content-clause-sorted
returns-in-Content-clause-sorted g c =
    let line = c.args.line.now in
    let test = g.E.Eligible.test c.args.test.now in
    let n = c.first_from-notice.result in
    let r = c.first-response.result in
    let k = c.first_content-content.result in
    let ns = all_arrived c.first_from-notice.new.queue.items in
    let cs = all_arrived c.first_content-content.new.queue.items in
    let s : Searched test line ns cs n r k =
    record {
      sorted = c.requires.sorted;
      notice = c.first_from-notice.ensures.found;
      response = c.first-response.ensures test (all_of is_response (λ (e : Taken). test e ≡ is_awaited c.awaits.result e.mid.number) c.awaits.ensures line.responses.here c.requires.sorted.responses.class);
      content = c.first_content-content.ensures.found;
      same_notices = c.first_from-notice.ensures.kept;
      same_contents = c.first_content-content.ensures.kept;
    } in
    let left = all_arrived c.take_at-in-Content.new.queue.items in
    let taken = content_picked test line ns cs n r k s arrived c.take_at-in-Content.result left c.take_at-in-Content.ensures.taken in
    let kept = kept_on c.take_at-in-Content.result _ _ (all_arrived line.contents.items) c.take_at-in-Content.ensures.kept s.same_contents in
    record {
      notices = subst (λ (zs : List Arrived). IsQueue is_system zs) (sym s.same_notices) c.requires.sorted.notices;
      responses = c.requires.sorted.responses;
      contents = queue_taken arrived (at_arrived test) (all_arrived line.contents.items) left c.take_at-in-Content.result taken kept is_content c.requires.sorted.contents;
    }

pub returns-in-Content-clause-up_to : goal.returns-in-Content-clause-up_to
returns-in-Content-clause-up_to g c = λ next up_to.
    let line = c.args.line.now in
    let test = g.E.Eligible.test c.args.test.now in
    let n = c.first_from-notice.result in
    let r = c.first-response.result in
    let k = c.first_content-content.result in
    let ns = all_arrived c.first_from-notice.new.queue.items in
    let cs = all_arrived c.first_content-content.new.queue.items in
    let s : Searched test line ns cs n r k =
    record {
      sorted = c.requires.sorted;
      notice = c.first_from-notice.ensures.found;
      response = c.first-response.ensures test (all_of is_response (λ (e : Taken). test e ≡ is_awaited c.awaits.result e.mid.number) c.awaits.ensures line.responses.here c.requires.sorted.responses.class);
      content = c.first_content-content.ensures.found;
      same_notices = c.first_from-notice.ensures.kept;
      same_contents = c.first_content-content.ensures.kept;
    } in
    let left = all_arrived c.take_at-in-Content.new.queue.items in
    let taken = content_picked test line ns cs n r k s arrived c.take_at-in-Content.result left c.take_at-in-Content.ensures.taken in
    let kept = kept_on c.take_at-in-Content.result _ _ (all_arrived line.contents.items) c.take_at-in-Content.ensures.kept s.same_contents in
    record {
      notices = subst (λ (zs : List Arrived). AreBelow next zs) (sym s.same_notices) up_to.notices;
      responses = up_to.responses;
      contents = all_taken arrived (at_arrived test) (all_arrived line.contents.items) left c.take_at-in-Content.result taken kept (λ (z : Arrived). suc z.0 ≤ next) up_to.contents;
    }

pub returns-in-Content-clause-passed : goal.returns-in-Content-clause-passed
returns-in-Content-clause-passed g c =
    let line = c.args.line.now in
    let test = g.E.Eligible.test c.args.test.now in
    let n = c.first_from-notice.result in
    let r = c.first-response.result in
    let k = c.first_content-content.result in
    let ns = all_arrived c.first_from-notice.new.queue.items in
    let cs = all_arrived c.first_content-content.new.queue.items in
    let s : Searched test line ns cs n r k =
    record {
      sorted = c.requires.sorted;
      notice = c.first_from-notice.ensures.found;
      response = c.first-response.ensures test (all_of is_response (λ (e : Taken). test e ≡ is_awaited c.awaits.result e.mid.number) c.awaits.ensures line.responses.here c.requires.sorted.responses.class);
      content = c.first_content-content.ensures.found;
      same_notices = c.first_from-notice.ensures.kept;
      same_contents = c.first_content-content.ensures.kept;
    } in
    let left = all_arrived c.take_at-in-Content.new.queue.items in
    let taken = c.take_at-in-Content.ensures.taken ∙ ap (λ (zs : List Arrived). taken_where zs k) s.same_contents in
    let kept = kept_on c.take_at-in-Content.result _ _ (all_arrived line.contents.items) c.take_at-in-Content.ensures.kept s.same_contents in
    pass_taken arrived (all_arrived line.contents.items) left k c.take_at-in-Content.result taken kept (at_arrived test) c.first_content-content.new.passed c.first_content-content.ensures.before c.first_content-content.ensures.passed
