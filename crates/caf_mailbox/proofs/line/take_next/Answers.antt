use Rattle.std.proofs.Common.{◌∙◌, sym, ap, subst, map, filter, arith}
use Rattle.caf_message.specs.Envelope.{plain_envelope, is_content}
use Rattle.caf_message.specs.Lists.{pick}
use Rattle.caf_mailbox.specs.Arrived.{arrived, all_arrived, at_arrived}
use Rattle.caf_mailbox.specs.Line.{numbered, IsSorted}
use Rattle.caf_mailbox.specs.Passed.{NonePass}
use Rattle.caf_mailbox.specs.declared.line.Line.{Line}
use Rattle.caf_mailbox.proofs.SearchLemmas.{length_map}
use Rattle.caf_mailbox.proofs.LineLemmas.{line_some, line_none, same_parts, contents-line, pass_queue, pass_line}
use Rattle.caf_mailbox.proofs.line.take_next.Goals as goal

pub take_numbered-requires-clause-passed : goal.take_numbered-requires-clause-passed
take_numbered-requires-clause-passed g c =
    let test = g.E.Eligible.test c.args.test.now in
    let line = c.args.line.now in
    pass_queue test (all_arrived line.contents.items) (filter is_content (map plain_envelope line.late.items)) c.args.passed.now
    (subst (λ es. NonePass test es c.args.passed.now) (contents-line line c.requires.sorted) c.requires.passed)

pub returns-in-Some-clause-taken : goal.returns-in-Some-clause-taken
returns-in-Some-clause-taken g c =
    let test = g.E.Eligible.test c.args.test.now in
    let line = c.args.line.now in
    line_some test (numbered line) (numbered c.take_numbered.new.line) (arrived c.in-Some.one) (map plain_envelope line.late.items) (map plain_envelope c.take_numbered.new.line.late.items)
    (ap (λ late. map plain_envelope late.items) c.in-Some.ensures.late) c.in-Some.ensures.taken

pub returns-in-Some-clause-passed : goal.returns-in-Some-clause-passed
returns-in-Some-clause-passed g c =
    let test = g.E.Eligible.test c.args.test.now in
    let line = c.take_numbered.new.line in
    let n = c.take_numbered.new.passed in
    subst (λ es. NonePass test es n) (sym (contents-line line c.in-Some.ensures.sorted))
    (pass_line test (all_arrived line.contents.items) (filter is_content (map plain_envelope line.late.items)) n (omega (arith, c.in-Some.ensures.within, length_map arrived line.contents.items)) c.in-Some.ensures.passed)

pub returns-in-None-clause-taken : goal.returns-in-None-clause-taken
returns-in-None-clause-taken g c =
    let test = g.E.Eligible.test c.args.test.now in
    let line = c.take_numbered.new.line in
    line_none test plain_envelope (numbered line) (map plain_envelope line.late.items) (map plain_envelope c.take_eligible.new.list.items) c.take_eligible.result
    (c.in-None.ensures.taken ∙ ap (pick (at_arrived test)) (sym c.in-None.ensures.kept)) c.take_eligible.ensures.taken
    ∙ ap (pick test) (same_parts c.args.line.now line c.in-None.ensures.kept c.in-None.ensures.late)

pub returns-in-None-clause-up_to : goal.returns-in-None-clause-up_to
returns-in-None-clause-up_to g c = λ next up_to.
    let h = c.in-None.ensures.up_to next up_to in
    record { notices = h.notices; responses = h.responses; contents = h.contents }

pub returns-in-None-clause-passed : goal.returns-in-None-clause-passed
returns-in-None-clause-passed g c =
    let test = g.E.Eligible.test c.args.test.now in
    let line : Line = record c.take_numbered.new.line { late = c.take_eligible.new.list } in
    let sorted : IsSorted line = (let h = c.in-None.ensures.sorted in record { notices = h.notices; responses = h.responses; contents = h.contents }) in
    let n = c.take_numbered.new.passed in
    subst (λ es. NonePass test es n) (sym (contents-line line sorted))
    (pass_line test (all_arrived line.contents.items) (filter is_content (map plain_envelope line.late.items)) n (omega (arith, c.in-None.ensures.within, length_map arrived line.contents.items)) c.in-None.ensures.passed)
