use Rattle.std.proofs.Common.{◌≡◌, Err, take, rules}
use Rattle.std.proofs.lemmas.Option.{IfSome_then}
use Rattle.std.proofs.lemmas.Result.{err_from_is_err_and, IfErr-at_err}
use Rattle.std.specs.Io.{StartsWith}
use Rattle.caf_io.specs.Files.{told_file}
use Rattle.caf_corpus.specs.Limits.{IsFirst}
use Rattle.caf_corpus.proofs.FirstLemmas.{next_in_front, first_in_file}
use Rattle.caf_corpus.proofs.file.read_part.Goals as goal

pub returns-clause-next : goal.returns-clause-next
returns-clause-next g c =
    IfSome_then (told_file (g.F.Files.told c.args.files.now) c.args.name.now) c.in_ok-count.ensures.bytes
    (λ file next start. rw c.in_ok-extend_from_slice.ensures.items
    (next_in_front file c.args.bytes.now.items (take c.in_ok-count.count c.read.new.buffer) c.len-from.result
    (search rules) start next))

pub returns-in_err-spot-clause-passed : goal.returns-in_err-spot-clause-passed
returns-in_err-spot-clause-passed g c = λ passed e.
    let p = err_from_is_err_and c.from_residual-in_err-spot.result c.from_residual-in_err-spot.ensures.1 in
    let here : c.scan.result ≡ Err passed = cc (c.in_err-spot.was, p.1, p.2, e) in
    let first = IfErr-at_err (λ passed. IsFirst c.args.before c.as_slice.result.now passed) here c.scan.ensures.passed in
    IfSome_then (told_file (g.F.Files.told c.args.files.now) c.args.name.now) c.in_ok-count.ensures.bytes
    (λ file next start.
    let front : StartsWith file c.as_slice.result.now = rw (c.as_slice.ensures.value, c.in_ok-extend_from_slice.ensures.items)
    (next_in_front file c.args.bytes.now.items (take c.in_ok-count.count c.read.new.buffer) c.len-from.result
    (search rules) start next) in
    first_in_file c.args.before file c.as_slice.result.now front passed first)
