use Rattle.std.proofs.Common.{◌≡◌, Err, refl}
use Rattle.std.proofs.lemmas.Option.{IfSome_then}
use Rattle.std.proofs.lemmas.Result.{err_from_is_err_and}
use Rattle.std.specs.Io.{StartsWith}
use Rattle.caf_io.specs.Files.{told_file}
use Rattle.caf_corpus.specs.declared.file.Stop.TheVariants as stop
use Rattle.caf_corpus.proofs.file.read_whole.Goals as goal

pub returns-in_err-read_rest-clause-passed : goal.returns-in_err-read_rest-clause-passed
returns-in_err-read_rest-clause-passed g c = λ passed e.
    let p = err_from_is_err_and c.from_residual.result c.from_residual.ensures.1 in
    let here : c.read_rest.result ≡ Err (stop.Passed passed) = cc (c.in_err-read_rest.was, p.1, p.2, e) in
    IfSome_then (told_file (g.F.Files.told c.args.files.now) c.args.name.now) (c.read_rest.ensures.passed passed here)
    (λ file first. let start : StartsWith file c.new-bytes.result.items = rw c.new-bytes.ensures.items refl in first start)
