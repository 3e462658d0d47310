use Rattle.std.proofs.Common.{◌≡◌, Err, ap, sym}
use Rattle.std.proofs.lemmas.Result.{err_from_is_err_and}
use Rattle.std.specs.Io.{StartsWith}
use Rattle.caf_io.specs.Files.{told_file}
use Rattle.caf_corpus.specs.Limits.{IsFirst}
use Rattle.caf_corpus.specs.declared.file.Stop.TheVariants as stop
use Rattle.caf_corpus.proofs.FirstLemmas.{then_of_file}
use Rattle.caf_corpus.proofs.file.read_rest.Goals as goal

pub returns-in_err-read_part-clause-passed : goal.returns-in_err-read_part-clause-passed
returns-in_err-read_part-clause-passed g c = λ passed e.
    let p = err_from_is_err_and c.from_residual.result c.from_residual.ensures.1 in
    let here : c.read_part.result ≡ Err (stop.Passed passed) = cc (c.in_err-read_part.was, p.1, p.2, e) in
    let inv = c.loop.invariant in
    then_of_file (λ file. StartsWith file c.args.bytes.now.items) (λ file. StartsWith file c.loop.bytes.items) (λ file. IsFirst c.args.before file passed)
    (told_file (g.F.Files.told c.args.files.now) c.args.name.now) (told_file (g.F.Files.told c.loop.files) c.args.name.now)
    (ap (λ told. told_file told c.args.name.now) (sym inv.4)) inv.0 (c.read_part.ensures.passed passed here)
