use Rattle.std.proofs.Common.{◌≡◌, ◌+◌, ◌<◌, Err, [], ◌∷◌, ◌++◌, length, get_or, subst, ap, ◌∙◌, IfSome, arith}
use Rattle.caf_io.specs.Files.{told_file, IsThere}
use Rattle.caf_corpus.specs.Limits.{IsFirst}
use Rattle.caf_corpus.specs.declared.scan.Passed.TheVariants as passed
use Rattle.caf_corpus.specs.declared.file.Stop.TheVariants as stop
use Rattle.caf_corpus.specs.declared.corpus.CorpusFault.TheVariants as faults
use Rattle.caf_corpus.proofs.CorpusLemmas.{bytes_more, within_more, whole_more, there_more, passed_here}
use Rattle.caf_corpus.proofs.corpus.read_corpus.Goals as goal

pub returns-in-Err-clause-line : goal.returns-in-Err-clause-line
returns-in-Err-clause-line g c = λ file line e.
    let fault : c.fault_of.result ≡ faults.Line file line = cc e in
    let told = g.F.Files.told c.args.files.now in
    let inv = c.loop-name.invariant in
    let inside : c.loop-name.name-index < length c.args.names.now = subst (λ names. c.loop-name.name-index < length names) c.as_slice-name-items.ensures c.loop-name-test.true in
    let from = c.fault_of.ensures.line file line fault in
    let here : c.read_whole.result ≡ Err (stop.Passed (passed.Line line)) = c.in-Err.is ∙ ap Err from.0 in
    passed_here told c.args.names.now c.loop-name.name-index c.as_str.result.now inside (cc)
    c.loop-name.corpus file c.loop-name.before (passed.Line line) (from.1 ∙ ap (λ n. n + 1) inv.number) inv.before inv.whole inv.within inv.all_there
    (subst (λ t. IsThere t c.as_str.result.now) inv.told (c.read_whole.ensures.passed_there (passed.Line line) here))
    (subst (λ t. IfSome (told_file t c.as_str.result.now) (λ bytes. IsFirst c.loop-name.before bytes (passed.Line line))) inv.told (c.read_whole.ensures.passed (passed.Line line) here))

pub returns-in-Err-clause-corpus : goal.returns-in-Err-clause-corpus
returns-in-Err-clause-corpus g c = λ file line e.
    let fault : c.fault_of.result ≡ faults.Corpus file line = cc e in
    let told = g.F.Files.told c.args.files.now in
    let inv = c.loop-name.invariant in
    let inside : c.loop-name.name-index < length c.args.names.now = subst (λ names. c.loop-name.name-index < length names) c.as_slice-name-items.ensures c.loop-name-test.true in
    let from = c.fault_of.ensures.corpus file line fault in
    let here : c.read_whole.result ≡ Err (stop.Passed (passed.Corpus line)) = c.in-Err.is ∙ ap Err from.0 in
    passed_here told c.args.names.now c.loop-name.name-index c.as_str.result.now inside (cc)
    c.loop-name.corpus file c.loop-name.before (passed.Corpus line) (from.1 ∙ ap (λ n. n + 1) inv.number) inv.before inv.whole inv.within inv.all_there
    (subst (λ t. IsThere t c.as_str.result.now) inv.told (c.read_whole.ensures.passed_there (passed.Corpus line) here))
    (subst (λ t. IfSome (told_file t c.as_str.result.now) (λ bytes. IsFirst c.loop-name.before bytes (passed.Corpus line))) inv.told (c.read_whole.ensures.passed (passed.Corpus line) here))

pub loop-name-preserved : goal.loop-name-preserved
loop-name-preserved g c =
    let told = g.F.Files.told c.args.files.now in
    let inv = c.loop-name.invariant in
    let inside : c.loop-name.name-index < length c.args.names.now = subst (λ names. c.loop-name.name-index < length names) c.as_slice-name-items.ensures c.loop-name-test.true in
    let bytes = c.in-Ok.bytes.items in
    let name = c.as_str.result.now in
    let is : name ≡ get_or c.args.names.now c.loop-name.name-index name = cc in
    let pushed : c.push.new.self ≡ c.loop-name.corpus ++ bytes ∷ [] = c.in_ok-push-in-Ok.ensures.added ∙ ap (λ b. c.loop-name.corpus ++ b ∷ []) c.of_vec.ensures in
    let more = bytes_more c.loop-name.corpus bytes in
    let long : c.in-Ok.bytes.len ≡ length bytes = c.in-Ok.bytes.ok.0 in
    record {
      number = omega (arith, inv.number);
      room = inv.room;
      before = rw pushed (omega (arith, more, inv.before, long, c.len.ensures));
      whole = rw pushed (whole_more told c.args.names.now c.loop-name.name-index name inside is c.loop-name.corpus bytes inv.whole
          (subst (λ t. IfSome (told_file t name) (λ file. bytes ≡ file)) inv.told c.in-Ok.ensures.bytes));
      within = rw pushed (within_more c.loop-name.corpus bytes inv.within c.in-Ok.ensures.short (omega (arith, inv.before, long, c.in-Ok.ensures.within)));
      all_there = there_more told c.args.names.now c.loop-name.name-index name inside is inv.all_there (subst (λ t. IsThere t name) inv.told c.in-Ok.ensures.there);
      told = c.read_whole.ensures.same_content ∙ inv.told;
      faults = λ other. c.in-Ok.ensures.no_fault other ∙ inv.faults other;
    }
