use Rattle.std.proofs.Common.{◌+◌, length, ap, sym, subst, arith}
use Rattle.caf_index.specs.Index.{HasEntry}
use Rattle.caf_index.specs.PlainIndex.{plain_index_of}
use Rattle.caf_index.proofs.PlainIndexLemmas.{stands_from_entry, entry_from_stands, all_read}
use Rattle.caf_index.proofs.plain.plain_index.Goals as goal

pub returns-clause-entries : goal.returns-clause-entries
returns-clause-entries c = λ word file line.
    let files = c.args.files.now in
    let is = all_read c.loop-before.index (plain_index_of files) (c.loop-before.before + 1) files c.loop-before.before (omega (arith, ap length c.as_slice-bytes-items.ensures)) c.loop-before.invariant in (
      λ has. stands_from_entry files word file line (subst (λ m. HasEntry m word file line) is has),
      λ stands. subst (λ m. HasEntry m word file line) (sym is) (entry_from_stands files word file line stands),
    )
