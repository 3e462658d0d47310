use Rattle.std.proofs.Common.{take, rules}
use Rattle.std.proofs.lemmas.Option.{IfSome_then}
use Rattle.caf_io.specs.Files.{told_file}
use Rattle.caf_io.proofs.PrefixLemmas.{StartsWith-append}
use Rattle.caf_io.proofs.reading.append_part.Goals as goal

pub returns-clause-next : goal.returns-clause-next
returns-clause-next g c =
    IfSome_then (told_file (g.F.Files.told c.args.files.now) c.args.name.now) c.in_ok-count.ensures.bytes
    (λ file next start. rw c.in_ok-extend_from_slice.ensures.items
    (StartsWith-append file c.args.bytes.now.items (take c.in_ok-count.count c.read.new.buffer) c.len-from.result
    (search rules) start next))
