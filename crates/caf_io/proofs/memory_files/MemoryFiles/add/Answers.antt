use Rattle.std.proofs.Common.{◌∙◌, ap, string_bytes, arith}
use Rattle.std.specs.FinMap as finite
use Rattle.std.proofs.lemmas.Map.Text.{text_keys}
use Rattle.caf_io.specs.MemoryFiles.{bytes_in, content}
use Rattle.caf_io.proofs.ContentLemmas.{by_name-insert}
use Rattle.caf_io.proofs.memory_files.MemoryFiles.add.Goals as goal

pub returns-clause-added : goal.returns-clause-added
returns-clause-added c =
    by_name-insert bytes_in (string_bytes c.in_ok-name.name) _ c.args.self.now.files c.insert.new.self c.in_ok-insert.ensures.updates
    ∙ ap (λ name. finite.insert (content c.args.self.now) name c.in_ok-bytes.bytes.items) c.in_ok-name.ensures.ok
    ∙ ap (λ bytes. finite.insert (content c.args.self.now) c.args.name.now bytes) c.in_ok-bytes.ensures.items

pub returns-clause-others : goal.returns-clause-others
returns-clause-others c = λ other apart. grind (arith, text_keys)
