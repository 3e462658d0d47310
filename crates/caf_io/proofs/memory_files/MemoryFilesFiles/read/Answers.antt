use Rattle.std.proofs.Common.{◌≡◌, ◌≢◌, ◌∙◌, true, false, inl, ap, sym, arith, rules, map}
use Rattle.std.specs.Ordering.{nat_cmp}
use Rattle.std.specs.Cmp.Lexicographic.{slice_cmp}
use Rattle.std.specs.FinMap as finite
use Rattle.std.proofs.lemmas.Map.Text.{text_keys}
use Rattle.caf_io.specs.MemoryFiles.{bytes_in}
use Rattle.caf_io.proofs.ContentLemmas.{get-found, get-absent, by_name, by_name-set_value, on_ok}
use Rattle.caf_io.proofs.memory_files.MemoryFilesFiles.read.Goals as goal

pub returns-in-Some-clause-bytes : goal.returns-in-Some-clause-bytes
returns-in-Some-clause-bytes c = let at = get-found bytes_in c.args.name.now c.args.self.now.files.entries c.in-Some.file.now (sym c.in-Some.ensures.value) in rw at c.read.ensures.bytes

pub returns-in-Some-clause-end : goal.returns-in-Some-clause-end
returns-in-Some-clause-end c = let at = get-found bytes_in c.args.name.now c.args.self.now.files.entries c.in-Some.file.now (sym c.in-Some.ensures.value) in rw at c.read.ensures.end

pub returns-in-Some-clause-there : goal.returns-in-Some-clause-there
returns-in-Some-clause-there c = let at = get-found bytes_in c.args.name.now c.args.self.now.files.entries c.in-Some.file.now (sym c.in-Some.ensures.value) in rw at (search rules)

pub returns-in-Some-clause-same_content : goal.returns-in-Some-clause-same_content
returns-in-Some-clause-same_content c =
    ap (λ entries. finite.from_entries {R = slice_cmp nat_cmp} (map (by_name bytes_in) entries)) (c.get_mut.follows.holds c.read.new.self).0
    ∙ ap (finite.from_entries {R = slice_cmp nat_cmp})
    (by_name-set_value bytes_in _ c.args.self.now.files.entries c.in-Some.file.now c.read.new.self (sym c.in-Some.ensures.value) c.read.ensures.same_bytes)

pub returns-in-Some-clause-none_falls : goal.returns-in-Some-clause-none_falls
returns-in-Some-clause-none_falls c = grind (arith, text_keys)

pub returns-in-Some-clause-others : goal.returns-in-Some-clause-others
returns-in-Some-clause-others c = λ other apart.
    let differs : c.args.name.now ≢ other = λ same. apart (inl same) in
    grind (arith, text_keys)

pub returns-in-Some-clause-no_fault : goal.returns-in-Some-clause-no_fault
returns-in-Some-clause-no_fault c = on_ok c.read.result c.read.ensures.no_fault (λ same other. grind (arith, text_keys, same))

pub returns-in-None-clause-planned : goal.returns-in-None-clause-planned
returns-in-None-clause-planned c =
    let at = get-absent bytes_in c.args.name.now c.args.self.now.files.entries (sym c.in-None.ensures.value) in
    λ there _. let no : false ≡ true = rw at at there in absurd cc
