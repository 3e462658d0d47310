use Rattle.std.proofs.Common.{Some, not, ap, sym, ◌∙◌, rules, string_bytes}
use Rattle.std.specs.Prelude.{unwrap_or}
use Rattle.std.specs.Cmp.Lexicographic.{nat_list_cmp_total}
use Rattle.std.specs.FinMap as map
use Rattle.std.proofs.lemmas.Map.Text.{hash_map_updates_text}
use Rattle.caf_index.specs.Index.{index_of_rows, with_line, lines_in}
use Rattle.caf_index.proofs.NumberMapLemmas.{insert_present}
use Rattle.caf_index.proofs.IndexLemmas.{on_err, words_apart, get-rows, rows-updated}
use Rattle.caf_index.proofs.index.add_to.Goals as goal

pub returns-in_err-is_new-in-Some-clause-kept : goal.returns-in_err-is_new-in-Some-clause-kept
returns-in_err-is_new-in-Some-clause-kept c =
    let old = c.args.words.now in
    let here = get-rows old.entries c.args.word.now ∙ sym c.in-Some.ensures.value in
    let put = rows-updated old.entries (c.get_mut.follows.lender c.add_in_file.new.self).entries c.args.word.now c.add_in_file.new.self (hash_map_updates_text c.args.word.now old (c.get_mut.follows.lender c.add_in_file.new.self) (Some c.add_in_file.new.self) ((c.get_mut.follows.holds c.add_in_file.new.self).3 (search rules))) in
    on_err _ (put ∙ ap (map.insert (index_of_rows old.entries) c.args.word.now) c.in_err-is_new-in-Some.ensures.kept
    ∙ insert_present nat_list_cmp_total words_apart (index_of_rows old.entries) c.args.word.now c.in-Some.files.now here)

pub returns-in_ok-is_new-in-Some-clause-added : goal.returns-in_ok-is_new-in-Some-clause-added
returns-in_ok-is_new-in-Some-clause-added c =
    let old = c.args.words.now in
    let here = get-rows old.entries c.args.word.now ∙ sym c.in-Some.ensures.value in
    let put = rows-updated old.entries (c.get_mut.follows.lender c.add_in_file.new.self).entries c.args.word.now c.add_in_file.new.self (hash_map_updates_text c.args.word.now old (c.get_mut.follows.lender c.add_in_file.new.self) (Some c.add_in_file.new.self) ((c.get_mut.follows.holds c.add_in_file.new.self).3 (search rules))) in
    put ∙ ap (map.insert (index_of_rows old.entries) c.args.word.now) (c.in_ok-is_new-in-Some.ensures.added ∙ ap (λ o. with_line (unwrap_or o map.empty) c.args.file c.args.line) (sym here))

pub returns-in_ok-is_new-in-Some-clause-is_new : goal.returns-in_ok-is_new-in-Some-clause-is_new
returns-in_ok-is_new-in-Some-clause-is_new c =
    let old = c.args.words.now in
    let here = get-rows old.entries c.args.word.now ∙ sym c.in-Some.ensures.value in
    c.in_ok-is_new-in-Some.ensures.is_new ∙ ap (λ o. not (map.contains_key (lines_in (unwrap_or o map.empty) c.args.file) c.args.line)) (sym here)

pub returns-in_ok-insert-in-None-clause-added : goal.returns-in_ok-insert-in-None-clause-added
returns-in_ok-insert-in-None-clause-added c =
    let old = c.args.words.now in
    let here = get-rows old.entries c.args.word.now ∙ sym c.in-None.ensures.value in
    let files = c.add_in_file-in-None.new.self in
    let key = c.in_ok-key-in-None.key in
    let kept = c.get_mut.follows.lender-at-none in
    let put = rows-updated kept.entries c.insert.new.self.entries (string_bytes key) files (hash_map_updates_text (string_bytes key) kept c.insert.new.self (Some files) c.in_ok-insert-in-None.ensures.updates) in
    put ∙ ap (λ m. map.insert (index_of_rows m.entries) (string_bytes key) files) c.get_mut.follows.holds-at-none
    ∙ ap (λ bytes. map.insert (index_of_rows old.entries) bytes files) c.in_ok-key-in-None.ensures.ok
    ∙ ap (map.insert (index_of_rows old.entries) c.args.word.now)
    (c.in_ok-is_new-in-None.ensures.added ∙ ap (λ m. with_line m c.args.file c.args.line) c.new-files.ensures ∙ ap (λ o. with_line (unwrap_or o map.empty) c.args.file c.args.line) (sym here))

pub returns-in_ok-insert-in-None-clause-is_new : goal.returns-in_ok-insert-in-None-clause-is_new
returns-in_ok-insert-in-None-clause-is_new c =
    let old = c.args.words.now in
    let here = get-rows old.entries c.args.word.now ∙ sym c.in-None.ensures.value in
    c.in_ok-is_new-in-None.ensures.is_new ∙ ap (λ m. not (map.contains_key (lines_in m c.args.file) c.args.line)) c.new-files.ensures
    ∙ ap (λ o. not (map.contains_key (lines_in (unwrap_or o map.empty) c.args.file) c.args.line)) (sym here)
