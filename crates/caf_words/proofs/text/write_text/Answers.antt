use Rattle.std.proofs.Common.{◌≡◌, List, ℕ, true, subst}
use Rattle.std.specs.Prelude.{OnOk}
use Rattle.std.specs.Str.{is_utf8}
use Rattle.std.proofs.lemmas.Str.{is_utf8-from_IsUtf8}
use Rattle.caf_words.specs.Datum.{are_bytes}
use Rattle.caf_words.proofs.RangeLemmas.{on_ok_both}
use Rattle.caf_words.proofs.text.write_text.Goals as goal

pub returns-clause-in_range : goal.returns-clause-in_range
returns-clause-in_range c =
    on_ok_both c.write_bytes.result (are_bytes c.args.text.now) (is_utf8 c.args.text.now)
    (subst (λ (bs : List ℕ). OnOk c.write_bytes.result (are_bytes bs ≡ true)) c.as_bytes.ensures.value c.write_bytes.ensures.in_range)
    (is_utf8-from_IsUtf8 c.args.text.now c.utf8.text)
