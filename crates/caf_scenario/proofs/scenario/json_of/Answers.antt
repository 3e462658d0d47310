use Rattle.std.proofs.Common.{◌≡◌, false, rules}
use Rattle.std.specs.Prelude.{IsTrue}
use Rattle.serde_json.specs.View.{view}
use Rattle.caf_scenario.proofs.ValidLemmas.{of_text, no_text}
use Rattle.caf_scenario.proofs.scenario.json_of.Goals as goal

pub returns-in-Ok : goal.returns-in-Ok
returns-in-Ok c = of_text c.args.bytes.now (view c.in-Ok.json) c.in-Ok.ensures.ok.0 c.in-Ok.ensures.ok.1

pub returns-else-is_memory : goal.returns-else-is_memory
returns-else-is_memory c =
    λ _. no_text c.args.bytes.now (c.in-Err.ensures.err (λ memory.
    let no : c.is_memory.result ≡ false = c.if-is_memory.false in
    let yes : IsTrue c.is_memory.result = c.is_memory.ensures.1 memory in
    absurd (first_of (cc, search rules))))
