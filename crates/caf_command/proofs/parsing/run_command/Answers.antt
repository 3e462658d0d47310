use Rattle.std.proofs.Common.{rules, ap, ap₂, codes, true, Some, ◌≡◌, ◌∙◌}
use Rattle.clap.specs.Words.{App, Rule, app_of, new_app, rule_of, with_rule}
use Rattle.std.proofs.lemmas.Result.{IfOk-weaker}
use Rattle.clap.specs.Simple.{app_of_fields}
use Rattle.clap.specs.declared.builder.action.ArgAction.TheVariants.{Set}
use Rattle.clap.specs.declared.builder.arg.Arg.{Arg}
use Rattle.clap.specs.declared.builder.command.Command.{Command}
use Rattle.clap.specs.declared.builder.command.Command.TheOpen.{Command-F}
use Rattle.caf_command.specs.Clap.{valued, traced, named}
use Rattle.caf_command.specs.declared.options.Valued.TheVariants.{Scenario, Workers, Budget}
use Rattle.caf_command.proofs.parsing.run_command.Goals as goal

abbrev plain_app : App
plain_app = let a = new_app (codes "run") in record a { top = record a.top { no_binary_name = true; disable_help_flag = true; disable_version_flag = true } }

pub returns : goal.returns
returns c =
    let scenario_is : rule_of c.action-scenario.result ≡ valued Scenario = ap rule_of c.action-scenario.ensures ∙ ap (λ (a : Arg). rule_of (record a { action = Some Set })) c.long.ensures
    ∙ ap (λ (r : Rule). record r { long = Some (codes "scenario"); action = Some Set }) c.new.ensures.rule in
    let workers_is : rule_of c.action-workers.result ≡ valued Workers = ap rule_of c.action-workers.ensures ∙ ap (λ (a : Arg). rule_of (record a { action = Some Set })) c.long-2.ensures
    ∙ ap (λ (r : Rule). record r { long = Some (codes "workers"); action = Some Set }) c.new-2.ensures.rule in
    let budget_is : rule_of c.action-budget.result ≡ valued Budget = search rules in
    let trace_is : rule_of c.action-trace.result ≡ traced = search rules in
    let files_is : rule_of c.action-files.result ≡ named = search rules in
    let first_is : app_of c.disable_version_flag-command.result ≡ plain_app = ap app_of_fields c.disable_version_flag-command.ensures
    ∙ ap (λ (f : Command-F Command). app_of_fields (record f { disable_version_flag = true })) c.disable_help_flag.ensures
    ∙ ap (λ (f : Command-F Command). app_of_fields (record f { disable_help_flag = true; disable_version_flag = true })) c.no_binary_name.ensures
    ∙ ap (λ (a : App). record a { top = record a.top { no_binary_name = true; disable_help_flag = true; disable_version_flag = true } }) c.new-6.ensures.app in
    let a1 : app_of c.in_ok-command.command ≡ with_rule plain_app (valued Scenario) = c.in_ok-command.ensures.shape (ap (λ (a : Arg). a.global) c.action-scenario.ensures ∙ ap (λ (a : Arg). a.global) c.long.ensures ∙ c.new.ensures.optional.1) ∙ ap₂ with_rule first_is scenario_is in
    let a2 : app_of c.in_ok-command-2.command ≡ with_rule (with_rule plain_app (valued Scenario)) (valued Workers) = c.in_ok-command-2.ensures.shape (ap (λ (a : Arg). a.global) c.action-workers.ensures ∙ ap (λ (a : Arg). a.global) c.long-2.ensures ∙ c.new-2.ensures.optional.1) ∙ ap₂ with_rule a1 workers_is in
    let a3 : app_of c.in_ok-command-3.command ≡ with_rule (with_rule (with_rule plain_app (valued Scenario)) (valued Workers)) (valued Budget) = c.in_ok-command-3.ensures.shape (ap (λ (a : Arg). a.global) c.action-budget.ensures ∙ ap (λ (a : Arg). a.global) c.long-3.ensures ∙ c.new-3.ensures.optional.1) ∙ ap₂ with_rule a2 budget_is in
    let a4 : app_of c.in_ok-command-4.command ≡ with_rule (with_rule (with_rule (with_rule plain_app (valued Scenario)) (valued Workers)) (valued Budget)) traced = c.in_ok-command-4.ensures.shape (ap (λ (a : Arg). a.global) c.action-trace.ensures ∙ ap (λ (a : Arg). a.global) c.long-4.ensures ∙ c.new-4.ensures.optional.1) ∙ ap₂ with_rule a3 trace_is in
    IfOk-weaker c.arg-5.result _ _ (λ command added. added.shape (ap (λ (a : Arg). a.global) c.action-files.ensures ∙ c.new-5.ensures.optional.1) ∙ ap₂ with_rule a4 files_is) c.arg-5.ensures
