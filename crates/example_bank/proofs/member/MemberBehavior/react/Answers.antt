use Rattle.std.proofs.Common.{ap, sym, ◌∙◌}
use Rattle.caf_actor.specs.PlainForms.{plain_input}
use Rattle.example_bank.specs.Member.{role_after}
use Rattle.example_bank.specs.declared.member.Role.{Role}
use Rattle.example_bank.specs.declared.member.Role.TheVariants as role
use Rattle.example_bank.proofs.RoleLemmas.{with_role}
use Rattle.example_bank.proofs.member.MemberBehavior.react.Goals as goal
use Rattle.example_bank.proofs.member.MemberBehavior.react.Goals.{in-Teller+in_ok-answer-in-Teller, in-Account+in_ok-answer-in-Account}

pub returns-clause-next : goal.returns-clause-next
returns-clause-next c =
    let i = plain_input c.args.input in
    elim c.match-self.branch [
      | in-Teller+in_ok-answer-in-Teller w ↦
          w.self-is ∙ with_role c.args.self.now _ _ ∙ ap (λ (r : Role). record c.args.self.now { role = r }) (ap role.Teller w.in_ok-answer-in-Teller.ensures.got ∙ sym (ap (λ (r : Role). role_after r i) w.in-Teller.is))
      | in-Account+in_ok-answer-in-Account w ↦
          w.self-is ∙ with_role c.args.self.now _ _ ∙ ap (λ (r : Role). record c.args.self.now { role = r }) (ap role.Account w.in_ok-answer-in-Account.ensures.account ∙ sym (ap (λ (r : Role). role_after r i) w.in-Account.is))
    ]
