use Rattle.std.proofs.Common.{ap, ◌∙◌}
use Rattle.std.specs.List.{list_any}
use Rattle.caf_script.specs.Reply.{plain_reply, is_open}
use Rattle.caf_script.specs.declared.replies.StepReply.{StepReply}
use Rattle.caf_script.proofs.ReplyLemmas.{any_mapped}
use Rattle.caf_script.proofs.replies.Replies.wait.Goals as goal

pub returns : goal.returns
returns c =
    c.is_any_open.ensures
    ∙ ap (list_any (λ (told : StepReply). is_open (plain_reply told))) c.as_slice.ensures
    ∙ any_mapped is_open plain_reply c.self.inside.replies
    ∙ ap (list_any is_open) c.self.view_is
