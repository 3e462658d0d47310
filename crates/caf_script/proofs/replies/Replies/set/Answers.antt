use Rattle.std.proofs.Common.{List, map, ap, ◌∙◌}
use Rattle.std.specs.Prelude.{slice_set}
use Rattle.std.proofs.lemmas.List.{map-set}
use Rattle.caf_script.specs.Reply.{Reply, plain_reply}
use Rattle.caf_script.specs.declared.replies.StepReply.{StepReply}
use Rattle.caf_script.proofs.replies.Replies.set.Goals as goal

pub returns : goal.returns
returns c =
    ap (map plain_reply) (c.of_vec.ensures ∙ c.set.ensures ∙ ap (λ (rs : List StepReply). slice_set rs c.args.step c.args.reply) (c.into_vec-replies.ensures ∙ c.replace.ensures.value))
    ∙ map-set plain_reply c.self.inside.replies c.args.step c.args.reply
    ∙ ap (λ (rs : List Reply). slice_set rs c.args.step (plain_reply c.args.reply)) c.self.view_is
