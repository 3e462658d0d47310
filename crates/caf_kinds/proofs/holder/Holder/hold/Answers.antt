use Rattle.caf_kinds.proofs.AskedLemmas.{is_text}
use Rattle.caf_kinds.proofs.holder.Holder.hold.Goals as goal

pub hold-requires : goal.hold-requires
hold-requires c = is_text c.args.message.content c.row_in.new.message.content _ c.in_ok-row_in.ensures.kept (rw c.in-Some.is at c.in_ok-row_in.ensures.content)
