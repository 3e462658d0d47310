use Rattle.std.proofs.Common.{◌++◌, List, map, length, ap, sym, ◌∙◌, arith}
use Rattle.caf_actor.specs.PlainForms.{plain_output}
use Rattle.caf_actor.specs.PlainOutput.{PlainOutput}
use Rattle.caf_kinds.specs.Source.{Sourced}
use Rattle.caf_kinds.proofs.SourceLemmas.{goes_on_with, ends_with, on_ok_map}
use Rattle.caf_kinds.proofs.source.Source.follow.Goals as goal

pub returns-then-end-chunks : goal.returns-then-end-chunks
returns-then-end-chunks c =
    let chunks = ap (λ (s : Sourced). length s.chunks) c.self.view_is in
    let left = goes_on_with c.args.self.now c.args.end c.requires (omega (arith, chunks)) in
    on_ok_map c.tell_itself.result (λ e. e ∙ ap (λ (os : List PlainOutput). map plain_output c.args.outputs.now ++ os) (sym left.0)) c.tell_itself.ensures

pub returns-else-end-chunks : goal.returns-else-end-chunks
returns-else-end-chunks c =
    let chunks = ap (λ (s : Sourced). length s.chunks) c.self.view_is in
    let left = ends_with c.args.self.now c.args.end c.requires (omega (arith, chunks)) in
    on_ok_map c.tell_last.result (λ e. e ∙ ap (λ (os : List PlainOutput). map plain_output c.args.outputs.now ++ os) (sym left.0)) c.tell_last.ensures
