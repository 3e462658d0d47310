use Rattle.std.proofs.Common.{ℕ, ◌≤◌, List, length, ap, sym, subst, ◌∙◌}
use Rattle.caf_types.specs.Table.{shape_at}
use Rattle.caf_message.specs.Fits.{Fits}
use Rattle.caf_message.specs.declared.message.Message.{Message}
use Rattle.caf_kinds.specs.Core.{core}
use Rattle.caf_kinds.proofs.PlanningLemmas.{as_many, built_message, never_large, sound_of}
use Rattle.caf_kinds.proofs.planning.message_of.Goals as goal

pub unreachable-requires : goal.unreachable-requires
unreachable-requires c =
    let m = c.requires.message in
    let types = c.args.types.now in
    let values = c.args.values.now in
    let built = built_message types _ values _ c.in_ok-builder.builder c.as_slice.ensures c.as_slice-2.ensures (as_many types values m.shapes m.known m.fit) c.in_ok-builder.ensures in
    never_large Message c.in-Err-Large.field-0 _ c.in-Err-Large.field-0-is c.in-Err-Large.ensures.large (subst (λ (words : List ℕ). length words ≤ 4194304) (sym built) m.small)

pub returns-in-Ok-clause-content : goal.returns-in-Ok-clause-content
returns-in-Ok-clause-content c =
    let m = c.requires.message in
    let types = c.args.types.now in
    let values = c.args.values.now in
    ap (λ r. r.content) c.in-Ok.ensures.made
    ∙ built_message types _ values _ c.in_ok-builder.builder c.as_slice.ensures c.as_slice-2.ensures (as_many types values m.shapes m.known m.fit) c.in_ok-builder.ensures

pub returns-in-Ok-clause-sound : goal.returns-in-Ok-clause-sound
returns-in-Ok-clause-sound c =
    let m = c.requires.message in
    let types = c.args.types.now in
    let values = c.args.values.now in
    let built = built_message types _ values _ c.in_ok-builder.builder c.as_slice.ensures c.as_slice-2.ensures (as_many types values m.shapes m.known m.fit) c.in_ok-builder.ensures in
    sound_of _ (subst (Fits (shape_at core)) built (c.in-Ok.ensures.fits (shape_at core) c.in_ok-builder.ensures.fits))
