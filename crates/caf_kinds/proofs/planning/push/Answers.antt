use Rattle.std.proofs.Common.{◌≡◌, true, ◌++◌, get_or, Some, ap, sym, subst, ◌∙◌, arith}
use Rattle.caf_types.specs.Table.{Table, shape_at}
use Rattle.caf_types.specs.declared.shape.TypeId.{TypeId}
use Rattle.caf_words.specs.Datum.{fits}
use Rattle.caf_words.specs.Value.{datum}
use Rattle.caf_words.specs.Spelling.{spelling}
use Rattle.caf_words.specs.declared.value.Value.{Value}
use Rattle.caf_kinds.specs.Core.{core}
use Rattle.caf_kinds.proofs.PlanningLemmas.{shape_of, as_many, built_more}
use Rattle.caf_kinds.proofs.planning.push.Goals as goal

abbrev no_type : TypeId
no_type = record { 0 = 0 }

pub bounds-values-i : goal.bounds-values-i
bounds-values-i c =
    let m = c.requires.message in
    let same = as_many c.args.types.now c.args.values.now m.shapes m.known m.fit in
    let within = c.requires.within in
    omega (arith, same, within)

pub push-requires : goal.push-requires
push-requires c =
    let m = c.requires.message in
    let v = c.index-values-i.result in
    let s = shape_of c.args.types.now c.args.values.now m.shapes m.known m.fit c.args.i no_type v c.requires.within in (
      s.shape,
      subst (λ (t : Table). shape_at t (get_or c.args.types.now c.args.i no_type).0 ≡ Some s.shape) (sym c.requires.table) s.known,
      subst (λ (x : Value). fits s.shape (datum x) ≡ true) (sym c.index-values-i.is) s.fit,
    )

pub returns : goal.returns
returns c =
    let m = c.requires.message in
    let same = as_many c.args.types.now c.args.values.now m.shapes m.known m.fit in
    let within = c.requires.within in
    let v = c.index-values-i.result in
    let id = get_or c.args.types.now c.args.i no_type in
    built_more c.args.types.now c.args.values.now c.args.i no_type v c.args.builder.now c.push.new.self within (omega (arith, same, within)) c.requires.built
    c.in_ok-push.ensures.ids (c.in_ok-push.ensures.words ∙ ap (λ (x : Value). c.args.builder.now.words ++ spelling (datum x)) c.index-values-i.is)
    (c.in_ok-push.ensures.fits (shape_at core) (ap (λ (t : Table). shape_at t id.0) (sym c.requires.table)) c.requires.built.fits)
