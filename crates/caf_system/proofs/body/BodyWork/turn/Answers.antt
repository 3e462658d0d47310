use Rattle.std.proofs.Common.{ap, sym, ◌∙◌, subst}
use Rattle.caf_system.specs.Station.{GoesOn}
use Rattle.caf_system.specs.Body.{BodySeen}
use Rattle.caf_system.proofs.StationLemmas.{goes_on_from}
use Rattle.caf_system.proofs.body.BodyWork.turn.Goals as goal

pub returns : goal.returns
returns g c =
    let rules = g.B.Behavior.rules in
    record {
      marks = λ m h whole.
          let was = h (ap (λ (b : BodySeen g.row.B.Denot). b.is_broken) (sym c.self.view_is) ∙ c.if-self.false) in (
            was.0,
            goes_on_from rules m.station c.self.inside.station c.turn.new.self
                (subst (λ (b : BodySeen g.row.B.Denot). GoesOn rules m.station b.station) (sym c.self.view_is) was.1) c.in_ok-places.ensures.goes_on,
          );
    }
