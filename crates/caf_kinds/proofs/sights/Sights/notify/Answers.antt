use Rattle.std.proofs.Common.{◌≡◌, map, false, ap, refl, arith}
use Rattle.std.specs.Prelude.{nat_lt}
use Rattle.std.proofs.lemmas.Bool.Decides.{nat_tests}
use Rattle.caf_actor.specs.PlainForms.{plain_output}
use Rattle.caf_kinds.specs.Sights.{with_down}
use Rattle.caf_kinds.proofs.SightLemmas.{nothing_new}
use Rattle.caf_kinds.proofs.sights.Sights.notify.Goals as goal

pub returns-in-None : goal.returns-in-None
returns-in-None c =
    let high : nat_lt c.args.place 256 ≡ false = grind (arith, nat_tests, c.in-None.ensures.none) in
    let same : with_down c.args.self.now.gone c.args.place ≡ c.args.self.now.gone = rw high refl in
    nothing_new c.args.self.now c.know.ensures _ same _ (ap (map plain_output) c.new-in-None.ensures)
