use Rattle.caf_types.specs.Shape.{tree}
use Rattle.caf_words.specs.Value.{datum}
use Rattle.caf_events.proofs.TakingLemmas.{started}
use Rattle.caf_json.specs.Answer.{IsFormOf, UnfitAt}
use Rattle.caf_inspect.specs.Loader.{loader_left}
use Rattle.caf_inspect.proofs.json_loader.read_json.Goals as goal

pub returns-in_ok-loader-in-Ok : goal.returns-in_ok-loader-in-Ok
returns-in_ok-loader-in-Ok c =
    let f = tree c.args.shape.now in
    started (λ d. IsFormOf f d c.args.json.now) (UnfitAt f c.args.json.now) f (datum c.in-Ok.value) (loader_left c.in_ok-loader-in-Ok.loader) c.in-Ok.ensures.found c.in-Ok.ensures.fitting c.in_ok-loader-in-Ok.ensures
