use Rattle.caf_types.specs.Shape.{tree}
use Rattle.caf_words.specs.Value.{datum}
use Rattle.caf_text.specs.TextForm.{HasText}
use Rattle.caf_events.proofs.TakingLemmas.{started}
use Rattle.caf_inspect.specs.Loader.{loader_left}
use Rattle.caf_inspect.specs.LoadAnswer.{TextFailsAt}
use Rattle.caf_inspect.proofs.TextLoaderLemmas.{text_refused}
use Rattle.caf_inspect.proofs.text_loader.load_text.Goals as goal

pub returns-in-Err : goal.returns-in-Err
returns-in-Err c = text_refused (tree c.args.shape.now) c.args.text.now c.in-Err.fault c.load_fault.result c.in-Err.ensures.faulty c.load_fault.ensures

pub returns-in_ok-loader-in-Ok : goal.returns-in_ok-loader-in-Ok
returns-in_ok-loader-in-Ok c =
    let f = tree c.args.shape.now in
    let d = datum c.in-Ok.value in
    started (λ d. HasText f d c.args.text.now) (TextFailsAt f c.args.text.now) f d (loader_left c.in_ok-loader-in-Ok.loader) c.in-Ok.ensures.found c.in-Ok.ensures.found.0 c.in_ok-loader-in-Ok.ensures
