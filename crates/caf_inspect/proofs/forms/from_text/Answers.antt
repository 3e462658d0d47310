use Rattle.caf_types.specs.TypeTable.{seen}
use Rattle.caf_text.specs.TextForm.{HasText}
use Rattle.caf_inspect.specs.Loader.{loader_left}
use Rattle.caf_inspect.proofs.StartedLemmas.{can_load, has_loaded}
use Rattle.caf_inspect.proofs.forms.from_text.Goals as goal

pub load-requires : goal.load-requires
load-requires g c =
    can_load (λ f d. HasText f d c.args.text.now) (loader_left c.in_ok-loader.loader) (seen c.args.table.now) c.type_id.result.0 g.T.Inspect.id g.T.Inspect.shape c.in_ok-loader.ensures c.type_id.ensures c.requires

pub returns-clause-found : goal.returns-clause-found
returns-clause-found g c =
    has_loaded (λ f d. HasText f d c.args.text.now) (loader_left c.in_ok-loader.loader) (seen c.args.table.now) c.type_id.result.0 g.T.Inspect.id g.T.Inspect.shape c.in_ok-loader.ensures c.type_id.ensures c.requires (g.T.Inspect.means c.in_ok-value.value) (loader_left c.load.new.loader) c.in_ok-value.ensures
