use Rattle.std.proofs.Common.{◌∙◌, sym}
use Rattle.caf_types.specs.TypeTable.{seen}
use Rattle.caf_inspect.proofs.WordLoaderLemmas.{has_shapes, found_one, refused_by}
use Rattle.caf_inspect.proofs.word_loader.read_one.Goals as goal

pub read-requires : goal.read-requires
read-requires c = has_shapes (seen c.args.table.now) c.args.id.0 c.requires

pub returns-in-Some-clause-found : goal.returns-in-Some-clause-found
returns-in-Some-clause-found c = λ f h.
    found_one (seen c.args.table.now) c.args.id.0 f c.pop.new.self.items c.in-Ok.values c.in-Some.value c.args.words.now h c.in-Ok.ensures.found (sym c.into_vec-values.ensures ∙ c.in-Some.ensures.items)

pub returns-in-Err-clause-unfit : goal.returns-in-Err-clause-unfit
returns-in-Err-clause-unfit c = λ f h.
    refused_by (seen c.args.table.now) c.args.id.0 f c.args.words.now c.in-Err.fault c.load_fault.result h c.in-Err.ensures.faulty c.load_fault.ensures
