use Rattle.std.proofs.Common.{[]}
use Rattle.caf_inspect.proofs.forms.to_words.Goals as goal

pub finish-requires : goal.finish-requires
finish-requires g c =
    (g.T.Inspect.shape, g.T.Inspect.means c.args.value.now, g.met.T.Inspect.fits_shape c.args.value.now, c.in_ok-save.ensures.after [] c.new-saver.ensures)

pub returns : goal.returns
returns g c =
    c.finish.ensures.spelled g.T.Inspect.shape (g.T.Inspect.means c.args.value.now) (g.met.T.Inspect.fits_shape c.args.value.now) (c.in_ok-save.ensures.after [] c.new-saver.ensures)
