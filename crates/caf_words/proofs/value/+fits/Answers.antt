use Rattle.std.proofs.Common.{◌≡◌, length, sym, subst, ◌∙◌, eqb, map, drop, arith}
use Rattle.caf_types.specs.Shape.{parts}
use Rattle.caf_words.specs.Datum as of
use Rattle.caf_words.specs.Datum.{data_of}
use Rattle.caf_words.specs.Value.{datum}
use Rattle.caf_words.proofs.CountLemmas.{fits_at_end}
use Rattle.caf_words.proofs.value.+fits.Goals as goal

pub each_fits-returns : goal.each_fits-returns
each_fits-returns t c =
    let e : c.loop-i.i ≡ length c.args.fields.now = omega arith in
    let end : of.each_fits (parts (drop c.loop-i.i c.args.fields.now)) (data_of (map datum (drop c.loop-i.i c.args.items.now))) ≡ eqb (length c.args.items.now) c.loop-i.i =
    fits_at_end c.args.fields.now c.args.items.now c.loop-i.i (omega arith) c.loop-i.invariant.1 in
    subst (λ n. eqb (length c.args.items.now) n ≡ of.each_fits (parts c.args.fields.now) (data_of (map datum c.args.items.now))) e (sym end ∙ c.loop-i.invariant.0)
