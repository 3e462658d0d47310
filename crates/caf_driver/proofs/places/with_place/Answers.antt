use Rattle.std.proofs.Common.{◌≡◌, ap, ◌∙◌, insert, nat_lt}
use Rattle.std.specs.List.{prefix_len}
use Rattle.caf_driver.proofs.PlaceLemmas.{insert_is}
use Rattle.caf_driver.proofs.places.with_place.Goals as goal

pub returns : goal.returns
returns c =
    let at : c.count_below-at.result ≡ prefix_len (λ p. nat_lt p c.args.place) c.args.places =
    c.count_below-at.ensures.count ∙ ap (λ xs. prefix_len (λ p. nat_lt p c.args.place) xs) c.as_slice.ensures in
    c.of_vec.ensures ∙ c.in_ok-insert.ensures.items ∙ ap (λ xs. insert xs c.count_below-at.result c.args.place) c.into_vec-list.ensures
    ∙ ap (λ k. insert c.args.places k c.args.place) at ∙ insert_is c.args.place c.args.places
