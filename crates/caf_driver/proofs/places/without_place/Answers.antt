use Rattle.std.proofs.Common.{rules, ◌≡◌, ap, ◌∙◌, remove, nat_lt, length}
use Rattle.std.specs.List.{prefix_len}
use Rattle.caf_driver.proofs.PlaceLemmas.{remove_is, bound_of}
use Rattle.caf_driver.proofs.places.without_place.Goals as goal

pub remove-requires : goal.remove-requires
remove-requires c =
    let at : c.count_below-at.result ≡ prefix_len (λ p. nat_lt p c.args.place) c.args.places =
    c.count_below-at.ensures.count ∙ ap (λ xs. prefix_len (λ p. nat_lt p c.args.place) xs) c.as_slice.ensures in
    let less = bound_of c.args.place c.args.places c.requires.has c.requires.rising in
    let same = c.into_vec-list.ensures in
    let sized = ap length same in
    search rules

pub returns : goal.returns
returns c =
    let at : c.count_below-at.result ≡ prefix_len (λ p. nat_lt p c.args.place) c.args.places =
    c.count_below-at.ensures.count ∙ ap (λ xs. prefix_len (λ p. nat_lt p c.args.place) xs) c.as_slice.ensures in
    c.of_vec.ensures ∙ c.remove.ensures.items ∙ ap (λ xs. remove xs c.count_below-at.result) c.into_vec-list.ensures
    ∙ ap (λ k. remove c.args.places k) at ∙ remove_is c.args.place c.args.places c.requires.rising c.requires.has
