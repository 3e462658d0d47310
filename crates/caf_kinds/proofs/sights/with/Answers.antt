use Rattle.std.proofs.Common.{◌≡◌, List, [], ◌∷◌, ◌++◌, ap, ◌∙◌}
use Rattle.std.specs.Prelude.{nat_lt, filter}
use Rattle.caf_kinds.specs.Places.{numbers_of}
use Rattle.caf_kinds.specs.declared.place.PlaceNumber.{PlaceNumber}
use Rattle.caf_kinds.proofs.SightLemmas.{with_is}
use Rattle.caf_kinds.proofs.sights.with.Goals as goal

pub returns : goal.returns
returns c =
    let ps = c.args.places.now in
    let p = c.args.place in
    let low = filter (λ (q : PlaceNumber). nat_lt q.number p.number) ps in
    let high = filter (λ (q : PlaceNumber). nat_lt p.number q.number) ps in
    let above : c.as_slice.result.now ≡ high = c.as_slice.ensures.value ∙ c.in_ok-above.ensures in
    let first : c.push.new.self.items ≡ low ++ p ∷ [] = c.in_ok-push.ensures.items ∙ ap (λ (qs : List PlaceNumber). qs ++ p ∷ []) c.in_ok-all.ensures in
    let all : c.of_vec.result ≡ (low ++ p ∷ []) ++ high =
    c.of_vec.ensures ∙ c.in_ok-extend_from_slice.ensures.items
    ∙ ap (λ (qs : List PlaceNumber). qs ++ c.as_slice.result.now) first
    ∙ ap (λ (qs : List PlaceNumber). (low ++ p ∷ []) ++ qs) above in
    ap numbers_of all ∙ with_is ps p
