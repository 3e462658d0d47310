use Rattle.std.proofs.Common.{◌≡◌, ◌≤◌, ℕ, List, length, sym, subst, ap, ◌∙◌}
use Rattle.std.specs.Prelude.{IfOk}
use Rattle.caf_kinds.specs.Places.{numbers_of}
use Rattle.caf_kinds.specs.Sights.{places_content}
use Rattle.caf_kinds.specs.declared.place.PlaceNumber.{PlaceNumber}
use Rattle.caf_kinds.proofs.SightLemmas.{places_small, places_are}
use Rattle.caf_kinds.proofs.sights.message_of.Goals as goal

pub small_message-requires : goal.small_message-requires
small_message-requires c =
    let same : c.of_vec.result ≡ c.args.places.now = c.of_vec.ensures ∙ c.in_ok-places.ensures.items ∙ c.as_slice.ensures in
    places_small c.of_vec.result (subst (λ (ps : List PlaceNumber). length ps ≤ 256) (sym same) c.requires)

pub returns : goal.returns
returns c =
    let same : c.of_vec.result ≡ c.args.places.now = c.of_vec.ensures ∙ c.in_ok-places.ensures.items ∙ c.as_slice.ensures in
    subst (λ (words : List ℕ). IfOk c.small_message.result (λ message. message.content ≡ words))
    (places_are c.of_vec.result ∙ ap (λ (ps : List PlaceNumber). places_content (numbers_of ps)) same) c.small_message.ensures
