use Rattle.std.proofs.Common.{◌≡◌, ℕ, List, ◌∷◌, true, subst}
use Rattle.std.specs.Prelude.{slice_get, IfSome}
use Rattle.std.specs.BTreeMap.Range.{IsLeBy}
use Rattle.caf_mailbox.specs.Responses.{pair_order, has_key}
use Rattle.caf_mailbox.proofs.ResponseLemmas.{IsLeast, past_first, first_key, in_range}
use Rattle.caf_mailbox.proofs.responses.first_place_to.Goals as goal

pub returns-then-key-request-clause-none : goal.returns-then-key-request-clause-none
returns-then-key-request-clause-none c =
    let keys = c.args.by_request.now.keys in
    let key = c.in-Some.key.now in
    let is : c.range.result ≡ key ∷ c.next.new.self = c.in-Some.ensures.steps in
    let least : IsLeast keys c.args.request key =
    λ q from there. subst (λ (ks : List (ℕ × ℕ)). IfSome (slice_get ks 0) (λ k. IsLeBy pair_order k q)) is ((c.range.ensures.in_range tt).2 q (from, tt) there) in
    past_first keys c.args.request key least c.if-key-request.true

pub returns-else-key-request-clause-some : goal.returns-else-key-request-clause-some
returns-else-key-request-clause-some c =
    let keys = c.args.by_request.now.keys in
    let key = c.in-Some.key.now in
    let is : c.range.result ≡ key ∷ c.next.new.self = c.in-Some.ensures.steps in
    let least : IsLeast keys c.args.request key =
    λ q from there. subst (λ (ks : List (ℕ × ℕ)). IfSome (slice_get ks 0) (λ k. IsLeBy pair_order k q)) is ((c.range.ensures.in_range tt).2 q (from, tt) there) in
    let own =
    subst (λ (ks : List (ℕ × ℕ)). IfSome (slice_get ks 0) (λ k. (IsLeBy pair_order (c.args.request, 0) k × Unit {0}) × (has_key keys k ≡ true))) is (c.range.ensures.in_range tt).1 in
    first_key keys c.args.request key least own.0.0 own.1 c.if-key-request.false

pub returns-in-None-clause-none : goal.returns-in-None-clause-none
returns-in-None-clause-none c = λ n. (c.range.ensures.in_range tt).5 c.in-None.ensures.steps.0 (c.args.request, n) (in_range c.args.request n, tt)
