use Rattle.std.proofs.Common.{◌≡◌, ◌<◌, ℕ, length, map}
use Rattle.std.specs.List.{AllByRecursion}
use Rattle.caf_actor.specs.PlainForms.{plain_post}
use Rattle.caf_actor.specs.PlainPost.{PlainPost}
use Rattle.caf_driver.specs.Mail.{IsMail}
use Rattle.caf_driver.specs.Delivery.{IsDelivering}
use Rattle.caf_driver.proofs.delivery.deliver.Given as goal

abbrev pub invariant-loop-post : goal.invariant-loop-post
invariant-loop-post l = record {
  mail : IsMail l.mail;
  places : length l.mail.arrivals ≡ length l.fn.mail.arrivals;
  rest : AllByRecursion (λ (p : PlainPost). p.to < length l.fn.mail.arrivals) (map plain_post l.post-iterator.rest.items);
  waiting : (from : ℕ) → AllByRecursion (λ (p : PlainPost). p.envelope.sender ≡ from) (map plain_post l.fn.posts)
      → IsDelivering l.fn.mail from (map plain_post l.fn.posts) (map plain_post l.post-iterator.rest.items) l.mail;
}
