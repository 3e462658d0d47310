-- What is known of cached contents, from one envelope to the next.
use Rattle.std.proofs.Common.{◌≡◌, Bool, true, false, refl, subst, arith, if◌then◌else◌}
use Rattle.caf_types.specs.declared.sec.Sec.{Sec}
use Rattle.caf_message.specs.declared.envelope.Plain.{Plain}
use Rattle.caf_message.specs.declared.envelope.Plain.TheVariants as «plain»
use Rattle.caf_message.specs.declared.envelope.Taken.{Taken}
use Rattle.caf_message.specs.Envelope.{is_system, is_response, is_content, is_system_body, is_response_body, is_content_body}
use Rattle.caf_mailbox.specs.Caches.{CachedLists}
use Rattle.caf_mailbox.specs.Passed.{IsPassed, nothing_passed}
use Rattle.caf_mailbox.specs.declared.passed.Passed.{Passed}
use Rattle.caf_actor.specs.declared.handling.Effect.{Effect}
use Rattle.caf_actor.specs.declared.handling.Effect.TheVariants.{Same, Changed}
use Rattle.caf_actor.specs.declared.origin.Origin.{Origin}
use Rattle.caf_actor.specs.declared.snapshot.Snapshot.{Snapshot}
use Rattle.caf_actor.specs.Rules.{Rules}
use Rattle.caf_actor.specs.Snapshot.{Handled}
use Rattle.caf_actor.specs.Answering.{is_asked, promised_to, refuse}
use Rattle.caf_actor.specs.Sending.{reply}
use Rattle.caf_actor.specs.Eligibility.{is_eligible}
use Rattle.caf_actor.specs.Effect.{IsSameTurn, KeepsTurn, passed_after}

pub none_passed : (test : Taken → Bool) (lists : CachedLists) → IsPassed test lists nothing_passed
none_passed test lists = record { urgent = λ k l x e. absurd (omega arith); normal = λ k l x e. absurd (omega arith) }

pub passed_on : {S : Type 0} (rules : Rules S) (old new : Snapshot S) (effect : Effect) (passed : Passed) → KeepsTurn effect old new → IsPassed (is_eligible rules old) old.caches passed
    → IsPassed (is_eligible rules new) new.caches (passed_after effect passed)
passed_on rules old new Same passed keeps all = rw (keeps.behavior, keeps.has_begun, keeps.quit, keeps.pending, keeps.caches) all
passed_on rules old new Changed passed keeps all = none_passed (is_eligible rules new) new.caches

-- an answer by an error changes the numbers alone
pub same_refused : {S : Type 0} (t : Handled S) (origin : Origin) (sec : Sec) (new : Handled S) → refuse t origin sec ≡ new → IsSameTurn t.snapshot new.snapshot
same_refused {S} t origin sec new is = subst (λ (u : Handled S). IsSameTurn t.snapshot u.snapshot) is (by (is_asked origin))
  where
    by : (b : Bool) → IsSameTurn t.snapshot (if b then reply t (promised_to origin) («plain».Failure sec) else t).snapshot
    by true = record { behavior = refl; has_begun = refl; quit = refl; pending = refl; caches = refl }
    by false = record { behavior = refl; has_begun = refl; quit = refl; pending = refl; caches = refl }

-- ---- classes are apart

response_body : (r : Bool) (b : Plain) → is_response_body r b ≡ true → is_system_body b ≡ false
response_body r («plain».Content words) q = refl
response_body r («plain».Failure sec) q = refl
response_body r («plain».System what) q = cc

pub response_no_notice : (e : Taken) → is_response e ≡ true → is_system e ≡ false
response_no_notice e q = response_body e.mid.response e.body q

content_body : (r : Bool) (b : Plain) → is_content_body r b ≡ true → is_system_body b ≡ false
content_body r («plain».Content words) q = refl
content_body r («plain».Failure sec) q = refl
content_body r («plain».System what) q = cc

pub content_no_notice : (e : Taken) → is_content e ≡ true → is_system e ≡ false
content_no_notice e q = content_body e.mid.response e.body q

content_response : (r : Bool) (b : Plain) → is_content_body r b ≡ true → is_response_body r b ≡ false
content_response true («plain».Content words) q = cc
content_response false («plain».Content words) q = refl
content_response r («plain».Failure sec) q = cc
content_response r («plain».System what) q = refl

pub content_no_response : (e : Taken) → is_content e ≡ true → is_response e ≡ false
content_no_response e q = content_response e.mid.response e.body q
