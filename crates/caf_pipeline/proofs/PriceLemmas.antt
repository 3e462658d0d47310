-- What an envelope to an actor of a pipeline brings, beside itself: that many more may be told because of it.
use Rattle.std.proofs.Common.{◌≡◌, ℕ, ◌+◌, ◌≤◌, Bool, true, false, List, [], ◌∷◌, Option, Some, None, refl, sym, subst, ap, ◌∙◌, arith}
use Rattle.std.specs.List.{AllByRecursion}
use Rattle.caf_message.specs.declared.envelope.Plain.TheVariants as «plain»
use Rattle.caf_message.specs.declared.envelope.Taken.{Taken}
use Rattle.caf_actor.specs.Answering.{is_asked, origin_of}
use Rattle.caf_actor.specs.PlainInput.{PlainInput, Content}
use Rattle.caf_actor.specs.PlainReaction.{PlainAnswer}
use Rattle.caf_actor.specs.declared.origin.Origin.{Origin}
use Rattle.caf_kinds.specs.Kinds.{kind_rules, reacted}
use Rattle.caf_kinds.specs.Reacting.{Reacted}
use Rattle.caf_kinds.specs.Setups.{setup_at}
use Rattle.caf_kinds.specs.declared.contents.Chunk.{Chunk}
use Rattle.caf_kinds.specs.declared.kind.Kind.{Kind}
use Rattle.caf_kinds.specs.declared.setup.KindName.{KindName}
use Rattle.caf_kinds.specs.declared.setup.KindName.TheVariants as name
use Rattle.caf_kinds.specs.declared.setup.Setup.{Setup}
use Rattle.caf_steady.specs.Classes.{IsTaken}
use Rattle.caf_steady.specs.Outline.{Outlined}
use Rattle.caf_steady.specs.Reading.{content, read, read_one, read_body}
use Rattle.caf_steady.specs.Steady.{Brings}
use Rattle.caf_pipeline.specs.Undisturbed.{IsSetUp}
use Rattle.caf_pipeline.specs.Contents.{comes_as, comes}
use Rattle.caf_pipeline.proofs.CostLemmas.{costs, answer_cost}
use Rattle.caf_pipeline.proofs.FlowLemmas.{brings_content}
use Rattle.caf_pipeline.proofs.PayLemmas.{Pays, Has, reply_cost, no_less, content_has}
use Rattle.caf_pipeline.proofs.HeavyLemmas.{heavy}

-- ---- prices

-- the collector answers at most once for each envelope, then or later; lines and counters send it one envelope for each
-- chunk; and the relay sends a counter one
abbrev pub price_of : KindName → ℕ
price_of name.Lines = 2
price_of name.Relay = 3
price_of name.Counter = 2
price_of name.Collector = 1
price_of _ = 0

abbrev pub price_as : Option Setup → ℕ
price_as None = 0
price_as (Some s) = price_of s.kind

abbrev pub price : List Setup → ℕ → ℕ
price setups place = price_as (setup_at setups place)

pub price_at : (setups : List Setup) (kind : KindName) (peers : List ℕ) (place : ℕ) → IsSetUp setups kind peers place → price setups place ≡ price_of kind
price_at setups kind peers place is = ap price_as is.at ∙ ap price_of is.kind_is

-- content that is no request is answered by nothing, whatever the value
pub told_free : (setups : List Setup) (o : Origin) (a : PlainAnswer) (n : ℕ) → is_asked o ≡ false → answer_cost (price setups) false o a ≡ n → answer_cost (price setups) (is_asked o) o a ≡ n
told_free setups o a n told e = ap (λ (b : Bool). answer_cost (price setups) b o a) told ∙ e

reads_content : (o : Outlined Kind) (e : Taken) (words : List ℕ) → e.body ≡ «plain».Content words → e.mid.response ≡ false → read_one kind_rules o e ≡ content kind_rules o (origin_of e) words
reads_content o e words body no_reply = ap (read_body kind_rules o (origin_of e)) body ∙ rw no_reply refl

-- ---- a part that pays for what it tells

module _ (setups : List Setup) (cs : List Chunk) (place : ℕ) (s : Setup) (there : setup_at setups place ≡ Some s) (Inv : ℕ → Kind → Type 0) where
  pub record PaysFor (n : ℕ) (b : Kind) (i : PlainInput) : Type 0 where
    pub taken : IsTaken (comes setups cs) kind_rules b i
    pub pays : Pays (price setups) kind_rules place Inv n b i

  pub pays_as : (n : ℕ) (b : Kind) (i : PlainInput) (r : Reacted Kind) (left : ℕ) → reacted b i ≡ r → IsTaken (comes setups cs) kind_rules b i → Inv left r.0
      → costs (price setups) r.1.outputs + reply_cost (price setups) i r.1.answer + left ≤ n + price setups place → PaysFor n b i
  pays_as n b i r left e taken next within = record {
    taken = taken;
    pays = record {
      left = left;
      next = subst (λ (x : Reacted Kind). Inv left x.0) (sym e) next;
      within = subst (λ (x : Reacted Kind). costs (price setups) x.1.outputs + reply_cost (price setups) i x.1.answer + left ≤ n + price setups place) (sym e) within;
    };
  }

  module _ (each : (n : ℕ) (b : Kind) (i : PlainInput) → Inv n b → comes_as cs place (Some s) i ≡ true → PaysFor n b i) where
    one_has : (n : ℕ) (o : Outlined Kind) (e : Taken) → Brings (comes setups cs place) e → Has (price setups) kind_rules place Inv n o → Has (price setups) kind_rules place Inv (n + price setups place) (read_one kind_rules o e)
    one_has n o e brings has =
        let b = brings_content cs place s e (subst (λ (x : Option Setup). Brings (comes_as cs place x) e) there brings) in
        let paid = each has.left o.outline.behavior (Content (origin_of e) b.words) has.inv b.comes in
        subst (Has (price setups) kind_rules place Inv (n + price setups place)) (sym (reads_content o e b.words b.body_is b.no_reply)) (content_has (price setups) kind_rules place Inv n o (origin_of e) b.words has paid.taken paid.pays)

    pub all_have : (n : ℕ) (o : Outlined Kind) (es : List Taken) → AllByRecursion (Brings (comes setups cs place)) es → Has (price setups) kind_rules place Inv n o
        → Has (price setups) kind_rules place Inv (n + heavy (price setups place) es) (read kind_rules o es)
    all_have n o [] all has = no_less (price setups) kind_rules place Inv n (n + 0) o (omega arith) has
    all_have n o (e ∷ es) all has =
        let v = price setups place in
        no_less (price setups) kind_rules place Inv (n + v + heavy v es) (n + (v + heavy v es)) (read kind_rules o (e ∷ es)) (omega arith)
        (all_have (n + v) (read_one kind_rules o e) es all.1 (one_has n o e all.0 has))
