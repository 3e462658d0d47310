-- What a steady actor spends on what it took, where each input brings what it costs.
use Rattle.std.proofs.Common.{◌≡◌, ℕ, ◌+◌, ◌≤◌, true, List, [], ◌∷◌, filter, refl, sym, subst, ◌∙◌, arith}
use Rattle.caf_message.specs.Content.{ids_in}
use Rattle.caf_mailbox.specs.Caches.{is_urgent, is_normal}
use Rattle.caf_actor.specs.declared.journal.TakenBatch.{TakenBatch}
use Rattle.caf_actor.specs.declared.origin.Origin.{Origin}
use Rattle.caf_actor.specs.Answering.{is_asked}
use Rattle.caf_actor.specs.PlainInput.{PlainInput, Content}
use Rattle.caf_actor.specs.PlainReaction.{PlainAnswer}
use Rattle.caf_actor.specs.Record.{joined}
use Rattle.caf_actor.specs.Rules.{Rules, is_input}
use Rattle.caf_steady.specs.Outline.{Outlined, with_outline}
use Rattle.caf_steady.specs.Reading.{react, content, in_turn, all_in_turn}
use Rattle.caf_pipeline.proofs.CostLemmas.{costs, answer_cost, spent, outputs_spend, answer_spends}
use Rattle.caf_pipeline.proofs.HeavyLemmas.{heavy, heavy_append, parts_weigh}

-- ---- in turn or not, batches weigh the same

pub turns_weigh : (w : ℕ) (bs : List TakenBatch) → heavy w (all_in_turn bs) ≡ heavy w (joined bs)
turns_weigh w [] = refl
turns_weigh w (b ∷ bs) =
    let all = heavy_append w (in_turn b.taken) (all_in_turn bs) in
    let both = heavy_append w (filter is_urgent b.taken) (filter is_normal b.taken) in
    let parts = parts_weigh is_urgent w b.taken in
    let whole = heavy_append w b.taken (joined bs) in
    let rest = turns_weigh w bs in
    omega (arith, all, both, parts, whole, rest)

-- ---- one input

-- only content is answered
abbrev pub reply_cost : (ℕ → ℕ) → PlainInput → PlainAnswer → ℕ
reply_cost v (Content origin words) a = answer_cost v (is_asked origin) origin a
reply_cost v _ a = 0

-- `Inv n` holds of values that will spend at most `n` more than what comes brings
module _ {S : Type 0} (v : ℕ → ℕ) (rules : Rules S) (place : ℕ) (Inv : ℕ → S → Type 0) where
  -- it pays for what it does with the input
  pub record Pays (n : ℕ) (b : S) (i : PlainInput) : Type 0 where
    pub left : ℕ
    pub next : Inv left (rules.next b i)
    pub within : costs v (rules.reaction b i).outputs + reply_cost v i (rules.reaction b i).answer + left ≤ n + v place

  -- it has spent at most so much, with what it will spend
  pub record Has (n : ℕ) (o : Outlined S) : Type 0 where
    pub left : ℕ
    pub inv : Inv left o.outline.behavior
    pub within : spent v o + left ≤ n

  pub no_less : (n m : ℕ) (o : Outlined S) → n ≤ m → Has n o → Has m o
  no_less n m o le has = let most = has.within in record { left = has.left; inv = has.inv; within = omega (arith, most, le) }

  pub react_has : (n : ℕ) (o : Outlined S) (i : PlainInput) (has : Has n o) → Pays has.left o.outline.behavior i → Has (n + v place) (react rules o i)
  react_has n o i has pays =
      let sends = outputs_spend v (with_outline o (record o.outline { behavior = rules.next o.outline.behavior i })) (rules.reaction o.outline.behavior i).outputs in
      let first = sends.within in
      let paid = pays.within in
      let before = has.within in
      record { left = pays.left; inv = subst (Inv pays.left) (sym sends.same) pays.next; within = omega (arith, first, paid, before) }

  pub content_has : (n : ℕ) (o : Outlined S) (origin : Origin) (words : List ℕ) (has : Has n o) → is_input (rules.interface o.outline.behavior) (ids_in words) ≡ true
      → Pays has.left o.outline.behavior (Content origin words) → Has (n + v place) (content rules o origin words)
  content_has n o origin words has taken pays =
      let i : PlainInput = Content origin words in
      let sends = outputs_spend v (with_outline o (record o.outline { behavior = rules.next o.outline.behavior i })) (rules.reaction o.outline.behavior i).outputs in
      let answers = answer_spends v (react rules o i) origin words (rules.reaction o.outline.behavior i).answer in
      let first = sends.within in
      let last = answers.within in
      let paid = pays.within in
      let before = has.within in
      rw taken (record { left = pays.left; inv = subst (Inv pays.left) (sym (answers.same ∙ sends.same)) pays.next; within = omega (arith, first, last, paid, before) })
