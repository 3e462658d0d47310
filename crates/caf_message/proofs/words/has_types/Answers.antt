use Rattle.std.proofs.Common.{◌≡◌, ℕ, ◌+◌, ◌<◌, List, length, get_or, sym, ap, ◌∙◌, arith}
use Rattle.std.proofs.lemmas.List.{take_more_same}
use Rattle.caf_types.specs.declared.shape.TypeId.{TypeId}
use Rattle.caf_steps.specs.declared.reference.Reference.{Reference}
use Rattle.caf_words.specs.Several.{ids_of}
use Rattle.caf_message.specs.Content.{ids_in}
use Rattle.caf_message.proofs.ContentLemmas.{head_count, head_within, id_at, number_at, length-ids_of}
use Rattle.caf_message.proofs.StepLemmas.{look_on}
use Rattle.caf_message.proofs.words.has_types.Goals as goal

pub returns-then-word-id-clause-answer : goal.returns-then-word-id-clause-answer
returns-then-word-id-clause-answer c =
    let words : List ℕ = c.args.tuple.now.content in
    let types : List TypeId = c.args.types.now in
    let i = c.loop-i.i in
    let count = head_count words c.requires in
    let first = c.word.ensures.value in
    let within : i < length (ids_in words) = omega (arith, count, first) in
    let here : i < length types = omega arith in
    let read : c.word-in-loop-i.result ≡ get_or (ids_in words) i 0 =
    c.word-in-loop-i.ensures.value ∙ ap (λ (r : Reference). get_or r.content (i + 1) 0) c.loop-i.invariant.looked ∙ id_at words c.requires i within in (
      λ e. absurd cc,
      λ same. absurd (c.if-word-id.true (read ∙ ap (λ (ids : List ℕ). get_or ids i 0) same ∙ number_at types i record { 0 = 0 } here)),
    )

pub returns-then-word-id-clause-looked : goal.returns-then-word-id-clause-looked
returns-then-word-id-clause-looked c =
    let words : List ℕ = c.args.tuple.now.content in
    let i = c.loop-i.i in
    let count = head_count words c.requires in
    let first = c.word.ensures.value in
    let head = head_within words c.requires in
    let within : i + 1 < length words = omega (arith, count, first, head) in
    record {
      words = i + 1 + 1;
      within = omega arith;
      is = look_on (i + 1) c.word-in-loop-i.result c.args.tuple.now c.loop-i.tuple c.word-in-loop-i.new.self within c.loop-i.invariant.looked c.word-in-loop-i.ensures.step c.word-in-loop-i.ensures.value;
    }

pub loop-i-preserved : goal.loop-i-preserved
loop-i-preserved c =
    let words : List ℕ = c.args.tuple.now.content in
    let types : List TypeId = c.args.types.now in
    let i = c.loop-i.i in
    let count = head_count words c.requires in
    let first = c.word.ensures.value in
    let head = head_within words c.requires in
    let inside : i < length (ids_in words) = omega (arith, count, first) in
    let within : i + 1 < length words = omega (arith, count, first, head) in
    let here : i < length types = omega arith in
    let there : i < length (ids_of types) = omega (arith, length-ids_of types, here) in
    let read : c.word-in-loop-i.result ≡ get_or (ids_in words) i 0 =
    c.word-in-loop-i.ensures.value ∙ ap (λ (r : Reference). get_or r.content (i + 1) 0) c.loop-i.invariant.looked ∙ id_at words c.requires i inside in
    let equal : c.word-in-loop-i.result ≡ (get_or types i record { 0 = 0 }).0 = c.if-word-id.false in
    record {
      same = take_more_same (ids_in words) (ids_of types) i 0 inside there c.loop-i.invariant.same (sym read ∙ equal ∙ sym (number_at types i record { 0 = 0 } here));
      looked = look_on (i + 1) c.word-in-loop-i.result c.args.tuple.now c.loop-i.tuple c.word-in-loop-i.new.self within c.loop-i.invariant.looked c.word-in-loop-i.ensures.step c.word-in-loop-i.ensures.value;
    }
