use Rattle.std.proofs.Common.{ℕ, ◌+◌, ◌<◌, List, ◌++◌, length, take, drop, set, get_or, ap, ◌∙◌, arith}
use Rattle.caf_message.proofs.StepLemmas.{rewrites_again, rewrites_as, one_more}
use Rattle.caf_message.proofs.replacing.rewrite.Goals as goal

pub loop-i-preserved : goal.loop-i-preserved
loop-i-preserved c =
    let i = c.loop-i.i in
    let words : List ℕ = c.args.words.now in
    let old : List ℕ = c.args.tuple.now.content in
    let word : ℕ = get_or words i 0 in
    let within : i < length words = omega arith in
    rewrites_as (set c.loop-i.tuple.content i word) (take (i + 1) words ++ drop (i + 1) old) c.args.tuple.now c.write_at.new.tuple
    (ap (λ (ws : List ℕ). set ws i word) c.loop-i.invariant.content ∙ one_more words old i within c.requires.same_length)
    (rewrites_again (take i words ++ drop i old) (set c.loop-i.tuple.content i word) c.args.tuple.now c.loop-i.tuple c.write_at.new.tuple c.loop-i.invariant c.write_at.ensures)
