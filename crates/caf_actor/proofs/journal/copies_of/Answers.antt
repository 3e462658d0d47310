use Rattle.std.proofs.Common.{◌≡◌, List, map, get_or, length, sym, ap, ◌∙◌, arith, ◌<◌, ◌∷◌, ◌++◌, []}
use Rattle.std.proofs.lemmas.List.{get_or-map, take_more, length-map}
use Rattle.caf_message.specs.declared.envelope.Taken.{Taken}
use Rattle.caf_message.specs.Envelope.{plain_envelope}
use Rattle.caf_mailbox.proofs.SearchLemmas.{map_set_kept}
use Rattle.caf_actor.proofs.journal.copies_of.Goals as goal

pub returns-in_err-copy-clause-kept : goal.returns-in_err-copy-clause-kept
returns-in_err-copy-clause-kept c =
    map_set_kept plain_envelope c.loop-i.batch c.loop-i.i c.to_taken.new.self c.index-batch-i.result c.to_taken.ensures.kept ∙ c.loop-i.invariant.kept

pub loop-i-preserved : goal.loop-i-preserved
loop-i-preserved c =
    let before : List Taken = map plain_envelope c.args.batch.now in
    let i = c.loop-i.i in
    let x = c.index-batch-i.result in
    let one = length-map c.loop-i.batch plain_envelope in
    let two = length-map c.args.batch.now plain_envelope in
    let same = ap (λ (es : List Taken). length es) c.loop-i.invariant.kept in
    let inside : i < length c.loop-i.batch = omega arith in
    let here : plain_envelope x ≡ get_or before i (plain_envelope x) =
    ap plain_envelope c.index-batch-i.is ∙ sym (get_or-map plain_envelope c.loop-i.batch i x (plain_envelope x) inside) ∙ ap (λ (es : List Taken). get_or es i (plain_envelope x)) c.loop-i.invariant.kept in
    record {
      taken = c.push_reserved.ensures.items ∙ (λ k. c.loop-i.invariant.taken k ++ (c.in_ok-copy.ensures.copy ∙ ap plain_envelope (sym c.index-batch-i.is) ∙ here) k ∷ [])
          ∙ sym (take_more before i (plain_envelope x) (omega arith));
      kept = map_set_kept plain_envelope c.loop-i.batch i c.to_taken.new.self x c.to_taken.ensures.kept ∙ c.loop-i.invariant.kept;
    }
