use Rattle.std.proofs.Common.{◌≡◌, ◌∙◌, sym, ap, length, Some, arith, below_more, get_or}
use Rattle.std.specs.Prelude.{slice_get}
use Rattle.caf_message.specs.declared.envelope.Taken.{Taken}
use Rattle.caf_mailbox.specs.Arrived.{arrived, all_arrived}
use Rattle.caf_mailbox.specs.declared.queue.Numbered.{Numbered}
use Rattle.caf_mailbox.proofs.SearchLemmas.{map_set_kept, get_map, length_map}
use Rattle.caf_mailbox.proofs.LineLemmas.{found_at, found_none}
use Rattle.caf_mailbox.proofs.queue.first_from.Goals as goal

pub index_mut-one-requires : goal.index_mut-one-requires
index_mut-one-requires g c = let len = c.loop-i.invariant.len in omega (arith, c.len-i-end.ensures)

pub returns-then-eligible-clause-found : goal.returns-then-eligible-clause-found
returns-then-eligible-clause-found g c =
    let before = c.loop-i.queue.items in
    let one = c.index_mut-one.result.now in
    let at : slice_get (all_arrived before) c.loop-i.i ≡ Some (arrived (get_or before c.loop-i.i one)) =
    get_map arrived before c.loop-i.i one (let ok = c.loop-i.queue.ok.0 in let len = c.loop-i.invariant.len in omega (arith, c.len-i-end.ensures)) in
    let is : one ≡ get_or before c.loop-i.i one = c.index_mut-one.ensures.value in
    let found : slice_get (all_arrived c.args.queue.now.items) c.loop-i.i ≡ Some (arrived one) =
    ap (λ xs. slice_get xs c.loop-i.i) (sym c.loop-i.invariant.kept) ∙ at ∙ ap (λ (n : Numbered). Some (arrived n)) (sym is) in
    found_at (g.E.Eligible.test c.args.test.now) (all_arrived c.args.queue.now.items) c.loop-i.i (arrived one) c.loop-i.invariant.none found (sym c.if-eligible.ensures.answer)

pub returns-then-eligible-clause-kept : goal.returns-then-eligible-clause-kept
returns-then-eligible-clause-kept g c =
    let one = c.index_mut-one.result.now in
    map_set_kept arrived c.loop-i.queue.items c.loop-i.i (record one { envelope = c.eligible.new.envelope }) one
    (ap (λ (e : Taken). (one.number, e)) c.eligible.ensures.kept ∙ ap arrived c.index_mut-one.ensures.value)
    ∙ c.loop-i.invariant.kept

pub loop-i-preserved : goal.loop-i-preserved
loop-i-preserved g c =
    let one = c.index_mut-one.result.now in
    record {
      len = c.loop-i.invariant.len;
      kept =
          map_set_kept arrived c.loop-i.queue.items c.loop-i.i (record one { envelope = c.eligible.new.envelope }) one
          (ap (λ (e : Taken). (one.number, e)) c.eligible.ensures.kept ∙ ap arrived c.index_mut-one.ensures.value) ∙ c.loop-i.invariant.kept;
      none = below_more _ _ c.loop-i.invariant.none (λ e q.
          let before = c.loop-i.queue.items in
          let at : slice_get (all_arrived before) c.loop-i.i ≡ Some (arrived (get_or before c.loop-i.i one)) =
          get_map arrived before c.loop-i.i one (let ok = c.loop-i.queue.ok.0 in let len = c.loop-i.invariant.len in omega (arith, c.len-i-end.ensures)) in
          let is : one ≡ get_or before c.loop-i.i one = c.index_mut-one.ensures.value in
          let found : slice_get (all_arrived c.args.queue.now.items) c.loop-i.i ≡ Some (arrived one) =
          ap (λ xs. slice_get xs c.loop-i.i) (sym c.loop-i.invariant.kept) ∙ at ∙ ap (λ (n : Numbered). Some (arrived n)) (sym is) in
          let same : e ≡ arrived one = cc in
          ap (λ z. g.E.Eligible.test c.args.test.now z.1) same ∙ sym c.if-eligible.ensures.answer);
    }

pub returns-clause-found : goal.returns-clause-found
returns-clause-found g c =
    let all : c.loop-i.i ≡ length (all_arrived c.args.queue.now.items) = (let ok = c.args.queue.now.ok.0 in omega (arith, length_map arrived c.args.queue.now.items)) in
    found_none (g.E.Eligible.test c.args.test.now) (all_arrived c.args.queue.now.items) (rw (← all) c.loop-i.invariant.none)
