use Rattle.std.proofs.Common.{◌≡◌, ◌∙◌, sym, ap, map, length, Some, arith, below_more, get_or}
use Rattle.std.specs.Prelude.{slice_get}
use Rattle.caf_message.specs.Envelope.{plain_envelope}
use Rattle.caf_message.proofs.ListLemmas.{pick_none}
use Rattle.caf_mailbox.proofs.SearchLemmas.{map_set_kept, get_map, length_map, pick_is}
use Rattle.caf_mailbox.proofs.search.first_eligible.Goals as goal

pub returns-then-eligible-clause-found : goal.returns-then-eligible-clause-found
returns-then-eligible-clause-found g c =
    let test = g.E.Eligible.test c.args.test.now in
    let before = c.loop-i.list.items in
    let at : slice_get (map plain_envelope before) c.loop-i.i ≡ Some (plain_envelope (get_or before c.loop-i.i c.index_mut-envelope.result.now)) =
    get_map plain_envelope before c.loop-i.i c.index_mut-envelope.result.now (let ok = c.loop-i.list.ok.0 in let len = c.loop-i.invariant.len in omega (arith, c.len-i-end.ensures)) in
    let is : c.index_mut-envelope.result.now ≡ get_or before c.loop-i.i c.index_mut-envelope.result.now = c.index_mut-envelope.ensures.value in
    let found : slice_get (map plain_envelope c.args.list.now.items) c.loop-i.i ≡ Some (plain_envelope c.index_mut-envelope.result.now) =
    ap (λ xs. slice_get xs c.loop-i.i) (sym c.loop-i.invariant.kept) ∙ at ∙ ap (λ e. Some (plain_envelope e)) (sym is) in
    pick_is test (map plain_envelope c.args.list.now.items) c.loop-i.i (plain_envelope c.index_mut-envelope.result.now) c.loop-i.invariant.none found
    (sym c.if-eligible.ensures.answer)

pub returns-then-eligible-clause-kept : goal.returns-then-eligible-clause-kept
returns-then-eligible-clause-kept g c =
    map_set_kept plain_envelope c.loop-i.list.items c.loop-i.i c.eligible.new.envelope c.index_mut-envelope.result.now (c.eligible.ensures.kept ∙ ap plain_envelope c.index_mut-envelope.ensures.value)
    ∙ c.loop-i.invariant.kept

pub loop-i-preserved : goal.loop-i-preserved
loop-i-preserved g c = record {
  len = c.loop-i.invariant.len;
  kept = map_set_kept plain_envelope c.loop-i.list.items c.loop-i.i c.eligible.new.envelope c.index_mut-envelope.result.now (c.eligible.ensures.kept ∙ ap plain_envelope c.index_mut-envelope.ensures.value) ∙ c.loop-i.invariant.kept;
  none = below_more _ _ c.loop-i.invariant.none (λ e q.
      let before = c.loop-i.list.items in
      let at : slice_get (map plain_envelope before) c.loop-i.i ≡ Some (plain_envelope (get_or before c.loop-i.i c.index_mut-envelope.result.now)) =
      get_map plain_envelope before c.loop-i.i c.index_mut-envelope.result.now (let ok = c.loop-i.list.ok.0 in let len = c.loop-i.invariant.len in omega (arith, c.len-i-end.ensures)) in
      let is : c.index_mut-envelope.result.now ≡ get_or before c.loop-i.i c.index_mut-envelope.result.now = c.index_mut-envelope.ensures.value in
      let found : slice_get (map plain_envelope c.args.list.now.items) c.loop-i.i ≡ Some (plain_envelope c.index_mut-envelope.result.now) =
      ap (λ xs. slice_get xs c.loop-i.i) (sym c.loop-i.invariant.kept) ∙ at ∙ ap (λ x. Some (plain_envelope x)) (sym is) in
      let same : e ≡ plain_envelope c.index_mut-envelope.result.now = cc in
      ap (g.E.Eligible.test c.args.test.now) same ∙ sym c.if-eligible.ensures.answer);
}

pub returns-clause-found : goal.returns-clause-found
returns-clause-found g c =
    let all : c.loop-i.i ≡ length (map plain_envelope c.args.list.now.items) = (let ok = c.args.list.now.ok.0 in omega (arith, length_map plain_envelope c.args.list.now.items)) in
    pick_none (g.E.Eligible.test c.args.test.now) (map plain_envelope c.args.list.now.items) (rw (← all) c.loop-i.invariant.none)
