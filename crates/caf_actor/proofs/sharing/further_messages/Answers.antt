use Rattle.std.proofs.Common.{◌≡◌, ℕ, suc, ◌+◌, ◌*◌, List, [], ◌∷◌, ◌++◌, length, map, take, get_or, ap, sym, ◌∙◌, arith, zero-add, length-take}
use Rattle.std.proofs.lemmas.List.{map_push, take_more}
use Rattle.caf_steps.specs.declared.reference.Reference.{Reference}
use Rattle.caf_steps.specs.Reference.{fresh, retained, second}
use Rattle.caf_actor.specs.Sharing.{contents_of, retained_times, further_of}
use Rattle.caf_actor.proofs.SharingLemmas.{room_left, further_more}
use Rattle.caf_actor.proofs.sharing.further_messages.Goals as goal

pub returns-in_err-another-clause-kept : goal.returns-in_err-another-clause-kept
returns-in_err-another-clause-kept c = c.another_message.ensures.kept ∙ c.loop-place.invariant.kept

pub loop-place-preserved : goal.loop-place-preserved
loop-place-preserved c =
    let places : List ℕ = c.args.places.now in
    let words : List ℕ = c.args.message.now.content in
    let i = c.loop-place.place-index in
    let more = take_more places i 0 c.loop-place-test.true in
    let items = c.push_reserved.ensures.items in
    record {
      contents = ap contents_of items ∙ map_push (λ (a : ℕ × Reference). (a.0, a.1.content)) c.loop-place.further.items _
          ∙ (λ k. c.loop-place.invariant.contents k ++ ((get_or places i 0), (c.in_ok-another.ensures.same ∙ c.loop-place.invariant.kept) k) ∷ [])
          ∙ sym (map_push (λ (to : ℕ). (to, words)) (take i places) (get_or places i 0)) ∙ ap (λ (ps : List ℕ). map (λ (to : ℕ). (to, words)) ps) (sym more);
      kept = c.another_message.ensures.kept ∙ c.loop-place.invariant.kept;
      shared = λ shares room few.
          let before = c.loop-place.invariant.shared shares room few in
          let inside = c.loop-place-test.true in
          let left = before.1 in
          let after = c.in_ok-another.ensures.shared shares (omega arith) in
          let room_after : c.another_message.new.message.room ≡ _ = ap (λ (r : Reference). r.room) after in
          let enough = room_left c.loop-place.message.room (3 * i) left in
          let next : suc i ≡ i + 1 = omega arith in (
            after ∙ ap retained before.0 ∙ ap (λ (n : ℕ). retained_times n c.args.message.now) next,
            omega arith,
          );
      seconds = λ shares room few.
          let before = c.loop-place.invariant.shared shares room few in
          let inside = c.loop-place-test.true in
          let left = before.1 in
          let another = c.in_ok-another.ensures.second shares (omega arith) ∙ ap second before.0 in
          let here : length (take i places) ≡ i = omega (arith, length-take {A = ℕ}) in
          items ∙ (λ k. c.loop-place.invariant.seconds shares room few k ++ (get_or places i 0, another k) ∷ [])
          ∙ sym (ap (further_of c.args.message.now 0) more ∙ further_more c.args.message.now 0 (take i places) (get_or places i 0)
          ∙ ap (λ (n : ℕ). further_of c.args.message.now 0 (take i places) ++ (get_or places i 0, second (retained_times n c.args.message.now)) ∷ []) (zero-add _ ∙ here));
      copied = λ copies. items
          ∙ (λ k. c.loop-place.invariant.copied copies k ++ ((get_or places i 0), (c.in_ok-another.ensures.copied copies ∙ ap fresh c.loop-place.invariant.kept) k) ∷ [])
          ∙ sym (map_push (λ (to : ℕ). (to, fresh words)) (take i places) (get_or places i 0)) ∙ ap (λ (ps : List ℕ). map (λ (to : ℕ). (to, fresh words)) ps) (sym more);
    }
