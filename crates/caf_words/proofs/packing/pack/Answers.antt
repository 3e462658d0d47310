use Rattle.std.proofs.Common.{refl, ◌-◌, ◌≡◌, ◌+◌, ◌*◌, ◌≤◌, ◌++◌, ◌∷◌, [], length, drop, sym, ap, subst, ◌∙◌, List, ℕ, append_assoc, rules, min, arith}
use Rattle.std.proofs.lemmas.List.{drop_min, length-drop}
use Rattle.std.specs.Int.{w64, from_le_bytes}
use Rattle.caf_words.specs.Spelling.{packed}
use Rattle.caf_words.proofs.PackingLemmas.{packed_more}
use Rattle.caf_words.proofs.packing.pack.Goals as goal

cut : (xs : List ℕ) → drop (min (length xs) 8) xs ≡ drop 8 xs
cut xs = let e : min 8 (length xs) ≡ min (length xs) 8 = omega arith in subst (λ k. drop k xs ≡ drop 8 xs) e (drop_min 8 xs)

more : (front bs rest total new : List ℕ) → (bs ≡ [] → ⊥) → rest ≡ drop 8 bs → new ≡ front ++ from_le_bytes w64 bs ∷ [] → front ++ packed bs ≡ total → new ++ packed rest ≡ total
more front bs rest total new h r n so_far = rw (n, r, append_assoc front (from_le_bytes w64 bs ∷ []) (packed (drop 8 bs))) (ap (λ (xs : List ℕ). front ++ xs) (sym (packed_more bs h)) ∙ so_far)

-- eight more bytes, or the last ones, take one word of the room
takes_one : (bs rest : List ℕ) (len cap len' cap' : ℕ) → (bs ≡ [] → ⊥) → rest ≡ drop 8 bs → len' ≡ len + 1 → cap' ≡ cap → 8 * len + length bs ≤ 8 * cap → 8 * len' + length rest ≤ 8 * cap'
takes_one [] rest len cap len' cap' some r l e h = absurd (some refl)
takes_one (b ∷ bs) rest len cap len' cap' some r l e h =
    let n : length rest ≡ length (b ∷ bs) - 8 = rw r (length-drop 8 (b ∷ bs)) in
    omega (arith, n, l, e, h)

pub loop-rest-preserved : goal.loop-rest-preserved
loop-rest-preserved c =
    let some : c.loop-rest.rest.now ≡ [] → ⊥ = search rules in
    let rest_is : c.split_at.result.1.now ≡ drop 8 c.loop-rest.rest.now = c.split_at.ensures.back ∙ rw c.min.ensures (cut c.loop-rest.rest.now) in
    record {
      added = more c.loop-rest.words.items c.loop-rest.rest.now c.split_at.result.1.now _ c.push_reserved.new.self.items some rest_is
          (c.push_reserved.ensures.items ∙ ap (λ w. c.loop-rest.words.items ++ w ∷ []) c.cell.ensures)
          c.loop-rest.invariant.added;
      room = takes_one c.loop-rest.rest.now c.split_at.result.1.now _ _ _ _ some rest_is c.push_reserved.ensures.len c.push_reserved.ensures.capacity c.loop-rest.invariant.room;
    }
