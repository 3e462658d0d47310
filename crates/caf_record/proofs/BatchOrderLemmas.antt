-- The order of batches and of senders in them decides a record: its merge is a run, and a run has no other choice.
use Rattle.std.proofs.Common.{◌≡◌, ◌≢◌, ℕ, zero, suc, ◌+◌, ◌==◌, ◌&&◌, Bool, true, false, if◌then◌else◌, List, [], ◌∷◌, ◌++◌, drop, map, refl, ap, sym, ◌∙◌, subst, arith}
use Rattle.std.specs.Prelude.{flat_map}
use Rattle.std.proofs.Math.Path.{fun_ext}
use Rattle.caf_message.specs.declared.envelope.Taken.{Taken}
use Rattle.caf_actor.specs.declared.journal.TakenBatch.{TakenBatch}
use Rattle.caf_actor.specs.Record.{Machine, IsPrefix, from_place, Kept, holds_notice, cut_in, IsLegal}
use Rattle.caf_actor.specs.Run.{Turn, State, opening_state, MayTake, MaySpeak, take_batch, send_notice, IsRun}
use Rattle.caf_actor.specs.Merge.{batches_in, IsMerge, steps_of}
use Rattle.caf_record.specs.Trace.{SenderRun, one_before, runs_of}
use Rattle.caf_record.specs.BatchOrder.{batch_order}
use Rattle.caf_record.proofs.ListLemmas.{same_of}
use Rattle.caf_record.proofs.StandsLemmas.{HasStamps}
use Rattle.caf_record.proofs.MergeLemmas.{merge_runs}
use Rattle.caf_record.proofs.RunLemmas.{from_own}

-- ---- runs of senders tell the senders

abbrev copies : ℕ → ℕ → List ℕ
copies zero sender = []
copies (suc n) sender = sender ∷ copies n sender

abbrev senders_in : List SenderRun → List ℕ
senders_in rs = flat_map (λ r. copies r.count r.sender) rs

abbrev senders : List Taken → List ℕ
senders es = map (λ e. e.sender) es

one_more : (sender : ℕ) (rs : List SenderRun) → senders_in (one_before sender rs) ≡ sender ∷ senders_in rs
one_more sender [] = refl
one_more sender (r ∷ rs) = go (r.sender == sender) refl
  where
    go : (b : Bool) → (r.sender == sender) ≡ b → senders_in (one_before sender (r ∷ rs)) ≡ sender ∷ senders_in (r ∷ rs)
    go true q =
        let same : r.sender ≡ sender = same_of r.sender sender q in
        let more : r.count + 1 ≡ suc r.count = omega arith in
        rw q (ap (λ n. copies n r.sender ++ senders_in rs) more ∙ ap (λ s. s ∷ senders_in (r ∷ rs)) same)
    go false q = rw q refl

senders_told : (es : List Taken) → senders_in (runs_of es) ≡ senders es
senders_told [] = refl
senders_told (e ∷ es) = one_more e.sender (runs_of es) ∙ ap (λ ss. e.sender ∷ ss) (senders_told es)

-- ---- what waits, and the senders, tell what is taken

-- what waits once an envelope was taken
abbrev left_of : (ℕ → List Taken) → Taken → ℕ → List Taken
left_of waiting e a = if e.sender == a then drop 1 (waiting a) else waiting a

next_left : (waiting : ℕ → List Taken) (e : Taken) (es : List Taken) → ((a : ℕ) → IsPrefix (from_place a (e ∷ es)) (waiting a)) → (a : ℕ) → IsPrefix (from_place a es) (left_of waiting e a)
next_left waiting e es h a = go (e.sender == a) refl
  where
    go : (b : Bool) → (e.sender == a) ≡ b → IsPrefix (from_place a es) (left_of waiting e a)
    go true q = let p : IsPrefix (e ∷ from_place a es) (waiting a) = rw q at (h a) in rw q (p.0, ap (drop 1) p.1)
    go false q = let p : IsPrefix (from_place a es) (waiting a) = rw q at (h a) in rw q p

first_waits : (waiting : ℕ → List Taken) (e : Taken) (es : List Taken) (p : IsPrefix (from_place e.sender (e ∷ es)) (waiting e.sender)) → e ∷ (from_place e.sender es ++ p.0) ≡ waiting e.sender
first_waits waiting e es p = ap (λ xs. xs ++ p.0) (sym (from_own e es)) ∙ p.1

same_taken : (waiting : ℕ → List Taken) (es fs : List Taken) → senders es ≡ senders fs → ((a : ℕ) → IsPrefix (from_place a es) (waiting a)) → ((a : ℕ) → IsPrefix (from_place a fs) (waiting a)) → es ≡ fs
same_taken waiting [] [] q h k = refl
same_taken waiting [] (f ∷ fs) q h k = cc
same_taken waiting (e ∷ es) [] q h k = cc
same_taken waiting (e ∷ es) (f ∷ fs) q h k =
    let one : e.sender ≡ f.sender = cc in
    let rest : senders es ≡ senders fs = cc in
    let both : e ∷ (from_place e.sender es ++ (h e.sender).0) ≡ f ∷ (from_place f.sender fs ++ (k f.sender).0) =
    first_waits waiting e es (h e.sender) ∙ ap waiting one ∙ sym (first_waits waiting f fs (k f.sender)) in
    let same : e ≡ f = cc in
    let others = subst (λ (x : Taken). (a : ℕ) → IsPrefix (from_place a (x ∷ fs)) (waiting a)) (sym same) k in
    ap (λ (x : Taken). x ∷ es) same ∙ ap (λ xs. f ∷ xs) (same_taken (left_of waiting e) es fs rest (next_left waiting e es h) (next_left waiting e fs others))

-- where nothing waits, nothing is taken
takes_none : (waiting : ℕ → List Taken) (es : List Taken) → es ≢ [] → ((a : ℕ) → IsPrefix (from_place a es) (waiting a)) → ((a : ℕ) → waiting a ≡ []) → ⊥
takes_none waiting [] some h none = some refl
takes_none waiting (e ∷ es) some h none =
    let wrong : e ∷ (from_place e.sender es ++ (h e.sender).0) ≡ [] = first_waits waiting e es (h e.sender) ∙ none e.sender in cc

-- ---- runs

module _ {S : Type 0} (m : Machine S) (ticks : ℕ) where
  same_turn : (s : State S) (t u : Turn) → MayTake m s t → MayTake m s u → t.place ≡ u.place → runs_of t.batch.taken ≡ runs_of u.batch.taken → t ≡ u
  same_turn s t u h k place runs =
      let told : senders t.batch.taken ≡ senders u.batch.taken = sym (senders_told t.batch.taken) ∙ ap senders_in runs ∙ senders_told u.batch.taken in
      let here = subst (λ p. (a : ℕ) → IsPrefix (from_place a u.batch.taken) (s.waiting a p)) (sym place) k.next in
      let taken : t.batch.taken ≡ u.batch.taken = same_taken (λ a. s.waiting a t.place) t.batch.taken u.batch.taken told h.next here in
      let stamp : t.batch.stamp ≡ u.batch.stamp = h.stamp ∙ ap (λ p. m.due (s.snapshot p) t.batch.taken) place ∙ ap (λ es. m.due (s.snapshot u.place) es) taken ∙ sym k.stamp in
      λ i. record { place = place i; batch = record { stamp = stamp i; taken = taken i } }

  -- at rest the outside alone goes on
  rest_or_take : (s : State S) (t : Turn) → MaySpeak m ticks s → MayTake m s t → ⊥
  rest_or_take s t say may = takes_none (λ a. s.waiting a t.place) t.batch.taken may.filled may.next (λ a. say.rest.taken a t.place)

  same_turns : (ts us : List Turn) (s : State S) → IsRun m ticks s (steps_of ts) → IsRun m ticks s (steps_of us) → batch_order ts ≡ batch_order us → ts ≡ us
  same_turns [] [] s h k q = refl
  same_turns [] (u ∷ us) s h k q = cc
  same_turns (t ∷ ts) [] s h k q = cc
  same_turns (t ∷ ts) (u ∷ us) s h k q = go (λ s h k q. same_turns ts us s h k q) ((0 == t.place) && holds_notice t.batch) refl ((0 == u.place) && holds_notice u.batch) refl
    where
      order : ◌≡◌ {A = ℕ × List SenderRun} (t.place, runs_of t.batch.taken) (u.place, runs_of u.batch.taken)
      order = cc

      later : batch_order ts ≡ batch_order us
      later = cc

      taking : ((s : State S) → IsRun m ticks s (steps_of ts) → IsRun m ticks s (steps_of us) → batch_order ts ≡ batch_order us → ts ≡ us) → (s : State S) → MayTake m s t → MayTake m s u → IsRun m ticks (take_batch m s t) (steps_of ts) → IsRun m ticks (take_batch m s u) (steps_of us)
          → t ∷ ts ≡ u ∷ us
      taking on s a b x y =
          let same : t ≡ u = same_turn s t u a b (ap (λ o. o.0) order) (ap (λ o. o.1) order) in
          ap (λ (v : Turn). v ∷ ts) same ∙ ap (λ vs. u ∷ vs) (on (take_batch m s t) x (subst (λ (v : Turn). IsRun m ticks (take_batch m s v) (steps_of us)) (sym same) y) later)

      go : ((s : State S) → IsRun m ticks s (steps_of ts) → IsRun m ticks s (steps_of us) → batch_order ts ≡ batch_order us → ts ≡ us) → (c : Bool) → ((0 == t.place) && holds_notice t.batch) ≡ c → (d : Bool) → ((0 == u.place) && holds_notice u.batch) ≡ d → t ∷ ts ≡ u ∷ us
      go on false c false d = let x = rw c at h in let y = rw d at k in taking on s x.0 y.0 x.1 y.1
      go on true c true d = let x = rw c at h in let y = rw d at k in taking on (send_notice m ticks s) x.1.0 y.1.0 x.1.1 y.1.1
      go on true c false d = let x = rw c at h in let y = rw d at k in absurd (rest_or_take s u x.0 y.0)
      go on false c true d = let x = rw c at h in let y = rw d at k in absurd (rest_or_take s t y.0 x.0)

  pub decides : HasStamps m → (k l : Kept S) (ts us : List Turn) → IsLegal m ticks k → IsLegal m ticks l → IsMerge k ts → IsMerge l us → k.places ≡ l.places → k.start ≡ l.start → batch_order ts ≡ batch_order us → k ≡ l
  decides has k l ts us legal legal_too merge merge_too places start order =
      let opens : opening_state l.places l.start ≡ opening_state k.places k.start = sym (λ i. opening_state (places i) (start i)) in
      let first : IsRun m ticks (opening_state k.places k.start) (steps_of ts) = (merge_runs m has ticks k legal ts merge).0 in
      let second : IsRun m ticks (opening_state k.places k.start) (steps_of us) = subst (λ s. IsRun m ticks s (steps_of us)) opens (merge_runs m has ticks l legal_too us merge_too).0 in
      let same : ts ≡ us = same_turns ts us (opening_state k.places k.start) first second order in
      let journal : k.journal ≡ l.journal = fun_ext (λ p. sym (merge.parts p) ∙ ap (batches_in p) same ∙ merge_too.parts p) in
      let cut : k.cut ≡ l.cut = legal.cut ∙ ap (λ (j : ℕ → List TakenBatch). cut_in (j 0)) journal ∙ sym legal_too.cut in
      λ i. record { places = places i; start = start i; journal = journal i; cut = cut i }
