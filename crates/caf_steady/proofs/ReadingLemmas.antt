-- A steady actor handles all that it has taken, the urgent ones first, and so reads each batch in turn.
use Rattle.std.proofs.Common.{◌≡◌, ℕ, zero, suc, ◌++◌, ◌∙◌, ◌≤◌, Bool, true, false, List, [], ◌∷◌, length, map, Option, Some, None, refl, ap, sym, subst, arith, length-append}
use Rattle.std.proofs.lemmas.List.{map-append, append-nil}
use Rattle.std.specs.Prelude.{filter}
use Rattle.std.specs.List.{AllByRecursion}
use Rattle.caf_message.specs.Lists.{pick}
use Rattle.caf_message.specs.declared.envelope.Plain.{Plain}
use Rattle.caf_message.specs.declared.envelope.Plain.TheVariants as «plain»
use Rattle.caf_message.specs.declared.envelope.Taken.{Taken}
use Rattle.caf_mailbox.specs.Caches.{CachedLists, nothing_cached, is_urgent, is_normal, next_of, first_of}
use Rattle.caf_mailbox.proofs.NextLemmas.{all_append, all_filter, first_in_order, no_first}
use Rattle.caf_actor.specs.declared.journal.TakenBatch.{TakenBatch}
use Rattle.caf_actor.specs.declared.snapshot.Snapshot.{Snapshot}
use Rattle.caf_actor.specs.Drain.{drain_for, with_batch, batch_of}
use Rattle.caf_actor.specs.Eligibility.{is_eligible, with_caches, next_envelope}
use Rattle.caf_actor.specs.Handling.{handle_one}
use Rattle.caf_actor.specs.PlainInput.{PlainInput}
use Rattle.caf_actor.specs.Record.{machine_of, joined, posted}
use Rattle.caf_actor.specs.Rules.{Rules}
use Rattle.caf_actor.specs.Snapshot.{Handled, so_far, with_snapshot, cached}
use Rattle.caf_record.proofs.ListLemmas.{all_left, all_right}
use Rattle.caf_steady.specs.Outline.{Outlined, outline_of, outlined, bare}
use Rattle.caf_steady.specs.Reading.{read, read_one, in_turn, all_in_turn}
use Rattle.caf_steady.specs.Steady.{Brings, IsSteady, HasRead, ReadsInTurn, reading}
use Rattle.caf_steady.proofs.FrameLemmas.{behind, read_behind}
use Rattle.caf_steady.proofs.OutlineLemmas.{one_goes}

-- ---- where the first one passes, it is picked

picks : (test : Taken → Bool) (xs : List Taken) → AllByRecursion (λ e. test e ≡ true) xs → pick test xs ≡ pick (λ e. true) xs
picks test [] all = refl
picks test (x ∷ xs) all = rw all.0 refl

next_is_first : (test : Taken → Bool) (lists : CachedLists) → AllByRecursion (λ e. test e ≡ true) lists.urgent → AllByRecursion (λ e. test e ≡ true) lists.normal → next_of test lists ≡ first_of lists
next_is_first test lists urgent normal = rw (picks test lists.urgent urgent, picks test lists.normal normal) refl

module _ {S : Type 0} (rules : Rules S) (comes : PlainInput → Bool) where
  -- ---- every envelope is eligible

  eligible : (s : Snapshot S) (e : Taken) → IsSteady rules comes s → is_eligible rules s e ≡ true
  eligible s e h = go e.body refl
    where
      turn : (words : List ℕ) → e.body ≡ «plain».Content words → (b : Bool) → e.mid.response ≡ b → is_eligible rules s e ≡ true
      turn words q true r = rw (h.here, h.begun, h.awaits, q, r) refl
      turn words q false r = rw (h.here, h.begun, h.awaits, q, r, (h.behavior [] tt).wants _) refl

      go : (body : Plain) → e.body ≡ body → is_eligible rules s e ≡ true
      go («plain».System what) q = rw (h.here, q) refl
      go («plain».Failure sec) q = rw (h.here, h.begun, h.awaits, q) refl
      go («plain».Content words) q = turn words q e.mid.response refl

  all_eligible : (s : Snapshot S) (es : List Taken) → IsSteady rules comes s → AllByRecursion (λ e. is_eligible rules s e ≡ true) es
  all_eligible s [] h = tt
  all_eligible s (e ∷ es) h = (eligible s e h, all_eligible s es h)

  next_is : (s : Snapshot S) → IsSteady rules comes s → next_envelope rules s ≡ with_caches s (first_of s.caches)
  next_is s h = ap (with_caches s) (next_is_first (is_eligible rules s) s.caches (all_eligible s s.caches.urgent h) (all_eligible s s.caches.normal h))

  -- ---- the drain

  pub record Drained (t u : Handled S) (es : List Taken) : Type 0 where
    pub steady : IsSteady rules comes u.snapshot
    pub handled : u.snapshot.caches ≡ nothing_cached
    pub told : outlined u ≡ read rules (outlined t) es

  nothing_left : (n : ℕ) (t : Handled S) → IsSteady rules comes t.snapshot → first_of t.snapshot.caches ≡ None → drain_for rules n t ≡ t
  nothing_left zero t h q = refl
  nothing_left (suc n) t h q = rw (next_is t.snapshot h ∙ ap (with_caches t.snapshot) q) refl

  drained : (es : List Taken) (n : ℕ) (t : Handled S) → t.snapshot.caches.urgent ++ t.snapshot.caches.normal ≡ es → length es ≤ n → IsSteady rules comes t.snapshot
      → AllByRecursion (Brings comes) es → Drained t (drain_for rules n t) es
  drained [] n t q few h all = go (first_of t.snapshot.caches) refl
    where
      go : (r : Option (Taken × CachedLists)) → first_of t.snapshot.caches ≡ r → Drained t (drain_for rules n t) []
      go None r = rw (nothing_left n t h r) (record { steady = h; handled = no_first t.snapshot.caches r; told = refl })
      go (Some p) r = let no : [] ≡ p.0 ∷ (p.1.urgent ++ p.1.normal) = sym q ∙ first_in_order t.snapshot.caches p r in cc
  drained (e ∷ es) zero t q few h all = absurd (omega (arith, few))
  drained (e ∷ es) (suc n) t q few h all = go (drained es n) (first_of t.snapshot.caches) refl
    where
      go : ((u : Handled S) → u.snapshot.caches.urgent ++ u.snapshot.caches.normal ≡ es → length es ≤ n → IsSteady rules comes u.snapshot → AllByRecursion (Brings comes) es → Drained u (drain_for rules n u) es)
          → (r : Option (Taken × CachedLists)) → first_of t.snapshot.caches ≡ r → Drained t (drain_for rules (suc n) t) (e ∷ es)
      go later None r =
          let none : t.snapshot.caches ≡ nothing_cached = no_first t.snapshot.caches r in
          let no : e ∷ es ≡ [] = sym q ∙ ap (λ (lists : CachedLists). lists.urgent ++ lists.normal) none in cc
      go later (Some p) r =
          let order : e ∷ es ≡ p.0 ∷ (p.1.urgent ++ p.1.normal) = sym q ∙ first_in_order t.snapshot.caches p r in
          let first : e ≡ p.0 = cc in
          let rest : es ≡ p.1.urgent ++ p.1.normal = cc in
          let left : Handled S = with_snapshot t (record t.snapshot { caches = p.1 }) in
          let one = one_goes rules comes left p.0 (subst (Brings comes) first all.0) (record { behavior = h.behavior; begun = h.begun; here = h.here; awaits = h.awaits }) in
          let u : Handled S = handle_one rules left p.0 in
          let lists : u.snapshot.caches.urgent ++ u.snapshot.caches.normal ≡ es = ap (λ (l : CachedLists). l.urgent ++ l.normal) one.listed ∙ sym rest in
          let few_left : length es ≤ n = omega (arith, few) in
          let end = later u lists few_left one.steady all.1 in
          let told : outlined (drain_for rules n u) ≡ read rules (outlined t) (e ∷ es) =
          end.told ∙ ap (λ (o : Outlined S). read rules o es) one.told ∙ ap (λ (x : Taken). read rules (read_one rules (outlined t) x) es) (sym first) in
          rw (next_is t.snapshot h ∙ ap (with_caches t.snapshot) r) (record { steady = end.steady; handled = end.handled; told = told })

  -- ---- a batch

  pub record Read (s : Snapshot S) (batch : List Taken) : Type 0 where
    pub steady : IsSteady rules comes (batch_of rules s batch).snapshot
    pub handled : (batch_of rules s batch).snapshot.caches ≡ nothing_cached
    pub told : outlined (batch_of rules s batch) ≡ read rules (record { outline = outline_of s; sent = [] }) (in_turn batch)

  pub brought_in_turn : (batch : List Taken) → AllByRecursion (Brings comes) batch → AllByRecursion (Brings comes) (in_turn batch)
  brought_in_turn batch all =
      all_append (Brings comes) (filter is_urgent batch) (filter is_normal batch) (all_filter is_urgent (Brings comes) batch all) (all_filter is_normal (Brings comes) batch all)

  pub batch_read : (s : Snapshot S) (batch : List Taken) → IsSteady rules comes s → s.caches ≡ nothing_cached → AllByRecursion (Brings comes) batch → Read s batch
  batch_read s batch h empty all =
      let t : Handled S = so_far (with_batch s batch) [] in
      let lists : t.snapshot.caches.urgent ++ t.snapshot.caches.normal ≡ in_turn batch =
      ap (λ (l : CachedLists). (l.urgent ++ filter is_urgent batch) ++ (l.normal ++ filter is_normal batch)) empty in
      let count : cached t.snapshot ≡ length (in_turn batch) = sym (length-append t.snapshot.caches.urgent t.snapshot.caches.normal) ∙ ap length lists in
      let end = drained (in_turn batch) (cached t.snapshot) t lists (omega (arith, count)) (record { behavior = h.behavior; begun = h.begun; here = h.here; awaits = h.awaits }) (brought_in_turn batch all) in
      record { steady = end.steady; handled = end.handled; told = end.told }

  -- ---- a journal

  read_both : (o : Outlined S) (es fs : List Taken) → read rules o (es ++ fs) ≡ read rules (read rules o es) fs
  read_both o [] fs = refl
  read_both o (e ∷ es) fs = read_both (read_one rules o e) es fs

  pub has_read : (s : Snapshot S) (bs : List TakenBatch) → IsSteady rules comes s → s.caches ≡ nothing_cached → AllByRecursion (Brings comes) (joined bs) → HasRead rules comes s bs
  has_read s [] h empty all = record { stands = refl; sent = refl; steady = h; handled = empty }
  has_read s (b ∷ bs) h empty all =
      let first = batch_read s b.taken h empty (all_left (Brings comes) b.taken (joined bs) all) in
      let t : Handled S = batch_of rules s b.taken in
      let later = has_read t.snapshot bs first.steady first.handled (all_right (Brings comes) b.taken (joined bs) all) in
      let o : Outlined S = record { outline = outline_of t.snapshot; sent = [] } in
      let here : outlined t ≡ behind (map bare t.posts) o = ap (λ (more : _). record { outline = outline_of t.snapshot; sent = more }) (sym (append-nil (map bare t.posts))) in
      let all_of : reading rules s (b ∷ bs) ≡ behind (map bare t.posts) (reading rules t.snapshot bs) =
      read_both (record { outline = outline_of s; sent = [] }) (in_turn b.taken) (all_in_turn bs)
      ∙ ap (λ (x : Outlined S). read rules x (all_in_turn bs)) (sym first.told ∙ here)
      ∙ read_behind rules (map bare t.posts) o (all_in_turn bs) in
      record {
        stands = later.stands ∙ sym (ap (λ (x : Outlined S). x.outline) all_of);
        sent = map-append bare t.posts (posted (machine_of rules) t.snapshot bs) ∙ ap (λ (more : _). map bare t.posts ++ more) later.sent ∙ sym (ap (λ (x : Outlined S). x.sent) all_of);
        steady = later.steady;
        handled = later.handled;
      }

pub reads_in_turn : {S : Type 0} (rules : Rules S) → ReadsInTurn rules
reads_in_turn rules comes s bs h empty all = has_read rules comes s bs h empty all
