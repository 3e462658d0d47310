-- Each push, pop and steal keeps the ticket rule.
use Rattle.std.proofs.Common.{◌≡◌, ◌≢◌, ◌⊎◌, ℕ, zero, suc, ◌+◌, ◌<◌, ◌==◌, Bool, true, false, List, [], ◌∷◌, ◌++◌, length, set, refl, ap, sym, ◌∙◌, inl, inr, ⊎_elim, append_assoc, append-nil, eq-eqb, ne_eqb, arith}
use Rattle.std.specs.List.{AllByRecursion}
use Rattle.std.proofs.lemmas.List.{length-set, length-append}
use mathlib.Core.Option.{some, some-injective, some-ne-none}
use lib.ListN.{get_elem?}
use Rattle.atomic_table.proofs.Lists.{at_set, set_here, set_else, at_longer}
use Rattle.crossbeam_deque.specs.Tasks.{Pushes, Takes, Admits}
use Rattle.caf_sched.specs.declared.view.View.{View}
use Rattle.caf_sched.specs.Tickets.{picked, TicketRule, view}

module _ {A : Type 0} where
  at_end : (l : List A) (a b : A) (j : ℕ) → get_elem? (l ++ a ∷ []) j ≡ some b → (get_elem? l j ≡ some b) ⊎ ((j ≡ length l) × (a ≡ b))
  at_end [] a b zero e = inr (refl, some-injective a b e)
  at_end [] a b (suc j) e = absurd (some-ne-none b (sym e))
  at_end (x ∷ xs) a b zero e = inl e
  at_end (x ∷ xs) a b (suc j) e = ⊎_elim (λ h. inl h) (λ h. inr (ap suc h.0, h.1)) (at_end xs a b j e)

  within : (l : List A) (j : ℕ) (a : A) → get_elem? l j ≡ some a → j < length l
  within [] j a e = absurd (some-ne-none a (sym e))
  within (x ∷ xs) zero a e = omega arith
  within (x ∷ xs) (suc j) a e = let h = within xs j a e in omega arith

  all_append : (F : A → Type 0) (xs ys : List A) → AllByRecursion F xs → AllByRecursion F ys → AllByRecursion F (xs ++ ys)
  all_append F [] ys h k = k
  all_append F (x ∷ xs) ys h k = (h.0, all_append F xs ys h.1 k)

  all_weaker : (F G : A → Type 0) → ((x : A) → F x → G x) → (xs : List A) → AllByRecursion F xs → AllByRecursion G xs
  all_weaker F G f [] h = tt
  all_weaker F G f (x ∷ xs) h = (f x h.0, all_weaker F G f xs h.1)

-- one drawn position more
picked_snoc : (port p t : ℕ) (ports gone : List ℕ) → length ports ≡ length gone → picked port (ports ++ p ∷ []) (gone ++ t ∷ []) ≡ picked port ports gone ++ picked port (p ∷ []) (t ∷ [])
picked_snoc port p t [] [] e = refl
picked_snoc port p t [] (u ∷ gone) e = absurd (omega arith)
picked_snoc port p t (q ∷ ports) [] e = absurd (omega arith)
picked_snoc port p t (q ∷ ports) (u ∷ gone) e = go (q == port) refl (picked_snoc port p t ports gone (omega arith))
  where
    go : (x : Bool) → (q == port) ≡ x → picked port (ports ++ p ∷ []) (gone ++ t ∷ []) ≡ picked port ports gone ++ picked port (p ∷ []) (t ∷ []) → picked port ((q ∷ ports) ++ p ∷ []) ((u ∷ gone) ++ t ∷ []) ≡ picked port (q ∷ ports) (u ∷ gone) ++ picked port (p ∷ []) (t ∷ [])
    go true e h = rw (e, h) refl
    go false e h = rw (e, h) refl

picked_own : (port t : ℕ) → picked port (port ∷ []) (t ∷ []) ≡ t ∷ []
picked_own port t = let q : (port == port) ≡ true = eq-eqb port port refl in rw q refl

picked_other : (port p t : ℕ) → p ≢ port → picked port (p ∷ []) (t ∷ []) ≡ []
picked_other port p t n = let q : (p == port) ≡ false = ne_eqb p port n in rw q refl

picked_none : (port : ℕ) (ports gone : List ℕ) → AllByRecursion (λ p. p < port) ports → picked port ports gone ≡ []
picked_none port [] gone h = refl
picked_none port (p ∷ ports) [] h = refl
picked_none port (p ∷ ports) (t ∷ gone) h = let q : (p == port) ≡ false = ne_eqb p port (λ e. let l = h.0 in omega arith) in rw q (picked_none port ports gone h.1)

-- a new deque
pub begins : TicketRule [] (view [] [] ∷ [])
begins = record {
  owner = view [] [];
  gone = [];
  ports = [];
  first = refl;
  puts = refl;
  once = refl;
  known = tt;
  each = λ port v e. only port v e;
}
  where
    only : (port : ℕ) (v : View) → get_elem? (view [] [] ∷ []) port ≡ some v → v.drawn ≡ []
    only zero v e = ap (λ u. u.drawn) (sym (some-injective (view [] []) v e))
    only (suc port) v e = absurd (some-ne-none v (sym e))

-- the owner puts
pub pushes : (v : View) (xs : List ℕ) → Pushes TicketRule 0 v xs (λ w. w ≡ view (v.puts ++ xs) v.drawn)
pushes v xs items views r at = let w = view (v.puts ++ xs) v.drawn in (
  w,
  record {
    owner = w;
    gone = r.gone;
    ports = r.ports;
    first = set_here views 0 w (within views 0 v at);
    puts = (let same : v ≡ r.owner = some-injective v r.owner (sym at ∙ r.first) in ap (λ l. l ++ xs) (ap (λ u. u.puts) same ∙ r.puts) ∙ append_assoc r.gone items xs);
    once = r.once;
    known = rw (length-set views 0 w) r.known;
    each = λ port u e. ⊎_elim (λ (x : (port ≡ 0) × (w ≡ u)). rw (← x.1, x.0) (r.each 0 v at)) (λ (x : (port ≢ 0) × (get_elem? views port ≡ some u)). r.each port u x.1) (at_set views 0 port w u e);
  },
  refl,
)

-- the owner, after what a port drew grew
owned : (views : List View) (port : ℕ) (o v : View) (xs : List ℕ) → get_elem? views port ≡ some v → get_elem? views 0 ≡ some o → (u : View) × (get_elem? (set views port (view v.puts (v.drawn ++ xs))) 0 ≡ some u) × (u.puts ≡ o.puts)
owned views zero o v xs at own = (view v.puts (v.drawn ++ xs), set_here views 0 _ (within views 0 v at), ap (λ u. u.puts) (some-injective v o (sym at ∙ own)))
owned views (suc port) o v xs at own = (o, set_else views (suc port) 0 _ (λ e. omega arith) ∙ own, refl)

-- a port draws the first ticket
takes_one : (port : ℕ) (v : View) (t : ℕ) (items : List ℕ) (views : List View) → TicketRule (t ∷ items) views → get_elem? views port ≡ some v → TicketRule items (set views port (view v.puts (v.drawn ++ t ∷ [])))
takes_one port v t items views r at = let w = view v.puts (v.drawn ++ t ∷ []) in let o = owned views port r.owner v (t ∷ []) at r.first in record {
  owner = o.0;
  gone = r.gone ++ t ∷ [];
  ports = r.ports ++ port ∷ [];
  first = o.1;
  puts = o.2 ∙ r.puts ∙ sym (append_assoc r.gone (t ∷ []) items);
  once = rw (length-append r.ports (port ∷ []), length-append r.gone (t ∷ []), r.once) refl;
  known = rw (length-set views port w) (all_append (λ p. p < length views) r.ports (port ∷ []) r.known (within views port v at, tt));
  each = λ q u e. ⊎_elim
      (λ (x : (q ≡ port) × (w ≡ u)). rw (← x.1, x.0, picked_snoc port port t r.ports r.gone r.once, picked_own port t) (ap (λ l. l ++ t ∷ []) (r.each port v at)))
      (λ (x : (q ≢ port) × (get_elem? views q ≡ some u)). rw (picked_snoc q port t r.ports r.gone r.once, picked_other q port t (λ z. x.0 (sym z)), append-nil (picked q r.ports r.gone)) (r.each q u x.1))
      (at_set views port q w u e);
}

pub takes : (port : ℕ) (v : View) → Takes TicketRule port v 1 (λ xs w. w ≡ view v.puts (v.drawn ++ xs))
takes port v [] items views some_ticket one r at = absurd (omega arith)
takes port v (t ∷ []) items views some_ticket one r at = (view v.puts (v.drawn ++ t ∷ []), takes_one port v t items views r at, refl)
takes port v (t ∷ s ∷ ts) items views some_ticket one r at = absurd (omega arith)

-- a new port, which has drawn nothing
pub admits : Admits TicketRule (view [] [])
admits items views r = record {
  owner = r.owner;
  gone = r.gone;
  ports = r.ports;
  first = at_longer views (view [] [] ∷ []) 0 r.owner r.first;
  puts = r.puts;
  once = r.once;
  known = rw (length-append views (view [] [] ∷ [])) (all_weaker (λ p. p < length views) (λ p. p < length views + 1) (λ p h. omega arith) r.ports r.known);
  each = λ q u e. ⊎_elim (λ (x : get_elem? views q ≡ some u). r.each q u x)
      (λ (x : (q ≡ length views) × (view [] [] ≡ u)). rw (← x.1, x.0) (sym (picked_none (length views) r.ports r.gone r.known))) (at_end views (view [] []) u q e);
}
