-- What a crew keeps of its hands, seats and parts.
use Rattle.std.proofs.Common.{◌≡◌, ℕ, zero, suc, ◌+◌, ◌-◌, ◌<◌, List, [], ◌∷◌, ◌++◌, length, map, slice_index_or, All, Result, Ok, IfOk, refl, ap, sym, ◌∙◌, subst, append_assoc, arith}
use Rattle.std.specs.List.{AllZip}
use Rattle.std.proofs.lemmas.List.Elements.{All-append}
use Rattle.std.proofs.lemmas.List.{map-append, length-append}
use mathlib.Core.Option.{some, some-injective, some-ne-none}
use lib.ListN.{get_elem?}
use Rattle.atomic_table.specs.Seated.{TableId}
use Rattle.caf_types.specs.Table.{Table}
use Rattle.caf_turns.specs.Limits.{all_parts}
use Rattle.caf_turns.specs.Rule.{Opens}
use Rattle.caf_sched.specs.declared.worker.Worker.{Worker}
use Rattle.caf_sched.specs.Hand.{HandSeen, HasDrawn}
use Rattle.caf_sched.specs.Crew.{IsPrefix, BeginsWith, Used}
use Rattle.caf_sched.specs.Seat.{new_seat}
use Rattle.caf_sched.specs.Work.{IsServed, AreServed}
use Rattle.caf_sched.specs.Worker.{IsHired, IsPart, Worked, hands_of, parts_of}

pub prefix_longer : (xs ys zs more : List ℕ) → IsPrefix xs ys → zs ≡ ys ++ more → IsPrefix xs zs
prefix_longer xs ys zs more p e = (p.0 ++ more, sym (append_assoc xs p.0 more) ∙ ap (λ l. l ++ more) p.1 ∙ sym e)

-- what each item of a list meets, the item that stands at a number does
pub all_at : {A : Type 0} (F : A → Type 0) (xs : List A) (i : ℕ) (a : A) → All F xs → get_elem? xs i ≡ some a → F a
all_at F [] i a h e = absurd (some-ne-none a (sym e))
all_at F (x ∷ xs) zero a h e = subst F (some-injective x a e) (h 0 x (omega arith))
all_at F (x ∷ xs) (suc i) a h e = all_at F xs i a (λ k d l. h (suc k) d (omega arith)) e

-- a body with the opening marks of one that is served is served
pub served_body : {T M : Type 0} (has : T → M → Type 0) (entries : Table → M → Type 0) (table : Table) (opening : List T) (i : ℕ) (body : T)
    → AreServed has entries table opening → Opens has opening i body → IsServed has entries table body
served_body has entries table opening i body h o = let s = all_at (IsServed has entries table) opening i o.0 h o.1 in (s.0, o.2 s.0 s.1, s.2)

pub all_zip : {A B : Type 0} (R : A → B → Type 0) (xs : List A) (ys : List B) → length ys ≡ length xs → ((i : ℕ) (d : A) (e : B) → i < length xs → R (slice_index_or xs i d) (slice_index_or ys i e)) → AllZip R xs ys
all_zip R [] [] l h = tt
all_zip R [] (y ∷ ys) l h = absurd (omega arith)
all_zip R (x ∷ xs) [] l h = absurd (omega arith)
all_zip R (x ∷ xs) (y ∷ ys) l h = (h 0 x y (omega arith), all_zip R xs ys (omega arith) (λ i d e k. h (suc i) d e (omega arith)))

-- each that came back did so well
pub zip_ok : {A B E : Type 0} (R : A → B → Type 0) (xs : List A) (ys : List B) (rs : List (Result B E)) → map Ok ys ≡ rs → AllZip (λ x r. IfOk r (R x)) xs rs → AllZip R xs ys
zip_ok {A} {B} {E} R xs ys rs e z = go xs ys (subst (λ (l : List (Result B E)). AllZip (λ x r. IfOk r (R x)) xs l) (sym e) z)
  where
    go : (xs : List A) (ys : List B) → AllZip (λ x (r : Result B E). IfOk r (R x)) xs (map Ok ys) → AllZip R xs ys
    go [] [] z = tt
    go [] (y ∷ ys) z = absurd z
    go (x ∷ xs) [] z = absurd z
    go (x ∷ xs) (y ∷ ys) z = (z.0, go xs ys z.1)

all_cons : {A : Type 0} (F : A → Type 0) (x : A) (xs : List A) → F x → All F xs → All F (x ∷ xs)
all_cons F x xs a h zero d l = a
all_cons F x xs a h (suc k) d l = h k d (omega arith)

all_end : {A : Type 0} (F : A → Type 0) (xs : List A) (x : A) → All F xs → F x → All F (xs ++ x ∷ [])
all_end F xs x h a = All-append F xs (x ∷ []) h (all_cons F x [] a (λ k d l. absurd (omega arith)))

module _ {T M : Type 0} (has : T → M → Type 0) (entries : Table → M → Type 0) (table : Table) where
  -- workers with new seats may begin
  pub may_begin : (t : TableId) (opening : List T) (ws : List (Worker T)) → AreServed has entries table opening → All (λ w. w.seat ≡ new_seat t opening) ws → All (λ w. IsHired has entries table t w) ws
  may_begin t opening ws s h = λ k d l. let e = h k d l in ((ap (λ x. x.table) e, ap (λ x. x.out) e), ap (λ x. x.steps) e, subst (λ x. AreServed has entries table x.opening) (sym e) s)

module _ {T : Type 0} where
  came_length : (ws back : List (Worker T)) → AllZip Worked ws back → length back ≡ length ws
  came_length [] [] z = refl
  came_length [] (y ∷ ys) z = absurd z
  came_length (x ∷ xs) [] z = absurd z
  came_length (x ∷ xs) (y ∷ ys) z = let e = came_length xs ys z.1 in omega arith

  pub came_seats : (t : TableId) (opening : List T) (ws back : List (Worker T)) → All (λ w. w.seat ≡ new_seat t opening) ws → AllZip Worked ws back → All (λ w. IsPart t w.seat) back
  came_seats t opening [] [] a z = λ k d l. absurd (omega arith)
  came_seats t opening [] (y ∷ ys) a z = absurd z
  came_seats t opening (x ∷ xs) [] a z = absurd z
  came_seats t opening (x ∷ xs) (y ∷ ys) a z =
      let p = a 0 x (omega arith) in let s = z.0.0 in
      all_cons (λ w. IsPart t w.seat) y ys (s.0 ∙ ap (λ x. x.table) p, s.2 ∙ ap (λ x. x.out) p, s.3 ∙ ap (λ x. x.parts) p) (came_seats t opening xs ys (λ k d l. a (suc k) d (omega arith)) z.1)

  came_first : (tickets : List ℕ) (ws back : List (Worker T)) → BeginsWith tickets (hands_of ws) → AllZip Worked ws back → BeginsWith tickets (hands_of back)
  came_first tickets [] [] b z = b
  came_first tickets [] (y ∷ ys) b z = absurd z
  came_first tickets (x ∷ xs) [] b z = absurd z
  came_first tickets (x ∷ xs) (y ∷ ys) b z = prefix_longer tickets x.hand.puts y.hand.puts _ b z.0.1

  came_drawn : (ws back : List (Worker T)) → AllZip Worked ws back → All HasDrawn (hands_of back)
  came_drawn [] [] z = λ k d l. absurd (omega arith)
  came_drawn [] (y ∷ ys) z = absurd z
  came_drawn (x ∷ xs) [] z = absurd z
  came_drawn (x ∷ xs) (y ∷ ys) z = all_cons HasDrawn y.hand (hands_of ys) z.0.2 (came_drawn xs ys z.1)

  hands_length : (ws : List (Worker T)) → length (hands_of ws) ≡ length ws
  hands_length [] = refl
  hands_length (w ∷ ws) = let e = hands_length ws in omega arith

  pub came_used : (given back : List HandSeen) (ws done : List (Worker T)) → given ≡ hands_of ws → AllZip Worked ws done → back ≡ hands_of done → Used given back
  came_used given back ws done e z f = rw (e, f) (record {
    count = hands_length done ∙ came_length ws done z ∙ sym (hands_length ws);
    puts = λ tickets b. came_first tickets ws done b z;
    drawn = came_drawn ws done z;
  })

  pub hands_more : (ws : List (Worker T)) (w : Worker T) (hands : List HandSeen) → hands ≡ hands_of ws → hands ++ w.hand ∷ [] ≡ hands_of (ws ++ w ∷ [])
  hands_more ws w hands e = ap (λ l. l ++ w.hand ∷ []) e ∙ sym (map-append (λ v. v.hand) ws (w ∷ []))

  -- one hand and one worker more
  pub worker_more : (t : TableId) (opening : List T) (ws ws' : List (Worker T)) (hands : List HandSeen) (w : Worker T) → ws' ≡ ws ++ w ∷ [] → length ws ≡ length hands → All (λ v. v.seat ≡ new_seat t opening) ws → hands ≡ hands_of ws → w.seat ≡ new_seat t opening
      → (length ws' ≡ length (hands ++ w.hand ∷ [])) × All (λ v. v.seat ≡ new_seat t opening) ws' × (hands ++ w.hand ∷ [] ≡ hands_of ws')
  worker_more t opening ws ws' hands w e l a h p = rw e (
    rw (length-append ws (w ∷ []), length-append hands (w.hand ∷ []), l) refl,
    all_end (λ v. v.seat ≡ new_seat t opening) ws w a p,
    hands_more ws w hands h,
  )

  parts_append : (xs ys : List (Worker T)) → parts_of (xs ++ ys) ≡ parts_of xs + parts_of ys
  parts_append [] ys = omega arith
  parts_append (x ∷ xs) ys = let e = parts_append xs ys in omega arith

  pub parts_joined : (p p' r : ℕ) (ws : List (Worker T)) (w : Worker T) → p' ≡ p + w.seat.parts → p ≡ r + parts_of ws → p' ≡ r + parts_of (ws ++ w ∷ [])
  parts_joined p p' r ws w e f = let g = parts_append ws (w ∷ []) in omega arith

  parts_all : (t : TableId) (ws : List (Worker T)) → All (λ w. IsPart t w.seat) ws → parts_of ws ≡ length ws
  parts_all t [] a = refl
  parts_all t (w ∷ ws) a = let e = parts_all t ws (λ k d l. a (suc k) d (omega arith)) in let p = (a 0 w (omega arith)).2 in omega arith

  pub parts_back : (t : TableId) (opening : List T) (p q : ℕ) (ws back : List (Worker T)) → All (λ w. w.seat ≡ new_seat t opening) ws → AllZip Worked ws back → length ws + p ≡ all_parts → q ≡ p + parts_of back → q ≡ all_parts
  parts_back t opening p q ws back a z e f = let g = parts_all t back (came_seats t opening ws back a z) in let h = came_length ws back z in omega arith

-- one part or one split less, one hand more
pub one_less : {A : Type 0} (p p' n : ℕ) (xs : List A) (x : A) → p' ≡ p - 1 → p ≡ n - length xs → p' ≡ n - length (xs ++ x ∷ [])
one_less p p' n xs x e f = let g = length-append xs (x ∷ []) in omega arith
