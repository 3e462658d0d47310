-- What the accesses of a seat tell of its looks and of its announcements.
use Rattle.std.proofs.Common.{◌≡◌, ◌≢◌, ◌⊎◌, ℕ, ◌+◌, ◌≤◌, ◌==◌, Bool, true, false, if◌then◌else◌, List, [], ◌∷◌, ◌++◌, sym, refl, ap, ◌∙◌, subst, inl, inr, ⊎_elim, eq-eqb, ne_eqb, arith, Option, Some, None}
use mathlib.Core.Logic.{dite}
use native.Mathlib.Decide.{ℕ_discrete}
use Rattle.caf_turns.specs.declared.step.Step as events
use Rattle.caf_turns.specs.declared.step.Step.TheVariants.{Announce, Claim, Look, Settle, Free}
use Rattle.caf_turns.specs.Steps.{IsIn, without, announced, known_after, known, last_look, ReadsAtLeast}
use Rattle.caf_turns.specs.Steps as counted

abbrev pub value_of : Option ℕ → ℕ
value_of None = 0
value_of (Some x) = x

pub some_of : (x y : ℕ) → Some x ≡ Some y → x ≡ y
some_of x y e = ap value_of e

pub same_of : (i x : ℕ) → (i == x) ≡ true → i ≡ x
same_of i x q = dite (ℕ_discrete i x) (λ e. e) (λ ne. let f : (i == x) ≡ false = ne_eqb i x ne in cc)

-- ---- the last looks

pub known_append : (i : ℕ) (x : Option ℕ) (es fs : List events.Step) → known i x (es ++ fs) ≡ known i (known i x es) fs
known_append i x [] fs = refl
known_append i x (e ∷ es) fs = known_append i (known_after i x e) es fs

pub pick_or : (b : Bool) (c : Option ℕ) → ((x : Option ℕ) → (if b then c else x) ≡ x) ⊎ ((x y : Option ℕ) → (if b then c else x) ≡ (if b then c else y))
pick_or true c = inr (λ x y. refl)
pick_or false c = inl (λ x. refl)

pub after_or : (i : ℕ) (e : events.Step) → ((x : Option ℕ) → known_after i x e ≡ x) ⊎ ((x y : Option ℕ) → known_after i x e ≡ known_after i y e)
after_or i (Announce j r) = inl (λ x. refl)
after_or i (Claim j r) = pick_or (i == j) None
after_or i (Look j r) = pick_or (i == j) (Some r)
after_or i (Settle j k r) = pick_or (i == j) None
after_or i (Free j) = pick_or (i == j) None

-- more steps leave what was known, or tell by themselves
pub known_or : (i : ℕ) (es : List events.Step) (x : Option ℕ) → (known i x es ≡ x) ⊎ (known i x es ≡ last_look i es)
known_or i [] x = inl refl
known_or i (e ∷ es) x = ⊎_elim
    (λ (same : (y : Option ℕ) → known_after i y e ≡ y). subst (λ (p : Option ℕ × Option ℕ). (known i p.0 es ≡ x) ⊎ (known i p.0 es ≡ known i p.1 es)) (λ k. (sym (same x) k, sym (same None) k)) (known_or i es x))
    (λ (any : (y z : Option ℕ) → known_after i y e ≡ known_after i z e). inr (ap (λ z. known i z es) (any x None)))
    (after_or i e)

abbrev pub Forgets : ℕ → events.Step → Type 0
Forgets i e = (k : ℕ) (x : Option ℕ) (r : ℕ) → known_after k x e ≡ Some r → (k ≢ i) × (x ≡ Some r)

pub forgets : (i k : ℕ) (x : Option ℕ) (r : ℕ) (b : Bool) → (k == i) ≡ b → (if b then None else x) ≡ Some r → (k ≢ i) × (x ≡ Some r)
forgets i k x r true q e = absurd (let z : None ≡ Some r = e in cc)
forgets i k x r false q e = ((λ same. let t : (k == i) ≡ true = eq-eqb k i same in cc), e)

pub by_claim : (i read : ℕ) → Forgets i (Claim i read)
by_claim i read k x r e = forgets i k x r (k == i) refl e

pub by_settle : (i n read : ℕ) → Forgets i (Settle i n read)
by_settle i n read k x r e = forgets i k x r (k == i) refl e

pub by_free : (i : ℕ) → Forgets i (Free i)
by_free i k x r e = forgets i k x r (k == i) refl e

pub old_look : (i : ℕ) (e : events.Step) → Forgets i e → (es : List events.Step) (k r : ℕ) → last_look k (es ++ e ∷ []) ≡ Some r → (k ≢ i) × (last_look k es ≡ Some r)
old_look i e f es k r q = f k (last_look k es) r (sym (known_append k None es (e ∷ [])) ∙ q)

pub look_is : (i read : ℕ) (es : List events.Step) (k r : ℕ) → last_look k (es ++ Look i read ∷ []) ≡ Some r → ((k ≡ i) × (read ≡ r)) ⊎ (last_look k es ≡ Some r)
look_is i read es k r q = go (k == i) refl (sym (known_append k None es (Look i read ∷ [])) ∙ q)
  where
    go : (b : Bool) → (k == i) ≡ b → (if b then Some read else last_look k es) ≡ Some r → ((k ≡ i) × (read ≡ r)) ⊎ (last_look k es ≡ Some r)
    go true q e = inl (same_of k i q, some_of read r e)
    go false q e = inr e

pub looked : (i read : ℕ) (es : List events.Step) → last_look i (es ++ Look i read ∷ []) ≡ Some read
looked i read es = let q : (i == i) ≡ true = eq-eqb i i refl in known_append i None es (Look i read ∷ []) ∙ rw q refl

pub reads : (k : ℕ) (o : Option ℕ) → ReadsAtLeast k o → (r : ℕ) × (o ≡ Some r) × (k ≤ r)
reads k None h = absurd h
reads k (Some r) h = (r, refl, h)

pub announced_append : (es fs : List events.Step) → announced (es ++ fs) ≡ announced es + announced fs
announced_append [] fs = omega arith
announced_append (e ∷ es) fs = let h = announced_append es fs in omega arith

pub announced_end : (es : List events.Step) (e : events.Step) → announced (es ++ e ∷ []) ≡ announced es + counted.announces e
announced_end [] e = omega arith
announced_end (x ∷ es) e = let h = announced_end es e in omega arith

pub quiet_end : (es : List events.Step) (e : events.Step) → counted.announces e ≡ 0 → announced (es ++ e ∷ []) ≡ announced es
quiet_end es e zero_of = let a = announced_end es e in omega arith
