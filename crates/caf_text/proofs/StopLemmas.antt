-- How far a reader goes: what it read, and that what is left decides nothing but its first byte.
use Rattle.std.proofs.Common.{◌≡◌, ℕ, eqb, eqb-true, Bool, true, false, List, [], ◌∷◌, ◌++◌, length, get_or, drop, Option, Some, None, Ok, Err, IsUtf8, refl, sym, ap, subst, ◌∙◌, append_assoc}
use Rattle.std.proofs.lemmas.List.{append-nil}
use Rattle.caf_words.specs.Reading.{Got, ◌>>=◌}
use Rattle.caf_text.specs.TextReading.{literal, choice}

-- what a reader answers, with these bytes left
abbrev pub ends : {A : Type 0} → Option A → List ℕ → Got A
ends (Some a) back = Ok (a, back)
ends None back = Err (length back)

-- the bytes that were read are the text of what was read, or the front of some text
abbrev pub Good : {A : Type 0} → (A → Type 0) → (A → List ℕ) → Option A → List ℕ → Type 0
Good V T (Some a) front = V a × (front ≡ T a)
Good {A} V T None front = (a : A) × (more : List ℕ) × V a × (front ++ more ≡ T a)

pub record StopsAt {A : Type 0} (V : A → Type 0) (T : A → List ℕ) (read : List ℕ → Got A) (cs : List ℕ) (o : Option A) (front back : List ℕ) : Type 0 where
  pub parts : cs ≡ front ++ back
  pub is : read cs ≡ ends o back
  -- whatever stands behind the first byte that is left
  pub local : (c : ℕ) (r s : List ℕ) → back ≡ c ∷ r → read (front ++ c ∷ s) ≡ ends o (c ∷ s)
  pub good : (before : List ℕ) → IsUtf8 (before ++ cs) → Good V T o front

abbrev pub Stops : {A : Type 0} → (A → Type 0) → (A → List ℕ) → (List ℕ → Got A) → List ℕ → Type 0
Stops {A} V T read cs = (o : Option A) × (front : List ℕ) × (back : List ℕ) × StopsAt V T read cs o front back

pub heads : {c d : ℕ} {xs ys : List ℕ} → (c ∷ xs) ≡ (d ∷ ys) → c ≡ d
heads e = ap (λ zs. get_or zs 0 0) e

pub tails : {c d : ℕ} {xs ys : List ℕ} → (c ∷ xs) ≡ (d ∷ ys) → xs ≡ ys
tails e = ap (drop 1) e

pub no_cons : {c : ℕ} {xs : List ℕ} → [] ≡ (c ∷ xs) → ⊥
no_cons e = absurd cc

-- the input before a part of it and the part
pub shifted : (before front back : List ℕ) (cs : List ℕ) → cs ≡ front ++ back → IsUtf8 (before ++ cs) → IsUtf8 ((before ++ front) ++ back)
shifted before front back cs e u = subst IsUtf8 (ap (λ xs. before ++ xs) e ∙ sym (append_assoc before front back)) u

-- ---- a reader that takes nothing

pub pure_stops : {A : Type 0} (V : A → Type 0) (a : A) (cs : List ℕ) → V a → Stops V (λ x. []) (λ xs. Ok (a, xs)) cs
pure_stops V a cs v = (Some a, [], cs, record { parts = refl; is = refl; local = λ c r s e. refl; good = λ before u. (v, refl) })

-- ---- the first byte

-- nothing is there to read
pub none_to_read : {A : Type 0} (V : A → Type 0) (T : A → List ℕ) (read : List ℕ → Got A) → read [] ≡ Err 0 → (a : A) × V a → Stops V T read []
none_to_read V T read e some = (None, [], [], record { parts = refl; is = e; local = λ c r s q. absurd (no_cons q); good = λ before u. (some.0, T some.0, some.1, refl) })

-- no text begins with the first byte
pub halts_first : {A : Type 0} (V : A → Type 0) (T : A → List ℕ) (read : List ℕ → Got A) (c : ℕ) (cs : List ℕ) → ((s : List ℕ) → read (c ∷ s) ≡ Err (length (c ∷ s))) → (a : A) × V a → Stops V T read (c ∷ cs)
halts_first V T read c cs halt some = (
  None,
  [],
  c ∷ cs,
  record {
    parts = refl;
    is = halt cs;
    local = λ d r s e. subst (λ y. read (y ∷ s) ≡ Err (length (y ∷ s))) (heads e) (halt s);
    good = λ before u. (some.0, T some.0, some.1, refl);
  },
)

-- the first byte is taken, and another reader goes on
pub takes_first : {A : Type 0} (V : A → Type 0) (T : A → List ℕ) (rest : List ℕ → Got A) (V' : A → Type 0) (T' : A → List ℕ) (read : List ℕ → Got A) (c : ℕ)
    → ((s : List ℕ) → read (c ∷ s) ≡ rest s) → ((o : Option A) (front : List ℕ) → Good V T o front → Good V' T' o (c ∷ front)) → (cs : List ℕ) → Stops V T rest cs → Stops V' T' read (c ∷ cs)
takes_first V T rest V' T' read c first longer cs p = (
  p.0,
  c ∷ p.1,
  p.2,
  record {
    parts = ap (λ ys. c ∷ ys) p.3.parts;
    is = first cs ∙ p.3.is;
    local = λ d r s e. first (p.1 ++ d ∷ s) ∙ p.3.local d r s e;
    good = λ before u. longer p.0 p.1 (p.3.good (before ++ c ∷ []) (shifted before (c ∷ []) cs (c ∷ cs) refl u));
  },
)

-- ---- literals

pub literal_stops : (xs cs : List ℕ) → Stops (λ u. Unit {0}) (λ u. xs) (literal xs) cs
literal_stops [] cs = pure_stops (λ u. Unit {0}) tt cs tt
literal_stops (x ∷ xs) [] = none_to_read (λ u. Unit {0}) (λ u. x ∷ xs) (literal (x ∷ xs)) refl (tt, tt)
literal_stops (x ∷ xs) (c ∷ cs) = go (eqb x c) refl (literal_stops xs cs)
  where
    longer : x ≡ c → (o : Option (Unit {0})) (front : List ℕ) → Good (λ u. Unit {0}) (λ u. xs) o front → Good (λ u. Unit {0}) (λ u. x ∷ xs) o (c ∷ front)
    longer e (Some u) front g = (tt, ap (λ y. y ∷ front) (sym e) ∙ ap (λ ys. x ∷ ys) g.1)
    longer e None front g = (tt, g.1, tt, ap (λ y. y ∷ (front ++ g.1)) (sym e) ∙ ap (λ ys. x ∷ ys) g.3)

    go : (b : Bool) → eqb x c ≡ b → Stops (λ u. Unit {0}) (λ u. xs) (literal xs) cs → Stops (λ u. Unit {0}) (λ u. x ∷ xs) (literal (x ∷ xs)) (c ∷ cs)
    go true q p = takes_first (λ u. Unit {0}) (λ u. xs) (literal xs) (λ u. Unit {0}) (λ u. x ∷ xs) (literal (x ∷ xs)) c (λ s. rw q refl) (longer (eqb-true _ _ q)) cs p
    go false q p = halts_first (λ u. Unit {0}) (λ u. x ∷ xs) (literal (x ∷ xs)) c cs (λ s. rw q refl) (tt, tt)

-- ---- one reader after another

module _ {A B : Type 0} (V : A → Type 0) (T : A → List ℕ) (read : List ℕ → Got A) (next : A → List ℕ → Got B) (W : A → B → Type 0) (U : A → B → List ℕ) (V' : B → Type 0) (T' : B → List ℕ)
    (both : (a : A) (b : B) → V a → W a b → V' b × (T' b ≡ T a ++ U a b))
    (some : (a : A) → V a → (b : B) × W a b) where
  abbrev joint : List ℕ → Got B
  joint cs = read cs >>= λ x. next x.0 x.1

  good_both : (a : A) (o : Option B) (f g : List ℕ) → V a × (f ≡ T a) → Good (W a) (U a) o g → Good V' T' o (f ++ g)
  good_both a (Some b) f g p q = let h = both a b p.0 q.0 in (h.0, ap (λ xs. xs ++ g) p.1 ∙ ap (λ xs. T a ++ xs) q.1 ∙ sym h.1)
  good_both a None f g p q = let h = both a q.0 p.0 q.2 in (q.0, q.1, h.0, append_assoc f g q.1 ∙ ap (λ xs. xs ++ (g ++ q.1)) p.1 ∙ ap (λ xs. T a ++ xs) q.3 ∙ sym h.1)

  -- the first reader, where the second goes over `front` from what the first left
  first_local : (cs : List ℕ) (a : A) (f rest : List ℕ) → StopsAt V T read cs (Some a) f rest → (front back : List ℕ) → rest ≡ front ++ back → (c : ℕ) (r s : List ℕ) → back ≡ c ∷ r → read ((f ++ front) ++ c ∷ s) ≡ Ok (a, front ++ c ∷ s)
  first_local cs a f rest p [] back e c r s q = ap (λ xs. read (xs ++ c ∷ s)) (append-nil f) ∙ p.local c r s (e ∙ q)
  first_local cs a f rest p (x ∷ front) back e c r s q = ap read (append_assoc f (x ∷ front) (c ∷ s)) ∙ p.local x (front ++ back) (front ++ c ∷ s) e

  after : (cs : List ℕ) (a : A) (f rest : List ℕ) → StopsAt V T read cs (Some a) f rest → (o : Option B) (front back : List ℕ) → StopsAt (W a) (U a) (next a) rest o front back → StopsAt V' T' joint cs o (f ++ front) back
  after cs a f rest p o front back q = record {
    parts = p.parts ∙ ap (λ xs. f ++ xs) q.parts ∙ sym (append_assoc f front back);
    is = ap (λ y. y >>= λ x. next x.0 x.1) p.is ∙ q.is;
    local = λ c r s e. ap (λ y. y >>= λ x. next x.0 x.1) (first_local cs a f rest p front back q.parts c r s e) ∙ q.local c r s e;
    good = λ before u. good_both a o f front (p.good before u) (q.good (before ++ f) (shifted before f rest cs p.parts u));
  }

  short : (cs front back : List ℕ) → StopsAt V T read cs None front back → StopsAt V' T' joint cs None front back
  short cs front back p = record {
    parts = p.parts;
    is = ap (λ y. y >>= λ x. next x.0 x.1) p.is;
    local = λ c r s e. ap (λ y. y >>= λ x. next x.0 x.1) (p.local c r s e);
    good = λ before u.
        let g = p.good before u in
        let w = some g.0 g.2 in
        let h = both g.0 w.0 g.2 w.1 in
        (w.0, g.1 ++ U g.0 w.0, h.0, sym (append_assoc front g.1 (U g.0 w.0)) ∙ ap (λ xs. xs ++ U g.0 w.0) g.3 ∙ sym h.1);
  }

  pub then_stops : (cs : List ℕ) (p : Stops V T read cs) → ((a : A) → read cs ≡ Ok (a, p.2) → Stops (W a) (U a) (next a) p.2) → Stops V' T' joint cs
  then_stops cs p nexts = go p.0 p.3
    where
      go : (o : Option A) → StopsAt V T read cs o p.1 p.2 → Stops V' T' joint cs
      go None q = (None, p.1, p.2, short cs p.1 p.2 q)
      go (Some a) q = let n = nexts a q.is in (n.0, p.1 ++ n.1, n.2, after cs a p.1 p.2 q n.0 n.1 n.2 n.3)

-- ---- what was read, made into something else

module _ {A B : Type 0} (V : A → Type 0) (T : A → List ℕ) (read : List ℕ → Got A) (make : A → B) (V' : B → Type 0) (T' : B → List ℕ)
    (made : (a : A) → V a → V' (make a) × (T' (make a) ≡ T a)) where
  abbrev makes : List ℕ → Got B
  makes cs = read cs >>= λ x. Ok (make x.0, x.1)

  pub make_stops : (cs : List ℕ) → Stops V T read cs → Stops V' T' makes cs
  make_stops cs p = go p.0 p.3
    where
      go : (o : Option A) → StopsAt V T read cs o p.1 p.2 → Stops V' T' makes cs
      go None q = (
        None,
        p.1,
        p.2,
        record {
          parts = q.parts;
          is = ap (λ y. y >>= λ x. Ok (make x.0, x.1)) q.is;
          local = λ c r s e. ap (λ y. y >>= λ x. Ok (make x.0, x.1)) (q.local c r s e);
          good = λ before u. let g = q.good before u in let m = made g.0 g.2 in (make g.0, g.1, m.0, g.3 ∙ sym m.1);
        },
      )
      go (Some a) q = (
        Some (make a),
        p.1,
        p.2,
        record {
          parts = q.parts;
          is = ap (λ y. y >>= λ x. Ok (make x.0, x.1)) q.is;
          local = λ c r s e. ap (λ y. y >>= λ x. Ok (make x.0, x.1)) (q.local c r s e);
          good = λ before u. let g = q.good before u in let m = made a g.0 in (m.0, g.1 ∙ sym m.1);
        },
      )

-- ---- one reader behind a byte, and another at any other

module _ {A : Type 0} (k : ℕ) (one other : List ℕ → Got A) (V₁ V₂ V : A → Type 0) (T₁ T₂ T : A → List ℕ)
    (ones : (cs : List ℕ) → Stops V₁ T₁ one cs) (others : (cs : List ℕ) → Stops V₂ T₂ other cs)
    (in_one : (a : A) → V₁ a → V a × (T a ≡ k ∷ T₁ a)) (in_other : (a : A) → V₂ a → V a × (T a ≡ T₂ a)) (some : (a : A) × V a) where
  good_one : (c : ℕ) (o : Option A) (front : List ℕ) → c ≡ k → Good V₁ T₁ o front → Good V T o (c ∷ front)
  good_one c (Some a) front e g = let h = in_one a g.0 in (h.0, ap (λ y. y ∷ front) e ∙ ap (λ xs. k ∷ xs) g.1 ∙ sym h.1)
  good_one c None front e g = let h = in_one g.0 g.2 in (g.0, g.1, h.0, ap (λ y. y ∷ (front ++ g.1)) e ∙ ap (λ xs. k ∷ xs) g.3 ∙ sym h.1)

  good_other : (o : Option A) (front : List ℕ) → Good V₂ T₂ o front → Good V T o front
  good_other (Some a) front g = let h = in_other a g.0 in (h.0, g.1 ∙ sym h.1)
  good_other None front g = let h = in_other g.0 g.2 in (g.0, g.1, h.0, g.3 ∙ sym h.1)

  same_first : (c d : ℕ) (cs front back r s : List ℕ) → (c ∷ cs) ≡ front ++ back → back ≡ d ∷ r → (rest : List ℕ) × (front ++ d ∷ s ≡ c ∷ rest)
  same_first c d cs [] back r s e q = (s, ap (λ y. y ∷ s) (sym (heads (e ∙ q))))
  same_first c d cs (x ∷ front) back r s e q = (front ++ d ∷ s, ap (λ y. y ∷ (front ++ d ∷ s)) (sym (heads e)))

  elsewhere : (c : ℕ) (rest : List ℕ) (xs : List ℕ) → eqb c k ≡ false → xs ≡ c ∷ rest → choice k one other xs ≡ other xs
  elsewhere c rest xs q e = subst (λ ys. choice k one other ys ≡ other ys) (sym e) (rw q refl)

  pub choice_stops : (cs : List ℕ) → Stops V T (choice k one other) cs
  choice_stops [] = none_to_read V T (choice k one other) refl some
  choice_stops (c ∷ cs) = go (eqb c k) refl (ones cs) (others (c ∷ cs))
    where
      go : (b : Bool) → eqb c k ≡ b → Stops V₁ T₁ one cs → Stops V₂ T₂ other (c ∷ cs) → Stops V T (choice k one other) (c ∷ cs)
      go true q p o = takes_first V₁ T₁ one V T (choice k one other) c (λ s. rw q refl) (λ o front g. good_one c o front (eqb-true _ _ q) g) cs p
      go false q p o = (
        o.0,
        o.1,
        o.2,
        record {
          parts = o.3.parts;
          is = rw q o.3.is;
          local = λ d r s e. let h = same_first c d cs o.1 o.2 r s o.3.parts e in elsewhere c h.0 (o.1 ++ d ∷ s) q h.1 ∙ o.3.local d r s e;
          good = λ before u. good_other o.0 o.1 (o.3.good before u);
        },
      )

-- ---- the same reader, or the same text, said otherwise

pub same_stops : {A : Type 0} (V : A → Type 0) (T : A → List ℕ) (read other : List ℕ → Got A) → ((xs : List ℕ) → other xs ≡ read xs) → (cs : List ℕ) → Stops V T read cs → Stops V T other cs
same_stops V T read other same cs p = (
  p.0,
  p.1,
  p.2,
  record {
    parts = p.3.parts;
    is = same cs ∙ p.3.is;
    local = λ c r s e. same (p.1 ++ c ∷ s) ∙ p.3.local c r s e;
    good = p.3.good;
  },
)

module _ {A : Type 0} (V : A → Type 0) (T : A → List ℕ) (V' : A → Type 0) (T' : A → List ℕ) (said : (a : A) → V a → V' a × (T' a ≡ T a)) where
  good_said : (o : Option A) (front : List ℕ) → Good V T o front → Good V' T' o front
  good_said (Some a) front g = let h = said a g.0 in (h.0, g.1 ∙ sym h.1)
  good_said None front g = let h = said g.0 g.2 in (g.0, g.1, h.0, g.3 ∙ sym h.1)

  pub as_stops : (read : List ℕ → Got A) (cs : List ℕ) → Stops V T read cs → Stops V' T' read cs
  as_stops read cs p = (
    p.0,
    p.1,
    p.2,
    record {
      parts = p.3.parts;
      is = p.3.is;
      local = p.3.local;
      good = λ before u. good_said p.0 p.1 (p.3.good before u);
    },
  )

-- a literal, and then something
pub literal_then : {A : Type 0} (xs : List ℕ) (one : List ℕ → Got A) (V : A → Type 0) (T : A → List ℕ) → (a : A) × V a → ((cs : List ℕ) → Stops V T one cs) → (cs : List ℕ) → Stops V (λ a. xs ++ T a) (λ ys. literal xs ys >>= λ x. one x.1) cs
literal_then xs one V T some ones cs =
    then_stops (λ u. Unit {0}) (λ u. xs) (literal xs) (λ u. one) (λ u. V) (λ u. T) V (λ a. xs ++ T a) (λ u a v w. (w, refl)) (λ u v. some) cs (literal_stops xs cs) (λ u e. ones (literal_stops xs cs).2)
