-- Reading values one after the other, as a loop does: of whatever input, with whatever fault.
use Rattle.std.proofs.Common.{◌≡◌, ℕ, suc, ◌-◌, ◌+◌, ◌<◌, List, [], ◌∷◌, ◌++◌, Ok, Err, refl, sym, ap, ◌∙◌, arith}
use Rattle.caf_words.specs.Datum.{Datum, Data, more, front_of, data_of}
use Rattle.caf_words.specs.Reading.{Reads, Got, ◌>>=◌, then_more, many}
use Rattle.caf_words.specs.Answer.{Fails}
use Rattle.caf_words.specs.declared.stop.Stop.{Stop}
use Rattle.caf_words.specs.declared.stop.Stop.TheVariants as stops

pub front_more : (front : List Datum) (d : Datum) (ds : Data) → front_of (front ++ d ∷ []) ds ≡ front_of front (more d ds)
front_more [] d ds = refl
front_more (e ∷ front) d ds = ap (more e) (front_more front d ds)

-- what was read before, and what is still read
abbrev pub with_front : {R E : Type 0} → List Datum → Reads R E Data → Reads R E Data
with_front front read = read >>= λ x. Ok (front_of front x.0, x.1)

regroup : {R E : Type 0} (front : List Datum) (d : Datum) (read : Reads R E Data) → with_front front (read >>= λ y. Ok (more d y.0, y.1)) ≡ with_front (front ++ d ∷ []) read
regroup front d (Ok y) = ap (λ ds. Ok (ds, y.1)) (sym (front_more front d y.0))
regroup front d (Err e) = refl

-- one value was read
pub goes_on : {R E : Type 0} (front : List Datum) (one : Reads R E Datum) (others : R → Reads R E Data) (d : Datum) (rest : R) (total : Reads R E Data)
    → one ≡ Ok (d, rest) → with_front front (then_more one others) ≡ total → with_front (front ++ d ∷ []) (others rest) ≡ total
goes_on front one others d rest total e so_far = sym (regroup front d (others rest)) ∙ (rw e at so_far)

-- a fault was met
pub faults : {R E : Type 0} (fault : E) (front : List Datum) (one : Reads R E Datum) (others : R → Reads R E Data) (total : Reads R E Data)
    → one ≡ Err fault → with_front front (then_more one others) ≡ total → total ≡ Err fault
faults fault front one others total h so_far = sym so_far ∙ rw h refl

-- all were read
pub is_done : {R E : Type 0} (front : List Datum) (rest : R) (read total : Reads R E Data) → read ≡ Ok (data_of [], rest) → with_front front read ≡ total → total ≡ Ok (data_of front, rest)
is_done front rest read total e so_far = sym so_far ∙ rw e refl

pub many_more : {R E : Type 0} (read : R → Reads R E Datum) (count i : ℕ) (r : R) → i < count → many read (count - i) r ≡ then_more (read r) (many read (count - (i + 1)))
many_more read count i r lt =
    let k : count - i ≡ suc (count - (i + 1)) = omega arith in
    rw k refl

-- the code's reader stopped
pub ends : (e : Stop) (front : List Datum) (one : Got Datum) (others : List ℕ → Got Data) (total : Got Data)
    → Fails e one → with_front front (then_more one others) ≡ total → Fails e total
ends stops.Memory front one others total h so_far = tt
ends (stops.Left n) front one others total h so_far = faults n front one others total h so_far
