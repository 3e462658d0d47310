-- Stamps, and where Stop is.
use Rattle.std.proofs.Common.{◌≡◌, ℕ, suc, ◌+◌, Bool, true, false, cond, List, [], ◌∷◌, ◌++◌, length, Option, Some, None, refl, sym, ap, subst, ◌∙◌, arith}
use Rattle.std.specs.Option.{option_map}
use Rattle.caf_actor.specs.Record.{cut_in}
use Rattle.caf_actor.specs.declared.journal.TakenBatch.{TakenBatch}
use Rattle.caf_message.specs.Outside.{holds_stop}
use Rattle.std.specs.List.{position, position_from}
use Rattle.std.proofs.lemmas.Iterator.Adapters.{position_from-zero}
use Rattle.std.specs.List.{AllByRecursion}
use Rattle.std.proofs.lemmas.List.{length-append}
use Rattle.caf_kinds.specs.ConductorLaws.{all_joined}

pub one_more : (n : ℕ) (front now : List ℕ) → now ≡ front ++ 0 ∷ [] → length front ≡ n → length now ≡ n + 1
one_more n front now pushed long = ap length pushed ∙ length-append front (0 ∷ []) ∙ ap (λ (m : ℕ). m + 1) long

pub zero_behind : (front now : List ℕ) → now ≡ front ++ 0 ∷ [] → AllByRecursion (λ stamp. stamp ≡ 0) front → AllByRecursion (λ stamp. stamp ≡ 0) now
zero_behind front now pushed all =
    subst (AllByRecursion (λ stamp. stamp ≡ 0)) (sym pushed) (all_joined (λ stamp. stamp ≡ 0) front (0 ∷ []) all (refl, tt))

-- ---- where Stop is

raised : (o : Option ℕ) (i : ℕ) → option_map (λ n. (i + 1) + n) o ≡ option_map (λ n. i + n) (option_map (λ n. suc n) o)
raised None i = refl
raised (Some n) i = let same : (i + 1) + n ≡ i + suc n = omega arith in ap (λ (m : ℕ). Some m) same

or_later : (b : Bool) (i : ℕ) (o : Option ℕ) (rest : Option ℕ) → o ≡ option_map (λ n. (i + 1) + n) rest
    → cond b (Some i) o ≡ option_map (λ n. i + n) (cond b (Some 0) (option_map (λ n. suc n) rest))
or_later true i o rest same = let none : i ≡ i + 0 = omega arith in ap (λ (m : ℕ). Some m) none
or_later false i o rest same = same ∙ raised rest i

cut_from : (bs : List TakenBatch) (i : ℕ) → position_from (λ (b : TakenBatch). holds_stop b.taken) i bs ≡ option_map (λ n. i + n) (cut_in bs)
cut_from [] i = refl
cut_from (b ∷ bs) i = or_later (holds_stop b.taken) i (position_from (λ (b : TakenBatch). holds_stop b.taken) (i + 1) bs) (cut_in bs) (cut_from bs (i + 1))

from_0 : (o : Option ℕ) → option_map (λ n. 0 + n) o ≡ o
from_0 None = refl
from_0 (Some n) = let same : 0 + n ≡ n = omega arith in ap (λ (m : ℕ). Some m) same

pub cut_is : (bs : List TakenBatch) → position (λ (b : TakenBatch). holds_stop b.taken) bs ≡ cut_in bs
cut_is bs = position_from-zero (λ (b : TakenBatch). holds_stop b.taken) bs ∙ cut_from bs 0 ∙ from_0 (cut_in bs)
