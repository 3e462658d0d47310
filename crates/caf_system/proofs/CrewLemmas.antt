-- What a crew over bodies asks for, and what it tells.
use Rattle.std.proofs.Common.{◌≡◌, ℕ, zero, suc, List, [], ◌∷◌, slice_get, Some, All, refl, ap, sym, ◌∙◌, subst}
use mathlib.Core.Option.{some, some-injective}
use lib.ListN.{get_elem?}
use Rattle.caf_types.specs.Table.{Table}
use Rattle.caf_message.specs.Entries.{TableEntries, HasEntries}
use Rattle.caf_actor.specs.Rules.{Rules}
use Rattle.caf_turns.specs.Rule.{Opens}
use Rattle.caf_sched.specs.Work.{IsServed}
use Rattle.caf_sched.specs.Crew.{ComeBack}
use Rattle.caf_system.specs.Body.{BodySeen, HasMark, HaveGoneOn}
use Rattle.caf_system.proofs.SendingLemmas.{same_some}
use Rattle.caf_system.proofs.StationLemmas.{goes_nowhere}

at_elem : {A : Type 0} (xs : List A) (i : ℕ) (x : A) → slice_get xs i ≡ Some x → get_elem? xs i ≡ some x
at_elem [] i x e = cc
at_elem (y ∷ ys) zero x e = ap some (same_some y x e)
at_elem (y ∷ ys) (suc i) x e = at_elem ys i x e

module _ {S : Type 0} (rules : Rules S) where
  -- each body is a mark of itself
  pub has_itself : (b : BodySeen S) → HasMark rules b b
  has_itself b = λ whole. (whole, goes_nowhere rules b.station b.station refl refl refl refl)

  pub all_served : (entries : TableEntries) (table : Table) → HasEntries table entries → (bodies : List (BodySeen S))
      → All (IsServed (HasMark rules) (λ t m. HasEntries t entries) table) bodies
  all_served entries table has bodies = λ k d less. (_, has_itself _, has)

  pub have_gone_on : (old new : List (BodySeen S)) → ComeBack (HasMark rules) old new → HaveGoneOn rules old new
  have_gone_on old new h = record {
    count = h.0;
    each = λ p was now then at.
        let o : Opens (HasMark rules) old p now = h.1 p now (at_elem new p now at) in
        let same : o.0 ≡ was = some-injective o.0 was (sym o.1 ∙ at_elem old p was then) in
        subst (λ b. HasMark rules now b) same (o.2 o.0 (has_itself o.0));
  }
