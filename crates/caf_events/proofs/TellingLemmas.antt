-- Telling events one after the other.
use Rattle.std.proofs.Common.{List, [], ◌∷◌, ◌++◌, subst, sym, append_assoc}
use Rattle.std.proofs.lemmas.List.{append-nil}
use Rattle.caf_events.specs.Event.{Event}
use Rattle.caf_events.specs.Tells.{Tells}

module _ {S : Type 0} {told : S → List Event → Type 0} where
  pub tells_append : {a b c : S} {xs ys : List Event} → Tells told a b xs → Tells told b c ys → Tells told a c (xs ++ ys)
  tells_append {xs = xs} {ys = ys} p q = record { after = λ es h. subst (told _) (append_assoc es xs ys) (q.after (es ++ xs) (p.after es h)) }

  pub tells_cons : {a b c : S} {e : Event} {ys : List Event} → Tells told a b (e ∷ []) → Tells told b c ys → Tells told a c (e ∷ ys)
  tells_cons p q = tells_append p q

  pub tells_none : {a : S} → Tells told a a []
  tells_none = record { after = λ es h. subst (told _) (sym (append-nil es)) h }
