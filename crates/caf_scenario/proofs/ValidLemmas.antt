-- The first fault of some bytes, by how far they were read.
use Rattle.std.proofs.Common.{◌≡◌, ℕ, Bool, true, false, cond, not, List, Option, Some, None, Result, Ok, Err, refl, sym, ap, subst, ◌∙◌}
use Rattle.std.proofs.Math.Path.{fun_ext}
use Rattle.std.specs.Str.{IsUtf8, is_utf8}
use Rattle.std.proofs.lemmas.Str.{IsUtf8-from_is_utf8, is_utf8-from_IsUtf8}
use Rattle.serde_json.specs.Data.{Data as Json}
use Rattle.serde_json.specs.Read.{read}
use Rattle.caf_scenario.specs.declared.fault.ScenarioFault.{ScenarioFault}
use Rattle.caf_scenario.specs.declared.scenario.Scenario.{Scenario}
use Rattle.caf_scenario.specs.Written.{Document}
use Rattle.caf_scenario.specs.DocumentForm.{document_of}
use Rattle.caf_scenario.specs.Many.{is_many}
use Rattle.caf_scenario.specs.Actors.{Finder, actor_named, actors_fault}
use Rattle.caf_scenario.specs.Scenario.{IsSaidBy, IsSaid}
use Rattle.caf_scenario.specs.Valid.{json_of, json_fault, written_fault, found_fault, later_fault, first_fault, IsScenarioOf}
use Rattle.caf_scenario.specs.Read.{Cause, malformed, many, or_cause, or_else, unless, cause_of, HasCause, Fails, Passes}

-- ---- JSON

pub of_text : (bytes : List ℕ) (d : Json) → IsUtf8 bytes → read bytes ≡ Some d → or_cause malformed (json_of bytes) ≡ Ok d
unfolding json_of
of_text bytes d utf8 e =
    ap (λ (b : Bool). or_cause malformed (cond b (read bytes) None)) (is_utf8-from_IsUtf8 bytes utf8) ∙ ap (or_cause malformed) e

pub no_text : (bytes : List ℕ) → (IsUtf8 bytes → read bytes ≡ None) → or_cause malformed (json_of bytes) ≡ Err malformed
unfolding json_of
no_text bytes none = go (is_utf8 bytes) refl
  where
    go : (b : Bool) → is_utf8 bytes ≡ b → or_cause malformed (cond b (read bytes) None) ≡ Err malformed
    go true e = ap (or_cause malformed) (none (IsUtf8-from_is_utf8 bytes e))
    go false e = refl

-- ---- how far

is_none : (o : Option Json) (e : Cause) → or_cause malformed o ≡ Err e → json_fault o ≡ Some e
is_none None e h = let same : malformed ≡ e = cc in ap (λ (c : Cause). Some c) same
is_none (Some j) e h = absurd cc

is_some : (o : Option Json) (j : Json) → or_cause malformed o ≡ Ok j → o ≡ Some j
is_some None j h = absurd cc
is_some (Some i) j h = let same : i ≡ j = cc in ap (λ (x : Json). Some x) same

pub not_json : (bytes : List ℕ) (f : ScenarioFault) → Fails f (or_cause malformed (json_of bytes)) → HasCause f → first_fault bytes ≡ Some (cause_of f)
not_json bytes f h has = is_none (json_of bytes) (cause_of f) (h has)

pub not_in_form : (bytes : List ℕ) (json : Json) (f : ScenarioFault) → or_cause malformed (json_of bytes) ≡ Ok json → Fails f (document_of json)
    → HasCause f → first_fault bytes ≡ Some (cause_of f)
not_in_form bytes json f is h has = ap json_fault (is_some (json_of bytes) json is) ∙ ap written_fault (h has)

pub in_form : (bytes : List ℕ) (json : Json) (d : Document) (r : Result Scenario ScenarioFault) → or_cause malformed (json_of bytes) ≡ Ok json
    → document_of json ≡ Ok d → Passes (IsSaid d) r (later_fault d) → Passes (IsScenarioOf bytes) r (first_fault bytes)
in_form bytes json d (Ok s) is form h = (
  ap json_fault (is_some (json_of bytes) json is) ∙ ap written_fault form ∙ h.0,
  record { json = json; is_json = is_some (json_of bytes) json is; document = d; in_form = form; said = h.1 },
)
in_form bytes json d (Err f) is form h = λ has. ap json_fault (is_some (json_of bytes) json is) ∙ ap written_fault form ∙ h has

-- ---- a document in form

fault_is : (d : Document) → is_many d ≡ false → actors_fault d.actors ≡ None → later_fault d ≡ found_fault (actor_named d.actors) d
fault_is d few none =
    ap (λ (b : Bool). or_else (unless (not b) many) (or_else (actors_fault d.actors) (found_fault (actor_named d.actors) d))) few
    ∙ ap (λ (e : Option Cause). or_else e (found_fault (actor_named d.actors) d)) none

-- peers and targets are looked for under the names of the actors
pub later : (d : Document) (who : Finder) (r : Result Scenario ScenarioFault) → is_many d ≡ false → actors_fault d.actors ≡ None
    → ((name : List ℕ) → who name ≡ actor_named d.actors name) → Passes (IsSaidBy who d) r (found_fault who d) → Passes (IsSaid d) r (later_fault d)
later d who r few none known h =
    let same : who ≡ actor_named d.actors = fun_ext known in
    let found : Passes (IsSaidBy (actor_named d.actors) d) r (found_fault (actor_named d.actors) d) =
    subst (λ (w : Finder). Passes (IsSaidBy w d) r (found_fault w d)) same h in
    subst (λ (e : Option Cause). Passes (IsSaid d) r e) (sym (fault_is d few none)) found
