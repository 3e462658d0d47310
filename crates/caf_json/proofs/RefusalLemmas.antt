-- What a reader answered, by the form of the value.
use Rattle.std.proofs.Common.{◌≡◌, true, Result, Ok, Err, IfOk, IfErr}
use Rattle.serde_json.specs.Data.{Data as Json}
use Rattle.caf_types.specs.ShapeTree.{ShapeTree}
use Rattle.caf_words.specs.Datum.{fits}
use Rattle.caf_words.specs.Value.{datum}
use Rattle.caf_words.specs.declared.value.Value.{Value}
use Rattle.caf_events.specs.LoadAnswer.{Refused}
use Rattle.caf_events.specs.declared.fault.LoadFault.{LoadFault}
use Rattle.caf_events.specs.declared.fault.LoadFault.TheVariants as faults
use Rattle.caf_events.proofs.OfShapeLemmas.{is_fitting}
use Rattle.caf_json.specs.Answer.{Gives, Fails}
use Rattle.caf_json.specs.Form.{HasJson}
use Rattle.caf_json.specs.Reading.{unjson}
use Rattle.caf_json.proofs.FormLemmas.{no_form, has_json, json_is_of}

refused : (f : ShapeTree) (j : Json) (fault : LoadFault) → Fails fault (unjson f j) → Refused (λ d. HasJson f d j) (λ path. unjson f j ≡ Err path) fault
refused f j faults.Memory h = tt
refused f j (faults.Unfit path) h = (h, no_form f j path h)

pub given_form : (f : ShapeTree) (j : Json) (r : Result Value LoadFault) → Gives (λ v. datum v) r (unjson f j) → IfOk r (λ v. HasJson f (datum v) j)
given_form f j (Ok v) h = has_json f j (datum v) h
given_form f j (Err fault) h = tt

pub given_fitting : (f : ShapeTree) (j : Json) (r : Result Value LoadFault) → Gives (λ v. datum v) r (unjson f j) → IfOk r (λ v. fits f (datum v) ≡ true)
given_fitting f j (Ok v) h = is_fitting f (datum v) (json_is_of f (datum v) j (has_json f j (datum v) h))
given_fitting f j (Err fault) h = tt

pub given_refused : (f : ShapeTree) (j : Json) (r : Result Value LoadFault) → Gives (λ v. datum v) r (unjson f j) → IfErr r (Refused (λ d. HasJson f d j) (λ path. unjson f j ≡ Err path))
given_refused f j (Ok v) h = tt
given_refused f j (Err fault) h = refused f j fault h
