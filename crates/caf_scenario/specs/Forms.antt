-- The forms of members, and members that must or may be there.
use Rattle.std.specs.Prelude.{ℕ, ◌&&◌, nat_le, bytes_eq, codes, if◌then◌else◌, List, [], ◌∷◌, Option, Some, None, option_and_then, Ok}
use Rattle.std.specs.Option.{option_map}
use Rattle.serde_json.specs.Data.{Data as Json, Items, no_items, item}
use Rattle.serde_json.specs.Find.{get, as_str, as_array, as_number, as_u64}
use Rattle.caf_types.specs.Name.{is_name}
use Rattle.caf_types.specs.Reason.{reason_named}
use Rattle.caf_types.specs.declared.notice.Priority.{Priority}
use Rattle.caf_types.specs.declared.notice.Priority.TheVariants as priority
use Rattle.caf_types.specs.declared.reason.Reason.{Reason}
use Rattle.caf_scenario.specs.declared.forms.Deed.{Deed}
use Rattle.caf_scenario.specs.declared.forms.Deed.TheVariants as deed
use Rattle.caf_scenario.specs.Path.{at_member}
use Rattle.caf_scenario.specs.Read.{Cause, field, Read, or_cause}

-- ---- forms

abbrev pub a_name : List ℕ → Option (List ℕ)
a_name text = if is_name text then Some text else None

abbrev pub name_in : Json → Option (List ℕ)
name_in json = option_and_then a_name (as_str json)

abbrev pub between : ℕ → ℕ → ℕ → Option ℕ
between low high n = if nat_le low n && nat_le n high then Some n else None

-- a whole number from the one to the other
abbrev pub number_in : ℕ → ℕ → Json → Option ℕ
number_in low high json = option_and_then (between low high) (option_and_then as_u64 (as_number json))

abbrev pub priority_named : List ℕ → Option Priority
priority_named text =
    if bytes_eq text (codes "normal") then Some priority.Normal
    else if bytes_eq text (codes "urgent") then Some priority.Urgent
    else None

abbrev pub priority_in : Json → Option Priority
priority_in json = option_and_then priority_named (as_str json)

abbrev pub reason_in : Json → Option Reason
reason_in json = option_and_then reason_named (as_str json)

-- what a step does
abbrev pub deed_named : List ℕ → Option Deed
deed_named text =
    if bytes_eq text (codes "tell") then Some deed.Tell
    else if bytes_eq text (codes "request") then Some deed.Request
    else if bytes_eq text (codes "await") then Some deed.Await
    else if bytes_eq text (codes "exit") then Some deed.Exit
    else if bytes_eq text (codes "sync") then Some deed.Sync
    else if bytes_eq text (codes "tick") then Some deed.Tick
    else None

abbrev pub deed_in : Json → Option Deed
deed_in json = option_and_then deed_named (as_str json)

abbrev pub listed : Items → List Json
listed no_items = []
listed (item j js) = j ∷ listed js

-- the elements of an array
abbrev pub elements_in : Json → Option (List Json)
elements_in json = option_map listed (as_array json)

abbrev pub at_least_one : List Json → Option (List Json)
at_least_one [] = None
at_least_one (j ∷ js) = Some (j ∷ js)

-- the elements of an array that isn't empty
abbrev pub message_in : Json → Option (List Json)
message_in json = option_and_then at_least_one (elements_in json)

-- ---- members

-- a member that must be there
abbrev pub must_have : {A : Type 0} → (Json → Option A) → List ℕ → List ℕ → Json → Read A
must_have form path name json = or_cause (field (at_member path name)) (option_and_then form (get name json))

abbrev pub in_form : {A : Type 0} → (Json → Option A) → A → Cause → Option Json → Read A
in_form form default e None = Ok default
in_form form default e (Some json) = or_cause e (form json)

-- a member that may be left out
abbrev pub may_have : {A : Type 0} → (Json → Option A) → A → List ℕ → List ℕ → Json → Read A
may_have form default path name json = in_form form default (field (at_member path name)) (get name json)
