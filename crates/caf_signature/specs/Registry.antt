-- Registries: finite maps from names to what stands under them.
use Rattle.std.specs.Prelude.{ℕ, List, map, refl}
use Rattle.std.specs.Ordering.{nat_cmp}
use Rattle.std.specs.Cmp.Lexicographic.{slice_cmp}
use Rattle.std.specs.FinMap as finite
use Rattle.std.specs.Coded.{Coded, code_by, coded×, coded_list, coded_ℕ}
use Rattle.std.specs.String.{string_bytes}
use Rattle.std.specs.declared.string.String.{String}
use Rattle.caf_types.specs.declared.shape.TypeId.{TypeId}
use Rattle.caf_signature.specs.declared.interface.Signature.{Signature}

-- a place and its interface
abbrev pub Registered : Type 0
Registered = ℕ × List Signature

-- by the bytes of the name
abbrev pub Registrations : Type 0
Registrations = finite.FinMap (slice_cmp nat_cmp) Registered

abbrev pub type_id_code : Coded TypeId
type_id_code = code_by ℕ coded_ℕ (λ t. t.0) (λ n. record { 0 = n }) (λ _. refl)

abbrev pub signature_code : Coded Signature
signature_code =
    code_by (List TypeId × List TypeId) (coded× (coded_list type_id_code) (coded_list type_id_code))
    (λ s. (s.input, s.result)) (λ p. record { input = p.0; result = p.1 }) (λ _. refl)

abbrev pub registrations_code : Coded Registrations
registrations_code = finite.code (coded_list coded_ℕ) (coded× coded_ℕ (coded_list signature_code))

-- the map of a tree's entries
abbrev pub registrations : {Y : Type 0} → List (String Y × Registered) → Registrations
registrations entries = finite.from_entries (map (λ e. (string_bytes e.0, e.1)) entries)
