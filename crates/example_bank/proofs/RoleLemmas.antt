-- A member is its fields: that its interface is the bank's is said in one way.
use Rattle.std.proofs.Common.{◌≡◌, ap}
use Rattle.std.specs.Coded.{coded_list, Coded-set}
use Rattle.caf_signature.specs.Registry.{signature_code}
use Rattle.example_bank.specs.Types.{bank_interface}
use Rattle.example_bank.specs.declared.member.Role.{Role}
use Rattle.example_bank.specs.declared.member.Member.{Member}

pub with_role : (m : Member) (r : Role) (said : m.interface ≡ bank_interface) → ◌≡◌ {A = Member} (record { place = m.place; interface = m.interface; reserve = m.reserve; role = r; takes = said }) (record m { role = r })
with_role m r said = ap (λ (p : m.interface ≡ bank_interface). record { place = m.place; interface = m.interface; reserve = m.reserve; role = r; takes = p }) (Coded-set (coded_list signature_code) m.interface bank_interface said m.takes)
