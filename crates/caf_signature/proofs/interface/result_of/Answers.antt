use Rattle.std.proofs.Common.{◌≡◌, Some, None, Contains, find, refl, subst, rules}
use Rattle.caf_signature.specs.declared.interface.Signature.{Signature}
use Rattle.caf_signature.specs.Interface.{takes}
use Rattle.caf_signature.proofs.InterfaceLemmas.{find_some, find_input, is_none-find}
use Rattle.caf_signature.proofs.interface.result_of.Goals as goal

pub returns-in-Some-clause-none : goal.returns-in-Some-clause-none
returns-in-Some-clause-none c =
    let found : find (takes c.args.types.now) c.args.interface.now ≡ Some c.in-Some.signature.now = search rules in
    (λ e _. cc, λ absent. absurd (absent (find_input _ _ _ found)))

pub returns-in-Some-clause-some : goal.returns-in-Some-clause-some
returns-in-Some-clause-some c =
    let found : find (takes c.args.types.now) c.args.interface.now ≡ Some c.in-Some.signature.now = search rules in
    let parts = find_some c.args.types.now c.args.interface.now c.in-Some.signature.now found in
    let same : ◌≡◌ {A = Signature} c.in-Some.signature.now (record { input = c.args.types.now; result = c.in-Some.signature.now.result }) =
    λ i. record { input = parts.0 i; result = c.in-Some.signature.now.result } in
    subst (λ (s : Signature). Contains c.args.interface.now s) same parts.1

pub returns-in-None-clause-none : goal.returns-in-None-clause-none
returns-in-None-clause-none c =
    let none : find (takes c.args.types.now) c.args.interface.now ≡ None = search rules in
    (λ _. is_none-find _ _ none, λ _. refl)
