-- The conductor of the record of three places is a closer.
use Rattle.std.proofs.Common.{◌≡◌, ◌≢◌, ℕ, zero, suc, ◌<◌, ◌++◌, List, [], ◌∷◌, None, Contains, slice_index_or, refl, sym, subst, arith}
use Rattle.caf_actor.specs.PlainInput.{PlainInput, Start, Stop, Content, Response, Failed, Down, Tick}
use Rattle.caf_actor.specs.PlainReaction.{PlainReaction}
use Rattle.caf_actor.specs.Rules.{fed}
use Rattle.caf_actor.specs.Record.{ComesLate, kills, SendsNothingTo, IsCloser}
use Rattle.caf_actor.proofs.ExampleActors.{Role, Conductor, Player, rules, reaction_of}
use Rattle.caf_actor.proofs.RecordExamples.{start}

-- it stays a conductor
role_stays : (is : List PlainInput) (s : Player) → s.role ≡ Conductor 3 → (fed rules s is).role ≡ Conductor 3
role_stays [] s q = q
role_stays (i ∷ is) s q = role_stays is (rules.next s i) (rw q refl)

on_reaction : (P : PlainReaction → Type 0) (is : List PlainInput) (i : PlainInput) → P (reaction_of (Conductor 3) i) → P (rules.reaction (fed rules (start 0).behavior is) i)
on_reaction P is i h = subst (λ (r : Role). P (reaction_of r i)) (sym (role_stays is (start 0).behavior refl)) h

some : (n : ℕ) → suc n ≢ 0
some n q = absurd (omega arith)

sends_to_others : (i : PlainInput) → SendsNothingTo 0 (reaction_of (Conductor 3) i)
sends_to_others Start = record { outputs = ((some 0, tt), ((some 0, tt), tt)); answer = tt }
sends_to_others Stop = record { outputs = ((some 0, tt), ((some 1, tt), tt)); answer = tt }
sends_to_others (Content origin words) = record { outputs = tt; answer = tt }
sends_to_others (Response tag words) = record { outputs = tt; answer = tt }
sends_to_others (Failed tag sec) = record { outputs = tt; answer = tt }
sends_to_others (Down from why) = record { outputs = tt; answer = tt }
sends_to_others Tick = record { outputs = tt; answer = tt }

never_quits : (i : PlainInput) → (reaction_of (Conductor 3) i).quit ≡ None
never_quits Start = refl
never_quits Stop = refl
never_quits (Content origin words) = refl
never_quits (Response tag words) = refl
never_quits (Failed tag sec) = refl
never_quits (Down from why) = refl
never_quits Tick = refl

says_nothing : (i : PlainInput) → ComesLate i → (reaction_of (Conductor 3) i).outputs ≡ []
says_nothing Start h = absurd h
says_nothing Stop h = absurd h
says_nothing (Content origin words) h = absurd h
says_nothing (Response tag words) h = refl
says_nothing (Failed tag sec) h = refl
says_nothing (Down from why) h = refl
says_nothing Tick h = absurd h

not_at : (k : ℕ) → ((k < 1) × (slice_index_or (suc zero ∷ []) k 0 ≡ 0)) → ⊥
not_at zero h = some 0 h.1
not_at (suc k) h = let less = h.0 in absurd (omega arith)

nowhere : (k : ℕ) → k < 0 → ⊥
nowhere k h = absurd (omega arith)

not_named : (p : ℕ) → p < 3 → Contains (rules.peers (start p).behavior ++ rules.reserve (start p).behavior) 0 → ⊥
not_named zero h c = not_at c.0 (c.1, c.2)
not_named (suc zero) h c = nowhere c.0 c.1
not_named (suc (suc zero)) h c = nowhere c.0 c.1
not_named (suc (suc (suc p))) h c = absurd (omega arith)

pub conductor_is_closer : IsCloser rules 3 (λ p. (start p).behavior)
conductor_is_closer = record {
  interface = refl;
  unnamed = not_named;
  alone = λ is i h. on_reaction (SendsNothingTo 0) is i (sends_to_others i);
  stays = λ is i h. on_reaction (λ r. r.quit ≡ None) is i (never_quits i);
  kills = λ is h. on_reaction (λ r. r.outputs ≡ kills 1 2) is Stop refl;
  silent = λ is late i h all now. on_reaction (λ r. r.outputs ≡ []) (is ++ Stop ∷ late) i (says_nothing i now);
}
