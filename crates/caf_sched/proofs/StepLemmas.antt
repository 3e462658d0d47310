-- The tickets that steps call for, and what they announce, one step more.
use Rattle.std.proofs.Common.{◌≡◌, ℕ, ◌+◌, ◌<◌, ◌==◌, Bool, true, false, nat_lt, zero, suc, List, [], ◌∷◌, ◌++◌, length, take, slice_index, if◌then◌else◌, refl, ap, sym, ◌∙◌, append_assoc, append-nil, arith}
use Rattle.std.proofs.lemmas.Bool.{lt-ltb}
use Rattle.caf_turns.specs.declared.step.Step.{Step}
use Rattle.caf_turns.specs.declared.step.Step.TheVariants.{Announce, Claim, Look, Settle, Free}
use Rattle.caf_sched.specs.Tickets.{ticket_for, tickets_for, note_of, noted, places_in}

pub tickets_end : (es : List Step) (e : Step) → tickets_for (es ++ e ∷ []) ≡ tickets_for es ++ ticket_for e
tickets_end [] e = append-nil (ticket_for e)
tickets_end (s ∷ es) e = ap (λ l. ticket_for s ++ l) (tickets_end es e) ∙ sym (append_assoc (ticket_for s) (tickets_for es) (ticket_for e))

pub noted_end : (es : List Step) (e : Step) → noted (es ++ e ∷ []) ≡ noted es ++ note_of e
noted_end [] e = append-nil (note_of e)
noted_end (s ∷ es) e = ap (λ l. note_of s ++ l) (noted_end es e) ∙ sym (append_assoc (note_of s) (noted es) (note_of e))

-- an announcement
pub tickets_of_note : (i read : ℕ) (first : Bool) (old new : List Step) → new ≡ old ++ Announce i read ∷ [] → first ≡ (read == 0) → tickets_for new ≡ tickets_for old ++ (if first then i ∷ [] else [])
tickets_of_note i read first old new e f = rw f (ap tickets_for e ∙ tickets_end old (Announce i read))

pub noted_of_note : (n i read : ℕ) (old new : List Step) → i < n → new ≡ old ++ Announce i read ∷ [] → noted new ≡ noted old ++ places_in n (i ∷ [])
noted_of_note n i read old new h e = rw (lt-ltb i n h) (ap noted e ∙ noted_end old (Announce i read))

-- a claim in vain, and a whole turn
pub tickets_of_busy : (i : ℕ) (old new : List Step) → new ≡ old ++ Claim i 1 ∷ [] → tickets_for new ≡ tickets_for old ++ i ∷ []
tickets_of_busy i old new e = ap tickets_for e ∙ tickets_end old (Claim i 1)

pub tickets_of_turn : (i due read : ℕ) (again : Bool) (old new : List Step) → new ≡ old ++ Claim i 0 ∷ [] ++ Look i due ∷ [] ++ Settle i due read ∷ [] ++ Free i ∷ [] → again ≡ nat_lt due read → tickets_for new ≡ tickets_for old ++ (if again then i ∷ [] else [])
tickets_of_turn i due read again old new e f =
    let a = old ++ Claim i 0 ∷ [] in let b = a ++ Look i due ∷ [] in let c = b ++ Settle i due read ∷ [] in
    rw f (ap tickets_for e ∙ tickets_end c (Free i) ∙ append-nil (tickets_for c) ∙ tickets_end b (Settle i due read)
    ∙ ap (λ l. l ++ ticket_for (Settle i due read)) (tickets_end a (Look i due) ∙ append-nil (tickets_for a) ∙ tickets_end old (Claim i 0) ∙ append-nil (tickets_for old)))

-- places, some more
pub places_append : (n : ℕ) (xs ys : List ℕ) → places_in n (xs ++ ys) ≡ places_in n xs ++ places_in n ys
places_append n [] ys = refl
places_append n (x ∷ xs) ys = go (nat_lt x n) refl (places_append n xs ys)
  where
    go : (b : Bool) → nat_lt x n ≡ b → places_in n (xs ++ ys) ≡ places_in n xs ++ places_in n ys → places_in n ((x ∷ xs) ++ ys) ≡ places_in n (x ∷ xs) ++ places_in n ys
    go true e h = rw (e, h) refl
    go false e h = rw (e, h) refl

take_more : (xs : List ℕ) (k : ℕ) → k < length xs → take (k + 1) xs ≡ take k xs ++ slice_index xs k ∷ []
take_more [] k h = absurd (omega arith)
take_more (y ∷ xs) zero h = refl
take_more (y ∷ xs) (suc k) h = let one : suc k + 1 ≡ suc (k + 1) = omega arith in rw one (ap (λ l. y ∷ l) (take_more xs k (omega arith)))

pub places_more : (n k : ℕ) (xs old now new : List ℕ) → k < length xs → now ≡ old ++ places_in n (take k xs) → new ≡ now ++ places_in n (slice_index xs k ∷ []) → new ≡ old ++ places_in n (take (k + 1) xs)
places_more n k xs old now new h e f = f ∙ ap (λ l. l ++ places_in n (slice_index xs k ∷ [])) e ∙ append_assoc old (places_in n (take k xs)) (places_in n (slice_index xs k ∷ [])) ∙ ap (λ l. old ++ l) (sym (ap (places_in n) (take_more xs k h) ∙ places_append n (take k xs) (slice_index xs k ∷ [])))

-- puts that were some tickets and those for the steps so far, with those for a step more
pub keeps_more : (given ts ts' more puts puts' : List ℕ) → puts ≡ given ++ ts → puts' ≡ puts ++ more → ts' ≡ ts ++ more → puts' ≡ given ++ ts'
keeps_more given ts ts' more puts puts' e f h = f ∙ ap (λ l. l ++ more) e ∙ append_assoc given ts more ∙ ap (λ l. given ++ l) (sym h)
