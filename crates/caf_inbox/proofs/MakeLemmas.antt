-- How the lanes of an inbox are made, one after another.
use Rattle.std.proofs.Common.{◌≡◌, ◌≢◌, ℕ, zero, suc, ◌<◌, ◌≤◌, ◌+◌, List, [], ◌∷◌, ◌++◌, length, map, take, get_or, Contains, AllPairs, ap, sym, ◌∙◌, subst, ⊎_elim, arith}
use Rattle.std.proofs.Math.Seq.{take-suc}
use Rattle.std.proofs.lemmas.List.{take_more, map-append}
use Rattle.std.proofs.lemmas.List.Elements.{Contains-push_cases}
use Rattle.caf_inbox.specs.declared.view.View.{View}
use Rattle.caf_inbox.specs.declared.view.Role.TheVariants.{Reading}
use Rattle.caf_inbox.specs.Views.{with_lane, new_lane, view_of}
use Rattle.caf_inbox.specs.Ends.{InboxId, LaneSeen, fresh_lane}

-- the reader, once the first j senders have a lane
abbrev pub reader_with : List ℕ → View
reader_with senders = record (view_of Reading 0 []) { senders = senders }

-- of differing senders, the next has no lane yet
pub is_new : (xs : List ℕ) (j d : ℕ) → AllPairs (λ a b. a ≢ b) xs → j < length xs → (n : ℕ) → n ≤ j → ¬ Contains (take n xs) (get_or xs j d)
is_new xs j d differ within zero le k = absurd (let h = k.2 in let l = k.1 in omega arith)
is_new xs j d differ within (suc n) le k =
    let below : n < length xs = omega arith in
    let before : n < j = omega arith in
    let weak : n ≤ j = omega arith in
    let more : Contains (take n xs ++ get_or xs n d ∷ []) (get_or xs j d) = subst (λ l. Contains l (get_or xs j d)) (take-suc xs n d below) k in
    ⊎_elim (λ h. is_new xs j d differ within n weak h) (λ e. differ n j d before within e) (Contains-push_cases (take n xs) (get_or xs n d) (get_or xs j d) more)

pub lane_is : (p q : InboxId) (v : View) (s : ℕ) → p ≡ q → v ≡ new_lane s → record { inbox = p; sender = v.sender; pushed = v.log; met = v.heard } ≡ fresh_lane q s
lane_is p q v s e f i = record { inbox = e i; sender = (f i).sender; pushed = (f i).log; met = (f i).heard }

pub lanes_more : (id : InboxId) (xs : List ℕ) (j d : ℕ) (done : List LaneSeen) (l : LaneSeen) → j < length xs → done ≡ map (fresh_lane id) (take j xs) → l ≡ fresh_lane id (get_or xs j d)
    → done ++ l ∷ [] ≡ map (fresh_lane id) (take (j + 1) xs)
lanes_more id xs j d done l within e f =
    ap (λ (ls : List LaneSeen). ls ++ l ∷ []) e ∙ ap (λ (x : LaneSeen). map (fresh_lane id) (take j xs) ++ x ∷ []) f
    ∙ sym (ap (map (fresh_lane id)) (take_more xs j d within) ∙ map-append (fresh_lane id) (take j xs) (get_or xs j d ∷ []))

pub reader_more : (v w : View) (xs : List ℕ) (j d s : ℕ) → j < length xs → s ≡ get_or xs j d → v ≡ reader_with (take j xs) → w ≡ with_lane s v → w ≡ reader_with (take (j + 1) xs)
reader_more v w xs j d s within at e f = f ∙ ap (with_lane s) e ∙ ap reader_with (ap (λ a. take j xs ++ a ∷ []) at ∙ sym (take_more xs j d within))
