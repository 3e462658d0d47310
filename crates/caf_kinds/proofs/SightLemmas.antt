-- Places as they are kept, and their messages.
use Rattle.std.proofs.Common.{◌≡◌, ℕ, ◌≤◌, Bool, true, false, List, [], ◌∷◌, ◌++◌, length, map, refl, ap, ◌∙◌, append_assoc, length-append, arith}
use Rattle.std.specs.Prelude.{◌==◌, nat_lt, not, filter}
use Rattle.std.specs.List.{list_any}
use Rattle.caf_words.specs.Datum.{Data, no_data, more, a_place, a_list, data_of}
use Rattle.caf_words.specs.Spelling.{spellings}
use Rattle.caf_message.specs.Content.{content_of}
use Rattle.caf_observe.specs.Places.{has_place, with_place}
use Rattle.caf_kinds.specs.Places.{numbers_of, place_means, places_mean}
use Rattle.caf_actor.specs.PlainOutput.{PlainOutput}
use Rattle.caf_kinds.specs.Sights.{places_content, Sights, AreSights, AreRising, is_reached, notified}
use Rattle.caf_kinds.specs.SightLaws.{NoneReached, unreached, none_leaves, none_is_reached, rising_few, rising_with}
use Rattle.caf_kinds.specs.declared.sights.Sought.{Sought}
use Rattle.caf_kinds.specs.declared.place.PlaceNumber.{PlaceNumber}

-- ---- numbers of places

pub has_number : (ps : List PlaceNumber) (n : ℕ) → list_any (λ (p : PlaceNumber). p.number == n) ps ≡ has_place (numbers_of ps) n
has_number [] n = refl
has_number (p ∷ ps) n = go (p.number == n) refl (has_number ps n)
  where
    go : (b : Bool) → (p.number == n) ≡ b → list_any (λ (q : PlaceNumber). q.number == n) ps ≡ has_place (numbers_of ps) n
        → list_any (λ (q : PlaceNumber). q.number == n) (p ∷ ps) ≡ has_place (numbers_of (p ∷ ps)) n
    go true e rest = rw e refl
    go false e rest = rw e rest

filtered : (test : ℕ → Bool) (ps : List PlaceNumber) → numbers_of (filter (λ (p : PlaceNumber). test p.number) ps) ≡ filter test (numbers_of ps)
filtered test [] = refl
filtered test (p ∷ ps) = go (test p.number) refl (filtered test ps)
  where
    go : (b : Bool) → test p.number ≡ b → numbers_of (filter (λ (q : PlaceNumber). test q.number) ps) ≡ filter test (numbers_of ps)
        → numbers_of (filter (λ (q : PlaceNumber). test q.number) (p ∷ ps)) ≡ filter test (numbers_of (p ∷ ps))
    go true e rest = rw e (ap (λ (ns : List ℕ). p.number ∷ ns) rest)
    go false e rest = rw e rest

numbers_both : (ps qs : List PlaceNumber) → numbers_of (ps ++ qs) ≡ numbers_of ps ++ numbers_of qs
numbers_both [] qs = refl
numbers_both (p ∷ ps) qs = ap (λ (ns : List ℕ). p.number ∷ ns) (numbers_both ps qs)

pub with_is : (ps : List PlaceNumber) (p : PlaceNumber)
    → numbers_of ((filter (λ (q : PlaceNumber). nat_lt q.number p.number) ps ++ p ∷ []) ++ filter (λ (q : PlaceNumber). nat_lt p.number q.number) ps) ≡ with_place (numbers_of ps) p.number
with_is ps p =
    let low = filter (λ (q : PlaceNumber). nat_lt q.number p.number) ps in
    let high = filter (λ (q : PlaceNumber). nat_lt p.number q.number) ps in
    numbers_both (low ++ p ∷ []) high
    ∙ ap (λ (ns : List ℕ). ns ++ numbers_of high) (numbers_both low (p ∷ []))
    ∙ append_assoc (numbers_of low) (p.number ∷ []) (numbers_of high)
    ∙ ap (λ (ns : List ℕ). ns ++ p.number ∷ numbers_of high) (filtered (λ q. nat_lt q p.number) ps)
    ∙ ap (λ (ns : List ℕ). filter (λ q. nat_lt q p.number) (numbers_of ps) ++ p.number ∷ ns) (filtered (λ q. nat_lt p.number q) ps)

pub numbers_length : (ps : List PlaceNumber) → length (numbers_of ps) ≡ length ps
numbers_length [] = refl
numbers_length (p ∷ ps) = let rest = numbers_length ps in omega arith

pub rising_all : (ps all : List PlaceNumber) (p : PlaceNumber) → AreRising 0 (numbers_of ps) → numbers_of all ≡ with_place (numbers_of ps) p.number → AreRising 0 (numbers_of all)
rising_all ps all p rising e = rw e (rising_with 0 (numbers_of ps) p.number (omega arith) p.below rising)

pub few_all : (ps : List PlaceNumber) → AreRising 0 (numbers_of ps) → length ps ≤ 256
few_all ps rising = let few = rising_few 0 (numbers_of ps) rising in let same = numbers_length ps in omega arith

pub kept_unreached : (ps : List PlaceNumber) (hs kept : List Sought) → kept ≡ filter (λ h. not (is_reached (length ps) h)) hs → NoneReached (length (numbers_of ps)) kept
kept_unreached ps hs kept e = rw (numbers_length ps, e) (unreached (length ps) hs)

-- ---- where nothing is new

pub nothing_new : (s : Sights) → AreSights s → (gone : List ℕ) → gone ≡ s.gone → (outputs : List PlainOutput) → outputs ≡ [] → ◌≡◌ {A = Sights × List PlainOutput} (s, outputs) (notified s gone)
nothing_new s is gone same outputs none = rw (same, none, none_leaves (length s.gone) s.held is.held, none_is_reached (length s.gone) s.held is.held) refl

-- ---- messages

same_data : (ps : List PlaceNumber) → data_of (map place_means ps) ≡ data_of (map a_place (numbers_of ps))
same_data [] = refl
same_data (p ∷ ps) = ap (λ (ds : Data). more (a_place p.number) ds) (same_data ps)

pub places_are : (ps : List PlaceNumber) → content_of (9 ∷ []) (more (places_mean record { 0 = ps }) no_data) ≡ places_content (numbers_of ps)
places_are ps = ap (λ (ds : Data). content_of (9 ∷ []) (more (a_list ds) no_data)) (same_data ps)

spelled_length : (ps : List PlaceNumber) → length (spellings (data_of (map place_means ps))) ≡ length ps
spelled_length [] = refl
spelled_length (p ∷ ps) = let rest = spelled_length ps in omega arith

pub places_small : (ps : List PlaceNumber) → length ps ≤ 256 → length (content_of (9 ∷ []) (more (places_mean record { 0 = ps }) no_data)) ≤ 4194304
places_small ps few =
    let spelled = spelled_length ps in
    let both = length-append (spellings (data_of (map place_means ps))) [] in
    omega arith
