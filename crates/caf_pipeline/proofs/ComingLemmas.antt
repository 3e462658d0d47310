-- What is still to come to a collector, by weight.
use Rattle.std.proofs.Common.{◌≡◌, ℕ, ◌+◌, Bool, true, false, List, [], ◌∷◌, ◌++◌, Option, Some, None, refl, ap, ◌∙◌, arith}
use Rattle.caf_index.specs.Filled.{Entry}
use Rattle.caf_message.specs.declared.envelope.Plain.{Plain}
use Rattle.caf_message.specs.declared.envelope.Plain.TheVariants as «plain»
use Rattle.caf_message.specs.declared.envelope.Taken.{Taken}
use Rattle.caf_kinds.specs.Asking.{has, asked}
use Rattle.caf_kinds.specs.Pipeline.{of_postings, of_extent, of_finish, extent_in}
use Rattle.caf_kinds.specs.declared.contents.Extent.{Extent}
use Rattle.caf_pipeline.proofs.EntryLemmas.{entries_in}
use Rattle.caf_pipeline.proofs.IndexedLemmas.{words_of, told_entries}
use Rattle.caf_pipeline.proofs.PassingLemmas.{of_extent_in, collector_weight}

-- ---- what is to come

module _ (a f : ℕ) (h : Extent → ℕ) where
  abbrev pub body_weight : Plain → ℕ
  body_weight («plain».Content words) = collector_weight a f h words
  body_weight _ = 0

  abbrev pub came : List Taken → ℕ
  came [] = 0
  came (e ∷ es) = body_weight e.body + came es

abbrev pub none_each : Extent → ℕ
none_each x = 0

abbrev pub one_each : Extent → ℕ
one_each x = 1

abbrev pub lines_each : Extent → ℕ
lines_each x = x.lines

abbrev pub bytes_each : Extent → ℕ
bytes_each x = x.bytes

abbrev pub postings_in : List Taken → ℕ
postings_in es = came 1 0 none_each es

abbrev pub extents_in : List Taken → ℕ
extents_in es = came 0 0 one_each es

abbrev pub finishes_in : List Taken → ℕ
finishes_in es = came 0 1 none_each es

-- ---- where none are to come, nothing of them is

no_entries_now : (b : Plain) → body_weight 1 0 none_each b ≡ 0 → entries_in (words_of b) ≡ []
no_entries_now («plain».System what) e = refl
no_entries_now («plain».Failure sec) e = refl
no_entries_now («plain».Content words) e = go (has of_postings words) refl
  where
    go : (t : Bool) → has of_postings words ≡ t → entries_in words ≡ []
    go true q = let bad : 1 ≡ 0 = rw q at e in absurd (omega (arith, bad))
    go false q = rw q refl

pub no_entries : (es : List Taken) → postings_in es ≡ 0 → told_entries es ≡ []
no_entries [] e = refl
no_entries (x ∷ es) e =
    let now = no_entries_now x.body (omega (arith, e)) in
    let rest = no_entries es (omega (arith, e)) in
    ap (λ (ys : List Entry). ys ++ told_entries es) now ∙ rest

none_of_extent : (h : Extent → ℕ) (o : Option Extent) → of_extent_in one_each o ≡ 0 → of_extent_in h o ≡ 0
none_of_extent h None e = refl
none_of_extent h (Some x) e = absurd (omega (arith, e))

no_extent_now : (h : Extent → ℕ) (b : Plain) → body_weight 0 0 one_each b ≡ 0 → body_weight 0 0 h b ≡ 0
no_extent_now h («plain».System what) e = refl
no_extent_now h («plain».Failure sec) e = refl
no_extent_now h («plain».Content words) e = go (has of_postings words) refl (has of_extent words) refl
  where
    go : (t : Bool) → has of_postings words ≡ t → (u : Bool) → has of_extent words ≡ u → body_weight 0 0 h («plain».Content words) ≡ 0
    go true q u r = rw q refl
    go false q true r = rw (q, r) (none_of_extent h (extent_in (asked of_extent words)) (rw (q, r) at e))
    go false q false r = last (has of_finish words) refl
      where
        last : (v : Bool) → has of_finish words ≡ v → body_weight 0 0 h («plain».Content words) ≡ 0
        last true z = rw (q, r, z) refl
        last false z = rw (q, r, z) refl

pub no_extents : (h : Extent → ℕ) (es : List Taken) → extents_in es ≡ 0 → came 0 0 h es ≡ 0
no_extents h [] e = refl
no_extents h (x ∷ es) e =
    let now = no_extent_now h x.body (omega (arith, e)) in
    let rest = no_extents h es (omega (arith, e)) in
    omega (arith, now, rest)
