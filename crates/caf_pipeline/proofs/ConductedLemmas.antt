-- What the conductor of an undisturbed run takes: Start, and answers to its requests.
use Rattle.std.proofs.Common.{◌≡◌, ℕ, Bool, true, false, List, [], ◌∷◌, Option, Some, None, refl, sym, subst, ap, ◌∙◌}
use Rattle.std.specs.List.{AllByRecursion}
use Rattle.caf_types.specs.declared.notice.Notice.TheVariants as notice
use Rattle.caf_types.specs.declared.sec.Sec.{Sec}
use Rattle.caf_message.specs.declared.envelope.Plain.{Plain}
use Rattle.caf_message.specs.declared.envelope.Plain.TheVariants as «plain»
use Rattle.caf_message.specs.declared.envelope.Taken.{Taken}
use Rattle.caf_response.specs.declared.pending.Waiting.{Waiting}
use Rattle.caf_response.specs.Pending.{WaitingRequests, resolved}
use Rattle.caf_actor.specs.Answering.{origin_of}
use Rattle.caf_actor.specs.Handling.{failure_input, response_input}
use Rattle.caf_actor.specs.PlainInput.{PlainInput, Start}
use Rattle.caf_kinds.specs.Kinds.{kind_rules}
use Rattle.caf_kinds.specs.declared.contents.Chunk.{Chunk}
use Rattle.caf_kinds.specs.declared.kind.Kind.{Kind}
use Rattle.caf_kinds.specs.declared.setup.Setup.{Setup}
use Rattle.caf_steady.specs.Outline.{Outlined, with_outline}
use Rattle.caf_steady.specs.Reading.{react, resolve, read, read_one, read_body}
use Rattle.caf_steady.specs.Steady.{Brings, BodyBrings}
use Rattle.caf_pipeline.specs.Contents.{comes}

abbrev pub without_request : Outlined Kind → WaitingRequests → Outlined Kind
without_request o left = with_outline o (record o.outline { pending = left })

-- what stays true while it takes envelopes of which `Q` holds
pub record IsConducted (Q : Taken → Type 0) (Inv : Outlined Kind → Type 0) : Type 0 where
  pub on_start : (o : Outlined Kind) → Inv o → Inv (react kind_rules o Start)
  pub on_value : (o : Outlined Kind) (e : Taken) (words : List ℕ) (found : Waiting × WaitingRequests) → Inv o → Q e → e.body ≡ «plain».Content words → e.mid.response ≡ true → resolved o.outline.pending e.mid.number ≡ Some found
      → Inv (react kind_rules (without_request o found.1) (response_input found.0 words))
  pub on_error : (o : Outlined Kind) (e : Taken) (sec : Sec) (found : Waiting × WaitingRequests) → Inv o → Q e → e.body ≡ «plain».Failure sec → resolved o.outline.pending e.mid.number ≡ Some found
      → Inv (react kind_rules (without_request o found.1) (failure_input found.0 sec))

module _ (setups : List Setup) (cs : List Chunk) (Q : Taken → Type 0) (Inv : Outlined Kind → Type 0) (is : IsConducted Q Inv) where
  abbrev may : PlainInput → Bool
  may = comes setups cs 0

  pub one_conducted : (o : Outlined Kind) (e : Taken) → Brings may e → Q e → Inv o → Inv (read_one kind_rules o e)
  one_conducted o e all q h = go e.body refl all
    where
      resolving : (input : Waiting → PlainInput) → ((found : Waiting × WaitingRequests) → resolved o.outline.pending e.mid.number ≡ Some found → Inv (react kind_rules (without_request o found.1) (input found.0)))
          → (r : Option (Waiting × WaitingRequests)) → resolved o.outline.pending e.mid.number ≡ r → Inv (resolve kind_rules o input r)
      resolving input each None f = h
      resolving input each (Some found) f = each found f

      content : (words : List ℕ) → e.body ≡ «plain».Content words → (r : Bool) → e.mid.response ≡ r → BodyBrings may (origin_of e) («plain».Content words) → Inv (read_one kind_rules o e)
      content words b false r brings = let no_such : false ≡ true = rw r at brings in absurd cc
      content words b true r brings =
          let same : read_one kind_rules o e ≡ resolve kind_rules o (λ w. response_input w words) (resolved o.outline.pending e.mid.number) = ap (read_body kind_rules o (origin_of e)) b ∙ rw r refl in
          subst Inv (sym same) (resolving (λ w. response_input w words) (λ found f. is.on_value o e words found h q b r f) (resolved o.outline.pending e.mid.number) refl)

      go : (b : Plain) → e.body ≡ b → BodyBrings may (origin_of e) b → Inv (read_one kind_rules o e)
      go («plain».System notice.Start) b brings = subst Inv (sym (ap (read_body kind_rules o (origin_of e)) b)) (is.on_start o h)
      go («plain».System notice.Stop) b brings = absurd cc
      go («plain».System (notice.Exit from why)) b brings = absurd brings
      go («plain».System (notice.Link from)) b brings = absurd brings
      go («plain».System (notice.Unlink from)) b brings = absurd brings
      go («plain».System (notice.Watch from)) b brings = absurd brings
      go («plain».System (notice.Unwatch from)) b brings = absurd brings
      go («plain».System (notice.Down from why)) b brings = absurd brings
      go («plain».System (notice.Begin from)) b brings = absurd brings
      go («plain».System (notice.Tick from)) b brings = absurd brings
      go («plain».Failure sec) b brings =
          subst Inv (sym (ap (read_body kind_rules o (origin_of e)) b)) (resolving (λ w. failure_input w sec) (λ found f. is.on_error o e sec found h q b f) (resolved o.outline.pending e.mid.number) refl)
      go («plain».Content words) b brings = content words b e.mid.response refl brings

  pub all_conducted : (o : Outlined Kind) (es : List Taken) → AllByRecursion (Brings may) es → AllByRecursion Q es → Inv o → Inv (read kind_rules o es)
  all_conducted o [] all qs h = h
  all_conducted o (e ∷ es) all qs h = all_conducted (read_one kind_rules o e) es all.1 qs.1 (one_conducted o e all.0 qs.0 h)
