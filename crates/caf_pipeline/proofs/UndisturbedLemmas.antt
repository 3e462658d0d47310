-- The conductor tells the source to start, so an undisturbed run's index is the plain index.
use Rattle.std.proofs.Common.{◌≡◌, ℕ, Bool, true, false, List, [], ◌∷◌, ◌++◌, inl, inr, refl, sym, subst, ap, ◌∙◌, arith}
use Rattle.std.specs.Prelude.{Contains, ◌⊎◌}
use Rattle.std.specs.List.{AllByRecursion}
use Rattle.std.proofs.lemmas.List.{append-nil}
use Rattle.std.proofs.lemmas.List.Elements.{Contains-append_left}
use Rattle.caf_index.proofs.ContainsLemmas.{contains-none, contains-here, contains-cases}
use Rattle.caf_mailbox.proofs.NextLemmas.{all_append}
use Rattle.caf_message.specs.Envelope.{outside, start_envelope}
use Rattle.caf_message.specs.declared.envelope.Plain.{Plain}
use Rattle.caf_message.specs.declared.envelope.Plain.TheVariants as «plain»
use Rattle.caf_message.specs.declared.envelope.Taken.{Taken}
use Rattle.caf_record.proofs.ListLemmas.{all_left, all_right}
use Rattle.caf_types.specs.declared.notice.Notice.TheVariants as notice
use Rattle.caf_actor.specs.Answering.{origin_of}
use Rattle.caf_actor.specs.Handling.{failure_input, response_input}
use Rattle.caf_actor.specs.PlainInput.{PlainInput, Start}
use Rattle.caf_actor.specs.PlainOutput.{PlainOutput, Tell}
use Rattle.caf_actor.specs.Record.{Kept, machine_of, IsAtRest, joined, heard, sent, taken_by}
use Rattle.caf_actor.specs.Run.{Turn}
use Rattle.caf_actor.specs.declared.journal.TakenBatch.{TakenBatch}
use Rattle.caf_actor.specs.declared.snapshot.Snapshot.{Snapshot}
use Rattle.caf_kinds.specs.FileChunks.{all_chunks}
use Rattle.caf_kinds.specs.Kinds.{kind_rules}
use Rattle.caf_kinds.specs.declared.kind.Kind.{Kind}
use Rattle.caf_kinds.specs.declared.script.Step.{Step}
use Rattle.caf_kinds.specs.declared.setup.Setup.{Setup}
use Rattle.caf_opening.specs.Opening.{conductor_at_0, who_conducts}
use Rattle.caf_response.specs.Pending.{resolved}
use Rattle.caf_steady.specs.Outline.{Outline, Outlined, with_outline, outline_of}
use Rattle.caf_steady.specs.Reading.{react, resolve, read, read_one, read_body, in_turn, all_in_turn}
use Rattle.caf_steady.specs.Steady.{Brings, BodyBrings, IsSteady}
use Rattle.caf_steady.proofs.ClassLemmas.{steady_behavior}
use Rattle.caf_steady.proofs.FrameLemmas.{behind, read_behind}
use Rattle.caf_steady.proofs.ReadingLemmas.{brought_in_turn, reads_in_turn}
use Rattle.caf_pipeline.specs.Undisturbed.{Pipeline}
use Rattle.caf_pipeline.specs.Contents.{comes}
use Rattle.caf_pipeline.specs.Parts.{start_content}
use Rattle.caf_pipeline.specs.Sent.{AreSent}
use Rattle.caf_pipeline.specs.Flow.{HasTaken, IsUndisturbedRecord}
use Rattle.caf_pipeline.specs.Indexed.{UndisturbedFilesAreIndexed}
use Rattle.caf_pipeline.proofs.ArrivalLemmas.{all_taken, all_turns_have, from_has}
use Rattle.caf_pipeline.proofs.BegunLemmas.{started}
use Rattle.caf_pipeline.proofs.CollectedLemmas.{brought, steady}
use Rattle.caf_pipeline.proofs.DoneLemmas.{src, told_arrives}
use Rattle.caf_pipeline.proofs.ReadLemmas.{HasTold, DoesTell, outputs_now}
use Rattle.caf_pipeline.proofs.RestLemmas.{started_files_are_indexed}
use Rattle.caf_pipeline.proofs.SentLemmas.{script_is_sent}

told_on : (to : ℕ) (said : List ℕ) (o : Outlined Kind) (es : List Taken) → HasTold to said o.sent → HasTold to said (read kind_rules o es).sent
told_on to said o es h =
    let bare_of : Outlined Kind = record { outline = o.outline; sent = [] } in
    let same : o ≡ behind o.sent bare_of = ap (λ ss. record { outline = o.outline; sent = ss }) (sym (append-nil o.sent)) in
    let all : read kind_rules o es ≡ behind o.sent (read kind_rules bare_of es) = ap (λ (x : Outlined Kind). read kind_rules x es) same ∙ read_behind kind_rules o.sent bare_of es in
    subst (λ (x : Outlined Kind). HasTold to said x.sent) (sym all)
    (record { bare = h.bare; is_sent = Contains-append_left o.sent (read kind_rules bare_of es).sent h.bare h.is_sent; to_is = h.to_is; body_is = h.body_is })

first_tells : (p : Pipeline) (os : List PlainOutput) → AreSent p os → (one : PlainOutput) × Contains os one × DoesTell p.source start_content one
first_tells p [] are = absurd are
first_tells p (first ∷ []) are = absurd are
first_tells p (Tell to priority words ∷ second ∷ others) are = (Tell to priority words, contains-here (Tell to priority words) (second ∷ others), are.0)
first_tells p (_ ∷ second ∷ others) are = absurd are.0

module _ (setups : List Setup) (script : List Step) (files : List (List ℕ)) (ticks : ℕ) (k : Kept (Snapshot Kind)) (ts : List Turn) (is : IsUndisturbedRecord setups script files ticks k ts) where
  abbrev may : PlainInput → Bool
  may = comes setups (all_chunks files) 0

  abbrev σ : ℕ
  σ = src setups script files ticks k ts is

  abbrev first : Outline Kind
  first = outline_of (conductor_at_0 setups script).snapshot

  at_start : (o : Outlined Kind) → o.outline ≡ first → HasTold σ start_content (react kind_rules o Start).sent
  at_start o e =
      let tells = first_tells is.undisturbed.pipeline _ (script_is_sent who_conducts setups script is.undisturbed).sent in
      outputs_now σ start_content (with_outline o (record o.outline { behavior = kind_rules.next o.outline.behavior Start })) (kind_rules.reaction o.outline.behavior Start).outputs tells.0
      (subst (λ (l : Outline Kind). Contains (kind_rules.reaction l.behavior Start).outputs tells.0) (sym e) tells.1) tells.2

  -- no request waits, so a reply does nothing
  no_reply : (o : Outlined Kind) (n : ℕ) → o.outline ≡ first → (input : _) → resolve kind_rules o input (resolved o.outline.pending n) ≡ o
  no_reply o n e input = subst (λ (l : Outline Kind). resolve kind_rules o input (resolved l.pending n) ≡ o) (sym e) refl

  tells_at : (o : Outlined Kind) (es : List Taken) (e : Taken) → o.outline ≡ first → AllByRecursion (Brings may) es → Contains es e → e.body ≡ «plain».System notice.Start → HasTold σ start_content (read kind_rules o es).sent
  tells_at o [] e at all has body = absurd (contains-none e has)
  tells_at o (x ∷ xs) e at all has body = go x.body refl all.0 (contains-cases x e xs has) (λ later. tells_at o xs e at all.1 later body)
    where
      skip : read_one kind_rules o x ≡ o → ((x.body ≡ «plain».System notice.Start) → ⊥) → (x ≡ e) ⊎ Contains xs e → (Contains xs e → HasTold σ start_content (read kind_rules o xs).sent) → HasTold σ start_content (read kind_rules o (x ∷ xs)).sent
      skip same other (inl here) rest = absurd (other (ap (λ (y : Taken). y.body) here ∙ body))
      skip same other (inr later) rest = subst (λ (y : Outlined Kind). HasTold σ start_content (read kind_rules y xs).sent) (sym same) (rest later)

      content : (words : List ℕ) → x.body ≡ «plain».Content words → (r : Bool) → x.mid.response ≡ r → BodyBrings may (origin_of x) («plain».Content words) → (x ≡ e) ⊎ Contains xs e → (Contains xs e → HasTold σ start_content (read kind_rules o xs).sent)
          → HasTold σ start_content (read kind_rules o (x ∷ xs)).sent
      content words q false r brings which rest = let no_such : false ≡ true = rw r at brings in absurd cc
      content words q true r brings which rest =
          skip (ap (read_body kind_rules o (origin_of x)) q ∙ rw r (no_reply o x.mid.number at (λ w. response_input w words))) (λ s. (let bad : «plain».Content words ≡ «plain».System notice.Start = sym q ∙ s in absurd cc)) which rest

      go : (b : Plain) → x.body ≡ b → BodyBrings may (origin_of x) b → (x ≡ e) ⊎ Contains xs e → (Contains xs e → HasTold σ start_content (read kind_rules o xs).sent) → HasTold σ start_content (read kind_rules o (x ∷ xs)).sent
      go («plain».System notice.Start) q brings which rest =
          told_on σ start_content (read_one kind_rules o x) xs (subst (λ (y : Outlined Kind). HasTold σ start_content y.sent) (sym (ap (read_body kind_rules o (origin_of x)) q)) (at_start o at))
      go («plain».System notice.Stop) q brings which rest = absurd cc
      go («plain».System (notice.Exit from why)) q brings which rest = absurd brings
      go («plain».System (notice.Link from)) q brings which rest = absurd brings
      go («plain».System (notice.Unlink from)) q brings which rest = absurd brings
      go («plain».System (notice.Watch from)) q brings which rest = absurd brings
      go («plain».System (notice.Unwatch from)) q brings which rest = absurd brings
      go («plain».System (notice.Down from why)) q brings which rest = absurd brings
      go («plain».System (notice.Begin from)) q brings which rest = absurd brings
      go («plain».System (notice.Tick from)) q brings which rest = absurd brings
      go («plain».Failure sec) q brings which rest =
          skip (ap (read_body kind_rules o (origin_of x)) q ∙ no_reply o x.mid.number at (λ w. failure_input w sec)) (λ s. (let bad : «plain».Failure sec ≡ «plain».System notice.Start = sym q ∙ s in absurd cc)) which rest
      go («plain».Content words) q brings which rest = content words q x.mid.response refl brings which rest

  turns_bring : (bs : List TakenBatch) → AllByRecursion (Brings may) (joined bs) → AllByRecursion (Brings may) (all_in_turn bs)
  turns_bring [] all = tt
  turns_bring (b ∷ bs) all =
      all_append (Brings may) (in_turn b.taken) (all_in_turn bs) (brought_in_turn kind_rules may b.taken (all_left (Brings may) b.taken (joined bs) all)) (turns_bring bs (all_right (Brings may) b.taken (joined bs) all))

  -- Start was taken, so the source was told to start
  pub told_start : IsAtRest (machine_of kind_rules) k → HasTaken k σ start_content
  told_start rest =
      let places = is.opens.places in
      let begun = steady setups script files ticks k ts is 0 (omega (arith, places)) in
      let steady_now : IsSteady kind_rules may (k.start 0) = record { behavior = steady_behavior (comes setups (all_chunks files)) kind_rules 0 (k.start 0).behavior begun.keeps; begun = begun.begun; here = begun.here; awaits = begun.awaits } in
      let all = brought setups script files ticks k ts is 0 in
      let has_read = reads_in_turn kind_rules may (k.start 0) (k.journal 0) steady_now begun.empty all in
      let sent_it : Contains (taken_by k outside 0) start_envelope = subst (λ (es : List Taken). Contains es start_envelope) (all_taken (machine_of kind_rules) ticks k is.legal rest outside 0)
      (contains-here start_envelope (joined (heard (k.journal 0)) ++ sent (machine_of kind_rules) (k.start outside) (k.journal outside) 0)) in
      let taken = from_has outside (joined (k.journal 0)) start_envelope sent_it in
      told_arrives setups script files ticks k ts is rest 0 σ start_content has_read
      (tells_at (record { outline = outline_of (k.start 0); sent = [] }) (all_in_turn (k.journal 0)) start_envelope (ap outline_of (is.opens.start 0 (conductor_at_0 setups script) refl)) (turns_bring (k.journal 0) all)
      (all_turns_have (k.journal 0) start_envelope taken) refl)

pub undisturbed_files_are_indexed : UndisturbedFilesAreIndexed
undisturbed_files_are_indexed setups script files ticks k ts is rest =
    started_files_are_indexed setups script files ticks k ts is rest (started setups script files ticks k ts is (told_start setups script files ticks k ts is rest))
