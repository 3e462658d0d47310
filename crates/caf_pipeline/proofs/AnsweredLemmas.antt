-- Where an undisturbed run is at rest, each request of its conductor has its final answer.
use Rattle.std.proofs.Common.{◌≡◌, ℕ, ◌≤◌, ◌<◌, nat_lt, true, false, List, [], ◌∷◌, length, Some, inl, inr, refl, sym, subst, ap, ◌∙◌, arith}
use Rattle.std.specs.Prelude.{◌⊎◌, Contains, slice_get}
use Rattle.std.proofs.lemmas.Bool.{lt-ltb}
use Rattle.caf_index.specs.Index.{Entries}
use Rattle.caf_index.proofs.ContainsLemmas.{from-map}
use Rattle.caf_message.specs.Envelope.{start_envelope}
use Rattle.caf_message.specs.declared.envelope.Plain.TheVariants as «plain»
use Rattle.caf_message.specs.declared.envelope.Taken.{Taken}
use Rattle.caf_types.specs.declared.notice.Mid.{Mid}
use Rattle.caf_types.specs.declared.notice.Notice.TheVariants as notice
use Rattle.caf_actor.specs.Answering.{is_asked, origin_of}
use Rattle.caf_actor.specs.Record.{Kept, machine_of, IsAtRest, ends, joined, posted}
use Rattle.caf_actor.specs.Run.{Turn}
use Rattle.caf_actor.specs.declared.snapshot.Snapshot.{Snapshot}
use Rattle.caf_script.specs.Reply.{Reply}
use Rattle.caf_kinds.specs.Kinds.{kind_rules, replies_of}
use Rattle.caf_kinds.specs.declared.contents.Chunk.{Chunk}
use Rattle.caf_kinds.specs.declared.kind.Kind.{Kind}
use Rattle.caf_kinds.specs.declared.questions.Question.{Question}
use Rattle.caf_kinds.specs.declared.questions.Question.TheVariants as question
use Rattle.caf_kinds.specs.declared.script.Step.{Step}
use Rattle.caf_kinds.specs.declared.setup.Setup.{Setup}
use Rattle.caf_steady.specs.Outline.{Outline, Outlined, Bare, bare, outline_of}
use Rattle.caf_steady.specs.Reading.{read, all_in_turn}
use Rattle.caf_pipeline.specs.Undisturbed.{Pipeline, IsPlainScript}
use Rattle.caf_pipeline.specs.Answered.{HasAnswers, AreAnswered, RestingRequestsAreAnswered}
use Rattle.caf_pipeline.specs.Flow.{IsUndisturbedRecord}
use Rattle.caf_pipeline.proofs.AnsweringLemmas.{all_replied}
use Rattle.caf_pipeline.proofs.CollectingLemmas.{IsReplied}
use Rattle.caf_pipeline.proofs.QuestionLemmas.{IsAsked}
use Rattle.caf_pipeline.proofs.ArrivalLemmas.{arrives, all_turns_have}
use Rattle.caf_pipeline.proofs.AwaitingLemmas.{IsRightResponse, right_reply, AllSettled, all_settle, waiting_of}
use Rattle.caf_pipeline.proofs.FoundLemmas.{asked_above}
use Rattle.caf_pipeline.proofs.BalanceLemmas.{SentBy}
use Rattle.caf_pipeline.proofs.IssueLemmas.{IsAskedOf}
use Rattle.caf_pipeline.proofs.ListLemmas.{one_of}
use Rattle.caf_pipeline.proofs.ScriptLemmas.{HasBegun, has_begun, read_any}
use Rattle.caf_pipeline.proofs.StartedLemmas.{started, first_sent, issued, awaiting}
use Rattle.caf_pipeline.proofs.TallyLemmas.{final_answer}
use Rattle.caf_pipeline.proofs.ComingLemmas.{none_each}
use Rattle.caf_pipeline.proofs.CountedLemmas as counted
use Rattle.caf_pipeline.proofs.CountedLemmas.{each_of, IsFrom, taken_from, steps_of, all_right, index_is, collector_within, 0_within}

plain_long : (p : Pipeline) (steps : List Step) → IsPlainScript p steps → 2 ≤ length steps
plain_long p [] plays = absurd plays
plain_long p (first ∷ []) plays = absurd plays
plain_long p (first ∷ second ∷ others) plays = omega arith

module _ (setups : List Setup) (steps : List Step) (files : List (List ℕ)) (ticks : ℕ) (k : Kept (Snapshot Kind)) (ts : List Turn) (is : IsUndisturbedRecord setups steps files ticks k ts) (rest : IsAtRest (machine_of kind_rules) k) where
  abbrev p : Pipeline
  p = counted.p setups steps files ticks k ts is rest

  abbrev up : Setup
  up = counted.up setups steps files ticks k ts is rest

  abbrev cs : List Chunk
  cs = counted.cs setups steps files ticks k ts is rest

  abbrev turns : List Taken
  turns = counted.turns setups steps files ticks k ts is rest

  abbrev sent_of : ℕ → List Bare
  sent_of = counted.sent_of setups steps files ticks k ts is rest

  abbrev pub lines : ℕ
  lines = counted.lines setups steps files ticks k ts is rest

  abbrev pub bytes : ℕ
  bytes = counted.bytes setups steps files ticks k ts is rest

  abbrev pub index : Entries
  index = counted.index setups steps files ticks k ts is rest

  abbrev collected : Outlined Kind
  collected = counted.collected setups steps files ticks k ts is rest

  abbrev RightAt : Bare → Type 0
  RightAt = counted.RightAt setups steps files ticks k ts is rest

  -- ---- what the conductor takes

  abbrev pub begun : HasBegun setups steps files ticks k ts is
  begun = has_begun setups steps files ticks k ts is rest

  abbrev pub later : List Taken
  later = all_in_turn begun.later

  abbrev pub first_sent_by : List Bare
  first_sent_by = (started setups steps files ticks k ts is).sent

  abbrev Responds : Taken → Type 0
  Responds = IsRightResponse (length steps) lines bytes index first_sent_by

  responds : (e : Taken) → Contains later e → Responds e
  responds e has = go (taken_from setups steps files ticks k ts is rest 0 e (begun.had e has))
    where
      by : (x : IsFrom setups steps files ticks k ts is rest 0 e) → SentBy setups steps files ticks k ts is rest 0 0 none_each x.place x.bare → Responds e
      by x (inl first) = record {
        value = λ words body response. (let bad : false ≡ true = sym first.1.response ∙ ap (λ (m : Mid). m.response) x.mid ∙ response in absurd cc);
        no_error = λ sec body. (let bad : «plain».Content first.1.words ≡ «plain».Failure sec = sym first.1.body ∙ x.body ∙ body in cc);
      }
      by x (inr (inl second)) =
          let there = subst (λ (q : ℕ). Contains (sent_of q) x.bare) second.0 x.is_sent in
          let right = one_of RightAt collected.sent x.bare (all_right setups steps files ticks k ts is rest) there in
          record {
            value = λ words body response.
                let both : «plain».Content words ≡ «plain».Content _ = sym body ∙ sym x.body ∙ right.body in
                (right.question, subst (λ (m : Mid). IsAsked m.number right.question) x.mid right.asked, same_words words _ both);
            no_error = λ sec body. (let bad : «plain».Content second.1.words ≡ «plain».Failure sec = sym second.1.body ∙ x.body ∙ body in cc);
          }
        where
          same_words : (ws vs : List ℕ) → «plain».Content ws ≡ «plain».Content vs → ws ≡ vs
          same_words ws vs q = cc
      by x (inr (inr told)) = record {
        value = λ words body response. (let bad : false ≡ true = sym told.response ∙ ap (λ (m : Mid). m.response) x.mid ∙ response in absurd cc);
        no_error = λ sec body. (let bad : «plain».Content told.words ≡ «plain».Failure sec = sym told.body ∙ x.body ∙ body in cc);
      }

      go : (e ≡ start_envelope) ⊎ IsFrom setups steps files ticks k ts is rest 0 e → Responds e
      go (inl start) = record {
        value = λ words body response. (let bad : «plain».System notice.Start ≡ «plain».Content words = ap (λ (x : Taken). x.body) (sym start) ∙ body in absurd cc);
        no_error = λ sec body. (let bad : «plain».System notice.Start ≡ «plain».Failure sec = ap (λ (x : Taken). x.body) (sym start) ∙ body in cc);
      }
      go (inr x) = by x x.sends

  pub settles : AllSettled (length steps) lines bytes index first_sent_by setups cs later (read kind_rules (started setups steps files ticks k ts is) later)
  settles = all_settle (length steps) lines bytes index first_sent_by setups cs (started setups steps files ticks k ts is) later begun.brings (each_of Responds later responds) (awaiting setups steps files ticks k ts is lines bytes index)

  -- ---- each request was answered

  sent_arrives : (q : ℕ) (b : Bare) → q < k.places → Contains (sent_of q) b → (e : Taken) × Contains (joined (k.journal b.to)) e × (e.mid ≡ b.mid) × (e.body ≡ b.body)
  sent_arrives q b low has =
      let there = subst (λ (bs : List Bare). Contains bs b) (sym (read_any setups steps files ticks k ts is q low).sent) has in
      let from = from-map bare b (posted (machine_of kind_rules) (k.start q) (k.journal q)) there in
      let post = from.0 in (
        post.envelope,
        subst (λ (r : ℕ). Contains (joined (k.journal r)) post.envelope) (ap (λ (x : Bare). x.to) from.2) (arrives (machine_of kind_rules) ticks k is.legal rest q post from.1),
        ap (λ (x : Bare). x.mid) from.2,
        ap (λ (x : Bare). x.body) from.2,
      )

  pub waits_no_more : (m : ℕ) (q : Question) → IsAsked m q → m < length steps → waiting_of (length steps) lines bytes index first_sent_by m (read kind_rules (started setups steps files ticks k ts is) later) ≡ 0
  waits_no_more m q asked low = answered_none
    where
      above : 1 ≤ m
      above = asked_above m q asked

      request : IsAskedOf p.collector m first_sent_by
      request = let one = above in (issued setups steps files ticks k ts is lines bytes index).asks m one (omega (arith, low))

      at_collector : (e : Taken) × Contains (joined (k.journal request.bare.to)) e × (e.mid ≡ request.bare.mid) × (e.body ≡ request.bare.body)
      at_collector = sent_arrives 0 request.bare (0_within setups steps files ticks k ts is rest) (subst (λ (bs : List Bare). Contains bs request.bare) (sym (first_sent setups steps files ticks k ts is rest)) request.is_sent)

      number_is : at_collector.0.mid.number ≡ m
      number_is = ap (λ (x : Mid). x.number) (at_collector.2 ∙ request.mid_is)

      taken_there : Contains turns at_collector.0
      taken_there = all_turns_have (k.journal p.collector) at_collector.0 (subst (λ (r : ℕ). Contains (joined (k.journal r)) at_collector.0) request.to_is at_collector.1)

      is_request : is_asked (origin_of at_collector.0) ≡ true
      is_request = let one = above in ap (λ n. nat_lt 0 n) number_is ∙ lt-ltb 0 m (omega (arith, one))

      replied : IsReplied setups cs (counted.each setups steps files ticks k ts is rest) is.indexable.few_chunks p.collector up is.undisturbed.actors.collector.at is.undisturbed.actors.collector.kind_is lines bytes index at_collector.0.mid.number collected.sent
      replied =
          all_replied setups cs (counted.each setups steps files ticks k ts is rest) is.indexable.few_chunks p.collector up is.undisturbed.actors.collector.at is.undisturbed.actors.collector.kind_is lines bytes index collected (steps_of setups steps files ticks k ts is rest).collecting at_collector.0.mid.number
          ((steps_of setups steps files ticks k ts is rest).asks at_collector.0 taken_there is_request)

      right : RightAt replied.0
      right = one_of RightAt collected.sent replied.0 (all_right setups steps files ticks k ts is rest) replied.1

      at_conductor : (e : Taken) × Contains (joined (k.journal replied.0.to)) e × (e.mid ≡ replied.0.mid) × (e.body ≡ replied.0.body)
      at_conductor = sent_arrives p.collector replied.0 (collector_within setups steps files ticks k ts is rest) replied.1

      answered_none : waiting_of (length steps) lines bytes index first_sent_by m (read kind_rules (started setups steps files ticks k ts is) later) ≡ 0
      answered_none = by (begun.has at_conductor.0 (subst (λ (r : ℕ). Contains (joined (k.journal r)) at_conductor.0) right.to at_conductor.1))
        where
          body_is : at_conductor.0.body ≡ «plain».Content (final_answer index lines bytes right.question)
          body_is = at_conductor.3 ∙ right.body

          by : (at_conductor.0 ≡ start_envelope) ⊎ Contains later at_conductor.0 → waiting_of (length steps) lines bytes index first_sent_by m (read kind_rules (started setups steps files ticks k ts is) later) ≡ 0
          by (inl start) = let bad : «plain».System notice.Start ≡ «plain».Content (final_answer index lines bytes right.question) = ap (λ (x : Taken). x.body) (sym start) ∙ body_is in cc
          by (inr has) =
              let response = ap (λ (x : Mid). x.response) at_conductor.2 ∙ right.response in
              let same : at_conductor.0.mid.number ≡ m = ap (λ (x : Mid). x.number) at_conductor.2 ∙ replied.2 ∙ number_is in
              subst (λ (n : ℕ). waiting_of (length steps) lines bytes index first_sent_by n (read kind_rules (started setups steps files ticks k ts is) later) ≡ 0) same (settles.none at_conductor.0 (final_answer index lines bytes right.question) has body_is response)

  settled_at : (m : ℕ) (q : Question) → IsAsked m q → m < length steps → slice_get settles.awaiting.conducting.script.replies m ≡ Some (right_reply (length steps) lines bytes index first_sent_by q)
  settled_at m q asked low = elim (settles.awaiting.settled m q asked low) [
    | inl some ↦ (let none = waits_no_more m q asked low in absurd (omega (arith, none, some)))
    | inr done ↦ done
  ]

  -- ---- the end

  abbrev pub replies_at_end : List Reply
  replies_at_end = settles.awaiting.conducting.script.replies

  pub conductor_stands : outline_of (ends (machine_of kind_rules) k 0) ≡ (read kind_rules (started setups steps files ticks k ts is) later).outline
  conductor_stands = (read_any setups steps files ticks k ts is 0 (0_within setups steps files ticks k ts is rest)).stands ∙ ap (λ (o : Outlined Kind). o.outline) begun.reads

  script_long : 2 ≤ length steps
  script_long = plain_long p steps is.undisturbed.plays

  pub has_answers : HasAnswers steps files replies_at_end
  has_answers = record {
    first = settles.awaiting.first;
    index = settled_at 1 question.Index (inl (refl, refl)) (let long = script_long in omega (arith, long)) ∙ ap (λ x. Some (right_reply (length steps) lines bytes x first_sent_by question.Index)) (index_is setups steps files ticks k ts is rest);
    totals = λ m above low. settled_at m question.Totals (inr (above, refl)) low;
  }

  pub answered : AreAnswered k steps files
  answered = record { replies = replies_at_end; has = ap (λ (o : Outline Kind). replies_of o.behavior) conductor_stands ∙ ap replies_of settles.awaiting.is; are = has_answers }

pub resting_requests_are_answered : RestingRequestsAreAnswered
resting_requests_are_answered setups steps files ticks k ts is rest = answered setups steps files ticks k ts is rest
