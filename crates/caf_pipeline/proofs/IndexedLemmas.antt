-- Where the relay took all chunks, the collector has the plain index of the files.
use Rattle.std.proofs.Common.{◌≡◌, ℕ, ◌+◌, ◌-◌, ◌<◌, true, false, List, [], ◌∷◌, ◌++◌, length, map, Some, inl, inr, sym, subst, ap, ◌∙◌, arith}
use Rattle.std.specs.Prelude.{◌^◌, All, Contains}
use Rattle.std.specs.FinMap as finite
use Rattle.std.specs.List.{AllByRecursion}
use Rattle.std.proofs.lemmas.Bool.{ltb-true}
use Rattle.std.proofs.lemmas.List.Elements.{Contains-append_left, Contains-append_right, Contains-append_cases}
use Rattle.caf_message.specs.declared.envelope.Plain.{Plain}
use Rattle.caf_message.specs.declared.envelope.Plain.TheVariants as «plain»
use Rattle.caf_message.specs.declared.envelope.Taken.{Taken}
use Rattle.caf_actor.specs.Answering.{origin_of}
use Rattle.caf_actor.specs.PlainInput.{PlainInput, Content}
use Rattle.caf_actor.specs.Record.{Kept, machine_of, IsAtRest}
use Rattle.caf_actor.specs.Run.{Turn}
use Rattle.caf_actor.specs.declared.origin.Origin.{Origin}
use Rattle.caf_actor.specs.declared.snapshot.Snapshot.{Snapshot}
use Rattle.caf_index.specs.Filled.{Entry, with_entries, IsFromAChunk}
use Rattle.caf_index.specs.Index.{Entries}
use Rattle.caf_index.specs.Postings.{posting_at, postings_of}
use Rattle.caf_index.proofs.ContainsLemmas.{contains-none, contains-cases, contains-map, from-map}
use Rattle.caf_index.proofs.FilledLemmas.{postings-fill}
use Rattle.caf_kinds.specs.Collector.{entry_of}
use Rattle.caf_kinds.specs.Counter.{item_of}
use Rattle.caf_kinds.specs.FileChunks.{IsChunk, all_chunks, chunk_at}
use Rattle.caf_kinds.specs.Keeping.{first_of_and}
use Rattle.caf_kinds.specs.Kinds.{kind_rules, index_of}
use Rattle.caf_kinds.specs.Pipeline.{postings_content}
use Rattle.caf_kinds.specs.declared.contents.Chunk.{Chunk}
use Rattle.caf_kinds.specs.declared.kind.Kind.{Kind}
use Rattle.caf_kinds.specs.declared.script.Step.{Step}
use Rattle.caf_kinds.specs.declared.setup.KindName.TheVariants as name
use Rattle.caf_kinds.specs.declared.setup.Setup.{Setup}
use Rattle.caf_steady.specs.Outline.{Outlined, outline_of}
use Rattle.caf_steady.specs.Reading.{read, read_one, all_in_turn}
use Rattle.caf_steady.specs.Steady.{Brings, IsSteady}
use Rattle.caf_steady.proofs.ClassLemmas.{steady_behavior}
use Rattle.caf_steady.proofs.ReadingLemmas.{reads_in_turn}
use Rattle.caf_pipeline.specs.Parts.{index_content, totals_content, told_postings, told_extent, told_finish}
use Rattle.caf_pipeline.specs.Contents.{counted, told_to, asked_of, comes}
use Rattle.caf_pipeline.specs.Flow.{IsUndisturbedRecord}
use Rattle.caf_pipeline.specs.Indexed.{IsRelayed, IsIndexed, RelayedFilesAreIndexed}
use Rattle.caf_pipeline.proofs.ListLemmas.{one_of}
use Rattle.caf_pipeline.proofs.ArrivalLemmas.{all_turns_have}
use Rattle.caf_pipeline.proofs.ChunkLemmas.{in_files}
use Rattle.caf_pipeline.proofs.ClassLemmas.{at_content, Goes}
use Rattle.caf_pipeline.proofs.CollectedLemmas.{chunks, brought, steady, starts, begins_as, may_come, collected}
use Rattle.caf_pipeline.proofs.CollectorLemmas.{Collects, collector_goes}
use Rattle.caf_pipeline.proofs.EntryLemmas.{entries_in, index_after, entries_on, chunk_entries, from_chunk}
use Rattle.caf_pipeline.proofs.FlowLemmas.{as_content, one_leads, one_stays, in_turns}
use Rattle.caf_pipeline.proofs.PartLemmas.{hands_on}

-- ---- the entries of what was taken

abbrev pub words_of : Plain → List ℕ
words_of («plain».Content words) = words
words_of _ = []

abbrev pub told_entries : List Taken → List Entry
told_entries [] = []
told_entries (e ∷ es) = entries_in (words_of e.body) ++ told_entries es

told_has : (es : List Taken) (t : Taken) (words : List ℕ) (e : Entry) → Contains es t → t.body ≡ «plain».Content words → Contains (entries_in words) e → Contains (told_entries es) e
told_has [] t words e has body listed = absurd (contains-none t has)
told_has (x ∷ xs) t words e has body listed = elim (contains-cases x t xs has) [
  | inl is ↦
      (let same : words_of x.body ≡ words = ap (λ (y : Taken). words_of y.body) is ∙ ap words_of body in
      Contains-append_left (entries_in (words_of x.body)) (told_entries xs) e (subst (λ (ws : List ℕ). Contains (entries_in ws) e) (sym same) listed))
  | inr later ↦ Contains-append_right (entries_in (words_of x.body)) (told_entries xs) e (told_has xs t words e later body listed)
]

module _ (setups : List Setup) (script : List Step) (files : List (List ℕ)) (ticks : ℕ) (k : Kept (Snapshot Kind)) (ts : List Turn) (is : IsUndisturbedRecord setups script files ticks k ts) where
  abbrev cs : List Chunk
  cs = all_chunks files

  abbrev col : ℕ
  col = is.undisturbed.pipeline.collector

  abbrev s : Setup
  s = is.undisturbed.actors.collector.setup

  goes : (b : Kind) (i : PlainInput) → Collects b → comes setups cs col i ≡ true → Goes setups cs col Collects b i
  goes b i inv e = collector_goes setups cs (chunks setups script files ticks k ts is) col s is.undisturbed.actors.collector.kind_is b i inv (may_come setups script files ticks k ts is col s i is.undisturbed.actors.collector.at e)

  -- ---- reading puts the entries into the index

  indexed : (b : Kind) (index : Entries) (o : Origin) (words : List ℕ) → Collects b → index_of b ≡ Some index → index_of (kind_rules.next b (Content o words)) ≡ Some (with_entries index (entries_in words))
  indexed b index o words inv e =
      let both : Some inv.collector.index ≡ Some index = sym (ap index_of inv.is) ∙ e in
      let same : inv.collector.index ≡ index = cc in
      ap (λ (x : Kind). index_of (kind_rules.next x (Content o words))) inv.is
      ∙ ap (λ (x : Entries). Some x) (index_after inv.collector o words ∙ ap (λ (x : Entries). with_entries x (entries_in words)) same)

  reads_index : (o : Outlined Kind) (es : List Taken) (index : Entries) → Collects o.outline.behavior → index_of o.outline.behavior ≡ Some index → AllByRecursion (Brings (comes setups cs col)) es
      → index_of (read kind_rules o es).outline.behavior ≡ Some (with_entries index (told_entries es))
  reads_index o [] index inv e all = e
  reads_index o (t ∷ es) index inv e all =
      let at = is.undisturbed.actors.collector.at in
      let brings = as_content setups cs col s at Collects goes t all.0 in
      let words : words_of t.body ≡ brings.words = ap words_of brings.body_is in
      let next = ap index_of (one_leads setups cs col s at Collects goes o t inv brings) ∙ indexed o.outline.behavior index (origin_of t) brings.words inv e
      ∙ ap (λ (ws : List ℕ). Some (with_entries index (entries_in ws))) (sym words) in
      reads_index (read_one kind_rules o t) es (with_entries index (entries_in (words_of t.body))) (one_stays setups cs col s at Collects goes o t inv all.0) next all.1
      ∙ ap (λ (x : Entries). Some x) (sym (entries_on index (entries_in (words_of t.body)) (told_entries es)))

  -- ---- the entries are those of chunks

  from_told : (words : List ℕ) → Contains (told_to cs name.Collector false) words → (e : Entry) → Contains (entries_in words) e → IsFromAChunk files e
  from_told words has e listed =
      elim (Contains-append_cases (map counted cs) (map told_extent cs ++ told_finish (length cs) ∷ []) words has) [
        | inl here ↦ (let from = from-map counted words cs here in
            let c = from.0 in
            let same : told_postings c ≡ words = sym (ap postings_content (hands_on.lowered_postings c)) ∙ from.2 in
            from_chunk files c from.1 (one_of IsChunk cs c (chunks setups script files ticks k ts is) from.1) e (subst (λ (ws : List ℕ). Contains (entries_in ws) e) (sym same) listed))
        | inr more ↦ elim (Contains-append_cases (map told_extent cs) (told_finish (length cs) ∷ []) words more) [
          | inl here ↦ (let from = from-map told_extent words cs here in absurd (contains-none e (subst (λ (ws : List ℕ). Contains (entries_in ws) e) (sym from.2) listed)))
          | inr last ↦ elim (contains-cases (told_finish (length cs)) words [] last) [
            | inl same ↦ absurd (contains-none e (subst (λ (ws : List ℕ). Contains (entries_in ws) e) (sym same) listed))
            | inr none ↦ absurd (contains-none words none)
          ]
        ]
      ]

  from_asked : (words : List ℕ) → Contains (asked_of name.Collector) words → (e : Entry) → Contains (entries_in words) e → IsFromAChunk files e
  from_asked words has e listed =
      elim (contains-cases index_content words (totals_content ∷ []) has) [
        | inl same ↦ absurd (contains-none e (subst (λ (ws : List ℕ). Contains (entries_in ws) e) (sym same) listed))
        | inr more ↦ elim (contains-cases totals_content words [] more) [
          | inl same ↦ absurd (contains-none e (subst (λ (ws : List ℕ). Contains (entries_in ws) e) (sym same) listed))
          | inr none ↦ absurd (contains-none words none)
        ]
      ]

  abbrev IsRight : PlainInput → Type 0
  IsRight (Content o words) = (e : Entry) → Contains (entries_in words) e → IsFromAChunk files e
  IsRight _ = Unit {0}

  all_right_in : (es : List Taken) → AllByRecursion (Brings (comes setups cs col)) es → (e : Entry) → Contains (told_entries es) e → IsFromAChunk files e
  all_right_in [] all e has = absurd (contains-none e has)
  all_right_in (t ∷ es) all e has = elim (Contains-append_cases (entries_in (words_of t.body)) (told_entries es) e has) [
    | inl here ↦
        (let at = is.undisturbed.actors.collector.at in
        let brings = as_content setups cs col s at Collects goes t all.0 in
        let words : words_of t.body ≡ brings.words = ap words_of brings.body_is in
        let right : IsRight (Content (origin_of t) brings.words) = at_content setups cs col IsRight s name.Collector is.undisturbed.actors.collector.kind_is
        (λ o ws told listed. from_told ws listed) (λ o ws from_0 listed. from_asked ws listed) (Content (origin_of t) brings.words)
        (may_come setups script files ticks k ts is col s (Content (origin_of t) brings.words) at brings.comes) in
        right e (subst (λ (ws : List ℕ). Contains (entries_in ws) e) words here))
    | inr later ↦ all_right_in es all.1 e later
  ]

  -- ---- every posting of a chunk is an entry

  module _ (rest : IsAtRest (machine_of kind_rules) k) (relayed : IsRelayed k is.undisturbed.pipeline files) where
    all_there : (e : Entry) → IsFromAChunk files e → Contains (told_entries (all_in_turn (k.journal col))) e
    all_there e from =
        let span = from.posting.chunk in
        let one = in_files 1 0 files (e.file - 1) from.bytes span from.is_file from.posting.is_chunk in
        let c = chunk_at (1 + (e.file - 1)) one.0 from.bytes span in
        let taken = (collected setups script files ticks k ts is rest c one.1).postings (relayed c one.1) in
        let some = from.from_one in
        let file : 1 + (e.file - 1) ≡ e.file = omega (arith, some) in
        let posting = posting_at e.word e.line in
        let item = contains-map item_of posting (postings_of c.line c.bytes) from.posting.listed in
        let entry = contains-map (entry_of c.file) (item_of posting) (map item_of (postings_of c.line c.bytes)) item in
        let same : entry_of c.file (item_of posting) ≡ e = ap (λ (f : ℕ). record { word = e.word; file = f; line = e.line }) file in
        let listed = subst (λ (es : List Entry). Contains es e) (sym (chunk_entries c (one_of IsChunk cs c (chunks setups script files ticks k ts is) one.1))) (subst (Contains (map (entry_of c.file) (map item_of (postings_of c.line c.bytes)))) same entry) in
        told_has (all_in_turn (k.journal col)) taken.envelope (told_postings c) e (all_turns_have (k.journal col) taken.envelope taken.is_taken) taken.body_is listed

    small_files : All (λ (bytes : List ℕ). length bytes < 2 ^ 64) files
    small_files = λ n d low. ltb-true _ (2 ^ 64) (first_of_and _ _ (is.indexable.bytes n d low))

    pub is_indexed : IsIndexed k is.undisturbed.pipeline files
    is_indexed =
        let up = is.undisturbed.actors.collector in
        let all = brought setups script files ticks k ts is col in
        let begun = steady setups script files ticks k ts is col (starts setups script files ticks k ts is col s up.at).within in
        let starts_so = begins_as setups script files ticks k ts is col s name.Collector up.at up.kind_is in
        let inv : Collects (k.start col).behavior = record { collector = _; is = starts_so; held = tt } in
        let steady_now : IsSteady kind_rules (comes setups cs col) (k.start col) = record { behavior = steady_behavior (comes setups cs) kind_rules col (k.start col).behavior begun.keeps; begun = begun.begun; here = begun.here; awaits = begun.awaits } in
        let has_read = reads_in_turn kind_rules (comes setups cs col) (k.start col) (k.journal col) steady_now begun.empty all in
        let turns = all_in_turn (k.journal col) in
        let brought_so = in_turns setups cs col s up.at Collects goes col [] (k.journal col) all in
        ap (λ o. index_of o.behavior) has_read.stands
        ∙ reads_index (record { outline = outline_of (k.start col); sent = [] }) turns finite.empty inv (ap index_of starts_so) brought_so
        ∙ ap (λ (x : Entries). Some x) (postings-fill files (told_entries turns) small_files (λ e. (all_right_in turns brought_so e, all_there e)))

pub files_are_indexed : RelayedFilesAreIndexed
files_are_indexed setups script files ticks k ts is rest relayed = is_indexed setups script files ticks k ts is rest relayed
