-- Telling one event to the word saver.
use Rattle.std.proofs.Common.{◌≡◌, ℕ, List, [], ◌∷◌, ◌++◌, sym, ap, ◌∙◌}
use Rattle.std.proofs.lemmas.List.{append-nil}
use Rattle.std.proofs.lemmas.List.Concat.{flat_map-append}
use Rattle.caf_events.specs.Event.{Event}
use Rattle.caf_events.specs.Range.{IsInRange}
use Rattle.caf_events.specs.Tells.{Tells}
use Rattle.caf_events.proofs.RangeLemmas.{range_more}
use Rattle.caf_inspect.specs.WordForm.{words_of, all_words}
use Rattle.caf_inspect.specs.WordSaver.{SavesWords}
use Rattle.caf_inspect.specs.declared.word_saver.WordSaver.{WordSaver}

pub word_told : {old new : WordSaver} {e : Event} → new.words.items ≡ old.words.items ++ words_of e → IsInRange e → Tells SavesWords old new (e ∷ [])
word_told {old = old} {new = new} {e = e} added range = record {
  after = λ es h. record {
    form = added ∙ ap (λ (ws : List ℕ). ws ++ words_of e) h.form ∙ ap (λ (ws : List ℕ). all_words es ++ ws) (sym (append-nil (words_of e))) ∙ sym (flat_map-append words_of es (e ∷ []));
    range = range_more es e h.range range;
  };
}

-- an event without words
pub word_none : {saver : WordSaver} {e : Event} → words_of e ≡ [] → IsInRange e → Tells SavesWords saver saver (e ∷ [])
word_none {saver = saver} {e = e} none range = word_told (sym (append-nil saver.words.items) ∙ ap (λ (ws : List ℕ). saver.words.items ++ ws) (sym none)) range
