-- What the word saver was told.
use Rattle.std.specs.Prelude.{◌≡◌, List}
use Rattle.caf_events.specs.Event.{Event}
use Rattle.caf_events.specs.Range.{AreInRange}
use Rattle.caf_inspect.specs.WordForm.{all_words}
use Rattle.caf_inspect.specs.declared.word_saver.WordSaver.{WordSaver}

-- the words are those of the events
pub record SavesWords (saver : WordSaver) (es : List Event) : Type 0 where
  pub form : saver.words.items ≡ all_words es
  pub range : AreInRange es
