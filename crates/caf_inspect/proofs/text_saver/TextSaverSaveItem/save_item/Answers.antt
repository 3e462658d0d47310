use Rattle.std.proofs.Common.{◌∙◌, ap}
use Rattle.caf_inspect.specs.TextBuilder.{frames_of}
use Rattle.caf_inspect.specs.TextStack.{state}
use Rattle.std.proofs.Common.{[]}
use Rattle.caf_inspect.proofs.TextTellingLemmas.{text_told}
use Rattle.caf_inspect.proofs.text_saver.TextSaverSaveItem.save_item.Goals as goal

pub returns-clause-added : goal.returns-clause-added
returns-clause-added c =
    text_told c.in_ok-builder.builder c.take.new.self (c.in_ok-builder.ensures ∙ ap (λ ps. state (frames_of ps) []) c.as_slice.ensures.value) c.in_ok-take.ensures c.in_ok-add.ensures.added c.requires
