use Rattle.std.proofs.Common.{ℕ, ◌<◌, ◌^◌, List, length, Option, subst}
use Rattle.caf_io.specs.Files.{Content}
use Rattle.caf_kinds.specs.FileChunks.{AreByteLists}
use Rattle.caf_cli.specs.Reading.{IsCorpus}
use Rattle.caf_cli.proofs.ChosenLemmas.{chosen_opens}
use Rattle.caf_cli.proofs.running.played.Goals as goal

pub play_over-requires-clause-opens : goal.play_over-requires-clause-opens
play_over-requires-clause-opens g c =
    chosen_opens c.valid_scenario_opens.ensures c.builtin_opens.ensures (g.F.Files.told c.args.files.now) c.args.words.now.scenario c.in_ok-scenario.scenario c.in_ok-corpus.corpus
    c.in_ok-scenario.ensures.chosen c.in_ok-corpus.ensures.reads.within

pub returns-clause-run : goal.returns-clause-run
returns-clause-run g c =
    let corpus = c.in_ok-corpus.ensures.reads in
    record {
      chosen = c.in_ok-scenario.ensures.chosen;
      corpus = c.in_ok-corpus.corpus;
      reads = subst (λ (told : Option Content). IsCorpus told c.args.words.now.files c.in_ok-corpus.corpus) c.chosen.ensures.same_content corpus;
      play = c.in_ok-played.ensures;
      word = c.runs_keep_their_word.ensures (g.F.Files.told c.args.files.now) c.args.words.now c.in_ok-scenario.scenario c.in_ok-corpus.corpus c.in_ok-played.played
          c.in_ok-scenario.ensures.chosen corpus.within (subst AreByteLists c.as_slice.ensures c.know_files.ensures.bytes) (subst (λ (files : List (List ℕ)). length files < 2 ^ 64) c.as_slice.ensures c.know_files.ensures.few)
          c.in_ok-played.ensures;
    }
