use Rattle.std.proofs.Common.{subst}
use Rattle.caf_actor.specs.Record.{IsComplete, machine_of}
use Rattle.caf_kinds.specs.Kinds.{kind_rules}
use Rattle.caf_headline.proofs.laws.complete_runs_keep_their_promises.Goals as goal

pub returns : goal.returns
returns c = λ setups script files ticks k ts is opens complete merge.
    let well = c.opening_is_fresh.ensures setups script files k is opens in
    let run = c.merge_is_a_run.ensures ticks k ts complete.legal merge in
    let closed = c.closes_all.ensures ticks k ts well.fresh well.closer complete merge in
    record {
      is_run = record { run_is = run.0; ends_are = run.1.0 };
      all_taken = c.every_message_is_taken.ensures ticks k complete;
      none_after = λ p early late. c.none_handled_after_quitting.ensures.1 k p early late;
      requests = record {
        carried = c.legal_record_is_carried.ensures ticks k ts well.fresh complete.legal merge;
        standing = c.resting_record_stands.ensures ticks k ts well.fresh complete.legal complete.rest merge;
        all_quit = closed.0;
        resolved = closed.1;
      };
      indexed = λ undisturbed indexable none. c.complete_files_are_indexed.ensures setups script files k ts (record {
        undisturbed = undisturbed;
        indexable = indexable;
        opens = opens;
        complete = subst (λ n. IsComplete (machine_of kind_rules) n k) none complete;
        merge = merge;
      });
    }
