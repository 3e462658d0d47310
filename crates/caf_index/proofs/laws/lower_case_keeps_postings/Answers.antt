use Rattle.std.proofs.Common.{ap}
use Rattle.std.specs.Prelude.{map, false}
use Rattle.caf_index.specs.Postings.{stopped, posting_cmp, sorted_once}
use Rattle.caf_index.proofs.PostingLemmas.{words-lower}
use Rattle.caf_index.proofs.laws.lower_case_keeps_postings.Goals as goal

pub returns : goal.returns
returns c = λ line bytes. ap (λ ws. sorted_once posting_cmp (map stopped ws)) (words-lower false line bytes)
