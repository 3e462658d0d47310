use Rattle.std.proofs.Common.{◌≡◌, length}
use Rattle.std.specs.List.{AllByRecursion}
use Rattle.caf_play.proofs.parting.first_stamps.Given as goal

abbrev pub invariant-loop-place : goal.invariant-loop-place
invariant-loop-place l = record {
  count : length l.stamps ≡ l.place;
  zeros : AllByRecursion (λ stamp. stamp ≡ 0) l.stamps;
}
