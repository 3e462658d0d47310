-- What a started actor is: it is who its setup says.
use Rattle.std.proofs.Common.{◌≡◌, ◌≢◌, ℕ, List, refl}
use Rattle.caf_kinds.specs.Kinds.{who}
use Rattle.caf_kinds.specs.Starting.{started}
use Rattle.caf_kinds.specs.Who.{Who}
use Rattle.caf_kinds.specs.declared.script.Step.{Step}
use Rattle.caf_kinds.specs.declared.setup.KindName.{KindName}
use Rattle.caf_kinds.specs.declared.setup.KindName.TheVariants as name
use Rattle.caf_kinds.specs.declared.setup.Setup.{Setup}

pub who_started : (w : Who) (s : Setup) (places : List Setup) (script : List Step) (files : List (List ℕ)) (k : KindName) → k ≢ name.Conductor → who (started w s places script files k) ≡ w
who_started w s places script files name.Echo other = refl
who_started w s places script files name.Cell other = refl
who_started w s places script files name.Calc other = refl
who_started w s places script files name.Holder other = refl
who_started w s places script files name.Quitter other = refl
who_started w s places script files name.Source other = refl
who_started w s places script files name.Relay other = refl
who_started w s places script files name.Counter other = refl
who_started w s places script files name.Lines other = refl
who_started w s places script files name.Collector other = refl
who_started w s places script files name.Watcher other = refl
who_started w s places script files name.Spawner other = refl
who_started w s places script files name.Alarm other = refl
who_started w s places script files name.Conductor other = absurd (other refl)
