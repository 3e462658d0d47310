-- A request to which an answer is promised.
use Rattle.caf_types.specs.declared.notice.Mid.{Mid}
use Rattle.caf_types.specs.declared.notice.Priority.{Priority}

pub record Promised : Type 0 where
  pub mid : Mid
  pub priority : Priority
