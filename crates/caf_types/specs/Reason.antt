-- The numbers and the names of reasons.
use Rattle.std.specs.Prelude.{ℕ, List, Option, Some, None, codes, bytes_eq, if◌then◌else◌}
use Rattle.caf_types.specs.declared.reason.Reason.{Reason}
use Rattle.caf_types.specs.declared.reason.Reason.TheVariants as reason

abbrev pub reason_number : Reason → ℕ
reason_number reason.Normal = 0
reason_number reason.UserShutdown = 1
reason_number reason.Kill = 2
reason_number reason.Failed = 3

abbrev pub reason_name : Reason → List ℕ
reason_name reason.Normal = codes "normal"
reason_name reason.UserShutdown = codes "user_shutdown"
reason_name reason.Kill = codes "kill"
reason_name reason.Failed = codes "failed"

-- the reason with a name
abbrev pub reason_named : List ℕ → Option Reason
reason_named name =
    if bytes_eq name (codes "normal") then Some reason.Normal
    else if bytes_eq name (codes "user_shutdown") then Some reason.UserShutdown
    else if bytes_eq name (codes "kill") then Some reason.Kill
    else if bytes_eq name (codes "failed") then Some reason.Failed
    else None
