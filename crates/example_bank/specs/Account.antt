-- What an account does at a request.
use Rattle.std.specs.Prelude.{ℕ, ◌+◌, ◌-◌, nat_lt, nat_le, if◌then◌else◌, Option, Some, None}
use Rattle.caf_actor.specs.Answering.{is_asked}
use Rattle.caf_actor.specs.declared.origin.Origin.{Origin}
use Rattle.example_bank.specs.declared.account.Account.{Account}
use Rattle.example_bank.specs.declared.account.Waiting.{Waiting}
use Rattle.example_bank.specs.declared.account.Ask.{Ask}
use Rattle.example_bank.specs.declared.account.Ask.TheVariants as ask
use Rattle.example_bank.specs.declared.account.Outcome.{Outcome}
use Rattle.example_bank.specs.declared.account.Reply.{Reply}
use Rattle.example_bank.specs.declared.account.Reply.TheVariants as reply

-- all stays as it is
abbrev pub answered : Account → Reply → Outcome
answered a r = record { account = a; released = None; reply = r }

-- the new balance is answered, also to the request that waits, if it is enough
abbrev pub paid : ℕ → Option Waiting → Outcome
paid n None = answered (record { balance = n; waiting = None }) reply.Balance
paid n (Some w) =
    if nat_le w.coins n then record { account = record { balance = n; waiting = None }; released = Some w; reply = reply.Balance }
    else answered (record { balance = n; waiting = Some w }) reply.Balance

-- where there is one
abbrev pub settled : Account → Option ℕ → Outcome
settled a None = answered a reply.Refused
settled a (Some n) = paid n a.waiting

-- a request waits, unless another one does
abbrev pub waits : Account → Origin → ℕ → Option Waiting → Outcome
waits a origin coins (Some w) = answered a reply.Refused
waits a origin coins None =
    if is_asked origin then answered (record a { waiting = Some (record { requester = origin.mid.requester; number = origin.mid.number; coins = coins }) }) reply.Later
    else answered a reply.Refused

abbrev pub held : Account → Origin → ℕ → Outcome
held a origin coins = waits a origin coins a.waiting

-- what is more than a balance can be, or isn't there, is refused
abbrev pub decide : Account → Origin → Option Ask → Outcome
decide a origin (Some (ask.Deposit coins)) = settled a (if nat_lt (a.balance + coins) 18446744073709551616 then Some (a.balance + coins) else None)
decide a origin (Some (ask.Withdraw coins)) = settled a (if nat_le coins a.balance then Some (a.balance - coins) else None)
decide a origin (Some (ask.WaitFor coins)) = if nat_lt a.balance coins then held a origin coins else answered a reply.Balance
decide a origin (Some ask.Balance) = answered a reply.Balance
decide a origin None = answered a reply.Refused
