-- What the actors of the bank do: their next value and their reaction at an input.
use Rattle.std.specs.Prelude.{◌≡◌, ℕ, List, [], ◌∷◌, ◌++◌, false, Option, Some, None}
use Rattle.caf_types.specs.declared.notice.Priority.TheVariants as priority
use Rattle.caf_types.specs.declared.reason.Reason.TheVariants as reason
use Rattle.caf_types.specs.declared.sec.Sec.TheVariants as sec
use Rattle.caf_words.specs.Datum.{Data, no_data, more, a_unit, an_unsigned}
use Rattle.caf_response.specs.declared.pending.Mode.TheVariants as mode
use Rattle.caf_actor.specs.PlainInput.{PlainInput, Start, Stop, Content, Response, Failed}
use Rattle.caf_actor.specs.PlainOutput.{PlainOutput}
use Rattle.caf_actor.specs.PlainOutput as output
use Rattle.caf_actor.specs.PlainReaction.{PlainAnswer}
use Rattle.caf_actor.specs.PlainReaction as answer
use Rattle.caf_actor.specs.Rules.{Rules}
use Rattle.caf_kinds.specs.Asking.{Types, type_id, of_unsigned, asked, content}
use Rattle.example_bank.specs.Types.{depositing, withdrawing, waiting_for, balance, bank_interface, number_content}
use Rattle.example_bank.specs.Account.{decide}
use Rattle.example_bank.specs.declared.account.Account.{Account}
use Rattle.example_bank.specs.declared.account.Waiting.{Waiting}
use Rattle.example_bank.specs.declared.account.Ask.{Ask}
use Rattle.example_bank.specs.declared.account.Ask.TheVariants as ask
use Rattle.example_bank.specs.declared.account.Outcome.{Outcome}
use Rattle.example_bank.specs.declared.account.Reply.{Reply}
use Rattle.example_bank.specs.declared.account.Reply.TheVariants as reply
use Rattle.example_bank.specs.declared.member.Got.{Got}
use Rattle.example_bank.specs.declared.member.Got.TheVariants as got
use Rattle.example_bank.specs.declared.member.Role.{Role}
use Rattle.example_bank.specs.declared.member.Role.TheVariants as role
use Rattle.example_bank.specs.declared.member.Member.{Member}
use Rattle.example_bank.specs.declared.member.TheConstants.{GIRO, SAVINGS}

-- ---- a teller

-- so many coins, asked in one of the ways
abbrev pub coins_asked : Types → ℕ → List ℕ
coins_asked types n = content types (more a_unit (more (an_unsigned n) no_data))

-- a request that is to be answered by a number
abbrev pub asking : ℕ → ℕ → List ℕ → PlainOutput
asking to request words = output.Request to priority.Normal mode.Multiplexed request (type_id 2 ∷ []) words

abbrev pub asks : List PlainOutput
asks =
    asking GIRO 1 (coins_asked depositing 100) ∷ asking GIRO 2 (coins_asked withdrawing 150) ∷ asking SAVINGS 3 (coins_asked waiting_for 50)
    ∷ asking GIRO 4 (coins_asked withdrawing 60) ∷ asking SAVINGS 5 (coins_asked depositing 60) ∷ asking GIRO 6 (content balance (more a_unit no_data)) ∷ []

-- at the start it asks, and at the end it ends the accounts
abbrev pub told : PlainInput → List PlainOutput
told Start = asks
told Stop = output.Exit GIRO reason.Normal ∷ output.Exit SAVINGS reason.Normal ∷ []
told _ = []

abbrev pub told_answer : PlainInput → PlainAnswer
told_answer (Content origin words) = answer.Error sec.Failed
told_answer _ = answer.Nothing

abbrev pub got_of : ℕ → Option Data → Got
got_of request (Some (more (an_unsigned n) no_data)) = got.Coins request n
got_of request _ = got.Error request sec.UnexpectedResponse

abbrev pub got_in : ℕ → List ℕ → Got
got_in request words = got_of request (asked of_unsigned words)

-- it keeps what it gets
abbrev pub got_after : List Got → PlainInput → List Got
got_after gots (Response request words) = gots ++ got_in request words ∷ []
got_after gots (Failed request why) = gots ++ got.Error request why ∷ []
got_after gots _ = gots

-- ---- an account

-- of what is asked in these ways, the first
abbrev pub coins_or : Option Data → (ℕ → Ask) → Option Ask → Option Ask
coins_or (Some (more a_unit (more (an_unsigned n) no_data))) it other = Some (it n)
coins_or _ it other = other

abbrev pub balance_or : Option Data → Option Ask
balance_or None = None
balance_or (Some values) = Some ask.Balance

abbrev pub ask_in : List ℕ → Option Ask
ask_in words =
    coins_or (asked depositing words) ask.Deposit
    (coins_or (asked withdrawing words) ask.Withdraw
    (coins_or (asked waiting_for words) ask.WaitFor
    (balance_or (asked balance words))))

-- at content it does what it decides
abbrev pub account_after : Account → PlainInput → Account
account_after a (Content origin words) = (decide a origin (ask_in words)).account
account_after a _ = a

abbrev pub released : ℕ → Option Waiting → List PlainOutput
released n None = []
released n (Some w) = output.Deliver w.requester w.number (number_content n) ∷ []

abbrev pub served_by : Outcome → List PlainOutput
served_by o = released o.account.balance o.released

abbrev pub served : Account → PlainInput → List PlainOutput
served a (Content origin words) = served_by (decide a origin (ask_in words))
served a _ = []

abbrev pub replied : ℕ → Reply → PlainAnswer
replied n reply.Balance = answer.Value (number_content n)
replied n reply.Refused = answer.Error sec.Failed
replied n reply.Later = answer.Hold

abbrev pub replied_by : Outcome → PlainAnswer
replied_by o = replied o.account.balance o.reply

abbrev pub served_answer : Account → PlainInput → PlainAnswer
served_answer a (Content origin words) = replied_by (decide a origin (ask_in words))
served_answer a _ = answer.Nothing

-- ---- all of them

abbrev pub role_after : Role → PlainInput → Role
role_after (role.Teller gots) i = role.Teller (got_after gots i)
role_after (role.Account a) i = role.Account (account_after a i)

abbrev pub outputs_of : Role → PlainInput → List PlainOutput
outputs_of (role.Teller gots) i = told i
outputs_of (role.Account a) i = served a i

abbrev pub answer_of : Role → PlainInput → PlainAnswer
answer_of (role.Teller gots) i = told_answer i
answer_of (role.Account a) i = served_answer a i

-- a teller sends to the accounts, and these send to nobody but those who asked
abbrev pub peers_of : Role → List ℕ
peers_of (role.Teller gots) = GIRO ∷ SAVINGS ∷ []
peers_of (role.Account a) = []

abbrev pub rules : Rules Member
rules = record {
  place = λ m. m.place;
  interface = λ m. m.interface;
  peers = λ m. peers_of m.role;
  reserve = λ m. m.reserve;
  skips = λ m ids. false;
  delegates = λ m ids. false;
  next = λ m i. record m { role = role_after m.role i };
  reaction = λ m i. record { outputs = outputs_of m.role i; answer = answer_of m.role i; quit = None };
}

abbrev pub IsMember : Member → Type 0
IsMember m = m.interface ≡ bank_interface
