-- The numbers and the names of errors.
use Rattle.std.specs.Prelude.{ℕ, List, codes}
use Rattle.caf_types.specs.declared.sec.Sec.{Sec}
use Rattle.caf_types.specs.declared.sec.Sec.TheVariants as sec

abbrev pub sec_number : Sec → ℕ
sec_number sec.UnexpectedMessage = 1
sec_number sec.UnexpectedResponse = 2
sec_number sec.RequestReceiverDown = 3
sec_number sec.RequestTimeout = 4
sec_number sec.BrokenPromise = 5
sec_number sec.Failed = 6
sec_number sec.NoPlace = 7

abbrev pub sec_name : Sec → List ℕ
sec_name sec.UnexpectedMessage = codes "unexpected_message"
sec_name sec.UnexpectedResponse = codes "unexpected_response"
sec_name sec.RequestReceiverDown = codes "request_receiver_down"
sec_name sec.RequestTimeout = codes "request_timeout"
sec_name sec.BrokenPromise = codes "broken_promise"
sec_name sec.Failed = codes "failed"
sec_name sec.NoPlace = codes "no_place"
