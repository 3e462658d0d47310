-- A value of the program as a plain tree: one fold.
use Rattle.caf_words.specs.Datum.{Datum, a_unit, a_flag, an_unsigned, a_signed, a_text, some_bytes, a_place, a_list, an_object, data_of}
use Rattle.caf_words.specs.declared.value.Value.{Value}
use Rattle.caf_words.specs.declared.value.Value.TheOpen as open_value
use Rattle.caf_words.specs.declared.value.Value.TheOpen.{Value-F}
use Rattle.caf_words.specs.declared.value.Value.TheFolds.{fold-Value}

abbrev pub datum_step : Value-F Datum → Datum
datum_step open_value.Unit = a_unit
datum_step (open_value.Flag b) = a_flag b
datum_step (open_value.Unsigned n) = an_unsigned n
datum_step (open_value.Signed z) = a_signed z
datum_step (open_value.Text t) = a_text t
datum_step (open_value.Bytes b) = some_bytes b
datum_step (open_value.Place n) = a_place n
datum_step (open_value.List items) = a_list (data_of items)
datum_step (open_value.Object items) = an_object (data_of items)

abbrev pub datum : Value → Datum
datum = fold-Value Datum datum_step
