-- What actors of each kind do, at contents that were spelled by hand.
use Rattle.std.proofs.Common.{◌≡◌, ℕ, ◌+◌, Bool, true, false, cond, [], ◌∷◌, Some, None, refl, sym, ap, ◌∙◌, arith}
use Rattle.std.specs.Prelude.{pos, codes}
use Rattle.caf_words.specs.Datum.{no_data, more, a_unit, a_text}
use Rattle.caf_types.specs.declared.notice.Priority.TheVariants as priority
use Rattle.caf_types.specs.declared.reason.Reason.TheVariants as reason
use Rattle.caf_types.specs.declared.sec.Sec.TheVariants as sec
use Rattle.caf_actor.specs.declared.origin.Origin.{Origin}
use Rattle.caf_actor.specs.PlainInput.{Content, Down}
use Rattle.caf_actor.specs.PlainOutput as output
use Rattle.caf_actor.specs.PlainReaction as answer
use Rattle.caf_kinds.specs.Asking.{asked_of}
use Rattle.caf_kinds.specs.Who.{Who}
use Rattle.caf_kinds.specs.Reacting.{answers, failed, quiet}
use Rattle.caf_kinds.specs.Echo as echo
use Rattle.caf_kinds.specs.Cell as cell
use Rattle.caf_kinds.specs.Calc as calc
use Rattle.caf_kinds.specs.Holder as holder
use Rattle.caf_kinds.specs.Quitter as quitter
use Rattle.caf_kinds.specs.Sights.{no_sights}
use Rattle.caf_kinds.specs.Watcher as watcher
use Rattle.caf_kinds.specs.Spawner as spawner
use Rattle.caf_kinds.specs.Alarms.{no_alarms}
use Rattle.caf_kinds.specs.Alarm as alarm
use Rattle.caf_kinds.specs.declared.echo.Echo.{Echo}
use Rattle.caf_kinds.specs.declared.cell.Cell.{Cell}
use Rattle.caf_kinds.specs.declared.calc.Calc.{Calc}
use Rattle.caf_kinds.specs.declared.holder.Holder.{Holder}
use Rattle.caf_kinds.specs.declared.quitter.Quitter.{Quitter}
use Rattle.std.specs.FinMap as finite
use Rattle.caf_kinds.specs.Source as source
use Rattle.caf_kinds.specs.Relay as relay
use Rattle.caf_kinds.specs.Counter as counter
use Rattle.caf_kinds.specs.Lines as lines
use Rattle.caf_kinds.specs.Collector as collector
use Rattle.caf_index.specs.Index.{Entries, with_entry, has_entry, entry_count}
use Rattle.caf_index.proofs.EntryLemmas.{has-empty, has-with_entry}
use Rattle.caf_index.proofs.CountLemmas.{entry_count-empty, entry_count-with_entry}
use Rattle.caf_kinds.specs.Pipeline.{sends, stopped, summary_content}
use Rattle.caf_kinds.specs.declared.source.Stage.TheVariants as stage
use Rattle.caf_kinds.specs.declared.questions.Question.TheVariants as question
use Rattle.caf_kinds.specs.declared.contents.Postings.{Postings}
use Rattle.caf_kinds.specs.declared.relay.Relay.{Relay}
use Rattle.caf_kinds.specs.declared.counter.Counter.{Counter}
use Rattle.caf_kinds.specs.declared.lines.Lines.{Lines}
use Rattle.caf_kinds.specs.declared.collector.Collector.{Collector}
use Rattle.caf_kinds.specs.declared.watcher.Watcher.{Watcher}
use Rattle.caf_kinds.specs.declared.spawner.Spawner.{Spawner}
use Rattle.caf_kinds.specs.declared.alarm.AlarmClock.{AlarmClock}

abbrev place_1 : Who
place_1 = record { place = 1; peers = []; reserve = [] }

-- the request of place 0 with that number, and content that is no request
abbrev request : ℕ → Origin
request n = record { sender = 0; mid = record { requester = 0; number = n; response = false }; priority = priority.Normal }

abbrev told : Origin
told = request 0

-- ---- calc

abbrev a_calc : Calc
a_calc = record { identity = place_1 }

adds : (calc.reacted a_calc (Content (request 1) (3 ∷ 211 ∷ 3 ∷ 3 ∷ 0 ∷ 2 ∷ 3 ∷ []))).1 ≡ answers (answer.Value (1 ∷ 3 ∷ 5 ∷ []))
unfolding asked_of
adds = refl

-- 9,223,372,036,854,775,807 and 1
add_reports_overflow : (calc.reacted a_calc (Content (request 1) (3 ∷ 211 ∷ 3 ∷ 3 ∷ 0 ∷ 9223372036854775807 ∷ 1 ∷ []))).1 ≡ answers failed
unfolding asked_of
add_reports_overflow = refl

-- 0 less 1 is -1
subtracts : (calc.reacted a_calc (Content (request 1) (3 ∷ 212 ∷ 3 ∷ 3 ∷ 0 ∷ 0 ∷ 1 ∷ []))).1 ≡ answers (answer.Value (1 ∷ 3 ∷ 18446744073709551615 ∷ []))
unfolding asked_of
subtracts = refl

-- -9,223,372,036,854,775,808 times -1
multiply_reports_overflow : (calc.reacted a_calc (Content (request 1) (3 ∷ 213 ∷ 3 ∷ 3 ∷ 0 ∷ 9223372036854775808 ∷ 18446744073709551615 ∷ []))).1 ≡ answers failed
unfolding asked_of
multiply_reports_overflow = refl

-- ---- cell

abbrev a_cell : Cell
a_cell = record { identity = place_1; value = pos 0 }

keeps_seven : (cell.reacted a_cell (Content told (2 ∷ 214 ∷ 3 ∷ 0 ∷ 7 ∷ []))).0 ≡ record { identity = place_1; value = pos 7 }
unfolding asked_of
keeps_seven = refl

answers_zero_at_first : (cell.reacted a_cell (Content (request 1) (1 ∷ 215 ∷ 0 ∷ []))).1 ≡ answers (answer.Value (1 ∷ 3 ∷ 0 ∷ []))
unfolding asked_of
answers_zero_at_first = refl

-- ---- echo

abbrev an_echo : Echo
an_echo = record { identity = place_1; is_asleep = true }

sleeps : echo.skips an_echo (4 ∷ []) ≡ true
sleeps = refl

takes_wake : echo.skips an_echo (216 ∷ []) ≡ false
takes_wake = refl

wakes : (echo.reacted an_echo (Content (request 2) (1 ∷ 216 ∷ 0 ∷ []))).0 ≡ record { identity = place_1; is_asleep = false }
wakes = refl

answers_a : (echo.reacted an_echo (Content (request 1) (1 ∷ 4 ∷ 1 ∷ 97 ∷ []))).1 ≡ answers (answer.Value (1 ∷ 4 ∷ 1 ∷ 97 ∷ []))
answers_a = refl

-- ---- quitter

abbrev a_quitter : Quitter
a_quitter = record { identity = place_1 }

leaves_normally : quitter.leaves (Some (more a_unit (more (a_text (codes "normal")) no_data))) ≡ record { outputs = []; answer = answer.Value (1 ∷ 0 ∷ 0 ∷ []); quit = Some reason.Normal }
leaves_normally = refl

stays_for_no_reason : quitter.leaves (Some (more a_unit (more (a_text (codes "no")) no_data))) ≡ answers failed
stays_for_no_reason = refl

-- ---- holder

abbrev a_holder : Holder
a_holder = record { identity = place_1; held = [] }

abbrev holding : Holder
holding = record { identity = place_1; held = record { requester = 0; number = 1; text = 1 ∷ 4 ∷ 1 ∷ 97 ∷ [] } ∷ [] }

holds_a : holder.holds a_holder (request 1) (Some (more (a_text (97 ∷ [])) no_data)) ≡ (holding, answers answer.Hold)
holds_a = refl

is_no_request : holder.reacted a_holder (Content told (1 ∷ 4 ∷ 1 ∷ 97 ∷ [])) ≡ (a_holder, quiet)
is_no_request = refl

settles_a : holder.reacted holding (Content (request 2) (1 ∷ 218 ∷ 0 ∷ []))
    ≡ (a_holder, record { outputs = output.Deliver 0 1 (1 ∷ 4 ∷ 1 ∷ 97 ∷ []) ∷ []; answer = answer.Value (1 ∷ 2 ∷ 1 ∷ []); quit = None })
settles_a = refl

-- ---- a pipeline

-- at place 1, with the peers 2, 3 and 4
abbrev has_peers : Who
has_peers = record { place = 1; peers = 2 ∷ 3 ∷ 4 ∷ []; reserve = [] }

-- ---- source

-- of two files, with the bytes `a` and `b`
abbrev a_source : source.Sourced
a_source = source.started has_peers ((97 ∷ []) ∷ (98 ∷ []) ∷ [])

starts : source.reacted a_source (Content told (1 ∷ 206 ∷ 0 ∷ []))
    ≡ (record a_source { stage = stage.Telling }, sends (output.Tell 1 priority.Normal (1 ∷ 207 ∷ 0 ∷ []) ∷ []))
starts = refl

more_before_start : source.reacted a_source (Content told (1 ∷ 207 ∷ 0 ∷ [])) ≡ (a_source, answers (answer.Value (1 ∷ 0 ∷ 0 ∷ [])))
more_before_start = refl

tells_both : (source.goes_on (record a_source { stage = stage.Telling })).1
    ≡ sends (output.TellMany (2 ∷ 3 ∷ []) priority.Normal (1 ∷ 200 ∷ 4 ∷ 1 ∷ 0 ∷ 1 ∷ 1 ∷ 97 ∷ [])
    ∷ output.TellMany (2 ∷ 3 ∷ []) priority.Normal (1 ∷ 200 ∷ 4 ∷ 2 ∷ 1 ∷ 1 ∷ 1 ∷ 98 ∷ [])
    ∷ output.Tell 4 priority.Normal (1 ∷ 205 ∷ 1 ∷ 2 ∷ []) ∷ [])
tells_both = refl

-- ---- relay

abbrev a_relay : Relay
a_relay = record { identity = has_peers }

-- chunk 7, of three peers, with the bytes `Ab`
hands_on : relay.on_chunk a_relay (Some (record { file = 1; number = 7; line = 1; bytes = 65 ∷ 98 ∷ [] })) ≡ sends (output.Tell 3 priority.Normal (1 ∷ 200 ∷ 4 ∷ 1 ∷ 7 ∷ 1 ∷ 2 ∷ 25185 ∷ []) ∷ [])
hands_on = refl

passes_count : (relay.reacted a_relay (Content (request 1) (1 ∷ 210 ∷ 0 ∷ []))).1 ≡ answers (answer.Delegate 2)
passes_count = refl

-- ---- counter

abbrev a_counter : Counter
a_counter = record { identity = has_peers; count = 0 }

-- of file 2, from line 5 on, `b a`, a line end and `b`
counts : counter.on_chunk a_counter (Some (record { file = 2; number = 0; line = 5; bytes = 98 ∷ 32 ∷ 97 ∷ 10 ∷ 98 ∷ [] }))
    ≡ (record a_counter { count = 1 }, sends (output.Tell 2 priority.Normal (1 ∷ 201 ∷ 2 ∷ 2 ∷ 3 ∷ 2 ∷ 1 ∷ 97 ∷ 5 ∷ 2 ∷ 1 ∷ 98 ∷ 5 ∷ 2 ∷ 1 ∷ 98 ∷ 6 ∷ []) ∷ []))
counts = refl

-- ---- lines

abbrev a_lines : Lines
a_lines = record { identity = has_peers }

-- `a`, a line end and `b`
measures : lines.on_chunk a_lines (Some (record { file = 1; number = 0; line = 1; bytes = 97 ∷ 10 ∷ 98 ∷ [] })) ≡ sends (output.Tell 2 priority.Normal (1 ∷ 202 ∷ 3 ∷ 1 ∷ 2 ∷ 3 ∷ []) ∷ [])
measures = refl

-- ---- collector

-- a [finish] with 2 came, and request 1 of place 0 asks [index]
abbrev a_collector : Collector
a_collector = record {
  identity = place_1;
  index = finite.empty;
  tally = record { postings = 0; extents = 0; lines = 0; bytes = 0; chunks = Some 2 };
  held = record { requester = 0; number = 1; question = question.Index } ∷ [];
}

-- that `a` stands in line 1 of that file
abbrev a_in_line_1 : ℕ → Postings
a_in_line_1 file = record { file = file; items = record { word = 97 ∷ []; line = 1 } ∷ [] }

-- the first [postings] is not enough
waits : (collector.on_postings a_collector (Some (a_in_line_1 1))).1 ≡ sends []
waits = refl

abbrev two_files : Entries
two_files = with_entry (with_entry finite.empty (97 ∷ []) 1 1) (97 ∷ []) 2 1

-- the second one is
answers_index : (collector.on_postings (collector.on_postings a_collector (Some (a_in_line_1 1))).0 (Some (a_in_line_1 2))).1
    ≡ sends (output.Deliver 0 1 (summary_content (record { words = stopped (finite.len two_files); postings = stopped (entry_count two_files) })) ∷ [])
answers_index = refl

-- one word in line 1 of two files: two entries
a_stands_twice : entry_count two_files ≡ 2
a_stands_twice =
    let one = with_entry finite.empty (97 ∷ []) 1 1 in
    let none : has_entry finite.empty (97 ∷ []) 1 1 ≡ false = has-empty (97 ∷ []) 1 1 in
    let other : has_entry one (97 ∷ []) 2 1 ≡ false = has-with_entry finite.empty (97 ∷ []) 1 1 (97 ∷ []) 2 1 ∙ has-empty (97 ∷ []) 2 1 in
    let first : entry_count one + 0 ≡ entry_count finite.empty + 1 = ap (λ (t : Bool). entry_count one + cond t 1 0) (sym none) ∙ entry_count-with_entry finite.empty (97 ∷ []) 1 1 in
    let second : entry_count two_files + 0 ≡ entry_count one + 1 = ap (λ (t : Bool). entry_count two_files + cond t 1 0) (sym other) ∙ entry_count-with_entry one (97 ∷ []) 2 1 in
    omega (arith, first, second, entry_count-empty)

-- a [finish] with 1 came, and request 1 of place 0 asks [totals]: answered at the first [extent]
answers_totals : (collector.on_extent (record a_collector {
  tally = record { postings = 0; extents = 0; lines = 0; bytes = 0; chunks = Some 1 };
  held = record { requester = 0; number = 1; question = question.Totals } ∷ [];
}) (Some (record { file = 1; lines = 2; bytes = 3 }))).1 ≡ sends (output.Deliver 0 1 (1 ∷ 204 ∷ 2 ∷ 2 ∷ 3 ∷ []) ∷ [])
answers_totals = refl

-- ---- watcher

abbrev of_two : Who
of_two = record { place = 3; peers = 1 ∷ 2 ∷ []; reserve = [] }

abbrev a_watcher : Watcher
a_watcher = record { identity = of_two; sights = no_sights }

watches_both : (watcher.reacted a_watcher (Content (request 1) (1 ∷ 220 ∷ 0 ∷ []))).1
    ≡ record { outputs = output.Watch 1 ∷ output.Watch 2 ∷ []; answer = answer.Value (1 ∷ 0 ∷ 0 ∷ []); quit = None }
watches_both = refl

-- requests 1 and 2 seek 3 and 2 places, and places 7 and 2 have quit
abbrev seeking : Watcher
seeking = record { identity = of_two; sights = record { gone = 2 ∷ 7 ∷ []; held = record { requester = 0; number = 1; least = 3 } ∷ record { requester = 0; number = 4; least = 4 } ∷ record { requester = 0; number = 2; least = 3 } ∷ [] } }

-- then place 5 does: in order of place, and to those that are reached in the order in which they came
tells_three : (watcher.reacted seeking (Down 5 reason.Failed)).1
    ≡ record { outputs = output.Deliver 0 1 (1 ∷ 9 ∷ 3 ∷ 2 ∷ 5 ∷ 7 ∷ []) ∷ output.Deliver 0 2 (1 ∷ 9 ∷ 3 ∷ 2 ∷ 5 ∷ 7 ∷ []) ∷ []; answer = answer.Nothing; quit = None }
tells_three = refl

-- a place counts once, and none from 256 on
knows_it_once : (watcher.reacted seeking (Down 7 reason.Normal)).0.sights.gone ≡ 2 ∷ 7 ∷ []
knows_it_once = refl

knows_no_more : (watcher.reacted seeking (Down 256 reason.Normal)).0.sights.gone ≡ 2 ∷ 7 ∷ []
knows_no_more = refl

answers_at_once : (watcher.reacted seeking (Content (request 3) (2 ∷ 222 ∷ 2 ∷ 0 ∷ 2 ∷ []))).1 ≡ answers (answer.Value (1 ∷ 9 ∷ 2 ∷ 2 ∷ 7 ∷ []))
unfolding asked_of
answers_at_once = refl

-- ---- spawner

abbrev with_children : Who
with_children = record { place = 1; peers = []; reserve = 8 ∷ 9 ∷ [] }

abbrev a_spawner : Spawner
a_spawner = record { identity = with_children; started = 0; passed = 0 }

abbrev after_one : Spawner
after_one = record { identity = with_children; started = 1; passed = 0 }

abbrev after_both : Spawner
after_both = record { identity = with_children; started = 2; passed = 3 }

spawns_the_first : spawner.reacted a_spawner (Content (request 1) (1 ∷ 223 ∷ 0 ∷ []))
    ≡ (after_one, record { outputs = output.Spawn 8 ∷ []; answer = answer.Value (1 ∷ 6 ∷ 8 ∷ []); quit = None })
spawns_the_first = refl

has_no_place : spawner.reacted after_both (Content (request 3) (1 ∷ 223 ∷ 0 ∷ [])) ≡ (after_both, answers (answer.Error sec.NoPlace))
has_no_place = refl

none_can_add : (spawner.reacted a_spawner (Content (request 1) (3 ∷ 211 ∷ 3 ∷ 3 ∷ 0 ∷ 2 ∷ 3 ∷ []))).1 ≡ answers failed
none_can_add = refl

-- the fourth of two
the_second_adds : (spawner.reacted after_both (Content (request 1) (3 ∷ 211 ∷ 3 ∷ 3 ∷ 0 ∷ 2 ∷ 3 ∷ []))).1 ≡ answers (answer.Delegate 9)
the_second_adds = refl

-- ---- alarm

abbrev an_alarm : AlarmClock
an_alarm = record { identity = place_1; alarms = no_alarms }

abbrev set : AlarmClock
set = record { identity = place_1; alarms = record { last = 1; held = record { given = 1; requester = 0; number = 7 } ∷ [] } }

sets_two_ticks : alarm.reacted an_alarm (Content (request 7) (2 ∷ 224 ∷ 2 ∷ 0 ∷ 2 ∷ []))
    ≡ (set, record { outputs = output.Delay 2 1 priority.Normal (2 ∷ 225 ∷ 2 ∷ 0 ∷ 1 ∷ []) ∷ []; answer = answer.Hold; quit = None })
unfolding asked_of
sets_two_ticks = refl

rings_once : alarm.reacted set (Content told (2 ∷ 225 ∷ 2 ∷ 0 ∷ 1 ∷ []))
    ≡ (record { identity = place_1; alarms = record { last = 1; held = [] } }, record { outputs = output.Deliver 0 7 (1 ∷ 2 ∷ 1 ∷ []) ∷ []; answer = answer.Value (1 ∷ 0 ∷ 0 ∷ []); quit = None })
unfolding asked_of
rings_once = refl

-- 4,294,967,296 ticks
waits_no_longer : alarm.reacted an_alarm (Content (request 7) (2 ∷ 224 ∷ 2 ∷ 0 ∷ 4294967296 ∷ [])) ≡ (an_alarm, answers failed)
unfolding asked_of
waits_no_longer = refl
