-- Contents that weigh nothing, wherever they go: that of [start], of questions and of replies.
use Rattle.std.proofs.Common.{◌≡◌, ℕ, List, refl}
use Rattle.caf_index.specs.Index.{Entries}
use Rattle.caf_kinds.specs.declared.contents.Extent.{Extent}
use Rattle.caf_kinds.specs.declared.questions.Question.{Question}
use Rattle.caf_kinds.specs.declared.questions.Question.TheVariants as question
use Rattle.caf_kinds.specs.declared.setup.KindName.{KindName}
use Rattle.caf_kinds.specs.declared.setup.KindName.TheVariants as name
use Rattle.caf_pipeline.specs.Parts.{start_content}
use Rattle.caf_pipeline.proofs.QuestionLemmas.{content_of_question}
use Rattle.caf_pipeline.proofs.PassingLemmas.{kind_weight}
use Rattle.caf_kinds.specs.Collector.{reply}
use Rattle.caf_kinds.specs.declared.tally.Tally.{Tally}

abbrev pub IsLight : List ℕ → Type 0
IsLight words = (a f : ℕ) (h : Extent → ℕ) (k : KindName) → kind_weight a f h k words ≡ 0

pub start_light : IsLight start_content
start_light a f h name.Echo = refl
start_light a f h name.Cell = refl
start_light a f h name.Calc = refl
start_light a f h name.Holder = refl
start_light a f h name.Quitter = refl
start_light a f h name.Source = refl
start_light a f h name.Relay = refl
start_light a f h name.Counter = refl
start_light a f h name.Lines = refl
start_light a f h name.Collector = refl
start_light a f h name.Watcher = refl
start_light a f h name.Spawner = refl
start_light a f h name.Alarm = refl
start_light a f h name.Conductor = refl

pub question_light : (q : Question) → IsLight (content_of_question q)
question_light question.Index a f h name.Echo = refl
question_light question.Index a f h name.Cell = refl
question_light question.Index a f h name.Calc = refl
question_light question.Index a f h name.Holder = refl
question_light question.Index a f h name.Quitter = refl
question_light question.Index a f h name.Source = refl
question_light question.Index a f h name.Relay = refl
question_light question.Index a f h name.Counter = refl
question_light question.Index a f h name.Lines = refl
question_light question.Index a f h name.Collector = refl
question_light question.Index a f h name.Watcher = refl
question_light question.Index a f h name.Spawner = refl
question_light question.Index a f h name.Alarm = refl
question_light question.Index a f h name.Conductor = refl
question_light question.Totals a f h name.Echo = refl
question_light question.Totals a f h name.Cell = refl
question_light question.Totals a f h name.Calc = refl
question_light question.Totals a f h name.Holder = refl
question_light question.Totals a f h name.Quitter = refl
question_light question.Totals a f h name.Source = refl
question_light question.Totals a f h name.Relay = refl
question_light question.Totals a f h name.Counter = refl
question_light question.Totals a f h name.Lines = refl
question_light question.Totals a f h name.Collector = refl
question_light question.Totals a f h name.Watcher = refl
question_light question.Totals a f h name.Spawner = refl
question_light question.Totals a f h name.Alarm = refl
question_light question.Totals a f h name.Conductor = refl

pub reply_light : (index : Entries) (t : Tally) (q : Question) → IsLight (reply index t q)
reply_light index t question.Index a f h name.Echo = refl
reply_light index t question.Index a f h name.Cell = refl
reply_light index t question.Index a f h name.Calc = refl
reply_light index t question.Index a f h name.Holder = refl
reply_light index t question.Index a f h name.Quitter = refl
reply_light index t question.Index a f h name.Source = refl
reply_light index t question.Index a f h name.Relay = refl
reply_light index t question.Index a f h name.Counter = refl
reply_light index t question.Index a f h name.Lines = refl
reply_light index t question.Index a f h name.Collector = refl
reply_light index t question.Index a f h name.Watcher = refl
reply_light index t question.Index a f h name.Spawner = refl
reply_light index t question.Index a f h name.Alarm = refl
reply_light index t question.Index a f h name.Conductor = refl
reply_light index t question.Totals a f h name.Echo = refl
reply_light index t question.Totals a f h name.Cell = refl
reply_light index t question.Totals a f h name.Calc = refl
reply_light index t question.Totals a f h name.Holder = refl
reply_light index t question.Totals a f h name.Quitter = refl
reply_light index t question.Totals a f h name.Source = refl
reply_light index t question.Totals a f h name.Relay = refl
reply_light index t question.Totals a f h name.Counter = refl
reply_light index t question.Totals a f h name.Lines = refl
reply_light index t question.Totals a f h name.Collector = refl
reply_light index t question.Totals a f h name.Watcher = refl
reply_light index t question.Totals a f h name.Spawner = refl
reply_light index t question.Totals a f h name.Alarm = refl
reply_light index t question.Totals a f h name.Conductor = refl
