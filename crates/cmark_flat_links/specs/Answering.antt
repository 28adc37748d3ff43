-- What a callback answers and keeps.
use Rattle.std.specs.Prelude.{◌≡◌, ◌++◌, false, Option, option_map}
use Rattle.cmark_flat.specs.Questions.{question_record}
use Rattle.cmark_flat.specs.Records.{record_bytes}
use Rattle.cmark_inline.specs.Decided.{shown_answer, shown_question}
use Rattle.cmark_inline.specs.declared.callback.BrokenLink.{BrokenLink}
use Rattle.cmark_values.specs.declared.text.CowStr.{CowStr}
use Rattle.cmark_flat_links.specs.Table.{answer_in}
use Rattle.cmark_flat_links.specs.declared.answering.Answering.{Answering}

-- the record of the question was kept, after those of all questions before it
pub record Keeps (before : Answering) (question : BrokenLink) (after : Answering) : Type 0 where
  pub so_far : before.is_refused ≡ false
  pub asked : after.asked.items ≡ before.asked.items ++ record_bytes (question_record (shown_question question))

-- the answer is the table's for the range of the question. The question is kept, unless memory was refused for one
pub record AnswersFrom (before : Answering) (question : BrokenLink) (answer : Option (CowStr × CowStr)) (after : Answering) : Type 0 where
  pub answers : after.answers ≡ before.answers
  pub is : option_map shown_answer answer ≡ answer_in before.answers question.span.start question.span.end
  pub keeps : after.is_refused ≡ false → Keeps before question after
