-- The answers of a table.
use Rattle.std.specs.Prelude.{ℕ, Option, Some, None}
use Rattle.std.specs.BTreeMap.{get_by}
use Rattle.std.specs.Ordering.{nat_cmp, ordering_then}
use Rattle.cmark_grammar.specs.Answers.{Destination}
use Rattle.cmark_flat.specs.Replies.{shown_answer}
use Rattle.cmark_flat.specs.declared.replies.Answer.{Answer}
use Rattle.cmark_flat_links.specs.declared.table.AnswerTable.{AnswerTable}

-- a range that is not in the table has no answer
abbrev pub answer_or_none : Option (Option Answer) → Option Destination
answer_or_none None = None
answer_or_none (Some answer) = shown_answer answer

-- the answer to the question with this range, if there is one
abbrev pub answer_in : AnswerTable → (start end : ℕ) → Option Destination
answer_in table start end = answer_or_none (get_by (λ range. ordering_then (nat_cmp start range.0) (nat_cmp end range.1)) table.answers)
