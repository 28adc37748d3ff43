-- The outputs of the calls for link reference definitions, and for events with a caller's answers.
use Rattle.std.specs.Prelude.{◌≡◌, ◌≤◌, ◌≢◌, ℕ, false, true, List, ◌++◌, map, None, Some, Ok, IsUtf8}
use Rattle.std.specs.List.{AllByRecursion}
use Rattle.std.specs.Iterator.{YieldsThen}
use Rattle.std.specs.declared.ops.Range.{Range}
use Rattle.cmark_flat.specs.Definitions.{flat_definitions}
use Rattle.cmark_flat.specs.Flat.{flat}
use Rattle.cmark_flat.specs.Questions.{Reply, answer_at, decode_replies, flat_questions}
use Rattle.cmark_flat_links.specs.Answering.{AnswersFrom}
use Rattle.cmark_flat_links.specs.declared.answering.Answering.{Answering}
use Rattle.cmark_grammar.specs.Answers.{Lookup}
use Rattle.cmark_grammar.specs.BlockDocument.{BlockDocument, Reference}
use Rattle.cmark_grammar.specs.Derivation.{Derives}
use Rattle.cmark_grammar.specs.Event.{Ranged}
use Rattle.cmark_grammar.specs.Headline.{profile}
use Rattle.cmark_grammar.specs.Labels.{fold}
use Rattle.cmark_grammar.specs.Options.{Options}
use Rattle.cmark_grammar.specs.Questions.{Exchange}
use Rattle.cmark_grammar.specs.References.{first_with, references}
use Rattle.cmark_grammar.specs.SpanDocuments.{IsReading}
use Rattle.cmark_parser.specs.declared.parse.OffsetIter.{OffsetIter}
use Rattle.cmark_parser.specs.Parsing.{GivesRanged, callback_of, shown_item, walk_of}
use Rattle.program_io.specs.Statuses.{IsTooLong, Refused, Wrote}
use Rattle.cmark_text.specs.declared.event.Event.{Event}

-- the output is the records of the definitions that the text's document has: of each label the first one, in its spelling (CommonMark 4.7)
pub record AreDefinitionsOf (text : List ℕ) (options : Options) (lookup : Lookup) (output : List ℕ) : Type 0 where
  pub document : BlockDocument
  pub definitions : List Reference
  pub derives : Derives text options lookup document
  pub first : (folded : List ℕ) → first_with fold folded definitions ≡ first_with fold folded (references document)
  pub output_is : output ≡ flat_definitions definitions

-- the answer of an exchange is the one that the first reply with the range of its question gives, or none
abbrev pub IsAnsweredBy : List Reply → Exchange → Type 0
IsAnsweredBy replies exchange = exchange.answer ≡ answer_at exchange.question.start exchange.question.end replies

abbrev pub questions_of : List Exchange → List ℕ
questions_of exchanges = flat_questions (map (λ exchange. exchange.question) exchanges)

-- the output is the records of the events of a reading of the text, then those of its questions. Exactly these questions were put, and
-- each got the answer that the bytes `answers` have for it
pub record AreAnsweredOf (text : List ℕ) (options : Options) (lookup : Lookup) (answers output : List ℕ) : Type 0 where
  pub replies : List Reply
  pub exchanges : List Exchange
  pub events : List Ranged
  pub given : decode_replies answers ≡ Some replies
  pub reading : IsReading text (profile text options lookup true) exchanges events
  pub answered : AllByRecursion (IsAnsweredBy replies) exchanges
  pub output_is : output ≡ flat events ++ questions_of exchanges

-- a walk gave all items that were left, and the output is their records, then those of the questions that its callback kept
pub record AreAnsweredRest {E : Type 0} (replacement : E → Lookup) (old new : OffsetIter E Answering) (output : List ℕ) : Type 0 where
  pub items : List (Event × Range ℕ)
  pub callback : Answering
  pub yields : YieldsThen (GivesRanged AnswersFrom replacement) old (map Ok items) None new
  pub last : callback_of (walk_of new) ≡ Some callback
  pub kept : callback.is_refused ≡ false
  pub output_is : output ≡ flat (map shown_item items) ++ callback.asked.items

-- the status, room and size after a call with this text and these answers
pub record AnswersEvents (text : List ℕ) (options : Options) (lookup : Lookup) (answers old new : List ℕ) (size status : ℕ) : Type 0 where
  pub is_status : status ≤ 4
  pub done : status ≡ 0 → Wrote (AreAnsweredOf text options lookup answers) old new size
  pub too_long : status ≡ 1 → IsTooLong (AreAnsweredOf text options lookup answers) old new size
  pub not_utf8 : status ≡ 2 → ¬ (IsUtf8 text) × Refused old new size
  pub no_memory : status ≡ 3 → Refused old new size
  pub malformed : status ≡ 4 → (decode_replies answers ≡ None) × Refused old new size
  pub utf8 : status ≢ 2 → IsUtf8 text
