-- The flat records of questions about links without a definition, and the replies that a caller's records stand for.
use Rattle.std.specs.Prelude.{ℕ, ◌==◌, ◌&&◌, if◌then◌else◌, List, [], ◌∷◌, Option, Some, None}
use Rattle.std.specs.List.{flat_map}
use Rattle.cmark_grammar.specs.Answers.{Destination}
use Rattle.cmark_grammar.specs.LinkType.{to_unknown}
use Rattle.cmark_grammar.specs.Questions.{Question}
use Rattle.cmark_flat.specs.Decode.{Group, ◌>>=◌, each, groups, is_empty, part_text, records_of, some_if}
use Rattle.cmark_flat.specs.Flat.{link_number, part}
use Rattle.cmark_flat.specs.Numbers as number
use Rattle.cmark_flat.specs.Records.{FlatRecord, record_bytes, spelled}

-- the record of a question; the link type is the one that the link has if it gets an answer
abbrev pub question_record : Question → FlatRecord
question_record q = record { kind = number.question_kind; tag = number.no_tag; datum = link_number (to_unknown q.link_type); start = q.start; end = q.end; text = q.reference }

-- the bytes of questions
abbrev pub flat_questions : List Question → List ℕ
flat_questions qs = flat_map (λ q. record_bytes (question_record q)) qs

-- what a caller says of the question with this range: where the link leads, or None if it is no link
pub record Reply : Type 0 where
  pub start : ℕ
  pub end : ℕ
  pub answer : Option Destination

abbrev pub answer_number : Option Destination → ℕ
answer_number None = number.no
answer_number (Some destination) = number.yes

abbrev pub answer_text : Option Destination → List ℕ
answer_text None = []
answer_text (Some destination) = destination.url

abbrev pub reply_record : Reply → FlatRecord
reply_record r = record { kind = number.answer_kind; tag = number.no_tag; datum = answer_number r.answer; start = r.start; end = r.end; text = answer_text r.answer }

abbrev pub answer_parts : Option Destination → List FlatRecord
answer_parts None = []
answer_parts (Some destination) = part number.title_part destination.title ∷ []

abbrev pub reply_records : Reply → List FlatRecord
reply_records r = reply_record r ∷ answer_parts r.answer

-- the bytes of replies
abbrev pub flat_replies : List Reply → List ℕ
flat_replies rs = spelled (flat_map reply_records rs)

-- ---- and back

-- the answer of a record and its further records
abbrev pub answer_of : FlatRecord → List FlatRecord → Option (Option Destination)
answer_of own [] = some_if (own.datum == number.no && is_empty own.text) None
answer_of own (title ∷ []) =
    if own.datum == number.yes then (part_text number.title_part title >>= λ called. Some (Some (record { url = own.text; title = called }))) else None
answer_of own (title ∷ (second ∷ parts)) = None

abbrev pub reply_of : Group → Option Reply
reply_of g =
    if g.own.kind == number.answer_kind && g.own.tag == number.no_tag
    then (answer_of g.own g.parts >>= λ answer. Some (record { start = g.own.start; end = g.own.end; answer = answer }))
    else None

-- the replies that bytes stand for
abbrev pub decode_replies : List ℕ → Option (List Reply)
decode_replies bytes = records_of bytes >>= λ rs. each reply_of (groups rs)

-- the answer of the first reply with this range, if there is one
abbrev pub answer_at : (start end : ℕ) → List Reply → Option Destination
answer_at start end [] = None
answer_at start end (r ∷ rs) = if r.start == start && r.end == end then r.answer else answer_at start end rs
