-- Reading without a callback, and questions whose answer is None (this profile's own).
use Rattle.std.specs.Prelude.{◌≡◌, false, List, [], ◌∷◌, None}
use Rattle.cmark_grammar.specs.BracketStates.{State}
use Rattle.cmark_grammar.specs.Questions.{Exchange}
use Rattle.cmark_grammar.specs.Readers.{Reader}
use Rattle.cmark_grammar.specs.SpanDocuments.{Profile}

-- no question has an answer other than None
abbrev pub AreUnanswered : List Exchange → Type 0
AreUnanswered [] = Unit {0}
AreUnanswered (x ∷ xs) = (x.answer ≡ None) × AreUnanswered xs

-- there is no callback
abbrev pub silent : Reader → Reader
silent reader = record { source = reader.source; options = reader.options; lookup = reader.lookup; definition = reader.definition; has_footnote = reader.has_footnote; has_callback = false }

abbrev pub without_callback : Profile → Profile
without_callback profile = record { options = profile.options; lookup = profile.lookup; reference_expansion_limit = profile.reference_expansion_limit; has_callback = false }

-- the state without its questions
abbrev pub unasked : State → State
unasked s = record { at = s.at; expansion_left = s.expansion_left; label_close = s.label_close; asked = []; openers = s.openers }
