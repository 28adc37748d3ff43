-- What holds of a reading with its own document holds with each document that the text derives.
use Rattle.std.proofs.Common.{ℕ, List, sym, subst, ◌∙◌}
use Rattle.cmark_grammar.specs.BlockDocument.{BlockDocument}
use Rattle.cmark_grammar.specs.Derivation.{Derives}
use Rattle.cmark_grammar.specs.Event.{Ranged}
use Rattle.cmark_grammar.specs.Questions.{Exchange}
use Rattle.cmark_grammar.specs.SpanDocuments.{Profile, IsReading}
use Rattle.cmark_block_model.proofs.BlockDocumentOne.{document-only}

pub document-of : (text : List ℕ) (profile : Profile) (document : BlockDocument) (exchanges : List Exchange) (events : List Ranged) → Derives text profile.options profile.lookup document
    → (h : IsReading text profile exchanges events) → (Holds : BlockDocument → Type 0) → Holds h.document → Holds document
document-of text profile document exchanges events derives h Holds k =
    subst Holds (document-only text profile.options profile.lookup h.document h.derives ∙ sym (document-only text profile.options profile.lookup document derives)) k
