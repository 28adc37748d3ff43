-- The destinations of links and images, the subjects of questions, and the constructs that need an option.
use Rattle.std.specs.Prelude.{◌≡◌, true, false, ◌==◌, List, [], ◌∷◌, ◌++◌, Some, None}
use Rattle.cmark_grammar.specs.BlockDocument as block
use Rattle.cmark_grammar.specs.BracketDecisions.{or_empty}
use Rattle.cmark_grammar.specs.BracketStates.{State, Decision, Settled, Asks}
use Rattle.cmark_grammar.specs.Labels.{case_folded}
use Rattle.cmark_grammar.specs.LinkType.{LinkType, Inline, Reference, ReferenceUnknown, Collapsed, CollapsedUnknown, Shortcut, ShortcutUnknown, Autolink, Email, WikiLink}
use Rattle.cmark_grammar.specs.Parts.{Formed, Linking, Footnote, Wiki}
use Rattle.cmark_grammar.specs.Questions.{Question, Exchange}
use Rattle.cmark_grammar.specs.Readers.{Reader}
use Rattle.cmark_grammar.specs.Tag.{Linked}

-- the three forms in which a reference is written (CommonMark 6.3)
abbrev pub IsReferenceForm : LinkType → Type 0
IsReferenceForm Reference = Unit {0}
IsReferenceForm Collapsed = Unit {0}
IsReferenceForm Shortcut = Unit {0}
IsReferenceForm _ = ⊥

-- a question is about a reference whose label has no definition, and there is a callback
pub record IsQuestion (reader : Reader) (q : Question) : Type 0 where
  pub form : IsReferenceForm q.link_type
  pub undefined : reader.definition (case_folded q.reference) ≡ None
  pub has_callback : reader.has_callback ≡ true

-- a question is put only while the reference expansion limit is not used up
abbrev pub AsksRightly : Reader → State → Decision → Type 0
AsksRightly reader s (Settled outcome) = Unit {0}
AsksRightly reader s (Asks q answered) = IsQuestion reader q × ((s.expansion_left == 0) ≡ false)

-- ## The destinations of links and images

-- the destination and title of the definition of its label (CommonMark 4.7)
pub record IsDefined (reader : Reader) (linked : Linked) : Type 0 where
  pub definition : block.Reference
  pub found : reader.definition (case_folded linked.id) ≡ Some definition
  pub destination : linked.destination ≡ definition.destination
  pub title : linked.title ≡ or_empty definition.title

-- the destination and title of an answer, if its label has no definition and was the subject of a question (this profile's own)
pub record IsAnswered (reader : Reader) (asked : List Exchange) (written : LinkType) (linked : Linked) : Type 0 where
  pub undefined : reader.definition (case_folded linked.id) ≡ None
  pub exchange : Exchange
  pub earlier : List Exchange
  pub later : List Exchange
  pub put : asked ≡ earlier ++ (exchange ∷ later)
  pub written_so : exchange.question.link_type ≡ written
  pub about : exchange.question.reference ≡ linked.id
  pub answer : exchange.answer ≡ Some (record { url = linked.destination; title = linked.title })

-- by the link type: an inline link has no label. A reference has the destination and title of its definition or of an answer. An autolink
-- and a wikilink have no title and no label
abbrev pub LeadsBy : LinkType → Reader → (asked : List Exchange) → Linked → Type 0
LeadsBy Inline reader asked linked = linked.id ≡ []
LeadsBy Reference reader asked linked = IsDefined reader linked
LeadsBy ReferenceUnknown reader asked linked = IsAnswered reader asked Reference linked
LeadsBy Collapsed reader asked linked = IsDefined reader linked
LeadsBy CollapsedUnknown reader asked linked = IsAnswered reader asked Collapsed linked
LeadsBy Shortcut reader asked linked = IsDefined reader linked
LeadsBy ShortcutUnknown reader asked linked = IsAnswered reader asked Shortcut linked
LeadsBy Autolink reader asked linked = (linked.title ≡ []) × (linked.id ≡ [])
LeadsBy Email reader asked linked = (reader.options.email_autolinks ≡ true) × (linked.title ≡ []) × (linked.id ≡ [])
LeadsBy (WikiLink has_pothole) reader asked linked = (reader.options.wikilinks ≡ true) × (linked.title ≡ []) × (linked.id ≡ [])

abbrev pub IsLed : Reader → (asked : List Exchange) → Linked → Type 0
IsLed reader asked linked = LeadsBy linked.link_type reader asked linked

abbrev pub IsFormedRightly : Reader → (asked : List Exchange) → Formed → Type 0
IsFormedRightly reader asked (Linking target) = IsLed reader asked target.linked
IsFormedRightly reader asked (Footnote label end) = reader.options.footnotes ≡ true
IsFormedRightly reader asked (Wiki name display end) = reader.options.wikilinks ≡ true
