-- The events of a text: those of its blocks, with the spans of its leaves, and the questions that were asked on the way. Blocks come first,
-- and spans are read inside their leaves (CommonMark 3.1).
use Rattle.std.specs.Prelude.{◌≡◌, ℕ, zero, suc, Bool, true, false, ◌||◌, bytes_eq, if◌then◌else◌, List, [], ◌∷◌, ◌++◌, Option, Some, None}
use Rattle.cmark_grammar.specs.Answers.{Lookup}
use Rattle.cmark_grammar.specs.BlockDocument.{BlockKind, TableCell, FootnoteDefinition, BlockNode, BlockDocument, Nil, Node}
pub use Rattle.cmark_grammar.specs.BlockReading.{is_leaf}
use Rattle.cmark_grammar.specs.BlockReading.{Reads, Around, Inside, Alone, read_as, over, first_event, starts_before}
use Rattle.cmark_grammar.specs.Derivation.{Derives}
use Rattle.cmark_grammar.specs.Event.{Event, Start, End, Ranged}
use Rattle.cmark_grammar.specs.Labels.{fold}
use Rattle.cmark_grammar.specs.LeafReading.{Between, ReadsLeaf}
use Rattle.cmark_grammar.specs.LeafText.{Stretch, Leaf}
use Rattle.cmark_grammar.specs.Options.{Options}
use Rattle.cmark_grammar.specs.Questions.{Exchange, Saying, IsNext}
use Rattle.cmark_grammar.specs.Readers.{Reader}
use Rattle.cmark_grammar.specs.References.{references, first_with}
use Rattle.cmark_grammar.specs.TagEnd.{end_of}

-- the settings for a text: the options and the entities. Reference_expansion_limit: the number of bytes of destinations and titles that
-- references may take. Has_callback: whether there is a callback for labels without a definition
pub record Profile : Type 0 where
  pub options : Options
  pub lookup : Lookup
  pub reference_expansion_limit : ℕ
  pub has_callback : Bool

abbrev pub footnote_label : BlockKind → List (List ℕ)
footnote_label (FootnoteDefinition label) = label ∷ []
footnote_label _ = []

-- the labels of the footnotes that a document defines
abbrev pub footnote_labels : BlockDocument → List (List ℕ)
footnote_labels Nil = []
footnote_labels (Node node inside after) = footnote_label node.kind ++ (footnote_labels inside ++ footnote_labels after)

-- the folded label is the folded form of a label in the list
abbrev pub has_label : (folded : List ℕ) → List (List ℕ) → Bool
has_label folded [] = false
has_label folded (label ∷ others) = bytes_eq (fold label) folded || has_label folded others

-- the data for the leaves of a text: its definitions and footnotes are those of the document
abbrev pub reader_of : (text : List ℕ) → Profile → BlockDocument → Reader
reader_of text profile document = record {
  source = text;
  options = profile.options;
  lookup = profile.lookup;
  definition = λ folded. first_with fold folded (references document);
  has_footnote = λ folded. has_label folded (footnote_labels document);
  has_callback = profile.has_callback;
}

-- a part of a document, in order: an event of its blocks, or a leaf, whose spans are read later
pub data Segment : Type 0 where
  Given : (event : Ranged) → Segment
  Content : (leaf : Leaf) → Segment

-- the stretches of the text of a paragraph, a heading, a title or a cell
abbrev pub stretches_of : BlockDocument → List Stretch
stretches_of Nil = []
stretches_of (Node node inside after) = record { start = node.start; end = node.end } ∷ stretches_of after

abbrev pub is_cell : BlockKind → Bool
is_cell TableCell = true
is_cell _ = false

-- the leaf of a node with this content
abbrev pub leaf_of : BlockKind → (content : BlockDocument) → Leaf
leaf_of kind content = record { stretches = stretches_of content; is_cell = is_cell kind }

abbrev pub inside_of : BlockKind → (content : BlockDocument) → (others : List Segment) → List Segment
inside_of kind content others = if is_leaf kind then Content (leaf_of kind content) ∷ [] else others

abbrev pub node_segments : Reads → BlockNode → List Segment → List Segment
node_segments (Around tag) node inside = Given (over node (Start tag)) ∷ (inside ++ (Given (over node (End (end_of tag))) ∷ []))
node_segments Inside node inside = inside
node_segments (Alone event) node inside = Given (over node event) ∷ []
node_segments _ node inside = []

-- an event becomes the first one in the paragraph, heading or title that follows it: it is put after `starts` segments. In a tight list
-- `starts` is zero, and the event comes before the leaf
abbrev pub first_of_segments : (starts : ℕ) → Segment → List Segment → List Segment
first_of_segments zero first others = first ∷ others
first_of_segments (suc starts) first [] = first ∷ []
first_of_segments (suc starts) first (s ∷ others) = s ∷ first_of_segments starts first others

abbrev pub with_first_segment : Option Event → (starts : ℕ) → BlockNode → List Segment → List Segment
with_first_segment None starts node others = others
with_first_segment (Some event) starts node others = first_of_segments starts (Given (over node event)) others

-- the parts of a document, in preorder: the events of its blocks, and its leaves
abbrev pub segments : BlockDocument → List Segment
segments Nil = []
segments (Node node inside after) =
    with_first_segment (first_event (read_as node.kind)) (starts_before after) node (node_segments (read_as node.kind) node (inside_of node.kind inside (segments inside)) ++ segments after)

-- the segments have these events, leaf after leaf, if the questions may get these answers
abbrev pub ReadsAll : Reader → Saying → List Segment → (before : Between) → List Ranged → (after : Between) → Type 0
ReadsAll reader Says [] before events after = (events ≡ []) × (after ≡ before)
ReadsAll reader Says (Given r ∷ others) before events after = (later : List Ranged) × ReadsAll reader Says others before later after × (events ≡ r ∷ later)
ReadsAll reader Says (Content leaf ∷ others) before events after =
    (spans later : List Ranged) × (between : Between) × ReadsLeaf reader Says leaf before spans between × ReadsAll reader Says others between later after × (events ≡ spans ++ later)

abbrev pub at_start : Profile → Between
at_start profile = record { expansion_left = profile.reference_expansion_limit; asked = [] }

-- these events are a reading of the text, in which exactly these questions were asked, in this order, and got these answers
pub record IsReading (text : List ℕ) (profile : Profile) (exchanges : List Exchange) (events : List Ranged) : Type 0 where
  pub document : BlockDocument
  pub after : Between
  pub derives : Derives text profile.options profile.lookup document
  pub reads : ReadsAll (reader_of text profile document) (IsNext exchanges) (segments document) (at_start profile) events after
  pub asked : after.asked ≡ exchanges

-- the events that are left of these segments, with the further questions and their answers, if this much of the limit is left
pub record Left (reader : Reader) (segments : List Segment) (expansion_left : ℕ) (exchanges : List Exchange) (events : List Ranged) : Type 0 where
  pub after : Between
  pub reads : ReadsAll reader (IsNext exchanges) segments (record { expansion_left = expansion_left; asked = [] }) events after
  pub asked : after.asked ≡ exchanges
