-- The data with which a leaf of a text is read, before and after the text grows.
use Rattle.std.specs.Prelude.{◌≡◌, ◌⊎◌, ℕ, ◌+◌, ◌≤◌, Bool, List, [], ◌∷◌, drop, Option, Some, None}
use Rattle.cmark_grammar.specs.BlockDocument.{BlockDocument, Reference}
use Rattle.cmark_grammar.specs.BracketDecisions.{as_label, between}
use Rattle.cmark_grammar.specs.InlineTokens.{from, token}
use Rattle.cmark_grammar.specs.Items.{Bracket, Opens, Closes}
use Rattle.cmark_grammar.specs.Labels.{fold}
use Rattle.cmark_grammar.specs.LeafReading.{Between}
use Rattle.cmark_grammar.specs.LeafText.{Leaf, InTurn}
use Rattle.cmark_grammar.specs.LinkDefinitions.{Parsed}
use Rattle.cmark_grammar.specs.LinkTails.{reference_label_in}
use Rattle.cmark_grammar.specs.Questions.{Exchange}
use Rattle.cmark_grammar.specs.Readers.{Reader}
use Rattle.cmark_grammar.specs.References.{references, first_with}
use Rattle.cmark_grammar.specs.SpanDocuments.{Profile, Segment, Given, Content, footnote_labels, has_label}
use Rattle.cmark_grammar.specs.Tokens.{slice}
use Rattle.cmark_inline_model.specs.LeafModel.{HaveLineEnds}

-- two texts with equal first bytes
abbrev pub Agree : (size : ℕ) → (s t : List ℕ) → Type 0
Agree size s t = (start end : ℕ) → end ≤ size → slice s start end ≡ slice t start end

-- a reader of a text with these definitions and footnotes
abbrev pub reader_with : Profile → (text : List ℕ) → (List ℕ → Option Reference) → (List ℕ → Bool) → Reader
reader_with profile text definition has_footnote = record {
  source = text;
  options = profile.options;
  lookup = profile.lookup;
  definition = definition;
  has_footnote = has_footnote;
  has_callback = profile.has_callback;
}

module _ (reader : Reader) (leaf : Leaf) where
  -- a label that a closing bracket may look up. It is the label in brackets directly after it, or the text between an opening bracket and
  -- it. Of that text, the first byte may be left out (a footnote's `^`)
  abbrev pub AsksFor : (closer : Bracket) → List ℕ → Type 0
  AsksFor closer label =
      ((found : Parsed) × (reference_label_in (from reader leaf closer.end) ≡ Some found) × (label ≡ as_label reader leaf found.bytes))
      ⊎ ((place : ℕ) × (opener : Bracket) × (token reader leaf place ≡ Opens opener)
      × ((label ≡ as_label reader leaf (between reader leaf opener.end closer.start)) ⊎ (label ≡ as_label reader leaf (drop 1 (between reader leaf opener.end closer.start)))))

  -- a label that the leaf may look up
  abbrev pub MayAskFor : List ℕ → Type 0
  MayAskFor label = (at : ℕ) × (closer : Bracket) × (token reader leaf at ≡ Closes closer) × AsksFor closer label

module _ (profile : Profile) (size : ℕ) (s : List ℕ) (d e : List ℕ → Option Reference) (f g : List ℕ → Bool) where
  -- a leaf is within the first bytes, and its lines except the last one end with line endings. The labels that it may look up lead to the
  -- same definitions and footnotes in both tables
  pub record IsKept (leaf : Leaf) : Type 0 where
    pub turn : InTurn 0 leaf.stretches size
    pub lines : HaveLineEnds s leaf.stretches
    pub labels : (label : List ℕ) → MayAskFor (reader_with profile s d f) leaf label → (d (fold label) ≡ e (fold label)) × (f (fold label) ≡ g (fold label))

  abbrev pub AreKept : List Segment → Type 0
  AreKept [] = Unit {0}
  AreKept (Given r ∷ others) = AreKept others
  AreKept (Content leaf ∷ others) = IsKept leaf × AreKept others

module _ (profile : Profile) (s : List ℕ) (d e : List ℕ → Option Reference) (f g : List ℕ → Bool) where
  -- the labels that the leaves may look up keep their definitions and footnotes
  abbrev pub AskAlike : List Segment → Type 0
  AskAlike [] = Unit {0}
  AskAlike (Given r ∷ others) = AskAlike others
  AskAlike (Content leaf ∷ others) =
      ((label : List ℕ) → MayAskFor (reader_with profile s d f) leaf label → (d (fold label) ≡ e (fold label)) × (f (fold label) ≡ g (fold label))) × AskAlike others

module _ (profile : Profile) (s : List ℕ) (d : List ℕ → Option Reference) (f g : List ℕ → Bool) where
  -- the labels that a leaf may look up keep their footnotes
  abbrev pub AskFootnotesAlikeIn : Leaf → Type 0
  AskFootnotesAlikeIn leaf = (label : List ℕ) → MayAskFor (reader_with profile s d f) leaf label → f (fold label) ≡ g (fold label)

  -- the labels that each of the leaves may look up keep their footnotes
  abbrev pub AskFootnotesAlike : List Segment → Type 0
  AskFootnotesAlike [] = Unit {0}
  AskFootnotesAlike (Given r ∷ others) = AskFootnotesAlike others
  AskFootnotesAlike (Content leaf ∷ others) = AskFootnotesAlikeIn leaf × AskFootnotesAlike others

  -- a leaf is within the first bytes, and the labels that it may look up keep their footnotes
  pub record IsKeptButLabels (size : ℕ) (leaf : Leaf) : Type 0 where
    pub turn : InTurn 0 leaf.stretches size
    pub lines : HaveLineEnds s leaf.stretches
    pub footnotes : AskFootnotesAlikeIn leaf

  abbrev pub AreKeptButLabels : (size : ℕ) → List Segment → Type 0
  AreKeptButLabels size [] = Unit {0}
  AreKeptButLabels size (Given r ∷ others) = AreKeptButLabels size others
  AreKeptButLabels size (Content leaf ∷ others) = IsKeptButLabels size leaf × AreKeptButLabels size others

-- no question is about a label with a definition
abbrev pub AreUndefined : (List ℕ → Option Reference) → List Exchange → Type 0
AreUndefined e [] = Unit {0}
AreUndefined e (x ∷ xs) = (e (fold x.question.reference) ≡ None) × AreUndefined e xs

-- all definitions stay
abbrev pub DefinitionsStay : (d e : List ℕ → Option Reference) → Type 0
DefinitionsStay d e = (folded : List ℕ) (r : Reference) → d folded ≡ Some r → e folded ≡ Some r

-- the definitions and the footnotes of a document, by folded labels
abbrev pub definitions_of : BlockDocument → List ℕ → Option Reference
definitions_of document folded = first_with fold folded (references document)

abbrev pub footnotes_of : BlockDocument → List ℕ → Bool
footnotes_of document folded = has_label folded (footnote_labels document)

-- the state with this increase of the rest of the reference expansion limit
abbrev pub with_more : ℕ → Between → Between
with_more k between = record { expansion_left = between.expansion_left + k; asked = between.asked }

-- the profile with this increase of the reference expansion limit
abbrev pub with_limit_more : ℕ → Profile → Profile
with_limit_more k profile = record {
  options = profile.options;
  lookup = profile.lookup;
  reference_expansion_limit = profile.reference_expansion_limit + k;
  has_callback = profile.has_callback;
}
