-- The readings of documents that are joined.
use Rattle.std.proofs.Common.{◌≡◌, ℕ, Bool, true, false, List, [], ◌∷◌, ◌++◌, length, refl, sym, ap, ◌∙◌, subst, append_assoc, Option, Some, None, arith, rules}
use Rattle.std.specs.Prelude.{if◌then◌else◌}
use Rattle.cmark_grammar.specs.Answers.{Lookup}
use Rattle.cmark_grammar.specs.Options.{Options}
use Rattle.cmark_grammar.specs.Event.{Ranged}
use Rattle.cmark_grammar.specs.Lines.{lines}
use Rattle.cmark_grammar.specs.LeafReading.{Between}
use Rattle.cmark_grammar.specs.Questions.{Exchange, Saying, IsNext}
use Rattle.cmark_grammar.specs.Readers.{Reader}
use Rattle.cmark_grammar.specs.References.{references}
use Rattle.cmark_grammar.specs.Rows.{Row, start_of, last_line_end, rows_from}
use Rattle.cmark_grammar.specs.Containers.{BlockQuote as BlockQuotePrefix, Item, Footnote, ListDefinition}
use Rattle.cmark_grammar.specs.Openings.{Leaf}
use Rattle.cmark_grammar.specs.Blocks.{Blocks, Nil as NoBlocks, BlankLine, Paragraph as ParagraphBlock, SetextHeading, LeafBlock, ContainerBlock}
use Rattle.cmark_block_model.specs.BlocksModel.{blocks}
use Rattle.cmark_grammar.specs.Lists.{ListBefore, definition_delimiter, is_title, title_tight_after, tight_after, goes_on}
use Rattle.cmark_grammar.specs.Tokens.{paragraph_tokens}
use Rattle.cmark_grammar.specs.BlockDocument.{BlockKind, BlockNode, BlockDocument, DefinitionList, DefinitionListTitle, Nil, Node, node, join}
use Rattle.cmark_grammar.specs.BlockReading.{read_as, first_event}
use Rattle.cmark_grammar.specs.Derivation.{leaf_then, list_kind, item_then, paragraph_kind, document_of}
use Rattle.cmark_block_model.specs.DocumentModel.{document}
use Rattle.cmark_grammar.specs.SpanDocuments.{Profile, Segment, Given, Content, footnote_labels, segments, reader_of, at_start, ReadsAll, IsReading}
use Rattle.cmark_block_model.proofs.BlockDocumentOne.{document-only}
use Rattle.cmark_stream_model.specs.Growth.{ends_whole, begins_apart, blocks_at, IsCut, IsJoined, ReadInTurn, document_before, document_of_tail}
use Rattle.cmark_stream_model.proofs.GrowingLines.{blocks-grow}
use Rattle.cmark_stream_model.proofs.JoinedDocuments.{document-join}

-- no node of this document is read as the first event of the leaf after it
abbrev pub NoFirst : BlockDocument → Type 0
NoFirst Nil = Unit {0}
NoFirst (Node n inside after) = (first_event (read_as n.kind) ≡ None) × NoFirst after

item-first : (joins : Bool) (list : BlockKind) (n : BlockNode) (inside after : BlockDocument) → first_event (read_as list) ≡ None → NoFirst after → NoFirst (item_then joins list n inside after)
item-first joins list n inside after e h = grind arith

paragraph-first : (direct : Bool) → first_event (read_as (paragraph_kind direct)) ≡ None
paragraph-first true = refl
paragraph-first false = refl

list-first : (d : ℕ) (number : Option ℕ) (tight : Bool) → first_event (read_as (list_kind d number tight)) ≡ None
list-first d number tight = grind arith

module _ (text : List ℕ) (options : Options) (lookup : Lookup) where
  leaf-first : (leaf : Leaf) (first : Row) (more : List Row) (after : BlockDocument) → NoFirst after → NoFirst (leaf_then text options lookup leaf first more after)
  leaf-first leaf first more after h = grind arith

  pub document-first : (direct : Bool) (list : Option ListBefore) (b : Blocks) → NoFirst (document_of text options lookup direct list b)
  document-first direct list NoBlocks = tt
  document-first direct list (BlankLine line after) = document-first direct list after
  document-first direct list (ParagraphBlock first more after) =
      go (is_title after) (document-first direct (Some (record { delimiter = definition_delimiter; tight = title_tight_after list after })) after) (document-first direct None after)
    where
      go : (t : Bool) → NoFirst (document_of text options lookup direct (Some (record { delimiter = definition_delimiter; tight = title_tight_after list after })) after) → NoFirst (document_of text options lookup direct None after)
          → NoFirst (if t then
          (let tight = title_tight_after list after in
          item_then true (DefinitionList tight) (node DefinitionListTitle (start_of first) (last_line_end first more)) (paragraph_tokens text first more)
          (document_of text options lookup direct (Some (record { delimiter = definition_delimiter; tight = tight })) after))
          else Node (node (paragraph_kind direct) (start_of first) (last_line_end first more)) (paragraph_tokens text first more) (document_of text options lookup direct None after))
      go t i j = grind (arith, item-first, paragraph-first)
  document-first direct list (SetextHeading level first more underline after) = (refl, document-first direct None after)
  document-first direct list (LeafBlock leaf first more after) = leaf-first leaf first more (document_of text options lookup direct None after) (document-first direct None after)
  document-first direct list (ContainerBlock (BlockQuotePrefix alert) first more inside after) = (refl, document-first direct None after)
  document-first direct list (ContainerBlock (Footnote label old size) first more inside after) = (refl, document-first direct None after)
  document-first direct list (ContainerBlock (Item m number width task) first more inside after) = search (rules, item-first, list-first, document-first direct (Some (record { delimiter = m; tight = tight_after list m inside after })) after)
  document-first direct list (ContainerBlock (ListDefinition width) first more inside after) =
      item-first (goes_on definition_delimiter after) (DefinitionList (tight_after list definition_delimiter inside after)) _ _ (document_of text options lookup direct (Some (record { delimiter = definition_delimiter; tight = tight_after list definition_delimiter inside after })) after)
      refl (document-first direct (Some (record { delimiter = definition_delimiter; tight = tight_after list definition_delimiter inside after })) after)

-- the segments of joined documents are those of the first and then those of the second
pub segments-join : (d c : BlockDocument) → NoFirst d → segments (join d c) ≡ segments d ++ segments c
segments-join Nil c h = refl
segments-join (Node n inside after) c h = grind (arith, append_assoc, segments-join after c h.1)

-- the same is true of their definitions and footnotes
pub references-join : (d c : BlockDocument) → references (join d c) ≡ references d ++ references c
references-join Nil c = refl
references-join (Node n inside after) c = grind (arith, append_assoc, references-join after c)

pub footnotes-join : (d c : BlockDocument) → footnote_labels (join d c) ≡ footnote_labels d ++ footnote_labels c
footnotes-join Nil c = refl
footnotes-join (Node n inside after) c = grind (arith, append_assoc, footnotes-join after c)

module _ (reader : Reader) (Says : Saying) where
  -- two lists of segments are read in turn
  pub split : (a b : List Segment) (before : Between) (events : List Ranged) (after : Between) → ReadsAll reader Says (a ++ b) before events after → ReadInTurn reader Says a b before events after
  split [] b before events after h = record { earlier = []; later = events; between = before; reads_first = (refl, refl); reads_second = h; joined = refl }
  split (Given r ∷ a) b before events after h =
      let k = split a b before h.0 after h.1 in
      record { earlier = r ∷ k.earlier; later = k.later; between = k.between; reads_first = (k.earlier, k.reads_first, refl); reads_second = k.reads_second; joined = h.2 ∙ ap (λ l. r ∷ l) k.joined }
  split (Content leaf ∷ a) b before events after h =
      let k = split a b h.2 h.1 after h.4 in
      record {
        earlier = h.0 ++ k.earlier;
        later = k.later;
        between = k.between;
        reads_first = (h.0, k.earlier, h.2, h.3, k.reads_first, refl);
        reads_second = k.reads_second;
        joined = h.5 ∙ ap (λ l. h.0 ++ l) k.joined ∙ sym (append_assoc h.0 k.earlier k.later);
      }

  -- two lists of segments that are read in turn are read together
  pub joined : (a b : List Segment) (before between after : Between) (earlier later : List Ranged) → ReadsAll reader Says a before earlier between → ReadsAll reader Says b between later after → ReadsAll reader Says (a ++ b) before (earlier ++ later) after
  joined [] b before between after earlier later h k =
      subst (λ m. ReadsAll reader Says b m (earlier ++ later) after) h.1 (subst (λ e. ReadsAll reader Says b between (e ++ later) after) (sym h.0) k)
  joined (Given r ∷ a) b before between after earlier later h k = (h.0 ++ later, joined a b before between after h.0 later h.1 k, ap (λ e. e ++ later) h.2)
  joined (Content leaf ∷ a) b before between after earlier later h k =
      (h.0, h.1 ++ later, h.2, h.3, joined a b h.2 between after h.1 later h.4 k, ap (λ e. e ++ later) h.5 ∙ append_assoc h.0 h.1 later)

-- the document of a text with a cut is the joined documents of both parts
pub document-grow : (options : Options) (lookup : Lookup) (front following : List ℕ) (r : Row) (rs : List Row) → ends_whole front following ≡ true → rows_from (length front) (lines following) ≡ r ∷ rs → IsCut options front r rs → begins_apart (blocks_at options (length front) following) ≡ true
    → document (front ++ following) options lookup ≡ join (document_before options lookup (front ++ following) front) (document_of_tail options lookup (front ++ following) (length front) following)
document-grow options lookup front following r rs whole are cut apart = grind (arith, blocks-grow, document-join)

-- each reading of it is read in turn
pub reading-grow : (profile : Profile) (front following : List ℕ) (exchanges : List Exchange) (events : List Ranged) → IsJoined profile.options profile.lookup front following → (h : IsReading (front ++ following) profile exchanges events)
    → ReadInTurn (reader_of (front ++ following) profile h.document) (IsNext exchanges) (segments (document_before profile.options profile.lookup (front ++ following) front)) (segments (document_of_tail profile.options profile.lookup (front ++ following) (length front) following)) (at_start profile) events h.after
reading-grow profile front following exchanges events e h = grind (arith, split, first, second, are_segments)
  where
    first : BlockDocument
    first = document_before profile.options profile.lookup (front ++ following) front

    second : BlockDocument
    second = document_of_tail profile.options profile.lookup (front ++ following) (length front) following

    are_segments : segments h.document ≡ segments first ++ segments second
    are_segments =
        ap segments (document-only (front ++ following) profile.options profile.lookup h.document h.derives ∙ e)
        ∙ segments-join first second (document-first (front ++ following) profile.options profile.lookup false None (blocks profile.options front))

-- its definitions and footnotes are those before the cut, and then those after it
pub tables-grow : (options : Options) (lookup : Lookup) (front following : List ℕ) → IsJoined options lookup front following
    → (references (document (front ++ following) options lookup) ≡ references (document_before options lookup (front ++ following) front) ++ references (document_of_tail options lookup (front ++ following) (length front) following))
    × (footnote_labels (document (front ++ following) options lookup) ≡ footnote_labels (document_before options lookup (front ++ following) front) ++ footnote_labels (document_of_tail options lookup (front ++ following) (length front) following))
tables-grow options lookup front following e = grind (arith, references-join, footnotes-join)
