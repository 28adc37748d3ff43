-- The markers of footnote definitions and the lines that they keep, computed.
use Rattle.std.specs.Prelude.{◌≡◌, ◌∷◌, refl, ℕ, true, false, List, [], codes, Option, Some, None, option_map}
use Rattle.cmark_grammar.specs.BlockDocument.{BlockList, ListItem, FootnoteDefinition, Paragraph, TightParagraph, Text, Nil, Node, node, outline}
use Rattle.cmark_grammar.specs.Blocks as grammar
use Rattle.cmark_grammar.specs.Blocks.{ContainerBlock}
use Rattle.cmark_grammar.specs.Columns.{bytes_of}
use Rattle.cmark_grammar.specs.Containers.{Container, Footnote, enter, keeps}
use Rattle.cmark_block_model.specs.BlocksModel.{begin, blocks}
use Rattle.cmark_grammar.specs.Derivation.{document_of}
use Rattle.cmark_block_model.specs.DocumentModel.{document}
use Rattle.cmark_grammar.specs.Entities.{basic_entity}
use Rattle.cmark_grammar.specs.Footnotes.{footnote_in, is_footnote_label, marker_columns}
use Rattle.cmark_grammar.specs.LinkDefinitions.{Parsed}
use Rattle.cmark_grammar.specs.Leaves.{underlines}
use Rattle.cmark_grammar.specs.Openings.{opens, texts, lazily}
use Rattle.cmark_grammar.specs.Options.{Options, no_options}
use Rattle.cmark_grammar.specs.Rows.{Row, row_at}

abbrev label_of : List ℕ → Option (List ℕ)
label_of bytes = option_map (λ (found : Parsed). found.bytes) (footnote_in bytes)

abbrev left_of : Option Row → Option (List ℕ)
left_of kept = option_map (λ (r : Row). bytes_of r.columns) kept

abbrev line : List ℕ → Row
line bytes = row_at 0 bytes

abbrev note : Container
note = Footnote (codes "a") false 5

abbrev old_note : Container
old_note = Footnote (codes "a") true 5

-- a label and a colon directly after it
pub simple : label_of (codes "[^a]: b") ≡ Some (codes "a")
simple = refl

pub without_blank : label_of (codes "[^a b]:c") ≡ Some (codes "a b")
without_blank = refl

pub escaped_bracket : label_of (codes "[^a\\]b]:") ≡ Some (codes "a\\]b")
escaped_bracket = refl

pub no_colon : label_of (codes "[^a] : b") ≡ None
no_colon = refl

pub no_label : label_of (codes "[^]: b") ≡ None
no_label = refl

pub blank_label : label_of (codes "[^ ]: b") ≡ None
blank_label = refl

pub bracket_in_label : label_of (codes "[^a[b]: c") ≡ None
bracket_in_label = refl

pub over_lines : label_of (codes "[^a\nb]: c") ≡ None
over_lines = refl

pub no_caret : label_of (codes "[a]: b") ≡ None
no_caret = refl

-- a tab in the label has the columns up to its stop
pub tab_in_label : marker_columns (codes "a\tb") (line (codes "[^a\tb]: c")).columns ≡ 7
tab_in_label = refl

-- the blanks after the marker are skipped
pub first_line : bytes_of (enter (Footnote (codes "a") false 5) (line (codes "  [^a]:   b"))).columns ≡ codes "b"
unfolding enter
first_line = refl

-- a label that begins with `^` and has more bytes is not a link's
pub caret_alone : is_footnote_label (codes "[^]: /u") ≡ false
caret_alone = refl

pub caret_and_more : is_footnote_label (codes "[^ ]: /u") ≡ true
caret_and_more = refl

pub caret_over_lines : is_footnote_label (codes "[^") ≡ true
caret_over_lines = refl

-- four columns, or a blank rest
pub four_columns : left_of (keeps note false (line (codes "    b"))) ≡ Some (codes "b")
unfolding keeps
four_columns = refl

pub three_columns : left_of (keeps note false (line (codes "   b"))) ≡ None
unfolding keeps
three_columns = refl

pub blank_rest : left_of (keeps note false (line (codes " "))) ≡ Some []
unfolding keeps
blank_rest = refl

-- as they were read before: no prefix, and no blank line
pub old_line : left_of (keeps old_note false (line (codes "b"))) ≡ Some (codes "b")
unfolding keeps
old_line = refl

pub old_blank_line : left_of (keeps old_note false (line (codes " "))) ≡ None
unfolding keeps
old_blank_line = refl

-- its node: the label's normal form, from the marker to the end of the last line
pub its_node : document_of (codes " [^a  B]: c") no_options (λ name. None) false None
    (ContainerBlock (Footnote (codes "a  B") false 8) (line (codes " [^a  B]: c")) [] (grammar.Paragraph (enter (Footnote (codes "a  B") false 8) (line (codes " [^a  B]: c"))) [] grammar.Nil) grammar.Nil)
    ≡ Node (node (FootnoteDefinition (codes "a B")) 1 11) (Node (node Paragraph 10 11) (Node (node (Text (codes "c")) 10 11) Nil Nil) Nil) Nil
unfolding enter
its_node = refl

abbrev footnotes : Options
footnotes = record no_options { footnotes = true }

-- a blank line after it separates it from the next block of an item
pub parts : outline (document (codes "- [^a]: b\n\n  c") footnotes basic_entity) ≡
    node (BlockList None false) 0 14 ∷ node ListItem 0 14 ∷ node (FootnoteDefinition (codes "a")) 2 11 ∷ node Paragraph 8 10 ∷ node (Text (codes "b")) 8 9 ∷ node Paragraph 13 14 ∷ node (Text (codes "c")) 13 14 ∷ []
unfolding blocks begin opens texts lazily enter keeps underlines
parts = refl

-- and its item from the next one
pub parts_items : outline (document (codes "- [^a]: b\n\n- c") footnotes basic_entity) ≡
    node (BlockList None false) 0 14 ∷ node ListItem 0 11 ∷ node (FootnoteDefinition (codes "a")) 2 11 ∷ node Paragraph 8 10 ∷ node (Text (codes "b")) 8 9 ∷ node ListItem 11 14 ∷ node Paragraph 13 14 ∷ node (Text (codes "c")) 13 14 ∷ []
unfolding blocks begin opens texts lazily enter keeps underlines
parts_items = refl

-- an empty footnote definition ends with its blank lines too
pub loose_after_nothing : outline (document (codes "- [^a]:\n\n  b") footnotes basic_entity) ≡
    node (BlockList None false) 0 12 ∷ node ListItem 0 12 ∷ node (FootnoteDefinition (codes "a")) 2 9 ∷ node Paragraph 11 12 ∷ node (Text (codes "b")) 11 12 ∷ []
unfolding blocks begin opens texts lazily enter keeps underlines
loose_after_nothing = refl

-- the blank rest of its own line is no blank line
pub tight_after_nothing : outline (document (codes "- [^a]:\n  b") footnotes basic_entity) ≡
    node (BlockList None true) 0 11 ∷ node ListItem 0 11 ∷ node (FootnoteDefinition (codes "a")) 2 8 ∷ node TightParagraph 10 11 ∷ node (Text (codes "b")) 10 11 ∷ []
unfolding blocks begin opens texts lazily enter keeps underlines
tight_after_nothing = refl

-- without a blank line the list is tight
pub tight : outline (document (codes "- [^a]: b\n- c") footnotes basic_entity) ≡
    node (BlockList None true) 0 13 ∷ node ListItem 0 10 ∷ node (FootnoteDefinition (codes "a")) 2 10 ∷ node Paragraph 8 10 ∷ node (Text (codes "b")) 8 9 ∷ node ListItem 10 13 ∷ node TightParagraph 12 13 ∷ node (Text (codes "c")) 12 13 ∷ []
unfolding blocks begin opens texts lazily enter keeps underlines
tight = refl
