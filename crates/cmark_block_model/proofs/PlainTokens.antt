-- Tokens are neither settled nor left out, and define nothing, neither links nor footnotes.
use Rattle.std.proofs.Common.{◌≡◌, ℕ, zero, suc, ◌+◌, Bool, true, false, List, [], ◌∷◌, ◌++◌, length, drop, take_while, refl, ap, arith, rules}
use Rattle.std.specs.Prelude.{if◌then◌else◌}
use Rattle.cmark_grammar.specs.Rows.{Row, first_place, begin_of, start_of, words_of}
use Rattle.cmark_grammar.specs.Tokens.{Piece, end_place, piece_if, texts_then, words_end, stretch_then, stretches, paragraph_tokens, html_then, html_tokens, text_kind_of, html_kind_of, verbatim_line, after_hashes, heading_columns, heading_tokens, code_pieces, code_tokens}
use Rattle.cmark_grammar.specs.Columns.{is_blank_byte, drop_end}
use Rattle.cmark_grammar.specs.SetextAttributes.{content_of, ends_in_braces, attributes_place, texts_before, texts_if, setext_tokens}
use Rattle.cmark_grammar.specs.TableRows.{cells_start, cells_of}
use Rattle.cmark_grammar.specs.TableTokens.{cell_tokens, cells_then, row_cells, row_tokens, table_tokens}
use Rattle.cmark_grammar.specs.BlockDocument.{Text, OwnedText, Html, TableHead, TableRow, TableCell, BlockDocument, Nil, Node, node, join}
use Rattle.cmark_block_model.specs.DrawnDocument.{settled, without_definitions}
use Rattle.cmark_grammar.specs.References.{references}
use Rattle.cmark_grammar.specs.SpanDocuments.{footnote_labels}

pub record IsPlain (d : BlockDocument) : Type 0 where
  pub still : (tight : Bool) → settled tight d ≡ d
  pub whole : without_definitions d ≡ d
  pub defines : references d ≡ []
  pub labels : footnote_labels d ≡ []

pub nil_plain : IsPlain Nil
nil_plain = record { still = λ tight. refl; whole = refl; defines = refl; labels = refl }

text_plain : (owned : Bool) (bytes : List ℕ) (start end : ℕ) (after : BlockDocument) → IsPlain after → IsPlain (Node (node (if owned then OwnedText bytes else Text bytes) start end) Nil after)
text_plain true bytes start end after h = record { still = λ tight. ap (Node (node (OwnedText bytes) start end) Nil) (h.still tight); whole = ap (Node (node (OwnedText bytes) start end) Nil) h.whole; defines = h.defines; labels = h.labels }
text_plain false bytes start end after h = record { still = λ tight. ap (Node (node (Text bytes) start end) Nil) (h.still tight); whole = ap (Node (node (Text bytes) start end) Nil) h.whole; defines = h.defines; labels = h.labels }

html_plain : (owned : Bool) (bytes : List ℕ) (start end : ℕ) (after : BlockDocument) → IsPlain after → IsPlain (Node (node (if owned then OwnedText bytes else Html bytes) start end) Nil after)
html_plain true bytes start end after h = record { still = λ tight. ap (Node (node (OwnedText bytes) start end) Nil) (h.still tight); whole = ap (Node (node (OwnedText bytes) start end) Nil) h.whole; defines = h.defines; labels = h.labels }
html_plain false bytes start end after h = record { still = λ tight. ap (Node (node (Html bytes) start end) Nil) (h.still tight); whole = ap (Node (node (Html bytes) start end) Nil) h.whole; defines = h.defines; labels = h.labels }

pub texts_plain : (ps : List Piece) (after : BlockDocument) → IsPlain after → IsPlain (texts_then ps after)
texts_plain [] after h = h
texts_plain (p ∷ ps) after h = text_plain p.owned p.bytes p.start p.end (texts_then ps after) (texts_plain ps after h)

stretch_plain : (text : List ℕ) (start end : ℕ) (after : BlockDocument) → IsPlain after → IsPlain (stretch_then text start end after)
stretch_plain text start end after h = texts_plain (piece_if text start end []) after h

stretches_plain : (text : List ℕ) (begin : ℕ) (r : Row) (more : List Row) → IsPlain (stretches text begin r more)
stretches_plain text begin r [] = stretch_plain text begin (words_end r) Nil nil_plain
stretches_plain text begin r (s ∷ more) = search (rules, stretch_plain, stretches_plain text begin s more, stretches_plain text (begin_of s) s more)

pub paragraph_plain : (text : List ℕ) (r : Row) (more : List Row) → IsPlain (paragraph_tokens text r more)
paragraph_plain text r more = stretches_plain text (start_of r) r more

-- texts before a place
pieces_before_plain : (text : List ℕ) (at : ℕ) (ps : List Piece) (after : BlockDocument) → IsPlain (texts_before text at after) → IsPlain (texts_before text at (texts_then ps after))
pieces_before_plain text at [] after h = h
pieces_before_plain text at (p ∷ ps) after h = grind (arith, text_plain, stretch_plain, nil_plain, pieces_before_plain text at ps after h)

stretches_before_plain : (text : List ℕ) (at begin : ℕ) (r : Row) (more : List Row) → IsPlain (texts_before text at (stretches text begin r more))
stretches_before_plain text at begin r [] = pieces_before_plain text at (piece_if text begin (words_end r) []) Nil nil_plain
stretches_before_plain text at begin r (s ∷ more) = search (rules, pieces_before_plain, stretches_before_plain text at begin s more, stretches_before_plain text at (begin_of s) s more)

pub setext_plain : (text : List ℕ) (attributes : Bool) (r : Row) (more : List Row) → IsPlain (setext_tokens text attributes r more)
setext_plain text false r more = paragraph_plain text r more
setext_plain text true r more = go (ends_in_braces (content_of (r ∷ more)))
  where
    go : (z : Bool) → IsPlain (texts_if z text (attributes_place (content_of (r ∷ more))) (paragraph_tokens text r more))
    go true = stretches_before_plain text (attributes_place (content_of (r ∷ more))) (start_of r) r more
    go false = paragraph_plain text r more

html_then_plain : (ps : List Piece) (after : BlockDocument) → IsPlain after → IsPlain (html_then ps after)
html_then_plain [] after h = h
html_then_plain (p ∷ ps) after h = html_plain p.owned p.bytes p.start p.end (html_then ps after) (html_then_plain ps after h)

pub html_tokens_plain : (text : List ℕ) (rs : List Row) → IsPlain (html_tokens text rs)
html_tokens_plain text [] = nil_plain
html_tokens_plain text (r ∷ rs) = html_then_plain (verbatim_line text r.columns r) (html_tokens text rs) (html_tokens_plain text rs)

pub heading_plain : (text : List ℕ) (attributes : Bool) (level : ℕ) (r : Row) → IsPlain (heading_tokens text attributes level r)
heading_plain text attributes level r =
    stretch_plain text (first_place r.content_end (after_hashes level r)) (end_place (first_place r.content_end (after_hashes level r)) (heading_columns attributes level r)) Nil nil_plain

pub code_plain : (text : List ℕ) (most : ℕ) (rs : List Row) → IsPlain (code_tokens text most rs)
code_plain text most rs = texts_plain (code_pieces text most rs) Nil nil_plain

-- a node of a table around plain nodes, before plain ones
head_plain : (start end : ℕ) (inside after : BlockDocument) → IsPlain inside → IsPlain after → IsPlain (Node (node TableHead start end) inside after)
head_plain start end inside after h k = grind arith

table_row_plain : (start end : ℕ) (inside after : BlockDocument) → IsPlain inside → IsPlain after → IsPlain (Node (node TableRow start end) inside after)
table_row_plain start end inside after h k = grind arith

cell_plain : (start end : ℕ) (inside after : BlockDocument) → IsPlain inside → IsPlain after → IsPlain (Node (node TableCell start end) inside after)
cell_plain start end inside after h k = grind arith

cells_plain : (text : List ℕ) (columns at line_end : ℕ) (cells : List (List ℕ)) → IsPlain (cells_then text columns at line_end cells)
cells_plain text zero at line_end cells = nil_plain
cells_plain text (suc columns) at line_end [] = cell_plain line_end line_end Nil (cells_then text columns at line_end []) nil_plain (cells_plain text columns at line_end [])
cells_plain text (suc columns) at line_end (cell ∷ cells) =
    cell_plain at (at + length cell) (cell_tokens text at cell) (cells_then text columns (suc (at + length cell)) line_end cells)
    (stretch_plain text (at + length (take_while is_blank_byte cell)) (at + length (drop_end is_blank_byte cell)) Nil nil_plain) (cells_plain text columns (suc (at + length cell)) line_end cells)

row_plain : (text : List ℕ) (columns : ℕ) (r : Row) → IsPlain (row_cells text columns r)
row_plain text columns r = cells_plain text columns (cells_start r) r.line_end (cells_of (words_of r))

rows_plain : (text : List ℕ) (columns : ℕ) (rs : List Row) → IsPlain (row_tokens text columns rs)
rows_plain text columns [] = nil_plain
rows_plain text columns (r ∷ rs) = table_row_plain (start_of r) r.line_end (row_cells text columns r) (row_tokens text columns rs) (row_plain text columns r) (rows_plain text columns rs)

pub table_plain : (text : List ℕ) (columns : ℕ) (head : Row) (more : List Row) → IsPlain (table_tokens text columns head more)
table_plain text columns head more =
    head_plain (start_of head) head.line_end (row_cells text columns head) (row_tokens text columns (drop 1 more)) (row_plain text columns head) (rows_plain text columns (drop 1 more))

pub join-nil : (d : BlockDocument) → join d Nil ≡ d
join-nil Nil = refl
join-nil (Node n inside after) = ap (Node n inside) (join-nil after)

pub join-assoc : (a b c : BlockDocument) → join (join a b) c ≡ join a (join b c)
join-assoc Nil b c = refl
join-assoc (Node n inside after) b c = ap (Node n inside) (join-assoc after b c)

pub texts-join : (ps : List Piece) (a b : BlockDocument) → join (texts_then ps a) b ≡ texts_then ps (join a b)
texts-join [] a b = refl
texts-join (p ∷ ps) a b = ap (Node (node (text_kind_of p) p.start p.end) Nil) (texts-join ps a b)

pub texts-append : (ps qs : List Piece) (a : BlockDocument) → texts_then (ps ++ qs) a ≡ texts_then ps (texts_then qs a)
texts-append [] qs a = refl
texts-append (p ∷ ps) qs a = ap (Node (node (text_kind_of p) p.start p.end) Nil) (texts-append ps qs a)

pub html-join : (ps : List Piece) (a b : BlockDocument) → join (html_then ps a) b ≡ html_then ps (join a b)
html-join [] a b = refl
html-join (p ∷ ps) a b = ap (Node (node (html_kind_of p) p.start p.end) Nil) (html-join ps a b)

pub stretch-join : (text : List ℕ) (start end : ℕ) (a b : BlockDocument) → join (stretch_then text start end a) b ≡ stretch_then text start end (join a b)
stretch-join text start end a b = texts-join (piece_if text start end []) a b
