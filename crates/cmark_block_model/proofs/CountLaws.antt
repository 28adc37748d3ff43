-- A document has at most four nodes a byte, the cells aside that are filled in in its tables.
use Rattle.std.proofs.Common.{◌≡◌, inl, inr, ℕ, zero, suc, ◌+◌, ◌-◌, ◌*◌, ◌≤◌, ◌<◌, Bool, true, false, ◌==◌, List, [], ◌∷◌, ◌++◌, length, drop, take_while, refl, sym, ap, ◌∙◌, subst, arith, Option, Some, None, true≢false, drop-drop, rules}
use Rattle.std.proofs.lemmas.List.Sums.{take_while-cons}
use Rattle.std.specs.Prelude.{if◌then◌else◌, cond}
use Rattle.cmark_grammar.specs.Answers.{Lookup}
use Rattle.cmark_grammar.specs.Options.{Options}
use Rattle.cmark_grammar.specs.Places.{Place, Apart, AfterTitle, over_blank}
use Rattle.cmark_grammar.specs.Lines.{lines, onto, content}
use Rattle.cmark_grammar.specs.Columns.{Column, expand, tab_columns, to_tab_stop, indent, without_indent, is_blank}
use Rattle.cmark_grammar.specs.Rows.{Row, rows, rows_from, without, place, first_place, begin_of, start_of, last_line_end, is_bare, is_blank_line}
use Rattle.cmark_grammar.specs.Leaves.{closes_fence}
use Rattle.cmark_grammar.specs.Containers.{marker_width, Container, BlockQuote, Item, Footnote, ListDefinition, is_alert, unless_tag, keeps, strip_as, strip, strips, enter, width_of, is_bare_start, insides}
use Rattle.cmark_grammar.specs.Openings.{Leaf, AtxHeading as AtxHeadingLeaf, IndentedCode as IndentedCodeLeaf, FencedCode as FencedCodeLeaf, HtmlBlock as HtmlBlockLeaf, MetadataBlock as MetadataBlockLeaf, Blank, Nests, Takes, Plain, opens_at, Table as TableLeaf}
use Rattle.cmark_grammar.specs.Blocks.{Blocks, Nil as NoBlocks, BlankLine, Paragraph as ParagraphBlock, SetextHeading, LeafBlock, ContainerBlock, MayBegin, Body, after_leaf, place_in}
use Rattle.cmark_grammar.specs.Lists.{ListBefore, tight_after, goes_on, definition_delimiter, is_title, title_tight_after}
use Rattle.cmark_grammar.specs.BlockDocument.{ListItem, BlockNode, BlockDocument, Nil, Node, node, BlockKind, DefinitionList, DefinitionListTitle, DefinitionListDefinition}
use Rattle.cmark_grammar.specs.Derivation.{task_then, leaf_then, item_then, paragraph_kind, document_of, Derives, list_kind}
use Rattle.cmark_block_model.specs.Ranges.{count_nodes, count_table, count_tables}
use Rattle.cmark_grammar.specs.Tokens.{Piece, texts_then, line_columns, words_end, stretch_then, stretches, paragraph_tokens, heading_columns, heading_tokens, piece_if, plain_line, spaces_if, verbatim_line, merge, merge_all, code_columns, code_pieces, fenced_lines, html_then, html_tokens, end_place, lines_before}
use Rattle.cmark_grammar.specs.Metadata.{ends_metadata}
use Rattle.cmark_block_model.proofs.SetextLaws.{setext-few}
use Rattle.cmark_block_model.proofs.BlockLaws.{marker-within, at-whole, at-words, at-wide, at-takes, texts-words, IsWide}
use Rattle.cmark_block_model.proofs.RowPlaces.{Runs, Runs-le, first_place-Runs, drop-Runs, drop-mono, Lies, begin-start, start-Runs, start-content_end, Lies-without, strip-Lies, kept-following, strip-line_end, Along, text-Along, Along-le}
use Rattle.cmark_block_model.proofs.TokenRanges.{UpTo, end_place-Runs, line-UpTo, heading-UpTo}
use Rattle.cmark_grammar.specs.TableRows.{count_missing}
use Rattle.cmark_grammar.specs.TableTokens.{cells_then, row_tokens}
use Rattle.cmark_block_model.proofs.TableRanges.{words-places, row_cells-count, filled}
use Rattle.cmark_block_model.proofs.TableCounts.{LeafFilled, opened-filled}
use Rattle.cmark_grammar.specs.TaskItems.{after_box}
use Rattle.cmark_block_model.proofs.TaskLaws.{task-count, task-tables}
use Rattle.cmark_block_model.proofs.TightLaws.{title_goes_on}

-- a column in which no byte begins is of a tab
abbrev AreTabs : List Column → Type 0
AreTabs [] = Unit {0}
AreTabs (c ∷ cs) = ((c.part == 0) ≡ false → is_blank c ≡ true) × AreTabs cs

drop-tabs : (n : ℕ) (cs : List Column) → AreTabs cs → AreTabs (drop n cs)
drop-tabs zero cs t = t
drop-tabs (suc n) [] t = tt
drop-tabs (suc n) (c ∷ cs) t = drop-tabs n cs t.1

tab-tabs : (at part n : ℕ) (rest : List Column) → AreTabs rest → AreTabs (tab_columns at part n ++ rest)
tab-tabs at part zero rest t = t
tab-tabs at part (suc n) rest t = ((λ e. refl), tab-tabs at (suc part) n rest t)

expand-tabs : (column at : ℕ) (bs : List ℕ) → AreTabs (expand column at bs)
expand-tabs column at [] = tt
expand-tabs column at (b ∷ bs) = search (rules, tab-tabs, expand-tabs (column + to_tab_stop column) (suc at) bs, expand-tabs (suc column) (suc at) bs)

abbrev Sits : ℕ → Row → Type 0
Sits from r = Lies from r × AreTabs r.columns

-- lines each of which begins at the end of the one before it
abbrev pub Fed : ℕ → List Row → ℕ → Type 0
Fed from [] to = from ≤ to
Fed from (r ∷ rs) to = (from < r.line_end) × Sits from r × Fed r.line_end rs to

abbrev pub FedAfter : ℕ → List Row → ℕ → Type 0
FedAfter from [] to = from ≤ to
FedAfter from (r ∷ rs) to = Sits from r × Fed r.line_end rs to

pub fed-following : (from : ℕ) (rs : List Row) (to : ℕ) → Fed from rs to → FedAfter from rs to
fed-following from [] to f = f
fed-following from (r ∷ rs) to f = (f.1, f.2)

fed-lower : (from mid : ℕ) (rs : List Row) (to : ℕ) → from ≤ mid → Fed mid rs to → FedAfter from rs to
fed-lower from mid [] to le f = omega (arith, le, f)
fed-lower from mid (r ∷ rs) to le f = let l = f.1.0 in (((let a = l.0 in omega (arith, le, a), l.1, l.2), f.1.1), f.2)

fed-le : (from : ℕ) (rs : List Row) (to : ℕ) → Fed from rs to → from ≤ to
fed-le from [] to f = f
fed-le from (r ∷ rs) to f = let a : from < r.line_end = f.0 in let b = fed-le r.line_end rs to f.2 in omega (arith, a, b)

fed-split : (first : Row) (more rest : List Row) (to : ℕ) → Fed first.line_end (more ++ rest) to → Fed first.line_end more (last_line_end first more) × Fed (last_line_end first more) rest to
fed-split first [] rest to f = (omega arith, f)
fed-split first (r ∷ more) rest to f = let s = fed-split r more rest to f.2 in ((f.0, f.1, s.0), s.1)

strip-sits : (k : Container) (bare : Bool) (from : ℕ) (r : Row) → Sits from r → Sits from (strip k bare r)
strip-sits k bare from r s = (strip-Lies k bare from r s.0, go (keeps k bare r) refl)
  where
    go : (o : Option Row) → keeps k bare r ≡ o → AreTabs (strip_as o r).columns
    go o e = grind (arith, kept-following, drop-tabs)

strips-fed : (k : Container) (bare : Bool) (from : ℕ) (rs : List Row) (to : ℕ) → Fed from rs to → Fed from (strips k bare rs) to
strips-fed k bare from [] to f = f
strips-fed k bare from (r ∷ rs) to f =
    (subst (λ p. from < p) (sym (strip-line_end k bare r)) f.0, strip-sits k bare from r f.1, subst (λ p. Fed p (strips k false rs) to) (sym (strip-line_end k bare r)) (strips-fed k false r.line_end rs to f.2))

-- the first column after the indent is not blank
indent-stop : (cs : List Column) (c : Column) (rest : List Column) → without_indent cs ≡ c ∷ rest → is_blank c ≡ false
indent-stop [] c rest e = absurd (let q : [] ≡ c ∷ rest = e in cc)
indent-stop (d ∷ cs) c rest e = go (is_blank d) refl (subst (λ l. drop (length l) (d ∷ cs) ≡ c ∷ rest) (take_while-cons is_blank d cs) e) (indent-stop cs c rest)
  where
    go : (z : Bool) → is_blank d ≡ z → drop (length (cond z (d ∷ take_while is_blank cs) [])) (d ∷ cs) ≡ c ∷ rest → (without_indent cs ≡ c ∷ rest → is_blank c ≡ false) → is_blank c ≡ false
    go true b f ih = ih f
    go false b f ih = let q : d ≡ c = let g : d ∷ cs ≡ c ∷ rest = f in cc in subst (λ x. is_blank x ≡ false) q b

-- a line that is not blank has a byte after its indent
pub next-place : (from : ℕ) (r : Row) → Sits from r → is_blank_line r ≡ false → start_of r < first_place r.content_end (drop (suc (indent r.columns)) r.columns)
next-place from r s e = go (without_indent r.columns) refl (start-Runs from r s.0) (drop-tabs (indent r.columns) r.columns s.1)
  where
    go : (cs : List Column) → without_indent r.columns ≡ cs → Runs (start_of r) cs r.content_end → AreTabs cs → start_of r < first_place r.content_end (drop (suc (indent r.columns)) r.columns)
    go [] q h t = absurd (true≢false (ap is_bare (sym q) ∙ e))
    go (c ∷ cs) q h t =
        let p : place c ≡ start_of r = h.0 in
        let n : place c ≡ c.at = whole (c.part == 0) refl in
        let d : drop (suc (indent r.columns)) r.columns ≡ cs = ap (λ k. drop k r.columns) (let z : suc (indent r.columns) ≡ indent r.columns + 1 = omega arith in z) ∙ sym (drop-drop 1 (indent r.columns) r.columns) ∙ ap (drop 1) q in
        let f : first_place r.content_end (drop (suc (indent r.columns)) r.columns) ≡ suc c.at = ap (first_place r.content_end) d ∙ first_place-Runs (suc c.at) cs r.content_end h.1 in
        omega (arith, p, n, f)
      where
        whole : (z : Bool) → (c.part == 0) ≡ z → (if c.part == 0 then c.at else suc c.at) ≡ c.at
        whole true w = ap (λ b. if b then c.at else suc c.at) w
        whole false w = absurd (true≢false (sym (t.0 w) ∙ indent-stop r.columns c cs q))

words-content_end : (from : ℕ) (r : Row) → Sits from r → is_blank_line r ≡ false → start_of r < r.content_end
words-content_end from r s e =
    let d = drop-Runs (suc (indent r.columns)) (begin_of r) r.columns r.content_end s.0.1 in
    let l : first_place r.content_end (drop (suc (indent r.columns)) r.columns) ≤ r.content_end = Runs-le _ (drop (suc (indent r.columns)) r.columns) r.content_end d.0 in
    let n = next-place from r s e in
    omega (arith, l, n)

-- tokens
texts-count : (ps : List Piece) (after : BlockDocument) → count_nodes (texts_then ps after) ≡ length ps + count_nodes after
texts-count [] after = omega arith
texts-count (p ∷ ps) after = let ih = texts-count ps after in omega (arith, ih)

html_then-count : (ps : List Piece) (after : BlockDocument) → count_nodes (html_then ps after) ≡ length ps + count_nodes after
html_then-count [] after = omega arith
html_then-count (p ∷ ps) after = let ih = html_then-count ps after in omega (arith, ih)

piece_if-count : (text : List ℕ) (start end : ℕ) (ps : List Piece) → length (piece_if text start end ps) ≤ suc (length ps)
piece_if-count text start end ps = grind arith

-- a text takes a byte
stretch-count : (text : List ℕ) (start end to : ℕ) → start ≤ end → end ≤ to → start + length (piece_if text start end []) ≤ to
stretch-count text start end to some le = grind arith

stretch_then-count : (text : List ℕ) (start end to : ℕ) (after : BlockDocument) → start ≤ end → end ≤ to → start + count_nodes (stretch_then text start end after) ≤ to + count_nodes after
stretch_then-count text start end to after some le = grind (arith, stretch-count, texts-count)

words-count : (text : List ℕ) (from : ℕ) (cs : List Column) (content_end : ℕ) (after : BlockDocument) → UpTo from cs content_end → from + count_nodes (stretch_then text from (end_place from cs) after) ≤ content_end + count_nodes after
words-count text from cs content_end after u =
    let e : end_place from cs ≡ u.mid = end_place-Runs from cs u.mid u.runs in
    let b : from ≤ u.mid = Runs-le from cs u.mid u.runs in
    let l : u.mid ≤ content_end = u.low in
    stretch_then-count text from (end_place from cs) content_end after (omega (arith, e, b)) (omega (arith, e, l))

from-start : (from : ℕ) (r : Row) → Lies from r → from ≤ start_of r
from-start from r h = let a : from ≤ begin_of r = h.0 in let b = begin-start from r h in omega (arith, a, b)

stretches-count : (text : List ℕ) (from begin : ℕ) (r : Row) (more : List Row) → Lies from r → begin ≤ start_of r → Fed r.line_end more (last_line_end r more) → begin + count_nodes (stretches text begin r more) ≤ last_line_end r more
stretches-count text from begin r [] h b f =
    let u = line-UpTo from r h in
    let e : words_end r ≡ u.mid = end_place-Runs (start_of r) (line_columns r) u.mid u.runs in
    let c : start_of r ≤ u.mid = Runs-le (start_of r) (line_columns r) u.mid u.runs in
    let l : u.mid ≤ r.content_end = u.low in
    let p : r.content_end ≤ r.line_end = h.2 in
    let w = stretch_then-count text begin (words_end r) r.line_end Nil (omega (arith, b, e, c)) (omega (arith, e, l, p)) in
    omega (arith, w)
stretches-count text from begin r (s ∷ more) h b f =
    go (begin_of s == r.line_end) (stretches-count text r.line_end begin s more f.1.0 (omega (arith, b, c, d, a, e)) f.2) (stretches-count text r.line_end (begin_of s) s more f.1.0 e f.2)
  where
    a : r.line_end ≤ begin_of s
    a = f.1.0.0

    e : begin_of s ≤ start_of s
    e = begin-start r.line_end s f.1.0

    c : start_of r ≤ r.content_end
    c = start-content_end from r h

    d : r.content_end ≤ r.line_end
    d = h.2

    go : (z : Bool) → begin + count_nodes (stretches text begin s more) ≤ last_line_end s more → begin_of s + count_nodes (stretches text (begin_of s) s more) ≤ last_line_end s more
        → begin + count_nodes (if z then stretches text begin s more else stretch_then text begin r.line_end (stretches text (begin_of s) s more)) ≤ last_line_end s more
    go z p q = grind (arith, stretch_then-count, c, d, a)

paragraph-count : (text : List ℕ) (from : ℕ) (r : Row) (more : List Row) → Lies from r → Fed r.line_end more (last_line_end r more) → start_of r + count_nodes (paragraph_tokens text r more) ≤ last_line_end r more
paragraph-count text from r more h f = stretches-count text from (start_of r) r more h (omega arith) f

plain_line-count : (text : List ℕ) (from : ℕ) (r : Row) → length (plain_line text from r) ≤ 2
plain_line-count text from r = grind (arith, piece_if-count)

spaces_if-count : (n at : ℕ) (ps : List Piece) → length (spaces_if n at ps) ≤ suc (length ps)
spaces_if-count zero at ps = omega arith
spaces_if-count (suc n) at ps = omega arith

verbatim-count : (text : List ℕ) (cs : List Column) (r : Row) → length (verbatim_line text cs r) ≤ 3
verbatim-count text cs r = grind (arith, plain_line-count, spaces_if-count)

merge-count : (p : Piece) (ps : List Piece) → length (merge p ps) ≤ suc (length ps)
merge-count p ps = grind arith

merge_all-count : (ps following : List Piece) → length (merge_all ps following) ≤ length ps + length following
merge_all-count [] following = omega arith
merge_all-count (p ∷ ps) following = let a = merge-count p (merge_all ps following) in let ih = merge_all-count ps following in omega (arith, a, ih)

code-count : (text : List ℕ) (most from : ℕ) (rs : List Row) (to : ℕ) → Fed from rs to → length (code_pieces text most rs) + 4 * from ≤ 4 * to
code-count text most from [] to f = let a : from ≤ to = f in omega (arith, a)
code-count text most from (r ∷ rs) to f = grind (arith, verbatim-count, merge_all-count, code-count text most r.line_end rs to f.2)

before-fed : (closes : Row → Bool) (from : ℕ) (rs : List Row) (to : ℕ) → Fed from rs to → Fed from (lines_before closes rs) to
before-fed closes from [] to f = f
before-fed closes from (r ∷ rs) to f = grind (arith, fed-le, before-fed closes r.line_end rs to f.2)

html-count : (text : List ℕ) (from : ℕ) (rs : List Row) (to : ℕ) → Fed from rs to → count_nodes (html_tokens text rs) + 4 * from ≤ 4 * to
html-count text from [] to f = let a : from ≤ to = f in omega (arith, a)
html-count text from (r ∷ rs) to f = grind (arith, verbatim-count, html_then-count, html-count text r.line_end rs to f.2)

heading-count : (text : List ℕ) (attributes : Bool) (level from : ℕ) (r : Row) → Lies from r → start_of r + count_nodes (heading_tokens text attributes level r) ≤ r.content_end
heading-count text attributes level from r h =
    let d = drop-Runs level (start_of r) (without_indent r.columns) r.content_end (start-Runs from r h) in
    let cs = drop level (without_indent r.columns) in
    let e = drop-Runs (indent cs) (first_place r.content_end cs) cs r.content_end d.0 in
    let f = first_place r.content_end (without_indent cs) in
    let u = heading-UpTo attributes f (without_indent cs) r.content_end e.0 in
    let a : start_of r ≤ first_place r.content_end cs = d.1 in
    let b : first_place r.content_end cs ≤ f = e.1 in
    let p = words-count text f (heading_columns attributes level r) r.content_end Nil u in
    omega (arith, a, b, p)

-- the rows of a table: four nodes a byte, and the cells that are filled in
rows-count : (text : List ℕ) (columns from : ℕ) (rs : List Row) (to : ℕ) → Fed from rs to → 4 * from + count_nodes (row_tokens text columns rs) ≤ 4 * to + filled columns rs
rows-count text columns from [] to f = let l : from ≤ to = f in omega (arith, l)
rows-count text columns from (r ∷ rs) to f =
    let lt : from < r.line_end = f.0 in
    let low = from-start from r f.1.0 in
    let w = words-places from r f.1.0 in
    let p : r.content_end ≤ r.line_end = f.1.0.2 in
    let c = row_cells-count text columns r in
    let ih = rows-count text columns r.line_end rs to f.2 in
    omega (arith, lt, low, w, p, c, ih)

rest-count : (text : List ℕ) (columns from : ℕ) (rs : List Row) (to : ℕ) → Fed from rs to → 4 * from + count_nodes (row_tokens text columns (drop 1 rs)) ≤ 4 * to + filled columns (drop 1 rs)
rest-count text columns from [] to f = let l : from ≤ to = f in omega (arith, l)
rest-count text columns from (r ∷ rs) to f = let lt : from < r.line_end = f.0 in let c = rows-count text columns r.line_end rs to f.2 in omega (arith, lt, c)

-- whether a leaf is a table
abbrev is_table : Leaf → ℕ
is_table (TableLeaf alignments) = 1
is_table _ = 0

-- a leaf's nodes, if its first line is not blank
leaf-count : (text : List ℕ) (options : Options) (lookup : Lookup) (from : ℕ) (leaf : Leaf) (first : Row) (more : List Row) (after : BlockDocument) → Sits from first → is_blank_line first ≡ false → Fed first.line_end more (last_line_end first more) → LeafFilled leaf first more
    → 4 * from + count_nodes (leaf_then text options lookup leaf first more after) ≤ 4 * last_line_end first more + (count_nodes after + 262144 * is_table leaf)
leaf-count text options lookup from leaf first more after s e f few = go leaf few
  where
    low : from ≤ start_of first
    low = from-start from first s.0

    some : start_of first < first.content_end
    some = words-content_end from first s e

    high : first.content_end ≤ first.line_end
    high = s.0.2

    up : first.line_end ≤ last_line_end first more
    up = fed-le first.line_end more (last_line_end first more) f

    go : (leaf : Leaf) → LeafFilled leaf first more → 4 * from + count_nodes (leaf_then text options lookup leaf first more after) ≤ 4 * last_line_end first more + (count_nodes after + 262144 * is_table leaf)
    go (AtxHeadingLeaf level) few = let h = heading-count text options.heading_attributes level from first s.0 in omega (arith, low, some, high, up, h)
    go IndentedCodeLeaf few =
        let b = verbatim-count text (code_columns 4 first) first in
        let c = merge_all-count (verbatim_line text (code_columns 4 first) first) (code_pieces text 4 more) in
        let d = code-count text 4 first.line_end more (last_line_end first more) f in
        let t = texts-count (code_pieces text 4 (first ∷ more)) Nil in
        omega (arith, low, some, high, b, c, d, t)
    go (FencedCodeLeaf fence) few =
        let d = code-count text fence.indented first.line_end (fenced_lines fence more) (last_line_end first more) (before-fed (closes_fence fence) first.line_end more (last_line_end first more) f) in
        let t = texts-count (code_pieces text fence.indented (fenced_lines fence more)) Nil in
        omega (arith, low, some, high, d, t)
    go (HtmlBlockLeaf kind) few = grind (arith, verbatim-count, html_then-count, html-count, low, some, high)
    go (MetadataBlockLeaf kind) few =
        let d = code-count text 0 first.line_end (lines_before (ends_metadata kind) more) (last_line_end first more) (before-fed (ends_metadata kind) first.line_end more (last_line_end first more) f) in
        let t = texts-count (code_pieces text 0 (lines_before (ends_metadata kind) more)) Nil in
        omega (arith, low, some, high, d, t)
    go (TableLeaf alignments) few =
        let w = words-places from first s.0 in
        let c = row_cells-count text (length alignments) first in
        let d = rest-count text (length alignments) first.line_end more (last_line_end first more) f in
        let none : count_missing (length alignments) first ≡ 0 = few.0 in
        let most : filled (length alignments) (drop 1 more) ≤ 262144 = few.1 in
        omega (arith, low, some, high, up, w, c, d, none, most)
    go _ few = omega (arith, low, some, high, up)

item-count : (joins : Bool) (list : BlockKind) (item : BlockNode) (inside after : BlockDocument) → count_nodes (item_then joins list item inside after) ≤ 2 + (count_nodes inside + count_nodes after)
item-count joins list item inside after = grind arith

-- the first node is no table
abbrev NoTableFirst : BlockDocument → Type 0
NoTableFirst Nil = Unit {0}
NoTableFirst (Node node inside after) = count_table node.kind ≡ 0

item-tables : (joins : Bool) (list : BlockKind) (item : BlockNode) (inside after : BlockDocument) → count_table list ≡ 0 → count_table item.kind ≡ 0 → (joins ≡ true → NoTableFirst after) → count_tables (item_then joins list item inside after) ≡ count_tables inside + count_tables after
item-tables joins list item inside after l e f = grind arith

list-table : (delimiter : ℕ) (number : Option ℕ) (tight : Bool) → count_table (list_kind delimiter number tight) ≡ 0
list-table delimiter number tight = grind arith

-- a paragraph, as a title or as itself: the document after it begins in this list or in none
title-count : (is_title tight : Bool) (other : BlockKind) (start end : ℕ) (inside after following : BlockDocument) → count_table other ≡ 0 → (is_title ≡ true → NoTableFirst after) → (from most : ℕ)
    → from + count_nodes after ≤ most + 262144 * count_tables after → from + count_nodes following ≤ most + 262144 * count_tables following → (d : BlockDocument) → d ≡ (if is_title then item_then true (DefinitionList tight) (node DefinitionListTitle start end) inside after else Node (node other start end) inside following)
    → from + count_nodes d ≤ 2 + (count_nodes inside + most) + 262144 * count_tables d
title-count is_title tight other start end inside after following k f from most a b d is = grind (arith, item-count, item-tables)

title-tables : (is_title tight : Bool) (other : BlockKind) (start end : ℕ) (inside after following : BlockDocument) → count_table other ≡ 0 → (is_title ≡ true → NoTableFirst after) → (most : ℕ) → count_tables after ≤ most → count_tables following ≤ most
    → count_tables (if is_title then item_then true (DefinitionList tight) (node DefinitionListTitle start end) inside after else Node (node other start end) inside following) ≤ count_tables inside + most
title-tables true tight other start end inside after following k f most a b = let t = item-tables true (DefinitionList tight) (node DefinitionListTitle start end) inside after refl refl f in omega (arith, t, a)
title-tables false tight other start end inside after following k f most a b = omega (arith, k, b)

-- texts contain no table
texts-tables : (ps : List Piece) (after : BlockDocument) → count_tables (texts_then ps after) ≡ count_tables after
texts-tables [] after = refl
texts-tables (p ∷ ps) after = grind (arith, texts-tables ps after)

html_then-tables : (ps : List Piece) (after : BlockDocument) → count_tables (html_then ps after) ≡ count_tables after
html_then-tables [] after = refl
html_then-tables (p ∷ ps) after = grind (arith, html_then-tables ps after)

html-tables : (text : List ℕ) (rs : List Row) → count_tables (html_tokens text rs) ≡ 0
html-tables text [] = refl
html-tables text (r ∷ rs) = html_then-tables (verbatim_line text r.columns r) (html_tokens text rs) ∙ html-tables text rs

stretch-tables : (text : List ℕ) (start end : ℕ) (after : BlockDocument) → count_tables (stretch_then text start end after) ≡ count_tables after
stretch-tables text start end after = texts-tables (piece_if text start end []) after

stretches-tables : (text : List ℕ) (begin : ℕ) (r : Row) (more : List Row) → count_tables (stretches text begin r more) ≡ 0
stretches-tables text begin r [] = stretch-tables text begin (words_end r) Nil
stretches-tables text begin r (s ∷ more) = search (rules, stretch-tables, stretches-tables text begin s more, stretches-tables text (begin_of s) s more)

cells-tables : (text : List ℕ) (columns at line_end : ℕ) (cells : List (List ℕ)) → count_tables (cells_then text columns at line_end cells) ≡ 0
cells-tables text zero at line_end cells = refl
cells-tables text (suc columns) at line_end [] = let ih = cells-tables text columns at line_end [] in omega (arith, ih)
cells-tables text (suc columns) at line_end (cell ∷ cells) = search (rules, stretch-tables, cells-tables text columns (suc (at + length cell)) line_end cells)

rows-tables : (text : List ℕ) (columns : ℕ) (rs : List Row) → count_tables (row_tokens text columns rs) ≡ 0
rows-tables text columns [] = refl
rows-tables text columns (r ∷ rs) = grind (arith, cells-tables, rows-tables text columns rs)

leaf-tables : (text : List ℕ) (options : Options) (lookup : Lookup) (leaf : Leaf) (first : Row) (more : List Row) (after : BlockDocument) → count_tables (leaf_then text options lookup leaf first more after) ≡ is_table leaf + count_tables after
leaf-tables text options lookup leaf first more after = grind (arith, stretch-tables, texts-tables, html-tables, cells-tables, rows-tables)

is_table-few : (leaf : Leaf) → is_table leaf ≤ 1
is_table-few leaf = grind arith

module _ (text : List ℕ) (options : Options) (lookup : Lookup) where
  begun-words : (following : Place) (r : Row) (ahead : List Row) → MayBegin options following r → opens_at options following r ahead ≡ Plain → is_blank_line r ≡ false
  begun-words following r ahead (inl w) o = at-words options following r ahead w (λ b. let q : Plain ≡ Blank = sym o ∙ b in cc)
  begun-words following r ahead (inr p) o = texts-words options r [] p.1

  -- inside a container the first line has lost a byte
  enter-sits : (k : Container) (from : ℕ) (following : Place) (r : Row) (ahead : List Row) → opens_at options following r ahead ≡ Nests k → Sits from r → Sits (suc from) (enter k r)
  unfolding enter
  enter-sits k from following r ahead o s =
      let w : r.lazy ≡ false = at-whole options following r ahead (λ p. let q : Nests k ≡ Plain = sym o ∙ p in cc) in
      let e : is_blank_line r ≡ false = at-words options following r ahead w (λ b. let q : Nests k ≡ Blank = sym o ∙ b in cc) in
      let n = next-place from r s e in
      let own : indent r.columns < marker_width k r = subst (IsWide options r) o (at-wide options following r ahead) in
      let more = marker-within options k r in
      let wide : indent r.columns < width_of k r = omega (arith, own, more) in
      let m = drop-mono (suc (indent r.columns)) (width_of k r) (begin_of r) r.columns r.content_end wide s.0.1 in
      let l = Lies-without (width_of k r) from r s.0 in
      let a = from-start from r s.0 in
      ((omega (arith, n, m, a), l.1, l.2), drop-tabs (width_of k r) r.columns s.1)

  enter-line_end : (k : Container) (r : Row) → (enter k r).line_end ≡ r.line_end
  unfolding enter
  enter-line_end k r = refl

  insides-fed : (k : Container) (from : ℕ) (following : Place) (first : Row) (more : List Row) (ahead : List Row) (to : ℕ) → opens_at options following first ahead ≡ Nests k → Sits from first → Fed first.line_end more to → FedAfter (suc from) (insides k first more) to
  insides-fed k from following first more ahead to o s f = go (is_alert k)
    where
      others : Fed first.line_end (strips k (is_bare_start k first) more) to
      others = strips-fed k (is_bare_start k first) first.line_end more to f

      begins : Sits (suc from) (enter k first)
      begins = enter-sits k from following first ahead o s

      line_end : suc from ≤ first.line_end
      line_end = subst (λ p. suc from ≤ p) (enter-line_end k first) (Along-le (suc from) (enter k first ∷ []) (enter k first).line_end (begins.0, omega arith))

      go : (is_tag : Bool) → FedAfter (suc from) (unless_tag is_tag (enter k first) (strips k (is_bare_start k first) more)) to
      go true = fed-lower (suc from) first.line_end (strips k (is_bare_start k first) more) to line_end others
      go false = (begins, subst (λ p. Fed p (strips k (is_bare_start k first) more) to) (sym (enter-line_end k first)) others)

  paragraph-table : (direct : Bool) → count_table (paragraph_kind direct) ≡ 0
  paragraph-table true = refl
  paragraph-table false = refl

  item-first : (joins : Bool) (list : BlockKind) (item : BlockNode) (inside d : BlockDocument) → count_table list ≡ 0 → NoTableFirst (item_then joins list item inside d)
  item-first joins list item inside d l = grind arith

  -- a list that continues is not a table
  list-first : (direct : Bool) (before : Option ListBefore) (delimiter : ℕ) (b : Blocks) → goes_on delimiter b ≡ true → NoTableFirst (document_of text options lookup direct before b)
  list-first direct before delimiter NoBlocks e = tt
  list-first direct before delimiter (BlankLine line after) e = list-first direct before delimiter after e
  list-first direct before delimiter (ParagraphBlock first more after) e = grind arith
  list-first direct before delimiter (ContainerBlock (BlockQuote alert) first more inside after) e = absurd (true≢false (sym e))
  list-first direct before delimiter (ContainerBlock (Footnote label old size) first more inside after) e = absurd (true≢false (sym e))
  list-first direct before delimiter (ContainerBlock (Item m number width task) first more inside after) e = grind (arith, item-first, list-table)
  list-first direct before delimiter (ContainerBlock (ListDefinition width) first more inside after) e = grind (arith, item-first)
  list-first direct before delimiter _ e = absurd (true≢false (sym e))

  pub document-count : (direct : Bool) (before : Option ListBefore) (following : Place) (from : ℕ) (all : List Row) (b : Blocks) (to : ℕ) → Body options following all b → FedAfter from all to → 4 * from + count_nodes (document_of text options lookup direct before b) ≤ 4 * to + 262144 * count_tables (document_of text options lookup direct before b)
  document-count direct before following from all NoBlocks to body f = let l : from ≤ to = subst (λ ls. FedAfter from ls to) body f in omega (arith, l)
  document-count direct before following from all (BlankLine line after) to body f =
      let c : FedAfter from (line ∷ body.rest) to = subst (λ ls. FedAfter from ls to) body.cut f in
      let a = from-start from line c.0.0 in
      let b = start-content_end from line c.0.0 in
      let d : line.content_end ≤ line.line_end = c.0.0.2 in
      let ih = document-count direct before (over_blank following) line.line_end body.rest after to body.after (fed-following line.line_end body.rest to c.1) in
      omega (arith, a, b, d, ih)
  document-count direct before following from all (ParagraphBlock first more after) to body f =
      let c : FedAfter from (first ∷ (more ++ body.rest)) to = subst (λ ls. FedAfter from ls to) body.cut f in
      let s = fed-split first more body.rest to c.1 in
      let a = from-start from first c.0.0 in
      let b = words-content_end from first c.0 (begun-words following first _ body.begun body.opened) in
      let d : first.content_end ≤ first.line_end = c.0.0.2 in
      let p = paragraph-count text from first more c.0.0 s.0 in
      let t = stretches-tables text (start_of first) first more in
      let u = fed-le first.line_end more (last_line_end first more) s.0 in
      let tight = title_tight_after before after in
      let ih = document-count direct None AfterTitle (last_line_end first more) body.rest after to body.after (fed-following (last_line_end first more) body.rest to s.1) in
      let il = document-count direct (Some (record { delimiter = definition_delimiter; tight = tight })) AfterTitle (last_line_end first more) body.rest after to body.after (fed-following (last_line_end first more) body.rest to s.1) in
      let k = title-count (is_title after) tight (paragraph_kind direct) (start_of first) (last_line_end first more) (paragraph_tokens text first more)
      (document_of text options lookup direct (Some (record { delimiter = definition_delimiter; tight = tight })) after) (document_of text options lookup direct None after)
      (paragraph-table direct) (λ e. list-first direct (Some (record { delimiter = definition_delimiter; tight = tight })) definition_delimiter after (title_goes_on text options lookup after e)) (4 * last_line_end first more) (4 * to) il ih
      (document_of text options lookup direct before (ParagraphBlock first more after)) refl in
      omega (arith, a, b, d, p, t, u, k)
  document-count direct before following from all (SetextHeading level first more underline after) to body f =
      let c : FedAfter from (first ∷ (more ++ (underline ∷ body.rest))) to = subst (λ ls. FedAfter from ls to) body.cut f in
      let s = fed-split first more (underline ∷ body.rest) to c.1 in
      let a = from-start from first c.0.0 in
      let b = words-content_end from first c.0 (begun-words following first _ body.begun body.opened) in
      let d : first.content_end ≤ first.line_end = c.0.0.2 in
      let p = paragraph-count text from first more c.0.0 s.0 in
      let t = stretches-tables text (start_of first) first more in
      let few = setext-few text options.heading_attributes first more in
      let x = few.0 in
      let y = few.1 in
      let u = fed-le first.line_end more (last_line_end first more) s.0 in
      let g : last_line_end first more < underline.line_end = s.1.0 in
      let ih = document-count direct None Apart underline.line_end body.rest after to body.after (fed-following underline.line_end body.rest to s.1.2) in
      omega (arith, a, b, d, p, t, x, y, u, g, ih)
  document-count direct before following from all (LeafBlock leaf first more after) to body f =
      let c : FedAfter from (first ∷ (more ++ body.rest)) to = subst (λ ls. FedAfter from ls to) body.cut f in
      let s = fed-split first more body.rest to c.1 in
      let w : first.lazy ≡ false = at-whole options following first _ (λ p. let q : Takes leaf (length more) ≡ Plain = sym body.opened ∙ p in cc) in
      let e : is_blank_line first ≡ false = at-words options following first _ w (λ p. let q : Takes leaf (length more) ≡ Blank = sym body.opened ∙ p in cc) in
      let l = leaf-count text options lookup from leaf first more (document_of text options lookup direct None after) c.0 e s.0 (opened-filled options first body.rest leaf more (at-takes options following first _ leaf (length more) body.opened)) in
      let t = leaf-tables text options lookup leaf first more (document_of text options lookup direct None after) in
      let ih = document-count direct None (after_leaf leaf) (last_line_end first more) body.rest after to body.after (fed-following (last_line_end first more) body.rest to s.1) in
      omega (arith, l, t, ih)
  document-count direct before following from all (ContainerBlock (BlockQuote alert) first more inside after) to body f =
      let c : FedAfter from (first ∷ (more ++ body.rest)) to = subst (λ ls. FedAfter from ls to) body.cut f in
      let s = fed-split first more body.rest to c.1 in
      let i = document-count false None (place_in (BlockQuote alert)) (suc from) (insides (BlockQuote alert) first more) inside (last_line_end first more) body.contents (insides-fed (BlockQuote alert) from following first more _ (last_line_end first more) body.opened c.0 s.0) in
      let ih = document-count direct None Apart (last_line_end first more) body.rest after to body.after (fed-following (last_line_end first more) body.rest to s.1) in
      omega (arith, i, ih)
  document-count direct before following from all (ContainerBlock (Footnote label old size) first more inside after) to body f =
      let c : FedAfter from (first ∷ (more ++ body.rest)) to = subst (λ ls. FedAfter from ls to) body.cut f in
      let s = fed-split first more body.rest to c.1 in
      let i = document-count false None (place_in (Footnote label old size)) (suc from) (insides (Footnote label old size) first more) inside (last_line_end first more) body.contents (insides-fed (Footnote label old size) from following first more _ (last_line_end first more) body.opened c.0 s.0) in
      let ih = document-count direct None Apart (last_line_end first more) body.rest after to body.after (fed-following (last_line_end first more) body.rest to s.1) in
      omega (arith, i, ih)
  document-count direct before following from all (ContainerBlock (Item delimiter number width task) first more inside after) to body f =
      let c : FedAfter from (first ∷ (more ++ body.rest)) to = subst (λ ls. FedAfter from ls to) body.cut f in
      let s = fed-split first more body.rest to c.1 in
      let tight = tight_after before delimiter inside after in
      let i = document-count tight None (place_in (Item delimiter number width task)) (suc from) (insides (Item delimiter number width task) first more) inside (last_line_end first more) body.contents (insides-fed (Item delimiter number width task) from following first more _ (last_line_end first more) body.opened c.0 s.0) in
      let ih = document-count direct (Some (record { delimiter = delimiter; tight = tight })) Apart (last_line_end first more) body.rest after to body.after (fed-following (last_line_end first more) body.rest to s.1) in
      let n = item-count (goes_on delimiter after) (list_kind delimiter number tight) (node ListItem (begin_of first) (last_line_end first more)) (task_then task (begin_of (without width first)) (begin_of (without (after_box task width) first)) (document_of text options lookup tight None inside)) (document_of text options lookup direct (Some (record { delimiter = delimiter; tight = tight })) after) in
      let t = item-tables (goes_on delimiter after) (list_kind delimiter number tight) (node ListItem (begin_of first) (last_line_end first more)) (task_then task (begin_of (without width first)) (begin_of (without (after_box task width) first)) (document_of text options lookup tight None inside)) (document_of text options lookup direct (Some (record { delimiter = delimiter; tight = tight })) after) (list-table delimiter number tight) refl (λ g. list-first direct (Some (record { delimiter = delimiter; tight = tight })) delimiter after g) in
      let a = task-count task (begin_of (without width first)) (begin_of (without (after_box task width) first)) (document_of text options lookup tight None inside) in
      let b = task-tables task (begin_of (without width first)) (begin_of (without (after_box task width) first)) (document_of text options lookup tight None inside) in
      omega (arith, i, ih, n, t, a, b)
  document-count direct before following from all (ContainerBlock (ListDefinition width) first more inside after) to body f =
      let c : FedAfter from (first ∷ (more ++ body.rest)) to = subst (λ ls. FedAfter from ls to) body.cut f in
      let s = fed-split first more body.rest to c.1 in
      let tight = tight_after before definition_delimiter inside after in
      let i = document-count tight None (place_in (ListDefinition width)) (suc from) (insides (ListDefinition width) first more) inside (last_line_end first more) body.contents (insides-fed (ListDefinition width) from following first more _ (last_line_end first more) body.opened c.0 s.0) in
      let ih = document-count direct (Some (record { delimiter = definition_delimiter; tight = tight })) AfterTitle (last_line_end first more) body.rest after to body.after (fed-following (last_line_end first more) body.rest to s.1) in
      let n = item-count (goes_on definition_delimiter after) (DefinitionList tight) (node DefinitionListDefinition (begin_of first) (last_line_end first more)) (document_of text options lookup tight None inside) (document_of text options lookup direct (Some (record { delimiter = definition_delimiter; tight = tight })) after) in
      let t = item-tables (goes_on definition_delimiter after) (DefinitionList tight) (node DefinitionListDefinition (begin_of first) (last_line_end first more)) (document_of text options lookup tight None inside) (document_of text options lookup direct (Some (record { delimiter = definition_delimiter; tight = tight })) after) refl refl (λ g. list-first direct (Some (record { delimiter = definition_delimiter; tight = tight })) definition_delimiter after g) in
      omega (arith, i, ih, n, t)

  -- a table takes a byte
  pub document-tables : (direct : Bool) (before : Option ListBefore) (following : Place) (from : ℕ) (all : List Row) (b : Blocks) (to : ℕ) → Body options following all b → FedAfter from all to → from + count_tables (document_of text options lookup direct before b) ≤ to
  document-tables direct before following from all NoBlocks to body f = let l : from ≤ to = subst (λ ls. FedAfter from ls to) body f in omega (arith, l)
  document-tables direct before following from all (BlankLine line after) to body f =
      let c : FedAfter from (line ∷ body.rest) to = subst (λ ls. FedAfter from ls to) body.cut f in
      let a = from-start from line c.0.0 in
      let b = start-content_end from line c.0.0 in
      let d : line.content_end ≤ line.line_end = c.0.0.2 in
      let ih = document-tables direct before (over_blank following) line.line_end body.rest after to body.after (fed-following line.line_end body.rest to c.1) in
      omega (arith, a, b, d, ih)
  document-tables direct before following from all (ParagraphBlock first more after) to body f =
      let c : FedAfter from (first ∷ (more ++ body.rest)) to = subst (λ ls. FedAfter from ls to) body.cut f in
      let s = fed-split first more body.rest to c.1 in
      let a = from-start from first c.0.0 in
      let b = start-content_end from first c.0.0 in
      let d : first.content_end ≤ first.line_end = c.0.0.2 in
      let t = stretches-tables text (start_of first) first more in
      let u = fed-le first.line_end more (last_line_end first more) s.0 in
      let tight = title_tight_after before after in
      let ih = document-tables direct None AfterTitle (last_line_end first more) body.rest after to body.after (fed-following (last_line_end first more) body.rest to s.1) in
      let il = document-tables direct (Some (record { delimiter = definition_delimiter; tight = tight })) AfterTitle (last_line_end first more) body.rest after to body.after (fed-following (last_line_end first more) body.rest to s.1) in
      let k = title-tables (is_title after) tight (paragraph_kind direct) (start_of first) (last_line_end first more) (paragraph_tokens text first more)
      (document_of text options lookup direct (Some (record { delimiter = definition_delimiter; tight = tight })) after) (document_of text options lookup direct None after)
      (paragraph-table direct) (λ e. list-first direct (Some (record { delimiter = definition_delimiter; tight = tight })) definition_delimiter after (title_goes_on text options lookup after e)) (to - last_line_end first more) (omega (arith, il)) (omega (arith, ih)) in
      omega (arith, a, b, d, t, u, k, ih)
  document-tables direct before following from all (SetextHeading level first more underline after) to body f =
      let c : FedAfter from (first ∷ (more ++ (underline ∷ body.rest))) to = subst (λ ls. FedAfter from ls to) body.cut f in
      let s = fed-split first more (underline ∷ body.rest) to c.1 in
      let a = from-start from first c.0.0 in
      let b = start-content_end from first c.0.0 in
      let d : first.content_end ≤ first.line_end = c.0.0.2 in
      let t = stretches-tables text (start_of first) first more in
      let few = setext-few text options.heading_attributes first more in
      let y = few.1 in
      let u = fed-le first.line_end more (last_line_end first more) s.0 in
      let g : last_line_end first more < underline.line_end = s.1.0 in
      let ih = document-tables direct None Apart underline.line_end body.rest after to body.after (fed-following underline.line_end body.rest to s.1.2) in
      omega (arith, a, b, d, t, y, u, g, ih)
  document-tables direct before following from all (LeafBlock leaf first more after) to body f =
      let c : FedAfter from (first ∷ (more ++ body.rest)) to = subst (λ ls. FedAfter from ls to) body.cut f in
      let s = fed-split first more body.rest to c.1 in
      let w : first.lazy ≡ false = at-whole options following first _ (λ p. let q : Takes leaf (length more) ≡ Plain = sym body.opened ∙ p in cc) in
      let e : is_blank_line first ≡ false = at-words options following first _ w (λ p. let q : Takes leaf (length more) ≡ Blank = sym body.opened ∙ p in cc) in
      let a = from-start from first c.0.0 in
      let b = words-content_end from first c.0 e in
      let d : first.content_end ≤ first.line_end = c.0.0.2 in
      let u = fed-le first.line_end more (last_line_end first more) s.0 in
      let t = leaf-tables text options lookup leaf first more (document_of text options lookup direct None after) in
      let k = is_table-few leaf in
      let ih = document-tables direct None (after_leaf leaf) (last_line_end first more) body.rest after to body.after (fed-following (last_line_end first more) body.rest to s.1) in
      omega (arith, a, b, d, u, t, k, ih)
  document-tables direct before following from all (ContainerBlock (BlockQuote alert) first more inside after) to body f =
      let c : FedAfter from (first ∷ (more ++ body.rest)) to = subst (λ ls. FedAfter from ls to) body.cut f in
      let s = fed-split first more body.rest to c.1 in
      let i = document-tables false None (place_in (BlockQuote alert)) (suc from) (insides (BlockQuote alert) first more) inside (last_line_end first more) body.contents (insides-fed (BlockQuote alert) from following first more _ (last_line_end first more) body.opened c.0 s.0) in
      let ih = document-tables direct None Apart (last_line_end first more) body.rest after to body.after (fed-following (last_line_end first more) body.rest to s.1) in
      omega (arith, i, ih)
  document-tables direct before following from all (ContainerBlock (Footnote label old size) first more inside after) to body f =
      let c : FedAfter from (first ∷ (more ++ body.rest)) to = subst (λ ls. FedAfter from ls to) body.cut f in
      let s = fed-split first more body.rest to c.1 in
      let i = document-tables false None (place_in (Footnote label old size)) (suc from) (insides (Footnote label old size) first more) inside (last_line_end first more) body.contents (insides-fed (Footnote label old size) from following first more _ (last_line_end first more) body.opened c.0 s.0) in
      let ih = document-tables direct None Apart (last_line_end first more) body.rest after to body.after (fed-following (last_line_end first more) body.rest to s.1) in
      omega (arith, i, ih)
  document-tables direct before following from all (ContainerBlock (Item delimiter number width task) first more inside after) to body f =
      let c : FedAfter from (first ∷ (more ++ body.rest)) to = subst (λ ls. FedAfter from ls to) body.cut f in
      let s = fed-split first more body.rest to c.1 in
      let tight = tight_after before delimiter inside after in
      let i = document-tables tight None (place_in (Item delimiter number width task)) (suc from) (insides (Item delimiter number width task) first more) inside (last_line_end first more) body.contents (insides-fed (Item delimiter number width task) from following first more _ (last_line_end first more) body.opened c.0 s.0) in
      let ih = document-tables direct (Some (record { delimiter = delimiter; tight = tight })) Apart (last_line_end first more) body.rest after to body.after (fed-following (last_line_end first more) body.rest to s.1) in
      let t = item-tables (goes_on delimiter after) (list_kind delimiter number tight) (node ListItem (begin_of first) (last_line_end first more)) (task_then task (begin_of (without width first)) (begin_of (without (after_box task width) first)) (document_of text options lookup tight None inside)) (document_of text options lookup direct (Some (record { delimiter = delimiter; tight = tight })) after) (list-table delimiter number tight) refl (λ g. list-first direct (Some (record { delimiter = delimiter; tight = tight })) delimiter after g) in
      let b = task-tables task (begin_of (without width first)) (begin_of (without (after_box task width) first)) (document_of text options lookup tight None inside) in
      omega (arith, i, ih, t, b)
  document-tables direct before following from all (ContainerBlock (ListDefinition width) first more inside after) to body f =
      let c : FedAfter from (first ∷ (more ++ body.rest)) to = subst (λ ls. FedAfter from ls to) body.cut f in
      let s = fed-split first more body.rest to c.1 in
      let tight = tight_after before definition_delimiter inside after in
      let i = document-tables tight None (place_in (ListDefinition width)) (suc from) (insides (ListDefinition width) first more) inside (last_line_end first more) body.contents (insides-fed (ListDefinition width) from following first more _ (last_line_end first more) body.opened c.0 s.0) in
      let ih = document-tables direct (Some (record { delimiter = definition_delimiter; tight = tight })) AfterTitle (last_line_end first more) body.rest after to body.after (fed-following (last_line_end first more) body.rest to s.1) in
      let t = item-tables (goes_on definition_delimiter after) (DefinitionList tight) (node DefinitionListDefinition (begin_of first) (last_line_end first more)) (document_of text options lookup tight None inside) (document_of text options lookup direct (Some (record { delimiter = definition_delimiter; tight = tight })) after) refl refl (λ g. list-first direct (Some (record { delimiter = definition_delimiter; tight = tight })) definition_delimiter after g) in
      omega (arith, i, ih, t)

-- each line of a text has a byte
abbrev pub Full : List (List ℕ) → Type 0
Full [] = Unit {0}
Full (l ∷ ls) = (0 < length l) × Full ls

onto-full : (b : ℕ) (ls : List (List ℕ)) → Full ls → Full (onto b ls)
onto-full b [] f = (omega arith, tt)
onto-full b (l ∷ ls) f = (omega arith, f.1)

pub lines-full : (bs : List ℕ) → Full (lines bs)
lines-full [] = tt
lines-full (b ∷ bs) = grind (arith, onto-full, lines-full bs)

pub rows-fed : (at : ℕ) (ls : List (List ℕ)) (to : ℕ) → Full ls → Along at (rows_from at ls) to → Fed at (rows_from at ls) to
rows-fed at [] to f a = a
rows-fed at (l ∷ ls) to f a = (let n : 0 < length l = f.0 in omega (arith, n), (a.0, expand-tabs 0 at (content l)), rows-fed (at + length l) ls to f.1 a.1)

pub derived-count : (text : List ℕ) (options : Options) (lookup : Lookup) (d : BlockDocument) → Derives text options lookup d → count_nodes d ≤ 4 * length text + 262144 * count_tables d
derived-count text options lookup d h =
    subst (λ x. count_nodes x ≤ 4 * length text + 262144 * count_tables x) (sym h.2)
    (let c = document-count text options lookup false None Apart 0 (rows text) h.0 (length text) h.1 (fed-following 0 (rows text) (length text) (rows-fed 0 (lines text) (length text) (lines-full text) (text-Along text))) in omega (arith, c))

pub derived-tables : (text : List ℕ) (options : Options) (lookup : Lookup) (d : BlockDocument) → Derives text options lookup d → count_tables d ≤ length text
derived-tables text options lookup d h =
    subst (λ x. count_tables x ≤ length text) (sym h.2)
    (let c = document-tables text options lookup false None Apart 0 (rows text) h.0 (length text) h.1 (fed-following 0 (rows text) (length text) (rows-fed 0 (lines text) (length text) (lines-full text) (text-Along text))) in omega (arith, c))
