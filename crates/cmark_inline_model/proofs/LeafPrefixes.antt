-- Between two stretches of a leaf of a document that is derived there are only prefixes of containers: blanks, and `>` of block quotes.
use Rattle.std.specs.Prelude.{◌==◌, if◌then◌else◌, get_or}
use Rattle.std.proofs.Common.{◌≡◌, ℕ, zero, suc, ◌+◌, ◌≤◌, ◌<◌, Bool, true, false, ◌&&◌, ◌||◌, nat_le, List, [], ◌∷◌, ◌++◌, length, drop, refl, sym, ap, ◌∙◌, subst, arith, append_assoc, Option, Some, None, true≢false, length-append, get_or-append-add, rules}
use Rattle.std.proofs.lemmas.Bool.{ltb-true, ltb-false}
use Rattle.cmark_grammar.specs.Characters.{tab}
use Rattle.cmark_grammar.specs.Answers.{Lookup}
use Rattle.cmark_grammar.specs.BlockDocument.{BlockDocument, Nil, Node}
use Rattle.cmark_grammar.specs.Columns.{Column, expand, tab_columns, to_tab_stop, is_blank, is_blank_byte, indent, without_indent, bytes_of}
use Rattle.cmark_grammar.specs.Containers.{Container, BlockQuote, Item, Footnote, ListDefinition, begins_with, is_block_quote, one_blank, block_quote_width, is_alert, unless_tag, enter, width_of, keep_as, keeps, strip_as, strip, strips, is_bare_start, insides}
use Rattle.cmark_grammar.specs.Derivation.{Derives}
use Rattle.cmark_grammar.specs.LeafText.{Stretch}
use Rattle.cmark_grammar.specs.Lines.{lines, content}
use Rattle.cmark_grammar.specs.Options.{Options}
use Rattle.cmark_grammar.specs.Rows.{Row, rows, rows_from, row_at, first_place, begin_of, start_of, is_bare, is_blank_line, indent_of, without}
use Rattle.cmark_grammar.specs.SetextAttributes.{texts_before}
use Rattle.cmark_grammar.specs.SpanDocuments.{stretches_of, segments}
use Rattle.cmark_grammar.specs.Tokens.{stretch_then, stretches, words_end}
use Rattle.cmark_block_model.proofs.BoundaryLaws.{joined, lines-ended, content-cut}
use Rattle.cmark_block_model.proofs.RowEdges.{Front, front-add, front-less, prefix-front}
use Rattle.cmark_block_model.proofs.RowPlaces.{Runs, drop-Runs, expand-Runs, first_place-Runs, after_prefix, strip-line_end}
use Rattle.cmark_inline_model.specs.LeafGaps.{is_prefix_byte}
use Rattle.cmark_inline_model.proofs.LeafStretches.{AllLeaves, KeepsStretches, derived-leaves}

-- ## Bytes

-- only prefix bytes are between two offsets
abbrev pub ArePrefixes : (text : List ℕ) → (start end : ℕ) → Type 0
ArePrefixes text start end = (x : ℕ) → start ≤ x → x < end → is_prefix_byte (get_or text x 0) ≡ true

none_between : (text : List ℕ) (start end : ℕ) → end ≤ start → ArePrefixes text start end
none_between text start end le x low high = absurd (omega arith)

both_parts : (text : List ℕ) (a b c d : ℕ) → c ≤ b → ArePrefixes text a b → ArePrefixes text c d → ArePrefixes text a d
both_parts text a b c d le p q x low high = grind (arith, ltb-true, ltb-false)

blank_prefix : (b : ℕ) → is_blank_byte b ≡ true → is_prefix_byte b ≡ true
blank_prefix b e = ap (λ z. z || (b == 62)) e

mark_prefix : (b : ℕ) → (b == 62) ≡ true → is_prefix_byte b ≡ true
mark_prefix b e = grind arith

-- ## Columns

abbrev IsPrefixColumn : Column → Type 0
IsPrefixColumn c = is_prefix_byte c.byte ≡ true

front_zero : (cs : List Column) → Front IsPrefixColumn 0 cs
front_zero [] = tt
front_zero (c ∷ cs) = tt

-- a byte that begins in one of these columns is in the text there; other columns belong to a tab
abbrev AreBytes : (text : List ℕ) → List Column → Type 0
AreBytes text [] = Unit {0}
AreBytes text (c ∷ cs) = ((c.part == 0) ≡ true → get_or text c.at 0 ≡ c.byte) × ((c.part == 0) ≡ false → is_blank c ≡ true) × AreBytes text cs

bytes_after : (text : List ℕ) (n : ℕ) (cs : List Column) → AreBytes text cs → AreBytes text (drop n cs)
bytes_after text zero cs h = h
bytes_after text (suc n) [] h = tt
bytes_after text (suc n) (c ∷ cs) h = bytes_after text n cs h.2

tab_are : (text : List ℕ) (at part n : ℕ) (rest : List Column) → get_or text at 0 ≡ tab → AreBytes text rest → AreBytes text (tab_columns at part n ++ rest)
tab_are text at part zero rest c h = h
tab_are text at part (suc n) rest c h = ((λ e. c), (λ e. refl), tab_are text at (suc part) n rest c h)

is_tab : (b : ℕ) → (b == tab) ≡ true → b ≡ tab
is_tab b e = grind (arith)

expand_are : (text before bs after : List ℕ) (column at : ℕ) → text ≡ before ++ (bs ++ after) → length before ≡ at → AreBytes text (expand column at bs)
expand_are text before [] after column at e l = tt
expand_are text before (b ∷ bs) after column at e l =
    let s = length-append before (b ∷ []) in
    let further : (next : ℕ) → AreBytes text (expand next (suc at) bs) = λ next. expand_are text (before ++ b ∷ []) bs after next (suc at) (e ∙ sym (append_assoc before (b ∷ []) (bs ++ after))) (omega arith) in
    go (b == tab) refl (further (column + to_tab_stop column)) (further (suc column))
  where
    byte : get_or text at 0 ≡ b
    byte =
        let z : length before + 0 ≡ length before = omega arith in
        ap (λ n. get_or text n 0) (sym l) ∙ ap (λ t. get_or t (length before) 0) e ∙ ap (λ i. get_or (before ++ (b ∷ (bs ++ after))) i 0) (sym z) ∙ get_or-append-add before (b ∷ (bs ++ after)) 0 0

    go : (z : Bool) → (b == tab) ≡ z → AreBytes text (expand (column + to_tab_stop column) (suc at) bs) → AreBytes text (expand (suc column) (suc at) bs)
        → AreBytes text (if z then tab_columns at 0 (to_tab_stop column) ++ expand (column + to_tab_stop column) (suc at) bs else record { byte = b; at = at; part = 0 } ∷ expand (suc column) (suc at) bs)
    go true t p q = tab_are text at 0 (to_tab_stop column) (expand (column + to_tab_stop column) (suc at) bs) (byte ∙ is_tab b t) p
    go false t p q = ((λ x. byte), (λ x. absurd (true≢false x)), q)

-- if prefix columns are taken from the front, the bytes are prefix bytes
taken : (text : List ℕ) (n from : ℕ) (cs : List Column) (to : ℕ) → Runs from cs to → AreBytes text cs → Front IsPrefixColumn n cs → ArePrefixes text from (first_place to (drop n cs))
taken text zero from cs to h a f = let e = first_place-Runs from cs to h in none_between text from (first_place to cs) (omega arith)
taken text (suc n) from [] to h a f = let e : from ≡ to = h in none_between text from to (omega arith)
taken text (suc n) from (c ∷ cs) to h a f = both_parts text from (suc c.at) (suc c.at) (first_place to (drop n cs)) (omega arith) (go (c.part == 0) refl h.0) (taken text n (suc c.at) cs to h.1 a.2 f.1)
  where
    go : (z : Bool) → (c.part == 0) ≡ z → (if z then c.at else suc c.at) ≡ from → ArePrefixes text from (suc c.at)
    go true q p = λ x low high. (let same : x ≡ c.at = omega arith in ap (λ i. is_prefix_byte (get_or text i 0)) same ∙ ap is_prefix_byte (a.0 q) ∙ f.0)
    go false q p = none_between text from (suc c.at) (omega arith)

-- ## Prefixes

both : (x y : Bool) → (x && y) ≡ true → y ≡ true
both true y e = e
both false y e = absurd (true≢false (sym e))

indent_front : (cs : List Column) → Front IsPrefixColumn (indent cs) cs
indent_front cs = prefix-front is_blank IsPrefixColumn (λ c e. blank_prefix c.byte e) cs

bare_front : (n : ℕ) (cs : List Column) → is_bare (without_indent cs) ≡ true → Front IsPrefixColumn n cs
bare_front n cs e = front-less IsPrefixColumn n (indent cs + n) cs (omega arith) (front-add IsPrefixColumn (indent cs) n cs (indent_front cs) (none (without_indent cs) e))
  where
    none : (ds : List Column) → is_bare ds ≡ true → Front IsPrefixColumn n ds
    none [] q = tt
    none (d ∷ ds) q = absurd (true≢false (sym q))

mark_front : (text : List ℕ) (cs : List Column) → AreBytes text cs → begins_with 62 (bytes_of cs) ≡ true → Front IsPrefixColumn 1 cs
mark_front text [] a e = tt
mark_front text (c ∷ cs) a e = grind (arith, mark_prefix, front_zero, blank_prefix)

one_blank_front : (cs : List Column) → Front IsPrefixColumn (one_blank cs) cs
one_blank_front cs = grind (arith, blank_prefix, front_zero)

quote_front : (text : List ℕ) (r : Row) → AreBytes text r.columns → is_block_quote r ≡ true → Front IsPrefixColumn (block_quote_width r) r.columns
quote_front text r a e =
    let marked : Front IsPrefixColumn 1 (without_indent r.columns) = mark_front text (without_indent r.columns) (bytes_after text (indent r.columns) r.columns a) (both (nat_le (indent_of r) 3) _ e) in
    let front : Front IsPrefixColumn (indent r.columns + 1) r.columns = front-add IsPrefixColumn (indent r.columns) 1 r.columns (indent_front r.columns) marked in
    let s : indent r.columns + 1 ≡ suc (indent r.columns) = omega arith in
    let t : suc (indent r.columns) + one_blank (drop (suc (indent r.columns)) r.columns) ≡ block_quote_width r = omega arith in
    subst (λ k. Front IsPrefixColumn k r.columns) t
    (front-add IsPrefixColumn (suc (indent r.columns)) (one_blank (drop (suc (indent r.columns)) r.columns)) r.columns (subst (λ k. Front IsPrefixColumn k r.columns) s front) (one_blank_front (drop (suc (indent r.columns)) r.columns)))

-- a line is another one without such columns in front, and held or not
abbrev IsKept : Row → Row → Type 0
IsKept r s = (n : ℕ) × ((held : Bool) × ((after_prefix n held r ≡ s) × Front IsPrefixColumn n r.columns))

wide_kept : (width : ℕ) (r s : Row) → (if is_blank_line r || nat_le width (indent_of r) then Some (without width r) else None) ≡ Some s → IsKept r s
wide_kept width r s e = go (is_blank_line r) (nat_le width (indent_of r)) refl refl e
  where
    le : (a b : ℕ) → nat_le a b ≡ true → a ≤ b
    le a b e = grind (arith)

    is : Front IsPrefixColumn width r.columns → Some (without width r) ≡ Some s → IsKept r s
    is f q = let p : without width r ≡ s = cc in (width, (r.held, (p, f)))

    go : (x y : Bool) → is_blank_line r ≡ x → nat_le width (indent_of r) ≡ y → (if x || y then Some (without width r) else None) ≡ Some s → IsKept r s
    go true y ex ey f = is (bare_front width r.columns ex) f
    go false true ex ey f = is (front-less IsPrefixColumn width (indent r.columns) r.columns (le width (indent r.columns) ey) (indent_front r.columns)) f
    go false false ex ey f = absurd (let p : None ≡ Some s = f in cc)

kept_as : (text : List ℕ) (k : Container) (r s : Row) → AreBytes text r.columns → keep_as k r ≡ Some s → IsKept r s
kept_as text (BlockQuote alert) r s a e = go (is_block_quote r) refl e
  where
    go : (z : Bool) → is_block_quote r ≡ z → (if z then Some (without (block_quote_width r) r) else None) ≡ Some s → IsKept r s
    go true q f = let p : without (block_quote_width r) r ≡ s = cc in (block_quote_width r, (r.held, (p, quote_front text r a q)))
    go false q f = absurd (let p : None ≡ Some s = f in cc)
kept_as text (Footnote label true size) r s a e = grind (arith, front_zero)
kept_as text (Footnote label false size) r s a e = wide_kept 4 r s e
kept_as text (Item delimiter number width task) r s a e = wide_kept width r s e
kept_as text (ListDefinition width) r s a e = wide_kept width r s e

kept : (text : List ℕ) (k : Container) (bare : Bool) (r s : Row) → AreBytes text r.columns → keeps k bare r ≡ Some s → IsKept r s
unfolding keeps
kept text k bare r s a e = go _ e
  where
    go : (z : Bool) → (if z then None else keep_as k r) ≡ Some s → IsKept r s
    go true q = absurd (let p : None ≡ Some s = q in cc)
    go false q = kept_as text k r s a q

-- ## Rows

abbrev IsRow : (text : List ℕ) → Row → Type 0
IsRow text r = Runs (begin_of r) r.columns r.content_end × AreBytes text r.columns

-- only prefixes are between two lines
abbrev HasFront : (text : List ℕ) → (line_end : ℕ) → List Row → Type 0
HasFront text line_end [] = Unit {0}
HasFront text line_end (r ∷ rs) = ArePrefixes text line_end (begin_of r)

abbrev pub AreRows : (text : List ℕ) → List Row → Type 0
AreRows text [] = Unit {0}
AreRows text (r ∷ rs) = IsRow text r × HasFront text r.line_end rs × AreRows text rs

after_prefix_is : (text : List ℕ) (n : ℕ) (held : Bool) (r : Row) → IsRow text r → IsRow text (after_prefix n held r)
after_prefix_is text n held r h = ((drop-Runs n (begin_of r) r.columns r.content_end h.0).0, bytes_after text n r.columns h.1)

strip_is : (text : List ℕ) (k : Container) (bare : Bool) (r : Row) → IsRow text r → IsRow text (strip k bare r) × ArePrefixes text (begin_of r) (begin_of (strip k bare r))
strip_is text k bare r h = go (keeps k bare r) refl
  where
    go : (o : Option Row) → keeps k bare r ≡ o → IsRow text (strip_as o r) × ArePrefixes text (begin_of r) (begin_of (strip_as o r))
    go None e = (h, none_between text (begin_of r) (begin_of r) (omega arith))
    go (Some s) e =
        let w = kept text k bare r s h.1 e in
        let n : ℕ = w.0 in
        let held : Bool = w.1.0 in
        subst (λ t. IsRow text t × ArePrefixes text (begin_of r) (begin_of t)) w.1.1.0 (after_prefix_is text n held r h, taken text n (begin_of r) r.columns r.content_end h.0 h.1 w.1.1.1)

strips_front : (text : List ℕ) (k : Container) (bare : Bool) (line_end : ℕ) (rs : List Row) → AreRows text rs → HasFront text line_end rs → HasFront text line_end (strips k bare rs)
strips_front text k bare line_end [] h f = tt
strips_front text k bare line_end (r ∷ rs) h f = both_parts text line_end (begin_of r) (begin_of r) (begin_of (strip k bare r)) (omega arith) f (strip_is text k bare r h.0).1

strips_are : (text : List ℕ) (k : Container) (bare : Bool) (rs : List Row) → AreRows text rs → AreRows text (strips k bare rs)
strips_are text k bare [] h = tt
strips_are text k bare (r ∷ rs) h = (
  (strip_is text k bare r h.0).0,
  subst (λ p. HasFront text p (strips k false rs)) (sym (strip-line_end k bare r)) (strips_front text k false r.line_end rs h.2 h.1),
  strips_are text k false rs h.2,
)

rows_front : (text : List ℕ) (a b : List Row) → AreRows text (a ++ b) → AreRows text a
rows_front text [] b h = tt
rows_front text (r ∷ []) b h = (h.0, tt, tt)
rows_front text (r ∷ (s ∷ a)) b h = (h.0, h.1, rows_front text (s ∷ a) b h.2)

rows_inside : (text : List ℕ) (k : Container) (first : Row) (more : List Row) → AreRows text (first ∷ more) → AreRows text (insides k first more)
unfolding enter
rows_inside text k first more h = go (is_alert k)
  where
    others : AreRows text (strips k (is_bare_start k first) more)
    others = strips_are text k (is_bare_start k first) more h.2

    go : (is_tag : Bool) → AreRows text (unless_tag is_tag (enter k first) (strips k (is_bare_start k first) more))
    go true = others
    go false = (after_prefix_is text (width_of k first) first.held first h.0, strips_front text k (is_bare_start k first) first.line_end more h.2 h.1, others)

row_runs : (at : ℕ) (line : List ℕ) → Runs at (expand 0 at (content line)) (at + length (content line))
row_runs at line = expand-Runs 0 at (content line)

row_begin : (at : ℕ) (line : List ℕ) → begin_of (row_at at line) ≡ at
row_begin at line = first_place-Runs at (expand 0 at (content line)) (at + length (content line)) (row_runs at line)

lines_touch : (text : List ℕ) (at : ℕ) (ls : List (List ℕ)) → HasFront text at (rows_from at ls)
lines_touch text at [] = tt
lines_touch text at (line ∷ ls) = let e = row_begin at line in none_between text at (begin_of (row_at at line)) (omega arith)

pub rows_of_lines : (text before : List ℕ) (ls : List (List ℕ)) (at : ℕ) → text ≡ before ++ joined ls → length before ≡ at → AreRows text (rows_from at ls)
rows_of_lines text before [] at e l = tt
rows_of_lines text before (line ∷ ls) at e l =
    let tail = drop (length (content line)) line in
    let cut : text ≡ before ++ (content line ++ (tail ++ joined ls)) = e ∙ ap (λ t. before ++ (t ++ joined ls)) (sym (content-cut line)) ∙ ap (λ t. before ++ t) (append_assoc (content line) tail (joined ls)) in (
      (subst (λ f. Runs f (expand 0 at (content line)) (at + length (content line))) (sym (row_begin at line)) (row_runs at line), expand_are text before (content line) (tail ++ joined ls) 0 at cut l),
      lines_touch text (at + length line) ls,
      rows_of_lines text (before ++ line) ls (at + length line) (e ∙ sym (append_assoc before line (joined ls))) (length-append before line ∙ ap (λ n. n + length line) l),
    )

rows_are : (text : List ℕ) → AreRows text (rows text)
rows_are text = rows_of_lines text [] (lines text) 0 (sym (lines-ended text).1) refl

-- ## Stretches

-- only prefixes are between an offset and these stretches, and between the stretches
abbrev pub HaveGapsFrom : (text : List ℕ) → (line_end : ℕ) → List Stretch → Type 0
HaveGapsFrom text line_end [] = Unit {0}
HaveGapsFrom text line_end (s ∷ more) = ArePrefixes text line_end s.start × HaveGapsFrom text s.end more

abbrev pub HaveGaps : (text : List ℕ) → List Stretch → Type 0
HaveGaps text [] = Unit {0}
HaveGaps text (s ∷ more) = HaveGapsFrom text s.end more

gaps_between : (text : List ℕ) (line_end : ℕ) (st : List Stretch) → HaveGapsFrom text line_end st → HaveGaps text st
gaps_between text line_end [] h = tt
gaps_between text line_end (s ∷ more) h = h.1

stretch_gaps : (text : List ℕ) (line_end start end : ℕ) (after : BlockDocument) → ArePrefixes text line_end start → (end ≤ start → HaveGapsFrom text line_end (stretches_of after)) → HaveGapsFrom text end (stretches_of after)
    → HaveGapsFrom text line_end (stretches_of (stretch_then text start end after))
stretch_gaps text line_end start end after p none h = grind (arith, ltb-false)

further : (text : List ℕ) (line_end begin middle : ℕ) (st : List Stretch) → begin ≤ middle → ArePrefixes text line_end middle → HaveGapsFrom text begin st → HaveGapsFrom text line_end st
further text line_end begin middle [] le p h = tt
further text line_end begin middle (s ∷ more) le p h = (both_parts text line_end middle begin s.start le p h.0, h.1)

stretches_gaps : (text : List ℕ) (line_end begin : ℕ) (r : Row) (more : List Row) → ArePrefixes text line_end begin → AreRows text (r ∷ more) → HaveGapsFrom text line_end (stretches_of (stretches text begin r more))
stretches_gaps text line_end begin r [] p h = stretch_gaps text line_end begin (words_end r) Nil p (λ le. tt) tt
stretches_gaps text line_end begin r (s ∷ more) p h = go (begin_of s == r.line_end) (stretches_gaps text line_end begin s more p h.2) (stretches_gaps text r.line_end (begin_of s) s more h.1 h.2)
  where
    go : (z : Bool) → HaveGapsFrom text line_end (stretches_of (stretches text begin s more)) → HaveGapsFrom text r.line_end (stretches_of (stretches text (begin_of s) s more))
        → HaveGapsFrom text line_end (stretches_of (if z then stretches text begin s more else stretch_then text begin r.line_end (stretches text (begin_of s) s more)))
    go true p q = p
    go false i q =
        stretch_gaps text line_end begin r.line_end (stretches text (begin_of s) s more) p (λ le. further text line_end r.line_end begin (stretches_of (stretches text (begin_of s) s more)) le p q) q

-- texts before a place begin as they did
before_from : (text : List ℕ) (line_end at : ℕ) (d : BlockDocument) → HaveGapsFrom text line_end (stretches_of d) → HaveGapsFrom text line_end (stretches_of (texts_before text at d))
before_from text line_end at Nil h = tt
before_from text line_end at (Node n inside after) h = grind (arith, stretch_gaps, before_from text n.end at after h.1)

before_gaps : (text : List ℕ) (at : ℕ) (d : BlockDocument) → HaveGaps text (stretches_of d) → HaveGaps text (stretches_of (texts_before text at d))
before_gaps text at Nil h = tt
before_gaps text at (Node n inside after) h = search (rules, before_from, none_between, gaps_between, stretch_gaps)

-- ## Leaves

pub keeps_gaps : (text : List ℕ) (options : Options) → KeepsStretches text options (HaveGaps text) (AreRows text)
keeps_gaps text options = record {
  none = tt;
  one = λ start end lt. tt;
  paragraph = λ first more rest h others.
      let none = none_between text (start_of first) (start_of first) (omega arith) in
      gaps_between text (start_of first) (stretches_of (stretches text (start_of first) first more)) (stretches_gaps text (start_of first) (start_of first) first more none (rows_front text (first ∷ more) rest h));
  cut = before_gaps text;
  following = λ r rs h. h.2;
  inside = λ k first more rest h. rows_inside text k first more (rows_front text (first ∷ more) rest h);
}

pub derived-gaps : (text : List ℕ) (options : Options) (lookup : Lookup) (document : BlockDocument) → Derives text options lookup document → AllLeaves (HaveGaps text) (segments document)
derived-gaps text options lookup document h = derived-leaves text options (HaveGaps text) (AreRows text) (keeps_gaps text options) lookup document h (rows_are text)
