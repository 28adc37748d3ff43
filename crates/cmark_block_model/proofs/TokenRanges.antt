-- The tokens of a leaf are in order, at the places of its lines.
use Rattle.std.proofs.Common.{◌≡◌, ℕ, zero, suc, ◌-◌, ◌≤◌, Bool, true, false, ◌==◌, List, [], ◌∷◌, drop, refl, subst, arith}
use Rattle.std.specs.Prelude.{if◌then◌else◌}
use Rattle.cmark_grammar.specs.Attributes.{is_braced, before_braces}
use Rattle.cmark_grammar.specs.Columns.{Column, indent, without_indent, drop_end, put_before, without_trailing_blanks, is_blank}
use Rattle.cmark_grammar.specs.Rows.{Row, first_place, begin_of, start_of, last_line_end}
use Rattle.cmark_grammar.specs.BlockDocument.{BlockDocument, Nil, Node}
use Rattle.cmark_block_model.specs.Ranges.{InOrder}
use Rattle.cmark_grammar.specs.Tokens.{Piece, texts_then, line_columns, end_place, words_end, stretch_then, stretches, paragraph_tokens, is_hash, without_closing, without_attributes, heading_columns, heading_tokens, piece_if, plain_line, left_columns, spaces_if, verbatim_line, merge, merge_all, code_columns, code_pieces, code_tokens, stop_at, lines_before, html_then, html_tokens}
use Rattle.cmark_block_model.proofs.RowPlaces.{Runs, Runs-le, first_place-Runs, drop-Runs, Lies, begin-start, start-Runs, Along, Along-le}

pub InOrder-le : (from : ℕ) (d : BlockDocument) (to : ℕ) → InOrder from d to → from ≤ to
InOrder-le from Nil to h = h
InOrder-le from (Node n inside after) to h = grind (arith, InOrder-le n.start inside n.end h.1, InOrder-le n.end after to h.2)

pub InOrder-lower : (a b : ℕ) (d : BlockDocument) (to : ℕ) → a ≤ b → InOrder b d to → InOrder a d to
InOrder-lower a b Nil to le h = let g : b ≤ to = h in omega (arith, le, g)
InOrder-lower a b (Node n inside after) to le h = let g : b ≤ n.start = h.0 in (omega (arith, le, g), h.1, h.2)

pub InOrder-upper : (from : ℕ) (d : BlockDocument) (a b : ℕ) → a ≤ b → InOrder from d a → InOrder from d b
InOrder-upper from Nil a b le h = let g : from ≤ a = h in omega (arith, le, g)
InOrder-upper from (Node n inside after) a b le h = (h.0, h.1, InOrder-upper n.end after a b le h.2)

-- pieces in order
abbrev pub InPieces : ℕ → List Piece → ℕ → Type 0
InPieces from [] to = from ≤ to
InPieces from (p ∷ ps) to = (from ≤ p.start) × (p.start ≤ p.end) × InPieces p.end ps to

pub pieces-lower : (a b : ℕ) (ps : List Piece) (to : ℕ) → a ≤ b → InPieces b ps to → InPieces a ps to
pieces-lower a b [] to le h = let g : b ≤ to = h in omega (arith, le, g)
pieces-lower a b (p ∷ ps) to le h = let g : b ≤ p.start = h.0 in (omega (arith, le, g), h.1, h.2)

texts-order : (from : ℕ) (ps : List Piece) (mid : ℕ) (after : BlockDocument) (to : ℕ) → InPieces from ps mid → InOrder mid after to → InOrder from (texts_then ps after) to
texts-order from [] mid after to h a = InOrder-lower from mid after to h a
texts-order from (p ∷ ps) mid after to h a = (h.0, h.1, texts-order p.end ps mid after to h.2 a)

html_then-order : (from : ℕ) (ps : List Piece) (mid : ℕ) (after : BlockDocument) (to : ℕ) → InPieces from ps mid → InOrder mid after to → InOrder from (html_then ps after) to
html_then-order from [] mid after to h a = InOrder-lower from mid after to h a
html_then-order from (p ∷ ps) mid after to h a = (h.0, h.1, html_then-order p.end ps mid after to h.2 a)

-- columns up to some place that is not after that one
pub record UpTo (from : ℕ) (cs : List Column) (to : ℕ) : Type 0 where
  pub mid : ℕ
  pub runs : Runs from cs mid
  pub low : mid ≤ to

pub drop_end-UpTo : (p : Column → Bool) (from : ℕ) (cs : List Column) (to : ℕ) → Runs from cs to → UpTo from (drop_end p cs) to
drop_end-UpTo p from [] to h = record { mid = to; runs = h; low = omega arith }
drop_end-UpTo p from (c ∷ cs) to h = go (drop_end p cs) (p c) (drop_end-UpTo p (suc c.at) cs to h.1)
  where
    le : suc c.at ≤ to
    le = Runs-le (suc c.at) cs to h.1

    ge : from ≤ to
    ge = Runs-le from (c ∷ cs) to h

    go : (ds : List Column) (z : Bool) → UpTo (suc c.at) ds to → UpTo from (put_before z c ds) to
    go [] true u = record { mid = from; runs = refl; low = ge }
    go [] false u = record { mid = suc c.at; runs = (h.0, refl); low = le }
    go (d ∷ ds) z u = record { mid = u.mid; runs = (h.0, u.runs); low = u.low }

pub up-more : (from : ℕ) (cs : List Column) (a b : ℕ) → a ≤ b → UpTo from cs a → UpTo from cs b
up-more from cs a b le u = let l : u.mid ≤ a = u.low in record { mid = u.mid; runs = u.runs; low = omega (arith, le, l) }

pub end_place-Runs : (from : ℕ) (cs : List Column) (to : ℕ) → Runs from cs to → end_place from cs ≡ to
end_place-Runs from [] to h = h
end_place-Runs from (c ∷ cs) to h = end_place-Runs (suc c.at) cs to h.1

pub line-UpTo : (from : ℕ) (r : Row) → Lies from r → UpTo (start_of r) (line_columns r) r.content_end
line-UpTo from r h = drop_end-UpTo is_blank (start_of r) (without_indent r.columns) r.content_end (start-Runs from r h)

piece_if-order : (text : List ℕ) (from start end : ℕ) (ps : List Piece) (to : ℕ) → from ≤ start → start ≤ end → InPieces end ps to → InPieces from (piece_if text start end ps) to
piece_if-order text from start end ps to a b h = grind (arith, pieces-lower)

pub stretch-order : (text : List ℕ) (start end content_end : ℕ) (after : BlockDocument) (to : ℕ) → start ≤ end → end ≤ content_end → InOrder content_end after to → InOrder start (stretch_then text start end after) to
stretch-order text start end content_end after to some le a =
    texts-order start (piece_if text start end []) content_end after to (piece_if-order text start start end [] content_end (omega arith) some le) a

words-order : (text : List ℕ) (from : ℕ) (cs : List Column) (content_end : ℕ) (after : BlockDocument) (to : ℕ) → UpTo from cs content_end → InOrder content_end after to → InOrder from (stretch_then text from (end_place from cs) after) to
words-order text from cs content_end after to u a =
    let e : end_place from cs ≡ u.mid = end_place-Runs from cs u.mid u.runs in
    let b : from ≤ u.mid = Runs-le from cs u.mid u.runs in
    let l : u.mid ≤ content_end = u.low in
    stretch-order text from (end_place from cs) content_end after to (omega (arith, e, b)) (omega (arith, e, l)) a

stretches-order : (text : List ℕ) (from begin : ℕ) (r : Row) (more : List Row) → Lies from r → begin ≤ start_of r → Along r.line_end more (last_line_end r more) → InOrder begin (stretches text begin r more) (last_line_end r more)
stretches-order text from begin r [] h b a =
    let u = line-UpTo from r h in
    let e : words_end r ≡ u.mid = end_place-Runs (start_of r) (line_columns r) u.mid u.runs in
    let c : start_of r ≤ u.mid = Runs-le (start_of r) (line_columns r) u.mid u.runs in
    let l : u.mid ≤ r.content_end = u.low in
    stretch-order text begin (words_end r) r.content_end Nil r.line_end (omega (arith, b, e, c)) (omega (arith, e, l)) h.2
stretches-order text from begin r (s ∷ more) h b a =
    go (begin_of s == r.line_end) (stretches-order text r.line_end begin s more a.0 (omega (arith, b, low, line_end-begin, begin-low)) a.1) (stretches-order text r.line_end (begin_of s) s more a.0 begin-low a.1)
  where
    line_end-begin : r.line_end ≤ begin_of s
    line_end-begin = a.0.0

    begin-low : begin_of s ≤ start_of s
    begin-low = begin-start r.line_end s a.0

    low : start_of r ≤ r.line_end
    low = let b : start_of r ≤ r.content_end = Runs-le (start_of r) (without_indent r.columns) r.content_end (start-Runs from r h) in let c : r.content_end ≤ r.line_end = h.2 in omega (arith, b, c)

    go : (z : Bool) → InOrder begin (stretches text begin s more) (last_line_end s more) → InOrder (begin_of s) (stretches text (begin_of s) s more) (last_line_end s more)
        → InOrder begin (if z then stretches text begin s more else stretch_then text begin r.line_end (stretches text (begin_of s) s more)) (last_line_end s more)
    go true p q = p
    go false p q = stretch-order text begin r.line_end (begin_of s) (stretches text (begin_of s) s more) (last_line_end s more) (omega (arith, b, low)) line_end-begin q

pub paragraph-order : (text : List ℕ) (from : ℕ) (r : Row) (more : List Row) → Lies from r → Along r.line_end more (last_line_end r more) → InOrder (start_of r) (paragraph_tokens text r more) (last_line_end r more)
paragraph-order text from r more h a = stretches-order text from (start_of r) r more h (omega arith) a

pub without_closing-UpTo : (from : ℕ) (cs : List Column) (to : ℕ) → Runs from cs to → UpTo from (without_closing cs) to
without_closing-UpTo from cs to h = go _
  where
    go : (z : Bool) → UpTo from (if z then without_trailing_blanks (drop_end is_hash cs) else cs) to
    go true = let u = drop_end-UpTo is_hash from cs to h in up-more from (without_trailing_blanks (drop_end is_hash cs)) u.mid to u.low (drop_end-UpTo is_blank from (drop_end is_hash cs) u.mid u.runs)
    go false = record { mid = to; runs = h; low = omega arith }

before_braces-UpTo : (from : ℕ) (cs : List Column) (to : ℕ) → Runs from cs to → UpTo from (before_braces (λ c. c.byte) cs) to
before_braces-UpTo from [] to h = record { mid = to; runs = h; low = omega arith }
before_braces-UpTo from (c ∷ cs) to h = go (is_braced (λ x. x.byte) (c ∷ cs)) (before_braces-UpTo (suc c.at) cs to h.1)
  where
    go : (z : Bool) → UpTo (suc c.at) (before_braces (λ x. x.byte) cs) to → UpTo from (if z then [] else c ∷ before_braces (λ x. x.byte) cs) to
    go true u = record { mid = from; runs = refl; low = Runs-le from (c ∷ cs) to h }
    go false u = record { mid = u.mid; runs = (h.0, u.runs); low = u.low }

pub without_attributes-UpTo : (attributes : Bool) (from : ℕ) (cs : List Column) (to : ℕ) → Runs from cs to → UpTo from (without_attributes attributes cs) to
without_attributes-UpTo false from cs to h = record { mid = to; runs = h; low = omega arith }
without_attributes-UpTo true from cs to h =
    let u = before_braces-UpTo from cs to h in
    let before = before_braces (λ c. c.byte) cs in
    up-more from (without_trailing_blanks before) u.mid to u.low (drop_end-UpTo is_blank from before u.mid u.runs)

-- the columns of a heading's text, from those after its opening sequence
pub heading-UpTo : (attributes : Bool) (from : ℕ) (cs : List Column) (to : ℕ) → Runs from cs to → UpTo from (without_closing (without_attributes attributes (without_trailing_blanks cs))) to
heading-UpTo attributes from cs to h =
    let u = drop_end-UpTo is_blank from cs to h in
    let a = without_attributes-UpTo attributes from (without_trailing_blanks cs) u.mid u.runs in
    let left = without_attributes attributes (without_trailing_blanks cs) in
    let w = without_closing-UpTo from left a.mid a.runs in
    up-more from (without_closing left) u.mid to u.low (up-more from (without_closing left) a.mid u.mid a.low w)

pub heading-order : (text : List ℕ) (attributes : Bool) (level from : ℕ) (r : Row) (to : ℕ) → Lies from r → r.line_end ≤ to → InOrder (start_of r) (heading_tokens text attributes level r) to
heading-order text attributes level from r to h le =
    let d = drop-Runs level (start_of r) (without_indent r.columns) r.content_end (start-Runs from r h) in
    let cs = drop level (without_indent r.columns) in
    let e = drop-Runs (indent cs) (first_place r.content_end cs) cs r.content_end d.0 in
    let f = first_place r.content_end (without_indent cs) in
    let u = heading-UpTo attributes f (without_indent cs) r.content_end e.0 in
    let a : start_of r ≤ first_place r.content_end cs = d.1 in
    let b : first_place r.content_end cs ≤ f = e.1 in
    let p : r.content_end ≤ r.line_end = h.2 in
    InOrder-lower (start_of r) f (heading_tokens text attributes level r) to (omega (arith, a, b))
    (words-order text f (heading_columns attributes level r) r.content_end Nil to u (omega (arith, p, le)))

-- lines as they are
two_of : (n : ℕ) → (n == 2) ≡ true → n ≡ 2
two_of n e = grind (arith)

plain_line-order : (text : List ℕ) (from : ℕ) (r : Row) → from ≤ r.content_end → r.content_end ≤ r.line_end → InPieces from (plain_line text from r) r.line_end
plain_line-order text from r a b = grind (arith, two_of, piece_if-order)

spaces_if-order : (n at : ℕ) (ps : List Piece) (to : ℕ) → InPieces at ps to → InPieces at (spaces_if n at ps) to
spaces_if-order zero at ps to h = h
spaces_if-order (suc n) at ps to h = (omega arith, omega arith, h)

verbatim-order : (text : List ℕ) (from : ℕ) (cs : List Column) (r : Row) → Runs from cs r.content_end → r.content_end ≤ r.line_end → InPieces from (verbatim_line text cs r) r.line_end
verbatim-order text from cs r h le =
    let e : first_place r.content_end cs ≡ from = first_place-Runs from cs r.content_end h in
    let l : from ≤ r.content_end = Runs-le from cs r.content_end h in
    subst (λ f. InPieces f (verbatim_line text cs r) r.line_end) e
    (spaces_if-order (left_columns cs) (first_place r.content_end cs) (plain_line text (first_place r.content_end cs) r) r.line_end (plain_line-order text (first_place r.content_end cs) r (omega (arith, e, l)) le))

merge-order : (from : ℕ) (p : Piece) (ps : List Piece) (to : ℕ) → from ≤ p.start → p.start ≤ p.end → InPieces p.end ps to → InPieces from (merge p ps) to
merge-order from p ps to a b h = grind arith

merge_all-order : (from : ℕ) (ps : List Piece) (mid : ℕ) (following : List Piece) (to : ℕ) → InPieces from ps mid → InPieces mid following to → InPieces from (merge_all ps following) to
merge_all-order from [] mid following to h b = pieces-lower from mid following to h b
merge_all-order from (p ∷ ps) mid following to h b = merge-order from p (merge_all ps following) to h.0 h.1 (merge_all-order p.end ps mid following to h.2 b)

pub code_place : (most from : ℕ) (r : Row) → Lies from r → Runs (first_place r.content_end (code_columns most r)) (code_columns most r) r.content_end × (begin_of r ≤ first_place r.content_end (code_columns most r))
code_place most from r h = drop-Runs _ (begin_of r) r.columns r.content_end h.1

code_pieces-order : (text : List ℕ) (most from : ℕ) (rs : List Row) (to : ℕ) → Along from rs to → InPieces from (code_pieces text most rs) to
code_pieces-order text most from [] to h = h
code_pieces-order text most from (r ∷ rs) to h =
    let d = code_place most from r h.0 in
    let a : from ≤ begin_of r = h.0.0 in
    let b : begin_of r ≤ first_place r.content_end (code_columns most r) = d.1 in
    merge_all-order from (verbatim_line text (code_columns most r) r) r.line_end (code_pieces text most rs) to
    (pieces-lower from (first_place r.content_end (code_columns most r)) (verbatim_line text (code_columns most r) r) r.line_end (omega (arith, a, b)) (verbatim-order text (first_place r.content_end (code_columns most r)) (code_columns most r) r d.0 h.0.2))
    (code_pieces-order text most r.line_end rs to h.1)

pub code-order : (text : List ℕ) (most from : ℕ) (rs : List Row) (to : ℕ) → Along from rs to → InOrder from (code_tokens text most rs) to
code-order text most from rs to h = texts-order from (code_pieces text most rs) to Nil to (code_pieces-order text most from rs to h) (omega arith)

-- from the place at which the first line begins without its indent
pub indented-order : (text : List ℕ) (most from : ℕ) (r : Row) (rs : List Row) (to : ℕ) → Lies from r → Along r.line_end rs to → InOrder (first_place r.content_end (code_columns most r)) (code_tokens text most (r ∷ rs)) to
indented-order text most from r rs to h a =
    let d = code_place most from r h in
    let f = first_place r.content_end (code_columns most r) in
    texts-order f (code_pieces text most (r ∷ rs)) to Nil to
    (merge_all-order f (verbatim_line text (code_columns most r) r) r.line_end (code_pieces text most rs) to (verbatim-order text f (code_columns most r) r d.0 h.2) (code_pieces-order text most r.line_end rs to a)) (omega arith)

pub before-Along : (closes : Row → Bool) (from : ℕ) (rs : List Row) (to : ℕ) → Along from rs to → Along from (lines_before closes rs) to
before-Along closes from [] to h = h
before-Along closes from (r ∷ rs) to h = go (closes r) (before-Along closes r.line_end rs to h.1)
  where
    go : (z : Bool) → Along r.line_end (lines_before closes rs) to → Along from (stop_at z r (lines_before closes rs)) to
    go true ih = Along-le from (r ∷ rs) to h
    go false ih = (h.0, ih)

pub html-order : (text : List ℕ) (from : ℕ) (rs : List Row) (to : ℕ) → Along from rs to → InOrder from (html_tokens text rs) to
html-order text from [] to h = h
html-order text from (r ∷ rs) to h =
    html_then-order from (verbatim_line text r.columns r) r.line_end (html_tokens text rs) to
    (pieces-lower from (begin_of r) (verbatim_line text r.columns r) r.line_end h.0.0 (verbatim-order text (begin_of r) r.columns r h.0.1 h.0.2)) (html-order text r.line_end rs to h.1)
