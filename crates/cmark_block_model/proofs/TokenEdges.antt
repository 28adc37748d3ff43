-- Where tokens begin and end no character is cut.
use Rattle.std.proofs.Common.{◌≡◌, ℕ, zero, suc, ◌-◌, ◌≤◌, ◌<◌, Bool, true, false, ◌==◌, ◌&&◌, List, [], ◌∷◌, drop, refl, sym, subst, arith, rules}
use Rattle.std.specs.Prelude.{if◌then◌else◌, nat_le}
use Rattle.cmark_grammar.specs.Attributes.{before_braces, closes}
use Rattle.cmark_grammar.specs.Columns.{Column, indent, without_indent, drop_end, without_trailing_blanks, is_blank}
use Rattle.cmark_grammar.specs.Rows.{Row, place, first_place, begin_of, start_of, indent_of}
use Rattle.cmark_grammar.specs.BlockDocument.{BlockDocument, Nil}
use Rattle.cmark_block_model.specs.Ranges.{AllAt}
use Rattle.cmark_grammar.specs.Tokens.{Piece, texts_then, line_columns, end_place, words_end, stretch_then, stretches, paragraph_tokens, is_hash, without_closing, without_attributes, heading_columns, heading_tokens, piece_if, plain_line, left_columns, spaces_if, verbatim_line, merge, merge_all, code_columns, code_pieces, code_tokens, lines_before, html_then, html_tokens}
use Rattle.cmark_block_model.proofs.RowPlaces.{Runs, drop-Runs}
use Rattle.cmark_block_model.proofs.RowEdges.{Front, front-less, IsAsciiColumn, is-ascii, blank-ascii, indent-front, Good, AreGood, drop-good, drop-E, GoodRow, start-E, GoodRows}

module _ (E : ℕ → Type 0) where
  abbrev pub Edged : List Piece → Type 0
  Edged [] = Unit {0}
  Edged (p ∷ ps) = E p.start × E p.end × Edged ps

  -- columns up to an edge
  pub record EdgeTo (from : ℕ) (cs : List Column) : Type 0 where
    pub mid : ℕ
    pub runs : Runs from cs mid
    pub good : AreGood E cs
    pub edge : E mid

  pub place-edge : (c : Column) → Good E c → c.byte < 128 → E (place c)
  place-edge c g lt = grind arith

  drop_end-edge : (p : Column → Bool) → ((c : Column) → p c ≡ true → c.byte < 128) → (from : ℕ) (cs : List Column) (to : ℕ) → Runs from cs to → AreGood E cs → E to → EdgeTo from (drop_end p cs)
  drop_end-edge p ascii from [] to h g et = record { mid = to; runs = h; good = tt; edge = et }
  drop_end-edge p ascii from (c ∷ cs) to h g et = search (rules, place-edge, drop_end-edge p ascii (suc c.at) cs to h.1 g.1 et)

  end_place-is : (from : ℕ) (cs : List Column) (to : ℕ) → Runs from cs to → end_place from cs ≡ to
  end_place-is from [] to h = h
  end_place-is from (c ∷ cs) to h = end_place-is (suc c.at) cs to h.1

  texts-edged : (ps : List Piece) (after : BlockDocument) → Edged ps → AllAt E after → AllAt E (texts_then ps after)
  texts-edged [] after e a = a
  texts-edged (p ∷ ps) after e a = (e.0, e.1, tt, texts-edged ps after e.2 a)

  html_then-edged : (ps : List Piece) (after : BlockDocument) → Edged ps → AllAt E after → AllAt E (html_then ps after)
  html_then-edged [] after e a = a
  html_then-edged (p ∷ ps) after e a = (e.0, e.1, tt, html_then-edged ps after e.2 a)

  start-runs : (r : Row) → GoodRow E r → Runs (start_of r) (without_indent r.columns) r.content_end
  start-runs r g = (drop-Runs (indent r.columns) (begin_of r) r.columns r.content_end g.runs).0

  line-edge : (r : Row) → GoodRow E r → EdgeTo (start_of r) (line_columns r)
  line-edge r g = drop_end-edge is_blank (λ c e. blank-ascii c.byte e) (start_of r) (without_indent r.columns) r.content_end (start-runs r g) (drop-good E (indent r.columns) r.columns g.good) g.content_end

  piece_if-edged : (text : List ℕ) (start end : ℕ) (ps : List Piece) → E start → E end → Edged ps → Edged (piece_if text start end ps)
  piece_if-edged text start end ps a b h = grind arith

  pub stretch-edged : (text : List ℕ) (start end : ℕ) (after : BlockDocument) → E start → E end → AllAt E after → AllAt E (stretch_then text start end after)
  stretch-edged text start end after es ee a = texts-edged (piece_if text start end []) after (piece_if-edged text start end [] es ee tt) a

  end-edge : (from : ℕ) (cs : List Column) → EdgeTo from cs → E (end_place from cs)
  end-edge from cs u = subst E (sym (end_place-is from cs u.mid u.runs)) u.edge

  stretches-edged : (text : List ℕ) (begin : ℕ) (r : Row) (more : List Row) → E begin → GoodRow E r → GoodRows E more → AllAt E (stretches text begin r more)
  stretches-edged text begin r [] b g gs = stretch-edged text begin (words_end r) Nil b (end-edge (start_of r) (line_columns r) (line-edge r g)) tt
  stretches-edged text begin r (s ∷ more) b g gs = search (rules, stretch-edged, stretches-edged text begin s more b gs.0 gs.1, stretches-edged text (begin_of s) s more gs.0.begin gs.0 gs.1)

  pub paragraph-edged : (text : List ℕ) (r : Row) (more : List Row) → GoodRow E r → GoodRows E more → AllAt E (paragraph_tokens text r more)
  paragraph-edged text r more g gs = stretches-edged text (start_of r) r more (start-E E r g) g gs

  closing-edge : (from : ℕ) (cs : List Column) (to : ℕ) → Runs from cs to → AreGood E cs → E to → EdgeTo from (without_closing cs)
  closing-edge from cs to h g et = go _
    where
      go : (z : Bool) → EdgeTo from (if z then without_trailing_blanks (drop_end is_hash cs) else cs)
      go true = let u = drop_end-edge is_hash (λ c e. is-ascii c.byte 35 (omega arith) e) from cs to h g et in drop_end-edge is_blank (λ c e. blank-ascii c.byte e) from (drop_end is_hash cs) u.mid u.runs u.good u.edge
      go false = record { mid = to; runs = h; good = g; edge = et }

  pub and-first : (a b : Bool) → (a && b) ≡ true → a ≡ true
  and-first true b e = refl
  and-first false b e = e

  before_braces-edge : (from : ℕ) (cs : List Column) (to : ℕ) → Runs from cs to → AreGood E cs → E to → EdgeTo from (before_braces (λ c. c.byte) cs)
  before_braces-edge from [] to h g et = record { mid = to; runs = h; good = tt; edge = et }
  before_braces-edge from (c ∷ cs) to h g et = search (rules, place-edge, is-ascii, and-first, before_braces-edge (suc c.at) cs to h.1 g.1 et)

  attributes-edge : (attributes : Bool) (from : ℕ) (cs : List Column) (to : ℕ) → Runs from cs to → AreGood E cs → E to → EdgeTo from (without_attributes attributes cs)
  attributes-edge false from cs to h g et = record { mid = to; runs = h; good = g; edge = et }
  attributes-edge true from cs to h g et =
      let u = before_braces-edge from cs to h g et in drop_end-edge is_blank (λ c e. blank-ascii c.byte e) from (before_braces (λ c. c.byte) cs) u.mid u.runs u.good u.edge

  pub heading-edged : (text : List ℕ) (attributes : Bool) (level : ℕ) (r : Row) → GoodRow E r → Front IsAsciiColumn level (without_indent r.columns) → AllAt E (heading_tokens text attributes level r)
  heading-edged text attributes level r g f =
      let cs = drop level (without_indent r.columns) in
      let gs : AreGood E (without_indent r.columns) = drop-good E (indent r.columns) r.columns g.good in
      let gc : AreGood E cs = drop-good E level (without_indent r.columns) gs in
      let d = drop-Runs level (start_of r) (without_indent r.columns) r.content_end (start-runs r g) in
      let ed : E (first_place r.content_end cs) = drop-E E level (start_of r) (without_indent r.columns) r.content_end (start-runs r g) gs f (start-E E r g) g.content_end in
      let e = drop-Runs (indent cs) (first_place r.content_end cs) cs r.content_end d.0 in
      let ee : E (first_place r.content_end (without_indent cs)) = drop-E E (indent cs) (first_place r.content_end cs) cs r.content_end d.0 gc (indent-front cs) ed g.content_end in
      let u = drop_end-edge is_blank (λ c q. blank-ascii c.byte q) (first_place r.content_end (without_indent cs)) (without_indent cs) r.content_end e.0 (drop-good E (indent cs) cs gc) g.content_end in
      let a = attributes-edge attributes (first_place r.content_end (without_indent cs)) (without_trailing_blanks (without_indent cs)) u.mid u.runs u.good u.edge in
      let w = closing-edge (first_place r.content_end (without_indent cs)) (without_attributes attributes (without_trailing_blanks (without_indent cs))) a.mid a.runs a.good a.edge in
      stretch-edged text (first_place r.content_end (without_indent cs)) (end_place (first_place r.content_end (without_indent cs)) (heading_columns attributes level r)) Nil ee (end-edge (first_place r.content_end (without_indent cs)) (heading_columns attributes level r) w) tt

  -- lines as they are
  two_of : (n : ℕ) → (n == 2) ≡ true → n ≡ 2
  two_of n e = grind (arith)

  plain_line-edged : (text : List ℕ) (from : ℕ) (r : Row) → E from → GoodRow E r → Edged (plain_line text from r)
  plain_line-edged text from r ef g = search (rules, piece_if-edged, two_of)

  spaces_if-edged : (n at : ℕ) (ps : List Piece) → E at → Edged ps → Edged (spaces_if n at ps)
  spaces_if-edged zero at ps e h = h
  spaces_if-edged (suc n) at ps e h = (e, e, h)

  verbatim-edged : (text : List ℕ) (cs : List Column) (r : Row) → E (first_place r.content_end cs) → GoodRow E r → Edged (verbatim_line text cs r)
  verbatim-edged text cs r e g = spaces_if-edged (left_columns cs) (first_place r.content_end cs) (plain_line text (first_place r.content_end cs) r) e (plain_line-edged text (first_place r.content_end cs) r e g)

  merge-edged : (p : Piece) (ps : List Piece) → E p.start → E p.end → Edged ps → Edged (merge p ps)
  merge-edged p ps a b h = grind arith

  merge_all-edged : (ps following : List Piece) → Edged ps → Edged following → Edged (merge_all ps following)
  merge_all-edged [] following h b = b
  merge_all-edged (p ∷ ps) following h b = merge-edged p (merge_all ps following) h.0 h.1 (merge_all-edged ps following h.2 b)

  pub code_place-edge : (most : ℕ) (r : Row) → GoodRow E r → E (first_place r.content_end (code_columns most r))
  code_place-edge most r g = go (nat_le most (indent_of r)) refl
    where
      le : (a b : ℕ) → nat_le a b ≡ true → a ≤ b
      le a b q = grind (arith)

      go : (z : Bool) → nat_le most (indent_of r) ≡ z → E (first_place r.content_end (drop (if z then most else indent_of r) r.columns))
      go true e = drop-E E most (begin_of r) r.columns r.content_end g.runs g.good (front-less IsAsciiColumn most (indent r.columns) r.columns (le most (indent r.columns) e) (indent-front r.columns)) g.begin g.content_end
      go false e = drop-E E (indent r.columns) (begin_of r) r.columns r.content_end g.runs g.good (indent-front r.columns) g.begin g.content_end

  code_pieces-edged : (text : List ℕ) (most : ℕ) (rs : List Row) → GoodRows E rs → Edged (code_pieces text most rs)
  code_pieces-edged text most [] g = tt
  code_pieces-edged text most (r ∷ rs) g = merge_all-edged (verbatim_line text (code_columns most r) r) (code_pieces text most rs) (verbatim-edged text (code_columns most r) r (code_place-edge most r g.0) g.0) (code_pieces-edged text most rs g.1)

  pub code-edged : (text : List ℕ) (most : ℕ) (rs : List Row) → GoodRows E rs → AllAt E (code_tokens text most rs)
  code-edged text most rs g = texts-edged (code_pieces text most rs) Nil (code_pieces-edged text most rs g) tt

  pub before-good : (closes : Row → Bool) (rs : List Row) → GoodRows E rs → GoodRows E (lines_before closes rs)
  before-good closes [] g = tt
  before-good closes (r ∷ rs) g = grind (arith, before-good closes rs g.1)

  pub html-edged : (text : List ℕ) (rs : List Row) → GoodRows E rs → AllAt E (html_tokens text rs)
  html-edged text [] g = tt
  html-edged text (r ∷ rs) g = html_then-edged (verbatim_line text r.columns r) (html_tokens text rs) (verbatim-edged text r.columns r g.0.begin g.0) (html-edged text rs g.1)
