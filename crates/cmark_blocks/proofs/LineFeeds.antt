-- The line ends in the text of a paragraph are those between its lines.
use Rattle.std.proofs.Common.{◌≡◌, ℕ, zero, suc, ◌+◌, ◌-◌, Bool, true, false, ◌==◌, ◌&&◌, not, nat_le, cond, List, [], ◌∷◌, ◌++◌, length, drop, Option, Some, None, refl, sym, ap, ◌∙◌, subst, arith}
use Rattle.std.specs.Prelude.{if◌then◌else◌}
use Rattle.std.proofs.lemmas.List.Sums.{take_while-cons, sum_by-append, sum_by-cons}
use Rattle.cmark_grammar.specs.Answers.{Lookup}
use Rattle.cmark_grammar.specs.Columns.{Column, bytes_of}
use Rattle.cmark_grammar.specs.Containers.{Container, keeps, strip_as, strip, strips}
use Rattle.cmark_grammar.specs.Leaves.{underlines}
use Rattle.cmark_grammar.specs.LinkDefinitions.{line_end_of, further_bytes, line_ends}
use Rattle.cmark_grammar.specs.Lines.{is_content, content, lines}
use Rattle.cmark_grammar.specs.Openings.{is_none, put_if, texts, text_lines}
use Rattle.cmark_grammar.specs.Options.{Options}
use Rattle.cmark_grammar.specs.Rows.{Row, rows_from, shown, show_as}
use Rattle.cmark_scan_lines.proofs.ColumnSteps.{bytes_of-expand}
use Rattle.cmark_block_model.proofs.RowPlaces.{kept-following}
use Rattle.cmark_block_model.specs.BlockPass.{ahead_in}
use Rattle.cmark_block_model.specs.OpenBlocks.{OpenContainer}
use Rattle.cmark_blocks.specs.Ahead.{lines_at}

-- bytes without line feeds, and lines of them
abbrev pub HasNoFeed : List ℕ → Type 0
HasNoFeed [] = Unit {0}
HasNoFeed (b ∷ bs) = ((b == 10) ≡ false) × HasNoFeed bs

abbrev pub HaveNoFeed : List Row → Type 0
HaveNoFeed [] = Unit {0}
HaveNoFeed (r ∷ rs) = HasNoFeed (bytes_of r.columns) × HaveNoFeed rs

no-feeds : (bs : List ℕ) → HasNoFeed bs → line_ends bs ≡ 0
no-feeds [] h = refl
no-feeds (b ∷ bs) h =
    sum_by-cons (λ x. cond (x == 10) 1 0) b bs ∙ ap (λ z. cond z 1 0 + line_ends bs) h.0
    ∙ (let ih = no-feeds bs h.1 in let none : 0 + line_ends bs ≡ 0 = omega (arith, ih) in none)

-- in one text after another
pub ends-following : (bs cs : List ℕ) → line_ends (bs ++ cs) ≡ line_ends bs + line_ends cs
ends-following bs cs = sum_by-append (λ x. cond (x == 10) 1 0) bs cs

one-end : (r : Row) → line_ends (line_end_of r) ≡ 1
one-end r = go (nat_le 2 (r.line_end - r.content_end))
  where
    go : (z : Bool) → line_ends (if z then 13 ∷ 10 ∷ [] else 10 ∷ []) ≡ 1
    go true = refl
    go false = refl

further-ends : (first : Row) (rs : List Row) → HaveNoFeed rs → line_ends (further_bytes first rs) ≡ length rs
further-ends first [] h = refl
further-ends first (r ∷ rs) h =
    ends-following (line_end_of first) (bytes_of r.columns ++ further_bytes r rs)
    ∙ ap (λ n. n + line_ends (bytes_of r.columns ++ further_bytes r rs)) (one-end first)
    ∙ (let split = ends-following (bytes_of r.columns) (further_bytes r rs) in
    let none = no-feeds (bytes_of r.columns) h.0 in
    let ih = further-ends r rs h.1 in
    let all : 1 + line_ends (bytes_of r.columns ++ further_bytes r rs) ≡ suc (length rs) = omega (arith, split, none, ih) in
    all)

content-plain : (bs : List ℕ) → HasNoFeed (content bs)
content-plain [] = tt
content-plain (b ∷ bs) = subst HasNoFeed (sym (take_while-cons is_content b bs)) (go (b == 10) (b == 13) refl (content-plain bs))
  where
    go : (p q : Bool) → (b == 10) ≡ p → HasNoFeed (content bs) → HasNoFeed (cond (not p && not q) (b ∷ content bs) [])
    go true q e h = tt
    go false true e h = tt
    go false false e h = (e, h)

columns-plain : (n : ℕ) (cs : List Column) → HasNoFeed (bytes_of cs) → HasNoFeed (bytes_of (drop n cs))
columns-plain zero cs h = h
columns-plain (suc n) [] h = tt
columns-plain (suc n) (c ∷ cs) h = columns-plain n cs (go (c.part == 0) h)
  where
    go : (z : Bool) → HasNoFeed (if z then c.byte ∷ bytes_of cs else bytes_of cs) → HasNoFeed (bytes_of cs)
    go true h = h.1
    go false h = h

rows-plain : (at : ℕ) (ls : List (List ℕ)) → HaveNoFeed (rows_from at ls)
rows-plain at [] = tt
rows-plain at (l ∷ ls) = (subst HasNoFeed (sym (bytes_of-expand 0 at (content l))) (content-plain l), rows-plain (at + length l) ls)

strip-plain : (k : Container) (bare : Bool) (r : Row) → HasNoFeed (bytes_of r.columns) → HasNoFeed (bytes_of (strip k bare r).columns)
strip-plain k bare r h = go (keeps k bare r) refl
  where
    go : (o : Option Row) → keeps k bare r ≡ o → HasNoFeed (bytes_of (strip_as o r).columns)
    go None e = h
    go (Some s) e =
        let n = kept-following k bare r s e in
        subst (λ (x : Row). HasNoFeed (bytes_of x.columns)) n.1.1 (columns-plain n.0 r.columns h)

strips-plain : (k : Container) (bare : Bool) (rs : List Row) → HaveNoFeed rs → HaveNoFeed (strips k bare rs)
strips-plain k bare [] h = tt
strips-plain k bare (r ∷ rs) h = (strip-plain k bare r h.0, strips-plain k false rs h.1)

shown-plain : (rs : List Row) → HaveNoFeed rs → HaveNoFeed (shown rs)
shown-plain [] h = tt
shown-plain (r ∷ rs) h = go r.lazy (shown-plain rs h.1)
  where
    go : (z : Bool) → HaveNoFeed (shown rs) → HaveNoFeed (show_as z r (shown rs))
    go true g = tt
    go false g = (h.0, g)

texts-plain : (options : Options) (rs : List Row) → HaveNoFeed rs → HaveNoFeed (text_lines options rs)
texts-plain options [] h = tt
texts-plain options (r ∷ rs) h = go (texts options r rs && is_none (underlines r)) (texts-plain options rs h.1)
  where
    go : (z : Bool) → HaveNoFeed (text_lines options rs) → HaveNoFeed (put_if z r (text_lines options rs))
    go true g = (h.0, g)
    go false g = tt

module _ (text : List ℕ) (options : Options) (lookup : Lookup) where
  ahead-plain : (cs : List OpenContainer) (rs : List Row) → HaveNoFeed rs → HaveNoFeed (ahead_in text options lookup cs rs)
  ahead-plain [] rs h = h
  ahead-plain (c ∷ cs) rs h = ahead-plain cs (shown (strips c.container false rs)) (shown-plain (strips c.container false rs) (strips-plain c.container false rs h))

  -- the text of the lines that continue a paragraph has one line end for each of them
  pub texts-end : (cs : List OpenContainer) (at : ℕ) (r : Row) →
      line_ends (further_bytes r (text_lines options (ahead_in text options lookup cs (lines_at text at)))) ≡ length (text_lines options (ahead_in text options lookup cs (lines_at text at)))
  texts-end cs at r =
      further-ends r (text_lines options (ahead_in text options lookup cs (lines_at text at)))
      (texts-plain options (ahead_in text options lookup cs (lines_at text at)) (ahead-plain cs (lines_at text at) (rows-plain at (lines (drop at text)))))
