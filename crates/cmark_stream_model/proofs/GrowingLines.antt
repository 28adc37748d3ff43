-- The lines of a text that grows, and its blocks.
use Rattle.std.proofs.Common.{◌≡◌, ℕ, suc, ◌+◌, Bool, true, false, List, [], ◌∷◌, ◌++◌, length, refl, sym, ap, ◌∙◌, arith, rules}
use Rattle.std.specs.Prelude.{if◌then◌else◌}
use Rattle.cmark_grammar.specs.Lines.{ends_line, onto, lines}
use Rattle.cmark_grammar.specs.Options.{Options}
use Rattle.cmark_grammar.specs.Rows.{Row, rows_from, rows, shown}
use Rattle.cmark_grammar.specs.Blocks.{Blocks, Nil, join}
use Rattle.cmark_block_model.specs.BlocksModel.{blocks}
use Rattle.cmark_block_model.specs.BlocksByLine.{OpenLines, Between, close_lines, lines_begin, lines_feed_all, blocks_by_line}
use Rattle.cmark_block_model.proofs.BlocksByLine.{by_line-same}
use Rattle.cmark_stream_model.specs.Growth.{ends_whole, blocks_at, open_after, IsCut}
use Rattle.cmark_stream_model.proofs.Fronts.{Steady, all-front, all-steady, close-front, parts-begin, apart-front, apart-steady, fed-append}

-- a text that is not empty has a line
pub record Parted (text : List ℕ) : Type 0 where
  pub first : List ℕ
  pub others : List (List ℕ)
  pub are : lines text ≡ first ∷ others

onto-parted : (b : ℕ) (ls : List (List ℕ)) → (first : List ℕ) × (others : List (List ℕ)) × (onto b ls ≡ first ∷ others)
onto-parted b [] = (b ∷ [], [], refl)
onto-parted b (l ∷ ls) = (b ∷ l, ls, refl)

lines-parted : (b : ℕ) (bs : List ℕ) → Parted (b ∷ bs)
lines-parted b bs = go (ends_line b bs) refl
  where
    go : (z : Bool) → ends_line b bs ≡ z → Parted (b ∷ bs)
    go true e = record { first = b ∷ []; others = lines bs; are = ap (λ z. if z then (b ∷ []) ∷ lines bs else onto b (lines bs)) e }
    go false e = let p = onto-parted b (lines bs) in record { first = p.0; others = p.1; are = ap (λ z. if z then (b ∷ []) ∷ lines bs else onto b (lines bs)) e ∙ p.2 }

onto-append : (b : ℕ) (ls first : List (List ℕ)) (l : List ℕ) (ms : List (List ℕ)) → ls ≡ l ∷ ms → onto b (ls ++ first) ≡ onto b ls ++ first
onto-append b ls first l ms e = rw e refl

-- if a byte ends a line before some bytes, it also ends a line at the end of a text
pub ends-alone : (b : ℕ) (bs : List ℕ) → ends_line b bs ≡ true → ends_line b [] ≡ true
ends-alone b bs e = grind arith

pub lines-append : (front following : List ℕ) → ends_whole front following ≡ true → lines (front ++ following) ≡ lines front ++ lines following
lines-append [] following e = refl
lines-append (b ∷ []) following e = rw (e, ends-alone b following e) refl
lines-append (b ∷ (c ∷ bs)) following e = go (ends_line b (c ∷ bs)) (lines-append (c ∷ bs) following e) (lines-parted c bs)
  where
    go : (z : Bool) → lines ((c ∷ bs) ++ following) ≡ lines (c ∷ bs) ++ lines following → Parted (c ∷ bs)
        → (if z then (b ∷ []) ∷ lines ((c ∷ bs) ++ following) else onto b (lines ((c ∷ bs) ++ following))) ≡ (if z then (b ∷ []) ∷ lines (c ∷ bs) else onto b (lines (c ∷ bs))) ++ lines following
    go true ih p = ap (λ l. (b ∷ []) ∷ l) ih
    go false ih p = ap (onto b) ih ∙ onto-append b (lines (c ∷ bs)) (lines following) p.first p.others p.are

-- the number of bytes in all lines
abbrev total : List (List ℕ) → ℕ
total [] = 0
total (l ∷ ls) = length l + total ls

onto-total : (b : ℕ) (ls : List (List ℕ)) → total (onto b ls) ≡ suc (total ls)
onto-total b [] = omega arith
onto-total b (l ∷ ls) = omega arith

pub lines-total : (text : List ℕ) → total (lines text) ≡ length text
lines-total [] = refl
lines-total (b ∷ bs) = search (rules, onto-total, lines-total bs)

rows-append : (at : ℕ) (ls ms : List (List ℕ)) → rows_from at (ls ++ ms) ≡ rows_from at ls ++ rows_from (at + total ls) ms
rows-append at [] ms = ap (λ n. rows_from n ms) (omega arith)
rows-append at (l ∷ ls) ms = search (rules, rows-append (at + length l) ls ms)

-- the rows of a text that grows after a whole line ending
pub rows-grow : (front following : List ℕ) → ends_whole front following ≡ true → rows (front ++ following) ≡ rows front ++ rows_from (length front) (lines following)
rows-grow front following e = grind (arith, lines-append, rows-append, lines-total)

module _ (options : Options) where
  -- the blocks before a cut stay, and the blocks after it are those of its lines alone
  pub blocks-grow : (front following : List ℕ) (r : Row) (rs : List Row) → ends_whole front following ≡ true → rows_from (length front) (lines following) ≡ r ∷ rs → IsCut options front r rs
      → blocks options (front ++ following) ≡ join (blocks options front) (blocks_at options (length front) following)
  unfolding blocks_by_line
  blocks-grow front following r rs whole are cut =
      sym (by_line-same options (front ++ following))
      ∙ ap (λ ls. close_lines (lines_feed_all options (Between Nil) ls)) (rows-grow front following whole ∙ ap (λ ls. rows front ++ ls) are)
      ∙ ap close_lines (fed-append options (r ∷ rs) (Between Nil) (rows front) ∙ ap (λ o. lines_feed_all options o (r ∷ rs)) cut.settled)
      ∙ ap (λ o. close_lines (lines_feed_all options o rs)) (parts-begin options (open_after options front) r (shown rs) cut.parts ∙ apart-front options b r (shown rs) cut.same)
      ∙ ap close_lines (all-front options b begun rs steady)
      ∙ close-front options b (lines_feed_all options begun rs) (all-steady options b begun rs steady)
      ∙ ap (λ x. join x (close_lines (lines_feed_all options begun rs))) (by_line-same options front)
      ∙ ap (λ ls. join (blocks options front) (close_lines (lines_feed_all options (Between Nil) ls))) (sym are)
    where
      b : Blocks
      b = close_lines (open_after options front)

      begun : OpenLines
      begun = lines_begin options Nil r (shown rs)

      steady : Steady b begun
      steady = apart-steady options b r (shown rs) cut.begins
