-- Another line after the open block of the innermost container.
use Rattle.std.proofs.Common.{◌≡◌, ℕ, zero, suc, ◌-◌, Bool, true, false, ◌==◌, List, [], ◌∷◌, ◌++◌, length, take, refl, ap, ◌∙◌, sym, append_assoc, append-nil, Option, Some, None, arith, rules}
use Rattle.std.specs.Prelude.{if◌then◌else◌}
use Rattle.cmark_grammar.specs.Answers.{Lookup}
use Rattle.cmark_grammar.specs.SetextAttributes.{content_of, without_braces, setext_attributes}
use Rattle.cmark_grammar.specs.Options.{Options}
use Rattle.cmark_grammar.specs.Alignment.{Alignment}
use Rattle.cmark_grammar.specs.TableRows.{count_missing, most_filled}
use Rattle.cmark_grammar.specs.TableTokens.{row_cells, row_tokens}
use Rattle.cmark_grammar.specs.Rows.{Row, begin_of, start_of}
use Rattle.cmark_grammar.specs.Leaves.{underlines}
use Rattle.cmark_grammar.specs.Openings.{Leaf, LinkDefinition, texts, Table}
use Rattle.cmark_grammar.specs.Blocks.{Blocks, Nil as NoBlocks, Paragraph, SetextHeading, LeafBlock, join as join_blocks}
use Rattle.cmark_block_model.specs.BlocksByLine.{Between, InParagraph, InLeaf, lines_underline_or, lines_go_on_or, lines_begin, lines_feed}
use Rattle.cmark_grammar.specs.Tokens.{stretch_then, paragraph_tokens}
use Rattle.cmark_grammar.specs.BlockDocument as document
use Rattle.cmark_grammar.specs.BlockDocument.{BlockDocument, Nil, Node, node, join}
use Rattle.cmark_block_model.specs.OpenBlocks.{OpenContainer, OpenLeaf, Closed, InParagraph as InParagraphLeaf, InTable, Pass}
use Rattle.cmark_block_model.specs.BlockPass.{ahead_in, begin, close_leaf, leaf_closed, leaf_fed, underlined_or, heading_made, kept_lines, paragraph_line}
use Rattle.cmark_block_model.proofs.Replay.{Level, begun, paragraph_begun, untitled, level_opened, level_drawn, leaf_level, replay, replay-join}
use Rattle.cmark_block_model.proofs.Mirror.{whole, kept_before, kept_push, attributes-kept, braces-kept, whole-same, last_of, last_push, last_begin, begin_push, pass_with, cells_left, left-push, table_leaf, leaf_left, is_looked_up, lines_left, row-taken, no-row, FitsLeaf, Fits, lines_drawn, drawn-tokens, one_more, drawn-push, paragraph_open, paragraph_leaf, rows-push, table_open, leaf_open, inner_at, leaf_at, pass_at}
use Rattle.cmark_block_model.proofs.Closing.{noded, leaf-closes, leaf-left}
use Rattle.cmark_block_model.proofs.Beginning.{IsFresh, starts}
use Rattle.cmark_block_model.proofs.ListDelimiters.{Unmarked, unmarked-join}

module _ (text : List ℕ) (options : Options) (lookup : Lookup) where
  -- a paragraph continues
  pub paragraph-goes : (first : Row) (more : List Row) (r s : Row) (l : Level) (outer : List OpenContainer) (leaf : OpenLeaf) (n : ℕ) → whole s ≡ r
      → paragraph_line text options lookup (kept_before options.heading_attributes first more) (last_begin (start_of first) first more) (whole (last_of first more)) r (pass_with (paragraph_open text options lookup first more l) outer false leaf n)
      ≡ pass_with (paragraph_open text options lookup first (more ++ s ∷ []) l) outer false (paragraph_leaf text options lookup first (more ++ s ∷ [])) n
  paragraph-goes first more r s l outer leaf n e =
      ap (λ x. paragraph_line text options lookup (kept_before options.heading_attributes first more) from (whole (last_of first more)) x (pass_with (paragraph_open text options lookup first more l) outer false leaf n)) (sym e)
      ∙ go (begin_of s == line_end)
      ∙ ap (λ x. goes (one_more text options lookup (begin_of s == line_end) from line_end before) (if begin_of s == line_end then from else begin_of s) x) (sym (last_push first more s))
      ∙ ap (λ x. goes (one_more text options lookup (begin_of s == line_end) from line_end before) x (last_of first (more ++ s ∷ []))) (sym (begin_push (start_of first) first more s))
      ∙ ap (λ x. goes x (last_begin (start_of first) first (more ++ s ∷ [])) (last_of first (more ++ s ∷ []))) (sym (drawn-push text options lookup (start_of first) first more s))
      ∙ ap (λ rs. goes_with rs (lines_drawn text options lookup (start_of first) first (more ++ s ∷ [])) (last_begin (start_of first) first (more ++ s ∷ [])) (last_of first (more ++ s ∷ []))) (sym (kept_push options.heading_attributes first more s))
    where
      from : ℕ
      from = last_begin (start_of first) first more

      line_end : ℕ
      line_end = (last_of first more).line_end

      before : BlockDocument
      before = lines_drawn text options lookup (start_of first) first more

      goes_with : List Row → BlockDocument → ℕ → Row → Pass
      goes_with rs d at x = pass_with (level_drawn d (level_opened (start_of first) document.Paragraph (paragraph_begun l))) outer false (InParagraphLeaf rs at (whole x)) n

      goes : BlockDocument → ℕ → Row → Pass
      goes d at x = goes_with (kept_lines options.heading_attributes (kept_before options.heading_attributes first more) (whole (last_of first more))) d at x

      go : (z : Bool) → (if z then goes before from s else goes (join before (stretch_then text from line_end Nil)) (begin_of s) s) ≡ goes (one_more text options lookup z from line_end before) (if z then from else begin_of s) s
      go true = refl
      go false = refl

  pub paragraph-feeds : (closed : Blocks) (first : Row) (more : List Row) (r : Row) (next ahead : List Row) (l : Level) (outer : List OpenContainer) (b : Bool) (n : ℕ) → r.lazy ≡ false → ahead_in text options lookup outer next ≡ ahead
      → IsFresh text options lookup l → Unmarked closed → Fits options b (InParagraph closed first more) (r ∷ ahead) n
      → leaf_fed text options lookup (leaf_at text options lookup (InParagraph closed first more)) r next (pass_with (inner_at text options lookup (InParagraph closed first more) (r ∷ ahead) l) outer false (leaf_at text options lookup (InParagraph closed first more)) n)
      ≡ pass_at text options lookup (lines_feed options (InParagraph closed first more) r ahead) ahead l outer false n
  paragraph-feeds closed first more r next ahead l outer b n e a h u f = go (underlines r)
    where
      c : Level
      c = replay text options lookup closed l

      from : ℕ
      from = last_begin (start_of first) first more

      p : Pass
      p = pass_with (paragraph_open text options lookup first more (replay text options lookup closed l)) outer false (paragraph_leaf text options lookup first more) n

      end : (o : List OpenContainer) (x : Level) (leaf : OpenLeaf) → pass_with x o false leaf n ≡ pass_with x (o ++ []) false leaf n
      end o x leaf = ap (λ y. pass_with x y false leaf n) (sym (append-nil o))

      text-goes : (z : Bool) → (if z then paragraph_line text options lookup (kept_before options.heading_attributes first more) from (whole (last_of first more)) r p else begin text options lookup r next (leaf_closed text options lookup p))
          ≡ pass_at text options lookup (lines_go_on_or z (InParagraph closed first (more ++ r ∷ [])) (lines_begin options (join_blocks closed (Paragraph first more NoBlocks)) r ahead)) ahead l outer false n
      text-goes true = paragraph-goes first more r r c outer (paragraph_leaf text options lookup first more) n (whole-same r e) ∙ end outer (paragraph_open text options lookup first (more ++ r ∷ []) c) (paragraph_leaf text options lookup first (more ++ r ∷ []))
      text-goes false =
          ap (begin text options lookup r next) (leaf-closes text options lookup (InParagraph closed first more) b n l outer false f)
          ∙ starts text options lookup (join_blocks closed (Paragraph first more NoBlocks)) r next ahead l outer n h (unmarked-join closed (Paragraph first more NoBlocks) u tt) e a

      go : (u : Option ℕ) → underlined_or text options lookup u (λ level. heading_made text options lookup level (kept_before options.heading_attributes first more) from (whole (last_of first more)) r p) (if texts options r (ahead_in text options lookup outer next) then paragraph_line text options lookup (kept_before options.heading_attributes first more) from (whole (last_of first more)) r p else begin text options lookup r next (leaf_closed text options lookup p))
          ≡ pass_at text options lookup (lines_underline_or u (λ level. Between (join_blocks closed (SetextHeading level first more r NoBlocks))) (lines_go_on_or (texts options r ahead) (InParagraph closed first (more ++ r ∷ [])) (lines_begin options (join_blocks closed (Paragraph first more NoBlocks)) r ahead))) ahead l outer false n
      go (Some level) =
          let on = options.heading_attributes in
          let kept = content_of (kept_before on first more ++ whole (last_of first more) ∷ []) in
          let content = content_of (first ∷ more) in
          let tokens = paragraph_tokens text first more in
          ap (λ t. pass_with (untitled (noded text options lookup (document.Heading level (setext_attributes on kept)) (start_of first) r.line_end (without_braces text on kept t) (paragraph_begun c))) outer false Closed n) (sym (drawn-tokens text options lookup (start_of first) first more))
          ∙ ap (λ a. pass_with (untitled (noded text options lookup (document.Heading level a) (start_of first) r.line_end (without_braces text on kept tokens) (paragraph_begun c))) outer false Closed n) (attributes-kept on first more)
          ∙ ap (λ t. pass_with (untitled (noded text options lookup (document.Heading level (setext_attributes on content)) (start_of first) r.line_end t (paragraph_begun c))) outer false Closed n) (braces-kept text on first more tokens)
          ∙ ap (λ q. pass_with q outer false Closed n) (sym (replay-join text options lookup closed (SetextHeading level first more r NoBlocks) l))
          ∙ end outer (replay text options lookup (join_blocks closed (SetextHeading level first more r NoBlocks)) l) Closed
      go None = grind (arith, kept_before, from, whole, last_of, p, text-goes)

  -- a table continues with a row
  table-goes : (alignments : List Alignment) (first : Row) (had : List Row) (left : ℕ) (r : Row) (next ahead : List Row) (q : Level) (outer : List OpenContainer) (n : ℕ) → suc left ≡ lines_left options (length alignments) had (r ∷ ahead)
      → leaf_fed text options lookup (table_leaf (length alignments) had) r next (pass_with (table_open text options lookup alignments first had q) outer false (table_leaf (length alignments) had) n)
      ≡ pass_with (table_open text options lookup alignments first (had ++ r ∷ []) q) outer false (table_leaf (length alignments) (had ++ r ∷ [])) n
  table-goes alignments first [] left r next ahead q outer n e = refl
  table-goes alignments first (delimiter ∷ rows) left r next ahead q outer n e =
      ap (λ z. if z then goes (join (row_tokens text columns rows) (row_tokens text columns (r ∷ []))) (cells - count_missing columns r) else begin text options lookup r next (leaf_closed text options lookup p)) (row-taken options columns cells left r ahead e).0
      ∙ ap (λ d. goes d (cells - count_missing columns r)) (sym (rows-push text options lookup columns rows r))
      ∙ ap (goes (row_tokens text columns (rows ++ r ∷ []))) (sym (left-push columns most_filled rows r))
    where
      columns : ℕ
      columns = length alignments

      cells : ℕ
      cells = cells_left (length alignments) most_filled rows

      p : Pass
      p = pass_with (table_open text options lookup alignments first (delimiter ∷ rows) q) outer false (InTable (length alignments) (cells_left (length alignments) most_filled rows) true) n

      goes : BlockDocument → ℕ → Pass
      goes d k =
          pass_with (level_drawn (Node (node document.TableHead (start_of first) first.line_end) (row_cells text (length alignments) first) d) (level_opened (start_of first) (document.Table alignments) (begun q)))
          outer false (InTable (length alignments) k true) n

  pub leaf-feeds : (closed : Blocks) (leaf : Leaf) (first : Row) (had : List Row) (left : ℕ) (r : Row) (next ahead : List Row) (l : Level) (outer : List OpenContainer) (b : Bool) (n : ℕ) → r.lazy ≡ false → ahead_in text options lookup outer next ≡ ahead
      → IsFresh text options lookup l → Unmarked closed → Fits options b (InLeaf closed leaf first had left) (r ∷ ahead) n
      → leaf_fed text options lookup (leaf_left leaf had left) r next (pass_with (inner_at text options lookup (InLeaf closed leaf first had left) (r ∷ ahead) l) outer false (leaf_left leaf had left) n)
      ≡ pass_at text options lookup (lines_feed options (InLeaf closed leaf first had left) r ahead) ahead l outer false n
  leaf-feeds closed leaf first had zero r next ahead l outer b n e a h u f =
      done leaf f.3 (leaf_open text options lookup leaf first had [] (replay text options lookup closed l))
      ∙ ap (begin text options lookup r next) (leaf-left text options lookup leaf first had [] zero (r ∷ ahead) (replay text options lookup closed l) outer false n refl f.3)
      ∙ ap (λ q. begin text options lookup r next (pass_with q outer false Closed n)) (sym (replay-join text options lookup closed (LeafBlock leaf first had NoBlocks) l))
      ∙ starts text options lookup (join_blocks closed (LeafBlock leaf first had NoBlocks)) r next ahead l outer n h (unmarked-join closed (LeafBlock leaf first had NoBlocks) u tt) e a
    where
      Done : Leaf → Level → Type 0
      Done leaf q =
          leaf_fed text options lookup (leaf_left leaf had zero) r next (pass_with q outer false (leaf_left leaf had zero) n)
          ≡ begin text options lookup r next (close_leaf text options lookup (leaf_left leaf had zero) (pass_with q outer false (leaf_left leaf had zero) n))

      table : (alignments : List Alignment) (rs : List Row) (q : Level) → 0 ≡ lines_left options (length alignments) rs (r ∷ ahead)
          → leaf_fed text options lookup (table_leaf (length alignments) rs) r next (pass_with q outer false (table_leaf (length alignments) rs) n)
          ≡ begin text options lookup r next (close_leaf text options lookup (table_leaf (length alignments) rs) (pass_with q outer false (table_leaf (length alignments) rs) n))
      table alignments rs q none = grind (arith, cells_left, pass_with, no-row)

      done : (leaf : Leaf) → FitsLeaf options leaf first had zero (r ∷ ahead) n → (q : Level) → Done leaf q
      done (Table alignments) f q = table alignments had q f.1
      done _ f q = refl
  leaf-feeds closed leaf first had (suc left) r next ahead l outer b n e a h u f = go leaf f.2 f.3
    where
      none : {A : Type 0} → suc left ≡ 0 → A
      none q = absurd (omega (arith, q))

      end : (q : Level) (o : OpenLeaf) → pass_with q outer false o n ≡ pass_with q (outer ++ []) false o n
      end q o = ap (λ x. pass_with q x false o n) (sym (append-nil outer))

      go : (leaf : Leaf) → (is_looked_up leaf ≡ false → suc left ≡ 0) → FitsLeaf options leaf first had (suc left) (r ∷ ahead) n
          → leaf_fed text options lookup (leaf_left leaf had (suc left)) r next (pass_with (leaf_open text options lookup leaf first had (take (suc left) (r ∷ ahead)) (replay text options lookup closed l)) outer false (leaf_left leaf had (suc left)) n)
          ≡ pass_with (leaf_open text options lookup leaf first (had ++ r ∷ []) (take left ahead) (replay text options lookup closed l)) (outer ++ []) false (leaf_left leaf (had ++ r ∷ []) left) n
      go (LinkDefinition definition) h f = search (rules, pass_with, leaf_level, replay, append_assoc, end)
      go (Table alignments) h f = search (rules, table-goes, replay, end, table_open, table_leaf)
      go _ h f = none (h refl)
