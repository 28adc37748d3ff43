-- What is open closed: the leaf, and the containers.
use Rattle.std.proofs.Common.{◌≡◌, ℕ, zero, suc, Bool, true, false, List, [], ◌∷◌, ◌++◌, length, take, refl, ap, ◌∙◌, sym, append_assoc, append-nil, arith, rules}
use Rattle.cmark_grammar.specs.Answers.{Lookup}
use Rattle.cmark_grammar.specs.Options.{Options}
use Rattle.cmark_grammar.specs.Alignment.{Alignment}
use Rattle.cmark_grammar.specs.TableTokens.{table_tokens}
use Rattle.cmark_grammar.specs.Rows.{Row, start_of, last_line_end, first_place}
use Rattle.cmark_grammar.specs.Leaves.{closes_fence}
use Rattle.cmark_grammar.specs.Containers.{is_bare_start, bare_after}
use Rattle.cmark_grammar.specs.Openings.{Leaf, IndentedCode, FencedCode, MetadataBlock, Table}
use Rattle.cmark_grammar.specs.Blocks.{Blocks, Nil as NoBlocks, Paragraph, LeafBlock, ContainerBlock, join as join_blocks}
use Rattle.cmark_block_model.specs.BlocksByLine.{Verbatim, Indented, Fenced, HtmlLines, leaf_in, OpenLines, Between, AfterTag, InParagraph, InLeaf, InVerbatim, InContainer, blank_lines, close_lines, Metadata}
use Rattle.cmark_grammar.specs.Tokens.{resolved, words_end, stretch_then, stop_at, fenced_lines, code_tokens, code_columns, lines_before}
use Rattle.cmark_grammar.specs.BlockDocument as document
use Rattle.cmark_grammar.specs.BlockDocument.{BlockDocument, BlockKind, Nil, Node, node, join}
use Rattle.cmark_grammar.specs.Metadata.{ends_metadata}
use Rattle.cmark_block_model.specs.OpenBlocks.{OpenContainer, Closed}
use Rattle.cmark_block_model.specs.BlockPass.{close_leaf, is_some, containers_closed, container_closed}
use Rattle.cmark_block_model.proofs.CodeRuns.{run-tokens}
use Rattle.cmark_block_model.proofs.Replay.{Level, begun, paragraph_begun, level_drawn, standing, entered, leaf_level, left_by, blank_level, replay, replay-join}
use Rattle.cmark_block_model.proofs.Mirror.{last_of, last_begin, pass_with, table_leaf, leaf_left, AreBefore, FitsLeaf, FitsVerbatim, Fits, lines_drawn, drawn-tokens, verbatim_level, verbatim_leaf, table_open, leaf_open, inner_at, leaf_at, container_at, containers_at}

pub take-none : (n : ℕ) → take {A = Row} n [] ≡ []
take-none zero = refl
take-none (suc n) = refl

-- lines none of which closes the block
pub before-lines : (closes : Row → Bool) (rs : List Row) → AreBefore closes rs → lines_before closes rs ≡ rs
before-lines closes [] h = refl
before-lines closes (r ∷ rs) h = ap (λ y. stop_at y r (lines_before closes rs)) h.0 ∙ ap (λ x. r ∷ x) (before-lines closes rs h.1)

module _ (text : List ℕ) (options : Options) (lookup : Lookup) where
  blank-replay : (rs : List Row) (l : Level) → l.inner.has_line ≡ true → l.inner.blank ≡ true → replay text options lookup (blank_lines rs) l ≡ l
  blank-replay [] l h b = refl
  blank-replay (r ∷ rs) l h b = search (rules, blank_level, blank-replay rs (blank_level l) refl h)

  blanks-replay : (rs : List Row) (l : Level) → l.inner.has_line ≡ true → l.inner.blank ≡ false → replay text options lookup (blank_lines rs) l ≡ record l { inner = record l.inner { blank = is_some rs } }
  blanks-replay rs l h b = grind (arith, blank-replay, blank_level)

  -- the innermost level, when the leaf is closed
  abbrev pub inner_closed : OpenLines → Level → Level
  inner_closed (Between closed) l = replay text options lookup (close_lines (Between closed)) l
  inner_closed AfterTag l = l
  inner_closed (InParagraph closed first more) l = replay text options lookup (close_lines (InParagraph closed first more)) l
  inner_closed (InLeaf closed leaf first had left) l = replay text options lookup (close_lines (InLeaf closed leaf first had left)) l
  inner_closed (InVerbatim closed verbatim first had waiting) l = replay text options lookup (close_lines (InVerbatim closed verbatim first had waiting)) l
  inner_closed (InContainer closed k first more inside) l = inner_closed inside (entered k first (replay text options lookup closed l))

  -- a leaf's node closed: this kind, these tokens
  abbrev pub noded : BlockKind → (start end : ℕ) → BlockDocument → Level → Level
  noded kind start end tokens l = level_drawn (Node (node kind start end) tokens Nil) l

  -- a leaf of which no line is left
  pub leaf-left : (leaf : Leaf) (first : Row) (had following : List Row) (left : ℕ) (ahead : List Row) (q : Level) (outer : List OpenContainer) (bare : Bool) (n : ℕ) → following ≡ [] → FitsLeaf options leaf first had left ahead n
      → close_leaf text options lookup (leaf_left leaf had left) (pass_with (leaf_open text options lookup leaf first had following q) outer bare (leaf_left leaf had left) n) ≡ pass_with (leaf_level text options lookup leaf first had q) outer bare Closed n
  leaf-left leaf first had following left ahead q outer bare n none f = go leaf f
    where
      all : (leaf : Leaf) → pass_with (leaf_level text options lookup leaf first (had ++ following) q) outer bare Closed n ≡ pass_with (leaf_level text options lookup leaf first had q) outer bare Closed n
      all leaf = ap (λ h. pass_with (leaf_level text options lookup leaf first h q) outer bare Closed n) (ap (λ x. had ++ x) none ∙ append-nil had)

      table : (alignments : List Alignment) (rs : List Row) → close_leaf text options lookup (table_leaf (length alignments) rs) (pass_with (table_open text options lookup alignments first had q) outer bare (table_leaf (length alignments) rs) n)
          ≡ pass_with (noded (document.Table alignments) (start_of first) n (table_tokens text (length alignments) first had) (begun q)) outer bare Closed n
      table alignments [] = refl
      table alignments (r ∷ rs) = refl

      go : (leaf : Leaf) → FitsLeaf options leaf first had left ahead n
          → close_leaf text options lookup (leaf_left leaf had left) (pass_with (leaf_open text options lookup leaf first had following q) outer bare (leaf_left leaf had left) n) ≡ pass_with (leaf_level text options lookup leaf first had q) outer bare Closed n
      go leaf f = grind (arith, all, table, pass_with, begun)

  replay-nil : (b : Blocks) (l : Level) → replay text options lookup (join_blocks b NoBlocks) l ≡ replay text options lookup b l
  replay-nil b l = replay-join text options lookup b NoBlocks l

  verbatim-closes : (v : Verbatim) (closed : Blocks) (first : Row) (had waiting : List Row) (n : ℕ) (l : Level) (outer : List OpenContainer) (bare : Bool) → FitsVerbatim v first had waiting n
      → close_leaf text options lookup (verbatim_leaf text options lookup v first had waiting) (pass_with (verbatim_level text options lookup v first had (replay text options lookup closed l)) outer bare (verbatim_leaf text options lookup v first had waiting) n)
      ≡ pass_with (replay text options lookup (join_blocks (join_blocks closed (LeafBlock (leaf_in v) first had NoBlocks)) (blank_lines waiting)) l) outer bare Closed n
  verbatim-closes Indented closed first had waiting n l outer bare f =
      let c = replay text options lookup closed l in
      ap (λ t. let q = noded document.IndentedCode (first_place first.content_end (code_columns 4 first)) (last_line_end first had) t (begun c) in pass_with (record q { inner = record q.inner { blank = is_some waiting } }) outer bare Closed n) (sym (run-tokens text 4 (first ∷ had)))
      ∙ ap (λ q. pass_with q outer bare Closed n)
      (sym (replay-join text options lookup (join_blocks closed (LeafBlock IndentedCode first had NoBlocks)) (blank_lines waiting) l
      ∙ ap (replay text options lookup (blank_lines waiting)) (replay-join text options lookup closed (LeafBlock IndentedCode first had NoBlocks) l)
      ∙ blanks-replay waiting (leaf_level text options lookup IndentedCode first had c) refl refl))
  verbatim-closes (Fenced fence) closed first had waiting n l outer bare f =
      let c = replay text options lookup closed l in
      let x = join_blocks closed (LeafBlock (FencedCode fence) first had NoBlocks) in
      ap (λ t. pass_with (noded (document.FencedCode (resolved lookup fence.info)) (start_of first) n t (begun c)) outer bare Closed n) (sym (run-tokens text fence.indented had))
      ∙ ap (λ t. pass_with (noded (document.FencedCode (resolved lookup fence.info)) (start_of first) n (code_tokens text fence.indented t) (begun c)) outer bare Closed n) (sym (before-lines (closes_fence fence) had f.2))
      ∙ ap (λ m. pass_with (noded (document.FencedCode (resolved lookup fence.info)) (start_of first) m (code_tokens text fence.indented (fenced_lines fence had)) (begun c)) outer bare Closed n) (sym f.1)
      ∙ ap (λ q. pass_with q outer bare Closed n) (sym (ap (λ w. replay text options lookup (join_blocks x (blank_lines w)) l) f.0 ∙ replay-nil x l ∙ replay-join text options lookup closed (LeafBlock (FencedCode fence) first had NoBlocks) l))
  verbatim-closes (HtmlLines kind) closed first had waiting n l outer bare f = grind (arith, replay, pass_with, begun, replay-nil, replay-join)
  verbatim-closes (Metadata kind) closed first had waiting n l outer bare f =
      let c = replay text options lookup closed l in
      let x = join_blocks closed (LeafBlock (MetadataBlock kind) first had NoBlocks) in
      ap (λ t. pass_with (noded (document.MetadataBlock kind) (start_of first) n t (begun c)) outer bare Closed n) (sym (run-tokens text 0 had))
      ∙ ap (λ t. pass_with (noded (document.MetadataBlock kind) (start_of first) n (code_tokens text 0 t) (begun c)) outer bare Closed n) (sym (before-lines (ends_metadata kind) had f.2))
      ∙ ap (λ m. pass_with (noded (document.MetadataBlock kind) (start_of first) m (code_tokens text 0 (lines_before (ends_metadata kind) had)) (begun c)) outer bare Closed n) (sym f.1)
      ∙ ap (λ q. pass_with q outer bare Closed n) (sym (ap (λ w. replay text options lookup (join_blocks x (blank_lines w)) l) f.0 ∙ replay-nil x l ∙ replay-join text options lookup closed (LeafBlock (MetadataBlock kind) first had NoBlocks) l))

  pub leaf-closes : (o : OpenLines) (b : Bool) (n : ℕ) (l : Level) (outer : List OpenContainer) (bare : Bool) → Fits options b o [] n
      → close_leaf text options lookup (leaf_at text options lookup o) (pass_with (inner_at text options lookup o [] l) outer bare (leaf_at text options lookup o) n) ≡ pass_with (inner_closed o l) outer bare Closed n
  leaf-closes (InParagraph closed first more) b n l outer bare f =
      let c = replay text options lookup closed l in
      ap (λ p. pass_with (noded document.Paragraph (start_of first) p (join (lines_drawn text options lookup (start_of first) first more) (stretch_then text (last_begin (start_of first) first more) (words_end (last_of first more)) Nil)) (paragraph_begun c)) outer bare Closed n) (sym f.1)
      ∙ ap (λ t. pass_with (noded document.Paragraph (start_of first) (last_line_end first more) t (paragraph_begun c)) outer bare Closed n) (sym (drawn-tokens text options lookup (start_of first) first more))
      ∙ ap (λ q. pass_with q outer bare Closed n) (sym (replay-join text options lookup closed (Paragraph first more NoBlocks) l))
  leaf-closes (InLeaf closed leaf first had left) b n l outer bare f = grind (arith, leaf-left, replay, take-none, pass_with, replay-join)
  leaf-closes (InVerbatim closed verbatim first had waiting) b n l outer bare f = verbatim-closes verbatim closed first had waiting n l outer bare f.1
  leaf-closes (InContainer closed k first more inside) b n l outer bare f =
      leaf-closes inside (bare_after (is_bare_start k first) more) n (entered k first (replay text options lookup closed l)) outer bare f.2
  leaf-closes _ b n l outer bare f = refl

  -- all containers closed
  pub containers-close : (o : OpenLines) (b : Bool) (n : ℕ) (l : Level) (outer : List OpenContainer) (bare : Bool) → Fits options b o [] n
      → containers_closed text options lookup outer (containers_at text options lookup o l) (pass_with (inner_closed o l) (outer ++ containers_at text options lookup o l) bare Closed n) ≡ pass_with (replay text options lookup (close_lines o) l) outer bare Closed n
  containers-close (Between closed) b n l outer bare f = ap (λ o. pass_with (replay text options lookup closed l) o bare Closed n) (append-nil outer)
  containers-close AfterTag b n l outer bare f = ap (λ o. pass_with l o bare Closed n) (append-nil outer)
  containers-close (InParagraph closed first more) b n l outer bare f = ap (λ o. pass_with (replay text options lookup (close_lines (InParagraph closed first more)) l) o bare Closed n) (append-nil outer)
  containers-close (InLeaf closed leaf first had left) b n l outer bare f = ap (λ o. pass_with (replay text options lookup (close_lines (InLeaf closed leaf first had left)) l) o bare Closed n) (append-nil outer)
  containers-close (InVerbatim closed verbatim first had waiting) b n l outer bare f =
      ap (λ o. pass_with (replay text options lookup (close_lines (InVerbatim closed verbatim first had waiting)) l) o bare Closed n) (append-nil outer)
  containers-close (InContainer closed k first more inside) b n l outer bare f =
      let c = replay text options lookup closed l in
      let v = container_at text options lookup k first c in
      let cs = containers_at text options lookup inside (entered k first c) in
      ap (λ o. container_closed v outer (containers_closed text options lookup (outer ++ v ∷ []) cs (pass_with (inner_closed inside (entered k first c)) o bare Closed n))) (sym (append_assoc outer (v ∷ []) cs))
      ∙ ap (container_closed v outer) (containers-close inside (bare_after (is_bare_start k first) more) n (entered k first c) (outer ++ v ∷ []) bare f.2)
      ∙ ap (λ m. pass_with (left_by k (standing k first c).inner m (replay text options lookup (close_lines inside) (entered k first c))) outer bare Closed n) (sym f.1)
      ∙ ap (λ q. pass_with q outer bare Closed n) (sym (replay-join text options lookup closed (ContainerBlock k first more (close_lines inside) NoBlocks) l))
