-- One more line of code, HTML or metadata.
use Rattle.std.proofs.Common.{◌≡◌, ℕ, Bool, true, false, List, [], ◌∷◌, ◌++◌, refl, ap, ◌∙◌, sym, append_assoc, append-nil, arith}
use Rattle.std.specs.Prelude.{if◌then◌else◌}
use Rattle.cmark_grammar.specs.Answers.{Lookup}
use Rattle.cmark_grammar.specs.Options.{Options}
use Rattle.cmark_grammar.specs.Rows.{Row, start_of, begin_of, last_line_end, first_place}
use Rattle.cmark_grammar.specs.Leaves.{Continuation, GoesOn, Closes, Waits, Stops, code_continuation, closes_fence}
use Rattle.cmark_grammar.specs.HtmlBlocks.{html_continuation}
use Rattle.cmark_grammar.specs.Openings.{FencedCode, HtmlBlock, MetadataBlock}
use Rattle.cmark_grammar.specs.Blocks.{Blocks, Nil as NoBlocks, LeafBlock, join as join_blocks}
use Rattle.cmark_block_model.specs.BlocksByLine.{Verbatim, Indented, Fenced, HtmlLines, continuation_in, InVerbatim, close_lines, verbatim_line, lines_begin, Metadata, leaf_in, blank_lines}
use Rattle.cmark_grammar.specs.Tokens.{resolved, code_tokens, code_columns, fenced_lines, html_tokens, stop_at, lines_before}
use Rattle.cmark_grammar.specs.BlockDocument as document
use Rattle.cmark_grammar.specs.BlockDocument.{join}
use Rattle.cmark_grammar.specs.Metadata.{ends_metadata}
use Rattle.cmark_block_model.specs.CodeLines.{no_run, code_line, texts_of, rest_of}
use Rattle.cmark_block_model.specs.OpenBlocks.{OpenContainer, OpenLeaf, Closed, InFenced, InHtml, Pass, InMetadata}
use Rattle.cmark_block_model.specs.BlockPass.{node_closed, with_drawn, code_drawn, ahead_in, begin, leaf_closed, leaf_fed, indented_lines, indented_continuation, html_goes_on}
use Rattle.cmark_block_model.proofs.CodeRuns.{code_run, code_run-append, run-tokens, run-line, run-waits}
use Rattle.cmark_block_model.proofs.Replay.{Level, begun, level_opened, level_drawn, leaf_level, replay}
use Rattle.cmark_block_model.proofs.Mirror.{line_end_push, pass_with, AreBefore, Fits, html-push, verbatim_level, verbatim_leaf, pass_at}
use Rattle.cmark_block_model.proofs.Closing.{noded, leaf-closes}
use Rattle.cmark_block_model.proofs.Beginning.{IsFresh, starts}
use Rattle.cmark_block_model.proofs.ListDelimiters.{Unmarked, unmarked-join, unmarked-blanks}

module _ (text : List ℕ) (options : Options) (lookup : Lookup) where
  indented-goes : (first : Row) (rs had : List Row) (c : Level) (outer : List OpenContainer) (leaf : OpenLeaf) (n : ℕ)
      → indented_lines text options lookup rs (code_run text 4 no_run (first ∷ had)).waits (last_line_end first had) (pass_with (verbatim_level text options lookup Indented first had c) outer false leaf n)
      ≡ pass_with (verbatim_level text options lookup Indented first (had ++ rs) c) outer false (verbatim_leaf text options lookup Indented first (had ++ rs) []) n
  indented-goes first [] had c outer leaf n =
      ap (λ h. pass_with (verbatim_level text options lookup Indented first h c) outer false (verbatim_leaf text options lookup Indented first h []) n) (sym (append-nil had))
  indented-goes first (r ∷ rs) had c outer leaf n =
      let run = code_run text 4 no_run (first ∷ had) in
      let d = level_opened (first_place first.content_end (code_columns 4 first)) document.IndentedCode (begun c) in
      let same = code_run-append text 4 no_run (first ∷ had) (r ∷ []) in
      let one = code_line text 4 r run.waits in
      ap (λ w. indented_lines text options lookup rs w r.line_end (pass_with (level_drawn (join (texts_of run.done) (texts_of one.done)) d) outer false leaf n)) (sym (ap (λ x. x.waits) same ∙ run-waits text 4 run r))
      ∙ ap (λ t. indented_lines text options lookup rs (code_run text 4 no_run (first ∷ (had ++ r ∷ []))).waits r.line_end (pass_with (level_drawn t d) outer false leaf n)) (sym (ap (λ x. texts_of x.done) same ∙ run-line text 4 run r))
      ∙ ap (λ m. indented_lines text options lookup rs (code_run text 4 no_run (first ∷ (had ++ r ∷ []))).waits m (pass_with (verbatim_level text options lookup Indented first (had ++ r ∷ []) c) outer false leaf n)) (sym (line_end_push first had r))
      ∙ indented-goes first rs (had ++ r ∷ []) c outer leaf n
      ∙ ap (λ h. pass_with (verbatim_level text options lookup Indented first h c) outer false (verbatim_leaf text options lookup Indented first h []) n) (append_assoc had (r ∷ []) rs)

  -- lines that do not wait
  pub had-more : (had waiting : List Row) (r : Row) → waiting ≡ [] → ((had ++ waiting) ++ r ∷ []) ≡ (had ++ r ∷ [])
  had-more had waiting r e = ap (λ w. (had ++ w) ++ r ∷ []) e ∙ ap (λ h. h ++ r ∷ []) (append-nil had)

  had-all : (had waiting : List Row) (r : Row) → waiting ≡ [] → (((had ++ waiting) ++ r ∷ []) ++ []) ≡ (had ++ r ∷ [])
  had-all had waiting r e = append-nil ((had ++ waiting) ++ r ∷ []) ∙ had-more had waiting r e

  before-ends : (closes : Row → Bool) (rs : List Row) (r : Row) → AreBefore closes rs → closes r ≡ true → lines_before closes (rs ++ r ∷ []) ≡ rs
  before-ends closes [] r h e = ap (λ z. stop_at z r []) e
  before-ends closes (s ∷ rs) r h e = ap (λ z. stop_at z s (lines_before closes (rs ++ r ∷ []))) h.0 ∙ ap (λ x. s ∷ x) (before-ends closes rs r h.1 e)

  never-closes : (r : Row) → code_continuation r ≡ Closes → ⊥
  never-closes r = grind arith

  pub never-waits : (kind : ℕ) (r : Row) → html_continuation kind r ≡ Waits → ⊥
  never-waits kind r = grind arith

  stops : (v : Verbatim) (closed : Blocks) (first : Row) (had waiting : List Row) (r : Row) (next ahead : List Row) (l : Level) (outer : List OpenContainer) (b : Bool) (n : ℕ) → r.lazy ≡ false → ahead_in text options lookup outer next ≡ ahead → IsFresh text options lookup l → Unmarked closed → Fits options b (InVerbatim closed v first had waiting) [] n
      → begin text options lookup r next (leaf_closed text options lookup (pass_with (verbatim_level text options lookup v first had (replay text options lookup closed l)) outer false (verbatim_leaf text options lookup v first had waiting) n))
      ≡ pass_at text options lookup (lines_begin options (close_lines (InVerbatim closed v first had waiting)) r ahead) ahead l outer false n
  stops v closed first had waiting r next ahead l outer b n e a h u f =
      ap (begin text options lookup r next) (leaf-closes text options lookup (InVerbatim closed v first had waiting) b n l outer false f)
      ∙ starts text options lookup (close_lines (InVerbatim closed v first had waiting)) r next ahead l outer n h
      (unmarked-join (join_blocks closed (LeafBlock (leaf_in v) first had NoBlocks)) (blank_lines waiting) (unmarked-join closed (LeafBlock (leaf_in v) first had NoBlocks) u tt) (unmarked-blanks waiting)) e a

  alone : (o : List OpenContainer) (x : Level) (leaf : OpenLeaf) (n : ℕ) → pass_with x o false leaf n ≡ pass_with x (o ++ []) false leaf n
  alone o x leaf n = ap (λ y. pass_with x y false leaf n) (sym (append-nil o))

  pub verbatim-feeds : (v : Verbatim) (closed : Blocks) (first : Row) (had waiting : List Row) (r : Row) (next ahead : List Row) (l : Level) (outer : List OpenContainer) (b : Bool) (n : ℕ) → r.lazy ≡ false → ahead_in text options lookup outer next ≡ ahead
      → IsFresh text options lookup l → Unmarked closed → Fits options b (InVerbatim closed v first had waiting) [] n
      → leaf_fed text options lookup (verbatim_leaf text options lookup v first had waiting) r next (pass_with (verbatim_level text options lookup v first had (replay text options lookup closed l)) outer false (verbatim_leaf text options lookup v first had waiting) n)
      ≡ pass_at text options lookup (verbatim_line (continuation_in v r) closed v first had waiting r (lines_begin options (close_lines (InVerbatim closed v first had waiting)) r ahead)) ahead l outer false n
  verbatim-feeds Indented closed first had waiting r next ahead l outer b n e a h u f = go (code_continuation r) refl
    where
      c : Level
      c = replay text options lookup closed l

      p : Pass
      p = pass_with (verbatim_level text options lookup Indented first had (replay text options lookup closed l)) outer false (verbatim_leaf text options lookup Indented first had waiting) n

      go : (z : Continuation) → code_continuation r ≡ z → indented_continuation text options lookup z (code_run text 4 no_run (first ∷ had)).waits (last_line_end first had) waiting r next p
          ≡ pass_at text options lookup (verbatim_line z closed Indented first had waiting r (lines_begin options (close_lines (InVerbatim closed Indented first had waiting)) r ahead)) ahead l outer false n
      go GoesOn q =
          indented-goes first (waiting ++ r ∷ []) had c outer (verbatim_leaf text options lookup Indented first had waiting) n
          ∙ ap (λ h. pass_with (verbatim_level text options lookup Indented first h c) outer false (verbatim_leaf text options lookup Indented first h []) n) (sym (append_assoc had waiting (r ∷ [])))
          ∙ alone outer (verbatim_level text options lookup Indented first ((had ++ waiting) ++ r ∷ []) c) (verbatim_leaf text options lookup Indented first ((had ++ waiting) ++ r ∷ []) []) n
      go Closes q = absurd (never-closes r q)
      go Waits q = alone outer (verbatim_level text options lookup Indented first had c) (verbatim_leaf text options lookup Indented first had (waiting ++ r ∷ [])) n
      go Stops q = stops Indented closed first had waiting r next ahead l outer b n e a h u f
  verbatim-feeds (Fenced fence) closed first had waiting r next ahead l outer b n e a h u f = go (closes_fence fence r) refl
    where
      c : Level
      c = replay text options lookup closed l

      p : Pass
      p = pass_with (verbatim_level text options lookup (Fenced fence) first had (replay text options lookup closed l)) outer false (verbatim_leaf text options lookup (Fenced fence) first had waiting) n

      go : (z : Bool) → closes_fence fence r ≡ z → (if z then node_closed r.line_end (with_drawn (texts_of (rest_of (code_run text fence.indented no_run had).waits)) p) else code_drawn text options lookup fence.indented r (code_run text fence.indented no_run had).waits (InFenced fence) p)
          ≡ pass_at text options lookup (verbatim_line (if z then Closes else GoesOn) closed (Fenced fence) first had waiting r (lines_begin options (close_lines (InVerbatim closed (Fenced fence) first had waiting)) r ahead)) ahead l outer false n
      go true q =
          let kind = document.FencedCode (resolved lookup fence.info) in
          ap (λ t. pass_with (noded text options lookup kind (start_of first) r.line_end t (begun c)) outer false Closed n)
          (sym (run-tokens text fence.indented had) ∙ ap (code_tokens text fence.indented) (sym (before-ends (closes_fence fence) had r f.1.2 q)))
          ∙ ap (λ m. pass_with (noded text options lookup kind (start_of first) m (code_tokens text fence.indented (fenced_lines fence (had ++ r ∷ []))) (begun c)) outer false Closed n) (sym (line_end_push first had r))
          ∙ ap (λ h. pass_with (leaf_level text options lookup (FencedCode fence) first h c) outer false Closed n) (sym (had-all had waiting r f.1.0))
          ∙ alone outer (leaf_level text options lookup (FencedCode fence) first (((had ++ waiting) ++ r ∷ []) ++ []) c) Closed n
      go false q =
          let run = code_run text fence.indented no_run had in
          let d = level_opened (start_of first) (document.FencedCode (resolved lookup fence.info)) (begun c) in
          let same = code_run-append text fence.indented no_run had (r ∷ []) in
          let one = code_line text fence.indented r run.waits in
          ap (λ t. pass_with (level_drawn t d) outer false (InFenced fence one.waits) n) (sym (ap (λ x. texts_of x.done) same ∙ run-line text fence.indented run r))
          ∙ ap (λ w. pass_with (verbatim_level text options lookup (Fenced fence) first (had ++ r ∷ []) c) outer false (InFenced fence w) n) (sym (ap (λ x. x.waits) same ∙ run-waits text fence.indented run r))
          ∙ ap (λ h. pass_with (verbatim_level text options lookup (Fenced fence) first h c) outer false (verbatim_leaf text options lookup (Fenced fence) first h []) n) (sym (had-more had waiting r f.1.0))
          ∙ alone outer (verbatim_level text options lookup (Fenced fence) first ((had ++ waiting) ++ r ∷ []) c) (verbatim_leaf text options lookup (Fenced fence) first ((had ++ waiting) ++ r ∷ []) []) n
  verbatim-feeds (HtmlLines kind) closed first had waiting r next ahead l outer b n e a h u f = go (html_continuation kind r) refl
    where
      c : Level
      c = replay text options lookup closed l

      p : Pass
      p = pass_with (verbatim_level text options lookup (HtmlLines kind) first had (replay text options lookup closed l)) outer false (InHtml kind) n

      go : (z : Continuation) → html_continuation kind r ≡ z → html_goes_on text options lookup z r next p
          ≡ pass_at text options lookup (verbatim_line z closed (HtmlLines kind) first had waiting r (lines_begin options (close_lines (InVerbatim closed (HtmlLines kind) first had waiting)) r ahead)) ahead l outer false n
      go GoesOn q =
          ap (λ t. pass_with (level_drawn t (level_opened (begin_of first) document.HtmlBlock (begun c))) outer false (InHtml kind) n) (sym (html-push text options lookup (first ∷ had) r))
          ∙ ap (λ h. pass_with (verbatim_level text options lookup (HtmlLines kind) first h c) outer false (InHtml kind) n) (sym (had-more had waiting r f.1.0))
          ∙ alone outer (verbatim_level text options lookup (HtmlLines kind) first ((had ++ waiting) ++ r ∷ []) c) (InHtml kind) n
      go Closes q =
          ap (λ t. pass_with (noded text options lookup document.HtmlBlock (begin_of first) r.line_end t (begun c)) outer false Closed n) (sym (html-push text options lookup (first ∷ had) r))
          ∙ ap (λ m. pass_with (noded text options lookup document.HtmlBlock (begin_of first) m (html_tokens text (first ∷ (had ++ r ∷ []))) (begun c)) outer false Closed n) (sym (line_end_push first had r))
          ∙ ap (λ h. pass_with (leaf_level text options lookup (HtmlBlock kind) first h c) outer false Closed n) (sym (had-all had waiting r f.1.0))
          ∙ alone outer (leaf_level text options lookup (HtmlBlock kind) first (((had ++ waiting) ++ r ∷ []) ++ []) c) Closed n
      go Waits q = absurd (never-waits kind r q)
      go Stops q = stops (HtmlLines kind) closed first had waiting r next ahead l outer b n e a h u f
  verbatim-feeds (Metadata kind) closed first had waiting r next ahead l outer b n e a h u f = go (ends_metadata kind r) refl
    where
      c : Level
      c = replay text options lookup closed l

      p : Pass
      p = pass_with (verbatim_level text options lookup (Metadata kind) first had (replay text options lookup closed l)) outer false (verbatim_leaf text options lookup (Metadata kind) first had waiting) n

      go : (z : Bool) → ends_metadata kind r ≡ z → (if z then node_closed r.line_end (with_drawn (texts_of (rest_of (code_run text 0 no_run had).waits)) p) else code_drawn text options lookup 0 r (code_run text 0 no_run had).waits (InMetadata kind) p)
          ≡ pass_at text options lookup (verbatim_line (if z then Closes else GoesOn) closed (Metadata kind) first had waiting r (lines_begin options (close_lines (InVerbatim closed (Metadata kind) first had waiting)) r ahead)) ahead l outer false n
      go true q =
          ap (λ t. pass_with (noded text options lookup (document.MetadataBlock kind) (start_of first) r.line_end t (begun c)) outer false Closed n)
          (sym (run-tokens text 0 had) ∙ ap (code_tokens text 0) (sym (before-ends (ends_metadata kind) had r f.1.2 q)))
          ∙ ap (λ m. pass_with (noded text options lookup (document.MetadataBlock kind) (start_of first) m (code_tokens text 0 (lines_before (ends_metadata kind) (had ++ r ∷ []))) (begun c)) outer false Closed n) (sym (line_end_push first had r))
          ∙ ap (λ h. pass_with (leaf_level text options lookup (MetadataBlock kind) first h c) outer false Closed n) (sym (had-all had waiting r f.1.0))
          ∙ alone outer (leaf_level text options lookup (MetadataBlock kind) first (((had ++ waiting) ++ r ∷ []) ++ []) c) Closed n
      go false q =
          let run = code_run text 0 no_run had in
          let d = level_opened (start_of first) (document.MetadataBlock kind) (begun c) in
          let same = code_run-append text 0 no_run had (r ∷ []) in
          let one = code_line text 0 r run.waits in
          ap (λ t. pass_with (level_drawn t d) outer false (InMetadata kind one.waits) n) (sym (ap (λ x. texts_of x.done) same ∙ run-line text 0 run r))
          ∙ ap (λ w. pass_with (verbatim_level text options lookup (Metadata kind) first (had ++ r ∷ []) c) outer false (InMetadata kind w) n) (sym (ap (λ x. x.waits) same ∙ run-waits text 0 run r))
          ∙ ap (λ h. pass_with (verbatim_level text options lookup (Metadata kind) first h c) outer false (verbatim_leaf text options lookup (Metadata kind) first h []) n) (sym (had-more had waiting r f.1.0))
          ∙ alone outer (verbatim_level text options lookup (Metadata kind) first ((had ++ waiting) ++ r ∷ []) c) (verbatim_leaf text options lookup (Metadata kind) first ((had ++ waiting) ++ r ∷ []) []) n
