-- Lines of code in the block pass.
use Rattle.std.proofs.Common.{◌≡◌, ◌≢◌, ℕ, min, Bool, true, false, List, drop, map, Option, refl, sym, ap, ◌∙◌, arith}
use Rattle.std.specs.Prelude.{if◌then◌else◌, nat_le}
use Rattle.cmark_grammar.specs.Answers.{Lookup}
use Rattle.cmark_grammar.specs.Options.{Options}
use Rattle.cmark_grammar.specs.Leaves as grammar
use Rattle.cmark_grammar.specs.Leaves.{Fence, closes_fence, fence_continuation}
use Rattle.cmark_grammar.specs.Rows.{Row, without, begin_of, first_place, indent_of}
use Rattle.cmark_grammar.specs.Tokens.{Piece, code_columns}
use Rattle.cmark_line_rules.specs.Rests.{row_of}
use Rattle.cmark_line_rules.specs.declared.line_rest.LineRest.{LineRest}
use Rattle.cmark_line_rules.specs.Continuations.{shown_continuation}
use Rattle.cmark_line_rules.specs.declared.continuation.Continuation.{Continuation}
use Rattle.cmark_line_rules.specs.declared.continuation.Continuation.TheVariants.{GoesOn, Closes, Waits, Stops}
use Rattle.cmark_leaf_nodes.specs.Stretches.{shown_waits}
use Rattle.cmark_leaf_nodes.specs.declared.stretch.Stretch.{Stretch}
use Rattle.cmark_block_model.specs.BlockPass.{leaf_fed, node_closed, with_drawn, code_drawn}
use Rattle.cmark_block_model.specs.CodeLines.{rest_of, texts_of}
use Rattle.cmark_block_model.specs.OpenBlocks as model
use Rattle.cmark_blocks.specs.declared.state.OpenLeaf.TheVariants as leaf
use Rattle.cmark_blocks.specs.Runs.{IsFence, ShowsLeaf}

-- the place at which a line begins after at most `most` columns of indent
pub code-place : (most : ℕ) (r s : Row) → s ≡ without (min most (indent_of r)) r → begin_of s ≡ first_place r.content_end (code_columns most r)
code-place most r s is = ap begin_of is ∙ ap (λ n. first_place r.content_end (drop n r.columns)) (sym (least most (indent_of r)))
  where
    least : (a b : ℕ) → (if nat_le a b then a else b) ≡ min a b
    least a b = grind (arith)

-- indented code that is open
pub indented-shown : (text : List ℕ) (waits : Option Stretch) (left : Option Piece) (end line_end : ℕ) (blanks : List LineRest) (rows : List Row) →
    shown_waits text waits ≡ left → end ≡ line_end → map row_of blanks ≡ rows → ShowsLeaf text (leaf.Indented waits end) blanks (model.InIndented left line_end rows)
indented-shown text waits left end line_end blanks rows w e b =
    sym (ap (λ x. model.InIndented x end (map row_of blanks)) w ∙ ap (λ x. model.InIndented left x (map row_of blanks)) e ∙ ap (model.InIndented left line_end) b)

-- the effect of a line on fenced code does not depend on the info string
fence-continuation : (x : Continuation) (fence : Fence) (delimiter run_length indent : ℕ) (r : Row) → IsFence fence delimiter run_length indent →
    ((info : List ℕ) → shown_continuation x ≡ fence_continuation (record { indented = indent; delimiter = delimiter; run_length = run_length; info = info }) r) → shown_continuation x ≡ fence_continuation fence r
fence-continuation x fence delimiter run_length indent r same continuation =
    continuation fence.info
    ∙ ap {A = ℕ} (λ n. fence_continuation (record { indented = indent; delimiter = n; run_length = run_length; info = fence.info }) r) (sym same.0)
    ∙ ap {A = ℕ} (λ n. fence_continuation (record { indented = indent; delimiter = fence.delimiter; run_length = n; info = fence.info }) r) (sym same.1)
    ∙ ap {A = ℕ} (λ n. fence_continuation (record { indented = n; delimiter = fence.delimiter; run_length = fence.run_length; info = fence.info }) r) (sym same.2)

is-closed : (b : Bool) (x : Continuation) → shown_continuation x ≡ (if b then grammar.Closes else grammar.GoesOn) → x ≡ Closes → b ≡ true
is-closed true x e is = refl
is-closed false x e is = absurd (let q : grammar.Closes ≡ grammar.GoesOn = sym (ap shown_continuation is) ∙ e in cc)

goes-on : (b : Bool) (x : Continuation) → shown_continuation x ≡ (if b then grammar.Closes else grammar.GoesOn) → x ≢ Closes → b ≡ false
goes-on false x e not = refl
goes-on true GoesOn e not = absurd (let q : grammar.GoesOn ≡ grammar.Closes = e in cc)
goes-on true Closes e not = absurd (not refl)
goes-on true Waits e not = absurd (let q : grammar.Waits ≡ grammar.Closes = e in cc)
goes-on true Stops e not = absurd (let q : grammar.Stops ≡ grammar.Closes = e in cc)

-- a closing fence, and a line of code after an opening one
module _ (text : List ℕ) (options : Options) (lookup : Lookup) (fence : Fence) (waits : Option Piece) (r : Row) (next : List Row) (m : model.Pass)
    (x : Continuation) (delimiter run_length indent : ℕ) (same : IsFence fence delimiter run_length indent) (is : m.leaf ≡ model.InFenced fence waits)
    (continuation : (info : List ℕ) → shown_continuation x ≡ fence_continuation (record { indented = indent; delimiter = delimiter; run_length = run_length; info = info }) r) where
  pub fence-closes : x ≡ Closes → leaf_fed text options lookup m.leaf r next m ≡ node_closed r.line_end (with_drawn (texts_of (rest_of waits)) m)
  fence-closes closes =
      ap (λ l. leaf_fed text options lookup l r next m) is
      ∙ ap (λ b. if b then node_closed r.line_end (with_drawn (texts_of (rest_of waits)) m) else code_drawn text options lookup fence.indented r waits (model.InFenced fence) m)
      (is-closed (closes_fence fence r) x (fence-continuation x fence delimiter run_length indent r same continuation) closes)

  pub fence-goes-on : x ≢ Closes → leaf_fed text options lookup m.leaf r next m ≡ code_drawn text options lookup indent r waits (model.InFenced fence) m
  fence-goes-on not =
      ap (λ l. leaf_fed text options lookup l r next m) is
      ∙ ap (λ b. if b then node_closed r.line_end (with_drawn (texts_of (rest_of waits)) m) else code_drawn text options lookup fence.indented r waits (model.InFenced fence) m)
      (goes-on (closes_fence fence r) x (fence-continuation x fence delimiter run_length indent r same continuation) not)
      ∙ ap (λ n. code_drawn text options lookup n r waits (model.InFenced fence) m) same.2
