-- A step of a walk over the lines of a leaf, and out of the leaf.
use Rattle.std.proofs.Common.{◌≡◌, ℕ, Bool, List, ◌∷◌, ◌++◌, Some, None, refl, sym, ap, ◌∙◌, subst, append_assoc}
use Rattle.cmark_tree.specs.declared.tree.Tree.{Tree}
use Rattle.cmark_tree.specs.declared.tree_index.TreeIndex.{TreeIndex}
use Rattle.cmark_tree.specs.Zip.{Zip, past, Sibling}
use Rattle.cmark_tree.specs.Tree.{Holds}
use Rattle.cmark_text.specs.declared.event.TagEnd.{TagEnd as TextEnd}
use Rattle.cmark_text.specs.Shown.{shown_end}
use Rattle.cmark_values.specs.declared.text.CowStr.{CowStr}
use Rattle.cmark_grammar.specs.Event as event
use Rattle.cmark_grammar.specs.BlockDocument.{BlockNode}
use Rattle.cmark_grammar.specs.BlockReading.{read_as}
use Rattle.cmark_block_model.specs.DrawnDocument.{kind_within, settled}
use Rattle.cmark_grammar.specs.SpanDocuments.{Segment, Given, is_cell, segments}
use Rattle.cmark_items.specs.declared.item.Item.{Item}
use Rattle.cmark_leaf_text.specs.declared.stretch.LeafLine.{LeafLine}
use Rattle.cmark_block_walk.specs.declared.walk.Walk.{Walk}
use Rattle.cmark_block_walk.specs.declared.reading.Stage.TheVariants as stage
use Rattle.cmark_block_walk.specs.Walking.{Drawn, GivesLeaf, HoldsLines, IsFirst, IsStaged, Remains, leaf_at, left_above, left_after, left_from, leaving, texts_of, tight_below}
use Rattle.cmark_block_walk.proofs.WalkSteps.{Focus, IsFocusAt, IsItem, at-item, at_range, beyond, left-staged, moved, over-range, passed, remains-before, staged}
use Rattle.cmark_block_walk.proofs.LeaveSteps.{EndsAs, leaving-none, leaving-some}

-- the lines of the leaf are met, and the events after them are left
pub meets-leaf : (walk : Walk) (item : Item) (ix : TreeIndex) (cell : Bool) (lines : List LeafLine) → IsFocusAt walk ix → IsItem walk.tree ix item
    → ((text : List ℕ) (texts : List CowStr) (node : BlockNode) → Drawn text texts item node → cell ≡ is_cell node.kind) → walk.stage ≡ stage.Lines → HoldsLines walk lines
    → (left : List Segment) → Remains walk left → GivesLeaf left cell lines (staged walk stage.Following)
meets-leaf walk item ix cell lines at is in-cell now holds left r = (
  leaf_at r.here,
  left_from stage.Following r.here r.above,
  left-staged walk stage.Lines left now r,
  holds r.z r.here r.above r.stands,
  record {
    z = r.z;
    here = r.here;
    above = r.above;
    stands = record { below = record { holds = r.stands.below.holds; draws_above = r.stands.below.draws_above; elements = r.stands.below.elements }; draws = r.stands.draws };
    staged = subst (λ k. IsStaged k r.here) now r.staged;
    are = refl;
  },
  (let f = at-item walk item ix at is r.z r.here r.above r.stands in in-cell walk.text.now (texts_of walk) f.node f.drawn ∙ sym (ap (λ h. (leaf_at h).is_cell) f.here_is)),
)

module _ (walk : Walk) (item : Item) (ix : TreeIndex) (at : IsFocusAt walk ix) (is : IsItem walk.tree ix item) where
  module _ (t : Tree Item) (next : (z : Zip Item) (s : Sibling z ix.ix) → Holds walk.tree z → Holds t (past z ix.ix s)) (now : walk.stage ≡ stage.Following) where
    -- past the leaf
    abbrev pub out : Walk
    out = staged (moved walk t) stage.Before

    after-leaf : (left : List Segment) (r : Remains walk left) (f : Focus walk item ix r.z r.here) → Remains out (left_from stage.Before f.after r.above)
    after-leaf left r f =
        let p = passed walk item ix t r.z r.here r.above r.stands f next in
        remains-before out (left_from stage.Before f.after r.above) (beyond walk item ix t r.z r.here f) f.after r.above refl
        (record { below = record { holds = p.below.holds; draws_above = p.below.draws_above; elements = p.below.elements }; draws = p.draws })
        refl

    left-leaf : (left : List Segment) (r : Remains walk left) (f : Focus walk item ix r.z r.here) → left ≡ leaving (read_as (kind_within (tight_below r.above) f.node.kind)) f.node ++ left_from stage.Before f.after r.above
    left-leaf left r f =
        left-staged walk stage.Following left now r ∙ ap (λ h. left_after h r.above ++ left_above r.above) f.here_is
        ∙ append_assoc (leaving (read_as (kind_within (tight_below r.above) f.node.kind)) f.node) (segments (settled (tight_below r.above) f.after)) (left_above r.above)

    pub ends-some : (end : TextEnd) → EndsAs walk item (Some (shown_end end)) → (left : List Segment) → Remains walk left → IsFirst left (at_range (event.End (shown_end end)) item) out
    ends-some end ends left r =
        let f = at-item walk item ix at is r.z r.here r.above r.stands in
        let e = ends r.z r.above f.node r.stands.below f.drawn in (
          left_from stage.Before f.after r.above,
          left-leaf left r f
              ∙ ap (λ l. l ++ left_from stage.Before f.after r.above) (leaving-some (shown_end end) (read_as (kind_within (tight_below r.above) f.node.kind)) f.node e)
              ∙ ap (λ x. Given x ∷ left_from stage.Before f.after r.above) (over-range walk.text.now (texts_of walk) item f.node (event.End (shown_end end)) f.drawn),
          after-leaf left r f,
        )

    pub ends-none : EndsAs walk item None → (left : List Segment) → Remains walk left → Remains out left
    ends-none ends left r =
        let f = at-item walk item ix at is r.z r.here r.above r.stands in
        let e = ends r.z r.above f.node r.stands.below f.drawn in
        subst (Remains out)
        (sym (left-leaf left r f ∙ ap (λ l. l ++ left_from stage.Before f.after r.above) (leaving-none (read_as (kind_within (tight_below r.above) f.node.kind)) f.node e)))
        (after-leaf left r f)
