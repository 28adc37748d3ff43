-- A step of a walk from after the last sibling past the parent.
use Rattle.std.proofs.Common.{◌≡◌, ℕ, List, [], ◌∷◌, ◌++◌, Option, Some, None, refl, sym, ap, ◌∙◌, subst}
use Rattle.std.proofs.lemmas.Option.{same_Some}
use Rattle.cmark_tree.specs.declared.tree.Tree.{Tree}
use Rattle.cmark_tree.specs.declared.tree_index.TreeIndex.{TreeIndex}
use Rattle.cmark_tree.specs.Forest.{Forest, Nil, Node}
use Rattle.cmark_tree.specs.Arena.{first, Placed}
use Rattle.cmark_tree.specs.Zip.{Level, Zip, siblings, popped, pop_to, past, Sibling}
use Rattle.cmark_tree.specs.Tree.{entry_at, Holds, HasNode, focus_of, parent_of}
use Rattle.cmark_tree.proofs.Steps.{in_right}
use Rattle.cmark_tree.proofs.Entries.{node_at-within}
use Rattle.cmark_text.specs.declared.event.TagEnd.{TagEnd as TextEnd}
use Rattle.cmark_text.specs.Shown.{shown_end}
use Rattle.cmark_grammar.specs.TagEnd.{TagEnd, end_of}
use Rattle.cmark_grammar.specs.Event as event
use Rattle.cmark_grammar.specs.BlockDocument as document
use Rattle.cmark_grammar.specs.BlockDocument.{BlockNode, BlockDocument}
use Rattle.cmark_grammar.specs.BlockReading as reads
use Rattle.cmark_grammar.specs.BlockReading.{Reads, read_as, over}
use Rattle.cmark_block_model.specs.DrawnDocument.{kind_within}
use Rattle.cmark_grammar.specs.SpanDocuments.{Segment, Given}
use Rattle.cmark_items.specs.declared.item.Item.{Item}
use Rattle.cmark_block_walk.specs.declared.walk.Walk.{Walk}
use Rattle.cmark_block_walk.specs.declared.reading.Stage.{Stage}
use Rattle.cmark_block_walk.specs.declared.reading.Stage.TheVariants as stage
use Rattle.cmark_block_walk.specs.Reads.{end_in, tag_in}
use Rattle.cmark_block_walk.specs.Walking.{Drawn, Draws, DrawsAbove, Outer, AreElements, IsElement, StandsBelow, StandsAt, IsStaged, Remains, Goes, IsFirst, left_from, leaving, tight_below, texts_of}
use Rattle.cmark_block_walk.proofs.WalkSteps.{at_range, moved, over-range, left-staged, remains-before, IsItem}

-- after the last of the siblings, with a parent
pub record Following (walk : Walk) (ix : TreeIndex) (z : Zip Item) (here : BlockDocument) (above : List Outer) : Type 0 where
  pub level : Level Item
  pub up : List (Level Item)
  pub parent : Outer
  pub outer : List Outer
  pub up_is : z.up ≡ level ∷ up
  pub here_is : here ≡ document.Nil
  pub above_is : above ≡ parent ∷ outer
  pub at : level.place.ix ≡ ix.ix
  pub drawn : Drawn walk.text.now (texts_of walk) level.place.item parent.node
  pub draws : Draws walk.text.now (texts_of walk) level.right parent.after
  pub draws_above : DrawsAbove walk.text.now (texts_of walk) up outer
  pub element : IsElement (read_as (kind_within (tight_below outer) parent.node.kind))
  pub elements : AreElements outer

here-none : (text : List ℕ) (texts : _) (right : Forest (Placed Item)) (here : BlockDocument) → Draws text texts right here → focus_of right ≡ None → here ≡ document.Nil
here-none text texts Nil document.Nil d e = refl
here-none text texts Nil (document.Node node inside after) d e = absurd d
here-none text texts (Node p f g) here d e = absurd (let q : Some (record { ix = p.ix }) ≡ None = e in cc)

following-split : (walk : Walk) (ix : TreeIndex) (z : Zip Item) (here : BlockDocument) (ups : List (Level Item)) (above : List Outer) → z.up ≡ ups → here ≡ document.Nil → DrawsAbove walk.text.now (texts_of walk) ups above
    → AreElements above → Some ix ≡ parent_of ups → Following walk ix z here above
following-split walk ix z here [] above u h d e p = absurd (let q : Some ix ≡ None = p in cc)
following-split walk ix z here (v ∷ up) [] u h d e p = absurd d
following-split walk ix z here (v ∷ up) (o ∷ outer) u h d e p = record {
  level = v;
  up = up;
  parent = o;
  outer = outer;
  up_is = u;
  here_is = h;
  above_is = refl;
  at = sym (ap (λ k. k.ix) (same_Some ix (record { ix = v.place.ix }) p));
  drawn = d.0;
  draws = d.1;
  draws_above = d.2;
  element = e.0;
  elements = e.1;
}

abbrev pub IsNone-at : Walk → Type 0
IsNone-at walk = (z : Zip Item) → Holds walk.tree z → focus_of z.right ≡ None

abbrev pub IsParent-at : Walk → TreeIndex → Type 0
IsParent-at walk ix = (z : Zip Item) → Holds walk.tree z → Some ix ≡ parent_of z.up

pub following : (walk : Walk) (ix : TreeIndex) (z : Zip Item) (here : BlockDocument) (above : List Outer) → StandsAt walk z here above → IsNone-at walk → IsParent-at walk ix → Following walk ix z here above
following walk ix z here above s n p =
    following-split walk ix z here z.up above refl (here-none walk.text.now (texts_of walk) z.right here s.draws (n z s.below.holds)) s.below.draws_above s.below.elements (p z s.below.holds)

-- after the last of the siblings the walk is in no leaf
stage-none : (now : Stage) (here : BlockDocument) → here ≡ document.Nil → IsStaged now here → now ≡ stage.Before
stage-none stage.Before here e s = refl
stage-none (stage.Marked is_checked start end) here e s = absurd (subst (IsStaged (stage.Marked is_checked start end)) e s)
stage-none (stage.Listed is_checked start end) here e s = absurd (subst (IsStaged (stage.Listed is_checked start end)) e s)
stage-none stage.Lines here e s = absurd (subst (IsStaged stage.Lines) e s)
stage-none stage.Following here e s = absurd (subst (IsStaged stage.Following) e s)

-- the end of a node
pub leaving-some : (end : TagEnd) (R : Reads) (node : BlockNode) → Some end ≡ end_in R → leaving R node ≡ Given (over node (event.End end)) ∷ []
leaving-some end (reads.Around tag) node e = ap (λ x. Given (over node (event.End x)) ∷ []) (sym (same_Some end (end_of tag) e))
leaving-some end _ node e = absurd (let q : Some end ≡ None = e in cc)

pub leaving-none : (R : Reads) (node : BlockNode) → None ≡ end_in R → leaving R node ≡ []
leaving-none (reads.Around tag) node e = absurd (let q : None ≡ Some (end_of tag) = e in cc)
leaving-none _ node e = refl

-- a node with an end is an element, and an element has an end
pub ends-element : (end : TagEnd) (R : Reads) → Some end ≡ end_in R → IsElement R
ends-element end (reads.Around tag) e = tt
ends-element end _ e = let q : Some end ≡ None = e in cc

pub no-end-no-tag : (R : Reads) → None ≡ end_in R → None ≡ tag_in R
no-end-no-tag (reads.Around tag) e = absurd (let q : None ≡ Some (end_of tag) = e in cc)
no-end-no-tag _ e = refl

element-ends : (R : Reads) → IsElement R → None ≡ end_in R → ⊥
element-ends (reads.Around tag) i e = let q : None ≡ Some (end_of tag) = e in cc
element-ends _ i e = i

abbrev pub EndsAs : Walk → Item → Option TagEnd → Type 0
EndsAs walk item end = (z : Zip Item) (above : List Outer) (node : BlockNode) → StandsBelow walk z above → Drawn walk.text.now (texts_of walk) item node → end ≡ end_in (read_as (kind_within (tight_below above) node.kind))

module _ (walk : Walk) (ix : TreeIndex) (t : Tree Item) (none : IsNone-at walk) (parent : IsParent-at walk ix) (pop : (z : Zip Item) → Holds walk.tree z → Holds t (popped z)) where
  abbrev pub over-parent : (z : Zip Item) (here : BlockDocument) (above : List Outer) → Following walk ix z here above → Zip Item
  over-parent z here above b = record { left = b.level.left; right = Node b.level.place (siblings z) b.level.right; up = b.up }

  pub at-parent : (z : Zip Item) (here : BlockDocument) (above : List Outer) → StandsAt walk z here above → (b : Following walk ix z here above) → StandsBelow (moved walk t) (over-parent z here above b) b.outer
  at-parent z here above s b = record { holds = subst (λ u. Holds t (pop_to z u)) b.up_is (pop z s.below.holds); draws_above = b.draws_above; elements = b.elements }

  parent-read : (z : Zip Item) (here : BlockDocument) (above : List Outer) → StandsAt walk z here above → (b : Following walk ix z here above) → entry_at t ix.ix ≡ Some (record { item = b.level.place.item; child = first (siblings z); next = first b.level.right })
  parent-read z here above s b =
      let h = at-parent z here above s b in
      let st = in_right t.nodes t.first (over-parent z here above b) h.holds.forest in
      subst (λ k. entry_at t k ≡ Some (record { item = b.level.place.item; child = first (siblings z); next = first b.level.right })) b.at st.0

  pub parent-number : Goes walk → HasNode t ix.ix
  parent-number g =
      let b = following walk ix g.1.z g.1.here g.1.above g.1.stands none parent in
      node_at-within t.nodes ix.ix _ (parent-read g.1.z g.1.here g.1.above g.1.stands b)

  pub parent-below : Goes walk → (z : Zip Item) × (above : List Outer) × StandsBelow (moved walk t) z above
  parent-below g =
      let b = following walk ix g.1.z g.1.here g.1.above g.1.stands none parent in
      (over-parent g.1.z g.1.here g.1.above b, b.outer, at-parent g.1.z g.1.here g.1.above g.1.stands b)

  abbrev parent-sibling : (z : Zip Item) (here : BlockDocument) (above : List Outer) (b : Following walk ix z here above) → Sibling (over-parent z here above b) ix.ix
  parent-sibling z here above b = record { left = b.level.left; place = b.level.place; inside = siblings z; after = b.level.right; split = refl; at = b.at }

  module _ (item : Item) (t2 : Tree Item) (is : IsItem t ix item) (next : (z : Zip Item) (s : Sibling z ix.ix) → Holds t z → Holds t2 (past z ix.ix s)) where
    drawn-item : (z : Zip Item) (here : BlockDocument) (above : List Outer) → StandsAt walk z here above → (b : Following walk ix z here above) → Drawn walk.text.now (texts_of walk) item b.parent.node
    drawn-item z here above s b = subst (λ k. Drawn walk.text.now (texts_of walk) k b.parent.node) (sym (is _ (parent-read z here above s b))) b.drawn

    before : (left : List Segment) (r : Remains walk left) → Following walk ix r.z r.here r.above → walk.stage ≡ stage.Before
    before left r b = stage-none walk.stage r.here b.here_is r.staged

    after-parent : (z : Zip Item) (here : BlockDocument) (above : List Outer) → StandsAt walk z here above → (b : Following walk ix z here above) → walk.stage ≡ stage.Before
        → Remains (moved walk t2) (left_from stage.Before b.parent.after b.outer)
    after-parent z here above s b e =
        remains-before (moved walk t2) (left_from stage.Before b.parent.after b.outer) (past (over-parent z here above b) ix.ix (parent-sibling z here above b)) b.parent.after b.outer e
        (record {
          below = record { holds = next (over-parent z here above b) (parent-sibling z here above b) (at-parent z here above s b).holds; draws_above = b.draws_above; elements = b.elements };
          draws = b.draws;
        })
        refl

    left-parent : (here : BlockDocument) (above : List Outer) (z : Zip Item) (b : Following walk ix z here above)
        → left_from stage.Before here above ≡ leaving (read_as (kind_within (tight_below b.outer) b.parent.node.kind)) b.parent.node ++ left_from stage.Before b.parent.after b.outer
    left-parent here above z b = ap (λ h. left_from stage.Before h above) b.here_is ∙ ap (λ a. left_from stage.Before document.Nil a) b.above_is

    pub leaves-some : (end : TextEnd) → EndsAs (moved walk t) item (Some (shown_end end)) → (left : List Segment) → Remains walk left → IsFirst left (at_range (event.End (shown_end end)) item) (moved walk t2)
    leaves-some end ends left r =
        let b = following walk ix r.z r.here r.above r.stands none parent in
        let d = drawn-item r.z r.here r.above r.stands b in
        let now = before left r b in
        let e = ends (over-parent r.z r.here r.above b) b.outer b.parent.node (at-parent r.z r.here r.above r.stands b) d in (
          left_from stage.Before b.parent.after b.outer,
          left-staged walk stage.Before left now r ∙ left-parent r.here r.above r.z b
              ∙ ap (λ l. l ++ left_from stage.Before b.parent.after b.outer) (leaving-some (shown_end end) (read_as (kind_within (tight_below b.outer) b.parent.node.kind)) b.parent.node e)
              ∙ ap (λ x. Given x ∷ left_from stage.Before b.parent.after b.outer) (over-range walk.text.now (texts_of walk) item b.parent.node (event.End (shown_end end)) d),
          after-parent r.z r.here r.above r.stands b now,
        )

    -- the parent is an element, so its end is given
    pub never-none : EndsAs (moved walk t) item None → Goes walk → ⊥
    never-none ends g =
        let r = g.1 in
        let b = following walk ix r.z r.here r.above r.stands none parent in
        let d = drawn-item r.z r.here r.above r.stands b in
        element-ends (read_as (kind_within (tight_below b.outer) b.parent.node.kind)) b.element (ends (over-parent r.z r.here r.above b) b.outer b.parent.node (at-parent r.z r.here r.above r.stands b) d)

-- after the last of the first siblings nothing is left
no-parent : (up : List (Level Item)) → None ≡ parent_of up → up ≡ []
no-parent [] e = refl
no-parent (v ∷ up) e = absurd (let q : None ≡ Some (record { ix = v.place.ix }) = e in cc)

none-above : (text : List ℕ) (texts : _) (up : List (Level Item)) (above : List Outer) → DrawsAbove text texts up above → up ≡ [] → above ≡ []
none-above text texts [] [] d e = refl
none-above text texts [] (o ∷ above) d e = absurd d
none-above text texts (v ∷ up) above d e = absurd (let q : v ∷ up ≡ [] = e in cc)

pub leaves-over : (walk : Walk) (t : Tree Item) → IsNone-at walk → ((z : Zip Item) → Holds walk.tree z → None ≡ parent_of z.up) → ((z : Zip Item) → Holds walk.tree z → Holds t (popped z))
    → (left : List Segment) → Remains walk left → (left ≡ []) × Remains (moved walk t) []
leaves-over walk t none parent pop left r =
    let up = no-parent r.z.up (parent r.z r.stands.below.holds) in
    let here = here-none walk.text.now (texts_of walk) r.z.right r.here r.stands.draws (none r.z r.stands.below.holds) in
    let above = none-above walk.text.now (texts_of walk) r.z.up r.above r.stands.below.draws_above up in
    let over : left ≡ [] =
    left-staged walk stage.Before left (stage-none walk.stage r.here here r.staged) r ∙ ap (λ h. left_from stage.Before h r.above) here ∙ ap (λ a. left_from stage.Before document.Nil a) above in (
      over,
      record {
        z = r.z;
        here = r.here;
        above = r.above;
        stands = record { below = record { holds = subst (λ u. Holds t (pop_to r.z u)) up (pop r.z r.stands.below.holds); draws_above = r.stands.below.draws_above; elements = r.stands.below.elements }; draws = r.stands.draws };
        staged = r.staged;
        are = sym over ∙ r.are;
      },
    )
