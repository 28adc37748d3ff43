-- The lines of a leaf are gathered, one after the other.
use Rattle.std.proofs.Common.{◌≡◌, ℕ, ◌≤◌, List, [], ◌∷◌, ◌++◌, Option, Some, None, refl, sym, ap, ◌∙◌, subst, append_assoc, append-nil, arith}
use Rattle.std.proofs.lemmas.Option.{same_Some}
use Rattle.cmark_tree.specs.declared.tree_index.TreeIndex.{TreeIndex}
use Rattle.cmark_tree.specs.Forest.{Forest, Nil, Node}
use Rattle.cmark_tree.specs.Arena.{Entry, Placed, first, Stands}
use Rattle.cmark_tree.specs.Zip.{Zip}
use Rattle.cmark_tree.specs.Tree.{entry_at, HasNode, focus_of, index_at}
use Rattle.cmark_tree.proofs.Steps.{focus_read}
use Rattle.cmark_tree.proofs.Entries.{node_at-within}
use Rattle.cmark_values.specs.declared.text.CowStr.{CowStr}
use Rattle.cmark_grammar.specs.BlockDocument as document
use Rattle.cmark_grammar.specs.BlockDocument.{BlockDocument, node}
use Rattle.cmark_block_model.specs.Ranges.{InOrder}
use Rattle.cmark_grammar.specs.SpanDocuments.{stretches_of}
use Rattle.cmark_grammar.specs.Tokens.{slice}
use Rattle.cmark_items.specs.declared.item.Item.{Item}
use Rattle.cmark_leaf_text.specs.declared.stretch.LeafLine.{LeafLine}
use Rattle.cmark_leaf_text.specs.Stretches.{AreLines}
use Rattle.cmark_block_walk.specs.declared.walk.Walk.{Walk}
use Rattle.cmark_block_walk.specs.Walking.{Drawn, Draws, Goes, HoldsLines, Outer, StandsAt, content_of, leaf_at, lines_of, own_text_end, texts_of}
use Rattle.cmark_block_walk.proofs.Links.{leads-inside}
use Rattle.cmark_block_walk.proofs.WalkSteps.{IsFocusAt, drawn-below, focus, one-inside, range-of-item}

-- the nodes of a leaf, in order, are lines
lines-turn : (text : List ℕ) (texts : List CowStr) (low from : ℕ) (f : Forest (Placed Item)) (d : BlockDocument) (to : ℕ) → low ≤ from → Draws text texts f d → InOrder from d to → AreLines text low (lines_of (stretches_of d))
lines-turn text texts low from f document.Nil to le d o = tt
lines-turn text texts low from Nil (document.Node node inside after) to le d o = absurd d
lines-turn text texts low from (Node p f g) (document.Node node inside after) to le d o =
    let a : from ≤ node.start = o.0 in (
      record {
        following = omega (arith, le, a);
        content = d.0.in_order;
        ending = omega arith;
        within = d.0.within;
        starts = d.0.starts;
        stops = d.0.ends;
        ends = d.0.ends;
      },
      lines-turn text texts node.end node.end g after to (omega arith) d.2 o.2,
    )

-- some lines were gathered, and these are to come
pub record Gathering (walk : Walk) (content : BlockDocument) (lines : List LeafLine) (next : Option TreeIndex) : Type 0 where
  pub rest : Forest (Placed Item)
  pub left : BlockDocument
  pub stands : Stands (entry_at walk.tree) rest
  pub draws : Draws walk.text.now (texts_of walk) rest left
  pub next_is : next ≡ focus_of rest
  pub are : lines ++ lines_of (stretches_of left) ≡ lines_of (stretches_of content)

abbrev pub Gathered : Walk → List LeafLine → Option TreeIndex → Type 0
Gathered walk lines next = (z : Zip Item) (here : BlockDocument) (above : List Outer) → StandsAt walk z here above → Gathering walk (content_of here) lines next

abbrev pub IsItemAt : Walk → TreeIndex → Item → Type 0
IsItemAt walk ix item = (e : Entry Item) → entry_at walk.tree ix.ix ≡ Some e → item ≡ e.item

abbrev pub IsChildAt : Walk → TreeIndex → Option TreeIndex → Type 0
IsChildAt walk ix child = (e : Entry Item) → entry_at walk.tree ix.ix ≡ Some e → child ≡ index_at e.child

abbrev pub IsNextAt : Walk → TreeIndex → Option TreeIndex → Type 0
IsNextAt walk ix next = (e : Entry Item) → entry_at walk.tree ix.ix ≡ Some e → next ≡ index_at e.next

module _ (walk : Walk) where
  -- the first node inside the focus, if the focus has no text of its own
  pub begins-lines : (item : Item) (ix : TreeIndex) (child : Option TreeIndex) (lines : List LeafLine) → IsFocusAt walk ix → IsItemAt walk ix item → own_text_end item.body ≡ None → IsChildAt walk ix child → lines ≡ [] → Gathered walk lines child
  begins-lines item ix child lines at is own c none z here above s =
      let l = leads-inside walk ix item child at is own c z here above s in
      subst (λ ls. Gathering walk (content_of here) ls child) (sym none) (record { rest = l.forest; left = content_of here; stands = l.stands; draws = l.draws; next_is = l.link_is; are = refl })

  -- a node that is to come is a node of the tree
  node-at : (content : BlockDocument) (lines : List LeafLine) (line : TreeIndex) (rest : Forest (Placed Item)) → Stands (entry_at walk.tree) rest → Some line ≡ focus_of rest → HasNode walk.tree line.ix
  node-at content lines line Nil st e = absurd (let q : Some line ≡ None = e in cc)
  node-at content lines line (Node p f g) st e =
      subst (λ k. HasNode walk.tree k) (sym (ap (λ k. k.ix) (same_Some line (record { ix = p.ix }) e))) (node_at-within walk.tree.nodes p.ix (record { item = p.item; child = first f; next = first g }) st.0)

  pub line-node : (lines : List LeafLine) (line : TreeIndex) (next : Option TreeIndex) → Goes walk → Gathered walk lines next → next ≡ Some line → HasNode walk.tree line.ix
  line-node lines line next g h e =
      let k = h g.1.z g.1.here g.1.above g.1.stands in node-at (content_of g.1.here) lines line k.rest k.stands (sym e ∙ k.next_is)

  -- one line more
  more-at : (content : BlockDocument) (lines : List LeafLine) (line : TreeIndex) (item : Item) (next : Option TreeIndex) (rest : Forest (Placed Item)) (left : BlockDocument)
      → Stands (entry_at walk.tree) rest → Draws walk.text.now (texts_of walk) rest left
      → Some line ≡ focus_of rest → lines ++ lines_of (stretches_of left) ≡ lines_of (stretches_of content) → IsItemAt walk line item → IsNextAt walk line next
      → Gathering walk content (lines ++ (record { start = item.start; content_end = item.end; line_end = item.end } ∷ [])) next
  more-at content lines line item next Nil left st d e are i n = absurd (let q : Some line ≡ None = e in cc)
  more-at content lines line item next (Node p f g) document.Nil st d e are i n = absurd d
  more-at content lines line item next (Node p f g) (document.Node node inside after) st d e are i n =
      let same = sym (ap (λ k. k.ix) (same_Some line (record { ix = p.ix }) e)) in
      let entry : Entry Item = record { item = p.item; child = first f; next = first g } in
      let at : entry_at walk.tree line.ix ≡ Some entry = subst (λ k. entry_at walk.tree k ≡ Some entry) same st.0 in
      let is : item ≡ p.item = i entry at in
      let range = range-of-item walk.text.now (texts_of walk) item node (subst (λ k. Drawn walk.text.now (texts_of walk) k node) (sym is) d.0) in
      let line-is : record { start = item.start; content_end = item.end; line_end = item.end } ≡ record { start = node.start; content_end = node.end; line_end = node.end } =
      ap {A = ℕ} {B = LeafLine} (λ s. record { start = s; content_end = item.end; line_end = item.end }) (sym range.0) ∙ ap {A = ℕ} {B = LeafLine} (λ s. record { start = node.start; content_end = s; line_end = s }) (sym range.1) in
      record {
        rest = g;
        left = after;
        stands = st.2;
        draws = d.2;
        next_is = n entry at ∙ focus_read walk.tree.nodes g st.2;
        are = append_assoc lines (record { start = item.start; content_end = item.end; line_end = item.end } ∷ []) (lines_of (stretches_of after)) ∙ ap (λ (l : LeafLine). lines ++ (l ∷ lines_of (stretches_of after))) line-is ∙ are;
      }

  pub gathers-line : (lines more : List LeafLine) (line : TreeIndex) (item : Item) (now next : Option TreeIndex) → Gathered walk lines now → now ≡ Some line → IsItemAt walk line item → IsNextAt walk line next
      → more ≡ lines ++ (record { start = item.start; content_end = item.end; line_end = item.end } ∷ []) → Gathered walk more next
  gathers-line lines more line item now next h e i n are z here above s =
      let k = h z here above s in
      subst (λ ls. Gathering walk (content_of here) ls next) (sym are) (more-at (content_of here) lines line item next k.rest k.left k.stands k.draws (sym e ∙ k.next_is) k.are i n)

  -- no line is to come
  done-at : (lines all : List LeafLine) (rest : Forest (Placed Item)) (left : BlockDocument) → Draws walk.text.now (texts_of walk) rest left → None ≡ focus_of rest → lines ++ lines_of (stretches_of left) ≡ all → lines ≡ all
  done-at lines all Nil document.Nil d e are = sym (append-nil lines) ∙ are
  done-at lines all Nil (document.Node node inside after) d e are = absurd d
  done-at lines all (Node p f g) left d e are = absurd (let q : None ≡ Some (record { ix = p.ix }) = e in cc)

  -- the nodes inside the focus are its lines
  turn-at : (item : Item) (ix : TreeIndex) → IsFocusAt walk ix → IsItemAt walk ix item → own_text_end item.body ≡ None → (z : Zip Item) (here : BlockDocument) (above : List Outer) → StandsAt walk z here above → AreLines walk.text.now 0 (lines_of (stretches_of (content_of here)))
  turn-at item ix at is own z here above s =
      let f = focus walk item ix z here above s (at z s.below.holds) is in
      let below = drawn-below walk.text.now item.start (own_text_end item.body) (Draws walk.text.now (texts_of walk) f.inner f.inside) f.inside own f.draws_inside in
      subst (λ h. AreLines walk.text.now 0 (lines_of (stretches_of (content_of h)))) (sym f.here_is) (lines-turn walk.text.now (texts_of walk) 0 f.node.start f.inner f.inside f.node.end (omega arith) below f.in_order)

  content-stretches : (here : BlockDocument) → (leaf_at here).stretches ≡ stretches_of (content_of here)
  content-stretches document.Nil = refl
  content-stretches (document.Node node inside after) = refl

  pub lines-done : (item : Item) (ix : TreeIndex) (lines : List LeafLine) (next : Option TreeIndex) → IsFocusAt walk ix → IsItemAt walk ix item → own_text_end item.body ≡ None → Gathered walk lines next → next ≡ None → HoldsLines walk lines
  lines-done item ix lines next at is own h e z here above s =
      let k = h z here above s in
      let are = done-at lines (lines_of (stretches_of (content_of here))) k.rest k.left k.draws (sym e ∙ k.next_is) k.are in
      record { are = are ∙ ap lines_of (sym (content-stretches here)); in_turn = subst (AreLines walk.text.now 0) (sym are) (turn-at item ix at is own z here above s) }

  -- a text of its own is one line
  pub own-line : (item : Item) (ix : TreeIndex) (text_end : ℕ) (lines : List LeafLine) → IsFocusAt walk ix → IsItemAt walk ix item → own_text_end item.body ≡ Some text_end
      → lines ≡ record { start = item.start; content_end = text_end; line_end = text_end } ∷ [] → HoldsLines walk lines
  own-line item ix text_end lines at is own e z here above s =
      let f = focus walk item ix z here above s (at z s.below.holds) is in
      let o = one-inside walk.text.now item.start (own_text_end item.body) text_end (Draws walk.text.now (texts_of walk) f.inner f.inside) f.inside own f.draws_inside in
      let content : content_of here ≡ document.Node (node (document.Text (slice walk.text.now item.start text_end)) item.start text_end) document.Nil document.Nil = ap content_of f.here_is ∙ o.is in
      let line : LeafLine = record { start = item.start; content_end = text_end; line_end = text_end } in
      record {
        are = e ∙ ap (λ d. lines_of (stretches_of d)) (sym content) ∙ ap lines_of (sym (content-stretches here));
        in_turn = subst (AreLines walk.text.now 0) (sym e)
            ((
              record { following = omega arith; content = o.in_order; ending = omega arith; within = o.within; starts = o.starts; stops = o.ends; ends = o.ends },
              tt,
            ));
      }
