-- A task marker, and the paragraph, heading or definition list after it.
use Rattle.std.proofs.Common.{◌≡◌, ◌⊎◌, inl, inr, if◌then◌else◌, ℕ, Bool, true, false, true≢false, List, [], ◌∷◌, ◌++◌, Option, Some, None, refl, sym, ap, ◌∙◌, subst, append_assoc}
use Rattle.std.proofs.lemmas.Option.{same_Some}
use Rattle.cmark_tree.specs.declared.tree.Tree.{Tree}
use Rattle.cmark_tree.specs.declared.tree_index.TreeIndex.{TreeIndex}
use Rattle.cmark_tree.specs.Forest.{Forest, Nil, Node}
use Rattle.cmark_tree.specs.Arena.{Entry, Placed, first, Stands}
use Rattle.cmark_tree.specs.Zip.{Zip, Sibling, past}
use Rattle.cmark_tree.specs.Tree.{Holds, HasNode, entry_at, focus_of}
use Rattle.cmark_tree.proofs.Steps.{in_right}
use Rattle.cmark_text.specs.declared.event.Tag.{Tag as TextTag}
use Rattle.cmark_values.specs.declared.text.CowStr.{CowStr}
use Rattle.cmark_text.specs.Shown.{shown_tag}
use Rattle.cmark_grammar.specs.Event as event
use Rattle.cmark_grammar.specs.Tag as tag
use Rattle.cmark_grammar.specs.TagEnd.{end_of}
use Rattle.cmark_grammar.specs.BlockDocument as document
use Rattle.cmark_grammar.specs.BlockDocument.{BlockKind, BlockNode, BlockDocument}
use Rattle.cmark_grammar.specs.BlockReading as reads
use Rattle.cmark_grammar.specs.BlockReading.{Reads, read_as, over, is_leaf, begins_title, starts_as, starts_before, starts_of}
use Rattle.cmark_block_model.specs.DrawnDocument.{settled, kind_within}
use Rattle.cmark_grammar.specs.SpanDocuments.{Segment, Given, Content, leaf_of, inside_of, first_of_segments, segments}
use Rattle.cmark_block_model.specs.Tightness.{tight_within}
use Rattle.cmark_items.specs.declared.item.Item.{Item}
use Rattle.cmark_block_walk.specs.declared.walk.Walk.{Walk}
use Rattle.cmark_block_walk.specs.declared.reading.Stage.TheVariants as stage
use Rattle.cmark_block_walk.specs.Reads.{tag_in}
use Rattle.cmark_block_walk.specs.Walking.{IsAt, Drawn, Outer, StandsBelow, StandsAt, Remains, Goes, IsElement, IsFirst, IsStaged, IsTaskAt, IsLeafAfter, IsLeafElement, IsListAfter, ListAfter, BeginsAs, BeginsAfter, BeginsWithList, after_first_of, is_list, task_body, left_above, left_from, leaving, texts_of, tight_below}
use Rattle.cmark_block_walk.proofs.InsideItems.{not-definition, task-drawn, task-read, no-element}
use Rattle.cmark_block_walk.proofs.LeafKinds.{leaf-within}
use Rattle.cmark_block_walk.proofs.Links.{IsNext, Begins, leads-following, leads-node, leads-nowhere, leads-to}
use Rattle.cmark_block_walk.proofs.ListKinds.{leaf-starts, list-kind}
use Rattle.cmark_block_walk.proofs.WalkSteps.{as_kind, read_with, inside_at, Focus, IsFocusAt, IsItem, Leaf-at, Reads-at, at-focus, at_range, beyond, before-node, leaf-inside, left-first, left-staged, moved, over-range, passed, remains-before, staged}

-- the marker of a leaf is given, and its lines are to come
pub meets-marker : (walk : Walk) (is_checked : Bool) (start end : ℕ) → walk.stage ≡ stage.Marked is_checked start end → (left : List Segment) → Remains walk left
    → IsFirst left (record { event = event.TaskListMarker is_checked; start = start; end = end }) (staged walk stage.Lines)
meets-marker walk is_checked start end now left r = (
  left_from stage.Lines r.here r.above,
  left-staged walk (stage.Marked is_checked start end) left now r,
  record {
    z = r.z;
    here = r.here;
    above = r.above;
    stands = record { below = record { holds = r.stands.below.holds; draws_above = r.stands.below.draws_above; elements = r.stands.below.elements }; draws = r.stands.draws };
    staged = subst (λ k. IsStaged k r.here) now r.staged;
    are = refl;
  },
)

-- ## The nodes after the focus

module _ (walk : Walk) (ix : TreeIndex) where
  -- there is none
  pub none-following : (next : Option TreeIndex) → IsFocusAt walk ix → IsNext walk ix next → None ≡ next → IsLeafAfter walk ix None
  none-following next at n none z here above s =
      inl (ap (λ d. starts_before (settled (tight_below above) d)) (leads-nowhere walk next (after_first_of here) (leads-following walk ix next at n z here above s) none))

  pub no-list-following : (next : Option TreeIndex) → IsFocusAt walk ix → IsNext walk ix next → None ≡ next → IsListAfter walk ix None
  no-list-following next at n none z here above s l =
      subst BeginsWithList (leads-nowhere walk next (after_first_of here) (leads-following walk ix next at n z here above s) none) l

  -- the node after the focus is a node of the tree
  pub later-node : (next : TreeIndex) (found : Option TreeIndex) → IsFocusAt walk ix → IsNext walk ix found → found ≡ Some next → Goes walk → HasNode walk.tree next.ix
  later-node next found at n e g = leads-node walk next found (after_first_of g.1.here) (leads-following walk ix found at n g.1.z g.1.here g.1.above g.1.stands) e

  -- one does, with this item
  module _ (next : TreeIndex) (item : Item) (is : IsItem walk.tree next item) (found : Option TreeIndex) (at : IsFocusAt walk ix) (n : IsNext walk ix found) (e : found ≡ Some next) where
    pub next-drawn : (z : Zip Item) (here : BlockDocument) (above : List Outer) → StandsAt walk z here above → Begins walk item (after_first_of here)
    next-drawn z here above s = leads-to walk next item found (after_first_of here) is (leads-following walk ix found at n z here above s) e

    -- no paragraph, heading or title
    pub other-following : ((z : Zip Item) (above : List Outer) (node : BlockNode) → StandsBelow walk z above → Drawn walk.text.now (texts_of walk) item node → (is_leaf node.kind ≡ false) ⊎ (None ≡ tag_in (read_as (kind_within (tight_below above) node.kind))))
        → IsLeafAfter walk ix None
    other-following other z here above s =
        let b = next-drawn z here above s in
        subst (BeginsAfter walk above None) (sym b.nodes_are)
        (no-element (tight_below above) b.node.kind (begins_title (settled (tight_within (tight_below above) b.node.kind) b.inside)) (starts_before (settled (tight_below above) b.rest))
        (not-definition walk.text.now (texts_of walk) item b.node b.drawn) (other z above b.node s.below b.drawn))

    -- one of these
    pub leaf-following : Leaf-at walk item true
        → ((z : Zip Item) (above : List Outer) (node : BlockNode) → StandsBelow walk z above → Drawn walk.text.now (texts_of walk) item node → IsElement (read_as (kind_within (tight_below above) node.kind)))
        → IsLeafAfter walk ix (Some item)
    leaf-following leaf element z here above s =
        let b = next-drawn z here above s in
        subst (BeginsAs walk above item) (sym b.nodes_are)
        (b.drawn, sym (leaf walk.text.now (texts_of walk) b.node b.drawn), element z above b.node s.below b.drawn)

    -- no definition list
    pub other-than-list : ((text : List ℕ) (texts : List CowStr) (node : BlockNode) → Drawn text texts item node → false ≡ is_list node.kind) → IsListAfter walk ix None
    other-than-list other z here above s l =
        let b = next-drawn z here above s in
        let is-list : is_list b.node.kind ≡ true = subst BeginsWithList b.nodes_are l in
        true≢false (sym is-list ∙ sym (other walk.text.now (texts_of walk) b.node b.drawn))

    -- one
    pub list-following : ((text : List ℕ) (texts : List CowStr) (node : BlockNode) → Drawn text texts item node → true ≡ is_list node.kind) → IsListAfter walk ix (Some item)
    list-following is-list z here above s =
        let b = next-drawn z here above s in
        subst (ListAfter walk (Some item)) (sym b.nodes_are) (b.drawn, sym (is-list walk.text.now (texts_of walk) b.node b.drawn))

-- ## Past the marker

item-has-at : (walk : Walk) (item : Item) (ix : TreeIndex) (P : Item → Type 0) (right : Forest (Placed Item)) → Stands (entry_at walk.tree) right → focus_of right ≡ Some ix → IsItem walk.tree ix item
    → ((e : Entry Item) → entry_at walk.tree ix.ix ≡ Some e → P e.item) → P item
item-has-at walk item ix P Nil st f is has = absurd (let q : None ≡ Some ix = f in cc)
item-has-at walk item ix P (Node p f g) st fo is has =
    let same = ap (λ k. k.ix) (same_Some (record { ix = p.ix }) ix fo) in
    let entry : Entry Item = record { item = p.item; child = first f; next = first g } in
    let at : entry_at walk.tree ix.ix ≡ Some entry = subst (λ k. entry_at walk.tree k ≡ Some entry) same st.0 in
    subst P (sym (is entry at)) (has entry at)

-- the item at the focus has the properties of the entry of the focus
pub item-has : (walk : Walk) (item : Item) (ix : TreeIndex) (P : Item → Type 0) → IsAt walk ix → IsItem walk.tree ix item → ((e : Entry Item) → entry_at walk.tree ix.ix ≡ Some e → P e.item) → P item
item-has walk item ix P at is has =
    item-has-at walk item ix P at.0.1.z.right (in_right walk.tree.nodes walk.tree.first at.0.1.z at.0.1.stands.below.holds.forest) (at.1 at.0.1.z at.0.1.stands.below.holds) is has

-- it is the task marker
pub item-task : (walk : Walk) (item : Item) (ix : TreeIndex) (is_checked : Bool) → IsAt walk ix → IsItem walk.tree ix item → IsTaskAt walk ix is_checked → task_body item.body ≡ Some is_checked
item-task walk item ix is_checked at is task = item-has walk item ix (λ i. task_body i.body ≡ Some is_checked) at is task

-- the paragraph or heading after the focus is an element
element-following : (walk : Walk) (z : Zip Item) (above : List Outer) (leaf : Item) (after : BlockDocument) → StandsBelow walk z above → BeginsAs walk above leaf after → IsLeafElement walk leaf
element-following walk z above leaf document.Nil s b = absurd b
element-following walk z above leaf (document.Node node inside after) s b = record { z = z; above = above; node = node; stands = s; drawn = b.0; leaf = b.1; element = b.2 }

pub leaf-element : (walk : Walk) (ix : TreeIndex) (leaf : Item) → IsAt walk ix → IsLeafAfter walk ix (Some leaf) → IsLeafElement walk leaf
leaf-element walk ix leaf at found = let r = at.0.1 in element-following walk r.z r.above leaf (after_first_of r.here) r.stands.below (found r.z r.here r.above r.stands)

module _ (walk : Walk) (item : Item) (ix : TreeIndex) (t : Tree Item) (at : IsFocusAt walk ix) (is : IsItem walk.tree ix item) (before : walk.stage ≡ stage.Before)
    (is_checked : Bool) (task : task_body item.body ≡ Some is_checked) (next : (z : Zip Item) (s : Sibling z ix.ix) → Holds walk.tree z → Holds t (past z ix.ix s)) where
  abbrev marker : event.Ranged
  marker = at_range (event.TaskListMarker is_checked) item

  left-marker : (left : List Segment) (r : Remains walk left) (f : Focus walk item ix r.z r.here)
      → left ≡ first_of_segments (starts_before (settled (tight_below r.above) f.after)) (Given marker) (segments (settled (tight_below r.above) f.after)) ++ left_above r.above
  left-marker left r f =
      before-node walk item ix t at is before left r f
      ∙ left-first (event.TaskListMarker is_checked) (read_as (kind_within (tight_below r.above) f.node.kind)) (starts_before (settled (tight_below r.above) f.after)) (kind_within (tight_below r.above) f.node.kind) f.node _ (segments (settled (tight_below r.above) f.after)) (left_above r.above)
      (task-read (tight_below r.above) is_checked f.node.kind (task-drawn walk.text.now (texts_of walk) item f.node f.drawn ∙ task))
      ∙ ap (λ m. first_of_segments (starts_before (settled (tight_below r.above) f.after)) (Given m) (segments (settled (tight_below r.above) f.after)) ++ left_above r.above)
      (over-range walk.text.now (texts_of walk) item f.node (event.TaskListMarker is_checked) f.drawn)

  following-is : (z : Zip Item) (here : BlockDocument) (f : Focus walk item ix z here) → after_first_of here ≡ f.after
  following-is z here f = ap after_first_of f.here_is

  -- no text comes after starts, except perhaps the text of a definition list
  no-starts : (above : List Outer) (after : BlockDocument) → BeginsAfter walk above None after → (BeginsWithList after → ⊥) → starts_before (settled (tight_below above) after) ≡ 0
  no-starts above after (inl e) n = e
  no-starts above after (inr l) n = absurd (n l)

  -- if no leaf begins after it
  pub passes-marker : IsLeafAfter walk ix None → IsListAfter walk ix None → (left : List Segment) → Remains walk left → IsFirst left marker (moved walk t)
  passes-marker none no-list left r =
      let f = at-focus walk item ix t at is before r.z r.here r.above r.stands in
      let no : starts_before (settled (tight_below r.above) f.after) ≡ 0 =
      ap (λ a. starts_before (settled (tight_below r.above) a)) (sym (following-is r.z r.here f)) ∙ no-starts r.above (after_first_of r.here) (none r.z r.here r.above r.stands) (no-list r.z r.here r.above r.stands) in (
        left_from stage.Before f.after r.above,
        left-marker left r f ∙ ap (λ z. first_of_segments z (Given marker) (segments (settled (tight_below r.above) f.after)) ++ left_above r.above) no,
        remains-before (moved walk t) (left_from stage.Before f.after r.above) (beyond walk item ix t r.z r.here f) f.after r.above before (passed walk item ix t r.z r.here r.above r.stands f next) refl,
      )

  abbrev pub into_leaf : Walk
  into_leaf = staged (moved walk t) (stage.Marked is_checked item.start item.end)

  -- if a paragraph or a heading does
  entered-left : (tag : TextTag) (leaf : Item) (z : Zip Item) (above : List Outer) (after : BlockDocument) → StandsBelow walk z above → Reads-at walk leaf (reads.Around (shown_tag tag)) → BeginsAs walk above leaf after
      → first_of_segments (starts_before (settled (tight_below above) after)) (Given marker) (segments (settled (tight_below above) after)) ++ left_above above
      ≡ Given (at_range (event.Start (shown_tag tag)) leaf) ∷ left_from (stage.Marked is_checked item.start item.end) after above
  entered-left tag leaf z above document.Nil s read b = absurd b
  entered-left tag leaf z above (document.Node node inside rest) s read b =
      let K : BlockKind = kind_within (tight_below above) node.kind in
      let A : List Segment = segments (settled (tight_below above) rest) in
      let titled : Bool = begins_title (settled (tight_within (tight_below above) node.kind) inside) in
      marked-around (shown_tag tag) (starts_of K titled) (read_as K) (starts_before (settled (tight_below above) rest)) K node (inside_at walk item ix t at is before above node inside) A (left_above above) (leaf-starts K titled (leaf-within (tight_below above) node.kind ∙ b.1)) (read z above node s b.0)
      ∙ ap (λ I. Given (over node (event.Start (shown_tag tag))) ∷ (Given marker ∷ (I ++ (leaving (read_as K) node ++ (A ++ left_above above))))) (leaf-inside walk item ix t at is before above node inside b.1)
      ∙ ap (λ l. Given (over node (event.Start (shown_tag tag))) ∷ (Given marker ∷ (Content (leaf_of node.kind inside) ∷ l))) (sym (append_assoc (leaving (read_as K) node) A (left_above above)))
      ∙ ap (λ x. Given x ∷ left_from (stage.Marked is_checked item.start item.end) (document.Node node inside rest) above) (over-range walk.text.now (texts_of walk) leaf node (event.Start (shown_tag tag)) b.0)
    where
      marked-around : (tag : _) (starts : ℕ) (R : Reads) (z : ℕ) (k : BlockKind) (node : BlockNode) (I A L : List Segment) → starts ≡ 1 → reads.Around tag ≡ R
          → first_of_segments (starts_as starts R z) (Given marker) (read_with R z (as_kind k node) I A) ++ L ≡ Given (over node (event.Start tag)) ∷ (Given marker ∷ (I ++ (leaving R node ++ (A ++ L))))
      marked-around tag starts R z k node I A L e q =
          subst (λ r. first_of_segments (starts_as starts r z) (Given marker) (read_with r z (as_kind k node) I A) ++ L ≡ Given (over node (event.Start tag)) ∷ (Given marker ∷ (I ++ (leaving r node ++ (A ++ L))))) q
          (ap (λ n. first_of_segments n (Given marker) (read_with (reads.Around tag) z (as_kind k node) I A) ++ L) e
          ∙ ap (λ o. Given (over node (event.Start tag)) ∷ (Given marker ∷ o)) (append_assoc (I ++ (Given (over node (event.End (end_of tag))) ∷ [])) A L ∙ append_assoc I (Given (over node (event.End (end_of tag))) ∷ []) (A ++ L)))

  pub enters-marked : (tag : TextTag) (leaf : Item) → IsLeafAfter walk ix (Some leaf) → Reads-at walk leaf (reads.Around (shown_tag tag)) → (left : List Segment) → Remains walk left
      → IsFirst left (at_range (event.Start (shown_tag tag)) leaf) into_leaf
  enters-marked tag leaf found read left r =
      let f = at-focus walk item ix t at is before r.z r.here r.above r.stands in
      let b = subst (BeginsAs walk r.above leaf) (following-is r.z r.here f) (found r.z r.here r.above r.stands) in
      let p = passed walk item ix t r.z r.here r.above r.stands f next in (
        left_from (stage.Marked is_checked item.start item.end) f.after r.above,
        left-marker left r f ∙ entered-left tag leaf r.z r.above f.after r.stands.below read b,
        record {
          z = beyond walk item ix t r.z r.here f;
          here = f.after;
          above = r.above;
          stands = record { below = record { holds = p.below.holds; draws_above = p.below.draws_above; elements = p.below.elements }; draws = p.draws };
          staged = staged-leaf r.above leaf f.after b;
          are = refl;
        },
      )
    where
      staged-leaf : (above : List Outer) (leaf : Item) (after : BlockDocument) → BeginsAs walk above leaf after → IsStaged (stage.Marked is_checked item.start item.end) after
      staged-leaf above leaf document.Nil b = b
      staged-leaf above leaf (document.Node node inside rest) b = b.1

  abbrev pub into_list : Walk
  into_list = staged (moved walk t) (stage.Listed is_checked item.start item.end)

  -- if a definition list does
  listed-around : (tight titled : Bool) (k : BlockKind) (z : ℕ) (node : BlockNode) (content : BlockDocument) (I A L : List Segment) → k ≡ document.DefinitionList tight
      → first_of_segments (starts_as (starts_of k titled) (read_as k) z) (Given marker) (read_with (read_as k) z (as_kind k node) (inside_of k content I) A) ++ L
      ≡ Given (over node (event.Start tag.DefinitionList)) ∷ (first_of_segments (if titled then 1 else 0) (Given marker) ((I ++ leaving (read_as k) node) ++ A) ++ L)
  listed-around tight titled k z node content I A L e =
      subst (λ b.
      first_of_segments (starts_as (starts_of b titled) (read_as b) z) (Given marker) (read_with (read_as b) z (as_kind b node) (inside_of b content I) A) ++ L
      ≡ Given (over node (event.Start tag.DefinitionList)) ∷ (first_of_segments (if titled then 1 else 0) (Given marker) ((I ++ leaving (read_as b) node) ++ A) ++ L)) (sym e)
      (around-list titled)
    where
      around-list : (titled : Bool)
          → first_of_segments (if titled then 2 else 1) (Given marker) (read_with (reads.Around tag.DefinitionList) z (as_kind (document.DefinitionList tight) node) I A) ++ L
          ≡ Given (over node (event.Start tag.DefinitionList)) ∷ (first_of_segments (if titled then 1 else 0) (Given marker) ((I ++ leaving (reads.Around tag.DefinitionList) node) ++ A) ++ L)
      around-list true = refl
      around-list false = refl

  listed-left : (list : Item) (above : List Outer) (after : BlockDocument) → ListAfter walk (Some list) after
      → first_of_segments (starts_before (settled (tight_below above) after)) (Given marker) (segments (settled (tight_below above) after)) ++ left_above above
      ≡ Given (at_range (event.Start tag.DefinitionList) list) ∷ left_from (stage.Listed is_checked item.start item.end) after above
  listed-left list above document.Nil b = absurd b
  listed-left list above (document.Node node inside rest) b =
      let k = list-kind node.kind b.1 in
      let within : BlockDocument = settled (tight_within (tight_below above) node.kind) inside in
      listed-around k.0 (begins_title within) (kind_within (tight_below above) node.kind) (starts_before (settled (tight_below above) rest)) node within (segments within) (segments (settled (tight_below above) rest)) (left_above above) (ap (kind_within (tight_below above)) k.1)
      ∙ ap (λ x. Given x ∷ left_from (stage.Listed is_checked item.start item.end) (document.Node node inside rest) above) (over-range walk.text.now (texts_of walk) list node (event.Start tag.DefinitionList) b.0)

  pub enters-listed : (list : Item) → IsListAfter walk ix (Some list) → (left : List Segment) → Remains walk left → IsFirst left (at_range (event.Start tag.DefinitionList) list) into_list
  enters-listed list found left r =
      let f = at-focus walk item ix t at is before r.z r.here r.above r.stands in
      let b = subst (ListAfter walk (Some list)) (following-is r.z r.here f) (found r.z r.here r.above r.stands) in
      let p = passed walk item ix t r.z r.here r.above r.stands f next in (
        left_from (stage.Listed is_checked item.start item.end) f.after r.above,
        left-marker left r f ∙ listed-left list r.above f.after b,
        record {
          z = beyond walk item ix t r.z r.here f;
          here = f.after;
          above = r.above;
          stands = record { below = record { holds = p.below.holds; draws_above = p.below.draws_above; elements = p.below.elements }; draws = p.draws };
          staged = staged-list list f.after b;
          are = refl;
        },
      )
    where
      staged-list : (list : Item) (after : BlockDocument) → ListAfter walk (Some list) after → BeginsWithList after
      staged-list list document.Nil b = b
      staged-list list (document.Node node inside rest) b = b.1
