-- Where a walk may be refused memory, no end is next.
use Rattle.std.proofs.Common.{◌≡◌, inl, inr, if◌then◌else◌, ℕ, zero, suc, Bool, true, false, true≢false, List, [], ◌∷◌, ◌++◌, Option, Some, None, refl, sym, ap, ◌∙◌, subst}
use Rattle.std.specs.Char.{encode_utf8}
use Rattle.cmark_tree.specs.declared.tree.Tree.{Tree}
use Rattle.cmark_tree.specs.declared.tree_index.TreeIndex.{TreeIndex}
use Rattle.cmark_tree.specs.Forest.{Forest, Nil, Node}
use Rattle.cmark_tree.specs.Arena.{Placed}
use Rattle.cmark_tree.specs.Tree.{focus_of}
use Rattle.cmark_tree.specs.Zip.{Zip}
use Rattle.cmark_values.specs.declared.text.CowStr.{CowStr}
use Rattle.cmark_grammar.specs.Attributes.{attributes_of}
use Rattle.cmark_grammar.specs.Event as event
use Rattle.cmark_grammar.specs.TagEnd.{TagEnd}
use Rattle.cmark_grammar.specs.BlockDocument as document
use Rattle.cmark_grammar.specs.BlockDocument.{BlockKind, BlockNode, BlockDocument, Paragraph, TightParagraph, Heading, LinkDefinition, TaskMarker}
use Rattle.cmark_grammar.specs.BlockReading as reads
use Rattle.cmark_grammar.specs.BlockReading.{Reads, read_as, first_event, begins_title, starts_before, starts_of, is_title}
use Rattle.cmark_block_model.specs.DrawnDocument.{is_definition, kind_within, settled}
use Rattle.cmark_grammar.specs.SpanDocuments.{Segment, Given, Content, first_of_segments, inside_of, node_segments, segments, stretches_of, with_first_segment}
use Rattle.cmark_grammar.specs.Tables.{delimiter_row}
use Rattle.cmark_block_model.specs.Tightness.{tight_within}
use Rattle.cmark_items.specs.declared.item.Item.{Item}
use Rattle.cmark_items.specs.declared.item.ItemBody.{ItemBody}
use Rattle.cmark_items.specs.declared.item.ItemBody.TheVariants as body
use Rattle.cmark_items.specs.ItemNodes.{columns_of, kind_over, shape, text_at}
use Rattle.cmark_values.specs.Shown.{level_number}
use Rattle.cmark_block_walk.specs.declared.walk.Walk.{Walk}
use Rattle.cmark_block_walk.specs.declared.reading.Stage.TheVariants as stage
use Rattle.cmark_block_walk.specs.Walking.{BeginsWithList, Drawn, Draws, HasText, IsStaged, MayBeginWithEnd, NoEndIsNext, Outer, OwnsText, StandsBelow, content_of, leaf_at, leaving, left_above, left_from, own_text_end, task_body, tight_below, texts_of}
use Rattle.cmark_block_walk.proofs.InsideItems.{not-definition, task-drawn, task-read}
use Rattle.cmark_block_walk.proofs.Links.{IsChild, leads-inside}
use Rattle.cmark_block_walk.proofs.Paths.{spelt-kind, within-kind}
use Rattle.cmark_block_walk.proofs.WalkSteps.{IsFocusAt, IsItem, as_kind, at-focus, before-node, element_at, focus, inside_at, left-staged, one-inside, read_with}

-- ## Lists that begin with something else

-- an event that is no end is the first of these, or a leaf with a text
abbrev pub BeginsOtherwise : List Segment → Type 0
BeginsOtherwise [] = ⊥
BeginsOtherwise (Given given ∷ others) = (end : TagEnd) → given.event ≡ event.End end → ⊥
BeginsOtherwise (Content leaf ∷ others) = leaf.stretches ≡ [] → ⊥

pub no-end : (xs : List Segment) → BeginsOtherwise xs → MayBeginWithEnd xs → ⊥
no-end [] o m = o
no-end (Given given ∷ others) o m = o m.0 m.1
no-end (Content leaf ∷ others) o m = o m

otherwise-append : (xs L : List Segment) → BeginsOtherwise xs → BeginsOtherwise (xs ++ L)
otherwise-append [] L o = absurd o
otherwise-append (Given given ∷ others) L o = o
otherwise-append (Content leaf ∷ others) L o = o

-- a marker that comes after starts, before events that begin with a start
first-otherwise : (starts : ℕ) (start end : ℕ) (is_checked : Bool) (xs : List Segment) → ((n : ℕ) → starts ≡ suc n → BeginsOtherwise xs)
    → BeginsOtherwise (first_of_segments starts (Given (record { event = event.TaskListMarker is_checked; start = start; end = end })) xs)
first-otherwise zero start end is_checked xs h = λ tag e. let q : event.TaskListMarker is_checked ≡ event.End tag = e in cc
first-otherwise (suc starts) start end is_checked [] h = absurd (h starts refl)
first-otherwise (suc starts) start end is_checked (Given given ∷ others) h = h starts refl
first-otherwise (suc starts) start end is_checked (Content leaf ∷ others) h = h starts refl

-- ## Documents

-- nodes that begin with a title begin with its start
title-read : (b : Bool) (R : Reads) (node : BlockNode) (d : BlockDocument) (I : List Segment) → (begins_title d ≡ true → BeginsOtherwise (segments d)) → reads.title_as b R (begins_title d) ≡ true
    → (z : ℕ) → BeginsOtherwise (with_first_segment (first_event R) z node (node_segments R node I ++ segments d))
title-read b (reads.Around tag) node d I h e z = λ end q. let n : event.Start tag ≡ event.End end = q in cc
title-read b reads.Inside node d I h e z = absurd (true≢false (sym e))
title-read b (reads.Alone ev) node d I h e z = absurd (true≢false (sym e))
title-read b (reads.First ev) node d I h e z = absurd (true≢false (sym e))
title-read b reads.Silent node d I h e z = h e

title-otherwise : (d : BlockDocument) → begins_title d ≡ true → BeginsOtherwise (segments d)
title-otherwise document.Nil e = absurd (true≢false (sym e))
title-otherwise (document.Node node inside after) e =
    title-read (is_title node.kind) (read_as node.kind) node after (inside_of node.kind inside (segments inside)) (title-otherwise after) e (starts_before after)

-- nodes that begin with a text after starts begin with a start
starts-read : (s : ℕ) (R : Reads) (node : BlockNode) (d : BlockDocument) (I : List Segment) → ((n : ℕ) → starts_before d ≡ suc n → BeginsOtherwise (segments d)) → (n : ℕ) → reads.starts_as s R (starts_before d) ≡ suc n
    → (z : ℕ) → BeginsOtherwise (with_first_segment (first_event R) z node (node_segments R node I ++ segments d))
starts-read s (reads.Around tag) node d I h n e z = λ end q. let m : event.Start tag ≡ event.End end = q in cc
starts-read s reads.Inside node d I h n e z = absurd (let q : zero ≡ suc n = e in cc)
starts-read s (reads.Alone ev) node d I h n e z = absurd (let q : zero ≡ suc n = e in cc)
starts-read s (reads.First ev) node d I h n e z = absurd (let q : zero ≡ suc n = e in cc)
starts-read s reads.Silent node d I h n e z = h n e

starts-otherwise : (d : BlockDocument) (n : ℕ) → starts_before d ≡ suc n → BeginsOtherwise (segments d)
starts-otherwise document.Nil n e = absurd (let q : zero ≡ suc n = e in cc)
starts-otherwise (document.Node node inside after) n e =
    starts-read (starts_of node.kind (begins_title inside)) (read_as node.kind) node after (inside_of node.kind inside (segments inside)) (starts-otherwise after) n e (starts_before after)

-- ## The node in the focus

-- a node that is not a definition, and is not read as only the events inside it
read-otherwise : (kind : BlockKind) → is_definition kind ≡ false → (reads.Inside ≡ read_as kind → ⊥) → (z : ℕ) (node : BlockNode) (I A : List Segment) → ((n : ℕ) → z ≡ suc n → BeginsOtherwise A) → BeginsOtherwise (read_with (read_as kind) z node I A)
read-otherwise (LinkDefinition reference) d i z node I A h = absurd (true≢false d)
read-otherwise TightParagraph d i z node I A h = absurd (i refl)
read-otherwise (TaskMarker is_checked) d i z node I A h = first-otherwise z node.start node.end is_checked A h
read-otherwise _ d i z node I A h = λ end e. let q = e in cc

within-definition : (tight : Bool) (kind : BlockKind) → is_definition (kind_within tight kind) ≡ is_definition kind
within-definition true Paragraph = refl
within-definition false Paragraph = refl
within-definition tight _ = refl

-- the item is not read as only the events inside it
abbrev pub NotInside : Walk → Item → Type 0
NotInside walk item = (z : Zip Item) (above : List Outer) (node : BlockNode) → StandsBelow walk z above → Drawn walk.text.now (texts_of walk) item node → reads.Inside ≡ read_as (kind_within (tight_below above) node.kind) → ⊥

pub before-otherwise : (walk : Walk) (item : Item) (ix : TreeIndex) (t : Tree Item) → IsFocusAt walk ix → IsItem walk.tree ix item → walk.stage ≡ stage.Before → NotInside walk item → NoEndIsNext walk
before-otherwise walk item ix t at is before other left r m =
    let f = at-focus walk item ix t at is before r.z r.here r.above r.stands in
    let kind = kind_within (tight_below r.above) f.node.kind in
    let after = settled (tight_below r.above) f.after in
    no-end _
    (otherwise-append _ (left_above r.above)
    (read-otherwise kind (within-definition (tight_below r.above) f.node.kind ∙ not-definition walk.text.now (texts_of walk) item f.node f.drawn) (other r.z r.above f.node r.stands.below f.drawn) (element_at walk item ix t at is before r.above f.after) (as_kind kind f.node)
    (inside_at walk item ix t at is before r.above f.node f.inside) (segments after) (starts-otherwise after)))
    (subst MayBeginWithEnd (before-node walk item ix t at is before left r f) m)

-- an item that owns a text is an event, or an element
owns-kind : (text : List ℕ) (texts : List CowStr) (start end : ℕ) (tight : Bool) (b : ItemBody) (kind : BlockKind) → kind_over text texts start end (shape b) ≡ Some kind → OwnsText b → reads.Inside ≡ read_as (kind_within tight kind) → ⊥
owns-kind text texts start end tight (body.SynthesizeText x) kind e o i =
    let k = (spelt-kind document.OwnedText (text_at texts x.0) kind e).1 in
    let q : reads.Inside ≡ reads.Alone _ = i ∙ ap (λ b. read_as (kind_within tight b)) (sym k) in cc
owns-kind text texts start end tight (body.SynthesizeChar x) kind e o i =
    let q : Some (document.OwnedText (encode_utf8 x)) ≡ Some kind = e in
    let k : document.OwnedText (encode_utf8 x) ≡ kind = cc in
    let q : reads.Inside ≡ reads.Alone _ = i ∙ ap (λ b. read_as (kind_within tight b)) (sym k) in cc
owns-kind text texts start end tight (body.AttributedHeading level x) kind e o i =
    let k = (spelt-kind (λ words. document.Heading (level_number level) (attributes_of words)) (text_at texts x.0) kind e).1 in
    let q : reads.Inside ≡ reads.Around _ = i ∙ ap (λ b. read_as (kind_within tight b)) (sym k) in cc
owns-kind text texts start end tight (body.FencedCodeBlock x) kind e o i =
    let k = (spelt-kind document.FencedCode (text_at texts x.0) kind e).1 in
    let q : reads.Inside ≡ reads.Around _ = i ∙ ap (λ b. read_as (kind_within tight b)) (sym k) in cc
owns-kind text texts start end tight (body.Table x) kind e o i =
    let k = (spelt-kind (λ row. document.Table (columns_of (delimiter_row row))) (text_at texts x.0) kind e).1 in
    let q : reads.Inside ≡ reads.Around _ = i ∙ ap (λ b. read_as (kind_within tight b)) (sym k) in cc
owns-kind text texts start end tight (body.FootnoteDefinition x) kind e o i =
    let k = (spelt-kind document.FootnoteDefinition (text_at texts x.0) kind e).1 in
    let q : reads.Inside ≡ reads.Around _ = i ∙ ap (λ b. read_as (kind_within tight b)) (sym k) in cc
owns-kind text texts start end tight _ kind e (inl s) i = true≢false (sym s)
owns-kind text texts start end tight _ kind e (inr t) i = true≢false (sym t)

pub owns-otherwise : (walk : Walk) (item : Item) → OwnsText item.body → NotInside walk item
owns-otherwise walk item o z above node b d =
    owns-kind walk.text.now (texts_of walk) item.start item.end (tight_below above) item.body node.kind (within-kind item.start item.end node (kind_over walk.text.now (texts_of walk) item.start item.end (shape item.body)) d.shown) o

-- an element is not read as only the events inside it
pub around-otherwise : (walk : Walk) (item : Item) (tag : _) → ((z : Zip Item) (above : List Outer) (node : BlockNode) → StandsBelow walk z above → Drawn walk.text.now (texts_of walk) item node → reads.Around tag ≡ read_as (kind_within (tight_below above) node.kind)) → NotInside walk item
around-otherwise walk item tag read z above node b d i = let q : reads.Inside ≡ reads.Around tag = i ∙ sym (read z above node b d) in cc

-- a task marker is the first event of the nodes after it
pub task-otherwise : (walk : Walk) (item : Item) (is_checked : Bool) → task_body item.body ≡ Some is_checked → NotInside walk item
task-otherwise walk item is_checked task z above node b d i =
    let first = task-read (tight_below above) is_checked node.kind (task-drawn walk.text.now (texts_of walk) item node d ∙ task) in
    let q : reads.Inside ≡ reads.First _ = i ∙ sym first in cc

-- ## Inside the node in the focus

title-if : (b : Bool) (n : ℕ) → (if b then 1 else 0) ≡ suc n → b ≡ true
title-if true n e = refl
title-if false n e = absurd (let q : zero ≡ suc n = e in cc)

list-otherwise : (is_checked : Bool) (start end : ℕ) (here : BlockDocument) (above : List Outer) → BeginsWithList here → BeginsOtherwise (left_from (stage.Listed is_checked start end) here above)
list-otherwise is_checked start end document.Nil above l = absurd l
list-otherwise is_checked start end (document.Node node inside after) above l =
    let within = settled (tight_within (tight_below above) node.kind) inside in
    otherwise-append _ (left_above above)
    (first-otherwise (if begins_title within then 1 else 0) start end is_checked _
    (λ n e. otherwise-append _ (segments (settled (tight_below above) after)) (otherwise-append (segments within) (leaving (read_as (kind_within (tight_below above) node.kind)) node) (title-otherwise within (title-if (begins_title within) n e)))))

-- in a definition list, before the task marker of its first title
pub listed-otherwise : (walk : Walk) (is_checked : Bool) (start end : ℕ) → walk.stage ≡ stage.Listed is_checked start end → NoEndIsNext walk
listed-otherwise walk is_checked start end now left r m =
    no-end _ (list-otherwise is_checked start end r.here r.above (subst (λ k. IsStaged k r.here) now r.staged)) (subst MayBeginWithEnd (left-staged walk (stage.Listed is_checked start end) left now r) m)

some-nodes : (walk : Walk) (to : TreeIndex) (forest : Forest (Placed Item)) (nodes : BlockDocument) → Draws walk.text.now (texts_of walk) forest nodes → Some to ≡ focus_of forest → nodes ≡ document.Nil → ⊥
some-nodes walk to Nil nodes d e n = let q : Some to ≡ None = e in cc
some-nodes walk to (Node p f g) document.Nil d e n = d
some-nodes walk to (Node p f g) (document.Node node inside after) d e n = let q : document.Node node inside after ≡ document.Nil = n in cc

some-stretches : (here : BlockDocument) → (content_of here ≡ document.Nil → ⊥) → (leaf_at here).stretches ≡ [] → ⊥
some-stretches document.Nil n e = n refl
some-stretches (document.Node node document.Nil after) n e = n refl
some-stretches (document.Node node (document.Node line content more) after) n e = let q : record { start = line.start; end = line.end } ∷ stretches_of more ≡ [] = e in cc

-- a leaf with a node inside it has a text
pub has-text : (walk : Walk) (item : Item) (ix : TreeIndex) (child : Option TreeIndex) (first : TreeIndex) → IsFocusAt walk ix → IsItem walk.tree ix item → own_text_end item.body ≡ None → IsChild walk ix child → child ≡ Some first → HasText walk
has-text walk item ix child first at is none c e z here above s =
    let l = leads-inside walk ix item child at is none c z here above s in some-stretches here (some-nodes walk first l.forest (content_of here) l.draws (sym e ∙ l.link_is))

-- and so does one with a text of its own
pub has-own-text : (walk : Walk) (item : Item) (ix : TreeIndex) (text_end : ℕ) → IsFocusAt walk ix → IsItem walk.tree ix item → own_text_end item.body ≡ Some text_end → HasText walk
has-own-text walk item ix text_end at is own z here above s =
    let f = focus walk item ix z here above s (at z s.below.holds) is in
    let o = one-inside walk.text.now item.start (own_text_end item.body) text_end (Draws walk.text.now (texts_of walk) f.inner f.inside) f.inside own f.draws_inside in
    some-stretches here (λ nil. let q : document.Node _ document.Nil document.Nil ≡ document.Nil = sym o.is ∙ ap content_of (sym f.here_is) ∙ nil in cc)
