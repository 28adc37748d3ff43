-- Steps of a walk of which no event is made.
use Rattle.std.proofs.Common.{◌≡◌, ℕ, List, true, false, ◌∙◌, subst}
use Rattle.cmark_tree.specs.declared.tree.Tree.{Tree}
use Rattle.cmark_tree.specs.declared.tree_index.TreeIndex.{TreeIndex}
use Rattle.cmark_tree.specs.Zip.{Zip, pushed, past, Sibling, HasFocus}
use Rattle.cmark_tree.specs.Tree.{Holds}
use Rattle.cmark_grammar.specs.BlockReading as reads
use Rattle.cmark_grammar.specs.SpanDocuments.{Segment}
use Rattle.cmark_items.specs.declared.item.Item.{Item}
use Rattle.cmark_leaf_text.specs.declared.stretch.LeafLine.{LeafLine}
use Rattle.cmark_text.specs.declared.short.PlainTag.{PlainTag}
use Rattle.cmark_text.specs.declared.short.Short.{Short}
use Rattle.cmark_text.specs.declared.short.Short.TheVariants as short
use Rattle.cmark_text.specs.Short.{IsShortZeroCopy, shown_plain, shown_short}
use Rattle.cmark_block_walk.specs.declared.reading.BlockStep.{BlockStep}
use Rattle.cmark_block_walk.specs.declared.reading.BlockStep.TheVariants as brief
use Rattle.cmark_block_walk.specs.declared.reading.Stage.TheVariants as stage
use Rattle.cmark_block_walk.specs.declared.walk.Walk.{Walk}
use Rattle.cmark_block_walk.specs.Walking.{GivesBrief, GivesShort, Goes, Remains, definitions_of, text_of}
use Rattle.cmark_block_walk.proofs.WalkSteps.{IsFocusAt, IsItem, Lasts, Leaf-at, Reads-at, enters-around-as, enters-leaf-as, moved, passes-alone-as, staged}

module _ (walk : Walk) (item : Item) (ix : TreeIndex) (t : Tree Item) (at : IsFocusAt walk ix) (is : IsItem walk.tree ix item) (before : walk.stage ≡ stage.Before) where
  pub enters-leaf-short : (tag : PlainTag) → Reads-at walk item (reads.Around (shown_plain tag)) → Leaf-at walk item true → GivesShort walk (short.Start tag) item.start item.end (staged walk stage.Lines)
  enters-leaf-short tag read leaf = record { gives = enters-leaf-as walk item ix t at is before (shown_plain tag) read leaf; lent = tt }

  pub enters-around-short : (tag : PlainTag) → Reads-at walk item (reads.Around (shown_plain tag)) → Leaf-at walk item false → ((z : Zip Item) → Holds walk.tree z → HasFocus z → Holds t (pushed z))
      → GivesShort walk (short.Start tag) item.start item.end (moved walk t)
  enters-around-short tag read leaf push = record { gives = enters-around-as walk item ix t at is before (shown_plain tag) read leaf push; lent = tt }

  pub passes-short : (s : Short) → Reads-at walk item (reads.Alone (shown_short s)) → ((z : Zip Item) (s : Sibling z ix.ix) → Holds walk.tree z → Holds t (past z ix.ix s))
      → IsShortZeroCopy (text_of walk) s item.start item.end → GivesShort walk s item.start item.end (moved walk t)
  passes-short s read next lent = record { gives = passes-alone-as walk item ix t at is before (shown_short s) read next; lent = lent }

-- the walk continues
pub goes-short : (old new : Walk) (s : Short) (start end : ℕ) → GivesShort old s start end new → Goes old → Goes new
goes-short old new s start end g goes = let first = g.gives goes.0 goes.1 in (first.0, first.2)

-- the result of a step after steps without an event is the result from before these
pub after-lasting : (old walk new : Walk) (b : BlockStep) (lines : List LeafLine) → Lasts old walk → GivesBrief walk b lines new → GivesBrief old b lines new
after-lasting old walk new (brief.Short s start end) lines l g = record { gives = λ left r. g.gives left (l.remains left r); lent = subst (λ text. IsShortZeroCopy text s start end) l.text g.lent }
after-lasting old walk new brief.Long lines l g = (λ left r. g.0 left (l.remains left r), g.1)
after-lasting old walk new _ lines l g = λ left r. g left (l.remains left r)

pub lasts-on : (old walk new : Walk) → Lasts old walk → ((left : List Segment) → Remains walk left → Remains new left) → Goes new → definitions_of new ≡ definitions_of walk → text_of new ≡ text_of walk → Lasts old new
lasts-on old walk new l step goes definitions text = record { remains = λ left r. step left (l.remains left r); goes = goes; definitions = definitions ∙ l.definitions; text = text ∙ l.text }
