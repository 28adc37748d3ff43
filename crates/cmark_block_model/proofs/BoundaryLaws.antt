-- The ranges of a derived document begin and end at character boundaries.
use Rattle.std.proofs.Common.{◌≡◌, ◌⊎◌, inl, inr, ⊎_elim, ℕ, zero, suc, ◌+◌, ◌-◌, ◌<◌, Bool, true, false, ◌==◌, ◌&&◌, ◌||◌, List, [], ◌∷◌, ◌++◌, length, drop, get_or, refl, sym, ap, ◌∙◌, subst, arith, append_assoc, append-nil, Option, Some, None, true≢false, length-append, get_or-append-add, rules}
use Rattle.std.proofs.lemmas.List.Sums.{take_while-cons}
use Rattle.std.specs.Prelude.{cond, if◌then◌else◌, IsUtf8, IsCharBoundary}
use Rattle.std.proofs.lemmas.Str.{IsCharBoundary-start, IsCharBoundary-before_ascii, IsCharBoundary-after_ascii}
use Rattle.cmark_grammar.specs.Characters.{carriage_return, line_feed, tab}
use Rattle.cmark_grammar.specs.Answers.{Lookup}
use Rattle.cmark_grammar.specs.Options.{Options}
use Rattle.cmark_grammar.specs.Places.{Place, Apart, AfterTitle, over_blank}
use Rattle.cmark_grammar.specs.Lines.{lines, ends_line, onto, content, is_content}
use Rattle.cmark_grammar.specs.Columns.{Column, expand, tab_columns, to_tab_stop}
use Rattle.cmark_grammar.specs.Rows.{Row, rows, rows_from, row_at, begin_of, start_of, last_line_end, without}
use Rattle.cmark_grammar.specs.Containers.{Container, BlockQuote, Item, Footnote, ListDefinition, enter, insides}
use Rattle.cmark_grammar.specs.Openings.{Leaf, ThematicBreak as ThematicBreakLeaf, AtxHeading as AtxHeadingLeaf, IndentedCode as IndentedCodeLeaf, FencedCode as FencedCodeLeaf, HtmlBlock as HtmlBlockLeaf, LinkDefinition as LinkDefinitionLeaf, MetadataBlock as MetadataBlockLeaf, Table as TableLeaf, Nests, opens_at}
use Rattle.cmark_grammar.specs.Blocks.{Blocks, Nil as NoBlocks, BlankLine, Paragraph as ParagraphBlock, SetextHeading, LeafBlock, ContainerBlock, after_leaf, place_in, Body}
use Rattle.cmark_grammar.specs.Lists.{ListBefore, definition_delimiter, is_title, tight_after, title_tight_after, goes_on}
use Rattle.cmark_grammar.specs.Tokens.{paragraph_tokens, fenced_lines, lines_before}
use Rattle.cmark_grammar.specs.BlockDocument.{BlockKind, ListItem, DefinitionList, DefinitionListTitle, DefinitionListDefinition, BlockNode, BlockDocument, Node, node}
use Rattle.cmark_grammar.specs.Derivation.{task_then, leaf_then, list_kind, item_then, paragraph_kind, document_of, Derives}
use Rattle.cmark_block_model.specs.Ranges.{AllAt}
use Rattle.cmark_grammar.specs.Metadata.{ends_metadata}
use Rattle.cmark_grammar.specs.Leaves.{closes_fence}
use Rattle.cmark_block_model.proofs.BlockLaws.{at-nests, at-other, at-takes}
use Rattle.cmark_block_model.proofs.RowPlaces.{Runs, expand-Runs, first_place-Runs}
use Rattle.cmark_block_model.proofs.RowEdges.{marker-good, enter-begin, is-ascii, AreGood, GoodRow, GoodRows, LeafFront, leaf-front, start-E, enter-good, definition-good, strips-good, split-good}
use Rattle.cmark_block_model.proofs.TableRanges.{row_cells-edged, row_tokens-edged}
use Rattle.cmark_block_model.proofs.TokenEdges.{paragraph-edged, heading-edged, code-edged, code_place-edge, before-good, html-edged}
use Rattle.cmark_grammar.specs.TaskItems.{after_box}
use Rattle.cmark_block_model.proofs.SetextLaws.{setext-edged}
use Rattle.cmark_block_model.proofs.TaskLaws.{task-edged}

module _ (E : ℕ → Type 0) where
  line_end-edge : (first : Row) (more : List Row) → GoodRow E first → GoodRows E more → E (last_line_end first more)
  line_end-edge first [] g gs = g.line_end
  line_end-edge first (r ∷ more) g gs = line_end-edge r more gs.0 gs.1

  item-edged : (joins : Bool) (list : BlockKind) (item : BlockNode) (inside after : BlockDocument) → E item.start → E item.end → AllAt E inside → AllAt E after → AllAt E (item_then joins list item inside after)
  item-edged joins list item inside after s e i a = grind arith

  -- a paragraph, as a title or as itself
  title-edged : (is_title : Bool) (list kind other : BlockKind) (start end : ℕ) (inside after following : BlockDocument) → E start → E end → AllAt E inside → AllAt E after → AllAt E following
      → AllAt E (if is_title then item_then true list (node kind start end) inside after else Node (node other start end) inside following)
  title-edged true list kind other start end inside after following s e i a b = item-edged true list (node kind start end) inside after s e i a
  title-edged false list kind other start end inside after following s e i a b = (s, e, i, b)

  leaf-edged : (text : List ℕ) (options : Options) (lookup : Lookup) (leaf : Leaf) (first : Row) (more : List Row) (after : BlockDocument) → GoodRow E first → GoodRows E more → LeafFront E first leaf → AllAt E after → AllAt E (leaf_then text options lookup leaf first more after)
  leaf-edged text options lookup ThematicBreakLeaf first more after g gs f a = (start-E E first g, line_end-edge first more g gs, tt, a)
  leaf-edged text options lookup (AtxHeadingLeaf level) first more after g gs f a = (start-E E first g, line_end-edge first more g gs, heading-edged E text options.heading_attributes level first g f, a)
  leaf-edged text options lookup IndentedCodeLeaf first more after g gs f a = (code_place-edge E 4 first g, line_end-edge first more g gs, code-edged E text 4 (first ∷ more) (g, gs), a)
  leaf-edged text options lookup (FencedCodeLeaf fence) first more after g gs f a = (start-E E first g, line_end-edge first more g gs, code-edged E text fence.indented (fenced_lines fence more) (before-good E (closes_fence fence) more gs), a)
  leaf-edged text options lookup (HtmlBlockLeaf kind) first more after g gs f a = (g.begin, line_end-edge first more g gs, html-edged E text (first ∷ more) (g, gs), a)
  leaf-edged text options lookup (LinkDefinitionLeaf definition) first more after g gs f a = (start-E E first g, line_end-edge first more g gs, tt, a)
  leaf-edged text options lookup (MetadataBlockLeaf kind) first more after g gs f a = (start-E E first g, line_end-edge first more g gs, code-edged E text 0 (lines_before (ends_metadata kind) more) (before-good E (ends_metadata kind) more gs), a)
  leaf-edged text options lookup (TableLeaf alignments) first more after g gs f a = (
    start-E E first g,
    line_end-edge first more g gs,
    (start-E E first g, g.line_end, row_cells-edged E text (length alignments) first g, row_tokens-edged E text (length alignments) (drop 1 more) (rows more gs)),
    a,
  )
    where
      rows : (rs : List Row) → GoodRows E rs → GoodRows E (drop 1 rs)
      rows [] b = tt
      rows (r ∷ rs) b = b.1

  insides-good : (k : Container) (first : Row) (more : List Row) → GoodRow E (enter k first) → GoodRows E more → GoodRows E (insides k first more)
  insides-good k first more g gs = grind (arith, strips-good)

  begun-good : (options : Options) (following : Place) (width : ℕ) (r : Row) (ahead : List Row) → opens_at options following r ahead ≡ Nests (ListDefinition width) → GoodRow E r → GoodRow E (enter (ListDefinition width) r)
  begun-good options following width r ahead e g =
      ⊎_elim (λ d. let same : width ≡ d.0 = let p : ListDefinition width ≡ ListDefinition d.0 = d.1 in cc in definition-good E width r d.2.colon (same ∙ d.2.wide) g)
      (λ q. enter-good E options (ListDefinition width) r ahead q g) (at-nests options following r ahead (ListDefinition width) e)

  pub document-edged : (text : List ℕ) (options : Options) (lookup : Lookup) (direct : Bool) (before : Option ListBefore) (following : Place) (all : List Row) (b : Blocks) → Body options following all b → GoodRows E all → AllAt E (document_of text options lookup direct before b)
  document-edged text options lookup direct before following all NoBlocks body g = tt
  document-edged text options lookup direct before following all (BlankLine line after) body g =
      let c : GoodRows E (line ∷ body.rest) = subst (GoodRows E) body.cut g in
      document-edged text options lookup direct before (over_blank following) body.rest after body.after c.1
  document-edged text options lookup direct before following all (ParagraphBlock first more after) body g =
      let c : GoodRows E (first ∷ (more ++ body.rest)) = subst (GoodRows E) body.cut g in
      let s = split-good E more body.rest c.1 in
      let tight = title_tight_after before after in
      title-edged (is_title after) (DefinitionList tight) DefinitionListTitle (paragraph_kind direct) (start_of first) (last_line_end first more) (paragraph_tokens text first more)
      (document_of text options lookup direct (Some (record { delimiter = definition_delimiter; tight = tight })) after) (document_of text options lookup direct None after)
      (start-E E first c.0) (line_end-edge first more c.0 s.0) (paragraph-edged E text first more c.0 s.0)
      (document-edged text options lookup direct (Some (record { delimiter = definition_delimiter; tight = tight })) AfterTitle body.rest after body.after s.1)
      (document-edged text options lookup direct None AfterTitle body.rest after body.after s.1)
  document-edged text options lookup direct before following all (SetextHeading level first more underline after) body g =
      let c : GoodRows E (first ∷ (more ++ (underline ∷ body.rest))) = subst (GoodRows E) body.cut g in
      let s = split-good E more (underline ∷ body.rest) c.1 in
      (start-E E first c.0, s.1.0.line_end, setext-edged E text options.heading_attributes first more c.0 s.0, document-edged text options lookup direct None Apart body.rest after body.after s.1.1)
  document-edged text options lookup direct before following all (LeafBlock leaf first more after) body g =
      let c : GoodRows E (first ∷ (more ++ body.rest)) = subst (GoodRows E) body.cut g in
      let s = split-good E more body.rest c.1 in
      leaf-edged text options lookup leaf first more (document_of text options lookup direct None after) c.0 s.0 (leaf-front E options first _ leaf (length more) (at-takes options following first _ leaf (length more) body.opened) c.0)
      (document-edged text options lookup direct None (after_leaf leaf) body.rest after body.after s.1)
  document-edged text options lookup direct before following all (ContainerBlock (BlockQuote alert) first more inside after) body g =
      let c : GoodRows E (first ∷ (more ++ body.rest)) = subst (GoodRows E) body.cut g in
      let s = split-good E more body.rest c.1 in (
        start-E E first c.0,
        line_end-edge first more c.0 s.0,
        document-edged text options lookup false None (place_in (BlockQuote alert)) (insides (BlockQuote alert) first more) inside body.contents (insides-good (BlockQuote alert) first more (enter-good E options (BlockQuote alert) first _ (at-other options following first _ _ refl body.opened) c.0) s.0),
        document-edged text options lookup direct None Apart body.rest after body.after s.1,
      )
  document-edged text options lookup direct before following all (ContainerBlock (Footnote label old size) first more inside after) body g =
      let c : GoodRows E (first ∷ (more ++ body.rest)) = subst (GoodRows E) body.cut g in
      let s = split-good E more body.rest c.1 in (
        start-E E first c.0,
        line_end-edge first more c.0 s.0,
        document-edged text options lookup false None (place_in (Footnote label old size)) (insides (Footnote label old size) first more) inside body.contents (insides-good (Footnote label old size) first more (enter-good E options (Footnote label old size) first _ (at-other options following first _ _ refl body.opened) c.0) s.0),
        document-edged text options lookup direct None Apart body.rest after body.after s.1,
      )
  document-edged text options lookup direct before following all (ContainerBlock (Item delimiter number width task) first more inside after) body g =
      let c : GoodRows E (first ∷ (more ++ body.rest)) = subst (GoodRows E) body.cut g in
      let s = split-good E more body.rest c.1 in
      let tight = tight_after before delimiter inside after in
      item-edged (goes_on delimiter after) (list_kind delimiter number tight) (node ListItem (begin_of first) (last_line_end first more)) (task_then task (begin_of (without width first)) (begin_of (without (after_box task width) first)) (document_of text options lookup tight None inside)) (document_of text options lookup direct (Some (record { delimiter = delimiter; tight = tight })) after)
      c.0.begin (line_end-edge first more c.0 s.0)
      (task-edged E task (begin_of (without width first)) (begin_of (without (after_box task width) first)) (document_of text options lookup tight None inside)
      (marker-good E options (Item delimiter number width task) first _ (at-other options following first _ _ refl body.opened) c.0).begin (enter-begin E options delimiter number width task first _ (at-other options following first _ _ refl body.opened) c.0)
      (document-edged text options lookup tight None (place_in (Item delimiter number width task)) (insides (Item delimiter number width task) first more) inside body.contents (insides-good (Item delimiter number width task) first more (enter-good E options (Item delimiter number width task) first _ (at-other options following first _ _ refl body.opened) c.0) s.0)))
      (document-edged text options lookup direct (Some (record { delimiter = delimiter; tight = tight })) Apart body.rest after body.after s.1)
  document-edged text options lookup direct before following all (ContainerBlock (ListDefinition width) first more inside after) body g =
      let c : GoodRows E (first ∷ (more ++ body.rest)) = subst (GoodRows E) body.cut g in
      let s = split-good E more body.rest c.1 in
      let tight = tight_after before definition_delimiter inside after in
      item-edged (goes_on definition_delimiter after) (DefinitionList tight) (node DefinitionListDefinition (begin_of first) (last_line_end first more)) (document_of text options lookup tight None inside) (document_of text options lookup direct (Some (record { delimiter = definition_delimiter; tight = tight })) after)
      c.0.begin (line_end-edge first more c.0 s.0)
      (document-edged text options lookup tight None (place_in (ListDefinition width)) (insides (ListDefinition width) first more) inside body.contents (insides-good (ListDefinition width) first more (begun-good options following width first _ body.opened c.0) s.0))
      (document-edged text options lookup direct (Some (record { delimiter = definition_delimiter; tight = tight })) AfterTitle body.rest after body.after s.1)

-- the lines of a text
abbrev pub joined : List (List ℕ) → List ℕ
joined [] = []
joined (l ∷ ls) = l ++ joined ls

abbrev pub LastAscii : List ℕ → Type 0
LastAscii [] = ⊥
LastAscii (b ∷ []) = b < 128
LastAscii (b ∷ (c ∷ bs)) = LastAscii (c ∷ bs)

-- each line but the last ends with an ASCII byte
abbrev pub AreEnded : List (List ℕ) → Type 0
AreEnded [] = Unit {0}
AreEnded (l ∷ ls) = ((ls ≡ []) ⊎ LastAscii l) × AreEnded ls

last-more : (b : ℕ) (l : List ℕ) → LastAscii l → LastAscii (b ∷ l)
last-more b [] a = absurd (let z : ⊥ = a in z)
last-more b (c ∷ l) a = a

onto-ended : (b : ℕ) (ls : List (List ℕ)) → AreEnded ls → AreEnded (onto b ls)
onto-ended b [] e = (inl refl, tt)
onto-ended b (l ∷ ls) e = (⊎_elim inl (λ a. inr (last-more b l a)) e.0, e.1)

onto-joined : (b : ℕ) (ls : List (List ℕ)) → joined (onto b ls) ≡ b ∷ joined ls
onto-joined b [] = refl
onto-joined b (l ∷ ls) = refl

or-cases : (x y : Bool) → (x || y) ≡ true → (x ≡ true) ⊎ (y ≡ true)
or-cases true y e = inl refl
or-cases false y e = inr e

and-left : (x y : Bool) → (x && y) ≡ true → x ≡ true
and-left true y e = refl
and-left false y e = e

end-ascii : (b : ℕ) (bs : List ℕ) → ends_line b bs ≡ true → b < 128
end-ascii b bs e = ⊎_elim (λ x. is-ascii b 10 (omega arith) x) (λ x. is-ascii b 13 (omega arith) (and-left (b == carriage_return) _ x)) (or-cases (b == line_feed) _ e)

pub lines-ended : (bs : List ℕ) → AreEnded (lines bs) × (joined (lines bs) ≡ bs)
lines-ended [] = (tt, refl)
lines-ended (b ∷ bs) = search (rules, end-ascii, onto-ended, onto-joined, lines-ended bs)

-- a byte that ends the content of a line is ASCII
content-stop : (b : ℕ) → is_content b ≡ false → b < 128
content-stop b e = grind (arith, is-ascii)

-- after the content of a line comes an ASCII byte, or nothing
abbrev Stopped : List ℕ → Type 0
Stopped tail = (tail ≡ []) ⊎ ((b : ℕ) × ((bs : List ℕ) × (tail ≡ b ∷ bs) × (b < 128)))

stop-shape : (line : List ℕ) → Stopped (drop (length (content line)) line)
stop-shape [] = inl refl
stop-shape (b ∷ line) = subst (λ c. Stopped (drop (length c) (b ∷ line))) (sym (take_while-cons is_content b line)) (go (is_content b) refl (stop-shape line))
  where
    go : (z : Bool) → is_content b ≡ z → Stopped (drop (length (content line)) line) → Stopped (drop (length (cond z (b ∷ content line) [])) (b ∷ line))
    go true e ih = ih
    go false e ih = inr (b, (line, refl, content-stop b e))

pub content-cut : (line : List ℕ) → content line ++ drop (length (content line)) line ≡ line
content-cut [] = refl
content-cut (b ∷ line) = subst (λ c. c ++ drop (length c) (b ∷ line) ≡ b ∷ line) (sym (take_while-cons is_content b line)) (go (is_content b) (content-cut line))
  where
    go : (z : Bool) → content line ++ drop (length (content line)) line ≡ line → cond z (b ∷ content line) [] ++ drop (length (cond z (b ∷ content line) [])) (b ∷ line) ≡ b ∷ line
    go true ih = ap (λ t. b ∷ t) ih
    go false ih = refl

module _ (text : List ℕ) (utf8 : IsUtf8 text) where
  -- a byte of the text in its place
  byte-at : (before : List ℕ) (b : ℕ) (after : List ℕ) → text ≡ before ++ (b ∷ after) → (get_or text (length before) 0 ≡ b) × (length before < length text)
  byte-at before b after e =
      let z : length before + 0 ≡ length before = omega arith in
      let n : length text ≡ length before + length (b ∷ after) = ap length e ∙ length-append before (b ∷ after) in
      (ap (λ t. get_or t (length before) 0) e ∙ ap (λ i. get_or (before ++ (b ∷ after)) i 0) (sym z) ∙ get_or-append-add before (b ∷ after) 0 0, omega (arith, n))

  -- around an ASCII byte no character is cut
  around : (before : List ℕ) (b : ℕ) (after : List ℕ) → text ≡ before ++ (b ∷ after) → b < 128 → IsCharBoundary text (length before) × IsCharBoundary text (suc (length before))
  around before b after e lt =
      let h = byte-at before b after e in
      let v : get_or text (length before) 0 ≡ b = h.0 in
      let w : get_or text (length before) 0 < 128 = omega (arith, lt, v) in
      (IsCharBoundary-before_ascii text (length before) h.1 w, subst (IsCharBoundary text) (let s : length before + 1 ≡ suc (length before) = omega arith in s) (IsCharBoundary-after_ascii text (length before) utf8 h.1 w))

  snoc : (before : List ℕ) (b : ℕ) (after : List ℕ) → before ++ (b ∷ after) ≡ (before ++ b ∷ []) ++ after
  snoc before b after = sym (append_assoc before (b ∷ []) after)

  snoc-len : (before : List ℕ) (b : ℕ) → length (before ++ b ∷ []) ≡ suc (length before)
  snoc-len before b = length-append before (b ∷ []) ∙ (let s : length before + 1 ≡ suc (length before) = omega arith in s)

  tab-good : (at part n : ℕ) (rest : List Column) → (IsCharBoundary text at × IsCharBoundary text (suc at)) → AreGood (IsCharBoundary text) rest → AreGood (IsCharBoundary text) (tab_columns at part n ++ rest)
  tab-good at part zero rest e g = g
  tab-good at part (suc n) rest e g = (((λ q. omega arith), (λ lt. e)), tab-good at (suc part) n rest e g)

  expand-good : (column at : ℕ) (before bs after : List ℕ) → text ≡ before ++ (bs ++ after) → length before ≡ at → AreGood (IsCharBoundary text) (expand column at bs)
  expand-good column at before [] after e l = tt
  expand-good column at before (b ∷ bs) after e l =
      go (b == tab) refl
      (expand-good (column + to_tab_stop column) (suc at) (before ++ b ∷ []) bs after (e ∙ snoc before b (bs ++ after)) (snoc-len before b ∙ ap suc l))
      (expand-good (suc column) (suc at) (before ++ b ∷ []) bs after (e ∙ snoc before b (bs ++ after)) (snoc-len before b ∙ ap suc l))
    where
      edges : b < 128 → IsCharBoundary text at × IsCharBoundary text (suc at)
      edges lt = subst (λ n. IsCharBoundary text n × IsCharBoundary text (suc n)) l (around before b (bs ++ after) e lt)

      go : (z : Bool) → (b == tab) ≡ z → AreGood (IsCharBoundary text) (expand (column + to_tab_stop column) (suc at) bs) → AreGood (IsCharBoundary text) (expand (suc column) (suc at) bs) → AreGood (IsCharBoundary text) (if z then tab_columns at 0 (to_tab_stop column) ++ expand (column + to_tab_stop column) (suc at) bs else record { byte = b; at = at; part = 0 } ∷ expand (suc column) (suc at) bs)
      go true q p r = tab-good at 0 (to_tab_stop column) (expand (column + to_tab_stop column) (suc at) bs) (edges (is-ascii b 9 (omega arith) q)) p
      go false q p r = (((λ x. absurd (true≢false x)), edges), r)

  -- after a line that an ASCII byte ends
  last-edge : (before line after : List ℕ) → text ≡ before ++ (line ++ after) → LastAscii line → IsCharBoundary text (length before + length line)
  last-edge before [] after e a = absurd (let z : ⊥ = a in z)
  last-edge before (b ∷ []) after e a = subst (IsCharBoundary text) (let s : suc (length before) ≡ length before + 1 = omega arith in s) (around before b after e a).1
  last-edge before (b ∷ (c ∷ line)) after e a = search (rules, snoc-len, snoc, last-edge (before ++ b ∷ []) (c ∷ line) after (e ∙ snoc before b ((c ∷ line) ++ after)) a)

  -- after the end of a line's content comes an ASCII byte, or nothing
  tail-edge : (before tail after : List ℕ) → text ≡ before ++ (tail ++ after) → IsCharBoundary text (length before + length tail) → (tail ≡ []) ⊎ ((b : ℕ) × ((bs : List ℕ) × (tail ≡ b ∷ bs) × (b < 128))) → IsCharBoundary text (length before) × (length tail ≡ 2 → IsCharBoundary text (suc (length before)))
  tail-edge before tail after e past h = grind (arith, around)

  pub rows-good : (before : List ℕ) (ls : List (List ℕ)) (at : ℕ) → text ≡ before ++ joined ls → length before ≡ at → IsCharBoundary text at → AreEnded ls → GoodRows (IsCharBoundary text) (rows_from at ls)
  rows-good before [] at e l edge ended = tt
  rows-good before (line ∷ ls) at e l edge ended = (
    record {
      runs = subst (λ f. Runs f (expand 0 at (content line)) (at + length (content line))) (sym starts) runs;
      good = expand-good 0 at before (content line) (tail ++ joined ls) in-line l;
      begin = subst (IsCharBoundary text) (sym starts) edge;
      content_end = subst (IsCharBoundary text) lead (stopped.0);
      line_end = line_end;
      feed = λ two. subst (IsCharBoundary text) (ap suc lead) (stopped.1 (let t : (at + length line) - (at + length (content line)) ≡ 2 = two in omega (arith, t, parts)));
    },
    rows-good (before ++ line) ls (at + length line) (e ∙ sym (append_assoc before line (joined ls))) (length-append before line ∙ ap (λ n. n + length line) l) line_end ended.1,
  )
    where
      tail : List ℕ
      tail = drop (length (content line)) line

      parts : length line ≡ length (content line) + length (drop (length (content line)) line)
      parts = sym (ap length (content-cut line)) ∙ length-append (content line) (drop (length (content line)) line)

      runs : Runs at (expand 0 at (content line)) (at + length (content line))
      runs = expand-Runs 0 at (content line)

      starts : begin_of (row_at at line) ≡ at
      starts = first_place-Runs at (expand 0 at (content line)) (at + length (content line)) (expand-Runs 0 at (content line))

      in-line : text ≡ before ++ (content line ++ (drop (length (content line)) line ++ joined ls))
      in-line = e ∙ ap (λ t. before ++ (t ++ joined ls)) (sym (content-cut line)) ∙ ap (λ t. before ++ t) (append_assoc (content line) (drop (length (content line)) line) (joined ls))

      lead : length (before ++ content line) ≡ at + length (content line)
      lead = length-append before (content line) ∙ ap (λ n. n + length (content line)) l

      line_end : IsCharBoundary text (at + length line)
      line_end = grind (arith, length-append, append-nil, last-edge)

      stopped : IsCharBoundary text (length (before ++ content line)) × (length (drop (length (content line)) line) ≡ 2 → IsCharBoundary text (suc (length (before ++ content line))))
      stopped =
          tail-edge (before ++ content line) (drop (length (content line)) line) (joined ls) (in-line ∙ sym (append_assoc before (content line) (drop (length (content line)) line ++ joined ls)))
          (subst (IsCharBoundary text) (let s : at + length line ≡ length (before ++ content line) + length (drop (length (content line)) line) = omega (arith, lead, parts) in s) line_end) (stop-shape line)

  pub text-good : GoodRows (IsCharBoundary text) (rows text)
  text-good = let h = lines-ended text in rows-good [] (lines text) 0 (sym h.1) refl (IsCharBoundary-start text utf8) h.0

pub derived-boundaries : (text : List ℕ) (options : Options) (lookup : Lookup) (d : BlockDocument) → IsUtf8 text → Derives text options lookup d → AllAt (IsCharBoundary text) d
derived-boundaries text options lookup d utf8 h =
    subst (AllAt (IsCharBoundary text)) (sym h.2) (document-edged (IsCharBoundary text) text options lookup false None Apart (rows text) h.0 h.1 (text-good text utf8))
