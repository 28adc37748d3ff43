-- The events of a reading are in order in the text, and each element contains the events inside it, except for cuts by the pipe of a
-- wikilink.
use Rattle.std.specs.Prelude.{zero, suc, ◌-◌, get_or}
use Rattle.std.proofs.Common.{◌≡◌, ⊎_elim, inl, inr, ℕ, ◌<◌, ◌≤◌, true≢false, List, [], ◌∷◌, ◌++◌, length, refl, sym, ap, subst, arith, ◌∙◌, append_assoc, append-nil, zero, suc}
use Rattle.std.proofs.lemmas.Bool.{eq-eqb}
use Rattle.cmark_grammar.specs.BlockDocument.{BlockKind, Paragraph, TightParagraph, Heading, ThematicBreak, IndentedCode, FencedCode, HtmlBlock, LinkDefinition, MetadataBlock, BlockQuote, FootnoteDefinition, DefinitionList, DefinitionListTitle, BlockNode, BlockDocument, Nil, Node, Table, TableHead, TableRow, TableCell}
use Rattle.cmark_grammar.specs.BlockReading.{Reads as ReadsAs, Around, Inside, Alone, First, Silent, first_event, read_as, over, starts_before}
use Rattle.cmark_grammar.specs.BracketDecisions.{decide}
use Rattle.cmark_grammar.specs.BracketReading.{Reads}
use Rattle.cmark_grammar.specs.BracketStates.{State, Decision}
use Rattle.cmark_block_model.specs.Balance.{IsSingle}
use Rattle.cmark_grammar.specs.Event.{Start, End, Ranged}
use Rattle.cmark_grammar.specs.InlineReading.{event_of, inline_events}
use Rattle.cmark_grammar.specs.InlineTokens.{token}
use Rattle.cmark_grammar.specs.Items.{Bracket, Token, Ends}
use Rattle.cmark_grammar.specs.LeafReading.{Between, entering, ReadsLeaf}
use Rattle.cmark_grammar.specs.LeafText.{Stretch, InTurn, begin_of, end_of, size_of}
use Rattle.cmark_grammar.specs.Options.{Options}
use Rattle.cmark_grammar.specs.Parts.{Parts, Nil as NoParts, Single as SinglePart, Form, Closing, Opening}
use Rattle.cmark_grammar.specs.Questions.{Exchange, Saying, IsNext}
use Rattle.cmark_block_model.specs.Ranges.{InOrder}
use Rattle.cmark_grammar.specs.Readers.{Reader}
use Rattle.cmark_grammar.specs.Siblings.{Inline, Nil as NoSpans, Single as SingleItem, Around as SpanAround}
use Rattle.cmark_inline_model.specs.SiblingsModel.{spans_in}
use Rattle.cmark_grammar.specs.SpanDocuments.{Segment, Given, Content, stretches_of, leaf_of, inside_of, node_segments, first_of_segments, with_first_segment, segments, ReadsAll, Profile, reader_of, at_start, IsReading}
use Rattle.cmark_grammar.specs.Tag as tags
use Rattle.cmark_grammar.specs.Tag.{Tag}
use Rattle.cmark_grammar.specs.TagEnd as tag_end
use Rattle.cmark_block_model.proofs.BalanceLaws.{IsFit, fit}
use Rattle.cmark_block_model.proofs.RangeLaws.{derived-order}
use Rattle.cmark_inline_model.specs.LeafModel.{HaveLineEnds, AreLeavesOfLines}
use Rattle.cmark_inline_model.specs.ReadingRanges as plain
use Rattle.cmark_inline_model.specs.CutRanges.{IsAfterPipe, IsTask, BeginsWithTask, HasNoTasks, BeginsAt, InPlaceButCut, Nothing, Single, Element}
use Rattle.cmark_inline_model.specs.ReadingRanges.{HasNo, HasNoDisplays, ranged, InPlace, LieWithin}
use Rattle.cmark_inline_model.proofs.DocumentLeaves.{order-up, stretches-turn, begins-start, StartsWith}
use Rattle.cmark_inline_model.proofs.ForwardLaws.{leaf-forward, leaf-ranges}
use Rattle.cmark_inline_model.proofs.LeafLines.{lines-split, derived-lines}
use Rattle.cmark_inline_model.proofs.LeafPlaces.{lower, end-within, leaf-up}
use Rattle.cmark_inline_model.proofs.LeafSteps.{IsAt, place-first}
use Rattle.cmark_inline_model.proofs.PartOrders.{parts-fill, spans-order}
use Rattle.cmark_inline_model.proofs.ReadingBalanced.{item-single, split}
use Rattle.cmark_inline_model.proofs.ReadingLaws.{reading-stands}
use Rattle.cmark_inline_model.proofs.ReadingPlaces.{reading-reaches}
use Rattle.cmark_inline_model.proofs.SiblingsOne.{spans-one}
use Rattle.cmark_inline_model.proofs.SpanRanges.{InlineOrder, inline-wide}
use Rattle.cmark_inline_model.proofs.TokenLaws.{token-ends}
use Rattle.cmark_inline_model.proofs.WikiGaps.{decide-far, reading-gaps}

module _ (options : Options) (text : List ℕ) where
  abbrev pub Places : (from : ℕ) → List Ranged → (to : ℕ) → Type 0
  Places from events to = InPlaceButCut options text from events to

  placed_lower : (less from : ℕ) (events : List Ranged) (to : ℕ) → less ≤ from → Places from events to → Places less events to
  placed_lower less _ _ _ e (Nothing from to h) = Nothing less to (omega arith)
  placed_lower less _ _ _ e (Single from to r after single a b k) = Single less to r after single (omega arith) b k
  placed_lower less _ _ _ e (Element from to tag written start end inside after a w b i k) = Element less to tag written start end inside after (omega arith) w b i k

  placed_both : (from mid : ℕ) (first second : List Ranged) (to : ℕ) → Places from first mid → Places mid second to → Places from (first ++ second) to
  placed_both _ _ _ second to (Nothing from mid h) k = placed_lower from mid second to h k
  placed_both _ _ _ second to (Single from mid r after single a b i) k = Single from to r (after ++ second) single a b (placed_both r.end mid after second to i k)
  placed_both _ _ _ second to (Element from mid tag written start end inside after a w b i j) k =
      subst (λ es. Places from (ranged (Start tag) start end ∷ es) to) (sym (append_assoc inside (ranged (End (tag_end.end_of tag)) start end ∷ after) second))
      (Element from to tag written start end inside (after ++ second) a w b i (placed_both end mid after second to j k))

  inline_placed : (source : List ℕ) (from : ℕ) (spans : Inline) (to : ℕ) → InlineOrder (IsAfterPipe options text) from spans to → Places from (inline_events source spans) to
  inline_placed source from NoSpans to h = Nothing from to h
  inline_placed source from (SingleItem x after) to h =
      Single from to (ranged (event_of source x x.kind) x.start x.end) (inline_events source after) (item-single source x x.kind) h.0 h.1 (inline_placed source x.end after to h.2)
  inline_placed source from (SpanAround tag start end inside after) to h =
      Element from to tag h.0 start end (inline_events source inside) (inline_events source after) h.1 (⊎_elim (λ e. inl e) (λ c. inr (inl c)) h.2) h.3 (inline_placed source h.0 inside end h.4) (inline_placed source end after to h.5)

-- if no token begins, there are no parts
pub no-parts : (token : ℕ → Token) (decide : State → (closer : Bracket) → Decision) (Says : Saying) → ((at : ℕ) → token at ≡ Ends) → (s : State) (parts : Parts) (t : State)
    → Reads token decide Says s parts t → parts ≡ NoParts
no-parts token decide Says ends s NoParts t h = refl
no-parts token decide Says ends s (SinglePart item after) t h = absurd (let e = sym (ends s.at) ∙ h.1 in let d : ⊥ = cc in d)
no-parts token decide Says ends s (Form opener inside closer formed after) t h = absurd (let e = sym (ends s.at) ∙ h.opens in let d : ⊥ = cc in d)
no-parts token decide Says ends s (Closing closer after) t h = absurd (let e = sym (ends s.at) ∙ h.closes in let d : ⊥ = cc in d)
no-parts token decide Says ends s (Opening opener after) t h = absurd (let e = sym (ends s.at) ∙ h.0 in let d : ⊥ = cc in d)

-- spans between the start and the end of some stretches are between the offsets of the stretches
wider : (Pipe : ℕ → Type 0) (from : ℕ) (stretches : List Stretch) (to at : ℕ) (spans : Inline) → InTurn from stretches to → at ≤ end_of stretches → (stretches ≡ [] → spans ≡ NoSpans)
    → InlineOrder Pipe (begin_of stretches) spans at → InlineOrder Pipe from spans to
wider Pipe from [] to at spans turn w none h = subst (λ l. InlineOrder Pipe from l to) (sym (none refl)) turn
wider Pipe from (s ∷ more) to at spans turn w none h =
    let x = turn.0 in
    let e = end-within (s ∷ more) to (lower from 0 (s ∷ more) to (omega arith) turn) in
    inline-wide Pipe from s.start spans at to x (omega arith) h

module _ (options : Options) (text : List ℕ) where
  -- a task marker comes before these events, or first in the element that begins with them
  task_before : (from : ℕ) (m : Ranged) (events : List Ranged) (to : ℕ) → IsSingle m.event → from ≤ m.start → m.start ≤ m.end → Places options text m.end events to → Places options text from (m ∷ events) to
  task_before from m events to single a b k = Single from to m events single a b k

  begins-up : (tag : Tag) (inside : List Ranged) (written start : ℕ) → BeginsAt options text tag inside written start → written ≤ start
  begins-up tag inside written start h = grind arith

  task_inside : (from : ℕ) (m x : Ranged) (rest : List Ranged) (to : ℕ) → IsTask m.event → IsSingle m.event → (tag : Tag) → x.event ≡ Start tag → from ≤ m.start → m.start ≤ m.end → Places options text m.end (x ∷ rest) to → Places options text from (x ∷ (m ∷ rest)) to
  task_inside from m _ _ _ task single t s a b (Single before to x after other c d k) = absurd (subst IsSingle s other)
  task_inside from m _ _ _ task single t s a b (Element before to tag written start end inside after c w d i k) =
      let begun : written ≤ start = begins-up tag inside written start w in
      Element from to tag m.start start end (m ∷ inside) after a (inr (inr (omega arith, inl task))) d
      (Single m.start end m inside single (let z : m.start ≤ m.start = omega arith in z) b (placed_lower options text m.end written inside end c i)) k

  -- or as the first in the title with which it begins
  task_within : (from : ℕ) (m x y : Ranged) (rest : List Ranged) (to : ℕ) → IsTask m.event → IsSingle m.event → (t : Tag) → x.event ≡ Start t → y.event ≡ Start tags.DefinitionListTitle → from ≤ m.start → m.start ≤ m.end
      → (es : List Ranged) → es ≡ y ∷ rest → Places options text m.end (x ∷ es) to → Places options text from (x ∷ (y ∷ (m ∷ rest))) to
  task_within from m _ y rest _ task single t s ty a b _ e (Single before to x after other c d k) = absurd (subst IsSingle s other)
  task_within from m _ y rest _ task single t s ty a b _ e (Element before to tag written start end inside after c w d i k) = go inside w i e
    where
      go : (inside : List Ranged) → BeginsAt options text tag inside written start → Places options text written inside end → (inside ++ (ranged (End (tag_end.end_of tag)) start end ∷ after)) ≡ y ∷ rest
          → Places options text from (ranged (Start tag) start end ∷ (y ∷ (m ∷ rest))) to
      go [] w i e = absurd (let q : ranged (End (tag_end.end_of tag)) start end ≡ y = cc in let z : End (tag_end.end_of tag) ≡ Start tags.DefinitionListTitle = ap (λ r. r.event) q ∙ ty in cc)
      go (z ∷ inside) w i e =
          let same : z ≡ y = cc in
          let others : inside ++ (ranged (End (tag_end.end_of tag)) start end ∷ after) ≡ rest = cc in
          let begun : written ≤ start = begins-up tag (z ∷ inside) written start w in
          let tz : z.event ≡ Start tags.DefinitionListTitle = ap (λ r. r.event) same ∙ ty in
          let first : Places options text m.start (z ∷ (m ∷ inside)) end = task_inside m.start m z inside end task single tags.DefinitionListTitle tz (omega arith) b (placed_lower options text m.end written (z ∷ inside) end c i) in
          subst (λ l. Places options text from (ranged (Start tag) start end ∷ l) to) (ap (λ r. r ∷ (m ∷ (inside ++ (ranged (End (tag_end.end_of tag)) start end ∷ after)))) same ∙ ap (λ l. y ∷ (m ∷ l)) others)
          (Element from to tag m.start start end (z ∷ (m ∷ inside)) after a (inr (inr (omega arith, inr (tz, inl task)))) d first k)

module _ (reader : Reader) (Says : Saying) where
  abbrev Stand : (from : ℕ) → List Ranged → (to : ℕ) → Type 0
  Stand from events to = Places reader.options reader.source from events to

  leaf_placed : (kind : BlockKind) (content : BlockDocument) (from to : ℕ) → InOrder from content to → to ≤ length reader.source → HaveLineEnds reader.source (stretches_of content) → (before after : Between) (events : List Ranged)
      → ReadsLeaf reader Says (leaf_of kind content) before events after → Stand from events to
  leaf_placed kind content from to o bound lines before after events h =
      let leaf = leaf_of kind content in
      let start = entering leaf before in
      let turn : InTurn from leaf.stretches to = stretches-turn from from content to to (omega arith) (omega arith) o in
      let zero_turn = lower from 0 leaf.stretches to (omega arith) turn in
      let stands = reading-stands (token reader leaf) (decide reader leaf) Says (end_of leaf.stretches) (leaf-ranges reader leaf to zero_turn) start h.parts h.last start.at (omega arith)
      (leaf-up leaf.stretches to zero_turn) h.reads.reads in
      let reached = reading-reaches reader leaf to zero_turn bound lines Says start h.parts h.last (begin-place leaf.stretches lines zero_turn) h.reads.reads in
      let gaps =
      reading-gaps (token reader leaf) (decide reader leaf) Says (end_of leaf.stretches) (leaf-forward reader leaf to zero_turn) (leaf-ranges reader leaf to zero_turn) (decide-far reader leaf)
      start h.parts h.last h.reads.reads in
      let order = spans-order reader leaf to zero_turn bound lines start.at h.parts h.last.at stands.0 (parts-fill reader leaf to zero_turn Says start h.parts h.last h.reads.reads) reached.items reached.pipes gaps in
      let e : events ≡ inline_events reader.source (spans_in reader.options h.parts) = h.events_are ∙ ap (inline_events reader.source) (spans-one reader.options h.parts h.spans h.are) in
      subst (λ es. Stand from es to) (sym e)
      (inline_placed reader.options reader.source reader.source from (spans_in reader.options h.parts) to (wider (IsAfterPipe reader.options reader.source) from leaf.stretches to h.last.at (spans_in reader.options h.parts) turn stands.1 empty order))
    where
      -- a leaf begins with a byte of its own, or ends at once
      begin-place : (st : List Stretch) (ended : HaveLineEnds reader.source st) (turn : InTurn 0 st to) → (left : ℕ) × IsAt reader.source st to turn bound ended left (begin_of st)
      begin-place [] ended turn = (0, (omega arith, refl))
      begin-place (s ∷ more) ended turn = (size_of (s ∷ more), (omega arith, sym (place-first reader.source s more ended)))

      empty : stretches_of content ≡ [] → spans_in reader.options h.parts ≡ NoSpans
      empty e =
          let leaf = leaf_of kind content in
          let turn : InTurn 0 leaf.stretches to = lower from 0 leaf.stretches to (omega arith) (stretches-turn from from content to to (omega arith) (omega arith) o) in
          let last : end_of leaf.stretches ≡ 0 = ap end_of e in
          ap (spans_in reader.options)
          (no-parts (token reader leaf) (decide reader leaf) Says (λ at. token-ends reader leaf to turn at (omega arith)) (entering leaf before) h.parts h.last h.reads.reads)

  abbrev Placed : (from to : ℕ) → List Segment → Type 0
  Placed from to others = to ≤ length reader.source → AreLeavesOfLines reader.source others → (before after : Between) (events : List Ranged) → ReadsAll reader Says others before events after → Stand from events to

  content_placed : (kind : BlockKind) (content : BlockDocument) (from to : ℕ) → InOrder from content to → Placed from to (Content (leaf_of kind content) ∷ [])
  content_placed kind content from to o bound lines before after events h =
      subst (λ es. Stand from es to) (sym (h.5 ∙ ap (λ l. h.0 ++ l) h.4.0 ∙ append-nil h.0)) (leaf_placed kind content from to o bound lines.0 before h.2 h.0 h.3)

  inside_placed : (kind : BlockKind) (content : BlockDocument) (from to : ℕ) → InOrder from content to → Placed from to (segments content) → Placed from to (inside_of kind content (segments content))
  inside_placed Paragraph content from to o k = content_placed Paragraph content from to o
  inside_placed TightParagraph content from to o k = content_placed TightParagraph content from to o
  inside_placed (Heading level attributes) content from to o k = content_placed (Heading level attributes) content from to o
  inside_placed ThematicBreak content from to o k = k
  inside_placed IndentedCode content from to o k = k
  inside_placed (FencedCode info) content from to o k = k
  inside_placed HtmlBlock content from to o k = k
  inside_placed (MetadataBlock kind) content from to o k = k
  inside_placed (Table alignments) content from to o k = k
  inside_placed TableHead content from to o k = k
  inside_placed TableRow content from to o k = k
  inside_placed TableCell content from to o k = content_placed TableCell content from to o
  inside_placed (LinkDefinition reference) content from to o k = k
  inside_placed (BlockQuote alert) content from to o k = k
  inside_placed (FootnoteDefinition label) content from to o k = k
  inside_placed (DefinitionList tight) content from to o k = k
  inside_placed DefinitionListTitle content from to o k = content_placed DefinitionListTitle content from to o
  inside_placed _ content from to o k = k

  node_placed : (reads : ReadsAs) (node : BlockNode) (inside : List Segment) (from : ℕ) → IsFit reads → from ≤ node.start → node.start ≤ node.end → Placed node.start node.end inside
      → Placed from node.end (node_segments reads node inside)
  node_placed (Around tag) node inside from fits a b k = λ bound lines before after events h.
      let last : Ranged = over node (End (tag_end.end_of tag)) in
      let s = split reader Says inside (Given last ∷ []) before h.0 after h.1 in
      let rest : s.second ≡ last ∷ [] = s.reads_second.2 ∙ ap (λ l. last ∷ l) s.reads_second.1.0 in
      subst (λ es. Stand from es node.end) (sym (h.2 ∙ ap (λ l. over node (Start tag) ∷ l) (s.joined ∙ ap (λ l. s.first ++ l) rest)))
      (Element from node.end tag node.start node.start node.end s.first [] a (inl refl) b (k bound (lines-split reader.source inside (Given last ∷ []) lines).0 before s.between s.first s.reads_first) (Nothing node.end node.end (omega arith)))
  node_placed Inside node inside from fits a b k = λ bound lines before after events h. placed_lower reader.options reader.source from node.start events node.end a (k bound lines before after events h)
  node_placed (Alone event) node inside from fits a b k = λ bound lines before after events h.
      subst (λ es. Stand from es node.end) (sym (h.2 ∙ ap (λ l. over node event ∷ l) h.1.0)) (Single from node.end (over node event) [] fits a b (Nothing node.end node.end (omega arith)))
  node_placed _ node inside from fits a b k = λ bound lines before after events h. subst (λ es. Stand from es node.end) (sym h.0) (Nothing from node.end (omega arith))

  -- a task marker and the events after it
  first_placed : (m : Ranged) (document : BlockDocument) (from to : ℕ) → IsTask m.event → IsSingle m.event → from ≤ m.start → m.start ≤ m.end → Placed m.end to (segments document) → Placed from to (first_of_segments (starts_before document) (Given m) (segments document))
  first_placed m document from to task single a b k = go (starts_before document) (begins-start document)
    where
      before_all : Placed from to (Given m ∷ segments document)
      before_all bound lines before after events h = subst (λ es. Stand from es to) (sym h.2) (task_before reader.options reader.source from m h.0 to single a b (k bound lines before after h.0 h.1))

      second : (x : Ranged) (others : List Segment) (tag : Tag) → x.event ≡ Start tag → Placed m.end to (Given x ∷ others) → Placed from to (Given x ∷ (Given m ∷ others))
      second x others tag e l bound lines before after events h =
          subst (λ es. Stand from es to) (sym (h.2 ∙ ap (λ l. x ∷ l) h.1.2))
          (task_inside reader.options reader.source from m x h.1.0 to task single tag e a b (l bound lines before after (x ∷ h.1.0) (h.1.0, h.1.1, refl)))

      third : (x y : Ranged) (others : List Segment) (t : Tag) → x.event ≡ Start t → y.event ≡ Start tags.DefinitionListTitle → Placed m.end to (Given x ∷ (Given y ∷ others)) → Placed from to (Given x ∷ (Given y ∷ (Given m ∷ others)))
      third x y others t e ty l bound lines before after events h =
          subst (λ es. Stand from es to) (sym (h.2 ∙ ap (λ l. x ∷ l) (h.1.2 ∙ ap (λ l. y ∷ l) h.1.1.2)))
          (task_within reader.options reader.source from m x y h.1.1.0 to task single t e ty a b (y ∷ h.1.1.0) refl (l bound lines before after (x ∷ (y ∷ h.1.1.0)) (y ∷ h.1.1.0, (h.1.1.0, h.1.1.1, refl), refl)))

      go : (n : ℕ) → StartsWith n (segments document) → Placed from to (first_of_segments n (Given m) (segments document))
      go zero b = before_all
      go (suc zero) b = subst (λ l. Placed from to (first_of_segments 1 (Given m) l)) (sym b.2) (second b.0 b.1 b.3 b.4 (subst (λ l. Placed m.end to l) b.2 k))
      go (suc (suc zero)) b = subst (λ l. Placed from to (first_of_segments 2 (Given m) l)) (sym b.3) (third b.0 b.1 b.2 b.4 b.5 b.6 (subst (λ l. Placed m.end to l) b.3 k))
      go (suc (suc (suc n))) b = absurd b

  -- a node and the later ones
  both_placed : (first second : List Segment) (from mid to : ℕ) → mid ≤ to → Placed from mid first → Placed mid to second → Placed from to (first ++ second)
  both_placed first second from mid to on k l = λ bound lines before last events h.
      let cut = lines-split reader.source first second lines in
      let s = split reader Says first second before events last h in
      subst (λ es. Stand from es to) (sym s.joined)
      (placed_both reader.options reader.source from mid s.first s.second to (k (omega arith) cut.0 before s.between s.first s.reads_first) (l bound cut.1 s.between last s.second s.reads_second))

  abbrev IsTaskFirst : ReadsAs → Type 0
  IsTaskFirst (First event) = IsTask event
  IsTaskFirst _ = Unit {0}

  task_first : (kind : BlockKind) → IsTaskFirst (read_as kind)
  task_first kind = grind arith

  with_placed : (reads : ReadsAs) (node : BlockNode) (from to : ℕ) → IsFit reads → IsTaskFirst reads → from ≤ node.start → node.start ≤ node.end → node.end ≤ to → (inside : List Segment) (following : BlockDocument)
      → Placed from node.end (node_segments reads node inside) → Placed node.end to (segments following) → Placed from to (with_first_segment (first_event reads) (starts_before following) node (node_segments reads node inside ++ segments following))
  with_placed (Around tag) node from to fits first a b on inside following k l = both_placed (node_segments (Around tag) node inside) (segments following) from node.end to on k l
  with_placed Inside node from to fits first a b on inside following k l = both_placed inside (segments following) from node.end to on k l
  with_placed (Alone event) node from to fits first a b on inside following k l = both_placed (Given (over node event) ∷ []) (segments following) from node.end to on k l
  with_placed (First event) node from to fits first a b on inside following k l = first_placed (over node event) following from to first fits a b l
  with_placed Silent node from to fits first a b on inside following k l = both_placed [] (segments following) from node.end to on k l

  document_placed : (document : BlockDocument) (from to : ℕ) → InOrder from document to → Placed from to (segments document)
  document_placed Nil from to o = λ bound lines before after events h. subst (λ es. Stand from es to) (sym h.0) (Nothing from to o)
  document_placed (Node node inside after) from to o =
      with_placed (read_as node.kind) node from to (fit node.kind) (task_first node.kind) o.0 (order-up node.start inside node.end o.1) (order-up node.end after to o.2)
      (inside_of node.kind inside (segments inside)) after
      (node_placed (read_as node.kind) node (inside_of node.kind inside (segments inside)) from (fit node.kind) o.0 (order-up node.start inside node.end o.1)
      (inside_placed node.kind inside node.start node.end o.1 (document_placed inside node.start node.end o.1)))
      (document_placed after node.end to o.2)

pub reading-placed : (text : List ℕ) (profile : Profile) (exchanges : List Exchange) (events : List Ranged) → IsReading text profile exchanges events
    → InPlaceButCut profile.options text 0 events (length text)
reading-placed text profile exchanges events h =
    document_placed (reader_of text profile h.document) (IsNext exchanges) h.document 0 (length text) (derived-order text profile.options profile.lookup h.document h.derives) (omega arith)
    (derived-lines text profile.options profile.lookup h.document h.derives) (at_start profile) h.after events h.reads

-- ## Where nothing is cut

no_byte : (byte : ℕ) (bs : List ℕ) (n : ℕ) → HasNo byte bs → 0 < byte → get_or bs n 0 ≡ byte → ⊥
no_byte byte [] n h some e = omega arith
no_byte byte (b ∷ bs) zero h some e = true≢false (sym (eq-eqb b byte e) ∙ h.0)
no_byte byte (b ∷ bs) (suc n) h some e = no_byte byte bs n h.1 some e

module _ (options : Options) (text : List ℕ) (none : HasNoDisplays options text) where
  no_pipe : (at : ℕ) → IsAfterPipe options text at → ⊥
  no_pipe at h = grind (arith, no_byte)

  no_task : (inside : List Ranged) → HasNoTasks inside → BeginsWithTask inside → ⊥
  no_task [] n h = h
  no_task (r ∷ others) n (inl h) = n.0 h
  no_task (r ∷ others) n (inr h) = no_task others n.1 h.1

  uncut_begin : (tag : Tag) (inside : List Ranged) (written start : ℕ) → HasNoTasks inside → BeginsAt options text tag inside written start → start ≡ written
  uncut_begin tag inside written start n h = grind (arith, no_pipe, no_task)

  tasks_split : (first second : List Ranged) → HasNoTasks (first ++ second) → HasNoTasks first × HasNoTasks second
  tasks_split [] second n = (tt, n)
  tasks_split (r ∷ first) second n = let k = tasks_split first second n.1 in ((n.0, k.0), k.1)

  pub uncut : (from : ℕ) (events : List Ranged) (to : ℕ) → HasNoTasks events → InPlaceButCut options text from events to → InPlace from events to
  uncut _ _ _ n (Nothing from to h) = plain.Nothing from to h
  uncut _ _ _ n (Single from to r after single a b k) = plain.Single from to r after single a b (uncut r.end after to n.1 k)
  uncut _ _ _ n (Element from to tag written start end inside after a w b i k) =
      let s = tasks_split inside (ranged (End (tag_end.end_of tag)) start end ∷ after) n.1 in
      let e = uncut_begin tag inside written start s.0 w in
      plain.Element from to tag start end inside after (omega arith) (subst (λ n. InPlace n inside end) (sym e) (uncut written inside end s.0 i)) (uncut end after to s.1.1 k)

-- ## Within the text

within_both : (size : ℕ) (first second : List Ranged) → LieWithin size first → LieWithin size second → LieWithin size (first ++ second)
within_both size [] second h k = k
within_both size (r ∷ first) second h k = (h.0, h.1, within_both size first second h.2 k)

placed_up : (options : Options) (text : List ℕ) (from : ℕ) (events : List Ranged) (to : ℕ) → InPlaceButCut options text from events to → from ≤ to
placed_up options text _ _ _ (Nothing from to h) = h
placed_up options text _ _ _ (Single from to r after single a b k) = let i = placed_up options text r.end after to k in omega arith
placed_up options text _ _ _ (Element from to tag written start end inside after a w b i k) =
    let x = placed_up options text written inside end i in let y = placed_up options text end after to k in omega arith

within_place : (options : Options) (text : List ℕ) (size from : ℕ) (events : List Ranged) (to : ℕ) → to ≤ size → InPlaceButCut options text from events to → LieWithin size events
within_place options text size _ _ _ w (Nothing from to h) = tt
within_place options text size _ _ _ w (Single from to r after single a b k) =
    let u = placed_up options text r.end after to k in (b, omega arith, within_place options text size r.end after to w k)
within_place options text size _ _ _ w (Element from to tag written start end inside after a begins b i k) =
    let u = placed_up options text end after to k in (
      b,
      omega arith,
      within_both size inside (ranged (End (tag_end.end_of tag)) start end ∷ after) (within_place options text size written inside end (omega arith) i)
          (b, omega arith, within_place options text size end after to w k),
    )

pub reading-within-text : (text : List ℕ) (profile : Profile) (exchanges : List Exchange) (events : List Ranged) → IsReading text profile exchanges events → LieWithin (length text) events
reading-within-text text profile exchanges events h = within_place profile.options text (length text) 0 events (length text) (omega arith) (reading-placed text profile exchanges events h)
