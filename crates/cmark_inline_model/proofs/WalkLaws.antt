-- What a walk gives is balanced, with ranges that cut no character.
use Rattle.cmark_inline_model.proofs.DocumentLeaves.{StartsWith, begins-start}
use Rattle.std.specs.Prelude.{IsUtf8, IsCharBoundary}
use Rattle.std.proofs.Common.{◌≡◌, ℕ, List, [], ◌∷◌, ◌++◌, refl, sym, ap, subst, ◌∙◌, zero, suc, arith}
use Rattle.std.proofs.lemmas.List.{append_assoc}
use Rattle.cmark_grammar.specs.Answers.{Lookup}
use Rattle.cmark_block_model.specs.Balance.{IsSingle}
use Rattle.cmark_grammar.specs.BlockDocument.{BlockKind, Paragraph, TightParagraph, Heading, ThematicBreak, IndentedCode, FencedCode, HtmlBlock, LinkDefinition, MetadataBlock, BlockQuote, FootnoteDefinition, DefinitionList, DefinitionListTitle, BlockNode, BlockDocument, Nil, Node, Table, TableHead, TableRow, TableCell}
use Rattle.cmark_grammar.specs.BlockReading.{Reads, Around, Inside, Alone, First, first_event, read_as, over, starts_before}
use Rattle.cmark_grammar.specs.Derivation.{Derives}
use Rattle.cmark_grammar.specs.Event.{Event, Start, End, Ranged}
use Rattle.cmark_inline_model.specs.LeafSpans.{IsInline, Nested, Nothing, Single, Element, AreGiven}
use Rattle.cmark_grammar.specs.LeafText.{Leaf}
use Rattle.cmark_grammar.specs.Options.{Options}
use Rattle.cmark_block_model.specs.Ranges.{AllAt}
use Rattle.cmark_grammar.specs.SpanDocuments.{Segment, Given, Content, inside_of, node_segments, first_of_segments, with_first_segment, segments}
use Rattle.cmark_grammar.specs.TagEnd.{end_of}
use Rattle.cmark_block_model.proofs.BalanceLaws.{IsFit, fit}
use Rattle.cmark_block_model.proofs.BoundaryLaws.{derived-boundaries}
use Rattle.cmark_inline_model.specs.CharacterRanges.{CutNoCharacter}
use Rattle.cmark_inline_model.specs.ReadingRanges.{ranged, Matched, NoMore, Alone as AloneEvent, Pair}
use Rattle.cmark_inline_model.proofs.ReadingBalanced.{matched-put, matched-append}

inline_single : (e : Event) → IsInline e → IsSingle e
inline_single e h = grind arith

module _ (text : List ℕ) where
  nested_matched : (events : List Ranged) → Nested text events → Matched events
  nested_matched _ Nothing = NoMore
  nested_matched _ (Single r after inline range h) = AloneEvent r after (inline_single r.event inline) (nested_matched after h)
  nested_matched _ (Element tag start end inside after span range h k) = Pair tag start end inside after (nested_matched inside h) (nested_matched after k)

  cut_both : (first second : List Ranged) → CutNoCharacter text first → CutNoCharacter text second → CutNoCharacter text (first ++ second)
  cut_both [] second h k = k
  cut_both (r ∷ first) second h k = (h.0, h.1, cut_both first second h.2 k)

  nested_cut : (events : List Ranged) → Nested text events → CutNoCharacter text events
  nested_cut _ Nothing = tt
  nested_cut _ (Single r after inline range h) = (range.starts, range.ends, nested_cut after h)
  nested_cut _ (Element tag start end inside after span range h k) =
      (range.starts, range.ends, cut_both inside (ranged (End (end_of tag)) start end ∷ after) (nested_cut inside h) (range.starts, range.ends, nested_cut after k))

  -- ## Balance

  abbrev Balances : List Segment → Type 0
  Balances others = (events : List Ranged) → AreGiven text others events → Matched events

  -- segments one after the other give the events of each
  record Splits (a b : List Segment) (events : List Ranged) : Type 0 where
    pub first : List Ranged
    pub second : List Ranged
    pub gives_first : AreGiven text a first
    pub gives_second : AreGiven text b second
    pub joined : events ≡ first ++ second

  split : (a b : List Segment) (events : List Ranged) → AreGiven text (a ++ b) events → Splits a b events
  split [] b events h = record { first = []; second = events; gives_first = refl; gives_second = h; joined = refl }
  split (Given r ∷ a) b events h =
      let k = split a b h.0 h.2 in
      record { first = r ∷ k.first; second = k.second; gives_first = (k.first, refl, k.gives_first); gives_second = k.gives_second; joined = h.1 ∙ ap (λ l. r ∷ l) k.joined }
  split (Content leaf ∷ a) b events h =
      let k = split a b h.1 h.4 in
      record {
        first = h.0 ++ k.first;
        second = k.second;
        gives_first = (h.0, k.first, refl, h.3, k.gives_first);
        gives_second = k.gives_second;
        joined = h.2 ∙ ap (λ l. h.0 ++ l) k.joined ∙ sym (append_assoc h.0 k.first k.second);
      }

  append_matches : (a b : List Segment) → Balances a → Balances b → Balances (a ++ b)
  append_matches a b h k events g = let s = split a b events g in subst Matched (sym s.joined) (matched-append s.first s.second (h s.first s.gives_first) (k s.second s.gives_second))

  leaf_matches : (leaf : Leaf) → Balances (Content leaf ∷ [])
  leaf_matches leaf events h = subst Matched (sym h.2) (matched-append h.0 h.1 (nested_matched h.0 h.3.nested) (subst Matched (sym h.4) NoMore))

  inside_matches : (kind : BlockKind) (content : BlockDocument) (others : List Segment) → Balances others → Balances (inside_of kind content others)
  inside_matches Paragraph content others k = leaf_matches _
  inside_matches TightParagraph content others k = leaf_matches _
  inside_matches (Heading level attributes) content others k = leaf_matches _
  inside_matches ThematicBreak content others k = k
  inside_matches IndentedCode content others k = k
  inside_matches (FencedCode info) content others k = k
  inside_matches HtmlBlock content others k = k
  inside_matches (LinkDefinition reference) content others k = k
  inside_matches (MetadataBlock kind) content others k = k
  inside_matches (Table alignments) content others k = k
  inside_matches TableHead content others k = k
  inside_matches TableRow content others k = k
  inside_matches TableCell content others k = leaf_matches _
  inside_matches (BlockQuote alert) content others k = k
  inside_matches (FootnoteDefinition label) content others k = k
  inside_matches (DefinitionList tight) content others k = k
  inside_matches DefinitionListTitle content others k = leaf_matches _
  inside_matches _ content others k = k

  node_matches : (reads : Reads) (node : BlockNode) (inside : List Segment) → IsFit reads → Balances inside → Balances (node_segments reads node inside)
  node_matches (Around tag) node inside fits k = λ events h.
      let last : Ranged = over node (End (end_of tag)) in
      let s = split inside (Given last ∷ []) h.0 h.2 in
      let rest : s.second ≡ last ∷ [] = s.gives_second.1 ∙ ap (λ l. last ∷ l) s.gives_second.2 in
      subst Matched (sym (h.1 ∙ ap (λ l. over node (Start tag) ∷ l) (s.joined ∙ ap (λ l. s.first ++ l) rest)))
      (Pair tag node.start node.end s.first [] (k s.first s.gives_first) NoMore)
  node_matches Inside node inside fits k = k
  node_matches (Alone event) node inside fits k = λ events h. subst Matched (sym (h.1 ∙ ap (λ l. over node event ∷ l) h.2)) (AloneEvent (over node event) [] fits NoMore)
  node_matches _ node inside fits k = λ events h. subst Matched (sym h) NoMore

  first_matches : (element : ℕ) (r : Ranged) (others : List Segment) → IsSingle r.event → StartsWith element others → Balances others → Balances (first_of_segments element (Given r) others)
  first_matches zero r others fits begins k = λ events h. subst Matched (sym h.1) (AloneEvent r h.0 fits (k h.0 h.2))
  first_matches (suc zero) r [] fits begins k = λ events h. subst Matched (sym h.1) (AloneEvent r h.0 fits (k h.0 h.2))
  first_matches (suc zero) r (Given x ∷ others) fits begins k = λ events h. subst Matched (sym (h.1 ∙ ap (λ l. x ∷ l) h.2.1)) (matched-put 1 r (x ∷ h.2.0) fits (k (x ∷ h.2.0) (h.2.0, refl, h.2.2)))
  first_matches (suc zero) r (Content leaf ∷ others) fits begins k = absurd (let q : Content leaf ∷ others ≡ Given begins.0 ∷ begins.1 = begins.2 in cc)
  first_matches (suc (suc zero)) r [] fits begins k = absurd (let q : [] ≡ Given begins.0 ∷ (Given begins.1 ∷ begins.2) = begins.3 in cc)
  first_matches (suc (suc zero)) r (Content leaf ∷ others) fits begins k = absurd (let q : Content leaf ∷ others ≡ Given begins.0 ∷ (Given begins.1 ∷ begins.2) = begins.3 in cc)
  first_matches (suc (suc zero)) r (Given x ∷ []) fits begins k = absurd (let q : Given x ∷ [] ≡ Given begins.0 ∷ (Given begins.1 ∷ begins.2) = begins.3 in cc)
  first_matches (suc (suc zero)) r (Given x ∷ (Content leaf ∷ others)) fits begins k = absurd (let q : Given x ∷ (Content leaf ∷ others) ≡ Given begins.0 ∷ (Given begins.1 ∷ begins.2) = begins.3 in cc)
  first_matches (suc (suc zero)) r (Given x ∷ (Given y ∷ others)) fits begins k = λ events h.
      subst Matched (sym (h.1 ∙ ap (λ l. x ∷ l) (h.2.1 ∙ ap (λ l. y ∷ l) h.2.2.1))) (matched-put 2 r (x ∷ (y ∷ h.2.2.0)) fits (k (x ∷ (y ∷ h.2.2.0)) (y ∷ h.2.2.0, refl, (h.2.2.0, refl, h.2.2.2))))
  first_matches (suc (suc (suc n))) r others fits begins k = absurd begins

  with_matches : (reads : Reads) (node : BlockNode) (inside : List Segment) (after : BlockDocument) → IsFit reads → Balances (node_segments reads node inside ++ segments after)
      → Balances (with_first_segment (first_event reads) (starts_before after) node (node_segments reads node inside ++ segments after))
  with_matches (First event) node inside after fits k = first_matches (starts_before after) (over node event) (segments after) fits (begins-start after) k
  with_matches _ node inside after fits k = k

  pub walk-matched : (document : BlockDocument) (events : List Ranged) → AreGiven text (segments document) events → Matched events
  walk-matched Nil = λ events h. subst Matched (sym h) NoMore
  walk-matched (Node node inside after) =
      let own = inside_of node.kind inside (segments inside) in
      with_matches (read_as node.kind) node own after (fit node.kind)
      (append_matches (node_segments (read_as node.kind) node own) (segments after)
      (node_matches (read_as node.kind) node own (fit node.kind) (inside_matches node.kind inside (segments inside) (walk-matched inside))) (walk-matched after))

  -- ## Characters

  abbrev Edge : ℕ → Type 0
  Edge at = IsCharBoundary text at

  -- the ranges of the document's own events
  abbrev EdgesGiven : List Segment → Type 0
  EdgesGiven [] = Unit {0}
  EdgesGiven (Given r ∷ others) = Edge r.start × Edge r.end × EdgesGiven others
  EdgesGiven (Content leaf ∷ others) = EdgesGiven others

  edges_append : (a b : List Segment) → EdgesGiven a → EdgesGiven b → EdgesGiven (a ++ b)
  edges_append [] b h k = k
  edges_append (Given r ∷ a) b h k = (h.0, h.1, edges_append a b h.2 k)
  edges_append (Content leaf ∷ a) b h k = edges_append a b h k

  inside_edges : (kind : BlockKind) (content : BlockDocument) (others : List Segment) → EdgesGiven others → EdgesGiven (inside_of kind content others)
  inside_edges kind content others k = grind arith

  node_edges : (reads : Reads) (node : BlockNode) (inside : List Segment) → Edge node.start → Edge node.end → EdgesGiven inside → EdgesGiven (node_segments reads node inside)
  node_edges reads node inside a b k = grind (arith, edges_append)

  first_edges : (element : ℕ) (r : Ranged) (others : List Segment) → Edge r.start → Edge r.end → EdgesGiven others → EdgesGiven (first_of_segments element (Given r) others)
  first_edges zero r others a b k = (a, b, k)
  first_edges (suc element) r [] a b k = (a, b, k)
  first_edges (suc element) r (Given x ∷ others) a b k = (k.0, k.1, first_edges element r others a b k.2)
  first_edges (suc element) r (Content leaf ∷ others) a b k = first_edges element r others a b k

  with_edges : (reads : Reads) (element : ℕ) (node : BlockNode) (others : List Segment) → Edge node.start → Edge node.end → EdgesGiven others → EdgesGiven (with_first_segment (first_event reads) element node others)
  with_edges (First event) element node others a b k = first_edges element (over node event) others a b k
  with_edges _ element node others a b k = k

  segments_edges : (document : BlockDocument) → AllAt Edge document → EdgesGiven (segments document)
  segments_edges Nil h = tt
  segments_edges (Node node inside after) h =
      let own = inside_of node.kind inside (segments inside) in
      with_edges (read_as node.kind) (starts_before after) node (node_segments (read_as node.kind) node own ++ segments after) h.0 h.1
      (edges_append (node_segments (read_as node.kind) node own) (segments after)
      (node_edges (read_as node.kind) node own h.0 h.1 (inside_edges node.kind inside (segments inside) (segments_edges inside h.2))) (segments_edges after h.3))

  given_cut : (others : List Segment) (events : List Ranged) → EdgesGiven others → AreGiven text others events → CutNoCharacter text events
  given_cut [] events e h = subst (CutNoCharacter text) (sym h) tt
  given_cut (Given r ∷ others) events e h = subst (CutNoCharacter text) (sym h.1) (e.0, e.1, given_cut others h.0 e.2 h.2)
  given_cut (Content leaf ∷ others) events e h = subst (CutNoCharacter text) (sym h.2) (cut_both h.0 h.1 (nested_cut h.0 h.3.nested) (given_cut others h.1 e h.4))

pub walk-cut : (text : List ℕ) (options : Options) (lookup : Lookup) (document : BlockDocument) (events : List Ranged) → IsUtf8 text → Derives text options lookup document
    → AreGiven text (segments document) events → CutNoCharacter text events
walk-cut text options lookup document events utf8 derives h = given_cut text (segments document) events (segments_edges text document (derived-boundaries text options lookup document utf8 derives)) h
