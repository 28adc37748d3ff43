-- The events of a reading are balanced: each start has its end, with the same range.
use Rattle.cmark_inline_model.proofs.DocumentLeaves.{begins-start, StartsWith}
use Rattle.std.specs.Prelude.{map}
use Rattle.std.proofs.Common.{◌≡◌, ℕ, List, [], ◌∷◌, ◌++◌, refl, sym, ap, subst, ◌∙◌, zero, suc, ◌⊎◌, inl, inr, ⊎_elim, arith, rules}
use Rattle.std.proofs.lemmas.List.{append_assoc, map-append}
use Rattle.cmark_block_model.specs.Balance as balance
use Rattle.cmark_block_model.specs.Balance.{IsSingle, Balanced}
use Rattle.cmark_grammar.specs.BlockDocument.{BlockKind, Paragraph, TightParagraph, Heading, ThematicBreak, IndentedCode, FencedCode, HtmlBlock, LinkDefinition, MetadataBlock, BlockQuote, FootnoteDefinition, DefinitionList, DefinitionListTitle, BlockNode, BlockDocument, Nil, Node, Table, TableHead, TableRow, TableCell}
use Rattle.cmark_grammar.specs.BlockReading.{Reads, Around, Inside, Alone, First, first_event, read_as, over, starts_before}
use Rattle.cmark_grammar.specs.Event.{Start, End, Ranged}
use Rattle.cmark_grammar.specs.InlineReading.{event_of, inline_events}
use Rattle.cmark_grammar.specs.Items.{ItemKind, Item}
use Rattle.cmark_grammar.specs.LeafReading.{Between}
use Rattle.cmark_grammar.specs.LeafText.{Leaf}
use Rattle.cmark_grammar.specs.Questions.{Saying}
use Rattle.cmark_grammar.specs.Readers.{Reader}
use Rattle.cmark_grammar.specs.Siblings.{Inline, Nil as NoSpans, Single as SingleItem, Around as Element_around}
use Rattle.cmark_grammar.specs.SpanDocuments.{Segment, Given, Content, inside_of, node_segments, first_of_segments, with_first_segment, segments, ReadsAll}
use Rattle.cmark_grammar.specs.TagEnd.{end_of}
use Rattle.cmark_block_model.proofs.BalanceLaws.{IsFit, fit}
use Rattle.cmark_inline_model.specs.ReadingRanges.{ranged, Matched, NoMore, Alone as AloneEvent, Pair}
use Rattle.cmark_grammar.specs.Tag.{Tag}

-- an event of its own after n others
abbrev pub put : ℕ → Ranged → List Ranged → List Ranged
put zero r events = r ∷ events
put (suc n) r [] = r ∷ []
put (suc n) r (x ∷ events) = x ∷ put n r events

put-within : (n : ℕ) (r : Ranged) (tag : Tag) (start end : ℕ) (inside after : List Ranged) → ((m : ℕ) → Matched (put m r inside)) → ((m : ℕ) → Matched (put m r after)) → Matched inside → Matched after
    → Matched (ranged (Start tag) start end ∷ put n r (inside ++ (ranged (End (end_of tag)) start end ∷ after)))
put-within n r tag start end inside after pi pa i a =
    ⊎_elim (λ l. subst (λ es. Matched (ranged (Start tag) start end ∷ es)) (sym l) (Pair tag start end (put n r inside) after (pi n) a))
    (λ m. subst (λ es. Matched (ranged (Start tag) start end ∷ es)) (sym m.1) (Pair tag start end inside (put m.0 r after) i (pa m.0))) (split n inside)
  where
    split : (n : ℕ) (inside : List Ranged) → (put n r (inside ++ (ranged (End (end_of tag)) start end ∷ after)) ≡ put n r inside ++ (ranged (End (end_of tag)) start end ∷ after))
        ⊎ ((m : ℕ) × (put n r (inside ++ (ranged (End (end_of tag)) start end ∷ after)) ≡ inside ++ (ranged (End (end_of tag)) start end ∷ put m r after)))
    split zero inside = inl refl
    split (suc n) [] = inr (n, refl)
    split (suc n) (x ∷ inside) = ⊎_elim (λ l. inl (ap (λ es. x ∷ es) l)) (λ m. inr (m.0, ap (λ es. x ∷ es) m.1)) (split n inside)

pub matched-put : (n : ℕ) (r : Ranged) (events : List Ranged) → IsSingle r.event → Matched events → Matched (put n r events)
matched-put zero r events fits m = AloneEvent r events fits m
matched-put (suc n) r _ fits NoMore = AloneEvent r [] fits NoMore
matched-put (suc n) r _ fits (AloneEvent x after single b) = AloneEvent x (put n r after) single (matched-put n r after fits b)
matched-put (suc n) r _ fits (Pair tag start end inside after i a) = put-within n r tag start end inside after (λ m. matched-put m r inside fits i) (λ m. matched-put m r after fits a) i a

pub matched-append : (first second : List Ranged) → Matched first → Matched second → Matched (first ++ second)
matched-append _ second NoMore b = b
matched-append _ second (AloneEvent r after single a) b = AloneEvent r (after ++ second) single (matched-append after second a b)
matched-append _ second (Pair tag start end inside after i a) b =
    subst (λ es. Matched (ranged (Start tag) start end ∷ es)) (sym (append_assoc inside (ranged (End (end_of tag)) start end ∷ after) second))
    (Pair tag start end inside (after ++ second) i (matched-append after second a b))

pub matched-balanced : (events : List Ranged) → Matched events → Balanced (map Ranged.event events)
matched-balanced _ NoMore = balance.Nothing
matched-balanced _ (AloneEvent r after single a) = balance.Single r.event (map Ranged.event after) single (matched-balanced after a)
matched-balanced _ (Pair tag start end inside after i a) =
    subst (λ es. Balanced (Start tag ∷ es)) (sym (map-append Ranged.event inside (ranged (End (end_of tag)) start end ∷ after)))
    (balance.Element tag (map Ranged.event inside) (map Ranged.event after) (matched-balanced inside i) (matched-balanced after a))

module _ (source : List ℕ) where
  pub item-single : (x : Item) (kind : ItemKind) → IsSingle (event_of source x kind)
  item-single x kind = grind arith

  spans_matched : (spans : Inline) → Matched (inline_events source spans)
  spans_matched NoSpans = NoMore
  spans_matched (SingleItem x after) = AloneEvent (ranged (event_of source x x.kind) x.start x.end) (inline_events source after) (item-single x x.kind) (spans_matched after)
  spans_matched (Element_around tag start end inside after) = Pair tag start end (inline_events source inside) (inline_events source after) (spans_matched inside) (spans_matched after)

module _ (reader : Reader) (Says : Saying) where
  -- the events of some segments, after any others
  abbrev Balances : List Segment → Type 0
  Balances others = (before after : Between) (events : List Ranged) → ReadsAll reader Says others before events after → Matched events

  -- segments that are read one after the other
  pub record Splits (a b : List Segment) (before : Between) (events : List Ranged) (after : Between) : Type 0 where
    pub between : Between
    pub first : List Ranged
    pub second : List Ranged
    pub reads_first : ReadsAll reader Says a before first between
    pub reads_second : ReadsAll reader Says b between second after
    pub joined : events ≡ first ++ second

  pub split : (a b : List Segment) (before : Between) (events : List Ranged) (after : Between) → ReadsAll reader Says (a ++ b) before events after → Splits a b before events after
  split [] b before events after h = record { between = before; first = []; second = events; reads_first = (refl, refl); reads_second = h; joined = refl }
  split (Given r ∷ a) b before events after h =
      let k = split a b before h.0 after h.1 in
      record { between = k.between; first = r ∷ k.first; second = k.second; reads_first = (k.first, k.reads_first, refl); reads_second = k.reads_second; joined = h.2 ∙ ap (λ l. r ∷ l) k.joined }
  split (Content leaf ∷ a) b before events after h =
      let k = split a b h.2 h.1 after h.4 in
      record {
        between = k.between;
        first = h.0 ++ k.first;
        second = k.second;
        reads_first = (h.0, k.first, h.2, h.3, k.reads_first, refl);
        reads_second = k.reads_second;
        joined = h.5 ∙ ap (λ l. h.0 ++ l) k.joined ∙ sym (append_assoc h.0 k.first k.second);
      }

  append_matches : (a b : List Segment) → Balances a → Balances b → Balances (a ++ b)
  append_matches a b h k before after events r = grind (arith, split, matched-append)

  leaf_matches : (leaf : Leaf) → Balances (Content leaf ∷ [])
  leaf_matches leaf before after events h = search (rules, matched-append, spans_matched)

  inside_matches : (kind : BlockKind) (content : BlockDocument) (others : List Segment) → Balances others → Balances (inside_of kind content others)
  inside_matches Paragraph content others k = leaf_matches _
  inside_matches TightParagraph content others k = leaf_matches _
  inside_matches (Heading level attributes) content others k = leaf_matches _
  inside_matches ThematicBreak content others k = k
  inside_matches IndentedCode content others k = k
  inside_matches (FencedCode info) content others k = k
  inside_matches HtmlBlock content others k = k
  inside_matches (MetadataBlock kind) content others k = k
  inside_matches (Table alignments) content others k = k
  inside_matches TableHead content others k = k
  inside_matches TableRow content others k = k
  inside_matches TableCell content others k = leaf_matches _
  inside_matches (LinkDefinition reference) content others k = k
  inside_matches (BlockQuote alert) content others k = k
  inside_matches (FootnoteDefinition label) content others k = k
  inside_matches (DefinitionList tight) content others k = k
  inside_matches DefinitionListTitle content others k = leaf_matches _
  inside_matches _ content others k = k

  node_matches : (reads : Reads) (node : BlockNode) (inside : List Segment) → IsFit reads → Balances inside → Balances (node_segments reads node inside)
  node_matches (Around tag) node inside fits k = λ before after events h.
      let last : Ranged = over node (End (end_of tag)) in
      let s = split inside (Given last ∷ []) before h.0 after h.1 in
      let rest : s.second ≡ last ∷ [] = s.reads_second.2 ∙ ap (λ l. last ∷ l) s.reads_second.1.0 in
      subst Matched (sym (h.2 ∙ ap (λ l. over node (Start tag) ∷ l) (s.joined ∙ ap (λ l. s.first ++ l) rest)))
      (Pair tag node.start node.end s.first [] (k before s.between s.first s.reads_first) NoMore)
  node_matches Inside node inside fits k = k
  node_matches (Alone event) node inside fits k = λ before after events h.
      subst Matched (sym (h.2 ∙ ap (λ l. over node event ∷ l) h.1.0)) (AloneEvent (over node event) [] fits NoMore)
  node_matches _ node inside fits k = λ before after events h. subst Matched (sym h.0) NoMore

  first_matches : (element : ℕ) (r : Ranged) (others : List Segment) → IsSingle r.event → StartsWith element others → Balances others → Balances (first_of_segments element (Given r) others)
  first_matches zero r others fits begins k = λ before after events h. subst Matched (sym h.2) (AloneEvent r h.0 fits (k before after h.0 h.1))
  first_matches (suc zero) r [] fits begins k = λ before after events h. subst Matched (sym h.2) (AloneEvent r h.0 fits (k before after h.0 h.1))
  first_matches (suc zero) r (Given x ∷ others) fits begins k = λ before after events h. subst Matched (sym (h.2 ∙ ap (λ l. x ∷ l) h.1.2)) (matched-put 1 r (x ∷ h.1.0) fits (k before after (x ∷ h.1.0) (h.1.0, h.1.1, refl)))
  first_matches (suc zero) r (Content leaf ∷ others) fits begins k = absurd (let q : Content leaf ∷ others ≡ Given begins.0 ∷ begins.1 = begins.2 in cc)
  first_matches (suc (suc zero)) r [] fits begins k = absurd (let q : [] ≡ Given begins.0 ∷ (Given begins.1 ∷ begins.2) = begins.3 in cc)
  first_matches (suc (suc zero)) r (Content leaf ∷ others) fits begins k = absurd (let q : Content leaf ∷ others ≡ Given begins.0 ∷ (Given begins.1 ∷ begins.2) = begins.3 in cc)
  first_matches (suc (suc zero)) r (Given x ∷ []) fits begins k = absurd (let q : Given x ∷ [] ≡ Given begins.0 ∷ (Given begins.1 ∷ begins.2) = begins.3 in cc)
  first_matches (suc (suc zero)) r (Given x ∷ (Content leaf ∷ others)) fits begins k = absurd (let q : Given x ∷ (Content leaf ∷ others) ≡ Given begins.0 ∷ (Given begins.1 ∷ begins.2) = begins.3 in cc)
  first_matches (suc (suc zero)) r (Given x ∷ (Given y ∷ others)) fits begins k = λ before after events h.
      subst Matched (sym (h.2 ∙ ap (λ l. x ∷ l) (h.1.2 ∙ ap (λ l. y ∷ l) h.1.1.2))) (matched-put 2 r (x ∷ (y ∷ h.1.1.0)) fits (k before after (x ∷ (y ∷ h.1.1.0)) (y ∷ h.1.1.0, (h.1.1.0, h.1.1.1, refl), refl)))
  first_matches (suc (suc (suc n))) r others fits begins k = absurd begins

  with_matches : (reads : Reads) (node : BlockNode) (inside : List Segment) (following : BlockDocument) → IsFit reads → Balances (node_segments reads node inside ++ segments following)
      → Balances (with_first_segment (first_event reads) (starts_before following) node (node_segments reads node inside ++ segments following))
  with_matches (First event) node inside following fits k = first_matches (starts_before following) (over node event) (segments following) fits (begins-start following) k
  with_matches _ node inside following fits k = k

  pub document-matched : (document : BlockDocument) → Balances (segments document)
  document-matched Nil = λ before after events h. subst Matched (sym h.0) NoMore
  document-matched (Node node inside after) =
      let own = inside_of node.kind inside (segments inside) in
      with_matches (read_as node.kind) node own after (fit node.kind)
      (append_matches (node_segments (read_as node.kind) node own) (segments after)
      (node_matches (read_as node.kind) node own (fit node.kind) (inside_matches node.kind inside (segments inside) (document-matched inside))) (document-matched after))
