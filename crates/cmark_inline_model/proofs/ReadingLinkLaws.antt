-- What holds of the links, the references and the options of each reading of a text.
use Rattle.std.specs.Prelude.{◌-◌, sum}
use Rattle.std.proofs.Common.{◌≡◌, ℕ, ◌+◌, ◌<◌, List, [], ◌∷◌, ◌++◌, sym, ap, subst, arith, ◌∙◌, append-nil, append_assoc}
use Rattle.cmark_grammar.specs.BracketDecisions.{decide}
use Rattle.cmark_grammar.specs.Event.{Ranged}
use Rattle.cmark_grammar.specs.InlineReading.{inline_events}
use Rattle.cmark_grammar.specs.InlineTokens.{token}
use Rattle.cmark_grammar.specs.LeafReading.{Between, entering, ReadsLeaf}
use Rattle.cmark_grammar.specs.LeafText.{Leaf}
use Rattle.cmark_grammar.specs.Questions.{Exchange, Saying, IsNext}
use Rattle.cmark_grammar.specs.Readers.{Reader}
use Rattle.cmark_inline_model.specs.SiblingsModel.{spans_in}
use Rattle.cmark_grammar.specs.SpanDocuments.{Segment, Given, Content, segments, ReadsAll, Profile, reader_of, at_start, IsReading}
use Rattle.cmark_inline_model.specs.ReferenceExpansion.{costs}
use Rattle.cmark_inline_model.specs.LinkRules.{IsFormedRightly}
use Rattle.cmark_inline_model.specs.OptionRules.{IsGiven, AreGiven}
use Rattle.cmark_inline_model.specs.ReadingLinks.{LinkEvent, ApartBy, LinksApart, LedBy, AreLed, reference_costs}
use Rattle.cmark_inline_model.proofs.CostLists.{total, Within, within-less, within-both, within-front, within-last, spends-within}
use Rattle.cmark_inline_model.proofs.DecisionLaws.{decide-recorded, decide-apart, decide-pays}
use Rattle.cmark_inline_model.proofs.DecisionRules.{rightly-more, forms-rightly}
use Rattle.cmark_inline_model.proofs.DocumentLaws.{all-grow}
use Rattle.cmark_inline_model.proofs.LinkNesting.{reading-nests}
use Rattle.cmark_inline_model.proofs.LinkSpans.{spans-apart, inline-apart, spans-led, events-led}
use Rattle.cmark_inline_model.proofs.ReadingLaws.{formed-hold, reading-spends}
use Rattle.cmark_inline_model.proofs.SegmentLaws.{AllGiven, AreNeither, segments-neither, segments-optionless}
use Rattle.cmark_inline_model.proofs.SiblingsOne.{spans-one}
use Rattle.cmark_inline_model.proofs.SpanCosts.{costs_in, spans-costs, events-costs}
use Rattle.cmark_inline_model.proofs.SpanItems.{spans-read, events-given}
use Rattle.cmark_inline_model.proofs.TokenOptions.{leaf-items}

module _ (reader : Reader) (Says : Saying) where
  -- the events of a leaf are those of the spans of its parts
  leaf_events : (leaf : Leaf) (before after : Between) (events : List Ranged) (h : ReadsLeaf reader Says leaf before events after) → events ≡ inline_events reader.source (spans_in reader.options h.parts)
  leaf_events leaf before after events h = h.events_are ∙ ap (inline_events reader.source) (spans-one reader.options h.parts h.spans h.are)

  -- ## No link in a link

  pub all-apart : (others : List Segment) (before after : Between) (events : List Ranged) → AreNeither others → ReadsAll reader Says others before events after → LinksApart 0 events
  all-apart [] before after events n h = subst (LinksApart 0) (sym h.0) tt
  all-apart (Given r ∷ others) before after events n h =
      subst (LinksApart 0) (sym h.2) (subst (λ (l : LinkEvent). ApartBy l 0 (λ m. LinksApart m h.0)) (sym n.0) (all-apart others before after h.0 n.1 h.1))
  all-apart (Content leaf ∷ others) before after events n h =
      let parts = h.3.parts in
      let e : events ≡ inline_events reader.source (spans_in reader.options parts) ++ h.1 = h.5 ∙ ap (λ l. l ++ h.1) (leaf_events leaf before h.2 h.0 h.3) in
      let nests = reading-nests (token reader leaf) (decide reader leaf) Says (decide-apart reader leaf) (entering leaf before) parts h.3.last h.3.reads.reads in
      subst (LinksApart 0) (sym e)
      (inline-apart reader.source (spans_in reader.options parts) h.1 (spans-apart reader.options parts nests.apart) (all-apart others h.2 after h.1 n h.4))

  -- ## Where they lead

  pub all-led : (all rest : List Exchange) (others : List Segment) (before after : Between) (events : List Ranged) → all ≡ after.asked ++ rest → AreNeither others
      → ReadsAll reader Says others before events after → AreLed reader all events
  all-led all rest [] before after events e n h = subst (AreLed reader all) (sym h.0) tt
  all-led all rest (Given r ∷ others) before after events e n h =
      subst (AreLed reader all) (sym h.2) (subst (LedBy reader all) (sym n.0) tt, all-led all rest others before after h.0 e n.1 h.1)
  all-led all rest (Content leaf ∷ others) before after events e n h =
      let parts = h.3.parts in
      let f : events ≡ inline_events reader.source (spans_in reader.options parts) ++ h.1 = h.5 ∙ ap (λ l. l ++ h.1) (leaf_events leaf before h.2 h.0 h.3) in
      let grown = all-grow reader (λ l. decide-recorded reader l) Says others h.2 after h.1 h.4 in
      let between : all ≡ h.2.asked ++ (grown.0 ++ rest) = e ∙ ap (λ l. l ++ rest) grown.1 ∙ append_assoc h.2.asked grown.0 rest in
      let last : all ≡ h.3.last.asked ++ (grown.0 ++ rest) = between ∙ ap (λ (b : Between). b.asked ++ (grown.0 ++ rest)) h.3.after_is in
      let formed =
      formed-hold (token reader leaf) (decide reader leaf) Says (IsFormedRightly reader) (rightly-more reader) (decide-recorded reader leaf) (forms-rightly reader leaf) all (grown.0 ++ rest)
      (entering leaf before) parts h.3.last last h.3.reads.reads in
      subst (AreLed reader all) (sym f)
      (events-led reader all reader.source (spans_in reader.options parts) h.1 (spans-led reader all reader.options parts (leaf-items reader leaf Says (entering leaf before) parts h.3.last h.3.reads.reads) formed) (all-led all rest others h.2 after h.1 e n h.4))

  -- ## Options

  pub all-given : (others : List Segment) (before after : Between) (events : List Ranged) → AllGiven (IsGiven reader.options) others → ReadsAll reader Says others before events after
      → AreGiven reader.options events
  all-given [] before after events n h = subst (AreGiven reader.options) (sym h.0) tt
  all-given (Given r ∷ others) before after events n h = subst (AreGiven reader.options) (sym h.2) (n.0, all-given others before after h.0 n.1 h.1)
  all-given (Content leaf ∷ others) before after events n h =
      let parts = h.3.parts in
      let last = h.3.last in
      let f : events ≡ inline_events reader.source (spans_in reader.options parts) ++ h.1 = h.5 ∙ ap (λ l. l ++ h.1) (leaf_events leaf before h.2 h.0 h.3) in
      let formed =
      formed-hold (token reader leaf) (decide reader leaf) Says (IsFormedRightly reader) (rightly-more reader) (decide-recorded reader leaf) (forms-rightly reader leaf) last.asked []
      (entering leaf before) parts last (sym (append-nil last.asked)) h.3.reads.reads in
      subst (AreGiven reader.options) (sym f)
      (events-given reader.options reader.source (spans_in reader.options parts) h.1 (spans-read reader last.asked parts (leaf-items reader leaf Says (entering leaf before) parts last h.3.reads.reads) formed)
      (all-given others h.2 after h.1 n h.4))

  -- ## What they cost

  pub all-within : (limit spent : ℕ) (others : List Segment) (before after : Between) (events : List Ranged) → before.expansion_left ≡ limit - spent → AreNeither others
      → ReadsAll reader Says others before events after → Within limit spent (reference_costs [] events)
  all-within limit spent [] before after events e n h = subst (λ es. Within limit spent (reference_costs [] es)) (sym h.0) tt
  all-within limit spent (Given r ∷ others) before after events e n h = grind (arith, all-within limit spent others before after h.0 e n.1 h.1)
  all-within limit spent (Content leaf ∷ others) before after events e n h =
      let parts = h.3.parts in
      let spans = spans_in reader.options parts in
      let f : events ≡ inline_events reader.source spans ++ h.1 = h.5 ∙ ap (λ l. l ++ h.1) (leaf_events leaf before h.2 h.0 h.3) in
      let s = spends-within limit spent (costs parts) before.expansion_left h.3.last.expansion_left e
      (reading-spends (token reader leaf) (decide reader leaf) Says (decide-pays reader leaf) (entering leaf before) parts h.3.last h.3.reads.reads) in
      let fewer = spans-costs reader.options parts in
      let less = fewer.less in
      let left : h.2.expansion_left ≡ limit - (spent + total (costs parts)) = ap (λ (b : Between). b.expansion_left) h.3.after_is ∙ s.left in
      let more = all-within limit (spent + total (costs parts)) others h.2 after h.1 left n h.4 in
      subst (λ es. Within limit spent (reference_costs [] es)) (sym f)
      (subst (Within limit spent) (sym (events-costs reader.source spans [] h.1))
      (within-both limit spent (costs_in spans) (reference_costs [] h.1) (fewer.within limit spent s.within)
      (within-less limit (reference_costs [] h.1) (spent + total (costs_in spans)) (spent + total (costs parts)) (omega arith) more)))

-- ## Whole texts

module _ (text : List ℕ) (profile : Profile) (exchanges : List Exchange) (events : List Ranged) (h : IsReading text profile exchanges events) where
  abbrev reader : Reader
  reader = reader_of text profile h.document

  pub reading-apart : LinksApart 0 events
  reading-apart = all-apart reader (IsNext exchanges) (segments h.document) (at_start profile) h.after events (segments-neither h.document) h.reads

  pub reading-led : AreLed reader exchanges events
  reading-led =
      all-led reader (IsNext exchanges) exchanges [] (segments h.document) (at_start profile) h.after events (sym h.asked ∙ sym (append-nil h.after.asked)) (segments-neither h.document) h.reads

  pub reading-given : AreGiven profile.options events
  reading-given = all-given reader (IsNext exchanges) (segments h.document) (at_start profile) h.after events (segments-optionless profile.options h.document) h.reads

  pub reading-within : (front following : List ℕ) (own : ℕ) → reference_costs [] events ≡ front ++ (own ∷ following) → sum front < profile.reference_expansion_limit
  reading-within front following own e =
      let w = all-within reader (IsNext exchanges) profile.reference_expansion_limit 0 (segments h.document) (at_start profile) h.after events (omega arith) (segments-neither h.document) h.reads in
      let all = subst (Within profile.reference_expansion_limit 0) (e ∙ sym (append_assoc front (own ∷ []) following)) w in
      let k = within-last profile.reference_expansion_limit 0 front own (within-front profile.reference_expansion_limit 0 (front ++ (own ∷ [])) following all) in
      omega (arith, k)
