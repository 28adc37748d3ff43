-- If highlight is off, the readings of a text are those of the grammar without highlight.
use Rattle.std.proofs.Common.{◌≡◌, ℕ, ◌≤◌, false, List, [], ◌∷◌, length, refl, sym, subst, ◌∙◌, arith, rules}
use Rattle.cmark_grammar.specs.BracketDecisions.{decide}
use Rattle.cmark_grammar.specs.BracketReading.{Reads}
use Rattle.cmark_grammar.specs.BracketStates.{State, moved, opened}
use Rattle.cmark_grammar.specs.Event.{Ranged}
use Rattle.cmark_grammar.specs.InlineTokens.{token}
use Rattle.cmark_grammar.specs.LeafReading.{Between, ReadsLeaf, entering}
use Rattle.cmark_grammar.specs.LeafText.{Leaf, Stretch, InTurn, begin_of, size_of}
use Rattle.cmark_grammar.specs.Parts.{Parts, Nil, Single, Form, Closing, Opening}
use Rattle.cmark_grammar.specs.Questions.{Exchange, Saying}
use Rattle.cmark_grammar.specs.Readers.{Reader}
use Rattle.cmark_grammar.specs.SpanDocuments.{Segment, Given, Content, Profile, ReadsAll, IsReading, segments}
use Rattle.cmark_block_model.proofs.RangeLaws.{derived-order}
use Rattle.cmark_inline_model.specs.LeafModel.{AreLeavesInTurn, AreLeavesOfLines, HaveLineEnds}
use Rattle.cmark_inline_model.specs.OptionRules.{IsRead, AllItems}
use Rattle.cmark_inline_model.specs.WithoutHighlight.{token_without, ReadsLeafWithout, ReadsAllWithout, IsReadingWithout}
use Rattle.cmark_inline_model.proofs.DocumentLeaves.{segments-turn}
use Rattle.cmark_inline_model.proofs.LeafLines.{derived-lines}
use Rattle.cmark_inline_model.proofs.LeafSteps.{IsAt, place-first}
use Rattle.cmark_inline_model.proofs.ReadingPlaces.{reading-reaches}
use Rattle.cmark_inline_model.proofs.TokenOptions.{leaf-items}
use Rattle.cmark_inline_model.proofs.TokenPlaces.{IsPlace, Sits, token-sits}
use Rattle.cmark_inline_model.proofs.WithoutEmphasis.{IsOtherKind, read-other, spans-to, spans-from}
use Rattle.cmark_inline_model.proofs.WithoutTokens.{token-without}

-- ## The parts of a leaf
module _ (reader : Reader) (leaf : Leaf) (off : reader.options.highlight ≡ false) (size : ℕ) (turn : InTurn 0 leaf.stretches size) (within : size ≤ length reader.source) (lines : HaveLineEnds reader.source leaf.stretches) (Says : Saying) where
  abbrev Place : ℕ → Type 0
  Place at = IsPlace reader leaf size turn within lines at

  abbrev ReadsSo : State → Parts → State → Type 0
  ReadsSo s parts t = Reads (token reader leaf) (decide reader leaf) Says s parts t

  abbrev ReadsWithout : State → Parts → State → Type 0
  ReadsWithout s parts t = Reads (token_without reader leaf) (decide reader leaf) Says s parts t

  same : (at : ℕ) → Place at → token reader leaf at ≡ token_without reader leaf at
  same at w = token-without reader leaf off size turn within lines at w

  reach : (s : State) (parts : Parts) (t : State) → Place s.at → ReadsSo s parts t → Place t.at
  reach s parts t w h = (reading-reaches reader leaf size turn within lines Says s parts t w h).place

  reads_to : (s : State) (parts : Parts) (t : State) → Place s.at → ReadsSo s parts t → ReadsWithout s parts t
  reads_to s Nil t w h = h
  reads_to s (Single item after) t w h =
      let k = subst (Sits reader leaf size turn within lines) h.1 (token-sits reader leaf size turn within lines s.at w) in
      (h.0, sym (same s.at w) ∙ h.1, reads_to (moved h.0 s) after t k.0 h.2)
  reads_to s (Form opener inside closer formed after) t w h =
      let k = subst (Sits reader leaf size turn within lines) h.opens (token-sits reader leaf size turn within lines s.at w) in
      let until = reach (opened opener s) inside h.until k.0 h.inside in
      let next = reach s (Form opener inside closer formed Nil) h.next w (record { until = h.until; next = h.next; opens = h.opens; inside = h.inside; closes = h.closes; comes = h.comes; after = refl }) in
      record {
        until = h.until;
        next = h.next;
        opens = sym (same s.at w) ∙ h.opens;
        inside = reads_to (opened opener s) inside h.until k.0 h.inside;
        closes = sym (same h.until.at until) ∙ h.closes;
        comes = h.comes;
        after = reads_to h.next after t next h.after;
      }
  reads_to s (Closing closer after) t w h =
      let next = reach s (Closing closer Nil) h.next w (record { next = h.next; closes = h.closes; comes = h.comes; after = refl }) in
      record { next = h.next; closes = sym (same s.at w) ∙ h.closes; comes = h.comes; after = reads_to h.next after t next h.after }
  reads_to s (Opening opener after) t w h =
      let k = subst (Sits reader leaf size turn within lines) h.0 (token-sits reader leaf size turn within lines s.at w) in
      (sym (same s.at w) ∙ h.0, reads_to (opened opener s) after t k.0 h.1)

  reads_from : (s : State) (parts : Parts) (t : State) → Place s.at → ReadsWithout s parts t → ReadsSo s parts t
  reads_from s Nil t w h = h
  reads_from s (Single item after) t w h =
      let e = same s.at w ∙ h.1 in
      let k = subst (Sits reader leaf size turn within lines) e (token-sits reader leaf size turn within lines s.at w) in
      (h.0, e, reads_from (moved h.0 s) after t k.0 h.2)
  reads_from s (Form opener inside closer formed after) t w h =
      let opens = same s.at w ∙ h.opens in
      let k = subst (Sits reader leaf size turn within lines) opens (token-sits reader leaf size turn within lines s.at w) in
      let inner = reads_from (opened opener s) inside h.until k.0 h.inside in
      let until = reach (opened opener s) inside h.until k.0 inner in
      let closes = same h.until.at until ∙ h.closes in
      let next = reach s (Form opener inside closer formed Nil) h.next w (record { until = h.until; next = h.next; opens = opens; inside = inner; closes = closes; comes = h.comes; after = refl }) in
      record { until = h.until; next = h.next; opens = opens; inside = inner; closes = closes; comes = h.comes; after = reads_from h.next after t next h.after }
  reads_from s (Closing closer after) t w h =
      let closes = same s.at w ∙ h.closes in
      let next = reach s (Closing closer Nil) h.next w (record { next = h.next; closes = closes; comes = h.comes; after = refl }) in
      record { next = h.next; closes = closes; comes = h.comes; after = reads_from h.next after t next h.after }
  reads_from s (Opening opener after) t w h =
      let e = same s.at w ∙ h.0 in
      let k = subst (Sits reader leaf size turn within lines) e (token-sits reader leaf size turn within lines s.at w) in
      (e, reads_from (opened opener s) after t k.0 h.1)

  begin_place : (st : List Stretch) (ended : HaveLineEnds reader.source st) (first : InTurn 0 st size) → (left : ℕ) × IsAt reader.source st size first within ended left (begin_of st)
  begin_place [] ended first = (0, (omega arith, refl))
  begin_place (s ∷ more) ended first = (size_of (s ∷ more), (omega arith, sym (place-first reader.source s more ended)))

  others : (parts : Parts) → AllItems (IsRead reader.options) parts → AllItems IsOtherKind parts
  others Nil h = tt
  others (Single item after) h = (read-other reader.options off item.kind h.0, others after h.1)
  others (Form opener inside closer formed after) h = (others inside h.0, others after h.1)
  others (Closing closer after) h = others after h
  others (Opening opener after) h = others after h

  -- ## Its events
  leaf_to : (before : Between) (events : List Ranged) (after : Between) → ReadsLeaf reader Says leaf before events after → ReadsLeafWithout reader Says leaf before events after
  leaf_to before events after h =
      let begin = begin_place leaf.stretches lines turn in
      let s = entering leaf before in
      record {
        parts = h.parts;
        last = h.last;
        become = h.spans;
        reads = record { reads = reads_to s h.parts h.last begin h.reads.reads; ends = sym (same h.last.at (reach s h.parts h.last begin h.reads.reads)) ∙ h.reads.ends };
        are = spans-to reader.options h.parts h.spans (others h.parts (leaf-items reader leaf Says s h.parts h.last h.reads.reads)) h.are;
        events_are = h.events_are;
        after_is = h.after_is;
      }

  leaf_from : (before : Between) (events : List Ranged) (after : Between) → ReadsLeafWithout reader Says leaf before events after → ReadsLeaf reader Says leaf before events after
  leaf_from before events after h =
      let begin = begin_place leaf.stretches lines turn in
      let s = entering leaf before in
      let reads = reads_from s h.parts h.last begin h.reads.reads in
      record {
        parts = h.parts;
        last = h.last;
        spans = h.become;
        reads = record { reads = reads; ends = same h.last.at (reach s h.parts h.last begin reads) ∙ h.reads.ends };
        are = spans-from reader.options h.parts h.become (others h.parts (leaf-items reader leaf Says s h.parts h.last reads)) h.are;
        events_are = h.events_are;
        after_is = h.after_is;
      }

-- ## The events of a text
module _ (reader : Reader) (off : reader.options.highlight ≡ false) (Says : Saying) where
  all_to : (segments : List Segment) (before : Between) (events : List Ranged) (after : Between) → AreLeavesInTurn (length reader.source) segments → AreLeavesOfLines reader.source segments
      → ReadsAll reader Says segments before events after → ReadsAllWithout reader Says segments before events after
  all_to [] before events after turn lines h = h
  all_to (Given r ∷ others) before events after turn lines h = (h.0, all_to others before h.0 after turn lines h.1, h.2)
  all_to (Content leaf ∷ others) before events after turn lines h =
      (h.0, h.1, h.2, leaf_to reader leaf off (length reader.source) turn.0 (omega arith) lines.0 Says before h.0 h.2 h.3, all_to others h.2 h.1 after turn.1 lines.1 h.4, h.5)

  all_from : (segments : List Segment) (before : Between) (events : List Ranged) (after : Between) → AreLeavesInTurn (length reader.source) segments → AreLeavesOfLines reader.source segments
      → ReadsAllWithout reader Says segments before events after → ReadsAll reader Says segments before events after
  all_from [] before events after turn lines h = h
  all_from (Given r ∷ others) before events after turn lines h = (h.0, all_from others before h.0 after turn lines h.1, h.2)
  all_from (Content leaf ∷ others) before events after turn lines h =
      (h.0, h.1, h.2, leaf_from reader leaf off (length reader.source) turn.0 (omega arith) lines.0 Says before h.0 h.2 h.3, all_from others h.2 h.1 after turn.1 lines.1 h.4, h.5)

pub reading-to : (text : List ℕ) (profile : Profile) (exchanges : List Exchange) (events : List Ranged) → profile.options.highlight ≡ false → IsReading text profile exchanges events → IsReadingWithout text profile exchanges events
reading-to text profile exchanges events off h = search (rules, derived-order, segments-turn, derived-lines, all_to)

pub reading-from : (text : List ℕ) (profile : Profile) (exchanges : List Exchange) (events : List Ranged) → profile.options.highlight ≡ false → IsReadingWithout text profile exchanges events → IsReading text profile exchanges events
reading-from text profile exchanges events off h = search (rules, derived-order, segments-turn, derived-lines, all_from)
