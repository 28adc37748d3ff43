-- The rest after a leaf, and the rest that begins with the leaf.
use Rattle.std.proofs.Common.{◌≡◌, ℕ, List, [], ◌∷◌, ◌++◌, refl, sym, ap, ◌∙◌, subst, append-nil}
use Rattle.cmark_grammar.specs.BracketDecisions.{decide}
use Rattle.cmark_grammar.specs.Event.{Ranged}
use Rattle.cmark_grammar.specs.InlineTokens.{token}
use Rattle.cmark_grammar.specs.LeafReading.{Between, entering, ReadsLeaf}
use Rattle.cmark_grammar.specs.LeafText.{Leaf}
use Rattle.cmark_grammar.specs.Questions.{Exchange, IsNext}
use Rattle.cmark_grammar.specs.Readers.{Reader}
use Rattle.cmark_grammar.specs.SpanDocuments.{Segment, Given, Content, ReadsAll, Left}
use Rattle.cmark_inline_model.specs.Progress.{asked_after, IsRecorded, IsShifted}
use Rattle.cmark_inline_model.proofs.BracketsShifted.{reads-following}
use Rattle.cmark_inline_model.proofs.LeafLaws.{leaf-next}

abbrev pub between_after : List Exchange → Between → Between
between_after h b = record { expansion_left = b.expansion_left; asked = h ++ b.asked }

module _ (reader : Reader) (shifted : (leaf : Leaf) → IsShifted (decide reader leaf)) (h all : List Exchange) where
  pub leaf-following : (leaf : Leaf) (before after : Between) (events : List Ranged) → ReadsLeaf reader (IsNext all) leaf before events after → ReadsLeaf reader (IsNext (h ++ all)) leaf (between_after h before) events (between_after h after)
  leaf-following leaf before after events k = record {
    parts = k.parts;
    last = asked_after h k.last;
    spans = k.spans;
    reads = record { reads = reads-following (token reader leaf) (decide reader leaf) (shifted leaf) h all (entering leaf before) k.parts k.last k.reads.reads; ends = k.reads.ends };
    are = k.are;
    events_are = k.events_are;
    after_is = ap (between_after h) k.after_is;
  }

  pub all-following : (others : List Segment) (before after : Between) (events : List Ranged) → ReadsAll reader (IsNext all) others before events after
      → ReadsAll reader (IsNext (h ++ all)) others (between_after h before) events (between_after h after)
  all-following [] before after events k = (k.0, ap (between_after h) k.1)
  all-following (Given r ∷ others) before after events k = (k.0, all-following others before after k.0 k.1, k.2)
  all-following (Content leaf ∷ others) before after events k = (k.0, k.1, between_after h k.2, leaf-following leaf before k.2 k.0 k.3, all-following others k.2 after k.1 k.4, k.5)

-- an event of the blocks in front
pub left-given : (reader : Reader) (r : Ranged) (others : List Segment) (expansion_left : ℕ) (exchanges : List Exchange) (events : List Ranged) → Left reader others expansion_left exchanges events
    → Left reader (Given r ∷ others) expansion_left exchanges (r ∷ events)
left-given reader r others expansion_left exchanges events k = record { after = k.after; reads = (events, k.reads, refl); asked = k.asked }

-- a leaf in front, with the questions that were put in it
pub left-leaf : (reader : Reader) → ((leaf : Leaf) → IsRecorded (decide reader leaf)) → ((leaf : Leaf) → IsShifted (decide reader leaf))
    → (leaf : Leaf) (others : List Segment) (expansion_left : ℕ) (taken rest : List Exchange) (spans later : List Ranged) (between : Between)
    → ReadsLeaf reader (IsNext taken) leaf (record { expansion_left = expansion_left; asked = [] }) spans between → between.asked ≡ taken
    → Left reader others between.expansion_left rest later → Left reader (Content leaf ∷ others) expansion_left (taken ++ rest) (spans ++ later)
left-leaf reader recorded shifted leaf others expansion_left taken rest spans later between h e k =
    let start : Between = record { expansion_left = expansion_left; asked = [] } in
    let same : between_after taken (record { expansion_left = between.expansion_left; asked = [] }) ≡ between = ap (λ l. record { expansion_left = between.expansion_left; asked = l }) (append-nil taken ∙ sym e) in
    record {
      after = between_after taken k.after;
      reads = (
        spans,
        later,
        between,
        leaf-next reader leaf (recorded leaf) (IsNext taken) start between spans (taken ++ rest) rest (ap (λ l. l ++ rest) (sym e)) h,
        subst (λ b. ReadsAll reader (IsNext (taken ++ rest)) others b later (between_after taken k.after)) same
            (all-following reader shifted taken rest others (record { expansion_left = between.expansion_left; asked = [] }) k.after later k.reads),
        refl,
      );
      asked = ap (λ l. taken ++ l) k.asked;
    }
