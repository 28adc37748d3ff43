-- If some of the reference expansion limit is left after a reading, a greater limit gives the same reading. The increase is left in
-- addition.
use Rattle.std.proofs.Common.{◌≡◌, ℕ, zero, suc, ◌+◌, ◌-◌, ◌≤◌, ◌<◌, Bool, true, false, ◌==◌, ◌&&◌, ◌||◌, List, [], ◌∷◌, length, refl, sym, ap, subst, arith, Option, Some, None, true≢false, rules}
use Rattle.std.specs.Prelude.{if◌then◌else◌}
use Rattle.cmark_grammar.specs.Answers.{Destination}
use Rattle.cmark_grammar.specs.BlockDocument.{Reference as Definition}
use Rattle.cmark_grammar.specs.BracketDecisions.{Named, or_empty, following, stays, question, answered, ask, leads, defined_or_asked, refers, footnote_reference, by_own_label, reference_or, unless_footnote, link_or, with_taken, wiki_text, wikilink, wikilink_or, decide, name_in}
use Rattle.cmark_grammar.specs.BracketReading.{Reads, Comes}
use Rattle.cmark_grammar.specs.BracketStates.{State, moved, opened, Forms, Outcome, Decision, Settled, Asks}
use Rattle.cmark_grammar.specs.Event.{Ranged}
use Rattle.cmark_grammar.specs.InlineTokens.{token}
use Rattle.cmark_grammar.specs.Items.{Bracket}
use Rattle.cmark_grammar.specs.LeafReading.{Between, entering, ReadsLeaf}
use Rattle.cmark_grammar.specs.LeafText.{Leaf}
use Rattle.cmark_grammar.specs.Letters.{first_is}
use Rattle.cmark_grammar.specs.LinkDefinitions.{Parsed}
use Rattle.cmark_grammar.specs.LinkTails.{LinkTail, link_tail_in, reference_label_in}
use Rattle.cmark_grammar.specs.LinkType.{LinkType, to_unknown}
use Rattle.cmark_grammar.specs.OpenBrackets.{Taken, nearest, used_up, doubled, tried}
use Rattle.cmark_grammar.specs.Parts.{Parts, Nil as NoParts, Single as SinglePart, Form, Closing, Opening, openings}
use Rattle.cmark_grammar.specs.Questions.{Exchange, Saying}
use Rattle.cmark_grammar.specs.Readers.{Reader}
use Rattle.cmark_grammar.specs.SpanDocuments.{Segment, Given, Content, ReadsAll}
use Rattle.cmark_inline_model.specs.Progress.{Always}
use Rattle.cmark_inline_model.proofs.DecisionLaws.{always-by}
use Rattle.cmark_inline_model.proofs.DecisionShape.{Shape}
use Rattle.cmark_stream_model.specs.Continued.{with_more}

not-zero : (n k : ℕ) → (n == 0) ≡ false → (n + k == 0) ≡ false
not-zero zero k e = absurd (true≢false e)
not-zero (suc n) k e = grind (arith)

is-zero : (n : ℕ) → (n == 0) ≡ true → n ≡ 0
is-zero n e = grind (arith)

module _ (reader : Reader) (leaf : Leaf) (k : ℕ) where
  abbrev richer : State → State
  richer st = record { at = st.at; expansion_left = st.expansion_left + k; label_close = st.label_close; asked = st.asked; openers = st.openers }

  abbrev richer_outcome : Outcome → Outcome
  richer_outcome o = record { result = o.result; after = richer o.after }

  -- the second decision is the same as the first, if some of the limit is left after it
  abbrev Follows : Decision → Decision → Type 0
  Follows (Settled o) (Settled p) = 0 < o.after.expansion_left → p ≡ richer_outcome o
  Follows (Settled o) (Asks r b) = 0 < o.after.expansion_left → ⊥
  Follows (Asks q a) (Settled p) = ⊥
  Follows (Asks q a) (Asks r b) = (r ≡ q) × ((x : Option Destination) → 0 < (a x).after.expansion_left → b x ≡ richer_outcome (a x))

  follows-if : (z : Bool) (a b c d : Decision) → Follows a b → Follows c d → Follows (if z then a else c) (if z then b else d)
  follows-if true a b c d h g = h
  follows-if false a b c d h g = g

  leads-follow : (named : Named) (link_type : LinkType) (found : Destination) (taken : Taken) (st : State) → 0 < (leads reader leaf named link_type found taken st).after.expansion_left
      → leads reader leaf named link_type found taken (richer st) ≡ richer_outcome (leads reader leaf named link_type found taken st)
  leads-follow named link_type found taken st h = grind arith

  answer-follows : (named : Named) (taken : Taken) (closer : Bracket) (st : State) (x : Option Destination) → 0 < (answered reader leaf named taken closer st x).after.expansion_left
      → answered reader leaf named taken closer (richer st) x ≡ richer_outcome (answered reader leaf named taken closer st x)
  answer-follows named taken closer st None h = refl
  answer-follows named taken closer st (Some found) h = leads-follow named (to_unknown named.link_type) found taken st h

  ask-follows : (named : Named) (taken : Taken) (closer : Bracket) (st : State) → Follows (ask reader leaf named taken closer st) (ask reader leaf named taken closer (richer st))
  ask-follows named taken closer st = grind (arith, answer-follows)

  defined-follows : (o : Option Definition) (named : Named) (taken : Taken) (closer : Bracket) (st : State) → Follows (defined_or_asked reader leaf o named taken closer st) (defined_or_asked reader leaf o named taken closer (richer st))
  defined-follows None named taken closer st = ask-follows named taken closer st
  defined-follows (Some found) named taken closer st = leads-follow named named.link_type (record { url = found.destination; title = or_empty found.title }) taken st

  -- if nothing of the limit is left, there is nothing to prove
  spent-follows : (closer : Bracket) (st : State) (y : Decision) → st.expansion_left ≡ 0 → Follows (Settled (stays reader leaf closer st)) y
  spent-follows closer st (Settled p) e = λ h. absurd (let some : 0 < st.expansion_left = h in omega (arith, some, e))
  spent-follows closer st (Asks r b) e = λ h. let some : 0 < st.expansion_left = h in omega (arith, some, e)

  refers-follow : (named : Named) (taken : Taken) (closer : Bracket) (st : State) → Follows (refers reader leaf named taken closer st) (refers reader leaf named taken closer (richer st))
  refers-follow named taken closer st = grind (arith, spent-follows, is-zero, not-zero, defined-follows)

  footnote-follows : (label : List ℕ) (taken : Taken) (closer : Bracket) (st : State) → Follows (footnote_reference reader leaf label taken closer st) (footnote_reference reader leaf label taken closer (richer st))
  footnote-follows label taken closer st = grind (arith, follows-if)

  own-follows : (label : List ℕ) (taken : Taken) (closer : Bracket) (st : State) → Follows (by_own_label reader leaf label taken closer st) (by_own_label reader leaf label taken closer (richer st))
  own-follows label taken closer st = grind (arith, follows-if, footnote-follows, refers-follow)

  reference-follows : (o : Option Parsed) (taken : Taken) (closer : Bracket) (st : State) → Follows (reference_or reader leaf o taken closer st) (reference_or reader leaf o taken closer (richer st))
  reference-follows o taken closer st = search (rules, refers-follow, follows-if, own-follows)

  link-follows : (o : Option LinkTail) (taken : Taken) (closer : Bracket) (st : State) → Follows (link_or reader leaf o taken closer st) (link_or reader leaf o taken closer (richer st))
  link-follows (Some tail) taken closer st = λ h. refl
  link-follows None taken closer st = reference-follows (unless_footnote reader leaf (reference_label_in (following reader leaf closer.end))) taken closer st

  taken-follows : (o : Option Taken) (closer : Bracket) (st : State) → Follows (with_taken reader leaf o closer st) (with_taken reader leaf o closer (richer st))
  taken-follows None closer st = λ h. refl
  taken-follows (Some taken) closer st = follows-if taken.opener.is_inactive (Settled (stays reader leaf closer st)) (Settled (stays reader leaf closer (richer st))) _ _ (λ h. refl) (link-follows (link_tail_in (following reader leaf closer.end)) taken closer st)

  wikilink-follows : (first o : Option Taken) (closer : Bracket) (st : State) → Follows (wikilink_or reader leaf first o closer st) (wikilink_or reader leaf first o closer (richer st))
  wikilink-follows None o closer st = taken-follows o closer st
  wikilink-follows (Some first) o closer st =
      follows-if (first.opener.is_inactive || (length (name_in (wiki_text reader leaf first closer)) == 0)) _ _ (Settled (wikilink reader leaf first closer st)) (Settled (wikilink reader leaf first closer (richer st)))
      (taken-follows o closer (record st { openers = tried first.nearer st.openers })) (λ h. refl)

  decide-follows : (st : State) (closer : Bracket) → Follows (decide reader leaf st closer) (decide reader leaf (richer st) closer)
  unfolding decide
  decide-follows st closer =
      let now = record st { openers = used_up st.openers } in
      follows-if (reader.options.wikilinks && first_is (λ b. b == 93) (following reader leaf closer.end)) _ _ _ _ (wikilink-follows (doubled now.openers) (nearest st.openers) closer now) (taken-follows (nearest st.openers) closer now)

  comes-follows : (Says : Saying) (asked : List Exchange) (x y : Decision) (o : Outcome) → Follows x y → Comes Says asked x o → 0 < o.after.expansion_left → Comes Says asked y (richer_outcome o)
  comes-follows Says asked x y o f c h = grind arith

  -- ## The rest of the limit never grows

  abbrev Spends : State → Outcome → Type 0
  Spends st o = o.after.expansion_left ≤ st.expansion_left

  shape_spends : (st : State) (closer : Bracket) (asked : List Exchange) (o : Outcome) → Shape reader leaf st closer asked o → Spends st o
  shape_spends st closer asked o h = grind arith

  comes-spends : (Says : Saying) (asked : List Exchange) (st : State) (closer : Bracket) (o : Outcome) → Comes Says asked (decide reader leaf st closer) o → Spends st o
  comes-spends Says asked st closer o c = go (decide reader leaf st closer) (always-by reader leaf st closer (Spends st) (shape_spends st closer)) c
    where
      go : (x : Decision) → Always (Spends st) x → Comes Says asked x o → Spends st o
      go (Settled outcome) h c = subst (Spends st) (sym c) h
      go (Asks question answered) h c = subst (Spends st) (sym c.2) (h c.0)

  reads-spend : (Says : Saying) (a : State) (parts : Parts) (b : State) → Reads (token reader leaf) (decide reader leaf) Says a parts b → b.expansion_left ≤ a.expansion_left
  reads-spend Says a NoParts b h = subst (λ (x : State). x.expansion_left ≤ a.expansion_left) (sym h) (omega arith)
  reads-spend Says a (SinglePart item after) b h = reads-spend Says (moved h.0 a) after b h.2
  reads-spend Says a (Form opener inside closer formed after) b h = search (rules, comes-spends, reads-spend Says (opened opener a) inside h.until h.inside, reads-spend Says h.next after b h.after)
  reads-spend Says a (Closing closer after) b h = grind (arith, comes-spends, reads-spend Says h.next after b h.after)
  reads-spend Says a (Opening opener after) b h = reads-spend Says (opened opener a) after b h.1

  reads-richer : (Says : Saying) (a : State) (parts : Parts) (b : State) → 0 < b.expansion_left → Reads (token reader leaf) (decide reader leaf) Says a parts b → Reads (token reader leaf) (decide reader leaf) Says (richer a) parts (richer b)
  reads-richer Says a NoParts b w h = ap richer h
  reads-richer Says a (SinglePart item after) b w h = (h.0, h.1, reads-richer Says (moved h.0 a) after b w h.2)
  reads-richer Says a (Form opener inside closer formed after) b w h =
      let o : Outcome = record { result = Forms (openings inside) formed; after = h.next } in
      let z = reads-spend Says h.next after b h.after in
      let y = comes-spends Says h.until.asked h.until closer o h.comes in
      let some : 0 < h.next.expansion_left = omega (arith, w, z) in
      record {
        until = richer h.until;
        next = richer h.next;
        opens = h.opens;
        inside = reads-richer Says (opened opener a) inside h.until (omega (arith, some, y)) h.inside;
        closes = h.closes;
        comes = comes-follows Says h.until.asked (decide reader leaf h.until closer) (decide reader leaf (richer h.until) closer) o (decide-follows h.until closer) h.comes some;
        after = reads-richer Says h.next after b w h.after;
      }
  reads-richer Says a (Closing closer after) b w h = grind (arith, reads-spend, comes-follows, decide-follows, reads-richer Says h.next after b w h.after)
  reads-richer Says a (Opening opener after) b w h = (h.0, reads-richer Says (opened opener a) after b w h.1)

module _ (reader : Reader) (k : ℕ) (Says : Saying) where
  leaf-spends : (leaf : Leaf) (before after : Between) (events : List Ranged) → ReadsLeaf reader Says leaf before events after → after.expansion_left ≤ before.expansion_left
  leaf-spends leaf before after events h =
      subst (λ (x : Between). x.expansion_left ≤ before.expansion_left) (sym h.after_is) (reads-spend reader leaf k Says (entering leaf before) h.parts h.last h.reads.reads)

  leaf-richer : (leaf : Leaf) (before after : Between) (events : List Ranged) → 0 < after.expansion_left → ReadsLeaf reader Says leaf before events after → ReadsLeaf reader Says leaf (with_more k before) events (with_more k after)
  leaf-richer leaf before after events w h = record {
    parts = h.parts;
    last = richer reader leaf k h.last;
    spans = h.spans;
    reads = record { reads = reads-richer reader leaf k Says (entering leaf before) h.parts h.last (subst (λ (x : Between). 0 < x.expansion_left) h.after_is w) h.reads.reads; ends = h.reads.ends };
    are = h.are;
    events_are = h.events_are;
    after_is = ap (with_more k) h.after_is;
  }

  all-spend : (segments : List Segment) (before after : Between) (events : List Ranged) → ReadsAll reader Says segments before events after → after.expansion_left ≤ before.expansion_left
  all-spend [] before after events h = subst (λ (x : Between). x.expansion_left ≤ before.expansion_left) (sym h.1) (omega arith)
  all-spend (Given r ∷ others) before after events h = all-spend others before after h.0 h.1
  all-spend (Content leaf ∷ others) before after events h =
      let x = leaf-spends leaf before h.2 h.0 h.3 in let y = all-spend others h.2 after h.1 h.4 in omega (arith, x, y)

  pub all-richer : (segments : List Segment) (before after : Between) (events : List Ranged) → 0 < after.expansion_left → ReadsAll reader Says segments before events after → ReadsAll reader Says segments (with_more k before) events (with_more k after)
  all-richer [] before after events w h = (h.0, ap (with_more k) h.1)
  all-richer (Given r ∷ others) before after events w h = (h.0, all-richer others before after h.0 w h.1, h.2)
  all-richer (Content leaf ∷ others) before after events w h =
      let y = all-spend others h.2 after h.1 h.4 in
      (h.0, h.1, with_more k h.2, leaf-richer leaf before h.2 h.0 (omega (arith, w, y)) h.3, all-richer others h.2 after h.1 w h.4, h.5)
