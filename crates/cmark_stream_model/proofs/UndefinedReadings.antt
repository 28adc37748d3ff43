-- If nothing is defined and there is no callback, references take nothing of the reference expansion limit, and a reading goes on with the next part
-- of the text.
use Rattle.std.proofs.Common.{◌≡◌, ℕ, zero, suc, ◌-◌, Bool, true, false, List, [], ◌∷◌, ◌++◌, append-nil, drop, take, refl, sym, ap, ◌∙◌, subst, Option, Some, None, arith}
use Rattle.std.specs.Prelude.{if◌then◌else◌}
use Rattle.cmark_grammar.specs.BlockDocument.{BlockDocument, Reference as Definition}
use Rattle.cmark_grammar.specs.BracketDecisions.{Named, following, stays, ask, refers, footnote_reference, by_own_label, reference_or, unless_footnote, link_or, with_taken, wikilink_or, decide}
use Rattle.cmark_grammar.specs.BracketReading.{Reads, Comes}
use Rattle.cmark_grammar.specs.BracketStates.{State, moved, opened, StaysText, Forms, Outcome, Decision, Settled, Asks}
use Rattle.cmark_block_model.specs.DocumentModel.{document}
use Rattle.cmark_grammar.specs.Event.{Ranged}
use Rattle.cmark_grammar.specs.InlineTokens.{token}
use Rattle.cmark_grammar.specs.Items.{Bracket}
use Rattle.cmark_grammar.specs.Labels.{fold}
use Rattle.cmark_grammar.specs.LeafReading.{Between, entering, ReadsLeaf}
use Rattle.cmark_grammar.specs.LeafText.{Leaf}
use Rattle.cmark_grammar.specs.LinkDefinitions.{Parsed}
use Rattle.cmark_grammar.specs.LinkTails.{LinkTail, link_tail_in, reference_label_in}
use Rattle.cmark_grammar.specs.OpenBrackets.{Taken}
use Rattle.cmark_grammar.specs.Parts.{Parts, Nil as NoParts, Single as SinglePart, Form, Closing, Opening, openings}
use Rattle.cmark_grammar.specs.Questions.{Saying, IsNext}
use Rattle.cmark_grammar.specs.Readers.{Reader}
use Rattle.cmark_grammar.specs.SpanDocuments.{Profile, Segment, Given, Content, Left, ReadsAll, IsReading, at_start, reader_of, segments}
use Rattle.cmark_block_model.specs.Tails.{document_after}
use Rattle.cmark_stream_model.specs.Continued.{AskAlike, definitions_of, footnotes_of, reader_with}
use Rattle.cmark_stream_model.specs.Tails.{IsJoinedAt}
use Rattle.cmark_stream_model.specs.Undefined.{DefinesNothing, HasNoDefinitions, IsReadAlone}
use Rattle.cmark_stream_model.proofs.JoinedReadings.{joined}
use Rattle.cmark_stream_model.proofs.SettledReadings.{events-stay}
use Rattle.cmark_stream_model.proofs.TailFacts.{readings-continue, tail-segments}

-- ## Nothing is taken

module _ (reader : Reader) (leaf : Leaf) (undefined : (folded : List ℕ) → reader.definition folded ≡ None) (silent : reader.has_callback ≡ false) where
  -- the decision is settled, and as much is left following it
  abbrev Keeps : ℕ → Decision → Type 0
  Keeps n (Settled o) = o.after.expansion_left ≡ n
  Keeps n (Asks q a) = ⊥

  keeps-if : (n : ℕ) (z : Bool) (a b : Decision) → Keeps n a → Keeps n b → Keeps n (if z then a else b)
  keeps-if n true a b h g = h
  keeps-if n false a b h g = g

  ask-keeps : (named : Named) (taken : Taken) (closer : Bracket) (st : State) → Keeps st.expansion_left (ask reader leaf named taken closer st)
  ask-keeps named taken closer st = grind arith

  refers-keep : (named : Named) (taken : Taken) (closer : Bracket) (st : State) → Keeps st.expansion_left (refers reader leaf named taken closer st)
  refers-keep named taken closer st = grind (arith, keeps-if, ask-keeps)

  footnote-keeps : (label : List ℕ) (taken : Taken) (closer : Bracket) (st : State) → Keeps st.expansion_left (footnote_reference reader leaf label taken closer st)
  footnote-keeps label taken closer st = grind (arith, keeps-if)

  own-keeps : (label : List ℕ) (taken : Taken) (closer : Bracket) (st : State) → Keeps st.expansion_left (by_own_label reader leaf label taken closer st)
  own-keeps label taken closer st = grind (arith, keeps-if, footnote-keeps, refers-keep)

  reference-keeps : (o : Option Parsed) (taken : Taken) (closer : Bracket) (st : State) → Keeps st.expansion_left (reference_or reader leaf o taken closer st)
  reference-keeps o taken closer st = grind (arith, refers-keep, keeps-if, own-keeps)

  link-keeps : (o : Option LinkTail) (taken : Taken) (closer : Bracket) (st : State) → Keeps st.expansion_left (link_or reader leaf o taken closer st)
  link-keeps (Some tail) taken closer st = refl
  link-keeps None taken closer st = reference-keeps (unless_footnote reader leaf (reference_label_in (following reader leaf closer.end))) taken closer st

  taken-keeps : (o : Option Taken) (closer : Bracket) (st : State) → Keeps st.expansion_left (with_taken reader leaf o closer st)
  taken-keeps None closer st = refl
  taken-keeps (Some taken) closer st = keeps-if st.expansion_left taken.opener.is_inactive (Settled (stays reader leaf closer st)) _ refl (link-keeps (link_tail_in (following reader leaf closer.end)) taken closer st)

  wikilink-keeps : (first o : Option Taken) (closer : Bracket) (st : State) → Keeps st.expansion_left (wikilink_or reader leaf first o closer st)
  wikilink-keeps first o closer st = grind (arith, taken-keeps, keeps-if)

  decide-keeps : (st : State) (closer : Bracket) → Keeps st.expansion_left (decide reader leaf st closer)
  unfolding decide
  decide-keeps st closer = grind (arith, keeps-if, wikilink-keeps, taken-keeps)

  module _ (Says : Saying) where
    comes-keeps : (st : State) (closer : Bracket) (o : Outcome) → Comes Says st.asked (decide reader leaf st closer) o → o.after.expansion_left ≡ st.expansion_left
    comes-keeps st closer o c = grind (arith, decide-keeps)

    reads-keep : (a : State) (parts : Parts) (b : State) → Reads (token reader leaf) (decide reader leaf) Says a parts b → b.expansion_left ≡ a.expansion_left
    reads-keep a NoParts b h = ap (λ (s : State). s.expansion_left) h
    reads-keep a (SinglePart item after) b h = reads-keep (moved h.0 a) after b h.2
    reads-keep a (Form opener inside closer formed after) b h =
        reads-keep h.next after b h.after ∙ comes-keeps h.until closer (record { result = Forms (openings inside) formed; after = h.next }) h.comes ∙ reads-keep (opened opener a) inside h.until h.inside
    reads-keep a (Closing closer after) b h = reads-keep h.next after b h.after ∙ comes-keeps a closer (record { result = StaysText; after = h.next }) h.comes
    reads-keep a (Opening opener after) b h = reads-keep (opened opener a) after b h.1

    leaf-keeps : (before after : Between) (events : List Ranged) → ReadsLeaf reader Says leaf before events after → after.expansion_left ≡ before.expansion_left
    leaf-keeps before after events h = ap (λ (x : Between). x.expansion_left) h.after_is ∙ reads-keep (entering leaf before) h.parts h.last h.reads.reads

module _ (reader : Reader) (undefined : (folded : List ℕ) → reader.definition folded ≡ None) (silent : reader.has_callback ≡ false) (Says : Saying) where
  pub all-keep : (segments : List Segment) (before after : Between) (events : List Ranged) → ReadsAll reader Says segments before events after → after.expansion_left ≡ before.expansion_left
  all-keep [] before after events h = ap (λ (x : Between). x.expansion_left) h.1
  all-keep (Given r ∷ others) before after events h = all-keep others before after h.0 h.1
  all-keep (Content leaf ∷ others) before after events h = all-keep others h.2 after h.1 h.4 ∙ leaf-keeps reader leaf undefined silent Says before h.2 h.0 h.3

-- ## A reading goes on

take-drop : (n : ℕ) (text : List ℕ) → take n text ++ drop n text ≡ text
take-drop zero text = refl
take-drop (suc n) [] = refl
take-drop (suc n) (b ∷ bs) = ap (λ l. b ∷ l) (take-drop n bs)

module _ (profile : Profile) (s : List ℕ) (d e : List ℕ → Option Definition) (f g : List ℕ → Bool) (none : DefinesNothing d f) (no-more : DefinesNothing e g) where
  ask-alike : (ss : List Segment) → AskAlike profile s d e f g ss
  ask-alike [] = tt
  ask-alike (Given r ∷ ss) = ask-alike ss
  ask-alike (Content leaf ∷ ss) = (λ label asks. (none.definitions (fold label) ∙ sym (no-more.definitions (fold label)), none.footnotes (fold label) ∙ sym (no-more.footnotes (fold label))), ask-alike ss)

module _ (profile : Profile) (silent : profile.has_callback ≡ false) (text : List ℕ) (from : ℕ) (at-joint : IsJoinedAt profile.options profile.lookup text from) (none : HasNoDefinitions (document text profile.options profile.lookup))
    (first later : List Ranged) (alone : IsReadAlone profile (take from text) first) (left : Left (reader_of text profile (document text profile.options profile.lookup)) (segments (document_after text profile.options profile.lookup from)) profile.reference_expansion_limit [] later) where
  abbrev whole : BlockDocument
  whole = document text profile.options profile.lookup

  abbrev reader : Reader
  reader = reader_of text profile whole

  earlier : ReadsAll reader (IsNext []) (segments (document (take from text) profile.options profile.lookup)) (at_start profile) first (at_start profile)
  earlier =
      subst (λ t. ReadsAll (reader_with profile t (definitions_of whole) (footnotes_of whole)) (IsNext []) (segments (document (take from text) profile.options profile.lookup)) (at_start profile) first (at_start profile))
      (take-drop from text) (alone (drop from text) (definitions_of whole) (footnotes_of whole) none)

  pub undefined-reading : IsReading text profile [] (first ++ later)
  undefined-reading = readings-continue text profile from at-joint first later (at_start profile) earlier refl left

  same-after : left.after ≡ at_start profile
  same-after = grind (arith, all-keep)

  all : ReadsAll reader (IsNext []) (segments whole) (at_start profile) (first ++ later) (at_start profile)
  all = grind (arith, tail-segments, joined, earlier, same-after)

  pub undefined-alone : IsReadAlone profile text (first ++ later)
  undefined-alone more d f nothing =
      events-stay profile text [] (definitions_of whole) d (footnotes_of whole) f more (IsNext []) (at_start profile) (at_start profile) (first ++ later)
      (ask-alike profile (text ++ []) (definitions_of whole) d (footnotes_of whole) f none nothing (segments whole))
      (subst (λ t. ReadsAll (reader_with profile t (definitions_of whole) (footnotes_of whole)) (IsNext []) (segments whole) (at_start profile) (first ++ later) (at_start profile)) (sym (append-nil text)) all)
