-- The possible outcomes of the decision about a closing bracket, case by case.
use Rattle.std.specs.Prelude.{suc, ◌-◌, ◌==◌, ◌&&◌, ◌||◌, not, if◌then◌else◌, drop, map}
use Rattle.std.proofs.Common.{◌≡◌, ◌⊎◌, inl, inr, ◌≤◌, ℕ, Bool, true, false, List, [], ◌∷◌, ◌++◌, length, Option, Some, None, refl, arith, rules}
use Rattle.cmark_grammar.specs.Answers.{Destination}
use Rattle.cmark_grammar.specs.BlockDocument as block
use Rattle.cmark_grammar.specs.BracketDecisions.{Named, or_empty, name_in, following, place, stays, forms, inline_link, leads, question, answered, with_answer, ask, defined_or_asked, refers, one_line_footnotes, is_one_line, is_footnote_label, footnote_reference, as_label, collapsed_or_shortcut, by_own_label, reference_or, unless_footnote, link_or, with_taken, wiki_text, wikilink, wikilink_or, decide}
use Rattle.cmark_grammar.specs.BracketStates.{Opener, State, Outcome, Decision, Settled, Asks}
use Rattle.cmark_grammar.specs.Items.{Bracket}
use Rattle.cmark_grammar.specs.Labels.{fold, normal_form}
use Rattle.cmark_grammar.specs.LeafText.{Leaf}
use Rattle.cmark_grammar.specs.Letters.{first_is}
use Rattle.cmark_grammar.specs.LinkDefinitions.{Parsed}
use Rattle.cmark_grammar.specs.LinkTails.{LinkTail, link_tail_in, after_collapsed, is_bracketed_label}
use Rattle.cmark_grammar.specs.LinkType.{LinkType, Reference, to_unknown}
use Rattle.cmark_grammar.specs.OpenBrackets.{Taken, nearest, used_up, doubled, tried, dropped}
use Rattle.cmark_grammar.specs.Parts.{Footnote}
use Rattle.cmark_grammar.specs.Questions.{Question, Exchange}
use Rattle.cmark_grammar.specs.Readers.{Reader}
use Rattle.cmark_inline_model.proofs.ShorterRests.{LeavesBelow, ParsedBelow, reference_label-shorter, collapsed-shorter}
use Rattle.cmark_inline_model.specs.ReferenceExpansion.{cost_as}
use Rattle.cmark_inline_model.specs.LinkRules.{IsReferenceForm, IsQuestion}
use Rattle.cmark_inline_model.proofs.FindRests.{IsAfter, ParsedAfter}
use Rattle.cmark_inline_model.proofs.LinkRests.{LeavesAfter, collapsed-following, reference_label-following}
use Rattle.cmark_inline_model.proofs.Openers.{Alike, alike-then, used-alike, tried-alike, IsTaken, AreTaken, taken-alike, nearest-taken, doubled-taken, IsFar, doubled-far, IsTouched, AreTouched, doubled-touched, touched-alike}

-- the same state except for its label, its questions and its opening brackets
abbrev pub with_all : State → Option ℕ → List Exchange → List Opener → State
with_all s label asked os = record { at = s.at; expansion_left = s.expansion_left; label_close = label; asked = asked; openers = os }

-- the question that was put, with its answer
abbrev pub exchange : Question → Option Destination → Exchange
exchange q answer = record { question = q; answer = answer }

module _ (reader : Reader) (leaf : Leaf) where
  -- the end of the closing bracket, or of some text after it, which ends with an ASCII byte
  abbrev pub IsPlace : Bracket → ℕ → Type 0
  IsPlace closer p = (p ≡ closer.end) ⊎ ((rest : List ℕ) × (length rest ≤ length (following reader leaf closer.end)) × (p ≡ place reader leaf rest) × IsAfter (following reader leaf closer.end) rest)

  -- a reference that may follow this closing bracket
  pub record IsNamed (closer : Bracket) (named : Named) : Type 0 where
    pub ends : IsPlace closer named.end
    pub passes : IsPlace closer named.resume
    pub order : (named.end ≡ named.resume) ⊎ (named.end ≡ closer.end)
    pub form : IsReferenceForm named.link_type
    pub costs : (size : ℕ) → (cost_as named.link_type size ≡ size ∷ []) × (cost_as (to_unknown named.link_type) size ≡ size ∷ [])

  -- the destination comes from a definition, or from the answer to the last question
  pub data Leads (named : Named) (link_type : LinkType) (found : Destination) (asked : List Exchange) : Type 0 where
    Defined : (definition : block.Reference) → reader.definition (fold named.label) ≡ Some definition → link_type ≡ named.link_type
        → found ≡ record { url = definition.destination; title = or_empty definition.title } → Leads named link_type found asked
    Answered : reader.definition (fold named.label) ≡ None → link_type ≡ to_unknown named.link_type
        → (earlier : List Exchange) (q : Question) → asked ≡ earlier ++ (exchange q (Some found) ∷ []) → q.link_type ≡ named.link_type → q.reference ≡ normal_form named.label
        → Leads named link_type found asked

  -- it was taken of these, and is active
  pub record Takes (os : List Opener) (taken : Taken) : Type 0 where
    pub is_taken : IsTaken os taken
    pub active : taken.opener.is_inactive ≡ false

  -- a question about the text from the taken bracket to an offset after the closing one, put while the reference expansion limit is not
  -- used up
  pub record IsPut (s : State) (closer : Bracket) (q : Question) : Type 0 where
    pub taken : Taken
    pub takes : Takes s.openers taken
    pub start : q.start ≡ taken.opener.bracket.start
    pub ends : IsPlace closer q.end
    pub some : (s.expansion_left == 0) ≡ false

  pub data Shape (s : State) (closer : Bracket) (asked : List Exchange) (o : Outcome) : Type 0 where
    Stays : (label : Option ℕ) (os : List Opener) → Alike s.openers os → o ≡ stays reader leaf closer (with_all s label asked os) → Shape s closer asked o
    ToInline : (label : Option ℕ) (os : List Opener) (taken : Taken) (tail : LinkTail) → Alike s.openers os → Takes s.openers taken
        → link_tail_in (following reader leaf closer.end) ≡ Some tail → o ≡ inline_link reader leaf tail taken (with_all s label asked os) → Shape s closer asked o
    ToReference : (label : Option ℕ) (os : List Opener) (taken : Taken) (named : Named) (link_type : LinkType) (found : Destination) → Alike s.openers os → Takes s.openers taken
        → IsNamed closer named → (s.expansion_left == 0) ≡ false → Leads named link_type found asked → o ≡ leads reader leaf named link_type found taken (with_all s label asked os) → Shape s closer asked o
    ToFootnote : (label : Option ℕ) (os : List Opener) (taken : Taken) (name : List ℕ) → Alike s.openers os → Takes s.openers taken → reader.options.footnotes ≡ true
        → o ≡ forms reader leaf taken (Footnote name closer.end) closer.end (map dropped) (with_all s label asked os) → Shape s closer asked o
    ToWiki : (label : Option ℕ) (os : List Opener) (first : Taken) → 1 ≤ first.nearer → Alike s.openers os → Takes s.openers first → reader.options.wikilinks ≡ true
        → first_is (λ b. b == 93) (following reader leaf closer.end) ≡ true → IsTouched s.openers first → o ≡ wikilink reader leaf first closer (with_all s label asked os) → Shape s closer asked o

  abbrev pub DecisionShape : State → Bracket → Decision → Type 0
  DecisionShape s closer (Settled o) = Shape s closer s.asked o
  DecisionShape s closer (Asks q answered) = (IsQuestion reader q × IsPut s closer q) × ((answer : Option Destination) → Shape s closer (s.asked ++ (exchange q answer ∷ [])) (answered answer))

  either : (s : State) (closer : Bracket) (b : Bool) (x y : Decision) → (b ≡ true → DecisionShape s closer x) → (b ≡ false → DecisionShape s closer y) → DecisionShape s closer (if b then x else y)
  either s closer true x y h k = h refl
  either s closer false x y h k = k refl

  module _ (s : State) (closer : Bracket) where
    stay_shape : (label : Option ℕ) (os : List Opener) → Alike s.openers os → DecisionShape s closer (Settled (stays reader leaf closer (with_all s label s.asked os)))
    stay_shape label os h = Stays label os h refl

    module _ (taken : Taken) (takes : Takes s.openers taken) where
      ask_shape : (label : Option ℕ) (os : List Opener) (named : Named) → Alike s.openers os → IsNamed closer named → (s.expansion_left == 0) ≡ false → reader.definition (fold named.label) ≡ None
          → DecisionShape s closer (ask reader leaf named taken closer (with_all s label s.asked os))
      ask_shape label os named h named_is some none = search (rules, either, by, stay_shape)
        where
          by : (answer : Option Destination) → Shape s closer (s.asked ++ (exchange (question reader leaf named taken.opener.bracket) answer ∷ []))
              (answered reader leaf named taken closer (with_answer reader leaf (question reader leaf named taken.opener.bracket) answer (with_all s label s.asked os)) answer)
          by None = Stays label os h refl
          by (Some found) =
              ToReference label os taken named (to_unknown named.link_type) found h takes named_is some
              (Answered none refl s.asked (question reader leaf named taken.opener.bracket) refl refl refl) refl

      defined_shape : (found : Option block.Reference) (label : Option ℕ) (os : List Opener) (named : Named) → reader.definition (fold named.label) ≡ found → Alike s.openers os → IsNamed closer named → (s.expansion_left == 0) ≡ false
          → DecisionShape s closer (defined_or_asked reader leaf found named taken closer (with_all s label s.asked os))
      defined_shape (Some found) label os named e h named_is some =
          ToReference label os taken named named.link_type (record { url = found.destination; title = or_empty found.title }) h takes named_is some (Defined found e refl refl) refl
      defined_shape None label os named e h named_is some = ask_shape label os named h named_is some e

      refers_shape : (label : Option ℕ) (os : List Opener) (named : Named) → Alike s.openers os → IsNamed closer named → DecisionShape s closer (refers reader leaf named taken closer (with_all s label s.asked os))
      refers_shape label os named h named_is = search (rules, either, stay_shape, defined_shape)

      own_named : (label : List ℕ) (o : Option (List ℕ)) → LeavesBelow (suc (length (following reader leaf closer.end))) o → LeavesAfter (following reader leaf closer.end) o → IsNamed closer (collapsed_or_shortcut reader leaf label closer.end o)
      own_named label None h k = record { ends = inl refl; passes = inl refl; order = inl refl; form = tt; costs = λ size. (refl, refl) }
      own_named label (Some rest) h k = record { ends = inl refl; passes = inr (rest, omega arith, refl, k); order = inr refl; form = tt; costs = λ size. (refl, refl) }

      footnote_shape : (name : List ℕ) (os : List Opener) (label : Option ℕ) → Alike s.openers os → reader.options.footnotes ≡ true → DecisionShape s closer (footnote_reference reader leaf name taken closer (with_all s label s.asked os))
      footnote_shape name os label h on =
          let t = with_all s label s.asked os in
          either s closer (one_line_footnotes reader leaf && not (reader.has_footnote (fold name))) (Settled (stays reader leaf closer t))
          (Settled (forms reader leaf taken (Footnote (normal_form name) closer.end) closer.end (map dropped) t))
          (λ e. stay_shape label os h) (λ e. ToFootnote label os taken (normal_form name) h takes on refl)

      and_left : (a b : Bool) → (a && b) ≡ true → a ≡ true
      and_left true b e = refl
      and_left false b e = cc

      footnotes_on : (bytes : List ℕ) → is_footnote_label reader leaf bytes ≡ true → reader.options.footnotes ≡ true
      footnotes_on [] e = cc
      footnotes_on (b ∷ bs) e = and_left reader.options.footnotes ((b == 94) && (is_bracketed_label bs && (reader.options.old_footnotes || is_one_line reader leaf bs))) e

      own_shape : (bytes : List ℕ) (label : Option ℕ) (os : List Opener) → Alike s.openers os → DecisionShape s closer (by_own_label reader leaf bytes taken closer (with_all s label s.asked os))
      own_shape bytes label os h =
          let t = with_all s label s.asked os in
          let named = collapsed_or_shortcut reader leaf (as_label reader leaf bytes) closer.end (after_collapsed (following reader leaf closer.end)) in
          either s closer (is_footnote_label reader leaf bytes) (footnote_reference reader leaf (as_label reader leaf (drop 1 bytes)) taken closer t)
          (if is_bracketed_label bytes then refers reader leaf named taken closer t else Settled (stays reader leaf closer t))
          (λ e. footnote_shape (as_label reader leaf (drop 1 bytes)) os label h (footnotes_on bytes e))
          (λ e. either s closer (is_bracketed_label bytes) (refers reader leaf named taken closer t) (Settled (stays reader leaf closer t))
          (λ f. refers_shape label os named h (own_named (as_label reader leaf bytes) (after_collapsed (following reader leaf closer.end)) (collapsed-shorter (following reader leaf closer.end)) (collapsed-following (following reader leaf closer.end))))
          (λ f. stay_shape label os h))

      reference_shape : (found : Option Parsed) (label : Option ℕ) (os : List Opener) → ParsedBelow (length (following reader leaf closer.end)) found → ParsedAfter (following reader leaf closer.end) found → Alike s.openers os
          → DecisionShape s closer (reference_or reader leaf found taken closer (with_all s label s.asked os))
      reference_shape (Some found) label os f k h = grind (arith, refers_shape)
      reference_shape None label os f k h = search (rules, either, stay_shape, own_shape)

      unless_below : (n : ℕ) (found : Option Parsed) → ParsedBelow n found → ParsedBelow n (unless_footnote reader leaf found)
      unless_below n found h = grind arith

      unless_after : (found : Option Parsed) → ParsedAfter (following reader leaf closer.end) found → ParsedAfter (following reader leaf closer.end) (unless_footnote reader leaf found)
      unless_after found h = grind arith

      link_shape : (tail : Option LinkTail) (label : Option ℕ) (os : List Opener) → link_tail_in (following reader leaf closer.end) ≡ tail → Alike s.openers os
          → DecisionShape s closer (link_or reader leaf tail taken closer (with_all s label s.asked os))
      link_shape (Some tail) label os e h = ToInline label os taken tail h takes e refl
      link_shape None label os e h = grind (arith, reference_shape, unless_below, reference_label-shorter, unless_after, reference_label-following)

    with_taken_shape : (taken : Option Taken) (label : Option ℕ) (os : List Opener) → AreTaken s.openers taken → Alike s.openers os → DecisionShape s closer (with_taken reader leaf taken closer (with_all s label s.asked os))
    with_taken_shape None label os h k = stay_shape label os k
    with_taken_shape (Some taken) label os h k = search (rules, either, stay_shape, link_shape)

    or_false : (a b : Bool) → (a || b) ≡ false → a ≡ false
    or_false true b e = cc
    or_false false b e = refl

    wiki_shape : (first taken : Option Taken) (label : Option ℕ) (os : List Opener) → reader.options.wikilinks ≡ true → first_is (λ b. b == 93) (following reader leaf closer.end) ≡ true
        → IsFar first → AreTouched os first → AreTaken os first → AreTaken s.openers taken → Alike s.openers os → DecisionShape s closer (wikilink_or reader leaf first taken closer (with_all s label s.asked os))
    wiki_shape None taken label os on next far double f h k = with_taken_shape taken label os h k
    wiki_shape (Some first) taken label os on next far double f h k =
        let t = with_all s label s.asked os in
        let refused = first.opener.is_inactive || (length (name_in (wiki_text reader leaf first closer)) == 0) in
        either s closer refused (with_taken reader leaf taken closer (with_all s label s.asked (tried first.nearer os))) (Settled (wikilink reader leaf first closer t))
        (λ e. with_taken_shape taken label (tried first.nearer os) h (alike-then s.openers os (tried first.nearer os) k (tried-alike first.nearer os)))
        (λ e. ToWiki label os first far k (record { is_taken = taken-alike s.openers os first k f; active = or_false first.opener.is_inactive (length (name_in (wiki_text reader leaf first closer)) == 0) e }) on next (touched-alike s.openers os first k double) refl)

  pub decide-shape : (s : State) (closer : Bracket) → DecisionShape s closer (decide reader leaf s closer)
  unfolding decide
  decide-shape s closer =
      let os = used_up s.openers in
      let t = with_all s s.label_close s.asked os in
      let near = nearest s.openers in
      let next = first_is (λ b. b == 93) (following reader leaf closer.end) in
      either s closer (reader.options.wikilinks && next) (wikilink_or reader leaf (doubled os) near closer t) (with_taken reader leaf near closer t)
      (λ e. wiki_shape s closer (doubled os) near s.label_close os (left reader.options.wikilinks next e) (right reader.options.wikilinks next e) (doubled-far os) (doubled-touched os) (doubled-taken os) (nearest-taken s.openers) (used-alike s.openers))
      (λ e. with_taken_shape s closer near s.label_close os (nearest-taken s.openers) (used-alike s.openers))
    where
      left : (a b : Bool) → (a && b) ≡ true → a ≡ true
      left true b e = refl
      left false b e = cc

      right : (a b : Bool) → (a && b) ≡ true → b ≡ true
      right true b e = e
      right false b e = cc
