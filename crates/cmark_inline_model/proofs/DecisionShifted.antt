-- A decision does not hang on the questions that were put before it.
use Rattle.std.specs.Prelude.{◌-◌, ◌==◌, ◌||◌, if◌then◌else◌}
use Rattle.std.proofs.Common.{◌≡◌, ℕ, Bool, true, false, List, ◌∷◌, ◌++◌, length, Option, Some, None, refl, sym, ap, ◌∙◌, append_assoc, arith, rules}
use Rattle.cmark_grammar.specs.Answers.{Destination}
use Rattle.cmark_grammar.specs.BlockDocument as block
use Rattle.cmark_grammar.specs.BracketDecisions.{Named, name_in, following, place, stays, question, answered, with_answer, ask, defined_or_asked, refers, footnote_reference, as_label, by_own_label, reference_or, unless_footnote, link_or, with_taken, wiki_text, wikilink, wikilink_or, taking, decide}
use Rattle.cmark_grammar.specs.BracketReading.{Comes}
use Rattle.cmark_grammar.specs.BracketStates.{State, Outcome, Decision, Settled, Asks}
use Rattle.cmark_grammar.specs.Items.{Bracket}
use Rattle.cmark_grammar.specs.LeafText.{Leaf}
use Rattle.cmark_grammar.specs.LinkDefinitions.{Parsed}
use Rattle.cmark_grammar.specs.LinkTails.{LinkTail, reference_label_in}
use Rattle.cmark_grammar.specs.LinkType.{Reference}
use Rattle.cmark_grammar.specs.OpenBrackets.{Taken, nearest, used_up, tried}
use Rattle.cmark_grammar.specs.Questions.{Question, Exchange, IsNext}
use Rattle.cmark_grammar.specs.Readers.{Reader}
use Rattle.cmark_inline_model.specs.Progress.{asked_after, outcome_after, IsShifted}

next_after : (h all asked : List Exchange) (q : Question) (answer : Option Destination) → IsNext all asked q answer → IsNext (h ++ all) (h ++ asked) q answer
next_after h all asked q answer k =
    record { rest = k.rest; cut = ap (λ l. h ++ l) k.cut ∙ sym (append_assoc h asked (record { question = q; answer = answer } ∷ k.rest)) }

module _ (h : List Exchange) where
  -- the second decision has the outcome of the first, after other questions
  abbrev Follows : State → Decision → Decision → Type 0
  Follows t d e = (all : List Exchange) (o : Outcome) → Comes (IsNext all) t.asked d o → Comes (IsNext (h ++ all)) (h ++ t.asked) e (outcome_after h o)

  settled : (t : State) (a b : Outcome) → outcome_after h a ≡ b → Follows t (Settled a) (Settled b)
  settled t a b e all o k = ap (outcome_after h) k ∙ e

  by_bool : (t : State) (b : Bool) (x y u v : Decision) → Follows t x u → Follows t y v → Follows t (if b then x else y) (if b then u else v)
  by_bool t true x y u v f g = f
  by_bool t false x y u v f g = g

  module _ (reader : Reader) (leaf : Leaf) where
    answered_after : (named : Named) (taken : Taken) (closer : Bracket) (t : State) (q : Question) (answer : Option Destination)
        → outcome_after h (answered reader leaf named taken closer (with_answer reader leaf q answer t) answer) ≡ answered reader leaf named taken closer (with_answer reader leaf q answer (asked_after h t)) answer
    answered_after named taken closer t q answer = grind (arith, append_assoc)

    ask_after : (named : Named) (taken : Taken) (closer : Bracket) (t : State) → Follows t (ask reader leaf named taken closer t) (ask reader leaf named taken closer (asked_after h t))
    ask_after named taken closer t =
        let q = question reader leaf named taken.opener.bracket in
        by_bool t reader.has_callback
        (Asks q (λ answer. answered reader leaf named taken closer (with_answer reader leaf q answer t) answer)) (Settled (stays reader leaf closer t))
        (Asks q (λ answer. answered reader leaf named taken closer (with_answer reader leaf q answer (asked_after h t)) answer)) (Settled (stays reader leaf closer (asked_after h t)))
        (λ all o k. (k.0, next_after h all t.asked q k.0 k.1, ap (outcome_after h) k.2 ∙ answered_after named taken closer t q k.0))
        (settled t (stays reader leaf closer t) (stays reader leaf closer (asked_after h t)) refl)

    defined_after : (found : Option block.Reference) (named : Named) (taken : Taken) (closer : Bracket) (t : State)
        → Follows t (defined_or_asked reader leaf found named taken closer t) (defined_or_asked reader leaf found named taken closer (asked_after h t))
    defined_after (Some found) named taken closer t = λ all o k. ap (outcome_after h) k
    defined_after None named taken closer t = ask_after named taken closer t

    refers_after : (named : Named) (taken : Taken) (closer : Bracket) (t : State) → Follows t (refers reader leaf named taken closer t) (refers reader leaf named taken closer (asked_after h t))
    refers_after named taken closer t = grind (arith, by_bool, settled, defined_after)

    footnote_after : (name : List ℕ) (taken : Taken) (closer : Bracket) (t : State) → Follows t (footnote_reference reader leaf name taken closer t) (footnote_reference reader leaf name taken closer (asked_after h t))
    footnote_after name taken closer t = grind (arith, by_bool, settled)

    own_after : (bytes : List ℕ) (taken : Taken) (closer : Bracket) (t : State) → Follows t (by_own_label reader leaf bytes taken closer t) (by_own_label reader leaf bytes taken closer (asked_after h t))
    own_after bytes taken closer t = grind (arith, by_bool, footnote_after, refers_after, settled)

    reference_after : (found : Option Parsed) (taken : Taken) (closer : Bracket) (t : State) → Follows t (reference_or reader leaf found taken closer t) (reference_or reader leaf found taken closer (asked_after h t))
    reference_after (Some found) taken closer t =
        let end = place reader leaf found.following in
        refers_after (record { label = as_label reader leaf found.bytes; link_type = Reference; end = end; resume = end }) taken closer
        (record { at = t.at; expansion_left = t.expansion_left; label_close = Some (end - 1); asked = t.asked; openers = t.openers })
    reference_after None taken closer t = search (rules, by_bool, settled, own_after)

    link_after : (tail : Option LinkTail) (taken : Taken) (closer : Bracket) (t : State) → Follows t (link_or reader leaf tail taken closer t) (link_or reader leaf tail taken closer (asked_after h t))
    link_after (Some tail) taken closer t = λ all o k. ap (outcome_after h) k
    link_after None taken closer t = reference_after (unless_footnote reader leaf (reference_label_in (following reader leaf closer.end))) taken closer t

    taken_after : (taken : Option Taken) (closer : Bracket) (t : State) → Follows t (with_taken reader leaf taken closer t) (with_taken reader leaf taken closer (asked_after h t))
    taken_after taken closer t = grind (arith, settled, by_bool, link_after)

    wikilink_after : (first taken : Option Taken) (closer : Bracket) (t : State) → Follows t (wikilink_or reader leaf first taken closer t) (wikilink_or reader leaf first taken closer (asked_after h t))
    wikilink_after None taken closer t = taken_after taken closer t
    wikilink_after (Some first) taken closer t =
        let u = asked_after h t in
        let refused = first.opener.is_inactive || (length (name_in (wiki_text reader leaf first closer)) == 0) in
        let v : State = record { at = t.at; expansion_left = t.expansion_left; label_close = t.label_close; asked = t.asked; openers = tried first.nearer t.openers } in
        by_bool t refused (with_taken reader leaf taken closer v) (Settled (wikilink reader leaf first closer t))
        (with_taken reader leaf taken closer (asked_after h v)) (Settled (wikilink reader leaf first closer u))
        (taken_after taken closer v) (settled t (wikilink reader leaf first closer t) (wikilink reader leaf first closer u) refl)

    taking_after : (taken : Option Taken) (closer : Bracket) (t : State) → Follows t (taking reader leaf taken closer t) (taking reader leaf taken closer (asked_after h t))
    taking_after taken closer t = grind (arith, by_bool, wikilink_after, taken_after)

    decide_after : (s : State) (closer : Bracket) → Follows s (decide reader leaf s closer) (decide reader leaf (asked_after h s) closer)
    unfolding decide
    decide_after s closer =
        taking_after (nearest s.openers) closer (record { at = s.at; expansion_left = s.expansion_left; label_close = s.label_close; asked = s.asked; openers = used_up s.openers })

pub decide-shifted : (reader : Reader) (leaf : Leaf) → IsShifted (decide reader leaf)
decide-shifted reader leaf = record { comes = λ h all s closer o k. decide_after h reader leaf s closer all o k }
