-- If every answer is None, the outcome of a decision is the same as without a callback, except for the questions.
use Rattle.std.specs.Prelude.{◌-◌, ◌==◌, ◌&&◌, ◌||◌, if◌then◌else◌}
use Rattle.std.proofs.Common.{◌≡◌, ℕ, Bool, List, [], ◌∷◌, length, Option, Some, None, refl, ap, ◌∙◌, arith, rules}
use Rattle.cmark_grammar.specs.BlockDocument as block
use Rattle.cmark_grammar.specs.BracketDecisions.{Named, name_in, ask, defined_or_asked, refers, is_one_line, is_footnote_label, footnote_reference, collapsed_or_shortcut, by_own_label, reference_or, unless_footnote, link_or, with_taken, wiki_text, wikilink, wikilink_or, taking, decide}
use Rattle.cmark_grammar.specs.BracketReading.{Comes}
use Rattle.cmark_grammar.specs.BracketStates.{State, Outcome, Decision, Settled}
use Rattle.cmark_grammar.specs.Items.{Bracket}
use Rattle.cmark_grammar.specs.LeafText.{Leaf}
use Rattle.cmark_grammar.specs.LinkDefinitions.{Parsed}
use Rattle.cmark_grammar.specs.LinkTails.{LinkTail, is_bracketed_label}
use Rattle.cmark_grammar.specs.LinkType.{Reference}
use Rattle.cmark_grammar.specs.Lines.{is_content}
use Rattle.cmark_grammar.specs.OpenBrackets.{Taken, nearest, used_up, tried}
use Rattle.cmark_grammar.specs.Questions.{Saying, AnyAnswer}
use Rattle.cmark_grammar.specs.Readers.{Reader}
use Rattle.cmark_inline_model.specs.Unanswered.{silent, unasked}

-- every answer is None
abbrev pub NoAnswer : Saying
NoAnswer asked q answer = answer ≡ None

abbrev pub unasked_outcome : Outcome → Outcome
unasked_outcome o = record { result = o.result; after = unasked o.after }

abbrev pub Falls : State → Decision → Decision → Type 0
Falls t d e = (o : Outcome) → Comes NoAnswer t.asked d o → Comes AnyAnswer [] e (unasked_outcome o)

settled : (t : State) (a b : Outcome) → unasked_outcome a ≡ b → Falls t (Settled a) (Settled b)
settled t a b e o k = ap unasked_outcome k ∙ e

by_bool : (t : State) (b c : Bool) (x y u v : Decision) → c ≡ b → Falls t x u → Falls t y v → Falls t (if b then x else y) (if c then u else v)
by_bool t b c x y u v e f g = grind arith

module _ (reader : Reader) (leaf : Leaf) where
  one_line_same : (bs : List ℕ) → is_one_line (silent reader) leaf bs ≡ is_one_line reader leaf bs
  one_line_same [] = refl
  one_line_same (b ∷ bs) = ap (λ x. is_content b && x) (one_line_same bs)

  footnote_same : (bs : List ℕ) → is_footnote_label (silent reader) leaf bs ≡ is_footnote_label reader leaf bs
  footnote_same [] = refl
  footnote_same (b ∷ bs) = ap (λ x. reader.options.footnotes && ((b == 94) && (is_bracketed_label bs && (reader.options.old_footnotes || x)))) (one_line_same bs)

  unless_same : (found : Option Parsed) → unless_footnote (silent reader) leaf found ≡ unless_footnote reader leaf found
  unless_same None = refl
  unless_same (Some found) = ap (λ b. if b then None else Some found) (footnote_same found.bytes)

  own_same : (label : List ℕ) (end : ℕ) (o : Option (List ℕ)) → collapsed_or_shortcut (silent reader) leaf label end o ≡ collapsed_or_shortcut reader leaf label end o
  own_same label end None = refl
  own_same label end (Some rest) = refl

  ask_falls : (named : Named) (taken : Taken) (closer : Bracket) (t : State) → Falls t (ask reader leaf named taken closer t) (ask (silent reader) leaf named taken closer (unasked t))
  ask_falls named taken closer t = grind arith

  defined_falls : (found : Option block.Reference) (named : Named) (taken : Taken) (closer : Bracket) (t : State)
      → Falls t (defined_or_asked reader leaf found named taken closer t) (defined_or_asked (silent reader) leaf found named taken closer (unasked t))
  defined_falls (Some found) named taken closer t = λ o k. ap unasked_outcome k
  defined_falls None named taken closer t = ask_falls named taken closer t

  refers_falls : (named : Named) (taken : Taken) (closer : Bracket) (t : State) → Falls t (refers reader leaf named taken closer t) (refers (silent reader) leaf named taken closer (unasked t))
  refers_falls named taken closer t = grind (arith, by_bool, settled, defined_falls)

  footnote_falls : (name : List ℕ) (taken : Taken) (closer : Bracket) (t : State) → Falls t (footnote_reference reader leaf name taken closer t) (footnote_reference (silent reader) leaf name taken closer (unasked t))
  footnote_falls name taken closer t = grind (arith, by_bool, settled)

  own_falls : (bytes : List ℕ) (taken : Taken) (closer : Bracket) (t : State) → Falls t (by_own_label reader leaf bytes taken closer t) (by_own_label (silent reader) leaf bytes taken closer (unasked t))
  own_falls bytes taken closer t = grind (arith, own_same, settled, by_bool, footnote_same, footnote_falls, refers_falls)

  reference_falls : (found : Option Parsed) (taken : Taken) (closer : Bracket) (t : State) → Falls t (reference_or reader leaf found taken closer t) (reference_or (silent reader) leaf found taken closer (unasked t))
  reference_falls (Some found) taken closer t = grind (arith, refers_falls)
  reference_falls None taken closer t = search (rules, by_bool, settled, own_falls)

  link_falls : (tail : Option LinkTail) (taken : Taken) (closer : Bracket) (t : State) → Falls t (link_or reader leaf tail taken closer t) (link_or (silent reader) leaf tail taken closer (unasked t))
  link_falls tail taken closer t = grind (arith, unless_same, reference_falls)

  taken_falls : (taken : Option Taken) (closer : Bracket) (t : State) → Falls t (with_taken reader leaf taken closer t) (with_taken (silent reader) leaf taken closer (unasked t))
  taken_falls taken closer t = grind (arith, settled, by_bool, link_falls)

  wikilink_falls : (first taken : Option Taken) (closer : Bracket) (t : State) → Falls t (wikilink_or reader leaf first taken closer t) (wikilink_or (silent reader) leaf first taken closer (unasked t))
  wikilink_falls None taken closer t = taken_falls taken closer t
  wikilink_falls (Some first) taken closer t =
      let r = silent reader in
      let u = unasked t in
      let refused = first.opener.is_inactive || (length (name_in (wiki_text reader leaf first closer)) == 0) in
      let v : State = record { at = t.at; expansion_left = t.expansion_left; label_close = t.label_close; asked = t.asked; openers = tried first.nearer t.openers } in
      by_bool t refused refused (with_taken reader leaf taken closer v) (Settled (wikilink reader leaf first closer t)) (with_taken r leaf taken closer (unasked v)) (Settled (wikilink r leaf first closer u))
      refl (taken_falls taken closer v) (settled t (wikilink reader leaf first closer t) (wikilink r leaf first closer u) refl)

  taking_falls : (taken : Option Taken) (closer : Bracket) (t : State) → Falls t (taking reader leaf taken closer t) (taking (silent reader) leaf taken closer (unasked t))
  taking_falls taken closer t = grind (arith, by_bool, wikilink_falls, taken_falls)

  pub decide-falls : (s : State) (closer : Bracket) → Falls s (decide reader leaf s closer) (decide (silent reader) leaf (unasked s) closer)
  unfolding decide
  decide-falls s closer = taking_falls (nearest s.openers) closer (record { at = s.at; expansion_left = s.expansion_left; label_close = s.label_close; asked = s.asked; openers = used_up s.openers })
