use Rattle.std.proofs.Common.{◌≡◌, ◌≤◌, ◌+◌, ◌++◌, ◌∷◌, [], ℕ, List, drop, length, refl, sym, ap, ◌∙◌, subst, arith}
use Rattle.std.proofs.lemmas.List.{length_push}
use Rattle.cmark_inline_model.specs.SlotRows.{marked, marks_by}
use Rattle.cmark_values.specs.Shown.{shown_options}
use Rattle.cmark_slots.specs.MarkedSlots.{AreWhole, EndWithin, HaveBytes, HaveTexts, SameBefore, places_of}
use Rattle.cmark_slots.specs.QuoteSlots.{characters_of, with_characters}
use Rattle.cmark_slots.specs.SlotViews.{shown_slots}
use Rattle.cmark_slots.specs.Standing.{CanSettle, NamesNoMore}
use Rattle.cmark_inline.specs.FormedSlots.{dressed_after}
use Rattle.cmark_emphasis.specs.declared.run.PlacedRun.{PlacedRun}
use Rattle.cmark_slots.specs.declared.quote.PlacedQuote.{PlacedQuote}
use Rattle.cmark_slots.specs.declared.slot.Slot.{Slot}
use Rattle.cmark_slots.specs.declared.slot.SlotKind.TheVariants as kind
use Rattle.cmark_slots.proofs.Naming.{no-more-on, no-more-push}
use Rattle.cmark_slots.proofs.RunPlaces.{have-all, same-on}
use Rattle.cmark_slots.proofs.Settling.{before-push, can-push, letters-before, letters-name, letters-settle}
use Rattle.cmark_slots.proofs.Steps.{no-new, slots-push}
use Rattle.cmark_inline.proofs.state.InlineState.finish.Goals as goal

pub returns-clause-ends : goal.returns-clause-ends
returns-clause-ends c =
    let slot : Slot = record { kind = kind.End; start = c.args.close; end = c.args.end } in
    record {
      slots = (λ text place h e.
          c.in_ok-resolve-2.ensures.resolved.keeps.slots text place (c.in_ok-resolve.ensures.slots text place
          (slots-push text place place c.args.self.now.slots.items c.push_slot.new.slots.items slot h (omega arith) e c.in_ok-push_slot.ensures)));
      length_is = (let l = length_push c.args.self.now.slots.items slot in
          let k = ap length c.in_ok-push_slot.ensures in
          let a = c.in_ok-resolve.ensures.length in
          let b = c.in_ok-resolve-2.ensures.resolved.keeps.size in
          omega (arith, l, k, a, b));
      links = (λ from h. c.in_ok-resolve-2.ensures.resolved.keeps.links from (c.in_ok-resolve.ensures.links from (no-new c.args.self.now.slots.items c.push_slot.new.slots.items slot refl c.in_ok-push_slot.ensures from h)));
    }

pub returns-clause-settled : goal.returns-clause-settled
returns-clause-settled c =
    let slot : Slot = record { kind = kind.End; start = c.args.close; end = c.args.end } in
    let there = c.requires.within.there in
    let low : ℕ = c.args.bracket.slot + 1 in
    let old : List Slot = c.args.self.now.slots.items in
    let one : List Slot = c.push_slot.new.slots.items in
    let two : List Slot = c.resolve.new.slots.items in
    let new : List Slot = c.resolve-2.new.slots.items in
    let runs : List PlacedRun = drop c.args.bracket.runs c.args.self.now.delimiters.placed.items in
    let quotes : List PlacedQuote = drop c.args.bracket.quotes c.args.self.now.quotes.placed.items in
    let letters : List ℕ = characters_of quotes in
    let e : one ≡ old ++ (slot ∷ []) = c.in_ok-push_slot.ensures in
    let can : CanSettle low one runs quotes = subst (λ l. CanSettle low l runs quotes) (sym e) (can-push low old runs quotes c.requires.settles slot (λ i. refl)) in
    let v : two ≡ with_characters quotes letters one = c.in_ok-resolve.ensures.value in
    let t = letters-settle low one runs quotes can letters in
    let whole : AreWhole two = subst AreWhole (sym v) t.0 in
    let within : EndWithin two = subst EndWithin (sym v) t.1 in
    let bytes : HaveBytes two low 0 runs = subst (λ l. HaveBytes l low 0 runs) (sym v) t.2 in
    let marks = c.in_ok-resolve-2.ensures.resolved in
    record {
      names = no-more-on old one new (subst (NamesNoMore old) (sym e) (no-more-push old slot (refl, refl, refl))) (no-more-on one two new (subst (NamesNoMore one) (sym v) (letters-name low one runs quotes can letters)) marks.keeps.names);
      whole = marks.whole;
      within = marks.keeps.within within;
      before = same-on low old one new (subst (SameBefore low old) (sym e) (before-push low old slot (let q : low ≤ length old = omega (arith, there) in q))) (same-on low one two new (subst (SameBefore low one) (sym v) (letters-before low one runs quotes can letters)) (marks.before low 0 bytes));
    }

pub returns-clause-dressed : goal.returns-clause-dressed
returns-clause-dressed c = λ leaf texts links pairs spans emphasis.
    let slot : Slot = record { kind = kind.End; start = c.args.close; end = c.args.end } in
    let low : ℕ = c.args.bracket.slot + 1 in
    let old : List Slot = c.args.self.now.slots.items in
    let one : List Slot = c.push_slot.new.slots.items in
    let two : List Slot = c.resolve.new.slots.items in
    let runs : List PlacedRun = drop c.args.bracket.runs c.args.self.now.delimiters.placed.items in
    let quotes : List PlacedQuote = drop c.args.bracket.quotes c.args.self.now.quotes.placed.items in
    let letters : List ℕ = characters_of quotes in
    let e : one ≡ old ++ (slot ∷ []) = c.in_ok-push_slot.ensures in
    let can : CanSettle low one runs quotes = subst (λ l. CanSettle low l runs quotes) (sym e) (can-push low old runs quotes c.requires.settles slot (λ i. refl)) in
    let v : two ≡ with_characters quotes letters one = c.in_ok-resolve.ensures.value in
    let t = letters-settle low one runs quotes can letters in
    let whole : AreWhole two = subst AreWhole (sym v) t.0 in
    let bytes : HaveBytes two low 0 runs = subst (λ l. HaveBytes l low 0 runs) (sym v) t.2 in
    let marks = c.in_ok-resolve-2.ensures.resolved.marks leaf texts links pairs spans emphasis in
    let quoted = c.in_ok-resolve.ensures.quotes leaf texts links in
    marks
    ∙ ap (λ l. marked (shown_options c.args.options) (places_of runs) (marks_by (length (places_of runs)) pairs) l []) quoted
    ∙ ap (λ l. dressed_after (shown_options c.args.options) c.args.bracket pairs c.args.self.now.delimiters.placed.items c.args.self.now.quotes.placed.items (shown_slots leaf texts links l)) e

pub resolve-requires-clause-texts : goal.resolve-requires-clause-texts
resolve-requires-clause-texts c =
    let slot : Slot = record { kind = kind.End; start = c.args.close; end = c.args.end } in
    let old : List Slot = c.args.self.now.slots.items in
    let runs : List PlacedRun = drop c.args.bracket.runs c.args.self.now.delimiters.placed.items in
    let quotes : List PlacedQuote = drop c.args.bracket.quotes c.args.self.now.quotes.placed.items in
    subst (λ l. HaveTexts l quotes) (sym c.in_ok-push_slot.ensures) (can-push (c.args.bracket.slot + 1) old runs quotes c.requires.settles slot (λ i. refl)).quotes_are

pub resolve-requires-2-clause-can : goal.resolve-requires-2-clause-can
resolve-requires-2-clause-can c =
    let slot : Slot = record { kind = kind.End; start = c.args.close; end = c.args.end } in
    let low : ℕ = c.args.bracket.slot + 1 in
    let old : List Slot = c.args.self.now.slots.items in
    let one : List Slot = c.push_slot.new.slots.items in
    let two : List Slot = c.resolve.new.slots.items in
    let runs : List PlacedRun = drop c.args.bracket.runs c.args.self.now.delimiters.placed.items in
    let quotes : List PlacedQuote = drop c.args.bracket.quotes c.args.self.now.quotes.placed.items in
    let can : CanSettle low one runs quotes = subst (λ l. CanSettle low l runs quotes) (sym c.in_ok-push_slot.ensures) (can-push low old runs quotes c.requires.settles slot (λ i. refl)) in
    record {
      bytes = subst (λ l. HaveBytes l 0 0 runs) (sym c.in_ok-resolve.ensures.value) (have-all (with_characters quotes (characters_of quotes) one) low 0 runs (letters-settle low one runs quotes can (characters_of quotes)).2);
      whole = subst AreWhole (sym c.in_ok-resolve.ensures.value) (letters-settle low one runs quotes can (characters_of quotes)).0;
      known = can.known;
    }
