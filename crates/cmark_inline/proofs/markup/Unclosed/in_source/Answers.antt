use Rattle.std.specs.Prelude.{None, option_map}
use Rattle.std.specs.Str.{IsCharBoundary}
use Rattle.std.proofs.Common.{◌≡◌, ◌<◌, ◌+◌, ℕ, List, length, drop, sym, ap, subst, ◌∙◌, rules, arith}
use Rattle.std.proofs.lemmas.Str.{IsCharBoundary-end}
use Rattle.cmark_leaf_text.specs.Reads.{IsPart, IsFirstFrom, source_of, place_of, text_of}
use Rattle.cmark_inline.specs.MarkupInSource.{source_from}
use Rattle.cmark_inline.proofs.LeastCounted.{none-found, size-found}
use Rattle.cmark_inline.proofs.PaidSteps.{extent-within, paid-found, paid-vain}
use Rattle.cmark_inline.proofs.SourceOrder.{source-ends}
use Rattle.cmark_inline.proofs.SourcePlaces.{found-edge, source-edge}
use Rattle.cmark_inline.proofs.markup.Unclosed.in_source.Goals as goal

-- markup that is closed in the source ends at a later character boundary of the text
ends : (c : goal.After-from_residual-in_err-end) → ⊥
ends c =
    let leaf = c.args.leaf.now in
    let same = c.requires.text.same in
    let part = subst (λ (t : List ℕ). IsPart t c.args.at (c.args.at + 1)) same c.requires.part in
    let edge = found-edge leaf c.requires.text.read c.args.at c.in_ok-size.size c.first_from.result part c.in_ok-size.ensures.size.some c.in_ok-size.ensures.size.ends
    (subst (λ (p : ℕ). IsFirstFrom leaf (p + c.in_ok-size.size) c.first_from.result) c.place.ensures.value c.first_from.ensures) in
    let found = c.part_end.ensures.found edge.0 (subst (λ (t : List ℕ). IsCharBoundary t c.first_from.result) (sym same) edge.1) in
    search (found, rules)

pub size_in_source-requires-clause-room : goal.size_in_source-requires-clause-room
size_in_source-requires-clause-room c =
    let fits = extent-within c.args.leaf.now c.requires.text.read in
    let paid = c.requires.sought.paid.paid in
    omega (arith, fits, paid)

pub returns-in_err-size-clause-paid : goal.returns-in_err-size-clause-paid
returns-in_err-size-clause-paid c =
    let w = c.requires.part.within in
    let n = ap length c.requires.text.same in
    let paid = paid-vain c.args.leaf.now c.requires.text.read c.args.at c.args.self.now c.size_in_source.new.self (omega (arith, w, n)) c.in_err-size.ensures.pays c.requires.sought.paid in
    search (paid, rules)

pub returns-in_err-end-clause-none : goal.returns-in_err-end-clause-none
returns-in_err-end-clause-none c = λ none. absurd (ends c)

pub returns-in_err-end-clause-paid : goal.returns-in_err-end-clause-paid
returns-in_err-end-clause-paid c = absurd (ends c)

pub returns-clause-fits : goal.returns-clause-fits
returns-clause-fits c = record {
  part = search rules;
  content = search rules;
  kind_is = search rules;
  edge = (λ end e.
      let leaf = c.args.leaf.now in
      let same = c.requires.text.same in
      let part = subst (λ (t : List ℕ). IsPart t c.args.at (c.args.at + 1)) same c.requires.part in
      let w = part.within in
      let lt : c.args.at < length (text_of leaf) = omega (arith, w) in
      let whole : IsPart (text_of leaf) c.args.at (length (text_of leaf)) = record { some = lt; within = omega arith; starts = part.starts; ends = IsCharBoundary-end (text_of leaf) } in
      let made : c.place.result + c.in_ok-size.size ≡ end = source-ends (c.place.result + c.in_ok-size.size) end e in
      subst (λ p. IsCharBoundary (source_of leaf) p) (ap (λ n. n + c.in_ok-size.size) (sym c.place.ensures.value) ∙ made) (source-edge leaf c.requires.text.read c.args.at c.in_ok-size.size whole c.in_ok-size.ensures.size.ends));
}

pub returns-clause-paid : goal.returns-clause-paid
returns-clause-paid c =
    let leaf = c.args.leaf.now in
    let w = c.requires.part.within in
    let n = ap length c.requires.text.same in
    let e = c.in_ok-size.ensures in
    let some = c.in_ok-end.ensures.part.some in
    let first : IsFirstFrom leaf (place_of leaf c.args.at + c.in_ok-size.size) c.in_ok-end.end = subst (IsFirstFrom leaf (place_of leaf c.args.at + c.in_ok-size.size)) (sym c.in_ok-end.ensures.same) (subst (λ (p : ℕ). IsFirstFrom leaf (p + c.in_ok-size.size) c.first_from.result) c.place.ensures.value c.first_from.ensures) in
    paid-found leaf c.requires.text.read c.args.at c.in_ok-size.size c.in_ok-end.end c.args.self.now c.size_in_source.new.self (omega (arith, w, n)) e.size.within some first e.pays.0 e.pays.1 c.requires.sought.paid

pub returns-in_err-size-clause-searches : goal.returns-in_err-size-clause-searches
returns-in_err-size-clause-searches c = record {
  grows = search rules;
  passes = (λ opens.
      let none : c.size_in_source.result ≡ None = search rules in
      none-found (source_from c.args.leaf.now c.args.at) c.args.self.now c.size_in_source.new.self (sym c.size_in_source.ensures.value ∙ ap (option_map (λ size. drop size (source_from c.args.leaf.now c.args.at))) none));
}

pub returns-in_err-end-clause-searches : goal.returns-in_err-end-clause-searches
returns-in_err-end-clause-searches c = record {
  grows = search rules;
  passes = (λ opens. absurd (ends c));
}

pub returns-clause-searches : goal.returns-clause-searches
returns-clause-searches c = record {
  grows = search rules;
  passes = (λ opens.
      let e = c.in_ok-size.ensures in
      size-found (source_from c.args.leaf.now c.args.at) c.in_ok-size.size c.args.self.now c.size_in_source.new.self (sym e.value) e.size.within e.least);
}
