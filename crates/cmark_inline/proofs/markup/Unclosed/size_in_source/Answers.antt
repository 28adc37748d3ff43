use Rattle.std.specs.Prelude.{None, Some, option_map}
use Rattle.std.specs.Str.{IsCharBoundary}
use Rattle.std.proofs.Common.{◌≡◌, ◌+◌, ◌-◌, ◌≤◌, List, ℕ, length, drop, sym, ap, subst, ◌∙◌, rules, arith}
use Rattle.std.proofs.lemmas.Str.{IsCharBoundary-end, IsCharBoundary-start}
use Rattle.cmark_grammar.specs.InlineHtml.{after_markup}
use Rattle.cmark_grammar.specs.Tokens.{slice}
use Rattle.cmark_leaf_text.specs.Reads.{IsPart, source_of, place_of}
use Rattle.cmark_scan_bytes.specs.Guards.{AreMarks, may_pass}
use Rattle.cmark_inline.specs.Counted.{extent_of}
use Rattle.cmark_inline.specs.MarkupInSource.{source_from}
use Rattle.cmark_inline.proofs.PaidSteps.{extent-is}
use Rattle.cmark_inline.proofs.SourcePlaces.{drop-to, edge-ahead, edge-to, order, source-ahead}
use Rattle.cmark_inline.proofs.markup.Unclosed.size_in_source.Goals as goal

pub source_between-source-requires-clause-part : goal.source_between-source-requires-clause-part
source_between-source-requires-clause-part c =
    let w = c.requires.part.within in
    subst (λ (t : List ℕ). IsPart t 0 (length c.args.text.now)) c.requires.text.same
    (record { some = omega (arith, w); within = omega arith; starts = IsCharBoundary-start c.args.text.now c.utf8.text; ends = IsCharBoundary-end c.args.text.now })

pub overflow_sub-ahead : goal.overflow_sub-ahead
overflow_sub-ahead c =
    let w = c.requires.part.within in
    let n = ap length c.requires.text.same in
    let o = order c.args.leaf.now c.requires.text.read 0 c.args.at (omega arith) (omega (arith, w, n)) in
    let a = c.place.ensures.value in
    let b = c.place-2.ensures.value in
    omega (arith, o, a, b)

pub inline_markup-found-requires-clause-place : goal.inline_markup-found-requires-clause-place
inline_markup-found-requires-clause-place c =
    let leaf = c.args.leaf.now in
    let at : ℕ = c.args.at in
    let same = c.requires.text.same in
    let w = c.requires.part.within in
    let n = ap length same in
    let a = c.place.ensures.value in
    let b = c.place-2.ensures.value in
    let source = c.source_between-source.ensures ∙ ap (λ (t : List ℕ). slice (source_of leaf) (place_of leaf 0) (place_of leaf (length t - 1) + 1)) same in
    subst (λ bs. IsCharBoundary bs (c.place.result - c.place-2.result)) (sym source)
    (subst (IsCharBoundary (source_from leaf 0)) (let q : place_of leaf at - place_of leaf 0 ≡ c.place.result - c.place-2.result = omega (arith, a, b) in q)
    (edge-ahead leaf c.requires.text.read at (omega (arith, w, n)) (subst (λ (t : List ℕ). IsCharBoundary t at) same c.requires.part.starts)))

pub returns-in_err-end-clause-value : goal.returns-in_err-end-clause-value
returns-in_err-end-clause-value c =
    let leaf = c.args.leaf.now in
    let at : ℕ = c.args.at in
    let same = c.requires.text.same in
    let w = c.requires.part.within in
    let n = ap length same in
    let a = c.place.ensures.value in
    let b = c.place-2.ensures.value in
    let bytes : List ℕ = c.source_between-source.result.now in
    let source = c.source_between-source.ensures ∙ ap (λ (t : List ℕ). slice (source_of leaf) (place_of leaf 0) (place_of leaf (length t - 1) + 1)) same in
    let none : c.from_residual.result ≡ None = search rules in
    let empty : c.inline_markup-found.result.end ≡ None = search rules in
    ap (option_map (λ size. drop size (source_from leaf at))) none ∙ sym (ap (option_map (λ end. drop end bytes)) empty) ∙ c.inline_markup-found.ensures.value
    ∙ ap after_markup (ap (λ k. drop k bytes) (let q : c.place.result - c.place-2.result ≡ place_of leaf at - place_of leaf 0 = omega (arith, a, b) in q)
    ∙ ap (drop (place_of leaf at - place_of leaf 0)) source ∙ sym (source-ahead leaf c.requires.text.read at (omega (arith, w, n))))

pub returns-in_err-end-clause-kept : goal.returns-in_err-end-clause-kept
returns-in_err-end-clause-kept c = λ k le lt.
    let leaf = c.args.leaf.now in
    let same = c.requires.text.same in
    let a = c.place.ensures.value in
    let b = c.place-2.ensures.value in
    let o = order leaf c.requires.text.read c.args.at k le lt in
    let source = c.source_between-source.ensures ∙ ap (λ (t : List ℕ). slice (source_of leaf) (place_of leaf 0) (place_of leaf (length t - 1) + 1)) same in
    subst (λ bs. AreMarks bs (place_of leaf k - place_of leaf 0 + 2) c.inline_markup-found.new.guard) source (c.inline_markup-found.ensures.marks (place_of leaf k - place_of leaf 0 + 2) (omega (arith, a, b, o)))

pub returns-clause-value : goal.returns-clause-value
returns-clause-value c =
    let leaf = c.args.leaf.now in
    let at : ℕ = c.args.at in
    let same = c.requires.text.same in
    let w = c.requires.part.within in
    let n = ap length same in
    let a = c.place.ensures.value in
    let b = c.place-2.ensures.value in
    let bytes : List ℕ = c.source_between-source.result.now in
    let ahead : ℕ = c.place.result - c.place-2.result in
    let end : ℕ = c.in_ok-end.end in
    let source = c.source_between-source.ensures ∙ ap (λ (t : List ℕ). slice (source_of leaf) (place_of leaf 0) (place_of leaf (length t - 1) + 1)) same in
    let found : c.inline_markup-found.result.end ≡ Some end = search rules in
    let further : ahead + 2 + c.inline_markup-found.result.passed ≡ end = search rules in
    let there : source_from leaf at ≡ drop ahead bytes =
    source-ahead leaf c.requires.text.read at (omega (arith, w, n)) ∙ ap (λ k. drop k (source_from leaf 0)) (let q : place_of leaf at - place_of leaf 0 ≡ ahead = omega (arith, a, b) in q) ∙ ap (drop ahead) (sym source) in
    ap (λ bs. Some (drop (end - ahead) bs)) there ∙ ap Some (drop-to bytes ahead end (omega (arith, further)))
    ∙ sym (ap (option_map (λ end. drop end bytes)) found) ∙ c.inline_markup-found.ensures.value ∙ ap after_markup (sym there)

pub returns-clause-size : goal.returns-clause-size
returns-clause-size c =
    let leaf = c.args.leaf.now in
    let at : ℕ = c.args.at in
    let same = c.requires.text.same in
    let w = c.requires.part.within in
    let n = ap length same in
    let a = c.place.ensures.value in
    let b = c.place-2.ensures.value in
    let bytes : List ℕ = c.source_between-source.result.now in
    let ahead : ℕ = c.place.result - c.place-2.result in
    let end : ℕ = c.in_ok-end.end in
    let source = c.source_between-source.ensures ∙ ap (λ (t : List ℕ). slice (source_of leaf) (place_of leaf 0) (place_of leaf (length t - 1) + 1)) same in
    let further : ahead + 2 + c.inline_markup-found.result.passed ≡ end = search rules in
    let edge : IsCharBoundary bytes end = search rules in
    let there : source_from leaf at ≡ drop ahead bytes =
    source-ahead leaf c.requires.text.read at (omega (arith, w, n)) ∙ ap (λ k. drop k (source_from leaf 0)) (let q : place_of leaf at - place_of leaf 0 ≡ ahead = omega (arith, a, b) in q) ∙ ap (drop ahead) (sym source) in
    let whole : IsCharBoundary (source_from leaf at) (end - ahead) = subst (λ bs. IsCharBoundary bs (end - ahead)) (sym there) (edge-to bytes ahead end (omega (arith, further)) edge) in
    record { some = search rules; within = whole.0; ends = whole }

pub returns-in_err-end-clause-pays : goal.returns-in_err-end-clause-pays
returns-in_err-end-clause-pays c =
    let leaf = c.args.leaf.now in
    let same = c.requires.text.same in
    let w = c.requires.part.within in
    let n = ap length same in
    let bytes : List ℕ = c.source_between-source.result.now in
    let source = c.source_between-source.ensures ∙ ap (λ (t : List ℕ). slice (source_of leaf) (place_of leaf 0) (place_of leaf (length t - 1) + 1)) same in
    let e : length bytes ≡ extent_of leaf = ap length source ∙ sym (extent-is leaf c.requires.text.read (omega (arith, w, n))) in
    let none : c.from_residual.result ≡ None = search rules in
    let empty : c.inline_markup-found.result.end ≡ None = search rules in
    let paid = rw empty at c.inline_markup-found.ensures.pays in
    let pays : c.inline_markup-found.result.passed + may_pass (extent_of leaf) (extent_of leaf) c.inline_markup-found.new.guard ≤ 7 + may_pass (extent_of leaf) (extent_of leaf) c.args.self.now.guard =
    subst (λ (k : ℕ). c.inline_markup-found.result.passed + may_pass k k c.inline_markup-found.new.guard ≤ 7 + may_pass k k c.args.self.now.guard) e paid in
    rw none (omega (arith, pays))
