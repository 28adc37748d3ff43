use Rattle.std.specs.Prelude.{option_map}
use Rattle.std.proofs.Common.{◌≡◌, ◌<◌, ◌≤◌, ◌+◌, ◌==◌, true≢false, zero, suc, ℕ, List, length, drop, take, refl, sym, ap, subst, ◌∙◌, arith, nat_lt, Bool, true, false}
use Rattle.std.proofs.lemmas.Bool.{ltb-true, ltb-false}
use Rattle.std.proofs.lemmas.List.{take_all}
use Rattle.std.specs.Str.{IsCharBoundary}
use Rattle.cmark_grammar.specs.Autolinks.{piped_name_in}
use Rattle.cmark_grammar.specs.Tokens.{slice}
use Rattle.cmark_leaf_text.specs.Reads.{IsPart, IsFirstFrom, source_of}
use Rattle.cmark_leaf_text.proofs.StretchSteps.{slice-length}
use Rattle.cmark_scan_bytes.specs.Shown.{cut_at, shown_cut}
use Rattle.cmark_inline.specs.Wikilinks.{wiki_start}
use Rattle.cmark_inline.proofs.SourcePlaces.{first-edge}
use Rattle.cmark_inline.proofs.WikiSteps.{is-whole, is-piped, slice-edge}
use Rattle.cmark_inline.proofs.wikilink.wikilink_at.Goals as goal

-- all of a list from its first element on
front : (bs : List ℕ) → take (length bs) (drop 0 bs) ≡ bs
front bs = take_all (length bs) bs (omega arith)

nonempty : (n : ℕ) → (n == 0) ≡ false → 0 < n
nonempty zero e = absurd (true≢false e)
nonempty (suc n) e = omega arith

not-following : (a b : ℕ) → (a < b → ⊥) → b ≤ a
not-following a b h = go (nat_lt a b) refl
  where
    go : (z : Bool) → nat_lt a b ≡ z → b ≤ a
    go true e = absurd (h (ltb-true a b e))
    go false e = ltb-false a b e

pub returns-in_default-clause-is : goal.returns-in_default-clause-is
returns-in_default-clause-is c =
    let leaf = c.args.leaf.now in
    let a : ℕ = c.range-start.result.end in
    let b : ℕ = c.range-source_end.result.start in
    let written : List ℕ = c.source_at-written.result.now in
    let lt = c.if-source_end-start.false in
    let w = c.range-source_end.ensures.part.within in
    let ww = c.range-source_end.ensures.part.some in
    let n = slice-length (source_of leaf) a b (omega (arith, w, ww)) in
    let m = ap length c.source_at-written.ensures in
    is-whole leaf c.args.doubled c.args.close _ written
    (c.source_at-written.ensures ∙ ap (λ k. slice (source_of leaf) k b) c.range-start.ensures.end ∙ ap (λ k. slice (source_of leaf) (wiki_start leaf c.args.doubled) k) c.range-source_end.ensures.start)
    (sym (ap (option_map shown_cut) c.in_default.is) ∙ c.scan_wikilink_pipe.ensures.value ∙ ap (λ bs. cut_at 0 (piped_name_in bs)) (front written)) refl refl c.range-source_end.ensures.start
    (let q : 0 < length written = omega (arith, lt, n, m) in q)

pub returns-clause-is : goal.returns-clause-is
returns-clause-is c =
    let leaf = c.args.leaf.now in
    let b : ℕ = c.range-source_end.result.start in
    let written : List ℕ = c.source_at-written.result.now in
    is-piped leaf c.args.doubled c.args.close _ written (shown_cut c.in-Some.piped) c.first_from.result
    (c.source_at-written.ensures ∙ ap (λ k. slice (source_of leaf) k b) c.range-start.ensures.end ∙ ap (λ k. slice (source_of leaf) (wiki_start leaf c.args.doubled) k) c.range-source_end.ensures.start)
    (sym (ap (option_map shown_cut) c.in-Some.is) ∙ c.scan_wikilink_pipe.ensures.value ∙ ap (λ bs. cut_at 0 (piped_name_in bs)) (front written)) refl refl
    (subst (λ k. IsFirstFrom leaf (k + c.in-Some.piped.end) c.first_from.result) c.range-start.ensures.end c.first_from.ensures) c.range-source_end.ensures.start
    (nonempty (length c.in-Some.piped.part.now) (sym c.is_empty.ensures ∙ c.if-is_empty.false))

pub returns-clause-display : goal.returns-clause-display
returns-clause-display c =
    let leaf = c.args.leaf.now in
    let a : ℕ = c.range-start.result.end in
    let b : ℕ = c.range-source_end.result.start in
    let written : List ℕ = c.source_at-written.result.now in
    let lt = c.if-source_end-start.false in
    let w = c.range-source_end.ensures.part.within in
    let ww = c.range-source_end.ensures.part.some in
    let part : IsPart (source_of leaf) a b = record { some = omega (arith, lt); within = omega (arith, w, ww); starts = c.range-start.ensures.part.ends; ends = c.range-source_end.ensures.part.starts } in
    let edge = slice-edge (source_of leaf) a b c.in-Some.piped.end part (subst (λ (bs : List ℕ). IsCharBoundary bs c.in-Some.piped.end) c.source_at-written.ensures c.in-Some.ensures.boundary) in
    let n = slice-length (source_of leaf) a b part.within in
    let m = ap length c.source_at-written.ensures in
    let high = c.in-Some.ensures.within in
    let first = c.first_from.ensures in
    let close : ℕ = c.args.close in
    let there = c.range-source_end.ensures.start in
    (subst (λ (t : List ℕ). IsCharBoundary t c.first_from.result) (sym c.requires.same) (first-edge leaf c.requires.read (a + c.in-Some.piped.end) c.first_from.result edge first), not-following close c.first_from.result (λ l. let p = first.before close l in omega (arith, p, there, high, n, m)))
