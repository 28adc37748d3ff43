use Rattle.std.proofs.Common.{◌≡◌, ◌<◌, ℕ, suc, ◌+◌, List, Some, length, take, drop, get_or, true, false, ap, sym, subst, ◌∙◌, arith}
use Rattle.std.proofs.lemmas.Str.{IsCharBoundary-after_ascii}
use Rattle.cmark_grammar.specs.LinkDefinitions.{Parsed, up_to}
use Rattle.cmark_link_scan.proofs.part.closed_part.Goals as goal

FindsPart : (size closer refused : ℕ) → List ℕ → Type 0
FindsPart size closer refused bs = Some (let found : Parsed = record { bytes = take size bs; following = drop (suc size) bs } in found) ≡ up_to false closer refused true bs

pub range_from-requires : goal.range_from-requires
range_from-requires c = λ some.
    let lt : c.in_ok-size.size < length c.args.text.now = let n = ap length c.as_bytes.ensures.value in let h = c.in_ok-size.ensures.within in omega (arith, n, h) in
    let is = ap (λ (bs : List ℕ). get_or bs c.in_ok-size.size 0) (sym c.as_bytes.ensures.value) ∙ c.in_ok-size.ensures.closed in
    IsCharBoundary-after_ascii c.args.text.now c.in_ok-size.size c.utf8.text lt (omega (arith, is))

pub returns-clause-value : goal.returns-clause-value
unfolding FindsPart
returns-clause-value c =
    let text : List ℕ = c.args.text.now in
    let size : ℕ = c.in_ok-size.size in
    let front : c.range.result.now ≡ take size text = grind (arith, c.range.ensures.value) in
    let following : c.range_from.result.now ≡ drop (suc size) text = c.range_from.ensures.value ∙ ap (λ n. drop n text) (let e : size + 1 ≡ suc size = omega arith in e) in
    ap (λ bs. let found : Parsed = record { bytes = bs; following = c.range_from.result.now } in Some found) front
    ∙ ap (λ bs. let found : Parsed = record { bytes = take size text; following = bs } in Some found) following
    ∙ subst (FindsPart size c.args.closer c.args.refused) c.as_bytes.ensures.value c.in_ok-size.ensures.value
