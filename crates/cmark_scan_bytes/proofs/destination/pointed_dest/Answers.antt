use Rattle.std.proofs.Common.{◌≡◌, ℕ, suc, ◌+◌, List, Some, take, drop, false, ap, ◌∙◌, arith, length-drop}
use Rattle.std.proofs.lemmas.Str.{IsCharBoundary-after_ascii}
use Rattle.cmark_grammar.specs.LinkDefinitions.{Parsed, up_to}
use Rattle.cmark_scan_bytes.proofs.Lists.{rest_of}
use Rattle.cmark_scan_bytes.proofs.Links.{cut_out}
use Rattle.cmark_scan_bytes.proofs.Boundaries.{boundary_after}
use Rattle.cmark_scan_bytes.proofs.destination.pointed_dest.Goals as goal

FindsPointed : (size : ℕ) → List ℕ → Type 0
FindsPointed size bs = Some (let found : Parsed = record { bytes = take size bs; following = drop (suc size) bs } in found) ≡ up_to false 62 60 false bs

pub range-requires-clause-start_boundary : goal.range-requires-clause-start_boundary
range-requires-clause-start_boundary c = λ some. IsCharBoundary-after_ascii c.args.text.now c.args.start_ix c.utf8.text c.requires.within (let is = c.requires.opens in omega (arith, is))

pub returns-clause-value : goal.returns-clause-value
unfolding FindsPointed
returns-clause-value c = grind (arith, rest_of, length-drop, cut_out, FindsPointed)

pub returns-clause-boundary : goal.returns-clause-boundary
returns-clause-boundary c =
    let start : ℕ = c.args.start_ix + 1 in
    let rest = rest_of c.as_bytes.result.now start ∙ ap (drop start) c.as_bytes.ensures.value in
    boundary_after c.args.text.now _ start c.in_ok-size.size 62 c.utf8.text rest c.in_ok-size.ensures.within c.in_ok-size.ensures.closed (omega arith)
