use Rattle.std.proofs.Common.{◌≡◌, ℕ, Bool, suc, List, Some, take, drop, ap, ◌∙◌, arith}
use Rattle.std.proofs.lemmas.Grind.{common_steps}
use Rattle.cmark_grammar.specs.Autolinks.{autolink_in}
use Rattle.cmark_grammar.specs.LinkDefinitions.{Parsed}
use Rattle.cmark_scan_bytes.proofs.Lists.{rest_of}
use Rattle.cmark_scan_bytes.proofs.Links.{part_is, cut_out}
use Rattle.cmark_scan_bytes.proofs.Boundaries.{boundary_after}
use Rattle.cmark_scan_bytes.proofs.link.scan_autolink.Goals as goal

FindsAddress : (emails : Bool) → (size : ℕ) → List ℕ → Type 0
FindsAddress emails size bs = Some (let found : Parsed = record { bytes = take size bs; following = drop (suc size) bs } in found) ≡ autolink_in emails bs

pub returns-clause-value : goal.returns-clause-value
unfolding FindsAddress
returns-clause-value c = grind (arith, rest_of, part_is, cut_out, FindsAddress)

pub returns-clause-boundary : goal.returns-clause-boundary
returns-clause-boundary c =
    let rest = rest_of c.as_bytes.result.now c.args.start_ix ∙ ap (drop c.args.start_ix) c.as_bytes.ensures.value in
    boundary_after c.args.text.now _ c.args.start_ix c.in_ok-size.size 62 c.utf8.text rest c.in_ok-size.ensures.within c.in_ok-size.ensures.closed (omega arith)

pub range-requires-clause-end_boundary : goal.range-requires-clause-end_boundary
range-requires-clause-end_boundary c = grind (arith, common_steps)

pub returns-in_err-size-clause-value : goal.returns-in_err-size-clause-value
returns-in_err-size-clause-value c = grind (arith, common_steps)
