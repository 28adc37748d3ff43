use Rattle.std.proofs.Common.{◌≡◌, ◌+◌, ◌<◌, sym, subst, length, ℕ, List, false, arith}
use Rattle.std.proofs.lemmas.Grind.{common_steps}
use Rattle.std.specs.List.{prefix_len}
use Rattle.cmark_grammar.specs.Formulas.{no_braces}
use Rattle.cmark_span_scan.specs.declared.dollars.Dollar.{Dollar}
use Rattle.cmark_span_scan.specs.Dollars.{stands_before}
use Rattle.cmark_span_scan.proofs.DollarSteps.{listed-at}
use Rattle.cmark_span_scan.proofs.dollars.Dollars.index_of.Goals as goal

pub returns-after-loop-index-clause-within : goal.returns-after-loop-index-clause-within
returns-after-loop-index-clause-within c =
    let place : ℕ = c.args.at in
    let d : Dollar = record { place = 0; context = 0; is_escaped = false } in
    let listed = (listed-at 0 false no_braces c.args.text.now place place d (let q : place ≡ 0 + place = omega arith in q) c.requires.dollar.within c.requires.dollar.is).within in
    let within : prefix_len (stands_before place) c.args.self.now.listed.items < length c.args.self.now.listed.items = subst (λ (l : List Dollar). prefix_len (stands_before place) l < length l) (sym c.requires.listed) listed in
    omega (arith, within, c.loop-index.invariant.before)

pub loop-index-preserved : goal.loop-index-preserved
loop-index-preserved c = grind (arith, common_steps)
