use Rattle.std.proofs.Common.{ap, ◌<◌, ◌≤◌, sym, subst, length, get_or, List, ℕ, false, arith}
use Rattle.cmark_grammar.specs.Formulas.{no_braces}
use Rattle.cmark_span_scan.specs.declared.dollars.Dollar.{Dollar}
use Rattle.cmark_span_scan.proofs.DollarSteps.{AreBefore, StandsBy, some-before}
use Rattle.cmark_span_scan.proofs.DollarLinks.{reached-low}
use Rattle.cmark_span_scan.proofs.dollars.Dollars.first_index.Goals as goal
use Rattle.cmark_span_scan.proofs.dollars.Dollars.first_index.Goals.{else-self-len-via-then-self-len+else-index-at, else-self-len-via-else-self-len}

pub returns-then-index-at-clause-value : goal.returns-then-index-at-clause-value
returns-then-index-at-clause-value c =
    let items : List Dollar = c.args.self.now.listed.items in
    let place : ℕ = c.args.at in
    let reached : ℕ = c.args.self.now.reached in
    let d : Dollar = c.index.result.now in
    let within : reached < length items = omega (arith, c.len.ensures, c.args.self.now.listed.ok.0) in
    let low : (get_or items reached d).place ≤ place = subst (λ (x : Dollar). x.place ≤ place) c.index.ensures c.if-index-at.true in
    subst (AreBefore place reached) (sym c.requires.listed) (some-before 0 false no_braces c.args.text.now place reached d (subst (StandsBy place reached d) c.requires.listed (within, low)))

pub returns-clause-reached : goal.returns-clause-reached
returns-clause-reached c = λ le.
    let items : List Dollar = c.args.self.now.listed.items in
    let reached : ℕ = c.args.self.now.reached in
    let none : Dollar = record { place = 0; context = 0; is_escaped = false } in
    let low : (d : Dollar) → (reached < length items) × ((get_or items reached d).place ≤ c.args.at) = λ d. subst (λ l. (reached < length l) × ((get_or l reached d).place ≤ c.args.at)) (sym c.requires.listed) (reached-low c.args.text.now c.args.at reached d c.requires.dollar.within c.requires.dollar.is le) in
    elim c.else-self-len.branch [
      | else-self-len-via-then-self-len+else-index-at w ↦ (let l = (low w.index.result.now).1 in let is = ap (λ (x : Dollar). x.place) w.index.ensures in absurd (omega (arith, l, is, w.if-index-at.false)))
      | else-self-len-via-else-self-len w ↦ (let l = (low none).0 in absurd (omega (arith, l, w.if-self-len.false, c.len.ensures, c.args.self.now.listed.ok.0)))
    ]
