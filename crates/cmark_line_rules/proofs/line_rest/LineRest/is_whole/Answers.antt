use Rattle.std.proofs.Common.{◌≡◌, ℕ, true, ◌==◌, ◌&&◌, not, sym, ap, ◌∙◌, arith}
use Rattle.cmark_grammar.specs.Rows.{begin_of}
use Rattle.cmark_line_rules.specs.Rests.{row_of}
use Rattle.cmark_line_rules.proofs.line_rest.LineRest.is_whole.Goals as goal

same_place : (a b : ℕ) → a ≡ b → (a == b) ≡ true
same_place a b e = grind (arith)

pub returns-then-begin-self : goal.returns-then-begin-self
unfolding row_of
returns-then-begin-self c =
    let rest = c.args.self.now in
    ap not (c.is_held.ensures rest.start rest.line_end)
    ∙ ap (λ z. z && not (row_of rest).held) (sym (same_place (begin_of (row_of rest)) rest.start (sym c.begin.ensures.place ∙ c.if-begin-self.true)))
