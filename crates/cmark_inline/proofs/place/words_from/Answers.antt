use Rattle.std.proofs.Common.{◌≡◌, ◌⊎◌, inl, inr, ◌<◌, ◌-◌, not, true, ℕ, List, get_or, sym, ap, ◌∙◌, arith, true≢false}
use Rattle.cmark_grammar.specs.Lines.{is_content}
use Rattle.cmark_inline.proofs.ReadingOn.{read-on-words}
use Rattle.cmark_inline.proofs.place.words_from.Goals as goal
use Rattle.cmark_inline.proofs.place.words_from.Goals.{in-10, in_default}

ends-line : (b : ℕ) → (b ≡ 10) ⊎ (b ≡ 13) → not (is_content b) ≡ true
ends-line b (inl e) = ap (λ x. not (is_content x)) e
ends-line b (inr e) = ap (λ x. not (is_content x)) e

pub returns-clause-value : goal.returns-clause-value
returns-clause-value c =
    let at : ℕ = c.args.at in
    let some = c.if-at-eq0.false in
    let ends : not (is_content (get_or c.as_bytes.result.now (at - 1) 0)) ≡ true = elim c.match-matches.branch [
      | in-10 w ↦ ends-line (get_or c.as_bytes.result.now (at - 1) 0) w.in-10.is
      | in_default w ↦ absurd (true≢false (sym c.if-not-matches.false ∙ w.matches-is))
    ] in
    sym (read-on-words c.args.text.now at c.requires.0 c.after_leading_blanks.result (let q : 0 < at = omega (arith, some) in q)
    (ap (λ (bs : List ℕ). not (is_content (get_or bs (at - 1) 0))) (sym c.as_bytes.ensures.value) ∙ ends) c.after_leading_blanks.ensures.value c.after_leading_blanks.ensures.boundary.0)
