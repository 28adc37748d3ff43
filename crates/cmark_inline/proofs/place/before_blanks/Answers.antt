use Rattle.std.proofs.Common.{◌≡◌, ◌≤◌, ◌<◌, ◌-◌, ℕ, true, List, length, get_or, sym, ap, ◌∙◌, arith, ⊎_elim}
use Rattle.std.proofs.Math.Nat.{eq-or-lt_of_le}
use Rattle.std.proofs.lemmas.Str.{IsCharBoundary-before_ascii}
use Rattle.cmark_grammar.specs.Columns.{is_blank_byte}
use Rattle.cmark_block_model.proofs.RowEdges.{blank-ascii}
use Rattle.cmark_inline.proofs.place.before_blanks.Goals as goal

pub overflow_sub-text_end : goal.overflow_sub-text_end
overflow_sub-text_end c = let test = c.loop-text_end-test.true in omega (arith, test)

pub bounds-bytes-text_end : goal.bounds-bytes-text_end
bounds-bytes-text_end c =
    let i = c.loop-text_end.invariant in
    let test = c.loop-text_end-test.true in
    let high = i.1 in
    let n = ap length i.2 in
    let within = c.requires.at.0 in
    omega (arith, test, high, n, within)

pub loop-text_end-preserved : goal.loop-text_end-preserved
loop-text_end-preserved c =
    let i = c.loop-text_end.invariant in
    let text : List ℕ = c.args.text.now in
    let end : ℕ = c.loop-text_end.text_end in
    let test = c.loop-text_end-test.true in
    let high = i.1 in
    let within = c.requires.at.0 in
    let blank : is_blank_byte (get_or text (end - 1) 0) ≡ true = ap (λ (bs : List ℕ). is_blank_byte (get_or bs (end - 1) 0)) (sym i.2) ∙ sym c.is_blank.ensures ∙ c.if-is_blank.true in (
      (let q : c.args.here.pending ≤ end - 1 = omega (arith, test) in q),
      (let q : end - 1 ≤ c.args.here.at = omega (arith, high) in q),
      i.2,
      IsCharBoundary-before_ascii text (end - 1) (let q : end - 1 < length text = omega (arith, test, high, within) in q) (blank-ascii (get_or text (end - 1) 0) blank),
      (λ k low last. ⊎_elim (λ e. ap (λ (n : ℕ). is_blank_byte (get_or text n 0)) (sym e) ∙ blank) (λ less. i.4 k (let q : end ≤ k = omega (arith, less) in q) last) (eq-or-lt_of_le low)),
    )

pub returns-else-is_blank-clause-first : goal.returns-else-is_blank-clause-first
returns-else-is_blank-clause-first c =
    λ _. ap (λ (bs : List ℕ). is_blank_byte (get_or bs (c.loop-text_end.text_end - 1) 0)) (sym c.loop-text_end.invariant.2) ∙ sym c.is_blank.ensures ∙ c.if-is_blank.false

pub returns-after-loop-text_end-clause-first : goal.returns-after-loop-text_end-clause-first
returns-after-loop-text_end-clause-first c = λ more. let past = c.loop-text_end-test.false in absurd (omega (arith, more, past))
