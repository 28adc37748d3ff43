use Rattle.std.proofs.Common.{◌+◌, ◌≡◌, ◌≤◌, ◌<◌, true, false, ℕ, List, length, get_or, sym, ap, ◌∙◌, arith}
use Rattle.cmark_grammar.specs.Columns.{is_blank_byte}
use Rattle.std.proofs.lemmas.Str.{IsCharBoundary-after_ascii}
use Rattle.cmark_block_model.proofs.RowEdges.{blank-ascii}
use Rattle.cmark_inline.proofs.Bytes.{following-end, following-more, following-none}
use Rattle.cmark_inline.proofs.place.after_leading_blanks.Goals as goal

pub returns-else-is_blank-clause-value : goal.returns-else-is_blank-clause-value
returns-else-is_blank-clause-value c =
    let i = c.loop-end.invariant in
    let text : List ℕ = c.args.text.now in
    let end : ℕ = c.loop-end.end in
    let lt = c.loop-end-test.true in
    let n = ap length i.1 in
    let none : is_blank_byte (get_or text end 0) ≡ false = ap (λ (bs : List ℕ). is_blank_byte (get_or bs end 0)) (sym i.1) ∙ sym c.is_blank.ensures ∙ c.if-is_blank.false in
    sym (i.3 ∙ following-none text end (let q : end < length text = omega (arith, lt, n) in q) none)

pub returns-after-loop-end-clause-value : goal.returns-after-loop-end-clause-value
returns-after-loop-end-clause-value c =
    let i = c.loop-end.invariant in
    let past = c.loop-end-test.false in
    let n = ap length i.1 in
    sym (i.3 ∙ following-end c.args.text.now c.loop-end.end (let q : length c.args.text.now ≤ c.loop-end.end = omega (arith, past, n) in q))

pub loop-end-preserved : goal.loop-end-preserved
loop-end-preserved c =
    let i = c.loop-end.invariant in
    let text : List ℕ = c.args.text.now in
    let end : ℕ = c.loop-end.end in
    let lt = c.loop-end-test.true in
    let n = ap length i.1 in
    let low = i.0 in
    let within : end < length text = omega (arith, lt, n) in
    let here : is_blank_byte (get_or text end 0) ≡ true = ap (λ (bs : List ℕ). is_blank_byte (get_or bs end 0)) (sym i.1) ∙ sym c.is_blank.ensures ∙ c.if-is_blank.true in (
      (let q : c.args.at ≤ end + 1 = omega (arith, low) in q),
      i.1,
      IsCharBoundary-after_ascii text end c.utf8.text within (blank-ascii (get_or text end 0) here),
      i.3 ∙ following-more text end within here,
    )
