use Rattle.std.proofs.Common.{◌≡◌, ◌<◌, ◌-◌, ◌+◌, ℕ, List, ◌==◌, length, get_or, ap, subst, arith, eqb-true}
use Rattle.std.proofs.lemmas.Bool.{false_from_ne_true}
use Rattle.std.specs.Str.{IsCharBoundary}
use Rattle.std.proofs.lemmas.Str.{IsCharBoundary-after_ascii}
use Rattle.cmark_inline.proofs.Bytes.{run-size}
use Rattle.cmark_inline.proofs.place.run_end.Goals as goal

pub returns-else-bytes-end-clause-boundary : goal.returns-else-bytes-end-clause-boundary
returns-else-bytes-end-clause-boundary c =
    let i = c.loop-end.invariant in
    let text : List ℕ = c.args.text.now in
    let e = c.loop-end.end in
    let lt = i.0 in
    let le = i.1 in
    let same : c.as_bytes-bytes.result.now ≡ text = i.2 in
    let n = ap length same in
    let small = i.5 (e - 1) (omega (arith, lt)) (omega (arith, lt)) in
    let s : get_or text (e - 1) 0 < 128 = subst (λ (bs : List ℕ). get_or bs (e - 1) 0 < 128) same small in
    subst (IsCharBoundary text) (let q : e - 1 + 1 ≡ e = omega (arith, lt) in q)
    (IsCharBoundary-after_ascii text (e - 1) c.utf8.text (let q : e - 1 < length text = omega (arith, lt, le, n) in q) s)

pub returns-else-bytes-end-clause-value : goal.returns-else-bytes-end-clause-value
returns-else-bytes-end-clause-value c =
    let i = c.loop-end.invariant in
    let bytes : List ℕ = c.as_bytes-bytes.result.now in
    run-size c.args.text.now bytes c.args.at c.loop-end.end (get_or bytes c.args.at 0) i.2 i.0 i.1 i.6
    (λ lt. false_from_ne_true (get_or bytes c.loop-end.end 0 == get_or bytes c.args.at 0) (λ e. c.if-bytes-end.false (eqb-true (get_or bytes c.loop-end.end 0) (get_or bytes c.args.at 0) e)))

pub returns-after-loop-end-clause-value : goal.returns-after-loop-end-clause-value
returns-after-loop-end-clause-value c =
    let i = c.loop-end.invariant in
    let bytes : List ℕ = c.as_bytes-bytes.result.now in
    let past = c.loop-end-test.false in
    run-size c.args.text.now bytes c.args.at c.loop-end.end (get_or bytes c.args.at 0) i.2 i.0 i.1 i.6 (λ lt. absurd (omega (arith, lt, past)))
