use Rattle.std.proofs.Common.{◌≡◌, ◌++◌, ◌<◌, Bool, true, false, List, ℕ, arith, ap, drop, length, refl, sym, take, ◌+◌, ◌-◌, ◌∙◌}
use Rattle.std.proofs.lemmas.List.{take_rest}
use Rattle.cmark_grammar.specs.LabelsOverLines.{backslash_pair, literal_pipes_from, piped, with_literal_pipes}
use Rattle.cmark_grammar.specs.Letters.{starts}
use Rattle.cmark_grammar.specs.Unescaped.{escaped_pipe}
use Rattle.cmark_scan_bytes.proofs.PipeSteps.{first_stays, one_backslash, second_stays, two_backslashes}
use Rattle.cmark_scan_bytes.proofs.pipes.find_backslashes.Goals as goal

-- the bytes at the beginning are kept, if it is known whether the byte is a second one
stay_as : (text : List ℕ) (at : ℕ) (old new : Bool) → old ≡ new → with_literal_pipes text ≡ take at text ++ literal_pipes_from old (drop at text)
    → with_literal_pipes text ≡ take at text ++ literal_pipes_from new (drop at text)
stay_as text at old new is e = e ∙ ap (λ p. take at text ++ literal_pipes_from p (drop at text)) is

-- the bytes that the code found at the beginning
found_in : (needle bytes text : List ℕ) (at : ℕ) (result value : Bool) → bytes ≡ text → result ≡ starts needle (take (length bytes - at) (drop at bytes)) → result ≡ value → starts needle (drop at text) ≡ value
found_in needle bytes text at result value same is e = ap (λ l. starts needle (drop at l)) (sym same) ∙ ap (starts needle) (sym (take_rest bytes at)) ∙ sym is ∙ e

pub loop-start-preserved-then-is_second : goal.loop-start-preserved-then-is_second
loop-start-preserved-then-is_second c = grind (arith, second_stays, stay_as)

pub returns-then-starts : goal.returns-then-starts
returns-then-starts c =
    let text = c.args.text.now in
    let at = c.loop-start.start in
    let within : at < length text = omega (arith, c.loop-start-test.true, ap length c.loop-start.invariant.same) in
    one_backslash text at within (at + 1) refl
    (found_in piped c.as_bytes-bytes.result.now text at c.starts.result true c.loop-start.invariant.same c.starts.ensures.value c.if-starts.true)
    (stay_as text at c.loop-start.is_second false c.if-is_second.false c.loop-start.invariant.stay)

pub returns-then-starts-2 : goal.returns-then-starts-2
returns-then-starts-2 c =
    let text = c.args.text.now in
    let at = c.loop-start.start in
    let within : at < length text = omega (arith, c.loop-start-test.true, ap length c.loop-start.invariant.same) in
    two_backslashes text at within (at + 2) refl
    (found_in escaped_pipe c.as_bytes-bytes.result.now text at c.starts-in-loop-start.result true c.loop-start.invariant.same c.starts-in-loop-start.ensures.value c.if-starts-2.true)
    (stay_as text at c.loop-start.is_second false c.if-is_second.false c.loop-start.invariant.stay)

pub loop-start-preserved : goal.loop-start-preserved
loop-start-preserved c =
    let text = c.args.text.now in
    let at = c.loop-start.start in
    let same = c.loop-start.invariant.same in
    let within : at < length text = omega (arith, c.loop-start-test.true, ap length same) in
    record {
      same = same;
      stay = first_stays text at within (with_literal_pipes text)
          (found_in piped c.as_bytes-bytes.result.now text at c.starts.result false same c.starts.ensures.value c.if-starts.false)
          (found_in escaped_pipe c.as_bytes-bytes.result.now text at c.starts-in-loop-start.result false same c.starts-in-loop-start.ensures.value c.if-starts-2.false)
          (stay_as text at c.loop-start.is_second false c.if-is_second.false c.loop-start.invariant.stay)
          ∙ ap (λ p. take (at + 1) text ++ literal_pipes_from p (drop (at + 1) text))
          (found_in backslash_pair c.as_bytes-bytes.result.now text at c.starts-is_second.result c.starts-is_second.result same c.starts-is_second.ensures.value refl);
    }
