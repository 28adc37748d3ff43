use Rattle.std.proofs.Common.{◌≡◌, suc, ◌-◌, ◌<◌, take, length, Some, refl, sym, ap, ◌∙◌, subst, arith}
use Rattle.std.specs.Prelude.{slice_get}
use Rattle.std.proofs.lemmas.List.{nil_from_length}
use Rattle.std.proofs.lemmas.Option.{same_Some, slice_get_read}
use Rattle.cmark_blocks.specs.FootnoteRuns.{AreRuns}
use Rattle.cmark_blocks.proofs.OldFootnoteSteps.{no-runs, runs-fewer, runs-shorter, runs-taken}
use Rattle.cmark_blocks.proofs.containers.cut_runs.Goals.{then-known-eq0-via-then-known-eq0, then-known-eq0-via-else-known-eq0+then-index-count}
use Rattle.cmark_blocks.proofs.containers.cut_runs.Goals as goal

pub returns-then-known-eq0 : goal.returns-then-known-eq0
returns-then-known-eq0 c outer closed all h =
    let rs = c.args.runs.now.items in
    let k = c.len-known.result - 1 in
    let known : c.len-known.result ≡ length rs = omega (arith, c.len-known.ensures, c.args.runs.now.ok.0) in
    elim c.then-known-eq0.branch [
      | then-known-eq0-via-then-known-eq0 w ↦ no-runs outer 0 rs (nil_from_length rs (omega (arith, known, w.if-known-eq0.true)))
      | then-known-eq0-via-else-known-eq0+then-index-count w ↦
          let last : suc k ≡ length rs = omega (arith, known, w.if-known-eq0.false) in
          let within : k < length rs = omega (arith, last) in
          let there : slice_get rs k ≡ Some w.index.result.now = slice_get_read rs (length rs) k w.index.result.now refl within w.index.ensures in
          runs-fewer outer closed 0 k rs (λ r e. omega (arith, ap (λ x. x.end) (same_Some w.index.result.now r (sym there ∙ e)), w.if-index-count.true, all)) last h
    ]

pub returns-then-index-count-2 : goal.returns-then-index-count-2
returns-then-index-count-2 c outer closed all h =
    let rs = c.args.runs.now.items in
    let k = c.len-known.result - 1 in
    let last : suc k ≡ length rs = omega (arith, c.len-known.ensures, c.args.runs.now.ok.0, c.if-known-eq0.false) in
    let within : k < length rs = omega (arith, last) in
    let r = c.index_mut.result.now in
    let there : slice_get rs k ≡ Some r = slice_get_read rs (length rs) k r refl within c.index_mut.ensures.value in
    let ends : c.index.result.now ≡ r = same_Some c.index.result.now r (sym (slice_get_read rs (length rs) k c.index.result.now refl within c.index.ensures) ∙ there) in
    let starts : c.index-2.result.now ≡ r = same_Some c.index-2.result.now r (sym (slice_get_read rs (length rs) k c.index-2.result.now refl within c.index-2.ensures) ∙ there) in
    runs-shorter outer closed k c.args.count rs r all h there last (omega (arith, ap (λ x. x.start) starts, c.if-index-count-2.true)) (omega (arith, ap (λ x. x.end) ends, c.if-index-count.false))

pub returns-else-index-count-2 : goal.returns-else-index-count-2
returns-else-index-count-2 c outer closed all h =
    let rs = c.args.runs.now.items in
    let k = c.len-known.result - 1 in
    let known : c.len-known.result ≡ length rs = omega (arith, c.len-known.ensures, c.args.runs.now.ok.0) in
    let last : suc k ≡ length rs = omega (arith, known, c.if-known-eq0.false) in
    subst (AreRuns outer 0) (sym (c.pop.ensures.rest ∙ ap (λ n. take (n - 1) rs) (sym c.len-known.ensures))) (runs-taken outer closed 0 k rs last h)
