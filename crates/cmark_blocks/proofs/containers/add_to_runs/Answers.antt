use Rattle.std.proofs.Common.{◌≡◌, suc, ◌-◌, ◌<◌, ◌++◌, ◌∷◌, [], length, Some, refl, sym, ap, ◌∙◌, subst, arith}
use Rattle.std.specs.Prelude.{slice_get}
use Rattle.std.proofs.lemmas.Option.{same_Some, slice_get_read}
use Rattle.cmark_blocks.specs.FootnoteRuns.{AreRuns}
use Rattle.cmark_blocks.proofs.OldFootnoteSteps.{runs-begun, runs-longer, runs-more}
use Rattle.cmark_blocks.proofs.containers.add_to_runs.Goals as goal

pub returns-then-index-count : goal.returns-then-index-count
returns-then-index-count c outer entered all is h =
    let rs = c.args.runs.now.items in
    let k = c.len-known.result - 1 in
    let last : suc k ≡ length rs = omega (arith, c.len-known.ensures, c.args.runs.now.ok.0, c.if-known-gt0.true) in
    let within : k < length rs = omega (arith, last) in
    let r = c.index_mut.result.now in
    let there : slice_get rs k ≡ Some r = slice_get_read rs (length rs) k r refl within c.index_mut.ensures.value in
    let same : c.index.result.now ≡ r = same_Some c.index.result.now r (sym (slice_get_read rs (length rs) k c.index.result.now refl within c.index.ensures) ∙ there) in
    runs-longer outer entered k c.args.count rs r all is h there last (omega (arith, ap (λ x. x.end) same, c.if-index-count.true))

pub returns-in_err-push : goal.returns-in_err-push
returns-in_err-push c outer entered all is h =
    subst (AreRuns (outer ++ entered ∷ []) 0) (sym c.in_err-push.ensures.items) (runs-more outer (entered ∷ []) 0 c.args.runs.now.items h)

pub returns : goal.returns
returns c outer entered all is h =
    subst (AreRuns (outer ++ entered ∷ []) 0) (sym c.in_ok-push.ensures.items) (runs-begun outer entered 0 c.args.count c.args.runs.now.items all is (omega arith) h)
