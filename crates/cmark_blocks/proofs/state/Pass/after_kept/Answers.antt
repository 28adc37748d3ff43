use Rattle.std.proofs.Common.{◌≡◌, ◌<◌, length, Some, refl, sym, ap, ◌∙◌, arith}
use Rattle.std.specs.Prelude.{slice_get}
use Rattle.std.proofs.lemmas.Option.{same_Some, slice_get_read}
use Rattle.cmark_blocks.proofs.OldFootnoteSteps.{run-alike}
use Rattle.cmark_blocks.proofs.state.Pass.after_kept.Goals as goal

pub returns-then-index : goal.returns-then-index
returns-then-index g c =
    let rs = c.args.self.now.footnote_runs.items in
    let n = c.args.run in
    let within : n < length rs = omega (arith, c.if-run-len.true, c.len.ensures, c.args.self.now.footnote_runs.ok.0) in
    let r = c.index-then-index.result.now in
    let there : slice_get rs n ≡ Some r = slice_get_read rs (length rs) n r refl within c.index-then-index.ensures in
    let same : c.index.result.now ≡ r = same_Some c.index.result.now r (sym (slice_get_read rs (length rs) n c.index.result.now refl within c.index.ensures) ∙ there) in
    run-alike c.args.self.now.outer.items c.args.index n rs r c.args.self.now.footnotes there (omega (arith, ap (λ x. x.start) same, c.if-index.true))
