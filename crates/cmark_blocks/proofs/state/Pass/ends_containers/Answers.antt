use Rattle.std.proofs.Common.{not, ◌&&◌, ◌==◌, length, refl, sym, ap, ◌∙◌}
use Rattle.std.proofs.lemmas.Option.{slice_get_read}
use Rattle.cmark_grammar.specs.Openings.{lazily}
use Rattle.cmark_line_rules.specs.Rests.{row_of}
use Rattle.cmark_block_model.specs.OpenBlocks.{takes_lazy}
use Rattle.cmark_blocks.specs.Ahead.{lines_at}
use Rattle.cmark_blocks.proofs.CutSteps.{ends-containers, only-first}
use Rattle.cmark_blocks.proofs.KeepingSteps.{shows-some, shows-there}
use Rattle.cmark_blocks.proofs.state.Pass.ends_containers.Goals as goal

pub returns-then-misses : goal.returns-then-misses
returns-then-misses g c text options lookup m runs =
    let r = row_of c.args.line in
    let cs = c.args.self.now.outer.items in
    let some = shows-some cs m.outer 0 runs.outer c.requires.some in
    let there = shows-there cs m.outer 0 c.index.result.now some.0 some.1 runs.outer (slice_get_read cs (length cs) 0 c.index.result.now refl c.requires.some c.index.ensures) some.2 in
    ap (λ z. z && not c.is_lazy.result) (sym c.if-misses.true)
    ∙ ends-containers text options lookup m.outer some.0 some.1 m.bare m.leaf r (lines_at text r.line_end) some.2 c.is_bare-bare.result c.misses.result c.is_lazy.result
    (c.is_bare-bare.ensures ∙ ap (λ b. b && (1 == length cs)) runs.bare ∙ ap (λ z. m.bare && z) (only-first text options lookup cs m.outer some.0 some.1 runs.outer some.2))
    (c.misses.ensures some.0.container there) (c.is_lazy.ensures text options lookup m some.0 some.1 some.2 runs)

pub returns-else-misses : goal.returns-else-misses
returns-else-misses g c text options lookup m runs =
    let r = row_of c.args.line in
    let next = lines_at text r.line_end in
    let cs = c.args.self.now.outer.items in
    let some = shows-some cs m.outer 0 runs.outer c.requires.some in
    let there = shows-there cs m.outer 0 c.index.result.now some.0 some.1 runs.outer (slice_get_read cs (length cs) 0 c.index.result.now refl c.requires.some c.index.ensures) some.2 in
    let lazy = lazily options some.0.container r next && takes_lazy m.leaf in
    c.if-misses.false
    ∙ ap (λ z. z && not lazy) (sym c.if-misses.false)
    ∙ ends-containers text options lookup m.outer some.0 some.1 m.bare m.leaf r next some.2 c.is_bare-bare.result c.misses.result lazy
    (c.is_bare-bare.ensures ∙ ap (λ b. b && (1 == length cs)) runs.bare ∙ ap (λ z. m.bare && z) (only-first text options lookup cs m.outer some.0 some.1 runs.outer some.2))
    (c.misses.ensures some.0.container there) refl
