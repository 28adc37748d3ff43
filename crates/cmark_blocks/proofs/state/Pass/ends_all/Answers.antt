use Rattle.std.proofs.Common.{◌≡◌, sym, ap, ◌∙◌, vec_len, arith}
use Rattle.cmark_line_rules.specs.Rests.{row_of}
use Rattle.cmark_blocks.specs.Ahead.{lines_at}
use Rattle.cmark_blocks.specs.Cuts.{ends_leaf, ends_outer}
use Rattle.cmark_blocks.proofs.CutSteps.{none-open, some-open}
use Rattle.cmark_blocks.proofs.FeedSteps.{is-zero}
use Rattle.cmark_blocks.proofs.state.Pass.ends_all.Goals as goal

pub ends_containers-requires-clause-some : goal.ends_containers-requires-clause-some
ends_containers-requires-clause-some g c =
    let outer = c.args.self.now.outer in
    let some = some-open (vec_len outer) (sym c.is_empty.ensures ∙ c.if-is_empty.false) in
    omega (arith, some, outer.ok.0)

pub returns-then-is_empty : goal.returns-then-is_empty
returns-then-is_empty g c text options lookup m runs =
    let r = row_of c.args.line in
    let next = lines_at text r.line_end in
    let outer = c.args.self.now.outer in
    let none : vec_len outer ≡ 0 = is-zero (vec_len outer) (sym c.is_empty.ensures ∙ c.if-is_empty.true) in
    let empty = none-open outer.items m.outer (omega (arith, none, outer.ok.0)) runs.outer in
    c.ends_leaf.ensures text c.args.self.now.blank_lines.items m.leaf runs.leaf
    ∙ ap (λ o. ends_leaf o c.ends_paragraph-by.result m.leaf r) runs.options_is
    ∙ ap (λ b. ends_leaf options b m.leaf r) (c.ends_paragraph-by.ensures text options lookup m runs)
    ∙ ap (λ l. ends_outer text options lookup l m.bare m.leaf r next) (sym empty)
