use Rattle.std.proofs.Common.{refl, [], false, ap, ◌∙◌, sym, Some, None}
use Rattle.cmark_grammar.specs.Rows.{is_bare}
use Rattle.cmark_grammar.specs.Containers.{keeps, Footnote}
use Rattle.cmark_scan_lines.specs.LineStart.{row_from}
use Rattle.cmark_line_rules.proofs.ContainerRows.{footnote-keeps, old-blank, old-keeps}
use Rattle.cmark_blocks.proofs.prefixes.after_footnote.Goals as goal

pub returns-then-not-old : goal.returns-then-not-old
returns-then-not-old c at line_end =
    let row = row_from at line_end c.args.line in
    c.after_width.ensures at line_end 0 None None ∙ footnote-keeps [] 0 row ∙ ap (λ o. keeps (Footnote [] o 0) false row) (sym c.if-not-old.true)

pub returns-then-is_at_eol : goal.returns-then-is_at_eol
returns-then-is_at_eol c at line_end =
    let row = row_from at line_end c.args.line in
    old-blank [] 0 row (sym (c.is_at_eol.ensures at ∙ ap (λ r. is_bare r.columns) (c.scan_all_space.ensures at line_end)) ∙ c.if-is_at_eol.true)
    ∙ ap (λ o. keeps (Footnote [] o 0) false row) (sym c.if-not-old.false)

pub returns : goal.returns
returns c at line_end =
    let row = row_from at line_end c.args.line in
    ap Some (c.hold.ensures at line_end)
    ∙ old-keeps [] 0 row refl (sym (c.is_at_eol.ensures at ∙ ap (λ r. is_bare r.columns) (c.scan_all_space.ensures at line_end)) ∙ c.if-is_at_eol.false)
    ∙ ap (λ o. keeps (Footnote [] o 0) false row) (sym c.if-not-old.false)
