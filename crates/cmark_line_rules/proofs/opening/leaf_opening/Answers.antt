use Rattle.std.proofs.Common.{◌≡◌, Bool, true, false, ◌&&◌, not, refl, sym, ap, ◌∙◌}
use Rattle.cmark_grammar.specs.Leaves.{is_thematic_break, fence_of}
use Rattle.cmark_grammar.specs.Rows.{words_of}
use Rattle.cmark_grammar.specs.HtmlBlocks.{html_kind}
use Rattle.cmark_grammar.specs.Containers.{begins_with}
use Rattle.cmark_grammar.specs.Footnotes.{footnotes_in}
use Rattle.cmark_grammar.specs.Openings.{begins_no_link}
use Rattle.cmark_values.specs.Shown.{level_number, shown_options}
use Rattle.cmark_scan_lines.specs.LeafLines.{atx_level}
use Rattle.cmark_line_rules.proofs.FirstBytes.{bracket-leaf}
use Rattle.cmark_line_rules.proofs.InfoEdges.{info-stands}
use Rattle.cmark_line_rules.proofs.OpeningRows.{leaf-heading, leaf-plain, no-link, link-read}
use Rattle.cmark_line_rules.proofs.opening.leaf_opening.Goals as goal

both : (x y : Bool) → (x && y) ≡ true → x ≡ true
both true y e = refl
both false y e = e

pub returns-then-may_begin_link-clause-opens : goal.returns-then-may_begin_link-clause-opens
returns-then-may_begin_link-clause-opens c r ahead words indent =
    let options = shown_options c.args.options in
    let read = ap (λ ws. begins_with 91 ws && not (begins_no_link (footnotes_in options) ws)) words ∙ sym c.may_begin_link.ensures ∙ c.if-may_begin_link.true in
    bracket-leaf options r ahead (both (begins_with 91 (words_of r)) _ read) ∙ link-read options r ahead read

pub returns-then-may_begin_link-clause-bracket : goal.returns-then-may_begin_link-clause-bracket
returns-then-may_begin_link-clause-bracket c r words =
    both (begins_with 91 (words_of r)) _ (ap (λ ws. begins_with 91 ws && not (begins_no_link (footnotes_in (shown_options c.args.options)) ws)) words ∙ sym c.may_begin_link.ensures ∙ c.if-may_begin_link.true)

pub returns-in-Some-heading_in-clause-opens : goal.returns-in-Some-heading_in-clause-opens
returns-in-Some-heading_in-clause-opens c r ahead words indent =
    leaf-heading (shown_options c.args.options) r ahead (level_number c.in-Some-heading_in.level) (ap html_kind words ∙ sym c.in_default.ensures)
    (ap is_thematic_break words ∙ sym c.if-is_break.ensures) (c.in-Some-heading_in.ensures ∙ sym (ap atx_level words))

pub returns-clause-opens : goal.returns-clause-opens
returns-clause-opens c r ahead words indent =
    let options = shown_options c.args.options in
    leaf-plain options r ahead (ap html_kind words ∙ sym c.in_default.ensures) (ap is_thematic_break words ∙ sym c.if-is_break.ensures)
    (c.in_default-heading_in.ensures ∙ sym (ap atx_level words))
    (c.in_default-fence_in.ensures.fence c.args.indent ∙ ap (fence_of c.args.indent) (sym words) ∙ ap (λ n. fence_of n (words_of r)) (sym indent))
    (no-link options r ahead (ap (λ ws. begins_with 91 ws && not (begins_no_link (footnotes_in options) ws)) words ∙ sym c.if-may_begin_link.ensures))

pub returns-in-Some-fence_in-clause-info_placed : goal.returns-in-Some-fence_in-clause-info_placed
returns-in-Some-fence_in-clause-info_placed c text r words good =
    let found = c.in-Some-fence_in in
    info-stands text 0 c.args.words.now r found.fence words (found.ensures.fence 0) found.ensures.place good
