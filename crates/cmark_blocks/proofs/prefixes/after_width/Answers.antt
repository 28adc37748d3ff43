use Rattle.std.proofs.Common.{◌≡◌, true, false, ap, ◌∙◌, sym, refl}
use Rattle.std.specs.Prelude.{◌||◌, nat_le}
use Rattle.cmark_grammar.specs.Rows.{is_bare, indent_of}
use Rattle.cmark_scan_lines.specs.LineStart.{row_from}
use Rattle.cmark_line_rules.proofs.PrefixRows.{width-kept, width-lacked}
use Rattle.cmark_blocks.proofs.prefixes.after_width.Goals.{else-not-scan_space-via-then-not-scan_space+else-not-is_at_eol, else-not-scan_space-via-else-not-scan_space}
use Rattle.cmark_blocks.proofs.prefixes.after_width.Goals as goal

pub returns-then-not-is_at_eol : goal.returns-then-not-is_at_eol
returns-then-not-is_at_eol c = λ at line_end delimiter number task.
    let row = row_from at line_end c.args.line in
    let after = row_from at line_end c.scan_space.new.self in
    let enough : nat_le c.args.width (indent_of row) ≡ false = sym (c.scan_space.ensures.enough at line_end) ∙ c.if-not-scan_space.true in
    let bare : is_bare after.columns ≡ false = sym (c.is_at_eol.ensures at) ∙ c.if-not-is_at_eol.true in
    width-lacked row after c.args.width refl (c.scan_space.ensures.rest at line_end) (ap (λ z. z || is_bare after.columns) enough ∙ bare) delimiter number task

pub returns : goal.returns
returns c = λ at line_end delimiter number task.
    let row = row_from at line_end c.args.line in
    let after = row_from at line_end c.scan_space.new.self in
    let enough = c.scan_space.ensures.enough at line_end in
    let test : (nat_le c.args.width (indent_of row) || is_bare after.columns) ≡ true =
    elim c.else-not-scan_space.branch [
      | else-not-scan_space-via-then-not-scan_space+else-not-is_at_eol w ↦
          ap (λ z. z || is_bare after.columns) (sym enough ∙ w.if-not-scan_space.true) ∙ sym (w.is_at_eol.ensures at) ∙ w.if-not-is_at_eol.false
      | else-not-scan_space-via-else-not-scan_space w ↦ ap (λ z. z || is_bare after.columns) (sym enough ∙ w.if-not-scan_space.false)
    ]
    in
    width-kept row after c.args.width refl (c.scan_space.ensures.rest at line_end) test delimiter number task
