use Rattle.std.proofs.Common.{◌≡◌, true, false, ap, ◌∙◌, sym, refl, Some}
use Rattle.std.specs.Prelude.{◌||◌, nat_le}
use Rattle.cmark_grammar.specs.Rows.{is_bare, indent_of}
use Rattle.cmark_scan_lines.specs.LineStart.{row_from}
use Rattle.cmark_line_rules.specs.Rests.{row_of}
use Rattle.cmark_line_rules.proofs.PrefixRows.{width-kept, width-lacked}
use Rattle.cmark_line_rules.proofs.line_rest.LineRest.after_width.Goals.{else-not-scan_space-via-then-not-scan_space+else-not-is_at_eol, else-not-scan_space-via-else-not-scan_space}
use Rattle.cmark_line_rules.proofs.line_rest.LineRest.after_width.Goals as goal

pub returns-then-not-is_at_eol : goal.returns-then-not-is_at_eol
unfolding row_of
returns-then-not-is_at_eol c =
    let rest = c.args.self in
    let enough : nat_le c.args.width (indent_of (row_of rest)) ≡ false = sym (c.scan_space.ensures.enough rest.start rest.line_end) ∙ c.if-not-scan_space.true in
    let bare : is_bare (row_from rest.start rest.line_end c.scan_space.new.self).columns ≡ false = sym (c.is_at_eol.ensures rest.start) ∙ c.if-not-is_at_eol.true in
    width-lacked (row_of rest) (row_from rest.start rest.line_end c.scan_space.new.self) c.args.width refl (c.scan_space.ensures.rest rest.start rest.line_end)
    (ap (λ z. z || is_bare (row_from rest.start rest.line_end c.scan_space.new.self).columns) enough ∙ bare)

pub with_front-requires : goal.with_front-requires
unfolding row_of
with_front-requires c = let rest = c.args.self in ap (λ r. r.content_end) (c.scan_space.ensures.rest rest.start rest.line_end)

pub returns : goal.returns
unfolding row_of
returns c =
    let rest = c.args.self in
    let after = row_from rest.start rest.line_end c.scan_space.new.self in
    let enough = c.scan_space.ensures.enough rest.start rest.line_end in
    let test : (nat_le c.args.width (indent_of (row_of rest)) || is_bare after.columns) ≡ true =
    elim c.else-not-scan_space.branch [
      | else-not-scan_space-via-then-not-scan_space+else-not-is_at_eol w ↦
          ap (λ z. z || is_bare after.columns) (sym enough ∙ w.if-not-scan_space.true) ∙ sym (w.is_at_eol.ensures rest.start) ∙ w.if-not-is_at_eol.false
      | else-not-scan_space-via-else-not-scan_space w ↦ ap (λ z. z || is_bare after.columns) (sym enough ∙ w.if-not-scan_space.false)
    ]
    in
    λ delimiter number task. ap Some c.with_front.ensures ∙ width-kept (row_of rest) after c.args.width refl (c.scan_space.ensures.rest rest.start rest.line_end) test delimiter number task
