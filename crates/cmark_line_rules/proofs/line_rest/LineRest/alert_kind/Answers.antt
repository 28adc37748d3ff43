use Rattle.std.proofs.Common.{sym, ap, ◌∙◌, ◌==◌, ◌&&◌, None}
use Rattle.std.specs.Prelude.{if◌then◌else◌}
use Rattle.cmark_grammar.specs.Alerts.{alert_of}
use Rattle.cmark_grammar.specs.Rows.{indent_of, words_of}
use Rattle.cmark_line_rules.specs.Rests.{row_of}
use Rattle.cmark_line_rules.proofs.line_rest.LineRest.alert_kind.Goals as goal

pub returns : goal.returns
unfolding row_of
returns c options same =
    let rest = c.args.self.now in
    c.scan_blockquote_tag.ensures.found rest.start rest.line_end
    ∙ ap (λ z. if z && (indent_of (row_of rest) == 0) then alert_of (words_of (row_of rest)) else None) (sym (same ∙ c.if-not-gfm.false))
