use Rattle.std.proofs.Common.{◌++◌, subst}
use Rattle.cmark_grammar.specs.Html.{footnote_start}
use Rattle.cmark_text.specs.Appended.{Writes}
use Rattle.cmark_html.proofs.footnote.append_footnote_start.Goals as goal

pub returns : goal.returns
returns c =
    subst (λ l. Writes c.args.out.now c.append_parts.new.out c.append_parts.result (l ++ footnote_start c.args.name.now c.args.digits.now)) c.new_line.ensures
    c.append_parts.ensures
