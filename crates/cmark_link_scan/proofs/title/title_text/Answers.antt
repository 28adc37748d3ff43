use Rattle.std.proofs.Common.{◌≡◌, ℕ, not, List, sym, ap, subst, ◌∙◌}
use Rattle.std.specs.Prelude.{IfOk}
use Rattle.cmark_grammar.specs.Unescaped.{unescaped}
use Rattle.cmark_values.specs.Shown.{text_bytes}
use Rattle.cmark_link_scan.proofs.TitleSteps.{one_line_if}
use Rattle.cmark_link_scan.proofs.title.title_text.Goals as goal

pub returns-then-is_none : goal.returns-then-is_none
returns-then-is_none g c =
    subst (λ (l : List ℕ). IfOk c.unescape.result (λ made. text_bytes made ≡ unescaped (g.E.EntityLookup.replacement c.args.entities.now) c.args.is_in_table l))
    (sym (one_line_if c.as_bytes.result.now c.args.title.now c.find_line_end.result c.as_bytes.ensures.value c.find_line_end.ensures (ap not c.is_none.ensures ∙ ap (λ t. not (not t)) c.if-is_none.true))) c.unescape.ensures.value
