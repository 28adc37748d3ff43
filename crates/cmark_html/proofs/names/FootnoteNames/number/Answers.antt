use Rattle.std.proofs.Common.{◌≡◌, ◌+◌, sym, ap, subst, ◌∙◌}
use Rattle.std.specs.Cow.{cow_str_bytes}
use Rattle.cmark_grammar.specs.Html.{footnote_number}
use Rattle.cmark_html.specs.Writer.{shown_names}
use Rattle.cmark_html.proofs.FootnoteSteps.{number_found, number_next}
use Rattle.cmark_html.proofs.names.FootnoteNames.number.Goals as goal

pub returns-in-Some : goal.returns-in-Some
returns-in-Some c =
    subst (λ name. c.in-Some.place.now + 1 ≡ footnote_number (shown_names c.args.self.now) name) c.as_str.ensures
    (number_found cow_str_bytes c.args.self.now.numbers c.as_str.result.now c.in-Some.place.now c.args.self.now.numbered (sym c.in-Some.ensures.value))

pub returns-in-None : goal.returns-in-None
returns-in-None c =
    subst (λ name. c.len-count.result + 1 ≡ footnote_number (shown_names c.args.self.now) name) c.as_str.ensures
    (ap (λ n. n + 1) c.len-count.ensures.len ∙ number_next cow_str_bytes c.args.self.now.numbers c.as_str.result.now c.args.self.now.numbered (sym c.in-None.ensures.value))
