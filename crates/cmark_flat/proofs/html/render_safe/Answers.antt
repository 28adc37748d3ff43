use Rattle.std.proofs.Common.{◌++◌, map, sym, ap, subst, ◌∙◌}
use Rattle.cmark_flat.specs.Render.{bare}
use Rattle.cmark_grammar.specs.Html.{html}
use Rattle.cmark_safe.proofs.SafeLaw.{safe_events_are_safe}
use Rattle.cmark_safe.specs.SafeEvents.{safe}
use Rattle.cmark_safe.specs.SafeHtml.{IsSafe}
use Rattle.cmark_text.specs.Ranged.{shown_ranged}
use Rattle.cmark_flat.proofs.html.render_safe.Goals as goal

pub returns-clause-safe : goal.returns-clause-safe
returns-clause-safe c =
    let further = c.args.further.now in
    let events = bare (map shown_ranged c.in_ok-given.given.items) in
    subst (IsSafe further) (sym (c.in_ok-write_all_safe.ensures ∙ ap (λ l. l ++ html (map (safe further) events)) c.new-out.ensures.bytes)) (safe_events_are_safe further events)
