use Rattle.std.proofs.Common.{sym, ap, ◌∙◌}
use Rattle.cmark_safe.specs.Schemes.{is_allowed_if_any, unwritten_scheme}
use Rattle.cmark_safe.proofs.SchemeSteps.{allowed_unwritten}
use Rattle.cmark_safe.proofs.scheme.is_allowed.Goals as goal

pub returns-in-Some : goal.returns-in-Some
returns-in-Some c =
    c.is_allowed_scheme.ensures
    ∙ ap (is_allowed_if_any c.args.further.now) (c.in-Some.ensures ∙ ap unwritten_scheme c.as_bytes.ensures.value)
    ∙ sym (allowed_unwritten c.args.further.now c.args.destination.now)

pub returns-in-None : goal.returns-in-None
returns-in-None c =
    ap (is_allowed_if_any c.args.further.now) (c.in-None.ensures ∙ ap unwritten_scheme c.as_bytes.ensures.value)
    ∙ sym (allowed_unwritten c.args.further.now c.args.destination.now)
