use Rattle.std.proofs.Common.{◌≡◌, ℕ, Bool, true, false, List, Option, None, refl, ap, ◌∙◌}
use Rattle.std.specs.Prelude.{if◌then◌else◌, option_copied}
use Rattle.cmark_values.specs.Shown.{shown_options}
use Rattle.cmark_inline.specs.Footnoted.{footnote_label}
use Rattle.cmark_inline.proofs.footnote.footnote_at.Goals as goal

none-either : (z : Bool) (x : Option (List ℕ)) → None ≡ x → None ≡ (if z then None else x)
none-either true x e = refl
none-either false x e = e

pub returns-in_err-label : goal.returns-in_err-label
returns-in_err-label c = record {
  value =
      ap option_copied c.from_residual.ensures
      ∙ none-either _ _ (c.in_err-label.ensures.value ∙ ap (footnote_label (shown_options c.args.options)) c.range.ensures.value);
}
