use Rattle.std.proofs.Common.{◌≡◌, ◌⊎◌, sym, ◌∙◌, arith}
use Rattle.std.proofs.lemmas.Grind.{elements}
use Rattle.cmark_values.specs.Shown.{shown_options}
use Rattle.cmark_span_scan.proofs.SpecialSteps.{smart_alone}
use Rattle.cmark_span_scan.proofs.special.is_special.Goals as goal

pub returns-in-36 : goal.returns-in-36
returns-in-36 c = grind (arith, elements)

pub returns-in-46 : goal.returns-in-46
returns-in-46 c =
    let is : ((c.args.byte ≡ 46) ⊎ (c.args.byte ≡ 45)) ⊎ ((c.args.byte ≡ 34) ⊎ (c.args.byte ≡ 39)) = grind (arith, elements) in
    c.contains-in-46.ensures tt ∙ sym (smart_alone (shown_options c.args.options) c.args.byte is)
