use Rattle.std.proofs.Common.{rules, of_calls, ap, sym, ◌∙◌, subst, Some}
use Rattle.std.specs.Cmp.Lexicographic.{slice_cmp}
use Rattle.std.specs.Ordering.{nat_cmp}
use Rattle.std.specs.Str.{IsUtf8}
use Rattle.std.proofs.lemmas.Fn.{always_returns_same}
use Rattle.cmark_entities.specs.Table.{name_in}
use Rattle.cmark_entities.proofs.Found.{has_text, no_name, read, text_is_utf8}
use Rattle.cmark_entities.proofs.names.text_of_name.Goals as goal

pub returns-in_default : goal.returns-in_default
returns-in_default c = no_name c.args.name.now _ (c.in_default.ensures.position (λ row. slice_cmp nat_cmp (name_in row) c.args.name.now) (always_returns_same _ _ _ (λ a r f k. search (rules, of_calls))))

pub returns : goal.returns
returns c =
    let same = c.in-Ok.ensures.position (λ row. slice_cmp nat_cmp (name_in row) c.args.name.now) (always_returns_same _ _ _ (λ a r f k. search (rules, of_calls))) in
    let utf8 : IsUtf8 c.text_of.result.now = subst IsUtf8 (sym c.text_of.ensures) (text_is_utf8 c.in-Ok.at _ c.in-Ok.ensures.bound) in
    read _ c.from_utf8.result c.ok.result c.text_of.result.now c.ok.ensures.value c.from_utf8.ensures.cases utf8
    ∙ ap (λ t. Some t) c.text_of.ensures
    ∙ sym (has_text c.args.name.now c.in-Ok.at _ c.in-Ok.ensures.bound (same _))
