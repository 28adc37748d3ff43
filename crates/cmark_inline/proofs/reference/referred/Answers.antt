use Rattle.std.specs.Prelude.{option_map}
use Rattle.std.proofs.Common.{◌+◌, ◌-◌, List, ℕ, None, Some, refl, sym, ap, subst, ◌∙◌}
use Rattle.cmark_grammar.specs.Labels.{fold, normal_form}
use Rattle.cmark_references.specs.Definitions.{definition}
use Rattle.cmark_leaf_text.specs.Reads.{is_cell_of, place_of}
use Rattle.cmark_values.specs.Shown.{shown_link_type}
use Rattle.cmark_inline.specs.Footnoted.{as_label}
use Rattle.cmark_inline.specs.Linked.{Answers, IsAnswered, IsLed, said_by, shown_destination}
use Rattle.cmark_inline.proofs.LastCalls.{on-err}
use Rattle.cmark_inline.proofs.References.{asks-answered, asks-nothing, by-answer, by-definition}
use Rattle.cmark_inline.proofs.reference.referred.Goals as goal

pub returns-in-Some-clause-refers : goal.returns-in-Some-clause-refers
returns-in-Some-clause-refers g c =
    let written : List ℕ = c.args.link_reference.label.now in
    let label : List ℕ = as_label (is_cell_of c.args.leaf.now) written in
    let said = λ (key : List ℕ). option_map said_by (definition c.args.references.now key) in
    by-definition g.F.BrokenLinkCallback.answers (definition c.args.references.now (fold label)) c.args.link_reference.link_type (normal_form label) _ _ c.args.callback.now c.args.callback.now c.in-Some.found c.in_ok-link.link
    (ap (option_map shown_destination) (sym c.in-Some.is) ∙ c.in_ok-found.ensures ∙ ap said (c.in_ok-label.ensures.key ∙ ap (λ z. fold (as_label z written)) c.is_cell.ensures))
    refl
    (subst (λ l. IsLed c.args.link_reference.link_type l c.in-Some.found c.in_ok-link.link) (c.in_ok-label.ensures.text ∙ ap (λ z. normal_form (as_label z written)) c.is_cell.ensures) c.in_ok-link.ensures)

pub returns-in_default-2-clause-refers : goal.returns-in_default-2-clause-refers
returns-in_default-2-clause-refers g c =
    let written : List ℕ = c.args.link_reference.label.now in
    let label : List ℕ = as_label (is_cell_of c.args.leaf.now) written in
    let said = λ (key : List ℕ). option_map said_by (definition c.args.references.now key) in
    by-answer g.F.BrokenLinkCallback.answers (definition c.args.references.now (fold label)) c.args.link_reference.link_type (normal_form label) _ _ c.args.callback.now c.ask.new.callback c.in_ok-found-2.field-0 None
    (ap (option_map shown_destination) (sym c.in_default.is) ∙ c.in_ok-found.ensures ∙ ap said (c.in_ok-label.ensures.key ∙ ap (λ z. fold (as_label z written)) c.is_cell.ensures))
    (subst (λ l. Answers g.F.BrokenLinkCallback.answers c.args.link_reference.link_type l (place_of c.args.leaf.now c.args.start) (place_of c.args.leaf.now (c.args.link_reference.end - 1) + 1) c.args.callback.now c.ask.new.callback c.in_ok-found-2.field-0) (c.in_ok-label.ensures.text ∙ ap (λ z. normal_form (as_label z written)) c.is_cell.ensures) c.in_ok-found-2.ensures.answers)
    (subst (λ d. IsAnswered c.args.link_reference.link_type (normal_form label) d None) (sym c.in_default-2.is) tt)

pub returns-clause-refers : goal.returns-clause-refers
returns-clause-refers g c =
    let written : List ℕ = c.args.link_reference.label.now in
    let label : List ℕ = as_label (is_cell_of c.args.leaf.now) written in
    let said = λ (key : List ℕ). option_map said_by (definition c.args.references.now key) in
    let name = c.in_ok-label.ensures.text ∙ ap (λ z. normal_form (as_label z written)) c.is_cell.ensures in
    let led = c.in_ok-link-2.ensures in
    by-answer g.F.BrokenLinkCallback.answers (definition c.args.references.now (fold label)) c.args.link_reference.link_type (normal_form label) _ _ c.args.callback.now c.ask.new.callback c.in_ok-found-2.field-0 (Some c.in_ok-link-2.link)
    (ap (option_map shown_destination) (sym c.in_default.is) ∙ c.in_ok-found.ensures ∙ ap said (c.in_ok-label.ensures.key ∙ ap (λ z. fold (as_label z written)) c.is_cell.ensures))
    (subst (λ l. Answers g.F.BrokenLinkCallback.answers c.args.link_reference.link_type l (place_of c.args.leaf.now c.args.start) (place_of c.args.leaf.now (c.args.link_reference.end - 1) + 1) c.args.callback.now c.ask.new.callback c.in_ok-found-2.field-0) name c.in_ok-found-2.ensures.answers)
    (subst (λ d. IsAnswered c.args.link_reference.link_type (normal_form label) d (Some c.in_ok-link-2.link)) (sym c.in-Some-2.is)
    (ap shown_link_type led.form ∙ c.to_unknown.ensures, led.id ∙ name, led.dest_url, led.title))

pub returns-in_err-label-clause-stops : goal.returns-in_err-label-clause-stops
returns-in_err-label-clause-stops g c = on-err c.from_residual.result _
    (asks-nothing g.F.BrokenLinkCallback.answers (definition c.args.references.now (fold (as_label (is_cell_of c.args.leaf.now) c.args.link_reference.label.now))) c.args.link_reference.link_type (normal_form (as_label (is_cell_of c.args.leaf.now) c.args.link_reference.label.now)) (place_of c.args.leaf.now c.args.start) (place_of c.args.leaf.now (c.args.link_reference.end - 1) + 1)
    c.args.callback.now c.args.callback.now refl)

pub returns-in_err-found-clause-stops : goal.returns-in_err-found-clause-stops
returns-in_err-found-clause-stops g c = on-err c.from_residual-in_err-found.result _
    (asks-nothing g.F.BrokenLinkCallback.answers (definition c.args.references.now (fold (as_label (is_cell_of c.args.leaf.now) c.args.link_reference.label.now))) c.args.link_reference.link_type (normal_form (as_label (is_cell_of c.args.leaf.now) c.args.link_reference.label.now)) (place_of c.args.leaf.now c.args.start) (place_of c.args.leaf.now (c.args.link_reference.end - 1) + 1)
    c.args.callback.now c.args.callback.now refl)

pub returns-in_err-link-clause-stops : goal.returns-in_err-link-clause-stops
returns-in_err-link-clause-stops g c = on-err c.from_residual-in_err-link.result _
    (asks-nothing g.F.BrokenLinkCallback.answers (definition c.args.references.now (fold (as_label (is_cell_of c.args.leaf.now) c.args.link_reference.label.now))) c.args.link_reference.link_type (normal_form (as_label (is_cell_of c.args.leaf.now) c.args.link_reference.label.now)) (place_of c.args.leaf.now c.args.start) (place_of c.args.leaf.now (c.args.link_reference.end - 1) + 1)
    c.args.callback.now c.args.callback.now refl)

pub returns-in_err-found-2-clause-stops : goal.returns-in_err-found-2-clause-stops
returns-in_err-found-2-clause-stops g c = on-err c.from_residual-in_err-found-2.result _
    (asks-nothing g.F.BrokenLinkCallback.answers (definition c.args.references.now (fold (as_label (is_cell_of c.args.leaf.now) c.args.link_reference.label.now))) c.args.link_reference.link_type (normal_form (as_label (is_cell_of c.args.leaf.now) c.args.link_reference.label.now)) (place_of c.args.leaf.now c.args.start) (place_of c.args.leaf.now (c.args.link_reference.end - 1) + 1)
    c.args.callback.now c.ask.new.callback c.in_err-found-2.ensures.unasked)

pub returns-in_err-link-2-clause-stops : goal.returns-in_err-link-2-clause-stops
returns-in_err-link-2-clause-stops g c = on-err c.from_residual-in_err-link-2.result _
    (let written : List ℕ = c.args.link_reference.label.now in
    let label : List ℕ = as_label (is_cell_of c.args.leaf.now) written in
    let said = λ (key : List ℕ). option_map said_by (definition c.args.references.now key) in
    asks-answered g.F.BrokenLinkCallback.answers (definition c.args.references.now (fold label)) c.args.link_reference.link_type (normal_form label) _ _ c.args.callback.now c.ask.new.callback c.in_ok-found-2.field-0
    (ap (option_map shown_destination) (sym c.in_default.is) ∙ c.in_ok-found.ensures ∙ ap said (c.in_ok-label.ensures.key ∙ ap (λ z. fold (as_label z written)) c.is_cell.ensures))
    (subst (λ l. Answers g.F.BrokenLinkCallback.answers c.args.link_reference.link_type l (place_of c.args.leaf.now c.args.start) (place_of c.args.leaf.now (c.args.link_reference.end - 1) + 1) c.args.callback.now c.ask.new.callback c.in_ok-found-2.field-0) (c.in_ok-label.ensures.text ∙ ap (λ z. normal_form (as_label z written)) c.is_cell.ensures) c.in_ok-found-2.ensures.answers))
