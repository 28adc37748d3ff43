use Rattle.std.proofs.Common.{◌≡◌, [], false, ◌&&◌, None, sym, ap, ◌∙◌}
use Rattle.cmark_grammar.specs.Rows.{is_blank_line}
use Rattle.cmark_grammar.specs.Containers as grammar
use Rattle.cmark_grammar.specs.Containers.{keeps}
use Rattle.cmark_line_rules.specs.Rests.{row_of}
use Rattle.cmark_line_rules.proofs.RestSteps.{whole}
use Rattle.cmark_line_rules.proofs.ContainerRows.{blank-ends, bare-kept, block_quote-keeps, shows-block_quote, shows-item, shows-footnote, shows-definition, definition-keeps, kept-in}
use Rattle.cmark_line_rules.proofs.container.Container.keeps.Goals.{else-bare-via-then-bare+else-is_blank, else-bare-via-else-bare}
use Rattle.cmark_line_rules.proofs.container.Container.keeps.Goals as goal

pub returns-then-is_blank-clause-row : goal.returns-then-is_blank-clause-row
returns-then-is_blank-clause-row c k shows =
    let r = row_of c.args.rest in
    blank-ends k r (whole c.args.rest) (sym c.is_blank.ensures ∙ c.if-is_blank.true) ∙ ap (λ b. keeps k b r) (sym c.if-bare.true)

pub returns-in-BlockQuote-clause-row : goal.returns-in-BlockQuote-clause-row
returns-in-BlockQuote-clause-row c k shows =
    let r = row_of c.args.rest in
    let test : (c.args.bare && is_blank_line r) ≡ false =
    elim c.else-bare.branch [
      | else-bare-via-then-bare+else-is_blank w ↦ ap (λ z. z && is_blank_line r) w.if-bare.true ∙ sym w.is_blank.ensures ∙ w.if-is_blank.false
      | else-bare-via-else-bare w ↦ ap (λ z. z && is_blank_line r) w.if-bare.false
    ]
    in
    let block_quote = shows-block_quote c.args.self k c.in-BlockQuote.is shows in
    c.after_block_quote.ensures ∙ block_quote-keeps block_quote.0 r (whole c.args.rest) ∙ bare-kept (grammar.BlockQuote block_quote.0) c.args.bare r test ∙ ap (λ x. keeps x c.args.bare r) (sym block_quote.1)

pub returns-in-BlockQuote-clause-placed : goal.returns-in-BlockQuote-clause-placed
returns-in-BlockQuote-clause-placed c text = kept-in text c.args.rest (grammar.BlockQuote None) c.after_block_quote.result (c.after_block_quote.ensures ∙ block_quote-keeps None (row_of c.args.rest) (whole c.args.rest))

pub returns-in-Item-clause-row : goal.returns-in-Item-clause-row
returns-in-Item-clause-row c k shows =
    let r = row_of c.args.rest in
    let test : (c.args.bare && is_blank_line r) ≡ false =
    elim c.else-bare.branch [
      | else-bare-via-then-bare+else-is_blank w ↦ ap (λ z. z && is_blank_line r) w.if-bare.true ∙ sym w.is_blank.ensures ∙ w.if-is_blank.false
      | else-bare-via-else-bare w ↦ ap (λ z. z && is_blank_line r) w.if-bare.false
    ]
    in
    let item = shows-item c.args.self c.in-Item.width k c.in-Item.is shows in
    c.after_width.ensures item.0 item.1.0 item.1.1.0 ∙ bare-kept (grammar.Item item.0 item.1.0 c.in-Item.width item.1.1.0) c.args.bare r test ∙ ap (λ x. keeps x c.args.bare r) (sym item.1.1.1)

pub returns-in-Item-clause-placed : goal.returns-in-Item-clause-placed
returns-in-Item-clause-placed c text = kept-in text c.args.rest (grammar.Item 0 None c.in-Item.width None) c.after_width.result (c.after_width.ensures 0 None None)

pub returns-in-Footnote-clause-row : goal.returns-in-Footnote-clause-row
returns-in-Footnote-clause-row c k shows =
    let r = row_of c.args.rest in
    let test : (c.args.bare && is_blank_line r) ≡ false =
    elim c.else-bare.branch [
      | else-bare-via-then-bare+else-is_blank w ↦ ap (λ z. z && is_blank_line r) w.if-bare.true ∙ sym w.is_blank.ensures ∙ w.if-is_blank.false
      | else-bare-via-else-bare w ↦ ap (λ z. z && is_blank_line r) w.if-bare.false
    ]
    in
    let footnote = shows-footnote c.args.self c.in-Footnote.old k c.in-Footnote.is shows in
    c.after_footnote.ensures footnote.0 footnote.1.0 ∙ bare-kept (grammar.Footnote footnote.0 c.in-Footnote.old footnote.1.0) c.args.bare r test ∙ ap (λ x. keeps x c.args.bare r) (sym footnote.1.1)

pub returns-in-Footnote-clause-placed : goal.returns-in-Footnote-clause-placed
returns-in-Footnote-clause-placed c text = kept-in text c.args.rest (grammar.Footnote [] c.in-Footnote.old 0) c.after_footnote.result (c.after_footnote.ensures [] 0)

pub returns-in-Definition-clause-row : goal.returns-in-Definition-clause-row
returns-in-Definition-clause-row c k shows =
    let r = row_of c.args.rest in
    let w = c.in-Definition.width in
    let test : (c.args.bare && is_blank_line r) ≡ false =
    elim c.else-bare.branch [
      | else-bare-via-then-bare+else-is_blank v ↦ ap (λ z. z && is_blank_line r) v.if-bare.true ∙ sym v.is_blank.ensures ∙ v.if-is_blank.false
      | else-bare-via-else-bare v ↦ ap (λ z. z && is_blank_line r) v.if-bare.false
    ]
    in
    c.after_width-in-Definition.ensures 0 None None ∙ definition-keeps w r ∙ bare-kept (grammar.ListDefinition w) c.args.bare r test ∙ ap (λ x. keeps x c.args.bare r) (sym (shows-definition c.args.self w k c.in-Definition.is shows))

pub returns-in-Definition-clause-placed : goal.returns-in-Definition-clause-placed
returns-in-Definition-clause-placed c text =
    let w = c.in-Definition.width in
    kept-in text c.args.rest (grammar.ListDefinition w) c.after_width-in-Definition.result (c.after_width-in-Definition.ensures 0 None None ∙ definition-keeps w (row_of c.args.rest))
