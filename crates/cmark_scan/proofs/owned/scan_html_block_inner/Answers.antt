use Rattle.std.proofs.Common.{ℕ, List, ◌-◌, length, Option, Some, sym, ap, subst, ◌∙◌, arith}
use Rattle.std.specs.Prelude.{option_map}
use Rattle.cmark_grammar.specs.InlineHtml.{OwnedTag, owned_tag}
use Rattle.std.specs.Str.{IsUtf8}
use Rattle.cmark_scan.proofs.TagTexts.{owned-utf8}
use Rattle.cmark_scan_bytes.proofs.Endings.{following-boundary, tag-following}
use Rattle.cmark_scan.proofs.owned.scan_html_block_inner.Goals as goal

with_text : (end : ℕ) → List ℕ → Option OwnedTag
with_text end text = Some (record { end = end; buffer = text })

pub returns-clause-value : goal.returns-clause-value
unfolding with_text
returns-clause-value g c = λ prefix answers.
    ap (with_text (length c.args.bytes.now - length c.in-Some.rest.now)) (c.in_ok-buffer.ensures prefix answers)
    ∙ ap (option_map (λ rest. owned_tag prefix (length c.args.bytes.now - length rest) c.args.bytes.now)) (c.in-Some.ensures.value prefix answers)

pub returns-clause-boundary : goal.returns-clause-boundary
returns-clause-boundary g c utf8 = λ prefix answers.
    let bytes : List ℕ = c.args.bytes.now in
    following-boundary 62 bytes c.in-Some.rest.now (omega arith) utf8 (tag-following prefix bytes c.in-Some.rest.now (sym (c.in-Some.ensures.value prefix answers)))

pub returns-clause-utf8 : goal.returns-clause-utf8
returns-clause-utf8 g c utf8 = λ prefix answers whole.
    let bytes : List ℕ = c.args.bytes.now in
    let end = following-boundary 62 bytes c.in-Some.rest.now (omega arith) utf8 (tag-following prefix bytes c.in-Some.rest.now (sym (c.in-Some.ensures.value prefix answers))) in
    subst (λ (l : List ℕ). IsUtf8 l) (sym (c.in_ok-buffer.ensures prefix answers)) (owned-utf8 prefix whole (length bytes - length c.in-Some.rest.now) bytes utf8 end)
