use Rattle.std.proofs.Common.{◌≡◌, ◌+◌, ◌-◌, ℕ, suc, List, Option, Some, take, drop, refl, sym, ap, subst, ◌∙◌, arith, eqb-true}
use Rattle.std.proofs.lemmas.Grind.{elements}
use Rattle.std.proofs.lemmas.List.{length-take, get_or-take}
use Rattle.memchr.specs.Find.{IsFirstByte, is_byte}
use Rattle.cmark_scan_bytes.specs.Shown.{cut_at}
use Rattle.cmark_scan_bytes.proofs.Links.{part_is, cut_out, shorter_cut, pipe_found, no_pipe}
use Rattle.cmark_scan_bytes.proofs.Boundaries.{boundary_after}
use Rattle.cmark_scan_bytes.proofs.link.scan_wikilink_pipe.Goals as goal

cut : (text bytes : List ℕ) (start len : ℕ) → bytes ≡ text → take (start + len - start) (drop start bytes) ≡ take len (drop start text)
cut text bytes start len is = ap (λ n. take n (drop start bytes)) (let e : start + len - start ≡ len = omega arith in e) ∙ ap (λ bs. take len (drop start bs)) is

FindsPipe : Option ℕ → List ℕ → Type 0
FindsPipe size bs = IsFirstByte (is_byte 124) bs size

pub returns-in_err-size-clause-value : goal.returns-in_err-size-clause-value
unfolding FindsPipe
returns-in_err-size-clause-value c = grind (arith, no_pipe, FindsPipe, cut)

pub returns-clause-value : goal.returns-clause-value
unfolding FindsPipe
returns-clause-value c =
    let start : ℕ = c.args.start_ix in
    let size : ℕ = c.in_ok-size.size in
    let name : List ℕ = take c.args.len (drop start c.args.text.now) in
    let first : FindsPipe (Some size) name = subst (FindsPipe (Some size)) (cut c.args.text.now c.as_bytes.result.now start c.args.len c.as_bytes.ensures.value) c.in_ok-size.ensures in
    part_is name c.range.result.now (drop (suc size) name) start size (c.range.ensures.value ∙ cut_out c.args.text.now start size ∙ shorter_cut (drop start c.args.text.now) size c.args.len first.0.high) first.0.high
    ∙ ap (cut_at start) (pipe_found name size first)

pub returns-clause-boundary : goal.returns-clause-boundary
unfolding FindsPipe
returns-clause-boundary c =
    let text : List ℕ = c.args.text.now in
    let start : ℕ = c.args.start_ix in
    let size : ℕ = c.in_ok-size.size in
    let first : FindsPipe (Some size) (take c.args.len (drop start text)) = subst (FindsPipe (Some size)) (cut text c.as_bytes.result.now start c.args.len c.as_bytes.ensures.value) c.in_ok-size.ensures in
    let lt = first.0.high in
    let shorter = length-take c.args.len (drop start text) in
    boundary_after text (drop start text) start size 124 c.utf8.text refl (omega arith) (sym (get_or-take c.args.len (drop start text) size 0 (omega arith)) ∙ eqb-true _ 124 first.1) (omega arith)

pub range-requires-clause-end_boundary : goal.range-requires-clause-end_boundary
range-requires-clause-end_boundary c = grind (arith, elements)
