-- Character boundaries: before and after ASCII bytes.
use Rattle.std.proofs.Common.{◌≡◌, ℕ, ◌+◌, ◌-◌, ◌<◌, List, length, take, drop, get_or, Option, None, Some, refl, sym, ap, subst, ◌∙◌, arith, length-drop}
use Rattle.std.specs.Option.{IfSome}
use Rattle.std.specs.Str.{IsCharBoundary, IsUtf8}
use Rattle.std.proofs.lemmas.List.{get_or-drop}
use Rattle.std.proofs.lemmas.Str.{IsCharBoundary-after_ascii, IsCharBoundary-from_rest, IsUtf8-drop}
use Rattle.cmark_scan_bytes.specs.declared.entity.Entity as declared
use Rattle.cmark_scan_bytes.specs.Shown.{Closes}
use Rattle.cmark_scan_bytes.proofs.Lists.{rest_of}
use Rattle.cmark_scan_bytes.proofs.Unescaping.{closed_cut_if}

pub ascii_boundary : (bs : List ℕ) (i b : ℕ) → i < length bs → get_or bs i 0 ≡ b → b < 128 → IsCharBoundary bs i
ascii_boundary bs i b lt is small = (omega arith, λ inside high. omega arith)

-- after a byte of the text that follows a place
pub boundary_after : (text cut : List ℕ) (start size b : ℕ) → IsUtf8 text → cut ≡ drop start text → size < length cut → get_or cut size 0 ≡ b → b < 128 → IsCharBoundary text (start + size + 1)
boundary_after text cut start size b utf8 is lt byte small =
    let l = length-drop start text in
    let m = ap length is in
    let here : get_or text (start + size) 0 ≡ b = sym (get_or-drop start text size 0) ∙ ap (λ (c : List ℕ). get_or c size 0) (sym is) ∙ byte in
    IsCharBoundary-after_ascii text (start + size) utf8 (omega (arith, l, m, lt)) (omega (arith, here, small))

-- after prefixes, whose ends are boundaries
pub next_boundary : (bytes text : List ℕ) (at size : ℕ) → bytes ≡ text → IsUtf8 text → IsCharBoundary text at → (IsUtf8 (take (length bytes - at) (drop at bytes)) → IsCharBoundary (take (length bytes - at) (drop at bytes)) size) → IsCharBoundary text (at + size)
next_boundary bytes text at size same utf8 here within =
    let rest : take (length bytes - at) (drop at bytes) ≡ drop at text = rest_of bytes at ∙ ap (drop at) same in
    IsCharBoundary-from_rest text at size here.0 (subst (λ (l : List ℕ). IsCharBoundary l size) rest (within (subst (λ (l : List ℕ). IsUtf8 l) (sym rest) (IsUtf8-drop text at utf8 here))))

-- after an entity
pub entity_boundary : (r : Option declared.Entity) (bs : List ℕ) → IfSome r (λ entity. Closes bs 0 entity.len) → IsUtf8 bs → IfSome r (λ entity. IsCharBoundary bs entity.len)
entity_boundary None bs h utf8 = tt
entity_boundary (Some entity) bs h utf8 = (closed_cut_if (Some entity) bs bs refl utf8 h).1
