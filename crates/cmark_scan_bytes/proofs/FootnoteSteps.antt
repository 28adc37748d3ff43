-- Labels of footnote definitions.
use Rattle.std.proofs.Common.{◌≡◌, ℕ, suc, ◌+◌, Bool, true, false, ◌==◌, if◌then◌else◌, List, [], ◌∷◌, take, drop, get_or, None, Some, refl, sym, ap, ◌∙◌, arith, drop-drop, eqb-true, true≢false}
use Rattle.std.proofs.lemmas.List.{get_or-drop}
use Rattle.cmark_grammar.specs.Letters.{first_is}
use Rattle.cmark_grammar.specs.Footnotes.{colon_after, label_then_colon}
use Rattle.cmark_grammar.specs.LinkDefinitions.{Parsed, up_to, is_label, label_if}
use Rattle.cmark_scan_bytes.specs.Footnotes.{labelled}

abbrev pub closed : List ℕ → (size : ℕ) → Parsed
closed bytes size = record { bytes = take size bytes; following = drop (suc size) bytes }

abbrev pub has_colon : List ℕ → Bool
has_colon bs = first_is (λ b. b == 58) bs

colon-is : (label bs : List ℕ) → colon_after label bs ≡ (if has_colon bs then Some (record { bytes = label; following = drop 1 bs }) else None)
colon-is label [] = refl
colon-is label (b ∷ bs) = refl

-- a label at the beginning that is closed, and the bytes after it
label-is : (bytes : List ℕ) (size : ℕ) → Some (closed bytes size) ≡ up_to false 93 91 false bytes
    → label_then_colon (label_if (up_to false 93 91 false bytes)) ≡ (if is_label (take size bytes) then (if has_colon (drop (suc size) bytes) then Some (labelled bytes size) else None) else None)
label-is bytes size is = ap (λ o. label_then_colon (label_if o)) (sym is) ∙ go (is_label (take size bytes))
  where
    go : (z : Bool) → label_then_colon (if z then Some (closed bytes size) else None) ≡ (if z then (if has_colon (drop (suc size) bytes) then Some (labelled bytes size) else None) else None)
    go true =
        colon-is (take size bytes) (drop (suc size) bytes)
        ∙ ap (λ (l : List ℕ). if has_colon (drop (suc size) bytes) then Some (let found : Parsed = record { bytes = take size bytes; following = l } in found) else None)
        (drop-drop 1 (suc size) bytes ∙ ap (λ n. drop n bytes) (let e : suc size + 1 ≡ suc (suc size) = omega arith in e))
    go false = refl

pub label-some : (bytes : List ℕ) (size : ℕ) → Some (closed bytes size) ≡ up_to false 93 91 false bytes → true ≡ is_label (take size bytes) → true ≡ has_colon (drop (suc size) bytes)
    → Some (labelled bytes size) ≡ label_then_colon (label_if (up_to false 93 91 false bytes))
label-some bytes size is label colon =
    sym (label-is bytes size is ∙ ap (λ (t : Bool). if t then (if has_colon (drop (suc size) bytes) then Some (labelled bytes size) else None) else None) (sym label) ∙ ap (λ (t : Bool). if t then Some (labelled bytes size) else None) (sym colon))

pub label-no_colon : (bytes : List ℕ) (size : ℕ) → Some (closed bytes size) ≡ up_to false 93 91 false bytes → true ≡ is_label (take size bytes) → false ≡ has_colon (drop (suc size) bytes)
    → None ≡ label_then_colon (label_if (up_to false 93 91 false bytes))
label-no_colon bytes size is label colon =
    sym (label-is bytes size is ∙ ap (λ (t : Bool). if t then (if has_colon (drop (suc size) bytes) then Some (labelled bytes size) else None) else None) (sym label) ∙ ap (λ (t : Bool). if t then Some (labelled bytes size) else None) (sym colon))

pub label-none : (bytes : List ℕ) (size : ℕ) → Some (closed bytes size) ≡ up_to false 93 91 false bytes → false ≡ is_label (take size bytes)
    → None ≡ label_then_colon (label_if (up_to false 93 91 false bytes))
label-none bytes size is label =
    sym (label-is bytes size is ∙ ap (λ (t : Bool). if t then (if has_colon (drop (suc size) bytes) then Some (labelled bytes size) else None) else None) (sym label))

first-byte : (bs : List ℕ) → true ≡ has_colon bs → get_or bs 0 0 ≡ 58
first-byte [] e = absurd (true≢false e)
first-byte (b ∷ bs) e = eqb-true b 58 (sym e)

pub colon-following : (bytes : List ℕ) (size : ℕ) → true ≡ has_colon (drop (suc size) bytes) → get_or bytes (size + 1) 0 ≡ 58
colon-following bytes size e =
    ap (λ n. get_or bytes n 0) (let s : size + 1 ≡ suc size + 0 = omega arith in s)
    ∙ sym (get_or-drop (suc size) bytes 0 0)
    ∙ first-byte (drop (suc size) bytes) e
