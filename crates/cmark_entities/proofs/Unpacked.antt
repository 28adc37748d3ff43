-- The table has the rows of the list.
use Rattle.std.proofs.Common.{◌≡◌, ℕ, ◌+◌, List, [], ◌∷◌, ◌++◌, map, length, take, drop, refl, sym, ap, ap₂, ◌∙◌, arith}
use Rattle.std.proofs.lemmas.List.{append_assoc, length-append}
use Rattle.std.proofs.Math.Seq.{drop-append_seam, drop-append-add, take-append_seam}
use Rattle.std.specs.Str.{encode_utf8_all}
use Rattle.std.proofs.Math.Utf8.{encode}
use Rattle.cmark_entities.specs.Rows.{entity_rows}
use Rattle.cmark_entities.specs.Table.{name_among, text_among}
use Rattle.cmark_entities.specs.declared.table.TheConstants.{BYTES, ROWS}

abbrev Entry : Type 0
Entry = List ℕ × List ℕ

abbrev pub spelled_of : List Entry → List Entry
spelled_of rows = map (λ r. (r.0, encode_utf8_all r.1)) rows

abbrev packed : ℕ → List Entry → List (ℕ × ℕ × ℕ)
packed at [] = []
packed at (r ∷ rs) = (at, length r.0, length r.1) ∷ packed (at + length r.0 + length r.1) rs

abbrev joined : List Entry → List ℕ
joined [] = []
joined (r ∷ rs) = r.0 ++ (r.1 ++ joined rs)

abbrev entry_among : List ℕ → ℕ × ℕ × ℕ → Entry
entry_among bytes row = (name_among bytes row, text_among bytes row)

unpacked : (before : List ℕ) (rs : List Entry) (at : ℕ) → at ≡ length before → map (entry_among (before ++ joined rs)) (packed at rs) ≡ rs
unpacked before [] at e = refl
unpacked before (r ∷ rs) at e =
    let all = before ++ (r.0 ++ (r.1 ++ joined rs)) in
    let name : take (length r.0) (drop at all) ≡ r.0 =
    ap (λ n. take (length r.0) (drop n all)) e ∙ ap (take (length r.0)) (drop-append_seam before (r.0 ++ (r.1 ++ joined rs))) ∙ take-append_seam r.0 (r.1 ++ joined rs) in
    let text : take (length r.1) (drop (at + length r.0) all) ≡ r.1 =
    ap (λ n. take (length r.1) (drop (n + length r.0) all)) e
    ∙ ap (take (length r.1)) (drop-append-add before (r.0 ++ (r.1 ++ joined rs)) (length r.0) ∙ drop-append_seam r.0 (r.1 ++ joined rs))
    ∙ take-append_seam r.1 (joined rs) in
    let same : all ≡ (before ++ (r.0 ++ r.1)) ++ joined rs =
    sym (append_assoc before (r.0 ++ r.1) (joined rs) ∙ ap (λ l. before ++ l) (append_assoc r.0 r.1 (joined rs))) in
    let later = unpacked (before ++ (r.0 ++ r.1)) rs (at + length r.0 + length r.1) (omega (arith, e, length-append before (r.0 ++ r.1), length-append r.0 r.1)) in
    ap₂ (λ (n : List ℕ) (t : List ℕ). (n, t) ∷ map (entry_among all) (packed (at + length r.0 + length r.1) rs)) name text
    ∙ ap (λ l. r ∷ l) (ap (λ bytes. map (entry_among bytes) (packed (at + length r.0 + length r.1) rs)) same ∙ later)

rows_are : packed 0 (spelled_of entity_rows) ≡ ROWS
unfolding entity_rows encode
rows_are = refl

bytes_are : joined (spelled_of entity_rows) ≡ BYTES
unfolding entity_rows encode
bytes_are = refl

pub entries_are : map (entry_among BYTES) ROWS ≡ spelled_of entity_rows
entries_are =
    ap (map (entry_among BYTES)) (sym rows_are)
    ∙ ap (λ bytes. map (entry_among bytes) (packed 0 (spelled_of entity_rows))) (sym bytes_are)
    ∙ unpacked [] (spelled_of entity_rows) 0 refl
