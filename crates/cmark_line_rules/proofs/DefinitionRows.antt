-- The definition that a line begins, as the calls on the beginning of the line find it.
use Rattle.std.proofs.Common.{◌≡◌, ℕ, ◌+◌, ◌≤◌, min, Bool, true, false, ◌&&◌, not, List, Option, Some, None, refl, sym, ap, ◌∙◌, arith, eq-eqb}
use Rattle.std.specs.Prelude.{if◌then◌else◌, nat_le, option_map, unwrap_or}
use Rattle.std.proofs.lemmas.Bool.{leb-true, leb-false}
use Rattle.std.proofs.lemmas.List.{drop-drop}
use Rattle.std.proofs.lemmas.Option.{same_Some}
use Rattle.std.specs.Prelude.{IfSome}
use Rattle.std.specs.Str.{IsCharBoundary}
use Rattle.cmark_grammar.specs.Containers.{begins_with, after_marker, width_with, enter}
use Rattle.cmark_grammar.specs.Options.{Options}
use Rattle.cmark_block_model.proofs.RowEdges.{definition-good}
use Rattle.cmark_line_rules.specs.Rests.{row_of, IsIn}
use Rattle.cmark_line_rules.specs.declared.line_rest.LineRest.{LineRest}
use Rattle.cmark_line_rules.proofs.RestSteps.{in-moved}
use Rattle.cmark_grammar.specs.DefinitionLists.{definition_width, definition_marker}
use Rattle.cmark_grammar.specs.Rows.{Row, without, indent_of, words_of}
use Rattle.cmark_scan_lines.specs.LineMarkers.{is_flush, definition_in, after_definition, sum_up_to_most}
use Rattle.cmark_scan_lines.proofs.PrefixSteps.{shallow, taken-all, flat, same-words, deep, width-widened}
use Rattle.cmark_line_rules.specs.Definitions.{definition_after, width_of, EntersDefinition}
use Rattle.cmark_line_rules.proofs.PrefixRows.{shallow-is, padding-few}

-- a definition's width after up to three columns, plus these, is its width on the whole line: it is small
module _ (r : Row) (le : indent_of r ≤ 3) where
  sum-short : sum_up_to_most (min 3 (indent_of r)) (width_with 1 (shallow r)) ≡ width_with 1 r
  sum-short =
      let few = padding-few (after_marker 1 r) in
      let w = width-widened r le 1 in
      let t = taken-all r le in
      omega (arith, few, w, t, le)

  whole-seen : option_map (sum_up_to_most (min 3 (indent_of r))) (definition_in (shallow r)) ≡ definition_width r
  whole-seen =
      ap (λ z. option_map (sum_up_to_most (min 3 (indent_of r))) (if z then definition_width (shallow r) else None)) (eq-eqb _ 0 (flat r le))
      ∙ go (begins_with 58 (words_of (shallow r)))
      ∙ ap (λ bs. if begins_with 58 bs then Some (width_with 1 r) else None) (same-words r le)
    where
      go : (z : Bool) → option_map (sum_up_to_most (min 3 (indent_of r))) (if z then Some (width_with 1 (shallow r)) else None) ≡ (if z then Some (width_with 1 r) else None)
      go true = ap Some sum-short
      go false = refl

pub definition-seen : (r : Row) → option_map (sum_up_to_most (min 3 (indent_of r))) (definition_in (shallow r)) ≡ definition_after r
definition-seen r = go (nat_le (indent_of r) 3) refl
  where
    go : (z : Bool) → nat_le (indent_of r) 3 ≡ z → option_map (sum_up_to_most (min 3 (indent_of r))) (definition_in (shallow r)) ≡ definition_after r
    go true e = whole-seen r (leb-true (indent_of r) 3 e) ∙ ap (λ z. if z then definition_width r else None) (sym e)
    go false e =
        ap (λ z. option_map (sum_up_to_most (min 3 (indent_of r))) (if z then definition_width (shallow r) else None)) (deep r (leb-false (indent_of r) 3 e))
        ∙ ap (λ z. if z then definition_width r else None) (sym e)

-- the result of the call, if this many columns were taken before
pub definition-found : (r s : Row) (n : ℕ) → n ≡ min 3 (indent_of r) → s ≡ without n r → option_map (sum_up_to_most n) (definition_in s) ≡ definition_after r
definition-found r s n count is =
    ap (λ x. option_map (sum_up_to_most n) (definition_in x)) (shallow-is r s n count is) ∙ ap (λ m. option_map (sum_up_to_most m) (definition_in (shallow r))) count ∙ definition-seen r

-- and the line that it leaves
pub definition-left : (r s : Row) (n w : ℕ) → n ≡ min 3 (indent_of r) → s ≡ without n r → Some w ≡ option_map (sum_up_to_most n) (definition_in s) → after_definition s ≡ without w r
definition-left r s n w count is found = ap after_definition (shallow-is r s n count is) ∙ go (nat_le (indent_of r) 3) refl (is_flush (shallow r)) (begins_with 58 (words_of (shallow r))) refl found'
  where
    found' : Some w ≡ option_map (sum_up_to_most (min 3 (indent_of r))) (definition_in (shallow r))
    found' = found ∙ ap (λ x. option_map (sum_up_to_most n) (definition_in x)) (shallow-is r s n count is) ∙ ap (λ m. option_map (sum_up_to_most m) (definition_in (shallow r))) count

    go : (z : Bool) → nat_le (indent_of r) 3 ≡ z → (a b : Bool) → is_flush (shallow r) ≡ a
        → Some w ≡ option_map (sum_up_to_most (min 3 (indent_of r))) (if a then (if b then Some (width_with 1 (shallow r)) else None) else None)
        → without (unwrap_or (if a then (if b then Some (width_with 1 (shallow r)) else None) else None) 0) (shallow r) ≡ without w r
    go false z a b f e = absurd (flush_none a b (sym f ∙ deep r (leb-false (indent_of r) 3 z)) e)
      where
        flush_none : (a b : Bool) → a ≡ false → Some w ≡ option_map (sum_up_to_most (min 3 (indent_of r))) (if a then (if b then Some (width_with 1 (shallow r)) else None) else None) → ⊥
        flush_none true b q e = let k : true ≡ false = q in cc
        flush_none false b q e = let k : Some w ≡ None = e in cc
    go true z true true f e =
        let le = leb-true (indent_of r) 3 z in
        let is_w : w ≡ width_with 1 r = same_Some w (sum_up_to_most (min 3 (indent_of r)) (width_with 1 (shallow r))) e ∙ sum-short r le in
        ap (λ cs. record r { columns = cs }) (drop-drop (width_with 1 (shallow r)) (min 3 (indent_of r)) r.columns)
        ∙ ap (λ m. without m r) (let q : min 3 (indent_of r) + width_with 1 (shallow r) ≡ w = omega (arith, is_w, width-widened r le 1, taken-all r le) in q)
    go true z true false f e = absurd (let k : Some w ≡ None = e in cc)
    go true z false b f e = absurd (let k : Some w ≡ None = e in cc)

pub content_end-following : (s : Row) → (after_definition s).content_end ≡ s.content_end
content_end-following s = refl

-- the line after the marker is part of the text
pub begun-in : (text : List ℕ) (rest : LineRest) (o : Option (ℕ × LineRest)) → option_map width_of o ≡ definition_after (row_of rest) → IfSome o (EntersDefinition (row_of rest)) → IsIn text rest → IfSome o (λ begun. IsIn text begun.1)
unfolding enter
begun-in text rest None e enters h = tt
begun-in text rest (Some begun) e enters h = go (nat_le (indent_of (row_of rest)) 3) (begins_with 58 (words_of (row_of rest))) refl e
  where
    go : (z c : Bool) → begins_with 58 (words_of (row_of rest)) ≡ c → Some begun.0 ≡ (if z then (if c then Some (width_with 1 (row_of rest)) else None) else None) → IsIn text begun.1
    go true true f q = in-moved text rest begun.1 (without begun.0 (row_of rest)) enters refl (definition-good (IsCharBoundary text) begun.0 (row_of rest) f (same_Some begun.0 (width_with 1 (row_of rest)) q) h.good) h
    go true false f q = absurd (let k : Some begun.0 ≡ None = q in cc)
    go false c f q = absurd (let k : Some begun.0 ≡ None = q in cc)

-- if definition lists are read, the marker of a line that lacks no prefix is a definition's
pub marker-read : (options : Options) (r : Row) → options.definition_list ≡ true → r.lazy ≡ false → definition_after r ≡ definition_marker options r
marker-read options r on whole = ap (λ l. if true && (not l && nat_le (indent_of r) 3) then definition_width r else None) (sym whole) ∙ ap (λ o. if o && (not r.lazy && nat_le (indent_of r) 3) then definition_width r else None) (sym on)
