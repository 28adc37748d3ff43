-- Line endings and their replacements.
use Rattle.std.proofs.Common.{◌≡◌, ℕ, zero, suc, ◌+◌, ◌-◌, ◌<◌, ◌≤◌, Bool, true, false, ◌==◌, ◌&&◌, ◌||◌, not, if◌then◌else◌, List, [], ◌∷◌, ◌++◌, length, take, drop, get_or, None, Some, refl, sym, ap, subst, ◌∙◌, arith, ⊎_elim, eqb-true, append_assoc, drop-drop}
use Rattle.std.specs.Str.{IsCharBoundary, IsUtf8}
use Rattle.std.proofs.lemmas.Bool.{or_parts, or_cases, false_from_ne_true}
use Rattle.std.proofs.lemmas.Str.{IsCharBoundary-before_ascii}
use Rattle.memchr.specs.Find.{IsFirstByte, is_byte2}
use Rattle.cmark_grammar.specs.CodeSpans.{with_line_ends}
use Rattle.cmark_grammar.specs.InlineHtml.{takes_lines}
use Rattle.cmark_grammar.specs.Lines.{begins_with_line_feed, ending_len}
use Rattle.cmark_scan_bytes.proofs.Boundaries.{boundary_after}
use Rattle.cmark_scan_bytes.proofs.Lists.{or_false}
use Rattle.cmark_span_scan.specs.Ends.{HasNoEnd, EndsLine}

module _ (mark : List ℕ) where
  abbrev pub end_step : (feed return another : Bool) → ℕ → List ℕ → List ℕ
  end_step feed return another b bs =
      if feed || (return && not another) then mark ++ with_line_ends mark bs else if return then with_line_ends mark bs else b ∷ with_line_ends mark bs

  -- a byte that is not in a line ending
  plain_byte : (b : ℕ) (bs : List ℕ) → is_byte2 10 13 b ≡ false → with_line_ends mark (b ∷ bs) ≡ b ∷ with_line_ends mark bs
  plain_byte b bs e =
      let h = or_parts (b == 10) (b == 13) e in
      ap (λ t. end_step t (b == 13) (begins_with_line_feed bs) b bs) h.0 ∙ ap (λ t. end_step false t (begins_with_line_feed bs) b bs) h.1

  plain_bytes : (n : ℕ) (bs : List ℕ) → n ≤ length bs → ((k : ℕ) → k < n → is_byte2 10 13 (get_or bs k 0) ≡ false) → with_line_ends mark bs ≡ take n bs ++ with_line_ends mark (drop n bs)
  plain_bytes zero bs le none = refl
  plain_bytes (suc n) [] le none = absurd (omega arith)
  plain_bytes (suc n) (b ∷ bs) le none = plain_byte b bs (none 0 (omega arith)) ∙ ap (λ l. b ∷ l) (plain_bytes n bs (omega arith) (λ k lt. none (suc k) (omega arith)))

  all_plain : (bs : List ℕ) → ((k : ℕ) → k < length bs → is_byte2 10 13 (get_or bs k 0) ≡ false) → with_line_ends mark bs ≡ bs
  all_plain [] none = refl
  all_plain (b ∷ bs) none = plain_byte b bs (none 0 (omega arith)) ∙ ap (λ l. b ∷ l) (all_plain bs (λ k lt. none (suc k) (omega arith)))

  pub no_lines : (bs : List ℕ) → takes_lines bs ≡ false → with_line_ends mark bs ≡ bs
  no_lines [] e = refl
  no_lines (b ∷ bs) e = let h = or_false (is_byte2 10 13 b) (takes_lines bs) e in plain_byte b bs h.0 ∙ ap (λ l. b ∷ l) (no_lines bs h.1)

  -- a line ending
  ended : (bs : List ℕ) → Type 0
  ended bs = with_line_ends mark bs ≡ mark ++ with_line_ends mark (drop (ending_len bs) bs)

  feed_ends : (bs : List ℕ) → with_line_ends mark (10 ∷ bs) ≡ mark ++ with_line_ends mark (drop (ending_len (10 ∷ bs)) (10 ∷ bs))
  feed_ends bs = refl

  return_ends : (bs : List ℕ) → with_line_ends mark (13 ∷ bs) ≡ mark ++ with_line_ends mark (drop (ending_len (13 ∷ bs)) (13 ∷ bs))
  return_ends [] = refl
  return_ends (c ∷ cs) = by_case (c == 10) refl
    where
      by_case : (t : Bool) → (c == 10) ≡ t → with_line_ends mark (13 ∷ (c ∷ cs)) ≡ mark ++ with_line_ends mark (drop (ending_len (13 ∷ (c ∷ cs))) (13 ∷ (c ∷ cs)))
      by_case true e =
          let is : c ≡ 10 = eqb-true c 10 e in
          subst (λ (d : ℕ). with_line_ends mark (13 ∷ (d ∷ cs)) ≡ mark ++ with_line_ends mark (drop (ending_len (13 ∷ (d ∷ cs))) (13 ∷ (d ∷ cs)))) (sym is) refl
      by_case false e =
          ap (λ t. end_step false true t 13 (c ∷ cs)) e
          ∙ sym (ap (λ t. mark ++ with_line_ends mark (drop (if t then 2 else 1) (13 ∷ (c ∷ cs)))) e)

  line_ends : (bs : List ℕ) → 0 < length bs → is_byte2 10 13 (get_or bs 0 0) ≡ true → with_line_ends mark bs ≡ mark ++ with_line_ends mark (drop (ending_len bs) bs)
  line_ends [] some e = absurd (omega arith)
  line_ends (b ∷ bs) some e =
      ⊎_elim
      (λ t. subst (λ (c : ℕ). with_line_ends mark (c ∷ bs) ≡ mark ++ with_line_ends mark (drop (ending_len (c ∷ bs)) (c ∷ bs))) (sym (eqb-true b 10 t)) (feed_ends bs))
      (λ t. subst (λ (c : ℕ). with_line_ends mark (c ∷ bs) ≡ mark ++ with_line_ends mark (drop (ending_len (c ∷ bs)) (c ∷ bs))) (sym (eqb-true b 13 t)) (return_ends bs))
      (or_cases (b == 10) (b == 13) e)

-- the last byte of a line ending
record EndsWithin (bs : List ℕ) : Type 0 where
  some : 0 < ending_len bs
  within : ending_len bs ≤ length bs
  ascii : get_or bs (ending_len bs - 1) 0 < 128

ascii_end : (b : ℕ) → is_byte2 10 13 b ≡ true → b < 128
ascii_end b e = ⊎_elim (λ h. let n = eqb-true b 10 h in omega arith) (λ h. let n = eqb-true b 13 h in omega arith) (or_cases (b == 10) (b == 13) e)

end_within : (bs : List ℕ) → 0 < length bs → is_byte2 10 13 (get_or bs 0 0) ≡ true → EndsWithin bs
end_within [] some e = absurd (omega arith)
end_within (b ∷ bs) some e = by_case ((b == 13) && begins_with_line_feed bs) refl bs refl
  where
    feed : (t : Bool) (rest : List ℕ) → (t && begins_with_line_feed rest) ≡ true → (1 ≤ length rest) × (get_or rest 0 0 ≡ 10)
    feed true [] q = cc
    feed true (c ∷ cs) q = (omega arith, eqb-true c 10 q)
    feed false rest q = cc

    by_case : (t : Bool) → ((b == 13) && begins_with_line_feed bs) ≡ t → (rest : List ℕ) → rest ≡ bs → EndsWithin (b ∷ bs)
    by_case true q rest same =
        let size : ending_len (b ∷ bs) ≡ 2 = ap (λ t. if t then 2 else 1) q in
        let h = feed (b == 13) bs q in record {
          some = omega (arith, size);
          within = let l = h.0 in omega (arith, size, l);
          ascii = let n = h.1 in subst (λ k. get_or (b ∷ bs) (k - 1) 0 < 128) (sym size) (omega (arith, n));
        }
    by_case false q rest same =
        let size : ending_len (b ∷ bs) ≡ 1 = ap (λ t. if t then 2 else 1) q in record {
          some = omega (arith, size);
          within = omega (arith, size);
          ascii = subst (λ k. get_or (b ∷ bs) (k - 1) 0 < 128) (sym size) (ascii_end b e);
        }

first_there : (n : ℕ) (bs : List ℕ) → n < length bs → (0 < length (drop n bs)) × (get_or (drop n bs) 0 0 ≡ get_or bs n 0)
first_there n [] lt = absurd (omega arith)
first_there zero (b ∷ bs) lt = (omega arith, refl)
first_there (suc n) (b ∷ bs) lt = first_there n bs (omega arith)

-- the first line ending, and no line ending
pub no_end : (bytes text : List ℕ) → bytes ≡ text → IsFirstByte (is_byte2 10 13) bytes None → HasNoEnd text
no_end bytes text same none = λ mark. all_plain mark text (λ k lt. false_from_ne_true _ (found k (omega arith) lt))
  where
    found : IsFirstByte (is_byte2 10 13) text None
    found = subst (λ (l : List ℕ). IsFirstByte (is_byte2 10 13) l None) same none

pub first_end : (bytes text rest : List ℕ) (at size : ℕ) → bytes ≡ text → IsUtf8 text → IsFirstByte (is_byte2 10 13) bytes (Some at) → rest ≡ drop at text → size ≡ ending_len rest → EndsLine text at (at + size)
first_end bytes text rest at size same utf8 first cut is =
    let low = within.some in let high = within.within in record {
      low = omega (arith, low, is);
      starts = IsCharBoundary-before_ascii text at found.0.high (ascii_end (get_or text at 0) found.1);
      ends = subst (IsCharBoundary text) (let e : at + (size - 1) + 1 ≡ at + size = omega (arith, low, is) in e)
          (boundary_after text rest at (size - 1) (get_or rest (size - 1) 0) utf8 cut (omega (arith, low, high, is)) refl (subst (λ n. get_or rest (n - 1) 0 < 128) (sym is) within.ascii));
      same = λ mark.
          plain_bytes mark at text (let h = found.0.high in omega arith) (λ k lt. false_from_ne_true _ (found.0.before k (omega arith) lt))
          ∙ ap (λ l. take at text ++ with_line_ends mark l) (sym cut)
          ∙ ap (λ l. take at text ++ l) (line_ends mark rest there.0 there.1)
          ∙ ap (λ l. take at text ++ (mark ++ with_line_ends mark l)) (ap (λ n. drop n rest) (sym is) ∙ ap (drop size) cut ∙ drop-drop size at text);
    }
  where
    found : IsFirstByte (is_byte2 10 13) text (Some at)
    found = subst (λ (l : List ℕ). IsFirstByte (is_byte2 10 13) l (Some at)) same first

    there : (0 < length rest) × (is_byte2 10 13 (get_or rest 0 0) ≡ true)
    there =
        let h = first_there at text found.0.high in
        (subst (λ (l : List ℕ). 0 < length l) (sym cut) h.0, ap (λ l. is_byte2 10 13 (get_or l 0 0)) cut ∙ ap (is_byte2 10 13) h.1 ∙ found.1)

    within : EndsWithin rest
    within = end_within rest there.0 there.1

-- one more line
pub line_pushed : (mark out one two rest front next all : List ℕ) (start end : ℕ) → EndsLine rest start end → one ≡ out ++ front → front ≡ take start rest → two ≡ one ++ mark → next ≡ drop end rest
    → out ++ with_line_ends mark rest ≡ all → two ++ with_line_ends mark next ≡ all
line_pushed mark out one two rest front next all start end ends first_push front_is second_push next_is e =
    ap (λ l. l ++ with_line_ends mark next) (second_push ∙ ap (λ l. l ++ mark) (first_push ∙ ap (λ l. out ++ l) front_is))
    ∙ append_assoc (out ++ take start rest) mark (with_line_ends mark next)
    ∙ append_assoc out (take start rest) (mark ++ with_line_ends mark next)
    ∙ ap (λ l. out ++ (take start rest ++ (mark ++ with_line_ends mark l))) next_is
    ∙ ap (λ l. out ++ l) (sym (ends.same mark))
    ∙ e
