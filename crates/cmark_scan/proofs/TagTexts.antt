-- The text that a tag over lines owns is text: prefixes cut no character.
use Rattle.std.proofs.Common.{◌≡◌, ℕ, zero, suc, ◌+◌, ◌-◌, ◌<◌, ◌≤◌, Bool, true, false, ◌==◌, ◌&&◌, ◌||◌, not, true≢false, if◌then◌else◌, List, [], ◌∷◌, ◌++◌, length, take, drop, get_or, refl, sym, ap, subst, ◌∙◌, arith, append-nil, append_assoc, drop-cons, length-drop, eqb-true}
use Rattle.std.specs.Str.{IsCharBoundary, IsUtf8}
use Rattle.std.proofs.lemmas.List.{take_more, get_or-drop}
use Rattle.std.proofs.lemmas.Str.{IsUtf8-nil, IsUtf8-append, IsUtf8-take, IsUtf8-drop, IsCharBoundary-after_ascii}
use Rattle.cmark_grammar.specs.Lines.{ends_line, begins_with_line_feed}
use Rattle.cmark_grammar.specs.InlineHtml.{takes_lines, without_prefixes, owned_tag}
use Rattle.cmark_scan.specs.Handled.{CutsNoCharacter}
use Rattle.cmark_scan.proofs.OwnedSteps.{skipped}

-- a line ends at an ASCII byte
ending_small : (b : ℕ) (bs : List ℕ) → ends_line b bs ≡ true → b < 128
ending_small b bs e = go (b == 10) refl (b == 13) refl e
  where
    go : (x : Bool) → (b == 10) ≡ x → (y : Bool) → (b == 13) ≡ y → (x || (y && not (begins_with_line_feed bs))) ≡ true → b < 128
    go true f y g e = let is = eqb-true b 10 f in omega arith
    go false f true g e = let is = eqb-true b 13 g in omega arith
    go false f false g e = absurd (true≢false (sym e))

-- a place in the rest
boundary_in_rest : (bs : List ℕ) (i j : ℕ) → i ≤ length bs → IsCharBoundary bs (i + j) → IsCharBoundary (drop i bs) j
boundary_in_rest bs i j le h =
    let l = length-drop i bs in
    let end = h.0 in
    (omega arith, λ lt high. let at = get_or-drop i bs j 0 in let lead = h.1 (omega arith) (omega arith) in omega arith)

module _ (prefix : List ℕ → ℕ) (whole : CutsNoCharacter prefix) where
  -- some bytes that are kept, and the bytes after them without their prefixes
  kept : (fuel n m size : ℕ) (bs : List ℕ) → n ≤ fuel → m + n ≡ size → IsUtf8 bs → IsCharBoundary bs size → IsUtf8 (take m bs ++ without_prefixes prefix n 0 (drop m bs))
  kept fuel zero m size bs le is utf8 end = subst IsUtf8 (sym (append-nil (take m bs))) (IsUtf8-take bs m utf8 (subst (IsCharBoundary bs) (let e : size ≡ m = omega arith in e) end))
  kept zero (suc n) m size bs le is utf8 end = absurd (omega arith)
  kept (suc fuel) (suc n) m size bs le is utf8 end =
      subst IsUtf8 (ap (λ l. take m bs ++ without_prefixes prefix (suc n) 0 l) (sym cut))
      (go (ends_line b rest) refl (kept fuel n (suc m) size bs (omega arith) (omega arith) utf8 end) (λ size' cs lt. kept fuel size' 0 size' cs (omega arith) (omega arith)))
    where
      lt : m < length bs
      lt = let h = end.0 in omega arith

      b : ℕ
      b = get_or bs m 0

      rest : List ℕ
      rest = drop (suc m) bs

      cut : drop m bs ≡ b ∷ rest
      cut = drop-cons bs m 0 lt

      front : take (suc m) bs ≡ take m bs ++ b ∷ []
      front = ap (λ k. take k bs) (let e : suc m ≡ m + 1 = omega arith in e) ∙ take_more bs m 0 lt

      onto : (l : List ℕ) → take (suc m) bs ++ l ≡ take m bs ++ (b ∷ l)
      onto l = ap (λ f. f ++ l) front ∙ append_assoc (take m bs) (b ∷ []) l

      following : ends_line b rest ≡ true → IsCharBoundary bs (suc m)
      following e = subst (IsCharBoundary bs) (let s : m + 1 ≡ suc m = omega arith in s) (IsCharBoundary-after_ascii bs m utf8 lt (ending_small b rest e))

      left : (k : ℕ) → IsUtf8 rest → IsCharBoundary rest k → ((size' : ℕ) (cs : List ℕ) → size' ≤ n → IsUtf8 cs → IsCharBoundary cs size' → IsUtf8 (without_prefixes prefix size' 0 cs)) → IsUtf8 (without_prefixes prefix n k rest)
      left k u at further = subst IsUtf8 (sym (skipped prefix k n rest)) (by (n - k) refl)
        where
          inside : IsCharBoundary rest n
          inside = boundary_in_rest bs (suc m) n (omega arith) (subst (IsCharBoundary bs) (let e : size ≡ suc m + n = omega arith in e) end)

          by : (d : ℕ) → n - k ≡ d → IsUtf8 (without_prefixes prefix d 0 (drop k rest))
          by zero e = IsUtf8-nil
          by (suc d) e = further (suc d) (drop k rest) (omega arith) (IsUtf8-drop rest k u at) (boundary_in_rest rest k (suc d) at.0 (subst (IsCharBoundary rest) (let s : n ≡ k + suc d = omega arith in s) inside))

      go : (z : Bool) → ends_line b rest ≡ z → IsUtf8 (take (suc m) bs ++ without_prefixes prefix n 0 rest) → ((size' : ℕ) (cs : List ℕ) → size' ≤ n → IsUtf8 cs → IsCharBoundary cs size' → IsUtf8 (without_prefixes prefix size' 0 cs))
          → IsUtf8 (take m bs ++ (b ∷ without_prefixes prefix n (if z then prefix rest else 0) rest))
      go false e next further = subst IsUtf8 (onto (without_prefixes prefix n 0 rest)) next
      go true e next further =
          let u : IsUtf8 rest = IsUtf8-drop bs (suc m) utf8 (following e) in
          subst IsUtf8 (onto (without_prefixes prefix n (prefix rest) rest))
          (IsUtf8-append (take (suc m) bs) (without_prefixes prefix n (prefix rest) rest) (IsUtf8-take bs (suc m) utf8 (following e)) (left (prefix rest) u (whole rest u) further))

  pub owned-utf8 : (size : ℕ) (bs : List ℕ) → IsUtf8 bs → IsCharBoundary bs size → IsUtf8 (owned_tag prefix size bs).buffer
  owned-utf8 size bs utf8 end = go (takes_lines (take size bs))
    where
      go : (z : Bool) → IsUtf8 (if z then without_prefixes prefix size 0 bs else [])
      go true = kept size size 0 size bs (omega arith) (omega arith) utf8 end
      go false = IsUtf8-nil
