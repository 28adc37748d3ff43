-- A label ends with its closing bracket.
use Rattle.std.specs.Prelude.{if◌then◌else◌, not, ◌&&◌, ◌||◌, drop, Option, Some, None}
use Rattle.std.proofs.Common.{◌≡◌, ℕ, ◌+◌, ◌-◌, ◌<◌, ◌≤◌, ◌==◌, Bool, true, false, true≢false, List, [], ◌∷◌, ◌++◌, length, get_or, refl, sym, ap, subst, ◌∙◌, arith, length-append, length-drop, eqb-true}
use Rattle.std.proofs.lemmas.List.{get_or-drop, get_or-append_right}
use Rattle.cmark_grammar.specs.Letters.{and_then}
use Rattle.cmark_grammar.specs.LinkDefinitions.{Parsed, put, escapes_next, up_to, is_label, label_if, label_in}
use Rattle.cmark_grammar.specs.LinkTails.{reference_label_in}

-- a closing bracket is directly before the bytes `following`
pub record ClosesBefore (bs : List ℕ) (following : List ℕ) : Type 0 where
  pub before : List ℕ
  pub is : bs ≡ before ++ (93 ∷ following)

abbrev Closes : List ℕ → Option Parsed → Type 0
Closes bs None = Unit {0}
Closes bs (Some found) = ClosesBefore bs found.following

more : (b : ℕ) (bs following : List ℕ) → ClosesBefore bs following → ClosesBefore (b ∷ bs) following
more b bs following h = record { before = b ∷ h.before; is = ap (λ l. b ∷ l) h.is }

closes_put : (b : ℕ) (bs : List ℕ) (found : Option Parsed) → Closes bs found → Closes (b ∷ bs) (put b found)
closes_put b bs None h = tt
closes_put b bs (Some found) h = more b bs found.following h

up_to_closes : (escaped : Bool) (refused : ℕ) (over : Bool) (bs : List ℕ) → Closes bs (up_to escaped 93 refused over bs)
up_to_closes escaped refused over [] = tt
up_to_closes escaped refused over (b ∷ bs) = go (not escaped && (b == 93)) refl ((not escaped && (b == refused)) || (not over && ((b == 10) || (b == 13)))) (up_to_closes (escapes_next escaped b) refused over bs)
  where
    rest : Option Parsed
    rest = up_to (escapes_next escaped b) 93 refused over bs

    right : (x y : Bool) → (x && y) ≡ true → y ≡ true
    right true y e = e
    right false y e = absurd (true≢false (sym e))

    go : (z : Bool) → (not escaped && (b == 93)) ≡ z → (y : Bool) → Closes bs rest → Closes (b ∷ bs) (if z then Some (record { bytes = []; following = bs }) else if y then None else put b rest)
    go true e y h = record { before = []; is = ap (λ c. c ∷ bs) (eqb-true b 93 (right (not escaped) (b == 93) e)) }
    go false e true h = tt
    go false e false h = closes_put b bs rest h

label_closes : (bs : List ℕ) → Closes bs (label_in bs)
label_closes bs = go (up_to false 93 91 true bs) (up_to_closes false 91 true bs)
  where
    go : (found : Option Parsed) → Closes bs found → Closes bs (label_if found)
    go None h = tt
    go (Some found) h = either (is_label found.bytes)
      where
        either : (z : Bool) → Closes bs (if z then Some found else None)
        either true = h
        either false = tt

reference_closes : (bs : List ℕ) → Closes bs (reference_label_in bs)
reference_closes [] = tt
reference_closes (b ∷ bs) = go (b == 91) (label_closes bs)
  where
    shift : (found : Option Parsed) → Closes bs found → Closes (b ∷ bs) found
    shift None h = tt
    shift (Some found) h = more b bs found.following h

    go : (z : Bool) → Closes bs (label_in bs) → Closes (b ∷ bs) (and_then (if z then Some bs else None) label_in)
    go true h = shift (label_in bs) h
    go false h = tt

-- the last byte of a full reference's label is its closing bracket
pub label-ends : (text : List ℕ) (at end : ℕ) (found : Parsed) → reference_label_in (drop at text) ≡ Some found → found.following ≡ drop end text → end ≤ length text → (0 < end) × (get_or text (end - 1) 0 ≡ 93)
label-ends text at end found e following within =
    let h : ClosesBefore (drop at text) found.following = subst (Closes (drop at text)) e (reference_closes (drop at text)) in
    let a = ap length h.is in
    let b = length-append h.before (93 ∷ found.following) in
    let c = length-drop at text in
    let d = ap length following in
    let f = length-drop end text in
    let n : end ≡ at + (length h.before + 1) = omega (arith, a, b, c, d, f, within) in
    let m : end - 1 ≡ at + length h.before = omega (arith, n) in (
      (let q : 0 < end = omega (arith, n) in q),
      ap (λ k. get_or text k 0) m
          ∙ sym (get_or-drop at text (length h.before) 0)
          ∙ ap (λ l. get_or l (length h.before) 0) h.is
          ∙ get_or-append_right h.before (93 ∷ found.following) (length h.before) (length h.before) 0 refl (let q : length h.before ≤ length h.before = omega arith in q)
          ∙ ap (λ k. get_or (93 ∷ found.following) k 0) (let q : length h.before - length h.before ≡ 0 = omega arith in q),
    )
