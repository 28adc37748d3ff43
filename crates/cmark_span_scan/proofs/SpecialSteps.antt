-- Special bytes are ASCII.
use Rattle.std.proofs.Common.{◌≡◌, ◌⊎◌, inl, inr, ℕ, zero, suc, ◌+◌, ◌<◌, ◌≤◌, Bool, true, false, ◌==◌, ◌&&◌, ◌||◌, not, List, [], ◌∷◌, ◌++◌, length, drop, get_or, refl, sym, ap, ◌∙◌, arith, ⊎_elim, true≢false, eqb-true, subst, length-drop, drop-cons, set, get_or-set_same, get_or-set_other, cond}
use Rattle.std.specs.List.{prefix_len, list_any}
use Rattle.std.specs.Prelude.{codes}
use Rattle.std.specs.Str.{IsCharBoundary}
use Rattle.std.proofs.lemmas.Bool.{and_parts, or_cases, eqb-false}
use Rattle.std.proofs.Math.Bool.{or-false}
use Rattle.cmark_scan_bytes.proofs.Lists.{or_false}
use Rattle.std.proofs.lemmas.List.{get_or-drop}
use Rattle.std.proofs.lemmas.List.Sums.{prefix_len_stops, prefix_len-le-length}
use Rattle.cmark_grammar.specs.Options.{Options}
use Rattle.cmark_inline_model.specs.SpecialBytes.{is_one_of, is_special}
use Rattle.cmark_span_scan.specs.Special.{has_byte, IsTableOf}

-- P holds of each byte of a list
abbrev pub HaveAll : (P : ℕ → Type 0) → List ℕ → Type 0
HaveAll P [] = Unit {0}
HaveAll P (sign ∷ signs) = P sign × HaveAll P signs

module _ (P : ℕ → Type 0) where
  one_has : (signs : List ℕ) (b : ℕ) → HaveAll P signs → is_one_of signs b ≡ true → P b
  one_has [] b h e = absurd (true≢false (sym e))
  one_has (sign ∷ signs) b h e = ⊎_elim (λ x. subst P (eqb-true sign b x) h.0) (λ x. one_has signs b h.1 x) (or_cases (sign == b) (list_any (λ s. s == b) signs) e)

  -- one sign of an extension
  if_one : (on : Bool) (b sign : ℕ) → P sign → (on && (b == sign)) ≡ true → P b
  if_one on b sign h e = subst P (sym (eqb-true b sign (and_parts on (b == sign) e).1)) h

  if_any : (on : Bool) (signs : List ℕ) (b : ℕ) → HaveAll P signs → (on && is_one_of signs b) ≡ true → P b
  if_any on signs b h e = one_has signs b h (and_parts on (is_one_of signs b) e).1

  -- a property of each byte that the definition names holds of each special byte
  special_has : HaveAll P (codes "\n\r*_&\\[]<!`") → HaveAll P (codes "|~^=") → HaveAll P (codes "${}") → HaveAll P (codes ".-\"'")
      → (o : Options) (b : ℕ) → is_special o b ≡ true → P b
  special_has always single math smart o b e =
      ⊎_elim (one_has (codes "\n\r*_&\\[]<!`") b always)
      (λ x. ⊎_elim (if_one o.tables b 124 single.0)
      (λ y. ⊎_elim (if_one (o.strikethrough || o.subscript) b 126 single.1.0)
      (λ z. ⊎_elim (if_one o.superscript b 94 single.1.1.0)
      (λ w. ⊎_elim (if_one o.highlight b 61 single.1.1.1.0)
      (λ u. ⊎_elim (if_any o.math (codes "${}") b math) (if_any o.smart_punctuation (codes ".-\"'") b smart) (or_cases _ _ u))
      (or_cases _ _ w))
      (or_cases _ _ z))
      (or_cases _ _ y))
      (or_cases _ _ x))
      (or_cases _ _ e)

pub special_is_ascii : (o : Options) (b : ℕ) → is_special o b ≡ true → b < 128
special_is_ascii =
    special_has (λ b. b < 128)
    (omega arith, (omega arith, (omega arith, (omega arith, (omega arith, (omega arith, (omega arith, (omega arith, (omega arith, (omega arith, (omega arith, tt)))))))))))
    (omega arith, (omega arith, (omega arith, (omega arith, tt))))
    (omega arith, (omega arith, (omega arith, tt)))
    (omega arith, (omega arith, (omega arith, (omega arith, tt))))

-- the bytes that are special under some options
abbrev pub may_be_special : List ℕ
may_be_special = codes "\n\r*_&\\[]<!`|~^=${}.-\"'"

-- a byte that is not one of them is special under no options
pub plain_is_not_special : (o : Options) (b : ℕ) → is_one_of may_be_special b ≡ false → is_special o b ≡ false
plain_is_not_special o b e = go (is_special o b) refl
  where
    listed : is_special o b ≡ true → is_one_of may_be_special b ≡ true
    listed =
        special_has (λ c. is_one_of may_be_special c ≡ true)
        (refl, (refl, (refl, (refl, (refl, (refl, (refl, (refl, (refl, (refl, (refl, tt)))))))))))
        (refl, (refl, (refl, (refl, tt))))
        (refl, (refl, (refl, tt)))
        (refl, (refl, (refl, (refl, tt)))) o b

    go : (is : Bool) → is_special o b ≡ is → is_special o b ≡ false
    go true h = absurd (true≢false (sym (listed h) ∙ e))
    go false h = h

is_byte : (n : ℕ) → get_or may_be_special n 0 < 256
is_byte n = go may_be_special n
    (omega arith, (omega arith, (omega arith, (omega arith, (omega arith, (omega arith, (omega arith, (omega arith, (omega arith, (omega arith, (omega arith, (omega arith, (omega arith, (omega arith, (omega arith, (omega arith, (omega arith, (omega arith, (omega arith, (omega arith, (omega arith, (omega arith, tt))))))))))))))))))))))
  where
    go : (signs : List ℕ) (n : ℕ) → HaveAll (λ sign. sign < 256) signs → get_or signs n 0 < 256
    go [] n h = omega arith
    go (sign ∷ signs) zero h = h.0
    go (sign ∷ signs) (suc n) h = go signs n h.1

-- a table that is right for all bytes except those that are still to be set, with one more byte set
pub marked : (o : Options) (table : List Bool) (i k : ℕ) (is : Bool) → i < 22 → length table ≡ 256 → is ≡ is_special o (get_or may_be_special i 0)
    → (is_one_of (drop i may_be_special) k ≡ false → has_byte table k ≡ is_special o k)
    → is_one_of (drop (i + 1) may_be_special) k ≡ false → has_byte (set table (get_or may_be_special i 0) is) k ≡ is_special o k
marked o table i k is lt size told before after = go (sign == k) refl
  where
    sign : ℕ
    sign = get_or may_be_special i 0

    parts : drop i may_be_special ≡ sign ∷ drop (i + 1) may_be_special
    parts = drop-cons may_be_special i 0 lt ∙ ap (λ n. sign ∷ drop n may_be_special) (let e : suc i ≡ i + 1 = omega arith in e)

    low : sign < length table
    low = let n = is_byte i in omega (arith, size, n)

    go : (same : Bool) → (sign == k) ≡ same → has_byte (set table sign is) k ≡ is_special o k
    go true h = subst (λ n. has_byte (set table sign is) n ≡ is_special o n) (eqb-true sign k h) (get_or-set_same table sign is false low ∙ told)
    go false h =
        get_or-set_other table sign k is false (λ e. eqb-false sign k h (sym e))
        ∙ before (ap (λ signs. is_one_of signs k) parts ∙ ap (λ b. b || is_one_of (drop (i + 1) may_be_special) k) h ∙ after)

-- a byte of typographic punctuation is special only with that option
off : (x : Bool) → (x && false) ≡ false
off true = refl
off false = refl

on : (x : Bool) → (x && true) ≡ x
on true = refl
on false = refl

alone : (t w c h m s : Bool) → ((t && false) || ((w && false) || ((c && false) || ((h && false) || ((m && false) || (s && true)))))) ≡ s
alone t w c h m s = rw (off t, off w, off c, off h, off m, on s) refl

pub smart_alone : (o : Options) (b : ℕ) → ((b ≡ 46) ⊎ (b ≡ 45)) ⊎ ((b ≡ 34) ⊎ (b ≡ 39)) → is_special o b ≡ o.smart_punctuation
smart_alone o b is = go is
  where
    same : (n : ℕ) → is_special o n ≡ o.smart_punctuation → b ≡ n → is_special o b ≡ o.smart_punctuation
    same n h e = ap (is_special o) e ∙ h

    one : ((o.tables && false) || (((o.strikethrough || o.subscript) && false) || ((o.superscript && false) || ((o.highlight && false) || ((o.math && false) || (o.smart_punctuation && true)))))) ≡ o.smart_punctuation
    one = alone o.tables (o.strikethrough || o.subscript) o.superscript o.highlight o.math o.smart_punctuation

    go : ((b ≡ 46) ⊎ (b ≡ 45)) ⊎ ((b ≡ 34) ⊎ (b ≡ 39)) → is_special o b ≡ o.smart_punctuation
    go (inl (inl e)) = same 46 one e
    go (inl (inr e)) = same 45 one e
    go (inr (inl e)) = same 34 one e
    go (inr (inr e)) = same 39 one e

-- the first special byte is at a character boundary
pub next_boundary : (o : Options) (table : List Bool) (bytes : List ℕ) (at size : ℕ) → IsTableOf o table → ((i : ℕ) → get_or bytes i 0 < 256) → at ≤ length bytes
    → size ≡ prefix_len (λ b. not (has_byte table b)) (drop at bytes) → IsCharBoundary bytes (at + size)
next_boundary o table bytes at size is fits le e =
    let l = length-drop at bytes in
    let high = prefix_len-le-length (λ b. not (has_byte table b)) (drop at bytes) in (
      omega (arith, l, high, e),
      λ inside. absurd-high (at_special (omega (arith, l, inside, e))),
    )
  where
    not_false : (t : Bool) → not t ≡ false → t ≡ true
    not_false true q = refl
    not_false false q = absurd (true≢false q)

    at_special : prefix_len (λ b. not (has_byte table b)) (drop at bytes) < length (drop at bytes) → get_or bytes (at + size) 0 < 128
    at_special lt =
        let here : get_or (drop at bytes) (prefix_len (λ b. not (has_byte table b)) (drop at bytes)) 0 ≡ get_or bytes (at + size) 0 =
        ap (λ k. get_or (drop at bytes) k 0) (sym e) ∙ get_or-drop at bytes size 0 in
        let told : has_byte table (get_or bytes (at + size) 0) ≡ true =
        ap (has_byte table) (sym here) ∙ not_false _ (prefix_len_stops (λ b. not (has_byte table b)) (drop at bytes) 0 lt) in
        special_is_ascii o (get_or bytes (at + size) 0) (sym (is (get_or bytes (at + size) 0) (fits (at + size))) ∙ told)

    absurd-high : get_or bytes (at + size) 0 < 128 → 128 ≤ get_or bytes (at + size) 0 → 192 ≤ get_or bytes (at + size) 0
    absurd-high low high = absurd (omega (arith, low, high))

-- a disjunction of four tests, written in two ways
four_or : (a b c d : Bool) → (((a || b) || c) || d) ≡ (a || (b || (c || (d || false))))
four_or true b c d = refl
four_or false true c d = refl
four_or false false true d = refl
four_or false false false d = sym (or-false d)

pub one_of_four : (table : List Bool) (a b c d : ℕ) → (((has_byte table a || has_byte table b) || has_byte table c) || has_byte table d) ≡ list_any (has_byte table) (a ∷ b ∷ c ∷ d ∷ [])
one_of_four table a b c d = four_or (has_byte table a) (has_byte table b) (has_byte table c) (has_byte table d)

-- bytes that are not in the table are passed
pub passes : (table : List Bool) (front bs : List ℕ) → list_any (has_byte table) front ≡ false
    → prefix_len (λ b. not (has_byte table b)) (front ++ bs) ≡ length front + prefix_len (λ b. not (has_byte table b)) bs
passes table [] bs e = omega arith
passes table (b ∷ front) bs e =
    let parts = or_false (has_byte table b) (list_any (has_byte table) front) e in
    let here : prefix_len (λ c. not (has_byte table c)) (b ∷ (front ++ bs)) ≡ 1 + prefix_len (λ c. not (has_byte table c)) (front ++ bs) = ap (λ x. cond (not x) (1 + prefix_len (λ c. not (has_byte table c)) (front ++ bs)) 0) parts.0 in
    let rest = passes table front bs parts.1 in
    omega (arith, here, rest)
