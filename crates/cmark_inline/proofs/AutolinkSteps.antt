-- Autolinks that were found.
use Rattle.std.specs.Prelude.{Option, Some, None, if◌then◌else◌, nat_le}
use Rattle.std.proofs.Common.{◌≡◌, ◌⊎◌, inl, inr, ℕ, zero, suc, ◌+◌, ◌-◌, ◌<◌, ◌≤◌, ◌==◌, ◌||◌, ◌&&◌, not, Bool, true, false, List, [], ◌∷◌, length, take, drop, get_or, refl, sym, ap, ◌∙◌, arith, cond, eqb-true, length-drop, drop-drop, true≢false}
use Rattle.std.specs.List.{prefix_len}
use Rattle.std.proofs.lemmas.Bool.{and_parts, or_cases, leb-true, false_from_ne_true}
use Rattle.std.proofs.lemmas.List.{length-take-le, get_or-drop}
use Rattle.cmark_grammar.specs.Autolinks.{autolink_in, has_address, has_scheme, is_email, is_uri_byte, closed_by}
use Rattle.cmark_grammar.specs.Letters.{first_is, is_letter}
use Rattle.cmark_grammar.specs.LinkDefinitions.{Parsed}
use Rattle.cmark_grammar.specs.Tokens.{slice}
use Rattle.cmark_scan_bytes.specs.Shown.{Part, cut_at}
use Rattle.cmark_inline.specs.Tokens.{shown_autolink}
use Rattle.cmark_inline.proofs.Bytes.{first-at, first-past}

uri-byte : (b : ℕ) → 65 ≤ b → b ≤ 122 → is_uri_byte b ≡ true
uri-byte b low high =
    ap (λ z. not (z || ((b == 127) || ((b == 60) || (b == 62))))) (false_from_ne_true (nat_le b 32) (λ e. let h = leb-true b 32 e in absurd (omega (arith, h, low))))
    ∙ ap (λ z. not (z || ((b == 60) || (b == 62)))) (false_from_ne_true (b == 127) (λ e. let h = eqb-true b 127 e in absurd (omega (arith, h, high))))
    ∙ ap (λ z. not (z || (b == 62))) (false_from_ne_true (b == 60) (λ e. let h = eqb-true b 60 e in absurd (omega (arith, h, low))))
    ∙ ap not (false_from_ne_true (b == 62) (λ e. let h = eqb-true b 62 e in absurd (omega (arith, h, low))))

letter-byte : (b : ℕ) → is_letter b ≡ true → is_uri_byte b ≡ true
letter-byte b e = go (nat_le 65 b && nat_le b 90) refl
  where
    go : (z : Bool) → (nat_le 65 b && nat_le b 90) ≡ z → is_uri_byte b ≡ true
    go true q = let h = and_parts (nat_le 65 b) (nat_le b 90) q in let low = leb-true 65 b h.0 in let high = leb-true b 90 h.1 in uri-byte b low (let n : b ≤ 122 = omega (arith, high) in n)
    go false q =
        let f : (nat_le 97 b && nat_le b 122) ≡ true = sym (ap (λ z. nat_le 97 (if z then b + 32 else b) && nat_le (if z then b + 32 else b) 122) q) ∙ e in
        let h = and_parts (nat_le 97 b) (nat_le b 122) f in
        let low = leb-true 97 b h.0 in
        uri-byte b (let n : 65 ≤ b = omega (arith, low) in n) (leb-true b 122 h.1)

some-first : (bs : List ℕ) → first_is is_letter bs ≡ true → 0 < prefix_len is_uri_byte bs
some-first [] e = absurd (true≢false (sym e))
some-first (b ∷ bs) e = let n : prefix_len is_uri_byte (b ∷ bs) ≡ 1 + prefix_len is_uri_byte bs = ap (λ t. cond t (1 + prefix_len is_uri_byte bs) 0) (letter-byte b e) in omega (arith, n)

-- the number of bytes between the angle brackets
record IsClosed (bs : List ℕ) (found : Parsed) : Type 0 where
  size : ℕ
  some : 0 < size
  within : size < length bs
  closer : get_or bs size 0 ≡ 62
  bytes : found.bytes ≡ take size bs
  following : found.following ≡ drop (suc size) bs

closed : (emails : Bool) (bs : List ℕ) (found : Parsed) → autolink_in emails bs ≡ Some found → IsClosed bs found
closed emails bs found e = by-address (has_address emails bs) refl
  where
    n : ℕ
    n = prefix_len is_uri_byte bs

    none : {A : Type 0} (x : A) → None ≡ Some x → ⊥
    none x q = let z : ⊥ = cc in z

    same : (x y : Parsed) → Some x ≡ Some y → y ≡ x
    same x y q = let z : y ≡ x = cc in z

    made : Parsed
    made = record { bytes = take n bs; following = drop (suc n) bs }

    places : (k m : ℕ) → (k < m) ⊎ (m ≤ k)
    places k zero = inr (omega arith)
    places zero (suc m) = inl (omega arith)
    places (suc k) (suc m) = go (places k m)
      where
        go : (k < m) ⊎ (m ≤ k) → (suc k < suc m) ⊎ (suc m ≤ suc k)
        go (inl h) = inl (let q : suc k < suc m = omega (arith, h) in q)
        go (inr h) = inr (let q : suc m ≤ suc k = omega (arith, h) in q)

    by-place : 0 < n → first_is (λ b. b == 62) (drop n bs) ≡ true → found ≡ made → (n < length bs) ⊎ (length bs ≤ n) → IsClosed bs found
    by-place some closes is (inl lt) = record {
      size = n;
      some = some;
      within = lt;
      closer = eqb-true (get_or bs n 0) 62 (sym (first-at (λ b. b == 62) bs n lt) ∙ closes);
      bytes = ap (λ (f : Parsed). f.bytes) is;
      following = ap (λ (f : Parsed). f.following) is;
    }
    by-place some closes is (inr le) = absurd (true≢false (sym closes ∙ first-past (λ b. b == 62) bs n le))

    by-closer : 0 < n → (z : Bool) → first_is (λ b. b == 62) (drop n bs) ≡ z → (if z then Some made else None) ≡ Some found → IsClosed bs found
    by-closer some true q f = by-place some q (same made found f) (places n (length bs))
    by-closer some false q f = absurd (none found f)

    -- an email address is not empty
    some-email : (k : ℕ) → is_email (take k bs) ≡ true → 0 < k
    some-email zero h = cc
    some-email (suc k) h = omega arith

    some-address : (has_scheme bs ≡ true) ⊎ ((emails && is_email (take n bs)) ≡ true) → 0 < n
    some-address (inl h) = some-first bs (and_parts (first_is is_letter bs) _ h).0
    some-address (inr h) = some-email n (and_parts emails (is_email (take n bs)) h).1

    by-address : (z : Bool) → has_address emails bs ≡ z → IsClosed bs found
    by-address true q =
        by-closer (some-address (or_cases (has_scheme bs) (emails && is_email (take n bs)) q)) (first_is (λ b. b == 62) (drop n bs)) refl (sym (ap (λ z. if z then closed_by 62 n bs else None) q) ∙ e)
    by-address false q = absurd (none found (sym (ap (λ z. if z then closed_by 62 n bs else None) q) ∙ e))

-- a scan found an autolink after its `<`
pub record IsAutolinkAt (emails : Bool) (text : List ℕ) (at end : ℕ) : Type 0 where
  pub value : Some (shown_autolink text at end) ≡ autolink_in emails (drop (at + 1) text)
  pub some : at + 2 < end
  pub within : end ≤ length text
  pub closer : get_or text (end - 1) 0 ≡ 62

pub autolink-at : (emails : Bool) (text : List ℕ) (at : ℕ) (part : Part) → at + 1 ≤ length text → Some part ≡ cut_at (at + 1) (autolink_in emails (drop (at + 1) text)) → IsAutolinkAt emails text at part.end
autolink-at emails text at part le e = go (autolink_in emails (drop (at + 1) text)) refl e
  where
    bs : List ℕ
    bs = drop (at + 1) text

    none : {A : Type 0} (x : A) → Some x ≡ None → ⊥
    none x q = let z : ⊥ = cc in z

    same : (x y : Part) → Some x ≡ Some y → x ≡ y
    same x y q = let z : x ≡ y = cc in z

    go : (m : Option Parsed) → autolink_in emails bs ≡ m → Some part ≡ cut_at (at + 1) m → IsAutolinkAt emails text at part.end
    go None q f = absurd (none part f)
    go (Some found) q f =
        let c = closed emails bs found q in
        let n = c.size in
        let some = c.some in
        let within = c.within in
        let d = length-drop (at + 1) text in
        let is : part ≡ record { end = at + 1 + suc (length found.bytes); bytes = found.bytes } = same part (record { end = at + 1 + suc (length found.bytes); bytes = found.bytes }) f in
        let size : length found.bytes ≡ n = ap length c.bytes ∙ length-take-le n bs (let h : n ≤ length bs = omega (arith, within) in h) in
        let ends : part.end ≡ at + 1 + suc (length found.bytes) = ap (λ (p : Part). p.end) is in
        let bytes : slice text (at + 1) (part.end - 1) ≡ found.bytes = ap (λ k. take k bs) (let h : part.end - 1 - (at + 1) ≡ n = omega (arith, ends, size) in h) ∙ sym c.bytes in
        let following : drop part.end text ≡ found.following = ap (λ k. drop k text) (let h : part.end ≡ at + 1 + suc n = omega (arith, ends, size) in h) ∙ sym (drop-drop (suc n) (at + 1) text) ∙ sym c.following in
        record {
          value = ap Some (ap (λ b. record { bytes = b; following = drop part.end text }) bytes ∙ ap (λ b. record { bytes = found.bytes; following = b }) following) ∙ sym q;
          some = (let h : at + 2 < part.end = omega (arith, ends, size, some) in h);
          within = (let h : part.end ≤ length text = omega (arith, ends, size, within, d, le) in h);
          closer = ap (λ k. get_or text k 0) (let h : part.end - 1 ≡ at + 1 + n = omega (arith, ends, size) in h) ∙ sym (get_or-drop (at + 1) text n 0) ∙ c.closer;
        }
