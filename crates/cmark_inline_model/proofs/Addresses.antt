-- Without the option for email addresses the address of each autolink is a URI.
use Rattle.std.specs.Prelude.{Some, ◌==◌, nat_le, if◌then◌else◌, take, drop}
use Rattle.std.specs.List.{prefix_len}
use Rattle.std.proofs.Common.{◌≡◌, ◌⊎◌, inl, ℕ, suc, ◌+◌, ◌≤◌, Bool, true, false, List, [], ◌∷◌, refl, sym, ap, ◌∙◌, subst, arith, cond, eqb-true, true≢false, rules}
use Rattle.std.proofs.lemmas.Bool.{and_parts, or_cases, leb-true, false_from_ne_true}
use Rattle.cmark_grammar.specs.Autolinks.{autolink_in, has_scheme, is_scheme_byte, is_uri_byte}
use Rattle.cmark_grammar.specs.Letters.{first_is, is_letter, is_number}
use Rattle.cmark_grammar.specs.LinkDefinitions.{Parsed}
use Rattle.cmark_grammar.specs.LinkType.{Autolink, Email}
use Rattle.cmark_grammar.specs.Options.{Options}
use Rattle.cmark_grammar.specs.Siblings.{address_type}
use Rattle.cmark_inline_model.specs.OptionRules.{IsLinkGiven}

-- ## Each byte of a scheme may be in a URI

uri_byte : (b : ℕ) → 33 ≤ b → b ≤ 126 → ((b == 60) ≡ true → ⊥) → ((b == 62) ≡ true → ⊥) → is_uri_byte b ≡ true
uri_byte b low high less greater = grind (arith, false_from_ne_true, leb-true, eqb-true)

between : (b : ℕ) → (((33 ≤ b) × (b ≤ 59)) ⊎ ((63 ≤ b) × (b ≤ 126))) → is_uri_byte b ≡ true
between b h = grind (arith, uri_byte, eqb-true)

letter_byte : (b : ℕ) → is_letter b ≡ true → is_uri_byte b ≡ true
letter_byte b e = grind (arith, and_parts, leb-true, between)

number_byte : (b : ℕ) → is_number b ≡ true → is_uri_byte b ≡ true
number_byte b e = let h = and_parts (nat_le 48 b) (nat_le b 57) e in let low = leb-true 48 b h.0 in let high = leb-true b 57 h.1 in between b (inl (omega (arith, low), omega (arith, high)))

is_byte : (b c : ℕ) → (b == c) ≡ true → is_uri_byte c ≡ true → is_uri_byte b ≡ true
is_byte b c e h = ap is_uri_byte (eqb-true b c e) ∙ h

scheme_byte : (b : ℕ) → is_scheme_byte b ≡ true → is_uri_byte b ≡ true
scheme_byte b e = grind (arith, or_cases, is_byte, letter_byte, number_byte)

-- ## The bytes of a scheme are bytes of a URI

abbrev is_colon : ℕ → Bool
is_colon b = b == 58

abbrev scheme_size : List ℕ → ℕ
scheme_size bs = prefix_len is_scheme_byte bs

abbrev taken : List ℕ → List ℕ
taken bs = take (prefix_len is_uri_byte bs) bs

-- how many bytes pass in front, by the first byte
size_more : (p : ℕ → Bool) (b : ℕ) (bs : List ℕ) → p b ≡ true → prefix_len p (b ∷ bs) ≡ suc (prefix_len p bs)
size_more p b bs e = ap (λ t. cond t (1 + prefix_len p bs) 0) e ∙ (let q : 1 + prefix_len p bs ≡ suc (prefix_len p bs) = omega arith in q)

size_none : (p : ℕ → Bool) (b : ℕ) (bs : List ℕ) → p b ≡ false → prefix_len p (b ∷ bs) ≡ 0
size_none p b bs e = ap (λ t. cond t (1 + prefix_len p bs) 0) e

taken_byte : (b : ℕ) (bs : List ℕ) → is_uri_byte b ≡ true → taken (b ∷ bs) ≡ b ∷ taken bs
taken_byte b bs e = ap (λ k. take k (b ∷ bs)) (size_more is_uri_byte b bs e)

colon_taken : (bs : List ℕ) → first_is is_colon (drop (scheme_size bs) bs) ≡ true → (scheme_size (taken bs) ≡ scheme_size bs) × (first_is is_colon (drop (scheme_size bs) (taken bs)) ≡ true)
colon_taken [] e = absurd (true≢false (sym e))
colon_taken (b ∷ bs) e = go (colon_taken bs) (is_scheme_byte b) refl
  where
    more : is_scheme_byte b ≡ true → (l : List ℕ) → scheme_size (b ∷ l) ≡ suc (scheme_size l)
    more q l = size_more is_scheme_byte b l q

    nothing : is_scheme_byte b ≡ false → (l : List ℕ) → scheme_size (b ∷ l) ≡ 0
    nothing q l = size_none is_scheme_byte b l q

    go : (first_is is_colon (drop (scheme_size bs) bs) ≡ true → (scheme_size (taken bs) ≡ scheme_size bs) × (first_is is_colon (drop (scheme_size bs) (taken bs)) ≡ true)) → (z : Bool) → is_scheme_byte b ≡ z → (scheme_size (taken (b ∷ bs)) ≡ scheme_size (b ∷ bs)) × (first_is is_colon (drop (scheme_size (b ∷ bs)) (taken (b ∷ bs))) ≡ true)
    go inner true q = grind (arith, taken_byte, scheme_byte, more)
    go inner false q = grind (arith, nothing, taken_byte, is_byte)

letter_taken : (bs : List ℕ) → first_is is_letter bs ≡ true → first_is is_letter (taken bs) ≡ true
letter_taken [] e = e
letter_taken (b ∷ bs) e = ap (first_is is_letter) (taken_byte b bs (letter_byte b e)) ∙ e

scheme_taken : (bs : List ℕ) → has_scheme bs ≡ true → has_scheme (taken bs) ≡ true
scheme_taken bs e = grind (arith, and_parts, colon_taken, letter_taken)

-- ## The type of the link

module _ (options : Options) where
  by_email : (address : List ℕ) → options.email_autolinks ≡ true → IsLinkGiven options (address_type address)
  by_email address on = grind arith

  by_uri : (address : List ℕ) → has_scheme address ≡ true → IsLinkGiven options (address_type address)
  by_uri address e = subst (λ z. IsLinkGiven options (if z then Autolink else Email)) (sym e) tt

  pub address-given : (bs : List ℕ) (found : Parsed) → autolink_in options.email_autolinks bs ≡ Some found → IsLinkGiven options (address_type found.bytes)
  address-given bs found e = search (rules, by_uri, scheme_taken, by_email, and_parts, or_cases)
