-- Labels of a domain, one after the other.
use Rattle.std.specs.Prelude.{◌==◌, ◌&&◌, not, nat_le, if◌then◌else◌, Option, Some, None}
use Rattle.std.specs.List.{prefix_len}
use Rattle.std.proofs.Common.{◌≡◌, ℕ, suc, ◌+◌, ◌≤◌, Bool, true, false, List, [], ◌∷◌, take, drop, refl, sym, ap, ◌∙◌, arith, cond, drop-drop}
use Rattle.std.proofs.lemmas.Bool.{le-leb}
use Rattle.cmark_grammar.specs.Autolinks.{are_domain_labels, between_periods, is_domain, is_domain_label, is_email, is_local_byte}
use Rattle.cmark_grammar.specs.Letters.{after_if, first_is}

-- how many bytes are before the first period
abbrev pub label_size : List ℕ → ℕ
label_size bs = prefix_len (λ b. not (b == 46)) bs

abbrev pub is_period : ℕ → Bool
is_period b = b == 46

abbrev labels_after : (size : ℕ) → List ℕ → List (List ℕ)
labels_after size bs = if first_is is_period (drop size bs) then between_periods (drop (suc size) bs) else []

first-label : (bs : List ℕ) → between_periods bs ≡ take (label_size bs) bs ∷ labels_after (label_size bs) bs
first-label [] = refl
first-label (b ∷ bs) = go (first-label bs) (b == 46) refl
  where
    size : (z : Bool) → (b == 46) ≡ z → label_size (b ∷ bs) ≡ cond (not z) (suc (label_size bs)) 0
    size z e = ap (λ t. cond (not t) (1 + label_size bs) 0) e ∙ ap (λ n. cond (not z) n 0) (let q : 1 + label_size bs ≡ suc (label_size bs) = omega arith in q)

    go : between_periods bs ≡ take (label_size bs) bs ∷ labels_after (label_size bs) bs → (z : Bool) → (b == 46) ≡ z
        → between_periods (b ∷ bs) ≡ take (label_size (b ∷ bs)) (b ∷ bs) ∷ labels_after (label_size (b ∷ bs)) (b ∷ bs)
    go inner z e = grind (arith, size)

-- the labels after a period
abbrev others : Option (List ℕ) → List (List ℕ)
others None = []
others (Some rest) = between_periods rest

after-is : (size : ℕ) (bs : List ℕ) → labels_after size bs ≡ others (after_if is_period (drop size bs))
after-is size bs =
    ap (λ l. if first_is is_period (drop size bs) then between_periods l else []) (sym (drop-drop 1 size bs ∙ ap (λ n. drop n bs) (let q : size + 1 ≡ suc size = omega arith in q)))
    ∙ go (drop size bs)
  where
    by : (z : Bool) (rest : List ℕ) → (if z then between_periods rest else []) ≡ others (if z then Some rest else None)
    by true rest = refl
    by false rest = refl

    go : (l : List ℕ) → (if first_is is_period l then between_periods (drop 1 l) else []) ≡ others (after_if is_period l)
    go [] = refl
    go (b ∷ rest) = by (b == 46) rest

by-label : (bs : List ℕ) → is_domain bs ≡ (is_domain_label (take (label_size bs) bs) && are_domain_labels (others (after_if is_period (drop (label_size bs) bs))))
by-label bs = cc (first-label bs, after-is (label_size bs) bs)

module _ (bs : List ℕ) (size : ℕ) (is : size ≡ label_size bs) where
  by-size : is_domain bs ≡ (is_domain_label (take size bs) && are_domain_labels (others (after_if is_period (drop size bs))))
  by-size = by-label bs ∙ ap (λ n. is_domain_label (take n bs) && are_domain_labels (others (after_if is_period (drop n bs)))) (sym is)

  -- a first label that is not valid
  pub no-label : is_domain_label (take size bs) ≡ false → is_domain bs ≡ false
  no-label e = by-size ∙ ap (λ z. z && are_domain_labels (others (after_if is_period (drop size bs)))) e

  module _ (label : is_domain_label (take size bs) ≡ true) where
    -- a last label
    pub last-label : None ≡ after_if is_period (drop size bs) → is_domain bs ≡ true
    last-label e = by-size ∙ ap (λ z. z && are_domain_labels (others (after_if is_period (drop size bs)))) label ∙ ap (λ f. are_domain_labels (others f)) (sym e)

    -- a label with others after it
    pub more-labels : (rest : List ℕ) → Some rest ≡ after_if is_period (drop size bs) → is_domain bs ≡ is_domain rest
    more-labels rest e = by-size ∙ ap (λ z. z && are_domain_labels (others (after_if is_period (drop size bs)))) label ∙ ap (λ f. are_domain_labels (others f)) (sym e)

-- ## An address

abbrev pub is_at_sign : ℕ → Bool
is_at_sign b = b == 64

abbrev pub domain_of : Option (List ℕ) → Bool
domain_of None = false
domain_of (Some domain) = is_domain domain

email-is : (bs : List ℕ) (size : ℕ) (found : Option (List ℕ)) → size ≡ prefix_len is_local_byte bs → found ≡ after_if is_at_sign (drop size bs) → (nat_le 1 size && domain_of found) ≡ is_email bs
email-is bs size found is e =
    ap (λ f. nat_le 1 size && domain_of f) e ∙ ap (λ z. nat_le 1 size && z) (go (drop size bs))
    ∙ ap (λ l. nat_le 1 size && (first_is is_at_sign (drop size bs) && is_domain l)) (drop-drop 1 size bs ∙ ap (λ n. drop n bs) (let q : size + 1 ≡ suc size = omega arith in q))
    ∙ ap (λ n. nat_le 1 n && (first_is is_at_sign (drop n bs) && is_domain (drop (suc n) bs))) is
  where
    by : (z : Bool) (rest : List ℕ) → domain_of (if z then Some rest else None) ≡ (z && is_domain rest)
    by true rest = refl
    by false rest = refl

    go : (l : List ℕ) → domain_of (after_if is_at_sign l) ≡ (first_is is_at_sign l && is_domain (drop 1 l))
    go [] = refl
    go (b ∷ rest) = by (b == 64) rest

module _ (bs : List ℕ) (size : ℕ) (is : size ≡ prefix_len is_local_byte bs) where
  module _ (domain : List ℕ) (e : Some domain ≡ after_if is_at_sign (drop size bs)) where
    pub some-email : 1 ≤ size → is_domain domain ≡ is_email bs
    some-email le = sym (ap (λ z. z && is_domain domain) (le-leb 1 size le)) ∙ email-is bs size (Some domain) is e
