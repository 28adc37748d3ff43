-- The scheme of a destination, before it is escaped and after.
use Rattle.std.proofs.Common.{◌≡◌, ◌≢◌, ℕ, suc, ◌+◌, ◌/◌, ◌%◌, ◌<◌, Bool, true, false, not, cond, ◌==◌, ◌||◌, ◌&&◌, nat_lt, if◌then◌else◌, true≢false, List, [], ◌∷◌, ◌++◌, take, drop, refl, ap, sym, ◌∙◌, subst, arith, ne_eqb, inl, inr}
use Rattle.std.specs.Prelude.{codes, Option, Some, None, option_map}
use Rattle.std.specs.Char.{is_ascii_alphanumeric}
use Rattle.std.specs.List.{list_all, list_any, prefix_len}
use Rattle.std.proofs.lemmas.Bool.{ltb-true, ltb-false}
use Rattle.std.proofs.lemmas.Bool.Decides.{eqb_tells}
use Rattle.cmark_grammar.specs.Escapes.{is_url_byte, href_byte, hexadecimal_digit, percent_encoded, escaped_href}
use Rattle.cmark_safe.specs.Schemes.{is_among, is_allowed, is_allowed_if_any, is_allowed_scheme, is_before_sign, is_scheme_byte, if_colon, scheme_of, unwritten_scheme}

-- the scheme continues
scheme_off : (b : ℕ) (rest : List ℕ) → (b == 58) ≡ false → is_among (codes "/?#&") b ≡ false → scheme_of (b ∷ rest) ≡ option_map (λ name. b ∷ name) (scheme_of rest)
scheme_off b rest h k = rw h (rw k refl)

colon_on : (b : ℕ) (name following : List ℕ) → if_colon (b ∷ name) following ≡ option_map (λ n. b ∷ n) (if_colon name following)
colon_on b name [] = refl
colon_on b name (c ∷ cs) = go (c == 58)
  where
    go : (x : Bool) → (if x then Some (b ∷ name) else None) ≡ option_map (λ n. b ∷ n) (if x then Some name else None)
    go true = refl
    go false = refl

unwritten_off : (b : ℕ) (bs : List ℕ) → is_before_sign b ≡ true → unwritten_scheme (b ∷ bs) ≡ option_map (λ name. b ∷ name) (unwritten_scheme bs)
unwritten_off b bs h =
    let n : ℕ = prefix_len is_before_sign bs in
    let more : 1 + n ≡ suc n = omega arith in
    let longer : prefix_len is_before_sign (b ∷ bs) ≡ suc n = ap (λ x. cond x (1 + n) 0) h ∙ more in
    ap (λ m. if_colon (take m (b ∷ bs)) (drop m (b ∷ bs))) longer ∙ colon_on b (take n bs) (drop n bs)

none_of_four : (x y z q : Bool) → x ≡ false → y ≡ false → z ≡ false → q ≡ false → (x || (y || (z || (q || false)))) ≡ false
none_of_four x y z q e f g h = rw e (rw f (rw g (rw h refl)))

none_of_six : (x y z q a p : Bool) → x ≡ false → y ≡ false → z ≡ false → q ≡ false → a ≡ false → p ≡ false → not (x || (y || (z || (q || (a || (p || false)))))) ≡ true
none_of_six x y z q a p e f g h i j = rw e (rw f (rw g (rw h (rw i (rw j refl)))))

-- a byte that does not end a scheme; all bytes of percent-encoding are such bytes
record IsPlain (b : ℕ) : Type 0 where
  no_colon : (b == 58) ≡ false
  no_sign : is_among (codes "/?#&") b ≡ false

differs : (b : ℕ) → b ≢ 58 → b ≢ 47 → b ≢ 63 → b ≢ 35 → b ≢ 38 → IsPlain b
differs b c s q h a = record {
  no_colon = ne_eqb b 58 c;
  no_sign = none_of_four (b == 47) (b == 63) (b == 35) (b == 38) (ne_eqb b 47 s) (ne_eqb b 63 q) (ne_eqb b 35 h) (ne_eqb b 38 a);
}

digit_plain : (b : ℕ) → 47 < b → b < 58 → IsPlain b
digit_plain b h k = differs b (λ e. omega arith) (λ e. omega arith) (λ e. omega arith) (λ e. omega arith) (λ e. omega arith)

high_plain : (b : ℕ) → 63 < b → IsPlain b
high_plain b h = differs b (λ e. omega arith) (λ e. omega arith) (λ e. omega arith) (λ e. omega arith) (λ e. omega arith)

hexadecimal_choice : (x : Bool) (n : ℕ) → nat_lt n 10 ≡ x → IsPlain (if x then 48 + n else 55 + n)
hexadecimal_choice true n h = digit_plain (48 + n) (omega arith) (omega (arith, ltb-true n 10 h))
hexadecimal_choice false n h = high_plain (55 + n) (omega (arith, ltb-false n 10 h))

hexadecimal_plain : (n : ℕ) → IsPlain (hexadecimal_digit n)
hexadecimal_plain n = hexadecimal_choice (nat_lt n 10) n refl

off : (b : ℕ) (rest : List ℕ) → IsPlain b → scheme_of (b ∷ rest) ≡ option_map (λ name. b ∷ name) (scheme_of rest)
off b rest is = scheme_off b rest is.no_colon is.no_sign

map_twice : (f g : List ℕ → List ℕ) (o : Option (List ℕ)) → option_map f (option_map g o) ≡ option_map (λ n. f (g n)) o
map_twice f g None = refl
map_twice f g (Some x) = refl

percent_off : (b : ℕ) (rest : List ℕ) → scheme_of (percent_encoded b ++ rest) ≡ option_map (λ name. percent_encoded b ++ name) (scheme_of rest)
percent_off b rest =
    let high : ℕ = hexadecimal_digit (b / 16) in
    let low : ℕ = hexadecimal_digit (b % 16) in
    ap (option_map (λ n. 37 ∷ n)) (off high (low ∷ rest) (hexadecimal_plain (b / 16)) ∙ ap (option_map (λ n. high ∷ n)) (off low rest (hexadecimal_plain (b % 16))))
    ∙ ap (option_map (λ n. 37 ∷ n)) (map_twice (λ n. high ∷ n) (λ n. low ∷ n) (scheme_of rest))
    ∙ map_twice (λ n. 37 ∷ n) (λ n. high ∷ (low ∷ n)) (scheme_of rest)

written_choice : (k x y : Bool) (b : ℕ) (rest : List ℕ) → IsPlain b → x ≡ false → y ≡ false
    → scheme_of ((if k then b ∷ [] else if x then codes "&amp;" else if y then codes "&#x27;" else percent_encoded b) ++ rest)
    ≡ option_map (λ name. (if k then b ∷ [] else if x then codes "&amp;" else if y then codes "&#x27;" else percent_encoded b) ++ name) (scheme_of rest)
written_choice true x y b rest is e f = off b rest is
written_choice false true y b rest is e f = absurd (true≢false e)
written_choice false false true b rest is e f = absurd (true≢false f)
written_choice false false false b rest is e f = percent_off b rest

abbrev Written : ℕ → List ℕ → Type 0
Written b bs = scheme_of (href_byte b ++ escaped_href bs) ≡ option_map escaped_href (unwritten_scheme (b ∷ bs))

plain_written : (b : ℕ) (bs : List ℕ) → scheme_of (escaped_href bs) ≡ option_map escaped_href (unwritten_scheme bs) → b ≢ 58 → b ≢ 47 → b ≢ 63 → b ≢ 35 → b ≢ 38 → b ≢ 39 → Written b bs
plain_written b bs ih c s q h a p =
    let is : IsPlain b = differs b c s q h a in
    let before : is_before_sign b ≡ true = none_of_six (b == 58) (b == 47) (b == 63) (b == 35) (b == 38) (b == 39) is.no_colon (ne_eqb b 47 s) (ne_eqb b 63 q) (ne_eqb b 35 h) (ne_eqb b 38 a) (ne_eqb b 39 p) in
    written_choice (is_url_byte b) (b == 38) (b == 39) b (escaped_href bs) is (ne_eqb b 38 a) (ne_eqb b 39 p)
    ∙ ap (option_map (λ name. href_byte b ++ name)) ih
    ∙ map_twice (λ name. href_byte b ++ name) escaped_href (unwritten_scheme bs)
    ∙ sym (map_twice escaped_href (λ name. b ∷ name) (unwritten_scheme bs))
    ∙ ap (option_map escaped_href) (sym (unwritten_off b bs before))

pub scheme_written : (d : List ℕ) → scheme_of (escaped_href d) ≡ option_map escaped_href (unwritten_scheme d)
scheme_written [] = refl
scheme_written (b ∷ bs) =
    elim (eqb_tells b 58) [
      | inl e ↦ subst (λ x. Written x bs) (sym e.1) refl
      | inr c ↦ elim (eqb_tells b 47) [
        | inl e ↦ subst (λ x. Written x bs) (sym e.1) refl
        | inr s ↦ elim (eqb_tells b 63) [
          | inl e ↦ subst (λ x. Written x bs) (sym e.1) refl
          | inr q ↦ elim (eqb_tells b 35) [
            | inl e ↦ subst (λ x. Written x bs) (sym e.1) refl
            | inr h ↦ elim (eqb_tells b 38) [
              | inl e ↦ subst (λ x. Written x bs) (sym e.1) refl
              | inr a ↦ elim (eqb_tells b 39) [
                | inl e ↦ subst (λ x. Written x bs) (sym e.1) refl
                | inr p ↦ plain_written b bs (scheme_written bs) c.1 s.1 q.1 h.1 a.1 p.1
              ]
            ]
          ]
        ]
      ]
    ]

-- a byte of a scheme is kept
kept : (b : ℕ) → is_scheme_byte b ≡ true → is_url_byte b ≡ true
kept b h =
    elim (eqb_tells b 43) [
      | inl e ↦ subst (λ x. is_url_byte x ≡ true) (sym e.1) refl
      | inr p ↦ elim (eqb_tells b 45) [
        | inl e ↦ subst (λ x. is_url_byte x ≡ true) (sym e.1) refl
        | inr m ↦ elim (eqb_tells b 46) [
          | inl e ↦ subst (λ x. is_url_byte x ≡ true) (sym e.1) refl
          | inr d ↦ ap (λ x. x || list_any (λ sign. sign == b) (codes "!#$%()*+,-./:;=?@_~")) (no_other (is_ascii_alphanumeric b) (b == 43) (b == 45) (b == 46) p.0 m.0 d.0 h)
        ]
      ]
    ]
  where
    no_other : (l x y z : Bool) → x ≡ false → y ≡ false → z ≡ false → (l || (x || (y || (z || false)))) ≡ true → l ≡ true
    no_other true x y z e f g h = refl
    no_other false x y z e f g h = absurd (true≢false (sym h ∙ rw e (rw f (rw g refl))))

kept_byte : (b : ℕ) → is_scheme_byte b ≡ true → href_byte b ≡ b ∷ []
kept_byte b h = ap (λ k. if k then b ∷ [] else if b == 38 then codes "&amp;" else if b == 39 then codes "&#x27;" else percent_encoded b) (kept b h)

and_first : (x y : Bool) → (x && y) ≡ true → x ≡ true
and_first true y h = refl
and_first false y h = absurd (true≢false (sym h))

and_second : (x y : Bool) → (x && y) ≡ true → y ≡ true
and_second true y h = h
and_second false y h = absurd (true≢false (sym h))

plain_all : (name : List ℕ) → list_all is_scheme_byte name ≡ true → escaped_href name ≡ name
plain_all [] h = refl
plain_all (b ∷ bs) h =
    ap (λ l. l ++ escaped_href bs) (kept_byte b (and_first (is_scheme_byte b) (list_all is_scheme_byte bs) h))
    ∙ ap (λ l. b ∷ l) (plain_all bs (and_second (is_scheme_byte b) (list_all is_scheme_byte bs) h))

-- a byte that is not a scheme byte has an escape with a byte that is not a scheme byte
other_choice : (k x y : Bool) (b : ℕ) (rest : List ℕ) → is_scheme_byte b ≡ false
    → list_all is_scheme_byte ((if k then b ∷ [] else if x then codes "&amp;" else if y then codes "&#x27;" else percent_encoded b) ++ rest) ≡ false
other_choice true x y b rest h = ap (λ z. z && list_all is_scheme_byte rest) h
other_choice false true y b rest h = refl
other_choice false false true b rest h = refl
other_choice false false false b rest h = refl

other_all : (name : List ℕ) → list_all is_scheme_byte name ≡ false → list_all is_scheme_byte (escaped_href name) ≡ false
other_all [] h = h
other_all (b ∷ bs) h = go (is_scheme_byte b) (λ k. other_all bs k) refl
  where
    go : (x : Bool) → (list_all is_scheme_byte bs ≡ false → list_all is_scheme_byte (escaped_href bs) ≡ false) → is_scheme_byte b ≡ x → list_all is_scheme_byte (href_byte b ++ escaped_href bs) ≡ false
    go true others e =
        ap (λ l. list_all is_scheme_byte (l ++ escaped_href bs)) (kept_byte b e)
        ∙ ap (λ z. z && list_all is_scheme_byte (escaped_href bs)) e
        ∙ others (sym (ap (λ z. z && list_all is_scheme_byte bs) e) ∙ h)
    go false others e = other_choice (is_url_byte b) (b == 38) (b == 39) b (escaped_href bs) e

allowed_written : (further name : List ℕ) → is_allowed_scheme further (escaped_href name) ≡ is_allowed_scheme further name
allowed_written further name = go (list_all is_scheme_byte name) refl
  where
    go : (x : Bool) → list_all is_scheme_byte name ≡ x → is_allowed_scheme further (escaped_href name) ≡ is_allowed_scheme further name
    go true h = ap (is_allowed_scheme further) (plain_all name h)
    go false h = refused (escaped_href name) (other_all name h) ∙ sym (refused name h)
      where
        refused : (n : List ℕ) → list_all is_scheme_byte n ≡ false → is_allowed_scheme further n ≡ false
        refused n e = rw e refl

if_any : (further : List ℕ) (o : Option (List ℕ)) → is_allowed_if_any further (option_map escaped_href o) ≡ is_allowed_if_any further o
if_any further None = refl
if_any further (Some name) = allowed_written further name

-- a destination is allowed exactly if its scheme before escaping is
pub allowed_unwritten : (further d : List ℕ) → is_allowed further (escaped_href d) ≡ is_allowed_if_any further (unwritten_scheme d)
allowed_unwritten further d = ap (is_allowed_if_any further) (scheme_written d) ∙ if_any further (unwritten_scheme d)
