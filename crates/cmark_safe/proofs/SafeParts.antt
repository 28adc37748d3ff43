-- Texts, values and addresses that are written escaped are safe.
use Rattle.std.proofs.Common.{◌≡◌, ℕ, zero, suc, ◌+◌, ◌/◌, ◌%◌, ◌<◌, Bool, true, false, ◌||◌, ◌==◌, nat_lt, if◌then◌else◌, List, [], ◌∷◌, ◌++◌, refl, ap, sym, ◌∙◌, subst, arith, ne_eqb}
use Rattle.std.specs.Prelude.{codes, flat_map, decimal}
use Rattle.std.specs.Fmt.{digits, digits_onto, digit_glyph}
use Rattle.std.proofs.lemmas.Bool.{ltb-true, ltb-false}
use Rattle.std.proofs.lemmas.List.{append_assoc, append-nil}
use Rattle.cmark_grammar.specs.Escapes.{body_text_byte, html_byte, is_url_byte, href_byte, hexadecimal_digit, percent_encoded, escaped_body_text, escaped_html, escaped_href}
use Rattle.cmark_safe.specs.SafeHtml.{IsValue, Empty, Byte, Entity, IsTag, IsSafe, Nothing, Sign, Written, Tagged}
use Rattle.cmark_safe.specs.Schemes.{is_among}

pub safe_then : {further : List ℕ} (first second : List ℕ) → IsSafe further first → IsSafe further second → IsSafe further (first ++ second)
safe_then _ second Nothing s = s
safe_then _ second (Sign b more is m) s = Sign b (more ++ second) is (safe_then more second m s)
safe_then _ second (Written entity more is m) s = subst (IsSafe _) (sym (append_assoc entity more second)) (Written entity (more ++ second) is (safe_then more second m s))
safe_then _ second (Tagged t more is m) s = subst (IsSafe _) (sym (append_assoc t more second)) (Tagged t (more ++ second) is (safe_then more second m s))

pub value_then : (first second : List ℕ) → IsValue first → IsValue second → IsValue (first ++ second)
value_then _ second Empty s = s
value_then _ second (Byte b more is m) s = Byte b (more ++ second) is (value_then more second m s)
value_then _ second (Entity entity more is m) s = subst IsValue (sym (append_assoc entity more second)) (Entity entity (more ++ second) is (value_then more second m s))

pub tag_safe : {further : List ℕ} (t : List ℕ) → IsTag further t → IsSafe further t
tag_safe t is = subst (IsSafe _) (append-nil t) (Tagged t [] is Nothing)

-- a value is safe between tags too
pub value_safe : {further : List ℕ} (text : List ℕ) → IsValue text → IsSafe further text
value_safe _ Empty = Nothing
value_safe _ (Byte b more is m) = Sign b more (safer b is) (value_safe more m)
  where
    drops : (x y z q : Bool) → (x || (y || (z || (q || false)))) ≡ false → (x || (y || (z || false))) ≡ false
    drops false false false q h = refl
    drops true y z q h = h
    drops false true z q h = h
    drops false false true q h = h

    safer : (b : ℕ) → is_among (codes "&<>\"") b ≡ false → is_among (codes "&<>") b ≡ false
    safer b h = drops (b == 38) (b == 60) (b == 62) (b == 34) h
value_safe _ (Entity entity more is m) = Written entity more is (value_safe more m)

-- each byte's text is safe, and so are all
each_safe : {further : List ℕ} (f : ℕ → List ℕ) → ((b : ℕ) → IsSafe further (f b)) → (text : List ℕ) → IsSafe further (flat_map f text)
each_safe f is [] = Nothing
each_safe f is (b ∷ bs) = safe_then (f b) (flat_map f bs) (is b) (each_safe f is bs)

each_value : (f : ℕ → List ℕ) → ((b : ℕ) → IsValue (f b)) → (text : List ℕ) → IsValue (flat_map f text)
each_value f is [] = Empty
each_value f is (b ∷ bs) = value_then (f b) (flat_map f bs) (is b) (each_value f is bs)

body_choice : {further : List ℕ} (x y z : Bool) (b : ℕ) → (x ≡ false → y ≡ false → z ≡ false → is_among (codes "&<>") b ≡ false)
    → IsSafe further (if x then codes "&amp;" else if y then codes "&lt;" else if z then codes "&gt;" else b ∷ [])
body_choice true y z b h = Written (codes "&amp;") [] refl Nothing
body_choice false true z b h = Written (codes "&lt;") [] refl Nothing
body_choice false false true b h = Written (codes "&gt;") [] refl Nothing
body_choice false false false b h = Sign b [] (h refl refl refl) Nothing

none_of_three : (x y z : Bool) → x ≡ false → y ≡ false → z ≡ false → (x || (y || (z || false))) ≡ false
none_of_three x y z p q r = rw p (rw q (rw r refl))

pub body_text_safe : {further : List ℕ} (text : List ℕ) → IsSafe further (escaped_body_text text)
body_text_safe text = each_safe body_text_byte (λ b. body_choice (b == 38) (b == 60) (b == 62) b (none_of_three (b == 38) (b == 60) (b == 62))) text

value_choice : (q s x y z : Bool) (b : ℕ) → (q ≡ false → x ≡ false → y ≡ false → z ≡ false → is_among (codes "&<>\"") b ≡ false)
    → IsValue (if q then codes "&quot;" else if s then codes "&#x27;" else if x then codes "&amp;" else if y then codes "&lt;" else if z then codes "&gt;" else b ∷ [])
value_choice true s x y z b h = Entity (codes "&quot;") [] refl Empty
value_choice false true x y z b h = Entity (codes "&#x27;") [] refl Empty
value_choice false false true y z b h = Entity (codes "&amp;") [] refl Empty
value_choice false false false true z b h = Entity (codes "&lt;") [] refl Empty
value_choice false false false false true b h = Entity (codes "&gt;") [] refl Empty
value_choice false false false false false b h = Byte b [] (h refl refl refl refl) Empty

none_of_four : (q x y z : Bool) → q ≡ false → x ≡ false → y ≡ false → z ≡ false → (x || (y || (z || (q || false)))) ≡ false
none_of_four q x y z p e r s = rw e (rw r (rw s (rw p refl)))

pub html_value : (text : List ℕ) → IsValue (escaped_html text)
html_value text = each_value html_byte (λ b. value_choice (b == 34) (b == 39) (b == 38) (b == 60) (b == 62) b (none_of_four (b == 34) (b == 38) (b == 60) (b == 62))) text

-- a byte that is kept in a URL differs from each sign that is not kept
kept_differs : (sign b : ℕ) → is_url_byte sign ≡ false → is_url_byte b ≡ true → (b == sign) ≡ false
kept_differs sign b is_not is = ne_eqb b sign (λ e. grind (arith, sym is ∙ ap is_url_byte e ∙ is_not))

kept_plain : (b : ℕ) → is_url_byte b ≡ true → is_among (codes "&<>\"") b ≡ false
kept_plain b h = none_of_four (b == 34) (b == 38) (b == 60) (b == 62) (kept_differs 34 b refl h) (kept_differs 38 b refl h) (kept_differs 60 b refl h) (kept_differs 62 b refl h)

-- a byte above these signs, or a digit
high_plain : (b : ℕ) → 62 < b → is_among (codes "&<>\"") b ≡ false
high_plain b h = none_of_four (b == 34) (b == 38) (b == 60) (b == 62) (ne_eqb b 34 (λ e. omega arith)) (ne_eqb b 38 (λ e. omega arith)) (ne_eqb b 60 (λ e. omega arith)) (ne_eqb b 62 (λ e. omega arith))

digit_plain : (b : ℕ) → 47 < b → b < 58 → is_among (codes "&<>\"") b ≡ false
digit_plain b h k = none_of_four (b == 34) (b == 38) (b == 60) (b == 62) (ne_eqb b 34 (λ e. omega arith)) (ne_eqb b 38 (λ e. omega arith)) (ne_eqb b 60 (λ e. omega arith)) (ne_eqb b 62 (λ e. omega arith))

hexadecimal_choice : (x : Bool) (n : ℕ) → nat_lt n 10 ≡ x → is_among (codes "&<>\"") (if x then 48 + n else 55 + n) ≡ false
hexadecimal_choice true n h = digit_plain (48 + n) (omega arith) (omega (arith, ltb-true n 10 h))
hexadecimal_choice false n h = high_plain (55 + n) (omega (arith, ltb-false n 10 h))

hexadecimal_plain : (n : ℕ) → is_among (codes "&<>\"") (hexadecimal_digit n) ≡ false
hexadecimal_plain n = hexadecimal_choice (nat_lt n 10) n refl

href_choice : (k x y : Bool) (b : ℕ) → (k ≡ true → is_among (codes "&<>\"") b ≡ false)
    → IsValue (if k then b ∷ [] else if x then codes "&amp;" else if y then codes "&#x27;" else percent_encoded b)
href_choice true x y b h = Byte b [] (h refl) Empty
href_choice false true y b h = Entity (codes "&amp;") [] refl Empty
href_choice false false true b h = Entity (codes "&#x27;") [] refl Empty
href_choice false false false b h = Byte 37 _ refl (Byte (hexadecimal_digit (b / 16)) _ (hexadecimal_plain (b / 16)) (Byte (hexadecimal_digit (b % 16)) [] (hexadecimal_plain (b % 16)) Empty))

pub href_value : (url : List ℕ) → IsValue (escaped_href url)
href_value url = each_value href_byte (λ b. href_choice (is_url_byte b) (b == 38) (b == 39) b (kept_plain b)) url

glyph_choice : (x : Bool) (n : ℕ) → nat_lt n 10 ≡ x → is_among (codes "&<>\"") (if x then 48 + n else (if false then 55 + n else 87 + n)) ≡ false
glyph_choice true n h = digit_plain (48 + n) (omega arith) (omega (arith, ltb-true n 10 h))
glyph_choice false n h = high_plain (87 + n) (omega arith)

glyph_plain : (n : ℕ) → is_among (codes "&<>\"") (digit_glyph false n) ≡ false
glyph_plain n = glyph_choice (nat_lt n 10) n refl

onto_choice : (x : Bool) (k n g : ℕ) (acc : List ℕ) → IsValue acc → is_among (codes "&<>\"") g ≡ false
    → ((more : List ℕ) → IsValue more → IsValue (digits_onto k 10 false n more)) → IsValue (if x then g ∷ acc else digits_onto k 10 false n (g ∷ acc))
onto_choice true k n g acc is plain others = Byte g acc plain is
onto_choice false k n g acc is plain others = others (g ∷ acc) (Byte g acc plain is)

onto_value : (k n : ℕ) (acc : List ℕ) → IsValue acc → IsValue (digits_onto k 10 false n acc)
onto_value zero n acc is = is
onto_value (suc k) n acc is = onto_choice (n / 10 == 0) k (n / 10) (digit_glyph false (n % 10)) acc is (glyph_plain (n % 10)) (onto_value k (n / 10))

pub decimal_value : (n : ℕ) → IsValue (decimal n)
unfolding digits
decimal_value n = onto_value 64 n [] Empty
