-- The first word of an info string stays one word when it is escaped.
use Rattle.std.proofs.Common.{◌≡◌, ℕ, Bool, true, false, ◌&&◌, ◌==◌, if◌then◌else◌, List, [], ◌∷◌, refl, ap, sym, ◌∙◌, cond, true≢false}
use Rattle.std.specs.List.{list_all, take_while}
use Rattle.std.specs.Prelude.{codes}
use Rattle.std.proofs.lemmas.List.Folds.{list_all-append}
use Rattle.std.proofs.lemmas.List.Sums.{take_while-cons}
use Rattle.cmark_grammar.specs.Escapes.{escaped_html, html_byte}
use Rattle.cmark_safe.specs.SafeHtml.{is_in_word}

both : (x y : Bool) → x ≡ true → y ≡ true → (x && y) ≡ true
both x y p q = rw p q

first_of : (x y : Bool) → (x && y) ≡ true → x ≡ true
first_of true y h = refl
first_of false y h = h

second_of : (x y : Bool) → (x && y) ≡ true → y ≡ true
second_of true y h = h
second_of false y h = absurd (true≢false (sym h))

-- no entity has white space
escaped_byte : (q s x y z : Bool) (b : ℕ) → is_in_word b ≡ true
    → list_all is_in_word (if q then codes "&quot;" else if s then codes "&#x27;" else if x then codes "&amp;" else if y then codes "&lt;" else if z then codes "&gt;" else b ∷ []) ≡ true
escaped_byte true s x y z b h = refl
escaped_byte false true x y z b h = refl
escaped_byte false false true y z b h = refl
escaped_byte false false false true z b h = refl
escaped_byte false false false false true b h = refl
escaped_byte false false false false false b h = both (is_in_word b) true h refl

pub escaped_word : (text : List ℕ) → list_all is_in_word text ≡ true → list_all is_in_word (escaped_html text) ≡ true
escaped_word [] h = refl
escaped_word (b ∷ bs) h =
    list_all-append is_in_word (html_byte b) (escaped_html bs)
    ∙ both _ _ (escaped_byte (b == 34) (b == 39) (b == 38) (b == 60) (b == 62) b (first_of (is_in_word b) _ h)) (escaped_word bs (second_of (is_in_word b) _ h))

-- the bytes from the front on that pass a test pass it
pub front_passes : (p : ℕ → Bool) (text : List ℕ) → list_all p (take_while p text) ≡ true
front_passes p [] = refl
front_passes p (b ∷ bs) = ap (list_all p) (take_while-cons p b bs) ∙ go (p b) refl (front_passes p bs)
  where
    go : (z : Bool) → p b ≡ z → list_all p (take_while p bs) ≡ true → list_all p (cond z (b ∷ take_while p bs) []) ≡ true
    go true e others = both (p b) _ e others
    go false e others = refl

-- what all bytes pass, those of a front pass
pub front_keeps : (p q : ℕ → Bool) (text : List ℕ) → list_all p text ≡ true → list_all p (take_while q text) ≡ true
front_keeps p q [] h = refl
front_keeps p q (b ∷ bs) h = ap (list_all p) (take_while-cons q b bs) ∙ go (q b) (front_keeps p q bs (second_of (p b) _ h))
  where
    go : (z : Bool) → list_all p (take_while q bs) ≡ true → list_all p (cond z (b ∷ take_while q bs) []) ≡ true
    go true others = both (p b) _ (first_of (p b) _ h) others
    go false others = refl
