-- Quotes one after the other have the characters of the definition.
use Rattle.std.proofs.Common.{◌≡◌, ℕ, zero, suc, ◌<◌, ◌≤◌, Bool, true, false, not, ◌&&◌, ◌||◌, if◌then◌else◌, Option, Some, None, List, [], ◌∷◌, ◌++◌, length, set, refl, sym, ap, ◌∙◌, subst, arith, append_assoc, length-append}
use Rattle.std.specs.Prelude.{is_some, IfSome, reverse, map, take}
use Rattle.std.proofs.lemmas.List.{append-nil, reverse-append, reverse-reverse, take_all}
use Rattle.cmark_grammar.specs.Quotes.{Quote, is_double_open, is_single_open, is_closed_by, double_character, quote_characters}
use Rattle.cmark_emphasis.specs.QuoteSteps.{single_after, double_after, double_character_after, turned, open_single, closed_from, character_so_far, so_far, IsAfter}

pub single-open : (before : List Quote) → is_some (open_single before) ≡ is_single_open before
single-open [] = refl
single-open (q ∷ before) = go q.double q.closes q.opens (open_single before) (is_single_open before) (single-open before)
  where
    go : (d c o : Bool) (at : Option ℕ) (is : Bool) → is_some at ≡ is → is_some (if d then at else if c && is_some at then None else if o then Some (length before) else at) ≡ (if d then is else if c && is then false else o || is)
    go true c o at is e = e
    go false true o None is e = rw (sym e) (one o)
      where
        one : (p : Bool) → is_some (if p then Some (length before) else None) ≡ (p || false)
        one true = refl
        one false = refl
    go false true o (Some i) is e = rw (sym e) refl
    go false false true at is e = refl
    go false false false at is e = e

length-so : (before : List Quote) (closed : Bool) → length (so_far before closed) ≡ length before
length-so [] closed = refl
length-so (q ∷ before) closed =
    let i = length-so before (closed_from q closed) in
    let x = length-append (so_far before (closed_from q closed)) (character_so_far before q closed ∷ []) in
    omega (arith, i, x)

single-within : (before : List Quote) → IfSome (open_single before) (λ i. i < length before)
single-within [] = tt
single-within (q ∷ before) = go q.double q.closes q.opens (open_single before) (single-within before)
  where
    go : (d c o : Bool) (at : Option ℕ) → IfSome at (λ i. i < length before) → IfSome (if d then at else if c && is_some at then None else if o then Some (length before) else at) (λ i. i < suc (length before))
    go true c o None h = tt
    go true c o (Some i) h = omega (arith, h)
    go false true true None h = omega arith
    go false true false None h = tt
    go false true o (Some i) h = tt
    go false false true at h = omega arith
    go false false false None h = tt
    go false false false (Some i) h = omega (arith, h)

set-append : (xs ys : List ℕ) (i v : ℕ) → i < length xs → set (xs ++ ys) i v ≡ set xs i v ++ ys
set-append [] ys i v lt = absurd (omega arith)
set-append (x ∷ xs) ys zero v lt = refl
set-append (x ∷ xs) ys (suc i) v lt = ap (λ l. x ∷ l) (set-append xs ys i v (omega arith))

set-last : (xs : List ℕ) (x v n : ℕ) → n ≡ length xs → set (xs ++ x ∷ []) n v ≡ xs ++ v ∷ []
set-last [] x v zero e = refl
set-last [] x v (suc n) e = absurd (omega arith)
set-last (y ∷ xs) x v zero e = absurd (omega arith)
set-last (y ∷ xs) x v (suc n) e = ap (λ l. y ∷ l) (set-last xs x v n (omega arith))

turned-append : (at : Option ℕ) (xs ys : List ℕ) → IfSome at (λ i. i < length xs) → turned true at (xs ++ ys) ≡ turned true at xs ++ ys
turned-append None xs ys h = refl
turned-append (Some i) xs ys h = set-append xs ys i 8216 h

abbrev chosen_character : Bool → Bool → Bool → Bool → ℕ
chosen_character c o is closed = if (not (c && is) && o) && closed then 8216 else 8217

-- if the open quote is closed, only its character changes
pub closes-one : (before : List Quote) → so_far before true ≡ turned true (open_single before) (so_far before false)
closes-one [] = refl
closes-one (q ∷ before) = go q.double q.closes q.opens (open_single before) (is_single_open before) (single-open before) (single-within before) (so_far before) (length-so before false) (closes-one before)
  where
    go : (d c o : Bool) (at : Option ℕ) (is : Bool) → is_some at ≡ is → IfSome at (λ i. i < length before) → (s : Bool → List ℕ) → length (s false) ≡ length before → s true ≡ turned true at (s false) →
        s (if d then true else if c then true else if o then false else true) ++ (if d then double_character before q else chosen_character c o is true) ∷ []
        ≡ turned true (if d then at else if c && is_some at then None else if o then Some (length before) else at) (s (if d then false else if c then true else if o then false else false) ++ (if d then double_character before q else chosen_character c o is false) ∷ [])
    go true c o at is e h s n i = ap (λ l. l ++ double_character before q ∷ []) i ∙ sym (turned-append at (s false) (double_character before q ∷ []) (subst (λ k. IfSome at (λ j. j < k)) (sym n) h))
    go false true true None false e h s n i = sym (set-last (s true) 8217 8216 (length before) (sym (ap length i ∙ n)))
    go false true false None false e h s n i = refl
    go false true o None true e h s n i = absurd (let d : false ≡ true = e in cc)
    go false true o (Some j) true e h s n i = refl
    go false true o (Some j) false e h s n i = absurd (let d : true ≡ false = e in cc)
    go false false true at is e h s n i = sym (set-last (s false) 8217 8216 (length before) (sym n))
    go false false false at is e h s n i = ap (λ l. l ++ 8217 ∷ []) i ∙ sym (turned-append at (s false) (8217 ∷ []) (subst (λ k. IfSome at (λ j. j < k)) (sym n) h))

pub turned-so : (before : List Quote) (closed : Bool) → so_far before closed ≡ turned closed (open_single before) (so_far before false)
turned-so before true = closes-one before
turned-so before false = refl

single-step : (q : Quote) (before : List Quote) → q.double ≡ false → so_far (q ∷ before) false ≡ turned q.closes (open_single before) (so_far before false) ++ 8217 ∷ []
single-step q before e = go q.double e q.closes q.opens (is_single_open before) ∙ ap (λ l. l ++ 8217 ∷ []) (turned-so before q.closes)
  where
    go : (d : Bool) → d ≡ false → (c o is : Bool) → so_far before (if d then false else if c then true else if o then false else false) ++ (if d then double_character before q else chosen_character c o is false) ∷ [] ≡ so_far before c ++ 8217 ∷ []
    go true z c o is = absurd (let y : true ≡ false = z in cc)
    go false z true true true = refl
    go false z true true false = refl
    go false z true false true = refl
    go false z true false false = refl
    go false z false true is = refl
    go false z false false is = refl

double-step : (q : Quote) (before : List Quote) → q.double ≡ true → so_far (q ∷ before) false ≡ so_far before false ++ double_character before q ∷ []
double-step q before e = go q.double e (if q.closes then true else if q.opens then false else false) (chosen_character q.closes q.opens (is_single_open before) false)
  where
    go : (d : Bool) → d ≡ true → (x : Bool) (y : ℕ) → so_far before (if d then false else x) ++ (if d then double_character before q else y) ∷ [] ≡ so_far before false ++ double_character before q ∷ []
    go true z x y = refl
    go false z x y = absurd (let w : false ≡ true = z in cc)

pub after_double : (q : Quote) (before : List Quote) (single : Option ℕ) (double next : Bool) (old new : List ℕ) → IsAfter before single double old → q.double ≡ true → next ≡ double_after q double → new ≡ old ++ double_character_after q double ∷ [] → IsAfter (q ∷ before) single next new
after_double q before single double next old new h e s n = record {
  single_is = h.single_is ∙ sym (one q.double e);
  double_is = s ∙ ap (double_after q) h.double_is ∙ sym (two q.double e);
  characters_are = n ∙ ap (λ l. l ++ double_character_after q double ∷ []) h.characters_are ∙ ap (λ b. so_far before false ++ double_character_after q b ∷ []) h.double_is ∙ sym (double-step q before e);
}
  where
    one : (d : Bool) → d ≡ true → (if d then open_single before else single_after q (length before) (open_single before)) ≡ open_single before
    one true z = refl
    one false z = absurd (let y : false ≡ true = z in cc)

    two : (d : Bool) → d ≡ true → (if not d then is_double_open before else if q.closes && is_double_open before then false else q.opens || is_double_open before) ≡ double_after q (is_double_open before)
    two true z = refl
    two false z = absurd (let y : false ≡ true = z in cc)

pub after_single : (q : Quote) (before : List Quote) (single next : Option ℕ) (double : Bool) (old new : List ℕ) → IsAfter before single double old → q.double ≡ false → next ≡ single_after q (length old) single → new ≡ turned q.closes single old ++ 8217 ∷ [] → IsAfter (q ∷ before) next double new
after_single q before single next double old new h e s n = record {
  single_is =
      s
      ∙ ap (λ k. single_after q k single) (ap length h.characters_are ∙ length-so before false)
      ∙ ap (single_after q (length before)) h.single_is
      ∙ sym (one q.double e);
  double_is = h.double_is ∙ sym (two q.double e);
  characters_are = n ∙ ap (λ l. turned q.closes single l ++ 8217 ∷ []) h.characters_are ∙ ap (λ o. turned q.closes o (so_far before false) ++ 8217 ∷ []) h.single_is ∙ sym (single-step q before e);
}
  where
    one : (d : Bool) → d ≡ false → (if d then open_single before else single_after q (length before) (open_single before)) ≡ single_after q (length before) (open_single before)
    one false z = refl
    one true z = absurd (let y : true ≡ false = z in cc)

    two : (d : Bool) → d ≡ false → (if not d then is_double_open before else if q.closes && is_double_open before then false else q.opens || is_double_open before) ≡ is_double_open before
    two false z = refl
    two true z = absurd (let y : true ≡ false = z in cc)

pub after_within : (before : List Quote) (single : Option ℕ) (double : Bool) (old : List ℕ) → IsAfter before single double old → IfSome single (λ i. i < length old)
after_within before single double old h =
    subst (λ o. IfSome o (λ i. i < length old)) (sym h.single_is)
    (subst (λ k. IfSome (open_single before) (λ i. i < k)) (sym (ap length h.characters_are ∙ length-so before false)) (single-within before))

-- the characters of quotes are those of the first ones, followed by those of the later ones
split : (before after : List Quote) → so_far before (is_closed_by after) ++ quote_characters before after ≡ quote_characters [] (reverse before ++ after)
split [] after = refl
split (q ∷ before) after =
    append_assoc (so_far before (closed_from q (is_closed_by after))) (character_so_far before q (is_closed_by after) ∷ []) (quote_characters (q ∷ before) after)
    ∙ split before (q ∷ after)
    ∙ ap (quote_characters []) (sym (append_assoc (reverse before) (q ∷ []) after))
    ∙ ap (λ l. quote_characters [] (l ++ after)) (sym (reverse-append (q ∷ []) before))

-- all quotes
pub after_while : (quotes : List Quote) (single : Option ℕ) (double : Bool) (characters : List ℕ) → IsAfter (reverse quotes) single double characters → characters ≡ quote_characters [] quotes
after_while quotes single double characters h =
    h.characters_are
    ∙ sym (append-nil (so_far (reverse quotes) false))
    ∙ split (reverse quotes) []
    ∙ ap (quote_characters []) (append-nil (reverse (reverse quotes)) ∙ reverse-reverse quotes)

pub after_taken : {A : Type 0} (shown : A → Quote) (quotes : List A) (i : ℕ) (single : Option ℕ) (double : Bool) (characters : List ℕ) → length quotes ≤ i → IsAfter (reverse (map shown (take i quotes))) single double characters → characters ≡ quote_characters [] (map shown quotes)
after_taken shown quotes i single double characters le h =
    after_while (map shown quotes) single double characters (subst (λ l. IsAfter (reverse (map shown l)) single double characters) (take_all i quotes le) h)
