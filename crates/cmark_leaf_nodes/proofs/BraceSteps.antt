-- Braces at the end of a heading: in columns, in bytes, and in the text.
use Rattle.std.proofs.Common.{◌≡◌, ◌≢◌, ℕ, zero, suc, ◌+◌, ◌-◌, ◌≤◌, ◌<◌, Bool, true, false, ◌==◌, ◌&&◌, ◌||◌, not, List, [], ◌∷◌, ◌++◌, append_assoc, append-nil, length, length-append, drop, take, drop-drop, get_or, refl, sym, ap, ◌∙◌, subst, arith, true≢false}
use Rattle.std.specs.Prelude.{if◌then◌else◌}
use Rattle.std.specs.Str.{IsUtf8, IsCharBoundary}
use Rattle.std.proofs.lemmas.Str.{IsCharBoundary-before_ascii, IsCharBoundary-after_ascii}
use Rattle.cmark_grammar.specs.Attributes.{is_brace, closes, is_braced, before_braces, without_last, inside_braces}
use Rattle.cmark_grammar.specs.Columns.{Column, is_blank_byte, drop_end, put_before, bytes_of}
use Rattle.cmark_grammar.specs.Tokens.{slice, without_attributes}
use Rattle.cmark_leaf_nodes.specs.Closings.{without_attributes_bytes, StandsAt}
use Rattle.cmark_leaf_nodes.proofs.ColumnCuts.{AreTabbed, Cut, front-tabbed, drop_end-bytes, blanks-cut}

and-both : (a b : Bool) → (a && b) ≡ true → (a ≡ true) × (b ≡ true)
and-both true b e = (refl, e)
and-both false b e = absurd (true≢false (sym e))

and-no : (a : Bool) → (a && false) ≡ false
and-no true = refl
and-no false = refl

or-none : (a b : Bool) → not (a || b) ≡ true → a ≡ false
or-none true b e = absurd (true≢false (sym e))
or-none false b e = refl

same : (b n : ℕ) → (b == n) ≡ true → b ≡ n
same b n e = grind (arith, e)

no-bytes : (c : Column) (cs : List Column) → bytes_of (c ∷ cs) ≡ [] → (c.part == 0) ≡ false
no-bytes c cs none = go (c.part == 0) refl none
  where
    go : (z : Bool) → (c.part == 0) ≡ z → (if z then c.byte ∷ bytes_of cs else bytes_of cs) ≡ [] → (c.part == 0) ≡ false
    go true p n = absurd (let x : c.byte ∷ bytes_of cs ≡ [] = n in cc)
    go false p n = p

-- columns
closes-bytes : (cs : List Column) → AreTabbed cs → closes (λ c. c.byte) cs ≡ closes (λ b. b) (bytes_of cs)
closes-bytes [] t = refl
closes-bytes (c ∷ []) t = go (c.part == 0) refl
  where
    go : (z : Bool) → (c.part == 0) ≡ z → (c.byte == 125) ≡ closes (λ b. b) (if z then c.byte ∷ [] else [])
    go true e = refl
    go false e = ap (λ b. b == 125) (t.0 e)
closes-bytes (c ∷ (d ∷ cs)) t = go (c.part == 0) refl (bytes_of (d ∷ cs)) refl (closes-bytes (d ∷ cs) t.2)
  where
    go : (z : Bool) → (c.part == 0) ≡ z → (bs : List ℕ) → bytes_of (d ∷ cs) ≡ bs → closes (λ x. x.byte) (d ∷ cs) ≡ closes (λ b. b) (bytes_of (d ∷ cs)) →
        (not (is_brace (λ x. x.byte) c) && closes (λ x. x.byte) (d ∷ cs)) ≡ closes (λ b. b) (if z then c.byte ∷ bytes_of (d ∷ cs) else bytes_of (d ∷ cs))
    go false e bs f ih = ap (λ b. not ((b == 123) || (b == 125)) && closes (λ x. x.byte) (d ∷ cs)) (t.0 e) ∙ ih
    go true e [] f ih =
        let nine : c.byte ≡ 9 = t.1 (ap not (no-bytes d cs f)) in
        ap (λ b. not ((b == 123) || (b == 125)) && closes (λ x. x.byte) (d ∷ cs)) nine ∙ ih ∙ ap (closes (λ b. b)) f
        ∙ sym (ap (λ l. closes (λ b. b) (c.byte ∷ l)) f ∙ ap (λ b. b == 125) nine)
    go true e (x ∷ xs) f ih =
        ap (λ z. not (is_brace (λ b. b) c.byte) && z) (ih ∙ ap (closes (λ b. b)) f) ∙ sym (ap (λ l. closes (λ b. b) (c.byte ∷ l)) f)

before-bytes : (cs : List Column) → AreTabbed cs → bytes_of (before_braces (λ c. c.byte) cs) ≡ before_braces (λ b. b) (bytes_of cs)
before-bytes [] t = refl
before-bytes (c ∷ cs) t = go (c.part == 0) refl (closes-bytes cs t.2) (before-bytes cs t.2)
  where
    left : List Column
    left = before_braces (λ x. x.byte) cs

    by : (y : Bool) → (c.part == 0) ≡ true → bytes_of left ≡ before_braces (λ b. b) (bytes_of cs) → bytes_of (if y then [] else c ∷ left) ≡ (if y then [] else c.byte ∷ before_braces (λ b. b) (bytes_of cs))
    by true e ih = refl
    by false e ih = ap (λ z. if z then c.byte ∷ bytes_of left else bytes_of left) e ∙ ap (λ l. c.byte ∷ l) ih

    whole : (z : Bool) → (c.part == 0) ≡ z → before_braces (λ b. b) (bytes_of (c ∷ cs)) ≡ before_braces (λ b. b) (if z then c.byte ∷ bytes_of cs else bytes_of cs)
    whole z e = ap (λ y. before_braces (λ b. b) (if y then c.byte ∷ bytes_of cs else bytes_of cs)) e

    go : (z : Bool) → (c.part == 0) ≡ z → closes (λ x. x.byte) cs ≡ closes (λ b. b) (bytes_of cs) → bytes_of left ≡ before_braces (λ b. b) (bytes_of cs) →
        bytes_of (before_braces (λ x. x.byte) (c ∷ cs)) ≡ before_braces (λ b. b) (bytes_of (c ∷ cs))
    go true e k ih = ap (λ z. bytes_of (if (c.byte == 123) && z then [] else c ∷ left)) k ∙ by _ e ih ∙ sym (whole true e)
    go false e k ih =
        ap (λ b. bytes_of (if (b == 123) && closes (λ x. x.byte) cs then [] else c ∷ left)) (t.0 e)
        ∙ ap (λ z. if z then c.byte ∷ bytes_of left else bytes_of left) e ∙ ih ∙ sym (whole false e)

last-bytes : (cs : List Column) → AreTabbed cs → closes (λ c. c.byte) cs ≡ true → bytes_of (without_last cs) ≡ without_last (bytes_of cs)
last-bytes [] t e = refl
last-bytes (c ∷ []) t e = go (c.part == 0)
  where
    go : (z : Bool) → [] ≡ without_last (if z then c.byte ∷ [] else [])
    go true = refl
    go false = refl
last-bytes (c ∷ (d ∷ cs)) t e = go (c.part == 0) (bytes_of (d ∷ cs)) refl (last-bytes (d ∷ cs) t.2 on)
  where
    on : closes (λ x. x.byte) (d ∷ cs) ≡ true
    on = (and-both (not (is_brace (λ x. x.byte) c)) (closes (λ x. x.byte) (d ∷ cs)) e).1

    go : (z : Bool) (bs : List ℕ) → bytes_of (d ∷ cs) ≡ bs → bytes_of (without_last (d ∷ cs)) ≡ without_last (bytes_of (d ∷ cs)) →
        (if z then c.byte ∷ bytes_of (without_last (d ∷ cs)) else bytes_of (without_last (d ∷ cs))) ≡ without_last (if z then c.byte ∷ bytes_of (d ∷ cs) else bytes_of (d ∷ cs))
    go false bs f ih = ih
    go true [] f ih = absurd (true≢false (sym on ∙ closes-bytes (d ∷ cs) t.2 ∙ ap (closes (λ b. b)) f))
    go true (x ∷ xs) f ih = ap (λ l. c.byte ∷ l) (ih ∙ ap without_last f) ∙ sym (ap (λ l. without_last (c.byte ∷ l)) f)

pub inside-bytes : (cs : List Column) → AreTabbed cs → bytes_of (inside_braces (λ c. c.byte) cs) ≡ inside_braces (λ b. b) (bytes_of cs)
inside-bytes [] t = refl
inside-bytes (c ∷ cs) t = go (c.part == 0) refl (closes-bytes cs t.2) (inside-bytes cs t.2)
  where
    left : List Column
    left = inside_braces (λ x. x.byte) cs

    whole : (z : Bool) → (c.part == 0) ≡ z → inside_braces (λ b. b) (bytes_of (c ∷ cs)) ≡ inside_braces (λ b. b) (if z then c.byte ∷ bytes_of cs else bytes_of cs)
    whole z e = ap (λ y. inside_braces (λ b. b) (if y then c.byte ∷ bytes_of cs else bytes_of cs)) e

    go : (z : Bool) → (c.part == 0) ≡ z → closes (λ x. x.byte) cs ≡ closes (λ b. b) (bytes_of cs) → bytes_of left ≡ inside_braces (λ b. b) (bytes_of cs) →
        bytes_of (inside_braces (λ x. x.byte) (c ∷ cs)) ≡ inside_braces (λ b. b) (bytes_of (c ∷ cs))
    go true e k ih = ap (λ z. bytes_of (if (c.byte == 123) && z then without_last cs else left)) k ∙ by ((c.byte == 123) && closes (λ b. b) (bytes_of cs)) refl ∙ sym (whole true e)
      where
        by : (y : Bool) → ((c.byte == 123) && closes (λ b. b) (bytes_of cs)) ≡ y → bytes_of (if y then without_last cs else left) ≡ (if y then without_last (bytes_of cs) else inside_braces (λ b. b) (bytes_of cs))
        by true f = last-bytes cs t.2 (k ∙ (and-both (c.byte == 123) (closes (λ b. b) (bytes_of cs)) f).1)
        by false f = ih
    go false e k ih = ap (λ b. bytes_of (if (b == 123) && closes (λ x. x.byte) cs then without_last cs else left)) (t.0 e) ∙ ih ∙ sym (whole false e)

pub before-cut : (cs : List Column) → Cut cs (before_braces (λ c. c.byte) cs)
before-cut [] = record { following = []; is = refl }
before-cut (c ∷ cs) = go (is_braced (λ x. x.byte) (c ∷ cs)) (before-cut cs)
  where
    go : (z : Bool) → Cut cs (before_braces (λ x. x.byte) cs) → Cut (c ∷ cs) (if z then [] else c ∷ before_braces (λ x. x.byte) cs)
    go true u = record { following = c ∷ cs; is = refl }
    go false u = record { following = u.following; is = ap (λ l. c ∷ l) u.is }

pub attributes-cut : (attributes : Bool) (cs : List Column) → Cut cs (without_attributes attributes cs)
attributes-cut false cs = record { following = []; is = sym (append-nil cs) }
attributes-cut true cs =
    let x = before-cut cs in
    let y = blanks-cut (before_braces (λ c. c.byte) cs) in
    record { following = y.following ++ x.following; is = x.is ∙ ap (λ l. l ++ x.following) y.is ∙ append_assoc (without_attributes true cs) y.following x.following }

pub attributes-bytes : (attributes : Bool) (cs : List Column) → AreTabbed cs → bytes_of (without_attributes attributes cs) ≡ without_attributes_bytes attributes (bytes_of cs)
attributes-bytes false cs t = refl
attributes-bytes true cs t =
    let u = before-cut cs in
    let left = before_braces (λ c. c.byte) cs in
    drop_end-bytes is_blank_byte left (front-tabbed left u.following (subst AreTabbed u.is t)) ∙ ap (drop_end is_blank_byte) (before-bytes cs t)

-- bytes that end with a `}`, and contain no other brace
closed-all : (bs : List ℕ) → closes (λ b. b) bs ≡ true → before_braces (λ b. b) bs ≡ bs
closed-all [] e = refl
closed-all (b ∷ []) e = ap (λ z. if z then [] else b ∷ []) (and-no (b == 123))
closed-all (b ∷ (c ∷ bs)) e =
    let p = and-both (not (is_brace (λ x. x) b)) (closes (λ x. x) (c ∷ bs)) e in
    ap (λ z. if z && closes (λ x. x) (c ∷ bs) then [] else b ∷ before_braces (λ x. x) (c ∷ bs)) (or-none (b == 123) (b == 125) p.0)
    ∙ ap (λ l. b ∷ l) (closed-all (c ∷ bs) p.1)

drop-nothing : (n : ℕ) (xs : List ℕ) → xs ≡ [] → drop n xs ≡ []
drop-nothing zero xs e = e
drop-nothing (suc n) [] e = refl
drop-nothing (suc n) (x ∷ xs) e = absurd (let z : x ∷ xs ≡ [] = e in cc)

-- a brace after which they close
closes-before : (k : ℕ) (bs : List ℕ) (b : ℕ) (rest : List ℕ) → drop k bs ≡ b ∷ rest → is_brace (λ x. x) b ≡ true → closes (λ x. x) rest ≡ true → closes (λ x. x) bs ≡ false
closes-before zero bs b [] d i e = absurd (true≢false (sym e))
closes-before zero bs b (r ∷ rest) d i e = ap (closes (λ x. x)) d ∙ ap (λ z. not z && closes (λ x. x) (r ∷ rest)) i
closes-before (suc k) [] b rest d i e = refl
closes-before (suc k) (x ∷ []) b rest d i e = absurd (let z : [] ≡ b ∷ rest = sym (drop-nothing k [] refl) ∙ d in cc)
closes-before (suc k) (x ∷ (y ∷ ys)) b rest d i e = ap (λ z. not (is_brace (λ w. w) x) && z) (closes-before k (y ∷ ys) b rest d i e) ∙ and-no (not (is_brace (λ w. w) x))

pub braced-at : (k : ℕ) (bs : List ℕ) (b : ℕ) (rest : List ℕ) → drop k bs ≡ b ∷ rest → b ≡ 123 → closes (λ x. x) rest ≡ true → length (before_braces (λ x. x) bs) ≡ k
braced-at zero bs b rest d i e =
    ap (λ l. length (before_braces (λ x. x) l)) (d ∙ ap (λ n. n ∷ rest) i) ∙ ap (λ z. length (if z then [] else 123 ∷ before_braces (λ x. x) rest)) e
braced-at (suc k) [] b rest d i e = absurd (let z : [] ≡ b ∷ rest = d in cc)
braced-at (suc k) (x ∷ xs) b rest d i e =
    ap (λ z. length (if (x == 123) && z then [] else x ∷ before_braces (λ y. y) xs)) (closes-before k xs b rest d (ap (is_brace (λ y. y)) i) e)
    ∙ ap (λ z. length (if z then [] else x ∷ before_braces (λ y. y) xs)) (and-no (x == 123)) ∙ ap suc (braced-at k xs b rest d i e)

pub unbraced-at : (k : ℕ) (bs : List ℕ) (b : ℕ) (rest : List ℕ) → drop k bs ≡ b ∷ rest → is_brace (λ x. x) b ≡ true → b ≢ 123 → closes (λ x. x) rest ≡ true → before_braces (λ x. x) bs ≡ bs
unbraced-at zero bs b rest d i n e =
    subst (λ l. before_braces (λ x. x) l ≡ l) (sym d)
    (ap (λ z. if z && closes (λ x. x) rest then [] else b ∷ before_braces (λ x. x) rest) (let z : (b == 123) ≡ false = grind (arith, n) in z) ∙ ap (λ l. b ∷ l) (closed-all rest e))
unbraced-at (suc k) [] b rest d i n e = refl
unbraced-at (suc k) (x ∷ xs) b rest d i n e =
    ap (λ z. if (x == 123) && z then [] else x ∷ before_braces (λ y. y) xs) (closes-before k xs b rest d i e)
    ∙ ap (λ z. if z then [] else x ∷ before_braces (λ y. y) xs) (and-no (x == 123)) ∙ ap (λ l. x ∷ l) (unbraced-at k xs b rest d i n e)

-- if there is no `}` at the end
closes-last : (k : ℕ) (bs : List ℕ) → suc k ≡ length bs → closes (λ b. b) bs ≡ true → get_or bs k 0 ≡ 125
closes-last k [] l e = absurd (true≢false (sym e))
closes-last zero (b ∷ []) l e = same b 125 e
closes-last (suc k) (b ∷ []) l e = absurd (omega (arith, l))
closes-last zero (b ∷ (c ∷ bs)) l e = absurd (omega (arith, l))
closes-last (suc k) (b ∷ (c ∷ bs)) l e = closes-last k (c ∷ bs) (omega (arith, l)) (and-both (not (is_brace (λ x. x) b)) (closes (λ x. x) (c ∷ bs)) e).1

unclosed-at : (k : ℕ) (bs : List ℕ) → suc k ≡ length bs → get_or bs k 0 ≢ 125 → before_braces (λ b. b) bs ≡ bs
unclosed-at k [] l n = refl
unclosed-at zero (b ∷ []) l n = ap (λ z. if z then [] else b ∷ []) (and-no (b == 123))
unclosed-at (suc k) (b ∷ []) l n = absurd (omega (arith, l))
unclosed-at zero (b ∷ (c ∷ bs)) l n = absurd (omega (arith, l))
unclosed-at (suc k) (b ∷ (c ∷ bs)) l n = go (closes (λ x. x) (c ∷ bs)) refl (unclosed-at k (c ∷ bs) (omega (arith, l)) n)
  where
    go : (z : Bool) → closes (λ x. x) (c ∷ bs) ≡ z → before_braces (λ x. x) (c ∷ bs) ≡ c ∷ bs → (if (b == 123) && closes (λ x. x) (c ∷ bs) then [] else b ∷ before_braces (λ x. x) (c ∷ bs)) ≡ b ∷ (c ∷ bs)
    go true e ih = absurd (n (closes-last k (c ∷ bs) (omega (arith, l)) e))
    go false e ih =
        ap (λ z. if (b == 123) && z then [] else b ∷ before_braces (λ x. x) (c ∷ bs)) e ∙ ap (λ z. if z then [] else b ∷ before_braces (λ x. x) (c ∷ bs)) (and-no (b == 123))
        ∙ ap (λ l. b ∷ l) ih

pub unclosed : (bs : List ℕ) → length bs ≢ 0 → get_or bs (length bs - 1) 0 ≢ 125 → before_braces (λ b. b) bs ≡ bs
unclosed bs some n = unclosed-at (length bs - 1) bs (omega (arith, some)) n

pub drop-at : (k : ℕ) (bs : List ℕ) → k < length bs → drop k bs ≡ get_or bs k 0 ∷ drop (suc k) bs
drop-at zero [] l = absurd (omega (arith, l))
drop-at zero (b ∷ bs) l = refl
drop-at (suc k) [] l = absurd (omega (arith, l))
drop-at (suc k) (b ∷ bs) l = drop-at k bs (omega (arith, l))

pub closes-one : (k : ℕ) (bs : List ℕ) → suc k < length bs → is_brace (λ b. b) (get_or bs k 0) ≡ false → closes (λ b. b) (drop (suc k) bs) ≡ true → closes (λ b. b) (drop k bs) ≡ true
closes-one k bs l i e =
    ap (closes (λ b. b)) (drop-at k bs (omega (arith, l)) ∙ ap (λ r. get_or bs k 0 ∷ r) (drop-at (suc k) bs l))
    ∙ ap (λ z. not z && closes (λ b. b) (get_or bs (suc k) 0 ∷ drop (suc (suc k)) bs)) i
    ∙ ap (closes (λ b. b)) (sym (drop-at (suc k) bs l)) ∙ e

-- the parts of bytes with braces at the end
closed-parts : (bs : List ℕ) → closes (λ b. b) bs ≡ true → bs ≡ without_last bs ++ 125 ∷ []
closed-parts [] e = absurd (true≢false (sym e))
closed-parts (b ∷ []) e = ap (λ n. n ∷ []) (same b 125 e)
closed-parts (b ∷ (c ∷ bs)) e = ap (λ l. b ∷ l) (closed-parts (c ∷ bs) (and-both (not (is_brace (λ x. x) b)) (closes (λ x. x) (c ∷ bs)) e).1)

braces-parts : (bs : List ℕ) → length (before_braces (λ b. b) bs) ≢ length bs → bs ≡ before_braces (λ b. b) bs ++ (123 ∷ (inside_braces (λ b. b) bs ++ 125 ∷ []))
braces-parts [] n = absurd (n refl)
braces-parts (b ∷ bs) n = go ((b == 123) && closes (λ x. x) bs) refl n (λ m. braces-parts bs m)
  where
    go : (z : Bool) → ((b == 123) && closes (λ x. x) bs) ≡ z → length (if z then [] else b ∷ before_braces (λ x. x) bs) ≢ suc (length bs) →
        (length (before_braces (λ x. x) bs) ≢ length bs → bs ≡ before_braces (λ x. x) bs ++ (123 ∷ (inside_braces (λ x. x) bs ++ 125 ∷ []))) → b ∷ bs ≡ (if z then [] else b ∷ before_braces (λ x. x) bs) ++ (123 ∷ ((if z then without_last bs else inside_braces (λ x. x) bs) ++ 125 ∷ []))
    go true e m ih = let p = and-both (b == 123) (closes (λ x. x) bs) e in ap (λ k. k ∷ bs) (same b 123 p.0) ∙ ap (λ l. 123 ∷ l) (closed-parts bs p.1)
    go false e m ih = ap (λ l. b ∷ l) (ih (λ s. m (ap suc s)))

pub no-inside : (bs : List ℕ) → length (before_braces (λ b. b) bs) ≡ length bs → inside_braces (λ b. b) bs ≡ []
no-inside [] e = refl
no-inside (b ∷ bs) e = go ((b == 123) && closes (λ x. x) bs) e (λ f. no-inside bs f)
  where
    go : (z : Bool) → length (if z then [] else b ∷ before_braces (λ x. x) bs) ≡ suc (length bs) → (length (before_braces (λ x. x) bs) ≡ length bs → inside_braces (λ x. x) bs ≡ []) → (if z then without_last bs else inside_braces (λ x. x) bs) ≡ []
    go true f ih = absurd (let q : 0 ≡ suc (length bs) = f in omega (arith, q))
    go false f ih = ih (let q : suc (length (before_braces (λ x. x) bs)) ≡ suc (length bs) = f in omega (arith, q))

-- in the text
drop_end-front : (q : ℕ → Bool) (bs : List ℕ) → (rest : List ℕ) × (bs ≡ drop_end q bs ++ rest)
drop_end-front q [] = ([], refl)
drop_end-front q (b ∷ bs) = go (drop_end q bs) (q b) (drop_end-front q bs)
  where
    go : (ds : List ℕ) (z : Bool) → (rest : List ℕ) × (bs ≡ ds ++ rest) → (rest : List ℕ) × (b ∷ bs ≡ put_before z b ds ++ rest)
    go [] true u = (b ∷ bs, refl)
    go [] false u = (u.0, ap (λ l. b ∷ l) u.1)
    go (d ∷ ds) z u = (u.0, ap (λ l. b ∷ l) u.1)

at-drop : (n : ℕ) (bs : List ℕ) (b : ℕ) (rest : List ℕ) → drop n bs ≡ b ∷ rest → (n < length bs) × (get_or bs n 0 ≡ b)
at-drop zero [] b rest d = absurd (let z : [] ≡ b ∷ rest = d in cc)
at-drop zero (x ∷ xs) b rest d = (omega arith, (let z : x ∷ xs ≡ b ∷ rest = d in cc))
at-drop (suc n) [] b rest d = absurd (let z : [] ≡ b ∷ rest = d in cc)
at-drop (suc n) (x ∷ xs) b rest d = let ih = at-drop n xs b rest d in (let l = ih.0 in omega (arith, l), ih.1)

drop-front : (a x : List ℕ) → drop (length a) (a ++ x) ≡ x
drop-front [] x = refl
drop-front (b ∷ a) x = drop-front a x

take-front : (a x : List ℕ) → take (length a) (a ++ x) ≡ a
take-front [] x = refl
take-front (b ∷ a) x = ap (λ l. b ∷ l) (take-front a x)

split-at : (n : ℕ) (bs : List ℕ) → take n bs ++ drop n bs ≡ bs
split-at zero bs = refl
split-at (suc n) [] = refl
split-at (suc n) (b ∷ bs) = ap (λ l. b ∷ l) (split-at n bs)

pub stands-in : (text : List ℕ) (place content_end : ℕ) (bs : List ℕ) (before size : ℕ) → IsUtf8 text → bs ≡ slice text place content_end →
    before ≡ length (before_braces (λ b. b) (drop_end is_blank_byte bs)) → size ≡ length (drop_end is_blank_byte bs) → (before ≡ size → ⊥) →
    StandsAt text (place + before + 1) (place + size - 1) (inside_braces (λ b. b) (drop_end is_blank_byte bs))
stands-in text place content_end bs before size utf8 s b z some =
    let content = drop_end is_blank_byte bs in
    let front = before_braces (λ x. x) content in
    let inside = inside_braces (λ x. x) content in
    let parts : content ≡ front ++ (123 ∷ (inside ++ 125 ∷ [])) = braces-parts content (λ e. some (b ∙ e ∙ sym z)) in
    let blanks = drop_end-front is_blank_byte bs in
    let more = blanks.0 ++ drop (content_end - place) (drop place text) in
    let whole : drop place text ≡ front ++ (123 ∷ (inside ++ 125 ∷ more)) =
    sym (split-at (content_end - place) (drop place text)) ∙ ap (λ l. l ++ drop (content_end - place) (drop place text)) (sym s ∙ blanks.1 ∙ ap (λ l. l ++ blanks.0) parts)
    ∙ append_assoc (front ++ (123 ∷ (inside ++ 125 ∷ []))) blanks.0 (drop (content_end - place) (drop place text))
    ∙ append_assoc front (123 ∷ (inside ++ 125 ∷ [])) more ∙ ap (λ l. front ++ (123 ∷ l)) (append_assoc inside (125 ∷ []) more) in
    let opening : drop (place + before) text ≡ 123 ∷ (inside ++ 125 ∷ more) =
    sym (drop-drop before place text) ∙ ap (λ n. drop n (drop place text)) b ∙ ap (drop (length front)) whole ∙ drop-front front (123 ∷ (inside ++ 125 ∷ more)) in
    let following : drop (place + before + 1) text ≡ inside ++ 125 ∷ more = sym (drop-drop 1 (place + before) text) ∙ ap (drop 1) opening in
    let sizes : size ≡ before + (1 + (length inside + 1)) = (let l = ap length parts in let m = length-append front (123 ∷ (inside ++ 125 ∷ [])) in let n = length-append inside (125 ∷ []) in omega (arith, z, l, m, n, b)) in
    let to : place + size - 1 ≡ place + before + 1 + length inside = omega (arith, sizes) in
    let closing : drop (place + before + 1 + length inside) text ≡ 125 ∷ more =
    sym (drop-drop (length inside) (place + before + 1) text) ∙ ap (drop (length inside)) following ∙ drop-front inside (125 ∷ more) in
    let first = at-drop (place + before) text 123 (inside ++ 125 ∷ more) opening in
    let last = at-drop (place + before + 1 + length inside) text 125 more closing in
    record {
      within = omega (arith, to);
      from_uncut = IsCharBoundary-after_ascii text (place + before) utf8 first.0 (let e = first.1 in omega (arith, e));
      to_uncut = subst (IsCharBoundary text) (sym to) (IsCharBoundary-before_ascii text (place + before + 1 + length inside) last.0 (let e = last.1 in omega (arith, e)));
      is = ap (λ n. take n (drop (place + before + 1) text)) (let q : (place + size - 1) - (place + before + 1) ≡ length inside = omega (arith, to) in q)
          ∙ ap (take (length inside)) following ∙ take-front inside (125 ∷ more);
    }

-- the number of bytes before the braces, by the place of the last brace before the end
pub drop-before : (at : ℕ) (bs : List ℕ) → 0 < at → at < length bs → drop (at - 1) bs ≡ get_or bs (at - 1) 0 ∷ drop at bs
drop-before zero bs z l = absurd (omega (arith, z))
drop-before (suc n) bs z l = let p : n ≡ suc n - 1 = omega arith in subst (λ k. drop k bs ≡ get_or bs k 0 ∷ drop (suc n) bs) p (drop-at n bs (omega (arith, l)))

pub none-before : (bs : List ℕ) → length bs ≡ 0 → length bs ≡ length (before_braces (λ b. b) bs)
none-before [] e = refl
none-before (b ∷ bs) e = absurd (omega (arith, e))

pub at-opening : (at : ℕ) (bs : List ℕ) → 0 < at → at < length bs → closes (λ b. b) (drop at bs) ≡ true → get_or bs (at - 1) 0 ≡ 123 → at - 1 ≡ length (before_braces (λ b. b) bs)
at-opening at bs z l c e = sym (braced-at (at - 1) bs (get_or bs (at - 1) 0) (drop at bs) (drop-before at bs z l) e c)

pub at-closing : (at : ℕ) (bs : List ℕ) → 0 < at → at < length bs → closes (λ b. b) (drop at bs) ≡ true → is_brace (λ b. b) (get_or bs (at - 1) 0) ≡ true → get_or bs (at - 1) 0 ≢ 123 → length bs ≡ length (before_braces (λ b. b) bs)
at-closing at bs z l c i n = sym (ap length (unbraced-at (at - 1) bs (get_or bs (at - 1) 0) (drop at bs) (drop-before at bs z l) i n c))

pub at-front : (at : ℕ) (bs : List ℕ) → at ≤ 0 → closes (λ b. b) (drop at bs) ≡ true → length bs ≡ length (before_braces (λ b. b) bs)
at-front zero bs z c = sym (ap length (closed-all bs c))
at-front (suc n) bs z c = absurd (omega (arith, z))

pub before-take : (bs : List ℕ) → take (length (before_braces (λ b. b) bs)) bs ≡ before_braces (λ b. b) bs
before-take [] = refl
before-take (b ∷ bs) = go (is_braced (λ x. x) (b ∷ bs)) (before-take bs)
  where
    go : (z : Bool) → take (length (before_braces (λ x. x) bs)) bs ≡ before_braces (λ x. x) bs → take (length (if z then [] else b ∷ before_braces (λ x. x) bs)) (b ∷ bs) ≡ (if z then [] else b ∷ before_braces (λ x. x) bs)
    go true ih = refl
    go false ih = ap (λ l. b ∷ l) ih
