-- The columns of an ATX heading's text, and its bytes.
use Rattle.std.proofs.Common.{◌≡◌, ◌≢◌, ℕ, zero, suc, ◌+◌, ◌-◌, ◌≤◌, ◌<◌, Bool, true, false, ◌==◌, ◌||◌, not, List, [], ◌∷◌, ◌++◌, append_assoc, append-nil, length, drop, take_while, refl, sym, ap, ◌∙◌, subst, arith, true≢false, cond}
use Rattle.std.specs.Prelude.{if◌then◌else◌, nat_lt}
use Rattle.std.proofs.lemmas.List.Sums.{take_while-cons}
use Rattle.cmark_grammar.specs.Columns.{Column, is_blank, is_blank_byte, indent, without_indent, drop_end, put_before, without_trailing_blanks, bytes_of}
use Rattle.cmark_grammar.specs.Leaves.{run, is_empty}
use Rattle.cmark_grammar.specs.Rows.{Row, is_bare, first_place, start_of, words_of}
use Rattle.cmark_grammar.specs.Tokens.{slice, is_hash, without_closing, without_attributes, heading_columns, end_place}
use Rattle.cmark_block_model.proofs.RowPlaces.{Runs, drop-Runs}
use Rattle.cmark_block_model.proofs.RowEdges.{Front, IsAsciiColumn, is-ascii}
use Rattle.cmark_line_rules.specs.Rests.{row_of}
use Rattle.cmark_line_rules.specs.declared.line_rest.LineRest.{LineRest}
use Rattle.std.specs.Str.{IsUtf8}
use Rattle.cmark_grammar.specs.Attributes.{before_braces, inside_braces}
use Rattle.cmark_leaf_nodes.specs.TextColumns.{StandInText}
use Rattle.cmark_leaf_nodes.specs.Closings.{after_opening, without_closing_bytes, without_attributes_bytes, StandsAt, attribute_bytes}
use Rattle.cmark_leaf_nodes.proofs.BraceSteps.{attributes-cut, attributes-bytes, inside-bytes, stands-in}
use Rattle.cmark_leaf_nodes.proofs.ColumnCuts.{goes_on, AreTabbed, Cut, drop-tabbed, front-tabbed, front-runs, end-runs, drop_end-cut, drop_end-bytes, blanks-cut, words-runs, rest-tabbed, bytes-end, bytes-slice, drop-in_text}

nine : (b : ℕ) → (b == 35) ≡ true → b ≢ 9
nine b e z = absurd (true≢false (sym e ∙ ap (λ x. x == 35) z))

not-false : (z : Bool) → not z ≡ false → z ≡ true
not-false true e = refl
not-false false e = absurd (true≢false e)

whole-first : (c : Column) (cs : List Column) → goes_on (c ∷ cs) ≡ false → bytes_of (c ∷ cs) ≡ c.byte ∷ bytes_of cs
whole-first c cs e = ap (λ z. if z then c.byte ∷ bytes_of cs else bytes_of cs) (not-false (c.part == 0) e)

-- the opening sequence
pub opening-bytes : (n : ℕ) (cs : List Column) → AreTabbed cs → goes_on cs ≡ false → n ≤ run 35 (bytes_of cs) → (bytes_of (drop n cs) ≡ drop n (bytes_of cs)) × Front IsAsciiColumn n cs
opening-bytes zero [] t w le = (refl, tt)
opening-bytes zero (c ∷ cs) t w le = (refl, tt)
opening-bytes (suc n) [] t w le = absurd (let z : run 35 [] ≡ 0 = refl in omega (arith, le, z))
opening-bytes (suc n) (c ∷ cs) t w le =
    go (c.byte == 35) refl (goes_on cs) refl
    (subst (λ k. suc n ≤ k) (ap (run 35) (whole-first c cs w) ∙ ap length (take_while-cons (λ b. b == 35) c.byte (bytes_of cs))) le) (λ f l. opening-bytes n cs t.2 f l)
  where
    go : (z : Bool) → (c.byte == 35) ≡ z → (g : Bool) → goes_on cs ≡ g → suc n ≤ length (cond z (c.byte ∷ take_while (λ b. b == 35) (bytes_of cs)) []) →
        (goes_on cs ≡ false → n ≤ run 35 (bytes_of cs) → (bytes_of (drop n cs) ≡ drop n (bytes_of cs)) × Front IsAsciiColumn n cs) → (bytes_of (drop n cs) ≡ drop (suc n) (bytes_of (c ∷ cs))) × Front IsAsciiColumn (suc n) (c ∷ cs)
    go true e true f l ih = absurd (nine c.byte e (t.1 f))
    go true e false f l more =
        let ih = more f (omega (arith, l)) in
        (ih.0 ∙ sym (ap (drop (suc n)) (whole-first c cs w)), (is-ascii c.byte 35 (omega arith) e, ih.1))
    go false e g f l ih = absurd (omega (arith, l))

-- the blanks at the beginning
pub indent-bytes : (cs : List Column) → AreTabbed cs → (bytes_of (without_indent cs) ≡ drop (length (take_while is_blank_byte (bytes_of cs))) (bytes_of cs)) × (goes_on (without_indent cs) ≡ false)
indent-bytes [] t = (refl, refl)
indent-bytes (c ∷ cs) t = go (is_blank c) refl (c.part == 0) refl (indent-bytes cs t.2)
  where
    is : without_indent (c ∷ cs) ≡ drop (length (cond (is_blank c) (c ∷ take_while is_blank cs) [])) (c ∷ cs)
    is = ap (λ l. drop (length l) (c ∷ cs)) (take_while-cons is_blank c cs)

    count : List ℕ → ℕ
    count bs = length (take_while is_blank_byte bs)

    both : (z : Bool) → is_blank c ≡ z → (bs : List ℕ) → drop (length (take_while is_blank_byte (c.byte ∷ bs))) (c.byte ∷ bs) ≡ drop (length (cond z (c.byte ∷ take_while is_blank_byte bs) [])) (c.byte ∷ bs)
    both z e bs = ap (λ l. drop (length l) (c.byte ∷ bs)) (take_while-cons is_blank_byte c.byte bs) ∙ ap (λ y. drop (length (cond y (c.byte ∷ take_while is_blank_byte bs) [])) (c.byte ∷ bs)) e

    go : (z : Bool) → is_blank c ≡ z → (p : Bool) → (c.part == 0) ≡ p → (bytes_of (without_indent cs) ≡ drop (length (take_while is_blank_byte (bytes_of cs))) (bytes_of cs)) × (goes_on (without_indent cs) ≡ false) →
        (bytes_of (without_indent (c ∷ cs)) ≡ drop (length (take_while is_blank_byte (bytes_of (c ∷ cs)))) (bytes_of (c ∷ cs))) × (goes_on (without_indent (c ∷ cs)) ≡ false)
    go true e p f ih =
        let same : without_indent (c ∷ cs) ≡ without_indent cs = is ∙ ap (λ z. drop (length (cond z (c ∷ take_while is_blank cs) [])) (c ∷ cs)) e in
        (ap bytes_of same ∙ ih.0 ∙ by p f, ap goes_on same ∙ ih.1)
      where
        by : (p : Bool) → (c.part == 0) ≡ p → drop (length (take_while is_blank_byte (bytes_of cs))) (bytes_of cs) ≡ drop (length (take_while is_blank_byte (bytes_of (c ∷ cs)))) (bytes_of (c ∷ cs))
        by true f = sym (ap (λ z. drop (length (take_while is_blank_byte (if z then c.byte ∷ bytes_of cs else bytes_of cs))) (if z then c.byte ∷ bytes_of cs else bytes_of cs)) f ∙ both true e (bytes_of cs))
        by false f = sym (ap (λ z. drop (length (take_while is_blank_byte (if z then c.byte ∷ bytes_of cs else bytes_of cs))) (if z then c.byte ∷ bytes_of cs else bytes_of cs)) f)
    go false e false f ih = absurd (true≢false (sym (ap is_blank_byte (t.0 f)) ∙ e))
    go false e true f ih =
        let same : without_indent (c ∷ cs) ≡ c ∷ cs = is ∙ ap (λ z. drop (length (cond z (c ∷ take_while is_blank cs) [])) (c ∷ cs)) e in
        let whole : bytes_of (c ∷ cs) ≡ c.byte ∷ bytes_of cs = ap (λ z. if z then c.byte ∷ bytes_of cs else bytes_of cs) f in
        (ap bytes_of same ∙ whole ∙ sym (ap (λ l. drop (length (take_while is_blank_byte l)) l) whole ∙ both false e (bytes_of cs)), ap goes_on same ∙ ap not f)

-- whether the last one passes
module _ {X : Type 0} (q : X → Bool) where
  abbrev last_passes : List X → Bool
  last_passes [] = false
  last_passes (x ∷ []) = q x
  last_passes (x ∷ (y ∷ xs)) = last_passes (y ∷ xs)

  less-le : (a b : ℕ) → a < b → nat_lt a b ≡ true
  less-le a b l = grind (arith)

  less-suc : (a b : ℕ) → nat_lt (suc a) (suc b) ≡ nat_lt a b
  less-suc a b = grind (arith)

  shorter : (xs : List X) → nat_lt (length (drop_end q xs)) (length xs) ≡ last_passes xs
  shorter [] = refl
  shorter (x ∷ []) = go (q x)
    where
      go : (z : Bool) → nat_lt (length (put_before z x [])) 1 ≡ z
      go true = refl
      go false = refl
  shorter (x ∷ (y ∷ xs)) = go (drop_end q (y ∷ xs)) (q x) (shorter (y ∷ xs))
    where
      go : (ds : List X) (z : Bool) → nat_lt (length ds) (suc (length xs)) ≡ last_passes (y ∷ xs) → nat_lt (length (put_before z x ds)) (suc (suc (length xs))) ≡ last_passes (y ∷ xs)
      go [] true e = less-le 0 (suc (suc (length xs))) (omega arith) ∙ sym (less-le 0 (suc (length xs)) (omega arith)) ∙ e
      go [] false e = less-suc 0 (suc (length xs)) ∙ e
      go (d ∷ ds) z e = less-suc (suc (length ds)) (suc (length xs)) ∙ e

nothing : (c : Column) (cs : List Column) → bytes_of (c ∷ cs) ≡ [] → ((c.part == 0) ≡ false) × (bytes_of cs ≡ [])
nothing c cs none = go (c.part == 0) refl none
  where
    go : (z : Bool) → (c.part == 0) ≡ z → (if z then c.byte ∷ bytes_of cs else bytes_of cs) ≡ [] → ((c.part == 0) ≡ false) × (bytes_of cs ≡ [])
    go true p n = absurd (let x : c.byte ∷ bytes_of cs ≡ [] = n in cc)
    go false p n = (p, n)

parts-pass : (c : Column) (cs : List Column) → AreTabbed (c ∷ cs) → bytes_of (c ∷ cs) ≡ [] → last_passes is_blank (c ∷ cs) ≡ true
parts-pass c [] t none = ap is_blank_byte (t.0 (nothing c [] none).0)
parts-pass c (d ∷ cs) t none = parts-pass d cs t.2 (nothing c (d ∷ cs) none).1

last-bytes : (cs : List Column) (b : ℕ) (bs : List ℕ) → AreTabbed cs → bytes_of cs ≡ b ∷ bs → last_passes is_blank cs ≡ last_passes is_blank_byte (b ∷ bs)
last-bytes [] b bs t e = absurd (let x : [] ≡ b ∷ bs = e in cc)
last-bytes (c ∷ []) b bs t e = go (c.part == 0) e
  where
    go : (z : Bool) → (if z then c.byte ∷ [] else []) ≡ b ∷ bs → is_blank c ≡ last_passes is_blank_byte (b ∷ bs)
    go true i = subst (λ l. is_blank c ≡ last_passes is_blank_byte l) i refl
    go false i = absurd (let x : [] ≡ b ∷ bs = i in cc)
last-bytes (c ∷ (d ∷ cs)) b bs t e = go (c.part == 0) e (bytes_of (d ∷ cs)) refl (λ x xs f. last-bytes (d ∷ cs) x xs t.2 f)
  where
    go : (z : Bool) → (if z then c.byte ∷ bytes_of (d ∷ cs) else bytes_of (d ∷ cs)) ≡ b ∷ bs → (es : List ℕ) → bytes_of (d ∷ cs) ≡ es →
        ((x : ℕ) (xs : List ℕ) → bytes_of (d ∷ cs) ≡ x ∷ xs → last_passes is_blank (d ∷ cs) ≡ last_passes is_blank_byte (x ∷ xs)) → last_passes is_blank (d ∷ cs) ≡ last_passes is_blank_byte (b ∷ bs)
    go false i es f ih = ih b bs i
    go true i [] f ih =
        subst (λ l. last_passes is_blank (d ∷ cs) ≡ last_passes is_blank_byte l) (ap (λ l. c.byte ∷ l) (sym f) ∙ i)
        (parts-pass d cs t.2 f ∙ sym (ap is_blank_byte (t.1 (ap not (nothing d cs f).0))))
    go true i (x ∷ es) f ih = subst (λ l. last_passes is_blank (d ∷ cs) ≡ last_passes is_blank_byte l) (ap (λ l. c.byte ∷ l) (sym f) ∙ i) (ih x es f)

hashes-cut : (cs : List Column) → Cut cs (drop_end is_hash cs)
hashes-cut cs = drop_end-cut is_hash cs

-- the closing sequence
pub closing-bytes : (cs : List Column) → AreTabbed cs → goes_on cs ≡ false → bytes_of (without_closing cs) ≡ without_closing_bytes (bytes_of cs)
closing-bytes cs t w = go (drop_end is_hash cs) refl
  where
    h : bytes_of (drop_end is_hash cs) ≡ drop_end (λ b. b == 35) (bytes_of cs)
    h = drop_end-bytes (λ b. b == 35) cs t

    closed : List Column → List Column
    closed xs = if is_bare xs || nat_lt (length (without_trailing_blanks xs)) (length xs) then without_trailing_blanks xs else cs

    closed_bytes : List ℕ → List ℕ
    closed_bytes bs = if is_empty bs || nat_lt (length (drop_end is_blank_byte bs)) (length bs) then drop_end is_blank_byte bs else bytes_of cs

    go : (xs : List Column) → drop_end is_hash cs ≡ xs → bytes_of (without_closing cs) ≡ without_closing_bytes (bytes_of cs)
    go [] e = ap (λ xs. bytes_of (closed xs)) e ∙ ap closed_bytes (sym (ap bytes_of e)) ∙ ap closed_bytes h
    go (x ∷ xs) e = ap (λ ys. bytes_of (closed ys)) e ∙ by (nat_lt (length (without_trailing_blanks (x ∷ xs))) (length (x ∷ xs))) refl ∙ ap closed_bytes (sym (sym h ∙ ap bytes_of e))
      where
        cut : Cut cs (x ∷ xs)
        cut = subst (Cut cs) e (hashes-cut cs)

        tabbed : AreTabbed (x ∷ xs)
        tabbed = front-tabbed (x ∷ xs) cut.following (subst AreTabbed cut.is t)

        first : bytes_of (x ∷ xs) ≡ x.byte ∷ bytes_of xs
        first = whole-first x xs (sym (ap goes_on cut.is) ∙ w)

        less : nat_lt (length (without_trailing_blanks (x ∷ xs))) (length (x ∷ xs)) ≡ nat_lt (length (drop_end is_blank_byte (bytes_of (x ∷ xs)))) (length (bytes_of (x ∷ xs)))
        less = shorter is_blank (x ∷ xs) ∙ last-bytes (x ∷ xs) x.byte (bytes_of xs) tabbed first ∙ sym (ap (λ bs. nat_lt (length (drop_end is_blank_byte bs)) (length bs)) first ∙ shorter is_blank_byte (x.byte ∷ bytes_of xs))

        some : is_empty (bytes_of (x ∷ xs)) ≡ false
        some = ap is_empty first

        by : (z : Bool) → nat_lt (length (without_trailing_blanks (x ∷ xs))) (length (x ∷ xs)) ≡ z → bytes_of (if z then without_trailing_blanks (x ∷ xs) else cs) ≡ closed_bytes (bytes_of (x ∷ xs))
        by z f = one z ∙ sym (ap (λ y. if y || nat_lt (length (drop_end is_blank_byte (bytes_of (x ∷ xs)))) (length (bytes_of (x ∷ xs))) then drop_end is_blank_byte (bytes_of (x ∷ xs)) else bytes_of cs) some
            ∙ ap (λ y. if y then drop_end is_blank_byte (bytes_of (x ∷ xs)) else bytes_of cs) (sym less ∙ f))
          where
            one : (z : Bool) → bytes_of (if z then without_trailing_blanks (x ∷ xs) else cs) ≡ (if z then drop_end is_blank_byte (bytes_of (x ∷ xs)) else bytes_of cs)
            one true = drop_end-bytes is_blank_byte (x ∷ xs) tabbed
            one false = refl

cut-cut : {a b c : List Column} → Cut a b → Cut b c → Cut a c
cut-cut {a} {b} {c} x y = record { following = y.following ++ x.following; is = x.is ∙ ap (λ l. l ++ x.following) y.is ∙ append_assoc c y.following x.following }

closing-cut : (cs : List Column) → Cut cs (without_closing cs)
closing-cut cs = go (is_bare (drop_end is_hash cs) || nat_lt (length (without_trailing_blanks (drop_end is_hash cs))) (length (drop_end is_hash cs)))
  where
    go : (z : Bool) → Cut cs (if z then without_trailing_blanks (drop_end is_hash cs) else cs)
    go true = cut-cut (hashes-cut cs) (blanks-cut (drop_end is_hash cs))
    go false = record { following = []; is = sym (append-nil cs) }

-- the columns after the opening sequence and the blanks there
abbrev pub after_columns : Row → List Column
after_columns r = without_indent (drop (run 35 (words_of r)) (without_indent r.columns))

abbrev pub heading_place : Row → ℕ
heading_place r = first_place r.content_end (after_columns r)

-- a number of columns at the line's end have the same number of bytes
pub following-content_end : (rest : LineRest) → heading_place (row_of rest) + length (bytes_of (after_columns (row_of rest))) ≡ (row_of rest).content_end
following-content_end rest =
    let r = row_of rest in
    let d = drop-Runs (run 35 (words_of r)) (start_of r) (without_indent r.columns) r.content_end (words-runs rest) in
    let cs = drop (run 35 (words_of r)) (without_indent r.columns) in
    let e = drop-Runs (indent cs) (first_place r.content_end cs) cs r.content_end d.0 in
    let z : end_place (heading_place r) (after_columns r) ≡ r.content_end = end-runs (heading_place r) (after_columns r) r.content_end e.0 in
    sym (bytes-end (heading_place r) (after_columns r) (subst (Runs (heading_place r) (after_columns r)) (sym z) e.0)) ∙ z

-- the bytes there
pub following-bytes : (rest : LineRest) → (bytes_of (after_columns (row_of rest)) ≡ after_opening (words_of (row_of rest))) × AreTabbed (after_columns (row_of rest)) × (goes_on (after_columns (row_of rest)) ≡ false)
following-bytes rest =
    let r = row_of rest in
    let w = without_indent r.columns in
    let level = run 35 (words_of r) in
    let t : AreTabbed w = drop-tabbed (indent r.columns) r.columns (rest-tabbed rest) in
    let o = opening-bytes level w t (indent-bytes r.columns (rest-tabbed rest)).1 (let l : level ≤ run 35 (bytes_of w) = omega arith in l) in
    let cs = drop level w in
    let tc : AreTabbed cs = drop-tabbed level w t in
    let i = indent-bytes cs tc in
    (i.0 ∙ ap (λ bs. drop (length (take_while is_blank_byte bs)) bs) o.0, drop-tabbed (indent cs) cs tc, i.1)

-- the content of a heading, after the opening sequence
content-cut : (rest : LineRest) → let cs = after_columns (row_of rest) in Cut cs (without_trailing_blanks cs)
content-cut rest = blanks-cut (after_columns (row_of rest))

content-tabbed : (rest : LineRest) → AreTabbed (without_trailing_blanks (after_columns (row_of rest)))
content-tabbed rest = let cut = content-cut rest in front-tabbed (without_trailing_blanks (after_columns (row_of rest))) cut.following (subst AreTabbed cut.is (following-bytes rest).1)

pub content-bytes : (rest : LineRest) → bytes_of (without_trailing_blanks (after_columns (row_of rest))) ≡ drop_end is_blank_byte (after_opening (words_of (row_of rest)))
content-bytes rest = let b = following-bytes rest in drop_end-bytes is_blank_byte (after_columns (row_of rest)) b.1 ∙ ap (drop_end is_blank_byte) b.0

first-whole : (cs xs : List Column) → goes_on cs ≡ false → Cut cs xs → goes_on xs ≡ false
first-whole cs [] w cut = refl
first-whole cs (x ∷ xs) w cut = sym (ap goes_on cut.is) ∙ w

text-cut : (attributes : Bool) (rest : LineRest) → let cs = after_columns (row_of rest) in Cut cs (without_attributes attributes (without_trailing_blanks cs))
text-cut attributes rest = cut-cut (content-cut rest) (attributes-cut attributes (without_trailing_blanks (after_columns (row_of rest))))

-- the bytes of a heading's text
pub heading-bytes : (attributes : Bool) (rest : LineRest) →
    bytes_of (heading_columns attributes (run 35 (words_of (row_of rest))) (row_of rest))
    ≡ without_closing_bytes (without_attributes_bytes attributes (drop_end is_blank_byte (after_opening (words_of (row_of rest)))))
heading-bytes attributes rest =
    let b = following-bytes rest in
    let cs = after_columns (row_of rest) in
    let cut = text-cut attributes rest in
    let left = without_attributes attributes (without_trailing_blanks cs) in
    closing-bytes left (front-tabbed left cut.following (subst AreTabbed cut.is b.1)) (first-whole cs left b.2 cut)
    ∙ ap without_closing_bytes (attributes-bytes attributes (without_trailing_blanks cs) (content-tabbed rest) ∙ ap (without_attributes_bytes attributes) (content-bytes rest))

-- the bytes between the braces of its attributes
pub words-bytes : (rest : LineRest) → attribute_bytes (row_of rest) ≡ inside_braces (λ b. b) (drop_end is_blank_byte (after_opening (words_of (row_of rest))))
words-bytes rest = inside-bytes (without_trailing_blanks (after_columns (row_of rest))) (content-tabbed rest) ∙ ap (inside_braces (λ b. b)) (content-bytes rest)

following-runs : (rest : LineRest) → Runs (heading_place (row_of rest)) (after_columns (row_of rest)) (row_of rest).content_end
following-runs rest =
    let r = row_of rest in
    let cs = drop (run 35 (words_of r)) (without_indent r.columns) in
    let d = drop-Runs (run 35 (words_of r)) (start_of r) (without_indent r.columns) r.content_end (words-runs rest) in
    (drop-Runs (indent cs) (first_place r.content_end cs) cs r.content_end d.0).0

heading-runs : (attributes : Bool) (rest : LineRest) →
    let cs = heading_columns attributes (run 35 (words_of (row_of rest))) (row_of rest) in Runs (heading_place (row_of rest)) cs (end_place (heading_place (row_of rest)) cs)
heading-runs attributes rest =
    let r = row_of rest in
    let cut = cut-cut (text-cut attributes rest) (closing-cut (without_attributes attributes (without_trailing_blanks (after_columns r)))) in
    front-runs (heading_place r) (heading_columns attributes (run 35 (words_of r)) r) cut.following r.content_end (subst (λ x. Runs (heading_place r) x r.content_end) cut.is (following-runs rest))

-- the words between the braces are part of the text
pub words-stand : (rest : LineRest) (from before size content_end : ℕ) →
    let content = drop_end is_blank_byte (after_opening (words_of (row_of rest))) in
    from ≡ heading_place (row_of rest) → before ≡ length (before_braces (λ b. b) content) → size ≡ length content → (before ≡ size → ⊥) →
    (text : List ℕ) → IsUtf8 text → StandInText text (row_of rest).columns → StandsAt text (from + before + 1) (from + size - 1) (attribute_bytes (row_of rest))
words-stand rest from before size content_end f b s some text utf8 in_text =
    let r = row_of rest in
    let level = run 35 (words_of r) in
    let bs = after_opening (words_of r) in
    let t = drop-in_text text (indent (drop level (without_indent r.columns))) (drop level (without_indent r.columns)) (drop-in_text text level (without_indent r.columns) (drop-in_text text (indent r.columns) r.columns in_text)) in
    let slice_is : bs ≡ slice text (heading_place r) r.content_end = sym (following-bytes rest).0 ∙ bytes-slice text (heading_place r) (after_columns r) r.content_end (following-runs rest) t in
    subst (λ at. StandsAt text (at + before + 1) (at + size - 1) (attribute_bytes r)) (sym f)
    (subst (λ ws. StandsAt text (heading_place r + before + 1) (heading_place r + size - 1) ws) (sym (words-bytes rest))
    (stands-in text (heading_place r) r.content_end bs before size utf8 slice_is b s some))

-- the beginning and the end of a heading's text, by the numbers of bytes
pub heading-from : (rest : LineRest) (content_end size : ℕ) → content_end ≡ (row_of rest).content_end → size ≡ length (after_opening (words_of (row_of rest))) → (size ≤ content_end) × (content_end - size ≡ heading_place (row_of rest))
heading-from rest content_end size e f =
    let s = following-content_end rest in
    let l : length (bytes_of (after_columns (row_of rest))) ≡ length (after_opening (words_of (row_of rest))) = ap length (following-bytes rest).0 in
    (omega (arith, s, l, e, f), omega (arith, s, l, e, f))

pub heading-to : (attributes : Bool) (rest : LineRest) (from size : ℕ) → from ≡ heading_place (row_of rest) →
    size ≡ length (without_closing_bytes (without_attributes_bytes attributes (drop_end is_blank_byte (after_opening (words_of (row_of rest)))))) →
    from + size ≡ end_place (heading_place (row_of rest)) (heading_columns attributes (run 35 (words_of (row_of rest))) (row_of rest))
heading-to attributes rest from size e f =
    let cs = heading_columns attributes (run 35 (words_of (row_of rest))) (row_of rest) in
    let b = bytes-end (heading_place (row_of rest)) cs (heading-runs attributes rest) in
    let l : length (bytes_of cs) ≡ length (without_closing_bytes (without_attributes_bytes attributes (drop_end is_blank_byte (after_opening (words_of (row_of rest)))))) = ap length (heading-bytes attributes rest) in
    omega (arith, b, l, e, f)
