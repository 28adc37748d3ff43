-- The columns of a setext heading's content, and its bytes: line endings are between columns, so a tab may begin in the middle.
use Rattle.std.proofs.Common.{◌≡◌, ℕ, suc, Bool, true, false, ◌==◌, ◌&&◌, ◌||◌, not, List, [], ◌∷◌, ◌++◌, length, map, refl, sym, ap, ◌∙◌, subst, arith, true≢false}
use Rattle.std.specs.Prelude.{if◌then◌else◌, nat_lt}
use Rattle.cmark_grammar.specs.Attributes.{is_brace, closes, before_braces, without_last, inside_braces}
use Rattle.cmark_grammar.specs.Columns.{Column, is_blank_byte, drop_end, put_before, bytes_of}
use Rattle.cmark_grammar.specs.Rows.{Row}
use Rattle.cmark_grammar.specs.SetextAttributes.{line_end_column, content_of, ends_in_braces}
use Rattle.cmark_line_rules.specs.Rests.{row_of}
use Rattle.cmark_line_rules.specs.declared.line_rest.LineRest.{LineRest}
use Rattle.cmark_leaf_nodes.specs.Contents.{content_columns, gathered_bytes}
use Rattle.cmark_leaf_nodes.proofs.ColumnCuts.{AreTabbed, rest-tabbed, drop_end-cut, drop_end-bytes}

-- columns in which no byte begins are of tabs
abbrev pub AreTabs : List Column → Type 0
AreTabs [] = Unit {0}
AreTabs (c ∷ cs) = ((c.part == 0) ≡ false → c.byte ≡ 9) × AreTabs cs

tabbed-tabs : (cs : List Column) → AreTabbed cs → AreTabs cs
tabbed-tabs [] t = tt
tabbed-tabs (c ∷ cs) t = (t.0, tabbed-tabs cs t.2)

join-tabs : (a b : List Column) → AreTabs a → AreTabs b → AreTabs (a ++ b)
join-tabs [] b s t = t
join-tabs (c ∷ a) b s t = (s.0, join-tabs a b s.1 t)

pub front-tabs : (a b : List Column) → AreTabs (a ++ b) → AreTabs a
front-tabs [] b t = tt
front-tabs (c ∷ a) b t = (t.0, front-tabs a b t.1)

-- no element, or a last one that passes the test
abbrev none_or_last : {A : Type 0} → (A → Bool) → List A → Bool
none_or_last p [] = true
none_or_last p (x ∷ []) = p x
none_or_last p (x ∷ y ∷ ys) = none_or_last p (y ∷ ys)

-- a byte begins in the last column
abbrev pub ends_whole : List Column → Bool
ends_whole cs = none_or_last (λ c. c.part == 0) cs

whole-tail : (c : Column) (cs : List Column) → ends_whole (c ∷ cs) ≡ true → ends_whole cs ≡ true
whole-tail c [] e = refl
whole-tail c (d ∷ cs) e = e

whole-following : (a : List Column) (e : Column) (b : List Column) → (e.part == 0) ≡ true → ends_whole b ≡ true → ends_whole (a ++ e ∷ b) ≡ true
whole-following [] e [] p w = p
whole-following [] e (d ∷ b) p w = w
whole-following (c ∷ []) e b p w = whole-following [] e b p w
whole-following (c ∷ (d ∷ a)) e b p w = whole-following (d ∷ a) e b p w

whole-some : (c : Column) (cs : List Column) → ends_whole (c ∷ cs) ≡ true → (b : ℕ) × (bs : List ℕ) × (bytes_of (c ∷ cs) ≡ b ∷ bs)
whole-some c [] e = (c.byte, [], ap (λ z. if z then c.byte ∷ [] else []) e)
whole-some c (d ∷ cs) e = go (c.part == 0) (whole-some d cs e)
  where
    go : (z : Bool) → (b : ℕ) × (bs : List ℕ) × (bytes_of (d ∷ cs) ≡ b ∷ bs) → (b : ℕ) × (bs : List ℕ) × ((if z then c.byte ∷ bytes_of (d ∷ cs) else bytes_of (d ∷ cs)) ≡ b ∷ bs)
    go true w = (c.byte, bytes_of (d ∷ cs), refl)
    go false w = w

-- ## Braces

closes-whole : (cs : List Column) → AreTabs cs → ends_whole cs ≡ true → closes (λ c. c.byte) cs ≡ closes (λ b. b) (bytes_of cs)
closes-whole [] t e = refl
closes-whole (c ∷ []) t e = sym (ap (λ z. closes (λ b. b) (if z then c.byte ∷ [] else [])) e)
closes-whole (c ∷ (d ∷ cs)) t e = go (c.part == 0) refl (whole-some d cs e) (closes-whole (d ∷ cs) t.1 e)
  where
    go : (z : Bool) → (c.part == 0) ≡ z → (b : ℕ) × (bs : List ℕ) × (bytes_of (d ∷ cs) ≡ b ∷ bs) → closes (λ x. x.byte) (d ∷ cs) ≡ closes (λ b. b) (bytes_of (d ∷ cs))
        → (not (is_brace (λ x. x.byte) c) && closes (λ x. x.byte) (d ∷ cs)) ≡ closes (λ b. b) (if z then c.byte ∷ bytes_of (d ∷ cs) else bytes_of (d ∷ cs))
    go true p w ih = ap (λ z. not (is_brace (λ b. b) c.byte) && z) (ih ∙ ap (closes (λ b. b)) w.2) ∙ sym (ap (λ l. closes (λ b. b) (c.byte ∷ l)) w.2)
    go false p w ih = ap (λ b. not ((b == 123) || (b == 125)) && closes (λ x. x.byte) (d ∷ cs)) (t.0 p) ∙ ih

pub before-whole : (cs : List Column) → AreTabs cs → ends_whole cs ≡ true → bytes_of (before_braces (λ c. c.byte) cs) ≡ before_braces (λ b. b) (bytes_of cs)
before-whole [] t w = refl
before-whole (c ∷ cs) t w = go (c.part == 0) refl (closes-whole cs t.1 (whole-tail c cs w)) (before-whole cs t.1 (whole-tail c cs w))
  where
    left : List Column
    left = before_braces (λ x. x.byte) cs

    by : (y : Bool) → (c.part == 0) ≡ true → bytes_of left ≡ before_braces (λ b. b) (bytes_of cs) → bytes_of (if y then [] else c ∷ left) ≡ (if y then [] else c.byte ∷ before_braces (λ b. b) (bytes_of cs))
    by true e ih = refl
    by false e ih = ap (λ z. if z then c.byte ∷ bytes_of left else bytes_of left) e ∙ ap (λ l. c.byte ∷ l) ih

    whole : (z : Bool) → (c.part == 0) ≡ z → before_braces (λ b. b) (bytes_of (c ∷ cs)) ≡ before_braces (λ b. b) (if z then c.byte ∷ bytes_of cs else bytes_of cs)
    whole z e = ap (λ y. before_braces (λ b. b) (if y then c.byte ∷ bytes_of cs else bytes_of cs)) e

    go : (z : Bool) → (c.part == 0) ≡ z → closes (λ x. x.byte) cs ≡ closes (λ b. b) (bytes_of cs) → bytes_of left ≡ before_braces (λ b. b) (bytes_of cs) →
        bytes_of (before_braces (λ x. x.byte) (c ∷ cs)) ≡ before_braces (λ b. b) (bytes_of (c ∷ cs))
    go true e k ih = ap (λ z. bytes_of (if (c.byte == 123) && z then [] else c ∷ left)) k ∙ by _ e ih ∙ sym (whole true e)
    go false e k ih =
        ap (λ b. bytes_of (if (b == 123) && closes (λ x. x.byte) cs then [] else c ∷ left)) (t.0 e)
        ∙ ap (λ z. if z then c.byte ∷ bytes_of left else bytes_of left) e ∙ ih ∙ sym (whole false e)

last-whole : (cs : List Column) → ends_whole cs ≡ true → bytes_of (without_last cs) ≡ without_last (bytes_of cs)
last-whole [] e = refl
last-whole (c ∷ []) e = sym (ap (λ z. without_last (if z then c.byte ∷ [] else [])) e)
last-whole (c ∷ (d ∷ cs)) e = go (c.part == 0) (whole-some d cs e) (last-whole (d ∷ cs) e)
  where
    go : (z : Bool) → (b : ℕ) × (bs : List ℕ) × (bytes_of (d ∷ cs) ≡ b ∷ bs) → bytes_of (without_last (d ∷ cs)) ≡ without_last (bytes_of (d ∷ cs)) →
        (if z then c.byte ∷ bytes_of (without_last (d ∷ cs)) else bytes_of (without_last (d ∷ cs))) ≡ without_last (if z then c.byte ∷ bytes_of (d ∷ cs) else bytes_of (d ∷ cs))
    go true w ih = ap (λ l. c.byte ∷ l) (ih ∙ ap without_last w.2) ∙ sym (ap (λ l. without_last (c.byte ∷ l)) w.2)
    go false w ih = ih

pub inside-whole : (cs : List Column) → AreTabs cs → ends_whole cs ≡ true → bytes_of (inside_braces (λ c. c.byte) cs) ≡ inside_braces (λ b. b) (bytes_of cs)
inside-whole [] t w = refl
inside-whole (c ∷ cs) t w = go (c.part == 0) refl (closes-whole cs t.1 (whole-tail c cs w)) (inside-whole cs t.1 (whole-tail c cs w))
  where
    left : List Column
    left = inside_braces (λ x. x.byte) cs

    whole : (z : Bool) → (c.part == 0) ≡ z → inside_braces (λ b. b) (bytes_of (c ∷ cs)) ≡ inside_braces (λ b. b) (if z then c.byte ∷ bytes_of cs else bytes_of cs)
    whole z e = ap (λ y. inside_braces (λ b. b) (if y then c.byte ∷ bytes_of cs else bytes_of cs)) e

    by : (y : Bool) → bytes_of left ≡ inside_braces (λ b. b) (bytes_of cs) → bytes_of (if y then without_last cs else left) ≡ (if y then without_last (bytes_of cs) else inside_braces (λ b. b) (bytes_of cs))
    by true ih = last-whole cs (whole-tail c cs w)
    by false ih = ih

    go : (z : Bool) → (c.part == 0) ≡ z → closes (λ x. x.byte) cs ≡ closes (λ b. b) (bytes_of cs) → bytes_of left ≡ inside_braces (λ b. b) (bytes_of cs) →
        bytes_of (inside_braces (λ x. x.byte) (c ∷ cs)) ≡ inside_braces (λ b. b) (bytes_of (c ∷ cs))
    go true e k ih = ap (λ z. bytes_of (if (c.byte == 123) && z then without_last cs else left)) k ∙ by ((c.byte == 123) && closes (λ b. b) (bytes_of cs)) ih ∙ sym (whole true e)
    go false e k ih = ap (λ b. bytes_of (if (b == 123) && closes (λ x. x.byte) cs then without_last cs else left)) (t.0 e) ∙ ih ∙ sym (whole false e)

less-suc : (a b : ℕ) → nat_lt (suc a) (suc b) ≡ nat_lt a b
less-suc a b = grind (arith)

less-zero : (b : ℕ) → nat_lt 0 (suc b) ≡ true
less-zero b = grind (arith)

-- the bytes end in braces
abbrev pub ends_in_bytes : List ℕ → Bool
ends_in_bytes bs = nat_lt (length (before_braces (λ b. b) bs)) (length bs)

pub ends-whole : (cs : List Column) → AreTabs cs → ends_whole cs ≡ true → ends_in_braces cs ≡ ends_in_bytes (bytes_of cs)
ends-whole [] t w = refl
ends-whole (c ∷ cs) t w = go (c.part == 0) refl (closes-whole cs t.1 (whole-tail c cs w)) (ends-whole cs t.1 (whole-tail c cs w))
  where
    columns : Bool → Bool
    columns z = nat_lt (length (if z then [] else c ∷ before_braces (λ x. x.byte) cs)) (suc (length cs))

    bytes : Bool → Bool
    bytes z = nat_lt (length (if z then [] else c.byte ∷ before_braces (λ b. b) (bytes_of cs))) (suc (length (bytes_of cs)))

    by : (z : Bool) → ends_in_braces cs ≡ ends_in_bytes (bytes_of cs) → columns z ≡ bytes z
    by true ih = less-zero (length cs) ∙ sym (less-zero (length (bytes_of cs)))
    by false ih = less-suc (length (before_braces (λ x. x.byte) cs)) (length cs) ∙ ih ∙ sym (less-suc (length (before_braces (λ b. b) (bytes_of cs))) (length (bytes_of cs)))

    whole : (z : Bool) → (c.part == 0) ≡ z → ends_in_bytes (bytes_of (c ∷ cs)) ≡ ends_in_bytes (if z then c.byte ∷ bytes_of cs else bytes_of cs)
    whole z e = ap (λ y. ends_in_bytes (if y then c.byte ∷ bytes_of cs else bytes_of cs)) e

    go : (z : Bool) → (c.part == 0) ≡ z → closes (λ x. x.byte) cs ≡ closes (λ b. b) (bytes_of cs) → ends_in_braces cs ≡ ends_in_bytes (bytes_of cs) → ends_in_braces (c ∷ cs) ≡ ends_in_bytes (bytes_of (c ∷ cs))
    go true e k ih = ap (λ z. columns ((c.byte == 123) && z)) k ∙ by ((c.byte == 123) && closes (λ b. b) (bytes_of cs)) ih ∙ sym (whole true e)
    go false e k ih =
        ap (λ b. columns ((b == 123) && closes (λ x. x.byte) cs)) (t.0 e)
        ∙ less-suc (length (before_braces (λ x. x.byte) cs)) (length cs) ∙ ih ∙ sym (whole false e)

-- ## White space at the end

module _ (q : ℕ → Bool) where
  pub drop_end-whole : (cs : List Column) → q 9 ≡ true → AreTabs cs → ends_whole (drop_end (λ c. q c.byte) cs) ≡ true
  drop_end-whole [] n t = refl
  drop_end-whole (c ∷ cs) n t = go (drop_end (λ x. q x.byte) cs) (q c.byte) refl (drop_end-whole cs n t.1)
    where
      one : (p : Bool) → (c.part == 0) ≡ p → q c.byte ≡ false → p ≡ true
      one true e f = refl
      one false e f = absurd (true≢false (sym n ∙ sym (ap q (t.0 e)) ∙ f))

      go : (ds : List Column) (z : Bool) → q c.byte ≡ z → ends_whole ds ≡ true → ends_whole (put_before z c ds) ≡ true
      go [] true f w = refl
      go [] false f w = one (c.part == 0) refl f
      go (d ∷ ds) z f w = w

  pub white-bytes : (cs : List Column) → q 9 ≡ true → AreTabs cs → bytes_of (drop_end (λ c. q c.byte) cs) ≡ drop_end q (bytes_of cs)
  white-bytes [] n t = refl
  white-bytes (c ∷ cs) n t = go (drop_end (λ x. q x.byte) cs) (c.part == 0) refl (drop_end-whole cs n t.1) (white-bytes cs n t.1)
    where
      front : (z : Bool) (ds : List Column) → (c.part == 0) ≡ true → ends_whole ds ≡ true → bytes_of (put_before z c ds) ≡ put_before z c.byte (bytes_of ds)
      front true [] e w = refl
      front false [] e w = ap (λ x. if x then c.byte ∷ [] else []) e
      front z (d ∷ ds) e w =
          let s = whole-some d ds w in
          ap (λ x. if x then c.byte ∷ bytes_of (d ∷ ds) else bytes_of (d ∷ ds)) e ∙ ap (λ l. c.byte ∷ l) s.2 ∙ sym (ap (put_before z c.byte) s.2)

      skip : (z : Bool) (ds : List Column) → (c.part == 0) ≡ false → z ≡ true → bytes_of (put_before z c ds) ≡ bytes_of ds
      skip true [] e f = refl
      skip false [] e f = absurd (true≢false (sym f))
      skip z (d ∷ ds) e f = ap (λ x. if x then c.byte ∷ bytes_of (d ∷ ds) else bytes_of (d ∷ ds)) e

      go : (ds : List Column) (z : Bool) → (c.part == 0) ≡ z → ends_whole ds ≡ true → bytes_of ds ≡ drop_end q (bytes_of cs) → bytes_of (put_before (q c.byte) c ds) ≡ drop_end q (if z then c.byte ∷ bytes_of cs else bytes_of cs)
      go ds true e w ih = front (q c.byte) ds e w ∙ ap (put_before (q c.byte) c.byte) ih
      go ds false e w ih = skip (q c.byte) ds e (ap q (t.0 e) ∙ n) ∙ ih

  -- an element that does not pass is kept
  end-following : (xs : List ℕ) (b : ℕ) (ys : List ℕ) → q b ≡ false → drop_end q (xs ++ b ∷ ys) ≡ xs ++ b ∷ drop_end q ys
  end-following [] b ys f = go (q b) (drop_end q ys) f
    where
      go : (z : Bool) (ds : List ℕ) → z ≡ false → put_before z b ds ≡ b ∷ ds
      go true ds e = absurd (true≢false e)
      go false [] e = refl
      go false (d ∷ ds) e = refl
  end-following (x ∷ xs) b ys f = ap (put_before (q x) x) (end-following xs b ys f) ∙ go xs
    where
      go : (zs : List ℕ) → put_before (q x) x (zs ++ b ∷ drop_end q ys) ≡ x ∷ (zs ++ b ∷ drop_end q ys)
      go [] = refl
      go (z ∷ zs) = refl

-- ## Lines

pub join-bytes : (a b : List Column) → bytes_of (a ++ b) ≡ bytes_of a ++ bytes_of b
join-bytes [] b = refl
join-bytes (c ∷ a) b = go (c.part == 0) (join-bytes a b)
  where
    go : (z : Bool) → bytes_of (a ++ b) ≡ bytes_of a ++ bytes_of b → (if z then c.byte ∷ bytes_of (a ++ b) else bytes_of (a ++ b)) ≡ (if z then c.byte ∷ bytes_of a else bytes_of a) ++ bytes_of b
    go true ih = ap (λ l. c.byte ∷ l) ih
    go false ih = ih

pub content-following : (r : Row) (rs : List Row) (last : Row) → content_of (r ∷ (rs ++ last ∷ [])) ≡ r.columns ++ line_end_column r ∷ content_of (rs ++ last ∷ [])
content-following r [] last = refl
content-following r (s ∷ rs) last = refl

pub content-tabs : (before : List LineRest) (last : LineRest) → AreTabs (content_columns before last)
content-tabs [] last =
    let cs = (row_of last).columns in
    let cut = drop_end-cut (λ c. is_blank_byte c.byte) cs in
    front-tabs (drop_end (λ c. is_blank_byte c.byte) cs) cut.following (subst AreTabs cut.is (tabbed-tabs cs (rest-tabbed last)))
content-tabs (rest ∷ lines) last =
    subst AreTabs (sym (content-following (row_of rest) (map row_of lines) (row_of last)))
    (join-tabs (row_of rest).columns (line_end_column (row_of rest) ∷ content_columns lines last) (tabbed-tabs (row_of rest).columns (rest-tabbed rest)) ((λ e. absurd (true≢false e)), content-tabs lines last))

pub content-whole : (before : List LineRest) (last : LineRest) → ends_whole (content_columns before last) ≡ true
content-whole [] last = drop_end-whole is_blank_byte (row_of last).columns refl (tabbed-tabs (row_of last).columns (rest-tabbed last))
content-whole (rest ∷ lines) last =
    ap ends_whole (content-following (row_of rest) (map row_of lines) (row_of last))
    ∙ whole-following (row_of rest).columns (line_end_column (row_of rest)) (content_columns lines last) refl (content-whole lines last)

-- the content's bytes are those that were gathered, without the blanks at their end
pub content-bytes : (before : List LineRest) (last : LineRest) → bytes_of (content_columns before last) ≡ drop_end is_blank_byte (gathered_bytes (map row_of before) (row_of last))
content-bytes [] last = drop_end-bytes is_blank_byte (row_of last).columns (rest-tabbed last)
content-bytes (rest ∷ lines) last =
    ap bytes_of (content-following (row_of rest) (map row_of lines) (row_of last))
    ∙ join-bytes (row_of rest).columns (line_end_column (row_of rest) ∷ content_columns lines last)
    ∙ ap (λ l. bytes_of (row_of rest).columns ++ 10 ∷ l) (content-bytes lines last)
    ∙ sym (end-following is_blank_byte (bytes_of (row_of rest).columns) 10 (gathered_bytes (map row_of lines) (row_of last)) refl)
