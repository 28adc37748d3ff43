-- The markers at the beginning of a line, and the line after them.
use Rattle.std.proofs.Common.{◌≡◌, ◌≢◌, ◌⊎◌, inl, inr, ⊎_elim, ℕ, zero, suc, ◌+◌, ◌<◌, ◌≤◌, min, Bool, true, false, ◌==◌, ◌&&◌, ◌||◌, not, List, [], ◌∷◌, length, drop, get_or, Option, Some, None, refl, sym, ap, ◌∙◌, arith, eqb-true, ne_eqb, true≢false}
use Rattle.std.specs.Prelude.{if◌then◌else◌, take_while, nat_le, option_map, unwrap_or}
use Rattle.std.specs.List.{prefix_len}
use Rattle.std.proofs.lemmas.Bool.{le-leb, lt-leb}
use Rattle.std.proofs.lemmas.List.{drop-drop}
use Rattle.std.proofs.lemmas.List.Folds.{length-prefix_len}
use Rattle.std.proofs.lemmas.List.Sums.{take_while-cons}
use Rattle.cmark_grammar.specs.Columns.{Column, expand, is_blank, is_blank_byte, indent, without_indent}
use Rattle.cmark_grammar.specs.Rows.{Row, without, indent_of, words_of, is_bare}
use Rattle.cmark_grammar.specs.Leaves.{are_blank, is_parted, is_thematic_break}
use Rattle.cmark_grammar.specs.Containers.{Container, Item, Marker, marker_of, padding, width_with, item_with, item_of, begins_with, is_block_quote, one_blank, block_quote_width, enter}
use Rattle.cmark_grammar.specs.Alerts.{alert_of}
use Rattle.cmark_grammar.specs.TaskMarkers.{task_of}
use Rattle.cmark_scan_lines.proofs.ColumnSteps.{drop-prefix}
use Rattle.cmark_scan_lines.specs.LineMarkers.{is_flush, flush, begins_block_quote, after_block_quote, item_in, entered, definition_in, after_definition}
use Rattle.cmark_scan_lines.specs.Markers.{parted, begun}

blank_cases : (b : ℕ) → is_blank_byte b ≡ true → (b ≡ 32) ⊎ (b ≡ 9)
blank_cases b e = go (b == 32) refl e
  where
    go : (z : Bool) → (b == 32) ≡ z → (z || (b == 9)) ≡ true → (b ≡ 32) ⊎ (b ≡ 9)
    go true f e = inl (eqb-true b 32 f)
    go false f e = inr (eqb-true b 9 e)

-- a function of bytes finds nothing if a blank comes first
pub parted_none : {A : Type 0} (f : List ℕ → Option A) → f [] ≡ None → ((bs : List ℕ) → f (32 ∷ bs) ≡ None) → ((bs : List ℕ) → f (9 ∷ bs) ≡ None) → (bs : List ℕ) → is_parted bs ≡ true → f bs ≡ None
parted_none f none space tab [] e = none
parted_none f none space tab (b ∷ bs) e = ⊎_elim (λ q. ap (λ c. f (c ∷ bs)) q ∙ space bs) (λ q. ap (λ c. f (c ∷ bs)) q ∙ tab bs) (blank_cases b e)

either-none : (z : Bool) → ◌≡◌ {A = Option Bool} (if z then None else None) None
either-none true = refl
either-none false = refl

pub alert-none : (bs : List ℕ) → is_parted bs ≡ true → alert_of bs ≡ None
alert-none = parted_none alert_of refl (λ bs. refl) (λ bs. refl)

pub task-none : (bs : List ℕ) → is_parted bs ≡ true → task_of bs ≡ None
task-none = parted_none task_of refl (λ bs. either-none _) (λ bs. either-none _)

abbrev pub begun_in : List ℕ → Option Marker
begun_in bs = begun (marker_of bs) bs

pub marker-none : (bs : List ℕ) → is_parted bs ≡ true → begun_in bs ≡ None
marker-none = parted_none begun_in refl (λ bs. refl) (λ bs. refl)

-- a marker begins no item if the line is a thematic break
pub begun-break : (bs : List ℕ) → true ≡ is_thematic_break bs → None ≡ begun_in bs
begun-break bs e = go (marker_of bs)
  where
    go : (o : Option Marker) → None ≡ begun o bs
    go None = refl
    go (Some m) = sym (ap (λ t. if is_parted (drop m.size bs) && not t then Some m else None) (sym e) ∙ off (is_parted (drop m.size bs)))
      where
        off : (z : Bool) → (if z && false then Some m else None) ≡ None
        off true = refl
        off false = refl

pub begun-parted : (bs : List ℕ) → false ≡ is_thematic_break bs → parted (marker_of bs) bs ≡ begun_in bs
begun-parted bs e = go (marker_of bs)
  where
    go : (o : Option Marker) → parted o bs ≡ begun o bs
    go None = refl
    go (Some m) = on (is_parted (drop m.size bs)) ∙ ap (λ t. if is_parted (drop m.size bs) && not t then Some m else None) e
      where
        on : (z : Bool) → (if z then Some m else None) ≡ (if z && true then Some m else None)
        on true = refl
        on false = refl

pub begun-none : (bs : List ℕ) → None ≡ parted (marker_of bs) bs → None ≡ begun_in bs
begun-none bs e = go (marker_of bs) e
  where
    go : (o : Option Marker) → None ≡ parted o bs → None ≡ begun o bs
    go None e = refl
    go (Some m) e = test (is_parted (drop m.size bs)) e
      where
        test : (z : Bool) → None ≡ (if z then Some m else None) → None ≡ (if z && not (is_thematic_break bs) then Some m else None)
        test true e = cc
        test false e = refl

-- a marker has a byte
pub marker-some : (bs : List ℕ) (m : Marker) → Some m ≡ parted (marker_of bs) bs → 0 < length bs
marker-some [] m e = let q : Some m ≡ None = e in absurd (cc)
marker-some (b ∷ bs) m e = omega arith

-- no marker begins with a blank
pub marker-front : (bs : List ℕ) (m : Marker) → Some m ≡ parted (marker_of bs) bs → is_blank_byte (get_or bs 0 0) ≡ false
marker-front [] m e = refl
marker-front (b ∷ bs) m e = go (is_blank_byte b) refl
  where
    go : (z : Bool) → is_blank_byte b ≡ z → z ≡ false
    go true f = let none = parted_none (λ cs. parted (marker_of cs) cs) refl (λ cs. refl) (λ cs. refl) (b ∷ bs) f in let q : Some m ≡ None = e ∙ none in absurd (cc)
    go false f = refl

-- the item that a marker at the beginning begins
abbrev pub item_at : Row → Marker → Container
item_at r m = Item m.delimiter m.number (m.size + padding (drop m.size r.columns)) None

module _ (r : Row) (bs : List ℕ) (words : is_flush r ≡ true → words_of r ≡ bs) (blank : is_flush r ≡ false → is_parted bs ≡ true) where
  pub found-is : {A : Type 0} (f : List ℕ → Option A) → ((cs : List ℕ) → is_parted cs ≡ true → f cs ≡ None) → flush r (f (words_of r)) ≡ f bs
  found-is f none = go (is_flush r) refl
    where
      go : (z : Bool) → is_flush r ≡ z → (if z then f (words_of r) else None) ≡ f bs
      go true e = ap f (words e)
      go false e = sym (none bs (blank e))

  pub begins-is : (b : ℕ) → is_blank_byte b ≡ false → (is_flush r && begins_with b (words_of r)) ≡ begins_with b bs
  begins-is b no_blank = go (is_flush r) refl
    where
      other : (cs : List ℕ) → is_parted cs ≡ true → false ≡ begins_with b cs
      other [] e = refl
      other (c ∷ cs) e = sym (ne_eqb c b (λ same. true≢false (sym e ∙ ap is_blank_byte same ∙ no_blank)))

      go : (z : Bool) → is_flush r ≡ z → (z && begins_with b (words_of r)) ≡ begins_with b bs
      go true e = ap (begins_with b) (words e)
      go false e = other bs (blank e)

  pub item-is : item_in r ≡ option_map (item_at r) (begun_in bs)
  item-is = go (is_flush r) refl
    where
      width-is : (size : ℕ) → is_flush r ≡ true → width_with size r ≡ size + padding (drop size r.columns)
      width-is size e =
          let flat = eqb-true (indent_of r) 0 e in
          ap (λ n. n + (size + padding (drop (n + size) r.columns))) flat ∙ ap (λ n. 0 + (size + padding (drop n r.columns))) (let z : 0 + size ≡ size = omega arith in z)
          ∙ (let z : 0 + (size + padding (drop size r.columns)) ≡ size + padding (drop size r.columns) = omega arith in z)

      by : is_flush r ≡ true → (o : Option Marker) → item_with r o ≡ option_map (item_at r) (begun o (words_of r))
      by e None = refl
      by e (Some m) = test (is_parted (drop m.size (words_of r)) && not (is_thematic_break (words_of r)))
        where
          test : (z : Bool) → (if z then Some (Item m.delimiter m.number (width_with m.size r) None) else None) ≡ option_map (item_at r) (if z then Some m else None)
          test true = ap (λ w. Some (Item m.delimiter m.number w None)) (width-is m.size e)
          test false = refl

      go : (z : Bool) → is_flush r ≡ z → (if z then item_of r else None) ≡ option_map (item_at r) (begun_in bs)
      go true e = by e (marker_of (words_of r)) ∙ ap (λ l. option_map (item_at r) (begun_in l)) (words e)
      go false e = ap (option_map (item_at r)) (sym (marker-none bs (blank e)))

-- the line after a container's marker
pub entered-is : (r r1 r2 : Row) (delimiter : ℕ) (number : Option ℕ) (size p : ℕ) → r1 ≡ without size r → p ≡ padding r1.columns → r2 ≡ without p r1
    → r2 ≡ entered (Some (Item delimiter number (size + padding (drop size r.columns)) None)) r
unfolding enter
entered-is r r1 r2 delimiter number size p first pad second =
    second ∙ ap (without p) first ∙ ap (λ cs. record r { columns = cs }) (drop-drop p size r.columns) ∙ ap (λ n. without (size + n) r) (pad ∙ ap (λ x. padding x.columns) first)

-- block quotes
pub block_quote-begins : (r : Row) → begins_block_quote r ≡ (is_flush r && begins_with 62 (words_of r))
block_quote-begins r = go (is_flush r) refl
  where
    go : (z : Bool) → is_flush r ≡ z → (z && is_block_quote r) ≡ (z && begins_with 62 (words_of r))
    go true e = ap (λ t. t && begins_with 62 (words_of r)) (ap (λ n. nat_le n 3) (eqb-true (indent_of r) 0 e))
    go false e = refl

pub one_blank-is : (cs : List Column) → min 1 (indent cs) ≡ one_blank cs
one_blank-is [] = refl
one_blank-is (c ∷ cs) = ap (λ l. min 1 (length l)) (take_while-cons is_blank c cs) ∙ go (is_blank c)
  where
    go : (z : Bool) → min 1 (length (if z then c ∷ take_while is_blank cs else [])) ≡ (if z then 1 else 0)
    go true = omega arith
    go false = refl

flat-of : (r : Row) → begins_block_quote r ≡ true → indent_of r ≡ 0
flat-of r e = go (is_flush r) refl e
  where
    go : (z : Bool) → is_flush r ≡ z → (z && is_block_quote r) ≡ true → indent_of r ≡ 0
    go true f e = eqb-true (indent_of r) 0 f
    go false f e = absurd (true≢false (sym e))

pub block_quote-following : (r r1 r2 : Row) (k : ℕ) → true ≡ begins_block_quote r → r1 ≡ without 1 r → k ≡ min 1 (indent r1.columns) → r2 ≡ without k r1 → r2 ≡ after_block_quote r
block_quote-following r r1 r2 k begins first count second =
    second ∙ ap (without k) first ∙ ap (λ cs. record r { columns = cs }) (drop-drop k 1 r.columns)
    ∙ ap (λ n. without n r) (ap (λ n. 1 + n) (count ∙ one_blank-is r1.columns ∙ ap (λ x. one_blank x.columns) first) ∙ width)
    ∙ ap (λ t. if t then without (block_quote_width r) r else r) begins
  where
    width : 1 + one_blank (drop 1 r.columns) ≡ block_quote_width r
    width = (let e : 1 + one_blank (drop 1 r.columns) ≡ suc (0 + one_blank (drop 1 r.columns)) = omega arith in e) ∙ ap (λ n. suc (n + one_blank (drop (suc n) r.columns))) (sym (flat-of r (sym begins)))

-- definitions
pub definition-none : (r : Row) → false ≡ (is_flush r && begins_with 58 (words_of r)) → definition_in r ≡ None
definition-none r e = go (is_flush r) (begins_with 58 (words_of r)) e
  where
    go : (z t : Bool) → false ≡ (z && t) → (if z then (if t then Some (width_with 1 r) else None) else None) ≡ None
    go true true e = absurd (true≢false (sym e))
    go true false e = refl
    go false t e = refl

pub definition-some : (r : Row) → true ≡ (is_flush r && begins_with 58 (words_of r)) → definition_in r ≡ Some (1 + padding (drop 1 r.columns))
definition-some r e = go (is_flush r) refl (begins_with 58 (words_of r)) e
  where
    go : (z : Bool) → is_flush r ≡ z → (t : Bool) → true ≡ (z && t) → (if z then (if t then Some (width_with 1 r) else None) else None) ≡ Some (1 + padding (drop 1 r.columns))
    go true f true e =
        let flat = eqb-true (indent_of r) 0 f in
        ap Some (ap (λ n. n + (1 + padding (drop (n + 1) r.columns))) flat ∙ (let z : 0 + (1 + padding (drop 1 r.columns)) ≡ 1 + padding (drop 1 r.columns) = omega arith in z))
    go true f false e = absurd (true≢false e)
    go false f t e = absurd (true≢false e)

pub definition-following : (r r1 r2 : Row) (p : ℕ) → definition_in r ≡ Some (1 + padding (drop 1 r.columns)) → r1 ≡ without 1 r → p ≡ padding r1.columns → r2 ≡ without p r1 → r2 ≡ after_definition r
definition-following r r1 r2 p is first pad second =
    second ∙ ap (without p) first ∙ ap (λ cs. record r { columns = cs }) (drop-drop p 1 r.columns) ∙ ap (λ n. without (1 + n) r) (pad ∙ ap (λ x. padding x.columns) first)
    ∙ ap (λ o. without (unwrap_or o 0) r) (sym is)

-- the blanks after a marker that count
pub pad-wide : (cs : List Column) (n : ℕ) → n ≡ min 5 (indent cs) → n ≡ 5 → 1 ≡ padding cs
pad-wide cs n is five = sym (ap (λ t. if t then 1 else indent cs) (ap (λ t. is_bare (without_indent cs) || t) (le-leb 5 (indent cs) (omega arith)) ∙ or-true _))
  where
    or-true : (z : Bool) → (z || true) ≡ true
    or-true true = refl
    or-true false = refl

pub pad-bare : (cs : List Column) (n : ℕ) → n ≡ min 5 (indent cs) → n ≢ 5 → is_bare (drop n cs) ≡ true → 1 ≡ padding cs
pad-bare cs n is few bare =
    let same : n ≡ indent cs = omega arith in
    sym (ap (λ t. if t || nat_le 5 (indent cs) then 1 else indent cs) (ap (λ k. is_bare (drop k cs)) (sym same) ∙ bare))

pub pad-some : (cs : List Column) (n : ℕ) → n ≡ min 5 (indent cs) → n ≢ 5 → is_bare (drop n cs) ≡ false → n ≡ padding cs
pad-some cs n is few some =
    let same : n ≡ indent cs = omega arith in
    same ∙ sym (ap (λ t. if t || nat_le 5 (indent cs) then 1 else indent cs) (ap (λ k. is_bare (drop k cs)) (sym same) ∙ some) ∙ ap (λ t. if t then 1 else indent cs) (lt-leb 5 (indent cs) (omega arith)))

-- if one column counts, one is taken, if any is left
pub pad-one : (cs : List Column) (n : ℕ) → n ≡ min 5 (indent cs) → (n ≡ 5) ⊎ (is_bare (drop n cs) ≡ true) → drop (min 1 (indent cs)) cs ≡ drop 1 cs
pad-one cs zero is why = ⊎_elim (λ e. absurd (omega arith)) (λ bare. none cs bare) why
  where
    none : (ds : List Column) → is_bare ds ≡ true → drop (min 1 (indent ds)) ds ≡ drop 1 ds
    none [] e = refl
    none (d ∷ ds) e = absurd (true≢false (sym e))
pad-one cs (suc n) is why = ap (λ k. drop k cs) (let e : min 1 (indent cs) ≡ 1 = omega arith in e)

-- after blank bytes nothing is left
pub blank-rest : (column at : ℕ) (bs : List ℕ) → are_blank bs ≡ true → without_indent (expand column at bs) ≡ []
blank-rest column at bs e =
    let h = drop-prefix is_blank_byte column at bs in
    ap (λ n. drop n (expand column at bs)) (length-prefix_len is_blank (expand column at bs)) ∙ h.1 ∙ ap (expand h.0 (at + prefix_len is_blank_byte bs)) (none bs e)
  where
    none : (bs : List ℕ) → are_blank bs ≡ true → drop (prefix_len is_blank_byte bs) bs ≡ []
    none [] e = refl
    none (b ∷ bs) e = go (is_blank_byte b) e (none bs)
      where
        go : (z : Bool) → (z && are_blank bs) ≡ true → (are_blank bs ≡ true → drop (prefix_len is_blank_byte bs) bs ≡ []) → drop (if z then 1 + prefix_len is_blank_byte bs else 0) (b ∷ bs) ≡ []
        go true e ih = ap (λ n. drop n (b ∷ bs)) (let s : 1 + prefix_len is_blank_byte bs ≡ suc (prefix_len is_blank_byte bs) = omega arith in s) ∙ ih e
        go false e ih = absurd (true≢false (sym e))

pub begins-none : (b : ℕ) (bs : List ℕ) → length bs < 1 → false ≡ begins_with b bs
begins-none b [] lt = refl
begins-none b (c ∷ cs) lt = absurd (omega arith)

pub begins-some : (b : ℕ) (bs : List ℕ) → 1 ≤ length bs → (get_or bs 0 0 == b) ≡ begins_with b bs
begins-some b [] some = absurd (omega arith)
begins-some b (c ∷ cs) some = refl
