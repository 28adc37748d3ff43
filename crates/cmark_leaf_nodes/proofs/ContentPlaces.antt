-- The place in the text at which the attributes of a setext heading begin, by the number of bytes of its content before them.
use Rattle.std.proofs.Common.{◌≡◌, ◌⊎◌, inl, inr, ℕ, zero, suc, ◌+◌, ◌-◌, ◌<◌, ◌≤◌, Bool, true, false, ◌==◌, List, [], ◌∷◌, ◌++◌, append_assoc, append-nil, length, length-append, drop, get_or, map, refl, sym, ap, ◌∙◌, subst, arith}
use Rattle.std.specs.Prelude.{if◌then◌else◌, nat_le, nat_lt}
use Rattle.cmark_grammar.specs.Attributes.{before_braces}
use Rattle.cmark_grammar.specs.Columns.{Column, drop_end, bytes_of}
use Rattle.cmark_grammar.specs.Rows.{Row, place, first_place, begin_of}
use Rattle.cmark_grammar.specs.Tags.{is_space_byte}
use Rattle.cmark_grammar.specs.SetextAttributes.{line_end_column, ends_in_braces, before_attributes, attributes_place}
use Rattle.cmark_block_model.proofs.RowPlaces.{Runs}
use Rattle.cmark_line_rules.proofs.RestSteps.{rest-runs, bytes-content_end}
use Rattle.cmark_line_rules.specs.Rests.{row_of}
use Rattle.cmark_line_rules.specs.declared.line_rest.LineRest.{LineRest}
use Rattle.cmark_leaf_nodes.specs.Contents.{content_columns, gathered_bytes, place_in}
use Rattle.cmark_leaf_nodes.proofs.BraceSteps.{before-cut}
use Rattle.cmark_leaf_nodes.proofs.ColumnCuts.{Cut, drop_end-cut, blanks-cut}
use Rattle.cmark_leaf_nodes.proofs.ReadSteps.{drop-get}
use Rattle.cmark_leaf_nodes.proofs.ContentSteps.{AreTabs, front-tabs, before-whole, white-bytes, join-bytes, content-following, content-tabs, content-whole}

le-true : (a b : ℕ) → a ≤ b → nat_le a b ≡ true
le-true a b l = grind (arith)

le-false : (a b : ℕ) → b < a → nat_le a b ≡ false
le-false a b l = grind (arith)

-- a column is at the end of the bytes before it
runs-place : (from : ℕ) (left : List Column) (c : Column) (following : List Column) (to : ℕ) → Runs from (left ++ c ∷ following) to → from + length (bytes_of left) ≡ place c
runs-place from [] c following to h = let e : place c ≡ from = h.0 in omega (arith, e)
runs-place from (d ∷ left) c following to h = go (d.part == 0) refl (runs-place (suc d.at) left c following to h.1)
  where
    go : (z : Bool) → (d.part == 0) ≡ z → suc d.at + length (bytes_of left) ≡ place c → from + length (if z then d.byte ∷ bytes_of left else bytes_of left) ≡ place c
    go true e ih = let p : d.at ≡ from = sym (ap (λ z. if z then d.at else suc d.at) e) ∙ h.0 in omega (arith, ih, p)
    go false e ih = let p : suc d.at ≡ from = sym (ap (λ z. if z then d.at else suc d.at) e) ∙ h.0 in omega (arith, ih, p)

-- the rest of a concatenation begins in the first list or in the second
split : {A : Type 0} (a b left following : List A) (c : A) → a ++ b ≡ left ++ c ∷ following → ((e : List A) × (a ≡ left ++ c ∷ e)) ⊎ ((e : List A) × (left ≡ a ++ e) × (b ≡ e ++ c ∷ following))
split [] b left following c e = inr (left, refl, e)
split (x ∷ a) b [] following c e = let h : x ≡ c = (let q : x ∷ (a ++ b) ≡ c ∷ following = e in cc) in inl (a, ap (λ y. y ∷ a) h)
split (x ∷ a) b (y ∷ left) following c e =
    let q : x ∷ (a ++ b) ≡ y ∷ (left ++ c ∷ following) = e in
    let h : x ≡ y = (cc) in
    let t : a ++ b ≡ left ++ c ∷ following = (cc) in
    elim (split a b left following c t) [
      | inl s ↦ inl (s.0, ap (λ z. z ∷ a) h ∙ ap (λ l. y ∷ l) s.1)
      | inr s ↦ inr (s.0, ap (λ z. z ∷ left) (sym h) ∙ ap (λ l. x ∷ l) s.1, s.2)
    ]

-- a place in the first line
in-first : (rest : LineRest) (rs : List Row) (last : Row) (n : ℕ) → n ≤ length (bytes_of (row_of rest).columns) → place_in (row_of rest ∷ rs) last n ≡ begin_of (row_of rest) + n
in-first rest rs last n le =
    let r = row_of rest in
    ap (λ z. if z then begin_of r + n else place_in rs last (n - suc (length (bytes_of r.columns)))) (le-true n (length (bytes_of r.columns)) le)

following-first : (rest : LineRest) (rs : List Row) (last : Row) (n m : ℕ) → n ≡ length (bytes_of (row_of rest).columns) + suc m → place_in (row_of rest ∷ rs) last n ≡ place_in rs last m
following-first rest rs last n m e =
    let r = row_of rest in
    ap (λ z. if z then begin_of r + n else place_in rs last (n - suc (length (bytes_of r.columns)))) (le-false n (length (bytes_of r.columns)) (omega (arith, e)))
    ∙ ap (place_in rs last) (let q : n - suc (length (bytes_of r.columns)) ≡ m = omega (arith, e) in q)

place-at : (before : List LineRest) (last : LineRest) (left : List Column) (c : Column) (following : List Column) → content_columns before last ≡ left ++ c ∷ following
    → place_in (map row_of before) (row_of last) (length (bytes_of left)) ≡ place c
place-at [] last left c following e =
    let r = row_of last in
    let cut = blanks-cut r.columns in
    let is : r.columns ≡ left ++ c ∷ (following ++ cut.following) = cut.is ∙ ap (λ l. l ++ cut.following) e ∙ append_assoc left (c ∷ following) cut.following in
    runs-place (begin_of r) left c (following ++ cut.following) r.content_end (subst (λ cs. Runs (begin_of r) cs r.content_end) is (rest-runs last))
place-at (rest ∷ lines) last left c following e =
    elim (split r.columns (line_end_column r ∷ content_columns lines last) left following c (sym (content-following r (map row_of lines) (row_of last)) ∙ e)) [
      | inl s ↦ (
          let l : length (bytes_of left) ≤ length (bytes_of r.columns) = (let q = ap length (ap bytes_of s.1 ∙ join-bytes left (c ∷ s.0)) in let k = length-append (bytes_of left) (bytes_of (c ∷ s.0)) in omega (arith, q, k)) in
          in-first rest (map row_of lines) (row_of last) (length (bytes_of left)) l
          ∙ runs-place (begin_of r) left c s.0 r.content_end (subst (λ cs. Runs (begin_of r) cs r.content_end) s.1 (rest-runs rest)))
      | inr s ↦ later s.0 s.1 s.2 (λ f more. place-at lines last f c following more)
    ]
  where
    r : Row
    r = row_of rest

    later : (f : List Column) → left ≡ r.columns ++ f → line_end_column r ∷ content_columns lines last ≡ f ++ c ∷ following
        → ((g : List Column) → content_columns lines last ≡ g ++ c ∷ following → place_in (map row_of lines) (row_of last) (length (bytes_of g)) ≡ place c) → place_in (r ∷ map row_of lines) (row_of last) (length (bytes_of left)) ≡ place c
    later [] is at ih =
        let same : c ≡ line_end_column r = (let q : line_end_column r ∷ content_columns lines last ≡ c ∷ following = at in cc) in
        let n : length (bytes_of left) ≡ length (bytes_of r.columns) = ap (λ l. length (bytes_of l)) (is ∙ append-nil r.columns) in
        in-first rest (map row_of lines) (row_of last) (length (bytes_of left)) (omega (arith, n))
        ∙ ap (λ k. begin_of r + k) n ∙ bytes-content_end rest ∙ ap place (sym same)
    later (x ∷ f) is at ih =
        let same : x ≡ line_end_column r = (let q : line_end_column r ∷ content_columns lines last ≡ x ∷ (f ++ c ∷ following) = at in cc) in
        let more : content_columns lines last ≡ f ++ c ∷ following = (let q : line_end_column r ∷ content_columns lines last ≡ x ∷ (f ++ c ∷ following) = at in cc) in
        let n : length (bytes_of left) ≡ length (bytes_of r.columns) + suc (length (bytes_of f)) =
        ap length (ap bytes_of (is ∙ ap (λ y. r.columns ++ y ∷ f) same) ∙ join-bytes r.columns (line_end_column r ∷ f)) ∙ length-append (bytes_of r.columns) (10 ∷ bytes_of f) in
        following-first rest (map row_of lines) (row_of last) (length (bytes_of left)) (length (bytes_of f)) n ∙ ih f more

drop-front : {A : Type 0} (a b : List A) → drop (length a) (a ++ b) ≡ b
drop-front [] b = refl
drop-front (x ∷ a) b = drop-front a b

end-shorter : (q : Column → Bool) (cs : List Column) → length (drop_end q cs) ≤ length cs
end-shorter q cs = let cut = drop_end-cut q cs in let e = ap length cut.is in let l = length-append (drop_end q cs) cut.following in omega (arith, e, l)

less-lt : (a b : ℕ) → nat_lt a b ≡ true → a < b
less-lt a b e = grind (arith)

-- the place at which the attributes begin has this number of bytes before it
pub found-place : (before : List LineRest) (last : LineRest) → let cs = content_columns before last in ends_in_braces cs ≡ true
    → place_in (map row_of before) (row_of last) (length (drop_end is_space_byte (before_braces (λ b. b) (bytes_of cs)))) ≡ attributes_place cs
found-place before last e = go white.following cut
  where
    cs : List Column
    cs = content_columns before last

    front : List Column
    front = before_braces (λ c. c.byte) cs

    left : List Column
    left = before_attributes cs

    first : Cut cs front
    first = before-cut cs

    second : Cut front left
    second = drop_end-cut (λ c. is_space_byte c.byte) front

    white : Cut cs left
    white = record { following = second.following ++ first.following; is = first.is ∙ ap (λ l. l ++ first.following) second.is ∙ append_assoc left second.following first.following }

    cut : cs ≡ left ++ white.following
    cut = white.is

    size : length (bytes_of left) ≡ length (drop_end is_space_byte (before_braces (λ b. b) (bytes_of cs)))
    size = ap length (white-bytes is_space_byte front refl (front-tabs front first.following (subst AreTabs first.is (content-tabs before last))) ∙ ap (drop_end is_space_byte) (before-whole cs (content-tabs before last) (content-whole before last)))

    go : (following : List Column) → cs ≡ left ++ following → place_in (map row_of before) (row_of last) (length (drop_end is_space_byte (before_braces (λ b. b) (bytes_of cs)))) ≡ attributes_place cs
    go [] is = absurd (let l = less-lt (length front) (length cs) e in let m = end-shorter (λ c. is_space_byte c.byte) front in let n = ap length (is ∙ append-nil left) in omega (arith, l, m, n))
    go (c ∷ following) is =
        ap (place_in (map row_of before) (row_of last)) (sym size)
        ∙ place-at before last left c following is
        ∙ sym (ap (first_place 0) (ap (drop (length left)) is ∙ drop-front left (c ∷ following)))

-- ## Lines, one by one

nothing-following : {A : Type 0} (n : ℕ) (xs : List A) → length xs ≤ n → drop n xs ≡ []
nothing-following zero [] l = refl
nothing-following zero (x ∷ xs) l = absurd (omega (arith, l))
nothing-following (suc n) [] l = refl
nothing-following (suc n) (x ∷ xs) l = nothing-following n xs (omega (arith, l))

-- the byte is in the current line
pub place-first : (before : List LineRest) (last rest : LineRest) (i left len content_end : ℕ) → i < length before → rest ≡ get_or before i rest → content_end ≡ (row_of rest).content_end → len ≡ length (bytes_of (row_of rest).columns) → left ≤ len
    → (len - left ≤ content_end) × (content_end - (len - left) ≡ place_in (map row_of (drop i before)) (row_of last) left)
place-first before last rest i left len content_end l e s n le =
    let b = bytes-content_end rest in
    let is : place_in (map row_of (drop i before)) (row_of last) left ≡ begin_of (row_of rest) + left =
    ap (λ xs. place_in (map row_of xs) (row_of last) left) (drop-get before i rest l e) ∙ in-first rest (map row_of (drop (suc i) before)) (row_of last) left (omega (arith, n, le)) in
    (omega (arith, b, s, n), (let q : content_end - (len - left) ≡ begin_of (row_of rest) + left = omega (arith, b, s, n, le) in q ∙ sym is))

-- the byte is in the last line
pub place-last : (before : List LineRest) (last : LineRest) (i left len content_end : ℕ) → length before ≤ i → content_end ≡ (row_of last).content_end → len ≡ length (bytes_of (row_of last).columns) → left ≤ length (gathered_bytes (map row_of (drop i before)) (row_of last))
    → (len - left ≤ content_end) × (content_end - (len - left) ≡ place_in (map row_of (drop i before)) (row_of last) left)
place-last before last i left len content_end l s n le =
    let b = bytes-content_end last in
    let none = nothing-following i before l in
    let within : left ≤ length (bytes_of (row_of last).columns) = subst (λ xs. left ≤ length (gathered_bytes (map row_of xs) (row_of last))) none le in
    (omega (arith, b, s, n), (let q : content_end - (len - left) ≡ begin_of (row_of last) + left = omega (arith, b, s, n, within) in q ∙ sym (ap (λ xs. place_in (map row_of xs) (row_of last) left) none)))
