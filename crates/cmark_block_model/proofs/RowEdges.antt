-- A line begins and ends after prefixes at character boundaries: prefixes are ASCII.
use Rattle.std.proofs.Common.{◌≡◌, ◌⊎◌, inl, inr, ⊎_elim, ℕ, zero, suc, ◌+◌, ◌-◌, ◌≤◌, ◌<◌, Bool, true, false, ◌==◌, ◌&&◌, ◌||◌, not, List, [], ◌∷◌, ◌++◌, length, drop, refl, sym, ap, ◌∙◌, subst, arith, Option, Some, None, true≢false, drop-drop, rules}
use Rattle.std.specs.Prelude.{if◌then◌else◌, nat_le, nat_lt}
use Rattle.cmark_grammar.specs.Options.{Options}
use Rattle.cmark_grammar.specs.Columns.{Column, is_blank_byte, is_blank, indent, without_indent, bytes_of}
use Rattle.cmark_grammar.specs.Rows.{Row, without, hold, first_place, begin_of, start_of, is_bare, is_blank_line, indent_of, words_of}
use Rattle.cmark_grammar.specs.Leaves.{run, Fence, is_thematic_break, counted, code_continuation, is_parted}
use Rattle.cmark_grammar.specs.Footnotes.{Footnotes, footnote_in, columns_over, marker_columns}
use Rattle.cmark_grammar.specs.LinkDefinitions.{Parsed, Defined}
use Rattle.cmark_grammar.specs.Metadata.{metadata_kind}
use Rattle.cmark_grammar.specs.MetadataBlockKind.{MetadataBlockKind}
use Rattle.cmark_grammar.specs.BlockQuoteKind.{BlockQuoteKind}
use Rattle.cmark_grammar.specs.Containers.{marker_width, Container, BlockQuote, Item, Footnote, ListDefinition, Marker, is_bullet, is_digit, is_delimiter, digits, number_of, delimited, marker_of, after_marker, padding, width_with, item_with, begins_with, is_block_quote, one_blank, block_quote_width, container_with, container_of, width_of, enter, keep_as, keeps, strip_as, strip, strips, footnote_width, footnote_with, footnote_of, footnote_or, with_task}
use Rattle.cmark_grammar.specs.Openings.{Leaf, AtxHeading, IndentedCode, Opening, Blank, Nests, Takes, Plain, or_else, nests_if, fenced_if, metadata_begun, html_if, break_if, heading_if, defined_if, leaf_of, whole_opens, opens, table_if, text_of}
use Rattle.cmark_grammar.specs.Alignment.{Alignment}
use Rattle.cmark_block_model.proofs.FootnoteMarkers.{IsAsciiAt, colon-ascii}
use Rattle.cmark_grammar.specs.TaskItems.{task_in, after_box}
use Rattle.cmark_grammar.specs.TaskMarkers.{task_of}
use Rattle.cmark_block_model.proofs.TaskFronts.{task-front}
pub use Rattle.cmark_block_model.proofs.Fronts.{Front, front-less, front-add, prefix-front, IsAsciiByte}
use Rattle.cmark_block_model.proofs.RowPlaces.{Runs, first_place-Runs, drop-Runs}

either : (x y : Bool) → (x || y) ≡ true → (x ≡ true) ⊎ (y ≡ true)
either true y e = inl refl
either false y e = inr e

both : (x y : Bool) → (x && y) ≡ true → (x ≡ true) × (y ≡ true)
both true y e = (refl, e)
both false y e = absurd (true≢false (sym e))

abbrev pub IsAsciiColumn : Column → Type 0
IsAsciiColumn c = c.byte < 128

pub is-ascii : (b k : ℕ) → k < 128 → (b == k) ≡ true → b < 128
is-ascii b k lt e = grind arith

pub blank-ascii : (b : ℕ) → is_blank_byte b ≡ true → b < 128
blank-ascii b e = ⊎_elim (λ x. is-ascii b 32 (omega arith) x) (λ x. is-ascii b 9 (omega arith) x) (either (b == 32) (b == 9) e)

digit-ascii : (b : ℕ) → is_digit b ≡ true → b < 128
digit-ascii b e = grind (arith, both)

bullet-ascii : (b : ℕ) → is_bullet b ≡ true → b < 128
bullet-ascii b e = ⊎_elim (λ x. is-ascii b 45 (omega arith) x) (λ x. ⊎_elim (λ y. is-ascii b 43 (omega arith) y) (λ y. is-ascii b 42 (omega arith) y) (either (b == 43) (b == 42) x)) (either (b == 45) ((b == 43) || (b == 42)) e)

delimiter-ascii : (b : ℕ) → is_delimiter b ≡ true → b < 128
delimiter-ascii b e = ⊎_elim (λ x. is-ascii b 46 (omega arith) x) (λ x. is-ascii b 41 (omega arith) x) (either (b == 46) (b == 41) e)

-- the beginning of a line's indent
pub indent-front : (cs : List Column) → Front IsAsciiColumn (indent cs) cs
indent-front cs = prefix-front is_blank IsAsciiColumn (λ c e. blank-ascii c.byte e) cs

pub run-front : (b : ℕ) (bs : List ℕ) → b < 128 → Front IsAsciiByte (run b bs) bs
run-front b bs lt = prefix-front (λ c. c == b) IsAsciiByte (λ c e. is-ascii c b lt e) bs

-- of blank columns all are ASCII
bare-front : (n : ℕ) (cs : List Column) → is_bare (without_indent cs) ≡ true → Front IsAsciiColumn n cs
bare-front n cs e = front-less IsAsciiColumn n (indent cs + n) cs (omega arith) (front-add IsAsciiColumn (indent cs) n cs (indent-front cs) (none (without_indent cs) e))
  where
    none : (ds : List Column) → is_bare ds ≡ true → Front IsAsciiColumn n ds
    none [] q = tt
    none (d ∷ ds) q = absurd (true≢false (sym q))

padding-front : (cs : List Column) → Front IsAsciiColumn (padding cs) cs
padding-front cs = go (is_bare (without_indent cs)) (nat_le 5 (indent cs)) refl refl
  where
    five : (n : ℕ) → nat_le 5 n ≡ true → 1 ≤ n
    five n e = let q : 5 ≤ n = grind (arith) in omega (arith, q)

    go : (x y : Bool) → is_bare (without_indent cs) ≡ x → nat_le 5 (indent cs) ≡ y → Front IsAsciiColumn (if x || y then 1 else indent cs) cs
    go true y ex ey = bare-front 1 cs ex
    go false true ex ey = front-less IsAsciiColumn 1 (indent cs) cs (five (indent cs) ey) (indent-front cs)
    go false false ex ey = indent-front cs

-- the bytes of a list marker
abbrev MarkerFront : Option Marker → List ℕ → Type 0
MarkerFront None bs = Unit {0}
MarkerFront (Some m) bs = Front IsAsciiByte m.size bs

delimited-front : (bs : List ℕ) (rest : List ℕ) → drop (length (digits bs)) bs ≡ rest → MarkerFront (delimited (digits bs) rest) bs
delimited-front bs [] e = tt
delimited-front bs (b ∷ rest) e = go (nat_lt 0 (length (digits bs))) (nat_le (length (digits bs)) 9) (is_delimiter b) refl
  where
    go : (x y z : Bool) → is_delimiter b ≡ z → MarkerFront (if x && (y && z) then Some (record { delimiter = b; number = Some (number_of (digits bs)); size = suc (length (digits bs)) }) else None) bs
    go true true true q =
        subst (λ k. Front IsAsciiByte k bs) (let s : length (digits bs) + 1 ≡ suc (length (digits bs)) = omega arith in s)
        (front-add IsAsciiByte (length (digits bs)) 1 bs (prefix-front is_digit IsAsciiByte digit-ascii bs) (subst (λ r. Front IsAsciiByte 1 r) (sym e) (delimiter-ascii b q, last rest)))
      where
        last : (r : List ℕ) → Front IsAsciiByte 0 r
        last [] = tt
        last (a ∷ r) = tt
    go _ _ _ q = tt

front-zero : {X : Type 0} (Q : X → Type 0) (xs : List X) → Front Q 0 xs
front-zero Q [] = tt
front-zero Q (x ∷ xs) = tt

marker-front : (bs : List ℕ) → MarkerFront (marker_of bs) bs
marker-front [] = tt
marker-front (b ∷ bs) = go (is_bullet b) refl
  where
    go : (z : Bool) → is_bullet b ≡ z → MarkerFront (if z then Some (record { delimiter = b; number = None; size = 1 }) else delimited (digits (b ∷ bs)) (drop (length (digits (b ∷ bs))) (b ∷ bs))) (b ∷ bs)
    go true e = (bullet-ascii b e, front-zero IsAsciiByte bs)
    go false e = delimited-front (b ∷ bs) _ refl

begins-front : (k : ℕ) (bs : List ℕ) → k < 128 → begins_with k bs ≡ true → Front IsAsciiByte 1 bs
begins-front k [] lt e = tt
begins-front k (b ∷ bs) lt e = (is-ascii b k lt e, front-zero IsAsciiByte bs)

one_blank-front : (cs : List Column) → Front IsAsciiColumn (one_blank cs) cs
one_blank-front cs = grind (arith, blank-ascii, front-zero)

module _ (E : ℕ → Type 0) where
  -- a column: one in which no byte begins is of a tab, and around an ASCII byte no character is cut
  abbrev pub Good : Column → Type 0
  Good c = ((c.part == 0) ≡ false → c.byte < 128) × (c.byte < 128 → E c.at × E (suc c.at))

  abbrev pub AreGood : List Column → Type 0
  AreGood [] = Unit {0}
  AreGood (c ∷ cs) = Good c × AreGood cs

  pub drop-good : (n : ℕ) (cs : List Column) → AreGood cs → AreGood (drop n cs)
  drop-good zero cs g = g
  drop-good (suc n) [] g = tt
  drop-good (suc n) (c ∷ cs) g = drop-good n cs g.1

  -- ASCII bytes at the beginning are ASCII columns at the beginning
  pub bytes-front : (n : ℕ) (cs : List Column) → AreGood cs → Front IsAsciiByte n (bytes_of cs) → Front IsAsciiColumn n cs
  bytes-front n [] g f = tt
  bytes-front zero (c ∷ cs) g f = tt
  bytes-front (suc n) (c ∷ cs) g f = go (c.part == 0) refl f (bytes-front n cs g.1)
    where
      go : (z : Bool) → (c.part == 0) ≡ z → Front IsAsciiByte (suc n) (if z then c.byte ∷ bytes_of cs else bytes_of cs) → (Front IsAsciiByte n (bytes_of cs) → Front IsAsciiColumn n cs) → (c.byte < 128) × Front IsAsciiColumn n cs
      go true e f ih = (f.0, ih f.1)
      go false e f ih = (g.0.0 e, ih (front-less IsAsciiByte n (suc n) (bytes_of cs) (omega arith) f))

  -- after ASCII columns comes a character boundary
  pub drop-E : (n from : ℕ) (cs : List Column) (to : ℕ) → Runs from cs to → AreGood cs → Front IsAsciiColumn n cs → E from → E to → E (first_place to (drop n cs))
  drop-E zero from cs to h g f ef et = subst E (sym (first_place-Runs from cs to h)) ef
  drop-E (suc n) from [] to h g f ef et = et
  drop-E (suc n) from (c ∷ cs) to h g f ef et = drop-E n (suc c.at) cs to h.1 g.1 f.1 (g.0.1 f.0).1 et

  pub record GoodRow (r : Row) : Type 0 where
    pub runs : Runs (begin_of r) r.columns r.content_end
    pub good : AreGood r.columns
    pub begin : E (begin_of r)
    pub content_end : E r.content_end
    pub line_end : E r.line_end
    pub feed : r.line_end - r.content_end ≡ 2 → E (suc r.content_end)

  pub without-good : (n : ℕ) (r : Row) → GoodRow r → Front IsAsciiColumn n r.columns → GoodRow (without n r)
  without-good n r g f = grind (arith, drop-Runs, drop-good, drop-E)

  pub start-E : (r : Row) → GoodRow r → E (start_of r)
  start-E r g = (without-good (indent r.columns) r g (indent-front r.columns)).begin

  -- a block quote's prefix
  quote-front : (r : Row) → GoodRow r → is_block_quote r ≡ true → Front IsAsciiColumn (block_quote_width r) r.columns
  quote-front r g e =
      let marked : Front IsAsciiColumn 1 (without_indent r.columns) = bytes-front 1 (without_indent r.columns) (drop-good (indent r.columns) r.columns g.good) (begins-front 62 (words_of r) (omega arith) (both (nat_le (indent_of r) 3) _ e).1) in
      let front : Front IsAsciiColumn (indent r.columns + 1) r.columns = front-add IsAsciiColumn (indent r.columns) 1 r.columns (indent-front r.columns) marked in
      let s : indent r.columns + 1 ≡ suc (indent r.columns) = omega arith in
      let t : suc (indent r.columns) + one_blank (drop (suc (indent r.columns)) r.columns) ≡ block_quote_width r = omega arith in
      subst (λ k. Front IsAsciiColumn k r.columns) t (front-add IsAsciiColumn (suc (indent r.columns)) (one_blank (drop (suc (indent r.columns)) r.columns)) r.columns (subst (λ k. Front IsAsciiColumn k r.columns) s front) (one_blank-front (drop (suc (indent r.columns)) r.columns)))

  -- an item's marker with the blanks after it that count
  width-front : (size : ℕ) (r : Row) → GoodRow r → Front IsAsciiByte size (words_of r) → Front IsAsciiColumn (width_with size r) r.columns
  width-front size r g f =
      let marked : Front IsAsciiColumn size (without_indent r.columns) = bytes-front size (without_indent r.columns) (drop-good (indent r.columns) r.columns g.good) f in
      let following : Front IsAsciiColumn (padding (after_marker size r)) (drop size (without_indent r.columns)) = subst (λ cs. Front IsAsciiColumn (padding (after_marker size r)) cs) (sym (drop-drop size (indent r.columns) r.columns)) (padding-front (after_marker size r)) in
      front-add IsAsciiColumn (indent r.columns) (size + padding (after_marker size r)) r.columns (indent-front r.columns) (front-add IsAsciiColumn size (padding (after_marker size r)) (without_indent r.columns) marked following)

  -- after the prefix of a container's first line comes a character boundary
  abbrev MarkerGood : Container → Row → Type 0
  MarkerGood k r = GoodRow (without (marker_width k r) r)

  abbrev SomeGood : Row → Option Container → Type 0
  SomeGood r None = Unit {0}
  SomeGood r (Some k) = MarkerGood k r × GoodRow (without (width_of k r) r)

  -- so it does between an item's marker and a task marker, and after that
  box-good : (options : Options) (r : Row) (is_checked : Bool) → task_in options r ≡ Some is_checked → GoodRow r → GoodRow (without 3 r)
  box-good options r is_checked e g = go (options.tasklists) (indent_of r == 0) refl e
    where
      zero-is : (n : ℕ) → (n == 0) ≡ true → n ≡ 0
      zero-is n q = grind (arith)

      go : (x y : Bool) → (indent_of r == 0) ≡ y → (if x && y then task_of (words_of r) else None) ≡ Some is_checked → GoodRow (without 3 r)
      go true true ey q =
          without-good 3 r g
          (subst (λ n. Front IsAsciiColumn 3 (drop n r.columns)) (zero-is (indent r.columns) ey)
          (bytes-front 3 (without_indent r.columns) (drop-good (indent r.columns) r.columns g.good) (task-front (words_of r) is_checked q)))
      go _ _ ey q = absurd (let p : None ≡ Some is_checked = q in cc)

  item-good : (options : Options) (r : Row) (m : Option Marker) → GoodRow r → MarkerFront m (words_of r) → SomeGood r (with_task options r (item_with r m))
  item-good options r None g f = tt
  item-good options r (Some m) g f = go (is_parted (drop m.size (words_of r)) && not (is_thematic_break (words_of r)))
    where
      good : GoodRow (without (width_with m.size r) r)
      good = without-good (width_with m.size r) r g (width-front m.size r g f)

      following : (o : Option Bool) → task_in options (without (width_with m.size r) r) ≡ o → GoodRow (without (after_box o (width_with m.size r)) r)
      following None e = good
      following (Some is_checked) e = subst GoodRow (ap (λ cs. record r { columns = cs }) (drop-drop 3 (width_with m.size r) r.columns)) (box-good options (without (width_with m.size r) r) is_checked e good)

      go : (z : Bool) → SomeGood r (with_task options r (if z then Some (Item m.delimiter m.number (width_with m.size r) None) else None))
      go true = (good, following (task_in options (without (width_with m.size r) r)) refl)
      go false = tt

  quote-good : (o : Option Container) (q : Bool) (alert : Option BlockQuoteKind) (r : Row) → GoodRow r → is_block_quote r ≡ q → SomeGood r o → SomeGood r (container_with o q alert)
  quote-good (Some k) q alert r g e f = f
  quote-good None true alert r g e f = let good = without-good (block_quote_width r) r g (quote-front r g e) in (good, good)
  quote-good None false alert r g e f = tt

  none-over : (cs : List Column) → columns_over 0 cs ≡ 0
  none-over [] = refl
  none-over (c ∷ cs) = refl

  -- so it does after bytes of which the last is ASCII
  over-E : (n from : ℕ) (cs : List Column) (to : ℕ) → Runs from cs to → AreGood cs → IsAsciiAt n (bytes_of cs) → E to → E (first_place to (drop (columns_over (suc n) cs) cs))
  over-E n from [] to h g last et = et
  over-E n from (c ∷ cs) to h g last et = go (c.part == 0) n (λ m l. over-E m (suc c.at) cs to h.1 g.1 l et) last
    where
      go : (z : Bool) (n : ℕ) → ((m : ℕ) → IsAsciiAt m (bytes_of cs) → E (first_place to (drop (columns_over (suc m) cs) cs))) → IsAsciiAt n (if z then c.byte ∷ bytes_of cs else bytes_of cs) → E (first_place to (drop (columns_over (if z then n else suc n) cs) cs))
      go z n ih l = search (rules, none-over, first_place-Runs)

  footnote-good : (old : Bool) (r : Row) (o : Option Parsed) → footnote_in (words_of r) ≡ o → GoodRow r → SomeGood r (footnote_with old r o)
  footnote-good old r None e g = tt
  footnote-good old r (Some found) e g =
      let size : ℕ = marker_columns found.bytes r.columns in
      let middle : ℕ = indent r.columns + size in
      let begin : E (first_place r.content_end (drop middle r.columns)) =
      subst (λ cs. E (first_place r.content_end cs)) (drop-drop size (indent r.columns) r.columns)
      (over-E (suc (suc (suc (length found.bytes)))) (first_place r.content_end (without_indent r.columns)) (without_indent r.columns) r.content_end (drop-Runs (indent r.columns) (begin_of r) r.columns r.content_end g.runs).0
      (drop-good (indent r.columns) r.columns g.good) (colon-ascii (words_of r) found e) g.content_end) in
      let good : GoodRow (without middle r) = record {
        runs = (drop-Runs middle (begin_of r) r.columns r.content_end g.runs).0;
        good = drop-good middle r.columns g.good;
        begin = begin;
        content_end = g.content_end;
        line_end = g.line_end;
        feed = g.feed;
      } in
      let same : drop (indent (drop middle r.columns)) (drop middle r.columns) ≡ drop (footnote_width size r) r.columns =
      drop-drop (indent (drop middle r.columns)) middle r.columns ∙ ap (λ k. drop k r.columns) (let s : middle + indent (drop middle r.columns) ≡ footnote_width size r = omega arith in s) in
      let following = subst GoodRow (ap (λ cs. record r { columns = cs }) same) (without-good (indent (drop middle r.columns)) (without middle r) good (indent-front (drop middle r.columns))) in
      (following, following)

  footnote_of-good : (f : Footnotes) (r : Row) → GoodRow r → SomeGood r (footnote_of f r)
  footnote_of-good f r g = grind (arith, footnote-good)

  or-good : (x y : Option Container) (r : Row) → SomeGood r x → SomeGood r y → SomeGood r (footnote_or x y)
  or-good (Some k) y r good other = good
  or-good None y r good other = other

  container_of-good : (options : Options) (r : Row) → GoodRow r → SomeGood r (container_of options r)
  container_of-good options r g = grind (arith, or-good, footnote_of-good, quote-good, item-good, marker-front)

  -- a heading's opening sequence is ASCII too
  abbrev pub LeafFront : Row → Leaf → Type 0
  LeafFront r (AtxHeading level) = Front IsAsciiColumn level (without_indent r.columns)
  LeafFront r _ = Unit {0}

  abbrev OpeningFront : Row → Opening → Type 0
  OpeningFront r (Nests k) = MarkerGood k r × GoodRow (without (width_of k r) r)
  OpeningFront r (Takes leaf n) = LeafFront r leaf
  OpeningFront r _ = Unit {0}

  front_if : (r : Row) (b : Bool) (x y : Opening) → OpeningFront r x → OpeningFront r y → OpeningFront r (if b then x else y)
  front_if r true x y p q = p
  front_if r false x y p q = q

  front_or : (r : Row) (x y : Opening) → OpeningFront r x → OpeningFront r y → OpeningFront r (or_else x y)
  front_or r Plain y p q = q
  front_or r _ y p q = p

  front_nests : (r : Row) (o : Option Container) → SomeGood r o → OpeningFront r (nests_if o)
  front_nests r (Some k) f = f
  front_nests r None f = tt

  front_html : (r : Row) (ahead : List Row) (o : Option ℕ) → OpeningFront r (html_if r ahead o)
  front_html r ahead (Some kind) = tt
  front_html r ahead None = tt

  front_break : (r : Row) (z : Bool) → OpeningFront r (break_if z)
  front_break r true = tt
  front_break r false = tt

  front_heading : (r : Row) (z : Bool) → GoodRow r → OpeningFront r (heading_if z (run 35 (words_of r)))
  front_heading r true g = bytes-front (run 35 (words_of r)) (without_indent r.columns) (drop-good (indent r.columns) r.columns g.good) (run-front 35 (words_of r) (omega arith))
  front_heading r false g = tt

  front_fenced : (r : Row) (o : Option Fence) (ahead : List Row) → OpeningFront r (fenced_if o ahead)
  front_fenced r (Some fence) ahead = tt
  front_fenced r None ahead = tt

  front_defined : (r : Row) (lines : ℕ) (o : Option Defined) → OpeningFront r (defined_if lines o)
  front_defined r lines (Some found) = tt
  front_defined r lines None = tt

  front_table : (options : Options) (r : Row) (o : Option (List Alignment)) (ahead : List Row) → OpeningFront r (table_if options o ahead)
  front_table options r (Some alignments) ahead = tt
  front_table options r None ahead = tt

  front_text : (options : Options) (r : Row) (ahead : List Row) → OpeningFront r (text_of options r ahead)
  front_text options r ahead = search (rules, front_or, front_if, front_defined, front_table)

  front_leaf : (options : Options) (r : Row) (ahead : List Row) → GoodRow r → OpeningFront r (leaf_of options r ahead)
  front_leaf options r ahead g = search (rules, front_or, front_html, front_break, front_heading, front_fenced, front_text)

  front_metadata : (r : Row) (o : Option MetadataBlockKind) (ahead : List Row) → OpeningFront r (metadata_begun o ahead)
  front_metadata r o ahead = grind arith

  front_opens : (options : Options) (r : Row) (ahead : List Row) → GoodRow r → OpeningFront r (opens options r ahead)
  unfolding opens
  front_opens options r ahead g =
      front_if r r.lazy Plain _ tt
      (front_or r (metadata_begun (metadata_kind options r) ahead) (whole_opens options r ahead) (front_metadata r (metadata_kind options r) ahead)
      (front_if r (is_blank_line r) Blank _ tt
      (front_if r (nat_le 4 (indent_of r)) (Takes IndentedCode (counted code_continuation ahead)) _ tt
      (front_or r (nests_if (container_of options r)) (leaf_of options r ahead) (front_nests r (container_of options r) (container_of-good options r g)) (front_leaf options r ahead g)))))

  pub enter-good : (options : Options) (k : Container) (r : Row) (ahead : List Row) → opens options r ahead ≡ Nests k → GoodRow r → GoodRow (enter k r)
  unfolding enter
  enter-good options k r ahead e g = (subst (OpeningFront r) e (front_opens options r ahead g)).1

  -- after an item's task marker comes a character boundary
  pub enter-begin : (options : Options) (delimiter : ℕ) (number : Option ℕ) (width : ℕ) (task : Option Bool) (r : Row) (ahead : List Row) → opens options r ahead ≡ Nests (Item delimiter number width task) → GoodRow r → E (begin_of (without (after_box task width) r))
  enter-begin options delimiter number width task r ahead e g = (subst (OpeningFront r) e (front_opens options r ahead g)).1.begin

  -- after a container's own marker comes a character boundary
  pub marker-good : (options : Options) (k : Container) (r : Row) (ahead : List Row) → opens options r ahead ≡ Nests k → GoodRow r → GoodRow (without (marker_width k r) r)
  marker-good options k r ahead e g = (subst (OpeningFront r) e (front_opens options r ahead g)).0

  pub leaf-front : (options : Options) (r : Row) (ahead : List Row) (leaf : Leaf) (n : ℕ) → opens options r ahead ≡ Takes leaf n → GoodRow r → LeafFront r leaf
  leaf-front options r ahead leaf n e g = subst (OpeningFront r) e (front_opens options r ahead g)

  -- after the marker of a definition comes a character boundary
  pub definition-good : (width : ℕ) (r : Row) → begins_with 58 (words_of r) ≡ true → width ≡ width_with 1 r → GoodRow r → GoodRow (enter (ListDefinition width) r)
  unfolding enter
  definition-good width r colon is g = subst (λ n. GoodRow (without n r)) (sym is) (without-good (width_with 1 r) r g (width-front 1 r g (begins-front 58 (words_of r) (omega arith) colon)))

  -- after the prefix of a definition's later lines comes a character boundary
  wide-good : (width : ℕ) (r s : Row) → GoodRow r → (if is_blank_line r || nat_le width (indent_of r) then Some (without width r) else None) ≡ Some s → GoodRow s
  wide-good width r s g e = go (is_blank_line r) (nat_le width (indent_of r)) refl refl e
    where
      le : (a b : ℕ) → nat_le a b ≡ true → a ≤ b
      le a b q = grind (arith)

      is : Front IsAsciiColumn width r.columns → Some (without width r) ≡ Some s → GoodRow s
      is f q = let p : without width r ≡ s = cc in subst GoodRow p (without-good width r g f)

      go : (x y : Bool) → is_blank_line r ≡ x → nat_le width (indent_of r) ≡ y → (if x || y then Some (without width r) else None) ≡ Some s → GoodRow s
      go true y ex ey f = is (bare-front width r.columns ex) f
      go false true ex ey f = is (front-less IsAsciiColumn width (indent r.columns) r.columns (le width (indent r.columns) ey) (indent-front r.columns)) f
      go false false ex ey f = absurd (let p : None ≡ Some s = f in cc)

  pub hold-good : (r : Row) → GoodRow r → GoodRow (hold r)
  hold-good r g = record { runs = g.runs; good = g.good; begin = g.begin; content_end = g.content_end; line_end = g.line_end; feed = g.feed }

  keep_as-good : (k : Container) (r s : Row) → GoodRow r → keep_as k r ≡ Some s → GoodRow s
  keep_as-good (BlockQuote alert) r s g e = go (is_block_quote r) refl e
    where
      go : (z : Bool) → is_block_quote r ≡ z → (if z then Some (without (block_quote_width r) r) else None) ≡ Some s → GoodRow s
      go true q f = let p : without (block_quote_width r) r ≡ s = cc in subst GoodRow p (without-good (block_quote_width r) r g (quote-front r g q))
      go false q f = absurd (let p : None ≡ Some s = f in cc)
  keep_as-good (Footnote label true size) r s g e = search (rules, hold-good)
  keep_as-good (Footnote label false size) r s g e = wide-good 4 r s g e
  keep_as-good (Item delimiter number width task) r s g e = wide-good width r s g e
  keep_as-good (ListDefinition width) r s g e = wide-good width r s g e

  keeps-good : (k : Container) (bare : Bool) (r s : Row) → GoodRow r → keeps k bare r ≡ Some s → GoodRow s
  unfolding keeps
  keeps-good k bare r s g e = go _ e
    where
      go : (z : Bool) → (if z then None else keep_as k r) ≡ Some s → GoodRow s
      go true q = absurd (let p : None ≡ Some s = q in cc)
      go false q = keep_as-good k r s g q

  lazy-good : (r : Row) → GoodRow r → GoodRow (strip_as None r)
  lazy-good r g = record { runs = g.runs; good = g.good; begin = g.begin; content_end = g.content_end; line_end = g.line_end; feed = g.feed }

  strip-good : (k : Container) (bare : Bool) (r : Row) → GoodRow r → GoodRow (strip k bare r)
  strip-good k bare r g = go (keeps k bare r) refl
    where
      go : (o : Option Row) → keeps k bare r ≡ o → GoodRow (strip_as o r)
      go None e = lazy-good r g
      go (Some s) e = keeps-good k bare r s g e

  abbrev pub GoodRows : List Row → Type 0
  GoodRows [] = Unit {0}
  GoodRows (r ∷ rs) = GoodRow r × GoodRows rs

  pub strips-good : (k : Container) (bare : Bool) (rs : List Row) → GoodRows rs → GoodRows (strips k bare rs)
  strips-good k bare [] g = tt
  strips-good k bare (r ∷ rs) g = (strip-good k bare r g.0, strips-good k false rs g.1)

  pub split-good : (more rest : List Row) → GoodRows (more ++ rest) → GoodRows more × GoodRows rest
  split-good [] rest g = (tt, g)
  split-good (r ∷ more) rest g = let s = split-good more rest g.1 in ((g.0, s.0), s.1)
