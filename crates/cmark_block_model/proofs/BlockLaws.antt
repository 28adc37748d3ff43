-- The laws of openings and prefixes that the theorems on blocks use.
use Rattle.std.proofs.Common.{◌≡◌, ◌≢◌, ◌⊎◌, ⊎_elim, ℕ, suc, ◌≤◌, ◌<◌, Bool, true, false, ◌||◌, ◌&&◌, List, [], ◌∷◌, length, drop, take_while, refl, sym, ap, ◌∙◌, subst, arith, Option, Some, None, length-drop, true≢false, not, ◌==◌, ◌-◌, rules}
use Rattle.std.specs.Prelude.{if◌then◌else◌, cond, nat_le}
use Rattle.std.proofs.lemmas.List.Sums.{take_while-cons}
use Rattle.cmark_grammar.specs.Columns.{Column, is_blank_byte, is_blank, without_indent, bytes_of}
use Rattle.cmark_grammar.specs.Letters.{starts}
use Rattle.cmark_grammar.specs.Metadata.{metadata_of, metadata_if, metadata_kind}
use Rattle.cmark_grammar.specs.MetadataBlockKind.{MetadataBlockKind}
use Rattle.cmark_grammar.specs.Rows.{Row, without, lazy_row, is_bare, is_blank_line, is_whole_line, indent_of, words_of}
use Rattle.cmark_grammar.specs.Leaves.{Fence, Continuation, counted, underlines, fence_continuation, code_continuation}
use Rattle.cmark_grammar.specs.BlockQuoteKind.{BlockQuoteKind}
use Rattle.cmark_grammar.specs.Containers.{with_task, marker_width, Container, BlockQuote, Item, Footnote, ListDefinition, Marker, marker_of, delimited, item_with, width_with, container_with, container_of, begins_with, width_of, enter, keep_as, keeps, strip_as, strip, footnote_width, footnote_with, footnote_of, footnote_or}
use Rattle.cmark_grammar.specs.DefinitionLists.{definition_width, definition_marker, begins_definition, is_marker, definition_at, is_definition}
use Rattle.cmark_grammar.specs.Footnotes.{Footnotes, footnote_in, marker_columns}
use Rattle.cmark_grammar.specs.LinkDefinitions.{Defined, Parsed}
use Rattle.cmark_grammar.specs.Openings.{Leaf, IndentedCode, Opening, Blank, Nests, Takes, Plain, or_else, nests_if, fenced_if, metadata_begun, leaf_of, whole_opens, opens, opens_at, text_begun, texts, lazily, html_if, break_if, heading_if, text_lines, defined_if, interrupts, count_rows, table_if, text_of, definition_or}
use Rattle.cmark_grammar.specs.Options.{Options}
use Rattle.cmark_grammar.specs.Places.{Place, is_after_task, is_after_title}
use Rattle.cmark_grammar.specs.Alignment.{Alignment}
use Rattle.cmark_grammar.specs.TableRows.{one_more_if, count_missing, most_filled, holds_pipe, delimited_ahead, count_cells, table_head, begins_with_pipe, table_interrupts}

-- blanks begin with no other byte
blank-starts : (cs : List Column) (b : ℕ) (delimiter : List ℕ) → is_blank_byte b ≡ false → is_bare (without_indent cs) ≡ true → starts (b ∷ delimiter) (bytes_of cs) ≡ false
blank-starts [] b delimiter other bare = refl
blank-starts (c ∷ cs) b delimiter other bare = go (is_blank c) refl bare (λ inside. blank-starts cs b delimiter other inside)
  where
    differs : (z : Bool) → (c.byte == b) ≡ z → is_blank c ≡ true → (c.byte == b) ≡ false
    differs false e blank = e
    differs true e blank = let same : c.byte ≡ b = grind (arith, e) in absurd (true≢false (sym blank ∙ ap is_blank_byte same ∙ other))

    begins : (z : Bool) → (c.part == 0) ≡ z → is_blank c ≡ true → starts (b ∷ delimiter) (bytes_of cs) ≡ false → starts (b ∷ delimiter) (if z then c.byte ∷ bytes_of cs else bytes_of cs) ≡ false
    begins true e blank ih = rw (differs (c.byte == b) refl blank) refl
    begins false e blank ih = ih

    front : (z : Bool) → is_blank c ≡ z → without_indent (c ∷ cs) ≡ drop (length (cond z (c ∷ take_while is_blank cs) [])) (c ∷ cs)
    front z e = ap (λ n. drop n (c ∷ cs)) (ap length (take_while-cons is_blank c cs ∙ ap (λ z. cond z (c ∷ take_while is_blank cs) []) e))

    go : (z : Bool) → is_blank c ≡ z → is_bare (without_indent (c ∷ cs)) ≡ true → (is_bare (without_indent cs) ≡ true → starts (b ∷ delimiter) (bytes_of cs) ≡ false) → starts (b ∷ delimiter) (bytes_of (c ∷ cs)) ≡ false
    go true e bare ih = begins (c.part == 0) refl e (ih (ap is_bare (sym (front true e)) ∙ bare))
    go false e bare ih = absurd (true≢false (sym bare ∙ ap is_bare (front false e)))

-- a blank line begins no metadata
pub no_metadata : (options : Options) (r : Row) → is_blank_line r ≡ true → metadata_kind options r ≡ None
no_metadata options r blank = go (is_whole_line r)
  where
    none : metadata_of (bytes_of r.columns) ≡ None
    none = rw (blank-starts r.columns 45 (45 ∷ 45 ∷ []) refl blank, blank-starts r.columns 43 (43 ∷ 43 ∷ []) refl blank) refl

    go : (z : Bool) → (if z then metadata_if options (metadata_of (bytes_of r.columns)) else None) ≡ None
    go true = ap (metadata_if options) none
    go false = refl

module _ (options : Options) where
  pub opens-lazy : (r : Row) (ahead : List Row) → r.lazy ≡ true → opens options r ahead ≡ Plain
  unfolding opens
  opens-lazy r ahead e = rw e refl

  pub underlines-lazy : (r : Row) → r.lazy ≡ true → underlines r ≡ None
  unfolding underlines
  underlines-lazy r e = rw e refl

  -- no leaf takes more lines than there are
  counted-len : (further : Row → Continuation) (ahead : List Row) → counted further ahead ≤ length ahead
  counted-len further [] = omega arith
  counted-len further (r ∷ ahead) = grind (arith, counted-len further ahead)

  -- an opening fits the lines ahead
  abbrev pub Fits : Opening → List Row → Type 0
  Fits (Takes leaf n) ahead = n ≤ length ahead
  Fits _ ahead = Unit {0}

  fits_if : (b : Bool) (x y : Opening) (ahead : List Row) → Fits x ahead → Fits y ahead → Fits (if b then x else y) ahead
  fits_if true x y ahead p q = p
  fits_if false x y ahead p q = q

  fits_or : (x y : Opening) (ahead : List Row) → Fits x ahead → Fits y ahead → Fits (or_else x y) ahead
  fits_or Plain y ahead p q = q
  fits_or _ y ahead p q = p

  fits_nests : (o : Option Container) (ahead : List Row) → Fits (nests_if o) ahead
  fits_nests (Some k) ahead = tt
  fits_nests None ahead = tt

  fits_fenced : (o : Option Fence) (ahead : List Row) → Fits (fenced_if o ahead) ahead
  fits_fenced (Some fence) ahead = counted-len (fence_continuation fence) ahead
  fits_fenced None ahead = tt

  zero-len : (ahead : List Row) → 0 ≤ length ahead
  zero-len ahead = omega arith

  fits_html : (r : Row) (ahead : List Row) (o : Option ℕ) → Fits (html_if r ahead o) ahead
  fits_html r ahead o = grind (arith, zero-len, counted-len)

  fits_break : (z : Bool) (ahead : List Row) → Fits (break_if z) ahead
  fits_break true ahead = zero-len ahead
  fits_break false ahead = tt

  fits_heading : (z : Bool) (level : ℕ) (ahead : List Row) → Fits (heading_if z level) ahead
  fits_heading true level ahead = zero-len ahead
  fits_heading false level ahead = tt

  text_lines-len : (ahead : List Row) → length (text_lines options ahead) ≤ length ahead
  text_lines-len [] = omega arith
  text_lines-len (r ∷ ahead) = grind (arith, text_lines-len ahead)

  fits_defined : (lines : ℕ) (o : Option Defined) (ahead : List Row) → lines ≤ length ahead → Fits (defined_if lines o) ahead
  fits_defined lines None ahead le = tt
  fits_defined lines (Some found) ahead le = omega (arith, le)

  count_rows-len : (columns left : ℕ) (ahead : List Row) → count_rows options columns left ahead ≤ length ahead
  count_rows-len columns left [] = omega arith
  count_rows-len columns left (r ∷ ahead) =
      go (not (interrupts options false r ahead) && nat_le (count_missing columns r) left) (count_rows-len columns (left - count_missing columns r) ahead)
    where
      go : (z : Bool) → count_rows options columns (left - count_missing columns r) ahead ≤ length ahead → one_more_if z (count_rows options columns (left - count_missing columns r) ahead) ≤ suc (length ahead)
      go true le = omega (arith, le)
      go false le = omega arith

  -- a line follows a table's head
  fits_table : (r : Row) (ahead : List Row) → Fits (table_if options (table_head options r ahead) ahead) ahead
  fits_table r ahead = go (options.tables && (not r.lazy && holds_pipe (words_of r)))
    where
      following : (s : Row) (rest : List Row) (o : Option (List Alignment)) → Fits (table_if options o (s ∷ rest)) (s ∷ rest)
      following s rest None = tt
      following s rest (Some alignments) = let le = count_rows-len (length alignments) most_filled rest in omega (arith, le)

      head : (rest : List Row) → Fits (table_if options (delimited_ahead (count_cells r) rest) rest) rest
      head [] = tt
      head (s ∷ rest) = following s rest (delimited_ahead (count_cells r) (s ∷ rest))

      go : (z : Bool) → Fits (table_if options (if z then delimited_ahead (count_cells r) ahead else None) ahead) ahead
      go true = head ahead
      go false = tt

  fits_text : (r : Row) (ahead : List Row) → Fits (text_of options r ahead) ahead
  fits_text r ahead = grind (arith, fits_or, fits_if, fits_defined, text_lines-len, fits_table)

  fits_leaf : (r : Row) (ahead : List Row) → Fits (leaf_of options r ahead) ahead
  fits_leaf r ahead = grind (arith, fits_or, fits_html, fits_break, fits_heading, fits_fenced, fits_text)

  fits_metadata : (o : Option MetadataBlockKind) (ahead : List Row) → Fits (metadata_begun o ahead) ahead
  fits_metadata o ahead = grind (arith, counted-len)

  fits_opens : (r : Row) (ahead : List Row) → Fits (opens options r ahead) ahead
  unfolding opens
  fits_opens r ahead = grind (arith, fits_if, fits_or, fits_metadata, counted-len, fits_nests, fits_leaf)

  pub opens-len : (r : Row) (ahead : List Row) (leaf : Leaf) (n : ℕ) → opens options r ahead ≡ Takes leaf n → n ≤ length ahead
  opens-len r ahead leaf n e = subst (λ o. Fits o ahead) e (fits_opens r ahead)

  -- a container takes at least one column after the indent
  abbrev pub IsWide : Row → Opening → Type 0
  IsWide r (Nests k) = indent_of r < marker_width k r
  IsWide r _ = Unit {0}

  wide_if : (r : Row) (b : Bool) (x y : Opening) → IsWide r x → IsWide r y → IsWide r (if b then x else y)
  wide_if r true x y p q = p
  wide_if r false x y p q = q

  wide_or : (r : Row) (x y : Opening) → IsWide r x → IsWide r y → IsWide r (or_else x y)
  wide_or r Plain y p q = q
  wide_or r _ y p q = p

  -- so does a container, if there is one
  abbrev pub SomeWide : Row → Option Container → Type 0
  SomeWide r None = Unit {0}
  SomeWide r (Some k) = indent_of r < marker_width k r

  abbrev pub SomeSize : Option Marker → Type 0
  SomeSize None = Unit {0}
  SomeSize (Some m) = 0 < m.size

  delimited-size : (ds bs : List ℕ) → SomeSize (delimited ds bs)
  delimited-size ds bs = grind arith

  marker-size : (bs : List ℕ) → SomeSize (marker_of bs)
  marker-size bs = grind (arith, delimited-size)

  task-wide : (m : Option Marker) (r : Row) → SomeSize m → SomeWide r (with_task options r (item_with r m))
  task-wide None r some = tt
  task-wide (Some m) r some = grind arith

  container-wide : (o : Option Container) (quoted : Bool) (alert : Option BlockQuoteKind) (r : Row) → SomeWide r o → SomeWide r (container_with o quoted alert)
  container-wide o quoted alert r some = grind arith

  footnote-some : (old : Bool) (r : Row) (o : Option Parsed) → footnote_in (words_of r) ≡ o → SomeWide r (footnote_with old r o)
  footnote-some old r None e = tt
  footnote-some old r (Some found) e = go (without_indent r.columns) refl
    where
      go : (cs : List Column) → without_indent r.columns ≡ cs → indent_of r < footnote_width (marker_columns found.bytes r.columns) r
      go [] ec = absurd (let q : None ≡ Some found = sym (ap (λ ds. footnote_in (bytes_of ds)) ec) ∙ e in cc)
      go (c ∷ cs) ec = grind arith

  -- a marker of a footnote definition has a column
  footnote-wide : (f : Footnotes) (r : Row) → SomeWide r (footnote_of f r)
  footnote-wide f r = grind (arith, footnote-some)

  or-wide : (x y : Option Container) (r : Row) → SomeWide r x → SomeWide r y → SomeWide r (footnote_or x y)
  or-wide (Some k) y r wide other = wide
  or-wide None y r wide other = other

  container_of-wide : (r : Row) → SomeWide r (container_of options r)
  container_of-wide r = grind (arith, or-wide, footnote-wide, container-wide, task-wide, marker-size)

  wide_nests : (r : Row) (o : Option Container) → SomeWide r o → IsWide r (nests_if o)
  wide_nests r (Some k) some = some
  wide_nests r None some = tt

  wide_fenced : (r : Row) (o : Option Fence) (ahead : List Row) → IsWide r (fenced_if o ahead)
  wide_fenced r (Some fence) ahead = tt
  wide_fenced r None ahead = tt

  wide_html : (r : Row) (ahead : List Row) (o : Option ℕ) → IsWide r (html_if r ahead o)
  wide_html r ahead (Some kind) = tt
  wide_html r ahead None = tt

  wide_break : (r : Row) (z : Bool) → IsWide r (break_if z)
  wide_break r true = tt
  wide_break r false = tt

  wide_heading : (r : Row) (z : Bool) (level : ℕ) → IsWide r (heading_if z level)
  wide_heading r true level = tt
  wide_heading r false level = tt

  wide_defined : (r : Row) (lines : ℕ) (o : Option Defined) → IsWide r (defined_if lines o)
  wide_defined r lines (Some found) = tt
  wide_defined r lines None = tt

  wide_table : (r : Row) (o : Option (List Alignment)) (ahead : List Row) → IsWide r (table_if options o ahead)
  wide_table r (Some alignments) ahead = tt
  wide_table r None ahead = tt

  wide_text : (r : Row) (ahead : List Row) → IsWide r (text_of options r ahead)
  wide_text r ahead = search (rules, wide_or, wide_if, wide_defined, wide_table)

  wide_leaf : (r : Row) (ahead : List Row) → IsWide r (leaf_of options r ahead)
  wide_leaf r ahead = search (rules, wide_or, wide_html, wide_break, wide_heading, wide_fenced, wide_text)

  wide_metadata : (r : Row) (o : Option MetadataBlockKind) (ahead : List Row) → IsWide r (metadata_begun o ahead)
  wide_metadata r o ahead = grind arith

  pub wide_opens : (r : Row) (ahead : List Row) → IsWide r (opens options r ahead)
  unfolding opens
  wide_opens r ahead =
      wide_if r r.lazy Plain _ tt
      (wide_or r (metadata_begun (metadata_kind options r) ahead) (whole_opens options r ahead) (wide_metadata r (metadata_kind options r) ahead)
      (wide_if r (is_blank_line r) Blank _ tt
      (wide_if r (nat_le 4 (indent_of r)) (Takes IndentedCode (counted code_continuation ahead)) _ tt
      (wide_or r (nests_if (container_of options r)) (leaf_of options r ahead) (wide_nests r (container_of options r) (container_of-wide r)) (wide_leaf r ahead)))))

  opens-some : (r : Row) (ahead : List Row) (k : Container) → opens options r ahead ≡ Nests k → 0 < length r.columns
  unfolding opens
  opens-some r ahead k e = grind (arith, no_metadata)

  pub marker-within : (k : Container) (r : Row) → marker_width k r ≤ width_of k r
  marker-within k r = grind arith

  -- inside a container a first line has fewer columns
  fewer : (k : Container) (r : Row) → indent_of r < marker_width k r → 0 < length r.columns → length (enter k r).columns < length r.columns
  unfolding enter
  fewer k r wide some = let more = marker-within k r in rw (length-drop (width_of k r) r.columns) (omega (arith, wide, more, some))

  -- the line after the container's own marker is shorter
  pub marker_len : (k : Container) (r : Row) (ahead : List Row) → opens options r ahead ≡ Nests k → length (without (marker_width k r) r).columns < length r.columns
  marker_len k r ahead e = grind (arith, wide_opens, length-drop, opens-some)

  pub enter-lazy : (k : Container) (r : Row) → (enter k r).lazy ≡ r.lazy
  unfolding enter
  enter-lazy k r = refl

  wide-lazy : (width : ℕ) (r s : Row) → (if is_blank_line r || nat_le width (indent_of r) then Some (without width r) else None) ≡ Some s → s.lazy ≡ r.lazy
  wide-lazy width r s e = grind arith

  keep_as-lazy : (k : Container) (r s : Row) → keep_as k r ≡ Some s → s.lazy ≡ r.lazy
  keep_as-lazy (BlockQuote alert) r s e = grind arith
  keep_as-lazy (Footnote label true size) r s e = grind arith
  keep_as-lazy (Footnote label false size) r s e = wide-lazy 4 r s e
  keep_as-lazy (Item delimiter number width task) r s e = wide-lazy width r s e
  keep_as-lazy (ListDefinition width) r s e = wide-lazy width r s e

  or_no : (x y : Bool) → (x || y) ≡ false → x ≡ false
  or_no true y e = e
  or_no false y e = refl

  -- a line that has the prefix lacks none, and neither does its rest
  pub kept-whole : (k : Container) (bare : Bool) (r s : Row) → keeps k bare r ≡ Some s → s.lazy ≡ false
  unfolding keeps
  kept-whole k bare r s e = search (rules, keep_as-lazy, or_no)

  pub keeps-lazy : (k : Container) (bare : Bool) (r : Row) → r.lazy ≡ true → keeps k bare r ≡ None
  unfolding keeps
  keeps-lazy k bare r e = rw e refl

  pub strip_lazy : (k : Container) (bare : Bool) (r : Row) → keeps k bare r ≡ None → strip k bare r ≡ lazy_row r
  strip_lazy k bare r e = ap (λ o. strip_as o r) e

  pub strip_whole : (k : Container) (bare : Bool) (r s : Row) → keeps k bare r ≡ Some s → (strip k bare r).lazy ≡ false
  strip_whole k bare r s e = ap (λ o. (strip_as o r).lazy) e ∙ kept-whole k bare r s e

  pub strip-still : (k : Container) (bare : Bool) (r : Row) → r.lazy ≡ true → (strip k bare r).lazy ≡ true
  strip-still k bare r e = ap (λ s. s.lazy) (strip_lazy k bare r (keeps-lazy k bare r e))

  pub lazy-same : (r : Row) → r.lazy ≡ true → lazy_row r ≡ r
  lazy-same r e = ap (λ z. record { columns = r.columns; at = r.at; content_end = r.content_end; line_end = r.line_end; lazy = z; held = r.held }) (sym e)

  not_or : (x y : Bool) → not (x || y) ≡ true → x ≡ false
  not_or true y e = absurd (true≢false (sym e))
  not_or false y e = refl

  and_none : (z : Bool) → (z && false) ≡ false
  and_none true = refl
  and_none false = refl

  or_none : (z : Bool) → (z || false) ≡ z
  or_none true = refl
  or_none false = refl

  -- a lazy line is no table's head
  pub lazy-head : (r : Row) (ahead : List Row) → r.lazy ≡ true → table_head options r ahead ≡ None
  lazy-head r ahead e = cc (and_none options.tables)

  pub lazy-interrupts : (r : Row) (ahead : List Row) → r.lazy ≡ true → table_interrupts options r ahead ≡ false
  lazy-interrupts r ahead e = cc (lazy-head r ahead e, and_none (begins_with_pipe (words_of r)), and_none (nat_le (indent_of r) 3))

  -- and begins no definition
  pub lazy-defines : (r : Row) → r.lazy ≡ true → definition_marker options r ≡ None
  lazy-defines r e = ap (λ z. if options.definition_list && (not z && nat_le (indent_of r) 3) then definition_width r else None) e ∙ ap (λ z. if z then definition_width r else None) (and_none options.definition_list)

  -- a lazy line looks at nothing ahead
  pub texts-lazy : (r : Row) (x y : List Row) → r.lazy ≡ true → texts options r x ≡ texts options r y
  unfolding texts
  texts-lazy r x y e = ap (λ z. not (interrupts options (not r.lazy) r x || (z || begins_definition options r))) (lazy-interrupts r x e ∙ sym (lazy-interrupts r y e))

  lazy-texts : (r : Row) (y : List Row) → texts options (lazy_row r) y ≡ not (interrupts options false r y)
  unfolding texts
  lazy-texts r y =
      ap (λ z. not (interrupts options false r y || (z || begins_definition options (lazy_row r)))) (lazy-interrupts (lazy_row r) y refl)
      ∙ ap (λ z. not (interrupts options false r y || is_marker z)) (lazy-defines (lazy_row r) refl) ∙ ap not (or_none (interrupts options false r y))

  pub lazily-texts : (k : Container) (r : Row) (x y : List Row) → lazily options k r x ≡ true → texts options (lazy_row r) y ≡ true
  unfolding lazily
  lazily-texts k r x y e = lazy-texts r y ∙ ap not (not_or (interrupts options false r x) (table_interrupts options r x || (is_definition k && begins_definition options r)) e)

  pub texts-lazily : (k : Container) (r : Row) (x : List Row) → r.lazy ≡ true → texts options (lazy_row r) [] ≡ true → lazily options k r x ≡ true
  unfolding lazily
  texts-lazily k r x e t = grind (arith, lazy-interrupts, lazy-defines, and_none, or_none, lazy-texts)

  -- a line is whole, or text that lacks a prefix
  pub texts_or : (r : Row) (ahead : List Row) → texts options (lazy_row r) [] ≡ true → (r.lazy ≡ false) ⊎ (texts options r ahead ≡ true)
  texts_or r ahead t = grind (arith, texts-lazy, lazy-same)

  -- a line that begins anything except a blank line is not blank
  pub opens-words : (r : Row) (ahead : List Row) → r.lazy ≡ false → opens options r ahead ≢ Blank → is_blank_line r ≡ false
  unfolding opens
  opens-words r ahead w ne = go (is_blank_line r) refl
    where
      go : (z : Bool) → is_blank_line r ≡ z → is_blank_line r ≡ false
      go false e = e
      go true e = absurd (ne (rw (w, no_metadata options r e, e) refl))

  pub texts-words : (r : Row) (ahead : List Row) → texts options r ahead ≡ true → is_blank_line r ≡ false
  unfolding texts
  texts-words r ahead t = not_or (is_blank_line r) _ (ap not (not_or (interrupts options (not r.lazy) r ahead) (table_interrupts options r ahead || begins_definition options r) t))

  -- a line begins a definition of this width
  pub record Defines (r : Row) (width : ℕ) : Type 0 where
    pub whole : r.lazy ≡ false
    pub colon : begins_with 58 (words_of r) ≡ true
    pub near : nat_le (indent_of r) 3 ≡ true
    pub wide : width ≡ width_with 1 r

  marker-defines : (r : Row) (width : ℕ) → definition_marker options r ≡ Some width → Defines r width
  marker-defines r width e = grind arith

  place-defines : (place : Place) (r : Row) (width : ℕ) → definition_at options place r ≡ Some width → Defines r width
  place-defines place r width e = grind (arith, marker-defines)

  -- after a task marker, text begins a paragraph; after a title, a marker begins a definition; at any other place a line begins the same
  -- block
  pub at-or : (place : Place) (r : Row) (ahead : List Row)
      → ((r.lazy ≡ false) × (opens_at options place r ahead ≡ text_begun r)) ⊎ (((width : ℕ) × (opens_at options place r ahead ≡ Nests (ListDefinition width)) × Defines r width) ⊎ (opens_at options place r ahead ≡ opens options r ahead))
  at-or place r ahead = grind (arith, place-defines)

  -- a property of text, of a definition, and of the opening at any other place holds of the opening at this place
  pub at-either : (Holds : Opening → Type 0) (place : Place) (r : Row) (ahead : List Row) → (r.lazy ≡ false → Holds (text_begun r)) → ((width : ℕ) → Defines r width → Holds (Nests (ListDefinition width))) → Holds (opens options r ahead) → Holds (opens_at options place r ahead)
  at-either Holds place r ahead text defined other =
      ⊎_elim (λ p. subst Holds (sym p.1) (text p.0)) (λ q. ⊎_elim (λ d. subst Holds (sym d.1) (defined d.0 d.2)) (λ o. subst Holds (sym o) other) q) (at-or place r ahead)

  text-nests : (k : Container) (r : Row) → text_begun r ≡ Nests k → ⊥
  text-nests k r e = grind arith

  text-takes : (leaf : Leaf) (n : ℕ) (r : Row) → text_begun r ≡ Takes leaf n → ⊥
  text-takes leaf n r e = grind arith

  pub at-lazy : (place : Place) (r : Row) (ahead : List Row) → r.lazy ≡ true → opens_at options place r ahead ≡ Plain
  at-lazy place r ahead e =
      at-either (λ o. o ≡ Plain) place r ahead (λ w. absurd (true≢false (sym e ∙ w))) (λ width d. absurd (true≢false (sym e ∙ d.whole))) (opens-lazy r ahead e)

  pub at-whole : (place : Place) (r : Row) (ahead : List Row) → opens_at options place r ahead ≢ Plain → r.lazy ≡ false
  at-whole place r ahead ne = grind (arith, at-lazy)

  -- a container that begins there is a definition, or begins so anywhere
  pub at-nests : (place : Place) (r : Row) (ahead : List Row) (k : Container) → opens_at options place r ahead ≡ Nests k → ((width : ℕ) × (k ≡ ListDefinition width) × Defines r width) ⊎ (opens options r ahead ≡ Nests k)
  at-nests place r ahead k e = grind (arith, at-either, text-nests)

  pub at-other : (place : Place) (r : Row) (ahead : List Row) (k : Container) → is_definition k ≡ false → opens_at options place r ahead ≡ Nests k → opens options r ahead ≡ Nests k
  at-other place r ahead k n e = ⊎_elim (λ d. absurd (true≢false (sym (ap is_definition d.1) ∙ n))) (λ q. q) (at-nests place r ahead k e)

  pub at-takes : (place : Place) (r : Row) (ahead : List Row) (leaf : Leaf) (n : ℕ) → opens_at options place r ahead ≡ Takes leaf n → opens options r ahead ≡ Takes leaf n
  at-takes place r ahead leaf n e =
      at-either (λ o. o ≡ Takes leaf n → opens options r ahead ≡ Takes leaf n) place r ahead (λ w q. absurd (text-takes leaf n r q)) (λ width d q. absurd (let p : Nests (ListDefinition width) ≡ Takes leaf n = q in cc)) (λ q. q) e

  pub at-len : (place : Place) (r : Row) (ahead : List Row) (leaf : Leaf) (n : ℕ) → opens_at options place r ahead ≡ Takes leaf n → n ≤ length ahead
  at-len place r ahead leaf n e = opens-len r ahead leaf n (at-takes place r ahead leaf n e)

  -- a definition's marker takes a column after the indent
  pub defines-wide : (r : Row) (width : ℕ) → Defines r width → indent_of r < width
  defines-wide r width d = let e : width ≡ width_with 1 r = d.wide in omega (arith, e)

  colon-some : (r : Row) → begins_with 58 (words_of r) ≡ true → 0 < length r.columns
  colon-some r e = go r.columns refl
    where
      go : (cs : List Column) → r.columns ≡ cs → 0 < length r.columns
      go (c ∷ cs) ec = let n : length r.columns ≡ suc (length cs) = ap length ec in omega (arith, n)
      go [] ec = absurd (true≢false (sym e ∙ ap (λ cs. begins_with 58 (bytes_of (without_indent cs))) ec))

  colon-words : (r : Row) → begins_with 58 (words_of r) ≡ true → is_blank_line r ≡ false
  colon-words r e = grind arith

  pub at-wide : (place : Place) (r : Row) (ahead : List Row) → IsWide r (opens_at options place r ahead)
  at-wide place r ahead = grind (arith, at-either, defines-wide, wide_opens)

  pub at-enter : (place : Place) (k : Container) (r : Row) (ahead : List Row) → opens_at options place r ahead ≡ Nests k → length (enter k r).columns < length r.columns
  at-enter place k r ahead e =
      fewer k r (subst (IsWide r) e (at-wide place r ahead)) (⊎_elim (λ d. colon-some r d.2.colon) (λ q. opens-some r ahead k q) (at-nests place r ahead k e))

  pub at-words : (place : Place) (r : Row) (ahead : List Row) → r.lazy ≡ false → opens_at options place r ahead ≢ Blank → is_blank_line r ≡ false
  at-words place r ahead w ne = grind (arith, at-either, colon-words, opens-words)

  -- a line that begins nothing is blank, whatever its place
  pub blank-at : (place : Place) (r : Row) (ahead : List Row) → opens options r ahead ≡ Blank → is_blank_line r ≡ true → opens_at options place r ahead ≡ Blank
  blank-at place r ahead e b =
      at-either (λ o. o ≡ Blank) place r ahead (λ l. ap (λ z. if z then Blank else Plain) b) (λ width d. absurd (true≢false (sym b ∙ colon-words r d.colon))) e

  -- the same block begins at places that agree on task markers and titles
  pub at-same : (one other : Place) (r : Row) (ahead : List Row) → is_after_task one ≡ is_after_task other → is_after_title one ≡ is_after_title other → opens_at options one r ahead ≡ opens_at options other r ahead
  at-same one other r ahead e f = cc

  -- no definition may begin, and the place is not after a task marker
  pub at-plain : (place : Place) (r : Row) (ahead : List Row) → is_after_task place ≡ false → definition_at options place r ≡ None → opens_at options place r ahead ≡ opens options r ahead
  at-plain place r ahead e d =
      ap (λ z. if z && not r.lazy then text_begun r else definition_or (definition_at options place r) (opens options r ahead)) e ∙ ap (λ o. definition_or o (opens options r ahead)) d

  -- with the option off no definition begins
  pub off-defines : (place : Place) (r : Row) → options.definition_list ≡ false → definition_at options place r ≡ None
  off-defines place r e = grind arith
