-- The heads of tables, which the next line tells.
use Rattle.std.proofs.Common.{◌≡◌, ℕ, suc, ◌<◌, ◌≤◌, Bool, true, false, ◌==◌, ◌&&◌, not, nat_le, List, [], ◌∷◌, drop, length, Option, Some, None, refl, sym, ap, ◌∙◌, arith, true≢false}
use Rattle.std.specs.Prelude.{if◌then◌else◌, MatchOption, is_some, nat_lt}
use Rattle.std.proofs.lemmas.Bool.{eqb-true, le-leb, ltb-true, ltb-false}
use Rattle.cmark_grammar.specs.Alignment.{Alignment}
use Rattle.cmark_grammar.specs.Answers.{Lookup}
use Rattle.cmark_grammar.specs.Containers.{Container}
use Rattle.cmark_grammar.specs.Openings.{Table, count_rows, interrupts, table_if}
use Rattle.cmark_grammar.specs.Options.{Options}
use Rattle.cmark_grammar.specs.Rows.{Row, indent_of, words_of}
use Rattle.cmark_grammar.specs.TableRows.{holds_pipe, count_cells, count_missing, most_filled, with_columns, delimited_ahead, table_head, is_some_head, begins_with_pipe, table_interrupts}
use Rattle.cmark_grammar.specs.Tables.{delimiter_row}
use Rattle.cmark_items.specs.ItemNodes.{columns_of}
use Rattle.cmark_line_rules.specs.Rests.{row_of}
use Rattle.cmark_line_rules.specs.declared.line_rest.LineRest.{LineRest}
use Rattle.cmark_block_model.specs.BlockPass.{is_row, leaf_begun, begin_as, paragraph_begun}
use Rattle.cmark_block_model.specs.OpenBlocks as model
use Rattle.cmark_blocks.specs.TablesAhead.{IsHead}
use Rattle.cmark_blocks.specs.declared.table.TableHead.{TableHead}

-- how many cells a line has that may be a head, if it may be one
pub cells-some : (z : Bool) (cells columns : ℕ) → Some columns ≡ (if z then Some cells else None) → (z ≡ true) × (cells ≡ columns)
cells-some true cells columns e = (refl, let q : Some columns ≡ Some cells = e in cc)
cells-some false cells columns e = absurd (let q : Some columns ≡ None = e in cc)

module _ (options : Options) (r : Row) (ahead : List Row) where
  by_tests : (tables pipe : Bool) → options.tables ≡ tables → holds_pipe (words_of r) ≡ pipe →
      table_head options r ahead ≡ (if tables && (not r.lazy && pipe) then delimited_ahead (count_cells r) ahead else None)
  by_tests tables pipe e f =
      ap (λ z. if z && (not r.lazy && holds_pipe (words_of r)) then delimited_ahead (count_cells r) ahead else None) e
      ∙ ap (λ z. if tables && (not r.lazy && z) then delimited_ahead (count_cells r) ahead else None) f

  -- a line is not a head if tables are not read, or if it contains no pipe that separates cells
  pub unread-head : options.tables ≡ false → table_head options r ahead ≡ None
  unread-head off = by_tests false (holds_pipe (words_of r)) off refl

  -- else the next line tells
  pub head-ahead : (columns : ℕ) → options.tables ≡ true → r.lazy ≡ false → holds_pipe (words_of r) ≡ true → count_cells r ≡ columns → table_head options r ahead ≡ delimited_ahead columns ahead
  head-ahead columns on whole pipe cells =
      by_tests true true on pipe
      ∙ ap (λ z. if true && (not z && true) then delimited_ahead (count_cells r) ahead else None) whole
      ∙ ap (λ n. delimited_ahead n ahead) cells

  pub head-alone : options.tables ≡ true → r.lazy ≡ false → holds_pipe (words_of r) ≡ true → ahead ≡ [] → table_head options r ahead ≡ None
  head-alone on whole pipe none = head-ahead (count_cells r) on whole pipe refl ∙ ap (delimited_ahead (count_cells r)) none

-- the columns of a delimiter row
no-columns : (o : Option (List Alignment)) → is_some_head o ≡ false → o ≡ None
no-columns None e = refl
no-columns (Some alignments) e = absurd (true≢false e)

abbrev pub Says : (columns : ℕ) → Option (List Alignment) → Option (List Alignment) → Type 0
Says columns row head = (head ≡ Some (columns_of row)) × (length (columns_of row) ≡ columns)

with-columns : (columns : ℕ) (row : Option (List Alignment)) → is_some_head (with_columns columns row) ≡ true → Says columns row (with_columns columns row)
with-columns columns None e = absurd (true≢false (sym e))
with-columns columns (Some alignments) e = go (length alignments == columns) refl e
  where
    go : (z : Bool) → (length alignments == columns) ≡ z → is_some_head (if z then Some alignments else None) ≡ true → Says columns (Some alignments) (if z then Some alignments else None)
    go true same e = (refl, eqb-true (length alignments) columns same)
    go false same e = absurd (true≢false (sym e))

delimiter-says : (columns : ℕ) (s : Row) (ahead : List Row) → is_some_head (delimited_ahead columns (s ∷ ahead)) ≡ true → Says columns (delimiter_row (words_of s)) (delimited_ahead columns (s ∷ ahead))
delimiter-says columns s ahead e = go (nat_le (indent_of s) 3) e
  where
    row : Option (List Alignment)
    row = delimiter_row (words_of s)

    go : (z : Bool) → is_some_head (if z then with_columns columns row else None) ≡ true → Says columns row (if z then with_columns columns row else None)
    go true e = with-columns columns row e
    go false e = absurd (true≢false (sym e))

module _ (options : Options) (r : Row) (ahead : List Row) (columns : ℕ) (s : Row) (following : List Row) (next : ahead ≡ s ∷ following)
    (on : options.tables ≡ true) (whole : r.lazy ≡ false) (pipe : holds_pipe (words_of r) ≡ true) (cells : count_cells r ≡ columns) where
  here : table_head options r ahead ≡ delimited_ahead columns (s ∷ following)
  here = head-ahead options r ahead columns on whole pipe cells ∙ ap (delimited_ahead columns) next

  -- the next line is a delimiter row, or is not
  pub head-is : is_some_head (delimited_ahead columns (s ∷ following)) ≡ true → IsHead options r ahead columns s following
  head-is e = let says = delimiter-says columns s following e in record { next = next; is = here ∙ says.0; many = says.1 }

  pub head-not : is_some_head (delimited_ahead columns (s ∷ following)) ≡ false → table_head options r ahead ≡ None
  head-not e = here ∙ no-columns (delimited_ahead columns (s ∷ following)) e

-- whether a table interrupts a paragraph
module _ (options : Options) (r : Row) (ahead : List Row) where
  pub interrupts-by : (begins : Bool) (head : Option (List Alignment)) → begins ≡ (nat_le (indent_of r) 3 && begins_with_pipe (words_of r)) → table_head options r ahead ≡ head →
      table_interrupts options r ahead ≡ (begins && is_some_head head)
  interrupts-by begins head e f =
      ap (λ o. nat_le (indent_of r) 3 && (begins_with_pipe (words_of r) && is_some_head o)) f
      ∙ grouped (nat_le (indent_of r) 3) (begins_with_pipe (words_of r)) (is_some_head head) ∙ ap (λ z. z && is_some_head head) (sym e)
    where
      grouped : (a b c : Bool) → (a && (b && c)) ≡ ((a && b) && c)
      grouped true b c = refl
      grouped false b c = refl

  pub interrupts-never : options.tables ≡ false → table_interrupts options r ahead ≡ false
  interrupts-never off =
      interrupts-by (nat_le (indent_of r) 3 && begins_with_pipe (words_of r)) None refl (unread-head options r ahead off)
      ∙ nothing (nat_le (indent_of r) 3 && begins_with_pipe (words_of r))
    where
      nothing : (z : Bool) → (z && false) ≡ false
      nothing true = refl
      nothing false = refl

-- a head was found, or the line is not a head
pub head-in_text : (options : Options) (r : Row) (ahead : List Row) (following : LineRest → List Row) (in_text : Option TableHead) →
    MatchOption in_text (table_head options r ahead ≡ None) (λ head. IsHead options r ahead head.columns (row_of head.delimiter) (following head.delimiter)) → is_some in_text ≡ is_some_head (table_head options r ahead)
head-in_text options r ahead following None none = sym (ap is_some_head none)
head-in_text options r ahead following (Some head) some = sym (ap is_some_head some.is)

-- the rows
module _ (options : Options) (columns left : ℕ) (r : Row) where
  -- a line is another row if it does not interrupt, and does not miss too many cells
  pub row-by : (ends misses : Bool) → ends ≡ interrupts options false r [] → misses ≡ nat_lt left (count_missing columns r) → (not ends && not misses) ≡ is_row options columns left r
  row-by ends misses e f = ap (λ z. not z && not misses) e ∙ ap (λ z. not (interrupts options false r []) && z) (ap not f ∙ not-less (nat_lt left (count_missing columns r)) refl)
    where
      not-less : (z : Bool) → nat_lt left (count_missing columns r) ≡ z → not z ≡ nat_le (count_missing columns r) left
      not-less true e = let lt = ltb-true left (count_missing columns r) e in more (count_missing columns r) left lt
        where
          more : (a b : ℕ) → b < a → false ≡ nat_le a b
          more a b lt = grind (arith)
      not-less false e = sym (le-leb (count_missing columns r) left (ltb-false left (count_missing columns r) e))

  pub interrupted-row : interrupts options false r [] ≡ true → is_row options columns left r ≡ false
  interrupted-row e = ap (λ z. not z && nat_le (count_missing columns r) left) e

  -- its missing cells may be filled in
  pub row-fits : is_row options columns left r ≡ true → count_missing columns r ≤ left
  row-fits e = go (not (interrupts options false r [])) e
    where
      few : (a b : ℕ) → nat_le a b ≡ true → a ≤ b
      few a b e = grind (arith)

      go : (z : Bool) → (z && nat_le (count_missing columns r) left) ≡ true → count_missing columns r ≤ left
      go true e = few (count_missing columns r) left e
      go false e = absurd (true≢false (sym e))

-- the opening of a line that begins no other leaf
module _ (text : List ℕ) (options : Options) (lookup : Lookup) (m : model.Pass) (inside : Container → model.Pass) (r : Row) (ahead : List Row) (bare : Bool) where
  pub begins-table : (columns : ℕ) (delimiter : Row) (following : List Row) → IsHead options r ahead columns delimiter following →
      leaf_begun text options lookup (Table (columns_of (delimiter_row (words_of delimiter)))) (suc (count_rows options columns most_filled following)) r (delimiter ∷ following) m
      ≡ begin_as text options lookup (table_if options (table_head options r ahead) ahead) inside r ahead bare m
  begins-table columns delimiter following head =
      let alignments = columns_of (delimiter_row (words_of delimiter)) in
      sym (ap (λ o. begin_as text options lookup (table_if options o ahead) inside r ahead bare m) head.is
      ∙ ap (λ rs. leaf_begun text options lookup (Table alignments) (suc (count_rows options (length alignments) most_filled (drop 1 rs))) r rs m) head.next
      ∙ ap (λ n. leaf_begun text options lookup (Table alignments) (suc (count_rows options n most_filled following)) r (delimiter ∷ following) m) head.many)

  pub begins-paragraph : table_head options r ahead ≡ None → paragraph_begun text options lookup r m ≡ begin_as text options lookup (table_if options (table_head options r ahead) ahead) inside r ahead bare m
  begins-paragraph none = sym (ap (λ o. begin_as text options lookup (table_if options o ahead) inside r ahead bare m) none)
