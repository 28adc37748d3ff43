-- How many cells of a table are filled in.
use Rattle.std.proofs.Common.{◌≡◌, ℕ, zero, suc, ◌-◌, ◌≤◌, Bool, true, false, ◌==◌, ◌&&◌, not, nat_le, List, [], ◌∷◌, ◌++◌, length, drop, take, refl, sym, ap, ◌∙◌, subst, arith, Option, Some, None, true≢false}
use Rattle.std.specs.Prelude.{if◌then◌else◌}
use Rattle.cmark_grammar.specs.Alignment.{Alignment}
use Rattle.cmark_grammar.specs.Containers.{Container}
use Rattle.cmark_grammar.specs.Leaves.{Fence}
use Rattle.cmark_grammar.specs.LinkDefinitions.{Defined}
use Rattle.cmark_grammar.specs.MetadataBlockKind.{MetadataBlockKind}
use Rattle.cmark_grammar.specs.Openings.{Leaf, ThematicBreak, AtxHeading, IndentedCode, FencedCode, HtmlBlock, LinkDefinition, MetadataBlock, Table, Opening, Takes, Plain, or_else, nests_if, fenced_if, html_if, break_if, heading_if, defined_if, metadata_begun, interrupts, count_rows, table_if, text_of, leaf_of, opens, opens_at}
use Rattle.cmark_grammar.specs.Options.{Options}
use Rattle.cmark_grammar.specs.Rows.{Row, show_as, shown}
use Rattle.cmark_grammar.specs.TableRows.{one_more_if, count_cells, count_missing, most_filled, with_columns, table_head}
use Rattle.cmark_grammar.specs.Places.{Place}
use Rattle.cmark_block_model.proofs.BlockLaws.{at-takes, opens-len}
use Rattle.cmark_block_model.proofs.TableRanges.{filled}

le : (a b : ℕ) → nat_le a b ≡ true → a ≤ b
le a b e = grind (arith)

same : (a b : ℕ) → (a == b) ≡ true → a ≡ b
same a b e = grind (arith)

and-second : (a b : Bool) → (a && b) ≡ true → b ≡ true
and-second true b e = e
and-second false b e = absurd (true≢false (sym e))

-- of a leaf with these lines: a table's head has a cell for each column, and in its rows are few filled in
abbrev pub LeafFilled : Leaf → Row → List Row → Type 0
LeafFilled (Table alignments) first more = (count_missing (length alignments) first ≡ 0) × (filled (length alignments) (drop 1 more) ≤ 262144)
LeafFilled _ first more = Unit {0}

module _ (options : Options) where
  rows-filled : (columns left : ℕ) (ahead : List Row) → filled columns (take (count_rows options columns left ahead) ahead) ≤ left
  rows-filled columns left [] = omega arith
  rows-filled columns left (r ∷ ahead) =
      go (not (interrupts options false r ahead) && nat_le (count_missing columns r) left) refl (rows-filled columns (left - count_missing columns r) ahead)
    where
      go : (z : Bool) → (not (interrupts options false r ahead) && nat_le (count_missing columns r) left) ≡ z → filled columns (take (count_rows options columns (left - count_missing columns r) ahead) ahead) ≤ left - count_missing columns r
          → filled columns (take (one_more_if z (count_rows options columns (left - count_missing columns r) ahead)) (r ∷ ahead)) ≤ left
      go true e ih = let l = le (count_missing columns r) left (and-second (not (interrupts options false r ahead)) (nat_le (count_missing columns r) left) e) in omega (arith, ih, l)
      go false e ih = omega arith

  module _ (r : Row) (ahead : List Row) where
    abbrev LeafFills : ℕ → Leaf → Type 0
    LeafFills n (Table alignments) =
        (count_missing (length alignments) r ≡ 0) × (filled (length alignments) (take (n - 1) (drop 1 ahead)) ≤ most_filled) × (n ≡ suc (count_rows options (length alignments) most_filled (drop 1 ahead)))
    LeafFills n _ = Unit {0}

    abbrev Fills : Opening → Type 0
    Fills (Takes leaf n) = LeafFills n leaf
    Fills _ = Unit {0}

    fills_if : (b : Bool) (x y : Opening) → Fills x → Fills y → Fills (if b then x else y)
    fills_if true x y p q = p
    fills_if false x y p q = q

    fills_or : (x y : Opening) → Fills x → Fills y → Fills (or_else x y)
    fills_or Plain y p q = q
    fills_or _ y p q = p

    fills_nests : (o : Option Container) → Fills (nests_if o)
    fills_nests (Some k) = tt
    fills_nests None = tt

    fills_html : (o : Option ℕ) → Fills (html_if r ahead o)
    fills_html (Some kind) = tt
    fills_html None = tt

    fills_break : (z : Bool) → Fills (break_if z)
    fills_break true = tt
    fills_break false = tt

    fills_heading : (z : Bool) (level : ℕ) → Fills (heading_if z level)
    fills_heading true level = tt
    fills_heading false level = tt

    fills_fenced : (o : Option Fence) → Fills (fenced_if o ahead)
    fills_fenced (Some fence) = tt
    fills_fenced None = tt

    fills_defined : (lines : ℕ) (o : Option Defined) → Fills (defined_if lines o)
    fills_defined lines (Some found) = tt
    fills_defined lines None = tt

    fills_metadata : (o : Option MetadataBlockKind) → Fills (metadata_begun o ahead)
    fills_metadata o = grind arith

    -- the head has the same number of cells as the row after it
    abbrev HasColumns : Option (List Alignment) → Type 0
    HasColumns None = Unit {0}
    HasColumns (Some alignments) = length alignments ≡ count_cells r

    columns-of : (o : Option (List Alignment)) → HasColumns (with_columns (count_cells r) o)
    columns-of o = grind (arith, same)

    head-columns : HasColumns (table_head options r ahead)
    head-columns = grind (arith, columns-of, nat_le)

    fills_table : (o : Option (List Alignment)) → HasColumns o → Fills (table_if options o ahead)
    fills_table None h = tt
    fills_table (Some alignments) h = grind (arith, missing, filled, less_one, rows-filled)
      where
        less_one : (n : ℕ) → n ≡ suc n - 1
        less_one n = omega arith

        missing : (n : ℕ) → n ≡ count_cells r → count_missing n r ≡ 0
        missing n e = omega (arith, e)

    fills_text : Fills (text_of options r ahead)
    fills_text = grind (arith, fills_or, fills_if, fills_defined, fills_table, head-columns)

    fills_leaf : Fills (leaf_of options r ahead)
    fills_leaf = grind (arith, fills_or, fills_html, fills_break, fills_heading, fills_fenced, fills_text)

    fills_opens : Fills (opens options r ahead)
    unfolding opens
    fills_opens = grind (arith, fills_if, fills_or, fills_metadata, nat_le, fills_nests, fills_leaf)

  shown-take : (n : ℕ) (rs : List Row) → n ≤ length (shown rs) → take n (shown rs) ≡ take n rs
  shown-take zero rs l = refl
  shown-take (suc n) [] l = refl
  shown-take (suc n) (r ∷ rs) l = go r.lazy refl l (λ m. shown-take n rs m)
    where
      go : (z : Bool) → r.lazy ≡ z → suc n ≤ length (show_as z r (shown rs)) → (n ≤ length (shown rs) → take n (shown rs) ≡ take n rs) → take (suc n) (show_as r.lazy r (shown rs)) ≡ r ∷ take n rs
      go true e m ih = absurd (omega (arith, m))
      go false e m ih = ap (λ z. take (suc n) (show_as z r (shown rs))) e ∙ ap (λ xs. r ∷ xs) (ih (omega (arith, m)))

  take-front : (more rest : List Row) → take (length more) (more ++ rest) ≡ more
  take-front [] rest = refl
  take-front (r ∷ more) rest = ap (λ xs. r ∷ xs) (take-front more rest)

  leaf-filled : (first : Row) (rest : List Row) (leaf : Leaf) (more : List Row) → LeafFills first (shown (more ++ rest)) (length more) leaf → length more ≤ length (shown (more ++ rest)) → LeafFilled leaf first more
  leaf-filled first rest ThematicBreak more f l = tt
  leaf-filled first rest (AtxHeading level) more f l = tt
  leaf-filled first rest IndentedCode more f l = tt
  leaf-filled first rest (FencedCode fence) more f l = tt
  leaf-filled first rest (HtmlBlock kind) more f l = tt
  leaf-filled first rest (LinkDefinition definition) more f l = tt
  leaf-filled first rest (MetadataBlock kind) more f l = tt
  leaf-filled first rest (Table alignments) [] f l = (f.0, omega arith)
  leaf-filled first rest (Table alignments) (m ∷ more) f l = (f.0, go m.lazy refl f.1 l)
    where
      go : (z : Bool) → m.lazy ≡ z → filled (length alignments) (take (suc (length more) - 1) (drop 1 (show_as m.lazy m (shown (more ++ rest))))) ≤ most_filled → suc (length more) ≤ length (show_as m.lazy m (shown (more ++ rest)))
          → filled (length alignments) more ≤ 262144
      go true e g k = absurd (let n : suc (length more) ≤ 0 = subst (λ z. suc (length more) ≤ length (show_as z m (shown (more ++ rest)))) e k in omega (arith, n))
      go false e g k = grind (arith, filled, shown-take, take-front, one_less)
        where
          one_less : (n : ℕ) → suc n - 1 ≡ n
          one_less n = omega arith

  pub opened-filled : (first : Row) (rest : List Row) (leaf : Leaf) (more : List Row) → opens options first (shown (more ++ rest)) ≡ Takes leaf (length more) → LeafFilled leaf first more
  opened-filled first rest leaf more o =
      leaf-filled first rest leaf more (subst (Fills first (shown (more ++ rest))) o (fills_opens first (shown (more ++ rest)))) (opens-len options first (shown (more ++ rest)) leaf (length more) o)

  -- the number of a table's lines after its head: the delimiter row, and the rows
  pub table-lines : (place : Place) (r : Row) (ahead : List Row) (alignments : List Alignment) (n : ℕ) → opens_at options place r ahead ≡ Takes (Table alignments) n → n ≡ suc (count_rows options (length alignments) most_filled (drop 1 ahead))
  table-lines place r ahead alignments n o = (subst (Fills r ahead) (at-takes options place r ahead (Table alignments) n o) (fills_opens r ahead)).2
