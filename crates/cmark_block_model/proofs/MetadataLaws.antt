-- Metadata blocks are outside of all containers: a line in a container has lost a column, is held, lacks a prefix, or has no column left.
use Rattle.std.proofs.Common.{◌≡◌, ◌⊎◌, inl, inr, ℕ, zero, suc, ◌+◌, ◌≤◌, ◌<◌, Bool, true, false, ◌==◌, ◌||◌, List, [], ◌∷◌, ◌++◌, length, drop, refl, sym, subst, Option, Some, None, arith, ne_eqb, rules}
use Rattle.std.specs.Prelude.{if◌then◌else◌, nat_le}
use Rattle.cmark_grammar.specs.Characters.{tab}
use Rattle.cmark_grammar.specs.Options.{Options}
use Rattle.cmark_grammar.specs.Places.{Place, Apart, AfterTitle, over_blank}
use Rattle.cmark_grammar.specs.Alignment.{Alignment}
use Rattle.cmark_grammar.specs.Lines.{lines, content}
use Rattle.cmark_grammar.specs.Columns.{Column, expand, tab_columns, to_tab_stop}
use Rattle.cmark_grammar.specs.Rows.{Row, rows, rows_from, without, place, first_place, begin_of, is_blank_line, indent_of, shown}
use Rattle.cmark_grammar.specs.Leaves.{Fence}
use Rattle.cmark_grammar.specs.LinkDefinitions.{Defined}
use Rattle.cmark_grammar.specs.Metadata.{metadata_kind}
use Rattle.cmark_grammar.specs.Containers.{Container, BlockQuote, Item, Footnote, ListDefinition, is_block_quote, block_quote_width, marker_width, width_of, enter, keep_as, keeps, strip_as, strip, strips, is_alert, is_bare_start, unless_tag, insides}
use Rattle.cmark_grammar.specs.Openings.{Opening, Nests, Takes, or_else, nests_if, fenced_if, html_if, break_if, heading_if, defined_if, table_if, text_of, leaf_of, opens, opens_at}
use Rattle.cmark_grammar.specs.Blocks.{Blocks, Nil, BlankLine, Paragraph, SetextHeading, LeafBlock, ContainerBlock, Body, after_leaf, after_container, place_in}
use Rattle.cmark_block_model.specs.MetadataPlaces.{is_metadata, HasNoMetadata, HasMetadataOutside}
use Rattle.cmark_block_model.proofs.RowPlaces.{Runs, drop-Runs, expand-Runs, first_place-Runs, kept-following}
use Rattle.cmark_block_model.proofs.BlockLaws.{at-wide, at-either, marker-within}

-- no column is of a byte before this place
abbrev Following : ℕ → List Column → Type 0
Following at [] = Unit {0}
Following at (c ∷ cs) = (at ≤ c.at) × Following at cs

drop-Following : (n at : ℕ) (cs : List Column) → Following at cs → Following at (drop n cs)
drop-Following zero at cs b = b
drop-Following (suc n) at [] b = tt
drop-Following (suc n) at (c ∷ cs) b = drop-Following n at cs b.1

tab-Following : (first at part n : ℕ) (rest : List Column) → first ≤ at → Following first rest → Following first (tab_columns at part n ++ rest)
tab-Following first at part zero rest le b = b
tab-Following first at part (suc n) rest le b = (le, tab-Following first at (suc part) n rest le b)

expand-Following : (first column at : ℕ) (bs : List ℕ) → first ≤ at → Following first (expand column at bs)
expand-Following first column at [] le = tt
expand-Following first column at (b ∷ bs) le =
    go (b == tab) (expand-Following first (column + to_tab_stop column) (suc at) bs (omega (arith, le))) (expand-Following first (suc column) (suc at) bs (omega (arith, le)))
  where
    go : (z : Bool) → Following first (expand (column + to_tab_stop column) (suc at) bs) → Following first (expand (suc column) (suc at) bs)
        → Following first (if z then tab_columns at 0 (to_tab_stop column) ++ expand (column + to_tab_stop column) (suc at) bs else record { byte = b; at = at; part = 0 } ∷ expand (suc column) (suc at) bs)
    go true p q = tab-Following first at 0 (to_tab_stop column) (expand (column + to_tab_stop column) (suc at) bs) le p
    go false p q = (le, q)

-- the columns of a line of a text, from which some at the beginning may have been taken
abbrev IsLine : Row → Type 0
IsLine r = Runs (begin_of r) r.columns r.content_end × Following r.at r.columns

-- a line in a container
abbrev IsInside : Row → Type 0
IsInside r = (r.lazy ≡ true) ⊎ ((r.held ≡ true) ⊎ ((r.columns ≡ []) ⊎ (r.at < begin_of r)))

abbrev Each : (Row → Type 0) → List Row → Type 0
Each P [] = Unit {0}
Each P (r ∷ rs) = P r × Each P rs

each-following : (P : Row → Type 0) (more rest : List Row) → Each P (more ++ rest) → Each P rest
each-following P [] rest h = h
each-following P (r ∷ more) rest h = each-following P more rest h.1

each-front : (P : Row → Type 0) (more rest : List Row) → Each P (more ++ rest) → Each P more
each-front P [] rest h = tt
each-front P (r ∷ more) rest h = (h.0, each-front P more rest h.1)

row-line : (at : ℕ) (ls : List (List ℕ)) → Each IsLine (rows_from at ls)
row-line at [] = tt
row-line at (l ∷ ls) =
    let runs = expand-Runs 0 at (content l) in
    let e = first_place-Runs at (expand 0 at (content l)) (at + length (content l)) runs in
    ((subst (λ p. Runs p (expand 0 at (content l)) (at + length (content l))) (sym e) runs, expand-Following at 0 at (content l) (omega arith)), row-line (at + length l) ls)

-- taking columns leaves a line
without-line : (n : ℕ) (r : Row) → IsLine r → IsLine (without n r)
without-line n r h = ((drop-Runs n (begin_of r) r.columns r.content_end h.0).0, drop-Following n r.at r.columns h.1)

-- a line from which a column was taken is in a container
without-inside : (n : ℕ) (r : Row) → 0 < n → IsLine r → IsInside (without n r)
without-inside zero r lt h = absurd (omega (arith, lt))
without-inside (suc n) r lt h = go r.columns h.0 h.1
  where
    go : (cs : List Column) → Runs (first_place r.content_end cs) cs r.content_end → Following r.at cs → (r.lazy ≡ true) ⊎ ((r.held ≡ true) ⊎ ((drop (suc n) cs ≡ []) ⊎ (r.at < first_place r.content_end (drop (suc n) cs))))
    go [] runs b = inr (inr (inl refl))
    go (c ∷ cs) runs b =
        let l : suc c.at ≤ first_place r.content_end (drop n cs) = (drop-Runs n (suc c.at) cs r.content_end runs.1).1 in
        let p : r.at ≤ c.at = b.0 in
        inr (inr (inr (omega (arith, l, p))))

-- each container but a footnote definition of the old kind takes a column
abbrev HasPrefix : Container → Type 0
HasPrefix (Item delimiter number width task) = 0 < width
HasPrefix (ListDefinition width) = 0 < width
HasPrefix _ = Unit {0}

wide-inside : (width : ℕ) (r s : Row) → 0 < width → IsLine r → (if is_blank_line r || nat_le width (indent_of r) then Some (without width r) else None) ≡ Some s → IsInside s
wide-inside width r s lt h e = grind (arith, without-inside)

keep_as-inside : (k : Container) (r s : Row) → HasPrefix k → IsLine r → keep_as k r ≡ Some s → IsInside s
keep_as-inside (BlockQuote alert) r s w h e = go (is_block_quote r) e
  where
    go : (z : Bool) → (if z then Some (without (block_quote_width r) r) else None) ≡ Some s → IsInside s
    go true q = let p : without (block_quote_width r) r ≡ s = cc in subst IsInside p (without-inside (block_quote_width r) r (omega arith) h)
    go false q = absurd (let p : None ≡ Some s = q in cc)
keep_as-inside (Footnote label true size) r s w h e = grind arith
keep_as-inside (Footnote label false size) r s w h e = wide-inside 4 r s (omega arith) h e
keep_as-inside (Item delimiter number width task) r s w h e = wide-inside width r s w h e
keep_as-inside (ListDefinition width) r s w h e = wide-inside width r s w h e

keeps-inside : (k : Container) (bare : Bool) (r s : Row) → HasPrefix k → IsLine r → keeps k bare r ≡ Some s → IsInside s
unfolding keeps
keeps-inside k bare r s w h e = grind (arith, keep_as-inside)

strip-inside : (k : Container) (bare : Bool) (r : Row) → HasPrefix k → IsLine r → IsInside (strip k bare r)
strip-inside k bare r w h = grind (arith, keeps-inside)

strip-line : (k : Container) (bare : Bool) (r : Row) → IsLine r → IsLine (strip k bare r)
strip-line k bare r h = go (keeps k bare r) refl
  where
    go : (o : Option Row) → keeps k bare r ≡ o → IsLine (strip_as o r)
    go None e = h
    go (Some s) e = let w = kept-following k bare r s e in subst IsLine w.1.1 (without-line w.0 r h)

strips-inside : (k : Container) (bare : Bool) (rs : List Row) → HasPrefix k → Each IsLine rs → Each IsInside (strips k bare rs)
strips-inside k bare [] w h = tt
strips-inside k bare (r ∷ rs) w h = (strip-inside k bare r w h.0, strips-inside k false rs w h.1)

strips-line : (k : Container) (bare : Bool) (rs : List Row) → Each IsLine rs → Each IsLine (strips k bare rs)
strips-line k bare [] h = tt
strips-line k bare (r ∷ rs) h = (strip-line k bare r h.0, strips-line k false rs h.1)

each-unless : (P : Row → Type 0) (is_tag : Bool) (r : Row) (rs : List Row) → P r → Each P rs → Each P (unless_tag is_tag r rs)
each-unless P true r rs p h = h
each-unless P false r rs p h = (p, h)

enter-line : (k : Container) (r : Row) → IsLine r → IsLine (enter k r)
unfolding enter
enter-line k r h = without-line (width_of k r) r h

enter-inside : (k : Container) (r : Row) → 0 < width_of k r → IsLine r → IsInside (enter k r)
unfolding enter
enter-inside k r lt h = without-inside (width_of k r) r lt h

insides-line : (k : Container) (first : Row) (more : List Row) → IsLine first → Each IsLine more → Each IsLine (insides k first more)
insides-line k first more h hs = each-unless IsLine (is_alert k) (enter k first) (strips k (is_bare_start k first) more) (enter-line k first h) (strips-line k (is_bare_start k first) more hs)

insides-inside : (k : Container) (first : Row) (more : List Row) → HasPrefix k → 0 < width_of k first → IsLine first → Each IsLine more → Each IsInside (insides k first more)
insides-inside k first more w lt h hs = each-unless IsInside (is_alert k) (enter k first) (strips k (is_bare_start k first) more) (enter-inside k first lt h) (strips-inside k (is_bare_start k first) more w hs)

-- a beginning that is not a metadata block
abbrev IsOther : Opening → Type 0
IsOther (Takes leaf n) = is_metadata leaf ≡ false
IsOther _ = Unit {0}

other_or : (x y : Opening) → IsOther x → IsOther y → IsOther (or_else x y)
other_or x y p q = grind arith

other_if : (b : Bool) (x y : Opening) → IsOther x → IsOther y → IsOther (if b then x else y)
other_if true x y p q = p
other_if false x y p q = q

other_nests : (o : Option Container) → IsOther (nests_if o)
other_nests (Some k) = tt
other_nests None = tt

other_fenced : (o : Option Fence) (ahead : List Row) → IsOther (fenced_if o ahead)
other_fenced (Some fence) ahead = refl
other_fenced None ahead = tt

other_html : (r : Row) (ahead : List Row) (o : Option ℕ) → IsOther (html_if r ahead o)
other_html r ahead (Some kind) = refl
other_html r ahead None = tt

other_break : (z : Bool) → IsOther (break_if z)
other_break true = refl
other_break false = tt

other_heading : (z : Bool) (level : ℕ) → IsOther (heading_if z level)
other_heading true level = refl
other_heading false level = tt

other_defined : (n : ℕ) (o : Option Defined) → IsOther (defined_if n o)
other_defined n (Some found) = refl
other_defined n None = tt

module _ (options : Options) where
  other_table : (o : Option (List Alignment)) (ahead : List Row) → IsOther (table_if options o ahead)
  other_table (Some alignments) ahead = refl
  other_table None ahead = tt

  other_text : (r : Row) (ahead : List Row) → IsOther (text_of options r ahead)
  other_text r ahead = grind (arith, other_or, other_if, other_defined, other_table)

  other_leaf : (r : Row) (ahead : List Row) → IsOther (leaf_of options r ahead)
  other_leaf r ahead = grind (arith, other_or, other_html, other_break, other_heading, other_fenced, other_text)

  -- a line in a container begins no metadata block
  no-kind : (r : Row) → (r.held ≡ true) ⊎ ((r.columns ≡ []) ⊎ (r.at < begin_of r)) → metadata_kind options r ≡ None
  no-kind r inside = grind (arith, ne_eqb)

  other_opens : (r : Row) (ahead : List Row) → IsInside r → IsOther (opens options r ahead)
  unfolding opens
  other_opens r ahead inside = grind (arith, other_if, other_or, other_nests, other_leaf, no-kind)

  other_at : (place : Place) (r : Row) (ahead : List Row) → IsInside r → IsOther (opens_at options place r ahead)
  other_at place r ahead inside = search (rules, at-either, other_opens)

  wide-prefix : (k : Container) (r : Row) → indent_of r < marker_width k r → HasPrefix k
  wide-prefix k r lt = grind arith

  -- the lines inside a container, of which the first begins it
  contents : (k : Container) (place : Place) (first : Row) (more ahead : List Row) → opens_at options place first ahead ≡ Nests k → IsLine first → Each IsLine more → Each IsLine (insides k first more) × Each IsInside (insides k first more)
  contents k place first more ahead o h hs = grind (arith, at-wide, marker-within, insides-line, insides-inside, wide-prefix)

  none-inside : (place : Place) (all : List Row) (b : Blocks) → Body options place all b → Each IsLine all → Each IsInside all → HasNoMetadata b
  none-inside place all Nil body h i = tt
  none-inside place all (BlankLine line after) body h i =
      none-inside (over_blank place) body.rest after body.after (subst (Each IsLine) body.cut h).1 (subst (Each IsInside) body.cut i).1
  none-inside place all (Paragraph first more after) body h i =
      none-inside AfterTitle body.rest after body.after (each-following IsLine more body.rest (subst (Each IsLine) body.cut h).1) (each-following IsInside more body.rest (subst (Each IsInside) body.cut i).1)
  none-inside place all (SetextHeading level first more underline after) body h i =
      none-inside Apart body.rest after body.after (each-following IsLine more (underline ∷ body.rest) (subst (Each IsLine) body.cut h).1).1 (each-following IsInside more (underline ∷ body.rest) (subst (Each IsInside) body.cut i).1).1
  none-inside place all (LeafBlock leaf first more after) body h i = (
    subst IsOther body.opened (other_at place first (shown (more ++ body.rest)) (subst (Each IsInside) body.cut i).0),
    none-inside (after_leaf leaf) body.rest after body.after (each-following IsLine more body.rest (subst (Each IsLine) body.cut h).1) (each-following IsInside more body.rest (subst (Each IsInside) body.cut i).1),
  )
  none-inside place all (ContainerBlock k first more inside after) body h i =
      let rs = subst (Each IsLine) body.cut h in
      let c = contents k place first more _ body.opened rs.0 (each-front IsLine more body.rest rs.1) in (
        none-inside (place_in k) (insides k first more) inside body.contents c.0 c.1,
        none-inside (after_container k) body.rest after body.after (each-following IsLine more body.rest rs.1) (each-following IsInside more body.rest (subst (Each IsInside) body.cut i).1),
      )

  outside : (place : Place) (all : List Row) (b : Blocks) → Body options place all b → Each IsLine all → HasMetadataOutside b
  outside place all Nil body h = tt
  outside place all (BlankLine line after) body h = outside (over_blank place) body.rest after body.after (subst (Each IsLine) body.cut h).1
  outside place all (Paragraph first more after) body h = outside AfterTitle body.rest after body.after (each-following IsLine more body.rest (subst (Each IsLine) body.cut h).1)
  outside place all (SetextHeading level first more underline after) body h =
      outside Apart body.rest after body.after (each-following IsLine more (underline ∷ body.rest) (subst (Each IsLine) body.cut h).1).1
  outside place all (LeafBlock leaf first more after) body h = outside (after_leaf leaf) body.rest after body.after (each-following IsLine more body.rest (subst (Each IsLine) body.cut h).1)
  outside place all (ContainerBlock k first more inside after) body h =
      let rs = subst (Each IsLine) body.cut h in
      let c = contents k place first more _ body.opened rs.0 (each-front IsLine more body.rest rs.1) in
      (none-inside (place_in k) (insides k first more) inside body.contents c.0 c.1, outside (after_container k) body.rest after body.after (each-following IsLine more body.rest rs.1))

pub metadata-outside : (options : Options) (text : List ℕ) (structure : Blocks) → Body options Apart (rows text) structure → HasMetadataOutside structure
metadata-outside options text structure body = outside options Apart (rows text) structure body (row-line 0 (lines text))
