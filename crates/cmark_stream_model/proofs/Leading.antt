-- If no definition lists are read, the first line of blocks decides whether they may continue a list.
use Rattle.std.proofs.Common.{◌≡◌, ℕ, zero, suc, Bool, true, false, ◌==◌, ◌&&◌, not, List, [], ◌∷◌, ◌++◌, length, refl, sym, ap, ◌∙◌, subst, Option, Some, None, true≢false, arith, rules}
use Rattle.std.specs.Prelude.{if◌then◌else◌, nat_le}
use Rattle.cmark_grammar.specs.Alignment.{Alignment}
use Rattle.cmark_grammar.specs.BlockQuoteKind.{BlockQuoteKind}
use Rattle.cmark_grammar.specs.Options.{Options}
use Rattle.cmark_grammar.specs.Places.{Apart}
use Rattle.cmark_grammar.specs.Rows.{Row, shown, is_blank_line, indent_of, words_of}
use Rattle.cmark_grammar.specs.Leaves.{Fence, Continuation, counted, code_continuation}
use Rattle.cmark_grammar.specs.LinkDefinitions.{Parsed, Defined}
use Rattle.cmark_grammar.specs.HtmlBlocks.{holds_end}
use Rattle.cmark_grammar.specs.Footnotes.{Footnotes, footnotes_in}
use Rattle.cmark_grammar.specs.Containers.{Container, BlockQuote, Item, Footnote, ListDefinition, Marker, marker_of, item_with, item_of, is_block_quote, container_with, footnote_with, footnote_of, footnote_or, with_task, container_of, enter, keeps, strip, is_bare_start, bare_after}
use Rattle.cmark_grammar.specs.DefinitionLists.{is_definition}
use Rattle.cmark_grammar.specs.Metadata.{metadata_kind}
use Rattle.cmark_grammar.specs.MetadataBlockKind.{MetadataBlockKind}
use Rattle.cmark_grammar.specs.Openings.{Leaf, IndentedCode, HtmlBlock, Opening, Blank, Nests, Takes, Plain, or_else, nests_if, fenced_if, html_if, break_if, heading_if, metadata_begun, defined_if, lazily, table_if, text_of, leaf_of, whole_opens, opens, opens_at}
use Rattle.cmark_grammar.specs.Blocks.{Blocks, Nil, BlankLine, Paragraph, SetextHeading, LeafBlock, ContainerBlock, join, place_in}
use Rattle.cmark_grammar.specs.Lists.{definition_delimiter, is_title, goes_on}
use Rattle.cmark_block_model.specs.BlocksModel.{within, place_after}
use Rattle.cmark_block_model.specs.BlocksByLine.{leaf_in, continuation_if, OpenLines, Between, AfterTag, InParagraph, InLeaf, InVerbatim, InContainer, blank_lines, close_lines, lines_take_lazy, html_begun, leaf_begun, lines_begin_as, lines_kept_or, verbatim_line, lines_begin_in, lines_begin, lines_feed, lines_feed_all}
use Rattle.cmark_block_model.proofs.BlockLaws.{at-plain, off-defines}
use Rattle.cmark_stream_model.specs.Growth.{is_blank, begins_apart, continues, is_outside_of_lists, may_continue}
use Rattle.cmark_stream_model.proofs.GrowingTables.{no-task}

-- ## No line begins a definition

abbrev NoDefinition : Opening → Type 0
NoDefinition (Nests k) = is_definition k ≡ false
NoDefinition _ = Unit {0}

abbrev NoneOrOther : Option Container → Type 0
NoneOrOther None = Unit {0}
NoneOrOther (Some k) = is_definition k ≡ false

no-or : (x y : Opening) → NoDefinition x → NoDefinition y → NoDefinition (or_else x y)
no-or Plain y h k = k
no-or _ y h k = h

no-nests : (o : Option Container) → NoneOrOther o → NoDefinition (nests_if o)
no-nests None h = tt
no-nests (Some k) h = h

item-other : (r : Row) (m : Option Marker) → NoneOrOther (item_with r m)
item-other r m = grind arith

task-other : (options : Options) (r : Row) (o : Option Container) → NoneOrOther o → NoneOrOther (with_task options r o)
task-other options r o h = grind arith

quote-other : (o : Option Container) (quoted : Bool) (alert : Option BlockQuoteKind) → NoneOrOther o → NoneOrOther (container_with o quoted alert)
quote-other o quoted alert h = grind arith

footnote_with-other : (old : Bool) (r : Row) (o : Option Parsed) → NoneOrOther (footnote_with old r o)
footnote_with-other old r None = tt
footnote_with-other old r (Some found) = refl

footnote_of-other : (footnotes : Footnotes) (r : Row) → NoneOrOther (footnote_of footnotes r)
footnote_of-other footnotes r = grind (arith, footnote_with-other)

or-other : (a b : Option Container) → NoneOrOther a → NoneOrOther b → NoneOrOther (footnote_or a b)
or-other None b h k = k
or-other (Some x) b h k = h

module _ (options : Options) where
  container-other : (r : Row) → NoneOrOther (container_of options r)
  container-other r = or-other (footnote_of (footnotes_in options) r) _ (footnote_of-other (footnotes_in options) r) (quote-other (with_task options r (item_of r)) (is_block_quote r) _ (task-other options r (item_of r) (item-other r (marker_of (words_of r)))))

  no-html : (r : Row) (ahead : List Row) (k : Option ℕ) → NoDefinition (html_if r ahead k)
  no-html r ahead None = tt
  no-html r ahead (Some kind) = tt

  no-break : (z : Bool) → NoDefinition (break_if z)
  no-break true = tt
  no-break false = tt

  no-heading : (z : Bool) (level : ℕ) → NoDefinition (heading_if z level)
  no-heading true level = tt
  no-heading false level = tt

  no-fence : (f : Option Fence) (ahead : List Row) → NoDefinition (fenced_if f ahead)
  no-fence None ahead = tt
  no-fence (Some fence) ahead = tt

  no-defined : (lines : ℕ) (o : Option Defined) → NoDefinition (defined_if lines o)
  no-defined lines None = tt
  no-defined lines (Some found) = tt

  no-table : (o : Option (List Alignment)) (ahead : List Row) → NoDefinition (table_if options o ahead)
  no-table None ahead = tt
  no-table (Some alignments) ahead = tt

  no-link : (z : Bool) (x : Opening) → NoDefinition x → NoDefinition (if z then Plain else x)
  no-link true x h = tt
  no-link false x h = h

  no-text : (r : Row) (ahead : List Row) → NoDefinition (text_of options r ahead)
  no-text r ahead = grind (arith, no-or, no-link, no-defined, no-table)

  no-leaf : (r : Row) (ahead : List Row) → NoDefinition (leaf_of options r ahead)
  no-leaf r ahead = grind (arith, no-or, no-html, no-break, no-heading, no-fence, no-text)

  no-whole : (r : Row) (ahead : List Row) → NoDefinition (whole_opens options r ahead)
  no-whole r ahead = go (is_blank_line r) (nat_le 4 (indent_of r))
    where
      go : (x y : Bool) → NoDefinition (if x then Blank else if y then Takes IndentedCode (counted code_continuation ahead) else or_else (nests_if (container_of options r)) (leaf_of options r ahead))
      go x y = grind (arith, no-or, no-nests, container-other, no-leaf)

  no-metadata : (k : Option MetadataBlockKind) (ahead : List Row) → NoDefinition (metadata_begun k ahead)
  no-metadata k ahead = grind arith

  no-opens : (r : Row) (ahead : List Row) → NoDefinition (opens options r ahead)
  unfolding opens
  no-opens r ahead = no-link r.lazy (or_else (metadata_begun (metadata_kind options r) ahead) (whole_opens options r ahead)) (no-or (metadata_begun (metadata_kind options r) ahead) (whole_opens options r ahead) (no-metadata (metadata_kind options r) ahead) (no-whole r ahead))

  pub no-at : options.definition_list ≡ false → (b : Blocks) (r : Row) (ahead : List Row) → NoDefinition (opens_at options (place_after Apart b) r ahead)
  no-at off b r ahead = subst NoDefinition (sym (at-plain options (place_after Apart b) r ahead (no-task Apart b refl) (off-defines options (place_after Apart b) r off))) (no-opens r ahead)

-- ## Blocks without definitions

abbrev pub NoDefinitions : Blocks → Type 0
NoDefinitions Nil = Unit {0}
NoDefinitions (BlankLine line after) = NoDefinitions after
NoDefinitions (Paragraph first more after) = NoDefinitions after
NoDefinitions (SetextHeading level first more underline after) = NoDefinitions after
NoDefinitions (LeafBlock leaf first more after) = NoDefinitions after
NoDefinitions (ContainerBlock k first more inside after) = (is_definition k ≡ false) × NoDefinitions after

-- ## The first block that is no blank line: an item only if `other` holds of its character, and a paragraph only if `text` holds

abbrev leads_in : (other : ℕ → Bool) → Container → Bool
leads_in other (Item delimiter number width task) = other delimiter
leads_in other (ListDefinition width) = false
leads_in other _ = true

abbrev first_leads : (other : ℕ → Bool) (text : Bool) → (so : Bool) → Blocks → Bool
first_leads other text so Nil = so
first_leads other text so (BlankLine line after) = first_leads other text so after
first_leads other text so (Paragraph first more after) = text
first_leads other text so (ContainerBlock k first more inside after) = leads_in other k
first_leads other text so _ = true

leads-join : (other : ℕ → Bool) (text : Bool) → (so : Bool) (a b : Blocks) → first_leads other text so (join a b) ≡ first_leads other text (first_leads other text so b) a
leads-join other text so (BlankLine line after) b = leads-join other text so after b
leads-join other text so _ b = refl

-- if some blocks have a first block of this kind, `so` does not matter
leads-more : (other : ℕ → Bool) (text : Bool) → (so : Bool) (a : Blocks) → first_leads other text false a ≡ true → first_leads other text so a ≡ true
leads-more other text so Nil h = absurd (true≢false (sym h))
leads-more other text so (BlankLine line after) h = leads-more other text so after h
leads-more other text so _ h = h

-- if a paragraph may be open after some blocks, so may each other block
leads-text : (other : ℕ → Bool) (text : Bool) (a : Blocks) → first_leads other text text a ≡ true → first_leads other text true a ≡ true
leads-text other true a h = h
leads-text other false a h = leads-more other false true a h

-- such blocks begin with no definition
untitled-of : (other : ℕ → Bool) (text : Bool) (a : Blocks) → first_leads other text false a ≡ true → is_title a ≡ false
untitled-of other text (BlankLine line after) h = untitled-of other text after h
untitled-of other text (ContainerBlock (BlockQuote alert) first more inside after) h = refl
untitled-of other text (ContainerBlock (Item delimiter number width task) first more inside after) h = refl
untitled-of other text (ContainerBlock (Footnote label old size) first more inside after) h = refl
untitled-of other text (ContainerBlock (ListDefinition width) first more inside after) h = absurd (true≢false (sym h))
untitled-of other text _ h = refl

pub no-join : (a b : Blocks) → NoDefinitions a → NoDefinitions b → NoDefinitions (join a b)
no-join Nil b h k = k
no-join (BlankLine line after) b h k = no-join after b h k
no-join (Paragraph first more after) b h k = no-join after b h k
no-join (SetextHeading level first more underline after) b h k = no-join after b h k
no-join (LeafBlock leaf first more after) b h k = no-join after b h k
no-join (ContainerBlock c first more inside after) b h k = (h.0, no-join after b h.1 k)

pub no-title : (a : Blocks) → NoDefinitions a → is_title a ≡ false
no-title (BlankLine line after) h = no-title after h
no-title (ContainerBlock (BlockQuote alert) first more inside after) h = refl
no-title (ContainerBlock (Item delimiter number width task) first more inside after) h = refl
no-title (ContainerBlock (Footnote label old size) first more inside after) h = refl
no-title (ContainerBlock (ListDefinition width) first more inside after) h = absurd (true≢false h.0)
no-title _ h = refl

and-false : (z : Bool) → (z && false) ≡ false
and-false true = refl
and-false false = refl

not-true : (z : Bool) → not z ≡ true → z ≡ false
not-true true e = absurd (true≢false (sym e))
not-true false e = refl

apart-of : (a : Blocks) → NoDefinitions a → first_leads (λ m. false) true false a ≡ true → begins_apart a ≡ true
apart-of (BlankLine line after) h e = apart-of after h e
apart-of (Paragraph first more after) h e = ap not (no-title after h)
apart-of (ContainerBlock (BlockQuote alert) first more inside after) h e = refl
apart-of (ContainerBlock (Item delimiter number width task) first more inside after) h e = absurd (true≢false (sym e))
apart-of (ContainerBlock (Footnote label old size) first more inside after) h e = refl
apart-of (ContainerBlock (ListDefinition width) first more inside after) h e = absurd (true≢false (sym e))
apart-of _ h e = refl

-- the same for a list that is not a definition list, or if no paragraph is first
goes-firm : (d : ℕ) (a : Blocks) → first_leads (λ m. not (m == d)) (not (definition_delimiter == d)) false a ≡ true → goes_on d a ≡ false
goes-firm d (BlankLine line after) e = goes-firm d after e
goes-firm d (Paragraph first more after) e = ap (λ z. z && is_title after) (not-true (definition_delimiter == d) e)
goes-firm d (ContainerBlock (BlockQuote alert) first more inside after) e = refl
goes-firm d (ContainerBlock (Item m number width task) first more inside after) e = not-true (m == d) e
goes-firm d (ContainerBlock (Footnote label old size) first more inside after) e = refl
goes-firm d (ContainerBlock (ListDefinition width) first more inside after) e = absurd (true≢false (sym e))
goes-firm d _ e = refl

-- if the first block is no item of the list with this character, the blocks do not continue the list
goes-of : (d : ℕ) (a : Blocks) → NoDefinitions a → first_leads (λ m. not (m == d)) true false a ≡ true → goes_on d a ≡ false
goes-of d (BlankLine line after) h e = goes-of d after h e
goes-of d (Paragraph first more after) h e = ap (λ t. (definition_delimiter == d) && t) (no-title after h) ∙ and-false (definition_delimiter == d)
goes-of d (ContainerBlock (BlockQuote alert) first more inside after) h e = refl
goes-of d (ContainerBlock (Item m number width task) first more inside after) h e = not-true (m == d) e
goes-of d (ContainerBlock (Footnote label old size) first more inside after) h e = refl
goes-of d (ContainerBlock (ListDefinition width) first more inside after) h e = absurd (true≢false h.0)
goes-of d _ h e = refl

-- ## The open blocks

abbrev pub NoneOpen : OpenLines → Type 0
NoneOpen (Between closed) = NoDefinitions closed
NoneOpen AfterTag = ⊥
NoneOpen (InParagraph closed first more) = NoDefinitions closed
NoneOpen (InLeaf closed leaf first had left) = NoDefinitions closed
NoneOpen (InVerbatim closed verbatim first had waiting) = NoDefinitions closed
NoneOpen (InContainer closed k first more inside) = NoDefinitions closed × (is_definition k ≡ false)

-- the first block, which may be open, is of this kind
abbrev LeadsOpen : (other : ℕ → Bool) (text : Bool) → OpenLines → Type 0
LeadsOpen other text (Between closed) = first_leads other text false closed ≡ true
LeadsOpen other text AfterTag = ⊥
LeadsOpen other text (InParagraph closed first more) = first_leads other text text closed ≡ true
LeadsOpen other text (InLeaf closed leaf first had left) = first_leads other text true closed ≡ true
LeadsOpen other text (InVerbatim closed verbatim first had waiting) = first_leads other text true closed ≡ true
LeadsOpen other text (InContainer closed k first more inside) = first_leads other text (leads_in other k) closed ≡ true

no-blanks : (ws : List Row) → NoDefinitions (blank_lines ws)
no-blanks [] = tt
no-blanks (w ∷ ws) = no-blanks ws

leads-blanks : (other : ℕ → Bool) (text : Bool) → (so : Bool) (ws : List Row) → first_leads other text so (blank_lines ws) ≡ so
leads-blanks other text so [] = refl
leads-blanks other text so (w ∷ ws) = leads-blanks other text so ws

pub close-none : (o : OpenLines) → NoneOpen o → NoDefinitions (close_lines o)
close-none o h = grind (arith, no-join, no-blanks)

close-leads : (other : ℕ → Bool) (text : Bool) → (o : OpenLines) → LeadsOpen other text o → first_leads other text false (close_lines o) ≡ true
close-leads other text o h = grind (arith, leads-join, leads-blanks)

html-none : (z : Bool) (closed : Blocks) (kind : ℕ) (r : Row) → NoDefinitions closed → NoneOpen (html_begun z closed kind r)
html-none true closed kind r h = h
html-none false closed kind r h = h

leaf-none : (leaf : Leaf) (n : ℕ) (closed : Blocks) (r : Row) → NoDefinitions closed → NoneOpen (leaf_begun leaf n closed r)
leaf-none (HtmlBlock kind) n closed r h = html-none (nat_le kind 5 && holds_end kind (words_of r)) closed kind r h
leaf-none _ n closed r h = h

html-leads : (other : ℕ → Bool) (text : Bool) → (z : Bool) (closed : Blocks) (kind : ℕ) (r : Row) → first_leads other text true closed ≡ true → LeadsOpen other text (html_begun z closed kind r)
html-leads other text true closed kind r h = h
html-leads other text false closed kind r h = h

leaf-leads : (other : ℕ → Bool) (text : Bool) → (leaf : Leaf) (n : ℕ) (closed : Blocks) (r : Row) → first_leads other text true closed ≡ true → LeadsOpen other text (leaf_begun leaf n closed r)
leaf-leads other text (HtmlBlock kind) n closed r h = html-leads other text (nat_le kind 5 && holds_end kind (words_of r)) closed kind r h
leaf-leads other text _ n closed r h = h

pub begun-none : (o : Opening) (inside : Container → OpenLines) (closed : Blocks) (r : Row) → NoDefinition o → NoDefinitions closed → NoneOpen (lines_begin_as o inside closed r)
begun-none o inside closed r n h = grind (arith, no-join, leaf-none)

begun-leads : (other : ℕ → Bool) (text : Bool) → (o : Opening) (inside : Container → OpenLines) (closed : Blocks) (r : Row) → first_leads other text false closed ≡ true → LeadsOpen other text (lines_begin_as o inside closed r)
begun-leads other text o inside closed r h = search (rules, leads-join, leads-more, leaf-leads)

-- a line begins a block of this kind
abbrev Leads : (other : ℕ → Bool) (text : Bool) → Opening → Type 0
Leads other text Blank = ⊥
Leads other text (Nests k) = leads_in other k ≡ true
Leads other text (Takes leaf more) = Unit {0}
Leads other text Plain = text ≡ true

first-leads : (other : ℕ → Bool) (text : Bool) → (o : Opening) (inside : Container → OpenLines) (r : Row) → Leads other text o → LeadsOpen other text (lines_begin_as o inside Nil r)
first-leads other text o inside r e = grind (arith, leaf-leads)

-- the line begins no item
outside-leads : (o : Opening) → is_outside_of_lists o ≡ true → Leads (λ m. false) true o
outside-leads o e = grind arith

-- the line begins a block that is no item of this list, and no title that may continue it
another-leads : (titles : Bool) (d : ℕ) (text : Bool) → ((titles && (definition_delimiter == d)) ≡ false → text ≡ true) → (o : Opening) → may_continue titles (Some d) o ≡ false → Leads (λ m. not (m == d)) text o
another-leads titles d text h o e = grind arith

-- any line that is not blank begins some block
some-leads : (o : Opening) → NoDefinition o → is_blank o ≡ false → Leads (λ m. true) true o
some-leads o n e = grind arith

-- ## No definitions, line by line

module _ (options : Options) (off : options.definition_list ≡ false) where
  begin-none : (closed : Blocks) (r : Row) (ahead : List Row) → NoDefinitions closed → NoneOpen (lines_begin options closed r ahead)
  unfolding lines_begin
  begin-none closed r ahead n = grind (arith, begun-none, no-at)

  feed-none : (o : OpenLines) (r : Row) (ahead : List Row) → NoneOpen o → NoneOpen (lines_feed options o r ahead)
  feed-none (Between closed) r ahead g = begin-none closed r ahead g
  feed-none AfterTag r ahead g = absurd g
  feed-none (InParagraph closed first more) r ahead g = grind (arith, begin-none, close-none, no-join)
  feed-none (InLeaf closed leaf first had zero) r ahead g = begin-none (join closed (LeafBlock leaf first had Nil)) r ahead (close-none (InLeaf closed leaf first had 0) g)
  feed-none (InLeaf closed leaf first had (suc left)) r ahead g = g
  feed-none (InVerbatim closed verbatim first had waiting) r ahead g =
      go (continuation_if r.lazy verbatim r) (begin-none (join (join closed (LeafBlock (leaf_in verbatim) first had Nil)) (blank_lines waiting)) r ahead (close-none (InVerbatim closed verbatim first had waiting) g))
    where
      go : (k : Continuation) → NoneOpen (lines_begin options (join (join closed (LeafBlock (leaf_in verbatim) first had Nil)) (blank_lines waiting)) r ahead)
          → NoneOpen (verbatim_line k closed verbatim first had waiting r (lines_begin options (join (join closed (LeafBlock (leaf_in verbatim) first had Nil)) (blank_lines waiting)) r ahead))
      go k b = grind arith
  feed-none (InContainer closed k first more inside) r ahead g =
      go (keeps k (bare_after (is_bare_start k first) more) r) (lazily options k r ahead && lines_take_lazy inside) (begin-none (join closed (ContainerBlock k first more (close_lines inside) Nil)) r ahead (close-none (InContainer closed k first more inside) g))
    where
      on : OpenLines
      on = lines_feed options inside (strip k (bare_after (is_bare_start k first) more) r) (within k false ahead)

      go : (o : Option Row) (z : Bool) → NoneOpen (lines_begin options (join closed (ContainerBlock k first more (close_lines inside) Nil)) r ahead)
          → NoneOpen (lines_kept_or o z (InContainer closed k first (more ++ r ∷ []) on) (lines_begin options (join closed (ContainerBlock k first more (close_lines inside) Nil)) r ahead))
      go o z b = grind arith

  all-none : (o : OpenLines) (rs : List Row) → NoneOpen o → NoneOpen (lines_feed_all options o rs)
  all-none o [] g = g
  all-none o (r ∷ rs) g = all-none (lines_feed options o r (shown rs)) rs (feed-none o r (shown rs) g)

-- ## The first block, line by line

module _ (options : Options) (other : ℕ → Bool) (text : Bool) where
  abbrev lines_inside : Row → List Row → Container → OpenLines
  lines_inside r ahead k = lines_begin_in options (length r.columns) (place_in k) Nil (enter k r) (within k (is_bare_start k r) ahead)

  begin-leads : (closed : Blocks) (r : Row) (ahead : List Row) → first_leads other text false closed ≡ true → LeadsOpen other text (lines_begin options closed r ahead)
  unfolding lines_begin
  begin-leads closed r ahead h = begun-leads other text (opens_at options (place_after Apart closed) r ahead) (lines_inside r ahead) closed r h

  -- if the open blocks end, a line begins after them
  following-leads : (o : OpenLines) (r : Row) (ahead : List Row) → LeadsOpen other text o → LeadsOpen other text (lines_begin options (close_lines o) r ahead)
  following-leads o r ahead g = begin-leads (close_lines o) r ahead (close-leads other text o g)

  feed-leads : (o : OpenLines) (r : Row) (ahead : List Row) → LeadsOpen other text o → LeadsOpen other text (lines_feed options o r ahead)
  feed-leads o r ahead g = search (rules, begin-leads, following-leads, leads-join, leads-text)

  all-leads : (o : OpenLines) (rs : List Row) → LeadsOpen other text o → LeadsOpen other text (lines_feed_all options o rs)
  all-leads o [] g = g
  all-leads o (r ∷ rs) g = all-leads (lines_feed options o r (shown rs)) rs (feed-leads o r (shown rs) g)

  first-begins : (r : Row) (ahead : List Row) → Leads other text (opens_at options Apart r ahead) → LeadsOpen other text (lines_begin options Nil r ahead)
  unfolding lines_begin
  first-begins r ahead e = first-leads other text (opens_at options Apart r ahead) (lines_inside r ahead) r e

  -- the blocks of lines begin with the block of the first line
  lines-lead : (r : Row) (rs : List Row) → Leads other text (opens_at options Apart r (shown rs)) → first_leads other text false (close_lines (lines_feed_all options (Between Nil) (r ∷ rs))) ≡ true
  lines-lead r rs e = close-leads other text (lines_feed_all options (Between Nil) (r ∷ rs)) (all-leads (lines_begin options Nil r (shown rs)) rs (first-begins r (shown rs) e))

module _ (options : Options) (r : Row) (rs : List Row) where
  abbrev after_all : OpenLines
  after_all = lines_feed_all options (Between Nil) (r ∷ rs)

  none-after : options.definition_list ≡ false → NoDefinitions (close_lines after_all)
  none-after off = close-none after_all (all-none options off (Between Nil) (r ∷ rs) tt)

  pub lines-apart : options.definition_list ≡ false → is_outside_of_lists (opens_at options Apart r (shown rs)) ≡ true → begins_apart (close_lines after_all) ≡ true
  lines-apart off e = apart-of (close_lines after_all) (none-after off) (lines-lead options (λ m. false) true r rs (outside-leads (opens_at options Apart r (shown rs)) e))

  -- lines whose first one is not blank begin with no definition
  pub lines-untitled : is_blank (opens_at options Apart r (shown rs)) ≡ false → is_title (close_lines after_all) ≡ false
  lines-untitled e = untitled-of (λ m. true) true (close_lines after_all) (lines-lead options (λ m. true) true r rs (some-leads (opens_at options Apart r (shown rs)) (no-opens options r (shown rs)) e))

  pub lines-continue : (list : Option ℕ) → may_continue options.definition_list list (opens_at options Apart r (shown rs)) ≡ false → continues list (close_lines after_all) ≡ false
  lines-continue list e = grind (arith, goes-of, none-after, lines-lead, another-leads, goes-firm)
