-- The lines ahead that a line looks at: none if it has no bracket and no pipe, and otherwise none after a blank line.
use Rattle.std.proofs.Common.{◌≡◌, ◌⊎◌, inl, inr, ⊎_elim, ℕ, zero, suc, ◌-◌, Bool, true, false, ◌==◌, ◌&&◌, ◌||◌, not, List, [], ◌∷◌, ◌++◌, length, drop, take_while, refl, sym, ap, ◌∙◌, subst, append-nil, Option, Some, None, true≢false, arith, rules}
use Rattle.std.specs.Prelude.{if◌then◌else◌, cond, nat_le, nat_lt}
use Rattle.std.proofs.lemmas.List.Sums.{take_while-cons}
use Rattle.cmark_grammar.specs.Alignment.{Alignment}
use Rattle.cmark_grammar.specs.Columns.{Column, is_blank, without_indent, bytes_of}
use Rattle.cmark_grammar.specs.Lines.{onto, lines}
use Rattle.cmark_grammar.specs.MetadataBlockKind.{MetadataBlockKind}
use Rattle.cmark_grammar.specs.Metadata.{metadata_kind, ends_metadata, is_ended, holds_metadata}
use Rattle.cmark_grammar.specs.Options.{Options}
use Rattle.cmark_grammar.specs.Places.{Place, Apart, AfterLazy, is_after_task}
use Rattle.cmark_grammar.specs.Rows.{Row, rows, shown, show_as, is_bare, is_blank_line, indent_of, words_of}
use Rattle.cmark_grammar.specs.Leaves.{Fence, underlines, is_thematic_break, is_atx_heading, run, fence_of, counted, code_continuation}
use Rattle.cmark_grammar.specs.LinkDefinitions.{definition_in, further_bytes}
use Rattle.cmark_grammar.specs.HtmlBlocks.{html_kind}
use Rattle.cmark_grammar.specs.Containers.{Container, is_alert, enter, keeps, strip, strips, is_bare_start, bare_after, container_of, width_of}
use Rattle.cmark_grammar.specs.DefinitionLists.{definition_at, begins_definition, is_definition}
use Rattle.cmark_grammar.specs.TableRows.{parts, count_missing, most_filled, one_more_if, holds_pipe, delimited_ahead, count_cells, table_head, is_some_head, begins_with_pipe, table_interrupts}
use Rattle.cmark_grammar.specs.Openings.{Leaf, IndentedCode, FencedCode, HtmlBlock, MetadataBlock, Table, Opening, Blank, Nests, Takes, Plain, or_else, nests_if, fenced_if, html_if, break_if, heading_if, metadata_begun, put_if, is_none, interrupts, texts, lazily, text_lines, definition_of, count_rows, table_if, text_of, leaf_of, whole_opens, opens, text_begun, definition_or, opens_at}
use Rattle.cmark_grammar.specs.Blocks.{Blocks, Nil, LeafBlock, ContainerBlock, join, place_in}
use Rattle.cmark_block_model.specs.BlocksModel.{within, place_after}
use Rattle.cmark_block_model.specs.BlocksByLine.{OpenLines, Between, AfterTag, InParagraph, InLeaf, InVerbatim, InContainer, close_lines, lines_take_lazy, leaf_begun, lines_inside_begun, lines_begin_as, lines_kept_or, lines_begin_in, lines_begin, lines_feed, lines_feed_all}
use Rattle.cmark_block_model.proofs.RowPlaces.{kept-following}
use Rattle.cmark_stream_model.specs.Growth.{fed_before, open_after, Parts, looks_ahead, are_blind, has_blank_line, are_resolved, decide, AreDecided, HasNoMetadata}
use Rattle.cmark_stream_model.proofs.Fronts.{Steady, feed-steady}
use Rattle.cmark_stream_model.proofs.MetadataLines.{ArePrefixed, IsWholly, AreLines, are-lines, feed-prefixed, enter-wholly, enter-none, strip-wholly, strip-told}

pub both : (a b : Bool) → (a && b) ≡ true → (a ≡ true) × (b ≡ true)
both true b e = (refl, e)
both false b e = absurd (true≢false (sym e))

-- ## Lines that look at no line ahead

blind-drop : (n : ℕ) (cs : List Column) → are_blind cs ≡ true → are_blind (drop n cs) ≡ true
blind-drop zero cs e = e
blind-drop (suc n) [] e = refl
blind-drop (suc n) (c ∷ cs) e = blind-drop n cs (both (not (looks_ahead c.byte)) (are_blind cs) e).1

-- none of these bytes looks ahead
abbrev blind_bytes : List ℕ → Bool
blind_bytes [] = true
blind_bytes (b ∷ bs) = not (looks_ahead b) && blind_bytes bs

blind-bytes : (cs : List Column) → are_blind cs ≡ true → blind_bytes (bytes_of cs) ≡ true
blind-bytes [] e = refl
blind-bytes (c ∷ cs) e = search (rules, both, blind-bytes cs (both (not (looks_ahead c.byte)) (are_blind cs) e).1)

blind-words : (r : Row) → are_blind r.columns ≡ true → blind_bytes (words_of r) ≡ true
blind-words r e = blind-bytes (without_indent r.columns) (blind-drop _ r.columns e)

not-both : (a b : Bool) → not (a || b) ≡ true → (a ≡ false) × (b ≡ false)
not-both a b e = grind arith

-- no pipe separates them
blind-parts : (escaped : Bool) (bs : List ℕ) → blind_bytes bs ≡ true → (part : List ℕ) × (parts escaped bs ≡ part ∷ [])
blind-parts escaped [] e = ([], refl)
blind-parts escaped (b ∷ bs) e =
    let h = both (not (looks_ahead b)) (blind_bytes bs) e in
    let ih = blind-parts (b == 92) bs h.1 in
    (b ∷ ih.0, ap (λ z. if z && not escaped then [] ∷ parts false bs else onto b (parts (b == 92) bs)) (not-both (b == 91) (b == 124) h.0).1 ∙ ap (onto b) ih.1)

blind-pipe : (bs : List ℕ) → blind_bytes bs ≡ true → holds_pipe bs ≡ false
blind-pipe bs e = ap (λ l. nat_lt 1 (length l)) (blind-parts false bs e).1

-- no definition begins with them
further-none : (r : Row) (more : List Row) → definition_in (further_bytes r more) ≡ None
further-none r [] = refl
further-none r (s ∷ more) = grind arith

blind-defined : (r : Row) (words : List ℕ) (more : List Row) → blind_bytes words ≡ true → definition_in (words ++ further_bytes r more) ≡ None
blind-defined r [] more e = further-none r more
blind-defined r (b ∷ bs) more e = rw ((not-both (b == 91) (b == 124) (both (not (looks_ahead b)) (blind_bytes bs) e).0).0) refl

either : (z : Bool) (x : Option (List Alignment)) → (if z then x else x) ≡ x
either true x = refl
either false x = refl

and-none : (a b : Bool) → (a && (b && false)) ≡ false
and-none a b = grind arith

module _ (options : Options) where
  -- ## Blank lines

  bare-front : (c : Column) (cs : List Column) (z : Bool) → is_blank c ≡ z → without_indent (c ∷ cs) ≡ drop (length (cond z (c ∷ take_while is_blank cs) [])) (c ∷ cs)
  bare-front c cs z e = ap (λ n. drop n (c ∷ cs)) (ap length (take_while-cons is_blank c cs ∙ ap (λ z. cond z (c ∷ take_while is_blank cs) []) e))

  pub bare-following : (c : Column) (cs : List Column) → is_bare (without_indent (c ∷ cs)) ≡ true → is_bare (without_indent cs) ≡ true
  bare-following c cs e = go (is_blank c) refl
    where
      go : (z : Bool) → is_blank c ≡ z → is_bare (without_indent cs) ≡ true
      go true q = sym (ap is_bare (bare-front c cs true q)) ∙ e
      go false q = absurd (true≢false (sym e ∙ ap is_bare (bare-front c cs false q)))

  pub bare-blank : (c : Column) (cs : List Column) → is_bare (without_indent (c ∷ cs)) ≡ true → is_blank c ≡ true
  bare-blank c cs e = grind (arith, bare-front)

  pub bare-drop : (n : ℕ) (cs : List Column) → is_bare (without_indent cs) ≡ true → is_bare (without_indent (drop n cs)) ≡ true
  bare-drop zero cs e = e
  bare-drop (suc n) [] e = e
  bare-drop (suc n) (c ∷ cs) e = bare-drop n cs (bare-following c cs e)

  strip-blank : (k : Container) (bare : Bool) (r : Row) → is_blank_line r ≡ true → is_blank_line (strip k bare r) ≡ true
  strip-blank k bare r e = grind (arith, kept-following, bare-drop)

  strip-blind : (k : Container) (bare : Bool) (r : Row) → are_blind r.columns ≡ true → are_blind (strip k bare r).columns ≡ true
  strip-blind k bare r e = grind (arith, kept-following, blind-drop)

  enter-blind : (k : Container) (r : Row) → are_blind r.columns ≡ true → are_blind (enter k r).columns ≡ true
  unfolding enter
  enter-blind k r e = blind-drop (width_of k r) r.columns e

  pub blank-words : (r : Row) → is_blank_line r ≡ true → words_of r ≡ []
  blank-words r e = grind arith

  blank-interrupts : (same : Bool) (r : Row) (ahead : List Row) → is_blank_line r ≡ true → interrupts options same r ahead ≡ true
  blank-interrupts same r ahead e = rw e refl

  blank-texts : (r : Row) (ahead : List Row) → is_blank_line r ≡ true → texts options r ahead ≡ false
  unfolding texts
  blank-texts r ahead e = ap (λ z. not (z || (table_interrupts options r ahead || begins_definition options r))) (blank-interrupts (not r.lazy) r ahead e)

  -- ## Lines ahead that are the same up to a blank line

  abbrev Alike : List Row → List Row → Type 0
  Alike [] [] = Unit {0}
  Alike [] (s ∷ ss) = ⊥
  Alike (r ∷ rs) [] = ⊥
  Alike (r ∷ rs) (s ∷ ss) = (s ≡ r) × ((is_blank_line r ≡ true) ⊎ Alike rs ss)

  alike-following : (rs x y : List Row) → has_blank_line rs ≡ true → Alike (rs ++ x) (rs ++ y)
  alike-following [] x y e = absurd (true≢false (sym e))
  alike-following (r ∷ rs) x y e = (refl, go (is_blank_line r) refl (λ q. alike-following rs x y q))
    where
      go : (z : Bool) → is_blank_line r ≡ z → (has_blank_line rs ≡ true → Alike (rs ++ x) (rs ++ y)) → (is_blank_line r ≡ true) ⊎ Alike (rs ++ x) (rs ++ y)
      go true q ih = inl q
      go false q ih = inr (ih (ap (λ z. z || has_blank_line rs) (sym q) ∙ e))

  shown-alike : (a b : List Row) → Alike a b → Alike (shown a) (shown b)
  shown-alike [] [] h = tt
  shown-alike [] (s ∷ ss) h = absurd h
  shown-alike (r ∷ rs) [] h = absurd h
  shown-alike (r ∷ rs) (s ∷ ss) h = subst (λ x. Alike (shown (r ∷ rs)) (shown (x ∷ ss))) (sym h.0) (go r.lazy (⊎_elim (λ q. inl q) (λ t. inr (shown-alike rs ss t)) h.1))
    where
      go : (z : Bool) → ((is_blank_line r ≡ true) ⊎ Alike (shown rs) (shown ss)) → Alike (show_as z r (shown rs)) (show_as z r (shown ss))
      go true t = tt
      go false t = (refl, t)

  strips-alike : (k : Container) (bare : Bool) (a b : List Row) → Alike a b → Alike (strips k bare a) (strips k bare b)
  strips-alike k bare [] [] h = tt
  strips-alike k bare [] (s ∷ ss) h = absurd h
  strips-alike k bare (r ∷ rs) [] h = absurd h
  strips-alike k bare (r ∷ rs) (s ∷ ss) h = (ap (strip k bare) h.0, ⊎_elim (λ q. inl (strip-blank k bare r q)) (λ t. inr (strips-alike k false rs ss t)) h.1)

  within-alike : (k : Container) (bare : Bool) (a b : List Row) → Alike a b → Alike (within k bare a) (within k bare b)
  within-alike k bare a b h = shown-alike (strips k bare a) (strips k bare b) (strips-alike k bare a b h)

  -- the line looks at no line ahead, or both lists are the same up to a blank line
  abbrev Sees : Row → List Row → List Row → Type 0
  Sees r a b = (are_blind r.columns ≡ true) ⊎ Alike a b

  sees-inside : (k : Container) (bare shows : Bool) (r : Row) (a b : List Row) → Sees r a b → Sees (strip k bare r) (within k shows a) (within k shows b)
  sees-inside k bare shows r a b h = ⊎_elim (λ e. inl (strip-blind k bare r e)) (λ t. inr (within-alike k shows a b t)) h

  sees-entered : (k : Container) (shows : Bool) (r : Row) (a b : List Row) → Sees r a b → Sees (enter k r) (within k shows a) (within k shows b)
  sees-entered k shows r a b h = ⊎_elim (λ e. inl (enter-blind k r e)) (λ t. inr (within-alike k shows a b t)) h

  delimited-alike : (columns : ℕ) (a b : List Row) → Alike a b → delimited_ahead columns a ≡ delimited_ahead columns b
  delimited-alike columns a b h = grind arith

  blind-head : (r : Row) (ahead : List Row) → are_blind r.columns ≡ true → table_head options r ahead ≡ None
  blind-head r ahead e = cc (blind-pipe (words_of r) (blind-words r e), and-none options.tables (not r.lazy))

  head-same : (r : Row) (a b : List Row) → Sees r a b → table_head options r a ≡ table_head options r b
  head-same r a b h = grind (arith, blind-head, delimited-alike)

  table_interrupts-same : (r : Row) (a b : List Row) → Sees r a b → table_interrupts options r a ≡ table_interrupts options r b
  table_interrupts-same r a b h = ap (λ t. nat_le (indent_of r) 3 && (begins_with_pipe (words_of r) && is_some_head t)) (head-same r a b h)

  texts-same : (r : Row) (a b : List Row) → Sees r a b → texts options r a ≡ texts options r b
  unfolding texts
  texts-same r a b h = ap (λ t. not (interrupts options (not r.lazy) r a || (t || begins_definition options r))) (table_interrupts-same r a b h)

  lazily-same : (k : Container) (r : Row) (a b : List Row) → Sees r a b → lazily options k r a ≡ lazily options k r b
  unfolding lazily
  lazily-same k r a b h = ap (λ t. not (interrupts options false r a || (t || (is_definition k && begins_definition options r)))) (table_interrupts-same r a b h)

  text_lines-alike : (a b : List Row) → Alike a b → text_lines options a ≡ text_lines options b
  text_lines-alike [] [] h = refl
  text_lines-alike [] (s ∷ ss) h = absurd h
  text_lines-alike (r ∷ rs) [] h = absurd h
  text_lines-alike (r ∷ rs) (s ∷ ss) h =
      ⊎_elim (λ e. ap (λ z. put_if (z && is_none (underlines r)) r (text_lines options rs)) (blank-texts r rs e) ∙ sym (ap (λ z. put_if (z && is_none (underlines r)) r (text_lines options ss)) (blank-texts r ss e)))
      (λ t. ap (λ z. put_if (z && is_none (underlines r)) r (text_lines options rs)) (texts-same r rs ss (inr t)) ∙ ap (put_if (texts options r ss && is_none (underlines r)) r) (text_lines-alike rs ss t)) h.1
      ∙ ap (λ x. put_if (texts options x ss && is_none (underlines x)) x (text_lines options ss)) (sym h.0)

  count_rows-alike : (columns left : ℕ) (a b : List Row) → Alike a b → count_rows options columns left a ≡ count_rows options columns left b
  count_rows-alike columns left [] [] h = refl
  count_rows-alike columns left [] (s ∷ ss) h = absurd h
  count_rows-alike columns left (r ∷ rs) [] h = absurd h
  count_rows-alike columns left (r ∷ rs) (s ∷ ss) h =
      ⊎_elim (λ e. counted-blank e rs ∙ sym (counted-blank e ss))
      (λ t. ap (one_more_if (not (interrupts options false r rs) && nat_le (count_missing columns r) left)) (count_rows-alike columns (left - count_missing columns r) rs ss t)) h.1
      ∙ ap (λ x. count_rows options columns left (x ∷ ss)) (sym h.0)
    where
      counted-blank : is_blank_line r ≡ true → (x : List Row) → count_rows options columns left (r ∷ x) ≡ 0
      counted-blank e x = ap (λ z. one_more_if (not z && nat_le (count_missing columns r) left) (count_rows options columns (left - count_missing columns r) x)) (blank-interrupts false r x e)

  blank-delimited : (columns : ℕ) (s : Row) (ahead : List Row) → is_blank_line s ≡ true → delimited_ahead columns (s ∷ ahead) ≡ None
  blank-delimited columns s ahead e = grind (arith, blank-words)

  -- a table begins before one list of lines exactly if it begins before the other
  table-alike : (r : Row) (a b : List Row) → Alike a b → table_if options (table_head options r a) a ≡ table_if options (table_head options r a) b
  table-alike r [] [] h = refl
  table-alike r [] (s ∷ ss) h = absurd h
  table-alike r (x ∷ rs) [] h = absurd h
  table-alike r (x ∷ rs) (s ∷ ss) h =
      ⊎_elim (λ e. ap (λ t. table_if options t (x ∷ rs)) (none e) ∙ sym (ap (λ t. table_if options t (s ∷ ss)) (none e))) (λ t. go (table_head options r (x ∷ rs)) t) h.1
    where
      none : is_blank_line x ≡ true → table_head options r (x ∷ rs) ≡ None
      none e = ap (λ d. if options.tables && (not r.lazy && holds_pipe (words_of r)) then d else None) (blank-delimited (count_cells r) x rs e) ∙ either (options.tables && (not r.lazy && holds_pipe (words_of r))) None

      go : (t : Option (List Alignment)) → Alike rs ss → table_if options t (x ∷ rs) ≡ table_if options t (s ∷ ss)
      go None h = refl
      go (Some alignments) h = ap (λ n. Takes (Table alignments) (suc n)) (count_rows-alike (length alignments) most_filled rs ss h)

  blind-definition : (r : Row) (ahead : List Row) → are_blind r.columns ≡ true → definition_of options r ahead ≡ Plain
  blind-definition r ahead e = grind (arith, blind-defined, blind-words)

  blind-text : (r : Row) (ahead : List Row) → are_blind r.columns ≡ true → text_of options r ahead ≡ Plain
  blind-text r ahead e = ap (λ o. or_else o (table_if options (table_head options r ahead) ahead)) (blind-definition r ahead e) ∙ ap (λ t. table_if options t ahead) (blind-head r ahead e)

  text-same : (r : Row) (a b : List Row) → Sees r a b → text_of options r a ≡ text_of options r b
  text-same r a b h = grind (arith, blind-text, text_lines-alike, table-alike, head-same)

  -- ## The block that a line begins, without the number of its lines if these are judged one by one

  abbrev quiet_leaf : Leaf → ℕ → ℕ
  quiet_leaf IndentedCode n = 0
  quiet_leaf (FencedCode fence) n = 0
  quiet_leaf (HtmlBlock kind) n = 0
  quiet_leaf (MetadataBlock kind) n = 0
  quiet_leaf _ n = n

  abbrev quiet : Opening → Opening
  quiet Blank = Blank
  quiet (Nests k) = Nests k
  quiet (Takes leaf n) = Takes leaf (quiet_leaf leaf n)
  quiet Plain = Plain

  quiet-begun : (leaf : Leaf) (n : ℕ) (closed : Blocks) (r : Row) → leaf_begun leaf (quiet_leaf leaf n) closed r ≡ leaf_begun leaf n closed r
  quiet-begun leaf n closed r = grind arith

  quiet-begins : (o : Opening) (inside : Container → OpenLines) (closed : Blocks) (r : Row) → lines_begin_as (quiet o) inside closed r ≡ lines_begin_as o inside closed r
  quiet-begins (Takes leaf n) inside closed r = quiet-begun leaf n closed r
  quiet-begins _ inside closed r = refl

  quiet-or : (x y : Opening) → quiet (or_else x y) ≡ or_else (quiet x) (quiet y)
  quiet-or x y = grind arith

  or-quiet : (x x' y y' : Opening) → quiet x ≡ quiet x' → quiet y ≡ quiet y' → quiet (or_else x y) ≡ quiet (or_else x' y')
  or-quiet x x' y y' e f = quiet-or x y ∙ ap (λ o. or_else o (quiet y)) e ∙ ap (or_else (quiet x')) f ∙ sym (quiet-or x' y')

  html-quiet : (r : Row) (a b : List Row) (k : Option ℕ) → quiet (html_if r a k) ≡ quiet (html_if r b k)
  html-quiet r a b None = refl
  html-quiet r a b (Some kind) = refl

  fence-quiet : (f : Option Fence) (a b : List Row) → quiet (fenced_if f a) ≡ quiet (fenced_if f b)
  fence-quiet None a b = refl
  fence-quiet (Some fence) a b = refl

  leaf-quiet : (r : Row) (a b : List Row) → Sees r a b → quiet (leaf_of options r a) ≡ quiet (leaf_of options r b)
  leaf-quiet r a b h =
      or-quiet (html_if r a (html_kind (words_of r))) (html_if r b (html_kind (words_of r))) _ _ (html-quiet r a b (html_kind (words_of r)))
      (or-quiet (break_if (is_thematic_break (words_of r))) (break_if (is_thematic_break (words_of r))) _ _ refl
      (or-quiet (heading_if (is_atx_heading (words_of r)) (run 35 (words_of r))) (heading_if (is_atx_heading (words_of r)) (run 35 (words_of r))) _ _ refl
      (or-quiet (fenced_if (fence_of (indent_of r) (words_of r)) a) (fenced_if (fence_of (indent_of r) (words_of r)) b) _ _ (fence-quiet (fence_of (indent_of r) (words_of r)) a b)
      (ap quiet (text-same r a b h)))))

  whole-quiet : (r : Row) (a b : List Row) → Sees r a b → quiet (whole_opens options r a) ≡ quiet (whole_opens options r b)
  whole-quiet r a b h = go (is_blank_line r) (nat_le 4 (indent_of r))
    where
      go : (x y : Bool)
          → quiet (if x then Blank else if y then Takes IndentedCode (counted code_continuation a) else or_else (nests_if (container_of options r)) (leaf_of options r a))
          ≡ quiet (if x then Blank else if y then Takes IndentedCode (counted code_continuation b) else or_else (nests_if (container_of options r)) (leaf_of options r b))
      go true y = refl
      go false true = refl
      go false false = or-quiet (nests_if (container_of options r)) (nests_if (container_of options r)) (leaf_of options r a) (leaf_of options r b) refl (leaf-quiet r a b h)

  -- ## Metadata

  pub no-metadata : HasNoMetadata options → (r : Row) → metadata_kind options r ≡ None
  no-metadata m r = search rules

  -- both lists of lines decide alike whether metadata begins on the line
  abbrev Told : Row → List Row → List Row → Type 0
  Told r a b = (r.lazy ≡ true) ⊎ (quiet (metadata_begun (metadata_kind options r) a) ≡ quiet (metadata_begun (metadata_kind options r) b))

  none-told : (r : Row) (a b : List Row) → (r.lazy ≡ true) ⊎ (metadata_kind options r ≡ None) → Told r a b
  none-told r a b h = ⊎_elim (λ e. inl e) (λ e. inr (ap (λ k. quiet (metadata_begun k a)) e ∙ sym (ap (λ k. quiet (metadata_begun k b)) e))) h

  opens-quiet : (r : Row) (a b : List Row) → Told r a b → Sees r a b → quiet (opens options r a) ≡ quiet (opens options r b)
  unfolding opens
  opens-quiet r a b told h = ⊎_elim lazy (λ e. go r.lazy e) told
    where
      opened : Bool → List Row → Opening
      opened z ahead = if z then Plain else or_else (metadata_begun (metadata_kind options r) ahead) (whole_opens options r ahead)

      lazy : r.lazy ≡ true → quiet (opened r.lazy a) ≡ quiet (opened r.lazy b)
      lazy e = ap (λ z. quiet (opened z a)) e ∙ sym (ap (λ z. quiet (opened z b)) e)

      go : (z : Bool) → quiet (metadata_begun (metadata_kind options r) a) ≡ quiet (metadata_begun (metadata_kind options r) b) → quiet (opened z a) ≡ quiet (opened z b)
      go true e = refl
      go false e = or-quiet (metadata_begun (metadata_kind options r) a) (metadata_begun (metadata_kind options r) b) (whole_opens options r a) (whole_opens options r b) e (whole-quiet r a b h)

  at-quiet : (place : Place) (r : Row) (a b : List Row) → Told r a b → Sees r a b → quiet (opens_at options place r a) ≡ quiet (opens_at options place r b)
  at-quiet place r a b told h = go (is_after_task place && not r.lazy) (definition_at options place r)
    where
      go : (z : Bool) (d : Option ℕ) → quiet (if z then text_begun r else definition_or d (opens options r a)) ≡ quiet (if z then text_begun r else definition_or d (opens options r b))
      go z d = grind (arith, opens-quiet)

  begins-inside : (o : Opening) (one other : Container → OpenLines) (closed : Blocks) (r : Row) → ((k : Container) → o ≡ Nests k → one k ≡ other k) → lines_begin_as o one closed r ≡ lines_begin_as o other closed r
  begins-inside (Nests k) one other closed r e = ap (λ x. InContainer closed k r [] (lines_inside_begun (is_alert k) x)) (e k refl)
  begins-inside _ one other closed r e = refl

  begin_in-same : (n : ℕ) (place : Place) (closed : Blocks) (r : Row) (a b : List Row) → IsWholly options r → Told r a b → Sees r a b → lines_begin_in options n place closed r a ≡ lines_begin_in options n place closed r b
  begin_in-same zero place closed r a b w told h = refl
  begin_in-same (suc n) place closed r a b w told h =
      sym (quiet-begins (opens_at options place r a) (inside a) closed r)
      ∙ ap (λ o. lines_begin_as o (inside a) closed r) (at-quiet place r a b told h)
      ∙ quiet-begins (opens_at options place r b) (inside a) closed r
      ∙ begins-inside (opens_at options place r b) (inside a) (inside b) closed r
      (λ k e. begin_in-same n (place_in k) Nil (enter k r) (within k (is_bare_start k r) a) (within k (is_bare_start k r) b) (enter-wholly options k r w)
      (none-told (enter k r) (within k (is_bare_start k r) a) (within k (is_bare_start k r) b) (inr (enter-none options k place r b e w))) (sees-entered k (is_bare_start k r) r a b h))
    where
      inside : List Row → Container → OpenLines
      inside x k = lines_begin_in options n (place_in k) Nil (enter k r) (within k (is_bare_start k r) x)

  begin-same : (closed : Blocks) (r : Row) (a b : List Row) → IsWholly options r → Told r a b → Sees r a b → lines_begin options closed r a ≡ lines_begin options closed r b
  unfolding lines_begin
  begin-same closed r a b w told h = begin_in-same (suc (length r.columns)) (place_after Apart closed) closed r a b w told h

  -- ## One more line

  -- the line begins a block, or is the first one after an alert's tag
  abbrev Begins : OpenLines → Row → List Row → Type 0
  Begins (InParagraph closed first more) r ahead = Parts options (InParagraph closed first more) r ahead
  Begins (InLeaf closed leaf first had left) r ahead = left ≡ 0
  Begins (InVerbatim closed verbatim first had waiting) r ahead = Parts options (InVerbatim closed verbatim first had waiting) r ahead
  Begins (InContainer closed k first more inside) r ahead = Parts options (InContainer closed k first more inside) r ahead
  Begins _ r ahead = Unit {0}

  feed-same : (o : OpenLines) (r : Row) (a b : List Row) → ArePrefixed o → IsWholly options r → (Begins o r a → Told r a b) → Sees r a b → lines_feed options o r a ≡ lines_feed options o r b
  feed-same (Between closed) r a b p w told h = begin-same closed r a b w (told tt) h
  feed-same AfterTag r a b p w told h = begin_in-same (suc (length r.columns)) AfterLazy Nil r a b w (told tt) h
  feed-same (InParagraph closed first more) r a b p w told h = grind (arith, texts-same, begin-same)
  feed-same (InLeaf closed leaf first had zero) r a b p w told h = begin-same (join closed (LeafBlock leaf first had Nil)) r a b w (told refl) h
  feed-same (InLeaf closed leaf first had (suc left)) r a b p w told h = refl
  feed-same (InVerbatim closed verbatim first had waiting) r a b p w told h = grind (arith, begin-same)
  feed-same (InContainer closed k first more inside) r a b p w told h =
      ap (λ z. lines_kept_or (keeps k bare r) (z && lines_take_lazy inside) (on (lines_feed options inside (strip k bare r) (within k false a))) (lines_begin options off r a)) (lazily-same k r a b h)
      ∙ ap (λ x. lines_kept_or (keeps k bare r) (lazily options k r b && lines_take_lazy inside) (on x) (lines_begin options off r a))
      (feed-same inside (strip k bare r) (within k false a) (within k false b) p.1 (strip-wholly options k bare r p.0 w)
      (λ begins. none-told (strip k bare r) (within k false a) (within k false b) (strip-told options k bare r p.0 w)) (sees-inside k bare false r a b h))
      ∙ go (keeps k bare r) refl (lazily options k r b && lines_take_lazy inside) refl
    where
      bare : Bool
      bare = bare_after (is_bare_start k first) more

      off : Blocks
      off = join closed (ContainerBlock k first more (close_lines inside) Nil)

      on : OpenLines → OpenLines
      on x = InContainer closed k first (more ++ r ∷ []) x

      go : (o : Option Row) → keeps k (bare_after (is_bare_start k first) more) r ≡ o → (z : Bool) → (lazily options k r b && lines_take_lazy inside) ≡ z
          → lines_kept_or o z (on (lines_feed options inside (strip k (bare_after (is_bare_start k first) more) r) (within k false b))) (lines_begin options off r a)
          ≡ lines_kept_or o z (on (lines_feed options inside (strip k (bare_after (is_bare_start k first) more) r) (within k false b))) (lines_begin options off r b)
      go o e z q = grind (arith, begin-same, off, lazily-same)

  -- ## Lines that decide about metadata

  ended-append : (kind : MetadataBlockKind) (rs x : List Row) → AreLines options rs → is_ended kind rs ≡ true → is_ended kind (shown (rs ++ x)) ≡ true
  ended-append kind [] x l e = absurd (true≢false (sym e))
  ended-append kind (r ∷ rs) x l e = grind (arith, ended-append kind rs x l.1)

  -- lines that decide about metadata decide alike, whatever follows them
  decide-told : (r : Row) (rs x y : List Row) → AreLines options rs → decide (metadata_kind options r) rs ≡ true → Told r (shown (rs ++ x)) (shown (rs ++ y))
  decide-told r rs x y l e = inr (go (metadata_kind options r) rs l e)
    where
      held : (kind : MetadataBlockKind) (s : Row) (ss : List Row) → AreLines options ss → (blank ends : Bool) → is_blank_line s ≡ blank → ends_metadata kind s ≡ ends → (blank || (ends || is_ended kind ss)) ≡ true
          → holds_metadata kind (s ∷ shown (ss ++ x)) ≡ holds_metadata kind (s ∷ shown (ss ++ y))
      held kind s ss m blank ends p q t = grind (arith, ended-append)

      begun : (kind : MetadataBlockKind) (a b : List Row) → holds_metadata kind a ≡ holds_metadata kind b → quiet (metadata_begun (Some kind) a) ≡ quiet (metadata_begun (Some kind) b)
      begun kind a b q = grind arith

      go : (o : Option MetadataBlockKind) (ss : List Row) → AreLines options ss → decide o ss ≡ true → quiet (metadata_begun o (shown (ss ++ x))) ≡ quiet (metadata_begun o (shown (ss ++ y)))
      go o ss m t = grind (arith, begun, held)

  begins-parts : (o : OpenLines) (r : Row) (ahead : List Row) → Steady Nil o → Begins o r ahead → Parts options o r ahead
  begins-parts o r ahead s h = grind arith

  -- the state after the lines does not depend on the lines after them
  pub fed-same : (o : OpenLines) (rs x y : List Row) → Steady Nil o → ArePrefixed o → AreLines options rs → are_resolved rs ≡ true → AreDecided options x o rs → fed_before options x o rs ≡ fed_before options y o rs
  fed-same o [] x y s p l e d = refl
  fed-same o (r ∷ rs) x y s p l e d =
      fed-same (lines_feed options o r (shown (rs ++ x))) rs x y (feed-steady options Nil o r (shown (rs ++ x)) s) (feed-prefixed options o r (shown (rs ++ x)) p) l.1 (both (are_blind r.columns || has_blank_line rs) (are_resolved rs) e).1 d.1
      ∙ ap (λ z. fed_before options y z rs) (feed-same o r (shown (rs ++ x)) (shown (rs ++ y)) p l.0.1 (λ b. decide-told r rs x y l.1 (d.0 (begins-parts o r (shown (rs ++ x)) s b))) sees)
    where
      sees : Sees r (shown (rs ++ x)) (shown (rs ++ y))
      sees = grind (arith, both, shown-alike, alike-following)

  pub fed-alone : (o : OpenLines) (rs : List Row) → fed_before options [] o rs ≡ lines_feed_all options o rs
  fed-alone o [] = refl
  fed-alone o (r ∷ rs) = ap (λ l. fed_before options [] (lines_feed options o r (shown l)) rs) (append-nil rs) ∙ fed-alone (lines_feed options o r (shown rs)) rs

  -- so they are fed as if nothing followed, and as if other lines followed
  pub fed-settled : (rs following : List Row) → AreLines options rs → are_resolved rs ≡ true → AreDecided options following (Between Nil) rs
      → (other : List Row) → fed_before options other (Between Nil) rs ≡ lines_feed_all options (Between Nil) rs
  fed-settled rs following l e d other =
      sym (fed-same (Between Nil) rs following other refl tt l e d) ∙ fed-same (Between Nil) rs following [] refl tt l e d ∙ fed-alone (Between Nil) rs

  pub resolved-settled : (front : List ℕ) (following : List Row) → are_resolved (rows front) ≡ true → AreDecided options following (Between Nil) (rows front)
      → (other : List Row) → fed_before options other (Between Nil) (rows front) ≡ open_after options front
  resolved-settled front following e d other = fed-settled (rows front) following (are-lines options 0 (lines front)) e d other

  -- without metadata nothing is to be decided
  pub none-decided : HasNoMetadata options → (following : List Row) (o : OpenLines) (rs : List Row) → AreDecided options following o rs
  none-decided m following o [] = tt
  none-decided m following o (r ∷ rs) = (λ parts. ap (λ k. decide k rs) (no-metadata m r), none-decided m following (lines_feed options o r (shown (rs ++ following))) rs)
