-- The beginning of a container on a line of its own: the rest of the line after its marker is still to be handled, or the container takes
-- the whole line, for example with a task marker.
use Rattle.std.proofs.Common.{◌≡◌, ℕ, zero, suc, ◌+◌, ◌≤◌, Bool, true, false, ◌&&◌, ◌==◌, not, cond, List, [], ◌∷◌, length, drop, take_while, Option, Some, None, refl, sym, ap, subst, ◌∙◌, arith, drop-drop}
use Rattle.std.specs.Prelude.{if◌then◌else◌}
use Rattle.std.proofs.lemmas.List.Sums.{take_while-cons}
use Rattle.cmark_grammar.specs.Answers.{Lookup}
use Rattle.cmark_grammar.specs.Columns.{Column, is_blank, is_blank_byte, without_indent, bytes_of}
use Rattle.cmark_grammar.specs.Containers.{Container, BlockQuote, Item, is_alert, marker_width, enter}
use Rattle.cmark_grammar.specs.Leaves.{are_blank}
use Rattle.cmark_grammar.specs.Letters.{first_is}
use Rattle.cmark_grammar.specs.Openings.{Blank, Plain, opens, opens_at}
use Rattle.cmark_grammar.specs.Options.{Options}
use Rattle.cmark_grammar.specs.Blocks.{place_in}
use Rattle.cmark_grammar.specs.Places.{Apart, AfterTask}
use Rattle.cmark_grammar.specs.Rows.{Row, without, begin_of, is_bare, is_blank_line, indent_of, words_of}
use Rattle.cmark_grammar.specs.TaskItems.{task_in}
use Rattle.cmark_grammar.specs.TaskMarkers.{box_of, task_of}
use Rattle.cmark_line_rules.specs.Rests.{row_of}
use Rattle.cmark_line_rules.specs.Starts.{shown_start, Enters}
use Rattle.cmark_line_rules.specs.declared.container.ContainerStart.{ContainerStart}
use Rattle.cmark_line_rules.specs.declared.container.ContainerStart.TheVariants as begun
use Rattle.cmark_grammar.specs.BlockDocument.{BlockDocument, Nil}
use Rattle.cmark_grammar.specs.Derivation.{task_then}
use Rattle.cmark_block_model.proofs.PlainTokens.{join-nil}
use Rattle.cmark_block_model.specs.BlockPass.{ahead_in, begin_as, begin_in, container_begun, inside_begun, is_item, item_begun_in, paragraph_begun, with_drawn}
use Rattle.cmark_block_model.specs.OpenBlocks as model
use Rattle.cmark_blocks.specs.Entered.{takes_line, line_taken}

-- whether there is nothing but blanks in these columns
abbrev all_blank : List Column → Bool
all_blank [] = true
all_blank (c ∷ cs) = is_blank c && all_blank cs

both : (x y : Bool) → (x && y) ≡ true → (x ≡ true) × (y ≡ true)
both true y e = (refl, e)
both false y e = absurd (let q : false ≡ true = e in cc)

bare-blank : (cs : List Column) → is_bare (without_indent cs) ≡ true → all_blank cs ≡ true
bare-blank [] e = refl
bare-blank (c ∷ cs) e = go (is_blank c) refl (subst (λ l. is_bare (drop (length l) (c ∷ cs)) ≡ true) (take_while-cons is_blank c cs) e) (λ q. bare-blank cs q)
  where
    go : (z : Bool) → is_blank c ≡ z → is_bare (drop (length (cond z (c ∷ take_while is_blank cs) [])) (c ∷ cs)) ≡ true → (is_bare (without_indent cs) ≡ true → all_blank cs ≡ true) → (is_blank c && all_blank cs) ≡ true
    go true p q others = ap (λ z. z && all_blank cs) p ∙ others q
    go false p q others = absurd (let r : false ≡ true = q in cc)

blank-later : (n : ℕ) (cs : List Column) → all_blank (drop n cs) ≡ true → all_blank (drop (suc n) cs) ≡ true
blank-later zero [] e = refl
blank-later (suc n) [] e = refl
blank-later zero (c ∷ cs) e = (both (is_blank c) (all_blank cs) e).1
blank-later (suc n) (c ∷ cs) e = blank-later n cs e

-- after these bytes there are only blanks, if that holds after these columns
blank-bytes : (n : ℕ) (cs : List Column) → all_blank (drop n cs) ≡ true → are_blank (drop n (bytes_of cs)) ≡ true
blank-bytes zero [] e = refl
blank-bytes (suc n) [] e = refl
blank-bytes zero (c ∷ cs) e = let h = both (is_blank c) (all_blank cs) e in go (c.part == 0) h.0 (blank-bytes zero cs h.1)
  where
    go : (z : Bool) → is_blank c ≡ true → are_blank (bytes_of cs) ≡ true → are_blank (if z then c.byte ∷ bytes_of cs else bytes_of cs) ≡ true
    go true here others = ap (λ z. z && are_blank (bytes_of cs)) here ∙ others
    go false here others = others
blank-bytes (suc n) (c ∷ cs) e = go (c.part == 0) (blank-bytes n cs e) (blank-bytes (suc n) cs (blank-later n cs e))
  where
    go : (z : Bool) → are_blank (drop n (bytes_of cs)) ≡ true → are_blank (drop (suc n) (bytes_of cs)) ≡ true → are_blank (drop (suc n) (if z then c.byte ∷ bytes_of cs else bytes_of cs)) ≡ true
    go true shorter longer = shorter
    go false shorter longer = longer

-- after a task marker there is text
following-box : (options : Options) (r : Row) (is_checked : Bool) → task_in options r ≡ Some is_checked → is_blank_line (without 3 r) ≡ false
following-box options r is_checked e = go (is_blank_line (without 3 r)) refl
  where
    zero-is : (n : ℕ) → (n == 0) ≡ true → n ≡ 0
    zero-is n q = grind (arith)

    none : None ≡ Some is_checked → ⊥
    none q = absurd (let p : None ≡ Some is_checked = q in cc)

    parted : (x y : Bool) → x ≡ true → (if y && not x then box_of (words_of r) else None) ≡ Some is_checked → ⊥
    parted true true p q = none q
    parted true false p q = none q
    parted false y p q = absurd (let n : false ≡ true = p in cc)

    blank-words : is_blank_line (without 3 r) ≡ true → indent_of r ≡ 0 → are_blank (drop 3 (words_of r)) ≡ true
    blank-words blank flush =
        ap (λ n. are_blank (drop 3 (bytes_of (drop n r.columns)))) flush ∙ blank-bytes 3 r.columns (bare-blank (drop 3 r.columns) blank)

    read : (x y : Bool) → (indent_of r == 0) ≡ y → (if x && y then task_of (words_of r) else None) ≡ Some is_checked → is_blank_line (without 3 r) ≡ true → ⊥
    read true true f q blank = parted (are_blank (drop 3 (words_of r))) (first_is is_blank_byte (drop 3 (words_of r))) (blank-words blank (zero-is (indent_of r) f)) q
    read true false f q blank = none q
    read false y f q blank = none q

    go : (z : Bool) → is_blank_line (without 3 r) ≡ z → is_blank_line (without 3 r) ≡ false
    go true blank = absurd (read options.tasklists (indent_of r == 0) refl e blank)
    go false some = some

-- the line after an item's task marker contains text
abbrev pub HasText : Container → Row → Type 0
HasText (Item delimiter number width None) r = Unit {0}
HasText (Item delimiter number width (Some is_checked)) r = is_blank_line (enter (Item delimiter number width (Some is_checked)) r) ≡ false
HasText _ r = Unit {0}

item-text : (options : Options) (r s : Row) (delimiter : ℕ) (number : Option ℕ) (width : ℕ) (task : Option Bool) → s ≡ without width r → task_in options s ≡ task → HasText (Item delimiter number width task) r
unfolding enter
item-text options r s delimiter number width None is in_text = tt
item-text options r s delimiter number width (Some is_checked) is in_text =
    ap (λ cs. is_bare (without_indent cs)) (sym (drop-drop 3 width r.columns)) ∙ sym (ap (λ (x : Row). is_blank_line (without 3 x)) is) ∙ following-box options s is_checked in_text

pub start-text : (options : Options) (r : Row) (start : ContainerStart) → Enters r start → HasText (shown_start options r start) r
start-text options r (begun.Item item inside) enters =
    item-text options r (row_of inside) item.delimiter item.number item.width (task_in options (row_of inside)) (enters options) refl
start-text options r _ enters = tt

-- text after a task marker is a paragraph
text-opens : (options : Options) (r : Row) (ahead : List Row) → is_blank_line r ≡ false → opens_at options AfterTask r ahead ≡ Plain
unfolding opens
text-opens options r ahead some = go r.lazy refl
  where
    go : (z : Bool) → r.lazy ≡ z → opens_at options AfterTask r ahead ≡ Plain
    go true lazy = ap (λ z. if not z then (if is_blank_line r then Blank else Plain) else opens options r ahead) lazy ∙ lazy-opens lazy
      where
        lazy-opens : r.lazy ≡ true → opens options r ahead ≡ Plain
        lazy-opens e = rw e
    go false whole = ap (λ z. if not z then (if is_blank_line r then Blank else Plain) else opens options r ahead) whole ∙ ap (λ (z : Bool). if z then Blank else Plain) some

-- a line without columns is blank
none-blank : (n : ℕ) (r : Row) → length r.columns ≤ 0 → is_blank_line (without n r) ≡ true
none-blank n r le = go n r.columns le
  where
    go : (n : ℕ) (cs : List Column) → length cs ≤ 0 → is_bare (without_indent (drop n cs)) ≡ true
    go zero [] le = refl
    go (suc n) [] le = refl
    go n (c ∷ cs) le = absurd (omega (arith, le))

module _ (text : List ℕ) (options : Options) (lookup : Lookup) (columns : ℕ) (next : List Row) (r : Row) (m : model.Pass) where
  -- the opening of a line whose first block is this container
  abbrev pub nested : Container → model.Pass
  nested k = inside_begun (is_alert k) (container_begun k r m) (begin_in text options lookup columns (place_in k) (enter k r) next (is_item k) (container_begun k r m))

  -- the rest of the line after the container's marker is still to be handled
  pub nested-on : (k : Container) → takes_line k ≡ false → nested k ≡ begin_in text options lookup columns Apart (without (marker_width k r) r) next (is_item k) (container_begun k r m)
  unfolding enter
  nested-on (BlockQuote None) e = refl
  nested-on (BlockQuote (Some kind)) e = absurd (let q : true ≡ false = e in cc)
  nested-on (Item delimiter number width None) e = refl
  nested-on (Item delimiter number width (Some is_checked)) e = absurd (let q : true ≡ false = e in cc)
  nested-on _ e = refl

-- the container takes the whole line
pub nested-taken : (text : List ℕ) (options : Options) (lookup : Lookup) (columns : ℕ) (next : List Row) (r : Row) (m : model.Pass) (k : Container) →
    length r.columns ≤ columns → HasText k r → takes_line k ≡ true → nested text options lookup columns next r m k ≡ line_taken text options lookup k r (container_begun k r m)
unfolding enter
nested-taken text options lookup columns next r m (BlockQuote None) le has e = absurd (let q : false ≡ true = e in cc)
nested-taken text options lookup columns next r m (BlockQuote (Some kind)) le has e = refl
nested-taken text options lookup columns next r m (Item delimiter number width None) le has e = absurd (let q : false ≡ true = e in cc)
nested-taken text options lookup zero next r m (Item delimiter number width (Some is_checked)) le has e =
    absurd (let blank = none-blank (width + 3) r le in let q : true ≡ false = sym blank ∙ has in cc)
nested-taken text options lookup (suc n) next r m (Item delimiter number width (Some is_checked)) le has e =
    let k : Container = Item delimiter number width (Some is_checked) in
    let p = container_begun k r m in
    let ahead = ahead_in text options lookup p.outer next in
    ap
    (λ o. begin_as text options lookup o
    (λ k. inside_begun (is_alert k) (container_begun k (enter (Item delimiter number width (Some is_checked)) r) p)
    (begin_in text options lookup n (place_in k) (enter k (enter (Item delimiter number width (Some is_checked)) r)) next (is_item k) (container_begun k (enter (Item delimiter number width (Some is_checked)) r) p)))
    (enter (Item delimiter number width (Some is_checked)) r) ahead true p)
    (text-opens options (enter k r) ahead has)
nested-taken text options lookup columns next r m _ le has e = absurd (let q : false ≡ true = e in cc)

-- an item with no task marker is begun with nothing in it
pub item-alone : (r : Row) (m : model.Pass) (delimiter : ℕ) (number : Option ℕ) (width : ℕ) → container_begun (Item delimiter number width None) r m ≡ item_begun_in delimiter number width None (begin_of r) m
item-alone r m delimiter number width =
    let p : model.Pass = item_begun_in delimiter number width None (begin_of r) m in
    ap {A = BlockDocument} {B = model.Pass} (λ here. record p { drawing = record p.drawing { here = here } }) (join-nil p.drawing.here)

-- an item with a task marker is begun with the marker, and with the paragraph after it
pub item-taken : (text : List ℕ) (options : Options) (lookup : Lookup) (m : model.Pass) (r inside following : Row) (delimiter : ℕ) (number : Option ℕ) (width : ℕ) (is_checked : Bool) (at from : ℕ) →
    inside ≡ without width r → following ≡ without 3 inside → at ≡ begin_of r → from ≡ begin_of inside →
    paragraph_begun text options lookup following (with_drawn (task_then (Some is_checked) from (begin_of following) Nil) (item_begun_in delimiter number width (Some is_checked) at m))
    ≡ line_taken text options lookup (Item delimiter number width (Some is_checked)) r (container_begun (Item delimiter number width (Some is_checked)) r m)
unfolding enter
item-taken text options lookup m r inside following delimiter number width is_checked at from is_inside is_after at_is from_is =
    let last : Row = without (width + 3) r in
    let e : following ≡ last = is_after ∙ ap (without 3) is_inside ∙ ap {A = List Column} {B = Row} (λ cs. record r { columns = cs }) (drop-drop 3 width r.columns) in
    let f : from ≡ begin_of (without width r) = from_is ∙ ap begin_of is_inside in
    ap (λ (b : Row). paragraph_begun text options lookup b (with_drawn (task_then (Some is_checked) from (begin_of b) Nil) (item_begun_in delimiter number width (Some is_checked) at m))) e
    ∙ ap (λ (n : ℕ). paragraph_begun text options lookup last (with_drawn (task_then (Some is_checked) n (begin_of last) Nil) (item_begun_in delimiter number width (Some is_checked) at m))) f
    ∙ ap (λ (n : ℕ). paragraph_begun text options lookup last (with_drawn (task_then (Some is_checked) (begin_of (without width r)) (begin_of last) Nil) (item_begun_in delimiter number width (Some is_checked) n m))) at_is
