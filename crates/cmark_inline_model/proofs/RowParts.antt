-- Rows of parts grow at the end, and are cut at an opening bracket.
use Rattle.std.specs.Prelude.{drop, take, get_or, encode_utf8, Some}
use Rattle.std.proofs.Common.{◌≡◌, Bool, true, false, None, ℕ, zero, suc, ◌+◌, ◌<◌, List, [], ◌∷◌, ◌++◌, length, set, refl, sym, ap, ◌∙◌, subst, arith, append_assoc, append-nil, length-append}
use Rattle.std.proofs.lemmas.List.{length-set}
use Rattle.std.proofs.Math.Seq.{drop-append_seam, take-append_seam}
use Rattle.cmark_grammar.specs.Emphasis.{Run, Delimiter, Pair, IsEmphasis}
use Rattle.cmark_grammar.specs.Items.{ItemKind, Written, Quoted, Delimiters, Autolink, Own, Item, Bracket}
use Rattle.cmark_grammar.specs.Options.{Options}
use Rattle.cmark_grammar.specs.Parts.{Parts, Nil as NoParts, Single as SinglePart, Form, Closing, Opening, Linking, Footnote, Wiki, openings}
use Rattle.cmark_grammar.specs.Quotes.{Quote, quote_characters}
use Rattle.cmark_grammar.specs.Siblings.{Inline, Nil, Single, Around, append, item, item_then, text_then, footnote_then, tag_by, wiki_tag, name_text, display_from, quote_then, quotes_of, quote_as, with_characters, with_quotes}
use Rattle.cmark_inline_model.specs.RunSpans.{run_then, runs_from, dressed_all}
use Rattle.cmark_inline_model.specs.SiblingsModel.{dress, siblings_of}
use Rattle.cmark_grammar.specs.Spans.{Spans}
use Rattle.cmark_inline_model.proofs.EmphasisOne.{one}
use Rattle.cmark_inline_model.specs.PartLists.{join, Cut, cut_at}
use Rattle.cmark_inline_model.specs.RowParts.{run_before, runs_in, bytes_in, counted, BracketPlace, text_slot, LaysParts, IsRow, CutsRow}
use Rattle.cmark_inline_model.specs.SlotRows.{Slot, ItemSlot, BeginSlot, EndSlot, NothingSlot, slots_of, run_slots, run_places, LaysItem, LaysOut, character_slot, quoted, marked, marks_by, marks_of, StandAfter}
use Rattle.cmark_inline_model.proofs.PartCuts.{join_assoc, openings-join, cut-is, Cuts, cuts}
use Rattle.cmark_inline_model.proofs.SlotLaws.{pairs-write, marks-make}
use Rattle.cmark_inline_model.proofs.SlotQuotes.{quotes-written}

-- ## Siblings one after the other

item-then-append : (kind : ItemKind) (x : Item) (a b : Inline) → item_then kind x (append a b) ≡ append (item_then kind x a) b
item-then-append (Autolink uri) x a b = refl
item-then-append kind x a b = refl

footnote-then-append : (is_image : Bool) (start : ℕ) (label : List ℕ) (end : ℕ) (a b : Inline) → footnote_then is_image start label end (append a b) ≡ append (footnote_then is_image start label end a) b
footnote-then-append true start label end a b = refl
footnote-then-append false start label end a b = refl

pub run-slots-grow : (start size : ℕ) (a b : List Slot) → run_slots start size a ++ b ≡ run_slots start size (a ++ b)
run-slots-grow start zero a b = refl
run-slots-grow start (suc size) a b = ap (λ l. ItemSlot (item Own start (suc start)) ∷ l) (run-slots-grow (suc start) size a b)

pub run-places-grow : (at size : ℕ) (a b : List ℕ) → run_places at size a ++ b ≡ run_places at size (a ++ b)
run-places-grow at zero a b = refl
run-places-grow at (suc size) a b = ap (λ l. at ∷ l) (run-places-grow (suc at) size a b)

pub length-run-slots : (start size : ℕ) (a : List Slot) → length (run_slots start size a) ≡ size + length a
length-run-slots start zero a = omega arith
length-run-slots start (suc size) a = let i = length-run-slots (suc start) size a in omega arith

abbrev Grows : Inline → Inline → Type 0
Grows x y = (at : ℕ) (s t : List Slot) (b c q r : List ℕ) → LaysOut at x s b q → LaysOut (at + length s) y t c r → LaysOut at (append x y) (s ++ t) (b ++ c) (q ++ r)

item-grows : (kind : ItemKind) (x : Item) (after y : Inline) → Grows after y → (at : ℕ) (s t : List Slot) (b c q r : List ℕ)
    → LaysItem kind x (λ i j k l. LaysOut i after j k l) at s b q → LaysOut (at + length s) y t c r
    → LaysItem kind x (λ i j k l. LaysOut i (append after y) j k l) at (s ++ t) (b ++ c) (q ++ r)
item-grows kind x after y ih at s t b c q r h k = grind (arith, length-run-slots, run-slots-grow, run-places-grow, length-append, append_assoc)

pub rows-grow : (x y : Inline) → Grows x y
rows-grow Nil y at s t b c q r h k = grind arith
rows-grow (Single x after) y at s t b c q r h k = item-grows x.kind x after y (rows-grow after y) at s t b c q r h k
rows-grow (Around tag start end inside after) y at s t b c q r h k =
    let n = ap length h.3 in
    let m = length-append h.0 (EndSlot ∷ h.1) in (
      h.0,
      h.1 ++ t,
      h.2,
      ap (λ l. l ++ t) h.3 ∙ ap (λ l. BeginSlot tag start end ∷ l) (append_assoc h.0 (EndSlot ∷ h.1) t),
      rows-grow after y (at + (length h.0 + 2)) h.1 t b c q r h.4 (subst (λ i. LaysOut i y t c r) (let e : at + length s ≡ (at + (length h.0 + 2)) + length h.1 = omega arith in e) k),
    )

-- ## Runs and quotes

run-grows : (kind : ItemKind) (a b : List Run) → run_before kind (a ++ b) ≡ run_before kind a ++ b
run-grows (Delimiters run) a b = refl
run-grows kind a b = refl

runs-append : (a b : Inline) → runs_in (append a b) ≡ runs_in a ++ runs_in b
runs-append Nil b = refl
runs-append (Single x after) b = ap (run_before x.kind) (runs-append after b) ∙ run-grows x.kind (runs_in after) (runs_in b)
runs-append (Around tag start end inside after) b = runs-append after b

quote-grows : (kind : ItemKind) (a b : List Quote) → quote_then kind (a ++ b) ≡ quote_then kind a ++ b
quote-grows (Quoted quote) a b = refl
quote-grows kind a b = refl

quotes-append : (a b : Inline) → quotes_of (append a b) ≡ quotes_of a ++ quotes_of b
quotes-append Nil b = refl
quotes-append (Single x after) b = ap (quote_then x.kind) (quotes-append after b) ∙ quote-grows x.kind (quotes_of after) (quotes_of b)
quotes-append (Around tag start end inside after) b = quotes-append after b

run-counted : (kind : ItemKind) (n : ℕ) (after : Inline) → ((m : ℕ) → runs_from after m ≡ counted m (runs_in after)) → run_then n kind (runs_from after) ≡ counted n (run_before kind (runs_in after))
run-counted (Delimiters run) n after ih = ap (λ l. Delimiter (record { delimiter = run.delimiter; run_length = run.run_length; at = n; left = run.run_length; opens = run.opens; closes = run.closes }) ∷ l) (ih (n + run.run_length))
run-counted kind n after ih = ih n

pub runs-counted : (x : Inline) (n : ℕ) → runs_from x n ≡ counted n (runs_in x)
runs-counted Nil n = refl
runs-counted (Single x after) n = run-counted x.kind n after (runs-counted after)
runs-counted (Around tag start end inside after) n = runs-counted after n

-- characters in the place of quotes leave the runs
run-quoted : (kind : ItemKind) (x : Item) (after : Inline) (cs : List ℕ) → x.kind ≡ kind → ((ds : List ℕ) → runs_in (with_characters after ds) ≡ runs_in after)
    → runs_in (quote_as (λ ds. Single (item (Written (encode_utf8 (get_or ds 0 0))) x.start x.end) (with_characters after (drop 1 ds))) (λ ds. Single x (with_characters after ds)) kind cs) ≡ run_before kind (runs_in after)
run-quoted (Quoted quote) x after cs e ih = ih (drop 1 cs)
run-quoted kind x after cs e ih = ap (λ k. run_before k (runs_in (with_characters after cs))) e ∙ ap (run_before kind) (ih cs)

runs-quoted : (x : Inline) (cs : List ℕ) → runs_in (with_characters x cs) ≡ runs_in x
runs-quoted Nil cs = refl
runs-quoted (Single x after) cs = run-quoted x.kind x after cs refl (runs-quoted after)
runs-quoted (Around tag start end inside after) cs = runs-quoted after cs

pub length-run-places : (at size : ℕ) (a : List ℕ) → length (run_places at size a) ≡ size + length a
length-run-places at zero a = omega arith
length-run-places at (suc size) a = let i = length-run-places (suc at) size a in omega arith

-- there are as many indices as bytes of runs, and as quotes
abbrev Counts : Inline → Type 0
Counts x = (at : ℕ) (s : List Slot) (b q : List ℕ) → LaysOut at x s b q → (length b ≡ bytes_in (runs_in x)) × (length q ≡ length (quotes_of x))

item-counts : (kind : ItemKind) (x : Item) (after : Inline) → Counts after → (at : ℕ) (s : List Slot) (b q : List ℕ) → LaysItem kind x (λ i j k l. LaysOut i after j k l) at s b q
    → (length b ≡ bytes_in (run_before kind (runs_in after))) × (length q ≡ length (quote_then kind (quotes_of after)))
item-counts kind x after ih at s b q h = grind (arith, length-run-places)

pub lays-count : (x : Inline) → Counts x
lays-count Nil at s b q h = (ap length h.1, ap length h.2)
lays-count (Single x after) at s b q h = item-counts x.kind x after (lays-count after) at s b q h
lays-count (Around tag start end inside after) at s b q h = lays-count after (at + (length h.0 + 2)) h.1 b q h.4

quoted_length : (quotes cs : List ℕ) (slots : List Slot) → length (quoted quotes cs slots) ≡ length slots
quoted_length [] cs slots = refl
quoted_length (at ∷ quotes) cs slots =
    let slot = character_slot (get_or cs 0 0) (get_or slots at NothingSlot) in
    quoted_length quotes (drop 1 cs) (set slots at slot) ∙ length-set slots at slot

module _ (options : Options) where
  pub siblings-join : (a b : Parts) → siblings_of options (join a b) ≡ append (siblings_of options a) (siblings_of options b)
  siblings-join NoParts b = refl
  siblings-join (SinglePart x after) b = ap (item_then x.kind x) (siblings-join after b) ∙ item-then-append x.kind x (siblings_of options after) (siblings_of options b)
  siblings-join (Form opener inside closer (Linking target) after) b = ap (λ l. Around (tag_by opener.is_image target.linked) opener.start target.end (dress options (siblings_of options inside)) l) (siblings-join after b)
  siblings-join (Form opener inside closer (Footnote label end) after) b =
      ap (footnote_then opener.is_image opener.start label end) (siblings-join after b) ∙ footnote-then-append opener.is_image opener.start label end (siblings_of options after) (siblings_of options b)
  siblings-join (Form opener inside closer (Wiki name None end) after) b = ap (λ l. Around (wiki_tag opener.is_image name false) opener.start end (name_text opener closer) l) (siblings-join after b)
  siblings-join (Form opener inside closer (Wiki name (Some place) end) after) b =
      ap (λ l. Around (wiki_tag opener.is_image name true) opener.start end (dress options (display_from place closer.start (siblings_of options inside))) l) (siblings-join after b)
  siblings-join (Closing closer after) b = ap (text_then closer) (siblings-join after b)
  siblings-join (Opening opener after) b = ap (text_then opener) (siblings-join after b)

  -- parts after others
  parts-grow : (a p : Parts) (at : ℕ) (s t : List Slot) (b c q r : List ℕ) → LaysOut at (siblings_of options a) s b q → LaysOut (at + length s) (siblings_of options p) t c r → LaysOut at (siblings_of options (join a p)) (s ++ t) (b ++ c) (q ++ r)
  parts-grow a p at s t b c q r h k =
      subst (λ x. LaysOut at x (s ++ t) (b ++ c) (q ++ r)) (sym (siblings-join a p)) (rows-grow (siblings_of options a) (siblings_of options p) at s t b c q r h k)

  -- ## Rows whose last opening bracket is followed by parts, as one list
  opening-grow : (before inside : Parts) (opener : Bracket) (front following : List Slot) (fb bb fq bq : List ℕ) → LaysOut 0 (siblings_of options before) front fb fq → LaysOut (suc (length front)) (siblings_of options inside) following bb bq
      → LaysOut 0 (siblings_of options (join before (Opening opener inside))) (front ++ (text_slot opener ∷ following)) (fb ++ bb) (fq ++ bq)
  opening-grow before inside opener front following fb bb fq bq h k = parts-grow before (Opening opener inside) 0 front (text_slot opener ∷ following) fb bb fq bq h (following, refl, subst (λ i. LaysOut i (siblings_of options inside) following bb bq) (let e : suc (length front) ≡ suc (0 + length front) = omega arith in e) k)

  pub row-whole : (bs : List BracketPlace) (parts : Parts) (slots : List Slot) (bytes quotes : List ℕ) → LaysParts options bs parts slots bytes quotes → LaysOut 0 (siblings_of options parts) slots bytes quotes
  row-whole [] parts slots bytes quotes h = h.1
  row-whole (b ∷ bs) parts slots bytes quotes h =
      let w = opening-grow h.before h.inside h.opener h.front h.following h.front_bytes h.after_bytes h.front_quotes h.after_quotes (row-whole bs h.before h.front h.front_bytes h.front_quotes h.laid_before) h.laid_after in
      subst (λ p. LaysOut 0 (siblings_of options p) slots bytes quotes) (sym h.parts_are)
      (subst (λ l. LaysOut 0 (siblings_of options (join h.before (Opening h.opener h.inside))) l bytes quotes) (sym h.slots_are)
      (subst (λ l. LaysOut 0 (siblings_of options (join h.before (Opening h.opener h.inside))) (h.front ++ (text_slot h.opener ∷ h.following)) l quotes) (sym h.bytes_are)
      (subst (λ l. LaysOut 0 (siblings_of options (join h.before (Opening h.opener h.inside))) (h.front ++ (text_slot h.opener ∷ h.following)) (h.front_bytes ++ h.after_bytes) l) (sym h.quotes_are) w)))

  -- more parts at the end, without opening brackets
  row-grows : (bs : List BracketPlace) (parts piece : Parts) (slots more : List Slot) (bytes more_bytes quotes more_quotes : List ℕ) → LaysParts options bs parts slots bytes quotes → openings piece ≡ 0
      → LaysOut (length slots) (siblings_of options piece) more more_bytes more_quotes → LaysParts options bs (join parts piece) (slots ++ more) (bytes ++ more_bytes) (quotes ++ more_quotes)
  row-grows [] parts piece slots more bytes more_bytes quotes more_quotes h none k = grind (arith, openings-join, parts-grow)
  row-grows (b ∷ bs) parts piece slots more bytes more_bytes quotes more_quotes h none k = grind (arith, openings-join, length-append, join_assoc, append_assoc, parts-grow)

  -- an opening bracket at the end
  row-opens : (bs : List BracketPlace) (parts : Parts) (opener : Bracket) (slots : List Slot) (bytes quotes : List ℕ) → LaysParts options bs parts slots bytes quotes
      → LaysParts options (record { bracket = opener; slot = length slots; runs = length (runs_in (siblings_of options parts)); quotes = length (quotes_of (siblings_of options parts)) } ∷ bs) (join parts (Opening opener NoParts))
      (slots ++ (text_slot opener ∷ [])) bytes quotes
  row-opens bs parts opener slots bytes quotes h = grind (arith, append-nil)

  -- cut at an opening bracket
  record Cutting (nearer : ℕ) (bs : List BracketPlace) (parts : Parts) (slots : List Slot) (bytes quotes : List ℕ) : Type 0 where
    cut : Cut
    cut_is : cut_at nearer parts ≡ Some cut
    parts_are : parts ≡ join cut.before (Opening cut.opener cut.inside)
    place : BracketPlace
    place_is : drop nearer bs ≡ place ∷ drop (suc nearer) bs
    opener_is : place.bracket ≡ cut.opener
    front : List Slot
    following : List Slot
    slots_are : slots ≡ front ++ (text_slot cut.opener ∷ following)
    slot_is : place.slot ≡ length front
    runs_is : place.runs ≡ length (runs_in (siblings_of options cut.before))
    quotes_is : place.quotes ≡ length (quotes_of (siblings_of options cut.before))
    front_bytes : List ℕ
    after_bytes : List ℕ
    bytes_are : bytes ≡ front_bytes ++ after_bytes
    front_quotes : List ℕ
    after_quotes : List ℕ
    quotes_are : quotes ≡ front_quotes ++ after_quotes
    laid_before : LaysParts options (drop (suc nearer) bs) cut.before front front_bytes front_quotes
    laid_after : LaysOut (suc (length front)) (siblings_of options cut.inside) following after_bytes after_quotes

  cutting : (nearer : ℕ) (bs : List BracketPlace) (parts : Parts) (slots : List Slot) (bytes quotes : List ℕ) → nearer < length bs → LaysParts options bs parts slots bytes quotes → Cutting nearer bs parts slots bytes quotes
  cutting nearer [] parts slots bytes quotes lt h = absurd (omega arith)
  cutting zero (b ∷ bs) parts slots bytes quotes lt h = record {
    cut = record { before = h.before; opener = h.opener; inside = h.inside };
    cut_is = ap (cut_at 0) h.parts_are ∙ ap (λ n. cut_at n (join h.before (Opening h.opener h.inside))) (sym h.none) ∙ cut-is h.before h.opener h.inside;
    parts_are = h.parts_are;
    place = b;
    place_is = refl;
    opener_is = h.opener_is;
    front = h.front;
    following = h.following;
    slots_are = h.slots_are;
    slot_is = h.slot_is;
    runs_is = h.runs_is;
    quotes_is = h.quotes_is;
    front_bytes = h.front_bytes;
    after_bytes = h.after_bytes;
    bytes_are = h.bytes_are;
    front_quotes = h.front_quotes;
    after_quotes = h.after_quotes;
    quotes_are = h.quotes_are;
    laid_before = h.laid_before;
    laid_after = h.laid_after;
  }
  cutting (suc nearer) (b ∷ bs) parts slots bytes quotes lt h = further (cutting nearer bs h.before h.front h.front_bytes h.front_quotes (omega arith) h.laid_before)
    where
      further : Cutting nearer bs h.before h.front h.front_bytes h.front_quotes → Cutting (suc nearer) (b ∷ bs) parts slots bytes quotes
      further c =
          let inside : Parts = join c.cut.inside (Opening h.opener h.inside) in
          let is = subst (Cuts nearer h.before) c.cut_is (cuts nearer h.before) in
          let count : openings inside ≡ suc nearer = (let o = openings-join c.cut.inside (Opening h.opener h.inside) in let a = is.more_is in let z = h.none in omega arith) in
          let whole : parts ≡ join c.cut.before (Opening c.cut.opener inside) =
          h.parts_are ∙ ap (λ p. join p (Opening h.opener h.inside)) c.parts_are ∙ join_assoc c.cut.before (Opening c.cut.opener c.cut.inside) (Opening h.opener h.inside) in
          let n = ap length c.slots_are ∙ length-append c.front (text_slot c.cut.opener ∷ c.following) in
          record {
            cut = record { before = c.cut.before; opener = c.cut.opener; inside = inside };
            cut_is = ap (cut_at (suc nearer)) whole ∙ ap (λ n. cut_at n (join c.cut.before (Opening c.cut.opener inside))) (sym count) ∙ cut-is c.cut.before c.cut.opener inside;
            parts_are = whole;
            place = c.place;
            place_is = c.place_is;
            opener_is = c.opener_is;
            front = c.front;
            following = c.following ++ (text_slot h.opener ∷ h.following);
            slots_are = h.slots_are ∙ ap (λ l. l ++ (text_slot h.opener ∷ h.following)) c.slots_are ∙ append_assoc c.front (text_slot c.cut.opener ∷ c.following) (text_slot h.opener ∷ h.following);
            slot_is = c.slot_is;
            runs_is = c.runs_is;
            quotes_is = c.quotes_is;
            front_bytes = c.front_bytes;
            after_bytes = c.after_bytes ++ h.after_bytes;
            bytes_are = h.bytes_are ∙ ap (λ l. l ++ h.after_bytes) c.bytes_are ∙ append_assoc c.front_bytes c.after_bytes h.after_bytes;
            front_quotes = c.front_quotes;
            after_quotes = c.after_quotes ++ h.after_quotes;
            quotes_are = h.quotes_are ∙ ap (λ l. l ++ h.after_quotes) c.quotes_are ∙ append_assoc c.front_quotes c.after_quotes h.after_quotes;
            laid_before = c.laid_before;
            laid_after = parts-grow c.cut.inside (Opening h.opener h.inside) (suc (length c.front)) c.following (text_slot h.opener ∷ h.following) c.after_bytes h.after_bytes c.after_quotes h.after_quotes c.laid_after
                (h.following, refl, subst (λ i. LaysOut i (siblings_of options h.inside) h.following h.after_bytes h.after_quotes) (let e : suc (length h.front) ≡ suc (suc (length c.front) + length c.following) = omega arith in e) h.laid_after);
          }

  -- ## These lemmas with runs and quotes
  runs-join : (a b : Parts) → runs_in (siblings_of options (join a b)) ≡ runs_in (siblings_of options a) ++ runs_in (siblings_of options b)
  runs-join a b = ap runs_in (siblings-join a b) ∙ runs-append (siblings_of options a) (siblings_of options b)

  quotes-join : (a b : Parts) → quotes_of (siblings_of options (join a b)) ≡ quotes_of (siblings_of options a) ++ quotes_of (siblings_of options b)
  quotes-join a b = ap quotes_of (siblings-join a b) ∙ quotes-append (siblings_of options a) (siblings_of options b)

  pub grown-row : (bs : List BracketPlace) (parts piece : Parts) (slots more : List Slot) (bytes more_bytes quotes more_quotes : List ℕ) (runs : List Run) (quoted : List Quote) → IsRow options bs parts slots bytes quotes runs quoted
      → openings piece ≡ 0 → LaysOut (length slots) (siblings_of options piece) more more_bytes more_quotes
      → IsRow options bs (join parts piece) (slots ++ more) (bytes ++ more_bytes) (quotes ++ more_quotes) (runs ++ runs_in (siblings_of options piece)) (quoted ++ quotes_of (siblings_of options piece))
  grown-row bs parts piece slots more bytes more_bytes quotes more_quotes runs quoted h none k = grind (arith, row-grows, runs-join, quotes-join)

  pub opened-row : (bs : List BracketPlace) (parts : Parts) (opener : Bracket) (slots : List Slot) (bytes quotes : List ℕ) (runs : List Run) (quoted : List Quote) → IsRow options bs parts slots bytes quotes runs quoted
      → IsRow options (record { bracket = opener; slot = length slots; runs = length runs; quotes = length quoted } ∷ bs) (join parts (Opening opener NoParts)) (slots ++ (text_slot opener ∷ [])) bytes quotes runs quoted
  opened-row bs parts opener slots bytes quotes runs quoted h = grind (arith, row-opens, runs-join, append-nil, quotes-join)

  pub cut-row : (nearer : ℕ) (bs : List BracketPlace) (parts : Parts) (slots : List Slot) (bytes quotes : List ℕ) (runs : List Run) (quoted : List Quote) → nearer < length bs → IsRow options bs parts slots bytes quotes runs quoted
      → CutsRow options nearer bs parts slots bytes quotes runs quoted
  cut-row nearer bs parts slots bytes quotes runs quoted lt h =
      let c = cutting nearer bs parts slots bytes quotes lt h.laid in
      let before = runs_in (siblings_of options c.cut.before) in
      let inside = runs_in (siblings_of options c.cut.inside) in
      let qbefore = quotes_of (siblings_of options c.cut.before) in
      let qinside = quotes_of (siblings_of options c.cut.inside) in
      let all : runs ≡ before ++ inside = sym h.runs_are ∙ ap (λ p. runs_in (siblings_of options p)) c.parts_are ∙ runs-join c.cut.before (Opening c.cut.opener c.cut.inside) in
      let qall : quoted ≡ qbefore ++ qinside = sym h.quoted_are ∙ ap (λ p. quotes_of (siblings_of options p)) c.parts_are ∙ quotes-join c.cut.before (Opening c.cut.opener c.cut.inside) in
      let front : before ≡ take c.place.runs runs = sym (ap (take c.place.runs) all ∙ ap (λ n. take n (before ++ inside)) c.runs_is ∙ take-append_seam before inside) in
      let following : inside ≡ drop c.place.runs runs = sym (ap (drop c.place.runs) all ∙ ap (λ n. drop n (before ++ inside)) c.runs_is ∙ drop-append_seam before inside) in
      let qfront : qbefore ≡ take c.place.quotes quoted = sym (ap (take c.place.quotes) qall ∙ ap (λ n. take n (qbefore ++ qinside)) c.quotes_is ∙ take-append_seam qbefore qinside) in
      let qafter : qinside ≡ drop c.place.quotes quoted = sym (ap (drop c.place.quotes) qall ∙ ap (λ n. drop n (qbefore ++ qinside)) c.quotes_is ∙ drop-append_seam qbefore qinside) in
      let n = lays-count (siblings_of options c.cut.before) 0 c.front c.front_bytes c.front_quotes (row-whole (drop (suc nearer) bs) c.cut.before c.front c.front_bytes c.front_quotes c.laid_before) in
      record {
        cut = c.cut;
        cut_is = c.cut_is;
        place = c.place;
        place_is = c.place_is;
        opener_is = c.opener_is;
        front = c.front;
        following = c.following;
        slots_are = c.slots_are;
        slot_is = c.slot_is;
        front_bytes = c.front_bytes;
        after_bytes = c.after_bytes;
        bytes_are = c.bytes_are;
        bytes_count = n.0 ∙ ap bytes_in front;
        front_quotes = c.front_quotes;
        after_quotes = c.after_quotes;
        quotes_are = c.quotes_are;
        quotes_count = n.1 ∙ sym c.quotes_is;
        before = record { laid = c.laid_before; runs_are = front; quoted_are = qfront };
        laid_after = c.laid_after;
        runs_after = following;
        quoted_after = qafter;
      }

  -- ## A construct that brackets form: an element around the slots of the siblings inside it

  -- it replaces the slots after the bracket at which the row was cut
  pub formed-row : (nearer : ℕ) (bs : List BracketPlace) (parts piece : Parts) (slots more : List Slot) (bytes quotes : List ℕ) (runs : List Run) (quoted : List Quote) (c : CutsRow options nearer bs parts slots bytes quotes runs quoted) → openings piece ≡ 0
      → runs_in (siblings_of options piece) ≡ [] → quotes_of (siblings_of options piece) ≡ [] → LaysOut (length c.front) (siblings_of options piece) more [] []
      → IsRow options (drop (suc nearer) bs) (join c.cut.before piece) (c.front ++ more) c.front_bytes c.front_quotes (take c.place.runs runs) (take c.place.quotes quoted)
  formed-row nearer bs parts piece slots more bytes quotes runs quoted c none no_runs no_quotes k =
      let others = drop (suc nearer) bs in
      let rs = take c.place.runs runs in
      let qs = take c.place.quotes quoted in
      let r = grown-row others c.cut.before piece c.front more c.front_bytes [] c.front_quotes [] rs qs c.before none k in
      let p = join c.cut.before piece in
      let s = c.front ++ more in
      subst (λ l. IsRow options others p s l c.front_quotes rs qs) (append-nil c.front_bytes)
      (subst (λ l. IsRow options others p s (c.front_bytes ++ []) l rs qs) (append-nil c.front_quotes)
      (subst (λ l. IsRow options others p s (c.front_bytes ++ []) (c.front_quotes ++ []) l qs) (ap (λ l. rs ++ l) no_runs ∙ append-nil rs)
      (subst (λ l. IsRow options others p s (c.front_bytes ++ []) (c.front_quotes ++ []) (rs ++ runs_in (siblings_of options piece)) l) (ap (λ l. qs ++ l) no_quotes ∙ append-nil qs) r)))

  -- siblings that are laid out after others become their spans, once their quotes and the pairs of their runs have written into the row
  pub row-dressed : (siblings : Inline) (before following slots : List Slot) (bytes quotes : List ℕ) (runs : List Run) (quotes_are : List Quote) → slots ≡ before ++ following → LaysOut (length before) siblings following bytes quotes → runs_in siblings ≡ runs
      → quotes_of siblings ≡ quotes_are → (pairs : List Pair) (spans : Spans) → IsEmphasis (counted 0 runs) pairs spans
      → StandAfter before following (dress options siblings) (marked options bytes (marks_by (length bytes) pairs) (quoted quotes (quote_characters [] quotes_are) slots) [])
  row-dressed siblings before following slots bytes quotes runs quotes_are cut laid runs_is quotes_is pairs spans e =
      let cs = quote_characters [] (quotes_of siblings) in
      let q = quotes-written siblings before following bytes quotes cs laid in
      let counted_is : counted 0 runs ≡ runs_from (with_quotes siblings) 0 = ap (counted 0) (sym runs_is ∙ sym (runs-quoted siblings cs)) ∙ sym (runs-counted (with_quotes siblings) 0) in
      let emphasis : IsEmphasis (runs_from (with_quotes siblings) 0) pairs spans = subst (λ r. IsEmphasis r pairs spans) counted_is e in
      let m = marks-make options (with_quotes siblings) pairs spans emphasis before q.now bytes [] q.laid in
      let written : marked options bytes (marks_by (length bytes) pairs) (quoted quotes (quote_characters [] quotes_are) slots) [] ≡ marked options bytes (marks_of spans) (before ++ q.now) [] =
      ap (λ l. marked options bytes (marks_by (length bytes) pairs) (quoted quotes (quote_characters [] l) slots) []) (sym quotes_is)
      ∙ ap (λ l. marked options bytes (marks_by (length bytes) pairs) (quoted quotes cs l) []) cut
      ∙ ap (λ l. marked options bytes (marks_by (length bytes) pairs) l []) q.cut
      ∙ ap (λ l. marked options bytes l (before ++ q.now) []) (pairs-write (with_quotes siblings) pairs spans emphasis (length before) q.now bytes [] q.laid) in
      record {
        own = m.own;
        cut = written ∙ m.cut;
        as_many = m.as_many ∙ as_many q.now following (quoted_length quotes cs (before ++ following)) q.cut;
        stand_for = m.stand_for ∙ ap (λ sp. slots_of (dressed_all options (with_quotes siblings) sp)) (one (runs_from (with_quotes siblings) 0) pairs spans emphasis).1;
      }
    where
      as_many : (now following : List Slot) → length (quoted quotes (quote_characters [] (quotes_of siblings)) (before ++ following)) ≡ length (before ++ following)
          → quoted quotes (quote_characters [] (quotes_of siblings)) (before ++ following) ≡ before ++ now → length now ≡ length following
      as_many now following l e = let a = length-append before now in let b = length-append before following in let n = ap length e in omega arith

  -- the slots after the bracket become the spans of these siblings, once their quotes and the pairs of their runs have written into them
  pub dressed-following : (nearer : ℕ) (bs : List BracketPlace) (parts : Parts) (slots : List Slot) (bytes quotes : List ℕ) (runs : List Run) (quoted_quotes : List Quote) (c : CutsRow options nearer bs parts slots bytes quotes runs quoted_quotes)
      → (pairs : List Pair) (spans : Spans) → IsEmphasis (counted 0 (drop c.place.runs runs)) pairs spans
      → StandAfter (c.front ++ (text_slot c.cut.opener ∷ [])) c.following (dress options (siblings_of options c.cut.inside))
      (marked options c.after_bytes (marks_by (length c.after_bytes) pairs) (quoted c.after_quotes (quote_characters [] (drop c.place.quotes quoted_quotes)) slots) [])
  dressed-following nearer bs parts slots bytes quotes runs quoted_quotes c pairs spans e =
      row-dressed (siblings_of options c.cut.inside) (c.front ++ (text_slot c.cut.opener ∷ [])) c.following slots c.after_bytes c.after_quotes (drop c.place.runs runs) (drop c.place.quotes quoted_quotes)
      (c.slots_are ∙ sym (append_assoc c.front (text_slot c.cut.opener ∷ []) c.following))
      (subst (λ i. LaysOut i (siblings_of options c.cut.inside) c.following c.after_bytes c.after_quotes) (let l = length-append c.front (text_slot c.cut.opener ∷ []) in let q : suc (length c.front) ≡ length (c.front ++ (text_slot c.cut.opener ∷ [])) = omega arith in q) c.laid_after)
      c.runs_after c.quoted_after pairs spans e
