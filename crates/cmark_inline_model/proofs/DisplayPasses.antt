-- A wikilink that shows the text after its pipe replaces its slots, with the runs and quotes that remain.
use Rattle.std.specs.Prelude.{◌-◌, drop, take, get_or, Some, None}
use Rattle.std.proofs.Common.{◌≡◌, Bool, true, false, ℕ, zero, suc, ◌+◌, ◌<◌, ◌≤◌, List, [], ◌∷◌, ◌++◌, length, refl, sym, ap, ◌∙◌, subst, arith, append_assoc, append-nil, length-append, length-drop, eqb-true, rules}
use Rattle.std.proofs.Math.Seq.{take-add, take-append_seam, drop-append_seam}
use Rattle.std.proofs.lemmas.List.{drop-drop, get_or-drop}
use Rattle.cmark_grammar.specs.BracketDecisions.{decide}
use Rattle.cmark_grammar.specs.BracketReading.{Comes, Reads}
use Rattle.cmark_grammar.specs.BracketStates.{State, Forms}
use Rattle.cmark_grammar.specs.Emphasis.{Run, Pair, IsEmphasis}
use Rattle.cmark_grammar.specs.Flanking.{is_delimiter_run}
use Rattle.cmark_grammar.specs.InlineTokens.{token}
use Rattle.cmark_grammar.specs.Items.{ItemKind, Own, Delimiters, Autolink, FootnoteReference, Item, Bracket, Closes}
use Rattle.cmark_grammar.specs.LeafReading.{Between, entering}
use Rattle.cmark_grammar.specs.LeafText.{Leaf, Stretch, InTurn, begin_of, end_of, size_of}
use Rattle.cmark_grammar.specs.Options.{Options}
use Rattle.cmark_grammar.specs.Parts.{Parts, Nil as NoParts, Single as SinglePart, Form, Closing, Opening, Linking, Footnote, Wiki}
use Rattle.cmark_grammar.specs.Questions.{AnyAnswer}
use Rattle.cmark_grammar.specs.Quotes.{Quote, quote_characters}
use Rattle.cmark_grammar.specs.Readers.{Reader}
use Rattle.cmark_grammar.specs.Siblings.{Inline, Nil, Single, Around, item, item_then, footnote_then, quotes_of, tag_by, from_place, display_from}
use Rattle.cmark_inline_model.specs.RunSpans.{no_item}
use Rattle.cmark_inline_model.specs.SiblingsModel.{dress, siblings_of}
use Rattle.cmark_grammar.specs.Spans.{Spans}
use Rattle.cmark_inline_model.specs.BracketPass.{Pass, closed_by}
use Rattle.cmark_inline_model.specs.CutRanges.{IsAfterPipe}
use Rattle.cmark_inline_model.specs.Displays.{hidden_by, empty_text, display_slots, display_target, LeavesRuns, LeavesQuotes, CanBeCut, IsCutThere, ShowsLike, CutFacts}
use Rattle.cmark_inline_model.specs.LeafModel.{HaveLineEnds}
use Rattle.cmark_inline_model.specs.LikeSlots.{AreLike}
use Rattle.cmark_inline_model.specs.PartLists.{join}
use Rattle.cmark_inline_model.specs.RowParts.{BracketPlace, CutsRow, text_slot, run_before, runs_in, bytes_in, counted}
use Rattle.cmark_inline_model.specs.RowPasses.{IsReached, linked_slots}
use Rattle.cmark_inline_model.specs.SlotRows.{Slot, BeginSlot, EndSlot, NothingSlot, seen, slots_of, LaysOut, marked, marks_by, quoted}
use Rattle.cmark_inline_model.proofs.BracketsSound.{results, split}
use Rattle.cmark_inline_model.proofs.DisplayRows.{nothings, nothings-append, nothings-length, nothings-seen, Below, From, ExactBy, AreExact, ShowsRow, AreKnown, shows-row, first-shown, none-from}
use Rattle.cmark_inline_model.proofs.ForwardLaws.{leaf-forward, leaf-ranges}
use Rattle.cmark_inline_model.proofs.KindViews.{Stays, kind-view}
use Rattle.cmark_inline_model.proofs.LeafPlaces.{leaf-up}
use Rattle.cmark_inline_model.proofs.LeafSteps.{IsAt, place-first}
use Rattle.cmark_inline_model.proofs.LikeSlots.{like-quoted, like-marked}
use Rattle.cmark_inline_model.proofs.PartOrders.{IsFree, parts-fill, parts-free, siblings-order}
use Rattle.cmark_inline_model.proofs.ReadingLaws.{reading-stands}
use Rattle.cmark_inline_model.proofs.ReadingPlaces.{AreRead, reading-reaches}
use Rattle.cmark_inline_model.proofs.RowParts.{row-dressed, lays-count}
use Rattle.cmark_inline_model.proofs.RowPasses as passes
use Rattle.cmark_inline_model.proofs.SpanRanges.{SiblingOrder}
use Rattle.cmark_inline_model.proofs.TokenPlaces.{Uncut, HaveNoPipe, HaveContent}
use Rattle.cmark_inline_model.proofs.TokenItems.{HoldsOfItems, HoldsOf, token-holds, OfItems, items-hold}
use Rattle.cmark_inline_model.proofs.WikiGaps.{decide-far, reading-gaps}

-- ## Runs have their bytes

run-some : (options : Options) (delimiter size : ℕ) → is_delimiter_run options delimiter size ≡ true → 0 < size
run-some options delimiter size e = search rules

abbrev ExactItem : Item → Type 0
ExactItem x = ExactBy x.kind x.start x.end

module _ (reader : Reader) (leaf : Leaf) where
  items_exact : HoldsOfItems reader leaf ExactBy
  items_exact = grind (arith, run-some)

  parts_exact : (s : State) (parts : Parts) (t : State) → Reads (token reader leaf) (decide reader leaf) AnyAnswer s parts t → OfItems ExactItem parts
  parts_exact s parts t h =
      items-hold (token reader leaf) (decide reader leaf) AnyAnswer ExactItem (λ at resume item e. subst (HoldsOf reader leaf ExactBy) e (token-holds reader leaf ExactBy items_exact at)) s parts t h

item_exact : (x : Item) (after : Inline) → ExactItem x → AreExact after → AreExact (item_then x.kind x after)
item_exact x after u k = grind (arith, kind-view)

footnote_exact : (is_image : Bool) (start : ℕ) (label : List ℕ) (end : ℕ) (others : Inline) → AreExact others → AreExact (footnote_then is_image start label end others)
footnote_exact true start label end others k = (tt, (tt, k))
footnote_exact false start label end others k = (tt, k)

siblings_exact : (options : Options) (parts : Parts) → OfItems ExactItem parts → AreExact (siblings_of options parts)
siblings_exact options NoParts u = tt
siblings_exact options (SinglePart x after) u = item_exact x (siblings_of options after) u.0 (siblings_exact options after u.1)
siblings_exact options (Form opener inside closer (Linking target) after) u = siblings_exact options after u.1
siblings_exact options (Form opener inside closer (Footnote label end) after) u = footnote_exact opener.is_image opener.start label end (siblings_of options after) (siblings_exact options after u.1)
siblings_exact options (Form opener inside closer (Wiki name None end) after) u = siblings_exact options after u.1
siblings_exact options (Form opener inside closer (Wiki name (Some place) end) after) u = siblings_exact options after u.1
siblings_exact options (Closing closer after) u = (tt, siblings_exact options after u)
siblings_exact options (Opening opener after) u = (tt, siblings_exact options after u)

abbrev Sizes : List Run → Type 0
Sizes [] = Unit {0}
Sizes (run ∷ runs) = (0 < run.run_length) × Sizes runs

size_first : (kind : ItemKind) (start end : ℕ) (runs : List Run) → ExactBy kind start end → Sizes runs → Sizes (run_before kind runs)
size_first (Delimiters run) start end runs u k = (u.1, k)
size_first kind start end runs u k = k

exact_sizes : (x : Inline) → AreExact x → Sizes (runs_in x)
exact_sizes Nil h = tt
exact_sizes (Around tag start end inside after) h = exact_sizes after h
exact_sizes (Single x after) h = size_first x.kind x.start x.end (runs_in after) h.0 (exact_sizes after h.1)

-- ## Which runs and which quotes are left

get_skip : (n : ℕ) (fb lb : List ℕ) (m : ℕ) → n ≤ length fb → get_or (fb ++ lb) (n + m) 0 ≡ get_or (drop n fb ++ lb) m 0
get_skip zero fb lb m e = ap (λ i. get_or (fb ++ lb) i 0) (let q : 0 + m ≡ m = omega arith in q)
get_skip (suc n) [] lb m e = absurd (omega arith)
get_skip (suc n) (b ∷ fb) lb m e = ap (λ i. get_or (b ∷ (fb ++ lb)) i 0) (let q : suc n + m ≡ suc (n + m) = omega arith in q) ∙ get_skip n fb lb m (omega arith)

drop_skip : (n : ℕ) (fb lb : List ℕ) (m : ℕ) → n ≤ length fb → drop (n + m) (fb ++ lb) ≡ drop m (drop n fb ++ lb)
drop_skip zero fb lb m e = ap (λ i. drop i (fb ++ lb)) (let q : 0 + m ≡ m = omega arith in q)
drop_skip (suc n) [] lb m e = absurd (omega arith)
drop_skip (suc n) (b ∷ fb) lb m e = ap (λ i. drop i (b ∷ (fb ++ lb))) (let q : suc n + m ≡ suc (n + m) = omega arith in q) ∙ drop_skip n fb lb m (omega arith)

below_drop : (n at : ℕ) (ks : List ℕ) → Below at ks → Below at (drop n ks)
below_drop zero at ks h = h
below_drop (suc n) at [] h = tt
below_drop (suc n) at (k ∷ ks) h = below_drop n at ks h.1

runs_left : (fr lr : List Run) (fb lb : List ℕ) (at c : ℕ) → Sizes (fr ++ lr) → length fb ≡ bytes_in fr → length lb ≡ bytes_in lr → Below at fb → From at lb
    → ((k : ℕ) → k < c → k < length (fr ++ lr) → get_or (fb ++ lb) (bytes_in (take k (fr ++ lr))) 0 < at)
    → (c < length (fr ++ lr) → at ≤ get_or (fb ++ lb) (bytes_in (take c (fr ++ lr))) 0)
    → (drop c (fr ++ lr) ≡ lr) × (drop (bytes_in (take c (fr ++ lr))) (fb ++ lb) ≡ lb)
runs_left [] lr [] lb at zero s nf nl hf hl before following = (refl, refl)
runs_left [] lr (b ∷ fb) lb at c s nf nl hf hl before following = absurd (omega arith)
runs_left [] [] [] lb at (suc c) s nf nl hf hl before following = (refl, refl)
runs_left [] (r ∷ lr) [] [] at (suc c) s nf nl hf hl before following = absurd (let z = s.0 in omega arith)
runs_left [] (r ∷ lr) [] (b ∷ lb) at (suc c) s nf nl hf hl before following = absurd (let z : b < at = before 0 (omega arith) (omega arith) in let y = hl.0 in omega arith)
runs_left (r ∷ fr) lr [] lb at c s nf nl hf hl before following = absurd (let z = s.0 in omega arith)
runs_left (r ∷ fr) lr (b ∷ fb) lb at zero s nf nl hf hl before following = absurd (let z : at ≤ b = following (omega arith) in let y = hf.0 in omega arith)
runs_left (r ∷ fr) lr (b ∷ fb) lb at (suc c) s nf nl hf hl before following =
    let all = b ∷ fb in
    let fits : r.run_length ≤ length all = omega arith in
    let n = length-drop r.run_length all in
    let rest = drop r.run_length all in
    let i = runs_left fr lr rest lb at c s.1 (omega arith) nl (below_drop r.run_length at all hf) hl
    (λ k a e. subst (λ x. x < at) (get_skip r.run_length all lb (bytes_in (take k (fr ++ lr))) fits) (before (suc k) (omega arith) (omega arith)))
    (λ e. subst (λ x. at ≤ x) (get_skip r.run_length all lb (bytes_in (take c (fr ++ lr))) fits) (following (omega arith))) in
    (i.0, drop_skip r.run_length all lb (bytes_in (take c (fr ++ lr))) fits ∙ i.1)

quotes_left : (fq lq : List ℕ) (fx lx : List Quote) (at c : ℕ) → length fq ≡ length fx → length lq ≡ length lx → Below at fq → From at lq
    → ((k : ℕ) → k < c → k < length (fq ++ lq) → get_or (fq ++ lq) k 0 < at) → (c < length (fq ++ lq) → at ≤ get_or (fq ++ lq) c 0)
    → (drop c (fq ++ lq) ≡ lq) × (drop c (fx ++ lx) ≡ lx)
quotes_left [] lq [] lx at zero nf nl hf hl before following = (refl, refl)
quotes_left [] lq (x ∷ fx) lx at c nf nl hf hl before following = absurd (omega arith)
quotes_left (q ∷ fq) lq [] lx at c nf nl hf hl before following = absurd (omega arith)
quotes_left [] [] [] [] at (suc c) nf nl hf hl before following = (refl, refl)
quotes_left [] [] [] (x ∷ lx) at (suc c) nf nl hf hl before following = absurd (omega arith)
quotes_left [] (q ∷ lq) [] lx at (suc c) nf nl hf hl before following = absurd (let z : q < at = before 0 (omega arith) (omega arith) in let y = hl.0 in omega arith)
quotes_left (q ∷ fq) lq (x ∷ fx) lx at zero nf nl hf hl before following = absurd (let z : at ≤ q = following (omega arith) in let y = hf.0 in omega arith)
quotes_left (q ∷ fq) lq (x ∷ fx) lx at (suc c) nf nl hf hl before following =
    quotes_left fq lq fx lx at c (omega arith) nl hf.1 hl (λ k a e. before (suc k) (omega arith) (omega arith)) (λ e. following (omega arith))

bytes_both : (a b : List Run) → bytes_in (a ++ b) ≡ bytes_in a + bytes_in b
bytes_both [] b = omega arith
bytes_both (r ∷ a) b = let i = bytes_both a b in omega arith

-- ## What is shown

module _ (Pipe : ℕ → Type 0) where
  record DisplayRow (place close at : ℕ) (siblings : Inline) (rest : List Slot) (bytes quotes : List ℕ) : Type 0 where
    laid : LaysOut at (display_from place close siblings) (rest ++ empty_text place close) bytes quotes
    runs : runs_in (display_from place close siblings) ≡ runs_in (from_place place siblings)
    quoted : quotes_of (display_from place close siblings) ≡ quotes_of (from_place place siblings)

  display_row : (place close from at : ℕ) (siblings : Inline) (rest : List Slot) (bytes quotes : List ℕ) → SiblingOrder Pipe from siblings close → LaysOut at (from_place place siblings) rest bytes quotes
      → DisplayRow place close at siblings rest bytes quotes
  display_row place close from at siblings rest bytes quotes order laid = grind (arith, none-from, eqb-true, append-nil)

abbrev IsAutolink : ItemKind → Type 0
IsAutolink (Autolink uri) = Unit {0}
IsAutolink _ = ⊥

-- which an item that stays as it is is not
no_autolink : (kind : ItemKind) → Stays kind → IsAutolink kind → ⊥
no_autolink (Autolink uri) t h = around no_item Nil (t.item no_item Nil)
  where
    around : (x : Item) (after : Inline) → item_then (Autolink uri) x after ≡ Single x after → ⊥
    around x after e = cc
no_autolink kind t h = absurd h

module _ (reader : Reader) (leaf : Leaf) (before : Between) (turn : InTurn 0 leaf.stretches (length reader.source)) (lines : HaveLineEnds reader.source leaf.stretches) where
  size : ℕ
  size = length reader.source

  within : length reader.source ≤ length reader.source
  within = omega arith

  abbrev Pipe : ℕ → Type 0
  Pipe at = IsAfterPipe reader.options reader.source at

  abbrev UncutPart : Item → Type 0
  UncutPart x = Uncut reader leaf (length reader.source) turn within lines x.kind x.start x.end

  begin_place : (st : List Stretch) (ended : HaveLineEnds reader.source st) (turn : InTurn 0 st (length reader.source)) → (left : ℕ) × IsAt reader.source st (length reader.source) turn within ended left (begin_of st)
  begin_place [] ended turn = (0, (omega arith, refl))
  begin_place (s ∷ more) ended turn = (size_of (s ∷ more), (omega arith, sym (place-first reader.source s more ended)))

  -- the facts about the siblings between the brackets
  record Held (opener closer : Bracket) (inside : Parts) (display : ℕ) : Type 0 where
    order : SiblingOrder Pipe opener.end (siblings_of reader.options inside) closer.start
    free : IsFree display (siblings_of reader.options inside)
    exact : AreExact (siblings_of reader.options inside)
    known : AreKnown Pipe reader.source display (siblings_of reader.options inside)
    pipe : Pipe display
    low : display ≤ closer.start

  abbrev ReadsTo : State → Parts → State → Type 0
  ReadsTo s parts t = Reads (token reader leaf) (decide reader leaf) AnyAnswer s parts t

  -- a pipe is directly before the offset
  module _ (display : ℕ) (pipe : Pipe display) where
    abbrev Known : Inline → Type 0
    Known siblings = AreKnown Pipe reader.source display siblings

    abbrev UncutAs : ItemKind → (start end : ℕ) → Type 0
    UncutAs kind start end = Uncut reader leaf (length reader.source) turn within lines kind start end

    not_there : (start end : ℕ) → HaveNoPipe reader leaf (length reader.source) turn within lines start end → start < display → display < end → ⊥
    not_there start end none a b = grind arith

    -- each kind of item but an autolink
    cut_facts : (x : Item) (kind : ItemKind) → x.kind ≡ kind → UncutAs kind x.start x.end → (IsAutolink kind → ⊥) → x.start < display → display < x.end → CutFacts reader.source x
    cut_facts x kind e u other a b = grind (arith, not_there)

    item_known : (x : Item) (after : Inline) → UncutAs x.kind x.start x.end → Known after → Known (item_then x.kind x after)
    item_known x after u k = grind (arith, kind-view, cut_facts, no_autolink)

    text_known : (start end : ℕ) (after : Inline) → HaveContent reader leaf (length reader.source) turn within lines start end → Known after → Known (Single (item Own start end) after)
    text_known start end after u k = ((λ a b. record { kind = tt; text = λ t. u; owned = tt }), k)

    reference_known : (label : List ℕ) (start end : ℕ) (after : Inline) → Known after → Known (Single (item (FootnoteReference label) start end) after)
    reference_known label start end after k = ((λ a b. record { kind = tt; text = λ t. absurd t; owned = tt }), k)

    footnote_known : (is_image : Bool) (start : ℕ) (label : List ℕ) (end : ℕ) (others : Inline) → Known others → Known (footnote_then is_image start label end others)
    footnote_known true start label end others k = ((λ a b. absurd (omega arith)), reference_known label (suc start) end others k)
    footnote_known false start label end others k = reference_known label start end others k

    siblings_known : (parts : Parts) → OfItems UncutPart parts → AreRead reader leaf (length reader.source) turn within lines parts → Known (siblings_of reader.options parts)
    siblings_known NoParts u r = tt
    siblings_known (SinglePart x after) u r = item_known x (siblings_of reader.options after) u.0 (siblings_known after u.1 r)
    siblings_known (Form opener inside closer (Linking target) after) u r = siblings_known after u.1 r.1
    siblings_known (Form opener inside closer (Footnote label end) after) u r = footnote_known opener.is_image opener.start label end (siblings_of reader.options after) (siblings_known after u.1 r.1)
    siblings_known (Form opener inside closer (Wiki name None end) after) u r = siblings_known after u.1 r.1
    siblings_known (Form opener inside closer (Wiki name (Some place) end) after) u r = siblings_known after u.1 r.1
    siblings_known (Closing closer after) u r = text_known closer.start closer.end (siblings_of reader.options after) r.0 (siblings_known after u r.1)
    siblings_known (Opening opener after) u r = text_known opener.start opener.end (siblings_of reader.options after) r.0 (siblings_known after u r.1)

  form_between : (front : Parts) (opener closer : Bracket) (inside : Parts) (name : List ℕ) (display end : ℕ) (next : State)
      → ReadsTo (entering leaf before) (join front (Form opener inside closer (Wiki name (Some display) end) NoParts)) next → Held opener closer inside display
  form_between front opener closer inside name display end next h =
      let piece = Form opener inside closer (Wiki name (Some display) end) NoParts in
      let start = entering leaf before in
      let tok = token reader leaf in
      let dec = decide reader leaf in
      let m = split tok dec AnyAnswer start front piece next h in
      let first = reading-reaches reader leaf (length reader.source) turn within lines AnyAnswer start front m.0 (begin_place leaf.stretches lines turn) m.1 in
      let a = reading-stands tok dec AnyAnswer (end_of leaf.stretches) (leaf-ranges reader leaf (length reader.source) turn) start front m.0 start.at (omega arith) (leaf-up leaf.stretches (length reader.source) turn) m.1 in
      let b = reading-stands tok dec AnyAnswer (end_of leaf.stretches) (leaf-ranges reader leaf (length reader.source) turn) m.0 piece next m.0.at (omega arith) a.1 m.2 in
      let reached = reading-reaches reader leaf (length reader.source) turn within lines AnyAnswer m.0 piece next first.place m.2 in
      let gaps = reading-gaps tok dec AnyAnswer (end_of leaf.stretches) (leaf-forward reader leaf (length reader.source) turn) (leaf-ranges reader leaf (length reader.source) turn) (decide-far reader leaf) m.0 piece next m.2 in
      let fills = parts-fill reader leaf (length reader.source) turn AnyAnswer m.0 piece next m.2 in
      let exact = parts_exact reader leaf m.0 piece next m.2 in
      record {
        order = siblings-order reader leaf (length reader.source) turn within lines opener.end inside closer.start b.0.2 fills.0 reached.items.0 reached.pipes.1 gaps.1;
        free = parts-free reader leaf (length reader.source) turn within lines display reached.pipes.0.0 inside reached.items.0;
        exact = siblings_exact reader.options inside exact.0;
        known = siblings_known display reached.pipes.0.0 inside reached.items.0 reached.read.0;
        pipe = reached.pipes.0.0;
        low = reached.pipes.0.1;
      }

  module _ (p : Pass) (bs : List BracketPlace) (slots : List Slot) (bytes quotes : List ℕ) (runs : List Run) (quoted_are : List Quote) (h : IsReached reader leaf before p bs slots bytes quotes runs quoted_are) (closer : Bracket) (nearer : ℕ)
      (name : List ℕ) (display end : ℕ) (next : State) (place : BracketPlace) (there : drop nearer bs ≡ place ∷ drop (suc nearer) bs) (t : token reader leaf p.state.at ≡ Closes closer)
      (comes : Comes AnyAnswer p.state.asked (decide reader leaf p.state closer) (record { result = Forms nearer (Wiki name (Some display) end); after = next })) where
    abbrev cut : CutsRow reader.options nearer bs p.here h.row bytes quotes runs quoted_are
    cut = passes.c reader leaf before p bs slots bytes quotes runs quoted_are h closer nearer (Wiki name (Some display) end) next place there t comes

    place_is : cut.place ≡ place
    place_is = passes.place_is reader leaf before p bs slots bytes quotes runs quoted_are h closer nearer (Wiki name (Some display) end) next place there t comes

    slot_is : place.slot ≡ length cut.front
    slot_is = passes.slot_is reader leaf before p bs slots bytes quotes runs quoted_are h closer nearer (Wiki name (Some display) end) next place there t comes

    abbrev inside : Inline
    inside = siblings_of reader.options cut.cut.inside

    held : Held cut.cut.opener closer cut.cut.inside display
    held =
        let to = passes.to_is reader leaf before p bs slots bytes quotes runs quoted_are h closer nearer (Wiki name (Some display) end) next place there t comes in
        form_between cut.cut.before cut.cut.opener closer cut.cut.inside name display end next
        (subst (λ (x : Pass). ReadsTo (entering leaf before) x.here x.state) to (results (token reader leaf) (decide reader leaf) AnyAnswer (entering leaf before) p closer (Forms nearer (Wiki name (Some display) end)) next t comes h.reads))

    shows : ShowsRow display (suc (length cut.front)) inside cut.following cut.after_bytes cut.after_quotes
    shows = shows-row Pipe display inside cut.cut.opener.end closer.start held.order held.free held.exact (suc (length cut.front)) cut.following cut.after_bytes cut.after_quotes cut.laid_after

    abbrev many : ℕ
    many = hidden_by display cut.following

    abbrev text : List Slot
    text = text_slot cut.cut.opener ∷ []

    front_is : cut.front ++ text ≡ take (suc place.slot) h.row
    front_is =
        let l = length-append cut.front text in
        let n : length (cut.front ++ text) ≡ suc place.slot = (let a = slot_is in omega arith) in
        sym (ap (take (suc place.slot)) (cut.slots_are ∙ sym (append_assoc cut.front text cut.following)) ∙ ap (λ i. take i ((cut.front ++ text) ++ cut.following)) (sym n) ∙ take-append_seam (cut.front ++ text) cut.following)

    following_is : cut.following ≡ drop (suc place.slot) h.row
    following_is =
        let l = length-append cut.front text in
        let n : length (cut.front ++ text) ≡ suc place.slot = (let a = slot_is in omega arith) in
        sym (ap (drop (suc place.slot)) (cut.slots_are ∙ sym (append_assoc cut.front text cut.following)) ∙ ap (λ i. drop i ((cut.front ++ text) ++ cut.following)) (sym n) ∙ drop-append_seam (cut.front ++ text) cut.following)

    -- the slots before those that are shown, and those that are shown
    abbrev hidden_front : List Slot
    hidden_front = (cut.front ++ text) ++ nothings many []

    abbrev shown_after : List Slot
    shown_after = shows.rest ++ empty_text display closer.start

    row_is : display_slots (suc place.slot) display closer.start h.row ≡ hidden_front ++ shown_after
    row_is = grind (arith, front_is, following_is, nothings-append, append_assoc, nothings)

    front_count : length hidden_front ≡ suc (length cut.front) + many
    front_count = grind (arith, length-append, nothings, nothings-length)

    row : DisplayRow Pipe display closer.start (suc (length cut.front) + many) inside shows.rest shows.later_bytes shows.later_quotes
    row = display_row Pipe display closer.start cut.cut.opener.end (suc (length cut.front) + many) inside shows.rest shows.later_bytes shows.later_quotes held.order shows.laid

    cut_there : IsCutThere reader.source (suc place.slot) display h.row
    cut_there =
        subst (λ l. hidden_by display l < length l → CanBeCut reader.source display (get_or l (hidden_by display l) NothingSlot)) following_is
        (first-shown Pipe reader.source display inside cut.cut.opener.end closer.start held.order held.free held.exact held.known (suc (length cut.front)) cut.following cut.after_bytes cut.after_quotes cut.laid_after)

    module _ (left_runs left_quotes at : ℕ) (first : at ≡ suc place.slot + hidden_by display (drop (suc place.slot) h.row)) (lr : LeavesRuns place.runs left_runs at runs bytes) (lq : LeavesQuotes place.quotes left_quotes at quotes) where
      at_is : at ≡ suc (length cut.front) + many
      at_is = first ∙ ap (λ l. suc place.slot + hidden_by display l) (sym following_is) ∙ ap (λ n. suc n + many) slot_is

      abbrev count : ℕ
      count = bytes_in (take place.runs runs)

      after_runs : drop place.runs runs ≡ shows.front_runs ++ runs_in (from_place display inside)
      after_runs = ap (λ (b : BracketPlace). drop b.runs runs) (sym place_is) ∙ sym cut.runs_after ∙ shows.runs_are

      after_bytes : drop count bytes ≡ shows.front_bytes ++ shows.later_bytes
      after_bytes = sym (passes.after_bytes reader leaf before p bs slots bytes quotes runs quoted_are h closer nearer (Wiki name (Some display) end) next place there t comes) ∙ shows.bytes_are

      after_quotes : drop place.quotes quotes ≡ shows.front_quotes ++ shows.later_quotes
      after_quotes = sym (passes.after_quotes reader leaf before p bs slots bytes quotes runs quoted_are h closer nearer (Wiki name (Some display) end) next place there t comes) ∙ shows.quotes_are

      after_quoted : drop place.quotes quoted_are ≡ shows.front_quoted ++ quotes_of (from_place display inside)
      after_quoted = ap (λ (b : BracketPlace). drop b.quotes quoted_are) (sym place_is) ∙ sym cut.quoted_after ∙ shows.quoted_are

      abbrev more : ℕ
      more = left_runs - place.runs

      abbrev more_quotes : ℕ
      more_quotes = left_quotes - place.quotes

      bytes_at : (k : ℕ) → bytes_in (take (place.runs + k) runs) ≡ count + bytes_in (take k (drop place.runs runs))
      bytes_at k = ap bytes_in (take-add place.runs k runs) ∙ bytes_both (take place.runs runs) (take k (drop place.runs runs))

      byte_at : (k : ℕ) → get_or bytes (bytes_in (take (place.runs + k) runs)) 0 ≡ get_or (shows.front_bytes ++ shows.later_bytes) (bytes_in (take k (shows.front_runs ++ runs_in (from_place display inside)))) 0
      byte_at k = grind (arith, bytes_at, get_or-drop, after_bytes, after_runs)

      runs_are : (drop more (shows.front_runs ++ runs_in (from_place display inside)) ≡ runs_in (from_place display inside))
          × (drop (bytes_in (take more (shows.front_runs ++ runs_in (from_place display inside)))) (shows.front_bytes ++ shows.later_bytes) ≡ shows.later_bytes)
      runs_are =
          let later = lays-count (display_from display closer.start inside) (suc (length cut.front) + many) shown_after shows.later_bytes shows.later_quotes row.laid in
          let n = ap length after_runs in
          let d = length-drop place.runs runs in
          let o = lr.order in
          runs_left shows.front_runs (runs_in (from_place display inside)) shows.front_bytes shows.later_bytes at more (subst Sizes shows.runs_are (exact_sizes inside held.exact)) shows.bytes_count
          (later.0 ∙ ap bytes_in row.runs) (subst (λ m. Below m shows.front_bytes) (sym at_is) shows.bytes_before) (subst (λ m. From m shows.later_bytes) (sym at_is) shows.bytes_after)
          (λ k a e. subst (λ x. x < at) (byte_at k) (lr.before (place.runs + k) (omega arith) (omega arith) (omega arith)))
          (λ e. subst (λ x. at ≤ x) (byte_at more) (subst (λ m. at ≤ get_or bytes (bytes_in (take m runs)) 0) (let q : left_runs ≡ place.runs + more = omega arith in q) (lr.following (omega arith))))

      quotes_are : (drop more_quotes (shows.front_quotes ++ shows.later_quotes) ≡ shows.later_quotes) × (drop more_quotes (shows.front_quoted ++ quotes_of (from_place display inside)) ≡ quotes_of (from_place display inside))
      quotes_are =
          let later = lays-count (display_from display closer.start inside) (suc (length cut.front) + many) shown_after shows.later_bytes shows.later_quotes row.laid in
          let n = ap length after_quotes in
          let d = length-drop place.quotes quotes in
          let o = lq.order in
          quotes_left shows.front_quotes shows.later_quotes shows.front_quoted (quotes_of (from_place display inside)) at more_quotes shows.quotes_count (later.1 ∙ ap length row.quoted)
          (subst (λ m. Below m shows.front_quotes) (sym at_is) shows.quotes_before) (subst (λ m. From m shows.later_quotes) (sym at_is) shows.quotes_after)
          (λ k a e. subst (λ x. x < at) (sym (get_or-drop place.quotes quotes k 0) ∙ ap (λ l. get_or l k 0) after_quotes) (lq.before (place.quotes + k) (omega arith) (omega arith) (omega arith)))
          (λ e. subst (λ x. at ≤ x) (sym (get_or-drop place.quotes quotes more_quotes 0) ∙ ap (λ l. get_or l more_quotes 0) after_quotes)
          (subst (λ m. at ≤ get_or quotes m 0) (let q : left_quotes ≡ place.quotes + more_quotes = omega arith in q) (lq.following (omega arith))))

      -- the remaining runs and quotes are those of the text that is shown
      left_runs_are : drop left_runs runs ≡ runs_in (display_from display closer.start inside)
      left_runs_are =
          let o = lr.order in
          ap (λ m. drop m runs) (let q : left_runs ≡ place.runs + more = omega arith in q) ∙ sym (drop-drop more place.runs runs) ∙ ap (drop more) after_runs ∙ runs_are.0 ∙ sym row.runs

      left_bytes_are : drop (bytes_in (take left_runs runs)) bytes ≡ shows.later_bytes
      left_bytes_are =
          let o = lr.order in
          ap (λ m. drop (bytes_in (take m runs)) bytes) (let q : left_runs ≡ place.runs + more = omega arith in q) ∙ ap (λ m. drop m bytes) (bytes_at more) ∙ sym (drop-drop (bytes_in (take more (drop place.runs runs))) count bytes)
          ∙ ap (λ l. drop (bytes_in (take more l)) (drop count bytes)) after_runs ∙ ap (drop (bytes_in (take more (shows.front_runs ++ runs_in (from_place display inside))))) after_bytes ∙ runs_are.1

      left_quotes_are : drop left_quotes quotes ≡ shows.later_quotes
      left_quotes_are =
          let o = lq.order in
          ap (λ m. drop m quotes) (let q : left_quotes ≡ place.quotes + more_quotes = omega arith in q) ∙ sym (drop-drop more_quotes place.quotes quotes) ∙ ap (drop more_quotes) after_quotes ∙ quotes_are.0

      left_quoted_are : drop left_quotes quoted_are ≡ quotes_of (display_from display closer.start inside)
      left_quoted_are =
          let o = lq.order in
          ap (λ m. drop m quoted_are) (let q : left_quotes ≡ place.quotes + more_quotes = omega arith in q) ∙ sym (drop-drop more_quotes place.quotes quoted_are) ∙ ap (drop more_quotes) after_quoted ∙ quotes_are.1 ∙ sym row.quoted

      abbrev made : List Slot → List ℕ → List ℕ → List Quote → List Pair → List Slot
      made l bs qs cs pairs = marked reader.options bs (marks_by (length bs) pairs) (quoted qs (quote_characters [] cs) l) []

      module _ (now : List Slot) (like : AreLike reader.source now (display_slots (suc place.slot) display closer.start h.row)) (pairs : List Pair) (spans : Spans) (e : IsEmphasis (counted 0 (drop left_runs runs)) pairs spans) where
        abbrev written : List Slot
        written = marked reader.options (drop (bytes_in (take left_runs runs)) bytes) (marks_by (length (drop (bytes_in (take left_runs runs)) bytes)) pairs) (quoted (drop left_quotes quotes) (quote_characters [] (drop left_quotes quoted_are)) now) []

        pub reached-display : IsReached reader leaf before (closed_by p closer (record { result = Forms nearer (Wiki name (Some display) end); after = next })) (drop (suc nearer) bs) (linked_slots place (display_target name end) written)
            (take count bytes) (take place.quotes quotes) (take place.runs runs) (take place.quotes quoted_are)
        reached-display =
            let display_siblings = display_from display closer.start inside in
            let laid : LaysOut (length hidden_front) display_siblings shown_after shows.later_bytes shows.later_quotes =
            subst (λ i. LaysOut i display_siblings shown_after shows.later_bytes shows.later_quotes) (sym front_count) row.laid in
            let s = row-dressed reader.options display_siblings hidden_front shown_after (display_slots (suc place.slot) display closer.start h.row) shows.later_bytes shows.later_quotes (drop left_runs runs) (drop left_quotes quoted_are) row_is laid
            (sym left_runs_are) (sym left_quoted_are) pairs spans e in
            let same : made (display_slots (suc place.slot) display closer.start h.row) (drop (bytes_in (take left_runs runs)) bytes) (drop left_quotes quotes) (drop left_quotes quoted_are) pairs ≡ hidden_front ++ s.own = search (rules, left_bytes_are, left_quotes_are) in
            let all : AreLike reader.source written (hidden_front ++ s.own) = search (rules, like-marked, like-quoted) in
            let own : List Slot = nothings many [] ++ s.own in
            let parted : hidden_front ++ s.own ≡ (cut.front ++ text) ++ own = append_assoc (cut.front ++ text) (nothings many []) s.own in
            let cut_so : AreLike reader.source written ((cut.front ++ text) ++ own) = subst (AreLike reader.source written) parted all in
            let l = length-append cut.front text in
            let own_like = passes.like-drop reader.source (suc place.slot) written (cut.front ++ text) own (let a = slot_is in let q : suc place.slot ≡ length (cut.front ++ text) = omega arith in q) cut_so in
            let front_like = passes.like-take reader.source place.slot written cut.front (text ++ own) slot_is (subst (AreLike reader.source written) (append_assoc cut.front text own) cut_so) in
            let own_is : seen own ≡ slots_of (dress reader.options display_siblings) = ap seen (nothings-append many [] s.own) ∙ nothings-seen many s.own ∙ s.stand_for in
            let opener : place.bracket ≡ cut.cut.opener = ap (λ (b : BracketPlace). b.bracket) (sym place_is) ∙ cut.opener_is in
            let begin : Bracket → Slot = λ b. BeginSlot (tag_by b.is_image (display_target name end).linked) b.start end in
            passes.reached-piece reader leaf before p bs slots bytes quotes runs quoted_are h closer nearer (Wiki name (Some display) end) next place there t comes (take place.slot written) (begin place.bracket ∷ (drop (suc place.slot) written ++ (EndSlot ∷ [])))
            (begin cut.cut.opener ∷ (own ++ (EndSlot ∷ []))) front_like
            (ap begin (sym opener), passes.like-both reader.source (drop (suc place.slot) written) own (EndSlot ∷ []) (EndSlot ∷ []) own_like (refl, refl))
            (own, [], own_is, refl, (refl, refl, refl)) refl refl

  pub display-reached : (p : Pass) (bs : List BracketPlace) (slots : List Slot) (bytes quotes : List ℕ) (runs : List Run) (quoted_are : List Quote) → IsReached reader leaf before p bs slots bytes quotes runs quoted_are
      → (closer : Bracket) (nearer : ℕ) (name : List ℕ) (display end : ℕ) (next : State) (place : BracketPlace) → drop nearer bs ≡ place ∷ drop (suc nearer) bs → token reader leaf p.state.at ≡ Closes closer
      → Comes AnyAnswer p.state.asked (decide reader leaf p.state closer) (record { result = Forms nearer (Wiki name (Some display) end); after = next })
      → (left_runs left_quotes at : ℕ) (now : List Slot) → LeavesRuns place.runs left_runs at runs bytes → LeavesQuotes place.quotes left_quotes at quotes
      → ((row : List Slot) → AreLike reader.source slots row → IsCutThere reader.source (suc place.slot) display row → IsAfterPipe reader.options reader.source display → display ≤ closer.start → ShowsLike reader.source (suc place.slot) display closer.start at row now)
      → (pairs : List Pair) (spans : Spans) → IsEmphasis (counted 0 (drop left_runs runs)) pairs spans
      → IsReached reader leaf before (closed_by p closer (record { result = Forms nearer (Wiki name (Some display) end); after = next })) (drop (suc nearer) bs)
      (linked_slots place (display_target name end)
      (marked reader.options (drop (bytes_in (take left_runs runs)) bytes) (marks_by (length (drop (bytes_in (take left_runs runs)) bytes)) pairs) (quoted (drop left_quotes quotes) (quote_characters [] (drop left_quotes quoted_are)) now) []))
      (take (bytes_in (take place.runs runs)) bytes) (take place.quotes quotes) (take place.runs runs) (take place.quotes quoted_are)
  display-reached p bs slots bytes quotes runs quoted_are h closer nearer name display end next place there t comes left_runs left_quotes at now lr lq shows pairs spans e =
      let k = held p bs slots bytes quotes runs quoted_are h closer nearer name display end next place there t comes in
      let s = shows h.row h.like (cut_there p bs slots bytes quotes runs quoted_are h closer nearer name display end next place there t comes) k.pipe k.low in
      reached-display p bs slots bytes quotes runs quoted_are h closer nearer name display end next place there t comes left_runs left_quotes at s.first lr lq now s.like pairs spans e
