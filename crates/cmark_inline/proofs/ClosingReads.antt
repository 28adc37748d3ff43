-- The parts that the grammar's pass has read with a closing bracket that remains a text, or forms a link or an image.
use Rattle.std.specs.Prelude.{map, drop, take, Option, Some, None}
use Rattle.std.proofs.Common.{◌≡◌, ◌⊎◌, inl, inr, ℕ, zero, suc, ◌+◌, ◌-◌, ◌<◌, ◌≤◌, List, [], ◌∷◌, ◌++◌, length, get_or, refl, sym, ap, subst, ◌∙◌, arith, length-drop, length-append}
use Rattle.std.proofs.Math.Seq.{drop-cons}
use Rattle.std.proofs.lemmas.Bool.{cases_lt}
use Rattle.std.proofs.lemmas.List.{drop-map, get_or-map, get_or_at, length-map}
use Rattle.cmark_grammar.specs.Answers.{Lookup}
use Rattle.cmark_grammar.specs.BracketDecisions.{decide}
use Rattle.cmark_grammar.specs.BracketReading.{Comes}
use Rattle.cmark_grammar.specs.BracketStates.{State, Decision, Settled, Asks, Outcome, StaysText, Forms}
use Rattle.cmark_inline_model.specs.EmphasisModel.{pairs_of, spans_of}
use Rattle.cmark_grammar.specs.Event as event
use Rattle.cmark_grammar.specs.InlineTokens.{token}
use Rattle.cmark_grammar.specs.Items as items
use Rattle.cmark_grammar.specs.LeafReading.{Between}
use Rattle.cmark_grammar.specs.LeafText.{Leaf}
use Rattle.cmark_grammar.specs.Options.{Options}
use Rattle.cmark_grammar.specs.Parts.{Linking}
use Rattle.cmark_grammar.specs.Questions.{AnyAnswer, Exchange}
use Rattle.cmark_grammar.specs.Readers.{Reader}
use Rattle.cmark_grammar.specs.Siblings.{tag_by}
use Rattle.cmark_grammar.specs.Tokens.{slice}
use Rattle.cmark_inline_model.proofs.EmphasisSound.{sound}
use Rattle.cmark_references.specs.declared.definitions.RefDefs.{RefDefs}
use Rattle.cmark_leaf_text.specs.Reads.{place_of, text_of}
use Rattle.cmark_leaf_text.specs.declared.leaf_text.LeafText.{LeafText}
use Rattle.cmark_values.specs.declared.text.CowStr.{CowStr}
use Rattle.cmark_inline_model.specs.BracketPass.{Pass}
use Rattle.cmark_inline_model.specs.LikeSlots.{AreLike, IsLike}
use Rattle.cmark_inline_model.specs.RowParts.{BracketPlace, text_slot}
use Rattle.cmark_inline_model.specs.RowPasses.{IsReached}
use Rattle.cmark_inline_model.specs.SlotRows as row
use Rattle.cmark_inline_model.proofs.RowParts.{cut-row}
use Rattle.cmark_inline.specs.Closers.{Formed, LinksTaken, ReadsOn}
use Rattle.cmark_inline.specs.Decided.{ComesTo, IsCloser}
use Rattle.cmark_slots.specs.MarkedSlots.{places_of, siblings_from}
use Rattle.cmark_inline.specs.Reached.{HasRead, ReadsPlaces, bracket_place, quotes_of, runs_of}
use Rattle.cmark_references.specs.Links.{shown_link}
use Rattle.cmark_slots.specs.SlotViews.{first_of, shown_slot, shown_slots, slot_as}
use Rattle.cmark_slots.specs.Slots.{PushesText}
use Rattle.cmark_inline.specs.Tokens.{Puts}
use Rattle.cmark_inline.specs.FormedSlots.{WritesElement, dressed_after, wrapped}
use Rattle.cmark_slots.specs.declared.bracket.Bracket.{Bracket}
use Rattle.cmark_inline.specs.declared.callback.BrokenLink.{BrokenLink}
use Rattle.cmark_emphasis.specs.declared.run.PlacedRun.{PlacedRun}
use Rattle.cmark_references.specs.declared.link.Link.{Link}
use Rattle.cmark_inline.specs.declared.link.Target.{Target}
use Rattle.cmark_slots.specs.declared.quote.PlacedQuote.{PlacedQuote}
use Rattle.cmark_slots.specs.declared.slot.Slot.{Slot}
use Rattle.cmark_slots.specs.declared.slot.SlotKind.{SlotKind}
use Rattle.cmark_slots.specs.declared.slot.SlotKind.TheVariants as kind
use Rattle.cmark_inline.specs.declared.state.InlineState.{InlineState}
use Rattle.cmark_inline.proofs.EndSteps.{closing-read}
use Rattle.cmark_inline.proofs.LinkSteps.{link-read}
use Rattle.cmark_slots.proofs.Marks.{no-slot}

-- ## States with the same slots

pub record SameRows (one two : InlineState) : Type 0 where
  pub texts : two.texts.items ≡ one.texts.items
  pub links : two.links.items ≡ one.links.items
  pub slots : two.slots.items ≡ one.slots.items
  pub runs : two.delimiters.placed.items ≡ one.delimiters.placed.items
  pub examined : two.delimiters.examined ≡ one.delimiters.examined
  pub quotes : two.quotes.placed.items ≡ one.quotes.placed.items

pub rows-on : (one two three : InlineState) → SameRows one two → SameRows two three → SameRows one three
rows-on one two three a b = record { texts = b.texts ∙ a.texts; links = b.links ∙ a.links; slots = b.slots ∙ a.slots; runs = b.runs ∙ a.runs; examined = b.examined ∙ a.examined; quotes = b.quotes ∙ a.quotes }

pub rows-brackets : (one two : InlineState) → two ≡ record one { brackets = two.brackets } → SameRows one two
rows-brackets one two e = record {
  texts = ap (λ (s : InlineState). s.texts.items) e;
  links = ap (λ (s : InlineState). s.links.items) e;
  slots = ap (λ (s : InlineState). s.slots.items) e;
  runs = ap (λ (s : InlineState). s.delimiters.placed.items) e;
  examined = ap (λ (s : InlineState). s.delimiters.examined) e;
  quotes = ap (λ (s : InlineState). s.quotes.placed.items) e;
}

pub rows-doubled : (one two : InlineState) → two ≡ record one { doubled = two.doubled } → SameRows one two
rows-doubled one two e = record {
  texts = ap (λ (s : InlineState). s.texts.items) e;
  links = ap (λ (s : InlineState). s.links.items) e;
  slots = ap (λ (s : InlineState). s.slots.items) e;
  runs = ap (λ (s : InlineState). s.delimiters.placed.items) e;
  examined = ap (λ (s : InlineState). s.delimiters.examined) e;
  quotes = ap (λ (s : InlineState). s.quotes.placed.items) e;
}

pub rows-same : (one two : InlineState) → two ≡ one → SameRows one two
rows-same one two e = record {
  texts = ap (λ (s : InlineState). s.texts.items) e;
  links = ap (λ (s : InlineState). s.links.items) e;
  slots = ap (λ (s : InlineState). s.slots.items) e;
  runs = ap (λ (s : InlineState). s.delimiters.placed.items) e;
  examined = ap (λ (s : InlineState). s.delimiters.examined) e;
  quotes = ap (λ (s : InlineState). s.quotes.placed.items) e;
}

-- no link is formed
pub rows-unlinked : {F : Type 0} (R : F → BrokenLink → Option (CowStr × CowStr) → F → Type 0) (options : Options) (lookup : Lookup) (references : RefDefs) (leaf : LeafText) (text : List ℕ) (taken : Option Bracket) (close : ℕ) (old new : InlineState) (before after : F)
    → LinksTaken R options lookup references leaf text taken close old new None before after → SameRows old new
rows-unlinked R options lookup references leaf text None close old new before after l = rows-same old new l.1
rows-unlinked R options lookup references leaf text (Some b) close old new before after l =
    rows-on old l.between new (record {
      texts = ap (λ v. v.items) l.texts;
      links = ap (λ v. v.items) l.table;
      slots = ap (λ v. v.items) l.same.slots;
      runs = ap (λ d. d.placed.items) l.same.delimiters;
      examined = ap (λ d. d.examined) l.same.delimiters;
      quotes = ap (λ q. q.placed.items) l.quotes;
    }) (rows-same l.between new (formed l.target refl l.formed))
  where
    formed : (found : Option Target) → l.target ≡ found → Formed options b l.target l.between new None → new ≡ l.between
    formed None e f = subst (λ t. Formed options b t l.between new None) e f
    formed (Some target) e f = absurd (subst (λ t. Formed options b t l.between new None) e f)

-- a slot that is put if nothing is pending
pub puts-one : (at : ℕ) (slot : Slot) (old new : List Slot) → Puts at at slot old new → new ≡ old ++ (slot ∷ [])
puts-one at slot old new h = h.slot_is ∙ ap (λ l. l ++ (slot ∷ [])) (h.text.1 (let q : at ≤ at = omega arith in q))

-- the pending text has its slot
pub record IsFlushed (from close : ℕ) (old flushed : InlineState) : Type 0 where
  pub pushes : PushesText from close old.slots.items flushed.slots.items
  pub others : flushed ≡ record old { slots = flushed.slots }

same-pushed : (from close : ℕ) (old one two : List Slot) → PushesText from close old one → PushesText from close old two → two ≡ one
same-pushed from close old one two a b = go (cases_lt from close)
  where
    go : (from < close) ⊎ (close ≤ from) → two ≡ one
    go (inl lt) = b.0 lt ∙ sym (a.0 lt)
    go (inr le) = b.1 le ∙ sym (a.1 le)

rows-flushed : (from close : ℕ) (old one two : InlineState) → IsFlushed from close old one → IsFlushed from close old two → SameRows one two
rows-flushed from close old one two a b = record {
  texts = ap (λ (s : InlineState). s.texts.items) b.others ∙ sym (ap (λ (s : InlineState). s.texts.items) a.others);
  links = ap (λ (s : InlineState). s.links.items) b.others ∙ sym (ap (λ (s : InlineState). s.links.items) a.others);
  slots = same-pushed from close old.slots.items one.slots.items two.slots.items a.pushes b.pushes;
  runs = ap (λ (s : InlineState). s.delimiters.placed.items) b.others ∙ sym (ap (λ (s : InlineState). s.delimiters.placed.items) a.others);
  examined = ap (λ (s : InlineState). s.delimiters.examined) b.others ∙ sym (ap (λ (s : InlineState). s.delimiters.examined) a.others);
  quotes = ap (λ (s : InlineState). s.quotes.placed.items) b.others ∙ sym (ap (λ (s : InlineState). s.quotes.placed.items) a.others);
}

pub rows-read : (leaf : LeafText) (reader : Reader) (read : Leaf) (place : ℕ → ℕ) (before : Between) (p : Pass) (bs : List Bracket) (one two : InlineState) → SameRows one two → HasRead leaf reader read place before p bs one → HasRead leaf reader read place before p bs two
rows-read leaf reader read place before p bs one two e h =
    let all : List CowStr → List Link → List Slot → List PlacedRun → List PlacedQuote → Type 0 = λ t l s d q.
    IsReached reader read before p (map (bracket_place place) bs) (shown_slots leaf t l s) (places_of d) (map (λ (x : PlacedQuote). x.slot) q) (runs_of d) (quotes_of q) in
    subst (λ x. all x two.links.items two.slots.items two.delimiters.placed.items two.quotes.placed.items) (sym e.texts)
    (subst (λ x. all one.texts.items x two.slots.items two.delimiters.placed.items two.quotes.placed.items) (sym e.links)
    (subst (λ x. all one.texts.items one.links.items x two.delimiters.placed.items two.quotes.placed.items) (sym e.slots)
    (subst (λ x. all one.texts.items one.links.items one.slots.items x two.quotes.placed.items) (sym e.runs)
    (subst (λ x. all one.texts.items one.links.items one.slots.items one.delimiters.placed.items x) (sym e.quotes) h))))

-- ## Decisions

pub comes-any : {F : Type 0} (R : F → BrokenLink → Option (CowStr × CowStr) → F → Type 0) (d : Decision) (o : Outcome) (asked : List Exchange) (before after : F) → ComesTo R d o before after → Comes AnyAnswer asked d o
comes-any R (Settled settled) o asked before after h = h.0
comes-any R (Asks question answered) o asked before after h = (h.0, tt, h.2)

-- ## The begin of an opening bracket's slot

like-at : (source : List ℕ) (slots others : List row.Slot) (k : ℕ) (d e : row.Slot) → AreLike source slots others → k < length others → IsLike source (get_or slots k d) (get_or others k e)
like-at source [] others k d e h lt = absurd (let n = ap length h in omega (arith, n, lt))
like-at source (x ∷ xs) [] k d e h lt = absurd h
like-at source (x ∷ xs) (y ∷ ys) zero d e h lt = h.0
like-at source (x ∷ xs) (y ∷ ys) (suc k) d e h lt = like-at source xs ys k d e h.1 (omega (arith, lt))

same-head : {X : Type 0} (x y : X) (xs ys : List X) → x ∷ xs ≡ y ∷ ys → x ≡ y
same-head x y xs ys e = cc

text-first : (leaf : LeafText) (source : List ℕ) (texts : List CowStr) (links : List Link) (slot : Slot) (k : SlotKind) (opener : items.Bracket) → k ≡ kind.Text → IsLike source (slot_as leaf texts links slot k) (text_slot opener) → first_of leaf slot ≡ opener.start
text-first leaf source texts links slot k opener e h = (subst (λ x. IsLike source (slot_as leaf texts links slot x) (text_slot opener)) e h).start

pub opener-first : (leaf : LeafText) (reader : Reader) (read : Leaf) (place : ℕ → ℕ) (before : Between) (p : Pass) (bs : List Bracket) (state : InlineState) → HasRead leaf reader read place before p bs state
    → (b : Bracket) (nearer : ℕ) → drop nearer bs ≡ b ∷ drop (suc nearer) bs → b.slot < length state.slots.items → (d : Slot) → (get_or state.slots.items b.slot d).kind ≡ kind.Text → first_of leaf (get_or state.slots.items b.slot d) ≡ place b.start
opener-first leaf reader read place before p bs state h b nearer there within d text =
    let brackets = map (bracket_place place) bs in
    let texts = state.texts.items in
    let links = state.links.items in
    let slots = state.slots.items in
    let m = length-map bs (bracket_place place) in
    let n = ap length there in
    let l = length-drop nearer bs in
    let c = cut-row reader.options nearer brackets p.here h.row (places_of state.delimiters.placed.items) (map (λ (x : PlacedQuote). x.slot) state.quotes.placed.items) (runs_of state.delimiters.placed.items) (quotes_of state.quotes.placed.items)
    (let q : nearer < length brackets = omega (arith, m, n, l) in q) h.is_row in
    let is : c.place ≡ bracket_place place b = same-head c.place (bracket_place place b) (drop (suc nearer) brackets) (map (bracket_place place) (drop (suc nearer) bs)) (sym c.place_is ∙ drop-map (bracket_place place) nearer bs ∙ ap (map (bracket_place place)) there) in
    let at : length c.front ≡ b.slot = sym c.slot_is ∙ ap (λ (x : BracketPlace). x.slot) is in
    let size = length-append c.front (text_slot c.cut.opener ∷ c.following) in
    let longer : b.slot < length (c.front ++ (text_slot c.cut.opener ∷ c.following)) = omega (arith, at, size) in
    let like : AreLike reader.source (shown_slots leaf texts links slots) (c.front ++ (text_slot c.cut.opener ∷ c.following)) = subst (AreLike reader.source (shown_slots leaf texts links slots)) c.slots_are h.like in
    let one = like-at reader.source (shown_slots leaf texts links slots) (c.front ++ (text_slot c.cut.opener ∷ c.following)) b.slot row.NothingSlot row.NothingSlot like longer in
    let here : IsLike reader.source (shown_slot leaf texts links (get_or slots b.slot d)) (text_slot c.cut.opener) =
    subst (λ x. IsLike reader.source x (text_slot c.cut.opener)) (get_or-map (shown_slot leaf texts links) slots b.slot d row.NothingSlot within)
    (subst (λ x. IsLike reader.source (get_or (shown_slots leaf texts links slots) b.slot row.NothingSlot) x) (get_or_at c.front (text_slot c.cut.opener) c.following row.NothingSlot b.slot at) one) in
    text-first leaf reader.source texts links (get_or slots b.slot d) (get_or slots b.slot d).kind c.cut.opener text here
    ∙ sym (ap (λ (x : items.Bracket). x.start) c.opener_is) ∙ ap (λ (x : BracketPlace). x.bracket.start) is

-- ## The text of a bracket

one-byte : (xs : List ℕ) (a b : ℕ) → b ≡ suc a → a < length xs → slice xs a b ≡ get_or xs a 0 ∷ []
one-byte xs a b e lt = ap (λ n. take n (drop a xs)) (let q : b - a ≡ 1 = omega (arith, e) in q) ∙ ap (take 1) (drop-cons xs a 0 lt)

closer-like : (leaf : LeafText) (reader : Reader) (read : Leaf) (place : ℕ → ℕ) (text : List ℕ) (close : ℕ) (closer : items.Bracket) (texts : List CowStr) (links : List Link) → text ≡ text_of leaf → ReadsPlaces leaf reader read place → IsCloser text place close closer
    → IsLike reader.source (shown_slot leaf texts links (record { kind = kind.Text; start = close; end = close + 1 })) (text_slot closer)
closer-like leaf reader read place text close closer texts links same places c =
    let w = c.within in
    let n = ap length same in
    let within : close < length (text_of leaf) = omega (arith, w, n) in
    let b = places.bytes close within in
    let last : close + 1 - 1 ≡ close = omega arith in
    let from : place_of leaf close ≡ closer.start = b ∙ sym c.start in
    let to : place_of leaf (close + 1 - 1) + 1 ≡ closer.end = ap (λ k. place_of leaf k + 1) last ∙ ap (λ k. k + 1) b ∙ (let q : place close + 1 ≡ suc (place close) = omega arith in q) ∙ sym c.end in
    record {
      start = from;
      end = to;
      event = ap event.Text (
          one-byte (text_of leaf) close (close + 1) (let q : close + 1 ≡ suc close = omega arith in q) within
          ∙ ap (λ x. x ∷ []) (sym (places.places.bytes close within))
          ∙ sym (one-byte reader.source (place close) (suc (place close)) refl (places.places.inside close within))
          ∙ ap (λ k. slice reader.source k (suc (place close))) (sym c.start)
          ∙ ap (λ k. slice reader.source closer.start k) (sym c.end));
      lines = λ q. refl;
    }

module _ (leaf : LeafText) (reader : Reader) (read : Leaf) (place : ℕ → ℕ) (closer : items.Bracket) (s : State) (bs : List Bracket) (from close : ℕ) (old mine st new : InlineState) (is : IsFlushed from close old mine) (rows : SameRows mine st) where
  -- the state before the call
  pub read-before : (before : Between) (p : Pass) (flushed : InlineState) → PushesText from close old.slots.items flushed.slots.items → flushed ≡ record old { slots = flushed.slots } → HasRead leaf reader read place before p bs flushed → HasRead leaf reader read place before p bs st
  read-before before p flushed pushes others h =
      rows-read leaf reader read place before p bs mine st rows (rows-read leaf reader read place before p bs flushed mine (rows-flushed from close old flushed mine (record { pushes = pushes; others = others }) is) h)

  -- the closing bracket remains a text
  pub text-reads : (text : List ℕ) → text ≡ text_of leaf → IsCloser text place close closer → new.slots.items ≡ st.slots.items ++ (record { kind = kind.Text; start = close; end = close + 1 } ∷ [])
      → new.texts.items ≡ st.texts.items → new.links.items ≡ st.links.items → new.delimiters.placed.items ≡ st.delimiters.placed.items → new.quotes.placed.items ≡ st.quotes.placed.items
      → (next : State) → Comes AnyAnswer s.asked (decide reader read s closer) (record { result = StaysText; after = next }) → ReadsOn leaf reader read place from close closer s bs (record { result = StaysText; after = next }) old new
  text-reads text same c slots texts links runs quotes next comes = λ places t before p flushed state_is pushes others h.
      closing-read leaf reader read place before p bs st new (read-before before p flushed pushes others h) closer next (record { kind = kind.Text; start = close; end = close + 1 })
      (ap (λ x. shown_slots leaf x new.links.items st.slots.items) texts ∙ ap (λ x. shown_slots leaf st.texts.items x st.slots.items) links)
      (ap (λ (x : State). token reader read x.at) state_is ∙ t)
      (subst (λ (x : State). Comes AnyAnswer x.asked (decide reader read x closer) (record { result = StaysText; after = next })) (sym state_is) comes)
      (closer-like leaf reader read place text close closer new.texts.items new.links.items same places c) slots runs quotes

  -- the closing bracket forms a link or an image
  pub link-reads : (b : Bracket) (target : Target) → WritesElement reader.options b target st new → b.slot < length st.slots.items → ((d : Slot) → (get_or st.slots.items b.slot d).kind ≡ kind.Text)
      → (nearer : ℕ) → drop nearer bs ≡ b ∷ drop (suc nearer) bs → place_of leaf (target.end - 1) + 1 ≡ place target.end
      → (next : State) → Comes AnyAnswer s.asked (decide reader read s closer) (record { result = Forms nearer (Linking (record { linked = shown_link target.link; end = place target.end })); after = next })
      → ReadsOn leaf reader read place from close closer s bs (record { result = Forms nearer (Linking (record { linked = shown_link target.link; end = place target.end })); after = next }) old new
  link-reads b target writes within text nearer there ends next comes = λ places t before p flushed state_is pushes others h.
      let linked = shown_link target.link in
      let runs = st.delimiters.placed.items in
      let quotes = st.quotes.placed.items in
      let siblings = siblings_from 0 (drop b.runs runs) in
      let read_so = read-before before p flushed pushes others h in
      let first = opener-first leaf reader read place before p bs st read_so b nearer there within no-slot (text no-slot) in
      let dressed = dressed_after reader.options b (pairs_of siblings) runs quotes (shown_slots leaf st.texts.items st.links.items st.slots.items) in
      link-read leaf reader read place before p bs st new read_so b closer nearer (record { linked = linked; end = place target.end }) next there
      (ap (λ (x : State). token reader read x.at) state_is ∙ t)
      (subst (λ (x : State). Comes AnyAnswer x.asked (decide reader read x closer) (record { result = Forms nearer (Linking (record { linked = linked; end = place target.end })); after = next })) (sym state_is) comes)
      (pairs_of siblings) (spans_of siblings) (sound siblings)
      (writes.slots leaf (pairs_of siblings) (spans_of siblings) no-slot (sound siblings)
      ∙ ap (λ n. wrapped b.slot (row.BeginSlot (tag_by b.is_image linked) n (place_of leaf (target.end - 1) + 1)) dressed) first
      ∙ ap (λ n. wrapped b.slot (row.BeginSlot (tag_by b.is_image linked) (place b.start) n) dressed) ends)
      writes.forgets.runs writes.forgets.quotes
