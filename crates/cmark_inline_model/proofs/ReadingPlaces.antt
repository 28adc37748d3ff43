-- Each offset that a reading of a leaf reaches is the offset of a byte or the leaf's end. So the bytes of its delimiter runs contain no
-- pipe, and the display of a wikilink comes directly after a pipe.
use Rattle.std.specs.Prelude.{zero, suc, ◌-◌, ◌==◌, if◌then◌else◌, get_or, drop, take}
use Rattle.std.proofs.Common.{◌≡◌, inl, inr, ℕ, ◌+◌, ◌<◌, ◌≤◌, Bool, true, List, [], ◌∷◌, length, Option, Some, None, refl, sym, ap, subst, arith, ◌∙◌, eqb-true}
use Rattle.std.proofs.lemmas.List.{length-take, get_or-drop}
use Rattle.cmark_grammar.specs.BracketDecisions.{name_in, after_pipe, wiki_text, following, place, decide}
use Rattle.cmark_grammar.specs.BracketReading.{Reads}
use Rattle.cmark_grammar.specs.BracketStates.{State, moved, opened, Result, StaysText, Forms, Outcome}
use Rattle.cmark_grammar.specs.InlineTokens.{from, token}
use Rattle.cmark_grammar.specs.Items.{Item, Bracket}
use Rattle.cmark_grammar.specs.LeafText.{Leaf, InTurn}
use Rattle.cmark_grammar.specs.Letters.{first_is}
use Rattle.cmark_grammar.specs.Lines.{is_content}
use Rattle.cmark_grammar.specs.LinkTails.{LinkTail, link_tail_in}
use Rattle.cmark_grammar.specs.OpenBrackets.{Taken}
use Rattle.cmark_grammar.specs.Parts.{Formed, Wiki, Parts, Nil, Single, Form, Closing, Opening, openings}
use Rattle.cmark_grammar.specs.Questions.{Exchange, Saying}
use Rattle.cmark_grammar.specs.Readers.{Reader}
use Rattle.cmark_inline_model.proofs.ShorterRests.{TailBelow, link_tail-shorter}
use Rattle.cmark_inline_model.specs.LeafModel.{HaveLineEnds}
use Rattle.cmark_inline_model.specs.Progress.{Always}
use Rattle.cmark_inline_model.specs.CutRanges.{IsAfterPipe}
use Rattle.cmark_inline_model.proofs.DecisionLaws.{always-by}
use Rattle.cmark_inline_model.proofs.DecisionShape.{Shape, Stays, ToInline, ToReference, ToFootnote, ToWiki, IsPlace as IsPlaceAfter}
use Rattle.cmark_inline_model.proofs.LinkNesting.{always-comes}
use Rattle.cmark_inline_model.proofs.TokenItems.{OfItems}
use Rattle.cmark_inline_model.proofs.TokenPlaces.{IsPlace, next-place, rest-place, Uncut, HaveContent, Sits, token-sits}

-- ## Pipes

-- the pipe before a display
pub record IsPipe (at : ℕ) (bs : List ℕ) (found : ℕ) : Type 0 where
  pub following : at < found
  pub within : found ≤ at + length bs
  pub byte : get_or bs (found - suc at) 0 ≡ 124

pub pipe-is : (at : ℕ) (bs : List ℕ) (found : ℕ) → after_pipe at bs ≡ Some found → IsPipe at bs found
pipe-is at [] found e = cc
pipe-is at (b ∷ bs) found e = go (b == 124) refl e (λ f. pipe-is (suc at) bs found f)
  where
    go : (x : Bool) → (b == 124) ≡ x → (if x then Some (suc at) else after_pipe (suc at) bs) ≡ Some found → (after_pipe (suc at) bs ≡ Some found → IsPipe (suc at) bs found) → IsPipe at (b ∷ bs) found
    go x q f ih = grind (arith, eqb-true)

take_get : (n i : ℕ) (l : List ℕ) → i < n → get_or (take n l) i 0 ≡ get_or l i 0
take_get zero i l h = absurd (omega arith)
take_get (suc n) i [] h = refl
take_get (suc n) zero (b ∷ l) h = refl
take_get (suc n) (suc i) (b ∷ l) h = take_get n i l (omega arith)

module _ (reader : Reader) where
  -- a display begins directly after a pipe, and not after the closing bracket
  abbrev pub DisplayBy : Formed → (closer : Bracket) → Type 0
  DisplayBy (Wiki name None end) closer = Unit {0}
  DisplayBy (Wiki name (Some place) end) closer = IsAfterPipe reader.options reader.source place × (place ≤ closer.start)
  DisplayBy _ closer = Unit {0}

  abbrev pub HavePipes : Parts → Type 0
  HavePipes Nil = Unit {0}
  HavePipes (Single item after) = HavePipes after
  HavePipes (Form opener inside closer formed after) = DisplayBy formed closer × HavePipes inside × HavePipes after
  HavePipes (Closing closer after) = HavePipes after
  HavePipes (Opening opener after) = HavePipes after

  abbrev DisplayResult : (closer : Bracket) → Result → Type 0
  DisplayResult closer StaysText = Unit {0}
  DisplayResult closer (Forms nearer formed) = DisplayBy formed closer

  display_by : (leaf : Leaf) (closer : Bracket) (first : Taken) (name : List ℕ) (end : ℕ) → reader.options.wikilinks ≡ true
      → DisplayBy (Wiki name (after_pipe (suc first.opener.bracket.end) (wiki_text reader leaf first closer)) end) closer
  display_by leaf closer first name end on = go (after_pipe at text) refl
    where
      at : ℕ
      at = suc first.opener.bracket.end

      text : List ℕ
      text = wiki_text reader leaf first closer

      go : (o : Option ℕ) → after_pipe at text ≡ o → DisplayBy (Wiki name o end) closer
      go None e = tt
      go (Some found) e =
          let p = pipe-is at text found e in
          let x = p.following in let y = p.within in
          let l = length-take (closer.start - at) (drop at reader.source) in
          let i : ℕ = found - suc at in
          let z : at + i ≡ found - 1 = omega arith in (
            record {
              wikilinks = on;
              some = omega arith;
              pipe = ap (λ n. get_or reader.source n 0) (sym z) ∙ sym (get_or-drop at reader.source i 0) ∙ sym (take_get (closer.start - at) i (drop at reader.source) (omega arith)) ∙ p.byte;
            },
            omega arith,
          )

  shape_display : (leaf : Leaf) (s : State) (closer : Bracket) (asked : List Exchange) (o : Outcome) → Shape reader leaf s closer asked o → DisplayResult closer o.result
  shape_display leaf s closer asked o (Stays label os h e) = subst (λ (x : Outcome). DisplayResult closer x.result) (sym e) tt
  shape_display leaf s closer asked o (ToInline label os taken tail h t found e) = subst (λ (x : Outcome). DisplayResult closer x.result) (sym e) tt
  shape_display leaf s closer asked o (ToReference label os taken named link_type found h t n some l e) = subst (λ (x : Outcome). DisplayResult closer x.result) (sym e) tt
  shape_display leaf s closer asked o (ToFootnote label os taken name h t on e) = subst (λ (x : Outcome). DisplayResult closer x.result) (sym e) tt
  shape_display leaf s closer asked o (ToWiki label os first far h t on next touched e) = subst (λ (x : Outcome). DisplayResult closer x.result) (sym e) (display_by leaf closer first (name_in (wiki_text reader leaf first closer)) (suc closer.end) on)

module _ (reader : Reader) (leaf : Leaf) (size : ℕ) (turn : InTurn 0 leaf.stretches size) (within : size ≤ length reader.source) (lines : HaveLineEnds reader.source leaf.stretches) where
  abbrev pub Place : ℕ → Type 0
  Place at = IsPlace reader leaf size turn within lines at

  -- ## The outcome of a closing bracket

  below : (n : ℕ) (o : Option LinkTail) (tail : LinkTail) → TailBelow n o → o ≡ Some tail → length tail.following < n
  below n None tail h e = cc
  below n (Some other) tail h e = subst (λ (o : Option LinkTail). TailBelow n o) e h

  after_place : (closer : Bracket) (p : ℕ) → Place closer.end → IsPlaceAfter reader leaf closer p → Place p
  after_place closer p h (inl e) = subst Place (sym e) h
  after_place closer p h (inr r) = subst Place (sym r.2) (rest-place reader leaf size turn within lines closer.end r.0 h r.1)

  second : (closer : Bracket) → Place closer.end → first_is (λ b. b == 93) (following reader leaf closer.end) ≡ true → Place (suc closer.end)
  second closer h e = go (from reader leaf closer.end) refl e
    where
      go : (l : List ℕ) → from reader leaf closer.end ≡ l → first_is (λ b. b == 93) l ≡ true → Place (suc closer.end)
      go [] f x = cc
      go (b ∷ bs) f x = (let z = eqb-true b 93 x in next-place reader leaf size turn within lines closer.end b bs h f (ap (λ (c : ℕ). is_content c) z)).0

  shape_place : (s : State) (closer : Bracket) → Place closer.end → (asked : List Exchange) (o : Outcome) → Shape reader leaf s closer asked o → Place o.after.at
  shape_place s closer w asked o (Stays label os h e) = subst (λ (x : Outcome). Place x.after.at) (sym e) w
  shape_place s closer w asked o (ToInline label os taken tail h t found e) =
      let b = below (length (following reader leaf closer.end)) (link_tail_in (following reader leaf closer.end)) tail (link_tail-shorter (following reader leaf closer.end)) found in
      subst (λ (x : Outcome). Place x.after.at) (sym e) (rest-place reader leaf size turn within lines closer.end tail.following w (omega arith))
  shape_place s closer w asked o (ToReference label os taken named link_type found h t n some l e) = subst (λ (x : Outcome). Place x.after.at) (sym e) (after_place closer named.resume w n.passes)
  shape_place s closer w asked o (ToFootnote label os taken name h t on e) = subst (λ (x : Outcome). Place x.after.at) (sym e) w
  shape_place s closer w asked o (ToWiki label os first far h t on next touched e) = subst (λ (x : Outcome). Place x.after.at) (sym e) (second closer w next)

  record Comes (closer : Bracket) (o : Outcome) : Type 0 where
    pub reached : Place o.after.at
    pub display : DisplayResult reader closer o.result

  comes : (s : State) (closer : Bracket) → Place closer.end → Always (Comes closer) (decide reader leaf s closer)
  comes s closer w = always-by reader leaf s closer (Comes closer) (λ asked o h. record { reached = shape_place s closer w asked o h; display = shape_display reader leaf s closer asked o h })

  -- ## Readings

  abbrev UncutItem : Item → Type 0
  UncutItem x = Uncut reader leaf size turn within lines x.kind x.start x.end

  -- no line ends in a bracket that is a text
  abbrev pub AreRead : Parts → Type 0
  AreRead Nil = Unit {0}
  AreRead (Single x after) = AreRead after
  AreRead (Form opener inside closer formed after) = AreRead inside × AreRead after
  AreRead (Closing closer after) = HaveContent reader leaf size turn within lines closer.start closer.end × AreRead after
  AreRead (Opening opener after) = HaveContent reader leaf size turn within lines opener.start opener.end × AreRead after

  pub record Reached (parts : Parts) (t : State) : Type 0 where
    pub place : Place t.at
    pub items : OfItems UncutItem parts
    pub pipes : HavePipes reader parts
    pub read : AreRead parts

  pub reading-reaches : (Says : Saying) (s : State) (parts : Parts) (t : State) → Place s.at → Reads (token reader leaf) (decide reader leaf) Says s parts t → Reached parts t
  reading-reaches Says s Nil t w h = record { place = subst (λ (x : State). Place x.at) (sym h) w; items = tt; pipes = tt; read = tt }
  reading-reaches Says s (Single item after) t w h =
      let k = subst (Sits reader leaf size turn within lines) h.1 (token-sits reader leaf size turn within lines s.at w) in
      let i = reading-reaches Says (moved h.0 s) after t k.0 h.2 in
      record { place = i.place; items = (k.1, i.items); pipes = i.pipes; read = i.read }
  reading-reaches Says s (Form opener inside closer formed after) t w h =
      let k = subst (Sits reader leaf size turn within lines) h.opens (token-sits reader leaf size turn within lines s.at w) in
      let i = reading-reaches Says (opened opener s) inside h.until k.0 h.inside in
      let c = subst (Sits reader leaf size turn within lines) h.closes (token-sits reader leaf size turn within lines h.until.at i.place) in
      let o = always-comes (Comes closer) Says h.until.asked (decide reader leaf h.until closer) (record { result = Forms (openings inside) formed; after = h.next }) (comes h.until closer c.0) h.comes in
      let j = reading-reaches Says h.next after t o.reached h.after in
      record { place = j.place; items = (i.items, j.items); pipes = (o.display, i.pipes, j.pipes); read = (i.read, j.read) }
  reading-reaches Says s (Closing closer after) t w h =
      let c = subst (Sits reader leaf size turn within lines) h.closes (token-sits reader leaf size turn within lines s.at w) in
      let o = always-comes (Comes closer) Says s.asked (decide reader leaf s closer) (record { result = StaysText; after = h.next }) (comes s closer c.0) h.comes in
      let j = reading-reaches Says h.next after t o.reached h.after in
      record { place = j.place; items = j.items; pipes = j.pipes; read = (c.1, j.read) }
  reading-reaches Says s (Opening opener after) t w h =
      let k = subst (Sits reader leaf size turn within lines) h.0 (token-sits reader leaf size turn within lines s.at w) in
      let i = reading-reaches Says (opened opener s) after t k.0 h.1 in
      record { place = i.place; items = i.items; pipes = i.pipes; read = (k.1, i.read) }
