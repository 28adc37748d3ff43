-- If the source is UTF-8, the parts of a leaf, and the constructs that brackets form, begin and end at character boundaries.
use Rattle.std.specs.Prelude.{suc, zero, ◌==◌, get_or, drop, IsUtf8}
use Rattle.std.proofs.Common.{◌≡◌, inl, inr, ◌<◌, ◌+◌, ℕ, true, List, [], ◌∷◌, length, Some, refl, sym, ap, ◌∙◌, subst, arith, length-drop, drop-drop, eqb-true}
use Rattle.std.proofs.lemmas.List.{get_or-drop}
use Rattle.cmark_grammar.specs.BracketDecisions.{following, decide, place as place_of_rest}
use Rattle.cmark_grammar.specs.BracketReading.{Reads}
use Rattle.cmark_grammar.specs.BracketStates.{Opener, State, moved, new_opener, opened, Result, StaysText, Forms, Outcome}
use Rattle.cmark_grammar.specs.InlineTokens.{from, token}
use Rattle.cmark_grammar.specs.Items.{Bracket, Item}
use Rattle.cmark_grammar.specs.LeafText.{Leaf}
use Rattle.cmark_grammar.specs.Letters.{first_is}
use Rattle.cmark_grammar.specs.Lines.{is_content}
use Rattle.cmark_grammar.specs.LinkTails.{LinkTail, link_tail_in}
use Rattle.cmark_grammar.specs.Parts.{Formed, Linking, Footnote, Wiki, Parts, Nil, Single, Form, Closing, Opening, openings}
use Rattle.cmark_grammar.specs.Questions.{Saying}
use Rattle.cmark_grammar.specs.Readers.{Reader}
use Rattle.cmark_inline_model.specs.NestedLinks.{Persist}
use Rattle.cmark_inline_model.specs.PlacedLeaves.{IsPlaced}
use Rattle.cmark_inline_model.specs.Progress.{Always}
use Rattle.cmark_inline_model.specs.TextPlaces.{place_in, text_of}
use Rattle.cmark_inline_model.proofs.DecisionLaws.{always-by, decide-apart}
use Rattle.cmark_inline_model.proofs.DecisionShape.{IsPlace, Shape, Stays, ToInline, ToReference, ToFootnote, ToWiki}
use Rattle.cmark_inline_model.proofs.FindRests.{IsAfter}
use Rattle.cmark_inline_model.proofs.LinkNesting.{always-comes, reading-nests}
use Rattle.cmark_inline_model.proofs.LinkRests.{link_tail-following}
use Rattle.cmark_inline_model.proofs.PlacedTokens.{from-place}
use Rattle.cmark_inline_model.proofs.SourceEdges as edges
use Rattle.cmark_inline_model.proofs.SourceEdges.{AreEdges}
use Rattle.cmark_inline_model.proofs.TextEdges as texts

module _ (reader : Reader) (leaf : Leaf) (at : IsPlaced reader leaf) (utf8 : IsUtf8 reader.source) (ends : AreEdges reader.source leaf.stretches) where
  abbrev Edge : ℕ → Type 0
  Edge p = edges.Edge reader leaf at utf8 ends p

  abbrev At : ℕ → Type 0
  At p = edges.At reader leaf at utf8 ends p

  abbrev Good : Bracket → Type 0
  Good b = edges.Good reader leaf at utf8 ends b

  abbrev pub Bytes : Item → Type 0
  Bytes x = edges.Bytes reader leaf at utf8 ends x.kind x.start x.end

  -- ## Opening brackets

  abbrev AreGood : List Opener → Type 0
  AreGood [] = Unit {0}
  AreGood (o ∷ os) = Good o.bracket × AreGood os

  good-persist : (old new : List Opener) → Persist old new → AreGood old → AreGood new
  good-persist [] new p h = subst AreGood (sym p) tt
  good-persist (o ∷ os) [] p h = absurd p
  good-persist (o ∷ os) (n ∷ ns) p h = (subst Good (sym p.0) h.0, good-persist os ns p.2 h.1)

  good-drop : (n : ℕ) (os : List Opener) → AreGood os → AreGood (drop n os)
  good-drop zero os h = h
  good-drop (suc n) [] h = tt
  good-drop (suc n) (o ∷ os) h = good-drop n os h.1

  good-there : (n : ℕ) (os : List Opener) (o : Opener) (more : List Opener) → AreGood os → drop n os ≡ o ∷ more → Good o.bracket
  good-there n os o more h e = let k = subst AreGood e (good-drop n os h) in k.0

  -- ## Following a closing bracket

  rest-at : (p : ℕ) → At p → (rest : List ℕ) → IsAfter (following reader leaf p) rest → At (place_of_rest reader leaf rest)
  rest-at p a rest b =
      let text = text_of reader leaf in
      let here : following reader leaf p ≡ drop a.k text = ap (from reader leaf) a.is ∙ from-place reader leaf text (place_in reader leaf) at.places a.k a.within in
      let i = b.inside in
      let n = ap length here in
      let d = length-drop a.k text in
      let byte : get_or text (a.k + b.place) 0 ≡ get_or (following reader leaf p) b.place 0 = sym (get_or-drop a.k text b.place 0) ∙ ap (λ l. get_or l b.place 0) (sym here) in
      let rest_is : rest ≡ drop (a.k + suc b.place) text = b.rest ∙ ap (drop (suc b.place)) here ∙ drop-drop (suc b.place) a.k text in
      let w : suc (a.k + b.place) ≡ a.k + suc b.place = omega arith in
      record {
        k = a.k + suc b.place;
        within = omega arith;
        edge = subst (λ j. edges.TextEdge reader leaf at utf8 ends j) w
            (texts.following-ascii reader.options reader.lookup leaf.is_cell text (edges.whole-text reader leaf at utf8 ends) (a.k + b.place) (omega arith, subst (λ c. c < 128) (sym byte) b.ascii));
        is = ap (place_of_rest reader leaf) rest_is;
      }

  place-at : (closer : Bracket) (p : ℕ) → At closer.end → IsPlace reader leaf closer p → At p
  place-at closer p a (inl e) = subst At (sym e) a
  place-at closer p a (inr r) = subst At (sym r.2) (rest-at closer.end a r.0 r.3)

  tail-following : (bs : List ℕ) (tail : LinkTail) → link_tail_in bs ≡ Some tail → IsAfter bs tail.following
  tail-following bs tail e = grind (arith, link_tail-following)

  -- the second of two closing brackets
  second-at : (p : ℕ) → At p → first_is (λ b. b == 93) (following reader leaf p) ≡ true → At (suc p)
  second-at p a e =
      let text = text_of reader leaf in
      let here : following reader leaf p ≡ drop a.k text = ap (from reader leaf) a.is ∙ from-place reader leaf text (place_in reader leaf) at.places a.k a.within in
      go (drop a.k text) refl (subst (λ l. first_is (λ b. b == 93) l ≡ true) here e)
    where
      go : (l : List ℕ) → drop a.k (text_of reader leaf) ≡ l → first_is (λ b. b == 93) l ≡ true → At (suc p)
      go [] f x = cc
      go (b ∷ bs) f x =
          let text = text_of reader leaf in
          let z = eqb-true b 93 x in
          let n = ap length f in
          let d = length-drop a.k text in
          let byte : get_or text a.k 0 ≡ 93 = ap (λ j. get_or text j 0) (let q : a.k ≡ a.k + 0 = omega arith in q) ∙ sym (get_or-drop a.k text 0 0) ∙ ap (λ l. get_or l 0 0) f ∙ z in
          let next = at.places.places.next a.k (omega arith) (ap is_content byte) in
          record {
            k = suc a.k;
            within = omega arith;
            edge = texts.following-ascii reader.options reader.lookup leaf.is_cell text (edges.whole-text reader leaf at utf8 ends) a.k (omega arith, omega arith);
            is = ap suc a.is ∙ sym next;
          }

  -- a construct ends at a character boundary; so does a wikilink's second opening bracket
  abbrev FormedEdges : (opener : Bracket) → Formed → Type 0
  FormedEdges opener (Linking target) = Edge target.end
  FormedEdges opener (Footnote label end) = Edge end
  FormedEdges opener (Wiki name display end) = Edge end × Edge (suc opener.end)

  abbrev ResultEdges : List Opener → Result → Type 0
  ResultEdges openers StaysText = Unit {0}
  ResultEdges openers (Forms nearer formed) = (taken : Opener) (before : List Opener) → drop nearer openers ≡ taken ∷ before → FormedEdges taken.bracket formed

  record Closed (openers : List Opener) (o : Outcome) : Type 0 where
    there : At o.after.at
    result : ResultEdges openers o.result

  same-taken : (n : ℕ) (os : List Opener) (o p : Opener) (a b : List Opener) → drop n os ≡ o ∷ a → drop n os ≡ p ∷ b → o ≡ p
  same-taken n os o p a b e f = let g : o ∷ a ≡ p ∷ b = sym e ∙ f in cc

  shape-closed : (s : State) (closer : Bracket) → At closer.end → AreGood s.openers → (asked : List _) (o : Outcome) → Shape reader leaf s closer asked o → Closed s.openers o
  shape-closed s closer a g asked o (Stays label os h e) = subst (Closed s.openers) (sym e) (record { there = a; result = tt })
  shape-closed s closer a g asked o (ToInline label os taken tail h t found e) =
      let p = rest-at closer.end a tail.following (tail-following (following reader leaf closer.end) tail found) in
      subst (Closed s.openers) (sym e) (record { there = p; result = λ taken before f. edges.at-edge reader leaf at utf8 ends (place_of_rest reader leaf tail.following) p })
  shape-closed s closer a g asked o (ToReference label os taken named link_type found h t n some l e) =
      let p = place-at closer named.end a n.ends in
      let q = place-at closer named.resume a n.passes in
      subst (Closed s.openers) (sym e) (record { there = q; result = λ taken before f. edges.at-edge reader leaf at utf8 ends named.end p })
  shape-closed s closer a g asked o (ToFootnote label os taken name h t on e) =
      subst (Closed s.openers) (sym e) (record { there = a; result = λ taken before f. edges.at-edge reader leaf at utf8 ends closer.end a })
  shape-closed s closer a g asked o (ToWiki label os first far h t on next touched e) =
      let p = second-at closer.end a next in
      subst (Closed s.openers) (sym e) (record { there = p; result = λ taken before f. (edges.at-edge reader leaf at utf8 ends (suc closer.end) p, name taken before f) })
    where
      second : Edge (suc first.opener.bracket.end)
      second =
          let b = good-there touched.n s.openers touched.second touched.before g touched.there in
          let e = b.short touched.link in
          subst Edge (e ∙ ap suc touched.start) b.ends

      name : (taken : Opener) (before : List Opener) → drop first.nearer s.openers ≡ taken ∷ before → Edge (suc taken.bracket.end)
      name taken before f = grind (arith, same-taken, second)

  closed : (s : State) (closer : Bracket) → At closer.end → AreGood s.openers → Always (Closed s.openers) (decide reader leaf s closer)
  closed s closer a g = always-by reader leaf s closer (Closed s.openers) (shape-closed s closer a g)

  -- ## Readings

  abbrev pub PartsEdged : Parts → Type 0
  PartsEdged Nil = Unit {0}
  PartsEdged (Single x after) = Edge x.start × Edge x.end × Bytes x × PartsEdged after
  PartsEdged (Form opener inside closer formed after) = Good opener × Edge closer.start × FormedEdges opener formed × PartsEdged inside × PartsEdged after
  PartsEdged (Closing closer after) = Edge closer.start × Edge closer.end × PartsEdged after
  PartsEdged (Opening opener after) = Edge opener.start × Edge opener.end × PartsEdged after

  pub record Edged (parts : Parts) (t : State) : Type 0 where
    pub there : At t.at
    pub openers : AreGood t.openers
    pub parts_are : PartsEdged parts

  module _ (Says : Saying) where
    -- the openers after a decision are among those before it
    kept : (s : State) (openers : List Opener) (t : State) → Persist openers t.openers → AreGood openers → AreGood t.openers
    kept s openers t p g = good-persist openers t.openers p g

    pub reading-edged : (s : State) (parts : Parts) (t : State) → At s.at → AreGood s.openers → Reads (token reader leaf) (decide reader leaf) Says s parts t → Edged parts t
    reading-edged s Nil t a g h = record { there = subst (λ (x : State). At x.at) (sym h) a; openers = subst (λ (x : State). AreGood x.openers) (sym h) g; parts_are = tt }
    reading-edged s (Single x after) t a g h =
        let w = subst (λ k. edges.Whole reader leaf at utf8 ends k) h.1 (edges.token-whole reader leaf at utf8 ends s.at a) in
        let k = reading-edged (moved h.0 s) after t w.2 g h.2 in
        record { there = k.there; openers = k.openers; parts_are = (w.0, w.1, w.3, k.parts_are) }
    reading-edged s (Opening opener after) t a g h =
        let w = subst (λ k. edges.Whole reader leaf at utf8 ends k) h.0 (edges.token-whole reader leaf at utf8 ends s.at a) in
        let k = reading-edged (opened opener s) after t w.1 (w.0, g) h.1 in
        record { there = k.there; openers = k.openers; parts_are = (w.0.starts, w.0.ends, k.parts_are) }
    reading-edged s (Closing closer after) t a g h =
        let w = subst (λ k. edges.Whole reader leaf at utf8 ends k) h.closes (edges.token-whole reader leaf at utf8 ends s.at a) in
        let o : Outcome = record { result = StaysText; after = h.next } in
        let c = always-comes (Closed s.openers) Says s.asked (decide reader leaf s closer) o (closed s closer w.2 g) h.comes in
        let p = always-comes _ Says s.asked (decide reader leaf s closer) o ((decide-apart reader leaf).keeps s closer) h.comes in
        let k = reading-edged h.next after t c.there (good-persist s.openers h.next.openers p g) h.after in
        record { there = k.there; openers = k.openers; parts_are = (w.0, w.1, k.parts_are) }
    reading-edged s (Form opener inside closer formed after) t a g h =
        let w = subst (λ k. edges.Whole reader leaf at utf8 ends k) h.opens (edges.token-whole reader leaf at utf8 ends s.at a) in
        let i = reading-edged (opened opener s) inside h.until w.1 (w.0, g) h.inside in
        let v = subst (λ k. edges.Whole reader leaf at utf8 ends k) h.closes (edges.token-whole reader leaf at utf8 ends h.until.at i.there) in
        let o : Outcome = record { result = Forms (openings inside) formed; after = h.next } in
        let c = always-comes (Closed h.until.openers) Says h.until.asked (decide reader leaf h.until closer) o (closed h.until closer v.2 i.openers) h.comes in
        let p = always-comes _ Says h.until.asked (decide reader leaf h.until closer) o ((decide-apart reader leaf).keeps h.until closer) h.comes in
        let n = reading-nests (token reader leaf) (decide reader leaf) Says (decide-apart reader leaf) (opened opener s) inside h.until h.inside in
        let d = taken (drop (openings inside) h.until.openers) refl n.persist in
        let q = p d.0 d.1 d.2 in
        let k = reading-edged h.next after t c.there (good-persist d.1 h.next.openers q.persist (following-taken d.0 d.1 d.2 i.openers)) h.after in
        record { there = k.there; openers = k.openers; parts_are = (w.0, v.0, subst (λ b. FormedEdges b formed) d.3 (c.result d.0 d.1 d.2), i.parts_are, k.parts_are) }
      where
        taken : (l : List Opener) → drop (openings inside) h.until.openers ≡ l → Persist (new_opener opener ∷ s.openers) l
            → (o : Opener) × (more : List Opener) × (drop (openings inside) h.until.openers ≡ o ∷ more) × (o.bracket ≡ opener)
        taken [] e p = absurd p
        taken (o ∷ more) e p = (o, more, e, p.0)

        following-taken : (o : Opener) (more : List Opener) → drop (openings inside) h.until.openers ≡ o ∷ more → AreGood h.until.openers → AreGood more
        following-taken o more e g = let k = subst AreGood e (good-drop (openings inside) h.until.openers g) in k.1
