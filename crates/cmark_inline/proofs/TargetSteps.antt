-- The effect of a closing bracket with the opening one that it takes, in the code and in the grammar.
use Rattle.std.specs.Prelude.{if◌then◌else◌, nat_lt, not, ◌&&◌, ◌||◌, drop, take, map, Option, Some, None, is_some, option_map}
use Rattle.std.proofs.Common.{◌≡◌, ℕ, suc, ◌+◌, ◌-◌, ◌<◌, ◌≤◌, ◌==◌, Bool, true, false, true≢false, List, [], ◌∷◌, length, get_or, refl, sym, ap, subst, ◌∙◌, arith, length-drop, eqb-true}
use Rattle.std.proofs.lemmas.Bool.{eq-eqb, ne_eqb, eqb-false, ltb-true, ltb-false}
use Rattle.cmark_grammar.specs.Answers.{Lookup}
use Rattle.cmark_grammar.specs.BracketDecisions as decisions
use Rattle.cmark_grammar.specs.BracketDecisions.{or_empty, is_there, link_or, reference_or, by_own_label, refers, footnote_reference, forms, stays, links, between, inline_link, Named}
use Rattle.cmark_grammar.specs.BracketStates.{State, Decision, Settled}
use Rattle.cmark_grammar.specs.InlineTokens.{from}
use Rattle.cmark_grammar.specs.Items as items
use Rattle.cmark_grammar.specs.Labels.{fold, normal_form}
use Rattle.cmark_grammar.specs.LabelsOverLines.{as_in_cell}
use Rattle.cmark_grammar.specs.LeafText.{Leaf}
use Rattle.cmark_grammar.specs.Lines.{is_content}
use Rattle.cmark_grammar.specs.LinkDefinitions.{Parsed}
use Rattle.cmark_grammar.specs.LinkTails.{LinkTail, link_tail_in, reference_label_in, after_collapsed, is_bracketed_label}
use Rattle.cmark_grammar.specs.LinkType as link
use Rattle.cmark_grammar.specs.OpenBrackets.{Taken, dropped}
use Rattle.cmark_grammar.specs.Options.{Options}
use Rattle.cmark_grammar.specs.Parts.{Footnote}
use Rattle.cmark_grammar.specs.Readers.{Reader}
use Rattle.cmark_grammar.specs.Tokens.{slice, title_lines}
use Rattle.cmark_grammar.specs.Unescaped.{unescaped}
use Rattle.cmark_references.specs.Footnotes.{footnote}
use Rattle.cmark_references.specs.declared.footnotes.FootnoteDefs.{FootnoteDefs}
use Rattle.cmark_values.specs.Shown.{shown_link_type, text_bytes}
use Rattle.cmark_inline_model.specs.TextPlaces.{ArePlaces}
use Rattle.cmark_references.specs.Links.{shown_link}
use Rattle.cmark_inline.specs.Decided.{IsCloser, EndsWithin, is_full, target_outcome}
use Rattle.cmark_inline.specs.Footnoted.{labels, no_leaf, as_label, is_footnote_label, footnote_label, footnote_after, unless_footnote, is_accepted, forms_footnote}
use Rattle.cmark_inline.specs.Linked as linked
use Rattle.cmark_inline.specs.Linked.{InlineLink, Reference, shown_target, shown_link_reference, reference_after, full_or_own, collapsed_or_shortcut}
use Rattle.cmark_inline.specs.BracketViews.{IsPlaced}
use Rattle.cmark_slots.specs.declared.bracket.Bracket.{Bracket}
use Rattle.cmark_inline.specs.declared.reference.LinkReference.{LinkReference}
use Rattle.cmark_inline.specs.declared.link.Target.{Target}
use Rattle.cmark_inline.proofs.LabelEnds.{label-ends}

-- ## Labels of footnotes

one_line_same : (reader other : Reader) (leaf other_leaf : Leaf) (bs : List ℕ) → decisions.is_one_line reader leaf bs ≡ decisions.is_one_line other other_leaf bs
one_line_same reader other leaf other_leaf [] = refl
one_line_same reader other leaf other_leaf (b ∷ bs) = ap (λ z. is_content b && z) (one_line_same reader other leaf other_leaf bs)

own_options : (reader : Reader) (leaf : Leaf) (bs : List ℕ) → decisions.is_footnote_label reader leaf bs ≡ is_footnote_label reader.options bs
own_options reader leaf [] = refl
own_options reader leaf (b ∷ bs) =
    ap (λ z. reader.options.footnotes && ((b == 94) && (is_bracketed_label bs && (reader.options.old_footnotes || z)))) (one_line_same reader (labels reader.options) leaf no_leaf bs)

pub footnote-label-same : (reader : Reader) (leaf : Leaf) (options : Options) (bs : List ℕ) → reader.options ≡ options → decisions.is_footnote_label reader leaf bs ≡ is_footnote_label options bs
footnote-label-same reader leaf options bs e = own_options reader leaf bs ∙ ap (λ o. is_footnote_label o bs) e

pub unless-same : (reader : Reader) (leaf : Leaf) (options : Options) (found : Option Parsed) → reader.options ≡ options → decisions.unless_footnote reader leaf found ≡ unless_footnote options found
unless-same reader leaf options None e = refl
unless-same reader leaf options (Some found) e = ap (λ z. if z then None else Some found) (footnote-label-same reader leaf options found.bytes e)

-- ## The text at a closing bracket

module _ (reader : Reader) (leaf : Leaf) (text : List ℕ) (place : ℕ → ℕ) (p : ArePlaces reader leaf text place) where
  pub next-of : (k b : ℕ) → k < length text → get_or text k 0 ≡ b → is_content b ≡ true → place (k + 1) ≡ suc (place k)
  next-of k b lt e content = ap place (let q : k + 1 ≡ suc k = omega arith in q) ∙ p.next k lt (ap is_content e ∙ content)

  pub closer-end : (close : ℕ) (closer : items.Bracket) → IsCloser text place close closer → closer.end ≡ place (close + 1)
  closer-end close closer c = c.end ∙ sym (next-of close 93 c.within c.byte refl)

  pub following-is : (close : ℕ) (closer : items.Bracket) → IsCloser text place close closer → from reader leaf closer.end ≡ drop (close + 1) text
  following-is close closer c = ap (from reader leaf) (closer-end close closer c) ∙ p.rest (close + 1) (let w = c.within in let q : close + 1 ≤ length text = omega (arith, w) in q)

  pub between-is : (close : ℕ) (closer : items.Bracket) (b : Bracket) (end : ℕ) → IsCloser text place close closer → end ≡ place b.inside → b.inside ≤ close → between reader leaf end closer.start ≡ slice text b.inside close
  between-is close closer b end c e before =
      let w = c.within in
      let here : from reader leaf end ≡ drop b.inside text = ap (from reader leaf) e ∙ p.rest b.inside (let q : b.inside ≤ length text = omega (arith, w, before) in q) in
      let there : from reader leaf closer.start ≡ drop close text = ap (from reader leaf) c.start ∙ p.rest close (let q : close ≤ length text = omega (arith, w) in q) in
      let x = length-drop b.inside text in
      let y = length-drop close text in
      ap (λ l. take (length l - length (from reader leaf closer.start)) l) here
      ∙ ap (λ l. take (length (drop b.inside text) - length l) (drop b.inside text)) there
      ∙ ap (λ n. take n (drop b.inside text)) (let q : length (drop b.inside text) - length (drop close text) ≡ close - b.inside = omega (arith, x, y, w, before) in q)

  -- two offsets with one place are equal
  pub one-place : (j k : ℕ) → j ≤ length text → k ≤ length text → place j ≡ place k → j ≡ k
  one-place j k jw kw e = go (nat_lt j k) refl (nat_lt k j) refl
    where
      go : (y : Bool) → nat_lt j k ≡ y → (z : Bool) → nat_lt k j ≡ z → j ≡ k
      go true f z g = absurd (let l = p.order j k (ltb-true j k f) kw in omega (arith, l, e))
      go false f true g = absurd (let l = p.order k j (ltb-true k j g) jw in omega (arith, l, e))
      go false f false g = let a = ltb-false j k f in let b = ltb-false k j g in omega (arith, a, b)

  -- whether the closing bracket ends a remembered label
  pub there-same : (close at : ℕ) (label_close label : Option ℕ) → close ≤ length text → EndsWithin text label_close → at ≡ place close → label ≡ option_map place label_close → is_there at label ≡ is_there close label_close
  there-same close at None label w i e h = ap (is_there at) h
  there-same close at (Some other) label w i e h = ap (is_there at) h ∙ ap (λ m. m == place other) e ∙ go (close == other) refl
    where
      go : (z : Bool) → (close == other) ≡ z → (place close == place other) ≡ z
      go true q = eq-eqb (place close) (place other) (ap place (eqb-true close other q))
      go false q = ne_eqb (place close) (place other) (λ s. eqb-false close other q (one-place close other w i s))

-- ## The reference at a closing bracket

-- a reference in the form of the grammar
abbrev pub named : (place : ℕ → ℕ) → (is_cell : Bool) → LinkReference → Named
named place is_cell link_reference = record { label = as_label is_cell link_reference.label.now; link_type = shown_link_type link_reference.link_type; end = place link_reference.end; resume = place link_reference.resume }

-- the remembered closing bracket of a full reference's label
abbrev pub label_after : (place : ℕ → ℕ) → LinkReference → Option ℕ → Option ℕ
label_after place link_reference label = if is_full (shown_link_type link_reference.link_type) then Some (place (link_reference.end - 1)) else label

abbrev pub with_label : Option ℕ → State → State
with_label label s = record { at = s.at; expansion_left = s.expansion_left; label_close = label; asked = s.asked; openers = s.openers }

module _ (options : Options) (is_cell : Bool) (reader : Reader) (leaf : Leaf) (text : List ℕ) (place : ℕ → ℕ) (p : ArePlaces reader leaf text place) (opts : reader.options ≡ options) (cell : leaf.is_cell ≡ is_cell)
    (close : ℕ) (closer : items.Bracket) (c : IsCloser text place close closer) (taken : Taken) (b : Bracket) (is : IsPlaced place taken.opener b) (before : b.inside ≤ close) where
  abbrev label : List ℕ
  label = slice text b.inside close

  abbrev rest : List ℕ
  rest = drop (close + 1) text

  label_is : (bytes : List ℕ) → decisions.as_label reader leaf bytes ≡ as_label is_cell bytes
  label_is bytes = ap (λ z. (as_in_cell z (record { bytes = bytes; following = [] })).bytes) cell

  own_text : between reader leaf taken.opener.bracket.end closer.start ≡ label
  own_text = between-is reader leaf text place p close closer b taken.opener.bracket.end c (ap (λ (x : items.Bracket). x.end) is.bracket) before

  place_end : (end : ℕ) (following : List ℕ) → end ≤ length text → drop end text ≡ following → decisions.place reader leaf following ≡ place end
  place_end end following le e = ap (decisions.place reader leaf) (sym e) ∙ p.ends end le

  closer_place : closer.end ≡ place (close + 1)
  closer_place = closer-end reader leaf text place p close closer c

  same_named : (l m : List ℕ) (t u : link.LinkType) (e f g h : ℕ) (s : State) → l ≡ m → t ≡ u → e ≡ f → g ≡ h
      → refers reader leaf (record { label = l; link_type = t; end = e; resume = g }) taken closer s ≡ refers reader leaf (record { label = m; link_type = u; end = f; resume = h }) taken closer s
  same_named l m t u e f g h s a i j k =
      ap (λ z. refers reader leaf (record { label = z; link_type = t; end = e; resume = g }) taken closer s) a
      ∙ ap (λ z. refers reader leaf (record { label = m; link_type = z; end = e; resume = g }) taken closer s) i
      ∙ ap (λ z. refers reader leaf (record { label = m; link_type = u; end = z; resume = g }) taken closer s) j
      ∙ ap (λ z. refers reader leaf (record { label = m; link_type = u; end = f; resume = z }) taken closer s) k

  -- the last byte of the reference is a closing bracket
  pub record EndsSo (a : LinkReference) : Type 0 where
    pub some : 0 < a.end
    pub byte : get_or text (a.end - 1) 0 ≡ 93

  pub record IsNamed (found : Option Parsed) (s : State) (a : LinkReference) : Type 0 where
    pub same : reference_or reader leaf found taken closer s ≡ refers reader leaf (named place is_cell a) taken closer (with_label (label_after place a s.label_close) s)
    pub ends : EndsSo a

  full : (found : Parsed) (s : State) (a : LinkReference) → reference_label_in rest ≡ Some found → a.end ≤ length text → a.resume ≤ length text
      → shown_link_reference text a ≡ record { label = found.bytes; form = link.Reference; following = found.following; resume = found.following } → IsNamed (Some found) s a
  full found s a e lend lresume shown =
      let bytes = ap (λ (x : Reference). x.label) shown in
      let form = ap (λ (x : Reference). x.form) shown in
      let ending = ap (λ (x : Reference). x.following) shown in
      let resume = ap (λ (x : Reference). x.resume) shown in
      let closes = label-ends text (close + 1) a.end found e (sym ending) lend in
      let pos = closes.0 in
      let end = place_end a.end found.following lend ending in
      let last : place a.end - 1 ≡ place (a.end - 1) =
      (let n = next-of reader leaf text place p (a.end - 1) 93 (let q : a.end - 1 < length text = omega (arith, pos, lend) in q) closes.1 refl in
      let m : a.end - 1 + 1 ≡ a.end = omega (arith, pos) in
      let o : place a.end ≡ suc (place (a.end - 1)) = ap place (sym m) ∙ n in
      omega (arith, o)) in
      record {
        same = same_named (decisions.as_label reader leaf found.bytes) (as_label is_cell a.label.now) link.Reference (shown_link_type a.link_type) (decisions.place reader leaf found.following) (place a.end) (decisions.place reader leaf found.following) (place a.resume)
            (record s { label_close = Some (decisions.place reader leaf found.following - 1) })
            (label_is found.bytes ∙ ap (as_label is_cell) (sym bytes)) (sym form) end (place_end a.resume found.following lresume resume)
            ∙ ap (λ m. refers reader leaf (named place is_cell a) taken closer (with_label (Some (m - 1)) s)) end
            ∙ ap (λ m. refers reader leaf (named place is_cell a) taken closer (with_label (Some m) s)) last
            ∙ ap (λ z. refers reader leaf (named place is_cell a) taken closer (with_label (if is_full z then Some (place (a.end - 1)) else s.label_close) s)) (sym form);
        ends = record { some = pos; byte = closes.1 };
      }

  own : (s : State) (a : LinkReference) (resume : Option (List ℕ)) → a.end ≤ length text → a.resume ≤ length text → shown_link_reference text a ≡ collapsed_or_shortcut label rest resume
      → (refers reader leaf (decisions.collapsed_or_shortcut reader leaf (decisions.as_label reader leaf label) closer.end resume) taken closer s ≡ refers reader leaf (named place is_cell a) taken closer (with_label (label_after place a s.label_close) s)) × EndsSo a
  own s a resume lend lresume shown = go resume shown
    where
      at : (f : link.LinkType) (following : List ℕ) → a.end ≤ length text → shown_link_reference text a ≡ record { label = label; form = f; following = rest; resume = following } → (place a.end ≡ closer.end) × EndsSo a
      at f following lend shown =
          let w = c.within in
          let ending = ap (λ (x : Reference). x.following) shown in
          let d1 = length-drop a.end text in
          let d2 = length-drop (close + 1) text in
          let l = ap length ending in
          let n : a.end ≡ close + 1 = omega (arith, d1, d2, l, w, lend) in
          (ap place n ∙ sym closer_place, record { some = (let q : 0 < a.end = omega (arith, n) in q); byte = ap (λ k. get_or text k 0) (let q : a.end - 1 ≡ close = omega (arith, n) in q) ∙ c.byte })

      go : (resume : Option (List ℕ)) → shown_link_reference text a ≡ collapsed_or_shortcut label rest resume
          → (refers reader leaf (decisions.collapsed_or_shortcut reader leaf (decisions.as_label reader leaf label) closer.end resume) taken closer s ≡ refers reader leaf (named place is_cell a) taken closer (with_label (label_after place a s.label_close) s)) × EndsSo a
      go None shown =
          let h = at link.Shortcut rest lend shown in
          let form = ap (λ (x : Reference). x.form) shown in (
            same_named (decisions.as_label reader leaf label) (as_label is_cell a.label.now) link.Shortcut (shown_link_type a.link_type) closer.end (place a.end) closer.end (place a.resume) s
                (label_is label ∙ ap (λ (x : Reference). as_label is_cell x.label) (sym shown)) (sym form) (sym h.0)
                (sym (sym (place_end a.resume rest lresume (ap (λ (x : Reference). x.resume) shown)) ∙ place_end (close + 1) rest (let w = c.within in let q : close + 1 ≤ length text = omega (arith, w) in q) refl ∙ sym closer_place))
                ∙ ap (λ z. refers reader leaf (named place is_cell a) taken closer (with_label (if is_full z then Some (place (a.end - 1)) else s.label_close) s)) (sym form),
            h.1,
          )
      go (Some more) shown =
          let h = at link.Collapsed more lend shown in
          let form = ap (λ (x : Reference). x.form) shown in (
            same_named (decisions.as_label reader leaf label) (as_label is_cell a.label.now) link.Collapsed (shown_link_type a.link_type) closer.end (place a.end) (decisions.place reader leaf more) (place a.resume) s
                (label_is label ∙ ap (λ (x : Reference). as_label is_cell x.label) (sym shown)) (sym form) (sym h.0) (place_end a.resume more lresume (ap (λ (x : Reference). x.resume) shown))
                ∙ ap (λ z. refers reader leaf (named place is_cell a) taken closer (with_label (if is_full z then Some (place (a.end - 1)) else s.label_close) s)) (sym form),
            h.1,
          )

  some_is : {A : Type 0} (x y : A) → Some x ≡ Some y → x ≡ y
  some_is x y q = let z : x ≡ y = cc in z

  nothing : {A : Type 0} (x : A) → Some x ≡ None → ⊥
  nothing x q = let z : ⊥ = cc in z

  nothing_too : {A : Type 0} (x : A) → None ≡ Some x → ⊥
  nothing_too x q = let z : ⊥ = cc in z

  abbrev own_reference : Option Reference
  own_reference = linked.by_own_label options label rest

  -- the reference by the bracket's own label
  own_label : (s : State) (a : LinkReference) → a.end ≤ length text → a.resume ≤ length text → Some (shown_link_reference text a) ≡ own_reference
      → (by_own_label reader leaf label taken closer s ≡ refers reader leaf (named place is_cell a) taken closer (with_label (label_after place a s.label_close) s)) × EndsSo a
  own_label s a lend lresume shown = go (is_footnote_label options label) refl (is_bracketed_label label) refl
    where
      Goal : Bool → Bool → Type 0
      Goal x y = ((if x then footnote_reference reader leaf (decisions.as_label reader leaf (drop 1 label)) taken closer s
          else if y then refers reader leaf (decisions.collapsed_or_shortcut reader leaf (decisions.as_label reader leaf label) closer.end (after_collapsed (decisions.following reader leaf closer.end))) taken closer s
          else Settled (stays reader leaf closer s)) ≡ refers reader leaf (named place is_cell a) taken closer (with_label (label_after place a s.label_close) s)) × EndsSo a

      here : Bool → Bool → Option Reference
      here x y = if x then None else if y then Some (collapsed_or_shortcut label rest (after_collapsed rest)) else None

      go : (x : Bool) → is_footnote_label options label ≡ x → (y : Bool) → is_bracketed_label label ≡ y → (by_own_label reader leaf label taken closer s ≡ refers reader leaf (named place is_cell a) taken closer (with_label (label_after place a s.label_close) s)) × EndsSo a
      go true e y f = absurd (nothing (shown_link_reference text a) (shown ∙ ap (λ x. here x (is_bracketed_label label)) e))
      go false e false f = absurd (nothing (shown_link_reference text a) (shown ∙ ap (λ x. here x (is_bracketed_label label)) e ∙ ap (here false) f))
      go false e true f =
          let h = own s a (after_collapsed rest) lend lresume (some_is (shown_link_reference text a) (collapsed_or_shortcut label rest (after_collapsed rest)) (shown ∙ ap (λ x. here x (is_bracketed_label label)) e ∙ ap (here false) f)) in
          subst (λ x. Goal x (is_bracketed_label label)) (sym (footnote-label-same reader leaf options label opts ∙ e))
          (subst (Goal false) (sym f)
          (ap (λ l. refers reader leaf (decisions.collapsed_or_shortcut reader leaf (decisions.as_label reader leaf label) closer.end (after_collapsed l)) taken closer s) (following-is reader leaf text place p close closer c) ∙ h.0, h.1))

  -- the reference of the code is the reference of the grammar
  pub reference-named : (s : State) (closes_label : Bool) (a : LinkReference) → a.end ≤ length text → a.resume ≤ length text → is_there closer.start s.label_close ≡ closes_label
      → Some (shown_link_reference text a) ≡ reference_after options closes_label label rest
      → IsNamed (decisions.unless_footnote reader leaf (reference_label_in (decisions.following reader leaf closer.end))) s a
  reference-named s closes_label a lend lresume closes_here shown =
      subst (λ f. IsNamed f s a) (sym (ap (λ l. decisions.unless_footnote reader leaf (reference_label_in l)) (following-is reader leaf text place p close closer c) ∙ unless-same reader leaf options (reference_label_in rest) opts))
      (go (reference_label_in rest) refl shown)
    where
      kept : (found : Option Parsed) (f : Parsed) → unless_footnote options found ≡ Some f → found ≡ Some f
      kept None f e = absurd (nothing_too f e)
      kept (Some g) f e = either (is_footnote_label options g.bytes) e
        where
          either : (z : Bool) → (if z then None else Some g) ≡ Some f → Some g ≡ Some f
          either true q = absurd (nothing_too f q)
          either false q = q

      by_closes : (z : Bool) → closes_label ≡ z → Some (shown_link_reference text a) ≡ (if z then None else own_reference) → IsNamed None s a
      by_closes true e q = absurd (nothing (shown_link_reference text a) q)
      by_closes false e q =
          let h = own_label s a lend lresume q in
          record {
            same = ap (λ z. if z then Settled (stays reader leaf closer s) else by_own_label reader leaf (between reader leaf taken.opener.bracket.end closer.start) taken closer s) (closes_here ∙ e)
                ∙ ap (λ l. by_own_label reader leaf l taken closer s) own_text
                ∙ h.0;
            ends = h.1;
          }

      go : (found : Option Parsed) → reference_label_in rest ≡ found → Some (shown_link_reference text a) ≡ full_or_own options (unless_footnote options found) closes_label label rest → IsNamed (unless_footnote options found) s a
      go found e q = by (unless_footnote options found) refl q
        where
          by : (u : Option Parsed) → unless_footnote options found ≡ u → Some (shown_link_reference text a) ≡ full_or_own options u closes_label label rest → IsNamed u s a
          by None f q = by_closes closes_label refl q
          by (Some g) f q = full g s a (e ∙ kept found g f) lend lresume (some_is (shown_link_reference text a) (record { label = g.bytes; form = link.Reference; following = g.following; resume = g.following }) q)

  -- there is no reference, and the text between the brackets is no footnote reference either
  pub reference-none : (footnotes : FootnoteDefs) (s : State) (closes_label : Bool) → is_there closer.start s.label_close ≡ closes_label → ((folded : List ℕ) → reader.has_footnote folded ≡ is_some (footnote footnotes folded))
      → None ≡ reference_after options closes_label label rest → link_tail_in rest ≡ None → forms_footnote options footnotes (option_map (as_label is_cell) (footnote_after options closes_label label rest)) ≡ false
      → reference_or reader leaf (decisions.unless_footnote reader leaf (reference_label_in (decisions.following reader leaf closer.end))) taken closer s ≡ Settled (stays reader leaf closer s)
  reference-none footnotes s closes_label closes_here notes shown no_tail none =
      ap (λ f. reference_or reader leaf f taken closer s) (ap (λ l. decisions.unless_footnote reader leaf (reference_label_in l)) (following-is reader leaf text place p close closer c) ∙ unless-same reader leaf options (reference_label_in rest) opts)
      ∙ go (unless_footnote options (reference_label_in rest)) refl shown
    where
      go : (u : Option Parsed) → unless_footnote options (reference_label_in rest) ≡ u → None ≡ full_or_own options u closes_label label rest → reference_or reader leaf u taken closer s ≡ Settled (stays reader leaf closer s)
      go (Some g) e q = absurd (nothing_too (record { label = g.bytes; form = link.Reference; following = g.following; resume = g.following }) q)
      go None e q =
          ap (λ z. if z then Settled (stays reader leaf closer s) else by_own_label reader leaf (between reader leaf taken.opener.bracket.end closer.start) taken closer s) closes_here
          ∙ by_closes closes_label refl q
        where
          by_closes : (z : Bool) → closes_label ≡ z → None ≡ (if z then None else own_reference) → (if z then Settled (stays reader leaf closer s) else by_own_label reader leaf (between reader leaf taken.opener.bracket.end closer.start) taken closer s) ≡ Settled (stays reader leaf closer s)
          by_closes true f r = refl
          by_closes false f r =
              ap (λ l. by_own_label reader leaf l taken closer s) own_text
              ∙ ap (λ z. if z then footnote_reference reader leaf (decisions.as_label reader leaf (drop 1 label)) taken closer s
              else if is_bracketed_label label then refers reader leaf (decisions.collapsed_or_shortcut reader leaf (decisions.as_label reader leaf label) closer.end (after_collapsed (decisions.following reader leaf closer.end))) taken closer s
              else Settled (stays reader leaf closer s)) (footnote-label-same reader leaf options label opts)
              ∙ by_note (is_footnote_label options label) refl (is_bracketed_label label) refl
            where
              by_note : (x : Bool) → is_footnote_label options label ≡ x → (y : Bool) → is_bracketed_label label ≡ y
                  → (if x then footnote_reference reader leaf (decisions.as_label reader leaf (drop 1 label)) taken closer s
                  else if is_bracketed_label label then refers reader leaf (decisions.collapsed_or_shortcut reader leaf (decisions.as_label reader leaf label) closer.end (after_collapsed (decisions.following reader leaf closer.end))) taken closer s
                  else Settled (stays reader leaf closer s)) ≡ Settled (stays reader leaf closer s)
              by_note false h true k = absurd (nothing_too (collapsed_or_shortcut label rest (after_collapsed rest)) (r ∙ ap (λ x. if x then None else if is_bracketed_label label then Some (collapsed_or_shortcut label rest (after_collapsed rest)) else None) h ∙ ap (λ y. if y then Some (collapsed_or_shortcut label rest (after_collapsed rest)) else None) k))
              by_note false h false k = ap (λ y. if y then refers reader leaf (decisions.collapsed_or_shortcut reader leaf (decisions.as_label reader leaf label) closer.end (after_collapsed (decisions.following reader leaf closer.end))) taken closer s else Settled (stays reader leaf closer s)) k
              by_note true h y k = no_note
                where
                  note : footnote_after options closes_label label rest ≡ Some (drop 1 label)
                  note =
                      ap (λ z. if z || (is_some (link_tail_in rest) || is_some (unless_footnote options (reference_label_in rest))) then None else footnote_label options label) f
                      ∙ ap (λ t. if is_some t || is_some (unless_footnote options (reference_label_in rest)) then None else footnote_label options label) no_tail
                      ∙ ap (λ t. if is_some t then None else footnote_label options label) e
                      ∙ ap (λ z. if z then Some (drop 1 label) else None) h

                  refused : is_accepted options footnotes (as_label is_cell (drop 1 label)) ≡ false
                  refused = sym (ap (λ m. forms_footnote options footnotes (option_map (as_label is_cell) m)) note) ∙ none

                  key : List ℕ
                  key = fold (decisions.as_label reader leaf (drop 1 label))

                  no_note : footnote_reference reader leaf (decisions.as_label reader leaf (drop 1 label)) taken closer s ≡ Settled (stays reader leaf closer s)
                  no_note =
                      ap (λ z. if z then Settled (stays reader leaf closer s) else Settled (forms reader leaf taken (Footnote (normal_form (decisions.as_label reader leaf (drop 1 label))) closer.end) closer.end (map dropped) s)) (
                      ap (λ o. (o.footnotes && not o.old_footnotes) && not (reader.has_footnote key)) opts
                      ∙ ap (λ m. (options.footnotes && not options.old_footnotes) && not m) (notes key ∙ ap (λ l. is_some (footnote footnotes (fold l))) (label_is (drop 1 label)))
                      ∙ both (is_some (footnote footnotes (fold (as_label is_cell (drop 1 label))))) (options.footnotes && not options.old_footnotes) refused)
                    where
                      both : (x y : Bool) → (x || not y) ≡ false → (y && not x) ≡ true
                      both true y q = absurd (true≢false q)
                      both false true q = refl
                      both false false q = absurd (true≢false q)

  -- the text between the brackets is a footnote reference
  pub footnote-named : (footnotes : FootnoteDefs) (s : State) (closes_label : Bool) (note : List ℕ) → is_there closer.start s.label_close ≡ closes_label → ((folded : List ℕ) → reader.has_footnote folded ≡ is_some (footnote footnotes folded))
      → option_map (as_label is_cell) (footnote_after options closes_label label rest) ≡ Some note → is_accepted options footnotes note ≡ true
      → link_or reader leaf (link_tail_in (decisions.following reader leaf closer.end)) taken closer s ≡ Settled (forms reader leaf taken (Footnote (normal_form note) closer.end) closer.end (map dropped) s)
  footnote-named footnotes s closes_label note closes_here notes found accepted = go closes_label refl (link_tail_in rest) refl (unless_footnote options (reference_label_in rest)) refl (is_footnote_label options label) refl
    where
      found_by : Bool → Option LinkTail → Option Parsed → Bool → Option (List ℕ)
      found_by z t u x = option_map (as_label is_cell) (if z || (is_some t || is_some u) then None else if x then Some (drop 1 label) else None)

      goal : Decision
      goal = Settled (forms reader leaf taken (Footnote (normal_form note) closer.end) closer.end (map dropped) s)

      go : (z : Bool) → closes_label ≡ z → (t : Option LinkTail) → link_tail_in rest ≡ t → (u : Option Parsed) → unless_footnote options (reference_label_in rest) ≡ u → (x : Bool) → is_footnote_label options label ≡ x
          → link_or reader leaf (link_tail_in (decisions.following reader leaf closer.end)) taken closer s ≡ goal
      go true e t f u g x h = absurd (nothing_too note (sym (ap (λ z. found_by z (link_tail_in rest) (unless_footnote options (reference_label_in rest)) (is_footnote_label options label)) e) ∙ found))
      go false e (Some t) f u g x h = absurd (nothing_too note (sym (ap (λ z. found_by z (link_tail_in rest) (unless_footnote options (reference_label_in rest)) (is_footnote_label options label)) e ∙ ap (λ m. found_by false m (unless_footnote options (reference_label_in rest)) (is_footnote_label options label)) f) ∙ found))
      go false e None f (Some u) g x h = absurd (nothing_too note (sym (ap (λ z. found_by z (link_tail_in rest) (unless_footnote options (reference_label_in rest)) (is_footnote_label options label)) e ∙ ap (λ m. found_by false m (unless_footnote options (reference_label_in rest)) (is_footnote_label options label)) f ∙ ap (λ m. found_by false None m (is_footnote_label options label)) g) ∙ found))
      go false e None f None g false h = absurd (nothing_too note (sym (ap (λ z. found_by z (link_tail_in rest) (unless_footnote options (reference_label_in rest)) (is_footnote_label options label)) e ∙ ap (λ m. found_by false m (unless_footnote options (reference_label_in rest)) (is_footnote_label options label)) f ∙ ap (λ m. found_by false None m (is_footnote_label options label)) g ∙ ap (found_by false None None) h) ∙ found))
      go false e None f None g true h =
          ap (λ l. link_or reader leaf (link_tail_in l) taken closer s) (following-is reader leaf text place p close closer c)
          ∙ ap (λ t. link_or reader leaf t taken closer s) f
          ∙ ap (λ m. reference_or reader leaf m taken closer s) (ap (λ l. decisions.unless_footnote reader leaf (reference_label_in l)) (following-is reader leaf text place p close closer c) ∙ unless-same reader leaf options (reference_label_in rest) opts ∙ g)
          ∙ ap (λ z. if z then Settled (stays reader leaf closer s) else by_own_label reader leaf (between reader leaf taken.opener.bracket.end closer.start) taken closer s) (closes_here ∙ e)
          ∙ ap (λ l. by_own_label reader leaf l taken closer s) own_text
          ∙ ap (λ z. if z then footnote_reference reader leaf (decisions.as_label reader leaf (drop 1 label)) taken closer s
          else if is_bracketed_label label then refers reader leaf (decisions.collapsed_or_shortcut reader leaf (decisions.as_label reader leaf label) closer.end (after_collapsed (decisions.following reader leaf closer.end))) taken closer s
          else Settled (stays reader leaf closer s)) (footnote-label-same reader leaf options label opts ∙ h)
          ∙ ap (λ l. footnote_reference reader leaf l taken closer s) (label_is (drop 1 label) ∙ this)
          ∙ ap (λ z. if z then Settled (stays reader leaf closer s) else goal) (
          ap (λ o. (o.footnotes && not o.old_footnotes) && not (reader.has_footnote (fold note))) opts
          ∙ ap (λ m. (options.footnotes && not options.old_footnotes) && not m) (notes (fold note))
          ∙ both (is_some (footnote footnotes (fold note))) (options.footnotes && not options.old_footnotes) accepted)
        where
          this : as_label is_cell (drop 1 label) ≡ note
          this = some_is (as_label is_cell (drop 1 label)) note (sym (ap (λ z. found_by z (link_tail_in rest) (unless_footnote options (reference_label_in rest)) (is_footnote_label options label)) e ∙ ap (λ m. found_by false m (unless_footnote options (reference_label_in rest)) (is_footnote_label options label)) f ∙ ap (λ m. found_by false None m (is_footnote_label options label)) g ∙ ap (found_by false None None) h) ∙ found)

          both : (x y : Bool) → (x || not y) ≡ true → (y && not x) ≡ false
          both true true q = refl
          both true false q = refl
          both false true q = absurd (true≢false (sym q))
          both false false q = refl

-- ## Inline links

pub inline-named : (lookup : Lookup) (is_cell : Bool) (reader : Reader) (leaf : Leaf) (text : List ℕ) (place : ℕ → ℕ) → ArePlaces reader leaf text place → reader.lookup ≡ lookup → leaf.is_cell ≡ is_cell
    → (close : ℕ) (closer : items.Bracket) → IsCloser text place close closer → (taken : Taken) (s : State) (t : Target) → t.end ≤ length text → t.resume ≡ t.end
    → Some (shown_target text t) ≡ option_map (linked.inline_link lookup is_cell) (link_tail_in (drop (close + 1) text))
    → link_or reader leaf (link_tail_in (decisions.following reader leaf closer.end)) taken closer s ≡ Settled (target_outcome reader leaf place taken closer s (Some t))
inline-named lookup is_cell reader leaf text place p looks cell close closer c taken s t lend resume shown =
    ap (λ l. link_or reader leaf (link_tail_in l) taken closer s) (following-is reader leaf text place p close closer c) ∙ go (link_tail_in (drop (close + 1) text)) shown
  where
    go : (tail : Option LinkTail) → Some (shown_target text t) ≡ option_map (linked.inline_link lookup is_cell) tail → link_or reader leaf tail taken closer s ≡ Settled (target_outcome reader leaf place taken closer s (Some t))
    go None q = absurd (none q)
      where
        none : Some (shown_target text t) ≡ None → ⊥
        none r = let z : ⊥ = cc in z
    go (Some tail) q =
        let e : shown_target text t ≡ linked.inline_link lookup is_cell tail = one q in
        let form = ap (λ (x : InlineLink). x.form) e in
        let id = ap (λ (x : InlineLink). x.id) e in
        let destination = ap (λ (x : InlineLink). x.said.destination) e in
        let title = ap (λ (x : InlineLink). x.said.title) e in
        let following = ap (λ (x : InlineLink). x.following) e in
        let end : decisions.place reader leaf tail.following ≡ place t.end = ap (decisions.place reader leaf) (sym following) ∙ p.ends t.end lend in
        ap Settled (
        ap (λ d. links reader leaf taken (record { link_type = link.Inline; destination = d; title = unescaped reader.lookup leaf.is_cell (title_lines false (or_empty tail.title)); id = [] }) (decisions.place reader leaf tail.following) (decisions.place reader leaf tail.following) s)
        (ap (λ l. unescaped l leaf.is_cell tail.destination) looks ∙ ap (λ z. unescaped lookup z tail.destination) cell ∙ sym destination)
        ∙ ap (λ d. links reader leaf taken (record { link_type = link.Inline; destination = text_bytes t.link.dest_url; title = d; id = [] }) (decisions.place reader leaf tail.following) (decisions.place reader leaf tail.following) s)
        (ap (λ l. unescaped l leaf.is_cell (title_lines false (or_empty tail.title))) looks ∙ ap (λ z. unescaped lookup z (title_lines false (or_empty tail.title))) cell ∙ title_same tail.title ∙ sym title)
        ∙ ap (λ d. links reader leaf taken (record { link_type = link.Inline; destination = text_bytes t.link.dest_url; title = text_bytes t.link.title; id = d }) (decisions.place reader leaf tail.following) (decisions.place reader leaf tail.following) s) (sym id)
        ∙ ap (λ d. links reader leaf taken (record { link_type = d; destination = text_bytes t.link.dest_url; title = text_bytes t.link.title; id = text_bytes t.link.id }) (decisions.place reader leaf tail.following) (decisions.place reader leaf tail.following) s) (sym form)
        ∙ ap (λ n. links reader leaf taken (shown_link t.link) n n s) end
        ∙ ap (λ n. links reader leaf taken (shown_link t.link) (place t.end) (place n) s) (sym resume)
        )
      where
        one : Some (shown_target text t) ≡ Some (linked.inline_link lookup is_cell tail) → shown_target text t ≡ linked.inline_link lookup is_cell tail
        one r = let z : shown_target text t ≡ linked.inline_link lookup is_cell tail = cc in z

        title_same : (m : Option (List ℕ)) → unescaped lookup is_cell (title_lines false (or_empty m)) ≡ linked.resolved_title lookup is_cell m
        title_same None = nothing is_cell
          where
            nothing : (z : Bool) → unescaped lookup z (title_lines false []) ≡ []
            nothing true = refl
            nothing false = refl
        title_same (Some bytes) = refl
