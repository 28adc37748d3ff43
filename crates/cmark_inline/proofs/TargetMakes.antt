-- The target that a closing bracket forms is the one of the grammar.
use Rattle.std.specs.Str.{IsCharBoundary}
use Rattle.cmark_inline.specs.Stands.{IsLinkReference, IsTarget}
use Rattle.std.specs.Prelude.{IfSome, if◌then◌else◌, drop, Option, Some, None, option_map}
use Rattle.std.proofs.Common.{◌≡◌, ℕ, suc, ◌+◌, ◌-◌, ◌<◌, ◌≤◌, ◌==◌, Bool, true, false, List, length, get_or, refl, sym, ap, subst, ◌∙◌, arith}
use Rattle.cmark_grammar.specs.Answers.{Lookup}
use Rattle.cmark_grammar.specs.BracketDecisions as decisions
use Rattle.cmark_grammar.specs.BracketDecisions.{is_there, link_or, reference_or, unless_footnote}
use Rattle.cmark_grammar.specs.BracketStates.{State, Decision}
use Rattle.cmark_grammar.specs.Items as items
use Rattle.cmark_grammar.specs.Labels.{fold, normal_form}
use Rattle.cmark_grammar.specs.LeafText.{Leaf}
use Rattle.cmark_grammar.specs.Lines.{is_content}
use Rattle.cmark_grammar.specs.LinkTails.{LinkTail, link_tail_in, reference_label_in}
use Rattle.cmark_grammar.specs.OpenBrackets.{Taken}
use Rattle.cmark_grammar.specs.Options.{Options}
use Rattle.cmark_grammar.specs.Readers.{Reader}
use Rattle.cmark_grammar.specs.Tokens.{slice}
use Rattle.cmark_references.specs.Definitions.{definition}
use Rattle.cmark_references.specs.declared.definitions.RefDefs.{RefDefs}
use Rattle.cmark_references.specs.declared.footnotes.FootnoteDefs.{FootnoteDefs}
use Rattle.cmark_leaf_text.specs.Reads.{text_of, is_cell_of, place_of}
use Rattle.cmark_leaf_text.specs.declared.leaf_text.LeafText.{LeafText}
use Rattle.cmark_values.specs.Shown.{shown_link_type}
use Rattle.cmark_values.specs.declared.text.CowStr.{CowStr}
use Rattle.cmark_inline.specs.BracketViews.{IsPlaced, after_opening}
use Rattle.cmark_inline_model.specs.TextPlaces.{ArePlaces}
use Rattle.cmark_inline.specs.Decided.{AsksOf, AsksOfTarget, EndsTogether, ReadsSame, IsCloser, EndsWithin, Remembers, ComesTo, is_full, target_outcome, with_left, LeadsTo, TargetDecides}
use Rattle.cmark_inline.specs.Footnoted.{as_label}
use Rattle.cmark_inline.specs.Linked as linked
use Rattle.cmark_inline.specs.Linked.{AsksOfReference, InlineLink, Refers, left_after, reference_after, shown_link_reference, shown_target, target_link}
use Rattle.cmark_slots.specs.declared.bracket.Bracket.{Bracket}
use Rattle.cmark_inline.specs.declared.callback.BrokenLink.{BrokenLink}
use Rattle.cmark_inline.specs.declared.reference.LinkReference.{LinkReference}
use Rattle.cmark_inline.specs.declared.link.Target.{Target}
use Rattle.cmark_inline.specs.declared.state.InlineState.{InlineState}
use Rattle.cmark_inline.proofs.DecisionSteps.{refers-asks, refers-spent, refers-led, stays-settled}
use Rattle.cmark_inline.proofs.TailEnds.{tail-ends}
use Rattle.cmark_inline.proofs.TargetSteps.{reference-named, reference-none, following-is, inline-named, label_after, named, next-of, there-same, with_label}

-- the remembered label after a reference, in the code and in the grammar
label_kept : (place : ℕ → ℕ) (a : LinkReference) (old new : Option ℕ) (label : Option ℕ) → label ≡ option_map place old → new ≡ (if is_full (shown_link_type a.link_type) then Some (a.end - 1) else old) → option_map place new ≡ label_after place a label
label_kept place a old new label e f = ap (option_map place) f ∙ go (is_full (shown_link_type a.link_type))
  where
    go : (z : Bool) → option_map place (if z then Some (a.end - 1) else old) ≡ (if z then Some (place (a.end - 1)) else label)
    go true = refl
    go false = sym e

pub label-within : (text : List ℕ) (a : LinkReference) (old new : Option ℕ) → a.end ≤ length text → new ≡ (if is_full (shown_link_type a.link_type) then Some (a.end - 1) else old) → EndsWithin text old → EndsWithin text new
label-within text a old new le f w = subst (EndsWithin text) (sym f) (go (is_full (shown_link_type a.link_type)))
  where
    go : (z : Bool) → EndsWithin text (if z then Some (a.end - 1) else old)
    go true = let q : a.end - 1 ≤ length text = omega (arith, le) in q
    go false = w

-- the target of a reference ends where the reference ends
pub led-target : (text : List ℕ) (close : ℕ) (a : LinkReference) (found : Option Target) → IsLinkReference text close a → IfSome found (λ (t : Target). (t.end ≡ a.end) × (t.resume ≡ a.resume)) → IfSome found (IsTarget text close)
led-target text close a None i e = tt
led-target text close a (Some t) i e =
    let ordered = i.ordered in
    let end = e.0 in
    let resume = e.1 in
    record { following = subst (λ n. close < n) (sym end) i.following; ordered = omega (arith, ordered, end, resume); ends = subst (IsCharBoundary text) (sym end) i.ends; resume = subst (IsCharBoundary text) (sym resume) i.resume }

no_tail : (lookup : Lookup) (is_cell : Bool) (tail : Option LinkTail) → None ≡ option_map (linked.inline_link lookup is_cell) tail → tail ≡ None
no_tail lookup is_cell None e = refl
no_tail lookup is_cell (Some tail) e = absurd (none e)
  where
    none : None ≡ Some (linked.inline_link lookup is_cell tail) → ⊥
    none q = let z : ⊥ = cc in z

module _ {F : Type 0} (R : F → BrokenLink → Option (CowStr × CowStr) → F → Type 0) (options : Options) (lookup : Lookup) (references : RefDefs) (leaf : LeafText) (text : List ℕ) (same : text ≡ text_of leaf) (bracket : Bracket) (close : ℕ) (old : InlineState) where
  abbrev rest : List ℕ
  rest = drop (close + 1) text

  abbrev label : List ℕ
  label = slice text bracket.inside close

  abbrev cell : Bool
  cell = is_cell_of leaf

  abbrev places : (footnotes : FootnoteDefs) (reader : Reader) (read : Leaf) (place : ℕ → ℕ) → ReadsSame options lookup references footnotes leaf reader read place → ArePlaces reader read text place
  places footnotes reader read place r = subst (λ l. ArePlaces reader read l place) (sym same) r.places

  -- an inline link ends with its closing parenthesis
  inline-ends : (t : Target) → t.end ≤ length text → Some (shown_target text t) ≡ option_map (linked.inline_link lookup cell) (link_tail_in rest) → (0 < t.end) × (get_or text (t.end - 1) 0 ≡ 41)
  inline-ends t lend shown = go (link_tail_in rest) refl shown
    where
      go : (tail : Option LinkTail) → link_tail_in rest ≡ tail → Some (shown_target text t) ≡ option_map (linked.inline_link lookup cell) tail → (0 < t.end) × (get_or text (t.end - 1) 0 ≡ 41)
      go None e q = absurd (none q)
        where
          none : Some (shown_target text t) ≡ None → ⊥
          none r = let z : ⊥ = cc in z
      go (Some tail) e q = tail-ends text (close + 1) t.end tail e (sym (ap (λ (x : InlineLink). x.following) (one q))) lend
        where
          one : Some (shown_target text t) ≡ Some (linked.inline_link lookup cell tail) → shown_target text t ≡ linked.inline_link lookup cell tail
          one r = let z : shown_target text t ≡ linked.inline_link lookup cell tail = cc in z

  -- the place after a byte that ends no line is directly after its place
  together : (footnotes : FootnoteDefs) (reader : Reader) (read : Leaf) (place : ℕ → ℕ) → ReadsSame options lookup references footnotes leaf reader read place → (end b : ℕ) → 0 < end → end ≤ length text → get_or text (end - 1) 0 ≡ b → is_content b ≡ true
      → place_of leaf (end - 1) + 1 ≡ place end
  together footnotes reader read place r end b pos lend byte content =
      let size = ap length same in
      ap (λ m. m + 1) (r.bytes (end - 1) (let l : end - 1 < length (text_of leaf) = omega (arith, pos, lend, size) in l))
      ∙ (let l : place (end - 1) + 1 ≡ suc (place (end - 1)) = omega arith in l)
      ∙ sym (next-of reader read text place (places footnotes reader read place r) (end - 1) b (let l : end - 1 < length text = omega (arith, pos, lend) in l) byte content)
      ∙ ap place (let l : end - 1 + 1 ≡ end = omega (arith, pos) in l)

  pub inline-decides : (t : Target) (before : F) → t.end ≤ length text → t.resume ≡ t.end → Some (shown_target text t) ≡ option_map (linked.inline_link lookup cell) (link_tail_in rest)
      → TargetDecides R options lookup references leaf text bracket close old old (Some t) before before
  inline-decides t before lend resume shown = λ footnotes reader read place taken closer s r c p mem none.
      let e = inline-named lookup cell reader read text place (places footnotes reader read place r) r.lookup_is r.cell close closer c taken s t lend resume shown in
      let last = inline-ends t lend shown in (
        record {
          asked = s.asked;
          comes = subst (λ (d : Decision). ComesTo R d (target_outcome reader read place taken closer (with_left old.expansion_left (option_map place old.label_close) s.asked s) (Some t)) before before) (sym e) (
            ap (λ n. target_outcome reader read place taken closer (with_left n (option_map place old.label_close) s.asked s) (Some t)) (sym mem.expansion_left)
                ∙ ap (λ l. target_outcome reader read place taken closer (with_left s.expansion_left l s.asked s) (Some t)) (sym mem.label),
            refl,
          );
        },
        together footnotes reader read place r t.end 41 last.0 lend last.1 refl,
      )

  module _ (no_inline : None ≡ option_map (linked.inline_link lookup cell) (link_tail_in rest)) (before : bracket.inside ≤ close) where
    -- there is no inline link
    unlinked : (reader : Reader) (read : Leaf) (place : ℕ → ℕ) (closer : items.Bracket) (taken : Taken) (s : State) → ArePlaces reader read text place → IsCloser text place close closer
        → link_or reader read (link_tail_in (decisions.following reader read closer.end)) taken closer s ≡ reference_or reader read (unless_footnote reader read (reference_label_in (decisions.following reader read closer.end))) taken closer s
    unlinked reader read place closer taken s p c =
        ap (λ t. link_or reader read t taken closer s) (ap link_tail_in (following-is reader read text place p close closer c) ∙ no_tail lookup cell (link_tail_in rest) no_inline)

    pub none-decides : (at : F) → None ≡ reference_after options (is_there close old.label_close) label rest → TargetDecides R options lookup references leaf text bracket close old old None at at
    none-decides at shown = λ footnotes reader read place taken closer s r c p mem none.
        let q = places footnotes reader read place r in
        let w = c.within in
        let inactive_below = there-same reader read text place q close closer.start old.label_close s.label_close (let l : close ≤ length text = omega (arith, w) in l) mem.within c.start mem.label in (
          stays-settled R reader read place taken closer (link_or reader read (link_tail_in (decisions.following reader read closer.end)) taken closer s) s old.expansion_left (option_map place old.label_close) None at at
              (unlinked reader read place closer taken s q c
              ∙ reference-none options cell reader read text place q r.options_are r.cell close closer c taken bracket p before footnotes s (is_there close old.label_close) inactive_below r.footnotes_are shown (no_tail lookup cell (link_tail_in rest) no_inline) none)
              refl refl (sym mem.expansion_left) (sym mem.label),
          tt,
        )

    module _ (a : LinkReference) (lend : a.end ≤ length text) (lresume : a.resume ≤ length text) (shown : Some (shown_link_reference text a) ≡ reference_after options (is_there close old.label_close) label rest) where
      abbrev Is : (reader : Reader) (read : Leaf) (place : ℕ → ℕ) (closer : items.Bracket) (taken : Taken) (s : State) → Type 0
      Is reader read place closer taken s =
          (link_or reader read (link_tail_in (decisions.following reader read closer.end)) taken closer s ≡ decisions.refers reader read (named place cell a) taken closer (with_label (label_after place a s.label_close) s))
          × (place_of leaf bracket.start ≡ taken.opener.bracket.start) × (place_of leaf (a.end - 1) + 1 ≡ place a.end)

      is : (footnotes : FootnoteDefs) (reader : Reader) (read : Leaf) (place : ℕ → ℕ) (taken : Taken) (closer : items.Bracket) (s : State) → ReadsSame options lookup references footnotes leaf reader read place
          → IsCloser text place close closer → IsPlaced place taken.opener bracket → Remembers text place s old → Is reader read place closer taken s
      is footnotes reader read place taken closer s r c p mem =
          let q = places footnotes reader read place r in
          let w = c.within in
          let size = ap length same in
          let inactive_below = there-same reader read text place q close closer.start old.label_close s.label_close (let l : close ≤ length text = omega (arith, w) in l) mem.within c.start mem.label in
          let n = reference-named options cell reader read text place q r.options_are r.cell close closer c taken bracket p before s (is_there close old.label_close) a lend lresume inactive_below shown in
          let pos = n.ends.some in
          let up : bracket.start < bracket.inside = subst (λ m. bracket.start < m) (sym p.in_text) (opening bracket.is_image bracket.start) in (
            unlinked reader read place closer taken s q c ∙ n.same,
            r.bytes bracket.start (let l : bracket.start < length (text_of leaf) = omega (arith, up, before, w, size) in l) ∙ sym (ap (λ (b : items.Bracket). b.start) p.bracket),
            ap (λ m. m + 1) (r.bytes (a.end - 1) (let l : a.end - 1 < length (text_of leaf) = omega (arith, pos, lend, size) in l))
                ∙ (let l : place (a.end - 1) + 1 ≡ suc (place (a.end - 1)) = omega arith in l)
                ∙ sym (next-of reader read text place q (a.end - 1) 93 (let l : a.end - 1 < length text = omega (arith, pos, lend) in l) n.ends.byte refl)
                ∙ ap place (let l : a.end - 1 + 1 ≡ a.end = omega (arith, pos) in l),
          )
        where
          opening : (z : Bool) (start : ℕ) → start < after_opening z start
          opening true start = omega arith
          opening false start = omega arith

      -- the questions that were asked, if memory was refused
      pub led-asks : (at after : F) → (old.expansion_left == 0) ≡ false
          → AsksOfReference R (definition references (fold (as_label cell a.label.now))) a.link_type (normal_form (as_label cell a.label.now)) (place_of leaf bracket.start) (place_of leaf (a.end - 1) + 1) at after
          → AsksOfTarget R options lookup references leaf text bracket close old at after
      led-asks at after some asks = λ footnotes reader read place taken closer s r c p mem none.
          let i = is footnotes reader read place taken closer s r c p mem in
          let this : List ℕ = as_label cell a.label.now in
          let def = definition references (fold this) in
          subst (λ d. AsksOf R d at after) (sym i.0)
          (refers-asks R reader read place taken closer (named place cell a) (with_label (label_after place a s.label_close) s) a.link_type def at after
          r.callback (r.definitions (fold this)) (ap (λ n. n == 0) mem.expansion_left ∙ some) refl
          (subst (λ n. AsksOfReference R def a.link_type (normal_form this) n (place a.end) at after) i.1 (subst (λ n. AsksOfReference R def a.link_type (normal_form this) (place_of leaf bracket.start) n at after) i.2 asks)))

      module _ (new : InlineState) (closes : new.label_close ≡ (if is_full (shown_link_type a.link_type) then Some (a.end - 1) else old.label_close)) where
        moved_on : (reader : Reader) (read : Leaf) (place : ℕ → ℕ) (taken : Taken) (closer : items.Bracket) (s : State) (found : Option Target) (at after : F) (to : Decision) (m : Option ℕ)
            → link_or reader read (link_tail_in (decisions.following reader read closer.end)) taken closer s ≡ to
            → LeadsTo R reader read place taken closer to (with_label m s) new.expansion_left (option_map place new.label_close) found at after
            → LeadsTo R reader read place taken closer (link_or reader read (link_tail_in (decisions.following reader read closer.end)) taken closer s) s new.expansion_left (option_map place new.label_close) found at after
        moved_on reader read place taken closer s found at after to m e h = record {
          asked = h.asked;
          comes = subst (λ (d : Decision). ComesTo R d (target_outcome reader read place taken closer (with_left new.expansion_left (option_map place new.label_close) h.asked s) found) at after) (sym e) h.comes;
        }

        pub spent-decides : (at : F) → old.expansion_left ≡ 0 → new.expansion_left ≡ old.expansion_left → TargetDecides R options lookup references leaf text bracket close old new None at at
        spent-decides at spent kept = λ footnotes reader read place taken closer s r c p mem none.
            let i = is footnotes reader read place taken closer s r c p mem in
            let label = label_kept place a old.label_close new.label_close s.label_close mem.label closes in (
              moved_on reader read place taken closer s None at at (decisions.refers reader read (named place cell a) taken closer (with_label (label_after place a s.label_close) s)) (label_after place a s.label_close) i.0
                  (refers-spent R reader read place taken closer (named place cell a) (with_label (label_after place a s.label_close) s) new.expansion_left (option_map place new.label_close) at at (mem.expansion_left ∙ spent) refl (kept ∙ sym mem.expansion_left) label),
              tt,
            )

        pub led-decides : (at after : F) (found : Option Target) → (old.expansion_left == 0) ≡ false
            → Refers R (definition references (fold (as_label cell a.label.now))) a.link_type (normal_form (as_label cell a.label.now)) (place_of leaf bracket.start) (place_of leaf (a.end - 1) + 1) at after (option_map target_link found)
            → new.expansion_left ≡ left_after old.expansion_left found → ((t : Target) → found ≡ Some t → (t.end ≡ a.end) × (t.resume ≡ a.resume))
            → TargetDecides R options lookup references leaf text bracket close old new found at after
        led-decides at after found some refers left ends = λ footnotes reader read place taken closer s r c p mem none.
            let i = is footnotes reader read place taken closer s r c p mem in
            let label = label_kept place a old.label_close new.label_close s.label_close mem.label closes in
            let this : List ℕ = as_label cell a.label.now in
            let def = definition references (fold this) in (
              moved_on reader read place taken closer s found at after (decisions.refers reader read (named place cell a) taken closer (with_label (label_after place a s.label_close) s)) (label_after place a s.label_close) i.0
                  (refers-led R reader read place taken closer (named place cell a) (with_label (label_after place a s.label_close) s) a.link_type def new.expansion_left (option_map place new.label_close) found at after
                  r.callback (r.definitions (fold this)) (ap (λ n. n == 0) mem.expansion_left ∙ some) refl
                  (subst (λ n. Refers R def a.link_type (normal_form this) n (place a.end) at after (option_map target_link found)) i.1 (subst (λ n. Refers R def a.link_type (normal_form this) (place_of leaf bracket.start) n at after (option_map target_link found)) i.2 refers))
                  (left ∙ ap (λ n. left_after n found) (sym mem.expansion_left)) label (λ t e. (ap place (ends t e).0, ap place (ends t e).1))),
              led_ends place i.2 found (λ t e. (ends t e).0),
            )
          where
            led_ends : (place : ℕ → ℕ) → place_of leaf (a.end - 1) + 1 ≡ place a.end → (t : Option Target) → ((x : Target) → t ≡ Some x → x.end ≡ a.end) → EndsTogether leaf place t
            led_ends place e None h = tt
            led_ends place e (Some x) h = ap (λ n. place_of leaf (n - 1) + 1) (h x refl) ∙ e ∙ ap place (sym (h x refl))
