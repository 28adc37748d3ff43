-- A closing bracket has the outcome that the grammar gives it.
use Rattle.std.specs.Prelude.{if◌then◌else◌, nat_lt, not, ◌&&◌, ◌||◌, drop, map, min, take, Option, Some, None, option_map, IfSome}
use Rattle.std.proofs.Common.{◌≡◌, ◌++◌, ℕ, suc, ◌+◌, ◌-◌, ◌<◌, ◌≤◌, ◌==◌, Bool, true, false, true≢false, List, [], ◌∷◌, length, get_or, refl, sym, ap, subst, ◌∙◌, arith, eqb-true}
use Rattle.std.proofs.lemmas.Bool.{ltb-true, ltb-false, eq-eqb}
use Rattle.std.proofs.lemmas.List.{get_or-drop, length-drop}
use Rattle.cmark_emphasis.specs.Least.{least_examined}
use Rattle.cmark_grammar.specs.Answers.{Lookup}
use Rattle.cmark_grammar.specs.BracketDecisions as decisions
use Rattle.cmark_grammar.specs.BracketDecisions.{decide, taking, wikilink_or, with_taken, link_or, stays, links, forms, wikilink, name_in, after_pipe, is_there}
use Rattle.cmark_grammar.specs.BracketReading.{Comes}
use Rattle.cmark_grammar.specs.BracketStates.{Opener, State, Decision, Settled, Outcome, StaysText, Forms}
use Rattle.cmark_grammar.specs.Emphasis.{runs_of}
use Rattle.cmark_grammar.specs.Items as items
use Rattle.cmark_grammar.specs.Labels.{fold, normal_form}
use Rattle.cmark_grammar.specs.LeafText.{Leaf}
use Rattle.cmark_grammar.specs.Letters.{first_is}
use Rattle.cmark_grammar.specs.LinkTails.{link_tail_in}
use Rattle.cmark_grammar.specs.OpenBrackets.{Taken, nearest, used_up, doubled, tried, undoubled, inactive, dropped, after_link}
use Rattle.cmark_grammar.specs.Options.{Options}
use Rattle.cmark_grammar.specs.Parts.{Footnote, Linking}
use Rattle.cmark_grammar.specs.Questions.{AnyAnswer}
use Rattle.cmark_grammar.specs.Readers.{Reader}
use Rattle.cmark_grammar.specs.Tokens.{slice}
use Rattle.cmark_references.specs.Footnotes.{Keeps}
use Rattle.cmark_references.specs.declared.definitions.RefDefs.{RefDefs}
use Rattle.cmark_references.specs.declared.footnotes.FootnoteDefs.{FootnoteDefs}
use Rattle.cmark_leaf_text.specs.Reads as reads
use Rattle.cmark_leaf_text.specs.Reads.{text_of, source_of, is_cell_of}
use Rattle.cmark_leaf_text.specs.declared.leaf_text.LeafText.{LeafText}
use Rattle.cmark_values.specs.declared.text.CowStr.{CowStr}
use Rattle.cmark_inline.specs.BracketViews.{IsFresh, IsPlaced, IsTaken, StandFor, TakenAs, standing_of}
use Rattle.cmark_inline.specs.Closers.{AsksOfLink, ClosesAs, ReadsOn, Formed, FormsTarget, LeavesElement, LeavesFootnote, LeavesWikilink, LinksTaken, NoneStand, ShowsState, TriesDoubled}
use Rattle.cmark_inline_model.specs.TextPlaces.{ArePlaces}
use Rattle.cmark_inline.specs.Decided.{AsksOf, ComesTo, EndsWithin, IsCloser, ReadsSame, Remembers, TargetDecides, target_outcome, with_left}
use Rattle.cmark_slots.specs.Doubled as stacks
use Rattle.cmark_inline.specs.Footnoted.{CountsOf, KeepsLabel, footnote_of, forms_footnote}
use Rattle.cmark_inline.specs.Hiding.{WritesReference, WritesWikilink}
use Rattle.cmark_references.specs.Links.{shown_link}
use Rattle.cmark_inline.specs.Sound.{IsSound, IsTakenFrom}
use Rattle.cmark_slots.specs.MarkedSlots.{siblings_from}
use Rattle.cmark_slots.specs.Slots.{IsBracket}
use Rattle.cmark_inline.specs.Stands.{Stands}
use Rattle.cmark_inline.specs.FormedSlots.{WritesElement}
use Rattle.cmark_inline.specs.Wikilinks.{forms_wikilink, is_wikilink, wiki_start, wiki_text}
use Rattle.cmark_slots.specs.declared.bracket.Bracket.{Bracket}
use Rattle.cmark_slots.specs.declared.bracket.Brackets.{Brackets}
use Rattle.cmark_inline.specs.declared.callback.BrokenLink.{BrokenLink}
use Rattle.cmark_inline.specs.declared.link.Target.{Target}
use Rattle.cmark_slots.specs.declared.slot.Slot.{Slot}
use Rattle.cmark_slots.specs.declared.slot.SlotKind.TheVariants as kind
use Rattle.cmark_inline.specs.declared.state.InlineState.{InlineState}
use Rattle.cmark_inline.specs.declared.step.Cursor.{Cursor}
use Rattle.cmark_inline.proofs.AfterSteps.{IsTried, TriedAs, footnote-formed, image-formed, link-formed, tried-as, tried-one, tried_by, wikilink-formed}
use Rattle.cmark_inline.proofs.AsksSteps.{asks-none}
use Rattle.cmark_inline.proofs.BracketSteps.{Takes, takes, and-right, fresh-past, placed-lower, tried-rest, tried-standing}
use Rattle.cmark_inline.proofs.ClosingReads.{IsFlushed, SameRows, comes-any, link-reads, rows-on}
use Rattle.cmark_inline.proofs.HidingReads.{footnote-reads, wikilink-reads}
use Rattle.cmark_inline.proofs.TargetSteps.{following-is, closer-end, footnote-named, next-of, there-same}
use Rattle.cmark_inline.proofs.UsesCounted.{rise-none, rise-one}

abbrev pub with_openers : List Opener → State → State
with_openers openers s = record { at = s.at; expansion_left = s.expansion_left; label_close = s.label_close; asked = s.asked; openers = openers }

pub decide-is : (reader : Reader) (read : Leaf) (s : State) (closer : items.Bracket) → decide reader read s closer ≡ taking reader read (nearest s.openers) closer (with_openers (used_up s.openers) s)
unfolding decide
decide-is reader read s closer = refl

stand-lower : (wikilinks : Bool) (place : ℕ → ℕ) (at more : ℕ) (os : List Opener) (bs : List Bracket) (st db : Brackets) → at ≤ more → StandFor wikilinks place at os bs st db → StandFor wikilinks place more os bs st db
stand-lower wikilinks place at more os bs st db le h = record {
  placed = placed-lower place at more os bs le h.placed;
  standing_are = h.standing_are;
  inactive = h.inactive;
  doubled_are = h.doubled_are;
  doubled_inactive = h.doubled_inactive;
}

first-byte : (l : List ℕ) → first_is (λ b. b == 93) l ≡ true → (0 < length l) × (get_or l 0 0 ≡ 93)
first-byte [] e = absurd (true≢false (sym e))
first-byte (b ∷ bs) e = (omega arith, eqb-true b 93 e)

left-true : (a b : Bool) → (a && b) ≡ true → a ≡ true
left-true true b e = refl
left-true false b e = e

module _ (options : Options) (lookup : Lookup) (references : RefDefs) (footnotes : FootnoteDefs) (leaf : LeafText) (text : List ℕ) (same : text ≡ text_of leaf) (reader : Reader) (read : Leaf) (place : ℕ → ℕ) (closer : items.Bracket) (s : State)
    (bs : List Bracket) (close : ℕ) (r : ReadsSame options lookup references footnotes leaf reader read place) (c : IsCloser text place close closer) (old : InlineState) (shows : ShowsState options.wikilinks text place close s bs old) where
  abbrev p : ArePlaces reader read text place
  p = subst (λ l. ArePlaces reader read l place) (sym same) r.places

  abbrev os : List Opener
  os = used_up s.openers

  abbrev tk : Option Taken
  tk = nearest s.openers

  abbrev used : State
  used = with_openers os s

  abbrev tests : Bool
  tests = options.wikilinks && first_is (λ b. b == 93) (drop (close + 1) text)

  tests_are : (reader.options.wikilinks && first_is (λ b. b == 93) (decisions.following reader read closer.end)) ≡ tests
  tests_are = ap (λ o. o.wikilinks && first_is (λ b. b == 93) (decisions.following reader read closer.end)) r.options_are ∙ ap (λ l. options.wikilinks && first_is (λ b. b == 93) l) (following-is reader read text place p close closer c)

  none_stand : (t : Taken) → tk ≡ Some t → NoneStand (suc t.nearer) os bs
  none_stand t e =
      let i = subst (Takes place s.openers bs old.brackets.inactive_below) e (takes place close s.openers bs old.brackets.inactive_below shows.openers.placed shows.openers.inactive) in
      ap (λ l. standing_of l (drop (suc t.nearer) bs)) i.following ∙ i.rest

  -- no wikilink is formed
  pub record IsReady (st db : Brackets) : Type 0 where
    pub openers : List Opener
    pub decision : taking reader read tk closer used ≡ with_taken reader read tk closer (with_openers openers s)
    pub view : StandFor options.wikilinks place close openers bs st db
    pub none : (t : Taken) → tk ≡ Some t → NoneStand (suc t.nearer) openers bs

  -- the name of a wikilink begins at the same place
  start_same : (first : Taken) (e : Option (Bracket × Bool)) (i : IsTried place close bs first e) → suc first.opener.bracket.end ≡ wiki_start leaf (record i.bracket { inside = i.inner + 1 })
  start_same first e i =
      let w = c.within in
      let b = i.before in
      let size = ap length same in
      ap suc (sym i.meets) ∙ (let q : suc (place i.inner) ≡ place i.inner + 1 = omega arith in q)
      ∙ ap (λ n. n + 1) (sym (ap (reads.place_of leaf) (let q : i.inner + 1 - 1 ≡ i.inner = omega arith in q) ∙ r.bytes i.inner (let q : i.inner < length (text_of leaf) = omega (arith, b, w, size) in q)))

  text_same : (first : Taken) (e : Option (Bracket × Bool)) (i : IsTried place close bs first e) → decisions.wiki_text reader read first closer ≡ wiki_text leaf (record i.bracket { inside = i.inner + 1 }) close
  text_same first e i =
      let w = c.within in
      let size = ap length same in
      let end : closer.start ≡ reads.place_of leaf close = c.start ∙ sym (r.bytes close (let q : close < length (text_of leaf) = omega (arith, w, size) in q)) in
      ap (λ l. slice l (suc first.opener.bracket.end) closer.start) r.source
      ∙ ap (λ n. slice (source_of leaf) n closer.start) (start_same first e i)
      ∙ ap (λ n. slice (source_of leaf) (wiki_start leaf (record i.bracket { inside = i.inner + 1 })) n) end

  -- if the doubled bracket ends at the closing one, the name is empty
  no_text : (first : Taken) (e : Option (Bracket × Bool)) (i : IsTried place close bs first e) → close ≤ i.inner + 1 → decisions.wiki_text reader read first closer ≡ []
  no_text first e i le =
      let b = i.before in
      let at : close ≡ i.inner + 1 = omega (arith, b, le) in
      let end : closer.start ≡ suc first.opener.bracket.end = c.start ∙ ap place at ∙ i.next ∙ ap suc i.meets in
      ap (λ n. slice reader.source (suc first.opener.bracket.end) n) end ∙ ap (λ n. take n (drop (suc first.opener.bracket.end) reader.source)) (let q : suc first.opener.bracket.end - suc first.opener.bracket.end ≡ 0 = omega arith in q)

  -- whether a wikilink is formed
  forms_same : (first : Taken) (e : Option (Bracket × Bool)) (i : IsTried place close bs first e) (z : Bool) → is_wikilink leaf close e ≡ z → (first.opener.is_inactive || (length (name_in (decisions.wiki_text reader read first closer)) == 0)) ≡ not z
  forms_same first e i z f =
      go first.opener.is_inactive refl (nat_lt (i.inner + 1) close) refl (nat_lt 0 (length (name_in (wiki_text leaf entry close)))) refl (sym f ∙ ap (is_wikilink leaf close) i.is)
    where
      entry : Bracket
      entry = record i.bracket { inside = i.inner + 1 }

      name : ℕ
      name = length (name_in (decisions.wiki_text reader read first closer))

      name_is : name ≡ length (name_in (wiki_text leaf entry close))
      name_is = ap (λ l. length (name_in l)) (text_same first e i)

      zero_name : name ≡ 0 → (name == 0) ≡ true
      zero_name q = eq-eqb name 0 q

      some_name : 0 < name → (name == 0) ≡ false
      some_name q = by (name == 0) refl
        where
          by : (z : Bool) → (name == 0) ≡ z → z ≡ false
          by true g = absurd (let h = eqb-true name 0 g in omega (arith, h, q))
          by false g = refl

      Is : Bool → Bool → Bool → Type 0
      Is x y w = z ≡ (not x && (y && w))

      go : (x : Bool) → first.opener.is_inactive ≡ x → (y : Bool) → nat_lt (i.inner + 1) close ≡ y → (w : Bool) → nat_lt 0 (length (name_in (wiki_text leaf entry close))) ≡ w
          → Is first.opener.is_inactive (nat_lt (i.inner + 1) close) (nat_lt 0 (length (name_in (wiki_text leaf entry close)))) → (first.opener.is_inactive || (name == 0)) ≡ not z
      go true a y b w d h =
          let q : z ≡ false = h ∙ ap (λ x. not x && (nat_lt (i.inner + 1) close && nat_lt 0 (length (name_in (wiki_text leaf entry close))))) a in
          ap (λ x. x || (name == 0)) a ∙ ap not (sym q)
      go false a false b w d h =
          let q : z ≡ false = h ∙ ap (λ x. not x && (nat_lt (i.inner + 1) close && nat_lt 0 (length (name_in (wiki_text leaf entry close))))) a ∙ ap (λ y. y && nat_lt 0 (length (name_in (wiki_text leaf entry close)))) b in
          let le = ltb-false (i.inner + 1) close b in
          ap (λ x. x || (name == 0)) a ∙ zero_name (ap (λ l. length (name_in l)) (no_text first e i le)) ∙ ap not (sym q)
      go false a true b false d h =
          let q : z ≡ false = h ∙ ap (λ x. not x && (nat_lt (i.inner + 1) close && nat_lt 0 (length (name_in (wiki_text leaf entry close))))) a ∙ ap (λ y. y && nat_lt 0 (length (name_in (wiki_text leaf entry close)))) b ∙ d in
          let le = ltb-false 0 (length (name_in (wiki_text leaf entry close))) d in
          let n = name_is in
          ap (λ x. x || (name == 0)) a ∙ zero_name (let g : name ≡ 0 = omega (arith, le, n) in g) ∙ ap not (sym q)
      go false a true b true d h =
          let q : z ≡ true = h ∙ ap (λ x. not x && (nat_lt (i.inner + 1) close && nat_lt 0 (length (name_in (wiki_text leaf entry close))))) a ∙ ap (λ y. y && nat_lt 0 (length (name_in (wiki_text leaf entry close)))) b ∙ d in
          let lt = ltb-true 0 (length (name_in (wiki_text leaf entry close))) d in
          let n = name_is in
          ap (λ x. x || (name == 0)) a ∙ some_name (let g : 0 < name = omega (arith, lt, n) in g) ∙ ap not (sym q)

  -- the doubled bracket that is tried forms no wikilink
  pub ready : (st db db2 : Brackets) → StandFor options.wikilinks place close os bs st db → TriesDoubled tests db db2 → false ≡ forms_wikilink options leaf close db → IsReady st db2
  ready st db db2 h tries none = go tests refl tries
    where
      cond : Bool → Decision
      cond z = if z then wikilink_or reader read (doubled os) tk closer used else with_taken reader read tk closer used

      go : (z : Bool) → tests ≡ z → TriesDoubled z db db2 → IsReady st db2
      go false e same_db = record {
        openers = os;
        decision = ap cond (tests_are ∙ e);
        view = subst (StandFor options.wikilinks place close os bs st) (sym same_db) h;
        none = none_stand;
      }
      go true e uses =
          let wiki = left-true options.wikilinks (first_is (λ b. b == 93) (drop (close + 1) text)) e in
          let t = tried-one place close os bs st db db2 (subst (λ z. StandFor z place close os bs st db) wiki h) uses in
          let none_formed : is_wikilink leaf close (stacks.nearest db) ≡ false = sym (none ∙ shape) in
          by wiki none_formed (doubled os) refl t.0 t.1
        where
          shape : forms_wikilink options leaf close db ≡ is_wikilink leaf close (stacks.nearest db)
          shape = assoc options.wikilinks (first_is (λ b. b == 93) (drop (close + 1) (text_of leaf))) (is_wikilink leaf close (stacks.nearest db)) (ap (λ l. options.wikilinks && first_is (λ b. b == 93) (drop (close + 1) l)) (sym same) ∙ e)
            where
              assoc : (x y w : Bool) → (x && y) ≡ true → (x && (y && w)) ≡ w
              assoc true true w q = refl
              assoc true false w q = absurd (true≢false (sym q))
              assoc false y w q = absurd (true≢false (sym q))

          by : options.wikilinks ≡ true → is_wikilink leaf close (stacks.nearest db) ≡ false → (d : Option Taken) → doubled os ≡ d → StandFor true place close (tried_by (doubled os) os) bs st db2 → TriedAs place close bs (doubled os) (stacks.nearest db) → IsReady st db2
          by wiki never None f view seen = record {
            openers = os;
            decision = ap cond (tests_are ∙ e) ∙ ap (λ d. wikilink_or reader read d tk closer used) f;
            view = subst (λ z. StandFor z place close os bs st db2) (sym wiki) (subst (λ d. StandFor true place close (tried_by d os) bs st db2) f view);
            none = none_stand;
          }
          by wiki never (Some first) f view seen =
              let i = subst (λ d. TriedAs place close bs d (stacks.nearest db)) f seen in
              let stop = forms_same first (stacks.nearest db) i false never in
              record {
                openers = tried first.nearer os;
                decision = ap cond (tests_are ∙ e) ∙ ap (λ d. wikilink_or reader read d tk closer used) f
                    ∙ ap (λ z. if z then with_taken reader read tk closer (with_openers (tried first.nearer os) s) else Settled (wikilink reader read first closer used)) stop;
                view = subst (λ z. StandFor z place close (tried first.nearer os) bs st db2) (sym wiki) (subst (λ d. StandFor true place close (tried_by d os) bs st db2) f view);
                none = λ t q. tried-rest (suc t.nearer) first.nearer os (drop (suc t.nearer) bs) ∙ none_stand t q ∙ sym (tried-standing first.nearer os bs);
              }

  -- the taken bracket exists, and can form a link or an image
  taken_is : (t : Taken) (taken : Option Bracket) (b : Bracket) → IsTaken place bs t taken → taken ≡ Some b → (t.opener.is_inactive ≡ false) × (drop t.nearer bs ≡ b ∷ drop (suc t.nearer) bs) × IsPlaced place t.opener b
  taken_is t taken b i e = go t.opener.is_inactive refl (sym e ∙ i.is)
    where
      go : (z : Bool) → t.opener.is_inactive ≡ z → Some b ≡ (if z then None else Some i.bracket) → (t.opener.is_inactive ≡ false) × (drop t.nearer bs ≡ b ∷ drop (suc t.nearer) bs) × IsPlaced place t.opener b
      go true f q = absurd (let z : ⊥ = cc in z)
      go false f q = let o : i.bracket ≡ b = cc in (f, i.there ∙ ap (λ x. x ∷ drop (suc t.nearer) bs) o, subst (IsPlaced place t.opener) o i.placed)

  -- ## The four outcomes

  module _ {F : Type 0} (R : F → BrokenLink → Option (CowStr × CowStr) → F → Type 0) (next : Cursor) (others : FootnoteDefs) (new : InlineState) (before after : F) (from : ℕ) where
    abbrev Goal : Type 0
    Goal = ClosesAs R options.wikilinks leaf text reader read place from close closer s bs next footnotes others old new before after

    -- the parts that were read, if the decision has this outcome
    abbrev ReadsFor : Outcome → Type 0
    ReadsFor outcome = Comes AnyAnswer s.asked (decide reader read s closer) outcome → ReadsOn leaf reader read place from close closer s bs outcome old new

    -- the state after an outcome
    shown : (os2 : List Opener) (bs2 : List Bracket) (s2 : State) → s2.openers ≡ os2 → close < next.at → StandFor options.wikilinks place close os2 bs2 new.brackets new.doubled → Remembers text place s2 new
        → ShowsState options.wikilinks text place next.at s2 bs2 new
    shown os2 bs2 s2 e lt h m = record {
      openers = subst (λ (l : List Opener). StandFor options.wikilinks place next.at l bs2 new.brackets new.doubled) (sym e) (stand-lower options.wikilinks place close next.at os2 bs2 new.brackets new.doubled (let q : close ≤ next.at = omega (arith, lt) in q) h);
      fresh = subst (λ (l : List Opener). IsFresh next.at new.brackets.inactive_below l bs2) (sym e) (fresh-past place close next.at new.brackets.inactive_below os2 bs2 lt h.placed);
      remembers = m;
    }

    here : close ≤ close
    here = omega arith

    -- flushing the pending text examines no open runs
    same-seen : (mine mid : InlineState) → IsFlushed from close old mine → SameRows mine mid → mid.delimiters.examined ≡ old.delimiters.examined
    same-seen mine mid flushed rows = rows.examined ∙ ap (λ (x : InlineState). x.delimiters.examined) flushed.others

    seen : (mine mid : InlineState) → IsFlushed from close old mine → SameRows mine mid → mid.delimiters.examined ≤ new.delimiters.examined → old.delimiters.examined ≤ new.delimiters.examined
    seen mine mid flushed rows more = let e = same-seen mine mid flushed rows in omega (arith, e, more)

    link-seen : (mine mid : InlineState) → IsFlushed from close old mine → SameRows mine mid → (b : Bracket) → mid.delimiters.examined + least_examined (runs_of (siblings_from 0 (drop b.runs mid.delimiters.placed.items))) ≤ new.delimiters.examined
        → old.delimiters.examined + least_examined (runs_of (siblings_from 0 (drop b.runs old.delimiters.placed.items))) ≤ new.delimiters.examined
    link-seen mine mid flushed rows b more =
        let e = same-seen mine mid flushed rows in
        let runs = ap (λ l. least_examined (runs_of (siblings_from 0 (drop b.runs l)))) (rows.runs ∙ ap (λ (x : InlineState). x.delimiters.placed.items) flushed.others) in
        omega (arith, e, runs, more)

    -- a wikilink
    pub wikilink-closes : (mid : InlineState) → StandFor options.wikilinks place close os bs mid.brackets mid.doubled → true ≡ forms_wikilink options leaf close mid.doubled
        → IfSome (stacks.nearest mid.doubled) (λ t. LeavesWikilink t.0.start mid new) → Remembers text place s new → next.at ≡ close + 2 → next.pending ≡ next.at → after ≡ before → Keeps footnotes others
        → (mine : InlineState) → IsFlushed from close old mine → SameRows mine mid → IsSound mid → Stands text close mid → IfSome (stacks.nearest mid.doubled) (λ t. WritesWikilink options leaf text t.0 close mid new) → Goal
    wikilink-closes mid h formed leaves m at pending same_callback unused mine flushed rows sound stands writes =
        let wiki = left-true options.wikilinks (first_is (λ b. b == 93) (drop (close + 1) (text_of leaf)) && is_wikilink leaf close (stacks.nearest mid.doubled)) (sym formed) in
        let both = and-right options.wikilinks (first_is (λ b. b == 93) (drop (close + 1) (text_of leaf)) && is_wikilink leaf close (stacks.nearest mid.doubled)) (sym formed) in
        let follows = left-true (first_is (λ b. b == 93) (drop (close + 1) (text_of leaf))) (is_wikilink leaf close (stacks.nearest mid.doubled)) both in
        let is = and-right (first_is (λ b. b == 93) (drop (close + 1) (text_of leaf))) (is_wikilink leaf close (stacks.nearest mid.doubled)) both in
        let found : first_is (λ b. b == 93) (drop (close + 1) text) ≡ true = ap (λ l. first_is (λ b. b == 93) (drop (close + 1) l)) same ∙ follows in
        let trying : tests ≡ true = ap (λ z. z && first_is (λ b. b == 93) (drop (close + 1) text)) wiki ∙ found in
        by found trying is (doubled os) refl (tried-as place close os bs mid.brackets mid.doubled (subst (λ z. StandFor z place close os bs mid.brackets mid.doubled) wiki h))
      where
        cond : Bool → Decision
        cond z = if z then wikilink_or reader read (doubled os) tk closer used else with_taken reader read tk closer used

        lt : close < next.at
        lt = let q = at in omega (arith, q)

        by : first_is (λ b. b == 93) (drop (close + 1) text) ≡ true → tests ≡ true → is_wikilink leaf close (stacks.nearest mid.doubled) ≡ true → (d : Option Taken) → doubled os ≡ d → TriedAs place close bs d (stacks.nearest mid.doubled) → Goal
        by found trying is None f i = absurd (true≢false (sym (sym (ap (is_wikilink leaf close) i) ∙ is)))
        by found trying is (Some first) f i =
            let goes = forms_same first (stacks.nearest mid.doubled) i true is in
            let leaving = subst (λ (o : Option (Bracket × Bool)). IfSome o (λ t. LeavesWikilink t.0.start mid new)) i.is leaves in
            let byte = first-byte (drop (close + 1) text) found in
            let size = length-drop (close + 1) text in
            let some = byte.0 in
            let there : get_or text (close + 1) 0 ≡ 93 = ap (λ k. get_or text k 0) (let q : close + 1 ≡ close + 1 + 0 = omega arith in q) ∙ sym (get_or-drop (close + 1) text 0 0) ∙ byte.1 in
            let resume = next-of reader read text place p (close + 1) 93 (let q : close + 1 < length text = omega (arith, some, size) in q) there refl in
            let comes : ComesTo R (decide reader read s closer) (wikilink reader read first closer used) before after = subst (λ (d : Decision). ComesTo R d (wikilink reader read first closer used) before after)
            (sym (decide-is reader read s closer ∙ ap cond (tests_are ∙ trying) ∙ ap (λ d. wikilink_or reader read d tk closer used) f
            ∙ ap (λ z. if z then with_taken reader read tk closer (with_openers (tried first.nearer os) s) else Settled (wikilink reader read first closer used)) goes))
            (refl, same_callback) in
            let shown_text = decisions.wiki_text reader read first closer in
            record {
              outcome = wikilink reader read first closer used;
              comes = comes;
              at = ap suc (closer-end reader read text place p close closer c) ∙ sym resume ∙ ap place (let q : close + 1 + 1 ≡ close + 2 = omega arith in q ∙ sym at);
              pending = pending;
              shows = shown (map undoubled (map inactive (drop (suc first.nearer) os))) (drop (suc first.nearer) bs) (wikilink reader read first closer used).after refl lt
                  (wikilink-formed options.wikilinks place close close first.nearer os bs i.bracket mid.brackets mid.doubled h here i.there (record new.brackets { inactive_below = min mid.brackets.inactive_below (length new.brackets.standing.items) }) new.brackets new.doubled
                  (record { drops = leaving.drops; inactive_below = refl }) (record { standing = refl; inactive_below = leaving.inactive_below }) leaving.none)
                  (record { expansion_left = m.expansion_left; label = m.label; within = m.within });
              notes = tt;
              examines = seen mine mid flushed rows (subst (λ (o : Option (Bracket × Bool)). IfSome o (λ t. WritesWikilink options leaf text t.0 close mid new)) i.is writes).writes.forgets.examined;
              uses = rise-none footnotes others unused;
              reads = λ ended.
                  wikilink-reads leaf reader read place closer s bs from close old mine mid new flushed rows text same c (let q : close + 1 < length text = omega (arith, some, size) in q) first i sound stands options (sym r.options_are)
                  (subst (λ (o : Option (Bracket × Bool)). IfSome o (λ t. WritesWikilink options leaf text t.0 close mid new)) i.is writes)
                  (name_in shown_text) (ap name_in (text_same first (stacks.nearest mid.doubled) i))
                  (after_pipe (suc first.opener.bracket.end) shown_text)
                  (ap (λ n. after_pipe n shown_text) (start_same first (stacks.nearest mid.doubled) i) ∙ ap (after_pipe (wiki_start leaf (record i.bracket { inside = i.inner + 1 }))) (text_same first (stacks.nearest mid.doubled) i))
                  (wikilink reader read first closer used).after (comes-any R (decide reader read s closer) (wikilink reader read first closer used) s.asked before after comes) ended;
            }

    -- no bracket can form anything
    none_taken : (d : Option Taken) (taken : Option Bracket) (s2 : State) → TakenAs place bs d taken → taken ≡ None → with_taken reader read d closer s2 ≡ Settled (stays reader read closer s2)
    none_taken None taken s2 as_is e = refl
    none_taken (Some t) taken s2 i e = go t.opener.is_inactive (sym e ∙ i.is)
      where
        go : (z : Bool) → None ≡ (if z then None else Some i.bracket) → (if z then Settled (stays reader read closer s2) else link_or reader read (link_tail_in (decisions.following reader read closer.end)) t closer s2) ≡ Settled (stays reader read closer s2)
        go true q = refl
        go false q = absurd (let z : ⊥ = cc in z)

    -- a footnote reference
    pub footnote-closes : (mid : InlineState) (taken : Option Bracket) → IsReady mid.brackets mid.doubled → TakenAs place bs tk taken → Remembers text place s mid → true ≡ forms_footnote options footnotes (footnote_of options (is_cell_of leaf) (is_there close mid.label_close) text close taken)
        → IfSome taken (λ b. b.inside ≤ close) → IfSome taken (λ b. LeavesFootnote b.start mid new) → Remembers text place s new → next.at ≡ close + 1 → next.pending ≡ next.at → after ≡ before → CountsOf (footnote_of options (is_cell_of leaf) (is_there close mid.label_close) text close taken) footnotes others
        → IfSome (footnote_of options (is_cell_of leaf) (is_there close mid.label_close) text close taken) (λ label. KeepsLabel label mid.texts.items new.texts.items) → mid.texts ≡ old.texts
        → (mine : InlineState) → IsFlushed from close old mine → SameRows mine mid
        → IfSome taken (λ b. IfSome (footnote_of options (is_cell_of leaf) (is_there close mid.label_close) text close taken) (λ label. WritesReference b (normal_form label) (close + 1) mid new)) → Goal
    footnote-closes mid taken ready takes m0 formed up leaves m at pending same_callback counts keeps texts mine flushed rows writes = go taken refl tk refl
      where
        lt : close < next.at
        lt = let q = at in omega (arith, q)

        note_of : Option Bracket → Option (List ℕ)
        note_of b = footnote_of options (is_cell_of leaf) (is_there close mid.label_close) text close b

        go : (b : Option Bracket) → taken ≡ b → (d : Option Taken) → tk ≡ d → Goal
        go None e d f = absurd (true≢false (formed ∙ ap (λ b. forms_footnote options footnotes (note_of b)) e))
        go (Some b) e None f = absurd (let q : taken ≡ None = subst (λ d. TakenAs place bs d taken) f takes in let z : ⊥ = cc in z)
        go (Some b) e (Some t) f =
            let i = taken_is t taken b (subst (λ d. TakenAs place bs d taken) f takes) e in
            let le = subst (λ (o : Option Bracket). IfSome o (λ b. b.inside ≤ close)) e up in
            let leaving = subst (λ (o : Option Bracket). IfSome o (λ b. LeavesFootnote b.start mid new)) e leaves in
            by i le leaving (subst (λ (o : Option Bracket). CountsOf (note_of o) footnotes others) e counts) (subst (λ (o : Option Bracket). IfSome (note_of o) (λ label. KeepsLabel label mid.texts.items new.texts.items)) e keeps)
            (subst (λ (o : Option Bracket). IfSome o (λ b. IfSome (note_of o) (λ label. WritesReference b (normal_form label) (close + 1) mid new))) e writes) (note_of (Some b)) refl (formed ∙ ap (λ b. forms_footnote options footnotes (note_of b)) e)
          where
            s2 : State
            s2 = with_openers ready.openers s

            by : (t.opener.is_inactive ≡ false) × (drop t.nearer bs ≡ b ∷ drop (suc t.nearer) bs) × IsPlaced place t.opener b → b.inside ≤ close → LeavesFootnote b.start mid new → CountsOf (note_of (Some b)) footnotes others → IfSome (note_of (Some b)) (λ label. KeepsLabel label mid.texts.items new.texts.items)
                → IfSome (note_of (Some b)) (λ label. WritesReference b (normal_form label) (close + 1) mid new) → (n : Option (List ℕ)) → note_of (Some b) ≡ n → true ≡ forms_footnote options footnotes n → Goal
            by i le leaving counted kept written None g h = absurd (true≢false h)
            by i le leaving counted kept written (Some note) g h =
                let made = subst (λ (o : Option (List ℕ)). IfSome o (λ label. WritesReference b (normal_form label) (close + 1) mid new)) g written in
                let owned = subst (λ (o : Option (List ℕ)). IfSome o (λ label. KeepsLabel label mid.texts.items new.texts.items)) g kept in
                let w = c.within in
                let inactive_below = there-same reader read text place p close closer.start mid.label_close s.label_close (let q : close ≤ length text = omega (arith, w) in q) m0.within c.start m0.label in
                let to : Outcome = forms reader read t (Footnote (normal_form note) closer.end) closer.end (map dropped) s2 in
                let comes : ComesTo R (decide reader read s closer) to before after = subst (λ (d : Decision). ComesTo R d to before after)
                (sym (decide-is reader read s closer ∙ ready.decision ∙ ap (λ d. with_taken reader read d closer s2) f
                ∙ ap (λ z. if z then Settled (stays reader read closer s2) else link_or reader read (link_tail_in (decisions.following reader read closer.end)) t closer s2) i.0
                ∙ footnote-named options (is_cell_of leaf) reader read text place p r.options_are r.cell close closer c t b i.2 le footnotes s2 (is_there close mid.label_close) note inactive_below r.footnotes_are g (sym h)))
                (refl, same_callback) in
                record {
                  outcome = forms reader read t (Footnote (normal_form note) closer.end) closer.end (map dropped) s2;
                  comes = comes;
                  at = closer-end reader read text place p close closer c ∙ ap place (sym at);
                  pending = pending;
                  shows = shown (map dropped (drop (suc t.nearer) ready.openers)) (drop (suc t.nearer) bs) (forms reader read t (Footnote (normal_form note) closer.end) closer.end (map dropped) s2).after refl lt
                      (footnote-formed options.wikilinks place close close t.nearer ready.openers bs b mid.brackets mid.doubled ready.view here i.1 new.brackets new.doubled leaving.none leaving.drops)
                      (record { expansion_left = m.expansion_left; label = m.label; within = m.within });
                  notes = (owned.0, owned.1, owned.2 ∙ ap (λ v. v.items ++ (owned.0 ∷ [])) texts);
                  examines = seen mine mid flushed rows made.forgets.examined;
                  uses = rise-one (fold note) footnotes others (subst (λ o. CountsOf o footnotes others) g counted);
                  reads = λ ended.
                      footnote-reads leaf reader read place closer s bs from close old mine mid new flushed rows text same c t.opener b i.2 le (normal_form note) made t.nearer i.1 to.after (comes-any R (decide reader read s closer) to s.asked before after comes);
                }

    -- a link or an image, or nothing
    element : (z : Bool) (n : ℕ) (os2 : List Opener) (b : Bracket) (mid : InlineState) → StandFor options.wikilinks place close os2 bs mid.brackets mid.doubled → drop n bs ≡ b ∷ drop (suc n) bs → NoneStand (suc n) os2 bs → LeavesElement z b.start mid new
        → StandFor options.wikilinks place close (after_link z (drop (suc n) os2)) (drop (suc n) bs) new.brackets new.doubled
    element true n os2 b mid h there none leaves =
        subst (λ (v : Brackets). StandFor options.wikilinks place close (drop (suc n) os2) (drop (suc n) bs) v new.doubled) (sym leaves.same)
        (image-formed options.wikilinks place close close n os2 bs b mid.brackets mid.doubled h here there new.doubled none leaves.drops)
    element false n os2 b mid h there none leaves =
        link-formed options.wikilinks place close close n os2 bs b mid.brackets mid.doubled h here there new.brackets leaves.between new.doubled none leaves.deactivates leaves.drops leaves.deactivates_doubled

    pub target-closes : (st between : InlineState) (b : Bracket) (taken : Option Bracket) (target : Target) → IsReady st.brackets st.doubled → TakenAs place bs tk taken → taken ≡ Some b → Remembers text place s st → between.brackets ≡ st.brackets → between.doubled ≡ st.doubled
        → TargetDecides R options lookup references leaf text b close st between (Some target) before after → false ≡ forms_footnote options footnotes (footnote_of options (is_cell_of leaf) (is_there close st.label_close) text close taken)
        → close < target.resume → target.resume ≤ length text → EndsWithin text between.label_close → FormsTarget options b target between new next → between.links ≡ old.links → Keeps footnotes others
        → old.delimiters.examined + least_examined (runs_of (siblings_from 0 (drop b.runs old.delimiters.placed.items))) ≤ new.delimiters.examined
        → ((nearer : ℕ) → drop nearer bs ≡ b ∷ drop (suc nearer) bs → reads.place_of leaf (target.end - 1) + 1 ≡ place target.end → (after : State) → ReadsFor (record { result = Forms nearer (Linking (record { linked = shown_link target.link; end = place target.end })); after = after })) → Goal
    target-closes st between b taken target ready takes e m same_brackets same_doubled decides no_note lt within label formed table unused examined reading = go tk refl
      where
        s2 : State
        s2 = with_openers ready.openers s

        go : (d : Option Taken) → tk ≡ d → Goal
        go None f = absurd (let q : taken ≡ None = subst (λ d. TakenAs place bs d taken) f takes in let z : ⊥ = cc in z)
        go (Some t) f =
            let i = taken_is t taken b (subst (λ d. TakenAs place bs d taken) f takes) e in
            let all = decides footnotes reader read place t closer s2 r c i.2 (record { expansion_left = m.expansion_left; label = m.label; within = m.within }) (sym (no_note ∙ ap (λ o. forms_footnote options footnotes (footnote_of options (is_cell_of leaf) (is_there close st.label_close) text close o)) e)) in
            let l = all.0 in
            let at = formed.at in
            let to : Outcome = target_outcome reader read place t closer (with_left between.expansion_left (option_map place between.label_close) l.asked s2) (Some target) in
            let comes : ComesTo R (decide reader read s closer) to before after = subst (λ (d : Decision). ComesTo R d to before after)
            (sym (decide-is reader read s closer ∙ ready.decision ∙ ap (λ d. with_taken reader read d closer s2) f
            ∙ ap (λ z. if z then Settled (stays reader read closer s2) else link_or reader read (link_tail_in (decisions.following reader read closer.end)) t closer s2) i.0))
            l.comes in
            record {
              outcome = target_outcome reader read place t closer (with_left between.expansion_left (option_map place between.label_close) l.asked s2) (Some target);
              comes = comes;
              reads = λ ended. reading t.nearer i.1 all.1 to.after (comes-any R (decide reader read s closer) to s.asked before after comes);
              at = ap place (sym at);
              pending = formed.pending ∙ sym at;
              shows = shown (after_link t.opener.bracket.is_image (drop (suc t.nearer) ready.openers)) (drop (suc t.nearer) bs)
                  (target_outcome reader read place t closer (with_left between.expansion_left (option_map place between.label_close) l.asked s2) (Some target)).after refl (let q : close < next.at = omega (arith, lt, at) in q)
                  (subst (λ z. StandFor options.wikilinks place close (after_link z (drop (suc t.nearer) ready.openers)) (drop (suc t.nearer) bs) new.brackets new.doubled) (sym (ap (λ (x : items.Bracket). x.is_image) i.2.bracket))
                  (element b.is_image t.nearer ready.openers b between
                  (subst (λ (v : Brackets). StandFor options.wikilinks place close ready.openers bs v between.doubled) (sym same_brackets) (subst (λ (v : Brackets). StandFor options.wikilinks place close ready.openers bs st.brackets v) (sym same_doubled) ready.view))
                  i.1 (ready.none t f) formed.leaves))
                  (record { expansion_left = sym formed.expansion_left; label = ap (option_map place) (sym formed.label); within = subst (EndsWithin text) (sym formed.label) label });
              notes = (target.link, refl, formed.links ∙ ap (λ v. v.items ++ (target.link ∷ [])) table);
              examines = (b, i.1, examined);
              uses = rise-none footnotes others unused;
            }

    -- a text
    pub text-closes : (st between : InlineState) (taken : Option Bracket) → IsReady st.brackets st.doubled → TakenAs place bs tk taken → Remembers text place s st → false ≡ forms_footnote options footnotes (footnote_of options (is_cell_of leaf) (is_there close st.label_close) text close taken)
        → LinksTaken R options lookup references leaf text taken close st between None before after
        → new.brackets ≡ between.brackets → new.doubled ≡ between.doubled → new.expansion_left ≡ between.expansion_left → new.label_close ≡ between.label_close → next.at ≡ close + 1 → next.pending ≡ next.at → new.links ≡ between.links → st.links ≡ old.links → Keeps footnotes others → old.delimiters.examined ≤ new.delimiters.examined
        → ((after : State) → ReadsFor (record { result = StaysText; after = after })) → Goal
    text-closes st between taken ready takes m no_note links same_brackets same_doubled left label at pending table old_table unused examined reading = go taken refl links
      where
        s2 : State
        s2 = with_openers ready.openers s

        lt : close < next.at
        lt = let q = at in omega (arith, q)

        place_at : closer.end ≡ place next.at
        place_at = closer-end reader read text place p close closer c ∙ ap place (sym at)

        view_by : (a : InlineState) → a.brackets ≡ st.brackets → a.doubled ≡ st.doubled → new.brackets ≡ a.brackets → new.doubled ≡ a.doubled → StandFor options.wikilinks place close ready.openers bs new.brackets new.doubled
        view_by a x y z w =
            subst (λ (v : Brackets). StandFor options.wikilinks place close ready.openers bs v new.doubled) (sym (z ∙ x)) (subst (λ (v : Brackets). StandFor options.wikilinks place close ready.openers bs st.brackets v) (sym (w ∙ y)) ready.view)

        go : (b : Option Bracket) → taken ≡ b → LinksTaken R options lookup references leaf text b close st between None before after → Goal
        go None e l =
            let none = none_taken tk taken s2 takes e in
            let same_state = l.1 in
            let comes : ComesTo R (decide reader read s closer) (stays reader read closer s2) before after = subst (λ (d : Decision). ComesTo R d (stays reader read closer s2) before after) (sym (decide-is reader read s closer ∙ ready.decision ∙ none)) (refl, l.2) in
            record {
              outcome = stays reader read closer s2;
              comes = comes;
              reads = λ ended. reading (stays reader read closer s2).after (comes-any R (decide reader read s closer) (stays reader read closer s2) s.asked before after comes);
              at = place_at;
              pending = pending;
              shows = shown ready.openers bs (stays reader read closer s2).after refl lt
                  (view_by between (ap (λ (x : InlineState). x.brackets) same_state) (ap (λ (x : InlineState). x.doubled) same_state) same_brackets same_doubled)
                  (record {
                    expansion_left = m.expansion_left ∙ sym (left ∙ ap (λ (x : InlineState). x.expansion_left) same_state);
                    label = m.label ∙ ap (option_map place) (sym (label ∙ ap (λ (x : InlineState). x.label_close) same_state));
                    within = subst (EndsWithin text) (sym (label ∙ ap (λ (x : InlineState). x.label_close) same_state)) m.within;
                  });
              notes = table ∙ ap (λ (x : InlineState). x.links) same_state ∙ old_table;
              examines = examined;
              uses = rise-none footnotes others unused;
            }
        go (Some b) e l = by l.target refl l.formed tk refl
          where
            by : (found : Option Target) → l.target ≡ found → Formed options b l.target l.between between None → (d : Option Taken) → tk ≡ d → Goal
            by (Some target) g formed d f = absurd (subst (λ t. Formed options b t l.between between None) g formed)
            by None g formed None f = absurd (let q : taken ≡ None = subst (λ d. TakenAs place bs d taken) f takes in let z : ⊥ = cc in z)
            by None g formed (Some t) f =
                let same_state : between ≡ l.between = subst (λ t. Formed options b t l.between between None) g formed in
                let i = taken_is t taken b (subst (λ d. TakenAs place bs d taken) f takes) e in
                let decided = subst (λ (x : Option Target). TargetDecides R options lookup references leaf text b close st l.between x before after) g l.decides in
                let k = (decided footnotes reader read place t closer s2 r c i.2 (record { expansion_left = m.expansion_left; label = m.label; within = m.within }) (sym (no_note ∙ ap (λ o. forms_footnote options footnotes (footnote_of options (is_cell_of leaf) (is_there close st.label_close) text close o)) e))).0 in
                let s3 : State = with_left l.between.expansion_left (option_map place l.between.label_close) k.asked s2 in
                let comes : ComesTo R (decide reader read s closer) (stays reader read closer s3) before after = subst (λ (d : Decision). ComesTo R d (stays reader read closer s3) before after)
                (sym (decide-is reader read s closer ∙ ready.decision ∙ ap (λ d. with_taken reader read d closer s2) f
                ∙ ap (λ z. if z then Settled (stays reader read closer s2) else link_or reader read (link_tail_in (decisions.following reader read closer.end)) t closer s2) i.0))
                k.comes in
                record {
                  outcome = stays reader read closer s3;
                  comes = comes;
                  reads = λ ended. reading (stays reader read closer s3).after (comes-any R (decide reader read s closer) (stays reader read closer s3) s.asked before after comes);
                  at = place_at;
                  pending = pending;
                  shows = shown ready.openers bs (stays reader read closer s3).after refl lt (view_by l.between l.same.brackets l.same.doubled (same_brackets ∙ ap (λ (x : InlineState). x.brackets) same_state) (same_doubled ∙ ap (λ (x : InlineState). x.doubled) same_state))
                      (record {
                        expansion_left = sym (left ∙ ap (λ (x : InlineState). x.expansion_left) same_state);
                        label = ap (option_map place) (sym (label ∙ ap (λ (x : InlineState). x.label_close) same_state));
                        within = subst (EndsWithin text) (sym (label ∙ ap (λ (x : InlineState). x.label_close) same_state)) (l.label m.within);
                      });
                  notes = table ∙ ap (λ (x : InlineState). x.links) same_state ∙ l.table ∙ old_table;
                  examines = examined;
                  uses = rise-none footnotes others unused;
                }

    -- the result of `link`
    pub linked-closes : (st : InlineState) (taken : Option Bracket) → IsReady st.brackets st.doubled → TakenAs place bs tk taken → Remembers text place s st → false ≡ forms_footnote options footnotes (footnote_of options (is_cell_of leaf) (is_there close st.label_close) text close taken)
        → LinksTaken R options lookup references leaf text taken close st new (Some next) before after → close < next.at → next.at ≤ length text → st.links ≡ old.links → Keeps footnotes others
        → (mine : InlineState) → IsFlushed from close old mine → SameRows mine st → IfSome taken (IsTakenFrom st) → Goal
    linked-closes st taken ready takes m no_note links lt within old_table unused mine flushed rows stand = go taken refl links
      where
        go : (b : Option Bracket) → taken ≡ b → LinksTaken R options lookup references leaf text b close st new (Some next) before after → Goal
        go None e l = absurd (let q = l.0 in let z : ⊥ = cc in z)
        go (Some b) e l = by l.target refl l.formed
          where
            by : (found : Option Target) → l.target ≡ found → Formed options b l.target l.between new (Some next) → Goal
            by None g formed = absurd (subst (λ t. Formed options b t l.between new (Some next)) g formed)
            by (Some target) g formed =
                let f = subst (λ t. Formed options b t l.between new (Some next)) g formed in
                let at = f.at in
                let between : SameRows st l.between = record {
                  texts = ap (λ v. v.items) l.texts;
                  links = ap (λ v. v.items) l.table;
                  slots = ap (λ v. v.items) l.same.slots;
                  runs = ap (λ d. d.placed.items) l.same.delimiters;
                  examined = ap (λ d. d.examined) l.same.delimiters;
                  quotes = ap (λ q. q.placed.items) l.quotes;
                } in
                let placed = (subst (λ (o : Option Bracket). IfSome o (IsTakenFrom st)) e stand).placed in
                target-closes st l.between b taken target ready takes e m l.same.brackets l.same.doubled (subst (λ (x : Option Target). TargetDecides R options lookup references leaf text b close st l.between x before after) g l.decides) no_note
                (let q : close < target.resume = omega (arith, lt, at) in q) (let q : target.resume ≤ length text = omega (arith, within, at) in q) (l.label m.within) f (l.table ∙ old_table) unused
                (link-seen mine l.between flushed (rows-on mine st l.between rows between) b f.writes.examined)
                (λ nearer there ends after comes. link-reads leaf reader read place closer s bs from close old mine l.between new flushed (rows-on mine st l.between rows between) b target (subst (λ o. WritesElement o b target l.between new) (sym r.options_are) f.writes)
                (subst (λ (x : List Slot). b.slot < length x) (sym between.slots) placed.there) (λ d. subst (λ (x : List Slot). (get_or x b.slot d).kind ≡ kind.Text) (sym between.slots) (placed.text d)) nearer there ends after comes)

  -- ## The calls in between

  pub remembers-on : (st new : InlineState) → Remembers text place s st → new.expansion_left ≡ st.expansion_left → new.label_close ≡ st.label_close → Remembers text place s new
  remembers-on st new m e f = record { expansion_left = m.expansion_left ∙ sym e; label = m.label ∙ ap (option_map place) (sym f); within = subst (EndsWithin text) (sym f) m.within }

  pub record IsStage (st : InlineState) (taken : Option Bracket) : Type 0 where
    pub table : st.links ≡ old.links
    pub texts : st.texts ≡ old.texts
    pub view : StandFor options.wikilinks place close os bs st.brackets st.doubled
    pub taken_as : TakenAs place bs tk taken
    pub remembers : Remembers text place s st

  pub taken-stage : (flushed took : InlineState) (taken : Option Bracket) → flushed ≡ record old { slots = flushed.slots } → took ≡ record flushed { brackets = took.brackets }
      → ((wikilinks : Bool) (place : ℕ → ℕ) (openers : List Opener) (bs : List Bracket) → StandFor wikilinks place close openers bs flushed.brackets flushed.doubled → StandFor wikilinks place close (used_up openers) bs took.brackets took.doubled × TakenAs place bs (nearest openers) taken)
      → IsStage took taken
  taken-stage flushed took taken a b takes =
      let h : StandFor options.wikilinks place close s.openers bs flushed.brackets flushed.doubled = subst (λ (x : InlineState). StandFor options.wikilinks place close s.openers bs x.brackets x.doubled) (sym a) shows.openers in
      let t = takes options.wikilinks place s.openers bs h in
      record {
        table = ap (λ (x : InlineState). x.links) b ∙ ap (λ (x : InlineState). x.links) a;
        texts = ap (λ (x : InlineState). x.texts) b ∙ ap (λ (x : InlineState). x.texts) a;
        view = t.0;
        taken_as = t.1;
        remembers = remembers-on old took shows.remembers (ap (λ (x : InlineState). x.expansion_left) b ∙ ap (λ (x : InlineState). x.expansion_left) a) (ap (λ (x : InlineState). x.label_close) b ∙ ap (λ (x : InlineState). x.label_close) a);
      }

  pub record IsTriedStage (st : InlineState) (taken : Option Bracket) : Type 0 where
    pub table : st.links ≡ old.links
    pub texts : st.texts ≡ old.texts
    pub ready : IsReady st.brackets st.doubled
    pub taken_as : TakenAs place bs tk taken
    pub remembers : Remembers text place s st

  pub tried-stage : (took st : InlineState) (taken : Option Bracket) → IsStage took taken → st ≡ record took { doubled = st.doubled } → TriesDoubled tests took.doubled st.doubled → false ≡ forms_wikilink options leaf close took.doubled → IsTriedStage st taken
  tried-stage took st taken i a tries none = record {
    table = ap (λ (x : InlineState). x.links) a ∙ i.table;
    texts = ap (λ (x : InlineState). x.texts) a ∙ i.texts;
    ready = ready st.brackets took.doubled st.doubled (subst (λ (x : InlineState). StandFor options.wikilinks place close os bs x.brackets took.doubled) (sym a) i.view) tries none;
    taken_as = i.taken_as;
    remembers = remembers-on took st i.remembers (ap (λ (x : InlineState). x.expansion_left) a) (ap (λ (x : InlineState). x.label_close) a);
  }

  -- ## If memory is refused

  -- the grammar asks the questions that were asked with the bracket that was taken
  pub linked-asks : {F : Type 0} (R : F → BrokenLink → Option (CowStr × CowStr) → F → Type 0) (before after : F) (st : InlineState) (taken : Option Bracket) → IsTriedStage st taken
      → false ≡ forms_footnote options footnotes (footnote_of options (is_cell_of leaf) (is_there close st.label_close) text close taken)
      → AsksOfLink R options lookup references leaf text taken close st before after → AsksOf R (decide reader read s closer) before after
  linked-asks R before after st taken i no_note asks = go taken refl asks
    where
      s2 : State
      s2 = with_openers i.ready.openers s

      go : (b : Option Bracket) → taken ≡ b → AsksOfLink R options lookup references leaf text b close st before after → AsksOf R (decide reader read s closer) before after
      go None e same = asks-none R (decide reader read s closer) before after same
      go (Some b) e target = by tk refl
        where
          by : (d : Option Taken) → tk ≡ d → AsksOf R (decide reader read s closer) before after
          by None f = absurd (let q : taken ≡ None = subst (λ d. TakenAs place bs d taken) f i.taken_as in let z : ⊥ = cc in z)
          by (Some t) f =
              let k = taken_is t taken b (subst (λ d. TakenAs place bs d taken) f i.taken_as) e in
              let m = i.remembers in
              subst (λ (d : Decision). AsksOf R d before after)
              (sym (decide-is reader read s closer ∙ i.ready.decision ∙ ap (λ d. with_taken reader read d closer s2) f
              ∙ ap (λ z. if z then Settled (stays reader read closer s2) else link_or reader read (link_tail_in (decisions.following reader read closer.end)) t closer s2) k.0))
              (target footnotes reader read place t closer s2 r c k.2 (record { expansion_left = m.expansion_left; label = m.label; within = m.within }) (sym (no_note ∙ ap (λ o. forms_footnote options footnotes (footnote_of options (is_cell_of leaf) (is_there close st.label_close) text close o)) e)))

pub inside-up : (text : List ℕ) (close : ℕ) (taken : Option Bracket) → IfSome taken (IsBracket text close) → IfSome taken (λ b. b.inside ≤ close)
inside-up text close None h = h
inside-up text close (Some b) h = h.before
