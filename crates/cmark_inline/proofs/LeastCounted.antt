-- The least number of steps that parts need, while a leaf is read.
use Rattle.std.specs.Prelude.{map, drop, Some, None, Ok, Err, IfSome, OnOk, Result as Answer}
use Rattle.std.proofs.Common.{◌≡◌, ◌⊎◌, inl, inr, ℕ, suc, ◌+◌, ◌<◌, ◌≤◌, ◌==◌, ◌||◌, ◌-◌, Bool, false, List, ◌∷◌, length, get_or, sym, ap, ◌∙◌, subst, arith, length-drop, true≢false}
use Rattle.std.proofs.lemmas.List.{drop-map}
use Rattle.cmark_emphasis.specs.Least.{least_examined}
use Rattle.cmark_emphasis.specs.Shown.{shown_whole}
use Rattle.cmark_grammar.specs.BracketStates.{Result, StaysText, Forms, State}
use Rattle.cmark_grammar.specs.Emphasis as emphasis
use Rattle.cmark_grammar.specs.InlineHtml.{after_markup}
use Rattle.cmark_grammar.specs.Items.{Bracket, Item}
use Rattle.cmark_grammar.specs.Options.{Options}
use Rattle.cmark_grammar.specs.Readers.{Reader}
use Rattle.cmark_grammar.specs.Parts.{Formed, Linking, Footnote, Wiki, Parts, Nil, Single, Form, Closing, Opening}
use Rattle.cmark_inline_model.specs.SiblingsModel.{siblings_of}
use Rattle.cmark_inline_model.specs.BracketPass.{Pass, formed_by, resulting}
use Rattle.cmark_inline_model.specs.PartLists.{Cut, cut_at, join}
use Rattle.cmark_inline_model.specs.Progress.{Fits}
use Rattle.cmark_inline_model.specs.RowParts.{BracketPlace, counted, runs_in}
use Rattle.cmark_inline_model.proofs.PartCuts.{IsCut, Cuts, cuts}
use Rattle.cmark_inline_model.proofs.RowParts.{runs-counted}
use Rattle.cmark_references.specs.declared.footnotes.FootnoteDefs.{FootnoteDefs}
use Rattle.cmark_leaf_text.specs.Reads.{text_of}
use Rattle.cmark_leaf_text.specs.declared.leaf_text.LeafText.{LeafText}
use Rattle.cmark_slots.specs.MarkedSlots.{siblings_from}
use Rattle.cmark_slots.specs.declared.bracket.Bracket as slots
use Rattle.cmark_emphasis.specs.declared.run.PlacedRun.{PlacedRun}
use Rattle.cmark_span_scan.specs.declared.backtick_runs.BacktickRuns.{BacktickRuns}
use Rattle.cmark_span_scan.specs.declared.dollars.Dollars.{Dollars}
use Rattle.cmark_inline.specs.Closers.{Examines}
use Rattle.cmark_inline.specs.LeastSteps.{AreCounted, PassesAt, PassesFound, Tally, VisitsAt, closers_of, least_among, least_closers, least_formed, least_html, least_within, passed_of, visited_in}
use Rattle.cmark_inline.specs.Reached.{bracket_place, runs_of}
use Rattle.cmark_inline.specs.Uses.{RiseBy, uses_by, uses_in, uses_of}
use Rattle.cmark_inline.specs.declared.markup.Unclosed.{Unclosed}
use Rattle.cmark_inline.specs.declared.state.InlineState.{InlineState}
use Rattle.cmark_inline.specs.declared.step.Sought.{Sought}
use Rattle.cmark_inline.proofs.LinkSteps.{siblings-counted}
use Rattle.cmark_inline.proofs.UsesCounted.{rise-on, rise-same, uses-join}

-- ## Lists of parts

pub closers-join : (a b : Parts) → least_closers (join a b) ≡ least_closers a + least_closers b
closers-join Nil b = omega arith
closers-join (Single x after) b = let e = closers-join after b in omega (arith, e)
closers-join (Form opener inside closer formed after) b = let e = closers-join after b in omega (arith, e)
closers-join (Closing closer after) b = closers-join after b
closers-join (Opening opener after) b = closers-join after b

pub within-join : (options : Options) (a b : Parts) → least_within options (join a b) ≡ least_within options a + least_within options b
within-join options Nil b = omega arith
within-join options (Single x after) b = within-join options after b
within-join options (Form opener inside closer formed after) b = let e = within-join options after b in omega (arith, e)
within-join options (Closing closer after) b = within-join options after b
within-join options (Opening opener after) b = within-join options after b

pub html-join : (source : List ℕ) (a b : Parts) → least_html source (join a b) ≡ least_html source a + least_html source b
html-join source Nil b = omega arith
html-join source (Single x after) b = let e = html-join source after b in omega (arith, e)
html-join source (Form opener inside closer formed after) b = let e = html-join source after b in omega (arith, e)
html-join source (Closing closer after) b = html-join source after b
html-join source (Opening opener after) b = html-join source after b

-- ## One step more

-- the steps that an item needs were taken in between
pub record TakesFor (source : List ℕ) (x : Item) (was sought : Sought) : Type 0 where
  pub html : passed_of source x + was.unclosed.passed ≤ sought.unclosed.passed
  pub closers : closers_of x.kind + visited_in was ≤ visited_in sought

pub counted-same : (reader : Reader) (here : Parts) (tally : Tally) (old new : ℕ) → new ≡ old → AreCounted reader here tally old → AreCounted reader here tally new
counted-same reader here tally old new e h = subst (AreCounted reader here tally) (sym e) h

pub counted-more : (reader : Reader) (here : Parts) (tally : Tally) (found : Sought) (examined : ℕ) → tally.sought.unclosed.passed ≤ found.unclosed.passed → visited_in tally.sought ≤ visited_in found → AreCounted reader here tally examined → AreCounted reader here (record tally { sought = found }) examined
counted-more reader here tally found examined passed more h = record { html = (let p = h.html in omega (arith, p, passed)); openers = h.openers; closers = (let c = h.closers in omega (arith, c, more)); uses = h.uses }

pub counted-item : (reader : Reader) (here : Parts) (tally : Tally) (found : Sought) (old new : ℕ) (x : Item) → new ≡ old → TakesFor reader.source x tally.sought found → AreCounted reader here tally old → AreCounted reader (join here (Single x Nil)) (record tally { sought = found }) new
counted-item reader here tally found old new x e takes h = record {
  html = (let j = html-join reader.source here (Single x Nil) in let p = h.html in let f = takes.html in omega (arith, j, p, f));
  openers = (let j = within-join reader.options here (Single x Nil) in let o = h.openers in omega (arith, j, o, e));
  closers = (let j = closers-join here (Single x Nil) in let c = h.closers in let f = takes.closers in omega (arith, j, c, f));
  uses = rise-same (λ folded. uses_of folded here) (λ folded. uses_of folded (join here (Single x Nil))) tally.begun tally.notes (λ folded. (let j = uses-join folded here (Single x Nil) in omega (arith, j))) h.uses;
}

pub counted-opening : (reader : Reader) (here : Parts) (tally : Tally) (old new : ℕ) (opener : Bracket) → new ≡ old → AreCounted reader here tally old → AreCounted reader (join here (Opening opener Nil)) tally new
counted-opening reader here tally old new opener e h = record {
  html = (let j = html-join reader.source here (Opening opener Nil) in let p = h.html in omega (arith, j, p));
  openers = (let j = within-join reader.options here (Opening opener Nil) in let o = h.openers in omega (arith, j, o, e));
  closers = (let j = closers-join here (Opening opener Nil) in let c = h.closers in omega (arith, j, c));
  uses = rise-same (λ folded. uses_of folded here) (λ folded. uses_of folded (join here (Opening opener Nil))) tally.begun tally.notes (λ folded. (let j = uses-join folded here (Opening opener Nil) in omega (arith, j))) h.uses;
}

-- ## Calls that visit no run

pub always-ok : {X E : Type 0} {P : Type 0} (r : Answer X E) → P → OnOk r P
always-ok (Ok x) p = p
always-ok (Err e) p = tt

-- a byte that is neither a backtick nor a dollar sign
abbrev pub IsNeither : (text : List ℕ) → (at : ℕ) → Type 0
IsNeither text at = (get_or text at 0 ≡ 96 → ⊥) × (get_or text at 0 ≡ 36 → ⊥)

pub by-one : (text : List ℕ) (at n : ℕ) → ((n == 96) || (n == 36)) ≡ false → get_or text at 0 ≡ n → IsNeither text at
by-one text at n differs is = (
  λ e. true≢false (sym (ap (λ b. (b == 96) || (b == 36)) (sym is ∙ e)) ∙ differs),
  λ e. true≢false (sym (ap (λ b. (b == 96) || (b == 36)) (sym is ∙ e)) ∙ differs),
)

pub by-two : (text : List ℕ) (at m n : ℕ) → ((m == 96) || (m == 36)) ≡ false → ((n == 96) || (n == 36)) ≡ false → (get_or text at 0 ≡ m) ⊎ (get_or text at 0 ≡ n) → IsNeither text at
by-two text at m n one other (inl is) = by-one text at m one is
by-two text at m n one other (inr is) = by-one text at n other is

pub none-visits : (text : List ℕ) (at : ℕ) (was sought : Sought) → sought.runs ≡ was.runs → sought.dollars ≡ was.dollars → IsNeither text at → VisitsAt text at was sought
none-visits text at was sought runs signs neither = record {
  runs = (let e = ap (λ (r : BacktickRuns). r.visited) runs in omega (arith, e));
  signs = (let e = ap (λ (d : Dollars). d.visited) signs in omega (arith, e));
  code = λ is. absurd (neither.0 is);
  formula = λ is. absurd (neither.1 is);
}

-- a byte other than `<`
pub other-than : (text : List ℕ) (at n : ℕ) → (n == 60) ≡ false → get_or text at 0 ≡ n → get_or text at 0 ≡ 60 → ⊥
other-than text at n differs is e = true≢false (sym (ap (λ b. b == 60) (sym is ∙ e)) ∙ differs)

pub other-than-two : (text : List ℕ) (at m n : ℕ) → (m == 60) ≡ false → (n == 60) ≡ false → (get_or text at 0 ≡ m) ⊎ (get_or text at 0 ≡ n) → get_or text at 0 ≡ 60 → ⊥
other-than-two text at m n one other (inl is) = other-than text at m one is
other-than-two text at m n one other (inr is) = other-than text at n other is

pub none-passes : (emails : Bool) (leaf : LeafText) (text : List ℕ) (at : ℕ) (unclosed : Unclosed) → text ≡ text_of leaf → (get_or text at 0 ≡ 60 → ⊥) → PassesAt emails leaf at unclosed unclosed
none-passes emails leaf text at unclosed same other = record { grows = omega arith; markup = λ is link opens. absurd (other (ap (λ t. get_or t at 0) same ∙ is)) }

-- ## The bytes that a search for markup passes

pub none-found : (bytes : List ℕ) (was is : Unclosed) → after_markup bytes ≡ None → PassesFound bytes was is
none-found bytes was is none = subst (λ m. IfSome m (λ rest. was.passed + (length bytes - length rest) ≤ is.passed + 2)) (sym none) tt

pub size-found : (bytes : List ℕ) (size : ℕ) (was is : Unclosed) → after_markup bytes ≡ Some (drop size bytes) → size ≤ length bytes → is.passed + 2 ≡ was.passed + size → PassesFound bytes was is
size-found bytes size was is some within least =
    let d = length-drop size bytes in
    subst (λ m. IfSome m (λ rest. was.passed + (length bytes - length rest) ≤ is.passed + 2)) (sym some) (omega (arith, d, within, least))

-- ## A closing bracket

-- the parts are cut at the opening bracket with `nearer` nearer ones, and these runs are after it
pub record CutsRuns (options : Options) (place : ℕ → ℕ) (nearer : ℕ) (bs : List slots.Bracket) (parts : Parts) (placed : List PlacedRun) : Type 0 where
  pub cut : Cut
  pub cut_is : cut_at nearer parts ≡ Some cut
  pub place_at : BracketPlace
  pub place_is : drop nearer (map (bracket_place place) bs) ≡ place_at ∷ drop (suc nearer) (map (bracket_place place) bs)
  pub runs_after : runs_in (siblings_of options cut.inside) ≡ drop place_at.runs (runs_of placed)

first-of : {A : Type 0} (xs ys : List A) (x y : A) → x ∷ xs ≡ y ∷ ys → x ≡ y
first-of xs ys x y e = let q : x ≡ y = cc in q

module _ (reader : Reader) (place : ℕ → ℕ) where
  abbrev options : Options
  options = reader.options

  -- the runs between two brackets are the runs after the opening one
  among-following : (nearer : ℕ) (bs : List slots.Bracket) (parts : Parts) (placed : List PlacedRun) (b : slots.Bracket) → (k : CutsRuns options place nearer bs parts placed) → drop nearer bs ≡ b ∷ drop (suc nearer) bs
      → least_among (siblings_of options k.cut.inside) ≡ least_examined (emphasis.runs_of (siblings_from 0 (drop b.runs placed)))
  among-following nearer bs parts placed b k there =
      let same : bracket_place place b ≡ k.place_at = first-of _ _ (bracket_place place b) k.place_at (sym (drop-map (bracket_place place) nearer bs ∙ ap (map (bracket_place place)) there) ∙ k.place_is) in
      ap (λ l. least_examined (emphasis.runs_of l))
      (runs-counted (siblings_of options k.cut.inside) 0 ∙ ap (counted 0) (k.runs_after ∙ ap (λ (p : BracketPlace). drop p.runs (runs_of placed)) (sym same) ∙ drop-map shown_whole b.runs placed) ∙ siblings-counted 0 (drop b.runs placed))

  -- the element that is formed replaces the parts that were cut
  formed-counted : (p : Pass) (closer : Bracket) (formed : Formed) (next : State) (nearer : ℕ) (cut : Cut) → cut_at nearer p.here ≡ Some cut → (tally : Tally) (notes : FootnoteDefs) (old new : ℕ) → AreCounted reader p.here tally old
      → old + least_formed options formed cut.inside ≤ new → RiseBy (λ folded. uses_in folded formed) tally.notes notes → AreCounted reader (resulting p closer (Forms nearer formed) next).here (record tally { notes = notes }) new
  formed-counted p closer formed next nearer cut is tally notes old new h more rises =
      let c : IsCut nearer p.here cut = subst (Cuts nearer p.here) is (cuts nearer p.here) in
      let made : Parts = join cut.before (Form cut.opener cut.inside closer formed Nil) in
      let w = ap (least_within options) c.whole_is ∙ within-join options cut.before (Opening cut.opener cut.inside) in
      let v = ap least_closers c.whole_is ∙ closers-join cut.before (Opening cut.opener cut.inside) in
      let u = ap (least_html reader.source) c.whole_is ∙ html-join reader.source cut.before (Opening cut.opener cut.inside) in
      let x = within-join options cut.before (Form cut.opener cut.inside closer formed Nil) in
      let y = closers-join cut.before (Form cut.opener cut.inside closer formed Nil) in
      let z = html-join reader.source cut.before (Form cut.opener cut.inside closer formed Nil) in
      let o = h.openers in
      let d = h.closers in
      let m = h.html in
      let uses : (folded : List ℕ) → uses_of folded made ≡ uses_of folded p.here + uses_in folded formed = λ folded.
      (let a = ap (uses_of folded) c.whole_is ∙ uses-join folded cut.before (Opening cut.opener cut.inside) in let b = uses-join folded cut.before (Form cut.opener cut.inside closer formed Nil) in omega (arith, a, b)) in
      let result : AreCounted reader made (record tally { notes = notes }) new = record {
        html = omega (arith, u, z, m);
        openers = omega (arith, w, x, o, more);
        closers = omega (arith, v, y, d);
        uses = rise-on (λ folded. uses_of folded p.here) (λ folded. uses_in folded formed) (λ folded. uses_of folded made) tally.begun tally.notes notes uses h.uses rises;
      } in
      subst (λ (q : Pass). AreCounted reader q.here (record tally { notes = notes }) new) (sym (ap (formed_by p closer formed next) is)) result

  pub closed-counted : (p : Pass) (closer : Bracket) (result : Result) (next : State) (bs : List slots.Bracket) (old new : InlineState) (tally : Tally) (notes : FootnoteDefs) (size : ℕ) → ((nearer : ℕ) → nearer < size → CutsRuns options place nearer bs p.here old.delimiters.placed.items)
      → Fits size (record { result = result; after = next }) → AreCounted reader p.here tally old.delimiters.examined → Examines result bs old new → RiseBy (λ folded. uses_by folded result) tally.notes notes
      → AreCounted reader (resulting p closer result next).here (record tally { notes = notes }) new.delimiters.examined
  closed-counted p closer StaysText next bs old new tally notes size cut fits h examines rises = record {
    html = (let j = html-join reader.source p.here (Closing closer Nil) in let m = h.html in omega (arith, j, m));
    openers = (let j = within-join options p.here (Closing closer Nil) in let o = h.openers in omega (arith, j, o, examines));
    closers = (let j = closers-join p.here (Closing closer Nil) in let c = h.closers in omega (arith, j, c));
    uses = rise-on (λ folded. uses_of folded p.here) (λ folded. 0) (λ folded. uses_of folded (join p.here (Closing closer Nil))) tally.begun tally.notes notes (λ folded. (let j = uses-join folded p.here (Closing closer Nil) in omega (arith, j))) h.uses rises;
  }
  closed-counted p closer (Forms nearer (Linking target)) next bs old new tally notes size cut fits h examines rises =
      let k = cut nearer (omega (arith, fits)) in
      let same = among-following nearer bs p.here old.delimiters.placed.items examines.0 k examines.1 in
      let more = examines.2 in
      formed-counted p closer (Linking target) next nearer k.cut k.cut_is tally notes old.delimiters.examined new.delimiters.examined h (omega (arith, same, more)) rises
  closed-counted p closer (Forms nearer (Footnote label end)) next bs old new tally notes size cut fits h examines rises =
      let k = cut nearer (omega (arith, fits)) in
      formed-counted p closer (Footnote label end) next nearer k.cut k.cut_is tally notes old.delimiters.examined new.delimiters.examined h (omega (arith, examines)) rises
  closed-counted p closer (Forms nearer (Wiki name display end)) next bs old new tally notes size cut fits h examines rises =
      let k = cut nearer (omega (arith, fits)) in
      formed-counted p closer (Wiki name display end) next nearer k.cut k.cut_is tally notes old.delimiters.examined new.delimiters.examined h (omega (arith, examines)) rises
