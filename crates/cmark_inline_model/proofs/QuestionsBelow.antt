-- Each question of a leaf is put while the references so far have not used up the reference expansion limit.
use Rattle.std.proofs.Common.{◌≡◌, ℕ, ◌<◌, ◌≤◌, [], ◌++◌, refl, sym, subst, arith, append-nil}
use Rattle.cmark_grammar.specs.BracketReading.{Reads}
use Rattle.cmark_grammar.specs.BracketStates.{State, moved, opened, StaysText, Forms, Outcome, Decision}
use Rattle.cmark_grammar.specs.Items.{Bracket, Token}
use Rattle.cmark_grammar.specs.Parts.{Parts, Nil, Single, Form, Closing, Opening, openings}
use Rattle.cmark_grammar.specs.Questions.{Question, Saying}
use Rattle.cmark_inline_model.specs.ReferenceExpansion.{cost, costs, Pays}
use Rattle.cmark_inline_model.specs.PartRanges.{Reaches}
use Rattle.cmark_inline_model.specs.ReadingQuestions.{PutInTurn}
use Rattle.cmark_inline_model.proofs.QuestionsInTurn.{turn-up, turn-wide, turn-both, turn-within, BeginUpTo, KeepsTurn, IsCloserAt, Turns, Decided, turns-both, turns-on, opener-turns, decided-turns}
use Rattle.cmark_inline_model.proofs.CostLists.{spends-within}
use Rattle.cmark_inline_model.proofs.LinkNesting.{always-comes}
use Rattle.cmark_inline_model.proofs.ReadingLaws.{reading-spends, reading-stands}
use Rattle.cmark_inline_model.proofs.SpentEvents.{spent_to, spent-less, spent-none, spent-inside, spent-form-less}

module _ (token : ℕ → Token) (decide : State → (closer : Bracket) → Decision) (Says : Saying) (size : ℕ) (Holds : Question → Type 0) (keeps : KeepsTurn token decide Says size Holds) where
  -- a closing bracket before which the references of these parts leave something
  abbrev pub IsBelow : Parts → (expansion_left : ℕ) → ℕ → Type 0
  IsBelow parts expansion_left place = IsCloserAt token decide Says size Holds place × (spent_to place parts < expansion_left)

  pub record Below (s : State) (parts : Parts) (t : State) : Type 0 where
    pub turns : Turns token decide Says size Holds s t
    pub below : PutInTurn (IsBelow parts s.expansion_left) s.at turns.more t.at

  -- the parts after an offset cost nothing up to it
  later : (s : State) (parts : Parts) (t : State) → s.at ≤ size → Reads token decide Says s parts t → (place : ℕ) → place < s.at → spent_to place parts ≡ 0
  later s parts t w h place k = let stands = reading-stands token decide Says size keeps.ranges s parts t s.at (omega arith) w h in spent-none place s.at parts t.at stands.0 k

  -- a question is put if the limit is not used up
  put : (Closer : ℕ → Type 0) (s t : State) (d : Decided token decide Says size Holds s t) → (0 < s.expansion_left → Closer s.at) → PutInTurn Closer s.at d.turns.more t.at
  put Closer s t d f = grind (arith, turn-up)

  pub reading-below : (s : State) (parts : Parts) (t : State) → BeginUpTo s.at s.openers → s.at ≤ size → Reads token decide Says s parts t → Below s parts t
  unfolding turns-both turns-on opener-turns
  reading-below s Nil t b w h =
      subst (Below s Nil) (sym h)
      (record {
        turns = record { more = []; added = sym (append-nil s.asked); turn = (let z : s.at ≤ s.at = omega arith in z); begin = b; right = tt; less = omega arith; none = λ z. refl };
        below = (let z : s.at ≤ s.at = omega arith in z);
      })
  reading-below s (Single item after) t b w h =
      let on = keeps.forward.stands s.at h.0 item h.1 in
      let r = keeps.ranges.stands s.at h.0 item h.1 in
      let i = turns-on token decide Says size Holds s h.0 (omega arith) b in
      let k = reading-below (moved h.0 s) after t i.begin r.1 h.2 in
      record {
        turns = turns-both token decide Says size Holds s (moved h.0 s) t i k.turns;
        below = turn-wide (IsBelow after s.expansion_left) (IsBelow (Single item after) s.expansion_left) (λ place c. c) s.at h.0 k.turns.more t.at t.at (omega arith) (omega arith) k.below;
      }
  reading-below s (Form opener inside closer formed after) t b w h =
      let a = opener-turns token decide Says size Holds keeps s opener h.opens b in
      let r = keeps.ranges.opens s.at opener h.opens in
      let rx = r.begins in let ry = r.ordered in
      let i = reading-below (opened opener s) inside h.until a.begin r.ends h.inside in
      let o : Outcome = record { result = Forms (openings inside) formed; after = h.next } in
      let d = decided-turns token decide Says size Holds keeps h.until closer o h.closes i.turns.begin h.comes in
      let c = keeps.ranges.closes h.until.at closer h.closes in
      let cx = c.0.begins in let cy = c.1 in
      let reach = always-comes (Reaches closer.end size) Says h.until.asked (decide h.until closer) o (keeps.ranges.comes h.until closer h.closes) h.comes in
      let k = reading-below h.next after t d.turns.begin reach.within h.after in
      let past = reach.following.0 in let on = reach.following.1 in
      let whole = Form opener inside closer formed after in
      let until_left = (spends-within s.expansion_left 0 (costs inside) s.expansion_left h.until.expansion_left (omega arith) (reading-spends token decide Says keeps.limit (opened opener s) inside h.until h.inside)).left in
      let next_left = (spends-within h.until.expansion_left 0 (cost formed) h.until.expansion_left h.next.expansion_left (omega arith)
      (always-comes (Pays h.until.expansion_left) Says h.until.asked (decide h.until closer) o (keeps.limit.pays h.until closer) h.comes)).left in
      let first = turn-within (IsBelow inside s.expansion_left) (IsBelow whole s.expansion_left) opener.end i.turns.more h.until.at
      (λ place x y q. (q.0, (let n = later h.next after t reach.within h.after place (omega arith) in let e = spent-inside place opener inside closer formed after (omega arith) n in let z = q.1 in omega arith))) i.below in
      let second = put (IsBelow whole s.expansion_left) h.until h.next d
      (λ some. (
        (closer, h.closes),
        (let n = later h.next after t reach.within h.after h.until.at (omega arith) in let e = spent-inside h.until.at opener inside closer formed after (omega arith) n in
            let l = spent-less h.until.at inside in omega arith),
      )) in
      let third = turn-within (IsBelow after h.next.expansion_left) (IsBelow whole s.expansion_left) h.next.at k.turns.more t.at
      (λ place x y q. (q.0, (let e = spent-form-less place opener inside closer formed after in let z = q.1 in omega arith))) k.below in
      record {
        turns = turns-both token decide Says size Holds s (opened opener s) t a
            (turns-both token decide Says size Holds (opened opener s) h.until t i.turns (turns-both token decide Says size Holds h.until h.next t d.turns k.turns));
        below = turn-wide (IsBelow whole s.expansion_left) (IsBelow whole s.expansion_left) (λ place q. q) s.at opener.end (i.turns.more ++ (d.turns.more ++ k.turns.more)) t.at t.at (omega arith) (omega arith)
            (turn-both (IsBelow whole s.expansion_left) opener.end h.until.at t.at i.turns.more (d.turns.more ++ k.turns.more) first
            (turn-both (IsBelow whole s.expansion_left) h.until.at h.next.at t.at d.turns.more k.turns.more second third));
      }
  reading-below s (Closing closer after) t b w h =
      let o : Outcome = record { result = StaysText; after = h.next } in
      let d = decided-turns token decide Says size Holds keeps s closer o h.closes b h.comes in
      let c = keeps.ranges.closes s.at closer h.closes in
      let cx = c.0.begins in let cy = c.1 in
      let reach = always-comes (Reaches closer.end size) Says s.asked (decide s closer) o (keeps.ranges.comes s closer h.closes) h.comes in
      let past : closer.end ≤ h.next.at = reach.following in
      let k = reading-below h.next after t d.turns.begin reach.within h.after in
      let same : h.next.expansion_left ≡ s.expansion_left = always-comes (Pays s.expansion_left) Says s.asked (decide s closer) o (keeps.limit.pays s closer) h.comes in
      let first = put (IsBelow (Closing closer after) s.expansion_left) s h.next d (λ some. ((closer, h.closes), (let n = later h.next after t reach.within h.after s.at (omega arith) in omega arith))) in
      let second = turn-wide (IsBelow after h.next.expansion_left) (IsBelow (Closing closer after) s.expansion_left) (λ place q. (q.0, (let z = q.1 in omega arith))) h.next.at h.next.at k.turns.more t.at t.at (omega arith) (omega arith) k.below in
      record {
        turns = turns-both token decide Says size Holds s h.next t d.turns k.turns;
        below = turn-both (IsBelow (Closing closer after) s.expansion_left) s.at h.next.at t.at d.turns.more k.turns.more first second;
      }
  reading-below s (Opening opener after) t b w h =
      let a = opener-turns token decide Says size Holds keeps s opener h.0 b in
      let r = keeps.ranges.opens s.at opener h.0 in
      let rx = r.begins in let ry = r.ordered in
      let k = reading-below (opened opener s) after t a.begin r.ends h.1 in
      record {
        turns = turns-both token decide Says size Holds s (opened opener s) t a k.turns;
        below = turn-wide (IsBelow after s.expansion_left) (IsBelow (Opening opener after) s.expansion_left) (λ place c. c) s.at opener.end k.turns.more t.at t.at (omega arith) (omega arith) k.below;
      }
