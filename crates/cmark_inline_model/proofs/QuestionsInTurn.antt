-- The questions of a leaf are put in turn, each for a closing bracket of its own.
use Rattle.std.specs.Prelude.{zero, suc, ◌-◌, drop, ◌==◌}
use Rattle.std.proofs.Common.{◌≡◌, ℕ, ◌+◌, ◌<◌, ◌≤◌, true, false, List, [], ◌∷◌, ◌++◌, length, refl, sym, ap, subst, arith, ◌∙◌, append-nil, append_assoc}
use Rattle.std.proofs.lemmas.Bool.{eq-eqb}
use Rattle.std.proofs.lemmas.List.{length-drop}
use Rattle.cmark_grammar.specs.BracketReading.{Comes, Reads}
use Rattle.cmark_grammar.specs.BracketStates.{Opener, State, moved, opened, Result, StaysText, Forms, Outcome, Decision, Settled, Asks}
use Rattle.cmark_grammar.specs.Items.{Bracket, Token, Opens, Closes}
use Rattle.cmark_grammar.specs.Parts.{Parts, Nil, Single, Form, Closing, Opening, openings}
use Rattle.cmark_grammar.specs.Questions.{Question, Exchange, Saying}
use Rattle.cmark_inline_model.specs.ReferenceExpansion.{cost, Spends, PaysBy, Pays, KeepsLimit}
use Rattle.cmark_inline_model.specs.NestedLinks.{Persist, ResultsApart, KeepsLinksApart}
use Rattle.cmark_inline_model.specs.PartRanges.{KeepsRanges}
use Rattle.cmark_inline_model.specs.Progress.{FitsBy, IsForward, Keeps, IsRecorded}
use Rattle.cmark_inline_model.specs.ReadingQuestions.{PutInTurn, AllQuestions}
use Rattle.cmark_inline_model.proofs.LinkNesting.{always-comes}

pub turn-up : (Closer : ℕ → Type 0) (from : ℕ) (asked : List Exchange) (to : ℕ) → PutInTurn Closer from asked to → from ≤ to
turn-up Closer from [] to h = h
turn-up Closer from (x ∷ xs) to h = let a = h.1 in let b = turn-up Closer (suc h.0) xs to h.5 in omega arith

pub turn-wide : (Closer Other : ℕ → Type 0) → ((place : ℕ) → Closer place → Other place) → (less from : ℕ) (asked : List Exchange) (to more : ℕ) → less ≤ from → to ≤ more
    → PutInTurn Closer from asked to → PutInTurn Other less asked more
turn-wide Closer Other f less from [] to more a b h = let x : from ≤ to = h in omega arith
turn-wide Closer Other f less from (x ∷ xs) to more a b h =
    (h.0, (let y = h.1 in omega arith), f h.0 h.2, h.3, h.4, turn-wide Closer Other f (suc h.0) (suc h.0) xs to more (omega arith) b h.5)

pub turn-both : (Closer : ℕ → Type 0) (from mid to : ℕ) (first second : List Exchange) → PutInTurn Closer from first mid → PutInTurn Closer mid second to → PutInTurn Closer from (first ++ second) to
turn-both Closer from mid to [] second h k = turn-wide Closer Closer (λ place c. c) from mid second to to h (omega arith) k
turn-both Closer from mid to (x ∷ xs) second h k = (h.0, h.1, h.2, h.3, h.4, turn-both Closer (suc h.0) mid to xs second h.5 k)

-- a property of each offset there
pub turn-within : (Closer Other : ℕ → Type 0) (from : ℕ) (asked : List Exchange) (to : ℕ) → ((place : ℕ) → from ≤ place → place < to → Closer place → Other place) → PutInTurn Closer from asked to → PutInTurn Other from asked to
turn-within Closer Other from [] to f h = h
turn-within Closer Other from (x ∷ xs) to f h =
    let a = h.1 in let u = turn-up Closer (suc h.0) xs to h.5 in
    (h.0, h.1, f h.0 h.1 (omega arith) h.2, h.3, h.4, turn-within Closer Other (suc h.0) xs to (λ place b c. f place (omega arith) c) h.5)

pub turn-none : (Closer : ℕ → Type 0) (from : ℕ) (asked : List Exchange) → PutInTurn Closer from asked 0 → asked ≡ []
turn-none Closer from [] h = refl
turn-none Closer from (x ∷ xs) h = absurd (let b = turn-up Closer (suc h.0) xs 0 h.5 in let d : ⊥ = omega arith in d)

-- the opening brackets begin up to a place
abbrev pub BeginUpTo : ℕ → List Opener → Type 0
BeginUpTo at [] = Unit {0}
BeginUpTo at (o ∷ os) = (o.bracket.start ≤ at) × BeginUpTo at os

pub begin_more : (at more : ℕ) (os : List Opener) → at ≤ more → BeginUpTo at os → BeginUpTo more os
begin_more at more [] e h = tt
begin_more at more (o ∷ os) e h = (let x = h.0 in omega arith, begin_more at more os e h.1)

begin_persist : (at : ℕ) (old new : List Opener) → Persist old new → BeginUpTo at old → BeginUpTo at new
begin_persist at [] new p h = subst (BeginUpTo at) (sym p) tt
begin_persist at (o ∷ os) [] p h = absurd p
begin_persist at (o ∷ os) (n ∷ ns) p h = (let e = ap (λ (b : Bracket). b.start) p.0 in let x = h.0 in omega arith, begin_persist at os ns p.2 h.1)

pub begin-drop : (at n : ℕ) (os : List Opener) → BeginUpTo at os → BeginUpTo at (drop n os)
begin-drop at zero os h = h
begin-drop at (suc n) [] h = tt
begin-drop at (suc n) (o ∷ os) h = begin-drop at n os h.1

-- the opening brackets after a decision
begin_after : (at : ℕ) (os new : List Opener) (result : Result) → ResultsApart os result new → FitsBy (length os) (length new) result → BeginUpTo at os → BeginUpTo at new
begin_after at os new StaysText apart fits h = begin_persist at os new apart h
begin_after at os new (Forms nearer formed) apart fits h = go (drop nearer os) refl (begin-drop at nearer os h)
  where
    go : (l : List Opener) → drop nearer os ≡ l → BeginUpTo at l → BeginUpTo at new
    go [] e k = absurd (let x = ap length e in let y = length-drop nearer os in let z : length new + suc nearer ≡ length os = fits in let d : ⊥ = omega arith in d)
    go (taken ∷ before) e k = begin_persist at before new (apart taken before e).persist k.1

pub asked-both : (Holds : Question → Type 0) (first second : List Exchange) → AllQuestions Holds first → AllQuestions Holds second → AllQuestions Holds (first ++ second)
asked-both Holds [] second h k = k
asked-both Holds (x ∷ xs) second h k = (h.0, asked-both Holds xs second h.1 k)

spends_less : (cs : List ℕ) (before after : ℕ) → Spends before cs after → after ≤ before
spends_less [] before after h = omega (arith, h)
spends_less (c ∷ cs) before after h = let i = spends_less cs (before - c) after h.1 in omega arith

pays_less : (before after : ℕ) (result : Result) → PaysBy before result after → after ≤ before
pays_less before after StaysText h = omega (arith, h)
pays_less before after (Forms nearer formed) h = spends_less (cost formed) before after h

-- a question about the text from one of the opening brackets to the end of the closing one, put while the limit is not used up
pub record IsAbout (s : State) (closer : Bracket) (q : Question) : Type 0 where
  pub start : (at : ℕ) → BeginUpTo at s.openers → q.start ≤ at
  pub end : closer.end ≤ q.end
  pub some : (s.expansion_left == 0) ≡ false

abbrev pub AsksAbout : (Question → Type 0) → State → Bracket → Decision → Type 0
AsksAbout Holds s closer (Settled outcome) = Unit {0}
AsksAbout Holds s closer (Asks q answered) = IsAbout s closer q × Holds q

module _ (token : ℕ → Token) (decide : State → (closer : Bracket) → Decision) (Says : Saying) (size : ℕ) (Holds : Question → Type 0) where
  abbrev pub IsCloserAt : ℕ → Type 0
  IsCloserAt place = (closer : Bracket) × (token place ≡ Closes closer)

  -- the facts that tokens and decisions preserve for this
  pub record KeepsTurn : Type 0 where
    pub forward : IsForward token decide size
    pub recorded : IsRecorded decide
    pub apart : KeepsLinksApart decide
    pub ranges : KeepsRanges token decide size
    pub limit : KeepsLimit decide
    pub asks : (s : State) (closer : Bracket) → token s.at ≡ Closes closer → AsksAbout Holds s closer (decide s closer)
    pub closes : (at : ℕ) (closer : Bracket) → token at ≡ Closes closer → at < closer.end

  -- the questions of one state are followed by those of another
  pub record Turns (s t : State) : Type 0 where
    pub more : List Exchange
    pub added : t.asked ≡ s.asked ++ more
    pub turn : PutInTurn IsCloserAt s.at more t.at
    pub begin : BeginUpTo t.at t.openers
    pub right : AllQuestions Holds more
    pub less : t.expansion_left ≤ s.expansion_left
    pub none : s.expansion_left ≡ 0 → more ≡ []

  -- a question of one closing bracket is put at its place
  pub record Decided (s t : State) : Type 1 where
    pub turns : Turns s t
    pub there : (Closer : ℕ → Type 0) → Closer s.at → PutInTurn Closer s.at turns.more t.at

  unfoldable pub turns-both : (a b c : State) → Turns a b → Turns b c → Turns a c
  turns-both a b c h k = record {
    more = h.more ++ k.more;
    added = k.added ∙ ap (λ l. l ++ k.more) h.added ∙ append_assoc a.asked h.more k.more;
    turn = turn-both IsCloserAt a.at b.at c.at h.more k.more h.turn k.turn;
    begin = k.begin;
    right = asked-both Holds h.more k.more h.right k.right;
    less = (let x = h.less in let y = k.less in omega arith);
    none = λ e. (let x = h.less in ap (λ l. l ++ k.more) (h.none e) ∙ k.none (omega arith));
  }

  unfoldable pub turns-on : (s : State) (resume : ℕ) → s.at ≤ resume → BeginUpTo s.at s.openers → Turns s (moved resume s)
  turns-on s resume e h =
      record { more = []; added = sym (append-nil s.asked); turn = e; begin = begin_more s.at resume s.openers e h; right = tt; less = omega arith; none = λ z. refl }

  module _ (keeps : KeepsTurn) where
    unfoldable pub opener-turns : (s : State) (opener : Bracket) → token s.at ≡ Opens opener → BeginUpTo s.at s.openers → Turns s (opened opener s)
    opener-turns s opener e h =
        let r = keeps.ranges.opens s.at opener e in
        let x = r.begins in let y = r.ordered in
        record {
          more = [];
          added = sym (append-nil s.asked);
          turn = (let z : s.at ≤ opener.end = omega arith in z);
          begin = (y, begin_more s.at opener.end s.openers (omega arith) h);
          right = tt;
          less = omega arith;
          none = λ z. refl;
        }

    pub decided-turns : (s : State) (closer : Bracket) (o : Outcome) → token s.at ≡ Closes closer → BeginUpTo s.at s.openers → Comes Says s.asked (decide s closer) o → Decided s o.after
    decided-turns s closer o e h c = go (decide s closer) (keeps.asks s closer e) (keeps.recorded.keeps s closer) c
      where
        on : s.at < o.after.at
        on = always-comes (λ x. s.at < x.after.at) Says s.asked (decide s closer) o (keeps.forward.comes s closer e) c

        begin : BeginUpTo o.after.at o.after.openers
        begin = grind (arith, begin_more, on, begin_after, always-comes)

        less : o.after.expansion_left ≤ s.expansion_left
        less = pays_less s.expansion_left o.after.expansion_left o.result (always-comes (Pays s.expansion_left) Says s.asked (decide s closer) o (keeps.limit.pays s closer) c)

        go : (d : Decision) → AsksAbout Holds s closer d → Keeps s.asked d → Comes Says s.asked d o → Decided s o.after
        go (Settled outcome) a k f =
            record {
              turns = record {
                more = [];
                added = ap (λ (x : Outcome). x.after.asked) f ∙ k ∙ sym (append-nil s.asked);
                turn = (let z : s.at ≤ o.after.at = omega (arith, on) in z);
                begin = begin;
                right = tt;
                less = less;
                none = λ z. refl;
              };
              there = λ Closer c. (let z : s.at ≤ o.after.at = omega (arith, on) in z);
            }
        go (Asks q answered) a k f =
            let x : Exchange = record { question = q; answer = f.0 } in
            let b = keeps.closes s.at closer e in
            let c = a.0.end in
            record {
              turns = record {
                more = x ∷ [];
                added = ap (λ (y : Outcome). y.after.asked) f.2 ∙ k f.0;
                turn = (s.at, (let z : s.at ≤ s.at = omega arith in z), (closer, e), a.0.start s.at h, (let z : s.at < q.end = omega arith in z), on);
                begin = begin;
                right = (a.1, tt);
                less = less;
                none = λ z. absurd (let y : (s.expansion_left == 0) ≡ true = eq-eqb s.expansion_left 0 z in let n = a.0.some in let d : ⊥ = cc in d);
              };
              there = λ Closer c. (s.at, (let z : s.at ≤ s.at = omega arith in z), c, a.0.start s.at h, (let z : s.at < q.end = omega arith in z), on);
            }

    pub reading-turns : (s : State) (parts : Parts) (t : State) → BeginUpTo s.at s.openers → Reads token decide Says s parts t → Turns s t
    reading-turns s Nil t b h = subst (Turns s) (sym h) (record { more = []; added = sym (append-nil s.asked); turn = (let z : s.at ≤ s.at = omega arith in z); begin = b; right = tt; less = omega arith; none = λ z. refl })
    reading-turns s (Single item after) t b h =
        let on = keeps.forward.stands s.at h.0 item h.1 in
        let i = turns-on s h.0 (omega arith) b in
        turns-both s (moved h.0 s) t i (reading-turns (moved h.0 s) after t i.begin h.2)
    reading-turns s (Form opener inside closer formed after) t b h =
        let a = opener-turns s opener h.opens b in
        let i = reading-turns (opened opener s) inside h.until a.begin h.inside in
        let d = (decided-turns h.until closer (record { result = Forms (openings inside) formed; after = h.next }) h.closes i.begin h.comes).turns in
        turns-both s (opened opener s) t a (turns-both (opened opener s) h.until t i (turns-both h.until h.next t d (reading-turns h.next after t d.begin h.after)))
    reading-turns s (Closing closer after) t b h =
        let d = (decided-turns s closer (record { result = StaysText; after = h.next }) h.closes b h.comes).turns in
        turns-both s h.next t d (reading-turns h.next after t d.begin h.after)
    reading-turns s (Opening opener after) t b h =
        let a = opener-turns s opener h.0 b in
        turns-both s (opened opener s) t a (reading-turns (opened opener s) after t a.begin h.1)
