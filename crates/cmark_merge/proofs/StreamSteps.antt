-- The result of a call, from the items that it read.
use Rattle.std.proofs.Common.{◌≡◌, ◌≢◌, ◌⊎◌, inl, inr, ℕ, true, false, List, [], ◌∷◌, ◌++◌, map, is_some, Option, Some, None, option_map, option_to_list, IfNone, IfSome, MatchBool, Result, Ok, refl, sym, ap, ap₂, subst, ◌∙◌, append_assoc}
use Rattle.std.proofs.lemmas.List.{map-append}
use Rattle.std.specs.declared.alloc.AllocError.{AllocError}
use Rattle.std.specs.declared.ops.Range.{Range}
use Rattle.cmark_grammar.specs.Event.{Ranged}
use Rattle.cmark_merge.specs.Merge.{TextAt, joined, merge_after, merged_run, ranged_of, text_of_ok, text_of_ranged, unless_empty}
use Rattle.cmark_values.specs.declared.text.CowStr.{CowStr}
use Rattle.cmark_merge.specs.Merging.{AreSeveral, AreTexts, GivesFirst, HandsOn, IsOwnedItem, Refuses, last_of, merged, shown_item, then_given}
use Rattle.cmark_merge.specs.Reading.{Ahead, Reads}
use Rattle.cmark_merge.specs.Steps.{GivesJoined, IsNoText, Merges, ReadsRun, ReadsText, RefusesRun, Takes}
use Rattle.cmark_merge.specs.Streams.{IsOwnedRanged, RangedItem, shown_ranged, text_at, text_item}
use Rattle.cmark_merge.proofs.MergeSteps.{following-end, following-texts, merge-other}
use Rattle.cmark_merge.proofs.ReadSteps.{reads-append, reads-open, reads-yields, yields-append}

-- these items merged, also after a run
abbrev Shown : Type 0
Shown = Result Ranged AllocError

abbrev text_of : Shown → Option TextAt
text_of x = text_of_ok text_of_ranged x

abbrev item_of : TextAt → Shown
item_of t = Ok (ranged_of t)

abbrev show : RangedItem → Shown
show x = shown_item shown_ranged x

abbrev all_merged : List RangedItem → List Shown
all_merged xs = merged text_of_ranged ranged_of shown_ranged xs

abbrev following : List TextAt → List RangedItem → List Shown
following run xs = merge_after text_of item_of run (map show xs)

-- an item that is not a text, as shown
not-some : (o : Option TextAt) → is_some o ≡ false → o ≡ None
not-some None e = refl
not-some (Some t) e = absurd (some-is-not e)
  where
    some-is-not : true ≡ false → ⊥
    some-is-not e = subst (λ b. MatchBool b (Unit {0}) ⊥) e tt

no-text : (x : RangedItem) → IsNoText x → text_of (show x) ≡ None
no-text x e = not-some (text_of (show x)) e

-- a run ends before an item that is not a text, or at the end
run-ends : (run : List TextAt) (next : Option RangedItem) (rest : List RangedItem) → IfSome next IsNoText → IfNone next (rest ≡ [])
    → following run (option_to_list next ++ rest) ≡ merged_run item_of run ++ all_merged (option_to_list next ++ rest)
run-ends run None rest h e = following-end text_of item_of run None (map show rest) tt (ap (λ l. map show l) e)
run-ends run (Some x) rest h e = following-end text_of item_of run (Some (show x)) (map show rest) (no-text x h) tt

-- some texts and the items after them
texts-following : (t : CowStr × Range ℕ) (ts : List (CowStr × Range ℕ)) (xs : List RangedItem) → all_merged (text_item t ∷ (map text_item ts ++ xs)) ≡ following (text_at t ∷ map text_at ts) xs
texts-following t ts xs =
    ap (λ l. merge_after text_of item_of (text_at t ∷ []) l) (map-append show (map text_item ts) xs ∙ ap (λ l. l ++ map show xs) (map-map ts))
    ∙ following-texts text_of item_of (λ u. show (text_item u)) text_at (λ u. refl) (text_at t ∷ []) ts (map show xs)
  where
    map-map : (us : List (CowStr × Range ℕ)) → map show (map text_item us) ≡ map (λ u. show (text_item u)) us
    map-map [] = refl
    map-map (u ∷ us) = ap (λ l. show (text_item u) ∷ l) (map-map us)

-- the first text that is read alone
one-text : (t : CowStr × Range ℕ) (next : Option RangedItem) (rest : List RangedItem) → IfSome next IsNoText → IfNone next (rest ≡ [])
    → all_merged (text_item t ∷ (option_to_list next ++ rest)) ≡ show (text_item t) ∷ all_merged (option_to_list next ++ rest)
one-text t next rest h e = texts-following t [] (option_to_list next ++ rest) ∙ run-ends (text_at t ∷ []) next rest h e

-- several texts
several : (t u : CowStr × Range ℕ) (ts : List (CowStr × Range ℕ)) (next : Option RangedItem) (rest : List RangedItem) → IfSome next IsNoText → IfNone next (rest ≡ [])
    → (all : TextAt) → all ≡ joined (text_at t) (text_at u ∷ map text_at ts)
    → all_merged (text_item t ∷ ((text_item u ∷ map text_item ts) ++ (option_to_list next ++ rest))) ≡ unless_empty all.text (item_of all) ++ all_merged (option_to_list next ++ rest)
several t u ts next rest h e all is =
    texts-following t (u ∷ ts) (option_to_list next ++ rest) ∙ run-ends (text_at t ∷ text_at u ∷ map text_at ts) next rest h e
    ∙ ap (λ a. unless_empty (TextAt.text a) (item_of a) ++ all_merged (option_to_list next ++ rest)) (sym is)

-- the items that were left, of which some were read
split : (held : Option RangedItem) (read items rest : List RangedItem) → option_to_list held ++ read ≡ items → all_merged (option_to_list held ++ (read ++ rest)) ≡ all_merged (items ++ rest)
split held read items rest e = ap all_merged (sym (append_assoc (option_to_list held) read rest) ∙ ap (λ l. l ++ rest) e)

-- the item that is held after the call
kept : (held : Option RangedItem) (next : Option RangedItem) (rest : List RangedItem) → held ≡ next → all_merged (option_to_list next ++ rest) ≡ all_merged (option_to_list held ++ rest)
kept held next rest e = ap (λ o. all_merged (option_to_list o ++ rest)) (sym e)

first-alone : (t : CowStr × Range ℕ) (next : Option RangedItem) → IfSome next IsNoText → HandsOn text_of_ranged shown_ranged IsOwnedRanged (text_item t ∷ option_to_list next) (text_item t)
first-alone t None h = refl
first-alone t (Some y) h = subst (λ b. MatchBool b (MatchBool true (IsOwnedItem IsOwnedRanged (text_item t)) (text_item t ≡ y)) (text_item t ≡ text_item t)) (sym h) refl

rest-following : (P Q : Type 0) (next : Option RangedItem) → IfNone next P → (P → Q) → IfNone next Q
rest-following P Q None p f = f p
rest-following P Q (Some y) p f = tt

last-more : (x : RangedItem) (xs : List RangedItem) (y : RangedItem) → last_of x (xs ++ y ∷ []) ≡ y
last-more x [] y = refl
last-more x (z ∷ xs) y = last-more z xs y

texts-are : (ts : List (CowStr × Range ℕ)) → AreTexts text_of_ranged shown_ranged (map text_item ts)
texts-are [] = tt
texts-are (t ∷ ts) = (refl, texts-are ts)

module _ {S : Type 0} (steps : S → Option RangedItem → S → Type 0) (old : Ahead S RangedItem) (given : Option RangedItem) (new : Ahead S RangedItem) where
  abbrev Gives : Type 0
  Gives = GivesFirst steps text_of_ranged ranged_of shown_ranged IsOwnedRanged old given new

  -- from the items that the call read and gave
  gives-by : (read items : List RangedItem) → Reads steps old read new → option_to_list old.held ++ read ≡ items
      → ((rest : List RangedItem) → (new.is_over ≡ true → rest ≡ []) → all_merged (items ++ rest) ≡ then_given (option_map show given) (all_merged (option_to_list new.held ++ rest)))
      → IfSome given (HandsOn text_of_ranged shown_ranged IsOwnedRanged items) → IfNone given ((new.is_over ≡ true) × (new.held ≡ None)) → Gives
  gives-by read items reads are gives hands ends = record {
    read = read;
    reads = reads;
    gives = λ rest over. split old.held read items rest are ∙ gives rest over;
    hands_on = subst (λ l. IfSome given (HandsOn text_of_ranged shown_ranged IsOwnedRanged l)) (sym are) hands;
    ends = ends;
  }

module _ {S : Type 0} (steps : S → Option RangedItem → S → Type 0) (old new : Ahead S RangedItem) where
  module _ (mid : Ahead S RangedItem) (t : CowStr × Range ℕ) (k : Takes steps old (Some (text_item t)) mid) where
    -- the items after a text that was read first
    following-first : (more : List RangedItem) → option_to_list old.held ++ (k.read ++ more) ≡ text_item t ∷ more
    following-first more = sym (append_assoc (option_to_list old.held) k.read more) ∙ ap (λ l. l ++ more) k.items

    -- a text that no other text follows
    pub gives-alone : ReadsText steps mid None new → Gives steps old (Some (text_item t)) new
    gives-alone h =
        gives-by steps old (Some (text_item t)) new (k.read ++ option_to_list new.held) (text_item t ∷ option_to_list new.held)
        (reads-append steps old mid new k.read (option_to_list new.held) k.reads h.0) (following-first (option_to_list new.held))
        (λ rest over. one-text t new.held rest h.1 (rest-following (new.is_over ≡ true) (rest ≡ []) new.held h.2 over)) (first-alone t new.held h.1) tt

unless-not : {A : Type 0} (text : List ℕ) (x : A) → text ≢ [] → unless_empty text x ≡ x ∷ []
unless-not [] x h = absurd (h refl)
unless-not (b ∷ bs) x h = refl

-- the item after empty texts is the first of those that are left
following-empty : (next held : Option RangedItem) (rest : List RangedItem) → held ≡ None → IfSome next IsNoText → IfNone next (rest ≡ [])
    → all_merged (option_to_list next ++ rest) ≡ then_given (option_map show next) (all_merged (option_to_list held ++ rest))
following-empty None held rest e h over = ap all_merged over
following-empty (Some y) held rest e h over = merge-other text_of item_of (show y) (map show rest) (no-text y h) ∙ ap (λ l. show y ∷ l) (kept held None rest e)

hands-following : (t u : CowStr × Range ℕ) (ts : List (CowStr × Range ℕ)) (next : Option RangedItem) → IfSome next IsNoText
    → IfSome next (HandsOn text_of_ranged shown_ranged IsOwnedRanged (text_item t ∷ text_item u ∷ (map text_item ts ++ option_to_list next)))
hands-following t u ts None h = tt
hands-following t u ts (Some y) h =
    subst (λ b. MatchBool b (IsOwnedItem IsOwnedRanged y) (y ≡ last_of (text_item u) (map text_item ts ++ y ∷ []))) (sym h) (sym (last-more (text_item u) (map text_item ts) y))

ends-following : (P : Type 0) (next held : Option RangedItem) → held ≡ None → IfNone next P → IfNone next (P × (held ≡ None))
ends-following P None held e p = (p, e)
ends-following P (Some y) held e p = tt

-- two texts or more
module _ {S : Type 0} (steps : S → Option RangedItem → S → Type 0) (old mid after : Ahead S RangedItem) (t u : CowStr × Range ℕ) (given : Option RangedItem) (new : Ahead S RangedItem)
    (k : Takes steps old (Some (text_item t)) mid) (h : ReadsText steps mid (Some u) after) where
  second-read : Reads steps mid (text_item u ∷ []) after
  second-read = reads-yields steps mid after (text_item u ∷ []) h.0.0 h.0.2 (after.iter, h.0.1, refl)

  abbrev tail : List (CowStr × Range ℕ) → Option RangedItem → List RangedItem
  tail ts next = text_item u ∷ (map text_item ts ++ option_to_list next)

  all-read : (next : Option RangedItem) (r : ReadsRun steps after next new) → Reads steps old (k.read ++ tail r.texts next) new
  all-read next r =
      reads-append steps old mid new k.read (tail r.texts next) k.reads
      (reads-append steps mid after new (text_item u ∷ []) (map text_item r.texts ++ option_to_list next) second-read r.reads)

  several-left : (next : Option RangedItem) (r : ReadsRun steps after next new) (all : TextAt) → all ≡ joined (text_at t) (text_at u ∷ map text_at r.texts)
      → (rest : List RangedItem) → (new.is_over ≡ true → rest ≡ [])
      → all_merged ((text_item t ∷ tail r.texts next) ++ rest) ≡ unless_empty all.text (item_of all) ++ all_merged (option_to_list next ++ rest)
  several-left next r all is rest over =
      ap (λ l. all_merged (text_item t ∷ (text_item u ∷ l))) (append_assoc (map text_item r.texts) (option_to_list next) rest)
      ∙ several t u r.texts next rest r.no_text (rest-following (new.is_over ≡ true) (rest ≡ []) next r.ends over) all is

  by-joined : (next : Option RangedItem) (r : ReadsRun steps after next new)
      → GivesJoined (joined (text_at t) (text_at u ∷ map text_at r.texts)) next given new.held → Gives steps old given new
  by-joined next r (inl g) =
      let all = joined (text_at t) (text_at u ∷ map text_at r.texts) in
      subst (λ o. Gives steps old o new) (sym g.1)
      (gives-by steps old (Some (text_item g.0)) new (k.read ++ tail r.texts next) (text_item t ∷ tail r.texts next) (all-read next r)
      (following-first steps old new mid t k (tail r.texts next))
      (λ rest over. several-left next r all refl rest over ∙ ap (λ l. l ++ all_merged (option_to_list next ++ rest)) (unless-not all.text (item_of all) g.4)
      ∙ ap₂ (λ x l. x ∷ l) (ap item_of (sym g.3)) (kept new.held next rest g.5)) g.2 tt)
  by-joined next r (inr g) =
      let all = joined (text_at t) (text_at u ∷ map text_at r.texts) in
      subst (λ o. Gives steps old o new) (sym g.1)
      (gives-by steps old next new (k.read ++ tail r.texts next) (text_item t ∷ tail r.texts next) (all-read next r)
      (following-first steps old new mid t k (tail r.texts next))
      (λ rest over. several-left next r all refl rest over ∙ ap (λ l. unless_empty l (item_of all) ++ all_merged (option_to_list next ++ rest)) g.0
      ∙ following-empty next new.held rest g.2 r.no_text (rest-following (new.is_over ≡ true) (rest ≡ []) next r.ends over))
      (hands-following t u r.texts next r.no_text) (ends-following (new.is_over ≡ true) next new.held g.2 r.ends))

  by-refusal : RefusesRun steps after given new → Refuses steps text_of_ranged shown_ranged old given new
  by-refusal r =
      let before = reads-open steps old mid k.read k.reads h.0.0 in
      let are = following-first steps old new mid t k (text_item u ∷ map text_item r.run.texts) in
      record {
        error = r.error;
        is = r.is;
        read = k.read ++ (text_item u ∷ map text_item r.run.texts);
        was_open = before.0;
        reads = yields-append steps old.iter k.read mid.iter (text_item u ∷ map text_item r.run.texts) new.iter before.1 (after.iter, h.0.1, r.run.yields);
        several = subst AreSeveral (sym are) tt;
        texts = subst (AreTexts text_of_ranged shown_ranged) (sym are) (texts-are (t ∷ u ∷ r.run.texts));
        is_over = r.is_over;
        nothing_held = r.nothing_held;
      }

  pub gives-merged : Merges steps after t u given new → Gives steps old given new ⊎ Refuses steps text_of_ranged shown_ranged old given new
  gives-merged (inl r) = inl (by-joined r.following r.run r.gives)
  gives-merged (inr r) = inr (by-refusal r)
