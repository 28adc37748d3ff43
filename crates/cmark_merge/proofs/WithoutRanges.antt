-- The stream of events alone gives the items of the stream with ranges, without their ranges.
use Rattle.std.proofs.Common.{◌≡◌, inl, inr, ℕ, ◌&&◌, Bool, true, false, List, [], ◌∷◌, ◌++◌, map, is_some, Option, Some, None, option_map, option_to_list, IfNone, IfSome, MatchBool, Result, Ok, Err, refl, sym, ap, ap₂, subst, subst₂, ◌∙◌}
use Rattle.std.proofs.lemmas.List.{map-append}
use Rattle.std.specs.declared.alloc.AllocError.{AllocError}
use Rattle.std.specs.Iterator.{Yields}
use Rattle.cmark_grammar.specs.Event as grammar
use Rattle.cmark_grammar.specs.Event.{Ranged}
use Rattle.cmark_merge.specs.Merge.{event_of, merge, ranged_of, text_between, text_of_event, text_of_ok, text_of_ranged}
use Rattle.cmark_text.specs.declared.event.Event.{Event}
use Rattle.cmark_text.specs.Shown.{shown}
use Rattle.cmark_merge.specs.declared.stream.DummyOffsets.{DummyOffsets}
use Rattle.cmark_merge.specs.Merging.{AreSeveral, AreTexts, GivesFirst, GivesMerged, HandsOn, IsOwnedItem, Refuses, is_text, last_of, merged, shown_item, then_given}
use Rattle.cmark_merge.specs.Reading.{Ahead, ReadsTo}
use Rattle.cmark_merge.specs.Streams.{IsOwnedRanged, IsOwnedText, Item, RangedItem, dummy_steps, shown_ranged, with_range, without_range}
use Rattle.cmark_merge.proofs.SameMerge.{merge-without, without}

abbrev forget : List RangedItem → List Item
forget xs = map without_range xs

forget-with : (xs : List Item) → forget (map with_range xs) ≡ xs
forget-with [] = refl
forget-with (Ok event ∷ xs) = ap (λ l. Ok event ∷ l) (forget-with xs)
forget-with (Err e ∷ xs) = ap (λ l. Err e ∷ l) (forget-with xs)

list-without : (o : Option RangedItem) → forget (option_to_list o) ≡ option_to_list (option_map without_range o)
list-without None = refl
list-without (Some x) = refl

-- the shown items
show-without : (x : RangedItem) → shown_item shown (without_range x) ≡ without (shown_item shown_ranged x)
show-without (Ok p) = refl
show-without (Err e) = refl

shows-without : (xs : List RangedItem) → map (shown_item shown) (forget xs) ≡ map without (map (shown_item shown_ranged) xs)
shows-without [] = refl
shows-without (x ∷ xs) = ap₂ (λ y l. y ∷ l) (show-without x) (shows-without xs)

abbrev ranged_merged : List RangedItem → List (Result Ranged AllocError)
ranged_merged xs = merged text_of_ranged ranged_of shown_ranged xs

abbrev event_merged : List Item → List (Result grammar.Event AllocError)
event_merged xs = merged text_of_event event_of shown xs

merged-without : (xs : List RangedItem) → map without (ranged_merged xs) ≡ event_merged (forget xs)
merged-without xs =
    merge-without (map (shown_item shown_ranged) xs)
    ∙ ap (λ l. merge (text_of_ok text_of_event) (λ t. Ok (event_of t)) l) (sym (shows-without xs))

-- an item that was given a range
with-without : (x : Item) → without_range (with_range x) ≡ x
with-without (Ok event) = refl
with-without (Err e) = refl

option-without : (o : Option Item) → option_map without_range (option_map with_range o) ≡ o
option-without None = refl
option-without (Some x) = ap (λ y. Some y) (with-without x)

back : (o : Option Item) (r : Option RangedItem) → r ≡ option_map with_range o → o ≡ option_map without_range r
back o r e = sym (ap (option_map without_range) e ∙ option-without o)

-- texts are the same
text-same : (e : grammar.Event) (start end : ℕ) → is_some (text_between e 0 0) ≡ is_some (text_between e start end)
text-same (grammar.Text text) start end = refl
text-same e start end = refl

text-without : (x : RangedItem) → is_text text_of_event shown (without_range x) ≡ is_text text_of_ranged shown_ranged x
text-without (Ok p) = text-same (shown p.0) p.1.start p.1.end
text-without (Err e) = refl

texts-without : (xs : List RangedItem) → AreTexts text_of_ranged shown_ranged xs → AreTexts text_of_event shown (forget xs)
texts-without [] h = tt
texts-without (x ∷ xs) h = (text-without x ∙ h.0, texts-without xs h.1)

several-without : (xs : List RangedItem) → AreSeveral xs → AreSeveral (forget xs)
several-without [] h = h
several-without (x ∷ []) h = h
several-without (x ∷ y ∷ more) h = tt

owned-without : (x : RangedItem) → IsOwnedItem IsOwnedRanged x → IsOwnedItem IsOwnedText (without_range x)
owned-without (Ok p) h = h
owned-without (Err e) h = h

last-without : (x : RangedItem) (xs : List RangedItem) → without_range (last_of x xs) ≡ last_of (without_range x) (forget xs)
last-without x [] = refl
last-without x (y ∷ ys) = last-without y ys

both : (a b : Bool) (P Q R K L M : Type 0) → (P → K) → (Q → L) → (R → M) → MatchBool a (MatchBool b P Q) R → MatchBool a (MatchBool b K L) M
both true true P Q R K L M f g h m = f m
both true false P Q R K L M f g h m = g m
both false b P Q R K L M f g h m = h m

hands-without : (xs : List RangedItem) (item : RangedItem) → HandsOn text_of_ranged shown_ranged IsOwnedRanged xs item → HandsOn text_of_event shown IsOwnedText (forget xs) (without_range item)
hands-without [] item h = h
hands-without (x ∷ []) item h = ap without_range h
hands-without (x ∷ y ∷ more) item h =
    subst₂ (λ a b. MatchBool a (MatchBool b (IsOwnedItem IsOwnedText (without_range item)) (without_range item ≡ last_of (without_range y) (forget more))) (without_range item ≡ without_range x))
    (sym (ap₂ (λ a b. a && b) (text-without x) (text-without y))) (sym (text-without item))
    (both (is_text text_of_ranged shown_ranged x && is_text text_of_ranged shown_ranged y) (is_text text_of_ranged shown_ranged item) (IsOwnedItem IsOwnedRanged item) (item ≡ last_of y more) (item ≡ x)
    (IsOwnedItem IsOwnedText (without_range item)) (without_range item ≡ last_of (without_range y) (forget more)) (without_range item ≡ without_range x)
    (owned-without item) (λ e. ap without_range e ∙ last-without y more) (ap without_range) h)

hand-without : (given : Option RangedItem) (xs : List RangedItem) → IfSome given (HandsOn text_of_ranged shown_ranged IsOwnedRanged xs) → IfSome (option_map without_range given) (HandsOn text_of_event shown IsOwnedText (forget xs))
hand-without None xs h = tt
hand-without (Some item) xs h = hands-without xs item h

lists-without : (o : Option RangedItem) (xs : List RangedItem) → forget (option_to_list o ++ xs) ≡ option_to_list (option_map without_range o) ++ forget xs
lists-without o xs = map-append without_range (option_to_list o) xs ∙ ap (λ l. l ++ forget xs) (list-without o)

then-without : (given : Option RangedItem) (others : List (Result Ranged AllocError))
    → map without (then_given (option_map (shown_item shown_ranged) given) others) ≡ then_given (option_map (shown_item shown) (option_map without_range given)) (map without others)
then-without None others = refl
then-without (Some x) others = ap (λ y. y ∷ map without others) (sym (show-without x))

ends-without : (P : Type 0) (given held : Option RangedItem) → IfNone given (P × (held ≡ None)) → IfNone (option_map without_range given) (P × (option_map without_range held ≡ None))
ends-without P None held h = (h.0, ap (option_map without_range) h.1)
ends-without P (Some x) held h = tt

-- a reader ahead of an iterator with added ranges, without these ranges
abbrev pub plain : {S : Type 0} → Ahead (DummyOffsets S) RangedItem → Ahead S Item
plain s = record { iter = s.iter.iter; held = option_map without_range s.held; is_over = s.is_over }

module _ {S : Type 0} (steps : S → Option Item → S → Type 0) where
  abbrev ranged_steps : DummyOffsets S → Option RangedItem → DummyOffsets S → Type 0
  ranged_steps = dummy_steps with_range steps

  step-without : (s : DummyOffsets S) (r : Option RangedItem) (t : DummyOffsets S) → ranged_steps s r t → steps s.iter (option_map without_range r) t.iter
  step-without s r t h = subst (λ o. steps s.iter o t.iter) (back h.0 r h.2) h.1

  yields-without : (s : DummyOffsets S) (xs : List RangedItem) (t : DummyOffsets S) → Yields ranged_steps s xs t → Yields steps s.iter (forget xs) t.iter
  yields-without s [] t h = ap (λ d. DummyOffsets.iter d) h
  yields-without s (x ∷ xs) t h = (h.0.iter, step-without s (Some x) h.0 h.1, yields-without h.0 xs t h.2)

  reads-without : (a b : Bool) (s t : DummyOffsets S) (xs : List RangedItem) → ReadsTo ranged_steps a s xs b t → ReadsTo steps a s.iter (forget xs) b t.iter
  reads-without true b s t xs h = (ap forget h.0, h.1, ap (λ d. DummyOffsets.iter d) h.2)
  reads-without false true s t xs h = (h.0.iter, yields-without s xs h.0 h.1, step-without h.0 None t h.2)
  reads-without false false s t xs h = (h.0.iter, yields-without s xs h.0 h.1, ap (λ d. DummyOffsets.iter d) h.2)

  module _ (old : Ahead (DummyOffsets S) RangedItem) (given : Option RangedItem) (new : Ahead (DummyOffsets S) RangedItem) where
    abbrev Given : Type 0
    Given = GivesFirst ranged_steps text_of_ranged ranged_of shown_ranged IsOwnedRanged old given new

    left-without : (g : Given) (rest : List Item) → (new.is_over ≡ true → rest ≡ [])
        → event_merged (option_to_list (option_map without_range old.held) ++ (forget g.read ++ rest))
        ≡ then_given (option_map (shown_item shown) (option_map without_range given)) (event_merged (option_to_list (option_map without_range new.held) ++ rest))
    left-without g rest over =
        let ranged = map with_range rest in
        let before : forget (option_to_list old.held ++ (g.read ++ ranged)) ≡ option_to_list (option_map without_range old.held) ++ (forget g.read ++ rest)
        = lists-without old.held (g.read ++ ranged) ∙ ap (λ l. option_to_list (option_map without_range old.held) ++ l) (map-append without_range g.read ranged ∙ ap (λ l. forget g.read ++ l) (forget-with rest)) in
        let following : forget (option_to_list new.held ++ ranged) ≡ option_to_list (option_map without_range new.held) ++ rest
        = lists-without new.held ranged ∙ ap (λ l. option_to_list (option_map without_range new.held) ++ l) (forget-with rest) in
        ap event_merged (sym before) ∙ sym (merged-without (option_to_list old.held ++ (g.read ++ ranged)))
        ∙ ap (map without) (g.gives ranged (λ e. ap (map with_range) (over e)))
        ∙ then-without given (ranged_merged (option_to_list new.held ++ ranged))
        ∙ ap (then_given (option_map (shown_item shown) (option_map without_range given))) (merged-without (option_to_list new.held ++ ranged) ∙ ap event_merged following)

    first-without : Given → GivesFirst steps text_of_event event_of shown IsOwnedText (plain old) (option_map without_range given) (plain new)
    first-without g = record {
      read = forget g.read;
      reads = reads-without old.is_over new.is_over old.iter new.iter g.read g.reads;
      gives = left-without g;
      hands_on = subst (λ l. IfSome (option_map without_range given) (HandsOn text_of_event shown IsOwnedText l)) (lists-without old.held g.read) (hand-without given (option_to_list old.held ++ g.read) g.hands_on);
      ends = ends-without (new.is_over ≡ true) given new.held g.ends;
    }

    refused-without : Refuses ranged_steps text_of_ranged shown_ranged old given new → Refuses steps text_of_event shown (plain old) (option_map without_range given) (plain new)
    refused-without r = record {
      error = r.error;
      is = ap (option_map without_range) r.is;
      read = forget r.read;
      was_open = r.was_open;
      reads = yields-without old.iter r.read new.iter r.reads;
      several = subst AreSeveral (lists-without old.held r.read) (several-without (option_to_list old.held ++ r.read) r.several);
      texts = subst (AreTexts text_of_event shown) (lists-without old.held r.read) (texts-without (option_to_list old.held ++ r.read) r.texts);
      is_over = r.is_over;
      nothing_held = ap (option_map without_range) r.nothing_held;
    }

    pub merged_without : GivesMerged ranged_steps text_of_ranged ranged_of shown_ranged IsOwnedRanged old given new
        → GivesMerged steps text_of_event event_of shown IsOwnedText (plain old) (option_map without_range given) (plain new)
    merged_without (inl g) = inl (first-without g)
    merged_without (inr r) = inr (refused-without r)
