-- Items that show the same texts are merged alike.
use Rattle.std.proofs.Common.{◌≡◌, ℕ, List, [], ◌∷◌, ◌++◌, map, map-id, Option, Some, None, option_map, Result, Ok, Err, refl, sym, ap, ap₂, ◌∙◌}
use Rattle.std.proofs.lemmas.List.{map-append}
use Rattle.cmark_grammar.specs.Event.{Event, Text, Ranged}
use Rattle.cmark_merge.specs.Merge.{TextAt, event_of, joined, merge, merge_after, merge_events, merge_ranged, merged_run, ranged_of, run_with, text_between, text_of_event, text_of_ok, text_of_ranged, texts, unless_empty}

unless_empty-map : {A B : Type 0} (f : A → B) (text : List ℕ) (x : A) → map f (unless_empty text x) ≡ unless_empty text (f x)
unless_empty-map f [] x = refl
unless_empty-map f (b ∷ bs) x = refl

-- f maps items of one kind to items of another, and g their texts
module _ {A B : Type 0} (text_a : A → Option TextAt) (item_a : TextAt → A) (text_b : B → Option TextAt) (item_b : TextAt → B) (f : A → B) (g : TextAt → TextAt)
    (text_same : (x : A) → text_b (f x) ≡ option_map g (text_a x)) (item_same : (t : TextAt) → f (item_a t) ≡ item_b (g t)) (bytes_same : (t : TextAt) → t.text ≡ (g t).text)
    (joined_same : (t : TextAt) (ts : List TextAt) → item_b (g (joined t ts)) ≡ item_b (joined (g t) (map g ts))) where
  texts_same : (ts : List TextAt) → texts ts ≡ texts (map g ts)
  texts_same [] = refl
  texts_same (t ∷ ts) = ap₂ (λ a b. a ++ b) (bytes_same t) (texts_same ts)

  run_same : (run : List TextAt) → map f (merged_run item_a run) ≡ merged_run item_b (map g run)
  run_same [] = refl
  run_same (t ∷ []) = ap (λ x. x ∷ []) (item_same t)
  run_same (t ∷ u ∷ us) =
      unless_empty-map f (joined t (u ∷ us)).text (item_a (joined t (u ∷ us)))
      ∙ ap₂ (λ a b. unless_empty a b) (ap₂ (λ a b. a ++ b) (bytes_same t) (texts_same (u ∷ us))) (item_same (joined t (u ∷ us)) ∙ joined_same t (u ∷ us))

  step_same : (run : List TextAt) (x : A) (xs : List A) → ((longer : List TextAt) → map f (merge_after text_a item_a longer xs) ≡ merge_after text_b item_b (map g longer) (map f xs))
      → (o : Option TextAt) → map f (run_with item_a run o x (λ longer. merge_after text_a item_a longer xs)) ≡ run_with item_b (map g run) (option_map g o) (f x) (λ longer. merge_after text_b item_b longer (map f xs))
  step_same run x xs ih (Some t) = ih (run ++ t ∷ []) ∙ ap (λ l. merge_after text_b item_b l (map f xs)) (map-append g run (t ∷ []))
  step_same run x xs ih None =
      map-append f (merged_run item_a run) (x ∷ merge text_a item_a xs) ∙ ap₂ (λ a b. a ++ f x ∷ b) (run_same run) (ih [])

  after_same : (run : List TextAt) (xs : List A) → map f (merge_after text_a item_a run xs) ≡ merge_after text_b item_b (map g run) (map f xs)
  after_same run [] = run_same run
  after_same run (x ∷ xs) =
      step_same run x xs (λ longer. after_same longer xs) (text_a x)
      ∙ ap (λ o. run_with item_b (map g run) o (f x) (λ longer. merge_after text_b item_b longer (map f xs))) (sym (text_same x))

  pub merge_same : (xs : List A) → map f (merge text_a item_a xs) ≡ merge text_b item_b (map f xs)
  merge_same xs = after_same [] xs

-- a text without its range
abbrev unplaced : TextAt → TextAt
unplaced t = record { text = t.text; start = 0; end = 0 }

texts-unplaced : (ts : List TextAt) → texts ts ≡ texts (map unplaced ts)
texts-unplaced [] = refl
texts-unplaced (t ∷ ts) = ap (λ l. t.text ++ l) (texts-unplaced ts)

between-unplaced : (e : Event) (start end : ℕ) → text_between e 0 0 ≡ option_map unplaced (text_between e start end)
between-unplaced (Text text) start end = refl
between-unplaced e start end = refl

joined-unplaced : (t : TextAt) (ts : List TextAt) → event_of (unplaced (joined t ts)) ≡ event_of (joined (unplaced t) (map unplaced ts))
joined-unplaced t ts = ap (λ l. Text (t.text ++ l)) (texts-unplaced ts)

-- events without ranges are merged as they are with ranges
pub merge-events : (rs : List Ranged) → map Ranged.event (merge_ranged rs) ≡ merge_events (map Ranged.event rs)
merge-events rs =
    merge_same text_of_ranged ranged_of text_of_event event_of Ranged.event unplaced (λ r. between-unplaced r.event r.start r.end) (λ t. refl) (λ t. refl) joined-unplaced rs

-- the same for items
option-same : {A : Type 0} (o : Option A) → o ≡ option_map (λ x. x) o
option-same None = refl
option-same (Some x) = refl

pub merge-ok : {B E : Type 0} (text_of : B → Option TextAt) (item_of : TextAt → B) (xs : List B)
    → merge (text_of_ok {E = E} text_of) (λ t. Ok (item_of t)) (map Ok xs) ≡ map Ok (merge text_of item_of xs)
merge-ok text_of item_of xs =
    sym (merge_same text_of item_of (text_of_ok text_of) (λ t. Ok (item_of t)) Ok (λ t. t) (λ x. option-same (text_of x)) (λ t. refl) (λ t. refl)
    (λ t ts. ap (λ l. Ok (item_of (joined t l))) (sym (map-id ts))) xs)

-- items without ranges
abbrev pub without : {E : Type 0} → Result Ranged E → Result Event E
without (Ok r) = Ok r.event
without (Err e) = Err e

without-text : {E : Type 0} (x : Result Ranged E) → text_of_ok text_of_event (without x) ≡ option_map unplaced (text_of_ok text_of_ranged x)
without-text (Ok r) = between-unplaced r.event r.start r.end
without-text (Err e) = refl

pub merge-without : {E : Type 0} (xs : List (Result Ranged E))
    → map without (merge (text_of_ok text_of_ranged) (λ t. Ok (ranged_of t)) xs) ≡ merge (text_of_ok text_of_event) (λ t. Ok (event_of t)) (map without xs)
merge-without xs =
    merge_same (text_of_ok text_of_ranged) (λ t. Ok (ranged_of t)) (text_of_ok text_of_event) (λ t. Ok (event_of t)) without unplaced without-text (λ t. refl) (λ t. refl)
    (λ t ts. ap Ok (joined-unplaced t ts)) xs
