-- Merging, item by item.
use Rattle.std.proofs.Common.{◌≡◌, ℕ, List, [], ◌∷◌, ◌++◌, map, Option, Some, None, IfNone, IfSome, option_to_list, refl, sym, ap, ap₂, ◌∙◌, subst, append_assoc, append-nil}
use Rattle.cmark_merge.specs.Merge.{TextAt, joined, last_end, merge, merge_after, merged_run, run_with, texts}

module _ {A : Type 0} (text_of : A → Option TextAt) (item_of : TextAt → A) where
  -- a text follows a run
  pub following-text : (run : List TextAt) (x : A) (xs : List A) (t : TextAt) → text_of x ≡ Some t
      → merge_after text_of item_of run (x ∷ xs) ≡ merge_after text_of item_of (run ++ t ∷ []) xs
  following-text run x xs t e = ap (λ o. run_with item_of run o x (λ longer. merge_after text_of item_of longer xs)) e

  -- another item follows a run
  pub following-other : (run : List TextAt) (x : A) (xs : List A) → text_of x ≡ None
      → merge_after text_of item_of run (x ∷ xs) ≡ merged_run item_of run ++ x ∷ merge text_of item_of xs
  following-other run x xs e = ap (λ o. run_with item_of run o x (λ longer. merge_after text_of item_of longer xs)) e

  -- an item that is not a text stays before the merged form of the others
  pub merge-other : (x : A) (xs : List A) → text_of x ≡ None → merge text_of item_of (x ∷ xs) ≡ x ∷ merge text_of item_of xs
  merge-other x xs e = following-other [] x xs e

  -- a run ends before an item that is not a text, or at the end
  pub following-end : (run : List TextAt) (following : Option A) (rest : List A) → IfSome following (λ x. text_of x ≡ None) → IfNone following (rest ≡ [])
      → merge_after text_of item_of run (option_to_list following ++ rest) ≡ merged_run item_of run ++ merge text_of item_of (option_to_list following ++ rest)
  following-end run None rest h e =
      subst (λ l. merge_after text_of item_of run l ≡ merged_run item_of run ++ merge text_of item_of l) (sym e) (sym (append-nil (merged_run item_of run)))
  following-end run (Some x) rest h e = following-other run x rest h ∙ ap (λ l. merged_run item_of run ++ l) (sym (merge-other x rest h))

  -- texts after a run
  module _ {T : Type 0} (item : T → A) (at : T → TextAt) (is : (t : T) → text_of (item t) ≡ Some (at t)) where
    pub following-texts : (run : List TextAt) (ts : List T) (xs : List A)
        → merge_after text_of item_of run (map item ts ++ xs) ≡ merge_after text_of item_of (run ++ map at ts) xs
    following-texts run [] xs = ap (λ l. merge_after text_of item_of l xs) (sym (append-nil run))
    following-texts run (t ∷ ts) xs =
        following-text run (item t) (map item ts ++ xs) (at t) (is t) ∙ following-texts (run ++ at t ∷ []) ts xs
        ∙ ap (λ l. merge_after text_of item_of l xs) (append_assoc run (at t ∷ []) (map at ts))

-- one more text
pub texts-more : (ts : List TextAt) (u : TextAt) → texts (ts ++ u ∷ []) ≡ texts ts ++ u.text
texts-more [] u = append-nil u.text
texts-more (t ∷ ts) u = ap (λ l. t.text ++ l) (texts-more ts u) ∙ sym (append_assoc t.text (texts ts) u.text)

pub last_end-more : (t : TextAt) (ts : List TextAt) (u : TextAt) → last_end t (ts ++ u ∷ []) ≡ u.end
last_end-more t [] u = refl
last_end-more t (s ∷ ts) u = last_end-more s ts u

joined-more : (t : TextAt) (ts : List TextAt) (u : TextAt) → joined t (ts ++ u ∷ []) ≡ record { text = (joined t ts).text ++ u.text; start = t.start; end = u.end }
joined-more t ts u =
    ap₂ (λ text end. record { text = text; start = t.start; end = end }) (ap (λ l. t.text ++ l) (texts-more ts u) ∙ sym (append_assoc t.text (texts ts) u.text)) (last_end-more t ts u)

-- one more text after those that are joined
pub joined-then : (first second : TextAt) (ts : List TextAt) (u : TextAt) (text more : List ℕ) (start end : ℕ)
    → record { text = text; start = start; end = end } ≡ joined first (second ∷ ts) → more ≡ text ++ u.text
    → record { text = more; start = start; end = u.end } ≡ joined first (second ∷ (ts ++ u ∷ []))
joined-then first second ts u text more start end are is =
    ap₂ (λ l s. record { text = l; start = s; end = u.end }) (is ∙ ap (λ l. l ++ u.text) (ap (λ t. TextAt.text t) are)) (ap (λ t. TextAt.start t) are)
    ∙ sym (joined-more first (second ∷ ts) u)
