-- Texts that are read one by one, and the text that they are joined into.
use Rattle.std.proofs.Common.{◌≡◌, ◌≢◌, ℕ, ◌==◌, T, true, false, List, [], ◌∷◌, ◌++◌, length, map, Option, Some, None, option_to_list, Result, Ok, Err, OnErr, refl, sym, ap, subst, ◌∙◌, true≢false}
use Rattle.std.proofs.Math.Facts.{eqb_yes}
use Rattle.std.proofs.lemmas.List.{map-append, nil_from_length}
use Rattle.std.proofs.iter.Next.{Yields-more}
use Rattle.std.specs.declared.ops.Range.{Range}
use Rattle.std.specs.Iterator.{Yields}
use Rattle.cmark_merge.specs.Merge.{joined}
use Rattle.cmark_values.specs.declared.text.CowStr.{CowStr}
use Rattle.cmark_merge.specs.Reading.{Ahead, Reads}
use Rattle.cmark_merge.specs.Steps.{ReadsOne, ReadsRun, ReadsText, ReadsTexts}
use Rattle.cmark_merge.specs.Streams.{RangedItem, text_at, text_item}
use Rattle.cmark_merge.proofs.MergeSteps.{joined-then}
use Rattle.cmark_merge.proofs.ReadSteps.{reads-append, reads-yields}

pub on_err : {A E P : Type 0} (r : Result A E) → P → OnErr r P
on_err (Ok x) p = tt
on_err (Err e) p = p

-- whether a text is empty
pub empty-of : (bs : List ℕ) → (length bs == 0) ≡ true → bs ≡ []
empty-of bs e = nil_from_length bs (eqb_yes (subst T (sym e) tt))

pub full-of : (bs : List ℕ) → (length bs == 0) ≡ false → bs ≢ []
full-of bs e is = true≢false (subst (λ l. (length l == 0) ≡ false) is e)

module _ {S : Type 0} (steps : S → Option RangedItem → S → Type 0) where
  -- an item that is held
  pub reads-held : (old new : Ahead S RangedItem) (x y : RangedItem) → ReadsOne steps old (Some x) new → y ≡ x → Reads steps old (y ∷ []) new
  reads-held old new x y r e = reads-yields steps old new (y ∷ []) r.0 r.2 (new.iter, subst (λ z. steps old.iter (Some z) new.iter) (sym e) r.1, refl)

  -- one more text
  abbrev pub texts-then : (old mid new : Ahead S RangedItem) (t : CowStr × Range ℕ) → ReadsTexts steps old mid → ReadsText steps mid (Some t) new → ReadsTexts steps old new
  texts-then old mid new t run r = record {
    texts = run.texts ++ t ∷ [];
    yields = subst (λ l. Yields steps old.iter l new.iter) (sym (map-append text_item run.texts (t ∷ [])))
        (Yields-more steps old.iter (map text_item run.texts) mid.iter (text_item t) new.iter run.yields r.0.1);
  }

  -- the run has ended
  abbrev pub run-ended : (old mid new : Ahead S RangedItem) → old.is_over ≡ false → mid.is_over ≡ false → ReadsTexts steps old mid → ReadsText steps mid None new → ReadsRun steps old new.held new
  run-ended old mid new o m run r = record {
    texts = run.texts;
    reads = reads-append steps old mid new (map text_item run.texts) (option_to_list new.held) (reads-yields steps old mid (map text_item run.texts) o m run.yields) r.0;
    no_text = r.1;
    ends = r.2;
  }

-- a text that is pushed
pub pushed : (first second t : CowStr × Range ℕ) (ts : List (CowStr × Range ℕ)) (text more : List ℕ) (start end : ℕ)
    → record { text = text; start = start; end = end } ≡ joined (text_at first) (text_at second ∷ map text_at ts) → more ≡ text ++ (text_at t).text
    → record { text = more; start = start; end = t.1.end } ≡ joined (text_at first) (text_at second ∷ map text_at (ts ++ t ∷ []))
pushed first second t ts text more start end are is =
    joined-then (text_at first) (text_at second) (map text_at ts) (text_at t) text more start end are is
    ∙ ap (λ l. joined (text_at first) (text_at second ∷ l)) (sym (map-append text_at ts (t ∷ [])))
