-- Marks of kinds whose closers were sought in vain.
use Rattle.std.proofs.Common.{◌≡◌, ℕ, zero, suc, ◌+◌, ◌-◌, ◌≤◌, Bool, true, false, ◌==◌, List, [], ◌∷◌, drop, None, Some, Option, refl, sym, ap, ◌∙◌, arith, true≢false, eqb-true, drop-drop, rules}
use Rattle.std.specs.Prelude.{is_some, option_map}
use Rattle.cmark_grammar.specs.Letters.{after_first_of, is_letter}
use Rattle.cmark_scan_bytes.specs.Guards.{AreMarks, AreWithin, OpensWith, closed_by, closer_of, marked}
use Rattle.cmark_scan_bytes.specs.declared.inline_html.HtmlScanGuard.{HtmlScanGuard}
use Rattle.cmark_scan_bytes.specs.declared.inline_html.MarkupKind.{MarkupKind}

-- if there is no closer, there is none later
none-drop : (closer : List ℕ) (k : ℕ) (bs : List ℕ) → after_first_of closer bs ≡ None → after_first_of closer (drop k bs) ≡ None
none-drop closer zero bs e = e
none-drop closer (suc k) [] e = refl
none-drop closer (suc k) (b ∷ bs) e = grind (arith, none-drop closer k bs)

none-further : (closer bytes : List ℕ) (at later : ℕ) → at ≤ later → after_first_of closer (drop at bytes) ≡ None → after_first_of closer (drop later bytes) ≡ None
none-further closer bytes at later le e =
    ap (after_first_of closer) (sym (drop-drop (later - at) at bytes ∙ ap (λ n. drop n bytes) (let q : at + (later - at) ≡ later = omega (arith, le) in q))) ∙ none-drop closer (later - at) (drop at bytes) e

-- marks stay true
pub marks-further : (bytes : List ℕ) (guard : HtmlScanGuard) (at later : ℕ) → AreMarks bytes at guard → at ≤ later → AreMarks bytes later guard
marks-further bytes guard at later marks le = grind (arith, none-further)

-- ## A closer that was sought in vain

-- a letter is no closer of a declaration
no-letter : (letter : ℕ) (t : Bool) → (letter == 62) ≡ t → is_letter letter ≡ true → t ≡ false
no-letter letter true h e = absurd (true≢false (sym e ∙ ap is_letter (eqb-true letter 62 h)))
no-letter letter false h e = refl

-- opened markup is not closed: there is no closer of its kind from its beginning on
pub none-closes : (k : MarkupKind) (bs inside : List ℕ) → OpensWith k bs inside → closed_by k inside ≡ None → after_first_of (closer_of k) bs ≡ None
none-closes k bs inside opens none = grind (arith, no-letter)

-- so the mark of its kind may go to the end
pub marks-set : (bytes : List ℕ) (old new : HtmlScanGuard) (k : MarkupKind) (at place later : ℕ) → AreMarks bytes at old → new ≡ marked k place old → after_first_of (closer_of k) (drop at bytes) ≡ None → at ≤ later → AreMarks bytes later new
marks-set bytes old new k at place later marks is none le = search (rules, marks-further, none-further)

pub within-set : (size : ℕ) (old new : HtmlScanGuard) (k : MarkupKind) (place : ℕ) → AreWithin size old → place ≤ size → new ≡ marked k place old → AreWithin size new
within-set size old new k place within le is = grind arith

pub none-mapped : {A B : Type 0} (f : A → B) (o : Option A) → is_some o ≡ false → option_map f o ≡ None
none-mapped f None e = refl
none-mapped f (Some x) e = absurd (true≢false e)
