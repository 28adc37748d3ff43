-- A closing tilde or caret whose search finds nothing makes all open ones inactive.
use Rattle.std.proofs.Common.{◌≡◌, ℕ, Bool, true, false, List, [], ◌∷◌, ◌++◌, length, refl, sym, ap, ◌∙◌, arith}
use Rattle.std.specs.Prelude.{reverse, map, filter}
use Rattle.std.proofs.lemmas.List.{append-nil, reverse-append}
use Rattle.std.proofs.lemmas.List.Elements.{filter-append}
use Rattle.cmark_grammar.specs.Emphasis.{Run, deactivates}
use Rattle.cmark_emphasis.specs.Shown.{shown_run, open_runs}
use Rattle.cmark_emphasis.specs.Stack.{stays_open, still_open}
use Rattle.cmark_emphasis.specs.Bottoms.{stays, active_runs}
use Rattle.cmark_emphasis.specs.declared.run.Run as code_run
use Rattle.cmark_emphasis.proofs.ActiveRuns.{filter-active_runs, active_runs-all}

filter-map : (stack : List code_run.Run) → map shown_run (filter stays stack) ≡ filter stays_open (map shown_run stack)
filter-map [] = refl
filter-map (r ∷ rs) = go (stays r) refl (filter-map rs)
  where
    go : (b : Bool) → stays r ≡ b → map shown_run (filter stays rs) ≡ filter stays_open (map shown_run rs) → map shown_run (filter stays (r ∷ rs)) ≡ filter stays_open (map shown_run (r ∷ rs))
    go true e i = rw e (ap (λ l. shown_run r ∷ l) i)
    go false e i = rw e i

filter-reverse : (xs : List Run) → reverse (filter stays_open xs) ≡ filter stays_open (reverse xs)
filter-reverse [] = refl
filter-reverse (x ∷ xs) = go (stays_open x) refl (filter-reverse xs)
  where
    ends : filter stays_open (reverse (x ∷ xs)) ≡ filter stays_open (reverse xs) ++ filter stays_open (x ∷ [])
    ends = ap (filter stays_open) (reverse-append (x ∷ []) xs) ∙ filter-append stays_open (reverse xs) (x ∷ [])

    go : (b : Bool) → stays_open x ≡ b → reverse (filter stays_open xs) ≡ filter stays_open (reverse xs) → reverse (filter stays_open (x ∷ xs)) ≡ filter stays_open (reverse (x ∷ xs))
    go true e i = rw e (reverse-append (x ∷ []) (filter stays_open xs) ∙ ap (λ l. l ++ x ∷ []) i ∙ sym (ends ∙ ap (λ l. filter stays_open (reverse xs) ++ l) (rw e refl)))
    go false e i = rw e (i ∙ sym (ends ∙ ap (λ l. filter stays_open (reverse xs) ++ l) (rw e refl) ∙ append-nil (filter stays_open (reverse xs))))

open-filter : (stack : List code_run.Run) → open_runs (filter stays stack) ≡ filter stays_open (open_runs stack)
open-filter stack = ap reverse (filter-map stack) ∙ filter-reverse (map shown_run stack)

pub deactivate_all : (c : Run) (n : ℕ) (stack : List code_run.Run) → deactivates c ≡ true → open_runs (active_runs (length stack) stack) ≡ still_open c (open_runs (active_runs n stack))
deactivate_all c n stack on =
    rw on (ap open_runs (active_runs-all (length stack) stack (omega arith) ∙ sym (filter-active_runs n stack)) ∙ open-filter (active_runs n stack))
