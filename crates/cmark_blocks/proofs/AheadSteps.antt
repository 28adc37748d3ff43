-- A line ahead, inside the containers that keep it.
use Rattle.std.proofs.Common.{◌≡◌, ℕ, Bool, true, false, not, ◌&&◌, ◌||◌, List, [], ◌∷◌, ◌++◌, Option, Some, None, refl, sym, ap, ◌∙◌, subst, zero, suc, ◌≤◌, drop, length, arith}
use Rattle.std.specs.Prelude.{MatchOption}
use Rattle.cmark_grammar.specs.Lines.{lines}
use Rattle.cmark_grammar.specs.Answers.{Lookup}
use Rattle.cmark_grammar.specs.Options.{Options}
use Rattle.cmark_grammar.specs.Rows.{Row, rows_from, shown, show_as}
use Rattle.cmark_line_rules.specs.Rests.{row_of}
use Rattle.cmark_line_rules.specs.declared.line_rest.LineRest.{LineRest}
use Rattle.cmark_blocks.specs.Ahead.{lines_at}
use Rattle.cmark_grammar.specs.Containers.{keeps, strip_as, strips}
use Rattle.cmark_grammar.specs.Leaves.{underlines}
use Rattle.cmark_grammar.specs.Openings.{interrupts, text_lines, put_if, is_none}
use Rattle.cmark_blocks.specs.TablesAhead.{block_interrupts}
use Rattle.cmark_line_rules.proofs.LazyRows.{whole-texts}
use Rattle.cmark_block_model.proofs.RowPlaces.{kept-following}
use Rattle.cmark_block_model.specs.BlockPass.{LineKeepers, kept_by, kept_if, ahead_in}
use Rattle.cmark_block_model.specs.OpenBlocks.{OpenContainer}

module _ (text : List ℕ) (options : Options) (lookup : Lookup) where
  pub ahead-none : (cs : List OpenContainer) → ahead_in text options lookup cs [] ≡ []
  ahead-none [] = refl
  ahead-none (c ∷ cs) = ahead-none cs

  -- the facts about a line ahead, if it is known which containers keep it
  pub record Sees (cs : List OpenContainer) (r : Row) (more : List Row) (w : LineKeepers text options lookup) : Type 0 where
    pub kept : w.missed ≡ [] → ahead_in text options lookup cs (r ∷ more) ≡ w.left ∷ ahead_in text options lookup cs more
    pub missed : (c : OpenContainer) (others : List OpenContainer) → w.missed ≡ c ∷ others → ahead_in text options lookup cs (r ∷ more) ≡ []
    pub whole : w.left.lazy ≡ false
    pub same : w.left.line_end ≡ r.line_end

  pub sees : (outer cs : List OpenContainer) (r : Row) (more : List Row) → r.lazy ≡ false → Sees cs r more (kept_by text options lookup outer cs false r)
  sees outer [] r more whole = record { kept = λ e. refl; missed = λ c others e. absurd (let q : [] ≡ c ∷ others = e in cc); whole = whole; same = refl }
  sees outer (c ∷ cs) r more whole = go (keeps c.container false r) refl (λ s rest ws. sees (outer ++ c ∷ []) cs s rest ws)
    where
      Later : Type 0
      Later = (s : Row) (rest : List Row) → s.lazy ≡ false → Sees cs s rest (kept_by text options lookup (outer ++ c ∷ []) cs false s)

      go : (o : Option Row) → keeps c.container false r ≡ o → Later → Sees (c ∷ cs) r more (kept_if text options lookup o (λ s. kept_by text options lookup (outer ++ c ∷ []) cs false s) (record { kept = outer; missed = c ∷ cs; left = r }))
      go (Some s) e later =
          let n = kept-following c.container false r s e in
          let whole_s : s.lazy ≡ false = ap (λ t. t.lazy) (sym n.1.1) ∙ whole in
          let ih = later s (shown (strips c.container false more)) whole_s in
          let inside : ahead_in text options lookup (c ∷ cs) (r ∷ more) ≡ ahead_in text options lookup cs (s ∷ shown (strips c.container false more)) =
          ap (λ o. ahead_in text options lookup cs (shown (strip_as o r ∷ strips c.container false more))) e
          ∙ ap (λ l. ahead_in text options lookup cs (show_as l s (shown (strips c.container false more)))) whole_s in
          record {
            kept = λ none. inside ∙ ih.kept none;
            missed = λ d others some. inside ∙ ih.missed d others some;
            whole = ih.whole;
            same = ih.same ∙ sym (ap (λ t. t.line_end) n.1.1);
          }
      go None e later = record {
        kept = λ none. absurd (let q : c ∷ cs ≡ [] = none in cc);
        missed = λ d others some. ap (λ o. ahead_in text options lookup cs (shown (strip_as o r ∷ strips c.container false more))) e ∙ ahead-none cs;
        whole = whole;
        same = refl;
      }

  -- whether a line continues a paragraph as its text, before others
  pub text-if : (r : Row) (ahead : List Row) → r.lazy ≡ false → (is table : Bool) → is ≡ (not (interrupts options true r ahead) && is_none (underlines r)) → table ≡ block_interrupts options r ahead
      → text_lines options (r ∷ ahead) ≡ put_if (is && not table) r (text_lines options ahead)
  text-if r ahead whole is table e t =
      ap (λ z. put_if (z && is_none (underlines r)) r (text_lines options ahead)) (whole-texts options r ahead whole)
      ∙ ap (λ b. put_if b r (text_lines options ahead)) (apart (interrupts options true r ahead) (block_interrupts options r ahead) (is_none (underlines r)) ∙ ap (λ z. z && not (block_interrupts options r ahead)) (sym e) ∙ ap (λ z. is && not z) (sym t))
    where
      apart : (a b n : Bool) → (not (a || b) && n) ≡ ((not a && n) && not b)
      apart true b n = refl
      apart false true true = refl
      apart false true false = refl
      apart false false true = refl
      apart false false false = refl

  -- of the containers of a list the first few, one by one
  pub record Inside (cs : List OpenContainer) (at : ℕ) (r : Row) (more : List Row) (rest : Row) : Type 0 where
    pub others : List Row
    pub lines : ahead_in text options lookup cs (r ∷ more) ≡ ahead_in text options lookup (drop at cs) (rest ∷ others)
    pub following : ahead_in text options lookup cs more ≡ ahead_in text options lookup (drop at cs) others

  pub inside-start : (cs : List OpenContainer) (r : Row) (more : List Row) → Inside cs 0 r more r
  inside-start cs r more = record { others = more; lines = refl; following = refl }

  pub inside-keeps : (cs : List OpenContainer) (at : ℕ) (c : OpenContainer) (others : List OpenContainer) (r : Row) (more : List Row) (rest s : Row) → drop at cs ≡ c ∷ others → drop (suc at) cs ≡ others →
      Some s ≡ keeps c.container false rest → s.lazy ≡ false → Inside cs at r more rest → Inside cs (suc at) r more s
  inside-keeps cs at c others r more rest s is next keep whole i = record {
    others = shown (strips c.container false i.others);
    lines =
        i.lines ∙ ap (λ l. ahead_in text options lookup l (rest ∷ i.others)) is
        ∙ ap (λ o. ahead_in text options lookup others (shown (strip_as o rest ∷ strips c.container false i.others))) (sym keep)
        ∙ ap (λ l. ahead_in text options lookup others (show_as l s (shown (strips c.container false i.others)))) whole
        ∙ ap (λ l. ahead_in text options lookup l (s ∷ shown (strips c.container false i.others))) (sym next);
    following = i.following ∙ ap (λ l. ahead_in text options lookup l i.others) is ∙ ap (λ l. ahead_in text options lookup l (shown (strips c.container false i.others))) (sym next);
  }

  pub inside-misses : (cs : List OpenContainer) (at : ℕ) (c : OpenContainer) (others : List OpenContainer) (r : Row) (more : List Row) (rest : Row) → drop at cs ≡ c ∷ others →
      None ≡ keeps c.container false rest → Inside cs at r more rest → ahead_in text options lookup cs (r ∷ more) ≡ []
  inside-misses cs at c others r more rest is keep i =
      i.lines ∙ ap (λ l. ahead_in text options lookup l (rest ∷ i.others)) is
      ∙ ap (λ o. ahead_in text options lookup others (shown (strip_as o rest ∷ strips c.container false i.others))) (sym keep) ∙ ahead-none others

  pub inside-all : (cs : List OpenContainer) (at : ℕ) (r : Row) (more : List Row) (rest : Row) → drop at cs ≡ [] → Inside cs at r more rest → ahead_in text options lookup cs (r ∷ more) ≡ rest ∷ ahead_in text options lookup cs more
  inside-all cs at r more rest none i =
      i.lines ∙ ap (λ l. ahead_in text options lookup l (rest ∷ i.others)) none
      ∙ ap (λ l. rest ∷ l) (sym (i.following ∙ ap (λ l. ahead_in text options lookup l i.others) none))

  -- the next whole line of the text, before those after it
  pub next-line : (T : List ℕ) (start place : ℕ) (line : LineRest) (cs : List OpenContainer) (seen : Option LineRest) → T ≡ text → start ≡ place →
      rows_from start (lines (drop start T)) ≡ row_of line ∷ rows_from (row_of line).line_end (lines (drop (row_of line).line_end T)) →
      ((more : List Row) → MatchOption seen (ahead_in text options lookup cs (row_of line ∷ more) ≡ []) (λ rest. ((row_of rest).line_end ≡ (row_of line).line_end) × (ahead_in text options lookup cs (row_of line ∷ more) ≡ row_of rest ∷ ahead_in text options lookup cs more))) →
      MatchOption seen (ahead_in text options lookup cs (lines_at text place) ≡ []) (λ rest. ahead_in text options lookup cs (lines_at text place) ≡ row_of rest ∷ ahead_in text options lookup cs (lines_at text (row_of rest).line_end))
  next-line T start place line cs seen is at first sees =
      go seen (sees (lines_at text (row_of line).line_end))
    where
      there : lines_at text place ≡ row_of line ∷ lines_at text (row_of line).line_end
      there = subst (λ p. lines_at text p ≡ row_of line ∷ lines_at text (row_of line).line_end) at (subst (λ t. lines_at t start ≡ row_of line ∷ lines_at t (row_of line).line_end) is first)

      go : (seen : Option LineRest) → MatchOption seen (ahead_in text options lookup cs (row_of line ∷ lines_at text (row_of line).line_end) ≡ []) (λ rest. ((row_of rest).line_end ≡ (row_of line).line_end) × (ahead_in text options lookup cs (row_of line ∷ lines_at text (row_of line).line_end) ≡ row_of rest ∷ ahead_in text options lookup cs (lines_at text (row_of line).line_end))) →
          MatchOption seen (ahead_in text options lookup cs (lines_at text place) ≡ []) (λ rest. ahead_in text options lookup cs (lines_at text place) ≡ row_of rest ∷ ahead_in text options lookup cs (lines_at text (row_of rest).line_end))
      go None e = ap (ahead_in text options lookup cs) there ∙ e
      go (Some rest) e = ap (ahead_in text options lookup cs) there ∙ e.1 ∙ ap (λ p. row_of rest ∷ ahead_in text options lookup cs (lines_at text p)) (sym e.0)

  -- at the end of the text no line is left
  pub no-line : (start place : ℕ) (cs : List OpenContainer) → start ≡ place → start ≡ length text → ahead_in text options lookup cs (lines_at text place) ≡ []
  no-line start place cs at end =
      ap (λ l. ahead_in text options lookup cs (rows_from place (lines l))) (drop-all text place (omega (arith, at, end))) ∙ ahead-none cs
    where
      drop-all : (xs : List ℕ) (n : ℕ) → length xs ≤ n → drop n xs ≡ []
      drop-all [] zero le = refl
      drop-all [] (suc n) le = refl
      drop-all (x ∷ xs) zero le = absurd (omega (arith, le))
      drop-all (x ∷ xs) (suc n) le = drop-all xs n (omega (arith, le))
