-- In the leaves of a document that is derived each stretch but the last ends with a line ending.
use Rattle.std.specs.Prelude.{◌-◌, if◌then◌else◌, get_or}
use Rattle.std.proofs.Common.{◌≡◌, ◌⊎◌, inl, inr, ⊎_elim, ℕ, ◌+◌, Bool, true, false, List, [], ◌∷◌, ◌++◌, length, refl, sym, ap, ◌∙◌, subst, arith, append_assoc, length-append, get_or-append-add, rules}
use Rattle.cmark_grammar.specs.Answers.{Lookup}
use Rattle.cmark_grammar.specs.BlockDocument.{BlockDocument, Nil, Node}
use Rattle.cmark_grammar.specs.Containers.{Container, enter, strips, insides}
use Rattle.cmark_grammar.specs.Derivation.{Derives}
use Rattle.cmark_grammar.specs.Lines.{lines, ends_line, onto, is_content}
use Rattle.cmark_grammar.specs.Options.{Options}
use Rattle.cmark_grammar.specs.Rows.{Row, rows, rows_from, begin_of, start_of}
use Rattle.cmark_grammar.specs.SetextAttributes.{texts_before}
use Rattle.cmark_grammar.specs.SpanDocuments.{Segment, Given, Content, stretches_of, segments}
use Rattle.cmark_grammar.specs.Tokens.{stretch_then, stretches, words_end}
use Rattle.cmark_block_model.proofs.BoundaryLaws.{joined}
use Rattle.cmark_block_model.proofs.RowPlaces.{strip-line_end}
use Rattle.cmark_inline_model.specs.LeafModel.{EndsLine, HaveLineEnds, AreLeavesOfLines}
use Rattle.cmark_inline_model.proofs.LeafStretches.{AllLeaves, KeepsStretches, derived-leaves}

-- ## Lines

-- a line feed or a carriage return is its last byte
abbrev LastEnds : List ℕ → Type 0
LastEnds [] = ⊥
LastEnds (b ∷ []) = is_content b ≡ false
LastEnds (b ∷ (c ∷ bs)) = LastEnds (c ∷ bs)

abbrev pub AreLines : List (List ℕ) → Type 0
AreLines [] = Unit {0}
AreLines (l ∷ ls) = ((ls ≡ []) ⊎ LastEnds l) × AreLines ls

last_more : (b : ℕ) (l : List ℕ) → LastEnds l → LastEnds (b ∷ l)
last_more b [] a = absurd (let z : ⊥ = a in z)
last_more b (c ∷ l) a = a

onto_lines : (b : ℕ) (ls : List (List ℕ)) → AreLines ls → AreLines (onto b ls)
onto_lines b [] e = (inl refl, tt)
onto_lines b (l ∷ ls) e = (⊎_elim inl (λ a. inr (last_more b l a)) e.0, e.1)

onto_joined : (b : ℕ) (ls : List (List ℕ)) → joined (onto b ls) ≡ b ∷ joined ls
onto_joined b [] = refl
onto_joined b (l ∷ ls) = refl

no_content : (b : ℕ) (bs : List ℕ) → ends_line b bs ≡ true → is_content b ≡ false
no_content b bs e = grind arith

pub lines_are : (bs : List ℕ) → AreLines (lines bs) × (joined (lines bs) ≡ bs)
lines_are [] = (tt, refl)
lines_are (b ∷ bs) = go (ends_line b bs) refl (lines_are bs)
  where
    go : (z : Bool) → ends_line b bs ≡ z → AreLines (lines bs) × (joined (lines bs) ≡ bs) → AreLines (if z then (b ∷ []) ∷ lines bs else onto b (lines bs)) × (joined (if z then (b ∷ []) ∷ lines bs else onto b (lines bs)) ≡ b ∷ bs)
    go true e h = ((inr (no_content b bs e), h.0), ap (λ t. b ∷ t) h.1)
    go false e h = (onto_lines b (lines bs) h.0, onto_joined b (lines bs) ∙ ap (λ t. b ∷ t) h.1)

-- ## Rows

-- each row but the last ends with a line ending
abbrev pub RowsEnd : List ℕ → List Row → Type 0
RowsEnd text [] = Unit {0}
RowsEnd text (r ∷ rs) = ((rs ≡ []) ⊎ EndsLine text r.line_end) × RowsEnd text rs

rows_split : (text : List ℕ) (a b : List Row) → RowsEnd text (a ++ b) → RowsEnd text a × RowsEnd text b
rows_split text [] b h = (tt, h)
rows_split text (r ∷ []) b h = ((inl refl, tt), h.1)
rows_split text (r ∷ (s ∷ a)) b h = let i = rows_split text (s ∷ a) b h.1 in ((⊎_elim (λ e. absurd (let d : ⊥ = cc in d)) inr h.0, i.0), i.1)

rows_strip : (text : List ℕ) (k : Container) (bare : Bool) (rs : List Row) → RowsEnd text rs → RowsEnd text (strips k bare rs)
rows_strip text k bare [] h = tt
rows_strip text k bare (r ∷ []) h = (inl refl, tt)
rows_strip text k bare (r ∷ (s ∷ rs)) h =
    (⊎_elim (λ e. absurd (let d : ⊥ = cc in d)) (λ e. inr (subst (EndsLine text) (sym (strip-line_end k bare r)) e)) h.0, rows_strip text k false (s ∷ rs) h.1)

rows_inside : (text : List ℕ) (k : Container) (first : Row) (more : List Row) → RowsEnd text (first ∷ more) → RowsEnd text (insides k first more)
unfolding enter
rows_inside text k first more h = grind (arith, rows_strip)

last_ends : (text before line after : List ℕ) → text ≡ before ++ (line ++ after) → LastEnds line → EndsLine text (length before + length line)
last_ends text before [] after e a = absurd (let z : ⊥ = a in z)
last_ends text before (b ∷ []) after e a =
    let z : length before + 0 ≡ (length before + 1) - 1 = omega arith in
    let byte : get_or text ((length before + 1) - 1) 0 ≡ b = ap (λ t. get_or t ((length before + 1) - 1) 0) e ∙ ap (λ i. get_or (before ++ (b ∷ after)) i 0) (sym z) ∙ get_or-append-add before (b ∷ after) 0 0 in
    (omega arith, ap is_content byte ∙ a)
last_ends text before (b ∷ (c ∷ line)) after e a =
    let i = last_ends text (before ++ b ∷ []) (c ∷ line) after (e ∙ sym (append_assoc before (b ∷ []) ((c ∷ line) ++ after))) a in
    let l = length-append before (b ∷ []) in
    let s : length (before ++ b ∷ []) + length (c ∷ line) ≡ length before + length (b ∷ (c ∷ line)) = omega arith in
    subst (EndsLine text) s i

pub rows_of_lines : (text before : List ℕ) (ls : List (List ℕ)) (at : ℕ) → text ≡ before ++ joined ls → length before ≡ at → AreLines ls → RowsEnd text (rows_from at ls)
rows_of_lines text before [] at e l h = tt
rows_of_lines text before (line ∷ []) at e l h = (inl refl, tt)
rows_of_lines text before (line ∷ (next ∷ ls)) at e l h = (
  ⊎_elim (λ n. absurd (let d : ⊥ = cc in d)) (λ a. inr (subst (λ n. EndsLine text (n + length line)) l (last_ends text before line (joined (next ∷ ls)) e a))) h.0,
  rows_of_lines text (before ++ line) (next ∷ ls) (at + length line) (e ∙ sym (append_assoc before line (joined (next ∷ ls)))) (length-append before line ∙ ap (λ n. n + length line) l) h.1,
)

rows_end : (text : List ℕ) → RowsEnd text (rows text)
rows_end text = let h = lines_are text in rows_of_lines text [] (lines text) 0 (sym h.1) refl h.0

-- ## Stretches

stretch_ends : (text : List ℕ) (start end : ℕ) (after : BlockDocument) → (stretches_of after ≡ []) ⊎ EndsLine text end → HaveLineEnds text (stretches_of after) → HaveLineEnds text (stretches_of (stretch_then text start end after))
stretch_ends text start end after e h = grind arith

stretches_end : (text : List ℕ) (begin : ℕ) (r : Row) (more : List Row) → RowsEnd text (r ∷ more) → HaveLineEnds text (stretches_of (stretches text begin r more))
stretches_end text begin r [] h = stretch_ends text begin (words_end r) Nil (inl refl) tt
stretches_end text begin r (s ∷ more) h = search (rules, stretch_ends, stretches_end text begin s more h.1, stretches_end text (begin_of s) s more h.1)

-- texts before an offset end as they did, except the last
before_ends : (text : List ℕ) (at : ℕ) (d : BlockDocument) → HaveLineEnds text (stretches_of d) → HaveLineEnds text (stretches_of (texts_before text at d))
before_ends text at Nil h = tt
before_ends text at (Node n inside Nil) h = grind (arith, stretch_ends)
before_ends text at (Node n inside (Node m i a)) h = search (rules, stretch_ends, before_ends text at (Node m i a) h.2)

-- ## Leaves

pub keeps_ends : (text : List ℕ) (options : Options) → KeepsStretches text options (HaveLineEnds text) (RowsEnd text)
keeps_ends text options = record {
  none = tt;
  one = λ start end lt. (lt, inl refl, tt);
  paragraph = λ first more rest h others. stretches_end text (start_of first) first more (rows_split text (first ∷ more) rest h).0;
  cut = before_ends text;
  following = λ r rs h. h.1;
  inside = λ k first more rest h. rows_inside text k first more (rows_split text (first ∷ more) rest h).0;
}

pub of_lines : (text : List ℕ) (others : List Segment) → AllLeaves (HaveLineEnds text) others → AreLeavesOfLines text others
of_lines text [] h = tt
of_lines text (Given r ∷ others) h = of_lines text others h
of_lines text (Content leaf ∷ others) h = (h.0, of_lines text others h.1)

pub lines-split : (text : List ℕ) (a b : List Segment) → AreLeavesOfLines text (a ++ b) → AreLeavesOfLines text a × AreLeavesOfLines text b
lines-split text [] b h = (tt, h)
lines-split text (Given r ∷ a) b h = lines-split text a b h
lines-split text (Content leaf ∷ a) b h = let i = lines-split text a b h.1 in ((h.0, i.0), i.1)

pub derived-lines : (text : List ℕ) (options : Options) (lookup : Lookup) (document : BlockDocument) → Derives text options lookup document → AreLeavesOfLines text (segments document)
derived-lines text options lookup document h = of_lines text (segments document) (derived-leaves text options (HaveLineEnds text) (RowsEnd text) (keeps_ends text options) lookup document h (rows_end text))
