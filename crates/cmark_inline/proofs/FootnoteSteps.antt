-- Footnote references: their labels, and the slot of a `!` before one.
use Rattle.cmark_values.specs.Shown.{text_bytes}
use Rattle.cmark_values.specs.declared.text.CowStr.{CowStr}
use Rattle.cmark_inline.specs.Hiding.{WritesReference}
use Rattle.cmark_inline.specs.declared.state.InlineState.{InlineState}
use Rattle.std.specs.Prelude.{IfSome, Option, Some, None, is_some, option_map, drop, if◌then◌else◌, not, ◌&&◌, ◌||◌}
use Rattle.std.proofs.Common.{◌≡◌, ℕ, ◌+◌, ◌<◌, ◌==◌, Bool, true, false, true≢false, List, [], ◌∷◌, ◌++◌, refl, sym, ap, subst, ◌∙◌, arith}
use Rattle.cmark_grammar.specs.BracketDecisions as decisions
use Rattle.cmark_grammar.specs.InlineHtml.{takes_lines}
use Rattle.cmark_grammar.specs.Lines.{is_content}
use Rattle.cmark_grammar.specs.LinkTails.{is_bracketed_label, link_tail_in, reference_label_in}
use Rattle.cmark_grammar.specs.Options.{Options}
use Rattle.cmark_grammar.specs.Tokens.{slice}
use Rattle.cmark_grammar.specs.Labels.{fold, normal_form}
use Rattle.cmark_references.specs.Footnotes.{Counts}
use Rattle.cmark_references.specs.declared.footnotes.FootnoteDefs.{FootnoteDefs}
use Rattle.cmark_leaf_text.specs.Reads.{IsPart}
use Rattle.cmark_inline.specs.Footnoted.{CountsOf, KeepsLabel, as_label, fits_footnote, footnote_after, footnote_label, footnote_of, labels, no_leaf, reference_start, unless_footnote}
use Rattle.cmark_slots.specs.Slots.{IsBracket}
use Rattle.cmark_slots.specs.declared.bracket.Bracket.{Bracket}

-- ## Labels

neither : (y z : Bool) → not (y || z) ≡ (not y && not z)
neither true z = refl
neither false z = refl

both : (x y z w : Bool) → not y ≡ w → x ≡ not z → (x && w) ≡ not (z || y)
both true y true w e h = absurd (true≢false h)
both true y false w e h = sym e
both false y true w e h = refl
both false y false w e h = absurd (true≢false (sym h))

-- a text is on one line if no line ends in it
pub one-line : (options : Options) (bs : List ℕ) → decisions.is_one_line (labels options) no_leaf bs ≡ not (takes_lines bs)
one-line options [] = refl
one-line options (b ∷ bs) = both (is_content b) (takes_lines bs) ((b == 10) || (b == 13)) (decisions.is_one_line (labels options) no_leaf bs) (sym (one-line options bs)) (sym (neither (b == 10) (b == 13)))

pub fits-on-one-line : (options : Options) (label : List ℕ) (found : Bool) → is_bracketed_label label ≡ true → options.old_footnotes ≡ false → found ≡ takes_lines label → not found ≡ fits_footnote options label
fits-on-one-line options label found is new e =
    ap not e ∙ sym (one-line options label) ∙ sym (ap (λ y. y || decisions.is_one_line (labels options) no_leaf label) new)
    ∙ sym (ap (λ y. y && (options.old_footnotes || decisions.is_one_line (labels options) no_leaf label)) is)

-- without the option for footnotes, no text is the label of a footnote
label-off : (options : Options) (between : List ℕ) → options.footnotes ≡ false → footnote_label options between ≡ None
label-off options [] off = refl
label-off options (b ∷ bs) off = ap (λ y. if y && ((b == 94) && fits_footnote options bs) then Some bs else None) off

pub none-off : (options : Options) (is_cell closes_label : Bool) (text : List ℕ) (close : ℕ) (taken : Option Bracket) → options.footnotes ≡ false → footnote_of options is_cell closes_label text close taken ≡ None
none-off options is_cell closes_label text close None off = refl
none-off options is_cell closes_label text close (Some bracket) off = ap (option_map (as_label is_cell)) (go (closes_label || (is_some (link_tail_in (drop (close + 1) text)) || is_some (unless_footnote options (reference_label_in (drop (close + 1) text))))))
  where
    go : (z : Bool) → (if z then None else footnote_label options (slice text bracket.inside close)) ≡ None
    go true = refl
    go false = label-off options (slice text bracket.inside close) off

-- a use of the footnote is counted whose label was found
pub counts-found : (options : Options) (is_cell cell closes_label : Bool) (text : List ℕ) (close : ℕ) (bracket : Bracket) (written label : List ℕ) (old new : FootnoteDefs)
    → Some written ≡ footnote_after options closes_label (slice text bracket.inside close) (drop (close + 1) text) → cell ≡ is_cell → label ≡ as_label cell written → Counts (fold label) old new
    → CountsOf (footnote_of options is_cell closes_label text close (Some bracket)) old new
counts-found options is_cell cell closes_label text close bracket written label old new found celled is counts =
    subst (λ m. CountsOf (option_map (as_label is_cell) m) old new) found
    (subst (λ l. Counts (fold l) old new) (is ∙ ap (λ z. as_label z written) celled) counts)

-- the label of a bracket is that of the bracket that was taken
pub label-of-taken : (options : Options) (is_cell closes there : Bool) (text : List ℕ) (close : ℕ) (taken : Option Bracket) (bracket : Bracket) → taken ≡ Some bracket → closes ≡ there
    → footnote_of options is_cell closes text close (Some bracket) ≡ footnote_of options is_cell there text close taken
label-of-taken options is_cell closes there text close taken bracket took closing = ap (footnote_of options is_cell closes text close) (sym took) ∙ ap (λ z. footnote_of options is_cell z text close taken) closing

-- the name of the reference is the normal form of the label
pub keeps-named : (label : Option (List ℕ)) (name : CowStr) (old new : List CowStr) → IfSome label (λ l. text_bytes name ≡ normal_form l) → new ≡ old ++ (name ∷ []) → IfSome label (λ l. KeepsLabel l old new)
keeps-named None name old new named texts = tt
keeps-named (Some label) name old new named texts = (name, named, texts)

pub writes-named : (label : Option (List ℕ)) (name : CowStr) (bracket : Bracket) (end : ℕ) (old new : InlineState) → IfSome label (λ l. text_bytes name ≡ normal_form l) → WritesReference bracket (text_bytes name) end old new
    → IfSome label (λ l. WritesReference bracket (normal_form l) end old new)
writes-named None name bracket end old new named writes = tt
writes-named (Some label) name bracket end old new named writes = subst (λ n. WritesReference bracket n end old new) named writes

-- ## The slots of a reference, and of the `!` before one

pub reference-part : (text : List ℕ) (close : ℕ) (bracket : Bracket) → IsBracket text close bracket → IsPart text close (close + 1) → IsPart text (reference_start bracket) (close + 1)
reference-part text close bracket b p = go bracket.is_image refl
  where
    before : bracket.start < close
    before = let some = b.part.some in let le = b.before in omega (arith, some, le)

    go : (z : Bool) → bracket.is_image ≡ z → IsPart text (if z then bracket.start + 1 else bracket.start) (close + 1)
    go true image = record { some = (let lt = before in let q : bracket.start + 1 < close + 1 = omega (arith, lt) in q); within = p.within; starts = b.mark image; ends = p.ends }
    go false image = record { some = (let lt = before in let q : bracket.start < close + 1 = omega (arith, lt) in q); within = p.within; starts = b.part.starts; ends = p.ends }
