-- Uses of footnotes, counted one after the other.
use Rattle.std.specs.Prelude.{Option, Result, Ok, Err, OnOk, OnErr, bytes_eq, if◌then◌else◌, is_some, not, option_map, zero, take}
use Rattle.std.proofs.Common.{◌≡◌, ℕ, suc, ◌+◌, ◌-◌, ◌≤◌, ◌<◌, Bool, true, false, List, length, get_or, Some, None, refl, sym, ap, ◌∙◌, arith, true≢false}
use Rattle.std.proofs.lemmas.Bool.{or_parts}
use Rattle.std.proofs.lemmas.Slice.Eq.{bytes_eq-Decides}
use Rattle.cmark_grammar.specs.BracketDecisions.{one_line_footnotes}
use Rattle.cmark_grammar.specs.Labels.{fold}
use Rattle.cmark_grammar.specs.Options.{Options}
use Rattle.cmark_grammar.specs.Parts.{Parts, Nil, Single, Form, Closing, Opening}
use Rattle.cmark_inline_model.specs.PartLists.{join}
use Rattle.cmark_references.specs.Footnotes.{footnote, with_use, Counts, Keeps}
use Rattle.cmark_references.specs.declared.footnotes.FootnoteDef.{FootnoteDef}
use Rattle.cmark_references.specs.declared.footnotes.FootnoteDefs.{FootnoteDefs}
use Rattle.cmark_inline.specs.Asking.{closing_brackets}
use Rattle.cmark_inline.specs.Footnoted.{CountsOf, forms_footnote, labels, no_leaf}
use Rattle.cmark_inline.specs.Uses.{RiseBetween, RiseBy, RiseUpTo, uses_of, with_uses}
use Rattle.cmark_inline.proofs.Questions.{all-bytes, more-bytes, one-more}

-- ## Lists of parts

pub uses-join : (folded : List ℕ) (a b : Parts) → uses_of folded (join a b) ≡ uses_of folded a + uses_of folded b
uses-join folded Nil b = omega arith
uses-join folded (Single x after) b = uses-join folded after b
uses-join folded (Form opener inside closer formed after) b = let e = uses-join folded after b in omega (arith, e)
uses-join folded (Closing closer after) b = uses-join folded after b
uses-join folded (Opening opener after) b = uses-join folded after b

-- ## Counts

same-option : (x : Option FootnoteDef) → option_map (with_uses 0) x ≡ x
same-option None = refl
same-option (Some def) = refl

twice : (m n : ℕ) (def : FootnoteDef) → with_uses n (with_uses m def) ≡ with_uses (m + n) def
twice m zero def = ap (λ k. with_uses k def) (let q : m ≡ m + 0 = omega arith in q)
twice m (suc n) def = ap with_use (twice m n def) ∙ ap (λ k. with_uses k def) (let q : suc (m + n) ≡ m + suc n = omega arith in q)

twice-option : (m n : ℕ) (x : Option FootnoteDef) → option_map (with_uses n) (option_map (with_uses m) x) ≡ option_map (with_uses (m + n)) x
twice-option m n None = refl
twice-option m n (Some def) = ap Some (twice m n def)

pub rise-same : (f g : List ℕ → ℕ) (old new : FootnoteDefs) → ((folded : List ℕ) → g folded ≡ f folded) → RiseBy f old new → RiseBy g old new
rise-same f g old new e h = λ folded. h folded ∙ ap (λ n. option_map (with_uses n) (footnote old folded)) (sym (e folded))

pub rise-on : (f g all : List ℕ → ℕ) (one two three : FootnoteDefs) → ((folded : List ℕ) → all folded ≡ f folded + g folded) → RiseBy f one two → RiseBy g two three → RiseBy all one three
rise-on f g all one two three e h k = λ folded.
    k folded ∙ ap (option_map (with_uses (g folded))) (h folded) ∙ twice-option (f folded) (g folded) (footnote one folded) ∙ ap (λ n. option_map (with_uses n) (footnote one folded)) (sym (e folded))

-- ## One closing bracket

pub rise-none : (old new : FootnoteDefs) → Keeps old new → RiseBy (λ folded. 0) old new
rise-none old new h = λ folded. h folded ∙ sym (same-option (footnote old folded))

pub rise-one : (label : List ℕ) (old new : FootnoteDefs) → Counts label old new → RiseBy (λ folded. if bytes_eq folded label then 1 else 0) old new
rise-one label old new h = λ folded. h folded ∙ go (bytes_eq folded label) (footnote old folded)
  where
    go : (z : Bool) (x : Option FootnoteDef) → (if z then option_map with_use x else x) ≡ option_map (with_uses (if z then 1 else 0)) x
    go true None = refl
    go true (Some def) = refl
    go false x = sym (same-option x)

-- if no reference is formed, no use is counted
pub none-counted : (o : Options) (label : Option (List ℕ)) (old new : FootnoteDefs) → false ≡ forms_footnote o old label → CountsOf label old new → Keeps old new
none-counted o None old new e h = h
none-counted o (Some label) old new e h = λ folded. h folded ∙ go folded (bytes_eq folded (fold label)) refl
  where
    undefined : (x : Option FootnoteDef) → footnote old (fold label) ≡ x → option_map with_use x ≡ x
    undefined None f = refl
    undefined (Some def) f = absurd (true≢false (sym (ap is_some f) ∙ (or_parts (is_some (footnote old (fold label))) (not (one_line_footnotes (labels o) no_leaf)) (sym e)).0))

    go : (folded : List ℕ) (z : Bool) → bytes_eq folded (fold label) ≡ z → (if z then option_map with_use (footnote old folded) else footnote old folded) ≡ footnote old folded
    go folded false f = refl
    go folded true f = let same = (bytes_eq-Decides folded (fold label)).0 f in ap (λ l. option_map with_use (footnote old l)) same ∙ undefined (footnote old (fold label)) refl ∙ ap (footnote old) (sym same)

-- ## Upper bounds

pub rise-up : (m n : ℕ) (old new : FootnoteDefs) → m ≤ n → RiseUpTo m old new → RiseUpTo n old new
rise-up m n old new le h = λ folded. (let k = h folded in let few = k.1 in (k.0, (let q : k.0 ≤ n = omega (arith, few, le) in q), k.2))

pub rise-further : (m n : ℕ) (one two three : FootnoteDefs) → RiseUpTo m one two → RiseUpTo n two three → RiseUpTo (m + n) one three
rise-further m n one two three h k = λ folded.
    (let a = h folded in
    let b = k folded in
    let x = a.1 in
    let y = b.1 in (
      a.0 + b.0,
      (let q : a.0 + b.0 ≤ m + n = omega (arith, x, y) in q),
      b.2 ∙ ap (option_map (with_uses b.0)) a.2 ∙ twice-option a.0 b.0 (footnote one folded),
    ))

pub kept-rise : (n : ℕ) (old new : FootnoteDefs) → Keeps old new → RiseUpTo n old new
kept-rise n old new h = λ folded. (0, (let q : 0 ≤ n = omega arith in q), rise-none old new h folded)

pub counted-rise : (label : List ℕ) (old new : FootnoteDefs) → Counts label old new → RiseUpTo 1 old new
counted-rise label old new h = λ folded. ((if bytes_eq folded label then 1 else 0), few (bytes_eq folded label), rise-one label old new h folded)
  where
    few : (z : Bool) → (if z then 1 else 0) ≤ 1
    few true = omega arith
    few false = omega arith

-- a call that counts one use, unless memory is refused
pub either-rises : {A E : Type 0} (label : List ℕ) (old new : FootnoteDefs) (result : Result A E) → OnOk result (Counts label old new) → OnErr result (Keeps old new) → RiseUpTo 1 old new
either-rises label old new (Ok found) counted kept = counted-rise label old new counted
either-rises label old new (Err error) counted kept = kept-rise 1 old new kept

-- ## Between two offsets of a text

pub none-between : (text : List ℕ) (from to : ℕ) (notes : FootnoteDefs) → RiseBetween text from to notes notes
none-between text from to notes = kept-rise (closing_brackets (take to text) - closing_brackets (take from text)) notes notes (λ folded. refl)

pub one-between : (text : List ℕ) (from at to : ℕ) (old new : FootnoteDefs) → from ≤ at → at < to → at < length text → get_or text at 0 ≡ 93 → RiseUpTo 1 old new → RiseBetween text from to old new
one-between text from at to old new le lt within byte h =
    let more = one-more from at to text le lt within byte in
    rise-up 1 (closing_brackets (take to text) - closing_brackets (take from text)) old new (omega (arith, more)) h

pub rise-to : (text : List ℕ) (from to : ℕ) (one two three : FootnoteDefs) → from ≤ to → RiseUpTo (closing_brackets (take from text)) one two → RiseBetween text from to two three → RiseUpTo (closing_brackets (take to text)) one three
rise-to text from to one two three le h k =
    let more = more-bytes from to text le in
    rise-up (closing_brackets (take from text) + (closing_brackets (take to text) - closing_brackets (take from text))) (closing_brackets (take to text)) one three (omega (arith, more))
    (rise-further (closing_brackets (take from text)) (closing_brackets (take to text) - closing_brackets (take from text)) one two three h k)

pub rise-all : (text : List ℕ) (at : ℕ) (old new : FootnoteDefs) → RiseUpTo (closing_brackets (take at text)) old new → RiseUpTo (closing_brackets text) old new
rise-all text at old new h = rise-up (closing_brackets (take at text)) (closing_brackets text) old new (all-bytes at text) h
