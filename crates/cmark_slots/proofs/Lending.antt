-- Which texts of events are borrowed.
use Rattle.std.proofs.Common.{◌≡◌, ◌≢◌, ◌⊎◌, inl, inr, ℕ, zero, suc, ◌+◌, ◌-◌, ◌≤◌, ◌<◌, List, [], ◌∷◌, length, drop, take, drop-drop, refl, sym, ap, subst, ◌∙◌, arith}
use Rattle.std.specs.Prelude.{IfOk, Result, Ok, Err}
use Rattle.std.proofs.lemmas.List.{drop-take}
use Rattle.cmark_grammar.specs.Tokens.{slice}
use Rattle.cmark_leaf_text.proofs.StretchSteps.{slice-length, part-there}
use Rattle.cmark_leaf_text.specs.Reads.{IsPart, IsRead, place_of, source_of, text_of}
use Rattle.cmark_leaf_text.specs.declared.leaf_text.LeafText.{LeafText}
use Rattle.cmark_values.specs.Shown.{IsBoxed, IsInlined, text_bytes}
use Rattle.cmark_values.specs.Lending.{IsLentBy, IsPartIfBorrowed, IsPartOf}
use Rattle.cmark_values.specs.declared.text.CowStr.{CowStr}
use Rattle.cmark_values.specs.declared.text.CowStr.TheVariants.{Boxed, Borrowed, Inlined}

-- a text of its own that is not these bytes
pub own-unlent : (made : CowStr) (bytes : List ℕ) → IsBoxed made ⊎ IsInlined made → text_bytes made ≢ bytes → IsLentBy bytes made
own-unlent (Borrowed text) bytes (inl none) differ = absurd none
own-unlent (Borrowed text) bytes (inr none) differ = absurd none
own-unlent _ bytes own differ = differ

-- bytes with gaps in the source differ from the source between the first and the last of them
apart-differs : (text source : List ℕ) (from to first last : ℕ) → from < to → to ≤ length text → first < last → last ≤ length source → last ≢ first + (to - from) → slice text from to ≢ slice source first last
apart-differs text source from to first last some within ordered inside apart e =
    let here = slice-length text from to within in
    let there = slice-length source first last inside in
    let same = ap length e in
    apart (let q : last ≡ first + (to - from) = omega (arith, some, ordered, here, there, same) in q)

take-fewer : (n m : ℕ) (xs : List ℕ) → n ≤ m → take n (take m xs) ≡ take n xs
take-fewer zero m xs le = refl
take-fewer (suc n) zero xs le = absurd (omega (arith, le))
take-fewer (suc n) (suc m) [] le = refl
take-fewer (suc n) (suc m) (x ∷ xs) le = ap (λ l. x ∷ l) (take-fewer n m xs (let q : n ≤ m = omega (arith, le) in q))

-- a part of a part
slice-slice : (text : List ℕ) (start stop a b : ℕ) → a ≤ b → start + b ≤ stop → slice (slice text start stop) a b ≡ slice text (start + a) (start + b)
slice-slice text start stop a b le within =
    ap (λ n. take (b - a) (drop a (take n (drop start text)))) (let s : stop - start ≡ a + ((b - a) + (stop - (start + b))) = omega (arith, le, within) in s)
    ∙ ap (take (b - a)) (drop-take a ((b - a) + (stop - (start + b))) (drop start text))
    ∙ take-fewer (b - a) ((b - a) + (stop - (start + b))) (drop a (drop start text)) (let q : b - a ≤ (b - a) + (stop - (start + b)) = omega arith in q)
    ∙ ap (take (b - a)) (drop-drop a start text)
    ∙ ap (λ n. take n (drop (start + a) text)) (let s : b - a ≡ (start + b) - (start + a) = omega arith in s)

part-in : (bytes content source : List ℕ) (first last : ℕ) → first ≤ last → last ≤ length source → content ≡ slice source first last → IsPartOf content bytes → IsPartOf source bytes
part-in bytes content source first last ordered inside is p =
    let size = ap length is ∙ slice-length source first last inside in
    let po = p.ordered in
    let pw = p.within in
    let reach : first + p.end ≤ last = omega (arith, size, pw, ordered) in
    record {
      start = first + p.start;
      end = first + p.end;
      ordered = omega (arith, po);
      within = omega (arith, reach, inside);
      are = p.are ∙ ap (λ bs. slice bs p.start p.end) is ∙ slice-slice source first last p.start p.end po reach;
    }

borrowed-in : (made : CowStr) (content source : List ℕ) (first last : ℕ) → first ≤ last → last ≤ length source → content ≡ slice source first last → IsPartIfBorrowed content made → IsPartIfBorrowed source made
borrowed-in (Borrowed text) content source first last ordered inside is p = part-in text.now content source first last ordered inside is p
borrowed-in _ content source first last ordered inside is p = tt

-- the bytes of a leaf's text from one place to another, in the source
abbrev pub bytes_over : LeafText → (from to : ℕ) → List ℕ
bytes_over leaf from to = slice (source_of leaf) (place_of leaf from) (place_of leaf (to - 1) + 1)

pub there : (leaf : LeafText) (from to : ℕ) → IsRead leaf → IsPart (text_of leaf) from to → IsPart (source_of leaf) (place_of leaf from) (place_of leaf (to - 1) + 1)
there leaf from to read part = part-there (source_of leaf) leaf.stretches.items from to read.stretches part

-- a copy of bytes that have gaps in the source
pub copy-unlent : {E : Type 0} (copy : Result CowStr E) (leaf : LeafText) (from to : ℕ) → IsRead leaf → IsPart (text_of leaf) from to → place_of leaf (to - 1) + 1 ≢ place_of leaf from + (to - from)
    → IfOk copy (λ made. text_bytes made ≡ slice (text_of leaf) from to) → IfOk copy (λ made. IsBoxed made ⊎ IsInlined made) → IfOk copy (IsLentBy (bytes_over leaf from to))
copy-unlent (Ok made) leaf from to read part apart value own =
    let there-part = there leaf from to read part in
    own-unlent made (bytes_over leaf from to) own
    (λ e. apart-differs (text_of leaf) (source_of leaf) from to (place_of leaf from) (place_of leaf (to - 1) + 1) part.some part.within there-part.some there-part.within apart (sym value ∙ e))
copy-unlent (Err e) leaf from to read part apart value own = tt

-- a part of a code span's content, if the content is in the source without a gap
pub code-part : {E : Type 0} (code : Result CowStr E) (content : List ℕ) (leaf : LeafText) (from to : ℕ) → IsRead leaf → IsPart (text_of leaf) from to → content ≡ bytes_over leaf from to
    → IfOk code (IsPartIfBorrowed content) → IfOk code (IsPartIfBorrowed (source_of leaf))
code-part (Ok made) content leaf from to read part is p =
    let there-part = there leaf from to read part in
    let some = there-part.some in
    borrowed-in made content (source_of leaf) (place_of leaf from) (place_of leaf (to - 1) + 1) (omega (arith, some)) there-part.within is p
code-part (Err e) content leaf from to read part is p = tt

-- a text that these bytes of the source lend is a part of the source
lent-made : (made : CowStr) (source : List ℕ) (first last : ℕ) → IsPart source first last → IsLentBy (slice source first last) made → IsPartIfBorrowed source made
lent-made (Borrowed text) source first last part lent = let some = part.some in record { start = first; end = last; ordered = omega (arith, some); within = part.within; are = lent }
lent-made _ source first last part lent = tt

pub lent-part-of : (made : CowStr) (leaf : LeafText) (from to : ℕ) → IsRead leaf → IsPart (text_of leaf) from to → IsLentBy (bytes_over leaf from to) made → IsPartIfBorrowed (source_of leaf) made
lent-part-of made leaf from to read part lent = lent-made made (source_of leaf) (place_of leaf from) (place_of leaf (to - 1) + 1) (there leaf from to read part) lent

-- without its escaped pipes a text is the same text, or an owned one
pub escapes-part : {E : Type 0} (made : Result CowStr E) (written : CowStr) (source : List ℕ) → (made ≡ Ok written) ⊎ IfOk made IsBoxed → IsPartIfBorrowed source written → IfOk made (IsPartIfBorrowed source)
escapes-part made written source (inl e) p = subst (λ r. IfOk r (IsPartIfBorrowed source)) (sym e) p
escapes-part (Ok (Boxed text)) written source (inr own) p = tt
escapes-part (Ok (Borrowed text)) written source (inr own) p = absurd own
escapes-part (Ok (Inlined text)) written source (inr own) p = absurd own
escapes-part (Err e) written source (inr own) p = tt

pub lent-or-own : {E : Type 0} (content written : CowStr) (bytes : List ℕ) → (◌≡◌ {A = Result CowStr E} (Ok content) (Ok written)) ⊎ IsBoxed content → IsLentBy bytes written → IsLentBy bytes content ⊎ IsBoxed content
lent-or-own content written bytes (inl e) lent = inl (subst (IsLentBy bytes) (let z : written ≡ content = cc in z) lent)
lent-or-own content written bytes (inr own) lent = inr own
