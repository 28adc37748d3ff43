-- The pending text after literal bytes, and after a backslash with the byte that it escapes.
use Rattle.std.specs.Prelude.{Option, is_some}
use Rattle.std.proofs.Common.{◌≡◌, ◌⊎◌, inl, inr, ℕ, suc, ◌+◌, ◌-◌, ◌<◌, ◌≤◌, ◌==◌, Bool, true, false, List, [], ◌∷◌, length, take, drop, get_or, Some, None, refl, sym, ap, ◌∙◌, subst, arith, eqb-true, true≢false, length-drop}
use Rattle.std.proofs.lemmas.Bool.{eq-eqb, or_cases}
use Rattle.std.proofs.lemmas.List.{get_or-drop}
use Rattle.std.proofs.lemmas.List.Sums.{prefix_len_passes, prefix_len-le-length}
use Rattle.std.proofs.lemmas.Slice.Eq.{bytes_eq-Decides}
use Rattle.cmark_grammar.specs.Answers.{Lookup}
use Rattle.cmark_grammar.specs.CodeSpans.{is_backtick, backticks, code_in}
use Rattle.cmark_grammar.specs.Columns.{is_blank_byte}
use Rattle.cmark_grammar.specs.InlineTokens.{code_or, escaped_backtick, item_at}
use Rattle.cmark_grammar.specs.Items.{ItemKind, Own, Code, Token, Stands}
use Rattle.cmark_grammar.specs.LabelsOverLines.{piped}
use Rattle.cmark_grammar.specs.Letters.{first_is}
use Rattle.cmark_grammar.specs.LinkDefinitions.{Parsed}
use Rattle.cmark_grammar.specs.Options.{Options}
use Rattle.cmark_grammar.specs.Tokens.{is_punctuation}
use Rattle.cmark_inline_model.specs.PlacedTokens.{StopsAt}
use Rattle.cmark_inline.specs.CursorProgress.{HasBegun, HasEscaped, IsPending}
use Rattle.cmark_inline.specs.PlainStretches.{StandsForItself, StandUpTo}
use Rattle.cmark_inline.specs.Tokens.{Escapes, EscapesPipe, Passes, PassesOver, begins_at, reading, whole}
use Rattle.cmark_inline.specs.declared.state.InlineState.{InlineState}
use Rattle.cmark_inline.specs.declared.step.Cursor.{Cursor}
use Rattle.cmark_inline.proofs.Bytes.{first-at, first-past, prefix-more}
use Rattle.cmark_inline.proofs.PendingReads.{stops-before, stops-there}
use Rattle.cmark_inline.proofs.PlainBytes.{plain-last, plain-tick}
use Rattle.cmark_inline.proofs.PlainChains.{IsHeld, Reaches, before-or-following, held-further, held-order, reaches-all, reaches-one}
use Rattle.cmark_inline.proofs.TokenSteps.{code-begins}

abbrev resume_of : Token → ℕ
resume_of (Stands x resume) = resume
resume_of other = 0

abbrev code_kind : ItemKind → Bool
code_kind (Code bytes) = true
code_kind other = false

abbrev is_code : Token → Bool
is_code (Stands x resume) = code_kind x.kind
is_code other = false

module _ (o : Options) (l : Lookup) (cell : Bool) (text : List ℕ) where
  -- a pending text begins at the offset of the pass, or with another byte than a backtick
  abbrev pub IsFree : (at start : ℕ) → Type 0
  IsFree at start = (at ≡ start) ⊎ (get_or text start 0 ≡ 96 → ⊥)

  pub held-pending : (at : ℕ) (next : Cursor) → IsHeld o l cell text at next.pending next.at → IsFree at next.pending → next.pending < next.at → next.at ≤ length text
      → (next.at < length text → is_blank_byte (get_or text (next.at - 1) 0) ≡ false) → IsPending o l cell text at next
  held-pending at next (inl h) free some within word = let e = h.1 in absurd (omega (arith, e, some))
  held-pending at next (inr h) free some within word = inr (inl (h, tick free, word))
    where
      tick : IsFree at next.pending → get_or text next.pending 0 ≡ 96 → ⊥
      tick (inr f) is = f is
      tick (inl e) is = plain-tick o l cell text at (omega (arith, e, some, within)) next.pending h.end h.token (ap (λ n. get_or text n 0) e ∙ is)

  -- more literal bytes
  pub more-pending : (at : ℕ) (here next : Cursor) → IsHeld o l cell text at here.pending here.at → IsFree at here.pending → Reaches o l cell text here.at next.at → here.at < next.at → next.at ≤ length text
      → (next.at < length text → is_blank_byte (get_or text (next.at - 1) 0) ≡ false) → next.pending ≡ here.pending → IsPending o l cell text at next
  more-pending at here next held free reach further within word e =
      let order = held-order o l cell text at here.pending here.at held in
      held-pending at next (subst (λ n. IsHeld o l cell text at n next.at) (sym e) (held-further o l cell text at here.pending here.at next.at held reach)) (subst (IsFree at) (sym e) free) (omega (arith, order, further, e)) within word

  module _ (at : ℕ) (here : Cursor) (old new : InlineState) (next : Cursor) (held : IsHeld o l cell text at here.pending here.at) (free : IsFree at here.pending) (further : here.at < next.at) (within : next.at ≤ length text) where
    pub passes-pending : Passes o l cell text here old new next → is_blank_byte (get_or text here.at 0) ≡ false → IsPending o l cell text at next
    passes-pending p none =
        more-pending at here next held free (reaches-one o l cell text here.at next.at further p.token) further within (λ lt. plain-last o l cell text here.at (omega (arith, further, within)) next.at further p.token none) p.pending

    pub passes-over-pending : PassesOver o l cell text here old new next → IsPending o l cell text at next
    passes-over-pending p =
        more-pending at here next held free (reaches-all o l cell text (next.at - here.at) here.at next.at (omega arith) (omega (arith, further)) each) further within (λ lt. p.last) p.pending
      where
        each : (k : ℕ) → here.at ≤ k → k < next.at → StandsForItself o l cell text k next.at
        each k low high = record { end = k + 1; further = omega arith; within = omega (arith, high); token = p.plain k low high }

  -- ## After a backslash
  first-there : (p : ℕ → Bool) (at : ℕ) → first_is p (drop at text) ≡ true → (at < length text) × (p (get_or text at 0) ≡ true)
  first-there p at e = go (before-or-following (length text) at)
    where
      go : (length text ≤ at) ⊎ (at < length text) → (at < length text) × (p (get_or text at 0) ≡ true)
      go (inl le) = absurd (true≢false (sym e ∙ first-past p text at le))
      go (inr lt) = (lt, sym (first-at p text at lt) ∙ e)

  no-blank-punctuation : (b : ℕ) → is_punctuation b ≡ true → is_blank_byte b ≡ false
  no-blank-punctuation b e = go (is_blank_byte b) refl
    where
      by : ((b == 32) ≡ true) ⊎ ((b == 9) ≡ true) → ⊥
      by (inl h) = true≢false (sym e ∙ ap is_punctuation (eqb-true b 32 h))
      by (inr h) = true≢false (sym e ∙ ap is_punctuation (eqb-true b 9 h))

      go : (z : Bool) → is_blank_byte b ≡ z → z ≡ false
      go false f = refl
      go true f = absurd (by (or_cases (b == 32) (b == 9) f))

  module _ (here : Cursor) (old new : InlineState) (next : Cursor) where
    pub escapes-stop : Escapes o l cell text here old new next → StopsAt (reading o l text) (whole cell text) here.at
    escapes-stop x = by (first_is is_backtick (drop (here.at + 1) text)) refl
      where
        found : (n : ℕ) (f : Option Parsed) → begins_at o l cell text here.at ≡ escaped_backtick (reading o l text) (whole cell text) next.pending n f → StopsAt (reading o l text) (whole cell text) here.at
        found n (Some f) t = stops-before o l cell text here.at next.pending (suc next.pending) t (let e = x.pending in omega (arith, e))
        found n None t = stops-there o l cell text here.at (item_at Own next.pending (next.pending + n)) t refl

        by : (z : Bool) → first_is is_backtick (drop (here.at + 1) text) ≡ z → StopsAt (reading o l text) (whole cell text) here.at
        by true e = found (backticks (drop next.pending text)) (code_in (drop next.at text)) (x.run e).0
        by false e = stops-before o l cell text here.at next.pending next.at (x.token e) (let q = x.pending in omega (arith, q))

    pub escapes-pending : Escapes o l cell text here old new next → IsPending o l cell text here.at next
    escapes-pending x = by (first_is is_backtick (drop (here.at + 1) text)) refl
      where
        byte : (here.at + 1 < length text) × (is_punctuation (get_or text (here.at + 1) 0) ≡ true)
        byte = first-there is_punctuation (here.at + 1) x.escaped

        by : (z : Bool) → first_is is_backtick (drop (here.at + 1) text) ≡ z → IsPending o l cell text here.at next
        by true e = inr (inr (record {
          slash = x.byte;
          token = (x.run e).0;
          following = (let a = x.pending in let b = x.at in omega (arith, a, b));
          byte = ap (λ n. get_or text n 0) x.pending ∙ eqb-true (get_or text (here.at + 1) 0) 96 (first-there is_backtick (here.at + 1) e).1;
          several = (x.run e).1;
        }))
        by false e = inr (inl (
          record { end = next.at; some = (let a = x.pending in let b = x.at in omega (arith, a, b)); token = x.token e; ends = []; texts = refl },
          (λ is. true≢false (sym (first-at is_backtick text (here.at + 1) byte.0 ∙ eq-eqb (get_or text (here.at + 1) 0) 96 (ap (λ n. get_or text n 0) (sym x.pending) ∙ is)) ∙ e)),
          (λ lt. ap (λ n. is_blank_byte (get_or text n 0)) (let b = x.at in let q : next.at - 1 ≡ here.at + 1 = omega (arith, b) in q) ∙ no-blank-punctuation (get_or text (here.at + 1) 0) byte.1),
        ))

    pub pipe-stop : EscapesPipe o l cell text here old new next → StopsAt (reading o l text) (whole cell text) here.at
    pipe-stop x = stops-before o l cell text here.at next.pending next.at x.token (let q = x.pending in omega (arith, q))

    pub pipe-pending : EscapesPipe o l cell text here old new next → IsPending o l cell text here.at next
    pipe-pending x = inr (inl (
      record { end = next.at; some = (let a = x.pending in let b = x.at in omega (arith, a, b)); token = x.token; ends = []; texts = refl },
      (λ is. (let q : 124 ≡ 96 = sym byte ∙ ap (λ n. get_or text n 0) (sym x.pending) ∙ is in omega (arith, q))),
      (λ lt. ap (λ n. is_blank_byte (get_or text n 0)) (let b = x.at in let q : next.at - 1 ≡ here.at + 2 = omega (arith, b) in q) ∙ ap is_blank_byte byte),
    ))
      where
        byte : get_or text (here.at + 2) 0 ≡ 124
        byte =
            ap (λ n. get_or text n 0) (let q : here.at + 2 ≡ here.at + 1 + 1 = omega arith in q) ∙ sym (get_or-drop (here.at + 1) text 1 0)
            ∙ second (drop (here.at + 1) text) ((bytes_eq-Decides (take 2 (drop (here.at + 1) text)) piped).0 x.pipe)
          where
            second : (bs : List ℕ) → take 2 bs ≡ piped → get_or bs 1 0 ≡ 124
            second [] e = absurd (let n : 0 ≡ 2 = ap length e in omega (arith, n))
            second (a ∷ []) e = absurd (let n : 1 ≡ 2 = ap length e in omega (arith, n))
            second (a ∷ (b ∷ bs)) e = ap (λ (p : List ℕ). get_or p 1 0) e

  -- ## A run of backticks whose first one is escaped
  module _ (at start to : ℕ) (h : HasEscaped o l cell text at start to) where
    rest_size : backticks (drop start text) ≡ 1 + backticks (drop to text)
    rest_size =
        let n = h.several in
        let w = prefix_len-le-length is_backtick (drop start text) in
        let d = length-drop start text in
        prefix-more is_backtick text start (omega (arith, n, w, d)) (eq-eqb (get_or text start 0) 96 h.byte) ∙ ap (λ k. 1 + backticks (drop k text)) (sym h.following)

    pub tick-there : (to < length text) × (get_or text to 0 ≡ 96)
    tick-there =
        let n = h.several in
        let some : 0 < backticks (drop to text) = (let e = rest_size in omega (arith, n, e)) in
        let w = prefix_len-le-length is_backtick (drop to text) in
        let d = length-drop to text in (
          (let q : to < length text = omega (arith, some, w, d) in q),
          ap (λ k. get_or text k 0) (let q : to ≡ to + 0 = omega arith in q) ∙ sym (get_or-drop to text 0 0) ∙ eqb-true (get_or (drop to text) 0 0) 96 (prefix_len_passes is_backtick (drop to text) 0 0 some),
        )

    -- the special byte is the next one of the run
    pub escaped-next : (text_end : ℕ) → to ≤ text_end → text_end ≤ length text → StandUpTo o l cell text to text_end → text_end ≡ to
    escaped-next text_end le within stands = go (before-or-following text_end to)
      where
        go : (text_end ≤ to) ⊎ (to < text_end) → text_end ≡ to
        go (inl below) = omega (arith, below, le)
        go (inr lt) =
            let t = tick-there in
            let s = stands to (omega arith) lt (λ e. absurd (true≢false (sym e ∙ ap is_blank_byte t.1))) in
            absurd (plain-tick o l cell text to t.0 to s.end s.token t.1)

    code-there : begins_at o l cell text to ≡ code_or (reading o l text) (whole cell text) to (backticks (drop to text)) (code_in (drop to text))
    code-there = let t = tick-there in code-begins o l cell text to t.0 t.1

    -- the escaped backtick is literal if the rest of the run opens a code span
    pub escaped-begun : is_some (code_in (drop to text)) ≡ true → HasBegun o l cell text at start to
    escaped-begun e = go (code_in (drop to text)) refl
      where
        go : (f : Option Parsed) → code_in (drop to text) ≡ f → HasBegun o l cell text at start to
        go None q = absurd (true≢false (sym e ∙ ap is_some q))
        go (Some f) q = record {
          end = suc start;
          some = omega arith;
          token = h.token ∙ ap (escaped_backtick (reading o l text) (whole cell text) start (backticks (drop start text))) q;
          ends = [];
          texts = (let b = h.following in omega (arith, b));
        }

    -- otherwise the whole run is a text
    pub escaped-own : (resume : ℕ) → begins_at o l cell text to ≡ item_at Own to resume → (begins_at o l cell text at ≡ item_at Own start resume) × (start < resume)
    escaped-own resume t = go (code_in (drop to text)) refl
      where
        go : (f : Option Parsed) → code_in (drop to text) ≡ f → (begins_at o l cell text at ≡ item_at Own start resume) × (start < resume)
        go (Some f) q = absurd (true≢false (sym (ap is_code (sym t ∙ code-there ∙ ap (code_or (reading o l text) (whole cell text) to (backticks (drop to text))) q))))
        go None q =
            let is : resume ≡ to + backticks (drop to text) = ap resume_of (sym t ∙ code-there ∙ ap (code_or (reading o l text) (whole cell text) to (backticks (drop to text))) q) in
            let n = rest_size in
            let b = h.following in (
              h.token ∙ ap (escaped_backtick (reading o l text) (whole cell text) start (backticks (drop start text))) q ∙ ap (item_at Own start) (let e : start + backticks (drop start text) ≡ resume = omega (arith, is, n, b) in e),
              (let e : start < resume = omega (arith, is, b) in e),
            )
