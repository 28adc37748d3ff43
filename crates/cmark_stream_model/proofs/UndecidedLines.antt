-- A search that keeps what is undecided about metadata knows when the lines so far decide it by themselves.
use Rattle.std.proofs.Common.{◌≡◌, Bool, true, false, ◌||◌, List, [], ◌∷◌, ◌++◌, refl, sym, ap, ◌∙◌, append-nil, append_assoc, Option, true≢false, rules}
use Rattle.std.specs.Prelude.{if◌then◌else◌}
use Rattle.cmark_grammar.specs.Metadata.{ends_metadata, is_ended, metadata_kind}
use Rattle.cmark_grammar.specs.MetadataBlockKind.{MetadataBlockKind}
use Rattle.cmark_grammar.specs.Options.{Options}
use Rattle.cmark_grammar.specs.Rows.{Row, is_blank_line, shown}
use Rattle.cmark_block_model.specs.BlocksByLine.{OpenLines, lines_feed}
use Rattle.cmark_stream_model.specs.Growth.{fed_before, Parts, decide, AreDecided}
use Rattle.cmark_stream_model.specs.Undecided.{Undecided, Nothing, Begun, Open, Forever, decided_by, begun_by, left_open, undecided_after}
use Rattle.cmark_stream_model.proofs.FirstLines.{blank-kind}

module _ (options : Options) where
  -- lines that decide about metadata together with `more` lines after them
  abbrev AreDecidedWith : (following more : List Row) → OpenLines → List Row → Type 0
  AreDecidedWith following more o [] = Unit {0}
  AreDecidedWith following more o (r ∷ rs) =
      (Parts options o r (shown (rs ++ following)) → decide (metadata_kind options r) (rs ++ more) ≡ true) × AreDecidedWith following more (lines_feed options o r (shown (rs ++ following))) rs

  with-none : (following : List Row) (o : OpenLines) (rs : List Row) → AreDecidedWith following [] o rs → AreDecided options following o rs
  with-none following o [] h = tt
  with-none following o (r ∷ rs) h =
      (λ parts. ap (decide (metadata_kind options r)) (sym (append-nil rs)) ∙ h.0 parts, with-none following (lines_feed options o r (shown (rs ++ following))) rs h.1)

  with-snoc : (following more : List Row) (o : OpenLines) (done : List Row) (r : Row) → AreDecidedWith (r ∷ following) (r ∷ more) o done
      → (Parts options (fed_before options (r ∷ following) o done) r (shown following) → decide (metadata_kind options r) more ≡ true) → AreDecidedWith following more o (done ++ r ∷ [])
  with-snoc following more o [] r h last = (last, tt)
  with-snoc following more o (x ∷ done) r h last = search (rules, append_assoc, with-snoc following more (lines_feed options o x (shown (done ++ r ∷ following))) done r h.1 last)

  -- what the search keeps: the lines so far decide about metadata together with each list of lines that decides what they leave undecided
  abbrev pub Leaves : (following : List Row) → OpenLines → List Row → Undecided → Type 0
  Leaves following o done left = (more : List Row) → decided_by left more ≡ true → AreDecidedWith following more o done

  pub leaves-none : (following : List Row) (o : OpenLines) (left : Undecided) → Leaves following o [] left
  leaves-none following o left more e = tt

  pub leaves-nothing : (following : List Row) (o : OpenLines) (done : List Row) → Leaves following o done Nothing → AreDecided options following o done
  leaves-nothing following o done h = with-none following o done (h [] refl)

  -- a line that begins no block begins no metadata
  abbrev Tells : (begins : Bool) → (parts : Type 0) → Row → Type 0
  Tells begins parts r = parts → is_blank_line r ≡ false → begins ≡ true

  begun-decides : (begins : Bool) (parts : Type 0) (r : Row) → Tells begins parts r → (more : List Row) → decided_by (begun_by begins (metadata_kind options r)) more ≡ true → parts → decide (metadata_kind options r) more ≡ true
  begun-decides begins parts r tells more e p = go (metadata_kind options r) refl begins (λ q. tells p q) e
    where
      go : (o : Option MetadataBlockKind) → metadata_kind options r ≡ o → (b : Bool) → (is_blank_line r ≡ false → b ≡ true) → decided_by (begun_by b o) more ≡ true → decide o more ≡ true
      go o q b t d = search (rules, blank-kind)

  -- no line begins a block
  none-decides : (parts : Type 0) (r : Row) → Tells false parts r → (more : List Row) → parts → decide (metadata_kind options r) more ≡ true
  none-decides parts r tells more p = begun-decides false parts r tells more refl p

  -- after the next line both are decided: what was undecided before, and whether the line begins metadata
  both-decided : (begins : Bool) (parts : Type 0) (r : Row) → Tells begins parts r → (left : Undecided) (more : List Row) → decided_by (undecided_after options begins r left) more ≡ true
      → (decided_by left (r ∷ more) ≡ true) × (parts → decide (metadata_kind options r) more ≡ true)
  both-decided begins parts r tells Nothing more e = (refl, begun-decides begins parts r tells more e)
  both-decided begins parts r tells (Begun kind) more e = go (is_blank_line r) (ends_metadata kind r) begins tells e
    where
      go : (blank ends b : Bool) → Tells b parts r → decided_by (if blank || ends then begun_by b (metadata_kind options r) else left_open b false kind) more ≡ true
          → ((blank || (ends || is_ended kind more)) ≡ true) × (parts → decide (metadata_kind options r) more ≡ true)
      go true ends b t d = (refl, begun-decides b parts r t more d)
      go false true b t d = (refl, begun-decides b parts r t more d)
      go false false true t d = absurd (true≢false (sym d))
      go false false false t d = (d, none-decides parts r t more)
  both-decided begins parts r tells (Open kind) more e = go (ends_metadata kind r) begins tells e
    where
      go : (ends b : Bool) → Tells b parts r → decided_by (left_open b ends kind) more ≡ true → ((ends || is_ended kind more) ≡ true) × (parts → decide (metadata_kind options r) more ≡ true)
      go ends true t d = absurd (true≢false (sym d))
      go true false t d = (refl, none-decides parts r t more)
      go false false t d = (d, none-decides parts r t more)
  both-decided begins parts r tells Forever more e = absurd (true≢false (sym e))

  pub leaves-next : (following : List Row) (o : OpenLines) (done : List Row) (r : Row) (begins : Bool) → Tells begins (Parts options (fed_before options (r ∷ following) o done) r (shown following)) r
      → (left : Undecided) → Leaves (r ∷ following) o done left → Leaves following o (done ++ r ∷ []) (undecided_after options begins r left)
  leaves-next following o done r begins tells left h more e =
      let d = both-decided begins (Parts options (fed_before options (r ∷ following) o done) r (shown following)) r tells left more e in
      with-snoc following more o done r (h (r ∷ more) d.0) d.1
