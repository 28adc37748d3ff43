-- The block that a letter or a bracket at the beginning of a line begins, without indent.
use Rattle.std.proofs.Common.{◌≡◌, ℕ, Bool, true, false, ◌==◌, ◌&&◌, not, List, [], ◌∷◌, drop, None, refl, sym, ap, ◌∙◌, arith, eqb-true, true≢false}
use Rattle.std.specs.Prelude.{if◌then◌else◌}
use Rattle.cmark_grammar.specs.Columns.{bytes_of}
use Rattle.cmark_grammar.specs.Containers.{begins_with}
use Rattle.cmark_grammar.specs.DefinitionLists.{definition_at}
use Rattle.cmark_grammar.specs.Footnotes.{are_read, footnotes_in, is_footnote_label}
use Rattle.cmark_grammar.specs.Letters.{is_letter, first_is}
use Rattle.cmark_grammar.specs.Metadata.{metadata_kind, metadata_if, metadata_of}
use Rattle.cmark_grammar.specs.Openings as grammar
use Rattle.cmark_grammar.specs.Openings.{Plain, or_else, nests_if, metadata_begun, leaf_of, opens, table_if, begins_no_link}
use Rattle.cmark_grammar.specs.TableRows.{table_head}
use Rattle.cmark_grammar.specs.Options.{Options}
use Rattle.cmark_grammar.specs.Places.{Place}
use Rattle.cmark_grammar.specs.Rows.{Row, is_blank_line, is_whole_line, indent_of, words_of}
use Rattle.cmark_line_rules.specs.Opened.{bracket_of}
use Rattle.cmark_line_rules.specs.Starts.{begun_container}
use Rattle.cmark_line_rules.specs.declared.opening.Opening.{Opening}
use Rattle.cmark_line_rules.specs.declared.opening.Opening.TheVariants as opening
use Rattle.cmark_line_rules.proofs.FirstBytes.{letter-container, label-container, bracket-leaf}
use Rattle.cmark_line_rules.proofs.OpeningRows.{opens-shallow, link-read}
use Rattle.cmark_line_rules.proofs.PlainRows.{letter-leaf}
use Rattle.cmark_blocks.specs.Entered.{OpensAs}
use Rattle.cmark_blocks.proofs.DefinitionRows.{other-defines-not}

pub and-first : (x y : Bool) → (x && y) ≡ true → x ≡ true
and-first true y e = refl
and-first false y e = e

not-true : (x : Bool) → not x ≡ true → x ≡ false
not-true true e = absurd (true≢false (sym e))
not-true false e = refl

pub and-second : (x y : Bool) → (x && y) ≡ true → y ≡ true
and-second true y e = e
and-second false y e = absurd (true≢false (sym e))

-- neither a hyphen nor a plus sign comes first, so that no metadata begins
no-metadata : (options : Options) (r : Row) (b : ℕ) (bs : List ℕ) → bytes_of r.columns ≡ b ∷ bs → (b == 45) ≡ false → (b == 43) ≡ false → metadata_kind options r ≡ None
no-metadata options r b bs is dash plus = go (is_whole_line r)
  where
    none : metadata_of (b ∷ bs) ≡ None
    none = rw (dash, plus) refl

    go : (z : Bool) → (if z then metadata_if options (metadata_of (bytes_of r.columns)) else None) ≡ None
    go true = ap (λ bytes. metadata_if options (metadata_of bytes)) is ∙ ap (metadata_if options) none
    go false = refl

-- a letter is different from these bytes
letter-apart : (b k : ℕ) → is_letter k ≡ false → is_letter b ≡ true → (b == k) ≡ false
letter-apart b k other letter = go (b == k) refl
  where
    go : (z : Bool) → (b == k) ≡ z → z ≡ false
    go true e = absurd (true≢false (sym letter ∙ ap is_letter (eqb-true b k e) ∙ other))
    go false e = refl

-- such a line begins only this, and neither a definition nor metadata
pub record BeginsOnly (options : Options) (open_as : Opening) (r : Row) : Type 0 where
  pub opens_as : OpensAs options open_as r
  pub defines_not : (place : Place) → definition_at options place r ≡ None
  pub metadata_not : (ahead : List Row) → metadata_begun (metadata_kind options r) ahead ≡ Plain

module _ (options : Options) (r : Row) (whole : r.lazy ≡ false) (blank : is_blank_line r ≡ false) where
  module _ (b : ℕ) (bs : List ℕ) (words : words_of r ≡ b ∷ bs) (flush : indent_of r ≡ 0) (colon : (b == 58) ≡ false) (dash : (b == 45) ≡ false) (plus : (b == 43) ≡ false) where
    -- the bytes of a line with no indent are its words
    bytes : bytes_of r.columns ≡ b ∷ bs
    bytes = sym (ap (λ n. bytes_of (drop n r.columns)) flush) ∙ words

    begins-only : (open_as : Opening) → OpensAs options open_as r → BeginsOnly options open_as r
    begins-only open_as in_text = record {
      opens_as = in_text;
      defines_not = λ place. other-defines-not options place r (ap (begins_with 58) words ∙ colon);
      metadata_not = λ ahead. ap (λ kind. metadata_begun kind ahead) (no-metadata options r b bs bytes dash plus);
    }

  opens-flush : (other : grammar.Opening) (ahead : List Row) → indent_of r ≡ 0 → begun_container options r ≡ None → leaf_of options r ahead ≡ other →
      opens options r ahead ≡ or_else (metadata_begun (metadata_kind options r) ahead) other
  opens-flush other ahead flush none is =
      opens-shallow options r ahead whole blank (omega (arith, flush))
      ∙ ap (λ k. or_else (metadata_begun (metadata_kind options r) ahead) (or_else (nests_if k) (leaf_of options r ahead))) none
      ∙ ap (or_else (metadata_begun (metadata_kind options r) ahead)) is

  -- a letter begins a table or a paragraph
  pub letter-begins : ((indent_of r == 0) && first_is is_letter (words_of r)) ≡ true → BeginsOnly options opening.Plain r
  letter-begins e = by (words_of r) refl (and-second (indent_of r == 0) _ e)
    where
      flush : indent_of r ≡ 0
      flush = eqb-true (indent_of r) 0 (and-first (indent_of r == 0) (first_is is_letter (words_of r)) e)

      letter : first_is is_letter (words_of r) ≡ true
      letter = and-second (indent_of r == 0) (first_is is_letter (words_of r)) e

      by : (words : List ℕ) → words_of r ≡ words → first_is is_letter words ≡ true → BeginsOnly options opening.Plain r
      by [] is f = absurd (true≢false (sym f))
      by (b ∷ bs) is f =
          begins-only b bs is flush (letter-apart b 58 refl f) (letter-apart b 45 refl f) (letter-apart b 43 refl f) opening.Plain
          (λ ahead. opens-flush (table_if options (table_head options r ahead) ahead) ahead flush (letter-container options r letter) (letter-leaf options r ahead letter))

  -- a bracket begins a link reference definition, a table or a paragraph, if footnotes are not read
  pub bracket-begins : ((indent_of r == 0) && (begins_with 91 (words_of r) && not (are_read (footnotes_in options)))) ≡ true → BeginsOnly options opening.Bracket r
  bracket-begins e = by (words_of r) refl bracket
    where
      flush : indent_of r ≡ 0
      flush = eqb-true (indent_of r) 0 (and-first (indent_of r == 0) (begins_with 91 (words_of r) && not (are_read (footnotes_in options))) e)

      both : (begins_with 91 (words_of r) && not (are_read (footnotes_in options))) ≡ true
      both = and-second (indent_of r == 0) (begins_with 91 (words_of r) && not (are_read (footnotes_in options))) e

      bracket : begins_with 91 (words_of r) ≡ true
      bracket = and-first (begins_with 91 (words_of r)) (not (are_read (footnotes_in options))) both

      unread : not (are_read (footnotes_in options)) ≡ true
      unread = and-second (begins_with 91 (words_of r)) (not (are_read (footnotes_in options))) both

      off : are_read (footnotes_in options) ≡ false
      off = not-true (are_read (footnotes_in options)) unread

      read : (begins_with 91 (words_of r) && not (begins_no_link (footnotes_in options) (words_of r))) ≡ true
      read = ap (λ z. z && not (begins_no_link (footnotes_in options) (words_of r))) bracket ∙ ap (λ z. not (z && is_footnote_label (words_of r))) off

      by : (words : List ℕ) → words_of r ≡ words → begins_with 91 words ≡ true → BeginsOnly options opening.Bracket r
      by [] is f = absurd (true≢false (sym f))
      by (b ∷ bs) is f =
          let at : b ≡ 91 = eqb-true b 91 f in
          begins-only b bs is flush (ap (λ c. c == 58) at) (ap (λ c. c == 45) at) (ap (λ c. c == 43) at) opening.Bracket
          (λ ahead. opens-flush (bracket_of options r ahead) ahead flush (label-container options r off bracket) (bracket-leaf options r ahead bracket ∙ link-read options r ahead read))
