-- The characters beside a delimiter run, and whether the run can open or close (CommonMark 2.1 and 6.2). Example: in `a *b*` the first run
-- can only open, and the second can only close.
use Rattle.std.specs.Prelude.{ℕ, Bool, true, false, not, ◌==◌, ◌&&◌, ◌||◌, nat_lt, Option, Some, None}
use Rattle.ucd_category.specs.GeneralCategory.{general_category, general_category_eq}
use Rattle.ucd_category.specs.GeneralCategoryGroup.{in_group}
use Rattle.ucd_category.specs.declared.GeneralCategory.TheVariants.{SpaceSeparator}
use Rattle.ucd_category.specs.declared.GeneralCategoryGroup.TheVariants.{Punctuation, Symbol}
use Rattle.cmark_grammar.specs.Characters.{asterisk, caret, carriage_return, equals_sign, form_feed, line_feed, tab, tilde, underscore}
use Rattle.cmark_grammar.specs.Options.{Options}

-- Unicode white space (CommonMark 2.1): the general category Zs, a tab, LF, FF or CR
unfoldable pub is_unicode_white_space : ℕ → Bool
is_unicode_white_space c =
    (c == tab) || ((c == line_feed) || ((c == form_feed) || ((c == carriage_return) || general_category_eq (general_category c) SpaceSeparator)))

-- Unicode punctuation (CommonMark 2.1): the general categories P and S
unfoldable pub is_unicode_punctuation : ℕ → Bool
is_unicode_punctuation c = in_group Punctuation (general_category c) || in_group Symbol (general_category c)

-- the character beside a run. At the edge of the run's line, leaf or cell there is no character, which counts as white space
abbrev pub is_white_space_there : Option ℕ → Bool
is_white_space_there None = true
is_white_space_there (Some c) = is_unicode_white_space c

abbrev pub is_punctuation_there : Option ℕ → Bool
is_punctuation_there None = false
is_punctuation_there (Some c) = is_unicode_punctuation c

-- left-flanking (CommonMark 6.2): no white space follows; and if punctuation follows, white space or punctuation precedes
abbrev pub is_left_flanking : (before after : Option ℕ) → Bool
is_left_flanking before after =
    not (is_white_space_there after)
    && (not (is_punctuation_there after) || (is_white_space_there before || is_punctuation_there before))

-- right-flanking (CommonMark 6.2): left-flanking with the two sides exchanged
abbrev pub is_right_flanking : (before after : Option ℕ) → Bool
is_right_flanking before after =
    not (is_white_space_there before)
    && (not (is_punctuation_there before) || (is_white_space_there after || is_punctuation_there after))

-- a byte of delimiter runs
abbrev pub is_run_delimiter : ℕ → Bool
is_run_delimiter b = (b == asterisk) || ((b == underscore) || ((b == tilde) || ((b == caret) || (b == equals_sign))))

-- `run_length` bytes of a delimiter are a delimiter run. There may be any number of `*` or `_`, one or two `~` with strikethrough or
-- subscript, one `^` with superscript, and two `=` with highlight (GFM 6.5, and this profile's own)
abbrev pub is_delimiter_run : Options → (delimiter run_length : ℕ) → Bool
is_delimiter_run options delimiter run_length =
    (((delimiter == asterisk) || (delimiter == underscore)) && nat_lt 0 run_length)
    || ((delimiter == tilde) && ((options.strikethrough || options.subscript) && ((run_length == 1) || (run_length == 2)))
    || (((delimiter == caret) && (options.superscript && (run_length == 1)))
    || ((delimiter == equals_sign) && (options.highlight && (run_length == 2)))))

-- a run of it can open and close inside a word too (CommonMark 6.2, rules 1 to 8). This holds of every delimiter except `_`, and except a
-- single `~` if subscript is off (this profile's own)
abbrev pub is_intraword : Options → (delimiter run_length : ℕ) → Bool
is_intraword options delimiter run_length = not (delimiter == underscore) && (not (delimiter == tilde) || ((run_length == 2) || options.subscript))

-- whether a run can open, and whether it can close (CommonMark 6.2, rules 1 to 8)
pub record Flanking : Type 0 where
  pub opens : Bool
  pub closes : Bool

-- whether a run can open (CommonMark 6.2, rules 1, 2, 5 and 6)
abbrev pub opens_beside : (intraword : Bool) → (before after : Option ℕ) → Bool
opens_beside intraword before after =
    is_left_flanking before after && (intraword || (not (is_right_flanking before after) || is_punctuation_there before))

-- whether a run can close (CommonMark 6.2, rules 3, 4, 7 and 8)
abbrev pub closes_beside : (intraword : Bool) → (before after : Option ℕ) → Bool
closes_beside intraword before after =
    is_right_flanking before after && (intraword || (not (is_left_flanking before after) || is_punctuation_there after))

abbrev pub flanking : Options → (delimiter run_length : ℕ) → (before after : Option ℕ) → Flanking
flanking options delimiter run_length before after = record {
  opens = is_delimiter_run options delimiter run_length && opens_beside (is_intraword options delimiter run_length) before after;
  closes = is_delimiter_run options delimiter run_length && closes_beside (is_intraword options delimiter run_length) before after;
}
