-- Inline HTML (CommonMark 6.6). Examples: `<!-- a -->`, `<?a?>`, `<a b>`.
use Rattle.cmark_grammar.specs.Letters.{is_letter, starts, after_if, after_start_of, after_first_of}
use Rattle.std.specs.Prelude.{ℕ, zero, suc, ◌-◌, Bool, ◌==◌, ◌||◌, if◌then◌else◌, List, [], ◌∷◌, length, drop, take, min, codes, Option, Some, None, option_map}
use Rattle.std.specs.Option.{option_or}
use Rattle.std.specs.List.{list_any}
use Rattle.cmark_grammar.specs.Characters.{carriage_return, line_feed}
use Rattle.cmark_grammar.specs.Tags.{prefix_after, after_tag, no_prefix}

-- a tag: its end, and the text that it owns if it spans several lines: its bytes without the lines' prefixes
pub record OwnedTag : Type 0 where
  pub end : ℕ
  pub buffer : List ℕ

abbrev pub takes_lines : List ℕ → Bool
takes_lines bs = list_any (λ b. (b == line_feed) || (b == carriage_return)) bs

module _ (prefix : List ℕ → ℕ) where
  -- the first `size` bytes, without those of prefixes
  abbrev pub without_prefixes : (size skip : ℕ) → List ℕ → List ℕ
  without_prefixes zero skip bs = []
  without_prefixes (suc size) skip [] = []
  without_prefixes (suc size) zero (b ∷ bs) = b ∷ without_prefixes size (prefix_after prefix b bs) bs
  without_prefixes (suc size) (suc skip) (b ∷ bs) = without_prefixes size skip bs

  abbrev pub owned_tag : (size : ℕ) → List ℕ → OwnedTag
  owned_tag size bs = record { end = size; buffer = if takes_lines (take size bs) then without_prefixes size 0 bs else [] }

  -- the tag at the beginning of these bytes
  abbrev pub owned_tag_in : List ℕ → Option OwnedTag
  owned_tag_in bs = option_map (λ rest. owned_tag (length bs - length rest) bs) (after_tag prefix bs)

-- the bytes after a comment, from its `<!--` on: `>` or `->` closes it at once, else the first `-->` does
abbrev pub after_comment : List ℕ → Option (List ℕ)
after_comment bs = option_or (after_start_of (codes ">") bs) (option_or (after_start_of (codes "->") bs) (after_first_of (codes "-->") bs))

-- the bytes after a declaration, from its `<!` on: a letter begins it, and the first `>` closes it
abbrev pub declaration_in : List ℕ → Option (Option (List ℕ))
declaration_in bs = option_map (after_first_of (codes ">")) (after_if is_letter bs)

-- the bytes after a CDATA section, from its `<!` on
abbrev pub cdata_in : List ℕ → Option (Option (List ℕ))
cdata_in bs = option_map (after_first_of (codes "]]>")) (after_start_of (codes "[CDATA[") bs)

-- the construct that `<!` opens, if any: a comment, a declaration or a CDATA section. The result is the bytes after its first closer, if it
-- has one
abbrev pub opened_in : List ℕ → Option (Option (List ℕ))
opened_in bs = option_or (option_map after_comment (after_start_of (codes "--") bs)) (option_or (declaration_in bs) (cdata_in bs))

-- the result of a search from a place of the text: the end, if a closer was found, and the number of bytes passed. Without a closer all
-- bytes are passed; if nothing opens, at most seven
pub record Find : Type 0 where
  pub end : Option ℕ
  pub passed : ℕ

abbrev pub find_with : (bytes : List ℕ) → (at : ℕ) → Option (Option (List ℕ)) → Find
find_with bytes at None = record { end = None; passed = min (length bytes - at) 7 }
find_with bytes at (Some None) = record { end = None; passed = length bytes - at }
find_with bytes at (Some (Some rest)) = record { end = Some (length bytes - length rest); passed = length bytes - length rest - at }

-- the search from the place after `<!`
abbrev pub comment_find : (bytes : List ℕ) → (at : ℕ) → Find
comment_find bytes at = find_with bytes at (opened_in (drop at bytes))

-- the search from the place after `<?`: the first `?>` ends a processing instruction
abbrev pub processing_find : (bytes : List ℕ) → (at : ℕ) → Find
processing_find bytes at = find_with bytes at (Some (after_first_of (codes "?>") (drop at bytes)))

-- the bytes after inline HTML that opened, if it is closed
abbrev pub after_opened : Option (Option (List ℕ)) → Option (List ℕ)
after_opened None = None
after_opened (Some closed) = closed

-- the bytes after the inline HTML at the beginning: a comment, a declaration, a CDATA section, a processing instruction, or an open or
-- closing tag
abbrev pub after_inline_html : List ℕ → Option (List ℕ)
after_inline_html bs =
    if starts (codes "<!") bs then after_opened (opened_in (drop 2 bs))
    else if starts (codes "<?") bs then after_first_of (codes "?>") (drop 2 bs)
    else after_tag no_prefix bs

-- the bytes after a comment, a declaration, a CDATA section or a processing instruction at the beginning
abbrev pub after_markup : List ℕ → Option (List ℕ)
after_markup bs =
    if starts (codes "<!") bs then after_opened (opened_in (drop 2 bs))
    else if starts (codes "<?") bs then after_first_of (codes "?>") (drop 2 bs)
    else None
