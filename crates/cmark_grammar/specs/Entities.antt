-- The entity names that are known if the caller passes no other look-up (CommonMark 2.5; that these are known is this profile's own).
-- Example: the text of `amp` is `&`.
use Rattle.std.specs.Prelude.{Some, None, codes, [], ◌∷◌, if◌then◌else◌}
use Rattle.std.specs.Str.{bytes_eq}
use Rattle.cmark_grammar.specs.Answers.{Lookup}

-- eleven names, each with the UTF-8 of the one character that HTML's list of named references gives it. The characters beyond ASCII are
-- U+00A0, U+00A9, U+00AE, U+2026, U+2014 and U+2013
abbrev pub basic_entity : Lookup
basic_entity name =
    if bytes_eq name (codes "amp") then Some (codes "&")
    else if bytes_eq name (codes "lt") then Some (codes "<")
    else if bytes_eq name (codes "gt") then Some (codes ">")
    else if bytes_eq name (codes "quot") then Some (codes "\"")
    else if bytes_eq name (codes "apos") then Some (codes "'")
    else if bytes_eq name (codes "nbsp") then Some (194 ∷ 160 ∷ [])
    else if bytes_eq name (codes "copy") then Some (194 ∷ 169 ∷ [])
    else if bytes_eq name (codes "reg") then Some (194 ∷ 174 ∷ [])
    else if bytes_eq name (codes "hellip") then Some (226 ∷ 128 ∷ 166 ∷ [])
    else if bytes_eq name (codes "mdash") then Some (226 ∷ 128 ∷ 148 ∷ [])
    else if bytes_eq name (codes "ndash") then Some (226 ∷ 128 ∷ 147 ∷ [])
    else None
