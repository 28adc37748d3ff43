-- The kinds of HTML blocks, and the names of blocks by their first letter.
use Rattle.std.specs.Prelude.{ℕ, Bool, ◌==◌, ◌&&◌, ◌||◌, if◌then◌else◌, List, [], ◌∷◌, drop, codes}
use Rattle.cmark_grammar.specs.Characters.{greater_than_sign}
use Rattle.cmark_grammar.specs.Leaves.{is_parted}
use Rattle.cmark_grammar.specs.HtmlBlocks.{is_letter, first_is, starts, holds}
use Rattle.cmark_scan_lines.specs.declared.html_block.HtmlKind.{HtmlKind}
use Rattle.cmark_scan_lines.specs.declared.html_block.HtmlKind.TheVariants.{Raw, Comment, Processing, Declaration, Cdata, Block, Tag}

abbrev pub kind_number : HtmlKind → ℕ
kind_number Raw = 1
kind_number Comment = 2
kind_number Processing = 3
kind_number Declaration = 4
kind_number Cdata = 5
kind_number Block = 6
kind_number Tag = 7

-- a name may end before a blank, `>` or the line's end, and the name of a block also before `/>`
abbrev pub ends_name : List ℕ → Bool
ends_name bs = is_parted bs || first_is (λ b. b == greater_than_sign) bs

abbrev pub ends_block_name : List ℕ → Bool
ends_block_name bs = is_parted bs || (first_is (λ b. b == greater_than_sign) bs || starts (codes "/>") bs)

-- `!` and a letter
abbrev pub begins_declaration : List ℕ → Bool
begins_declaration bs = starts (codes "!") bs && first_is is_letter (drop 1 bs)

-- the names of blocks that begin with this letter
abbrev pub names_from : ℕ → List (List ℕ)
names_from b =
    if b == 97 then codes "address" ∷ codes "article" ∷ codes "aside" ∷ []
    else if b == 98 then codes "base" ∷ codes "basefont" ∷ codes "blockquote" ∷ codes "body" ∷ []
    else if b == 99 then codes "caption" ∷ codes "center" ∷ codes "col" ∷ codes "colgroup" ∷ []
    else if b == 100 then codes "dd" ∷ codes "details" ∷ codes "dialog" ∷ codes "dir" ∷ codes "div" ∷ codes "dl" ∷ codes "dt" ∷ []
    else if b == 102 then codes "fieldset" ∷ codes "figcaption" ∷ codes "figure" ∷ codes "footer" ∷ codes "form" ∷ codes "frame" ∷ codes "frameset" ∷ []
    else if b == 104 then codes "h1" ∷ codes "h2" ∷ codes "h3" ∷ codes "h4" ∷ codes "h5" ∷ codes "h6" ∷ codes "head" ∷ codes "header" ∷ codes "hr" ∷ codes "html" ∷ []
    else if b == 105 then codes "iframe" ∷ []
    else if b == 108 then codes "legend" ∷ codes "li" ∷ codes "link" ∷ []
    else if b == 109 then codes "main" ∷ codes "menu" ∷ codes "menuitem" ∷ []
    else if b == 110 then codes "nav" ∷ codes "noframes" ∷ []
    else if b == 111 then codes "ol" ∷ codes "optgroup" ∷ codes "option" ∷ []
    else if b == 112 then codes "p" ∷ codes "param" ∷ []
    else if b == 115 then codes "search" ∷ codes "section" ∷ codes "summary" ∷ []
    else if b == 116 then codes "table" ∷ codes "tbody" ∷ codes "td" ∷ codes "tfoot" ∷ codes "th" ∷ codes "thead" ∷ codes "title" ∷ codes "tr" ∷ codes "track" ∷ []
    else if b == 117 then codes "ul" ∷ []
    else []

-- the bytes contain, or begin with, a closing tag of a name whose content is taken literally
abbrev pub ends_raw : List ℕ → Bool
ends_raw bs = holds (codes "</pre>") bs || (holds (codes "</script>") bs || (holds (codes "</style>") bs || holds (codes "</textarea>") bs))

abbrev pub closes_raw : List ℕ → Bool
closes_raw bs = starts (codes "</pre>") bs || (starts (codes "</script>") bs || (starts (codes "</style>") bs || starts (codes "</textarea>") bs))
