-- Examples of tags and of other inline HTML (CommonMark 6.5 and 6.6), computed: the bytes after them.
use Rattle.std.specs.Prelude.{◌≡◌, ℕ, false, List, codes, Option, Some, None}
use Rattle.std.proofs.Common.{refl}
use Rattle.cmark_grammar.specs.Tags.{after_tag, no_prefix}
use Rattle.cmark_grammar.specs.HtmlBlocks.{html_kind}
use Rattle.cmark_grammar.specs.InlineHtml.{OwnedTag, Find, owned_tag_in, comment_find, processing_find}
use Rattle.cmark_grammar.specs.Autolinks.{autolink_in}

abbrev following : List ℕ → Option (List ℕ)
following bs = after_tag no_prefix bs

open_tag : following (codes "<bab><c2c>") ≡ Some (codes "<c2c>")
open_tag = refl

empty_element : following (codes "<a/><b2/>") ≡ Some (codes "<b2/>")
empty_element = refl

white_space : following (codes "<b2\ndata=\"foo\" >x") ≡ Some (codes "x")
white_space = refl

attributes : following (codes "<a foo=\"bar\" bam = 'baz <em>\"</em>'\n_boolean zoop:33=zoop:33 />") ≡ Some (codes "")
attributes = refl

illegal_name : following (codes "<33>") ≡ None
illegal_name = refl

illegal_attribute : following (codes "<a h*#ref=\"hi\">") ≡ None
illegal_attribute = refl

illegal_value : following (codes "<a href=hi'>") ≡ None
illegal_value = refl

illegal_space : following (codes "<bar/ >") ≡ None
illegal_space = refl

missing_space : following (codes "<a href='bar'title=title>") ≡ None
missing_space = refl

closing_tag : following (codes "</foo >x") ≡ Some (codes "x")
closing_tag = refl

closing_with_attribute : following (codes "</a href=\"foo\">") ≡ None
closing_with_attribute = refl

two_line_endings : following (codes "<a\n\nb>") ≡ None
two_line_endings = refl

-- a tag over lines owns its bytes without the prefixes of its later lines
over_lines : owned_tag_in (λ rest. 2) (codes "<foo\n> bar>x") ≡ Some (let tag : OwnedTag = record { end = 11; buffer = codes "<foo\nbar>" } in tag)
over_lines = refl

-- a block of kind 7 begins with a whole tag and blanks, of another name than those of kind 1
lone_tag : html_kind (codes "<a href=\"foo\"> ") ≡ Some 7
lone_tag = refl

tag_and_text : html_kind (codes "<a> x") ≡ None
tag_and_text = refl

raw_tag : html_kind (codes "</pre>") ≡ None
raw_tag = refl

comment : comment_find (codes "<!-- a -->b") 2 ≡ (let find : Find = record { end = Some 10; passed = 8 } in find)
comment = refl

comment_closed_at_once : comment_find (codes "<!--->b") 2 ≡ (let find : Find = record { end = Some 6; passed = 4 } in find)
comment_closed_at_once = refl

cdata : comment_find (codes "<![CDATA[>&<]]>") 2 ≡ (let find : Find = record { end = Some 15; passed = 13 } in find)
cdata = refl

declaration : comment_find (codes "<!ELEMENT br EMPTY>") 2 ≡ (let find : Find = record { end = Some 19; passed = 17 } in find)
declaration = refl

instruction : processing_find (codes "<?php echo $a; ?>") 2 ≡ (let find : Find = record { end = Some 17; passed = 15 } in find)
instruction = refl

no_autolink : autolink_in false (codes "m:abc>") ≡ None
no_autolink = refl
