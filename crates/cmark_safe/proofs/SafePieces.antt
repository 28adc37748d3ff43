-- The HTML of a safe event outside images is safe.
use Rattle.std.proofs.Common.{◌≡◌, ℕ, Bool, true, false, ◌==◌, if◌then◌else◌, List, [], ◌∷◌, ◌++◌, refl, sym, subst}
use Rattle.std.specs.Prelude.{codes, decimal, take_while, Option, Some, None, option_map}
use Rattle.std.specs.List.{list_all, slice_get}
use Rattle.std.proofs.lemmas.List.{append_assoc, append-nil}
use Rattle.cmark_grammar.specs.Alignment.{Alignment, Unaligned, Left, Center, Right}
use Rattle.cmark_grammar.specs.BlockQuoteKind.{BlockQuoteKind, Note, Tip, Important, Warning, Caution}
use Rattle.cmark_grammar.specs.CodeBlockKind.{CodeBlockKind, Indented, Fenced}
use Rattle.cmark_grammar.specs.LinkType.{LinkType, Email}
use Rattle.cmark_grammar.specs.Escapes.{escaped_html, escaped_href}
use Rattle.cmark_grammar.specs.Event.{Event, Start, End, Text, Code, InlineMath, DisplayMath, Html, InlineHtml, FootnoteReference, SoftBreak, HardBreak, Rule, TaskListMarker}
use Rattle.cmark_grammar.specs.Html.{Writing, fresh_line, digit, language_start, code_block_start, is_within_word, block_quote_start, list_start, list_end, scheme, title_attribute, id_attribute, heading_attributes, cell_tag, alignment_style, cell_end, footnote_number, footnote_start, footnote_reference, start_piece, end_piece, text_piece, task_list_marker, piece_outside}
use Rattle.cmark_grammar.specs.Tag as tag
use Rattle.cmark_grammar.specs.Tag.{Tag}
use Rattle.cmark_grammar.specs.TagEnd as end
use Rattle.cmark_grammar.specs.TagEnd.{TagEnd}
use Rattle.cmark_safe.specs.SafeHtml.{is_in_word, is_level, own_prefix, plain_tags, IsAnchor, NoAnchor, Anchor, IsValue, Byte, IsAddress, IsTitle, NoTitle, Title, HeadingStart, HeadingEnd, Plain, LinkStart, OrderedFrom, Language, Footnote, ToFootnote, IsSafe, Nothing, Sign, Tagged}
use Rattle.cmark_safe.specs.SafeEvents.{safe, safe_tag, safe_end, safe_level, anchored, safe_code, safe_destination, first_word, own_name}
use Rattle.cmark_safe.specs.Schemes.{is_allowed, is_one_of}
use Rattle.cmark_safe.proofs.SafeWords.{escaped_word, front_keeps, front_passes}
use Rattle.cmark_safe.proofs.SafeParts.{safe_then, tag_safe, value_safe, body_text_safe, html_value, href_value, decimal_value}

destination_choice : (further : List ℕ) (x : Bool) (d : List ℕ) → is_allowed further (escaped_href d) ≡ x → is_allowed further (escaped_href (if x then d else [])) ≡ true
destination_choice further true d h = h
destination_choice further false d h = refl

pub destination_address : (further d : List ℕ) → IsAddress further (escaped_href (safe_destination further d))
destination_address further d = record { value = href_value (safe_destination further d); allowed = destination_choice further (is_allowed further (escaped_href d)) d refl }

mail_value : (url : List ℕ) → IsValue url → IsValue (codes "mailto:" ++ url)
mail_value url is = Byte 109 _ refl (Byte 97 _ refl (Byte 105 _ refl (Byte 108 _ refl (Byte 116 _ refl (Byte 111 _ refl (Byte 58 url refl is))))))

address : (further : List ℕ) (kind : LinkType) (d : List ℕ) → IsAddress further (scheme kind ++ escaped_href (safe_destination further d))
address further Email d = record { value = mail_value _ (href_value (safe_destination further d)); allowed = refl }
address further _ d = destination_address further d

pub title_is : (title : List ℕ) → IsTitle (title_attribute title)
title_is [] = NoTitle
title_is (b ∷ bs) = Title _ (html_value (b ∷ bs))

link_safe : (further : List ℕ) (kind : LinkType) (d title : List ℕ)
    → IsSafe further (codes "<a href=\"" ++ (scheme kind ++ (escaped_href (safe_destination further d) ++ (codes "\"" ++ (title_attribute title ++ codes ">")))))
link_safe further kind d title = subst (λ x. IsSafe further (codes "<a href=\"" ++ x)) (append_assoc (scheme kind) (escaped_href (safe_destination further d)) (codes "\"" ++ (title_attribute title ++ codes ">")))
    (tag_safe _ (LinkStart (scheme kind ++ escaped_href (safe_destination further d)) (title_attribute title) (address further kind d) (title_is title)))

level_choice : (x : Bool) (level : ℕ) → is_level level ≡ x → is_level (if x then level else 6) ≡ true
level_choice true level h = h
level_choice false level h = refl

level_safe : (level : ℕ) → is_level (safe_level level) ≡ true
level_safe level = level_choice (is_level level) level refl

anchor_of : (id : Option (List ℕ)) → IsAnchor (id_attribute (option_map own_name id) ++ [])
anchor_of None = NoAnchor
anchor_of (Some id) = subst IsAnchor (sym (append-nil (id_attribute (Some (own_name id))))) (Anchor (escaped_html id) (html_value id))

heading_safe : {further : List ℕ} (level : ℕ) (id : Option (List ℕ)) → IsSafe further (codes "<h" ++ (digit (safe_level level) ∷ (heading_attributes (anchored id) ++ codes ">")))
heading_safe level id = tag_safe _ (HeadingStart (safe_level level) (heading_attributes (anchored id)) (level_safe level) (anchor_of id))

plain : {further : List ℕ} (t : List ℕ) → is_one_of plain_tags t ≡ true → IsSafe further t
plain t is = tag_safe t (Plain t is)

plain_then : {further : List ℕ} (t more : List ℕ) → is_one_of plain_tags t ≡ true → IsSafe further more → IsSafe further (t ++ more)
plain_then t more is s = Tagged t more (Plain t is) s

feed : {further : List ℕ} → IsSafe further (10 ∷ [])
feed = Sign 10 [] refl Nothing

line : {further : List ℕ} (t : List ℕ) → is_one_of plain_tags t ≡ true → IsSafe further (t ++ 10 ∷ [])
line t is = plain_then t (10 ∷ []) is feed

fresh : {further : List ℕ} (at_start : Bool) (more : List ℕ) → IsSafe further more → IsSafe further (fresh_line at_start ++ more)
fresh true more s = s
fresh false more s = Sign 10 more refl s

quote_safe : {further : List ℕ} (kind : Option BlockQuoteKind) → IsSafe further (block_quote_start kind)
quote_safe None = line (codes "<blockquote>") refl
quote_safe (Some Note) = line (codes "<blockquote class=\"markdown-alert-note\">") refl
quote_safe (Some Tip) = line (codes "<blockquote class=\"markdown-alert-tip\">") refl
quote_safe (Some Important) = line (codes "<blockquote class=\"markdown-alert-important\">") refl
quote_safe (Some Warning) = line (codes "<blockquote class=\"markdown-alert-warning\">") refl
quote_safe (Some Caution) = line (codes "<blockquote class=\"markdown-alert-caution\">") refl

language_safe : {further : List ℕ} (word : List ℕ) → list_all is_in_word word ≡ true → IsSafe further (language_start word)
language_safe [] one = plain_then (codes "<pre>") _ refl (plain (codes "<code>") refl)
language_safe (b ∷ bs) one = plain_then (codes "<pre>") _ refl (tag_safe _ (Language _ (record { value = html_value (b ∷ bs); one = escaped_word (b ∷ bs) one })))

code_safe : {further : List ℕ} (kind : CodeBlockKind) → IsSafe further (code_block_start (safe_code kind))
code_safe Indented = plain_then (codes "<pre>") _ refl (plain (codes "<code>") refl)
code_safe (Fenced info) = language_safe (take_while is_within_word (first_word info)) (front_keeps is_in_word is_within_word (first_word info) (front_passes is_in_word info))

numbered : (further : List ℕ) (x : Bool) (first : ℕ) → IsSafe further (if x then codes "<ol>\n" else codes "<ol start=\"" ++ (decimal first ++ codes "\">\n"))
numbered further true first = line (codes "<ol>") refl
numbered further false first = subst (λ x. IsSafe further (codes "<ol start=\"" ++ x)) (append_assoc (decimal first) (codes "\">") (10 ∷ []))
    (Tagged _ (10 ∷ []) (OrderedFrom (decimal first) (decimal_value first)) feed)

list_safe : (further : List ℕ) (first : Option ℕ) → IsSafe further (list_start first)
list_safe further None = line (codes "<ul>") refl
list_safe further (Some first) = numbered further (first == 1) first

cell_safe : {further : List ℕ} (in_head : Bool) (alignment : Option Alignment) → IsSafe further (cell_tag in_head ++ (alignment_style alignment ++ codes ">"))
cell_safe true None = plain (codes "<th>") refl
cell_safe true (Some Unaligned) = plain (codes "<th>") refl
cell_safe true (Some Left) = plain (codes "<th style=\"text-align: left\">") refl
cell_safe true (Some Center) = plain (codes "<th style=\"text-align: center\">") refl
cell_safe true (Some Right) = plain (codes "<th style=\"text-align: right\">") refl
cell_safe false None = plain (codes "<td>") refl
cell_safe false (Some Unaligned) = plain (codes "<td>") refl
cell_safe false (Some Left) = plain (codes "<td style=\"text-align: left\">") refl
cell_safe false (Some Center) = plain (codes "<td style=\"text-align: center\">") refl
cell_safe false (Some Right) = plain (codes "<td style=\"text-align: right\">") refl

digits_then : {further : List ℕ} (n : ℕ) (more : List ℕ) → IsSafe further more → IsSafe further (decimal n ++ more)
digits_then n more s = safe_then (decimal n) more (value_safe (decimal n) (decimal_value n)) s

footnote_safe : (further : List ℕ) (label : List ℕ) (n : ℕ) → IsSafe further (footnote_start (own_prefix ++ label) (decimal n))
footnote_safe further label n =
    let more : List ℕ = codes "<sup class=\"footnote-definition-label\">" ++ (decimal n ++ codes "</sup>") in
    subst (λ x. IsSafe further (codes "<div class=\"footnote-definition\" id=\"" ++ (own_prefix ++ x))) (append_assoc (escaped_html label) (codes "\">") more)
    (Tagged _ more (Footnote (escaped_html label) (html_value label))
    (plain_then (codes "<sup class=\"footnote-definition-label\">") _ refl (digits_then n _ (plain (codes "</sup>") refl))))

reference_safe : (further : List ℕ) (label : List ℕ) (n : ℕ) → IsSafe further (footnote_reference (own_prefix ++ label) (decimal n))
reference_safe further label n =
    let more : List ℕ = decimal n ++ codes "</a></sup>" in
    subst (λ x. IsSafe further (codes "<sup class=\"footnote-reference\"><a href=\"#" ++ (own_prefix ++ x))) (append_assoc (escaped_html label) (codes "\">") more)
    (plain_then (codes "<sup class=\"footnote-reference\">") _ refl
    (Tagged _ more (ToFootnote (escaped_html label) (html_value label)) (digits_then n _ (plain_then (codes "</a>") _ refl (plain (codes "</sup>") refl)))))

-- a tag that opens no image
abbrev pub IsNoImage : Tag → Type 0
IsNoImage (tag.Image linked) = ⊥
IsNoImage _ = Unit {0}

pub start_safe : (further : List ℕ) (w : Writing) (t : Tag) → IsNoImage t → IsSafe further (start_piece w (safe_tag further t))
start_safe further w (tag.Heading level attributes) i = fresh w.line_start _ (heading_safe level attributes.id)
start_safe further w (tag.BlockQuote kind) i = fresh w.line_start _ (quote_safe kind)
start_safe further w (tag.CodeBlock kind) i = fresh w.line_start _ (code_safe kind)
start_safe further w (tag.Listing first) i = fresh w.line_start _ (list_safe further first)
start_safe further w tag.ListItem i = fresh w.line_start _ (plain (codes "<li>") refl)
start_safe further w (tag.FootnoteDefinition label) i = fresh w.line_start _ (footnote_safe further label (footnote_number w.names (own_prefix ++ label)))
start_safe further w tag.DefinitionList i = fresh w.line_start _ (line (codes "<dl>") refl)
start_safe further w tag.DefinitionListTitle i = fresh w.line_start _ (plain (codes "<dt>") refl)
start_safe further w tag.DefinitionListDefinition i = fresh w.line_start _ (plain (codes "<dd>") refl)
start_safe further w (tag.Table alignments) i = plain (codes "<table>") refl
start_safe further w tag.TableHead i = plain_then (codes "<thead>") _ refl (plain (codes "<tr>") refl)
start_safe further w tag.TableRow i = plain (codes "<tr>") refl
start_safe further w tag.TableCell i = cell_safe w.table.in_head (slice_get w.table.alignments w.table.column)
start_safe further w tag.Emphasis i = plain (codes "<em>") refl
start_safe further w tag.Strong i = plain (codes "<strong>") refl
start_safe further w tag.Strikethrough i = plain (codes "<del>") refl
start_safe further w tag.Superscript i = plain (codes "<sup>") refl
start_safe further w tag.Subscript i = plain (codes "<sub>") refl
start_safe further w tag.Highlight i = plain (codes "<mark>") refl
start_safe further w (tag.Link l) i = link_safe further l.link_type l.destination l.title
start_safe further w (tag.Image l) i = elim i [ ]
start_safe further w (tag.MetadataBlock kind) i = Nothing
start_safe further w _ i = fresh w.line_start _ (plain (codes "<p>") refl)

list_end_safe : {further : List ℕ} (is_ordered : Bool) → IsSafe further (list_end is_ordered)
list_end_safe true = line (codes "</ol>") refl
list_end_safe false = line (codes "</ul>") refl

cell_end_safe : {further : List ℕ} (in_head : Bool) → IsSafe further (cell_end in_head)
cell_end_safe true = plain (codes "</th>") refl
cell_end_safe false = plain (codes "</td>") refl

pub end_safe : {further : List ℕ} (in_head : Bool) (e : TagEnd) → IsSafe further (end_piece in_head (safe_end e))
end_safe h (end.Heading level) = Tagged _ (10 ∷ []) (HeadingEnd (safe_level level) (level_safe level)) feed
end_safe h (end.BlockQuote kind) = line (codes "</blockquote>") refl
end_safe h end.CodeBlock = plain_then (codes "</code>") _ refl (line (codes "</pre>") refl)
end_safe h (end.Listing is_ordered) = list_end_safe is_ordered
end_safe h end.ListItem = line (codes "</li>") refl
end_safe h end.FootnoteDefinition = line (codes "</div>") refl
end_safe h end.DefinitionList = line (codes "</dl>") refl
end_safe h end.DefinitionListTitle = line (codes "</dt>") refl
end_safe h end.DefinitionListDefinition = line (codes "</dd>") refl
end_safe h end.Table = plain_then (codes "</tbody>") _ refl (line (codes "</table>") refl)
end_safe h end.TableHead = plain_then (codes "</tr>") _ refl (plain_then (codes "</thead>") _ refl (line (codes "<tbody>") refl))
end_safe h end.TableRow = line (codes "</tr>") refl
end_safe h end.TableCell = cell_end_safe h
end_safe h end.Emphasis = plain (codes "</em>") refl
end_safe h end.Strong = plain (codes "</strong>") refl
end_safe h end.Strikethrough = plain (codes "</del>") refl
end_safe h end.Superscript = plain (codes "</sup>") refl
end_safe h end.Subscript = plain (codes "</sub>") refl
end_safe h end.Highlight = plain (codes "</mark>") refl
end_safe h end.Link = plain (codes "</a>") refl
end_safe h end.Image = Nothing
end_safe h (end.MetadataBlock kind) = Nothing
end_safe h _ = line (codes "</p>") refl

text_safe : {further : List ℕ} (in_metadata : Bool) (text : List ℕ) → IsSafe further (text_piece in_metadata text)
text_safe true text = Nothing
text_safe false text = body_text_safe text

marker_safe : {further : List ℕ} (is_checked : Bool) → IsSafe further (task_list_marker is_checked)
marker_safe true = line (codes "<input disabled=\"\" type=\"checkbox\" checked=\"\"/>") refl
marker_safe false = line (codes "<input disabled=\"\" type=\"checkbox\"/>") refl

abbrev pub OpensNoImage : Event → Type 0
OpensNoImage (Start t) = IsNoImage t
OpensNoImage _ = Unit {0}

pub piece_safe : (further : List ℕ) (w : Writing) (e : Event) → OpensNoImage e → IsSafe further (piece_outside w (safe further e))
piece_safe further w (Start t) i = start_safe further w t i
piece_safe further w (End e) i = end_safe w.table.in_head e
piece_safe further w (Text text) i = text_safe w.in_metadata text
piece_safe further w (Code text) i = plain_then (codes "<code>") _ refl (safe_then _ _ (body_text_safe text) (plain (codes "</code>") refl))
piece_safe further w (InlineMath text) i = plain_then (codes "<span class=\"math math-inline\">") _ refl (safe_then _ _ (value_safe _ (html_value text)) (plain (codes "</span>") refl))
piece_safe further w (DisplayMath text) i = plain_then (codes "<span class=\"math math-display\">") _ refl (safe_then _ _ (value_safe _ (html_value text)) (plain (codes "</span>") refl))
piece_safe further w (Html text) i = text_safe w.in_metadata text
piece_safe further w (InlineHtml text) i = text_safe w.in_metadata text
piece_safe further w (FootnoteReference label) i = reference_safe further label (footnote_number w.names (own_prefix ++ label))
piece_safe further w SoftBreak i = feed
piece_safe further w HardBreak i = line (codes "<br />") refl
piece_safe further w Rule i = fresh w.line_start _ (line (codes "<hr />") refl)
piece_safe further w (TaskListMarker is_checked) i = marker_safe is_checked
