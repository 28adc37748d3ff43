-- The grammar, in reading order. Chapters 1 to 12 are the definitions that the theorem rests on; docs/GRAMMAR.md has these chapters too.
-- Sections are those of CommonMark 0.31.2 or, if it is named, of GFM.

-- 1. The theorem, and the conditions under which a text is read
pub mod Headline
pub mod Options
pub mod Answers
pub mod Entities
pub mod Questions
-- 2. Lines, columns and escapes (CommonMark 2)
-- Examples: a tab at the beginning of a line is four columns; `\*` is a literal `*`.
pub mod Characters
pub mod Lines
pub mod Columns
pub mod Letters
pub mod Unescaped
-- 3. Lines inside containers
-- Example: inside the block quote `> a` the line is `a`.
pub mod Rows
pub mod Places
-- 4. Leaf blocks (CommonMark 4)
-- Examples: `# a` is a heading, `***` a thematic break, `[a]: /b` a link reference definition.
pub mod Leaves
pub mod HtmlBlocks
pub mod CodeBlockKind
pub mod Labels
pub mod LinkDefinitions
-- 5. Container blocks and lists (CommonMark 5)
-- Examples: `> a` is a block quote, `- a` an item of a tight list.
pub mod Containers
pub mod Lists
-- 6. The blocks of a text, and its document (CommonMark 3)
-- Examples: the two lines `a` and `# b` are a paragraph and a heading.
pub mod Openings
pub mod Blocks
pub mod BlockDocument
pub mod Tokens
pub mod Derivation
pub mod References
-- 7. The tokens in the text of a leaf (CommonMark 6)
-- Examples: `<https://a.b>` is an autolink, `<a>` a tag, `&amp;` the text `&`.
pub mod LeafText
pub mod LineBreaks
pub mod CodeSpans
pub mod Tags
pub mod InlineHtml
pub mod Autolinks
pub mod Items
pub mod InlineTokens
-- 8. Emphasis (CommonMark 6.2)
-- Examples: `***a** b*` is `<em><strong>a</strong> b</em>`; `a_b_c` has no emphasis.
pub mod Flanking
pub mod Emphasis
pub mod Spans
pub mod Siblings
-- 9. Links and images (CommonMark 6.3 and 6.4)
-- Examples: `[a](/b)` is a link, `![a](/b)` an image.
pub mod LinkType
pub mod Destinations
pub mod LinkTails
pub mod LabelsOverLines
pub mod OpenBrackets
pub mod BracketStates
pub mod BracketDecisions
pub mod Parts
pub mod BracketReading
-- 10. Readings: the events of a text
-- Examples: the events of `***` are one rule, and those of `a` the start of a paragraph, a text and the end of the paragraph.
pub mod Event
pub mod Tag
pub mod TagEnd
pub mod Readers
pub mod InlineReading
pub mod LeafReading
pub mod BlockReading
pub mod SpanDocuments
-- 11. HTML
-- Examples: the text `a < b` is written as `a &lt; b`.
pub mod Escapes
pub mod Html
-- 12. Extensions: GFM's tables and task lists, and those of the original
-- Examples: `- [x] a` is a task list item, `$a$` a formula, `[[a]]` a wikilink.
pub mod Alignment
pub mod Tables
pub mod TableRows
pub mod TableTokens
pub mod TaskMarkers
pub mod TaskItems
pub mod BlockQuoteKind
pub mod Alerts
pub mod Footnotes
pub mod DefinitionLists
pub mod MetadataBlockKind
pub mod Metadata
pub mod Attributes
pub mod SetextAttributes
pub mod Formulas
pub mod Quotes
pub mod Dashes
