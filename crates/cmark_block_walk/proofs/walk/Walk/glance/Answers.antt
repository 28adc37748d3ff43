use Rattle.cmark_block_walk.specs.Walking.{texts_of, tight_below}
use Rattle.cmark_block_walk.proofs.LongItems.{other-inside}
use Rattle.cmark_block_walk.proofs.walk.Walk.glance.Goals as goal

pub returns-in_default-clause-value : goal.returns-in_default-clause-value
returns-in_default-clause-value c = λ z above node b d. other-inside c.args.self.now.text.now (texts_of c.args.self.now) c.args.item (tight_below above) node d (record {
  text = c.in_default.not-Text;
  html = c.in_default.not-Html;
  rule = c.in_default.not-Rule;
  paragraph = c.in_default.not-Paragraph;
  paragraph_of = c.in_default.not-ParagraphOf;
  heading = c.in_default.not-Heading;
  indent_code_block = c.in_default.not-IndentCodeBlock;
  html_block = c.in_default.not-HtmlBlock;
  table_head = c.in_default.not-TableHead;
  table_row = c.in_default.not-TableRow;
  table_cell = c.in_default.not-TableCell;
  metadata_block = c.in_default.not-MetadataBlock;
  block_quote = c.in_default.not-BlockQuote;
  list = c.in_default.not-List;
  list_item = c.in_default.not-ListItem;
  definition_list = c.in_default.not-DefinitionList;
  definition_list_title = c.in_default.not-DefinitionListTitle;
  definition_list_title_of = c.in_default.not-DefinitionListTitleOf;
  definition_list_definition = c.in_default.not-DefinitionListDefinition;
  attributed_heading = c.in_default.not-AttributedHeading;
  fenced_code_block = c.in_default.not-FencedCodeBlock;
  table = c.in_default.not-Table;
  footnote_definition = c.in_default.not-FootnoteDefinition;
  synthesize_text = c.in_default.not-SynthesizeText;
  synthesize_char = c.in_default.not-SynthesizeChar;
  task_list_marker = c.in_default.not-TaskListMarker;
})
