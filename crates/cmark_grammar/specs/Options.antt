-- The options of a parser: the extensions that are read. Tables, task lists and strikethrough are GFM's (4.10, 5.3 and 6.5), links to email
-- addresses CommonMark's (6.5); the others are this profile's own.
use Rattle.std.specs.Prelude.{Bool, false}

pub record Options : Type 0 where
  pub tables : Bool
  pub footnotes : Bool
  pub strikethrough : Bool
  pub tasklists : Bool
  pub smart_punctuation : Bool
  pub heading_attributes : Bool
  pub yaml_style_metadata_blocks : Bool
  pub pluses_delimited_metadata_blocks : Bool
  pub old_footnotes : Bool
  pub math : Bool
  pub gfm : Bool
  pub definition_list : Bool
  pub superscript : Bool
  pub subscript : Bool
  pub wikilinks : Bool
  pub highlight : Bool
  pub email_autolinks : Bool

abbrev pub no_options : Options
no_options = record {
  tables = false;
  footnotes = false;
  strikethrough = false;
  tasklists = false;
  smart_punctuation = false;
  heading_attributes = false;
  yaml_style_metadata_blocks = false;
  pluses_delimited_metadata_blocks = false;
  old_footnotes = false;
  math = false;
  gfm = false;
  definition_list = false;
  superscript = false;
  subscript = false;
  wikilinks = false;
  highlight = false;
  email_autolinks = false;
}
