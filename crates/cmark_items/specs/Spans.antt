-- The bytes of items.
use Rattle.std.specs.Prelude.{Bool, false}
use Rattle.cmark_tree.specs.Truncating.{Spans}
use Rattle.cmark_items.specs.declared.item.Item.{Item}
use Rattle.cmark_items.specs.declared.item.ItemBody.{ItemBody}
use Rattle.cmark_items.specs.declared.item.ItemBody.TheVariants.{Text}

-- a backslash before its first byte escapes it
abbrev pub is_escaped : ItemBody → Bool
is_escaped (Text backslash_escaped) = backslash_escaped
is_escaped _ = false

abbrev pub spans : Spans Item
spans = record {
  start = λ item. item.start;
  end = λ item. item.end;
  escaped = λ item. is_escaped item.body;
  ranged = λ item start end. record item { start = start; end = end };
}
