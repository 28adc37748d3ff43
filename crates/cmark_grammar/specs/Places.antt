-- The place of a line among the blocks of its container, as far as the block that it begins depends on it (for GFM 5.3 and for rules of
-- this profile's own).
use Rattle.std.specs.Prelude.{Bool, true, false}

-- the places:
--
-- - AfterLazy: directly after an alert's tag, or after a leaf, where a lazy line may begin a paragraph;
-- - AfterTask: on the line of an item's task marker, directly after it;
-- - AfterTitle: after a paragraph, which may be a title, or after a definition; blank lines may come between;
-- - Apart: any other place
pub data Place : Type 0 where
  Apart : Place
  AfterLazy : Place
  AfterTask : Place
  AfterTitle : Place

-- a lazy line may begin a paragraph there
abbrev pub allows_lazy : Place → Bool
allows_lazy AfterLazy = true
allows_lazy _ = false

abbrev pub is_after_title : Place → Bool
is_after_title AfterTitle = true
is_after_title _ = false

abbrev pub is_after_task : Place → Bool
is_after_task AfterTask = true
is_after_task _ = false

-- the place after a blank line
abbrev pub over_blank : Place → Place
over_blank AfterTitle = AfterTitle
over_blank _ = Apart
