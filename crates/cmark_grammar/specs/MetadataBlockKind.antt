-- The kinds of metadata blocks: between lines of `---` or between lines of `+++` (this profile's own).
pub data MetadataBlockKind : Type 0 where
  YamlStyle : MetadataBlockKind
  PlusesStyle : MetadataBlockKind
