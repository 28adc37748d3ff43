-- The kinds of alerts: block quotes whose first line is a tag such as `[!NOTE]` (this profile's own).
pub data BlockQuoteKind : Type 0 where
  Note : BlockQuoteKind
  Tip : BlockQuoteKind
  Important : BlockQuoteKind
  Warning : BlockQuoteKind
  Caution : BlockQuoteKind
