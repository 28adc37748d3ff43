-- How the cells of a table's column are aligned (GFM 4.10).
pub data Alignment : Type 0 where
  Unaligned : Alignment
  Left : Alignment
  Center : Alignment
  Right : Alignment
