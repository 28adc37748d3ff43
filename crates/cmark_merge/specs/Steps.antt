-- The items that the steps of one call read from the iterator: one item, one text, the texts of a run.
use Rattle.std.specs.Prelude.{◌≡◌, ◌⊎◌, ◌≢◌, ℕ, true, false, List, [], ◌∷◌, ◌++◌, map, option_to_list, IfNone, IfSome, Option, Some, None, Err}
use Rattle.std.specs.declared.alloc.AllocError.{AllocError}
use Rattle.std.specs.declared.ops.Range.{Range}
use Rattle.std.specs.Iterator.{Yields}
use Rattle.cmark_merge.specs.Merge.{TextAt, joined, text_of_ranged}
use Rattle.cmark_values.specs.declared.text.CowStr.{CowStr}
use Rattle.cmark_values.specs.Shown.{IsBoxed}
use Rattle.cmark_merge.specs.Merging.{is_text}
use Rattle.cmark_merge.specs.Reading.{Ahead, Reads}
use Rattle.cmark_merge.specs.Streams.{RangedItem, shown_ranged, text_at, text_item}

-- an item that is not a text
abbrev pub IsNoText : RangedItem → Type 0
IsNoText x = is_text text_of_ranged shown_ranged x ≡ false

-- for joined texts one owned text is given; if that would be empty, the item after them is given
abbrev pub GivesJoined : TextAt → Option RangedItem → Option RangedItem → Option RangedItem → Type 0
GivesJoined all following given held =
    ((t : CowStr × Range ℕ) × (given ≡ Some (text_item t)) × IsBoxed t.0 × (text_at t ≡ all) × (all.text ≢ []) × (held ≡ following))
    ⊎ ((all.text ≡ []) × (given ≡ following) × (held ≡ None))

module _ {S : Type 0} (steps : S → Option RangedItem → S → Type 0) where
  -- the next item of the iterator
  abbrev pub ReadsOne : Ahead S RangedItem → Option RangedItem → Ahead S RangedItem → Type 0
  ReadsOne old (Some x) new = (old.is_over ≡ false) × steps old.iter (Some x) new.iter × (new.is_over ≡ false)
  ReadsOne old None new = Reads steps old [] new × (new.is_over ≡ true)

  -- the held item, or else the next item of the iterator
  pub record Takes (old : Ahead S RangedItem) (given : Option RangedItem) (new : Ahead S RangedItem) : Type 0 where
    pub read : List RangedItem
    pub reads : Reads steps old read new
    pub items : option_to_list old.held ++ read ≡ option_to_list given
    pub nothing_held : new.held ≡ None
    pub ends : IfNone given (new.is_over ≡ true)

  -- the next item of the iterator if it is a text; any other item is held
  abbrev pub ReadsText : Ahead S RangedItem → Option (CowStr × Range ℕ) → Ahead S RangedItem → Type 0
  ReadsText old (Some t) new = ReadsOne old (Some (text_item t)) new × (new.held ≡ None)
  ReadsText old None new = Reads steps old (option_to_list new.held) new × IfSome new.held IsNoText × IfNone new.held (new.is_over ≡ true)

  -- texts alone
  pub record ReadsTexts (old new : Ahead S RangedItem) : Type 0 where
    pub texts : List (CowStr × Range ℕ)
    pub yields : Yields steps old.iter (map text_item texts) new.iter

  -- texts, and the item after them, which is not a text, or None
  pub record ReadsRun (old : Ahead S RangedItem) (following : Option RangedItem) (new : Ahead S RangedItem) : Type 0 where
    pub texts : List (CowStr × Range ℕ)
    pub reads : Reads steps old (map text_item texts ++ option_to_list following) new
    pub no_text : IfSome following IsNoText
    pub ends : IfNone following (new.is_over ≡ true)

  -- two texts and the texts that were read after them, as one
  pub record Joins (old : Ahead S RangedItem) (first second : CowStr × Range ℕ) (all : TextAt) (new : Ahead S RangedItem) : Type 0 where
    pub run : ReadsRun old new.held new
    pub are : all ≡ joined (text_at first) (text_at second ∷ map text_at run.texts)

  pub record MergesRun (old : Ahead S RangedItem) (first second : CowStr × Range ℕ) (given : Option RangedItem) (new : Ahead S RangedItem) : Type 0 where
    pub following : Option RangedItem
    pub run : ReadsRun old following new
    pub gives : GivesJoined (joined (text_at first) (text_at second ∷ map text_at run.texts)) following given new.held

  pub record RefusesRun (old : Ahead S RangedItem) (given : Option RangedItem) (new : Ahead S RangedItem) : Type 0 where
    pub error : AllocError
    pub is : given ≡ Some (Err error)
    pub run : ReadsTexts old new
    pub is_over : new.is_over ≡ true
    pub nothing_held : new.held ≡ None

  abbrev pub Merges : Ahead S RangedItem → CowStr × Range ℕ → CowStr × Range ℕ → Option RangedItem → Ahead S RangedItem → Type 0
  Merges old first second given new = MergesRun old first second given new ⊎ RefusesRun old given new
