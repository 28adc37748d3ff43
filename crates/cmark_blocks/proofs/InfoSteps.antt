-- The info string of a fence, as a slice of the text and in its node.
use Rattle.std.proofs.Common.{◌≡◌, ℕ, zero, suc, ◌+◌, ◌-◌, ◌≤◌, List, [], ◌∷◌, ◌++◌, drop, take, drop-drop, slice_range, length, Some, option_map, refl, sym, ap, ◌∙◌, arith}
use Rattle.std.proofs.lemmas.List.{drop-take}
use Rattle.cmark_values.specs.declared.text.CowStr.{CowStr}
use Rattle.cmark_values.specs.Shown.{text_bytes}
use Rattle.cmark_tree.specs.Forest as forest
use Rattle.cmark_tree.specs.Forest.{Forest}
use Rattle.cmark_tree.specs.Building.{Opened, Is}
use Rattle.cmark_items.specs.declared.allocations.Allocations.{Allocations}
use Rattle.cmark_items.specs.declared.allocations.CowIndex.{CowIndex}
use Rattle.cmark_items.specs.declared.item.Item.{Item}
use Rattle.cmark_items.specs.declared.item.ItemBody.TheVariants as body
use Rattle.cmark_items.specs.ItemNodes.{ranged, text_at}
use Rattle.cmark_items.specs.Tables.{with_text}
use Rattle.cmark_grammar.specs.BlockDocument.{FencedCode}
use Rattle.cmark_block_model.specs.Drawing.{Drawing, opened}
use Rattle.cmark_builder.specs.declared.builder.Builder.{Builder}
use Rattle.cmark_builder.specs.Drawn.{Draws}
use Rattle.cmark_builder.specs.Ended.{item_at}
use Rattle.cmark_builder.proofs.DrawnSteps.{draws-open, draws-text}
use Rattle.cmark_grammar.specs.Columns.{indent, without_indent}
use Rattle.cmark_grammar.specs.Rows.{words_of, start_of}
use Rattle.cmark_grammar.specs.Tokens.{slice}
use Rattle.cmark_scan_lines.specs.declared.leaf.CodeFence.{CodeFence}
use Rattle.cmark_line_rules.specs.Opened.{InfoStands}
use Rattle.cmark_line_rules.specs.Rests.{row_of}
use Rattle.cmark_line_rules.specs.declared.line_rest.LineRest.{LineRest}
use Rattle.cmark_leaf_nodes.proofs.ColumnCuts.{bytes-slice, drop-in_text, words-runs}
use Rattle.cmark_leaf_nodes.proofs.WordSteps.{last-text}
use Rattle.cmark_leaf_nodes.specs.TextColumns.{IsRead}

take-fewer : (n m : ℕ) (xs : List ℕ) → n ≤ m → take n (take m xs) ≡ take n xs
take-fewer zero m xs le = refl
take-fewer (suc n) zero xs le = absurd (omega (arith, le))
take-fewer (suc n) (suc m) [] le = refl
take-fewer (suc n) (suc m) (x ∷ xs) le = ap (λ l. x ∷ l) (take-fewer n m xs (omega (arith, le)))

-- a slice of a slice
slice-slice : (text : List ℕ) (start content_end a b : ℕ) → a ≤ b → start + b ≤ content_end → slice_range (slice text start content_end) a b ≡ slice_range text (start + a) (start + b)
slice-slice text start content_end a b le within =
    ap (λ n. take (b - a) (drop a (take n (drop start text)))) (let s : content_end - start ≡ a + ((b - a) + (content_end - (start + b))) = omega (arith, le, within) in s)
    ∙ ap (take (b - a)) (drop-take a ((b - a) + (content_end - (start + b))) (drop start text))
    ∙ take-fewer (b - a) ((b - a) + (content_end - (start + b))) (drop a (drop start text)) (omega arith)
    ∙ ap (take (b - a)) (drop-drop a start text)
    ∙ ap (λ n. take n (drop (start + a) text)) (let s : b - a ≡ (start + b) - (start + a) = omega arith in s)

-- the info string is at its places in the text, counted from the beginning of the words
pub info-slice : (text : List ℕ) (rest : LineRest) (fence : CodeFence) (words : ℕ) → IsRead text rest → InfoStands text (row_of rest) fence → words ≡ start_of (row_of rest) →
    slice_range text (words + fence.info_start) (words + fence.info_end) ≡ slice_range (words_of (row_of rest)) fence.info_start fence.info_end
info-slice text rest fence words read stands begin =
    let r = row_of rest in
    ap (λ n. slice_range text (n + fence.info_start) (n + fence.info_end)) begin
    ∙ sym (slice-slice text (start_of r) r.content_end fence.info_start fence.info_end stands.0 stands.1)
    ∙ ap (λ bs. slice_range bs fence.info_start fence.info_end) (sym (bytes-slice text (start_of r) (without_indent r.columns) r.content_end (words-runs rest) (drop-in_text text (indent r.columns) r.columns read.in_text)))

-- a text was kept, and a node of fenced code with it as its info string was opened
pub draws-fenced : (text : List ℕ) (old new : Builder) (kept : Allocations) (info : CowStr) (index : CowIndex) (start : ℕ) (bytes : List ℕ) (d : Drawing) →
    index.0 ≡ length old.allocations.texts → kept ≡ with_text info old.allocations → text_bytes info ≡ bytes →
    ((here : Forest Item) (up : List (Opened Item)) → Is old.tree here up → Is new.tree forest.Nil (record { left = here; item = item_at start start (body.FencedCodeBlock index) } ∷ up)) →
    new.allocations ≡ kept → Draws text old d → Draws text new (opened start (FencedCode bytes) d)
draws-fenced text old new kept info index start bytes d at is read step same draws =
    let mid : Builder = record old { allocations = kept } in
    let texts : kept.texts ≡ old.allocations.texts ++ info ∷ [] = ap (λ t. t.texts) is in
    draws-open text mid new start (body.FencedCodeBlock index) (FencedCode bytes) d step same
    (ap (λ o. option_map (ranged start start) (option_map FencedCode o)) (
    ap (λ t. text_at t index.0) texts ∙ ap (text_at (old.allocations.texts ++ info ∷ [])) at ∙ last-text old.allocations.texts info ∙ ap Some read))
    (draws-text text old mid info d refl texts draws)
