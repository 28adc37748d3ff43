use Rattle.std.proofs.Common.{[], ◌∷◌, ◌++◌, sym, ap, ◌∙◌, is_ok, is_some}
use Rattle.std.specs.BTreeMap.{get_by}
use Rattle.std.specs.Cmp.Lexicographic.{slice_cmp}
use Rattle.std.specs.Cow.{cow_str_bytes}
use Rattle.std.specs.Ordering.{nat_cmp}
use Rattle.cmark_html.specs.Writer.{shown_names}
use Rattle.cmark_html.proofs.FootnoteSteps.{absent, below_after, named_kept, named_more, names_after, numbered_after, Inserted}
use Rattle.cmark_html.proofs.names.FootnoteNames.add.Goals as goal

pub returns-then-contains_key : goal.returns-then-contains_key
returns-then-contains_key c =
    let map = c.args.self.now.numbers in
    named_kept cow_str_bytes map _ c.args.self.now.numbered
    (ap (λ name. is_some (get_by (λ key. slice_cmp nat_cmp name (cow_str_bytes key)) map)) (sym c.as_str.ensures) ∙ sym c.contains_key.ensures ∙ c.if-contains_key.true)

pub invariant_of-self : goal.invariant_of-self
invariant_of-self c =
    let map = c.args.self.now.numbers in
    let e = c.insert.ensures in
    let inserted : Inserted cow_str_bytes c.insert.result map c.insert.new.self c.in_ok-key.key c.len-place.result = record {
      numbered = c.args.self.now.numbered;
      below = c.args.self.now.below;
      none = absent cow_str_bytes c.args.self.now.numbers c.in_ok-key.key c.as_str.result.now c.contains_key.result c.contains_key.ensures c.if-contains_key.false (c.as_str.ensures ∙ sym c.in_ok-key.ensures.value);
      place = c.len-place.ensures.len;
      old = e.old;
      updates = e.updates;
      entries = e.entries;
      len = e.len;
      err = e.err;
    } in
    record {
      numbered = numbered_after cow_str_bytes map c.insert.new.self c.in_ok-key.key c.len-place.result c.insert.result inserted;
      below = below_after cow_str_bytes map c.insert.new.self c.in_ok-key.key c.len-place.result c.insert.result inserted;
    }

pub returns : goal.returns
returns c =
    let map = c.args.self.now.numbers in
    let e = c.insert.ensures in
    let inserted : Inserted cow_str_bytes c.insert.result map c.insert.new.self c.in_ok-key.key c.len-place.result = record {
      numbered = c.args.self.now.numbered;
      below = c.args.self.now.below;
      none = absent cow_str_bytes c.args.self.now.numbers c.in_ok-key.key c.as_str.result.now c.contains_key.result c.contains_key.ensures c.if-contains_key.false (c.as_str.ensures ∙ sym c.in_ok-key.ensures.value);
      place = c.len-place.ensures.len;
      old = e.old;
      updates = e.updates;
      entries = e.entries;
      len = e.len;
      err = e.err;
    } in
    names_after cow_str_bytes map c.insert.new.self c.in_ok-key.key c.len-place.result c.insert.result (ap is_ok c.in_ok-insert.was) inserted
    ∙ ap (λ name. shown_names c.args.self.now ++ name ∷ []) c.in_ok-key.ensures.value
    ∙ named_more cow_str_bytes map _ c.args.self.now.numbered
    (ap (λ name. is_some (get_by (λ k. slice_cmp nat_cmp name (cow_str_bytes k)) map)) (sym c.as_str.ensures) ∙ sym c.contains_key.ensures ∙ c.if-contains_key.false)
