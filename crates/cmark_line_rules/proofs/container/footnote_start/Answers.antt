use Rattle.cmark_line_rules.proofs.container.footnote_start.Goals as goal

pub returns-clause-inside : goal.returns-clause-inside
returns-clause-inside c options = c.in_ok-label_size.ensures.inside c.reads_old_footnotes-old.result
