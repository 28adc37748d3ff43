use Rattle.cmark_stream.proofs.rest.settled_part.Goals as goal

pub returns-then-ends_at_beginning : goal.returns-then-ends_at_beginning
returns-then-ends_at_beginning g c = record { written = c.in_ok-html.ensures.written; after_is = c.in_ok-html.ensures.after_is c.if-ends_at_beginning.true }
