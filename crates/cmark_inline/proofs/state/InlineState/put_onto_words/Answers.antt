use Rattle.cmark_inline.proofs.state.InlineState.put_onto_words.Goals as goal

pub returns-clause-moves : goal.returns-clause-moves
returns-clause-moves c = c.onto_words.ensures.moves c.args.here.at c.put.new.self c.in_ok-next.ensures.moves
