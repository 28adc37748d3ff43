-- Nodes drawn in order.
use Rattle.std.proofs.Common.{◌≡◌, List, [], ◌∷◌, ◌++◌, refl, sym, ap}
use Rattle.cmark_grammar.specs.BlockDocument.{BlockDocument, Nil, Node, node, join}
use Rattle.cmark_grammar.specs.Tokens.{Piece, text_kind_of}
use Rattle.cmark_block_model.specs.Drawing.{Drawing, drawn}
use Rattle.cmark_block_model.specs.CodeLines.{texts_of}

pub join-Nil : (a : BlockDocument) → join a Nil ≡ a
join-Nil Nil = refl
join-Nil (Node n inside after) = ap (Node n inside) (join-Nil after)

pub join-assoc : (a b c : BlockDocument) → join (join a b) c ≡ join a (join b c)
join-assoc Nil b c = refl
join-assoc (Node n inside after) b c = ap (Node n inside) (join-assoc after b c)

pub drawn-Nil : (d : Drawing) → drawn Nil d ≡ d
drawn-Nil d = ap (λ here. record d { here = here }) (join-Nil d.here)

-- one document after another
pub drawn-join : (a b : BlockDocument) (d : Drawing) → drawn (join a b) d ≡ drawn b (drawn a d)
drawn-join a b d = ap (λ here. record d { here = here }) (sym (join-assoc d.here a b))

pub texts-append : (ps qs : List Piece) → texts_of (ps ++ qs) ≡ join (texts_of ps) (texts_of qs)
texts-append [] qs = refl
texts-append (p ∷ ps) qs = ap (Node (node (text_kind_of p) p.start p.end) Nil) (texts-append ps qs)
