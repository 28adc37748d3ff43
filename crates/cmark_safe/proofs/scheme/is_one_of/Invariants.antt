use Rattle.std.proofs.Common.{◌≡◌, drop, map}
use Rattle.cmark_safe.specs.Schemes.{is_one_of}
use Rattle.cmark_safe.proofs.scheme.is_one_of.Given as goal

abbrev pub invariant-loop-other : goal.invariant-loop-other
invariant-loop-other l = is_one_of (map (λ other. other.now) (drop l.other-index l.names)) l.name ≡ is_one_of (map (λ other. other.now) l.names) l.name
