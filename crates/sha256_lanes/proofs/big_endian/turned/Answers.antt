use Rattle.sha256_lanes.proofs.WordLemmas.{turned}
use Rattle.sha256_lanes.proofs.big_endian.turned.Goals as goal

pub returns-clause-low : goal.returns-clause-low
returns-clause-low c = λ k j hk hj. (turned c.args.a c.args.b c.args.c c.args.d c.requires.first.0 c.requires.first.1 c.requires.last.0 c.requires.last.1 k hk j hj).0

pub returns-clause-high : goal.returns-clause-high
returns-clause-high c = λ k j hk hj. (turned c.args.a c.args.b c.args.c c.args.d c.requires.first.0 c.requires.first.1 c.requires.last.0 c.requires.last.1 k hk j hj).1
