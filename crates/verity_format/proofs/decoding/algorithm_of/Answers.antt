use Rattle.std.proofs.Common.{◌∙◌, ap}
use Rattle.std.specs.Prelude.{is_some}
use Rattle.std.specs.Str.{bytes_eq}
use Rattle.tree_shape.specs.declared.algorithm.Algorithm.TheVariants.{Sha256}
use Rattle.tree_shape.specs.Algorithms.{algorithm_name}
use Rattle.tree_shape.proofs.lemmas.AlgorithmLemmas.{is_named}
use Rattle.verity_format.proofs.decoding.algorithm_of.Goals as goal

pub returns : goal.returns
returns c =
    ap is_some c.named.ensures ∙ is_named c.before_zero.result.now ∙ ap (λ name. bytes_eq name (algorithm_name Sha256)) c.before_zero.ensures
