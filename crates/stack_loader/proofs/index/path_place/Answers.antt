use Rattle.std.proofs.Common.{None, Some, ◌∙◌}
use Rattle.std.proofs.lemmas.Slice.Eq.{strip_prefix_is}
use Rattle.std.proofs.lemmas.Bool.Decides.{Decides-eqb}
use Rattle.dm_table.specs.Names.{mapper}
use Rattle.stack_loader.proofs.PlaceLemmas.{no_path, path_place}
use Rattle.stack_loader.proofs.index.path_place.Goals as goal

pub returns-in_err-name : goal.returns-in_err-name
returns-in_err-name c = λ devices places. c.from_residual.ensures ∙ no_path devices c.args.path.now (strip_prefix_is Decides-eqb c.args.path.now mapper None c.in_err-name.ensures.cases)

pub returns : goal.returns
returns c = λ devices places.
    c.place_in.ensures ∙ places c.in_ok-name.name.now
    ∙ path_place devices c.args.path.now c.in_ok-name.name.now (strip_prefix_is Decides-eqb c.args.path.now mapper (Some c.in_ok-name.name) c.in_ok-name.ensures.cases)
