use Rattle.std.proofs.Common.{◌≡◌, false, true, ap, ◌∙◌}
use Rattle.std.specs.Prelude.{is_some}
use Rattle.stack_config.proofs.keys.DeviceKeys.at.Goals as goal

pub unreachable-requires : goal.unreachable-requires
unreachable-requires c = let clash : false ≡ true = ap is_some c.in-None.ensures ∙ c.requires in cc
