use Rattle.std.proofs.Common.{◌^◌, ◌≤◌, arith, pow_mono}
use Rattle.find_commands.proofs.fields.power.Goals as goal

pub pow-requires : goal.pow-requires
pow-requires c = let most : 2 ^ c.args.exponent ≤ 2 ^ 16 = pow_mono c.requires in omega (arith, most)
