use Rattle.std.proofs.Common.{◌<◌, inr, arith}
use Rattle.std.proofs.lemmas.Result.{on_err_weaker, on_ok_weaker}
use Rattle.image_commands.proofs.cleared_tree.clear_first.Goals as goal

pub returns-clause-ok : goal.returns-clause-ok
returns-clause-ok g c =
    let some : 0 < c.args.sectors = omega arith in
    on_ok_weaker c.clear_superblock.result (λ cleared. inr (some, cleared)) c.clear_superblock.ensures.ok

pub returns-clause-err : goal.returns-clause-err
returns-clause-err g c =
    let some : 0 < c.args.sectors = omega arith in
    on_err_weaker c.clear_superblock.result (λ ends. record { some = some; uncleared = ends }) c.clear_superblock.ensures.err

pub returns-clause-handed : goal.returns-clause-handed
returns-clause-handed g c =
    let some : 0 < c.args.sectors = omega arith in
    inr (some, c.clear_superblock.ensures.handed)
