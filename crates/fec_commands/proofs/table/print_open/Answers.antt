use Rattle.std.proofs.Common.{◌≡◌, ℕ, ap, inl, inr, refl, subst}
use Rattle.block_device.specs.Device.{Device}
use Rattle.device_adapters.specs.Parts.{part_behind}
use Rattle.device_adapters.specs.Windows.{windowed}
use Rattle.image_commands.specs.Places.{behind}
use Rattle.fec_commands.specs.Tables.{IsLineUnlaid, LaysLine}
use Rattle.fec_commands.proofs.EndingLemmas.{err-from, quiet}
use Rattle.fec_commands.proofs.LayingLemmas.{windowed-same}
use Rattle.fec_commands.proofs.table.print_open.Goals as goal

pub returns-in_err-laid-clause-err : goal.returns-in_err-laid-clause-err
returns-in_err-laid-clause-err g c =
    let hash_dev = g.H.BlockDev.state c.args.hash_dev in
    let source = c.args.sought.now.source in
    let roots = c.args.words.now.fec.roots in
    let first = c.sector_at-first.result in
    let new = c.lay_line.new.hash_dev in
    let after = windowed (g.H.BlockDev.state new.inner) new.part in
    let fault = c.in_err-laid.field-0.0 in
    let b = windowed-same _ hash_dev _ (part_behind hash_dev first) (ap g.H.BlockDev.state c.behind-window.ensures.inner) c.behind-window.ensures.part in
    let none : IsLineUnlaid (behind hash_dev first) first source roots after fault = subst (λ (v : Device). IsLineUnlaid v first source roots after fault) b c.in_err-laid.ensures.err in
    err-from c.from_residual.result _ fault c.from_residual.ensures.1
    (inl (after, (new.inner, (new.part, refl)), subst (λ (n : ℕ). IsLineUnlaid (behind hash_dev n) n source roots after fault) c.sector_at-first.ensures none))
