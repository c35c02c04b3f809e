use Rattle.std.proofs.Common.{◌/◌, ◌+◌, ◌≤◌, length, refl, ap, sym, ◌∙◌}
use Rattle.std.specs.List.{concat}
use Rattle.std.proofs.lemmas.Result.{on_ok_weaker}
use Rattle.device_adapters.proofs.PartLemmas.{run_of-run_of}
use Rattle.device_adapters.proofs.WindowCallLemmas.{read-windowed}
use Rattle.device_adapters.proofs.window.WindowBlockDev.read.Goals as goal

pub returns-clause-bytes : goal.returns-clause-bytes
returns-clause-bytes g c =
    let part = c.args.self.now.part in
    on_ok_weaker c.read.result
    (λ read steady. read steady ∙ ap concat (sym (run_of-run_of (g.D.BlockDev.state c.args.self.now.inner).image part.first part.count c.args.first (length c.args.out.now / 512) c.requires.inside)))
    c.read.ensures.bytes

pub returns-clause-call : goal.returns-clause-call
returns-clause-call g c =
    let few : c.args.first + length c.read.new.out / 512 ≤ c.args.self.now.part.count = rw c.read.auto.out c.requires.inside in
    (read-windowed (g.D.BlockDev.state c.args.self.now.inner) (g.D.BlockDev.state c.read.new.self) c.args.self.now.part c.args.first c.read.new.out _ few c.read.ensures.call.0, (c.read.ensures.call, refl))
