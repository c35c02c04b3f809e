use Rattle.std.proofs.Common.{◌↔◌, ap, subst, ◌∙◌}
use Rattle.std.specs.Prelude.{IsOk}
use Rattle.std.proofs.lemmas.Result.{IfOk-weaker}
use Rattle.block_device.specs.Device.{Device}
use Rattle.device_adapters.specs.Lacking.{lacking, parts_in}
use Rattle.device_adapters.specs.Parts.{LiesInside}
use Rattle.device_adapters.proofs.lacking.part_window.Goals as goal

pub returns-clause-ok : goal.returns-clause-ok
returns-clause-ok g c = IfOk-weaker c.new.result _ _ (λ w h. (ap (λ d. d.inner) h.0 ∙ c.lacking_nothing.ensures.inner, h.1)) c.new.ensures.ok

pub returns-clause-state : goal.returns-clause-state
returns-clause-state g c =
    IfOk-weaker c.new.result _ _
    (λ w h. ap (λ d. lacking (g.D.BlockDev.state d.inner) (parts_in d.lost) d.sectors_of_failed_reads d.failed_reads) h.0 ∙ c.lacking_nothing.ensures.state)
    c.new.ensures.ok

pub returns-clause-inside : goal.returns-clause-inside
returns-clause-inside g c = subst (λ (d : Device). IsOk c.new.result ↔ LiesInside d c.args.part) c.lacking_nothing.ensures.state c.new.ensures.inside
