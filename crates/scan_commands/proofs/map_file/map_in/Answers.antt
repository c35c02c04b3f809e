use Rattle.std.proofs.Common.{ap, sym, ◌∙◌}
use Rattle.std.proofs.lemmas.Result.{IfOk-weaker}
use Rattle.scan_commands.specs.MapFiles.{continues}
use Rattle.scan_commands.proofs.MapFileLemmas.{text-begun, text-continued, unread-size}
use Rattle.scan_commands.proofs.map_file.map_in.Goals as goal

pub returns-then-continues-clause-ok : goal.returns-then-continues-clause-ok
returns-then-continues-clause-ok c =
    text-continued c.args.kind c.args.text.now c.args.sectors c.in-Ok.read c.in-Ok.ensures.answer (ap (continues c.args.kind) (sym c.kind_of.ensures) ∙ sym c.continues.ensures ∙ c.if-continues.true)

pub returns-clause-ok : goal.returns-clause-ok
returns-clause-ok c =
    IfOk-weaker c.new_map.result _ _
    (λ made unread. text-begun c.args.kind c.args.text.now c.args.sectors c.in-Ok.read made c.in-Ok.ensures.answer (ap (continues c.args.kind) (sym c.kind_of.ensures) ∙ sym c.continues.ensures ∙ c.if-continues.false) unread) c.new_map.ensures.ok

pub returns-clause-sectors : goal.returns-clause-sectors
returns-clause-sectors c = IfOk-weaker c.new_map.result _ _ (λ made unread. unread-size c.args.sectors made unread) c.new_map.ensures.ok
