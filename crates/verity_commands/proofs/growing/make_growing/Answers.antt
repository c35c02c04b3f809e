use Rattle.std.proofs.Common.{inr}
use Rattle.std.proofs.lemmas.Result.{IfOk-weaker}
use Rattle.image_commands.specs.declared.fault.ImageFault.TheVariants.{Format}
use Rattle.verity_format.specs.declared.formatting.FormatFault.TheVariants.{HashTooSmall}
use Rattle.verity_commands.proofs.EndingLemmas.{at-fault}
use Rattle.verity_commands.proofs.growing.make_growing.Goals as goal

pub returns-clause-ok : goal.returns-clause-ok
returns-clause-ok g c =
    let needed = c.in-Some.sectors in
    let vain = at-fault c.make_once-tried.result _ (Format (HashTooSmall needed)) c.in-Some.ensures c.make_once-tried.ensures.err in
    IfOk-weaker c.make_once.result _ _
    (λ image done. inr (record {
      tried = c.make_once-tried.new.images;
      drawn = c.make_once-tried.new.generators;
      room = c.make_room-2.new.images;
      needed = needed;
      vain = record { between = c.make_room.new.images; made = c.in_ok-make_room.ensures.ok; too_small = vain };
      grown = c.in_ok-make_room-2.ensures.ok;
      formats = done;
    }))
    c.make_once.ensures.ok
