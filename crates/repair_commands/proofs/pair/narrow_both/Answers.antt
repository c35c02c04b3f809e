use Rattle.std.proofs.Common.{ap, refl, ◌∙◌}
use Rattle.device_adapters.specs.Parts.{part_before}
use Rattle.repair_commands.proofs.PairLemmas.{narrows-as}
use Rattle.repair_commands.proofs.pair.narrow_both.Goals as goal

pub returns : goal.returns
returns g c =
    let data_is = c.before-data_part.ensures.value ∙ ap (part_before (g.I.Dev.BlockDev.state c.args.files.«data».device)) c.data_end-end.ensures in
    record {
      between = c.narrow-data_narrowed.new.self;
      data_narrowed = narrows-as _ _ _ _ _ data_is c.narrow-data_narrowed.ensures.narrowed c.narrow-data_narrowed.ensures.part;
      hash_narrowed = narrows-as _ _ _ _ _ c.behind-hash_part.ensures.value c.narrow-hash_narrowed.ensures.narrowed c.narrow-hash_narrowed.ensures.part;
      ids = (refl, refl);
    }
