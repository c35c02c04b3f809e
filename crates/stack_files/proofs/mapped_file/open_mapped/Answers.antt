use Rattle.std.proofs.Common.{inl, inr, refl}
use Rattle.image_files.specs.Opener.{calls}
use Rattle.stack_files.specs.declared.opening_fault.OpeningFault.TheVariants.{Open}
use Rattle.stack_files.specs.Openings.{part_ending}
use Rattle.stack_files.proofs.MappedLemmas.{beside-map, within-lacking}
use Rattle.stack_files.proofs.OpeningLemmas.{err-from}
use Rattle.stack_files.proofs.mapped_file.open_mapped.Goals as goal

pub returns-in_err-text-clause-err : goal.returns-in_err-text-clause-err
returns-in_err-text-clause-err g c = err-from c.from_residual.result _ (Open c.in_err-text.field-0.0) c.from_residual.ensures.1 (inl c.in_err-text.ensures.err)

pub returns-in_err-whole-clause-err : goal.returns-in_err-whole-clause-err
returns-in_err-whole-clause-err g c =
    err-from c.from_residual-in_err-whole.result _ (part_ending c.in_err-whole.field-0.0) c.from_residual-in_err-whole.ensures.1
    (beside-map (calls g.I.Images.relations g.I.Dev.BlockDev.state c.args.images.now c.open_whole.new.images) c.args.files.now c.args.path.now c.args.map_file.now c.args.part c.in_err-whole.field-0.0
    (record { read = c.read_map.new.images; text = c.in_ok-text.text; told = c.in_ok-text.ensures.ok; refused = c.in_err-whole.ensures.err }))

pub returns-in_err-lost-clause-err : goal.returns-in_err-lost-clause-err
returns-in_err-lost-clause-err g c =
    err-from c.from_residual-in_err-lost.result _ (Open c.in_err-lost.field-0.0) c.from_residual-in_err-lost.ensures.1
    (inr (inr (record {
      read = c.read_map.new.images;
      text = c.in_ok-text.text;
      told = c.in_ok-text.ensures.ok;
      whole = c.in_ok-whole.whole;
      opened = c.in_ok-whole.ensures.ok;
      none = rw (c.as_slice.ensures.value, c.sectors-sectors.ensures.size) at c.in_err-lost.ensures.err;
    })))

pub narrow_to-device-requires : goal.narrow_to-device-requires
narrow_to-device-requires g c = within-lacking _ _ c.args.part c.without-rest.ensures.holds c.in_ok-whole.ensures.ok.inside

pub returns-clause-ok : goal.returns-clause-ok
returns-clause-ok g c = record {
  read = c.read_map.new.images;
  between = c.open_whole.new.images;
  after = c.without-rest.new.self;
  text = c.in_ok-text.text;
  told = c.in_ok-text.ensures.ok;
  whole = c.in_ok-whole.whole;
  opened = c.in_ok-whole.ensures.ok;
  lost = c.in_ok-lost.lost.items;
  lost_by = rw (c.as_slice.ensures.value, c.sectors-sectors.ensures.size) at c.in_ok-lost.ensures.ok;
  rest = c.without-rest.result;
  lacks = c.without-rest.ensures.lacking;
  holds = c.without-rest.ensures.holds;
  narrows = c.narrow_to-device.ensures;
  id = refl;
  map_id = refl;
}
