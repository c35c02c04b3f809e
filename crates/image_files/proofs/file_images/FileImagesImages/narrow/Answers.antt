use Rattle.std.proofs.Common.{ap, refl, ◌∙◌}
use Rattle.block_device.specs.contracts.any.AnyDevBlockDev.TheImpl.{ghosts}
use Rattle.block_device.specs.declared.any.AnyDev.{AnyDev}
use Rattle.block_device.specs.Device.{Device}
use Rattle.device_adapters.specs.declared.lacking.Lacking.{Lacking}
use Rattle.device_adapters.specs.Lacking.{lacking, parts_in}
use Rattle.image_files.proofs.FileLemmas.{made}
use Rattle.image_files.proofs.file_images.FileImagesImages.narrow.Goals as goal

pub returns-clause-narrowed : goal.returns-clause-narrowed
returns-clause-narrowed g c = (
  made _ _ _,
  refl,
  refl,
  record {
    whole = ap (λ (d : Lacking AnyDev). lacking (ghosts.state d.inner) (parts_in d.lost) d.sectors_of_failed_reads d.failed_reads) c.narrow.ensures.inner;
    part_state = c.narrow.ensures.state;
  },
)

pub returns-clause-part : goal.returns-clause-part
returns-clause-part g c = record {
  size = ap (λ (d : Device). d.size) c.narrow.ensures.state;
  image = ap (λ (d : Device). d.image) c.narrow.ensures.state;
  may_write = ap (λ (d : Device). d.may_write) c.narrow.ensures.state;
  clean = λ clean. ap (λ (d : Device). d.dirty) c.narrow.ensures.state ∙ clean;
}
