use Rattle.std.proofs.Common.{ap, refl, ◌∙◌}
use Rattle.block_device.specs.Device.{Device}
use Rattle.device_adapters.specs.Lacking.{parts_in}
use Rattle.image_files.proofs.FileLemmas.{made}
use Rattle.image_files.proofs.file_images.FileImagesImages.without.Goals as goal

pub returns-clause-lacking : goal.returns-clause-lacking
returns-clause-lacking g c = (
  made _ _ _,
  refl,
  refl,
  record {
    lost_are = ap parts_in c.lacking_window.ensures.lost;
    holds = record {
      size = ap (λ (d : Device). d.size) c.lacking_window.ensures.state;
      image = ap (λ (d : Device). d.image) c.lacking_window.ensures.state;
      may_write = ap (λ (d : Device). d.may_write) c.lacking_window.ensures.state;
      clean = λ clean. ap (λ (d : Device). d.dirty) c.lacking_window.ensures.state ∙ clean;
    };
    steady = ap (λ (d : Device). d.steady) c.lacking_window.ensures.state;
  },
)

pub returns-clause-holds : goal.returns-clause-holds
returns-clause-holds g c = record {
  size = ap (λ (d : Device). d.size) c.lacking_window.ensures.state;
  image = ap (λ (d : Device). d.image) c.lacking_window.ensures.state;
  may_write = ap (λ (d : Device). d.may_write) c.lacking_window.ensures.state;
  clean = λ clean. ap (λ (d : Device). d.dirty) c.lacking_window.ensures.state ∙ clean;
}
