use Rattle.std.proofs.Common.{refl}
use Rattle.memory_images.proofs.named_images.MemoryImagesImages.without.Goals as goal

pub returns-clause-holds : goal.returns-clause-holds
returns-clause-holds c = record { size = refl; image = refl; may_write = refl; clean = λ clean. clean }
