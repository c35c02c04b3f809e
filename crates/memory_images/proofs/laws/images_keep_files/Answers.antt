use Rattle.std.proofs.Common.{ap, ◌∙◌}
use Rattle.block_device.specs.contracts.memory.MemoryDevBlockDev.TheImpl.{ghosts}
use Rattle.block_device.specs.declared.memory.MemoryDev.{MemoryDev}
use Rattle.memory_images.specs.Files.{file_under}
use Rattle.memory_images.specs.Parts.{grown_image, shrunk_image, with_part}
use Rattle.block_device.specs.Memory.{memory_bytes}
use Rattle.memory_images.proofs.FileLemmas.{copy-opened, image-taken, none-kept, others-kept, others-unchanged, others-unreplaced, part-measured, text-replaced, text-told}
use Rattle.memory_images.proofs.PartLemmas.{image-grown, image-shrunk, part-opened, part-taken}
use Rattle.memory_images.proofs.laws.images_keep_files.Goals as goal

pub returns : goal.returns
returns c = record {
  shows = record {
    opened = λ old new path writable image is. copy-opened old path writable image is.1;
    steady = λ old new path writable image is. ap (λ d. d.steady) is.1.is;
    opened_part = λ old new path writable part image is. part-opened old path writable part image is.1;
    steady_part = λ old new path writable part image is. ap (λ d. d.steady) is.1.is;
    steady_narrowed = λ old new device narrowed part is steady. ap (λ d. d.steady) is.1.is;
    steady_lacking = λ old new device lacking lost is steady. ap (λ (d : MemoryDev). (ghosts.state d).steady) is.1 ∙ steady;
    told = λ old new path most text file is. text-told old path most text file is.1;
    measured = λ old new path part file is. part-measured old path part file is.1;
    made_apart = λ old between new path other sectors compared is. none-kept between new path other (λ image. grown_image image sectors) is;
  };
  changes = record {
    kept_opening = λ old new path writable outcome is. ap file_under is.0;
    kept_reading = λ old new path most outcome is. ap file_under is.0;
    kept_opening_part = λ old new path writable part outcome is. ap file_under is.0;
    kept_narrowing = λ old new device narrowed part is. ap file_under is.0;
    kept_lacking = λ old new device lacking lost is. ap file_under is.0;
    kept_measuring = λ old new path outcome is. ap file_under is.0;
    kept_comparing = λ old new path other outcome is. ap file_under is.0;
    kept_trying = λ old new path outcome is. ap file_under is.0;
    taken = image-taken;
    kept_taking = others-kept;
    taken_part = part-taken;
    kept_taking_part = λ old new path other part device file another is. others-unchanged old new path other (λ image. with_part image part (memory_bytes device)) file another is;
    grown = image-grown;
    kept_growing = λ old new path other sectors file another is. others-unchanged old new path other (λ image. grown_image image sectors) file another is;
    shrunk = image-shrunk;
    kept_shrinking = λ old new path other sectors file another is. others-unchanged old new path other (λ image. shrunk_image image sectors) file another is;
    replaced = text-replaced;
    kept_replacing = others-unreplaced;
  };
}
