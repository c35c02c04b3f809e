use Rattle.std.proofs.Common.{◌≡◌, ◌||◌, Bool, true, false}
use Rattle.std.proofs.lemmas.Bool.{true≢false}
use Rattle.command_tests.proofs.failing_images.FailingImagesImages.narrow.Goals as goal

or-right : (a b : Bool) → (a || b) ≡ false → b ≡ false
or-right true b is = absurd (true≢false is)
or-right false b is = is

pub returns-clause-part : goal.returns-clause-part
returns-clause-part c =
    rw c.new.ensures
    (record {
      size = c.narrow.ensures.part.size;
      image = c.narrow.ensures.part.image;
      may_write = c.narrow.ensures.part.may_write;
      clean = λ clean. c.narrow.ensures.part.clean (or-right _ _ clean);
    })
