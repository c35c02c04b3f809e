use Rattle.std.proofs.Common.{ℕ, ◌+◌, ◌≤◌, refl, subst, sym}
use Rattle.memory_images.proofs.PartLemmas.{narrowed-memory}
use Rattle.memory_images.proofs.named_images.MemoryImagesImages.narrow.Goals as goal

pub held_in-requires : goal.held_in-requires
held_in-requires c = subst (λ (n : ℕ). c.args.part.first + c.args.part.count ≤ n) (sym c.into_bytes.ensures.size) c.requires

pub returns-clause-narrowed : goal.returns-clause-narrowed
returns-clause-narrowed c = (
  refl,
  record {
    is = rw (c.held_in.ensures, c.into_bytes.ensures.bytes, c.writable-writable.ensures) at c.new.ensures.state;
    holds = rw (c.held_in.ensures, c.into_bytes.ensures.bytes) at c.new.ensures.bytes;
  },
)

pub returns-clause-part : goal.returns-clause-part
returns-clause-part c =
    narrowed-memory c.args.device c.new.result c.args.part c.requires refl
    (record {
      is = rw (c.held_in.ensures, c.into_bytes.ensures.bytes, c.writable-writable.ensures) at c.new.ensures.state;
      holds = rw (c.held_in.ensures, c.into_bytes.ensures.bytes) at c.new.ensures.bytes;
    })
