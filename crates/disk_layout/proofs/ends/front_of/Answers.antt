use Rattle.std.proofs.Common.{ℕ, List, ◌++◌, ◌∙◌, ap, arith, length}
use Rattle.std.proofs.lemmas.List.{length-append}
use Rattle.disk_layout.specs.Headers.{header_sector}
use Rattle.disk_layout.specs.Mbrs.{mbr_sector}
use Rattle.disk_layout.proofs.AppendLemmas.{append-two}
use Rattle.disk_layout.proofs.ends.front_of.Goals as goal

pub returns-clause-ok : goal.returns-clause-ok
returns-clause-ok c =
    append-two (mbr_sector c.args.disk) _ _ (header_sector c.args.disk.size c.args.header.now) c.args.array.now
    (c.in_ok-append.ensures.ok ∙ ap (λ (l : List ℕ). l ++ c.deref.result.now) c.in_ok-text.ensures.ok ∙ ap (λ (l : List ℕ). mbr_sector c.args.disk ++ l) (c.deref.ensures.value ∙ c.in_ok-sector.ensures.ok)) c.in_ok-append-2.ensures.ok

pub returns-clause-size : goal.returns-clause-size
returns-clause-size c =
    omega (
      arith,
      ap length c.in_ok-append-2.ensures.ok,
      ap length c.in_ok-append.ensures.ok,
      length-append {A = ℕ},
      c.in_ok-text.ensures.size,
      ap length c.deref.ensures.value,
      c.in_ok-sector.ensures.size,
      c.requires,
    )
