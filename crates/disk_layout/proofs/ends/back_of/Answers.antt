use Rattle.std.proofs.Common.{ℕ, List, ◌++◌, ◌∙◌, ap, arith, length}
use Rattle.std.proofs.lemmas.List.{length-append}
use Rattle.disk_layout.proofs.ends.back_of.Goals as goal

pub returns-clause-ok : goal.returns-clause-ok
returns-clause-ok c =
    c.in_ok-append.ensures.ok ∙ ap (λ (l : List ℕ). l ++ c.deref.result.now) c.in_ok-text.ensures.ok ∙ ap (λ (l : List ℕ). c.args.array.now ++ l) (c.deref.ensures.value ∙ c.in_ok-sector.ensures.ok)

pub returns-clause-size : goal.returns-clause-size
returns-clause-size c =
    omega (
      arith,
      ap length c.in_ok-append.ensures.ok,
      length-append {A = ℕ},
      ap length c.in_ok-text.ensures.ok,
      ap length c.deref.ensures.value,
      c.in_ok-sector.ensures.size,
      c.requires,
    )
