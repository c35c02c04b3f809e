use Rattle.std.proofs.Common.{◌≡◌, ◌+◌, ℕ, true, arith, sym, ◌∙◌, subst, inl, inr, get_or}
use Rattle.std.proofs.lemmas.Bool.{cases_lt}
use Rattle.std.proofs.lemmas.List.{get_or_default}
use Rattle.tree_path.specs.Path.{digest_on}
use Rattle.tree_path.proofs.lemmas.PathLemmas.{is_same-cases}
use Rattle.tree_repair.proofs.good_row.are_digests.Goals as goal

pub digests-init : goal.digests-init
digests-init c = λ k low. absurd (omega (arith, low))

pub digests-preserved : goal.digests-preserved
digests-preserved c = λ k low d.
    let digests = c.args.digests.now in
    let at = c.digests.k in
    let found = c.index-digests-k.result in
    elim (cases_lt k at) [
      | inl before ↦ c.digests.invariant k before d
      | inr behind ↦
          let here : k ≡ at = omega (arith, low, behind) in
          subst (λ (n : ℕ). get_or digests n d ≡ digest_on c.args.path.now (c.args.first + n) 0) (sym here)
          (get_or_default digests at d found (omega arith) ∙ sym c.index-digests-k.is ∙ is_same-cases found c.digest_at.result true (sym c.if-not-is_same.false ∙ c.is_same.ensures) ∙ c.digest_at.ensures)
    ]
