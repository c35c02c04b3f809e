-- The bytes of a crypt line's units.
use Rattle.std.proofs.Common.{◌≡◌, ◌∙◌, codes, inl, inr}
use Rattle.std.specs.Prelude.{◌⊎◌}
use Rattle.std.proofs.lemmas.Bool.{cases_Bool, cond-true, cond-false}
use Rattle.dm_table.specs.declared.crypt.Crypt.{Crypt}
use Rattle.dm_table.specs.Options.{is_one_of}
use Rattle.dm_table.specs.Crypt.{sector_size}

-- 512, 1024, 2048 or 4096
pub sector_size-is : (crypt : Crypt) → (sector_size crypt ≡ 512) ⊎ ((sector_size crypt ≡ 1024) ⊎ ((sector_size crypt ≡ 2048) ⊎ (sector_size crypt ≡ 4096)))
unfolding sector_size
sector_size-is crypt = elim (cases_Bool (is_one_of (codes "sector_size:4096") crypt.options)) [
  | inl most ↦ inr (inr (inr (cond-true _ _ _ most)))
  | inr less ↦ elim (cases_Bool (is_one_of (codes "sector_size:2048") crypt.options)) [
    | inl most ↦ inr (inr (inl (cond-false _ _ _ less ∙ cond-true _ _ _ most)))
    | inr other ↦ elim (cases_Bool (is_one_of (codes "sector_size:1024") crypt.options)) [
      | inl most ↦ inr (inl (cond-false _ _ _ less ∙ cond-false _ _ _ other ∙ cond-true _ _ _ most))
      | inr none ↦ inl (cond-false _ _ _ less ∙ cond-false _ _ _ other ∙ cond-false _ _ _ none)
    ]
  ]
]
