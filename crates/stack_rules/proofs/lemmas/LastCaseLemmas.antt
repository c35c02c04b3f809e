-- What one kind of target is asked for, and all others answer alike.
use Rattle.std.proofs.Common.{◌≡◌, ℕ, List, Some, None, refl}
use Rattle.dm_table.specs.declared.crypt.Crypt.{Crypt}
use Rattle.dm_table.specs.declared.verity.Verity.{Verity}
use Rattle.dm_table.specs.declared.table.Target.{Target}
use Rattle.dm_table.specs.declared.table.Target.TheVariants.{Crypt as crypt_target, Verity as verity_target}
use Rattle.stack_rules.specs.TargetRules.{greatest}
use Rattle.stack_rules.specs.RulesOf.{rules_of}
use Rattle.stack_rules.specs.Trees.{verity_of}
use Rattle.stack_rules.specs.Units.{crypt_of}

-- ---- a line of that kind

pub crypt_of-is : (target : Target) (crypt : Crypt) → Some crypt ≡ crypt_of target → target ≡ crypt_target crypt
crypt_of-is (crypt_target c) crypt is = cc
crypt_of-is target crypt is = cc

pub verity_of-is : (target : Target) (v : Verity) → Some v ≡ verity_of target → target ≡ verity_target v
verity_of-is (verity_target w) v is = cc
verity_of-is target v is = cc

-- ---- a line that is neither costs what its dearest base does

pub reads-dearest : (target : Target) → None ≡ verity_of target → None ≡ crypt_of target → (costs : List ℕ) → (rules_of target).read_cost costs ≡ greatest costs
reads-dearest (verity_target v) plain bare costs = cc
reads-dearest (crypt_target crypt) plain bare costs = cc
reads-dearest target plain bare costs = refl

pub writes-dearest : (target : Target) → None ≡ verity_of target → None ≡ crypt_of target → (reads costs : List ℕ) → (rules_of target).write_cost reads costs ≡ greatest costs
writes-dearest (verity_target v) plain bare reads costs = cc
writes-dearest (crypt_target crypt) plain bare reads costs = cc
writes-dearest target plain bare reads costs = refl
