-- Errors that are kept.
use Rattle.std.proofs.Common.{◌≡◌, ◌≤◌, ℕ, true, false, Option, Some, None}
use Rattle.std.specs.Prelude.{is_some}
use Rattle.allocation.specs.declared.out_of_memory.OutOfMemory.{OutOfMemory}
use Rattle.allocation.specs.Asked.{refused_size}
use Rattle.allocation.specs.Refusal.{IsOutOfMemory}

-- one is kept, which asked for at most n elements
pub asked-refused : (kept : Option OutOfMemory) (n : ℕ) → refused_size kept ≤ n → is_some kept ≡ true → IsOutOfMemory n
asked-refused None n few is = let clash : false ≡ true = is in cc
asked-refused (Some e) n few is = (e.asked, few, e.refused)
