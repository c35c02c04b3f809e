-- Passes one after another, and how many there are.
use Rattle.std.specs.Prelude.{◌≡◌, ◌⊎◌, ℕ, suc, ◌≤◌, Bool, true, List}
use Rattle.std.specs.List.{list_all}
use Rattle.stack_engine.specs.Stacks.{StackRecord}
use Rattle.rescue_map.specs.declared.map.Run.{Run}
use Rattle.stack_recovery.specs.PassPieces.{Scanned, scanned}

-- a mapped device, how many times its lost sectors are read again, and whether failed pieces aren't searched sector by sector
pub record Retried : Type 0 where
  pub d : ℕ
  pub retries : ℕ
  pub no_scrape : Bool

abbrev pub retried : ℕ → ℕ → Bool → Retried
retried d retries no_scrape = record { d = d; retries = retries; no_scrape = no_scrape }

-- the device of its passes
abbrev pub scan_of : Retried → Scanned
scan_of t = scanned t.d t.no_scrape

-- so many steps; `Step n` is the one after n steps
pub data Steps {A : Type 0} (Step : ℕ → A → A → Type 0) (first : A) : ℕ → A → Type 0 where
  no_step : Steps Step first 0 first
  one_more : {n : ℕ} {now next : A} → Steps Step first n now → Step n now next → Steps Step first (suc n) next

-- so many passes precede the last one: one for each retry, or fewer if no sector is left to be read
abbrev pub IsEnough : ℕ → ℕ → List Run → Type 0
IsEnough retries passes runs = (passes ≤ retries) × ((passes ≡ retries) ⊎ (list_all (λ run. run.had) runs ≡ true))

-- what a pass leaves: the stack, the output device, and the map of what was read so far
pub record AfterPass (O : Type 0) : Type 0 where
  pub stack : StackRecord
  pub out : O
  pub map : List Run

abbrev pub after_pass : {O : Type 0} → StackRecord → O → List Run → AfterPass O
after_pass stack out map = record { stack = stack; out = out; map = map }
