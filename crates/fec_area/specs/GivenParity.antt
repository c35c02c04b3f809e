-- The calls that compare parity with the parity on a device, and their result, whatever the devices return.
use Rattle.std.specs.Prelude.{◌≡◌, ◌⊎◌, ◌<◌, ◌+◌, ◌*◌, ℕ, true, false, List, [], ◌∷◌, ◌++◌, length, Option, Some, None, Result, Ok, Err}
use Rattle.block_device.specs.Call.{Call, Calls, Read}
use Rattle.fec_area.specs.declared.layout.Layout.{Layout}
use Rattle.fec_area.specs.declared.writing.ParityFault.{ParityFault}
use Rattle.fec_area.specs.declared.writing.ParityFault.TheVariants.{TooSmall, ReadOnly, Device as DeviceFailed, NoMemory}
use Rattle.fec_area.specs.Given.{GivesAll, GivesFirst, first_rounds}
use Rattle.fec_area.specs.Handing.{AreParities, round_sectors}
use Rattle.fec_area.specs.Layouts.{IsParityOf, code_rounds}

-- successful reads of the parity of consecutive rounds, from round r on
abbrev pub parity_reads : ℕ → ℕ → List (List ℕ) → List Call
parity_reads sectors r [] = []
parity_reads sectors r (parity ∷ more) = Read (r * sectors) parity true ∷ parity_reads sectors (r + 1) more

-- the covered blocks and the parity of the first n rounds were read, each once, and nothing else; each parity that was
-- returned is the parity of the blocks that were returned
pub record ChecksRounds {D H P : Type 0} (asks : D → Call → D → Type 0) (does : H → Call → H → Type 0) (reads : P → Call → P → Type 0) (l : Layout) (n : ℕ) (d : D) (h : H) (p : P) (d' : D) (h' : H) (p' : P) : Type 0 where
  pub stored : List (List ℕ)
  pub count : length stored ≡ n
  pub of_parity : Calls reads p (parity_reads (round_sectors l) 0 stored) p'
  pub blocks : GivesAll asks does l (first_rounds l n) (λ data_image hash_image. AreParities l data_image hash_image 0 stored) d h d' h'

-- the parity that was returned of this round isn't the parity of the blocks that were returned, and that of each round
-- before is; nothing was read of the rounds after it
pub record ChecksTo {D H P : Type 0} (asks : D → Call → D → Type 0) (does : H → Call → H → Type 0) (reads : P → Call → P → Type 0) (l : Layout) (round : ℕ) (d : D) (h : H) (p : P) (d' : D) (h' : H) (p' : P) : Type 0 where
  pub before : List (List ℕ)
  pub last : List ℕ
  pub inside : round < code_rounds l
  pub count : length before ≡ round
  pub of_parity : Calls reads p (parity_reads (round_sectors l) 0 (before ++ last ∷ [])) p'
  pub blocks : GivesAll asks does l (first_rounds l (round + 1)) (λ data_image hash_image. AreParities l data_image hash_image 0 before × (IsParityOf l data_image hash_image round last → ⊥)) d h d' h'

-- a read failed in the round after those that were compared: that of a covered block, or that of the parity after all
-- blocks of the round; nothing else was read
pub record ChecksPart {D H P : Type 0} (asks : D → Call → D → Type 0) (does : H → Call → H → Type 0) (reads : P → Call → P → Type 0) (l : Layout) (d : D) (h : H) (p : P) (d' : D) (h' : H) (p' : P) : Type 0 where
  pub before : List (List ℕ)
  pub inside : length before < code_rounds l
  pub stopped : (Calls reads p (parity_reads (round_sectors l) 0 before) p' × GivesFirst asks does l (first_rounds l (length before + 1)) d h d' h')
      ⊎ ((bytes : List ℕ) × Calls reads p (parity_reads (round_sectors l) 0 before ++ Read (length before * round_sectors l) bytes false ∷ []) p' × GivesAll asks does l (first_rounds l (length before + 1)) (λ data_image hash_image. Unit {0}) d h d' h')

abbrev pub ChecksFound : {D H P : Type 0} → (D → Call → D → Type 0) → (H → Call → H → Type 0) → (P → Call → P → Type 0) → Layout → D → H → P → D → H → P → Option ℕ → Type 0
ChecksFound asks does reads l d h p d' h' p' None = ChecksRounds asks does reads l (code_rounds l) d h p d' h' p'
ChecksFound asks does reads l d h p d' h' p' (Some round) = ChecksTo asks does reads l round d h p d' h' p'

abbrev pub ChecksOver : {D H P F : Type 0} → (D → Call → D → Type 0) → (H → Call → H → Type 0) → (P → Call → P → Type 0) → Layout → D → H → P → D → H → P → Result (Option ℕ) F → Type 0
ChecksOver asks does reads l d h p d' h' p' (Ok found) = ChecksFound asks does reads l d h p d' h' p' found
ChecksOver asks does reads l d h p d' h' p' (Err fault) = ChecksPart asks does reads l d h p d' h' p'

-- all calls of a comparison that failed: none, or those up to the read that failed
abbrev pub StopsChecking : {D H P : Type 0} → (D → Call → D → Type 0) → (H → Call → H → Type 0) → (P → Call → P → Type 0) → Layout → D → H → P → D → H → P → ParityFault → Type 0
StopsChecking asks does reads l d h p d' h' p' (TooSmall needed) = (d' ≡ d) × (h' ≡ h) × (p' ≡ p)
StopsChecking asks does reads l d h p d' h' p' ReadOnly = ⊥
StopsChecking asks does reads l d h p d' h' p' NoMemory = (d' ≡ d) × (h' ≡ h) × (p' ≡ p)
StopsChecking asks does reads l d h p d' h' p' DeviceFailed = ChecksPart asks does reads l d h p d' h' p'

-- all calls of comparing parity
abbrev pub ChecksParity : {D H P : Type 0} → (D → Call → D → Type 0) → (H → Call → H → Type 0) → (P → Call → P → Type 0) → Layout → D → H → P → D → H → P → Result (Option ℕ) ParityFault → Type 0
ChecksParity asks does reads l d h p d' h' p' (Ok found) = ChecksFound asks does reads l d h p d' h' p' found
ChecksParity asks does reads l d h p d' h' p' (Err fault) = StopsChecking asks does reads l d h p d' h' p' fault
