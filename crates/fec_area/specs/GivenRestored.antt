-- The calls that reconstruct a lost block, and what the bytes that they returned make of it, whatever these are.
use Rattle.std.specs.Prelude.{◌≡◌, ◌⊎◌, ◌+◌, ◌-◌, ◌*◌, ℕ, Bool, true, false, List, [], ◌∷◌, Result, Ok, Err, if◌then◌else◌}
use Rattle.block_device.specs.Call.{Call, Read}
use Rattle.fec_area.specs.declared.code.Gap.{Gap}
use Rattle.fec_area.specs.declared.layout.Layout.{Layout}
use Rattle.fec_area.specs.declared.restoring.LostBlock.{LostBlock}
use Rattle.fec_area.specs.declared.restoring.RestoreFault.{RestoreFault}
use Rattle.fec_area.specs.declared.restoring.RestoreFault.TheVariants.{TooManyLost, TooSmall, Device as DeviceFailed, NoMemory}
use Rattle.fec_area.specs.Asking.{is_kept}
use Rattle.fec_area.specs.Given.{Gives, gathered, kept_index_at}
use Rattle.fec_area.specs.Handing.{round_sectors}
use Rattle.fec_area.specs.Layouts.{code_rounds}
use Rattle.fec_area.specs.Restoring.{IsFirstRestored, IsRestoredBy, round_of}

-- the index of the block at position i of the lost block's round, if that block isn't lost
abbrev pub kept_index : LostBlock → ℕ → List ℕ
kept_index sought i =
    let l = sought.layout.now in
    let j = i * code_rounds l + round_of l sought.index in
    if is_kept l sought.lost.now sought.index j then j ∷ [] else []

-- the indices of all blocks of the round that aren't lost
abbrev pub kept_indices : LostBlock → List ℕ
kept_indices sought = gathered (kept_index sought) (255 - sought.layout.now.roots)

-- the parity of a round was read once, and then the covered blocks of these indices; the fact is true of what the reads
-- returned
pub record GivesByParity {D H P : Type 0} (asks : D → Call → D → Type 0) (does : H → Call → H → Type 0) (reads : P → Call → P → Type 0) (l : Layout) (round : ℕ) (indices : List ℕ) (Fact : List ℕ → List (List ℕ) → List (List ℕ) → Type 0) (d : D) (h : H) (p : P) (d' : D) (h' : H) (p' : P) (ok : Bool) : Type 0 where
  pub parity : List ℕ
  pub of_parity : reads p (Read (round * round_sectors l) parity true) p'
  pub blocks : Gives asks does l indices (Fact parity) d h d' h' ok

-- the read of the parity failed, and nothing else was called
abbrev pub GivesNoParity : {D H P : Type 0} → (P → Call → P → Type 0) → Layout → ℕ → D → H → P → D → H → P → Type 0
GivesNoParity reads l round d h p d' h' p' = (parity : List ℕ) × reads p (Read (round * round_sectors l) parity false) p' × (d' ≡ d) × (h' ≡ h)

-- the bytes are the first lost block, given what the reads returned
abbrev pub GivesFirstLost : {D H P : Type 0} → (D → Call → D → Type 0) → (H → Call → H → Type 0) → (P → Call → P → Type 0) → Gap → List ℕ → D → H → P → D → H → P → Bool → Type 0
GivesFirstLost asks does reads gap bytes d h p d' h' p' true =
    GivesByParity asks does reads gap.code.layout.now gap.round (gathered (kept_index_at gap.code.layout.now gap.round gap.places.now) (255 - gap.code.layout.now.roots))
    (λ parity data_image hash_image. IsFirstRestored gap.code.layout.now data_image hash_image gap.round parity gap.places.now bytes) d h p d' h' p' true
GivesFirstLost asks does reads gap bytes d h p d' h' p' false =
    GivesNoParity reads gap.code.layout.now gap.round d h p d' h' p'
    ⊎ GivesByParity asks does reads gap.code.layout.now gap.round (gathered (kept_index_at gap.code.layout.now gap.round gap.places.now) (255 - gap.code.layout.now.roots))
    (λ parity data_image hash_image. IsFirstRestored gap.code.layout.now data_image hash_image gap.round parity gap.places.now bytes) d h p d' h' p' false

-- the round's parity and the remaining blocks of the round were read, each once, and the bytes are the lost block that
-- the code gives for what these reads returned
abbrev pub GivesLost : {D H P : Type 0} → (D → Call → D → Type 0) → (H → Call → H → Type 0) → (P → Call → P → Type 0) → LostBlock → List ℕ → D → H → P → D → H → P → Bool → Type 0
GivesLost asks does reads sought bytes =
    GivesByParity asks does reads sought.layout.now (round_of sought.layout.now sought.index) (kept_indices sought)
    (λ parity data_image hash_image. IsRestoredBy sought.layout.now data_image hash_image parity sought.lost.now sought.index bytes)

-- all calls of a reconstruction that failed: none, or those up to the read that failed
abbrev pub StopsRestoring : {D H P : Type 0} → (D → Call → D → Type 0) → (H → Call → H → Type 0) → (P → Call → P → Type 0) → LostBlock → List ℕ → D → H → P → D → H → P → RestoreFault → Type 0
StopsRestoring asks does reads sought bytes d h p d' h' p' (TooManyLost count) = (d' ≡ d) × (h' ≡ h) × (p' ≡ p)
StopsRestoring asks does reads sought bytes d h p d' h' p' (TooSmall needed) = (d' ≡ d) × (h' ≡ h) × (p' ≡ p)
StopsRestoring asks does reads sought bytes d h p d' h' p' NoMemory = (d' ≡ d) × (h' ≡ h) × (p' ≡ p)
StopsRestoring asks does reads sought bytes d h p d' h' p' DeviceFailed =
    GivesNoParity reads sought.layout.now (round_of sought.layout.now sought.index) d h p d' h' p' ⊎ GivesLost asks does reads sought bytes d h p d' h' p' false

-- all calls of restoring a block
abbrev pub RestoresOver : {D H P A : Type 0} → (D → Call → D → Type 0) → (H → Call → H → Type 0) → (P → Call → P → Type 0) → LostBlock → List ℕ → D → H → P → D → H → P → Result A RestoreFault → Type 0
RestoresOver asks does reads sought bytes d h p d' h' p' (Ok done) = GivesLost asks does reads sought bytes d h p d' h' p' true
RestoresOver asks does reads sought bytes d h p d' h' p' (Err fault) = StopsRestoring asks does reads sought bytes d h p d' h' p' fault
