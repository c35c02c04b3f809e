-- The numbers of refusals. From 18 on each number has one name; below 18 several kinds of refusals share numbers.
use Rattle.std.specs.Prelude.{◌≡◌, ◌⊎◌, ℕ, ◌<◌, ◌==◌, List, [], ◌∷◌, ◌++◌, AllPairs, codes, Option, Some, find, option_map}
use Rattle.io_fault_text.specs.Texts.{kind_then}

-- each number from 18 on with its name, in ascending order
unfoldable pub refusals : List (ℕ × List ℕ)
refusals =
    (18, codes "Unaligned")
    ∷ (19, codes "RootText")
    ∷ (20, codes "OtherDataBlockSize")
    ∷ (21, codes "OtherHashBlockSize")
    ∷ (22, codes "OtherSalt")
    ∷ (23, codes "OutsideFile")
    ∷ (24, codes "MapStatus")
    ∷ (25, codes "MapBlock")
    ∷ (26, codes "MapPartSector")
    ∷ (27, codes "MapGap")
    ∷ (28, codes "MapOverlap")
    ∷ (29, codes "MapSize")
    ∷ (30, codes "MapTooLong")
    ∷ (31, codes "MapWrite")
    ∷ (32, codes "MapSync")
    ∷ (33, codes "MapRename")
    ∷ (34, codes "DataOverlapsTree")
    ∷ (35, codes "OtherDataBlocks")
    ∷ (36, codes "PinHeader")
    ∷ (37, codes "PinLine")
    ∷ (38, codes "PinUnknown")
    ∷ (39, codes "PinRepeated")
    ∷ (40, codes "PinMissing")
    ∷ (41, codes "PinValue")
    ∷ (42, codes "PinTooLong")
    ∷ (43, codes "PinWrite")
    ∷ (44, codes "PinSync")
    ∷ (45, codes "PinRename")
    ∷ (46, codes "NotLoadable")
    ∷ (47, codes "OtherBlockSizes")
    ∷ (48, codes "FecTooSmall")
    ∷ (49, codes "FecReadOnly")
    ∷ (50, codes "FecDevice")
    ∷ (51, codes "LinuxSize")
    ∷ (52, codes "VerityBesideOthers")
    ∷ (53, codes "SmallBlock")
    ∷ (54, codes "BeginBeyondDevice")
    ∷ (55, codes "PartBlock")
    ∷ (56, codes "DividedBlock")
    ∷ (57, codes "UnitStart")
    ∷ (58, codes "DividedChunk")
    ∷ (59, codes "PartSize")
    ∷ (60, codes "UnusedEntries")
    ∷ (61, codes "ParityDoesntCover")
    ∷ []

-- no two refusals of the list have one number
abbrev pub HaveOwnNumbers : Type 0
HaveOwnNumbers = AllPairs (λ a b. a.0 < b.0) refusals

-- the name of the refusal with that number
abbrev pub refusal_name : ℕ → Option (List ℕ)
refusal_name number = option_map (λ row. row.1) (find (λ row. row.0 == number) refusals)

-- a line `refused N NAME`, whatever follows the name: the name is that of the number, or the number is below 18
pub record IsNumbered (line : List ℕ) : Type 0 where
  pub number : ℕ
  pub name : List ℕ
  pub rest : List ℕ
  pub own : (number < 18) ⊎ (refusal_name number ≡ Some name)
  pub is : line ≡ codes "refused " ++ kind_then number name rest
