-- Maps in which nothing remains to be read.
use Rattle.std.specs.Prelude.{ℕ, Bool, true, false, not, List, [], ◌∷◌, Result, Ok, Err}
use Rattle.std.specs.List.{list_all}
use Rattle.dm_table.specs.Words.{Word, text_lines}
use Rattle.rescue_map.specs.declared.block.Block.{Block}
use Rattle.rescue_map.specs.declared.fault.MapFault.{MapFault}
use Rattle.rescue_map.specs.declared.status.Status.{Status}
use Rattle.rescue_map.specs.declared.status.Status.TheVariants.{Bad, Recovered}
use Rattle.rescue_map.specs.Blocks.{map_block}
use Rattle.rescue_map.specs.MapText.{said}

-- recovered, or bad and not read again
abbrev pub is_final : Bool → Status → Bool
is_final again Recovered = true
is_final again Bad = not again
is_final again other = false

abbrev pub is_final_block : Bool → Result Block MapFault → Bool
is_final_block again (Ok block) = is_final again block.status
is_final_block again (Err fault) = false

-- each line after the status line is such a block
abbrev pub is_finished_behind : Bool → List (List Word) → Bool
is_finished_behind again [] = false
is_finished_behind again (line ∷ more) = list_all (λ line. is_final_block again (map_block line)) more

unfoldable pub is_finished : Bool → List ℕ → Bool
is_finished again text = is_finished_behind again (said (text_lines text))
