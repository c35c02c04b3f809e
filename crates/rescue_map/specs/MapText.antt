-- Map files: their value for a device, or their first fault, and the text that is written.
use Rattle.std.specs.Prelude.{◌≡◌, ℕ, ◌+◌, ◌*◌, ◌/◌, Bool, not, ◌==◌, List, [], ◌∷◌, ◌++◌, codes, decimal, filter, length, map, Result, Ok, Err, if◌then◌else◌}
use Rattle.std.specs.List.{join_with_byte}
use Rattle.allocation.specs.Refusal.{IsOutOfMemory}
use Rattle.dm_table.specs.Reading.{◌>>=◌}
use Rattle.dm_table.specs.TableText.{is_skipped}
use Rattle.dm_table.specs.Words.{Word, text_lines, words}
use Rattle.rescue_map.specs.declared.fault.MapFault.{MapFault}
use Rattle.rescue_map.specs.declared.fault.MapFault.TheVariants as fault
use Rattle.rescue_map.specs.declared.kind.MapKind.{MapKind}
use Rattle.rescue_map.specs.declared.map.Run.{Run}
use Rattle.rescue_map.specs.declared.block.Block.{Block}
use Rattle.rescue_map.specs.declared.tail.Tail.{Tail}
use Rattle.rescue_map.specs.declared.text.ParsedMap.{ParsedMap}
use Rattle.rescue_map.specs.Blocks.{block_at, is_status, map_block, most_bytes}
use Rattle.rescue_map.specs.Kinds.{mark_text}
use Rattle.rescue_map.specs.Maps.{marks}
use Rattle.rescue_map.specs.Stages.{is_complete, run_of, run_status}
use Rattle.rescue_map.specs.Statuses.{letter}
use Rattle.rescue_map.specs.Tails.{blocks_runs, blocks_tail, no_tail}

-- the words of the lines that are neither blank nor comments
abbrev pub said : List (List ℕ) → List (List Word)
said lines = filter (λ ws. not (is_skipped ws)) (map words lines)

-- the blocks from byte `at` of the map of a device of `sectors` sectors; the last one may end inside the sector after the device
abbrev pub blocks_from : ℕ → ℕ → List (List Word) → Result (List Block) MapFault
blocks_from sectors at [] = if at / 512 == sectors then Ok [] else Err fault.Size
blocks_from sectors at (line ∷ more) = do
  read ← map_block line
  block ← block_at at (most_bytes sectors) read
  blocks ← blocks_from sectors (at + block.count) more
  Ok (block ∷ blocks)

-- a status line followed by the blocks
abbrev pub blocks_behind : ℕ → List (List Word) → Result (List Block) MapFault
blocks_behind sectors [] = Err fault.Status
blocks_behind sectors (line ∷ more) = if is_status line then blocks_from sectors 0 more else Err fault.Status

-- the sectors of blocks, and the bytes after them
abbrev pub parsed : List Block → ParsedMap
parsed blocks = record { map = blocks_runs no_tail blocks; tail = blocks_tail no_tail blocks }

-- the value of a text for a device of `sectors` sectors
unfoldable pub map_of : ℕ → List ℕ → Result ParsedMap MapFault
map_of sectors text = do
  blocks ← blocks_behind sectors (said (text_lines text))
  Ok (parsed blocks)

-- ---- the text that is written

-- positions and sizes are in bytes and decimal
unfoldable pub run_words : ℕ → Run → List Word
run_words at run = decimal (at * 512) ∷ decimal (run.count * 512) ∷ letter (run_status run) ∷ []

abbrev pub map_run_text : ℕ → Run → List ℕ
map_run_text at run = join_with_byte 32 (run_words at run) ++ 10 ∷ []

abbrev pub map_runs_text : ℕ → List Run → List ℕ
map_runs_text at [] = []
map_runs_text at (run ∷ more) = map_run_text at run ++ map_runs_text (at + run.count) more

-- the bytes after the last whole sector, which is the one before sector `at`
unfoldable pub tail_words : ℕ → Tail → List Word
tail_words at tail = decimal (at * 512) ∷ decimal tail.count ∷ letter tail.status ∷ []

abbrev pub tail_text : ℕ → Tail → List ℕ
tail_text at tail = if tail.count == 0 then [] else join_with_byte 32 (tail_words at tail) ++ 10 ∷ []

-- the runs by their letters
abbrev pub told_runs : List Run → List Run
told_runs [] = []
told_runs (run ∷ more) = run_of run.count (run_status run) ∷ told_runs more

-- the map that the text is read as
abbrev pub told_map : List Run → Tail → ParsedMap
told_map runs tail = record { map = told_runs runs; tail = tail }

-- the status of the whole: finished, or copying
abbrev pub status_text : Bool → List ℕ
status_text complete = if complete then codes "0 +" else codes "0 ?"

-- the status line and the blocks
abbrev pub blocks_text : Bool → List Run → Tail → List ℕ
blocks_text complete runs tail = ((status_text complete ++ 10 ∷ []) ++ map_runs_text 0 runs) ++ tail_text (length (marks runs)) tail

-- a map of this kind; the mark is a comment
unfoldable pub map_text : MapKind → Bool → List Run → Tail → List ℕ
map_text kind no_scrape runs tail = mark_text kind ++ blocks_text (is_complete no_scrape runs) runs tail

-- the result is the value of the text, unless the allocation of room for one run failed
abbrev pub IsMapAnswer : Result ParsedMap MapFault → Result ParsedMap MapFault → Type 0
IsMapAnswer (Ok read) answer = answer ≡ Ok read
IsMapAnswer (Err fault.NoMemory) answer = IsOutOfMemory 1
IsMapAnswer (Err other) answer = answer ≡ Err other
