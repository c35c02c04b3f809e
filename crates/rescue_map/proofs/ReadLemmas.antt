-- Maps read block by block.
use Rattle.std.proofs.Common.{◌≡◌, ℕ, ◌+◌, List, [], ◌∷◌, ◌++◌, Result, Ok, Err, IsErrAnd, append_assoc, refl, sym, ap, subst, ◌∙◌}
use Rattle.dm_table.specs.Reading.{◌>>=◌}
use Rattle.dm_table.specs.Words.{Word}
use Rattle.rescue_map.specs.declared.block.Block.{Block}
use Rattle.rescue_map.specs.declared.fault.MapFault.{MapFault}
use Rattle.rescue_map.specs.declared.fault.MapFault.TheVariants as fault
use Rattle.rescue_map.specs.declared.map.Run.{Run}
use Rattle.rescue_map.specs.declared.tail.Tail.{Tail}
use Rattle.rescue_map.specs.declared.text.ParsedMap.{ParsedMap}
use Rattle.rescue_map.specs.Blocks.{block_at, map_block, most_bytes}
use Rattle.rescue_map.specs.MapText.{IsMapAnswer, blocks_from, parsed}
use Rattle.rescue_map.specs.Tails.{block_runs, block_tail, blocks_runs, blocks_tail, no_tail}

-- the sectors and the tail so far, before what the rest gives
abbrev pub after : List Run → Tail → Result (List Block) MapFault → Result ParsedMap MapFault
after runs tail (Ok blocks) = Ok (record { map = runs ++ blocks_runs tail blocks; tail = blocks_tail tail blocks })
after runs tail (Err e) = Err e

pub after-nil : (rest : Result (List Block) MapFault) → (rest >>= (λ (blocks : List Block). Ok (parsed blocks))) ≡ after [] no_tail rest
after-nil (Ok blocks) = refl
after-nil (Err e) = refl

-- a block more
pub after-block : (runs : List Run) (tail : Tail) (block : Block) (rest : Result (List Block) MapFault)
    → after runs tail (rest >>= (λ (blocks : List Block). Ok (block ∷ blocks))) ≡ after (runs ++ block_runs tail block) (block_tail tail block) rest
after-block runs tail block (Ok blocks) =
    ap (λ (r : List Run). Ok (record { map = r; tail = blocks_tail (block_tail tail block) blocks })) (sym (append_assoc runs (block_runs tail block) (blocks_runs (block_tail tail block) blocks)))
after-block runs tail block (Err e) = refl

-- a line that is the next block
pub blocks-line : (sectors at : ℕ) (line : List Word) (more : List (List Word)) (read block : Block) → map_block line ≡ Ok read → block_at at (most_bytes sectors) read ≡ Ok block
    → blocks_from sectors at (line ∷ more) ≡ (blocks_from sectors (at + block.count) more >>= (λ (blocks : List Block). Ok (block ∷ blocks)))
blocks-line sectors at line more read block is fits =
    ap (λ (r : Result Block MapFault). r >>= (λ (read : Block). block_at at (most_bytes sectors) read >>= (λ (block : Block). blocks_from sectors (at + block.count) more >>= (λ (blocks : List Block). Ok (block ∷ blocks))))) is
    ∙ ap (λ (r : Result Block MapFault). r >>= (λ (block : Block). blocks_from sectors (at + block.count) more >>= (λ (blocks : List Block). Ok (block ∷ blocks)))) fits

-- the exit of a `?`, whose fault is what the text says
pub exit_fault : (r : Result ParsedMap MapFault) (f : MapFault) (answer : Result ParsedMap MapFault) → IsErrAnd r (λ e. e ≡ f) → (f ≡ fault.NoMemory → ⊥) → answer ≡ Err f → IsMapAnswer r answer
exit_fault (Ok x) f answer h other e = absurd h
exit_fault (Err g) f answer h other e = subst (λ (x : MapFault). IsMapAnswer (Err x) answer) (sym h) (told f other e)
  where
    told : (x : MapFault) → (x ≡ fault.NoMemory → ⊥) → answer ≡ Err x → IsMapAnswer (Err x) answer
    told fault.NoMemory other e = absurd (other refl)
    told fault.Status other e = e
    told fault.Block other e = e
    told fault.PartSector other e = e
    told fault.Gap other e = e
    told fault.Overlap other e = e
    told fault.Size other e = e
