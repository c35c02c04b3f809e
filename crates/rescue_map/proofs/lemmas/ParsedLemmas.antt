-- Maps that a text holds.
use Rattle.std.proofs.Common.{◌≡◌, ℕ, ◌+◌, ◌-◌, ◌*◌, ◌/◌, ◌<◌, ◌&&◌, Bool, true, false, eqb, List, [], ◌∷◌, length, Result, Ok, Err, eqb-true, refl, sym, ap, subst, ◌∙◌, arith}
use Rattle.std.specs.Prelude.{All, nat_lt}
use Rattle.std.proofs.lemmas.Bool.{cond-false, cond-true}
use Rattle.std.proofs.lemmas.List.Elements.{All-append, All-cons, All-nil}
use Rattle.dm_table.specs.Reading.{◌>>=◌}
use Rattle.dm_table.specs.Words.{Word, text_lines}
use Rattle.rescue_map.specs.declared.block.Block.{Block}
use Rattle.rescue_map.specs.declared.fault.MapFault.{MapFault}
use Rattle.rescue_map.specs.declared.fault.MapFault.TheVariants as fault
use Rattle.rescue_map.specs.declared.map.Run.{Run}
use Rattle.rescue_map.specs.declared.status.Status.{Status}
use Rattle.rescue_map.specs.declared.status.Status.TheVariants.{Bad, Recovered, Unscraped, Untried, Untrimmed}
use Rattle.rescue_map.specs.declared.tail.Tail.{Tail}
use Rattle.rescue_map.specs.declared.text.ParsedMap.{ParsedMap}
use Rattle.rescue_map.specs.Blocks.{block_at, is_status, map_block, most_bytes}
use Rattle.rescue_map.specs.Maps.{marks}
use Rattle.rescue_map.specs.MapText.{blocks_behind, blocks_from, map_of, parsed, said}
use Rattle.rescue_map.specs.Statuses.{is_bad, is_recovered, least}
use Rattle.rescue_map.specs.Stages.{run_of}
use Rattle.rescue_map.specs.Tails.{block_runs, block_tail, blocks_runs, blocks_tail, completed, lacking, no_tail, whole_run}
use Rattle.rescue_map.proofs.TailLemmas.{bytes-block, length-both, runs-past, runs-within, tail-few, within}

blocks-same : (a b : List Block) → ◌≡◌ {A = Result (List Block) MapFault} (Ok a) (Ok b) → a ≡ b
blocks-same a b e = cc

no-blocks : (f : MapFault) (b : List Block) → ◌≡◌ {A = Result (List Block) MapFault} (Err f) (Ok b) → ⊥
no-blocks f b e = cc

read-same : (a b : ParsedMap) → ◌≡◌ {A = Result ParsedMap MapFault} (Ok a) (Ok b) → a ≡ b
read-same a b e = cc

no-read : (f : MapFault) (b : ParsedMap) → ◌≡◌ {A = Result ParsedMap MapFault} (Err f) (Ok b) → ⊥
no-read f b e = cc

-- ---- no run was recovered and is bad

abbrev IsApart : Run → Type 0
IsApart r = (r.had && r.lost) ≡ false

status-apart : (status : Status) → (is_recovered status && is_bad status) ≡ false
status-apart Untried = refl
status-apart Untrimmed = refl
status-apart Unscraped = refl
status-apart Bad = refl
status-apart Recovered = refl

one-apart : (count : ℕ) (status : Status) → All IsApart (run_of count status ∷ [])
one-apart count status = All-cons IsApart (run_of count status) [] (status-apart status) (All-nil IsApart)

block-apart : (tail : Tail) (block : Block) → All IsApart (block_runs tail block)
block-apart tail block = by (within tail block) refl
  where
    front : (none : Bool) → eqb tail.count 0 ≡ none → All IsApart (completed tail block.status)
    front true e = subst (All IsApart) (sym (cond-true (eqb tail.count 0) [] (run_of 1 (least tail.status block.status) ∷ []) e)) (All-nil IsApart)
    front false e = subst (All IsApart) (sym (cond-false (eqb tail.count 0) [] (run_of 1 (least tail.status block.status) ∷ []) e)) (one-apart 1 (least tail.status block.status))

    whole : (n : ℕ) (few : Bool) → nat_lt n 512 ≡ few → All IsApart (whole_run n block.status)
    whole n true e = subst (All IsApart) (sym (cond-true (nat_lt n 512) [] (run_of (n / 512) block.status ∷ []) e)) (All-nil IsApart)
    whole n false e = subst (All IsApart) (sym (cond-false (nat_lt n 512) [] (run_of (n / 512) block.status ∷ []) e)) (one-apart (n / 512) block.status)

    by : (w : Bool) → within tail block ≡ w → All IsApart (block_runs tail block)
    by true e = subst (All IsApart) (sym (runs-within tail block e)) (All-nil IsApart)
    by false e =
        let n : ℕ = block.count - lacking tail in
        subst (All IsApart) (sym (runs-past tail block e))
        (All-append IsApart (completed tail block.status) (whole_run n block.status) (front (eqb tail.count 0) refl) (whole n (nat_lt n 512) refl))

blocks-apart : (tail : Tail) (blocks : List Block) → All IsApart (blocks_runs tail blocks)
blocks-apart tail [] = All-nil IsApart
blocks-apart tail (block ∷ more) = All-append IsApart (block_runs tail block) (blocks_runs (block_tail tail block) more) (block-apart tail block) (blocks-apart (block_tail tail block) more)

-- ---- the sectors of a text's blocks

bytes : List Block → ℕ
bytes [] = 0
bytes (block ∷ more) = block.count + bytes more

bytes-more : (block : Block) (more : List Block) → bytes (block ∷ more) ≡ block.count + bytes more
unfolding bytes
bytes-more block more = refl

bytes-none : bytes [] ≡ 0
unfolding bytes
bytes-none = refl

blocks-bytes : (tail : Tail) (blocks : List Block) → tail.count < 512 → length (marks (blocks_runs tail blocks)) * 512 + (blocks_tail tail blocks).count ≡ tail.count + bytes blocks
blocks-bytes tail [] part = omega (arith, bytes-none)
blocks-bytes tail (block ∷ more) part =
    let next : Tail = block_tail tail block in
    omega (arith, length-both (block_runs tail block) (blocks_runs next more), bytes-block tail block part, blocks-bytes next more (tail-few tail block), bytes-more block more)

tail-small : (tail : Tail) (blocks : List Block) → tail.count < 512 → (blocks_tail tail blocks).count < 512
tail-small tail [] part = part
tail-small tail (block ∷ more) part = tail-small (block_tail tail block) more (tail-few tail block)

-- the blocks end in the device's last sector, or in a part of a sector after it
end-from : (sectors at : ℕ) (lines : List (List Word)) (blocks : List Block) → blocks_from sectors at lines ≡ Ok blocks → (at + bytes blocks) / 512 ≡ sectors
end-from sectors at [] blocks is = by (eqb (at / 512) sectors) refl
  where
    by : (e : Bool) → eqb (at / 512) sectors ≡ e → (at + bytes blocks) / 512 ≡ sectors
    by true e =
        let none : [] ≡ blocks = blocks-same [] blocks (sym (cond-true (eqb (at / 512) sectors) (Ok []) (Err fault.Size) e) ∙ is) in
        let empty : bytes blocks ≡ 0 = ap bytes (sym none) ∙ bytes-none in
        let here : at / 512 ≡ sectors = eqb-true (at / 512) sectors e in
        let all : at + bytes blocks ≡ at = omega (arith, empty) in
        ap (λ (n : ℕ). n / 512) all ∙ here
    by false e = absurd (no-blocks fault.Size blocks (sym (cond-false (eqb (at / 512) sectors) (Ok []) (Err fault.Size) e) ∙ is))
end-from sectors at (line ∷ more) blocks is = first (λ block rest here. end-from sectors (at + block.count) more rest here) (map_block line) is
  where
    last : ((block : Block) (rest : List Block) → blocks_from sectors (at + block.count) more ≡ Ok rest → (at + block.count + bytes rest) / 512 ≡ sectors) → (block : Block) (r : Result (List Block) MapFault) → blocks_from sectors (at + block.count) more ≡ r → (r >>= (λ (rest : List Block). Ok (block ∷ rest))) ≡ Ok blocks → (at + bytes blocks) / 512 ≡ sectors
    last ends block (Ok rest) here e =
        let below : (at + block.count + bytes rest) / 512 ≡ sectors = ends block rest here in
        let all : at + bytes blocks ≡ at + block.count + bytes rest = omega (arith, ap bytes (sym (blocks-same (block ∷ rest) blocks e)), bytes-more block rest) in
        ap (λ (n : ℕ). n / 512) all ∙ below
    last ends block (Err f) here e = absurd (no-blocks f blocks e)

    next : ((block : Block) (rest : List Block) → blocks_from sectors (at + block.count) more ≡ Ok rest → (at + block.count + bytes rest) / 512 ≡ sectors) → (r : Result Block MapFault) → (r >>= (λ (block : Block). blocks_from sectors (at + block.count) more >>= (λ (rest : List Block). Ok (block ∷ rest)))) ≡ Ok blocks → (at + bytes blocks) / 512 ≡ sectors
    next ends (Ok block) e = last ends block (blocks_from sectors (at + block.count) more) refl e
    next ends (Err f) e = absurd (no-blocks f blocks e)

    first : ((block : Block) (rest : List Block) → blocks_from sectors (at + block.count) more ≡ Ok rest → (at + block.count + bytes rest) / 512 ≡ sectors) → (r : Result Block MapFault) → (r >>= (λ (read : Block). block_at at (most_bytes sectors) read >>= (λ (block : Block). blocks_from sectors (at + block.count) more >>= (λ (rest : List Block). Ok (block ∷ rest))))) ≡ Ok blocks → (at + bytes blocks) / 512 ≡ sectors
    first ends (Ok read) e = next ends (block_at at (most_bytes sectors) read) e
    first ends (Err f) e = absurd (no-blocks f blocks e)

end-behind : (sectors : ℕ) (lines : List (List Word)) (blocks : List Block) → blocks_behind sectors lines ≡ Ok blocks → bytes blocks / 512 ≡ sectors
end-behind sectors [] blocks is = absurd (no-blocks fault.Status blocks is)
end-behind sectors (line ∷ more) blocks is = by (is_status line) refl
  where
    by : (e : Bool) → is_status line ≡ e → bytes blocks / 512 ≡ sectors
    by true e =
        let all : bytes blocks ≡ 0 + bytes blocks = omega arith in
        ap (λ (n : ℕ). n / 512) all ∙ end-from sectors 0 more blocks (sym (cond-true (is_status line) (blocks_from sectors 0 more) (Err fault.Status) e) ∙ is)
    by false e = absurd (no-blocks fault.Status blocks (sym (cond-false (is_status line) (blocks_from sectors 0 more) (Err fault.Status) e) ∙ is))

-- ---- the map that a text holds

-- it is of all sectors, and no run was recovered and is bad
pub map_of-sound : (sectors : ℕ) (text : List ℕ) (read : ParsedMap) → map_of sectors text ≡ Ok read → (length (marks read.map) ≡ sectors) × All (λ (r : Run). (r.had && r.lost) ≡ false) read.map
unfolding map_of
map_of-sound sectors text read is = by (blocks_behind sectors (said (text_lines text))) refl is
  where
    by : (r : Result (List Block) MapFault) → blocks_behind sectors (said (text_lines text)) ≡ r → (r >>= (λ (blocks : List Block). Ok (parsed blocks))) ≡ Ok read
        → (length (marks read.map) ≡ sectors) × All (λ (r : Run). (r.had && r.lost) ≡ false) read.map
    by (Ok blocks) here e =
        let same : parsed blocks ≡ read = read-same (parsed blocks) read e in
        let end : bytes blocks / 512 ≡ sectors = end-behind sectors (said (text_lines text)) blocks here in
        let whole : length (marks (parsed blocks).map) ≡ sectors = omega (arith, end, blocks-bytes no_tail blocks (omega arith), tail-small no_tail blocks (omega arith)) in
        subst (λ (p : ParsedMap). (length (marks p.map) ≡ sectors) × All (λ (r : Run). (r.had && r.lost) ≡ false) p.map) same (whole, blocks-apart no_tail blocks)
    by (Err f) here e = absurd (no-read f read e)
