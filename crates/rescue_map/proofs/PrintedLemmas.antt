-- A map that was printed reads back.
use Rattle.std.proofs.Common.{◌≡◌, ℕ, zero, suc, ◌+◌, ◌*◌, ◌/◌, ◌^◌, ◌<◌, ◌≤◌, Bool, true, false, not, ◌&&◌, eqb, List, [], ◌∷◌, ◌++◌, length, filter, map, codes, All, Option, Some, None, Ok, Result, eqb-true, refl, ap, ap₂, sym, ◌∙◌, append_assoc, arith}
use Rattle.std.specs.Prelude.{◌==◌, if◌then◌else◌}
use Rattle.std.specs.List.{join_with_byte, slice_split}
use Rattle.std.specs.Str.{bytes_eq}
use Rattle.std.proofs.lemmas.Bool.{false≢true, cond-true, cond-false, eq-eqb}
use Rattle.std.proofs.lemmas.Slice.Eq.{bytes_eq-Decides}
use Rattle.std.proofs.lemmas.List.{length-append, length-replicate}
use Rattle.std.proofs.lemmas.List.Elements.{All-nil, All-cons, All-head, All-tail}
use Rattle.std.proofs.lemmas.List.Splits.{slice_split_at}
use Rattle.dm_table.specs.Numbers.{number}
use Rattle.dm_table.specs.Reading.{◌>>=◌}
use Rattle.dm_table.specs.TableText.{is_skipped}
use Rattle.dm_table.specs.Words.{Word, text_lines, words}
use Rattle.rescue_map.specs.declared.block.Block.{Block}
use Rattle.rescue_map.specs.declared.status.Status.{Status}
use Rattle.rescue_map.specs.declared.tail.Tail.{Tail}
use Rattle.rescue_map.specs.declared.text.ParsedMap.{ParsedMap}
use Rattle.rescue_map.specs.declared.fault.MapFault.{MapFault}
use Rattle.rescue_map.specs.declared.kind.MapKind.{MapKind}
use Rattle.rescue_map.specs.declared.kind.MapKind.TheVariants.{Copy, Scan}
use Rattle.rescue_map.specs.declared.map.Run.{Run}
use Rattle.rescue_map.specs.Blocks.{is_status}
use Rattle.rescue_map.specs.Kinds.{is_mark, kind_in, kind_of, mark_text, scan_mark}
use Rattle.rescue_map.specs.Maps.{AreRuns, marks}
use Rattle.rescue_map.specs.MapText.{blocks_behind, blocks_from, blocks_text, map_of, map_text, map_run_text, map_runs_text, parsed, run_words, said, status_text, tail_text, tail_words, told_map, told_runs}
use Rattle.rescue_map.specs.Stages.{is_complete, run_of, run_status}
use Rattle.rescue_map.specs.Tails.{IsTail, blocks_runs, blocks_tail}
use Rattle.rescue_map.proofs.ReadLemmas.{blocks-line}
use Rattle.rescue_map.proofs.PrintedLineLemmas.{block-next, last-block, last-one, last-said, last-words, line-block, line-one, line-runs, line-said, line-tail, line-words, tail-line, told_block}
use Rattle.rescue_map.proofs.TailLemmas.{runs-part, tail-part}

-- ---- texts

append-end : (l : List ℕ) → l ++ [] ≡ l
append-end [] = refl
append-end (x ∷ l) = ap (λ (m : List ℕ). x ∷ m) (append-end l)

split-line : (line rest : List ℕ) → All (λ b. eqb b 10 ≡ false) line → slice_split (λ b. eqb b 10) ((line ++ 10 ∷ []) ++ rest) ≡ line ∷ slice_split (λ b. eqb b 10) rest
split-line line rest one = ap (slice_split (λ b. eqb b 10)) (append_assoc line (10 ∷ []) rest) ∙ slice_split_at (λ b. eqb b 10) line 10 rest one refl

said-line : (line : List ℕ) (ws : List Word) (more : List (List ℕ)) → words line ≡ ws → is_skipped ws ≡ false → said (line ∷ more) ≡ ws ∷ said more
said-line line ws more e kept =
    ap (λ (x : List Word). filter (λ ws. not (is_skipped ws)) (x ∷ map words more)) e
    ∙ cond-true (not (is_skipped ws)) _ _ (ap not kept)

length-marks : (run : Run) (more : List Run) → length (marks (run ∷ more)) ≡ run.count + length (marks more)
length-marks run more = length-append _ (marks more) ∙ ap (λ (n : ℕ). n + length (marks more)) (length-replicate {A = Bool} run.count run.had)

-- the blocks that the lines of runs and of a tail are
abbrev told_blocks : ℕ → List Run → List Block → List Block
told_blocks at [] last = last
told_blocks at (run ∷ more) last = record { first = at * 512; count = run.count * 512; status = run_status run } ∷ told_blocks (at + run.count) more last

abbrev last_blocks : ℕ → Tail → List Block
last_blocks at tail = if tail.count == 0 then [] else record { first = at * 512; count = tail.count; status = tail.status } ∷ []

-- the lines of a text of no byte say nothing
tail-read : (sectors : ℕ) (tail : Tail) → sectors ≤ 2 ^ 54 → tail.count < 512 → blocks_from sectors (sectors * 512) (said (slice_split (λ b. eqb b 10) (tail_text sectors tail))) ≡ Ok (last_blocks sectors tail)
unfolding words
tail-read sectors tail few part = by (eqb tail.count 0) refl
  where
    end : (n : ℕ) → n / 512 ≡ sectors → blocks_from sectors n [] ≡ Ok []
    end n is = cond-true (eqb (n / 512) sectors) _ _ (eq-eqb (n / 512) sectors is)

    by : (none : Bool) → eqb tail.count 0 ≡ none → blocks_from sectors (sectors * 512) (said (slice_split (λ b. eqb b 10) (tail_text sectors tail))) ≡ Ok (last_blocks sectors tail)
    by true e =
        ap (λ (t : List ℕ). blocks_from sectors (sectors * 512) (said (slice_split (λ b. eqb b 10) t))) (cond-true (eqb tail.count 0) _ _ e)
        ∙ end (sectors * 512) (omega arith)
        ∙ ap Ok (sym (cond-true (eqb tail.count 0) _ _ e))
    by false e =
        let some : 1 ≤ tail.count = some-count tail.count e in
        let wide : tail.count < 2 ^ 64 = omega (arith, part) in
        let block : Block = record { first = sectors * 512; count = tail.count; status = tail.status } in
        ap (λ (t : List ℕ). blocks_from sectors (sectors * 512) (said (slice_split (λ b. eqb b 10) t))) (tail-line sectors tail few some wide ∙ sym (append-end (join_with_byte 32 (tail_words sectors tail) ++ 10 ∷ [])))
        ∙ ap (λ (l : List (List ℕ)). blocks_from sectors (sectors * 512) (said l)) (split-line (join_with_byte 32 (tail_words sectors tail)) [] (last-one sectors tail few some wide))
        ∙ ap (blocks_from sectors (sectors * 512)) (said-line (join_with_byte 32 (tail_words sectors tail)) (tail_words sectors tail) (slice_split (λ b. eqb b 10) []) (last-words sectors tail few some wide) (last-said sectors tail few some wide))
        ∙ blocks-line sectors (sectors * 512) (tail_words sectors tail) [] block block (last-block sectors tail few some wide) (block-next (sectors * 512) sectors block refl some (omega (arith, part)))
        ∙ ap (λ (r : Result (List Block) MapFault). r >>= (λ (blocks : List Block). Ok (block ∷ blocks))) (end (sectors * 512 + tail.count) (omega (arith, part)))
        ∙ ap Ok (sym (cond-false (eqb tail.count 0) _ _ e))
      where
        some-count : (n : ℕ) → eqb n 0 ≡ false → 1 ≤ n
        some-count zero e = cc
        some-count (suc n) e = omega arith

runs-read : (sectors at : ℕ) (runs : List Run) (tail : Tail) → All (λ (r : Run). 1 ≤ r.count) runs → at + length (marks runs) ≡ sectors → sectors ≤ 2 ^ 54 → tail.count < 512
    → blocks_from sectors (at * 512) (said (slice_split (λ b. eqb b 10) (map_runs_text at runs ++ tail_text sectors tail))) ≡ Ok (told_blocks at runs (last_blocks sectors tail))
unfolding words
runs-read sectors at [] tail each all few part =
    let here : at ≡ sectors = omega (arith, all) in
    ap (λ (n : ℕ). blocks_from sectors (n * 512) (said (slice_split (λ b. eqb b 10) (tail_text sectors tail)))) here ∙ tail-read sectors tail few part
runs-read sectors at (run ∷ more) tail each all few part =
    let some : 1 ≤ run.count = All-head (λ (r : Run). 1 ≤ r.count) run more each in
    let len = length-marks run more in
    let inside : at + run.count ≤ sectors = omega (arith, all, len) in
    let room : at + run.count ≤ 2 ^ 54 = omega (arith, inside, few) in
    let line : List ℕ = join_with_byte 32 (run_words at run) in
    let later : List ℕ = map_runs_text (at + run.count) more ++ tail_text sectors tail in
    let rest : List (List ℕ) = slice_split (λ b. eqb b 10) later in
    let block : Block = told_block at run room in
    let next : at * 512 + run.count * 512 ≡ (at + run.count) * 512 = omega arith in
    let below = runs-read sectors (at + run.count) more tail (All-tail (λ (r : Run). 1 ≤ r.count) run more each) (omega (arith, all, len)) few part in
    ap (λ (t : List ℕ). blocks_from sectors (at * 512) (said (slice_split (λ b. eqb b 10) t))) (append_assoc (line ++ 10 ∷ []) (map_runs_text (at + run.count) more) (tail_text sectors tail))
    ∙ ap (λ (l : List (List ℕ)). blocks_from sectors (at * 512) (said l)) (split-line line later (line-one at run room))
    ∙ ap (blocks_from sectors (at * 512)) (said-line line (run_words at run) rest (line-words at run room) (line-said at run room))
    ∙ blocks-line sectors (at * 512) (run_words at run) (said rest) block block (line-block at run room) (block-next (at * 512) sectors block refl (omega (arith, some)) (omega (arith, inside)))
    ∙ ap (λ (n : ℕ). blocks_from sectors n (said rest) >>= (λ (blocks : List Block). Ok (block ∷ blocks))) next
    ∙ ap (λ (r : Result (List Block) MapFault). r >>= (λ (blocks : List Block). Ok (block ∷ blocks))) below

-- the sectors of these blocks
last-parsed : (at : ℕ) (tail : Tail) → IsTail tail → parsed (last_blocks at tail) ≡ record { map = []; tail = tail }
last-parsed at tail is = by (eqb tail.count 0) refl
  where
    by : (none : Bool) → eqb tail.count 0 ≡ none → parsed (last_blocks at tail) ≡ record { map = []; tail = tail }
    by true e =
        let none : tail.count ≡ 0 = eqb-true tail.count 0 e in
        ap parsed (cond-true (eqb tail.count 0) _ _ e)
        ∙ ap₂ (λ (n : ℕ) (s : Status). record { map = []; tail = record { count = n; status = s } }) (sym none) (sym (is.none none))
    by false e =
        ap parsed (cond-false (eqb tail.count 0) _ _ e)
        ∙ ap₂ (λ (r : List Run) (t : Tail). record { map = r ++ []; tail = t }) (runs-part (at * 512) tail.count tail.status is.part) (tail-part (at * 512) tail.count tail.status is.part)

told-parsed : (at : ℕ) (runs : List Run) (last : List Block) (tail : Tail) → All (λ (r : Run). 1 ≤ r.count) runs → at + length (marks runs) ≤ 2 ^ 54 → parsed last ≡ record { map = []; tail = tail }
    → parsed (told_blocks at runs last) ≡ record { map = told_runs runs; tail = tail }
told-parsed at [] last tail each few is = is
told-parsed at (run ∷ more) last tail each few is =
    let some : 1 ≤ run.count = All-head (λ (r : Run). 1 ≤ r.count) run more each in
    let len = length-marks run more in
    let room : at + run.count ≤ 2 ^ 54 = omega (arith, few, len) in
    let blocks : List Block = told_blocks (at + run.count) more last in
    let below = told-parsed (at + run.count) more last tail (All-tail (λ (r : Run). 1 ≤ r.count) run more each) (omega (arith, few, len)) is in
    ap₂ (λ (r : List Run) (t : Tail). record { map = r ++ blocks_runs t blocks; tail = blocks_tail t blocks }) (line-runs at run room some) (line-tail at run room some)
    ∙ ap (λ (p : ParsedMap). record { map = run_of run.count (run_status run) ∷ p.map; tail = p.tail }) below

state-word : Bool → Word
state-word true = codes "+"
state-word false = codes "?"

head-words : (complete : Bool) → words (status_text complete) ≡ codes "0" ∷ state-word complete ∷ []
unfolding words state-word
head-words true = refl
head-words false = refl

head-status : (complete : Bool) → is_status (codes "0" ∷ state-word complete ∷ []) ≡ true
unfolding number state-word
head-status true = refl
head-status false = refl

head-one : (complete : Bool) → All (λ b. eqb b 10 ≡ false) (status_text complete)
head-one true =
    let P = λ (b : ℕ). eqb b 10 ≡ false in
    All-cons P 48 (32 ∷ 43 ∷ []) refl (All-cons P 32 (43 ∷ []) refl (All-cons P 43 [] refl (All-nil P)))
head-one false =
    let P = λ (b : ℕ). eqb b 10 ≡ false in
    All-cons P 48 (32 ∷ 63 ∷ []) refl (All-cons P 32 (63 ∷ []) refl (All-cons P 63 [] refl (All-nil P)))

blocks-read : (complete : Bool) (runs : List Run) (tail : Tail) → AreRuns runs → tail.count < 512
    → blocks_behind (length (marks runs)) (said (slice_split (λ b. eqb b 10) (blocks_text complete runs tail))) ≡ Ok (told_blocks 0 runs (last_blocks (length (marks runs)) tail))
blocks-read complete runs tail whole part =
    let sectors : ℕ = length (marks runs) in
    let later : List ℕ = map_runs_text 0 runs ++ tail_text sectors tail in
    let rest : List (List ℕ) = slice_split (λ b. eqb b 10) later in
    ap (λ (t : List ℕ). blocks_behind sectors (said (slice_split (λ b. eqb b 10) t))) (append_assoc (status_text complete ++ 10 ∷ []) (map_runs_text 0 runs) (tail_text sectors tail))
    ∙ ap (λ (l : List (List ℕ)). blocks_behind sectors (said l)) (split-line (status_text complete) later (head-one complete))
    ∙ ap (blocks_behind sectors) (said-line (status_text complete) (codes "0" ∷ state-word complete ∷ []) rest (head-words complete) refl)
    ∙ cond-true (is_status (codes "0" ∷ state-word complete ∷ [])) _ _ (head-status complete)
    ∙ runs-read sectors 0 runs tail whole.some (omega arith) whole.few part

map-parsed : (complete : Bool) (runs : List Run) (tail : Tail) → AreRuns runs → IsTail tail
    → (blocks_behind (length (marks runs)) (said (slice_split (λ b. eqb b 10) (blocks_text complete runs tail))) >>= (λ (blocks : List Block). Ok (parsed blocks))) ≡ Ok (told_map runs tail)
map-parsed complete runs tail whole is =
    ap (λ (r : Result (List Block) MapFault). r >>= (λ (blocks : List Block). Ok (parsed blocks))) (blocks-read complete runs tail whole is.part)
    ∙ ap Ok (told-parsed 0 runs (last_blocks (length (marks runs)) tail) tail whole.some (omega (arith, whole.few)) (last-parsed (length (marks runs)) tail is))

-- ---- marks

mark-one : All (λ b. eqb b 10 ≡ false) scan_mark
mark-one =
    let P = λ (b : ℕ). eqb b 10 ≡ false in
    All-cons P 35 (codes " dmstack scan") refl (All-cons P 32 (codes "dmstack scan") refl (All-cons P 100 (codes "mstack scan") refl (All-cons P 109 (codes "stack scan") refl
    (All-cons P 115 (codes "tack scan") refl (All-cons P 116 (codes "ack scan") refl (All-cons P 97 (codes "ck scan") refl (All-cons P 99 (codes "k scan") refl (All-cons P 107 (codes " scan") refl
    (All-cons P 32 (codes "scan") refl (All-cons P 115 (codes "can") refl (All-cons P 99 (codes "an") refl (All-cons P 97 (codes "n") refl (All-cons P 110 [] refl (All-nil P))))))))))))))

mark-is : is_mark (words scan_mark) ≡ true
unfolding words
mark-is = refl

-- a line that isn't skipped is no mark
no_mark : (ws : List Word) → is_skipped ws ≡ false → is_mark ws ≡ false
no_mark [] kept = refl
no_mark (a ∷ []) kept = refl
no_mark (a ∷ b ∷ []) kept = refl
no_mark (a ∷ b ∷ d ∷ e ∷ more) kept = refl
no_mark (a ∷ b ∷ d ∷ []) kept = ap (λ (s : Bool). s && bytes_eq b (codes "dmstack") && bytes_eq d (codes "scan")) (no_sign (bytes_eq a (codes "#")) refl)
  where
    no_sign : (s : Bool) → bytes_eq a (codes "#") ≡ s → s ≡ false
    no_sign true is = absurd (false≢true (sym kept ∙ ap (λ (w : Word). is_skipped (w ∷ b ∷ d ∷ [])) ((bytes_eq-Decides a (codes "#")).0 is)))
    no_sign false is = refl

kind-line : (line : List ℕ) (ws : List Word) (more : List (List ℕ)) → words line ≡ ws → is_skipped ws ≡ false → kind_in (line ∷ more) ≡ kind_in more
kind-line line ws more e kept = cond-false (is_mark (words line)) _ _ (ap is_mark e ∙ no_mark ws kept)

kind-tail : (at : ℕ) (tail : Tail) → at ≤ 2 ^ 54 → tail.count < 2 ^ 64 → kind_in (slice_split (λ b. eqb b 10) (tail_text at tail)) ≡ Copy
unfolding words
kind-tail at tail few wide = by (eqb tail.count 0) refl
  where
    some-count : (n : ℕ) → eqb n 0 ≡ false → 1 ≤ n
    some-count zero e = cc
    some-count (suc n) e = omega arith

    by : (none : Bool) → eqb tail.count 0 ≡ none → kind_in (slice_split (λ b. eqb b 10) (tail_text at tail)) ≡ Copy
    by true e = ap (λ (t : List ℕ). kind_in (slice_split (λ b. eqb b 10) t)) (cond-true (eqb tail.count 0) _ _ e)
    by false e =
        let some : 1 ≤ tail.count = some-count tail.count e in
        ap (λ (t : List ℕ). kind_in (slice_split (λ b. eqb b 10) t)) (tail-line at tail few some wide ∙ sym (append-end (join_with_byte 32 (tail_words at tail) ++ 10 ∷ [])))
        ∙ ap kind_in (split-line (join_with_byte 32 (tail_words at tail)) [] (last-one at tail few some wide))
        ∙ kind-line (join_with_byte 32 (tail_words at tail)) (tail_words at tail) (slice_split (λ b. eqb b 10) []) (last-words at tail few some wide) (last-said at tail few some wide)

kind-runs : (at end : ℕ) (runs : List Run) (tail : Tail) → at + length (marks runs) ≤ 2 ^ 54 → end ≤ 2 ^ 54 → tail.count < 2 ^ 64
    → kind_in (slice_split (λ b. eqb b 10) (map_runs_text at runs ++ tail_text end tail)) ≡ Copy
unfolding words
kind-runs at end [] tail few low wide = kind-tail end tail low wide
kind-runs at end (run ∷ more) tail few low wide =
    let len = length-marks run more in
    let room : at + run.count ≤ 2 ^ 54 = omega (arith, len, few) in
    let line : List ℕ = join_with_byte 32 (run_words at run) in
    let later : List ℕ = map_runs_text (at + run.count) more ++ tail_text end tail in
    ap (λ (t : List ℕ). kind_in (slice_split (λ b. eqb b 10) t)) (append_assoc (line ++ 10 ∷ []) (map_runs_text (at + run.count) more) (tail_text end tail))
    ∙ ap kind_in (split-line line later (line-one at run room))
    ∙ kind-line line (run_words at run) (slice_split (λ b. eqb b 10) later) (line-words at run room) (line-said at run room)
    ∙ kind-runs (at + run.count) end more tail (omega (arith, len, few)) low wide

kind-blocks : (complete : Bool) (runs : List Run) (tail : Tail) → AreRuns runs → tail.count < 2 ^ 64 → kind_in (slice_split (λ b. eqb b 10) (blocks_text complete runs tail)) ≡ Copy
kind-blocks complete runs tail whole wide =
    let sectors : ℕ = length (marks runs) in
    let later : List ℕ = map_runs_text 0 runs ++ tail_text sectors tail in
    ap (λ (t : List ℕ). kind_in (slice_split (λ b. eqb b 10) t)) (append_assoc (status_text complete ++ 10 ∷ []) (map_runs_text 0 runs) (tail_text sectors tail))
    ∙ ap kind_in (split-line (status_text complete) later (head-one complete))
    ∙ kind-line (status_text complete) (codes "0" ∷ state-word complete ∷ []) (slice_split (λ b. eqb b 10) later) (head-words complete) refl
    ∙ kind-runs 0 sectors runs tail (omega (arith, whole.few)) whole.few wide

-- what was printed gives the runs back, by their letters, and the tail
pub map-read : (kind : MapKind) (no_scrape : Bool) (runs : List Run) (tail : Tail) → AreRuns runs → IsTail tail → map_of (length (marks runs)) (map_text kind no_scrape runs tail) ≡ Ok (told_map runs tail)
unfolding map_of map_text text_lines words
map-read Copy no_scrape runs tail whole is = map-parsed (is_complete no_scrape runs) runs tail whole is
map-read Scan no_scrape runs tail whole is =
    ap (λ (l : List (List ℕ)). blocks_behind (length (marks runs)) (said l) >>= (λ (blocks : List Block). Ok (parsed blocks))) (split-line scan_mark (blocks_text (is_complete no_scrape runs) runs tail) mark-one)
    ∙ map-parsed (is_complete no_scrape runs) runs tail whole is

-- and its kind
pub map-kind : (kind : MapKind) (no_scrape : Bool) (runs : List Run) (tail : Tail) → AreRuns runs → tail.count < 2 ^ 64 → kind_of (map_text kind no_scrape runs tail) ≡ kind
unfolding kind_of map_text text_lines
map-kind Copy no_scrape runs tail whole wide = kind-blocks (is_complete no_scrape runs) runs tail whole wide
map-kind Scan no_scrape runs tail whole wide =
    ap kind_in (split-line scan_mark (blocks_text (is_complete no_scrape runs) runs tail) mark-one)
    ∙ cond-true (is_mark (words scan_mark)) Scan (kind_in (slice_split (λ b. eqb b 10) (blocks_text (is_complete no_scrape runs) runs tail))) mark-is

runs_text-push : (at : ℕ) (runs : List Run) (run : Run) → map_runs_text at (runs ++ run ∷ []) ≡ map_runs_text at runs ++ map_run_text (at + length (marks runs)) run
runs_text-push at [] run = let here : at ≡ at + 0 = omega arith in append-end (map_run_text at run) ∙ ap (λ (n : ℕ). map_run_text n run) here
runs_text-push at (x ∷ more) run =
    let here : at + x.count + length (marks more) ≡ at + length (marks (x ∷ more)) = omega (arith, length-marks x more) in
    ap (λ (l : List ℕ). map_run_text at x ++ l) (runs_text-push (at + x.count) more run ∙ ap (λ (n : ℕ). map_runs_text (at + x.count) more ++ map_run_text n run) here)
    ∙ sym (append_assoc (map_run_text at x) (map_runs_text (at + x.count) more) (map_run_text (at + length (marks (x ∷ more))) run))

-- the text of the lines before those of a tail
abbrev pub front_text : MapKind → Bool → List Run → List ℕ
front_text kind complete runs = mark_text kind ++ ((status_text complete ++ 10 ∷ []) ++ map_runs_text 0 runs)

-- one run more
pub front_text-push : (kind : MapKind) (complete : Bool) (runs : List Run) (run : Run) → front_text kind complete runs ++ map_run_text (length (marks runs)) run ≡ front_text kind complete (runs ++ run ∷ [])
front_text-push kind complete runs run =
    let head : List ℕ = status_text complete ++ 10 ∷ [] in
    append_assoc (mark_text kind) (head ++ map_runs_text 0 runs) (map_run_text (length (marks runs)) run)
    ∙ ap (λ (l : List ℕ). mark_text kind ++ l) (append_assoc head (map_runs_text 0 runs) (map_run_text (length (marks runs)) run)
    ∙ ap (λ (l : List ℕ). head ++ l) (ap (λ (n : ℕ). map_runs_text 0 runs ++ map_run_text n run) zero-more ∙ sym (runs_text-push 0 runs run)))
  where
    zero-more : length (marks runs) ≡ 0 + length (marks runs)
    zero-more = omega arith

-- and the tail
pub map_text-end : (kind : MapKind) (no_scrape : Bool) (runs : List Run) (tail : Tail) → front_text kind (is_complete no_scrape runs) runs ++ tail_text (length (marks runs)) tail ≡ map_text kind no_scrape runs tail
unfolding map_text
map_text-end kind no_scrape runs tail = append_assoc (mark_text kind) ((status_text (is_complete no_scrape runs) ++ 10 ∷ []) ++ map_runs_text 0 runs) (tail_text (length (marks runs)) tail)
