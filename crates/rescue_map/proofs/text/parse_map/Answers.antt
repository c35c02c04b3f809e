use Rattle.std.proofs.Common.{◌≡◌, ◌+◌, ◌*◌, List, length, Result, Ok, refl, sym, ap, ap₂, subst, ◌∙◌, arith}
use Rattle.dm_table.specs.Reading.{◌>>=◌}
use Rattle.dm_table.specs.Words.{words}
use Rattle.rescue_map.specs.declared.block.Block.{Block}
use Rattle.rescue_map.specs.declared.fault.MapFault.{MapFault}
use Rattle.rescue_map.specs.declared.tail.Tail.{Tail}
use Rattle.rescue_map.specs.Blocks.{block_at}
use Rattle.rescue_map.specs.Maps.{marks}
use Rattle.rescue_map.specs.MapText.{blocks_behind, blocks_from, map_of, parsed, said}
use Rattle.rescue_map.specs.Tails.{IsTail, block_runs}
use Rattle.rescue_map.proofs.ReadLemmas.{after, after-block, after-nil, blocks-line, exit_fault}
use Rattle.rescue_map.proofs.TailLemmas.{bytes-block, length-both, tail-is}
use Rattle.rescue_map.proofs.text.parse_map.Goals as goal

pub returns-in_err-take_status-clause-answer : goal.returns-in_err-take_status-clause-answer
unfolding map_of
returns-in_err-take_status-clause-answer c =
    let n = c.args.sectors in
    exit_fault _ _ _ c.from_residual.ensures.1 (λ is. let status = c.in_err-take_status.ensures.err in cc)
    (ap (λ (r : Result (List Block) MapFault). r >>= (λ (blocks : List Block). Ok (parsed blocks))) (ap (λ l. blocks_behind n (said l)) (sym c.new-lines.ensures) ∙ c.in_err-take_status.ensures.runs n))

pub lines-init : goal.lines-init
unfolding map_of
lines-init c =
    let n = c.args.sectors in
    let rest : Result (List Block) MapFault = blocks_from n 0 (said c.take_status.new.lines) in
    record {
      whole =
          ap (λ (r : Result (List Block) MapFault). r >>= (λ (blocks : List Block). Ok (parsed blocks))) (ap (λ l. blocks_behind n (said l)) (sym c.new-lines.ensures) ∙ c.in_ok-take_status.ensures.runs n)
          ∙ after-nil rest ∙ ap₂ (λ m t. after m t rest) (sym c.new-map.ensures) (sym c.none-tail.ensures);
      here = ap₂ (λ m t. length (marks m) * 512 + t.count) c.new-map.ensures c.none-tail.ensures;
      inside = omega arith;
      part = subst IsTail (sym c.none-tail.ensures) (record { part = omega arith; none = λ h. refl });
    }

pub lines-preserved : goal.lines-preserved
lines-preserved c =
    let n = c.args.sectors in
    let at = c.lines.at in
    let u = c.lines.invariant in
    let block : Block = c.in_ok-block.block in
    let more = said c.next_said.new.lines in
    let rest : Result (List Block) MapFault = blocks_from n (at + block.count) more in
    record {
      whole =
          u.whole ∙ ap (λ l. after c.lines.map c.lines.tail (blocks_from n at l)) c.in-Some.ensures
          ∙ ap (after c.lines.map c.lines.tail) (blocks-line n at (words c.in-Some.line.now) more c.in_ok-read_block.field-0 block (sym c.in_ok-read_block.ensures.value) (ap (λ m. block_at at m c.in_ok-read_block.field-0) (sym c.most_bytes-most.ensures) ∙ sym c.in_ok-block.ensures.value))
          ∙ after-block c.lines.map c.lines.tail block rest
          ∙ ap₂ (λ m t. after m t rest) (sym c.in_ok-tail.ensures.runs) (sym c.in_ok-tail.ensures.tail);
      here =
          let runs : length (marks c.push_block.new.map) ≡ length (marks c.lines.map) + length (marks (block_runs c.lines.tail block)) = ap (λ r. length (marks r)) c.in_ok-tail.ensures.runs ∙ length-both c.lines.map (block_runs c.lines.tail block) in
          let tail = ap (λ (t : Tail). t.count) c.in_ok-tail.ensures.tail in
          omega (arith, runs, tail, u.here, bytes-block c.lines.tail block u.part.part);
      inside = omega (arith, c.in_ok-block.ensures.room.1, c.most_bytes-most.ensures);
      part = subst IsTail (sym c.in_ok-tail.ensures.tail) (tail-is c.lines.tail block u.part.part c.in_ok-block.ensures.room.0);
    }
