use Rattle.std.proofs.Common.{◌≡◌, length}
use Rattle.std.specs.List.{list_all}
use Rattle.rescue_map.specs.Blocks.{map_block}
use Rattle.rescue_map.specs.Finished.{is_final_block}
use Rattle.rescue_map.specs.MapText.{said}
use Rattle.rescue_map.proofs.finished.are_final.Given as goal

abbrev pub invariant-lines : goal.invariant-lines
invariant-lines l = list_all (λ line. is_final_block l.again (map_block line)) (said l.lines) ≡ list_all (λ line. is_final_block l.again (map_block line)) (said l.fn.lines)

abbrev pub decreases-lines : goal.decreases-lines
decreases-lines l = length (said l.lines)
