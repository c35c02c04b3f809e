use Rattle.std.proofs.Common.{ℕ, List, ◌++◌, ◌∙◌, ap, replicate}
use Rattle.disk_layout.specs.Mbrs.{mbr_bytes, protective_record}
use Rattle.disk_layout.specs.Numbers.{bytes32}
use Rattle.disk_layout.proofs.AppendLemmas.{append-three}
use Rattle.disk_layout.proofs.mbr.mbr_bytes.Goals as goal

pub returns-clause-ok : goal.returns-clause-ok
unfolding mbr_bytes
returns-clause-ok c =
    append-three (replicate 446 0) _ _ _ (protective_record c.args.sectors) (replicate 46 0) (bytes32 0xaa550000)
    (c.in_ok-push_record.ensures.ok ∙ ap (λ (l : List ℕ). l ++ protective_record c.args.sectors) c.in_ok-text.ensures.ok) c.in_ok-append.ensures.ok c.in_ok-push32.ensures.ok
