use Rattle.std.proofs.Common.{refl}
use Rattle.command_line.specs.words.Diff.{diff_said}
use Rattle.command_line.proofs.words.diff.diff_words.Goals as goal

pub returns-in_ok-runs-in-Ok-new_root_of : goal.returns-in_ok-runs-in-Ok-new_root_of
unfolding diff_said
returns-in_ok-runs-in-Ok-new_root_of c =
    rw (c.in_ok-old_path.ensures, c.in_ok-old_word.ensures, c.in_ok-new_path.ensures, c.in_ok-new_word.ensures, c.in_ok-no_more.ensures, c.in_ok-both_stated.ensures) rw (c.in_ok-old_offset.ensures, c.in_ok-new_offset.ensures)
    rw (c.in-Ok.ensures, c.in-Ok-new_root_of.ensures, c.in_ok-runs-in-Ok-new_root_of.ensures) refl
