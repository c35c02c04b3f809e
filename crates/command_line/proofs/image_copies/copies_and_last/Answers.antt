use Rattle.command_line.specs.FormatOptions.{texts_of}
use Rattle.command_line.specs.ImageCopies.{copies_and_last, copies_in_pairs, image_copy_record}
use Rattle.command_line.proofs.ImageCopyLemmas.{last-more, last-refused}
use Rattle.command_line.proofs.image_copies.copies_and_last.Goals as goal

pub returns-in_ok-push-in-Ok-clause-ok : goal.returns-in_ok-push-in-Ok-clause-ok
unfolding copies_and_last
returns-in_ok-push-in-Ok-clause-ok c = rw c.in_ok-push-in-Ok.ensures.ok (last-more (copies_in_pairs (texts_of c.args.words.now)) c.in-Ok.copies.items c.args.last c.in-Ok.ensures.ok)

pub returns-in-Err-clause-err : goal.returns-in-Err-clause-err
unfolding copies_and_last
returns-in-Err-clause-err c = last-refused (copies_in_pairs (texts_of c.args.words.now)) (image_copy_record c.args.last) c.in-Err.fault c.in-Err.ensures.err
