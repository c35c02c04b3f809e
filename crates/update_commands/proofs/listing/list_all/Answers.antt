use Rattle.std.proofs.Common.{◌∙◌, map, refl, sym}
use Rattle.std.proofs.lemmas.Bool.{true≢false}
use Rattle.verity_format.proofs.lemmas.DeviceLemmas.{only_read-none}
use Rattle.update_commands.proofs.ListingLemmas.{each-none}
use Rattle.update_commands.proofs.listing.list_all.Goals as goal

pub returns-then-no_index : goal.returns-then-no_index
returns-then-no_index g c = record {
  hash_read = only_read-none (g.H.BlockDev.state c.args.hash_dev.now);
  copies_read = each-none (map g.C.BlockDev.state c.args.hash_copies.now.items);
  unread = λ none. (refl, refl);
}

pub returns : goal.returns
returns g c = record {
  hash_read = c.list_old-own.ensures;
  copies_read = c.list_copies-copies.ensures;
  unread = λ none. absurd (true≢false (sym none ∙ c.if-no_index.false));
}
