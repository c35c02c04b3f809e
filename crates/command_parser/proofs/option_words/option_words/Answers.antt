use Rattle.command_parser.specs.CommandLines.{texts_in}
use Rattle.command_parser.proofs.option_words.option_words.Goals as goal

-- a path field by field, since each rw would go through the whole record
pub returns : goal.returns
unfolding texts_in
returns c = λ i. record {
  data_block = c.value.ensures i;
  hash_block = c.value-2.ensures i;
  blocks = c.value-3.ensures i;
  salt = c.value-4.ensures i;
  uuid = c.value-5.ensures i;
  cache = c.value-6.ensures i;
  first = c.value-7.ensures i;
  count = c.value-8.ensures i;
  hash_offset = c.value-9.ensures i;
  old_hash_offset = c.value-10.ensures i;
  root_hash_file = c.value-11.ensures i;
  name = c.value-12.ensures i;
  sector_size = c.value-13.ensures i;
  root = c.value-14.ensures i;
  map = c.value-15.ensures i;
  fec = c.value-16.ensures i;
  fec_roots = c.value-17.ensures i;
  pin = c.value-18.ensures i;
  old_pin = c.value-19.ensures i;
  old_root_hash_file = c.value-20.ensures i;
  runs = c.value-21.ensures i;
  retries = c.value-22.ensures i;
  kind = c.value-23.ensures i;
  arch = c.value-24.ensures i;
  draw_from = c.value-25.ensures i;
  all = c.is_there.ensures i;
  stack = c.is_there-2.ensures i;
  no_superblock = c.is_there-3.ensures i;
  grow = c.is_there-4.ensures i;
  differing = c.is_there-5.ensures i;
  no_scrape = c.is_there-6.ensures i;
  no_index = c.is_there-7.ensures i;
  progress = c.is_there-8.ensures i;
  json = c.is_there-9.ensures i;
  check = c.is_there-10.ensures i;
  linux = c.is_there-11.ensures i;
  chart = c.is_there-12.ensures i;
  tree = c.is_there-13.ensures i;
  quiet = c.is_there-14.ensures i;
  writable = c.is_there-15.ensures i;
  parity = c.is_there-16.ensures i;
  disk = c.is_there-17.ensures i;
}
