-- Values that are given or drawn from a generator.
use Rattle.std.specs.Prelude.{◌≡◌, ◌⊎◌, ℕ, List, Some, None, Result, Ok, Err, unwrap_or}
use Rattle.rand_core.specs.Stream.{Stream, fill_bytes}
use Rattle.uuid.specs.Parts.{v4_of_fill}
use Rattle.verity_format.specs.declared.formatting.FormatOptions.{FormatOptions}
use Rattle.command_line.specs.declared.image_options.ImageOptions.{ImageOptions}
use Rattle.image_commands.specs.declared.fault.ImageFault.{ImageFault}
use Rattle.image_commands.specs.declared.fault.ImageFault.TheVariants.{Random}
use Rattle.image_commands.specs.declared.random.NoRandomBytes.{NoRandomBytes}

-- what a call gives that makes a generator, and what it leaves
abbrev pub Gives : Type 0 → Type 0 → Type 1
Gives S G = S → Result G NoRandomBytes → S → Type 0

-- What makes generators, before and after a command: what a call gives, and what a proof sees of a generator, all that it
-- will answer.
pub record Drawing (S G : Type 0) : Type 1 where
  pub gives : Gives S G
  pub stream : G → Stream
  pub old : S
  pub new : S

abbrev pub drawing : {S G : Type 0} → Gives S G → (G → Stream) → S → S → Drawing S G
drawing gives stream old new = record { gives = gives; stream = stream; old = old; new = new }

-- the next 32 bytes
abbrev pub drawn_salt : Stream → List ℕ
drawn_salt stream = (fill_bytes 32 stream).0

-- a version 4 identifier of the 16 bytes after those of the salt
abbrev pub drawn_uuid : Stream → List ℕ
drawn_uuid stream = (v4_of_fill (fill_bytes 16 (fill_bytes 32 stream).1)).0

-- a salt or an identifier isn't given
abbrev pub NeedsDrawing : ImageOptions → Type 0
NeedsDrawing options = (options.salt ≡ None) ⊎ (options.uuid ≡ None)

-- one generator was made, and gives what isn't given
pub record IsDrawn {S G : Type 0} (d : Drawing S G) (options : ImageOptions) (given : FormatOptions) : Type 0 where
  pub generator : G
  pub made : d.gives d.old (Ok generator) d.new
  pub salt : given.salt ≡ unwrap_or options.salt (drawn_salt (d.stream generator))
  pub uuid : given.uuid ≡ unwrap_or options.uuid (drawn_uuid (d.stream generator))

-- both are given, and no generator was made
pub record IsGiven {S G : Type 0} (d : Drawing S G) (options : ImageOptions) (given : FormatOptions) : Type 0 where
  pub salt : options.salt ≡ Some given.salt
  pub uuid : options.uuid ≡ Some given.uuid
  pub same : d.new ≡ d.old

-- block sizes and the number of blocks are as they are given; salt and identifier too, or they are drawn
pub record AreGiven {S G : Type 0} (d : Drawing S G) (options : ImageOptions) (given : FormatOptions) : Type 0 where
  pub data_block : given.data_block ≡ options.data_block
  pub hash_block : given.hash_block ≡ options.hash_block
  pub blocks : given.blocks ≡ options.blocks
  pub others : IsGiven d options given ⊎ (NeedsDrawing options × IsDrawn d options given)

-- something has to be drawn, and there is no generator
pub record IsUndrawn {S G : Type 0} (d : Drawing S G) (options : ImageOptions) : Type 0 where
  pub missing : NeedsDrawing options
  pub refused : (fault : NoRandomBytes) × d.gives d.old (Err fault) d.new

-- ---- as a call sees them

-- the options are as they are given, or what isn't given was drawn
abbrev pub DrawsOptions : {T G : Type 0} → Gives T G → (G → Stream) → T → T → ImageOptions → FormatOptions → Type 0
DrawsOptions gives stream generators generators' options = AreGiven (drawing gives stream generators generators') options

abbrev pub FailsToDraw : {T G : Type 0} → Gives T G → (G → Stream) → T → T → ImageOptions → ImageFault → Type 0
FailsToDraw gives stream generators generators' options = λ fault. (fault ≡ Random) × IsUndrawn (drawing gives stream generators generators') options
