-- Options that belong together.
use Rattle.std.specs.Prelude.{◌&&◌, ◌||◌, not, Bool, codes, is_some, if◌then◌else◌}
use Rattle.command_line.specs.declared.misuse.Cause.TheVariants.{InSuperblock, Missing}
use Rattle.command_line.specs.FormatOptions.{OptionTexts}
use Rattle.command_line.specs.Misuses.{Reading, refuse_if, when}

-- an option of parity is given
unfoldable pub has_fec_value : OptionTexts → Bool
has_fec_value texts = is_some texts.fec || is_some texts.fec_roots

-- the table is to be printed, no stack, and yet a stack is to be writable
unfoldable pub is_writable_table : OptionTexts → Bool
is_writable_table texts = texts.writable && (not texts.stack && (not (is_some texts.root) && not (is_some texts.pin)))

-- parity is given, and yet no stack of a verity image is to be printed
unfoldable pub is_parity_alone : OptionTexts → Bool
is_parity_alone texts = is_some texts.fec && (not (is_some texts.root) && not (is_some texts.pin))

-- no option of the tree is given whose value the superblock holds
unfoldable pub in_superblock : OptionTexts → Reading (Unit {0})
in_superblock texts =
    when (refuse_if (is_some texts.data_block) (codes "--data-block") InSuperblock) (λ a.
    when (refuse_if (is_some texts.hash_block) (codes "--hash-block") InSuperblock) (λ b.
    when (refuse_if (is_some texts.blocks) (codes "--blocks") InSuperblock) (λ c.
    refuse_if (is_some texts.salt) (codes "--salt") InSuperblock)))

-- of a tree without a superblock the salt is given, of another one none of these options
unfoldable pub tree_stated : OptionTexts → Reading (Unit {0})
tree_stated texts = if texts.no_superblock then refuse_if (not (is_some texts.salt)) (codes "--salt") Missing else in_superblock texts

-- the number of data blocks and the salt are given, which no superblock says
unfoldable pub tree_given : OptionTexts → Reading (Unit {0})
tree_given texts =
    when (refuse_if (not (is_some texts.blocks)) (codes "--blocks") Missing) (λ a.
    refuse_if (not (is_some texts.salt)) (codes "--salt") Missing)

-- of a tree without a superblock these are given, of another one no option whose value the superblock holds
unfoldable pub table_stated : OptionTexts → Reading (Unit {0})
table_stated texts = if texts.no_superblock then tree_given texts else in_superblock texts
