-- The replies to options of the handshake.
use Rattle.std.specs.Prelude.{ℕ, List, [], ◌∷◌, ◌++◌}
use Rattle.nbd_protocol.specs.Numbers.{bytes32}
use Rattle.nbd_protocol.specs.declared.option_reply.Refusal.{Refusal}
use Rattle.nbd_protocol.specs.declared.option_reply.Refusal.TheVariants.{Unsupported, Invalid, Unknown, TooBig}

unfoldable pub reply_magic : List ℕ
reply_magic = 0 ∷ 3 ∷ 0xe8 ∷ 0x89 ∷ 4 ∷ 0x55 ∷ 0x65 ∷ 0xa9 ∷ []

-- the header of a reply with `count` bytes of data
abbrev pub reply_head : ℕ → ℕ → ℕ → List ℕ
reply_head option kind count = reply_magic ++ (bytes32 option ++ (bytes32 kind ++ bytes32 count))

abbrev pub acknowledged : ℕ → List ℕ
acknowledged option = reply_head option 1 0

-- the error reply to an option
abbrev pub refused : Refusal → ℕ → List ℕ
refused Unsupported option = reply_head option 0x80000001 0
refused Invalid option = reply_head option 0x80000003 0
refused Unknown option = reply_head option 0x80000006 0
refused TooBig option = reply_head option 0x80000009 0
