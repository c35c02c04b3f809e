-- What a test states about the files that it opens.
use Rattle.image_files.specs.Opener.{Opener}

-- nothing
abbrev pub any_relations : {S D : Type 0} → Opener S D
any_relations = record {
  opens = λ old path writable outcome new. Unit {0};
  opens_part = λ old path writable part outcome new. Unit {0};
  narrows = λ old device part narrowed new. Unit {0};
  lacks = λ old device lost lacking new. Unit {0};
  tells = λ old path most outcome new. Unit {0};
  takes = λ old path device new. Unit {0};
  takes_part = λ old path part device new. Unit {0};
  grows = λ old path sectors outcome new. Unit {0};
  shrinks = λ old path sectors outcome new. Unit {0};
  measures = λ old path outcome new. Unit {0};
  compares = λ old path other outcome new. Unit {0};
  replaces = λ old path bytes outcome new. Unit {0};
  tries = λ old path outcome new. Unit {0};
}
