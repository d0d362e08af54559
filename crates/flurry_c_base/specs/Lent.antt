-- What becomes of an address once what it lent comes back.
use base.Fml.{Fml}
use denote.Follow.{follows}
use denote.RattleType.{RattleType}
use denote.Ref.{MutBor}
use Rattle.flurry_c_base.specs.declared.byte_map.ByteMap.{ByteMap}
use Rattle.flurry_c_base.specs.declared.byte_set.ByteSet.{ByteSet}
use Rattle.flurry_c_base.specs.declared.bytes.Bytes.{Bytes}
use Rattle.flurry_c_base.specs.declared.held_byte_set.HeldByteSet.{HeldByteSet}
use Rattle.flurry_c_base.specs.declared.held_word_set.HeldWordSet.{HeldWordSet}
use Rattle.flurry_c_base.specs.declared.word_map.WordMap.{WordMap}
use Rattle.flurry_c_base.specs.declared.word_set.WordSet.{WordSet}
use Rattle.flurry_c_base.specs.declared.words.Words.{Words}

-- what is done to the value that is lent is done to the value behind the address
abbrev pub value_follows : (R X : RattleType) → (R.Denot → X.Denot → R.Denot) → MutBor R.Denot → MutBor X.Denot → Fml
value_follows R X with_value address value = follows R X address.ghost_name value.ghost_name (with_value address.now)

-- the same address with another map or set behind it
abbrev pub words_with : Words → WordMap → Words
words_with w m = record { at = w.at; alloc = w.alloc; map = m }

abbrev pub bytes_with : Bytes → ByteMap → Bytes
bytes_with b m = record { at = b.at; alloc = b.alloc; map = m }

abbrev pub word_set_with : HeldWordSet → WordSet → HeldWordSet
word_set_with w s = record { at = w.at; alloc = w.alloc; set = s }

abbrev pub byte_set_with : HeldByteSet → ByteSet → HeldByteSet
byte_set_with b s = record { at = b.at; alloc = b.alloc; set = s }
