-- The bytes so far are put.
use Rattle.std.proofs.Common.{◌≡◌, take}
use Rattle.text.specs.Inner.{Puts}
use Rattle.text.proofs.inner.parts.Page.put_word.Given as goal

abbrev pub invariant-loop-byte : goal.invariant-loop-byte
invariant-loop-byte l = record { same : l.self.bytes.ghost_name ≡ l.initial.self.bytes.ghost_name; text : Puts l.initial.self (take l.byte-index l.word) l.self }
