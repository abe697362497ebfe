-- `putting::Page::put_word`: the bytes of the word up to here are put.
use Rattle.std.proofs.Common.{take}
use Rattle.putting.specs.Pages.{Adds}
use Rattle.putting.proofs.Page.put_word.Given as goal

abbrev pub invariant-loop-byte : goal.invariant-loop-byte
invariant-loop-byte l = Adds l.initial.self l.self (take l.byte-index l.word)
