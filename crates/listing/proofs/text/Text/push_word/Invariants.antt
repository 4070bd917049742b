use Rattle.std.proofs.Common.{take}
use Rattle.listing.specs.Growth.{Wrote}
use Rattle.listing.proofs.text.Text.push_word.Given as goal

abbrev pub invariant-loop-letter : goal.invariant-loop-letter
invariant-loop-letter l = Wrote l.letter-index l.initial.self l.self (take l.letter-index l.word)
