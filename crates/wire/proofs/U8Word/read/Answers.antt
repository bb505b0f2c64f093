-- A byte is its own number. Assumes nothing.
use native.Mathlib.Omega.{arith}
use Rattle.wire.specs.Words.{word}
use Rattle.wire.proofs.U8Word.read.Goals as goal

pub returns : goal.returns
unfolding word
returns c = omega arith
