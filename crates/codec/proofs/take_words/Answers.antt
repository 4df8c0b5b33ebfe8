-- `codec::take_words` makes the words of a file's bytes.
use Prim.Native.Nat.{◌/◌}
use native.Mathlib.Omega.{arith}
use mathlib.Core.Path.{◌≡◌, ap, ap₂, ◌∙◌}
use lib.ListN.{length, set}
use Rattle.model.proofs.Bytes.{words-length}
use Rattle.codec.proofs.Turn.{copied, copied_all, take-turn}
use Rattle.codec.proofs.take_words.Goals as goal

pub loop-k-preserved : goal.loop-k-preserved
loop-k-preserved c =
    let l = c.loop-k in
    ap₂ (λ words w. set words l.k w) l.invariant c.word_of.ensures ∙ take-turn c.args.bytes.now c.args.words.now l.k (omega arith) (omega arith)

pub returns : goal.returns
returns c =
    let bs = c.args.bytes.now in
    let end : c.loop-k.k ≡ length bs / 4 = omega arith in
    c.loop-k.invariant ∙ ap (copied _ _) end ∙ copied_all _ _ _ (words-length bs)
