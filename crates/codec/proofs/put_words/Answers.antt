-- `codec::put_words` writes the words' bytes.
use Prim.Native.Nat.{◌*◌}
use native.Mathlib.Omega.{arith}
use mathlib.Core.Path.{◌≡◌, ap, ◌∙◌}
use lib.ListN.{get_or, length}
use Rattle.model.proofs.Bytes.{bytes_length}
use Rattle.codec.proofs.Turn.{copied, copied_all, word_stored, put-turn}
use Rattle.codec.proofs.put_words.Goals as goal

pub loop-k-preserved : goal.loop-k-preserved
loop-k-preserved c =
    let l = c.loop-k in
    let ws = c.args.words.now in
    ap (λ bytes. word_stored bytes (4 * l.k) (get_or ws l.k 0)) l.invariant ∙ put-turn ws c.args.bytes.now l.k (omega arith) (omega arith)

pub returns : goal.returns
returns c =
    let ws = c.args.words.now in
    let end : 4 * c.loop-k.k ≡ 4 * length ws = omega arith in
    c.loop-k.invariant ∙ ap (copied _ _) end ∙ copied_all _ _ _ (bytes_length ws)
