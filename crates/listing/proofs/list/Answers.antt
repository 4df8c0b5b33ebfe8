-- `listing::list` is safe: the records that the compiler wrote stand in the words.
use Rattle.std.proofs.Common.{sym}
use Rattle.model.proofs.Solving.{program-fits}
use Rattle.listing.proofs.list.Goals as goal

pub print_program-requires : goal.print_program-requires
print_program-requires g c =
    rw c.in-Ok.ensures.words (program-fits _ _ _ _ _ _ _ (sym c.in-Ok.ensures.answer))
