-- The four words are those of one record.
use Rattle.std.proofs.Common.{◌≡◌, ◌+◌, ◌*◌, ap, refl}
use denote.Enum.Declared.{tag_of}
use Rattle.writer.specs.contracts.Kind.{the_type}
use Rattle.writer.specs.declared.Kind.{Kind}
use Rattle.writer.specs.declared.Kind.TheVariants.{OpenC, OpenY, OpenX, LessCC, LessCY, LessCX, DivideByC, Close, ClosePivot, OpenRow, LessAX, DivideByA}
use Rattle.writer.specs.Kinds.{number_of}
use Rattle.writer.proofs.Written.{wrote_one}
use Rattle.writer.proofs.put.Goals as goal

number-cast : (kind : Kind) → tag_of the_type kind + 1 ≡ number_of kind
number-cast OpenC = refl
number-cast OpenY = refl
number-cast OpenX = refl
number-cast LessCC = refl
number-cast LessCY = refl
number-cast LessCX = refl
number-cast DivideByC = refl
number-cast Close = refl
number-cast ClosePivot = refl
number-cast OpenRow = refl
number-cast LessAX = refl
number-cast DivideByA = refl

pub returns : goal.returns
returns c = rw number-cast (wrote_one _ _ _ c.requires _ (ap (◌*◌ 4) c.wide-at.ensures))
