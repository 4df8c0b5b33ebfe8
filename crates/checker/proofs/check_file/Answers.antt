-- `checker::check_file` is 18, then the check of the words.
use mathlib.Core.Path.{◌∙◌}
use Rattle.checker.proofs.Whole.{refused_18, file_checked}
use Rattle.checker.proofs.check_file.Goals as goal

pub returns-then-bytes-ne0 : goal.returns-then-bytes-ne0
returns-then-bytes-ne0 c = refused_18 c.args.bytes.now c.if-bytes-ne0.true

pub returns : goal.returns
returns c = c.check_records.ensures ∙ file_checked c.args.bytes.now c.if-bytes-ne0.false
