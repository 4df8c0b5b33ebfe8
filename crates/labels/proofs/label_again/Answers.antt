-- `labels::label_again` gives a label in range back, and 0 for any other.
use Rattle.std.proofs.Common.{ℕ, ◌≡◌, ap, ◌∙◌, rules, cond}
use Rattle.std.specs.Prelude.{Option, Some, None}
use Rattle.std.specs.Option.{option_map_or}
use Rattle.model.specs.Boundary.{label_number}
use Rattle.labels.specs.declared.Entry.{Entry}
use Rattle.model.specs.Label.{is_label, sought}
use Rattle.labels.specs.Located.{sought_of}
use Rattle.labels.proofs.Round.{label_of, label-again}
use Rattle.labels.proofs.label_again.Goals as goal

again : (N k : ℕ) (o : Option Entry) → sought_of o ≡ sought N k → option_map_or (λ p. label_number N p.row p.column) o 0 ≡ cond (is_label N k) k 0
again N k (Some p) e = ap (label_of N) e ∙ label-again N k
again N k None e = ap (label_of N) e ∙ label-again N k

pub returns : goal.returns
returns c =
    let e : c.map_or.result ≡ option_map_or (λ p. label_number c.args.n p.row p.column) c.place.result 0 = search rules in
    e ∙ again _ _ _ c.place.ensures
