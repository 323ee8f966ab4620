-- The front of a table is the table, cut to what counts.
use Rattle.std.proofs.Common.{◌≡◌, min, take, length, ap, ◌∙◌, arith}
use Rattle.std.proofs.lemmas.List.{take_min}
use Rattle.networks.proofs.grid.used.Goals as goal

pub returns-clause-front : goal.returns-clause-front
returns-clause-front g c =
    let n : c.min.result ≡ min 1024 (length c.args.records.now) = omega (arith, c.min.ensures) in
    ap (λ k. take k c.args.records.now) n ∙ take_min 1024 c.args.records.now
