use Rattle.std.proofs.Common.{rules, ◌≡◌, ◌+◌, ◌<◌, ◌∙◌, ap, sym, arith}
use Rattle.std.proofs.lemmas.Bool.Decides.{Decides-eqb}
use Rattle.canary_metric.specs.Counts.{size}
use Rattle.canary_tables_contents.proofs.counting.is_next_of.Goals as goal
use Rattle.canary_tables_contents.proofs.counting.is_next_of.Goals.{then-not-full, else-not-full}

pub returns-then-next-measurements : goal.returns-then-next-measurements
returns-then-next-measurements c =
    let t = c.if-next-measurements.true in
    elim c.if-not-full.branch [
      | then-not-full w ↦
          (let test = sym w.value-is ∙ t in
          let counted = w.measurements.ensures.value in
          let room : size c.args.tally.now < 1000000 = search rules in
          let next : c.args.next.now.ordinal ≡ size c.args.tally.now + 1 = (Decides-eqb c.args.next.now.ordinal (w.measurements.result + 1)).0 test ∙ ap (λ n. n + 1) counted in
          (λ judged. (next, omega (arith, room), c.is_judged_by.ensures.0 judged), λ is. c.is_judged_by.ensures.1 is.2))
      | else-not-full w ↦ absurd cc
    ]
