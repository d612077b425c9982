use Rattle.std.proofs.Common.{rules, sym, subst}
use Rattle.std.proofs.lemmas.List.Sorted.{IsNonDecreasingBy-from_sort_by_key}
use Rattle.canary_tables_read.specs.Sorts.{Sorts, metric_of}
use Rattle.canary_tables_adopt.proofs.one_service.pages.by_metric.Goals as goal

pub returns : goal.returns
returns c =
    let rows = c.sort_by_key.new.self.items in
    let up = IsNonDecreasingBy-from_sort_by_key metric_of _ c.in_ok-sort_by_key.ensures.sorted (λ a r q k. search rules) in
    subst (Sorts metric_of c.args.tallies) (sym c.of.ensures) (subst (λ all. Sorts metric_of all rows) c.into_vec-rows.ensures (record { same = c.in_ok-sort_by_key.ensures.permutation; ascend = up }))
