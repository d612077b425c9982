use Rattle.std.proofs.Common.{rules, sym, subst}
use Rattle.std.proofs.lemmas.List.Sorted.{IsNonDecreasingBy-from_sort_by_key}
use Rattle.canary_tables_read.specs.Sorts.{Sorts, number_of}
use Rattle.canary_tables_read.proofs.runs.by_number.Goals as goal

pub returns : goal.returns
returns c =
    let rows = c.sort_by_key.new.self.items in
    let up = IsNonDecreasingBy-from_sort_by_key number_of _ c.in_ok-sort_by_key.ensures.sorted (λ a r q k. search rules) in
    subst (Sorts number_of c.args.runs) (sym c.of.ensures) (subst (λ all. Sorts number_of all rows) c.into_vec-rows.ensures (record { same = c.in_ok-sort_by_key.ensures.permutation; ascend = up }))
