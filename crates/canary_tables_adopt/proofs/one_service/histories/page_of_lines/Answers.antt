use Rattle.std.proofs.Common.{◌≡◌, Err, length, sym, ap, subst, rules, ◌∙◌}
use Rattle.std.specs.List.{AllByRecursion}
use Rattle.canary_tables_read.specs.declared.fault.ReadFault.TheVariants.{Broken}
use Rattle.canary_tables_adopt.specs.HistoryLines.{IsLineRow}
use Rattle.canary_tables_adopt.proofs.one_service.histories.page_of_lines.Goals as goal

pub returns-in_err-rows-clause-broken : goal.returns-in_err-rows-clause-broken
returns-in_err-rows-clause-broken g c usable t has is judged =
    let broken : c.lines.result ≡ Err Broken = search rules in
    c.lines.ensures.broken usable t has broken judged.0.history

pub returns-in_err-are_lines-clause-broken : goal.returns-in_err-are_lines-clause-broken
returns-in_err-are_lines-clause-broken g c usable t has is judged =
    let broken : c.are_lines.result ≡ Err Broken = search rules in
    c.are_lines.ensures.broken broken (subst (AllByRecursion IsLineRow) (sym (c.as_slice.ensures ∙ c.in_ok-rows.ensures.found usable t has)) judged.1)

pub returns-clause-found : goal.returns-clause-found
returns-clause-found g c usable t has =
    let rows = c.in_ok-rows.ensures.found usable t has in
    record {
      lines = subst (AllByRecursion IsLineRow) (c.as_slice.ensures ∙ rows) c.in_ok-are_lines.ensures.lines;
      so_many = search rules;
    }
