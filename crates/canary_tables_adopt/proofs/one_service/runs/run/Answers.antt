use Rattle.std.proofs.Common.{◌∙◌, sym, subst, filter, rules}
use Rattle.std.proofs.lemmas.Result.{IfOk-weaker}
use Rattle.canary_tables_rows.specs.Tables.{is_tally_of}
use Rattle.canary_tables_read.specs.Sorts.{Sorts, metric_of}
use Rattle.canary_tables_adopt.proofs.RunLemmas.{run_told, has_tallies, bound_there, run_read}
use Rattle.canary_tables_adopt.proofs.one_service.runs.run.Goals as goal

pub returns-in_err-analysis-clause-broken : goal.returns-in_err-analysis-clause-broken
returns-in_err-analysis-clause-broken g c name number usable t stores judged given told within has =
    c.analysis.ensures.broken name number usable t stores judged (c.as_slice-bindings.ensures ∙ given.0.bindings, given.1) (search rules) within
    (has.0.analysis, bound_there c.args.strategy.now name number t c.as_slice.result.now c.in-Some.row has.0 (c.as_slice.ensures ∙ given.0.runs) c.in-Some.ensures.one has.1)

pub returns-clause-found : goal.returns-clause-found
returns-clause-found g c name number usable t stores given =
    let sorts = subst (Sorts metric_of (filter (is_tally_of name number) t.tallies)) (sym c.as_slice-2.ensures) given.0.tallies in
    let bound = c.in_ok-analysis.ensures.found name number usable t stores (c.as_slice-bindings.ensures ∙ given.0.bindings, given.1) in
    IfOk-weaker c.with_tallies.result _ _ (λ run by. (
      run_told c.args.strategy.now name number t c.as_slice.result.now c.in-Some.row c.in_ok-analysis.analysis by.tallies run (c.as_slice.ensures ∙ given.0.runs) c.in-Some.ensures.one bound.0 by.are by.told by.verdict,
      bound.1,
    )) (c.with_tallies.ensures.found t name number sorts)

pub returns-clause-broken : goal.returns-clause-broken
returns-clause-broken g c name number usable t stores judged given told within has =
    let sorts = subst (Sorts metric_of (filter (is_tally_of name number) t.tallies)) (sym c.as_slice-2.ensures) given.0.tallies in
    let bound = c.in_ok-analysis.ensures.found name number usable t stores (c.as_slice-bindings.ensures ∙ given.0.bindings, given.1) in
    let counted = has_tallies c.args.strategy.now name number t has.0 has.1 in
    c.with_tallies.ensures.broken t name number sorts told (
      has.0,
      record {
        tallies = has.0.tallies;
        are = counted;
        told = run_read c.args.strategy.now name number t c.as_slice.result.now c.in-Some.row c.in_ok-analysis.analysis has.0.tallies has.0 (c.as_slice.ensures ∙ given.0.runs) c.in-Some.ensures.one bound.0 counted has.1;
        verdict = has.1.1.verdict;
      },
    )
