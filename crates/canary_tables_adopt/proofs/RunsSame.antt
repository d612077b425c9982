-- There is one list of runs at most.
use Rattle.std.proofs.Common.{◌≡◌, ℕ, suc, List, sym, ◌∙◌}
use Rattle.canary_plan.specs.declared.strategy.CheckedStrategy.{CheckedStrategy}
use Rattle.canary_once.specs.declared.record.RunRecord.{RunRecord}
use Rattle.canary_tables_rows.specs.Tables.{Tables}
use Rattle.canary_tables_adopt.specs.OfService.{AreRunsOf}
use Rattle.canary_tables_adopt.proofs.PlacedLemmas.{same_list}
use Rattle.canary_tables_adopt.proofs.RunLemmas.{same_run}

pub same_runs : (t : Tables) (strategy : CheckedStrategy) (name : List ℕ) (count : ℕ) (runs others : List RunRecord) → AreRunsOf strategy name count t runs → AreRunsOf strategy name count t others → runs ≡ others
same_runs t strategy name count runs others first second =
    same_list runs others (first.as_many ∙ sym second.as_many) (λ k x y a b. same_run strategy name (suc k) t x y (first.each k x a) (second.each k y b))
