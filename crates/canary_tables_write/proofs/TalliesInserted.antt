-- Tallies of a run, one after another.
use Rattle.std.proofs.Common.{◌≡◌, IsTrue, ℕ, zero, suc, ◌+◌, List, [], sym, ap, subst, ◌∙◌, arith}
use Rattle.sqlite.specs.State.{State, HasCleanDisk, Survives, KeepsCommit}
use Rattle.canary_metric.specs.Counts.{counts}
use Rattle.canary_tables_rows.specs.declared.rows.TallyRow.{TallyRow}
use Rattle.canary_tables_rows.specs.Tables.{Tables}
use Rattle.canary_tables_rows.specs.Changes.{with_tally}
use Rattle.canary_tables_schema.specs.Stores.{IsReady}
use Rattle.canary_tables_rows.specs.Changes.{tallies_opened}
use Rattle.canary_tables_write.proofs.Loops.{SoFar, then}

empty_tally : List ℕ → ℕ → ℕ → TallyRow
empty_tally name run metric = record { service = name; run = run; metric = metric; counts = counts [] }

one_more : (name : List ℕ) (run metric n last : ℕ) (t : Tables) → last ≡ metric + n → tallies_opened name run metric (suc n) t ≡ with_tally (empty_tally name run last) (tallies_opened name run metric n t)
unfolding empty_tally
one_more name run metric zero last t is =
    let e : metric ≡ last = omega (arith, is) in
    ap (λ m. with_tally (empty_tally name run m) t) e
one_more name run metric (suc n) last t is =
    let e : last ≡ suc metric + n = omega (arith, is) in
    one_more name run (suc metric) n last (with_tally (empty_tally name run metric) t) e

pub tally_more : (name : List ℕ) (run metric : ℕ) (old mid new : State) → SoFar (tallies_opened name run 0 metric) old mid
    → (HasCleanDisk new → (t : Tables) → IsReady mid t → IsReady new (with_tally (record { service = name; run = run; metric = metric; counts = counts [] }) t)) → (HasCleanDisk new → IsTrue mid.in_transaction → IsTrue new.in_transaction)
    → (HasCleanDisk new → IsTrue mid.in_transaction → KeepsCommit mid new) → Survives mid new (λ _. ⊥) → SoFar (tallies_opened name run 0 (metric + 1)) old new
unfolding empty_tally
tally_more name run metric old mid new h wrote live kept survives =
    let next : metric + 1 ≡ suc metric = omega arith in
    let place : metric ≡ 0 + metric = omega arith in
    subst (λ change. SoFar change old new) (λ i t. sym (ap (λ n. tallies_opened name run 0 n t) next ∙ one_more name run 0 metric metric t place) i) (then (tallies_opened name run 0 metric) (with_tally (empty_tally name run metric)) old mid new h wrote live kept survives)
