-- Tables that have the same rows of pasts.
use Rattle.std.proofs.Common.{◌≡◌, ℕ, suc, List, ap, ◌∙◌}
use Rattle.std.specs.Prelude.{filter}
use Rattle.canary_release.specs.Pasts.{Past}
use Rattle.canary_tables_rows.specs.Tables.{Tables, is_binding, is_run, is_tally, is_measurement_of, is_line_of}
use Rattle.canary_tables_contents.proofs.PastRows.{ArePastRows, AreOthersRows}

-- the tables of pasts and of bindings are the same
pub record HaveSamePasts (old new : Tables) : Type 0 where
  pub bindings : new.bindings ≡ old.bindings
  pub runs : new.runs ≡ old.runs
  pub tallies : new.tallies ≡ old.tallies
  pub measurements : new.measurements ≡ old.measurements
  pub history : new.history ≡ old.history

-- a past whose rows stay is there still
pub others_kept : (old new : Tables) (name : List ℕ) (p : Past) → AreOthersRows old new name → ArePastRows old name p → ArePastRows new name p
others_kept old new name p same are = record {
  runs = λ number. same.runs number ∙ are.runs number;
  bindings = λ place template. same.bindings place template ∙ are.bindings place template;
  tallies = λ number metric. same.tallies number metric ∙ are.tallies number metric;
  measurements = same.measurements ∙ are.measurements;
  history = same.history ∙ are.history;
}

pub pasts_kept : (old new : Tables) (name : List ℕ) (p : Past) → HaveSamePasts old new → ArePastRows old name p → ArePastRows new name p
pasts_kept old new name p same are =
    others_kept old new name p
    (record {
      runs = λ number. ap (filter (is_run name number)) same.runs;
      bindings = λ place template. ap (filter (is_binding name (suc place) template)) same.bindings;
      tallies = λ number metric. ap (filter (is_tally name number metric)) same.tallies;
      measurements = ap (filter (is_measurement_of name)) same.measurements;
      history = ap (filter (is_line_of name)) same.history;
    })
    are
