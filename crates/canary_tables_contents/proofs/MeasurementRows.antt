-- Measurements that are all read are those of their rows.
use Rattle.std.proofs.Common.{◌≡◌, ℕ, List, [], ◌∷◌, true, Some, None, refl, sym, ap, ◌∙◌, subst}
use Rattle.std.specs.Prelude.{Option, map}
use Rattle.std.specs.Str.{bytes_eq}
use Rattle.std.specs.List.{AllByRecursion}
use Rattle.canary_condition.specs.declared.outcome.Phase.{Phase}
use Rattle.canary_condition.specs.declared.outcome.Outcome.{Outcome}
use Rattle.canary_condition.specs.PhaseTexts.{phase_of_number}
use Rattle.canary_condition.specs.OutcomeTexts.{outcome_in}
use Rattle.canary_release.specs.declared.effect.Recorded.{Recorded}
use Rattle.canary_tables_rows.specs.declared.rows.MeasurementRow.{MeasurementRow}
use Rattle.canary_tables_contents.specs.Values.{measurement_row, measurement_from, measurement_of_row}
use Rattle.canary_tables_contents.specs.Tables.{IsReadableMeasurement}
use Rattle.canary_tables_contents.proofs.Named.{equal_keys}
use Rattle.canary_tables_contents.proofs.RowTexts.{phase_again, outcome_again}

record IsOfMeasurement (row : MeasurementRow) (p : Option Phase) (o : Option Outcome) (x : Recorded) : Type 0 where
  phase : p ≡ Some x.phase
  outcome : o ≡ Some x.outcome
  run : x.run ≡ row.run
  metric : x.metric ≡ row.metric
  ordinal : x.ordinal ≡ row.ordinal
  taken : x.taken ≡ row.taken

of_measurement : (row : MeasurementRow) (p : Option Phase) (o : Option Outcome) (x : Recorded) → measurement_from row p o ≡ Some x → IsOfMeasurement row p o x
of_measurement row None o x e = absurd (cc)
of_measurement row (Some phase) None x e = absurd (cc)
of_measurement row (Some phase) (Some outcome) x e =
    let made : Recorded = record { run = row.run; metric = row.metric; ordinal = row.ordinal; taken = row.taken; outcome = outcome; phase = phase } in
    let same : made ≡ x = cc e in
    subst (IsOfMeasurement row (Some phase) (Some outcome)) same (record { phase = refl; outcome = refl; run = refl; metric = refl; ordinal = refl; taken = refl })

pub measurement_again : (name : List ℕ) (row : MeasurementRow) (x : Recorded) → name ≡ row.service → measurement_of_row row ≡ Some x → (measurement_row name x ≡ row) × IsReadableMeasurement x
measurement_again name row x own e =
    let of : IsOfMeasurement row (phase_of_number row.phase) (outcome_in row.outcome) x = of_measurement row (phase_of_number row.phase) (outcome_in row.outcome) x e in
    let phase = phase_again row.phase x.phase of.phase in
    let outcome = outcome_again row.outcome x.outcome of.outcome in (
      λ i. record { service = own i; run = of.run i; metric = of.metric i; ordinal = of.ordinal i; taken = of.taken i; phase = phase i; outcome = outcome i },
      record { phase = ap phase_of_number phase ∙ of.phase; outcome = ap outcome_in outcome ∙ of.outcome },
    )

heads : {A : Type 0} (x y : A) (xs ys : List A) → x ∷ xs ≡ y ∷ ys → x ≡ y
heads x y xs ys e = cc

tails : {A : Type 0} (x y : A) (xs ys : List A) → x ∷ xs ≡ y ∷ ys → xs ≡ ys
tails x y xs ys e = cc

-- rows of a service, each read
pub measurements_again : (name : List ℕ) (rows : List MeasurementRow) (xs : List Recorded) → AllByRecursion (λ (row : MeasurementRow). bytes_eq name row.service ≡ true) rows → map measurement_of_row rows ≡ map Some xs
    → (rows ≡ map (measurement_row name) xs) × AllByRecursion IsReadableMeasurement xs
measurements_again name [] [] own e = (refl, tt)
measurements_again name [] (x ∷ xs) own e = absurd (cc)
measurements_again name (row ∷ rows) [] own e = absurd (cc)
measurements_again name (row ∷ rows) (x ∷ xs) own e =
    let first : (measurement_row name x ≡ row) × IsReadableMeasurement x = measurement_again name row x (equal_keys name row.service own.0) (heads (measurement_of_row row) (Some x) (map measurement_of_row rows) (map Some xs) e) in
    let rest : (rows ≡ map (measurement_row name) xs) × AllByRecursion IsReadableMeasurement xs = measurements_again name rows xs own.1 (tails (measurement_of_row row) (Some x) (map measurement_of_row rows) (map Some xs) e) in
    (λ i. sym first.0 i ∷ rest.0 i, (first.1, rest.1))
