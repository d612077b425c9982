-- A run that is judged: its row, its tallies and its verdict.
use Rattle.std.proofs.Common.{◌≡◌, ℕ, zero, suc, ◌+◌, ◌<◌, ◌==◌, List, [], ◌∷◌, ◌++◌, length, Bool, true, false, refl, sym, ap, ◌∙◌, subst, arith, eqb-true}
use Rattle.std.specs.Prelude.{Option, Some, None, cond, ◌&&◌, filter, option_map, slice_get}
use Rattle.std.specs.Str.{bytes_eq}
use Rattle.std.proofs.lemmas.Slice.Eq.{bytes_eq-Decides}
use Rattle.canary_condition.specs.declared.outcome.Phase.{Phase}
use Rattle.canary_condition.specs.declared.outcome.Phase.TheVariants.{Running, Successful, Inconclusive, Error, Failed}
use Rattle.canary_condition.specs.PhaseTexts.{phase_of_number}
use Rattle.canary_metric.specs.Counts.{Counts}
use Rattle.canary_plan.specs.declared.analysis_parts.AnalysisParts.{AnalysisParts}
use Rattle.canary_plan.specs.declared.strategy.CheckedStrategy.{CheckedStrategy}
use Rattle.canary_release.specs.declared.effect.Closing.{Closing}
use Rattle.canary_once.specs.declared.record.RunRecord.{RunRecord}
use Rattle.canary_tables_rows.specs.declared.rows.ClosingColumns.{ClosingColumns}
use Rattle.canary_tables_rows.specs.declared.rows.RunRow.{RunRow}
use Rattle.canary_tables_rows.specs.Tables.{Tables, is_run}
use Rattle.canary_tables_contents.specs.Numbers.{bit, truth_of, phase_column}
use Rattle.canary_tables_contents.specs.Values.{ending_of, closing_of, closing_from}
use Rattle.canary_tables_contents.specs.Tables.{IsReadableClosing}
use Rattle.canary_tables_contents.specs.Finding.{record_closed, record_of_row}
use Rattle.canary_tables_contents.specs.Services.{row_of_record}
use Rattle.canary_tables_adopt.specs.OfService.{AreTalliesOf, IsRunOf, AreRunsOf, IsRunBy}
use Rattle.canary_tables_contents.specs.Recounted.{HasOwnVerdict}
use Rattle.canary_tables_adopt.specs.Bindings.{IsRunBound}
use Rattle.canary_tables_adopt.proofs.PlacedLemmas.{both, head_passes, same_tallies, some_at}

-- How a run was closed.

again : {A : Type 0} (back : A → ℕ) (n k : ℕ) (x : A) (rest : Option A) (y : A) → back x ≡ k → cond (n == k) (Some x) rest ≡ Some y → (rest ≡ Some y → back y ≡ n) → back y ≡ n
again back n k x rest y is e more =
    elim (n == k)
    as (λ b. (n == k) ≡ b → cond b (Some x) rest ≡ Some y → back y ≡ n) [
      | true ↦ λ same e. let one : x ≡ y = cc e in ap back (sym one) ∙ is ∙ sym (eqb-true n k same)
      | false ↦ λ other e. more e
    ] refl e

phase_again : (n : ℕ) (p : Phase) → phase_of_number n ≡ Some p → phase_column p ≡ n
phase_again n p e =
    again phase_column n 0 Running _ p refl e (λ e.
    again phase_column n 1 Successful _ p refl e (λ e.
    again phase_column n 2 Inconclusive _ p refl e (λ e.
    again phase_column n 3 Error _ p refl e (λ e.
    again phase_column n 4 Failed None p refl e (λ e. absurd (cc))))))

truth_again : (n : ℕ) (b : Bool) → truth_of n ≡ Some b → bit b ≡ n
truth_again n b e = again bit n 0 false _ b refl e (λ e. again bit n 1 true None b refl e (λ e. absurd (cc)))

truth_back : (b : Bool) → truth_of (bit b) ≡ Some b
truth_back true = refl
truth_back false = refl

some_same : {A : Type 0} (x y : A) → Some x ≡ Some y → x ≡ y
some_same x y e = cc e

open_read : (number outside verdict : ℕ) (c : Option Closing) (t : Bool) → (outside == 0) && (verdict == 0) ≡ t → cond t (Some None) None ≡ Some c → (ending_of c ≡ (record { closed = None; outside = outside; verdict = verdict })) × IsReadableClosing number c
open_read number outside verdict c true are e =
    let zeros = both (outside == 0) (verdict == 0) are in
    let is : None ≡ c = some_same None c e in
    let first : outside ≡ 0 = eqb-true outside 0 zeros.0 in
    let second : verdict ≡ 0 = eqb-true verdict 0 zeros.1 in
    subst (λ x. (ending_of x ≡ (record { closed = None; outside = outside; verdict = verdict })) × IsReadableClosing number x) is (λ i. record { closed = None; outside = sym first i; verdict = sym second i }, tt)
open_read number outside verdict c false are e = absurd (cc e)

closed_read : (number at outside verdict : ℕ) (c : Option Closing) (b : Option Bool) (p : Option Phase) → truth_of outside ≡ b → phase_of_number verdict ≡ p → closing_from number at b p ≡ Some c
    → (ending_of c ≡ (record { closed = Some at; outside = outside; verdict = verdict })) × IsReadableClosing number c
closed_read number at outside verdict c (Some b) (Some p) truth phase e =
    let x : Closing = record { run = number; at = at; outside = b; verdict = p } in
    let is : Some x ≡ c = some_same (Some x) c e in
    let first : bit b ≡ outside = truth_again outside b truth in
    let second : phase_column p ≡ verdict = phase_again verdict p phase in
    subst (λ y. (ending_of y ≡ (record { closed = Some at; outside = outside; verdict = verdict })) × IsReadableClosing number y) is
    (λ i. record { closed = Some at; outside = first i; verdict = second i }, (refl, ap phase_of_number second ∙ phase))
closed_read number at outside verdict c (Some b) None truth phase e = absurd (cc e)
closed_read number at outside verdict c None p truth phase e = absurd (cc e)

at_ending : (number : ℕ) (closed : Option ℕ) (outside verdict : ℕ) (c : Option Closing) → closing_of number (record { closed = closed; outside = outside; verdict = verdict }) ≡ Some c
    → (ending_of c ≡ (record { closed = closed; outside = outside; verdict = verdict })) × IsReadableClosing number c
at_ending number None outside verdict c e = open_read number outside verdict c ((outside == 0) && (verdict == 0)) refl e
at_ending number (Some at) outside verdict c e = closed_read number at outside verdict c (truth_of outside) (phase_of_number verdict) refl refl e

closing_read : (number : ℕ) (e : ClosingColumns) (c : Option Closing) → closing_of number e ≡ Some c → (ending_of c ≡ e) × IsReadableClosing number c
closing_read number e c is = at_ending number e.closed e.outside e.verdict c is

closing_back : (number : ℕ) (c : Option Closing) → IsReadableClosing number c → closing_of number (ending_of c) ≡ Some c
closing_back number None h = refl
closing_back number (Some x) h =
    ap (closing_from number x.at (truth_of (bit x.outside))) h.1
    ∙ ap (λ b. closing_from number x.at b (Some x.verdict)) (truth_back x.outside)
    ∙ (λ i. Some (Some (record { run = sym h.0 i; at = x.at; outside = x.outside; verdict = x.verdict })))

-- One run.

told_of : (row : RunRow) (analysis : AnalysisParts) (tallies : List Counts) (r : RunRecord) (o : Option (Option Closing)) → closing_of row.number row.ending ≡ o → option_map (record_closed row analysis tallies) o ≡ Some r
    → (closed : Option Closing) × (closing_of row.number row.ending ≡ Some closed) × (record_closed row analysis tallies closed ≡ r)
told_of row analysis tallies r (Some closed) is e = (closed, is, some_same (record_closed row analysis tallies closed) r e)
told_of row analysis tallies r None is e = absurd (cc e)

module _ (strategy : CheckedStrategy) (name : List ℕ) (number : ℕ) (t : Tables) where
  -- what is read of the one row, its rows of binding and the tallies is the run
  closed_run : (row : RunRow) (analysis : AnalysisParts) (tallies : List Counts) (closed : Option Closing) → filter (is_run name number) t.runs ≡ row ∷ [] → IsRunBound name number strategy row.step t analysis → AreTalliesOf name number t tallies
      → closing_of row.number row.ending ≡ Some closed → HasOwnVerdict (record_closed row analysis tallies closed) → IsRunOf strategy name number t (record_closed row analysis tallies closed)
  closed_run row analysis tallies closed one bound are read has =
      let passes : (bytes_eq name row.service ≡ true) × ((number == row.number) ≡ true) = both (bytes_eq name row.service) (number == row.number) (head_passes (is_run name number) row t.runs [] one) in
      let service : name ≡ row.service = (bytes_eq-Decides name row.service).0 passes.0 in
      let same : number ≡ row.number = eqb-true number row.number passes.1 in
      let ending = closing_read row.number row.ending closed read in
      let as_record : row ≡ row_of_record name (record_closed row analysis tallies closed) = λ i. record { service = sym service i; number = row.number; step = row.step; started = row.started; ending = sym ending.0 i } in
      let moved : AreTalliesOf name row.number t tallies = subst (λ n. AreTalliesOf name n t tallies) same are in
      let bound_there : IsRunBound name row.number strategy row.step t analysis = subst (λ n. IsRunBound name n strategy row.step t analysis) same bound in (
        sym same,
        record {
          one = subst (λ n. filter (is_run name n) t.runs ≡ row ∷ []) same one ∙ ap (λ (x : RunRow). x ∷ []) as_record;
          closed = ending.1;
          analysis = bound_there.is;
          bindings = bound_there.rows;
          tallies = moved.each;
          no_more = moved.no_more;
          verdict = has;
        },
      )

  pub run_told : (rows : List RunRow) (row : RunRow) (analysis : AnalysisParts) (tallies : List Counts) (r : RunRecord) → rows ≡ filter (is_run name number) t.runs → rows ≡ row ∷ [] → IsRunBound name number strategy row.step t analysis → AreTalliesOf name number t tallies
      → record_of_row analysis tallies row ≡ Some r → HasOwnVerdict r → IsRunOf strategy name number t r
  run_told rows row analysis tallies r are one bound counted told has =
      let found = told_of row analysis tallies r (closing_of row.number row.ending) refl told in
      subst (IsRunOf strategy name number t) found.2 (closed_run row analysis tallies found.0 (sym are ∙ one) bound counted found.1 (subst HasOwnVerdict (sym found.2) has))

  pub has_tallies : (r : RunRecord) → IsRunOf strategy name number t r → AreTalliesOf name number t r.tallies
  has_tallies r run = subst (λ n. AreTalliesOf name n t r.tallies) run.0 (record { each = run.1.tallies; no_more = run.1.no_more })

  -- its rows of binding bind it
  has_bindings : (r : RunRecord) → IsRunOf strategy name number t r → IsRunBound name number strategy r.step t r.analysis
  has_bindings r run = subst (λ n. IsRunBound name n strategy r.step t r.analysis) run.0 (record { is = run.1.analysis; rows = run.1.bindings })

  same_row : (a b : RunRow) → a ∷ [] ≡ b ∷ [] → a ≡ b
  same_row a b e = cc e

  -- the row is that of the run
  its_row : (rows : List RunRow) (row : RunRow) (r : RunRecord) → rows ≡ filter (is_run name number) t.runs → rows ≡ row ∷ [] → IsRunOf strategy name number t r → row ≡ row_of_record name r
  its_row rows row r are one run =
      let there : filter (is_run name number) t.runs ≡ row_of_record name r ∷ [] = subst (λ n. filter (is_run name n) t.runs ≡ row_of_record name r ∷ []) run.0 run.1.one in
      same_row row (row_of_record name r) (sym one ∙ are ∙ there)

  -- so that its step has an analysis, if some run is there
  pub bound_there : (rows : List RunRow) (row : RunRow) (r : RunRecord) → rows ≡ filter (is_run name number) t.runs → rows ≡ row ∷ [] → IsRunOf strategy name number t r → IsRunBound name number strategy row.step t r.analysis
  bound_there rows row r are one run = subst (λ (x : RunRow). IsRunBound name number strategy x.step t r.analysis) (sym (its_row rows row r are one run)) (has_bindings r run)

  same_analysis : (step : Option ℕ) (a b : AnalysisParts) → IsRunBound name number strategy step t a → IsRunBound name number strategy step t b → a ≡ b
  same_analysis step a b first second = some_same a b (sym first.is ∙ second.is)

  -- and is what is read of it
  pub run_read : (rows : List RunRow) (row : RunRow) (analysis : AnalysisParts) (tallies : List Counts) (r : RunRecord) → rows ≡ filter (is_run name number) t.runs → rows ≡ row ∷ [] → IsRunBound name number strategy row.step t analysis → AreTalliesOf name number t tallies
      → IsRunOf strategy name number t r → record_of_row analysis tallies row ≡ Some r
  run_read rows row analysis tallies r are one bound counted run =
      let is : row ≡ row_of_record name r = its_row rows row r are one run in
      let counts : tallies ≡ r.tallies = same_tallies name number t tallies r.tallies counted (has_tallies r run) in
      let analysed : analysis ≡ r.analysis = same_analysis row.step analysis r.analysis bound (bound_there rows row r are one run) in
      (λ i. record_of_row (analysed i) (counts i) (is i)) ∙ ap (option_map (record_closed (row_of_record name r) r.analysis r.tallies)) (closing_back r.number r.closed run.1.closed)

  pub same_run : (a b : RunRecord) → IsRunOf strategy name number t a → IsRunOf strategy name number t b → a ≡ b
  same_run a b first second =
      let there : filter (is_run name number) t.runs ≡ row_of_record name a ∷ [] = subst (λ n. filter (is_run name n) t.runs ≡ row_of_record name a ∷ []) first.0 first.1.one in
      let own : RunRow = row_of_record name a in
      let one : record_of_row a.analysis a.tallies own ≡ Some a = run_read (own ∷ []) own a.analysis a.tallies a (sym there) refl (has_bindings a first) (has_tallies a first) first in
      let other : record_of_row a.analysis a.tallies own ≡ Some b = run_read (own ∷ []) own a.analysis a.tallies b (sym there) refl (has_bindings a first) (has_tallies a first) second in
      some_same a b (sym one ∙ other)

-- What one row of a run makes, it makes alone.

module _ (name : List ℕ) (number : ℕ) (t : Tables) (row : RunRow) (analysis : AnalysisParts) (tallies : List Counts) (counted : AreTalliesOf name number t tallies) where
  same_told : (r : RunRecord) → IsRunBy name number row analysis t r → record_of_row analysis tallies row ≡ Some r
  same_told r by = ap (λ (xs : List Counts). record_of_row analysis xs row) (same_tallies name number t tallies by.tallies counted by.are) ∙ by.told

  pub untold : record_of_row analysis tallies row ≡ None → (r : RunRecord) → IsRunBy name number row analysis t r → ⊥
  untold none r by = let no_way : None ≡ Some r = sym none ∙ same_told r by in cc

  pub told_again : (made : RunRecord) → record_of_row analysis tallies row ≡ Some made → (r : RunRecord) → IsRunBy name number row analysis t r → HasOwnVerdict made
  told_again made told r by = subst HasOwnVerdict (some_same r made (sym (same_told r by) ∙ told)) by.verdict

-- Run after run.

at_end : (place : ℕ) (xs : List RunRecord) (x y : RunRecord) → slice_get (xs ++ x ∷ []) place ≡ Some y → (P : ℕ → RunRecord → Type 0) → ((k : ℕ) (z : RunRecord) → slice_get xs k ≡ Some z → P k z) → P (length xs) x → P place y
at_end zero [] x y e P each last = subst (P 0) (some_same x y e) last
at_end (suc place) [] x y e P each last = absurd (cc e)
at_end zero (z ∷ xs) x y e P each last = each 0 y e
at_end (suc place) (z ∷ xs) x y e P each last = at_end place xs x y e (λ k. P (suc k)) (λ k. each (suc k)) last

length_more : (xs : List RunRecord) (x : RunRecord) → length (xs ++ x ∷ []) ≡ suc (length xs)
length_more [] x = refl
length_more (y ∷ xs) x = ap suc (length_more xs x)

plus_one : (n : ℕ) → suc n ≡ n + 1
plus_one n = omega arith

module _ (strategy : CheckedStrategy) (name : List ℕ) (t : Tables) where
  pub no_runs : (found : List RunRecord) → found ≡ [] → AreRunsOf strategy name 0 t found
  no_runs found is = subst (AreRunsOf strategy name 0 t) (sym is) (record { as_many = refl; each = λ place r e. absurd (cc e) })

  pub one_run_more : (place : ℕ) (found more : List RunRecord) (r : RunRecord) → AreRunsOf strategy name place t found → IsRunOf strategy name (place + 1) t r → more ≡ found ++ r ∷ [] → AreRunsOf strategy name (place + 1) t more
  one_run_more place found more r so_far run is =
      let many : length (found ++ r ∷ []) ≡ place + 1 = length_more found r ∙ ap suc so_far.as_many ∙ plus_one place in
      subst (AreRunsOf strategy name (place + 1) t) (sym is) (record {
        as_many = many;
        each = λ k y e. at_end k found r y e (λ k z. IsRunOf strategy name (suc k) t z) so_far.each (subst (λ n. IsRunOf strategy name n t r) (sym (plus_one place) ∙ ap suc (sym so_far.as_many)) run);
      })

  pub run_among : (place count : ℕ) (runs : List RunRecord) → place < count → AreRunsOf strategy name count t runs → (r : RunRecord) × IsRunOf strategy name (place + 1) t r
  run_among place count runs below are = let there = some_at runs place (subst (λ n. place < n) (sym are.as_many) below) in (there.0, subst (λ n. IsRunOf strategy name n t there.0) (plus_one place) (are.each place there.0 there.1))
