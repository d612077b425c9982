-- Measurements that are counted page by page.
use Rattle.std.proofs.Common.{◌≡◌, ℕ, zero, suc, ◌+◌, ◌<◌, ◌≤◌, List, [], ◌∷◌, ◌++◌, length, map, take, drop, get_or, refl, sym, ap, ap₂, ◌∙◌, subst, arith}
use Rattle.std.specs.Prelude.{Option, Some, None}
use Rattle.std.proofs.lemmas.List.{map-append, take_more, take_all, drop_more}
use Rattle.sqlite.specs.State.{State}
use Rattle.canary_metric.specs.Metrics.{MetricValue}
use Rattle.canary_metric.specs.Counts.{Counts}
use Rattle.canary_release.specs.declared.effect.Recorded.{Recorded}
use Rattle.canary_release.specs.declared.state.ServiceState.{ServiceState}
use Rattle.canary_once.specs.declared.record.RunRecord.{RunRecord}
use Rattle.canary_tables_rows.specs.declared.rows.MeasurementRow.{MeasurementRow}
use Rattle.canary_tables_rows.specs.declared.rows.ServiceRow.{ServiceRow}
use Rattle.canary_tables_rows.specs.Tables.{Tables}
use Rattle.canary_tables_schema.specs.Stores.{IsUsable, Stores}
use Rattle.canary_tables_contents.specs.Values.{measurement_of_row}
use Rattle.canary_tables_contents.specs.Counting.{IsNext, AreCounted, none_counted, counted_at, counted_all}
use Rattle.canary_tables_contents.specs.Services.{metrics_of_runs}
use Rattle.canary_tables_contents.specs.Recounted.{AreTallied}
use Rattle.canary_tables_read.specs.Finds.{IsSame}
use Rattle.canary_tables_read.specs.Chosen.{measurements_of}
use Rattle.canary_tables_adopt.specs.Measured.{AreCountedTo, AreMeasured, IsSoFar, IsPageCounted, page_after}
use Rattle.canary_tables_adopt.specs.OfService.{AreRunsOf, AreMeasurementsOf}
use Rattle.canary_tables_adopt.specs.OneService.{IsPastJudged}
use Rattle.canary_tables_adopt.specs.declared.one_service.measured.SoFar.{SoFar}
use Rattle.canary_tables_adopt.proofs.HistoryLemmas.{read_all}
use Rattle.canary_tables_adopt.proofs.JudgedPasts.{tallied_there}
use Rattle.canary_tables_adopt.proofs.Standing.{same_then, stores_then}

-- A list in two parts.

pub parts : {X : Type 0} (n : ℕ) (xs : List X) → take n xs ++ drop n xs ≡ xs
parts zero xs = refl
parts (suc n) [] = refl
parts (suc n) (x ∷ xs) = ap (λ ys. x ∷ ys) (parts n xs)

-- Rows, one part after another.

module _ (runs : List (List MetricValue)) where
  pub split : (xs ys : List MeasurementRow) (a c : List (List Counts)) → AreCountedTo runs a (xs ++ ys) c → (b : List (List Counts)) × AreCountedTo runs a xs b × AreCountedTo runs b ys c
  split [] ys a c h = (a, refl, h)
  split (x ∷ xs) ys a c h = let r = split xs ys (counted_at h.0 a) c h.3 in (r.0, (h.0, h.1, h.2, r.1), r.2)

  pub join : (xs ys : List MeasurementRow) (a b c : List (List Counts)) → AreCountedTo runs a xs b → AreCountedTo runs b ys c → AreCountedTo runs a (xs ++ ys) c
  join [] ys a b c first second = subst (λ start. AreCountedTo runs start ys c) (sym first) second
  join (x ∷ xs) ys a b c first second = (first.0, first.1, first.2, join xs ys (counted_at first.0 a) b c first.3 second)

  one_value : (o : Option Recorded) (x y : Recorded) → o ≡ Some x → o ≡ Some y → x ≡ y
  one_value o x y a b = let same : Some x ≡ Some y = sym a ∙ b in cc

  pub same_end : (xs : List MeasurementRow) (a b c : List (List Counts)) → AreCountedTo runs a xs b → AreCountedTo runs a xs c → b ≡ c
  same_end [] a b c h k = sym h ∙ k
  same_end (x ∷ xs) a b c h k =
      let same : h.0 ≡ k.0 = one_value (measurement_of_row x) h.0 k.0 h.1 k.1 in
      same_end xs (counted_at h.0 a) b c h.3 (subst (λ y. AreCountedTo runs (counted_at y a) xs c) (sym same) k.3)

  -- if the first rows lead to counts, what is next leads on from these
  pub leads_on : (front next rest : List MeasurementRow) (a b c : List (List Counts)) → AreCountedTo runs a front b → AreCountedTo runs a (front ++ (next ++ rest)) c → (d : List (List Counts)) × AreCountedTo runs b next d
  leads_on front next rest a b c first whole =
      let one = split front (next ++ rest) a c whole in
      let same : one.0 ≡ b = same_end front a one.0 b one.1 first in
      let two = split next rest one.0 c one.2 in
      (two.0, subst (λ start. AreCountedTo runs start next two.0) same two.1)

  pub told : (rows : List MeasurementRow) (a c : List (List Counts)) → AreCountedTo runs a rows c → (ms : List Recorded) × (map measurement_of_row rows ≡ map Some ms) × AreCounted runs a ms × (c ≡ counted_all a ms)
  told [] a c h = ([], refl, tt, sym h)
  told (row ∷ rows) a c h =
      let r = told rows (counted_at h.0 a) c h.3 in
      (h.0 ∷ r.0, ap₂ (λ first others. first ∷ others) h.1 r.1, (h.2, r.2), r.3)

  pub untold : (rows : List MeasurementRow) (ms : List Recorded) (a : List (List Counts)) → map measurement_of_row rows ≡ map Some ms → AreCounted runs a ms → AreCountedTo runs a rows (counted_all a ms)
  untold [] [] a e h = refl
  untold [] (m ∷ ms) a e h = absurd (cc e)
  untold (row ∷ rows) [] a e h = absurd (cc e)
  untold (row ∷ rows) (m ∷ ms) a e h =
      let here : measurement_of_row row ≡ Some m = cc e in
      let later : map measurement_of_row rows ≡ map Some ms = cc e in
      (m, here, h.0, untold rows ms (counted_at m a) later h.1)

  -- One row.

  pub row_counted : (row : MeasurementRow) (a b : List (List Counts)) (x : Recorded) → measurement_of_row row ≡ Some x → IsNext runs a x → b ≡ counted_at x a → AreCountedTo runs a (row ∷ []) b
  row_counted row a b x is next same = (x, is, next, sym same)

  pub row_unread : (row : MeasurementRow) (a b : List (List Counts)) → measurement_of_row row ≡ None → AreCountedTo runs a (row ∷ []) b → ⊥
  row_unread row a b none h = let no_way : None ≡ Some h.0 = sym none ∙ h.1 in cc

  pub row_refused : (row : MeasurementRow) (a b : List (List Counts)) (x : Recorded) → measurement_of_row row ≡ Some x → (IsNext runs a x → ⊥) → AreCountedTo runs a (row ∷ []) b → ⊥
  row_refused row a b x is no_next h = no_next (subst (IsNext runs a) (one_value (measurement_of_row row) h.0 x h.1 is) h.2)

  -- The rows of a page, each in something.

  module _ {X : Type 0} (row : X → MeasurementRow) where
    pub rows_more : (rows : List X) (i : ℕ) (x : X) (a b c : List (List Counts)) → i < length rows → x ≡ get_or rows i x → AreCountedTo runs a (map row (take i rows)) b → AreCountedTo runs b (row x ∷ []) c → AreCountedTo runs a (map row (take (i + 1) rows)) c
    rows_more rows i x a b c lt at before one =
        subst (λ xs. AreCountedTo runs a xs c) (sym (ap (map row) (take_more rows i x lt ∙ ap (λ (y : X). take i rows ++ y ∷ []) (sym at)) ∙ map-append row (take i rows) (x ∷ []))) (join (map row (take i rows)) (row x ∷ []) a b c before one)

    pub rows_refused : (rows : List X) (i : ℕ) (x : X) (a b last : List (List Counts)) → i < length rows → x ≡ get_or rows i x → AreCountedTo runs a (map row (take i rows)) b → ((c : List (List Counts)) → AreCountedTo runs b (row x ∷ []) c → ⊥) → AreCountedTo runs a (map row rows) last → ⊥
    rows_refused rows i x a b last lt at before none whole =
        let here : x ∷ drop (i + 1) rows ≡ drop i rows = ap (λ (y : X). y ∷ drop (i + 1) rows) at ∙ sym (drop_more rows i x lt) in
        let cut : take i rows ++ (x ∷ drop (i + 1) rows) ≡ rows = ap (λ ys. take i rows ++ ys) here ∙ parts i rows in
        let all : map row (take i rows) ++ (row x ∷ map row (drop (i + 1) rows)) ≡ map row rows = sym (map-append row (take i rows) (x ∷ drop (i + 1) rows)) ∙ ap (map row) cut in
        let on = leads_on (map row (take i rows)) (row x ∷ []) (map row (drop (i + 1) rows)) a b last before (subst (λ xs. AreCountedTo runs a xs last) (sym all) whole) in
        none on.0 on.1

    pub rows_all : (rows : List X) (i : ℕ) (a b : List (List Counts)) → length rows ≤ i → AreCountedTo runs a (map row (take i rows)) b → AreCountedTo runs a (map row rows) b
    rows_all rows i a b all h = subst (λ xs. AreCountedTo runs a (map row xs) b) (take_all i rows all) h

-- Pages of a list.

none_taken : {X : Type 0} (n : ℕ) (xs : List X) → xs ≡ [] → take n xs ≡ []
none_taken zero xs is = refl
none_taken (suc n) [] is = refl
none_taken (suc n) (x ∷ xs) is = absurd (cc is)

taken_again : {X : Type 0} (m : ℕ) (xs : List X) → take (length (take m xs)) xs ≡ take m xs
taken_again zero xs = refl
taken_again (suc m) [] = refl
taken_again (suc m) (x ∷ xs) = ap (λ ys. x ∷ ys) (taken_again m xs)

pub page_more : {X : Type 0} (n most : ℕ) (xs : List X) → take (n + length (take most (drop n xs))) xs ≡ take n xs ++ take most (drop n xs)
page_more zero most xs = let on : 0 + length (take most xs) ≡ length (take most xs) = omega arith in ap (λ k. take k xs) on ∙ taken_again most xs
page_more (suc n) most [] = none_taken _ [] refl ∙ sym (none_taken most [] refl)
page_more (suc n) most (x ∷ xs) =
    let on : suc n + length (take most (drop n xs)) ≡ suc (n + length (take most (drop n xs))) = omega arith in
    ap (λ k. take k (x ∷ xs)) on ∙ ap (λ ys. x ∷ ys) (page_more n most xs)

fewer : {X : Type 0} (m : ℕ) (xs : List X) → length (take m xs) < m → length xs ≡ length (take m xs)
fewer zero xs lt = absurd (let no_way : ⊥ = omega (arith, lt) in no_way)
fewer (suc m) [] lt = refl
fewer (suc m) (x ∷ xs) lt = ap suc (fewer m xs (omega (arith, lt)))

at_most : {X : Type 0} (m : ℕ) (xs : List X) → length (take m xs) ≤ length xs
at_most zero xs = omega arith
at_most (suc m) [] = omega arith
at_most (suc m) (x ∷ xs) = let less = at_most m xs in omega (arith, less)

both_lengths : {X : Type 0} (n : ℕ) (xs : List X) → n ≤ length xs → n + length (drop n xs) ≡ length xs
both_lengths zero xs le = omega arith
both_lengths (suc n) [] le = absurd (let no_way : ⊥ = omega (arith, le) in no_way)
both_lengths (suc n) (x ∷ xs) le = let rest = both_lengths n xs (omega (arith, le)) in omega (arith, rest)

pub page_within : {X : Type 0} (n most : ℕ) (xs : List X) → n ≤ length xs → n + length (take most (drop n xs)) ≤ length xs
page_within n most xs le = let both = both_lengths n xs le in let some = at_most most (drop n xs) in omega (arith, both, some)

pub last_page : {X : Type 0} (n most : ℕ) (xs : List X) → n ≤ length xs → length (take most (drop n xs)) < most → n + length (take most (drop n xs)) ≡ length xs
last_page n most xs le few = let both = both_lengths n xs le in let all = fewer most (drop n xs) few in omega (arith, both, all)

-- Pages of a service's measurements.

abbrev none_of : List RunRecord → List (List Counts)
none_of runs = none_counted (metrics_of_runs runs)

-- those so far are counted, and nothing was changed
pub record MeasuredSoFar (name : List ℕ) (runs : List RunRecord) (so_far : SoFar) (old now : State) : Type 0 where
  pub same : IsSame old now
  pub value : IsUsable now → (t : Tables) → Stores old t → IsSoFar name runs t so_far

pub none_so_far : (name : List ℕ) (runs : List RunRecord) (so_far : SoFar) (old : State) → so_far.counts ≡ none_counted (metrics_of_runs runs) → so_far.count ≡ 0 → MeasuredSoFar name runs so_far old old
none_so_far name runs so_far old counts count = record {
  same = λ usable. (usable, refl);
  value = λ usable t has. record {
    within = omega (arith, count);
    counted = subst (λ n. AreCountedTo (metrics_of_runs runs) (none_of runs) (take n (measurements_of name t)) so_far.counts) (sym count) (sym counts);
  };
}

one_page_more : (name : List ℕ) (runs : List RunRecord) (most : ℕ) (t : Tables) (before after : SoFar) → IsSoFar name runs t before → IsPageCounted name runs most before t after → IsSoFar name runs t after
one_page_more name runs most t before after so_far page =
    let all : List MeasurementRow = measurements_of name t in
    record {
      within = subst (λ n. n ≤ length all) (sym page.count) (page_within before.count most all so_far.within);
      counted = subst (λ xs. AreCountedTo (metrics_of_runs runs) (none_of runs) xs after.counts) (sym (ap (λ n. take n all) page.count ∙ page_more before.count most all))
          (join (metrics_of_runs runs) (take before.count all) (page_after name most before.count t) (none_of runs) before.counts after.counts so_far.counted page.counted);
    }

pub pages_more : (name : List ℕ) (runs : List RunRecord) (most : ℕ) (before after : SoFar) (old between new : State) → MeasuredSoFar name runs before old between → IsSame between new
    → (IsUsable new → (t : Tables) → Stores between t → IsPageCounted name runs most before t after) → MeasuredSoFar name runs after old new
pages_more name runs most before after old between new so_far same page =
    record {
      same = same_then old between new so_far.same same;
      value = λ usable t has.
          let mid = (same usable).0 in
          one_page_more name runs most t before after (so_far.value mid t has) (page usable t (stores_then old between t so_far.same mid has));
    }

-- if all are measured, so is the page that comes next
pub next_page : (name : List ℕ) (runs : List RunRecord) (most : ℕ) (t : Tables) (before : SoFar) → IsSoFar name runs t before → AreMeasured name runs t → (after : SoFar) × IsPageCounted name runs most before t after
next_page name runs most t before so_far measured =
    let all : List MeasurementRow = measurements_of name t in
    let page : List MeasurementRow = page_after name most before.count t in
    let cut : take before.count all ++ (page ++ drop most (drop before.count all)) ≡ all = ap (λ ys. take before.count all ++ ys) (parts most (drop before.count all)) ∙ parts before.count all in
    let on = leads_on (metrics_of_runs runs) (take before.count all) page (drop most (drop before.count all)) (none_of runs) before.counts (map (λ (r : RunRecord). r.tallies) runs) so_far.counted
    (subst (λ xs. AreCountedTo (metrics_of_runs runs) (none_of runs) xs (map (λ (r : RunRecord). r.tallies) runs)) (sym cut) measured) in
    (record { counts = on.0; count = before.count + length page; place = None }, record { counted = on.1; count = refl })

-- after the last page
module _ (name : List ℕ) (runs : List RunRecord) (most : ℕ) (t : Tables) (before after : SoFar) (so_far : IsSoFar name runs t before) (page : IsPageCounted name runs most before t after) (few : length (page_after name most before.count t) < most) where
  whole_count : after.count ≡ length (measurements_of name t)
  whole_count = page.count ∙ last_page before.count most (measurements_of name t) so_far.within few

  whole_counted : AreCountedTo (metrics_of_runs runs) (none_of runs) (measurements_of name t) after.counts
  whole_counted =
      let last = one_page_more name runs most t before after so_far page in
      subst (λ xs. AreCountedTo (metrics_of_runs runs) (none_of runs) xs after.counts) (take_all after.count (measurements_of name t) (omega (arith, whole_count))) last.counted

  pub all_measured : map (λ (r : RunRecord). r.tallies) runs ≡ after.counts → AreMeasured name runs t × (after.count ≡ length (measurements_of name t))
  all_measured tallied = (subst (AreCountedTo (metrics_of_runs runs) (none_of runs) (measurements_of name t)) (sym tallied) whole_counted, whole_count)

  pub tallies_there : AreMeasured name runs t → map (λ (r : RunRecord). r.tallies) runs ≡ after.counts
  tallies_there measured = same_end (metrics_of_runs runs) (measurements_of name t) (none_of runs) (map (λ (r : RunRecord). r.tallies) runs) after.counts measured whole_counted

-- Measurements that are counted are those of the definition.

pub are_measurements : (name : List ℕ) (runs : List RunRecord) (t : Tables) → AreMeasured name runs t → (ms : List Recorded) × AreMeasurementsOf name t ms × AreTallied runs ms
are_measurements name runs t measured =
    let it = told (metrics_of_runs runs) (measurements_of name t) (none_of runs) (map (λ (r : RunRecord). r.tallies) runs) measured in
    (it.0, read_all measurement_of_row (measurements_of name t) (measurements_of name t) it.0 refl it.1, record { counted = it.2; tallied = it.3 })

pub past_measured : (t : Tables) (row : ServiceRow) (service : ServiceState) (runs : List RunRecord) → AreRunsOf service.strategy row.name row.standing.runs t runs → IsPastJudged t row service → AreMeasured row.name runs t
past_measured t row service runs are past =
    let tallied = tallied_there t row service runs past.measurements are past.read past in
    subst (AreCountedTo (metrics_of_runs runs) (none_of runs) (measurements_of row.name t)) (sym tallied.tallied) (untold (metrics_of_runs runs) (measurements_of row.name t) past.measurements (none_of runs) past.read.each tallied.counted)
