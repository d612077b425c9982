-- If services are judged, the rows of their tallies are those of contents.
use Rattle.std.proofs.Common.{◌≡◌, inl, inr, true≢false, ℕ, zero, suc, ◌+◌, ◌≤◌, ◌<◌, ◌==◌, List, [], ◌∷◌, length, Bool, true, false, Some, None, refl, sym, ap, ◌∙◌, subst, arith}
use Rattle.std.specs.Prelude.{Option, ◌&&◌, cond, filter, map, option_map, slice_get}
use Rattle.std.specs.Str.{bytes_eq}
use Rattle.std.specs.List.{AllByRecursion, sum_by}
use Rattle.std.proofs.lemmas.Bool.Decides.{Decides-eqb}
use Rattle.std.proofs.lemmas.List.{length-map}
use Rattle.std.proofs.lemmas.List.Elements.{filter_agree}
use Rattle.std.proofs.lemmas.Option.{slice_get-map}
use Rattle.std.proofs.lemmas.Slice.Eq.{bytes_eq-Decides}
use Rattle.canary_metric.specs.Counts.{Counts}
use Rattle.canary_plan.specs.Plans.{strategy_of}
use Rattle.canary_release.specs.Pasts.{Run, Past, counts_of}
use Rattle.canary_once.specs.declared.record.RunRecord.{RunRecord}
use Rattle.canary_once.specs.Records.{past_of}
use Rattle.canary_tables_rows.specs.declared.rows.ServiceRow.{ServiceRow}
use Rattle.canary_tables_rows.specs.declared.rows.RunRow.{RunRow}
use Rattle.canary_tables_rows.specs.declared.rows.TallyRow.{TallyRow}
use Rattle.canary_tables_rows.specs.Tables.{Tables, is_run, is_tally, is_tally_of}
use Rattle.canary_tables_contents.specs.Values.{run_row, tally_row}
use Rattle.canary_tables_contents.specs.Tables.{row_if, run_at, run_rows, tally_rows_of, tally_rows}
use Rattle.canary_tables_contents.specs.Reading.{contents_of}
use Rattle.canary_tables_contents.specs.Counting.{CountingIsExact, RunsAreTallied}
use Rattle.canary_tables_contents.specs.Services.{IsRunJudged, IsServiceJudged, AreServicesJudged}
use Rattle.canary_tables_contents.proofs.Strays.{Apart, AreApart, HaveAtLeast, no_strays}
use Rattle.canary_tables_contents.proofs.Numbers.{is_numbered, no_other_number}
use Rattle.canary_tables_contents.proofs.Named.{own_key, equal_keys, first_kept, filter_twice, none_pass, weaker, each_in}
use Rattle.canary_tables_contents.proofs.JudgedCallers.{none_behind}
use Rattle.canary_tables_contents.proofs.CallersHold.{below_or}
use Rattle.canary_tables_contents.proofs.CallersJudged.{HasPlace, has_place}
use Rattle.canary_tables_contents.proofs.ServicesHoldRows.{run_made}
use Rattle.canary_tables_contents.proofs.ServicesHoldRuns.{none_or_service, past_gone, past_there, runs_hold_at}
use Rattle.canary_tables_contents.proofs.ServicesHoldFacts.{IsRunOf, run_of_judged}

-- Rows that stand once each under a key of two parts.

empty_of : {X : Type 0} (xs : List X) → suc (length xs) ≤ 1 → xs ≡ []
empty_of [] few = refl
empty_of (x ∷ xs) few = absurd (omega arith)

fewer_behind : {X : Type 0} (b : Bool) (x : X) (xs : List X) → length (cond b (x ∷ xs) xs) ≤ 1 → length xs ≤ 1
fewer_behind true x xs few = omega arith
fewer_behind false x xs few = few

-- rows that are the same under no other test of these have keys that are apart
keys_apart : {R S : Type 0} (same : R → R → Bool) (is : R → S → Bool) → ((k : R) → same k k ≡ true) → ((k j : R) → same k j ≡ false → Apart (is k) (is j)) → (rows : List R)
    → AllByRecursion (λ k. length (filter (same k) rows) ≤ 1) rows → AreApart is rows
keys_apart same is own apart [] once = tt
keys_apart {R} same is own apart (row ∷ rows) once =
    let first : suc (length (filter (same row) rows)) ≤ 1 = subst (λ (l : List R). length l ≤ 1) (first_kept (same row) row rows (own row)) once.0 in
    let none : AllByRecursion (λ r. same row r ≡ false) rows = none_pass (same row) rows (empty_of (filter (same row) rows) first) in (
      weaker (λ r. same row r ≡ false) (λ r. Apart (is row) (is r)) (apart row) rows none,
      keys_apart same is own apart rows (weaker (λ k. length (filter (same k) (row ∷ rows)) ≤ 1) (λ k. length (filter (same k) rows) ≤ 1) (λ k few. fewer_behind (same k row) row (filter (same k) rows) few) rows once.1),
    )

both_hold : (a b : Bool) → a && b ≡ true → (a ≡ true) × (b ≡ true)
both_hold true b e = (refl, e)
both_hold false b e = absurd (cc)

fails : (b : Bool) → (b ≡ true → ⊥) → b ≡ false
fails true wrong = absurd (wrong refl)
fails false wrong = refl

-- a tally is of one run alone
one_run : (a b : List ℕ) (m n : ℕ) (x : TallyRow) → (bytes_eq a b && m == n) ≡ false → is_tally_of a m x ≡ true → is_tally_of b n x ≡ true → ⊥
one_run a b m n x other first second =
    let f : (bytes_eq a x.service ≡ true) × ((m == x.run) ≡ true) = both_hold (bytes_eq a x.service) (m == x.run) first in
    let s : (bytes_eq b x.service ≡ true) × ((n == x.run) ≡ true) = both_hold (bytes_eq b x.service) (n == x.run) second in
    let names : bytes_eq a b ≡ true = (bytes_eq-Decides a b).1 (equal_keys a x.service f.0 ∙ sym (equal_keys b x.service s.0)) in
    let numbers : (m == n) ≡ true = (Decides-eqb m n).1 ((Decides-eqb m x.run).0 f.1 ∙ sym ((Decides-eqb n x.run).0 s.1)) in
    true≢false (sym (λ i. names i && numbers i) ∙ other)

-- Tallies of runs.

abbrev of_run : RunRow → TallyRow → Bool
of_run k x = is_tally_of k.service k.number x

abbrev same_run : RunRow → RunRow → Bool
same_run k j = is_run k.service k.number j

abbrev tallies_in : Tables → RunRow → ℕ
tallies_in t k = length (filter (of_run k) t.tallies)

own_run : (k : RunRow) → same_run k k ≡ true
own_run k = λ i. own_key k.service i && (Decides-eqb k.number k.number).1 refl i

runs_apart : (k j : RunRow) → same_run k j ≡ false → Apart (of_run k) (of_run j)
runs_apart k j other x is = fails (of_run j x) (one_run k.service j.service k.number j.number x other is)

one_row : {A R : Type 0} (row : A → R) (o : Option A) → length (row_if row o) ≤ 1
one_row row None = omega arith
one_row row (Some x) = omega arith

pub runs_once : (t : Tables) → AreServicesJudged t → AllByRecursion (λ k. length (filter (same_run k) t.runs) ≤ 1) t.runs
runs_once t judged =
    each_in (λ k. length (filter (same_run k) t.runs) ≤ 1) t.runs (λ k at.
    subst (λ (rows : List RunRow). length rows ≤ 1) (sym (runs_hold_at t judged k.service k.number)) (one_row (run_row k.service) (run_at k.number (past_of (contents_of t) k.service).runs)))

have_tallies : (t : Tables) → HaveAtLeast of_run (tallies_in t) t.tallies t.runs
have_tallies t = each_in (λ k. tallies_in t k ≤ length (filter (of_run k) t.tallies)) t.runs (λ k at. omega arith)

no_more : (t : Tables) → AreServicesJudged t → length t.tallies ≤ sum_by (tallies_in t) t.runs
no_more t judged = let all : sum_by (tallies_in t) t.runs ≡ length t.tallies = judged.tallies in omega arith

-- if there is no run, there are no tallies of it
no_tallies_of : (t : Tables) → AreServicesJudged t → (q : List ℕ) (number : ℕ) → filter (is_run q number) t.runs ≡ [] → filter (is_tally_of q number) t.tallies ≡ []
no_tallies_of t judged q number none =
    no_strays of_run (tallies_in t) t.runs t.tallies (keys_apart same_run of_run own_run runs_apart t.runs (runs_once t judged)) (have_tallies t) (no_more t judged) (is_tally_of q number)
    (weaker (λ k. is_run q number k ≡ false) (λ k. Apart (of_run k) (is_tally_of q number)) (λ k other x is. fails (is_tally_of q number x) (λ own. one_run q k.service number k.number x other own is)) t.runs (none_pass (is_run q number) t.runs none))

-- Tallies under a key.

abbrev tally_metric : TallyRow → ℕ
tally_metric row = row.metric

in_turn : (a b c : Bool) → (a && b) && c ≡ a && (b && c)
in_turn true b c = refl
in_turn false b c = refl

of_metric : (t : Tables) (q : List ℕ) (number metric : ℕ) → filter (is_numbered tally_metric metric) (filter (is_tally_of q number) t.tallies) ≡ filter (is_tally q number metric) t.tallies
of_metric t q number metric =
    filter_twice (is_numbered tally_metric metric) (is_tally_of q number) t.tallies
    ∙ filter_agree (λ (row : TallyRow). is_tally_of q number row && (metric == row.metric)) (is_tally q number metric) (λ row. in_turn (bytes_eq q row.service) (number == row.run) (metric == row.metric)) t.tallies

none_under : (t : Tables) → AreServicesJudged t → (q : List ℕ) (number metric : ℕ) → filter (is_run q number) t.runs ≡ [] → filter (is_tally q number metric) t.tallies ≡ []
none_under t judged q number metric none = sym (of_metric t q number metric) ∙ ap (filter (is_numbered tally_metric metric)) (no_tallies_of t judged q number none)

one_each : (t : Tables) (name : List ℕ) (number : ℕ) (tallies : List Counts) → ((place : ℕ) (c : Counts) → slice_get tallies place ≡ Some c → filter (is_tally name number place) t.tallies ≡ tally_row name number place c ∷ [])
    → (k : ℕ) → 0 ≤ k → k < 0 + length tallies → 1 ≤ length (filter (is_numbered tally_metric k) (filter (is_tally_of name number) t.tallies))
one_each t name number tallies have k low high =
    let h : HasPlace tallies k = has_place tallies k (omega arith) in
    let one : length (filter (is_numbered tally_metric k) (filter (is_tally_of name number) t.tallies)) ≡ 1 = ap length (of_metric t name number k ∙ have k h.value h.there) in
    omega arith

under_run : (t : Tables) (name : List ℕ) (number : ℕ) (tallies : List Counts) → ((place : ℕ) (c : Counts) → slice_get tallies place ≡ Some c → filter (is_tally name number place) t.tallies ≡ tally_row name number place c ∷ [])
    → length (filter (is_tally_of name number) t.tallies) ≡ length tallies → (metric : ℕ) → filter (is_tally name number metric) t.tallies ≡ row_if (tally_row name number metric) (slice_get tallies metric)
under_run t name number tallies have many metric =
    elim (below_or metric (length tallies)) as (λ x. filter (is_tally name number metric) t.tallies ≡ row_if (tally_row name number metric) (slice_get tallies metric)) [
      | inl below ↦
          let h : HasPlace tallies metric = has_place tallies metric below in
          have metric h.value h.there ∙ ap (row_if (tally_row name number metric)) (sym h.there)
      | inr above ↦
          sym (of_metric t name number metric)
          ∙ no_other_number tally_metric (filter (is_tally_of name number) t.tallies) 0 (length tallies) (one_each t name number tallies have) (omega arith) metric (inr (omega arith))
          ∙ ap (row_if (tally_row name number metric)) (sym (none_behind tallies metric above))
    ]

if_mapped : {A B R : Type 0} (row : B → R) (f : A → B) (o : Option A) → row_if row (option_map f o) ≡ row_if (λ x. row (f x)) o
if_mapped row f None = refl
if_mapped row f (Some x) = refl

under_made : CountingIsExact → RunsAreTallied → (t : Tables) (row : ServiceRow) (j : IsServiceJudged t row) (place metric : ℕ) (r : RunRecord) → slice_get j.runs place ≡ Some r
    → filter (is_tally row.name (suc place) metric) t.tallies ≡ tally_rows_of row.name (suc place) metric (Some (run_made j.measurements r))
under_made exact tallied t row j place metric r there =
    let is : IsRunJudged t (strategy_of j.made) row.name r = (j.each place r there).1 in
    let of : IsRunOf t (strategy_of j.made) row.name j.measurements (suc place) r = run_of_judged exact tallied t row j place r there in
    let made : Run = run_made j.measurements r in
    let number : r.number ≡ suc place = of.numbered in
    let own : filter (is_tally row.name (suc place) metric) t.tallies ≡ row_if (tally_row row.name (suc place) metric) (slice_get r.tallies metric) =
    subst (λ n. filter (is_tally row.name n metric) t.tallies ≡ row_if (tally_row row.name n metric) (slice_get r.tallies metric)) number (under_run t row.name r.number r.tallies is.tallies is.no_more metric) in
    own
    ∙ ap (λ (ts : List Counts). row_if (tally_row row.name (suc place) metric) (slice_get ts metric)) (sym of.tallied)
    ∙ ap (row_if (tally_row row.name (suc place) metric)) (slice_get-map counts_of made.lists metric)
    ∙ if_mapped (tally_row row.name (suc place) metric) counts_of (slice_get made.lists metric)

abbrev runs_past : Tables → List ℕ → List Run
runs_past t q = (past_of (contents_of t) q).runs

no_run_at : (t : Tables) → AreServicesJudged t → (q : List ℕ) (number metric : ℕ) (runs : List Run) → runs_past t q ≡ runs → run_at number runs ≡ None
    → filter (is_tally q number metric) t.tallies ≡ tally_rows q number metric runs
no_run_at t judged q number metric runs are none =
    none_under t judged q number metric (runs_hold_at t judged q number ∙ ap (run_rows q number) are ∙ ap (row_if (run_row q)) none)
    ∙ ap (tally_rows_of q number metric) (sym none)

tallies_under : CountingIsExact → RunsAreTallied → (t : Tables) → AreServicesJudged t → (row : ServiceRow) (j : IsServiceJudged t row) (number metric : ℕ)
    → filter (is_tally row.name number metric) t.tallies ≡ tally_rows row.name number metric (map (run_made j.measurements) j.runs)
tallies_under exact tallied t judged row j zero metric = no_run_at t judged row.name 0 metric (map (run_made j.measurements) j.runs) (ap (λ (p : Past). p.runs) (past_there t row j)) refl
tallies_under exact tallied t judged row j (suc place) metric =
    let runs : List Run = map (run_made j.measurements) j.runs in
    let many : length runs ≡ length j.runs = length-map j.runs (run_made j.measurements) in
    elim (below_or place (length j.runs)) as (λ x. filter (is_tally row.name (suc place) metric) t.tallies ≡ tally_rows row.name (suc place) metric runs) [
      | inl below ↦
          let h : HasPlace j.runs place = has_place j.runs place below in
          let there : slice_get runs place ≡ Some (run_made j.measurements h.value) = slice_get-map (run_made j.measurements) j.runs place ∙ ap (option_map (run_made j.measurements)) h.there in
          under_made exact tallied t row j place metric h.value h.there ∙ ap (tally_rows_of row.name (suc place) metric) (sym there)
      | inr above ↦ no_run_at t judged row.name (suc place) metric runs (ap (λ (p : Past). p.runs) (past_there t row j)) (none_behind runs place (omega arith))
    ]

none_at : (number : ℕ) → run_at number [] ≡ None
none_at zero = refl
none_at (suc place) = refl

pub tallies_hold_at : CountingIsExact → RunsAreTallied → (t : Tables) → AreServicesJudged t → (q : List ℕ) (number metric : ℕ) → filter (is_tally q number metric) t.tallies ≡ tally_rows q number metric (past_of (contents_of t) q).runs
tallies_hold_at exact tallied t judged q number metric =
    elim (none_or_service t judged q) as (λ x. filter (is_tally q number metric) t.tallies ≡ tally_rows q number metric (past_of (contents_of t) q).runs) [
      | inl none ↦
          let gone : (past_of (contents_of t) q).runs ≡ [] = ap (λ (p : Past). p.runs) (past_gone t q none) in
          no_run_at t judged q number metric [] gone (none_at number) ∙ ap (tally_rows q number metric) (sym gone)
      | inr one ↦ subst (λ n. filter (is_tally n number metric) t.tallies ≡ tally_rows n number metric (past_of (contents_of t) n).runs) one.named
          (tallies_under exact tallied t judged one.row one.has.judged number metric ∙ ap (λ (p : Past). tally_rows one.row.name number metric p.runs) (sym (past_there t one.row one.has.judged)))
    ]
