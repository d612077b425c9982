-- An allowed effect keeps a past in order.
use Rattle.std.proofs.Common.{◌≡◌, ℕ, zero, suc, ◌+◌, ◌≤◌, ◌<◌, List, [], ◌∷◌, ◌++◌, length, Bool, true, false, refl, ap, sym, ◌∙◌, subst, arith, eqb-true, eq-eqb, true≢false, append-nil, length-append}
use Rattle.std.proofs.lemmas.List.{length-replicate}
use Rattle.std.specs.Prelude.{◌==◌, ◌&&◌, ◌||◌, nat_lt, cond, not, if◌then◌else◌, IsTrue, Option, Some, None, slice_get, map, filter, replicate, is_none}
use Rattle.std.specs.List.{AllByRecursion, find, list_any, list_all}
use Rattle.std.proofs.lemmas.Bool.Decides.{nat_tests}
use Rattle.canary_metric.specs.declared.measurement.Measurement.{Measurement}
use Rattle.canary_metric.specs.Metrics.{MetricValue}
use Rattle.canary_metric.specs.Counts.{Counts, counts, size, number_with, is_error}
use Rattle.canary_plan.specs.declared.strategy.CheckedStrategy.{CheckedStrategy}
use Rattle.canary_plan.specs.Plans.{bound_of, analysis_at}
use Rattle.canary_release.specs.Desks.{RevisionMap}
use Rattle.canary_release.specs.declared.effect.Recorded.{Recorded}
use Rattle.canary_release.specs.declared.effect.Closing.{Closing}
use Rattle.canary_release.specs.declared.effect.Effect.{Effect}
use Rattle.canary_release.specs.declared.effect.Effect.TheVariants.{LineAdded, RunOpened, MeasurementRecorded, RunClosed}
use Rattle.canary_release.specs.declared.runs.OpenRun.{OpenRun}
use Rattle.canary_release.specs.declared.runs.Runs.{Runs}
use Rattle.canary_release.specs.Pasts.{Run, Past, change_at, opened_run, with_recorded, measured_in, closed_in, past_with, past_with_all, is_open, measurement_of, counts_of, tallied, tracked}
use Rattle.canary_release.specs.Watching.{effect_applied}
use Rattle.canary_release.specs.Evolutions.{has_number}
use Rattle.canary_release.specs.Laws.{WatchesAlike}
use Rattle.canary_release.specs.Order.{known_by, AreNumbered, AreOrdered, is_of, AreLists, is_measured_by, is_of_some}
use Rattle.canary_release.proofs.OrderingBasics.{other_number, not_same, some_same, each, each_both, each_and_more, each_mapped}
use Rattle.canary_release.specs.Effects.{Allowed, AreAllowed}

-- What is in order of a past, by itself.

pub record HasLists (ts : RevisionMap) (st : CheckedStrategy) (all : List Recorded) (r : Run) : Type 0 where
  pub binding : List ℕ → Option ℕ
  pub analysis : analysis_at (bound_of (known_by ts binding) st) r.step ≡ Some r.analysis
  pub one_each : length r.lists ≡ length r.analysis.metrics
  pub lists : AreLists all r.number 0 r.lists

pub record IsOrdered (ts : RevisionMap) (st : CheckedStrategy) (p : Past) : Type 0 where
  pub numbered : AreNumbered 1 p.runs
  pub runs : AllByRecursion (HasLists ts st p.measurements) p.runs
  pub measured : IsTrue (list_all (is_of_some p.runs) p.measurements)

-- Numbers.

numbered_and_more : (n : ℕ) (rs : List Run) (r : Run) → AreNumbered n rs → r.number ≡ n + length rs → AreNumbered n (rs ++ r ∷ [])
numbered_and_more n [] r h e = (omega (arith, e), tt)
numbered_and_more n (q ∷ rs) r h e = (h.0, numbered_and_more (suc n) rs r h.1 (omega (arith, e)))

same_numbered : (f : Run → Run) → ((r : Run) → (f r).number ≡ r.number) → (n : ℕ) (rs : List Run) → AreNumbered n rs → AreNumbered n (map f rs)
same_numbered f same n [] h = tt
same_numbered f same n (r ∷ rs) h = (same r ∙ h.0, same_numbered f same (suc n) rs h.1)

-- each has a number from n on
abbrev IsFrom : ℕ → Run → Type 0
IsFrom n r = n ≤ r.number

lower : (n : ℕ) (r : Run) → IsFrom (suc n) r → IsFrom n r
lower n r h = omega arith

all_from : (n : ℕ) (rs : List Run) → AreNumbered n rs → AllByRecursion (IsFrom n) rs
all_from n [] h = tt
all_from n (r ∷ rs) h =
    let is : r.number ≡ n = h.0 in
    (omega (arith, is), each (IsFrom (suc n)) (IsFrom n) (lower n) rs (all_from (suc n) rs h.1))

-- and so the open ones
found_from : (k n : ℕ) (rs : List Run) (r : OpenRun) → AreNumbered n rs → find (has_number k) (map tallied (filter is_open rs)) ≡ Some r → n ≤ k
found_from k n [] r h e = cc e
found_from k n (q ∷ rs) r h e =
    let rest : List Run = filter is_open rs in
    let is : q.number ≡ n = h.0 in
    elim (is_open q)
    as (λ b. find (has_number k) (map tallied (cond b (q ∷ rest) rest)) ≡ Some r → n ≤ k) [
      | true ↦ λ e.
          elim (q.number == k)
          as (λ b. (q.number == k) ≡ b → cond b (Some (tallied q)) (find (has_number k) (map tallied rest)) ≡ Some r → n ≤ k) [
            | true ↦ λ t e. let same : q.number ≡ k = eqb-true q.number k t in omega (arith, is, same)
            | false ↦ λ t e. let later : suc n ≤ k = found_from k (suc n) rs r h.1 e in omega (arith, later)
          ] refl e
      | false ↦ λ e. let later : suc n ≤ k = found_from k (suc n) rs r h.1 e in omega (arith, later)
    ] e

-- the run of the number of an open run that is found: it is open, and is the one that was found
abbrev pub IsThatRun : ℕ → OpenRun → Run → Type 0
IsThatRun k r q = q.number ≡ k → (q.closed ≡ None) × (tallied q ≡ r)

open_is : (q : Run) → is_open q ≡ true → q.closed ≡ None
open_is q e = by q.closed e
  where
    by : (o : Option Closing) → is_none o ≡ true → o ≡ None
    by None e = refl
    by (Some x) e = cc e

none_later : (k n : ℕ) (r : OpenRun) (q : Run) → k ≤ n → IsFrom (suc n) q → IsThatRun k r q
none_later k n r q h from same = absurd (omega (arith, h, from, same))

pub that_run : (k n : ℕ) (rs : List Run) (r : OpenRun) → AreNumbered n rs → find (has_number k) (map tallied (filter is_open rs)) ≡ Some r → AllByRecursion (IsThatRun k r) rs
that_run k n [] r h e = tt
that_run k n (q ∷ rs) r h e =
    let rest : List Run = filter is_open rs in
    let is : q.number ≡ n = h.0 in
    let behind : find (has_number k) (map tallied rest) ≡ Some r → AllByRecursion (IsThatRun k r) (q ∷ rs) =
    λ e. (let later : suc n ≤ k = found_from k (suc n) rs r h.1 e in λ same. absurd (omega (arith, later, is, same)), that_run k (suc n) rs r h.1 e) in
    elim (is_open q)
    as (λ b. is_open q ≡ b → find (has_number k) (map tallied (cond b (q ∷ rest) rest)) ≡ Some r → AllByRecursion (IsThatRun k r) (q ∷ rs)) [
      | true ↦ λ opened e.
          elim (q.number == k)
          as (λ b. (q.number == k) ≡ b → ◌≡◌ {A = Option OpenRun} (cond b (Some (tallied q)) (find (has_number k) (map tallied rest))) (Some r) → AllByRecursion (IsThatRun k r) (q ∷ rs)) [
            | true ↦ λ t e.
                let same : q.number ≡ k = eqb-true q.number k t in
                let below : k ≤ n = omega (arith, is, same) in
                (λ _. (open_is q opened, some_same (tallied q) r e), each (IsFrom (suc n)) (IsThatRun k r) (λ x from. none_later k n r x below from) rs (all_from (suc n) rs h.1))
            | false ↦ λ t e. behind e
          ] refl e
      | false ↦ λ opened e. behind e
    ] refl e

-- and there is one
is_there : (k : ℕ) (rs : List Run) (r : OpenRun) → find (has_number k) (map tallied (filter is_open rs)) ≡ Some r → (test : Run → Bool) → ((q : Run) → q.number ≡ k → tallied q ≡ r → test q ≡ true) → list_any test rs ≡ true
is_there k [] r e test passes = cc e
is_there k (q ∷ rs) r e test passes =
    let rest : List Run = filter is_open rs in
    let behind : find (has_number k) (map tallied rest) ≡ Some r → list_any test (q ∷ rs) ≡ true =
    λ e. or_true (test q) (list_any test rs) (is_there k rs r e test passes) in
    elim (is_open q)
    as (λ b. find (has_number k) (map tallied (cond b (q ∷ rest) rest)) ≡ Some r → list_any test (q ∷ rs) ≡ true) [
      | true ↦ λ e.
          elim (q.number == k)
          as (λ b. (q.number == k) ≡ b → ◌≡◌ {A = Option OpenRun} (cond b (Some (tallied q)) (find (has_number k) (map tallied rest))) (Some r) → list_any test (q ∷ rs) ≡ true) [
            | true ↦ λ t e. ap (λ b. b || list_any test rs) (passes q (eqb-true q.number k t) (some_same (tallied q) r e))
            | false ↦ λ t e. behind e
          ] refl e
      | false ↦ λ e. behind e
    ] e
  where
    or_true : (a b : Bool) → b ≡ true → (a || b) ≡ true
    or_true true b e = refl
    or_true false b e = e

-- Measurements are of the runs.

abbrev IsOfRun : List Run → Recorded → Type 0
IsOfRun rs x = is_of_some rs x ≡ true

all_true : {A : Type 0} (test : A → Bool) (xs : List A) → list_all test xs ≡ true → AllByRecursion (λ x. test x ≡ true) xs
all_true test [] e = tt
all_true test (x ∷ xs) e = let h = both (test x) (list_all test xs) e in (h.0, all_true test xs h.1)
  where
    both : (a b : Bool) → (a && b) ≡ true → (a ≡ true) × (b ≡ true)
    both true b e = (refl, e)
    both false b e = absurd (true≢false (sym e))

true_all : {A : Type 0} (test : A → Bool) (xs : List A) → AllByRecursion (λ x. test x ≡ true) xs → list_all test xs ≡ true
true_all test [] h = refl
true_all test (x ∷ xs) h = ap (λ b. b && list_all test xs) h.0 ∙ true_all test xs h.1

any_more : {A : Type 0} (test : A → Bool) (xs : List A) (y : A) → list_any test xs ≡ true → list_any test (xs ++ y ∷ []) ≡ true
any_more test [] y e = absurd (true≢false (sym e))
any_more test (x ∷ xs) y e =
    elim (test x) as (λ b. (b || list_any test xs) ≡ true → (b || list_any test (xs ++ y ∷ [])) ≡ true) [ true ↦ λ h. refl | false ↦ λ h. any_more test xs y h ] e

any_mapped : {A B : Type 0} (test : A → Bool) (other : B → Bool) (f : A → B) → ((x : A) → other (f x) ≡ test x) → (xs : List A) → list_any other (map f xs) ≡ list_any test xs
any_mapped test other f same [] = refl
any_mapped test other f same (x ∷ xs) = λ i. same x i || any_mapped test other f same xs i

-- a measurement of one of these runs has at most the number of the last
number_within : (n : ℕ) (rs : List Run) (x : Recorded) → AreNumbered n rs → is_of_some rs x ≡ true → x.run < n + length rs
number_within n [] x h e = absurd (true≢false (sym e))
number_within n (r ∷ rs) x h e =
    let is : r.number ≡ n = h.0 in
    elim (is_measured_by x r)
    as (λ b. is_measured_by x r ≡ b → (b || is_of_some rs x) ≡ true → x.run < n + suc (length rs)) [
      | true ↦ λ t e. let same : x.run ≡ r.number = first (x.run == r.number) (nat_lt x.metric (length r.lists)) x.run r.number refl t in omega (arith, is, same)
      | false ↦ λ t e. let later : x.run < suc n + length rs = number_within (suc n) rs x h.1 e in omega (arith, later)
    ] refl e
  where
    first : (a b : Bool) (m k : ℕ) → (m == k) ≡ a → (a && b) ≡ true → m ≡ k
    first true b m k e t = eqb-true m k e
    first false b m k e t = absurd (true≢false (sym t))

-- no measurement is of a number that no run has
none_of : (all : List Recorded) (run metric : ℕ) → AllByRecursion (λ (x : Recorded). x.run < run) all → filter (is_of run metric) all ≡ []
none_of [] run metric h = refl
none_of (x ∷ all) run metric h =
    let below : x.run < run = h.0 in
    ap (λ b. cond (b && x.metric == metric) (x ∷ filter (is_of run metric) all) (filter (is_of run metric) all)) (other_number x.run run (λ same. omega (arith, below, same)))
    ∙ none_of all run metric h.1

-- Lists.

empty_lists : (all : List Recorded) (run metric n : ℕ) → AllByRecursion (λ (x : Recorded). x.run < run) all → AreLists all run metric (replicate n [])
empty_lists all run metric zero h = tt
empty_lists all run metric (suc n) h = (tt, omega arith, sym (none_of all run metric h), empty_lists all run (suc metric) n h)

filter_more : {A : Type 0} (test : A → Bool) (xs : List A) (y : A) → filter test (xs ++ y ∷ []) ≡ filter test xs ++ cond (test y) (y ∷ []) []
filter_more test [] y = refl
filter_more test (x ∷ xs) y =
    let h = filter_more test xs y in
    elim (test x)
    as (λ b. cond b (x ∷ filter test (xs ++ y ∷ [])) (filter test (xs ++ y ∷ [])) ≡ cond b (x ∷ filter test xs) (filter test xs) ++ cond (test y) (y ∷ []) [])
    [ true ↦ ap (λ ys. x ∷ ys) h | false ↦ h ]

nothing_more : {A : Type 0} (test : A → Bool) (xs : List A) (y : A) → test y ≡ false → filter test (xs ++ y ∷ []) ≡ filter test xs
nothing_more test xs y e = filter_more test xs y ∙ ap (λ b. filter test xs ++ cond b (y ∷ []) []) e ∙ append-nil (filter test xs)

-- of another run, or another metric
not_of_run : (run metric : ℕ) (x : Recorded) → (x.run == run) ≡ false → is_of run metric x ≡ false
not_of_run run metric x e = ap (λ b. b && x.metric == metric) e

not_of_metric : (run metric : ℕ) (x : Recorded) → (x.metric ≡ metric → ⊥) → is_of run metric x ≡ false
not_of_metric run metric x differ = ap (λ b. x.run == run && b) (other_number x.metric metric differ) ∙ and_false (x.run == run)
  where
    and_false : (a : Bool) → (a && false) ≡ false
    and_false true = refl
    and_false false = refl

lists_of_others : (all : List Recorded) (run metric : ℕ) (lists : List (List Recorded)) (x : Recorded) → (x.run == run) ≡ false → AreLists all run metric lists → AreLists (all ++ x ∷ []) run metric lists
lists_of_others all run metric [] x e h = tt
lists_of_others all run metric (list ∷ lists) x e h =
    (h.0, h.1, h.2 ∙ sym (nothing_more (is_of run metric) all x (not_of_run run metric x e)), lists_of_others all run (suc metric) lists x e h.3)

-- lists of later metrics of its run
lists_behind : (all : List Recorded) (run metric : ℕ) (lists : List (List Recorded)) (x : Recorded) → x.metric < metric → AreLists all run metric lists → AreLists (all ++ x ∷ []) run metric lists
lists_behind all run metric [] x lt h = tt
lists_behind all run metric (list ∷ lists) x lt h = (
  h.0,
  h.1,
  h.2 ∙ sym (nothing_more (is_of run metric) all x (not_of_metric run metric x (λ same. omega (arith, lt, same)))),
  lists_behind all run (suc metric) lists x (omega (arith, lt)) h.3,
)

ordered_more : (run metric n : ℕ) (list : List Recorded) (x : Recorded) → AreOrdered run metric n list → x.run ≡ run → x.metric ≡ metric → x.ordinal ≡ n + length list → AreOrdered run metric n (list ++ x ∷ [])
ordered_more run metric n [] x h e f g = (e, f, omega (arith, g), tt)
ordered_more run metric n (y ∷ list) x h e f g = (h.0, h.1, h.2, ordered_more run metric (suc n) list x h.3 e f (omega (arith, g)))

-- how many measurements there are is seen in their counts
kinds_are_all : (ms : List Measurement) → size (counts ms) ≡ length ms
kinds_are_all [] = refl
kinds_are_all (m ∷ ms) =
    let rest : number_with (λ p. not (is_error p)) ms + number_with is_error ms ≡ length ms = kinds_are_all ms in
    let some : List Measurement = filter (λ (m : Measurement). not (is_error m.phase)) ms in
    let others : List Measurement = filter (λ (m : Measurement). is_error m.phase) ms in
    elim (is_error m.phase)
    as (λ b. length (cond (not b) (m ∷ some) some) + length (cond b (m ∷ others) others) ≡ suc (length ms))
    [ true ↦ omega (arith, rest) | false ↦ omega (arith, rest) ]

length_mapped : {A B : Type 0} (f : A → B) (xs : List A) → length (map f xs) ≡ length xs
length_mapped f [] = refl
length_mapped f (x ∷ xs) = ap suc (length_mapped f xs)

size_is_length : (list : List Recorded) → size (counts_of list) ≡ length list
size_is_length list = kinds_are_all (map measurement_of list) ∙ length_mapped measurement_of list

-- the lists of the run that is measured, the first of which is that of a metric; the measurement is of the metric that lies so many after it
lists_measured : (all : List Recorded) (run metric k : ℕ) (lists : List (List Recorded)) (x : Recorded) (t : Counts) → x.run ≡ run → x.metric ≡ metric + k → slice_get (map counts_of lists) k ≡ Some t → x.ordinal ≡ size t + 1 → size t + 1 ≤ 1000000 → AreLists all run metric lists → AreLists (all ++ x ∷ []) run metric (change_at k (with_recorded x) lists)
lists_measured all run metric k [] x t e f there next room h = tt
lists_measured all run metric zero (list ∷ lists) x t e f there next room h =
    let same : counts_of list ≡ t = some_same (counts_of list) t there in
    let many : length list ≡ size t = sym (size_is_length list) ∙ ap size same in
    let is_metric : x.metric ≡ metric = omega (arith, f) in
    let is_of_it : is_of run metric x ≡ true = (λ i. eq-eqb x.run run e i && eq-eqb x.metric metric is_metric i) in (
      ordered_more run metric 1 list x h.0 e is_metric (omega (arith, next, many)),
      (let longer : length (list ++ x ∷ []) ≡ length list + 1 = length-append list (x ∷ []) in omega (arith, longer, room, many)),
      (λ i. h.2 i ++ x ∷ []) ∙ sym (filter_more (is_of run metric) all x ∙ ap (λ b. filter (is_of run metric) all ++ cond b (x ∷ []) []) is_of_it),
      lists_behind all run (suc metric) lists x (omega (arith, is_metric)) h.3,
    )
lists_measured all run metric (suc k) (list ∷ lists) x t e f there next room h = (
  h.0,
  h.1,
  h.2 ∙ sym (nothing_more (is_of run metric) all x (not_of_metric run metric x (λ same. omega (arith, f, same)))),
  lists_measured all run (suc metric) k lists x t e (omega (arith, f)) there next room h.3,
)

-- A past that grows.

same_length : {A : Type 0} (k : ℕ) (f : A → A) (xs : List A) → length (change_at k f xs) ≡ length xs
same_length k f [] = refl
same_length zero f (x ∷ xs) = refl
same_length (suc k) f (x ∷ xs) = ap suc (same_length k f xs)

lists_more : (ts : RevisionMap) (st : CheckedStrategy) (all : List Recorded) (x : Recorded) (w : OpenRun) (m : MetricValue) (t : Counts) → slice_get w.analysis.metrics x.metric ≡ Some m → slice_get w.tallies x.metric ≡ Some t → x.ordinal ≡ size t + 1 → size t + 1 ≤ 1000000 → (r : Run) → HasLists ts st all r → IsThatRun x.run w r → HasLists ts st (all ++ x ∷ []) (measured_in x r)
lists_more ts st all x w m t is_metric is_tally next room r h that =
    elim (r.number == x.run)
    as (λ b. (r.number == x.run) ≡ b → HasLists ts st (all ++ x ∷ []) (let q : Run = (if b then record r { lists = change_at x.metric (with_recorded x) r.lists } else r) in q)) [
      | true ↦ λ e.
          let number : r.number ≡ x.run = eqb-true r.number x.run e in
          let one : tallied r ≡ w = (that number).1 in
          let there : slice_get (map counts_of r.lists) x.metric ≡ Some t = ap (λ (q : OpenRun). slice_get q.tallies x.metric) one ∙ is_tally in
          record {
            binding = h.binding;
            analysis = h.analysis;
            one_each = same_length x.metric (with_recorded x) r.lists ∙ h.one_each;
            lists = lists_measured all r.number 0 x.metric r.lists x t (sym number) (omega arith) there next room h.lists;
          }
      | false ↦ λ e.
          let other : (x.run == r.number) ≡ false = other_number x.run r.number (λ same. not_same r.number x.run e (sym same)) in
          record { binding = h.binding; analysis = h.analysis; one_each = h.one_each; lists = lists_of_others all r.number 0 r.lists x other h.lists }
    ] refl

measured_number : (x : Recorded) (r : Run) → (measured_in x r).number ≡ r.number
measured_number x r =
    elim (r.number == x.run)
    as (λ b. (let q : Run = (if b then record r { lists = change_at x.metric (with_recorded x) r.lists } else r) in q).number ≡ r.number)
    [ true ↦ refl | false ↦ refl ]

measured_length : (x : Recorded) (r : Run) → length (measured_in x r).lists ≡ length r.lists
measured_length x r =
    elim (r.number == x.run)
    as (λ b. length (let q : Run = (if b then record r { lists = change_at x.metric (with_recorded x) r.lists } else r) in q).lists ≡ length r.lists)
    [ true ↦ same_length x.metric (with_recorded x) r.lists | false ↦ refl ]

closed_number : (x : Closing) (r : Run) → (closed_in x r).number ≡ r.number
closed_number x r = elim (r.number == x.run) as (λ b. (let q : Run = (if b then record r { closed = Some x } else r) in q).number ≡ r.number) [ true ↦ refl | false ↦ refl ]

closed_length : (x : Closing) (r : Run) → length (closed_in x r).lists ≡ length r.lists
closed_length x r = elim (r.number == x.run) as (λ b. length (let q : Run = (if b then record r { closed = Some x } else r) in q).lists ≡ length r.lists) [ true ↦ refl | false ↦ refl ]

lists_closed : (ts : RevisionMap) (st : CheckedStrategy) (all : List Recorded) (x : Closing) (r : Run) → HasLists ts st all r → HasLists ts st all (closed_in x r)
lists_closed ts st all x r h =
    elim (r.number == x.run)
    as (λ b. HasLists ts st all (let q : Run = (if b then record r { closed = Some x } else r) in q)) [
      | true ↦ record { binding = h.binding; analysis = h.analysis; one_each = h.one_each; lists = h.lists }
      | false ↦ h
    ]

within : (ts : List Counts) (k : ℕ) (t : Counts) → slice_get ts k ≡ Some t → k < length ts
within [] k t e = cc e
within (c ∷ ts) zero t e = omega arith
within (c ∷ ts) (suc k) t e = let h : k < length ts = within ts k t e in omega (arith, h)

-- a run that is measured is the one that was found, and has a list of that place
has_place : (x : Recorded) (w : OpenRun) (t : Counts) → slice_get w.tallies x.metric ≡ Some t → (q : Run) → q.number ≡ x.run → tallied q ≡ w → is_measured_by x q ≡ true
has_place x w t is_tally q number one =
    let h : x.metric < length (map counts_of q.lists) = within (map counts_of q.lists) x.metric t (ap (λ (r : OpenRun). slice_get r.tallies x.metric) one ∙ is_tally) in
    let many : length (map counts_of q.lists) ≡ length q.lists = length_mapped counts_of q.lists in
    let below : nat_lt x.metric (length q.lists) ≡ true = grind (arith, nat_tests, h, many) in
    λ i. eq-eqb x.run q.number (sym number) i && below i

pub ordered_after : (ts : RevisionMap) (st : CheckedStrategy) (p : Past) (x : Effect) → Allowed ts st (tracked p) x → IsOrdered ts st p → IsOrdered ts st (past_with p x)
ordered_after ts st p (LineAdded line) a o = record { numbered = o.numbered; runs = o.runs; measured = o.measured }
ordered_after ts st p (RunOpened x) a o =
    let number : x.run ≡ length p.runs + 1 = a.number in
    let all_below : AllByRecursion (λ (y : Recorded). y.run < x.run) p.measurements =
    each (IsOfRun p.runs) (λ (y : Recorded). y.run < x.run) (λ y e. let h : y.run < 1 + length p.runs = number_within 1 p.runs y o.numbered e in omega (arith, h, number)) p.measurements (all_true (is_of_some p.runs) p.measurements o.measured) in
    let new : HasLists ts st p.measurements (opened_run x) =
    record { binding = a.binding; analysis = a.analysis; one_each = length-replicate (length x.analysis.metrics) []; lists = empty_lists p.measurements x.run 0 (length x.analysis.metrics) all_below } in
    record {
      numbered = numbered_and_more 1 p.runs (opened_run x) o.numbered (omega (arith, number));
      runs = each_and_more (HasLists ts st p.measurements) p.runs (opened_run x) o.runs new;
      measured =
          true_all (is_of_some (p.runs ++ opened_run x ∷ [])) p.measurements
          (each (IsOfRun p.runs) (IsOfRun (p.runs ++ opened_run x ∷ [])) (λ y e. any_more (is_measured_by y) p.runs (opened_run x) e) p.measurements (all_true (is_of_some p.runs) p.measurements o.measured));
    }
ordered_after ts st p (MeasurementRecorded x) a o =
    let all = p.measurements ++ x ∷ [] in
    let that = that_run x.run 1 p.runs a.run o.numbered a.found in
    let alike : (y : Recorded) → is_of_some (map (measured_in x) p.runs) y ≡ is_of_some p.runs y =
    λ y. any_mapped (is_measured_by y) (is_measured_by y) (measured_in x) (λ r i. y.run == measured_number x r i && nat_lt y.metric (measured_length x r i)) p.runs in
    let old : AllByRecursion (IsOfRun (map (measured_in x) p.runs)) p.measurements =
    each (IsOfRun p.runs) (IsOfRun (map (measured_in x) p.runs)) (λ y e. alike y ∙ e) p.measurements (all_true (is_of_some p.runs) p.measurements o.measured) in
    let new : IsOfRun (map (measured_in x) p.runs) x = alike x ∙ is_there x.run p.runs a.run a.found (is_measured_by x) (has_place x a.run a.tally a.is_tally) in
    record {
      numbered = same_numbered (measured_in x) (measured_number x) 1 p.runs o.numbered;
      runs =
          each_mapped (λ (r : Run). HasLists ts st all (measured_in x r)) (HasLists ts st all) (measured_in x) (λ r k. k) p.runs
          (each_both (HasLists ts st p.measurements) (IsThatRun x.run a.run) (λ (r : Run). HasLists ts st all (measured_in x r)) (lists_more ts st p.measurements x a.run a.metric a.tally a.is_metric a.is_tally a.next a.room) p.runs o.runs that);
      measured = true_all (is_of_some (map (measured_in x) p.runs)) all (each_and_more (IsOfRun (map (measured_in x) p.runs)) p.measurements x old new);
    }
ordered_after ts st p (RunClosed x tallies) a o =
    let alike : (y : Recorded) → is_of_some (map (closed_in x) p.runs) y ≡ is_of_some p.runs y =
    λ y. any_mapped (is_measured_by y) (is_measured_by y) (closed_in x) (λ r i. y.run == closed_number x r i && nat_lt y.metric (closed_length x r i)) p.runs in
    record {
      numbered = same_numbered (closed_in x) (closed_number x) 1 p.runs o.numbered;
      runs = each_mapped (HasLists ts st p.measurements) (HasLists ts st p.measurements) (closed_in x) (lists_closed ts st p.measurements x) p.runs o.runs;
      measured =
          true_all (is_of_some (map (closed_in x) p.runs)) p.measurements
          (each (IsOfRun p.runs) (IsOfRun (map (closed_in x) p.runs)) (λ y e. alike y ∙ e) p.measurements (all_true (is_of_some p.runs) p.measurements o.measured));
    }

-- one effect of a whole list: what is tracked then
pub watched_then : WatchesAlike → (p : Past) (x : Effect) → tracked (past_with p x) ≡ effect_applied (tracked p) x
watched_then alike p x = alike p (x ∷ [])

pub ordered_after_all : WatchesAlike → (ts : RevisionMap) (st : CheckedStrategy) (p : Past) (xs : List Effect) → AreAllowed ts st (tracked p) xs → IsOrdered ts st p → IsOrdered ts st (past_with_all p xs)
ordered_after_all alike ts st p [] h o = o
ordered_after_all alike ts st p (x ∷ xs) h o = ordered_after_all alike ts st (past_with p x) xs (subst (λ (w : Runs). AreAllowed ts st w xs) (sym (watched_then alike p x)) h.1) (ordered_after ts st p x h.0 o)
