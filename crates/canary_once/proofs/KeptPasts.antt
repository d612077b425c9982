-- What is kept of a service's past is its past, one effect after another.
use Rattle.std.proofs.Common.{◌≡◌, ℕ, zero, suc, ◌+◌, ◌-◌, ◌≤◌, ◌<◌, List, [], ◌∷◌, ◌++◌, length, Bool, true, false, refl, ap, sym, ◌∙◌, subst, arith, eqb-true, eq-eqb, true≢false, append-nil, length-append}
use Rattle.std.proofs.lemmas.List.{map-append}
use Rattle.std.specs.Prelude.{◌==◌, ◌&&◌, cond, if◌then◌else◌, Option, Some, None, slice_get, slice_set, slice_index_or, map, filter, replicate, is_none}
use Rattle.std.specs.List.{AllByRecursion, find}
use Rattle.canary_metric.specs.Counts.{Counts}
use Rattle.canary_plan.specs.declared.strategy.CheckedStrategy.{CheckedStrategy}
use Rattle.canary_release.specs.declared.effect.Opening.{Opening}
use Rattle.canary_release.specs.declared.effect.Recorded.{Recorded}
use Rattle.canary_release.specs.declared.effect.Closing.{Closing}
use Rattle.canary_release.specs.declared.effect.Effect.{Effect}
use Rattle.canary_release.specs.declared.effect.Effect.TheVariants.{LineAdded, RunOpened, MeasurementRecorded, RunClosed}
use Rattle.canary_release.specs.declared.runs.OpenRun.{OpenRun}
use Rattle.canary_release.specs.declared.runs.Runs.{Runs}
use Rattle.canary_release.specs.Pasts.{Run, Past, change_at, opened_run, with_recorded, measured_in, closed_in, past_with, past_with_all, is_open, counts_of, tallied, tracked}
use Rattle.canary_release.specs.Evolutions.{has_number}
use Rattle.canary_release.specs.Desks.{RevisionMap}
use Rattle.canary_release.specs.Laws.{WatchesAlike}
use Rattle.canary_release.specs.Order.{AreNumbered, is_of}
use Rattle.canary_release.specs.Effects.{Allowed, AreAllowed}
use Rattle.canary_once.specs.declared.kept_run.ClosedRun.{ClosedRun}
use Rattle.canary_once.specs.declared.kept_run.KeptRun.{KeptRun}
use Rattle.canary_once.specs.Kept.{Kept, lists_from, lists_of, closing_of, run_in, past_kept, new_run, closed_by, close_in, keeps, keeps_all, IsLast, HasLast, IsWithin, AreKept}

-- Numbers and lists.

pub other_number : (a b : ℕ) → (a ≡ b → ⊥) → (a == b) ≡ false
other_number a b differ =
    elim (a == b)
    as (λ t. (a == b) ≡ t → (a == b) ≡ false) [
      | true ↦ λ e. absurd (differ (eqb-true a b e))
      | false ↦ λ e. e
    ] refl

pub some_same : {A : Type 0} (a b : A) → ◌≡◌ {A = Option A} (Some a) (Some b) → a ≡ b
some_same a b h = cc h

each : {A : Type 0} (P Q : A → Type 0) → ((x : A) → P x → Q x) → (xs : List A) → AllByRecursion P xs → AllByRecursion Q xs
each P Q f [] h = tt
each P Q f (x ∷ xs) h = (f x h.0, each P Q f xs h.1)

each_and_more : {A : Type 0} (P : A → Type 0) (xs : List A) (y : A) → AllByRecursion P xs → P y → AllByRecursion P (xs ++ y ∷ [])
each_and_more P [] y h k = (k, tt)
each_and_more P (x ∷ xs) y h k = (h.0, each_and_more P xs y h.1 k)

filter_more : {A : Type 0} (test : A → Bool) (xs : List A) (y : A) → filter test (xs ++ y ∷ []) ≡ filter test xs ++ cond (test y) (y ∷ []) []
filter_more test [] y = refl
filter_more test (x ∷ xs) y =
    let h = filter_more test xs y in
    elim (test x)
    as (λ b. cond b (x ∷ filter test (xs ++ y ∷ [])) (filter test (xs ++ y ∷ [])) ≡ cond b (x ∷ filter test xs) (filter test xs) ++ cond (test y) (y ∷ []) [])
    [ true ↦ ap (λ ys. x ∷ ys) h | false ↦ h ]

nothing_more : {A : Type 0} (test : A → Bool) (xs : List A) (y : A) → test y ≡ false → filter test (xs ++ y ∷ []) ≡ filter test xs
nothing_more test xs y e = filter_more test xs y ∙ ap (λ b. filter test xs ++ cond b (y ∷ []) []) e ∙ append-nil (filter test xs)

mapped_length : {A B : Type 0} (f : A → B) (xs : List A) → length (map f xs) ≡ length xs
mapped_length f [] = refl
mapped_length f (x ∷ xs) = ap suc (mapped_length f xs)

changed_length : {A : Type 0} (k : ℕ) (f : A → A) (xs : List A) → length (change_at k f xs) ≡ length xs
changed_length k f [] = refl
changed_length zero f (x ∷ xs) = refl
changed_length (suc k) f (x ∷ xs) = ap suc (changed_length k f xs)

place_within : {A : Type 0} (xs : List A) (k : ℕ) (x : A) → slice_get xs k ≡ Some x → k < length xs
place_within [] k x e = cc e
place_within (y ∷ xs) zero x e = omega arith
place_within (y ∷ xs) (suc k) x e = let h : k < length xs = place_within xs k x e in omega (arith, h)

numbered_and_more : (n : ℕ) (rs : List Run) (r : Run) → AreNumbered n rs → r.number ≡ n + length rs → AreNumbered n (rs ++ r ∷ [])
numbered_and_more n [] r h e = (omega (arith, e), tt)
numbered_and_more n (q ∷ rs) r h e = (h.0, numbered_and_more (suc n) rs r h.1 (omega (arith, e)))

same_numbered : (f : Run → Run) → ((r : Run) → (f r).number ≡ r.number) → (n : ℕ) (rs : List Run) → AreNumbered n rs → AreNumbered n (map f rs)
same_numbered f same n [] h = tt
same_numbered f same n (r ∷ rs) h = (same r ∙ h.0, same_numbered f same (suc n) rs h.1)

measured_number : (x : Recorded) (r : Run) → (measured_in x r).number ≡ r.number
measured_number x r =
    elim (r.number == x.run)
    as (λ b. (let q : Run = (if b then record r { lists = change_at x.metric (with_recorded x) r.lists } else r) in q).number ≡ r.number)
    [ true ↦ refl | false ↦ refl ]

closed_number : (x : Closing) (r : Run) → (closed_in x r).number ≡ r.number
closed_number x r = elim (r.number == x.run) as (λ b. (let q : Run = (if b then record r { closed = Some x } else r) in q).number ≡ r.number) [ true ↦ refl | false ↦ refl ]

-- an element that is set is changed at its place
pub set_here : {A : Type 0} (k : ℕ) (f : A → A) (xs : List A) (d : A) → k < length xs → slice_set xs k (f (slice_index_or xs k d)) ≡ change_at k f xs
set_here k f [] d h = refl
set_here zero f (x ∷ xs) d h = refl
set_here (suc k) f (x ∷ xs) d h = ap (λ ys. x ∷ ys) (set_here k f xs d (omega arith))

-- nothing is changed past the end
pub change_past_end : {A : Type 0} (k : ℕ) (f : A → A) (xs : List A) → length xs ≤ k → change_at k f xs ≡ xs
change_past_end k f [] h = refl
change_past_end zero f (x ∷ xs) h = absurd (omega arith)
change_past_end (suc k) f (x ∷ xs) h = ap (λ ys. x ∷ ys) (change_past_end k f xs (omega arith))

-- An open run, by its number.

-- the run of this number stands at its place, is open, and has these tallies
pub record IsOpenAt (k n : ℕ) (rs : List Run) (w : OpenRun) : Type 0 where
  pub place : ℕ
  pub number : k ≡ n + place
  pub run : Run
  pub there : slice_get rs place ≡ Some run
  pub going : run.closed ≡ None
  pub same : tallied run ≡ w

open_is : (q : Run) → is_open q ≡ true → q.closed ≡ None
open_is q e = by q.closed e
  where
    by : (o : Option Closing) → is_none o ≡ true → o ≡ None
    by None e = refl
    by (Some x) e = cc e

pub found_open : (k n : ℕ) (rs : List Run) (w : OpenRun) → AreNumbered n rs → find (has_number k) (map tallied (filter is_open rs)) ≡ Some w → IsOpenAt k n rs w
found_open k n [] w h e = cc e
found_open k n (q ∷ rs) w h e =
    let rest : List Run = filter is_open rs in
    let behind : find (has_number k) (map tallied rest) ≡ Some w → IsOpenAt k n (q ∷ rs) w =
    λ e. (
    let later : IsOpenAt k (suc n) rs w = found_open k (suc n) rs w h.1 e in
    let number : k ≡ suc n + later.place = later.number in
    record { place = suc later.place; number = omega (arith, number); run = later.run; there = later.there; going = later.going; same = later.same }
    ) in
    elim (is_open q)
    as (λ b. is_open q ≡ b → find (has_number k) (map tallied (cond b (q ∷ rest) rest)) ≡ Some w → IsOpenAt k n (q ∷ rs) w) [
      | true ↦ λ opened e.
          elim (q.number == k)
          as (λ b. (q.number == k) ≡ b → ◌≡◌ {A = Option OpenRun} (cond b (Some (tallied q)) (find (has_number k) (map tallied rest))) (Some w) → IsOpenAt k n (q ∷ rs) w) [
            | true ↦ λ t e.
                let same : q.number ≡ k = eqb-true q.number k t in
                let is : q.number ≡ n = h.0 in
                record { place = 0; number = omega (arith, same, is); run = q; there = refl; going = open_is q opened; same = some_same (tallied q) w e }
            | false ↦ λ t e. behind e
          ] refl e
      | false ↦ λ opened e. behind e
    ] refl e

-- Lists.

none_of : (all : List Recorded) (run metric : ℕ) → AllByRecursion (λ (x : Recorded). x.run < run) all → filter (is_of run metric) all ≡ []
none_of [] run metric h = refl
none_of (x ∷ all) run metric h =
    let below : x.run < run = h.0 in
    ap (λ b. cond (b && x.metric == metric) (x ∷ filter (is_of run metric) all) (filter (is_of run metric) all)) (other_number x.run run (λ same. omega (arith, below, same)))
    ∙ none_of all run metric h.1

empty_lists : (all : List Recorded) (run metric n : ℕ) → AllByRecursion (λ (x : Recorded). x.run < run) all → lists_from all run metric n ≡ replicate n []
empty_lists all run metric zero h = refl
empty_lists all run metric (suc n) h = λ i. none_of all run metric h i ∷ empty_lists all run (suc metric) n h i

-- of another run, or another metric
not_of_run : (run metric : ℕ) (x : Recorded) → (x.run == run) ≡ false → is_of run metric x ≡ false
not_of_run run metric x e = ap (λ b. b && x.metric == metric) e

not_of_metric : (run metric : ℕ) (x : Recorded) → (x.metric ≡ metric → ⊥) → is_of run metric x ≡ false
not_of_metric run metric x differ = ap (λ b. x.run == run && b) (other_number x.metric metric differ) ∙ and_false (x.run == run)
  where
    and_false : (a : Bool) → (a && false) ≡ false
    and_false true = refl
    and_false false = refl

lists_of_others : (all : List Recorded) (run metric n : ℕ) (x : Recorded) → (x.run == run) ≡ false → lists_from (all ++ x ∷ []) run metric n ≡ lists_from all run metric n
lists_of_others all run metric zero x e = refl
lists_of_others all run metric (suc n) x e = λ i. nothing_more (is_of run metric) all x (not_of_run run metric x e) i ∷ lists_of_others all run (suc metric) n x e i

-- lists of later metrics
lists_behind : (all : List Recorded) (run metric n : ℕ) (x : Recorded) → x.metric < metric → lists_from (all ++ x ∷ []) run metric n ≡ lists_from all run metric n
lists_behind all run metric zero x lt = refl
lists_behind all run metric (suc n) x lt =
    let head = nothing_more (is_of run metric) all x (not_of_metric run metric x (λ same. omega (arith, lt, same))) in
    let rest = lists_behind all run (suc metric) n x (omega (arith, lt)) in
    λ i. head i ∷ rest i

-- the lists of its run; the measurement is of the metric that lies so many after the first
lists_measured : (all : List Recorded) (run metric k n : ℕ) (x : Recorded) → x.run ≡ run → x.metric ≡ metric + k → lists_from (all ++ x ∷ []) run metric n ≡ change_at k (with_recorded x) (lists_from all run metric n)
lists_measured all run metric k zero x e f = refl
lists_measured all run metric zero (suc n) x e f =
    let is_metric : x.metric ≡ metric = omega (arith, f) in
    let is_of_it : is_of run metric x ≡ true = (λ i. eq-eqb x.run run e i && eq-eqb x.metric metric is_metric i) in
    let head = filter_more (is_of run metric) all x ∙ ap (λ b. filter (is_of run metric) all ++ cond b (x ∷ []) []) is_of_it in
    let rest = lists_behind all run (suc metric) n x (omega (arith, is_metric)) in
    λ i. head i ∷ rest i
lists_measured all run metric (suc k) (suc n) x e f =
    let head = nothing_more (is_of run metric) all x (not_of_metric run metric x (λ same. omega (arith, f, same))) in
    let rest = lists_measured all run (suc metric) k n x e (omega (arith, f)) in
    λ i. head i ∷ rest i

-- A run is opened.

opened_last : (all : List Recorded) (x : Opening) → AllByRecursion (λ (y : Recorded). y.run < x.run) all → run_in all (new_run x) ≡ opened_run x
opened_last all x h = λ i. record { number = x.run; step = x.step; analysis = x.analysis; started = x.started; closed = None; lists = empty_lists all x.run 0 (length x.analysis.metrics) h i }

-- A measurement is recorded.

abbrev with_lists : Run → List (List Recorded) → Run
with_lists q lists = record q { lists = lists }

measured_run : (all : List Recorded) (x : Recorded) (r : KeptRun) → run_in (all ++ x ∷ []) r ≡ measured_in x (run_in all r)
measured_run all x r =
    let q : Run = run_in all r in
    elim (r.opening.run == x.run)
    as (λ b. (r.opening.run == x.run) ≡ b → run_in (all ++ x ∷ []) r ≡ (let s : Run = (if b then record q { lists = change_at x.metric (with_recorded x) q.lists } else q) in s)) [
      | true ↦ λ e. ap (with_lists q) (lists_measured all r.opening.run 0 x.metric (length r.opening.analysis.metrics) x (sym (eqb-true r.opening.run x.run e)) (omega arith))
      | false ↦ λ e. ap (with_lists q) (lists_of_others all r.opening.run 0 (length r.opening.analysis.metrics) x (other_number x.run r.opening.run (λ same. true≢false (sym (eq-eqb r.opening.run x.run (sym same)) ∙ e))))
    ] refl

measured_runs : (all : List Recorded) (x : Recorded) (rs : List KeptRun) → map (run_in (all ++ x ∷ [])) rs ≡ map (measured_in x) (map (run_in all) rs)
measured_runs all x [] = refl
measured_runs all x (r ∷ rs) = λ i. measured_run all x r i ∷ measured_runs all x rs i

-- a run of another number keeps its lists, and so its last tallies
last_of_other : (all : List Recorded) (x : Recorded) (r : KeptRun) → (x.run ≡ r.opening.run → ⊥) → HasLast all r → HasLast (all ++ x ∷ []) r
last_of_other all x r differ h = subst (λ ls. IsLast r.closed (map counts_of ls)) (sym (lists_of_others all r.opening.run 0 (length r.opening.analysis.metrics) x (other_number x.run r.opening.run differ))) h

last_of_later : (all : List Recorded) (x : Recorded) (n : ℕ) (rs : List KeptRun) → x.run < n → AreNumbered n (map (run_in all) rs) → AllByRecursion (HasLast all) rs → AllByRecursion (HasLast (all ++ x ∷ [])) rs
last_of_later all x n [] lt h last = tt
last_of_later all x n (r ∷ rs) lt h last =
    let is : r.opening.run ≡ n = h.0 in
    (last_of_other all x r (λ same. omega (arith, lt, is, same)) last.0, last_of_later all x (suc n) rs (omega (arith, lt)) h.1 last.1)

-- an open run has none
last_of_open : (r : KeptRun) (tallies : List Counts) → closing_of r.closed ≡ None → IsLast r.closed tallies
last_of_open r tallies e = by r.closed e
  where
    by : (o : Option ClosedRun) → closing_of o ≡ None → IsLast o tallies
    by None e = tt
    by (Some c) e = cc e

last_measured : (all : List Recorded) (x : Recorded) (n place : ℕ) (rs : List KeptRun) (q : Run) → x.run ≡ n + place → slice_get (map (run_in all) rs) place ≡ Some q → q.closed ≡ None → AreNumbered n (map (run_in all) rs) → AllByRecursion (HasLast all) rs → AllByRecursion (HasLast (all ++ x ∷ [])) rs
last_measured all x n place [] q e there going h last = tt
last_measured all x n zero (r ∷ rs) q e there going h last =
    (last_of_open r (map counts_of (lists_of (all ++ x ∷ []) r.opening)) (ap (λ (s : Run). s.closed) (some_same (run_in all r) q there) ∙ going), last_of_later all x (suc n) rs (omega (arith, e)) h.1 last.1)
last_measured all x n (suc place) (r ∷ rs) q e there going h last =
    let is : r.opening.run ≡ n = h.0 in
    (last_of_other all x r (λ same. omega (arith, e, is, same)) last.0, last_measured all x (suc n) place rs q (omega (arith, e)) there going h.1 last.1)

-- A run is closed.

not_closed : (x : Closing) (q : Run) → (q.number ≡ x.run → ⊥) → closed_in x q ≡ q
not_closed x q differ =
    elim (q.number == x.run)
    as (λ b. (q.number == x.run) ≡ b → (let s : Run = (if b then record q { closed = Some x } else q) in s) ≡ q) [
      | true ↦ λ e. absurd (differ (eqb-true q.number x.run e))
      | false ↦ λ e. refl
    ] refl

is_closed : (x : Closing) (q : Run) → q.number ≡ x.run → closed_in x q ≡ record q { closed = Some x }
is_closed x q same =
    elim (q.number == x.run)
    as (λ b. (q.number == x.run) ≡ b → (let s : Run = (if b then record q { closed = Some x } else q) in s) ≡ record q { closed = Some x }) [
      | true ↦ λ e. refl
      | false ↦ λ e. absurd (true≢false (sym (eq-eqb q.number x.run same) ∙ e))
    ] refl

none_closed : (x : Closing) (n : ℕ) (rs : List Run) → x.run < n → AreNumbered n rs → map (closed_in x) rs ≡ rs
none_closed x n [] lt h = refl
none_closed x n (q ∷ rs) lt h =
    let is : q.number ≡ n = h.0 in
    let head = not_closed x q (λ same. omega (arith, lt, is, same)) in
    let rest = none_closed x (suc n) rs (omega (arith, lt)) h.1 in
    λ i. head i ∷ rest i

closed_at : (all : List Recorded) (c : ClosedRun) (n place : ℕ) (rs : List KeptRun) → c.closing.run ≡ n + place → AreNumbered n (map (run_in all) rs) → map (run_in all) (change_at place (closed_by c) rs) ≡ map (closed_in c.closing) (map (run_in all) rs)
closed_at all c n place [] e h = refl
closed_at all c n zero (r ∷ rs) e h =
    let is : r.opening.run ≡ n = h.0 in
    let head = is_closed c.closing (run_in all r) (omega (arith, e, is)) in
    let rest = none_closed c.closing (suc n) (map (run_in all) rs) (omega (arith, e)) h.1 in
    λ i. sym head i ∷ sym rest i
closed_at all c n (suc place) (r ∷ rs) e h =
    let is : r.opening.run ≡ n = h.0 in
    let head = not_closed c.closing (run_in all r) (λ same. omega (arith, e, is, same)) in
    let rest = closed_at all c (suc n) place rs (omega (arith, e)) h.1 in
    λ i. sym head i ∷ rest i

last_closed : (all : List Recorded) (c : ClosedRun) (place : ℕ) (rs : List KeptRun) (q : Run) → slice_get (map (run_in all) rs) place ≡ Some q → c.tallies ≡ map counts_of q.lists → AllByRecursion (HasLast all) rs → AllByRecursion (HasLast all) (change_at place (closed_by c) rs)
last_closed all c place [] q there is last = tt
last_closed all c zero (r ∷ rs) q there is last = (is ∙ ap (λ (s : Run). map counts_of s.lists) (sym (some_same (run_in all r) q there)), last.1)
last_closed all c (suc place) (r ∷ rs) q there is last = (last.0, last_closed all c place rs q there is last.1)

-- One thing more.

-- what is kept is this past
pub record IsKept (k : Kept) (p : Past) : Type 0 where
  pub past : past_kept k ≡ p
  pub kept : AreKept k

within_more : (n m : ℕ) (all : List Recorded) → n ≤ m → AllByRecursion (IsWithin n) all → AllByRecursion (IsWithin m) all
within_more n m all le h = each (IsWithin n) (IsWithin m) (λ x w. (let below : x.run ≤ n = w in omega (arith, below, le))) all h

numbered_as : (k : Kept) (runs : List Run) → (past_kept k).runs ≡ runs → AreNumbered 1 runs → AreNumbered 1 (past_kept k).runs
numbered_as k runs e h = subst (AreNumbered 1) (sym e) h

one_opened : (k : Kept) (x : Opening) → AreKept k → x.run ≡ length (past_kept k).runs + 1 → IsKept (keeps k (RunOpened x)) (past_with (past_kept k) (RunOpened x))
one_opened k x h number =
    let all : List Recorded = k.measurements in
    let runs : List Run = (past_kept k).runs in
    let many : length runs ≡ length k.runs = mapped_length (run_in all) k.runs in
    let below : AllByRecursion (λ (y : Recorded). y.run < x.run) all = each (IsWithin (length k.runs)) (λ (y : Recorded). y.run < x.run) (λ y w. (let within : y.run ≤ length k.runs = w in omega (arith, within, number, many))) all h.within in
    let so : map (run_in all) (k.runs ++ new_run x ∷ []) ≡ runs ++ opened_run x ∷ [] = map-append (run_in all) k.runs (new_run x ∷ []) ∙ (λ i. runs ++ opened_last all x below i ∷ []) in
    let longer : length (k.runs ++ new_run x ∷ []) ≡ length k.runs + 1 = length-append k.runs (new_run x ∷ []) in
    record {
      past = λ i. record { runs = so i; measurements = all; history = k.history };
      kept = record {
        numbered = numbered_as (keeps k (RunOpened x)) (runs ++ opened_run x ∷ []) so (numbered_and_more 1 runs (opened_run x) h.numbered (omega (arith, number)));
        within = within_more (length k.runs) (length (k.runs ++ new_run x ∷ [])) all (omega (arith, longer)) h.within;
        last = each_and_more (HasLast all) k.runs (new_run x) h.last tt;
      };
    }

one_measured : (k : Kept) (x : Recorded) (w : OpenRun) → AreKept k → find (has_number x.run) (tracked (past_kept k)).open_runs ≡ Some w → IsKept (keeps k (MeasurementRecorded x)) (past_with (past_kept k) (MeasurementRecorded x))
one_measured k x w h e =
    let all : List Recorded = k.measurements in
    let runs : List Run = (past_kept k).runs in
    let many : length runs ≡ length k.runs = mapped_length (run_in all) k.runs in
    let one : IsOpenAt x.run 1 runs w = found_open x.run 1 runs w h.numbered e in
    let number : x.run ≡ 1 + one.place = one.number in
    let below : one.place < length runs = place_within runs one.place one.run one.there in
    let so : map (run_in (all ++ x ∷ [])) k.runs ≡ map (measured_in x) runs = measured_runs all x k.runs in
    record {
      past = λ i. record { runs = so i; measurements = all ++ x ∷ []; history = k.history };
      kept = record {
        numbered = numbered_as (keeps k (MeasurementRecorded x)) (map (measured_in x) runs) so (same_numbered (measured_in x) (measured_number x) 1 runs h.numbered);
        within = each_and_more (IsWithin (length k.runs)) all x h.within (omega (arith, number, below, many));
        last = last_measured all x 1 one.place k.runs one.run number one.there one.going h.numbered h.last;
      };
    }

place_of : (number place : ℕ) → number ≡ 1 + place → number - 1 ≡ place
place_of number place e = omega (arith, e)

one_closed : (k : Kept) (x : Closing) (tallies : List Counts) (w : OpenRun) → AreKept k → find (has_number x.run) (tracked (past_kept k)).open_runs ≡ Some w → tallies ≡ w.tallies → IsKept (keeps k (RunClosed x tallies)) (past_with (past_kept k) (RunClosed x tallies))
one_closed k x tallies w h e last =
    let all : List Recorded = k.measurements in
    let runs : List Run = (past_kept k).runs in
    let c : ClosedRun = record { closing = x; tallies = tallies } in
    let one : IsOpenAt x.run 1 runs w = found_open x.run 1 runs w h.numbered e in
    let here : x.run - 1 ≡ one.place = place_of x.run one.place one.number in
    let there : slice_get runs (x.run - 1) ≡ Some one.run = ap (slice_get runs) here ∙ one.there in
    let number : x.run ≡ 1 + (x.run - 1) = one.number ∙ ap (λ n. 1 + n) (sym here) in
    let so : map (run_in all) (close_in c k.runs) ≡ map (closed_in x) runs = closed_at all c 1 (x.run - 1) k.runs number h.numbered in
    let counted : tallies ≡ map counts_of one.run.lists = last ∙ ap (λ (r : OpenRun). r.tallies) (sym one.same) in
    record {
      past = λ i. record { runs = so i; measurements = all; history = k.history };
      kept = record {
        numbered = numbered_as (keeps k (RunClosed x tallies)) (map (closed_in x) runs) so (same_numbered (closed_in x) (closed_number x) 1 runs h.numbered);
        within = subst (λ (n : ℕ). AllByRecursion (IsWithin n) all) (sym (changed_length (x.run - 1) (closed_by c) k.runs)) h.within;
        last = last_closed all c (x.run - 1) k.runs one.run there counted h.last;
      };
    }

one_more : (templates : RevisionMap) (st : CheckedStrategy) (k : Kept) (x : Effect) → AreKept k → Allowed templates st (tracked (past_kept k)) x → IsKept (keeps k x) (past_with (past_kept k) x)
one_more templates st k (LineAdded line) h may = record { past = refl; kept = record { numbered = h.numbered; within = h.within; last = h.last } }
one_more templates st k (RunOpened x) h may = one_opened k x h may.number
one_more templates st k (MeasurementRecorded x) h may = one_measured k x may.run h may.found
one_more templates st k (RunClosed x tallies) h may = one_closed k x tallies may.run h may.found may.last

-- All that happens, one after another.
pub all_kept : WatchesAlike → (templates : RevisionMap) (st : CheckedStrategy) (k : Kept) (xs : List Effect) → AreKept k → AreAllowed templates st (tracked (past_kept k)) xs → IsKept (keeps_all k xs) (past_with_all (past_kept k) xs)
all_kept alike templates st k [] h may = record { past = refl; kept = h }
all_kept alike templates st k (x ∷ xs) h may =
    let one : IsKept (keeps k x) (past_with (past_kept k) x) = one_more templates st k x h may.0 in
    let thus : AreAllowed templates st (tracked (past_kept (keeps k x))) xs = subst (λ (w : Runs). AreAllowed templates st w xs) (sym (ap tracked one.past ∙ alike (past_kept k) (x ∷ []))) may.1 in
    let rest : IsKept (keeps_all (keeps k x) xs) (past_with_all (past_kept (keeps k x)) xs) = all_kept alike templates st (keeps k x) xs one.kept thus in
    record { past = rest.past ∙ ap (λ (p : Past). past_with_all p xs) one.past; kept = rest.kept }
