-- A report that isn't refused has room: its entries name different metrics, none of which has 1,000,000 measurements.
use Rattle.std.proofs.Common.{◌≡◌, ◌∙◌, ℕ, zero, suc, ◌+◌, List, [], ◌∷◌, ◌++◌, length, map, refl, ap, sym, subst, arith}
use Rattle.std.specs.Prelude.{Bool, true, false, not, cond, ◌&&◌, ◌||◌, ◌==◌, nat_lt, nat_le, Option, Some, None, unwrap_or, find, slice_get}
use Rattle.std.specs.List.{list_any, list_all}
use Rattle.std.specs.Str.{bytes_eq}
use Rattle.std.proofs.lemmas.Slice.Eq.{bytes_eq-Decides}
use Rattle.std.proofs.lemmas.Bool.Decides.{nat_tests}
use Rattle.canary_condition.specs.Trees.{Tree}
use Rattle.canary_condition.specs.declared.condition.Verdict3.{Verdict3}
use Rattle.canary_condition.specs.declared.condition.Verdict3.TheVariants.{True, False, Fault}
use Rattle.canary_condition.specs.declared.outcome.Outcome.{Outcome}
use Rattle.canary_condition.specs.declared.outcome.Outcome.TheVariants.{Result as Brought, Failure}
use Rattle.canary_condition.specs.Phases.{phase_of, by_success, by_failure, by_both}
use Rattle.canary_condition.specs.Meaning.{value}
use Rattle.canary_metric.specs.Metrics.{MetricValue}
use Rattle.canary_metric.specs.Counts.{Counts, size}
use Rattle.canary_metric.specs.Measurements.{is_measured}
use Rattle.canary_metric.specs.MetricPhases.{phase_of_counts, is_completed, due_of_counts}
use Rattle.canary_plan.specs.declared.report.Entry.{Entry}
use Rattle.canary_plan.specs.declared.refusal.Refusal.{Refusal}
use Rattle.canary_plan.specs.declared.refusal.Refusal.TheVariants.{RepeatedMetric, MetricClosed, AlreadyRecorded, OutOfTurn, Spent, Future, TooEarly}
use Rattle.canary_plan.specs.Refusals.{first_that_holds, or_refusal}
use Rattle.canary_release.specs.declared.effect.Recorded.{Recorded}
use Rattle.canary_release.specs.declared.effect.Effect.TheVariants.{MeasurementRecorded}
use Rattle.canary_release.specs.declared.runs.OpenRun.{OpenRun}
use Rattle.canary_release.specs.declared.runs.Runs.{Runs}
use Rattle.canary_release.specs.Pasts.{change_at}
use Rattle.canary_release.specs.Watching.{counted, counted_in, effect_applied}
use Rattle.canary_release.specs.Evolutions.{has_number}
use Rattle.canary_release.specs.Parts.{repeats_number}
use Rattle.canary_release.specs.Rules.Recording.{is_not_full, takes, have_room}
use Rattle.canary_release.specs.Rules.Reports.{Place, place_from, place_of, names_metric, entry_refusal_at, entry_refusal, entries_refusal, recorded_at, recorded_if, brought}
use Rattle.canary_release.proofs.Counting.{both}

-- Tests.

neither : (a b : Bool) → (a || b) ≡ false → (a ≡ false) × (b ≡ false)
neither true b e = cc
neither false true e = cc
neither false false e = (refl, refl)

any_push : {A : Type 0} (f : A → Bool) (xs : List A) (y : A) → list_any f (xs ++ y ∷ []) ≡ false → (list_any f xs ≡ false) × (f y ≡ false)
any_push f [] y e = (refl, (neither (f y) false e).0)
any_push f (x ∷ xs) y e =
    let h = neither (f x) (list_any f (xs ++ y ∷ [])) e in
    let k = any_push f xs y h.1 in
    ((λ i. h.0 i || list_any f xs) ∙ k.0, k.1)

below : (n : ℕ) → nat_le 1000000 n ≡ false → nat_lt n 1000000 ≡ true
below n e = grind (arith, nat_tests, e)

same_number : (a b : ℕ) → (a == b) ≡ true → a ≡ b
same_number a b e = grind (arith, nat_tests, e)

number_same : (a : ℕ) → (a == a) ≡ true
number_same a = grind (arith, nat_tests)

none_of_five : (a b c d e : Bool) (A B C D E : Refusal) (rows : List (Bool × Refusal)) → first_that_holds ((a, A) ∷ (b, B) ∷ (c, C) ∷ (d, D) ∷ (e, E) ∷ rows) ≡ None → (a ≡ false) × (e ≡ false)
none_of_five true b c d e A B C D E rows none = absurd (cc)
none_of_five false true c d e A B C D E rows none = absurd (cc)
none_of_five false false true d e A B C D E rows none = absurd (cc)
none_of_five false false false true e A B C D E rows none = absurd (cc)
none_of_five false false false false true A B C D E rows none = absurd (cc)
none_of_five false false false false false A B C D E rows none = (refl, refl)

-- an entry that isn't refused names a metric that none before it names, with fewer than 1,000,000 measurements
entry_fine : (started t : ℕ) (before : List Entry) (e : Entry) (p : Place) → entry_refusal_at started t before e p ≡ None → (list_any (names_metric e.metric) before ≡ false) × (nat_le 1000000 (size p.tally) ≡ false)
entry_fine started t before e p none =
    let at = length before in
    let n = size p.tally in
    let due = due_of_counts p.metric started p.tally in
    none_of_five (list_any (names_metric e.metric) before) (is_completed (phase_of_counts p.metric p.tally false)) (nat_le e.ordinal n) (nat_lt (n + 1) e.ordinal) (nat_le 1000000 n)
    (RepeatedMetric at) (MetricClosed at) (AlreadyRecorded at) (OutOfTurn at (n + 1)) (Spent at)
    ((nat_lt t e.taken, Future at) ∷ (nat_lt e.taken due, TooEarly at due) ∷ [])
    none

none_of : (a b : Option Refusal) → or_refusal a b ≡ None → (a ≡ None) × (b ≡ None)
none_of None b e = (refl, e)
none_of (Some r) b e = cc

-- Phases.

by_success_measured : (v : Verdict3) → is_measured (by_success v) ≡ true
by_success_measured True = refl
by_success_measured False = refl
by_success_measured Fault = refl

by_failure_measured : (v : Verdict3) → is_measured (by_failure v) ≡ true
by_failure_measured True = refl
by_failure_measured False = refl
by_failure_measured Fault = refl

by_both_measured : (v w : Verdict3) → is_measured (by_both v w) ≡ true
by_both_measured True True = refl
by_both_measured True False = refl
by_both_measured True Fault = refl
by_both_measured False True = refl
by_both_measured False False = refl
by_both_measured False Fault = refl
by_both_measured Fault True = refl
by_both_measured Fault False = refl
by_both_measured Fault Fault = refl

phase_measured : (success failure : Option Tree) (o : Outcome) → is_measured (phase_of success failure o) ≡ true
phase_measured None None (Brought result) = refl
phase_measured (Some s) None (Brought result) = by_success_measured (value s result)
phase_measured None (Some f) (Brought result) = by_failure_measured (value f result)
phase_measured (Some s) (Some f) (Brought result) = by_both_measured (value s result) (value f result)
phase_measured s f (Failure text) = refl

measured_by : (r : OpenRun) (e : Entry) (q : Option Place) (xs : List Recorded) → list_all (λ (x : Recorded). is_measured x.phase) xs ≡ true → list_all (λ (x : Recorded). is_measured x.phase) (recorded_if r e q ++ xs) ≡ true
measured_by r e None xs h = h
measured_by r e (Some p) xs h = (λ i. phase_measured p.metric.success p.metric.failure e.outcome i && list_all (λ (x : Recorded). is_measured x.phase) xs) ∙ h

all_measured : (ms : List MetricValue) (r : OpenRun) (es : List Entry) → list_all (λ (x : Recorded). is_measured x.phase) (brought ms r es) ≡ true
all_measured ms r [] = refl
all_measured ms r (e ∷ es) = measured_by r e (place_of ms r e) (brought ms r es) (all_measured ms r es)

-- Places.

record There (n : ℕ) (name : List ℕ) (ms : List MetricValue) (ts : List Counts) (p : Place) : Type 0 where
  k : ℕ
  at : p.place ≡ n + k
  metric : slice_get ms k ≡ Some p.metric
  tally : slice_get ts k ≡ Some p.tally
  named : bytes_eq p.metric.name name ≡ true

same_some : {A : Type 0} (a b : A) → ◌≡◌ {A = Option A} (Some a) (Some b) → a ≡ b
same_some a b e = ap (λ o. unwrap_or o a) e

there_by : (n : ℕ) (name : List ℕ) (m : MetricValue) (t : Counts) (ms : List MetricValue) (ts : List Counts) (p : Place) (b : Bool) → bytes_eq m.name name ≡ b
    → (place_from (n + 1) name ms ts ≡ Some p → There (n + 1) name ms ts p)
    → cond b (Some (record { place = n; metric = m; tally = t })) (place_from (n + 1) name ms ts) ≡ Some p → There n name (m ∷ ms) (t ∷ ts) p
there_by n name m t ms ts p true is later e =
    let here : Place = record { place = n; metric = m; tally = t } in
    let same : here ≡ p = same_some here p e in
    record {
      k = 0;
      at = sym (ap (λ (q : Place). q.place) same) ∙ (omega arith);
      metric = ap (λ (q : Place). Some q.metric) same;
      tally = ap (λ (q : Place). Some q.tally) same;
      named = sym (ap (λ (q : Place). bytes_eq q.metric.name name) same) ∙ is;
    }
there_by n name m t ms ts p false is later e =
    let h = later e in
    let step : (n + 1) + h.k ≡ n + suc h.k = omega arith in
    record {
      k = suc h.k;
      at = h.at ∙ step;
      metric = h.metric;
      tally = h.tally;
      named = h.named;
    }

there : (n : ℕ) (name : List ℕ) (ms : List MetricValue) (ts : List Counts) (p : Place) → place_from n name ms ts ≡ Some p → There n name ms ts p
there n name [] ts p e = absurd (cc)
there n name (m ∷ ms) [] p e = absurd (cc)
there n name (m ∷ ms) (t ∷ ts) p e = there_by n name m t ms ts p (bytes_eq m.name name) refl (there (n + 1) name ms ts p) e

tally_there : (name : List ℕ) (ms : List MetricValue) (ts : List Counts) (p : Place) → place_from 0 name ms ts ≡ Some p → slice_get ts p.place ≡ Some p.tally
tally_there name ms ts p e =
    let h = there 0 name ms ts p e in
    let at : p.place ≡ h.k = h.at ∙ (omega arith) in
    ap (slice_get ts) at ∙ h.tally

-- metrics of different names stand at different places
places_differ : (name other : List ℕ) (ms : List MetricValue) (ts : List Counts) (p q : Place) → place_from 0 name ms ts ≡ Some p → place_from 0 other ms ts ≡ Some q → bytes_eq name other ≡ false → p.place ≡ q.place → ⊥
places_differ name other ms ts p q is there_is differ same =
    let h = there 0 name ms ts p is in
    let g = there 0 other ms ts q there_is in
    let hk : p.place ≡ h.k = h.at ∙ (omega arith) in
    let gk : q.place ≡ g.k = g.at ∙ (omega arith) in
    let k : h.k ≡ g.k = sym hk ∙ same ∙ gk in
    let m : p.metric ≡ q.metric = same_some p.metric q.metric (sym h.metric ∙ ap (slice_get ms) k ∙ g.metric) in
    let a : p.metric.name ≡ name = (bytes_eq-Decides p.metric.name name).0 h.named in
    let b : q.metric.name ≡ other = (bytes_eq-Decides q.metric.name other).0 g.named in
    let names : name ≡ other = sym a ∙ ap (λ (x : MetricValue). x.name) m ∙ b in
    let equal : bytes_eq name other ≡ true = (bytes_eq-Decides name other).1 names in
    cc

other_place : {A : Type 0} (k j : ℕ) (f : A → A) (xs : List A) → (k ≡ j → ⊥) → slice_get (change_at k f xs) j ≡ slice_get xs j
other_place k j f [] apart = refl
other_place zero zero f (x ∷ xs) apart = absurd (apart refl)
other_place zero (suc j) f (x ∷ xs) apart = refl
other_place (suc k) zero f (x ∷ xs) apart = refl
other_place (suc k) (suc j) f (x ∷ xs) apart = other_place k j f xs (λ same. apart (ap suc same))

-- One run.

-- each in turn finds room in one run
abbrev ready : List Recorded → OpenRun → Bool
ready [] r = true
ready (x ∷ xs) r = takes x r && ready xs (counted_in x r)

-- a run of another number
other_by : (ms : List MetricValue) (r : OpenRun) (e : Entry) (es : List Entry) (o : OpenRun) (q : Option Place) → (o.number == r.number) ≡ false → ready (brought ms r es) o ≡ true → ready (recorded_if r e q ++ brought ms r es) o ≡ true
other_by ms r e es o None apart h = h
other_by ms r e es o (Some p) apart h =
    let x = recorded_at r e p in
    (λ i. (not (apart i) || is_not_full (slice_get o.tallies x.metric)) && ready (brought ms r es) (cond (apart i) (record o { tallies = change_at x.metric (counted x) o.tallies }) o)) ∙ h

ready_other : (ms : List MetricValue) (r : OpenRun) (es : List Entry) (o : OpenRun) → (o.number == r.number) ≡ false → ready (brought ms r es) o ≡ true
ready_other ms r [] o apart = refl
ready_other ms r (e ∷ es) o apart = other_by ms r e es o (place_of ms r e) apart (ready_other ms r es o apart)

-- the tallies of metrics that no entry before named are as they were
abbrev Keeps : List MetricValue → OpenRun → List Entry → OpenRun → Type 0
Keeps ms r before now = (e : Entry) (p : Place) → list_any (names_metric e.metric) before ≡ false → place_of ms r e ≡ Some p → slice_get now.tallies p.place ≡ Some p.tally

keeps_next : (ms : List MetricValue) (r : OpenRun) (before : List Entry) (now : OpenRun) (e : Entry) (p : Place) (f : Counts → Counts) → place_of ms r e ≡ Some p → Keeps ms r before now → Keeps ms r (before ++ e ∷ []) (record now { tallies = change_at p.place f now.tallies })
keeps_next ms r before now e p f is keeps =
    λ other q unnamed there_is.
    let h = any_push (names_metric other.metric) before e unnamed in
    other_place p.place q.place f now.tallies (places_differ e.metric other.metric ms r.tallies p q is there_is h.1) ∙ keeps other q h.0 there_is

own_by : (ms : List MetricValue) (r : OpenRun) (t : ℕ) (before : List Entry) (e : Entry) (es : List Entry) (now : OpenRun) (q : Option Place) → place_of ms r e ≡ q → now.number ≡ r.number → Keeps ms r before now
    → entry_refusal r.started t before e q ≡ None
    → ((then : OpenRun) → then.number ≡ r.number → Keeps ms r (before ++ e ∷ []) then → ready (brought ms r es) then ≡ true)
    → ready (recorded_if r e q ++ brought ms r es) now ≡ true
own_by ms r t before e es now None is same keeps fine later = absurd (cc)
own_by ms r t before e es now (Some p) is same keeps fine later =
    let x = recorded_at r e p in
    let clear = entry_fine r.started t before e p fine in
    let own : (now.number == r.number) ≡ true = ap (λ n. n == r.number) same ∙ number_same r.number in
    let room : is_not_full (slice_get now.tallies p.place) ≡ true = ap is_not_full (keeps e p clear.0 is) ∙ below (size p.tally) clear.1 in
    let then : OpenRun = record now { tallies = change_at p.place (counted x) now.tallies } in
    let rest : ready (brought ms r es) then ≡ true = later then same (keeps_next ms r before now e p (counted x) is keeps) in
    (λ i. (not (own i) || room i) && ready (brought ms r es) (cond (own i) then now)) ∙ rest

ready_own : (ms : List MetricValue) (r : OpenRun) (t : ℕ) (before es : List Entry) (now : OpenRun) → now.number ≡ r.number → Keeps ms r before now → entries_refusal ms r t before es ≡ None → ready (brought ms r es) now ≡ true
ready_own ms r t before [] now same keeps fine = refl
ready_own ms r t before (e ∷ es) now same keeps fine =
    let none = none_of _ _ fine in
    own_by ms r t before e es now (place_of ms r e) refl same keeps none.0 (λ then is kept. ready_own ms r t (before ++ e ∷ []) es then is kept none.1)

-- All runs.

all_next : (x : Recorded) (xs : List Recorded) (rs : List OpenRun) → list_all (ready (x ∷ xs)) rs ≡ true → (list_all (takes x) rs ≡ true) × (list_all (ready xs) (map (counted_in x) rs) ≡ true)
all_next x xs [] h = (refl, refl)
all_next x xs (r ∷ rs) h =
    let here = both (ready (x ∷ xs) r) (list_all (ready (x ∷ xs)) rs) h in
    let first = both (takes x r) (ready xs (counted_in x r)) here.0 in
    let later = all_next x xs rs here.1 in
    ((λ i. first.0 i && later.0 i), (λ i. first.1 i && later.1 i))

room_for : (w : Runs) (xs : List Recorded) → list_all (λ (x : Recorded). is_measured x.phase) xs ≡ true → list_all (ready xs) w.open_runs ≡ true → have_room w xs ≡ true
room_for w [] phases h = refl
room_for w (x ∷ xs) phases h =
    let phase = both (is_measured x.phase) (list_all (λ (y : Recorded). is_measured y.phase) xs) phases in
    let next = all_next x xs w.open_runs h in
    λ i. (phase.0 i && next.0 i) && room_for (effect_applied w (MeasurementRecorded x)) xs phase.1 next.1 i

-- runs of other numbers alone
none_same : (P : OpenRun → Bool) (n : ℕ) (rs : List OpenRun) → list_any (has_number n) rs ≡ false → ((o : OpenRun) → (o.number == n) ≡ false → P o ≡ true) → list_all P rs ≡ true
none_same P n [] e h = refl
none_same P n (o ∷ rs) e h =
    let apart = neither (has_number n o) (list_any (has_number n) rs) e in
    λ i. h o apart.0 i && none_same P n rs apart.1 h i

-- one run of that number, and others
all_by : (P : OpenRun → Bool) (n : ℕ) (o r : OpenRun) (rs : List OpenRun) (b : Bool) → has_number n o ≡ b → r.number ≡ n → list_any (has_number o.number) rs ≡ false
    → cond b (Some o) (find (has_number n) rs) ≡ Some r
    → P r ≡ true → ((o : OpenRun) → (o.number == n) ≡ false → P o ≡ true) → (find (has_number n) rs ≡ Some r → list_all P rs ≡ true) → (P o && list_all P rs) ≡ true
all_by P n o r rs true is own once found here others later =
    let same : o ≡ r = same_some o r found in
    let number : o.number ≡ n = ap (λ (x : OpenRun). x.number) same ∙ own in
    λ i. (ap P same ∙ here) i && none_same P n rs (subst (λ k. list_any (has_number k) rs ≡ false) number once) others i
all_by P n o r rs false is own once found here others later = λ i. others o is i && later found i

all_ready : (P : OpenRun → Bool) (n : ℕ) (r : OpenRun) (rs : List OpenRun) → r.number ≡ n → repeats_number rs ≡ false → find (has_number n) rs ≡ Some r → P r ≡ true → ((o : OpenRun) → (o.number == n) ≡ false → P o ≡ true) → list_all P rs ≡ true
all_ready P n r [] own once found here others = refl
all_ready P n r (o ∷ rs) own once found here others =
    let apart = neither (list_any (has_number o.number) rs) (repeats_number rs) once in
    all_by P n o r rs (has_number n o) refl own apart.0 found here others (λ e. all_ready P n r rs own apart.1 e here others)

found_by : (n : ℕ) (o r : OpenRun) (rest : Option OpenRun) (b : Bool) → has_number n o ≡ b → (rest ≡ Some r → r.number ≡ n) → cond b (Some o) rest ≡ Some r → r.number ≡ n
found_by n o r rest true is later e = sym (ap (λ (x : OpenRun). x.number) (same_some o r e)) ∙ same_number o.number n is
found_by n o r rest false is later e = later e

found_number : (n : ℕ) (r : OpenRun) (rs : List OpenRun) → find (has_number n) rs ≡ Some r → r.number ≡ n
found_number n r [] e = absurd (cc)
found_number n r (o ∷ rs) e = found_by n o r (find (has_number n) rs) (has_number n o) refl (found_number n r rs) e

-- a report on an open run that isn't refused has room
pub has_room_for : (w : Runs) (n t : ℕ) (ms : List MetricValue) (r : OpenRun) (es : List Entry) → repeats_number w.open_runs ≡ false → find (has_number n) w.open_runs ≡ Some r → entries_refusal ms r t [] es ≡ None → have_room w (brought ms r es) ≡ true
has_room_for w n t ms r es once found fine =
    let own = found_number n r w.open_runs found in
    let here = ready_own ms r t [] es r refl (λ e p unnamed is. tally_there e.metric ms r.tallies p is) fine in
    let others : (o : OpenRun) → (o.number == n) ≡ false → ready (brought ms r es) o ≡ true = λ o apart. ready_other ms r es o (ap (λ k. o.number == k) own ∙ apart) in
    room_for w (brought ms r es) (all_measured ms r es) (all_ready (ready (brought ms r es)) n r w.open_runs own once found here others)
