-- What is reported of a run from what is kept is what its whole lists say.
use Rattle.std.proofs.Common.{◌≡◌, ℕ, zero, suc, ◌+◌, ◌<◌, List, [], ◌∷◌, true, false, refl, ap, sym, ◌∙◌, subst, arith, eq-eqb}
use Rattle.std.proofs.lemmas.Option.{slice_get-map}
use Rattle.std.specs.Prelude.{cond, Option, Some, None, option_map, slice_get, map, filter, is_none}
use Rattle.std.specs.List.{AllByRecursion, find}
use Rattle.canary_release.specs.declared.effect.Recorded.{Recorded}
use Rattle.canary_release.specs.declared.runs.OpenRun.{OpenRun}
use Rattle.canary_release.specs.declared.runs.Runs.{Runs}
use Rattle.canary_release.specs.Pasts.{Run, Past, is_open, tallied, tracked}
use Rattle.canary_release.specs.Evolutions.{has_number}
use Rattle.canary_release.specs.Order.{AreNumbered}
use Rattle.canary_once.specs.declared.kept_run.ClosedRun.{ClosedRun}
use Rattle.canary_once.specs.declared.kept_run.KeptRun.{KeptRun}
use Rattle.canary_once.specs.Records.{record_of, is_numbered, record_numbered}
use Rattle.canary_once.specs.Kept.{Kept, closing_of, run_in, past_kept, IsLast, HasLast, AreKept, kept_numbered, tallies_in, record_with, record_among}
use Rattle.canary_once.proofs.KeptPasts.{other_number, some_same}

-- A run by its number is the run at its place.

none_numbered : (number n : ℕ) (rs : List Run) → number < n → AreNumbered n rs → find (is_numbered number) rs ≡ None
none_numbered number n [] lt h = refl
none_numbered number n (r ∷ rs) lt h =
    let is : r.number ≡ n = h.0 in
    ap (λ b. cond b (Some r) (find (is_numbered number) rs)) (other_number r.number number (λ same. omega (arith, lt, is, same)))
    ∙ none_numbered number (suc n) rs (omega (arith, lt)) h.1

at_place : (number n place : ℕ) (rs : List Run) → number ≡ n + place → AreNumbered n rs → find (is_numbered number) rs ≡ slice_get rs place
at_place number n place [] e h = refl
at_place number n zero (r ∷ rs) e h =
    let is : r.number ≡ n = h.0 in
    ap (λ b. cond b (Some r) (find (is_numbered number) rs)) (eq-eqb r.number number (omega (arith, e, is)))
at_place number n (suc place) (r ∷ rs) e h =
    let is : r.number ≡ n = h.0 in
    ap (λ b. cond b (Some r) (find (is_numbered number) rs)) (other_number r.number number (λ same. omega (arith, e, is, same)))
    ∙ at_place number (suc n) place rs (omega (arith, e)) h.1

number_at : (n place : ℕ) (rs : List Run) (q : Run) → AreNumbered n rs → slice_get rs place ≡ Some q → q.number ≡ n + place
number_at n place [] q h e = cc e
number_at n zero (r ∷ rs) q h e =
    let is : r.number ≡ n = h.0 in
    let same : r.number ≡ q.number = ap (λ (s : Run). s.number) (some_same r q e) in
    omega (arith, is, same)
number_at n (suc place) (r ∷ rs) q h e = let later : q.number ≡ suc n + place = number_at (suc n) place rs q h.1 e in omega (arith, later)

-- An open run at a place is found by its number.

going_found : (number n place : ℕ) (rs : List Run) (q : Run) → number ≡ n + place → AreNumbered n rs → slice_get rs place ≡ Some q → is_open q ≡ true → find (has_number number) (map tallied (filter is_open rs)) ≡ Some (tallied q)
going_found number n place [] q e h there going = cc there
going_found number n zero (r ∷ rs) q e h there going =
    let is : r.number ≡ n = h.0 in
    let rest : List Run = filter is_open rs in
    let same : r ≡ q = some_same r q there in
    ap (λ b. find (has_number number) (map tallied (cond b (r ∷ rest) rest))) (ap is_open same ∙ going)
    ∙ ap (λ b. cond b (Some (tallied r)) (find (has_number number) (map tallied rest))) (eq-eqb r.number number (omega (arith, e, is)))
    ∙ ap (λ (s : Run). Some (tallied s)) same
going_found number n (suc place) (r ∷ rs) q e h there going =
    let is : r.number ≡ n = h.0 in
    let rest : List Run = filter is_open rs in
    let behind : find (has_number number) (map tallied rest) ≡ Some (tallied q) = going_found number (suc n) place rs q (omega (arith, e)) h.1 there going in
    elim (is_open r)
    as (λ b. find (has_number number) (map tallied (cond b (r ∷ rest) rest)) ≡ Some (tallied q)) [
      | true ↦ ap (λ b. cond b (Some (tallied r)) (find (has_number number) (map tallied rest))) (other_number r.number number (λ same. omega (arith, e, is, same))) ∙ behind
      | false ↦ behind
    ]

last_at : (all : List Recorded) (place : ℕ) (rs : List KeptRun) (r : KeptRun) → slice_get rs place ≡ Some r → AllByRecursion (HasLast all) rs → HasLast all r
last_at all place [] r e h = cc e
last_at all zero (q ∷ rs) r e h = subst (HasLast all) (some_same q r e) h.0
last_at all (suc place) (q ∷ rs) r e h = last_at all place rs r e h.1

-- The tallies of a run are the counts of its lists.

tallies_are : (o : Option ClosedRun) (number : ℕ) (runs : List OpenRun) (w : OpenRun) → (is_none (closing_of o) ≡ true → find (has_number number) runs ≡ Some w) → IsLast o w.tallies → tallies_in o number runs ≡ Some w.tallies
tallies_are None number runs w found last = ap (option_map (λ (r : OpenRun). r.tallies)) (found refl)
tallies_are (Some c) number runs w found last = ap Some last

told_of : (k : Kept) (number place : ℕ) (r : KeptRun) → AreKept k → number ≡ 1 + place → slice_get k.runs place ≡ Some r → record_among (Some r) (tracked (past_kept k)).open_runs ≡ Some (record_of (run_in k.measurements r))
told_of k number place r h e there =
    let all : List Recorded = k.measurements in
    let runs : List Run = (past_kept k).runs in
    let q : Run = run_in all r in
    let here : slice_get runs place ≡ Some q = slice_get-map (run_in all) k.runs place ∙ ap (option_map (run_in all)) there in
    let is : q.number ≡ 1 + place = number_at 1 place runs q h.numbered here in
    ap (option_map (record_with r)) (tallies_are r.closed r.opening.run (tracked (past_kept k)).open_runs (tallied q) (λ going. going_found q.number 1 place runs q is h.numbered here going) (last_at all place k.runs r there h.last))

-- if there is such a run
told_there : (k : Kept) (number place : ℕ) (o : Option KeptRun) → AreKept k → number ≡ 1 + place → slice_get k.runs place ≡ o → record_among o (tracked (past_kept k)).open_runs ≡ option_map record_of (option_map (run_in k.measurements) o)
told_there k number place None h e there = refl
told_there k number place (Some r) h e there = told_of k number place r h e there

pub told : (k : Kept) (number : ℕ) → AreKept k → record_among (kept_numbered k.runs number) (tracked (past_kept k)).open_runs ≡ record_numbered (past_kept k) number
told k zero h = ap (option_map record_of) (sym (none_numbered 0 1 (past_kept k).runs (omega arith) h.numbered))
told k (suc place) h =
    told_there k (suc place) place (slice_get k.runs place) h (omega arith) refl
    ∙ ap (option_map record_of) (sym (at_place (suc place) 1 place (past_kept k).runs (omega arith) h.numbered ∙ slice_get-map (run_in k.measurements) k.runs place))

-- for a service whose runs are those that are watched
pub told_by : (k : Kept) (runs : Runs) (p : Past) (number : ℕ) → AreKept k → runs ≡ tracked (past_kept k) → past_kept k ≡ p → record_among (kept_numbered k.runs number) runs.open_runs ≡ record_numbered p number
told_by k runs p number h watches is =
    ap (λ (w : Runs). record_among (kept_numbered k.runs number) w.open_runs) watches
    ∙ told k number h
    ∙ ap (λ (q : Past). record_numbered q number) is
