-- Runs under their numbers: the one that stands there, one more, and each changed.
use Rattle.std.proofs.Common.{◌≡◌, ℕ, zero, suc, ◌+◌, List, [], ◌∷◌, ◌++◌, length, true, false, refl, ap, sym, ◌∙◌, arith, eqb-true}
use Rattle.std.specs.Prelude.{◌==◌, cond, filter, map, Option, Some, None, option_map, slice_get}
use Rattle.std.specs.List.{find}
use Rattle.std.proofs.lemmas.Option.{slice_get-map}
use Rattle.canary_plan.specs.declared.analysis_parts.AnalysisParts.{AnalysisParts}
use Rattle.canary_release.specs.declared.runs.OpenRun.{OpenRun}
use Rattle.canary_release.specs.Evolutions.{has_number}
use Rattle.canary_release.specs.Order.{AreNumbered}
use Rattle.canary_release.specs.Pasts.{Run, is_open, tallied}
use Rattle.canary_tables_contents.specs.Values.{binding_row}
use Rattle.canary_tables_contents.specs.Tables.{row_if, run_at, is_of_template, revisions_of_run}
use Rattle.canary_tables_contents.proofs.PastRows.{bound_rows}
use Rattle.canary_tables_contents.proofs.Pushed.{at_last, past_last, at_other}

-- Numbers.

pub numbered_and_more : (n : ℕ) (runs : List Run) (r : Run) → AreNumbered n runs → r.number ≡ n + length runs → AreNumbered n (runs ++ r ∷ [])
numbered_and_more n [] r h e = (omega (arith, e), tt)
numbered_and_more n (q ∷ runs) r h e = (h.0, numbered_and_more (suc n) runs r h.1 (omega (arith, e)))

pub same_numbers : (f : Run → Run) → ((r : Run) → (f r).number ≡ r.number) → (n : ℕ) (runs : List Run) → AreNumbered n runs → AreNumbered n (map f runs)
same_numbers f same n [] h = tt
same_numbers f same n (r ∷ runs) h = (same r ∙ h.0, same_numbers f same (suc n) runs h.1)

number_at : (n : ℕ) (runs : List Run) (place : ℕ) (r : Run) → AreNumbered n runs → slice_get runs place ≡ Some r → r.number ≡ place + n
number_at n [] place r h at = cc at
number_at n (q ∷ runs) zero r h at = let same : q ≡ r = cc at in let is : q.number ≡ n = h.0 in sym (ap (λ (x : Run). x.number) same) ∙ is ∙ (let e : n ≡ zero + n = omega arith in e)
number_at n (q ∷ runs) (suc place) r h at = let is : r.number ≡ place + suc n = number_at (suc n) runs place r h.1 at in omega (arith, is)

pub has_its_number : (runs : List Run) (number : ℕ) (r : Run) → AreNumbered 1 runs → run_at number runs ≡ Some r → r.number ≡ number
has_its_number runs zero r h at = cc at
has_its_number runs (suc place) r h at = let is : r.number ≡ place + 1 = number_at 1 runs place r h at in omega (arith, is)

-- Each run changed.

pub run_in_map : (f : Run → Run) (number : ℕ) (runs : List Run) → run_at number (map f runs) ≡ option_map f (run_at number runs)
run_in_map f zero runs = refl
run_in_map f (suc place) runs = slice_get-map f runs place

same_revisions : (f : Run → Run) → ((r : Run) → (f r).analysis ≡ r.analysis) → (o : Option Run) → revisions_of_run o ≡ revisions_of_run (option_map f o)
same_revisions f same None = refl
same_revisions f same (Some r) = ap (λ (a : AnalysisParts). a.revisions) (sym (same r))

-- runs that keep their analyses are bound as they were
pub same_bound : (name : List ℕ) (number : ℕ) (template : List ℕ) (f : Run → Run) → ((r : Run) → (f r).analysis ≡ r.analysis) → (runs : List Run) → bound_rows name number template runs ≡ bound_rows name number template (map f runs)
same_bound name number template f same runs =
    ap (λ rs. row_if (binding_row name number) (find (is_of_template template) rs)) (same_revisions f same (run_at number runs) ∙ ap revisions_of_run (sym (run_in_map f number runs)))

-- One run more.

pub run_at_last : (runs : List Run) (r : Run) (number : ℕ) → number ≡ length runs + 1 → run_at number (runs ++ r ∷ []) ≡ Some r
run_at_last runs r zero last = absurd (omega (arith, last))
run_at_last runs r (suc place) last = let here : place ≡ length runs = omega (arith, last) in ap (slice_get (runs ++ r ∷ [])) here ∙ at_last runs r

pub no_run_yet : (runs : List Run) (number : ℕ) → number ≡ length runs + 1 → run_at number runs ≡ None
no_run_yet runs zero last = refl
no_run_yet runs (suc place) last = let here : place ≡ length runs = omega (arith, last) in ap (slice_get runs) here ∙ past_last runs

pub run_at_other : (runs : List Run) (r : Run) (number : ℕ) → (number ≡ length runs + 1 → ⊥) → run_at number (runs ++ r ∷ []) ≡ run_at number runs
run_at_other runs r zero apart = refl
run_at_other runs r (suc place) apart = at_other runs r place (λ e. apart (let f : suc place ≡ length runs + 1 = omega (arith, e) in f))

-- An open run that is found by its number stands under it.

record FoundRun (k n : ℕ) (runs : List Run) (r : OpenRun) : Type 0 where
  place : ℕ
  numbered : k ≡ place + n
  run : Run
  there : slice_get runs place ≡ Some run
  alike : tallied run ≡ r

found_behind : (k n : ℕ) (q : Run) (runs : List Run) (r : OpenRun) → FoundRun k (suc n) runs r → FoundRun k n (q ∷ runs) r
found_behind k n q runs r h = record {
  place = suc h.place;
  numbered = let e : k ≡ h.place + suc n = h.numbered in omega (arith, e);
  run = h.run;
  there = h.there;
  alike = h.alike;
}

found_first : (k n : ℕ) (q : Run) (runs : List Run) (r : OpenRun) → q.number ≡ n → q.number ≡ k → tallied q ≡ r → FoundRun k n (q ∷ runs) r
found_first k n q runs r is same alike = record {
  place = zero;
  numbered = let e : k ≡ n = sym same ∙ is in omega (arith, e);
  run = q;
  there = refl;
  alike = alike;
}

found_at : (k n : ℕ) (runs : List Run) (r : OpenRun) → AreNumbered n runs → find (has_number k) (map tallied (filter is_open runs)) ≡ Some r → FoundRun k n runs r
found_at k n [] r h e = cc e
found_at k n (q ∷ runs) r h e =
    let rest : List Run = filter is_open runs in
    let behind : find (has_number k) (map tallied rest) ≡ Some r → FoundRun k n (q ∷ runs) r = λ e. found_behind k n q runs r (found_at k (suc n) runs r h.1 e) in
    elim (is_open q)
    as (λ b. find (has_number k) (map tallied (cond b (q ∷ rest) rest)) ≡ Some r → FoundRun k n (q ∷ runs) r) [
      | true ↦ λ e.
          elim (q.number == k)
          as (λ b. (q.number == k) ≡ b → ◌≡◌ {A = Option OpenRun} (cond b (Some (tallied q)) (find (has_number k) (map tallied rest))) (Some r) → FoundRun k n (q ∷ runs) r) [
            | true ↦ λ t e. found_first k n q runs r h.0 (eqb-true q.number k t) (let same : tallied q ≡ r = cc e in same)
            | false ↦ λ t e. behind e
          ] refl e
      | false ↦ λ e. behind e
    ] e

-- under its number stands a run that is tracked as this one
pub record StandsThere (runs : List Run) (number : ℕ) (r : OpenRun) : Type 0 where
  pub run : Run
  pub there : run_at number runs ≡ Some run
  pub alike : tallied run ≡ r

run_at_place : (runs : List Run) (number place : ℕ) → number ≡ place + 1 → run_at number runs ≡ slice_get runs place
run_at_place runs zero place e = absurd (omega (arith, e))
run_at_place runs (suc below) place e = ap (slice_get runs) (let same : below ≡ place = omega (arith, e) in same)

pub found_stands : (runs : List Run) (number : ℕ) (r : OpenRun) → AreNumbered 1 runs → find (has_number number) (map tallied (filter is_open runs)) ≡ Some r → StandsThere runs number r
found_stands runs number r h e =
    let found : FoundRun number 1 runs r = found_at number 1 runs r h e in
    record { run = found.run; there = run_at_place runs number found.place found.numbered ∙ found.there; alike = found.alike }
