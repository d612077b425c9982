-- What is tracked is seen in whole lists as in tallies.
use Rattle.std.proofs.Common.{◌≡◌, ℕ, zero, suc, ◌+◌, List, [], ◌∷◌, ◌++◌, length, refl, ap, sym, ◌∙◌, length-append}
use Rattle.std.specs.Prelude.{true, false, if◌then◌else◌, cond, map, filter, ◌==◌, Some, None, is_none, replicate}
use Rattle.std.proofs.lemmas.List.{map-append}
use Rattle.canary_metric.specs.Counts.{counts, CountsOneMore}
use Rattle.canary_release.specs.declared.effect.Recorded.{Recorded}
use Rattle.canary_release.specs.declared.effect.Closing.{Closing}
use Rattle.canary_release.specs.declared.effect.Effect.{Effect}
use Rattle.canary_release.specs.declared.effect.Effect.TheVariants.{LineAdded, RunOpened, MeasurementRecorded, RunClosed}
use Rattle.canary_release.specs.declared.runs.OpenRun.{OpenRun}
use Rattle.canary_release.specs.declared.runs.Runs.{Runs}
use Rattle.canary_release.specs.declared.state.ServiceState.{ServiceState}
use Rattle.canary_release.specs.Pasts.{Run, Past, change_at, opened_run, with_recorded, measured_in, closed_in, past_with, is_open, measurement_of, counts_of, tallied, tracked}
use Rattle.canary_release.specs.Watching.{opened_now, counted, counted_in, is_other, effect_applied, after_all}
use Rattle.canary_release.specs.Evolutions.{Evolution, RunView, evolution_from}
use Rattle.canary_release.specs.Desks.{watch_of}
use Rattle.canary_release.specs.Laws.{WatchesAlike}

none_alike : (n : ℕ) → map counts_of (replicate n []) ≡ replicate n (counts [])
none_alike zero = refl
none_alike (suc n) = ap (λ ts. counts [] ∷ ts) (none_alike n)

-- a run is opened
open_more : (rs : List Run) (r : Run) → r.closed ≡ None → map tallied (filter is_open (rs ++ r ∷ [])) ≡ map tallied (filter is_open rs) ++ tallied r ∷ []
open_more [] r e = rw e refl
open_more (x ∷ rs) r e =
    let h = open_more rs r e in
    elim (is_open x)
    as (λ b. map tallied (cond b (x ∷ filter is_open (rs ++ r ∷ [])) (filter is_open (rs ++ r ∷ []))) ≡ map tallied (cond b (x ∷ filter is_open rs) (filter is_open rs)) ++ tallied r ∷ [])
    [ true ↦ ap (λ ys. tallied x ∷ ys) h | false ↦ h ]

one_longer : (rs : List Run) (r : Run) → length (rs ++ r ∷ []) ≡ length rs + 1
one_longer rs r = length-append rs (r ∷ [])

-- a measurement is added
list_alike : CountsOneMore → (x : Recorded) (list : List Recorded) → counts_of (with_recorded x list) ≡ counted x (counts_of list)
list_alike one x list = ap counts (map-append measurement_of list (x ∷ [])) ∙ one (map measurement_of list) (measurement_of x)

lists_alike : CountsOneMore → (x : Recorded) (k : ℕ) (ls : List (List Recorded)) → map counts_of (change_at k (with_recorded x) ls) ≡ change_at k (counted x) (map counts_of ls)
lists_alike one x k [] = refl
lists_alike one x zero (l ∷ ls) = ap (λ c. c ∷ map counts_of ls) (list_alike one x l)
lists_alike one x (suc k) (l ∷ ls) = ap (λ cs. counts_of l ∷ cs) (lists_alike one x k ls)

run_alike : CountsOneMore → (x : Recorded) (r : Run) → (tallied (measured_in x r) ≡ counted_in x (tallied r)) × (is_open (measured_in x r) ≡ is_open r)
run_alike one x r =
    let s : Run = record r { lists = change_at x.metric (with_recorded x) r.lists } in
    elim (r.number == x.run)
    as (λ b. (tallied (if b then s else r) ≡ (let t : OpenRun = (if b then record (tallied r) { tallies = change_at x.metric (counted x) (map counts_of r.lists) } else tallied r) in t)) × (is_open (if b then s else r) ≡ is_open r))
    [ true ↦ ((λ i. record (tallied r) { tallies = lists_alike one x x.metric r.lists i }), refl) | false ↦ (refl, refl) ]

-- a map that keeps what is open
mapped : (f : Run → Run) (g : OpenRun → OpenRun) → ((r : Run) → (tallied (f r) ≡ g (tallied r)) × (is_open (f r) ≡ is_open r)) → (rs : List Run) → map tallied (filter is_open (map f rs)) ≡ map g (map tallied (filter is_open rs))
mapped f g alike [] = refl
mapped f g alike (r ∷ rs) =
    let h = mapped f g alike rs in
    let same = alike r in
    ap (λ b. map tallied (cond b (f r ∷ filter is_open (map f rs)) (filter is_open (map f rs)))) same.1
    ∙ elim (is_open r)
    as (λ b. map tallied (cond b (f r ∷ filter is_open (map f rs)) (filter is_open (map f rs))) ≡ map g (map tallied (cond b (r ∷ filter is_open rs) (filter is_open rs))))
    [ true ↦ (λ i. same.0 i ∷ h i) | false ↦ h ]

-- a run is closed
others : (x : Closing) (rs : List Run) → map tallied (filter is_open (map (closed_in x) rs)) ≡ filter (is_other x.run) (map tallied (filter is_open rs))
others x [] = refl
others x (r ∷ rs) =
    let h = others x rs in
    let new : List Run = filter is_open (map (closed_in x) rs) in
    let old : List Run = filter is_open rs in
    elim (r.number == x.run)
    as (λ b. (r.number == x.run) ≡ b → map tallied (cond (is_none (let q : Run = (if b then record r { closed = Some x } else r) in q).closed) ((if b then record r { closed = Some x } else r) ∷ new) new) ≡ filter (is_other x.run) (map tallied (cond (is_open r) (r ∷ old) old))) [
      | true ↦ λ e. elim (is_open r) as (λ o. map tallied new ≡ filter (is_other x.run) (map tallied (cond o (r ∷ old) old))) [ true ↦ rw e h | false ↦ h ]
      | false ↦ λ e. elim (is_open r) as (λ o. map tallied (cond o (r ∷ new) new) ≡ filter (is_other x.run) (map tallied (cond o (r ∷ old) old))) [ true ↦ rw e (ap (λ ys. tallied r ∷ ys) h) | false ↦ h ]
    ] refl

same_length : (f : Run → Run) (rs : List Run) → length (map f rs) ≡ length rs
same_length f [] = refl
same_length f (r ∷ rs) = ap suc (same_length f rs)

one_alike : CountsOneMore → (p : Past) (x : Effect) → tracked (past_with p x) ≡ effect_applied (tracked p) x
one_alike one p (LineAdded line) = refl
one_alike one p (RunOpened x) =
    let r = opened_run x in
    let opened = open_more p.runs r refl ∙ (λ i. map tallied (filter is_open p.runs) ++ record (opened_now x) { tallies = none_alike (length x.analysis.metrics) i } ∷ []) in
    λ i. record { count = one_longer p.runs r i; open_runs = opened i }
one_alike one p (MeasurementRecorded x) =
    let going = mapped (measured_in x) (counted_in x) (run_alike one x) p.runs in
    λ i. record { count = same_length (measured_in x) p.runs i; open_runs = going i }
one_alike one p (RunClosed x tallies) = λ i. record { count = same_length (closed_in x) p.runs i; open_runs = others x p.runs i }

pub watches_alike : CountsOneMore → WatchesAlike
watches_alike one p [] = refl
watches_alike one p (x ∷ xs) = watches_alike one (past_with p x) xs ∙ ap (λ w. after_all w xs) (one_alike one p x)

-- the model's view of runs is the view of runs of what is kept
pub one_watch : WatchesAlike → (p : Past) (kept : Runs) → kept ≡ tracked p → watch_of p ≡ after_all kept
one_watch alike p kept known = λ i xs. (alike p xs ∙ ap (λ (w : Runs). after_all w xs) (sym known)) i

-- so a rule, which is given an evolution alone, says of the one what it says of the other
pub rules_alike : WatchesAlike → {A : Type 0} (rule : Evolution → A) (s : ServiceState) (p : Past) (kept : Runs) → kept ≡ tracked p → rule (evolution_from s (watch_of p)) ≡ rule (evolution_from s (after_all kept))
rules_alike alike rule s p kept known = ap (λ (w : RunView). rule (evolution_from s w)) (one_watch alike p kept known)
