-- What a book reported, as effects leave it, is what the past that has grown by them says.
use Rattle.std.proofs.Common.{◌≡◌, ℕ, zero, suc, ◌+◌, ◌<◌, List, [], ◌∷◌, ◌++◌, length, drop, get_or, refl, sym, ap, ◌∙◌}
use Rattle.std.specs.Prelude.{true, false, if◌then◌else◌, cond, ◌==◌, map, find, replicate, Option, Some, None, option_map}
use Rattle.std.specs.List.{AllByRecursion}
use Rattle.canary_metric.specs.Counts.{counts}
use Rattle.canary_plan.specs.declared.line.Line.{Line}
use Rattle.canary_release.specs.declared.effect.Opening.{Opening}
use Rattle.canary_release.specs.declared.effect.Closing.{Closing}
use Rattle.canary_release.specs.declared.effect.Effect.{Effect}
use Rattle.canary_release.specs.declared.effect.Effect.TheVariants.{LineAdded, RunOpened, MeasurementRecorded, RunClosed}
use Rattle.canary_release.specs.Pasts.{Run, Past, opened_run, closed_in, counts_of, past_with, past_with_all}
use Rattle.canary_release.specs.Effects.{IsQuiet}
use Rattle.canary_once.specs.declared.record.RunRecord.{RunRecord}
use Rattle.canary_once.specs.Records.{record_of, is_numbered, record_numbered}
use Rattle.canary_once.specs.Showing.{opened_record, closed_record, opened_of, record_then, record_after}
use Rattle.canary_once.proofs.Histories.{left_more}

-- Loops over effects.

pub record_more : (number : ℕ) (old new whole : Option RunRecord) (xs : List Effect) (i : ℕ) (x : Effect) → i < length xs → x ≡ get_or xs i x → record_after number old (drop i xs) ≡ whole → new ≡ record_then number old x → record_after number new (drop (i + 1) xs) ≡ whole
record_more number old new whole xs i x lt is so_far one =
    ap (λ (r : Option RunRecord). record_after number r (drop (i + 1) xs)) one ∙ sym (ap (record_after number old) (left_more xs i x lt is)) ∙ so_far

-- Runs.

none_counted : (n : ℕ) → replicate n (counts []) ≡ map counts_of (replicate n [])
none_counted zero = refl
none_counted (suc n) = ap (λ ts. counts [] ∷ ts) (none_counted n)

opened_is : (x : Opening) → opened_record x ≡ record_of (opened_run x)
opened_is x = λ i. record (opened_record x) { tallies = none_counted (length x.analysis.metrics) i }

opened_more : (number : ℕ) (x : Opening) (rs : List Run) → opened_of number x (option_map record_of (find (is_numbered number) rs)) ≡ option_map record_of (find (is_numbered number) (rs ++ opened_run x ∷ []))
opened_more number x [] =
    elim (x.run == number)
    as (λ b. (let o : Option RunRecord = (if b then Some (opened_record x) else None) in o) ≡ option_map record_of (let o : Option Run = cond b (Some (opened_run x)) None in o))
    [ true ↦ ap (λ (r : RunRecord). Some r) (opened_is x) | false ↦ refl ]
opened_more number x (r ∷ rs) =
    let h = opened_more number x rs in
    elim (r.number == number)
    as (λ b. opened_of number x (option_map record_of (cond b (Some r) (find (is_numbered number) rs))) ≡ option_map record_of (cond b (Some r) (find (is_numbered number) (rs ++ opened_run x ∷ []))))
    [ true ↦ refl | false ↦ h ]

-- a run keeps its number as one is closed
number_kept : (number : ℕ) (x : Closing) (r : Run) → is_numbered number (closed_in x r) ≡ (r.number == number)
number_kept number x r =
    let shut : Run = record r { closed = Some x } in
    elim (r.number == x.run)
    as (λ b. ((let q : Run = (if b then shut else r) in q).number == number) ≡ (r.number == number))
    [ true ↦ refl | false ↦ refl ]

closed_is : (x : Closing) (r : Run) → closed_record x (record_of r) ≡ record_of (closed_in x r)
closed_is x r =
    let shut : Run = record r { closed = Some x } in
    elim (r.number == x.run)
    as (λ b. (let q : RunRecord = (if b then record (record_of r) { closed = Some x } else record_of r) in q) ≡ record_of (let q : Run = (if b then shut else r) in q))
    [ true ↦ refl | false ↦ refl ]

closed_more : (number : ℕ) (x : Closing) (rs : List Run) → option_map (closed_record x) (option_map record_of (find (is_numbered number) rs)) ≡ option_map record_of (find (is_numbered number) (map (closed_in x) rs))
closed_more number x [] = refl
closed_more number x (r ∷ rs) =
    let h = closed_more number x rs in
    let new : Option Run = find (is_numbered number) (map (closed_in x) rs) in
    let old : Option Run = find (is_numbered number) rs in
    elim (r.number == number)
    as (λ n. option_map (closed_record x) (option_map record_of (cond n (Some r) old)) ≡ option_map record_of (cond n (Some (closed_in x r)) new))
    [ true ↦ ap (λ (q : RunRecord). Some q) (closed_is x r) | false ↦ h ]
    ∙ sym (ap (λ n. option_map record_of (cond n (Some (closed_in x r)) new)) (number_kept number x r))

record_grows : (number : ℕ) (p : Past) (x : Effect) → IsQuiet x → record_then number (record_numbered p number) x ≡ record_numbered (past_with p x) number
record_grows number p (LineAdded line) quiet = refl
record_grows number p (RunOpened x) quiet = opened_more number x p.runs
record_grows number p (MeasurementRecorded x) quiet = absurd quiet
record_grows number p (RunClosed x tallies) quiet = closed_more number x p.runs

pub record_grow : (number : ℕ) (p : Past) (xs : List Effect) → AllByRecursion IsQuiet xs → record_after number (record_numbered p number) xs ≡ record_numbered (past_with_all p xs) number
record_grow number p [] quiet = refl
record_grow number p (x ∷ xs) quiet = ap (λ (r : Option RunRecord). record_after number r xs) (record_grows number p x quiet.0) ∙ record_grow number (past_with p x) xs quiet.1
