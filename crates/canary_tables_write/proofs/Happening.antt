-- Statements one after another, and what each leaves to the next.
use Rattle.std.proofs.Common.{◌≡◌, ℕ, ◌+◌, ◌<◌, List, [], ◌∷◌, ◌++◌, length, take, get_or, IsTrue, Result, Ok, Some, refl, sym, ap, subst, ◌∙◌}
use Rattle.std.specs.List.{AllByRecursion}
use Rattle.std.proofs.lemmas.List.{take_more}
use Rattle.sqlite.specs.State.{State, HasCleanDisk}
use Rattle.canary_release.specs.declared.effect.Closing.{Closing}
use Rattle.canary_release.specs.declared.effect.Recorded.{Recorded}
use Rattle.canary_release.specs.declared.effect.Effect.{Effect}
use Rattle.canary_tables_rows.specs.declared.rows.MeasurementRow.{MeasurementRow}
use Rattle.canary_tables_rows.specs.Tables.{Tables}
use Rattle.canary_tables_rows.specs.Changes.{HasRun, HasTally, with_measurement, with_counted, with_ending}
use Rattle.canary_tables_schema.specs.Stores.{IsReady, Wrote, WroteIf, StaysCommitted, SurvivesCut}
use Rattle.canary_tables_contents.specs.Numbers.{bit, phase_column}
use Rattle.canary_tables_contents.specs.Values.{ending_of, measurement_row}
use Rattle.canary_tables_contents.specs.Settling.{happened, all_happened, Asks, AllAsk, IsReadableEffect}
use Rattle.canary_tables_write.proofs.Doing.{on_ok, clean_before, Done, nothing_done, done_as}

-- two statements that succeed
pub both : {A B E F : Type 0} (f g : Tables → Tables) (old mid new : State) (r : Result A E) (s : Result B F) (a : A) (b : B)
    → Wrote f old mid r → Wrote g mid new s → SurvivesCut mid new → r ≡ Ok a → s ≡ Ok b → HasCleanDisk new → (t : Tables) → IsReady old t → IsReady new (g (f t))
both f g old mid new r s a b one two survives is it clean t ready =
    on_ok s b _ it (two clean (f t) (on_ok r a _ is (one (clean_before mid new survives clean) t ready)))

-- a measurement is added, and counted
pub measured : {A B E F : Type 0} (name : List ℕ) (x : Recorded) (row : MeasurementRow) (old mid new : State) (r : Result A E) (s : Result B F) (a : A) (b : B) → row ≡ measurement_row name x
    → Wrote (with_measurement row) old mid r → WroteIf (HasTally name x.run x.metric) (with_counted name x.run x.metric x.phase x.taken) mid new s → SurvivesCut mid new → r ≡ Ok a → s ≡ Ok b
    → HasCleanDisk new → (t : Tables) → IsReady old t → HasTally name x.run x.metric t → IsReady new (with_counted name x.run x.metric x.phase x.taken (with_measurement (measurement_row name x) t))
measured name x row old mid new r s a b row_is one two survives is it clean t ready tally =
    let first : IsReady mid (with_measurement (measurement_row name x) t) = subst (λ m. IsReady mid (with_measurement m t)) row_is (on_ok r a _ is (one (clean_before mid new survives clean) t ready)) in
    on_ok s b _ it (two clean (with_measurement (measurement_row name x) t) first (record { row = tally.row; one = tally.one; few = tally.few; room = tally.room }))

-- a run is closed so
pub closed : {A E : Type 0} (name : List ℕ) (x : Closing) (outside verdict : ℕ) (old new : State) (r : Result A E) (a : A) → outside ≡ bit x.outside → verdict ≡ phase_column x.verdict
    → WroteIf (HasRun name x.run) (with_ending name x.run (record { closed = Some x.at; outside = outside; verdict = verdict })) old new r → r ≡ Ok a
    → HasCleanDisk new → (t : Tables) → IsReady old t → HasRun name x.run t → IsReady new (with_ending name x.run (ending_of (Some x)) t)
closed name x outside verdict old new r a o v wrote is clean t ready run =
    subst (λ e. IsReady new (with_ending name x.run e t)) (λ i. record { closed = Some x.at; outside = o i; verdict = v i }) (on_ok r a _ is (wrote clean t ready run))

-- Effects one after another.

-- these have happened so far
pub record SoFar (name : List ℕ) (xs : List Effect) (old new : State) : Type 0 where
  pub done : Done (AllAsk name xs) (all_happened name xs) old new
  pub readable : AllByRecursion IsReadableEffect xs

pub nothing_yet : (name : List ℕ) (s : State) → SoFar name [] s s
nothing_yet name s = record { done = nothing_done (AllAsk name []) s; readable = tt }

all_more : (name : List ℕ) (xs : List Effect) (x : Effect) (t : Tables) → all_happened name (xs ++ x ∷ []) t ≡ happened name x (all_happened name xs t)
all_more name [] x t = refl
all_more name (y ∷ xs) x t = all_more name xs x (happened name y t)

ask_first : (name : List ℕ) (xs : List Effect) (x : Effect) (t : Tables) → AllAsk name (xs ++ x ∷ []) t → AllAsk name xs t
ask_first name [] x t asks = tt
ask_first name (y ∷ xs) x t asks = (asks.0, ask_first name xs x (happened name y t) asks.1)

ask_last : (name : List ℕ) (xs : List Effect) (x : Effect) (t : Tables) → AllAsk name (xs ++ x ∷ []) t → Asks name x (all_happened name xs t)
ask_last name [] x t asks = asks.0
ask_last name (y ∷ xs) x t asks = ask_last name xs x (happened name y t) asks.1

read_more : (xs : List Effect) (x : Effect) → AllByRecursion IsReadableEffect xs → IsReadableEffect x → AllByRecursion IsReadableEffect (xs ++ x ∷ [])
read_more [] x all one = (one, tt)
read_more (y ∷ xs) x all one = (all.0, read_more xs x all.1 one)

-- one more
one_more : (name : List ℕ) (xs : List Effect) (x : Effect) (old mid new : State) → SoFar name xs old mid → (HasCleanDisk new → (t : Tables) → IsReady mid t → Asks name x t → IsReady new (happened name x t)) → IsReadableEffect x
    → (HasCleanDisk new → IsTrue mid.in_transaction → IsTrue new.in_transaction) → StaysCommitted mid new → SurvivesCut mid new → SoFar name (xs ++ x ∷ []) old new
one_more name xs x old mid new h wrote readable live kept survives = record {
  done = done_as (AllAsk name (xs ++ x ∷ [])) (all_happened name (xs ++ x ∷ [])) (AllAsk name xs) (Asks name x) (all_happened name xs) (happened name x) old mid new (ask_first name xs x) (ask_last name xs x) (λ t. sym (all_more name xs x t)) h.done wrote live kept survives;
  readable = read_more xs x h.readable readable;
}

pub effect_more : (name : List ℕ) (effects : List Effect) (i : ℕ) (x : Effect) (old mid new : State) → i < length effects → x ≡ get_or effects i x → SoFar name (take i effects) old mid
    → (HasCleanDisk new → (t : Tables) → IsReady mid t → Asks name x t → IsReady new (happened name x t)) → IsReadableEffect x
    → (HasCleanDisk new → IsTrue mid.in_transaction → IsTrue new.in_transaction) → StaysCommitted mid new → SurvivesCut mid new → SoFar name (take (i + 1) effects) old new
effect_more name effects i x old mid new lt is h wrote readable live kept survives =
    subst (λ xs. SoFar name xs old new) (sym (take_more effects i x lt ∙ ap (λ y. take i effects ++ y ∷ []) (sym is))) (one_more name (take i effects) x old mid new h wrote readable live kept survives)
