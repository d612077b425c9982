-- Passing time: a chain of moves.
use Rattle.std.specs.Prelude.{◌≡◌, ℕ, zero, suc, ◌+◌, ◌-◌, ◌≤◌, nat_le, ◌&&◌, not, Bool, true, false, IsTrue, if◌then◌else◌, length, Option, Some, None, max}
use Rattle.canary_plan.specs.declared.step.Step.{Step}
use Rattle.canary_plan.specs.declared.step.Step.TheVariants.{SetWeight, Pause, Analysis}
use Rattle.canary_release.specs.declared.state.ServiceState.{ServiceState}
use Rattle.canary_release.specs.Services.{is_in_progress, is_held, step_of}
use Rattle.canary_release.specs.Evolutions.{Evolution, with_service_state}
use Rattle.canary_release.specs.Rules.Entering.{enter}

-- in progress and not held: only then a release moves
abbrev pub is_free : ServiceState → Bool
is_free s = is_in_progress s.state && not (is_held s)

-- the moment at which a step that was entered at one moves by time, or none
abbrev pub leaves_at : Option Step → ℕ → Option ℕ
leaves_at (Some (SetWeight percent)) entered = Some entered
leaves_at (Some (Pause (Some seconds))) entered = Some (entered + seconds)
leaves_at (Some (Pause None)) entered = None
leaves_at (Some (Analysis names)) entered = None
leaves_at None entered = None

-- a move at moment e: the next step is entered when the present one leaves
abbrev pub Moves : Evolution → ℕ → Evolution → Type 0
Moves c e next =
    IsTrue (is_free c.service) × (leaves_at (step_of c.service) c.service.entered ≡ Some e)
    × (next ≡ enter c (c.service.step + 1) e)

-- so many moves with moments at most t lead from one to the other
abbrev pub Chain : ℕ → ℕ → Evolution → Evolution → Type 0
Chain zero t c end' = end' ≡ c
Chain (suc n) t c end' =
    (e : ℕ) × (next : Evolution) × Moves c e next × (e ≤ t) × Chain n t next end'

-- no chain of moves with moments at most t has more than n of them
abbrev pub IsLongest : ℕ → Evolution → ℕ → Type 0
IsLongest t c n = (m : ℕ) (d : Evolution) → Chain m t c d → m ≤ n

abbrev pub with_last : Evolution → ℕ → Evolution
with_last c t = with_service_state c (record c.service { last = t })

-- the later of the moment and the service's last
abbrev pub judged_at : ServiceState → ℕ → ℕ
judged_at s t = max t s.last

-- passed to t: the end of the longest chain of moves up to the later of t and the last moment
abbrev pub Passes : Evolution → ℕ → Evolution → Type 0
Passes c t passed =
    let at = judged_at c.service t in
    (n : ℕ) × (end' : Evolution) × Chain n at c end' × IsLongest at c n
    × (passed ≡ with_last end' at)

-- The same, computed.

-- the moment of the next move, or none
abbrev pub next_move : ServiceState → Option ℕ
next_move s = if is_free s then leaves_at (step_of s) s.entered else None

abbrev pub is_by : ℕ → Option ℕ → Bool
is_by t None = false
is_by t (Some e) = nat_le e t

-- a move at a moment, if it is by t
abbrev pub move_by : ℕ → Option ℕ → Option ℕ
move_by t None = None
move_by t (Some e) = if nat_le e t then Some e else None

abbrev pub move_at : Evolution → Option ℕ → Evolution
move_at c None = c
move_at c (Some e) = enter c (c.service.step + 1) e

-- at most so many moves with moments at most t
abbrev pub chain_end : ℕ → ℕ → Evolution → Evolution
chain_end zero t c = c
chain_end (suc n) t c =
    elim (is_by t (next_move c.service))
    [ true ↦ chain_end n t (move_at c (next_move c.service)) | false ↦ c ]

-- the end of the chain of moves up to t; each move raises the step, so there are no more moves than
-- steps
abbrev pub followed : Evolution → ℕ → Evolution
followed c t = chain_end (length c.service.strategy.steps - c.service.step) t c

-- passed to t
abbrev pub pass : Evolution → ℕ → Evolution
pass c t =
    let at = judged_at c.service t in
    with_last (followed c at) at

-- the law that joins them: there is a longest chain, its end is the computed one, and no other
-- passes
abbrev pub PassesAsComputed : Type 0
PassesAsComputed =
    (c : Evolution) (t : ℕ) → Passes c t (pass c t)
    × ((p : Evolution) → Passes c t p → p ≡ pass c t)

-- the law of time: passing in two steps is passing in one, effects and all
abbrev pub PassesInSteps : Type 0
PassesInSteps = (c : Evolution) (t u : ℕ) → t ≤ u → pass (pass c t) u ≡ pass c u
