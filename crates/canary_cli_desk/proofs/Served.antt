-- From the clauses of `serve` to how the input of `pipe` was served.
use Rattle.std.proofs.Common.{◌≡◌, ◌∙◌, ℕ, Result, Ok, Err, IfOk, ap, refl}
use Rattle.canary_once.specs.Contents.{Contents, no_contents}
use Rattle.canary_wire.specs.Serving.{ServesTo, ServesSome, ServesUntil}
use Rattle.canary_base.specs.Writes.{Known}
use Rattle.canary_wire.specs.declared.serve.Ended.{Ended}
use Rattle.canary_wire.specs.declared.serve.ServeFault.{ServeFault}
use Rattle.canary_wire.specs.declared.serve.ServeFault.TheVariants.{Read, Write, Memory}
use Rattle.canary_cli_desk.specs.Run.{Standing, point_of, fresh, IsServed}

-- a clock of steps, and what a book contains
abbrev pub standing : ℕ × ℕ → Contents → Standing
standing clock contents = record { at = clock.0; step = clock.1; contents = contents }

pub standing_fresh : (clock : ℕ × ℕ) (contents : Contents) (at step : ℕ) → clock ≡ (at, step) → contents ≡ no_contents → standing clock contents ≡ fresh at step
standing_fresh clock contents at step clock_is none = ap (λ c. standing c contents) clock_is ∙ ap (standing (at, step)) none

pub served_so : (r new_r w new_w : Known) (start end : Standing) (served : Result Ended ServeFault)
    → IfOk served (λ ended. ServesTo r new_r w new_w (point_of start) (point_of end) ended)
    → (served ≡ Err Read → ServesSome r new_r w new_w (point_of start) (point_of end))
    → (served ≡ Err Write → ServesUntil r new_r w new_w (point_of start) (point_of end))
    → (served ≡ Err Memory → (new_r ≡ r) × (new_w ≡ w))
    → IsServed r new_r w new_w start served
served_so r new_r w new_w start end (Ok ended) ok read write memory = (end, ok)
served_so r new_r w new_w start end (Err Read) ok read write memory = (end, read refl)
served_so r new_r w new_w start end (Err Write) ok read write memory = (end, write refl)
served_so r new_r w new_w start end (Err Memory) ok read write memory = memory refl
