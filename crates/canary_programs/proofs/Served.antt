-- From the clauses of what is called to how a stream was served, and to what went out.
use Rattle.std.proofs.Common.{◌≡◌, ℕ, List, Result, Ok, Err, IfOk, refl}
use Rattle.canary_once.specs.Messages.{DeskState}
use Rattle.canary_wire.specs.Serving.{ServesTo, ServesSome, ServesUntil}
use Rattle.canary_base.specs.Writes.{Known}
use Rattle.canary_wire.specs.declared.serve.Ended.{Ended}
use Rattle.canary_wire.specs.declared.serve.Ended.TheVariants.{EndOfInput, Closed, Truncated, TurnsSpent}
use Rattle.canary_wire.specs.declared.serve.ServeFault.{ServeFault}
use Rattle.canary_wire.specs.declared.serve.ServeFault.TheVariants.{Read, Write, Memory}
use Rattle.canary_files.specs.Exporting.{Puts}
use Rattle.canary_programs.specs.Faults.{done_of}
use Rattle.canary_programs.specs.Programs.{IsServed}
use Rattle.canary_programs.specs.declared.fault.Fault.TheVariants as fault

pub served_so : (r new_r w new_w : Known) (old new : DeskState) (served : Result Ended ServeFault)
    → IfOk served (λ ended. ServesTo r new_r w new_w old new ended)
    → (served ≡ Err Read → ServesSome r new_r w new_w old new)
    → (served ≡ Err Write → ServesUntil r new_r w new_w old new)
    → (served ≡ Err Memory → (new_r ≡ r) × (new_w ≡ w))
    → IsServed r new_r w new_w old new served
served_so r new_r w new_w old new (Ok ended) ok read write memory = ok
served_so r new_r w new_w old new (Err Read) ok read write memory = read refl
served_so r new_r w new_w old new (Err Write) ok read write memory = write refl
served_so r new_r w new_w old new (Err Memory) ok read write memory = memory refl

-- only if there was no memory to begin with
pub only_memory : (served : Result Ended ServeFault) → done_of served ≡ Err fault.Memory → served ≡ Err Memory
only_memory (Ok EndOfInput) is = cc
only_memory (Ok Closed) is = cc
only_memory (Ok Truncated) is = cc
only_memory (Ok TurnsSpent) is = cc
only_memory (Err Read) is = cc
only_memory (Err Write) is = cc
only_memory (Err Memory) is = refl

-- what went out if the call succeeded, whatever its faults are called
pub puts_done : {A E F : Type 0} (old new : Known) (text : List ℕ) (x : A) → Puts {A = A} {E = E} old new text (Ok x) → Puts {A = A} {E = F} old new text (Ok x)
puts_done old new text x p = record { front = p.front; back = p.back; parts = p.parts; written = p.written; all = p.all }
