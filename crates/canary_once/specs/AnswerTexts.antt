-- The status and the body of an answer.
use Rattle.std.specs.Prelude.{ℕ, List, codes}
use Rattle.canary_release.specs.Replies.{status_code}
use Rattle.canary_once.specs.declared.book.BookFault.{BookFault}
use Rattle.canary_once.specs.declared.book.BookFault.TheVariants.{Memory, Storage}
use Rattle.canary_once.specs.declared.event.Answer.{Answer}
use Rattle.canary_once.specs.declared.event.Answer.TheVariants.{Replied, Unavailable}

-- (RFC 9110, section 15)
abbrev pub answer_status : Answer → ℕ
answer_status (Replied reply) = status_code reply.status
answer_status (Unavailable fault) = 503

-- {"code":"no-memory"} or {"code":"storage"}
abbrev pub fault_text : BookFault → List ℕ
fault_text Memory = codes "{\"code\":\"no-memory\"}"
fault_text Storage = codes "{\"code\":\"storage\"}"

abbrev pub answer_body : Answer → List ℕ
answer_body (Replied reply) = reply.body
answer_body (Unavailable fault) = fault_text fault
