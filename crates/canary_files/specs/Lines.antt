-- The line that answers a row.
use Rattle.std.specs.Prelude.{ℕ, List, ◌++◌, codes, decimal}
use Rattle.canary_release.specs.Replies.{code_alone}
use Rattle.canary_once.specs.AnswerTexts.{answer_status, answer_body}
use Rattle.canary_files.specs.declared.row.RowRefusal.{RowRefusal}
use Rattle.canary_files.specs.declared.row.RowRefusal.TheVariants.{Unreadable, BadName, BadNumber}
use Rattle.canary_files.specs.declared.answer.RowReply.{RowReply}
use Rattle.canary_files.specs.declared.answer.RowReply.TheVariants.{Refused, NoMemory, Answered}

abbrev pub refusal_code : RowRefusal → List ℕ
refusal_code Unreadable = codes "unreadable"
refusal_code BadName = codes "bad-name"
refusal_code BadNumber = codes "bad-number"

abbrev pub told_status : RowReply → ℕ
told_status (Refused refusal) = 400
told_status NoMemory = 503
told_status (Answered answer) = answer_status answer

abbrev pub told_body : RowReply → List ℕ
told_body (Refused refusal) = code_alone (refusal_code refusal)
told_body NoMemory = codes "{\"code\":\"no-memory\"}"
told_body (Answered answer) = answer_body answer

abbrev pub line_front : ℕ → ℕ → List ℕ
line_front number status = decimal number ++ codes " " ++ decimal status ++ codes " "

-- the row's number, the status and the body, ended with LF
abbrev pub line_of : ℕ → ℕ → List ℕ → List ℕ
line_of number status body = line_front number status ++ (body ++ codes "\n")
