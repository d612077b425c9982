-- The exact bytes of replies (RFC 9112).
use Rattle.std.specs.Prelude.{ℕ, Bool, true, false, ◌&&◌, ◌==◌, nat_le, List, [], ◌++◌, length, codes, decimal, if◌then◌else◌}
use Rattle.http.specs.StatusCode.{code_digits}
use Rattle.canary_release.specs.Replies.{code_alone}
use Rattle.canary_once.specs.AnswerTexts.{answer_status, answer_body}
use Rattle.canary_wire.specs.declared.rejection.Allowed.{Allowed}
use Rattle.canary_wire.specs.declared.rejection.Allowed.TheVariants.{Put, Get}
use Rattle.canary_wire.specs.declared.rejection.Rejection.{Rejection}
use Rattle.canary_wire.specs.declared.rejection.Rejection.TheVariants.{Malformed, Length, TooLong, NoRoute, Method, BadName, BadNumber, Unsupported, Unreadable}
use Rattle.canary_wire.specs.declared.reply.Response.{Response}
use Rattle.canary_wire.specs.declared.reply.Response.TheVariants.{Rejected, NoMemory, Answered}

-- ---- rejections

abbrev pub method_name : Allowed → List ℕ
method_name Put = codes "PUT"
method_name Get = codes "GET"

abbrev pub rejection_status : Rejection → ℕ
rejection_status Malformed = 400
rejection_status Length = 411
rejection_status TooLong = 413
rejection_status NoRoute = 404
rejection_status (Method allowed) = 405
rejection_status BadName = 400
rejection_status BadNumber = 400
rejection_status Unsupported = 400
rejection_status Unreadable = 400

abbrev pub rejection_code : Rejection → List ℕ
rejection_code Malformed = codes "malformed"
rejection_code Length = codes "length"
rejection_code TooLong = codes "too-long"
rejection_code NoRoute = codes "no-route"
rejection_code (Method allowed) = codes "method"
rejection_code BadName = codes "bad-name"
rejection_code BadNumber = codes "bad-number"
rejection_code Unsupported = codes "unsupported"
rejection_code Unreadable = codes "unreadable"

-- {"code":CODE}
abbrev pub rejection_body : Rejection → List ℕ
rejection_body r = code_alone (rejection_code r)

-- ---- what a reply says

-- a status code has three digits; in place of any other number stands 500
abbrev pub status_code : ℕ → ℕ
status_code n = if nat_le 100 n && nat_le n 999 then n else 500

abbrev pub response_status : Response → ℕ
response_status (Rejected r) = rejection_status r
response_status NoMemory = 503
response_status (Answered a) = status_code (answer_status a)

abbrev pub response_body : Response → List ℕ
response_body (Rejected r) = rejection_body r
response_body NoMemory = codes "{\"code\":\"no-memory\"}"
response_body (Answered a) = answer_body a

-- the field line that names the method of the route, which only a rejection of another method has
abbrev pub allow_line : Response → List ℕ
allow_line (Rejected (Method allowed)) = codes "Allow: " ++ (method_name allowed ++ codes "\r\n")
allow_line response = []

-- ---- texts

-- (RFC 9110, section 15)
abbrev pub reason_of : ℕ → List ℕ
reason_of status =
    if status == 200 then codes "OK"
    else (if status == 400 then codes "Bad Request"
    else (if status == 404 then codes "Not Found"
    else (if status == 405 then codes "Method Not Allowed"
    else (if status == 409 then codes "Conflict"
    else (if status == 411 then codes "Length Required"
    else (if status == 413 then codes "Content Too Large"
    else (if status == 422 then codes "Unprocessable Content"
    else (if status == 503 then codes "Service Unavailable" else codes ""))))))))

-- a field line, if it stands there
abbrev pub line_if : Bool → List ℕ → List ℕ
line_if true line = line
line_if false line = []

-- the status line, the fields, with this line or none among them, and the empty line
unfoldable pub head_text : ℕ → ℕ → List ℕ → Bool → List ℕ
head_text status size allow close =
    codes "HTTP/1.1 " ++ code_digits status ++ codes " " ++ reason_of status
    ++ codes "\r\nContent-Type: application/json\r\nContent-Length: " ++ decimal size
    ++ codes "\r\n"
    ++ allow ++ line_if close (codes "Connection: close\r\n") ++ codes "\r\n"

-- the head, and the body unless the head stands alone; the stream ends after it, or not
unfoldable pub reply_text : Response → Bool → Bool → List ℕ
reply_text response close bare =
    head_text (response_status response) (length (response_body response))
    (allow_line response) close
    ++ (if bare then [] else response_body response)
