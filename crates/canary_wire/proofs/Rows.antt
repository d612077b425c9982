-- Worked rows of the wire, computed on the definitions.
use Rattle.std.proofs.Common.{◌≡◌, ℕ, List, [], ◌∷◌, ◌++◌, length, drop, get_or, true, false, refl, sym, ap, subst, arith}
use Rattle.std.specs.Prelude.{codes, Ok, Err}
use Rattle.std.specs.Fmt.{digits}
use Rattle.std.specs.Str.{is_utf8, chars}
use lib.Utf8.{encode}
use Rattle.std.proofs.lemmas.Str.{IsUtf8-from_is_utf8}
use Rattle.std.proofs.lemmas.List.{length-append}
use Rattle.httparse.specs.Grammar.{trim_ows}
use Rattle.http1.specs.Text.{eq_ignore_case}
use Rattle.http1.specs.Fields.{elements}
use Rattle.canary_release.specs.declared.reply.ReplyStatus.TheVariants.{Accepted, Refused}
use Rattle.canary_once.specs.declared.book.BookFault.TheVariants.{Memory, Storage}
use Rattle.canary_once.specs.declared.event.Answer.TheVariants.{Replied, Unavailable}
use Rattle.canary_once.specs.declared.event.Query.TheVariants as query
use Rattle.canary_wire.specs.declared.rejection.Allowed.TheVariants.{Put, Get}
use Rattle.canary_wire.specs.declared.routes.Wanted.TheVariants as asked
use Rattle.canary_wire.specs.declared.rejection.Rejection.TheVariants.{Malformed, Length, TooLong, Method, BadName, Unsupported}
use Rattle.canary_wire.specs.declared.framing.Framing.TheVariants.{Body, Rejected}
use Rattle.canary_wire.specs.declared.reply.Response.TheVariants as response
use Rattle.canary_wire.specs.Heads.{framing_of, asks_to_close}
use Rattle.canary_wire.specs.ReplyTexts.{head_text, reply_text}
use Rattle.canary_wire.specs.Routes.{request, service, history, run, IsPart, HasNoRoute, IsAsked}

-- ---- heads

abbrev length_of : List ℕ → List ℕ × List ℕ
length_of value = (codes "Content-Length", value)

longest_body : framing_of (codes "PUT") (length_of (codes "65536") ∷ []) ≡ Body 65536
longest_body = refl

too_long_body : framing_of (codes "PUT") (length_of (codes "65537") ∷ []) ≡ Rejected TooLong
too_long_body = refl

sign_before_digits : framing_of (codes "PUT") (length_of (codes "+1") ∷ []) ≡ Rejected Malformed
sign_before_digits = refl

length_twice : framing_of (codes "GET") (length_of (codes "0") ∷ length_of (codes "0") ∷ []) ≡ Rejected Malformed
length_twice = refl

twice_goes_before_coded : framing_of (codes "GET") ((codes "Transfer-Encoding", codes "chunked") ∷ length_of (codes "0") ∷ length_of (codes "0") ∷ []) ≡ Rejected Malformed
twice_goes_before_coded = refl

coded_goes_before_too_long : framing_of (codes "GET") ((codes "transfer-encoding", codes "chunked") ∷ length_of (codes "65537") ∷ []) ≡ Rejected Length
coded_goes_before_too_long = refl

put_without_length : framing_of (codes "PUT") [] ≡ Rejected Length
put_without_length = refl

get_without_length : framing_of (codes "GET") [] ≡ Body 0
get_without_length = refl

close_among_others : asks_to_close ((codes "connection", codes "Keep-Alive, CLOSE") ∷ []) ≡ true
unfolding asks_to_close elements trim_ows eq_ignore_case
close_among_others = refl

close_in_a_word : asks_to_close ((codes "Connection", codes "closed") ∷ []) ≡ false
unfolding asks_to_close elements trim_ows eq_ignore_case
close_in_a_word = refl

-- ---- targets

third : IsAsked (codes "PUT") (codes "/callers/ops/requests/3?x=/") (Ok (asked.Request (record { caller = codes "ops"; number = 3 })))
unfolding is_utf8 chars encode digits
third = (
  request (codes "ops") (codes "3"),
  record {
    path = record {
      text = IsUtf8-from_is_utf8 (codes "/callers/ops/requests/3") refl;
      split = record { whole = refl; parts = ((omega arith, refl), (omega arith, refl)) };
    };
    allowed = refl;
  },
  (codes "3", refl, refl, (omega arith, omega arith, refl)),
)

name_goes_before_number : IsAsked (codes "PUT") (codes "/callers/-x/requests/0") (Err BadName)
unfolding is_utf8 chars encode
name_goes_before_number = (
  request (codes "-x") (codes "0"),
  record {
    path = record {
      text = IsUtf8-from_is_utf8 (codes "/callers/-x/requests/0") refl;
      split = record { whole = refl; parts = ((omega arith, refl), (omega arith, refl)) };
    };
    allowed = refl;
  },
  λ e. cc,
)

seventh_run : IsAsked (codes "GET") (codes "/services/web/runs/7") (Ok (asked.Query (query.Run (codes "web") 7)))
unfolding is_utf8 chars encode digits
seventh_run = (
  run (codes "web") (codes "7"),
  record {
    path = record {
      text = IsUtf8-from_is_utf8 (codes "/services/web/runs/7") refl;
      split = record { whole = refl; parts = ((omega arith, refl), (omega arith, refl)) };
    };
    allowed = refl;
  },
  (codes "7", refl, refl, (omega arith, omega arith, refl)),
)

history_of_web : IsAsked (codes "GET") (codes "/services/web/history") (Ok (asked.Query (query.History (codes "web"))))
unfolding is_utf8 chars encode
history_of_web = (
  history (codes "web"),
  record {
    path = record {
      text = IsUtf8-from_is_utf8 (codes "/services/web/history") refl;
      split = record { whole = refl; parts = (omega arith, refl) };
    };
    allowed = refl;
  },
  (refl, refl),
)

method_goes_before_name : IsAsked (codes "HEAD") (codes "/services/-x") (Err (Method Get))
unfolding is_utf8 chars encode
method_goes_before_name = (
  service (codes "-x"),
  record {
    text = IsUtf8-from_is_utf8 (codes "/services/-x") refl;
    split = record { whole = refl; parts = (omega arith, refl) };
  },
  λ e. cc,
  refl,
)

-- a part has no slash
slash_behind : HasNoRoute (codes "/services/web/")
slash_behind (request c n) p = let e = ap (λ l. get_or l 1 0) p.split.whole in omega arith
slash_behind (service name) p =
    let is : codes "web/" ≡ name = ap (drop 10) p.split.whole in
    let no = subst IsPart (sym is) p.split.parts in
    cc
slash_behind (history name) p = let e = ap length p.split.whole in omega (arith, length-append name (codes "/history"))
slash_behind (run name number) p = let e = ap length p.split.whole in omega (arith, length-append name (codes "/runs/" ++ number))

-- a part has one byte at least
no_part_between : HasNoRoute (codes "/services//history")
no_part_between (request c n) p = let e = ap (λ l. get_or l 1 0) p.split.whole in omega arith
no_part_between (service name) p =
    let is : codes "/history" ≡ name = ap (drop 10) p.split.whole in
    let no = subst IsPart (sym is) p.split.parts in
    cc
no_part_between (history name) p =
    let e = ap length p.split.whole in
    let some = p.split.parts.0 in
    omega (arith, length-append name (codes "/history"))
no_part_between (run [] number) p = let some = p.split.parts.0.0 in omega arith
no_part_between (run (b ∷ c) number) p =
    let e : 47 ≡ b = ap (λ l. get_or l 10 0) p.split.whole in
    let no = subst (λ v. IsPart (v ∷ c)) (sym e) p.split.parts.0 in
    cc

-- ---- replies

promoted_text : reply_text (response.Answered (Replied (record { status = Accepted; body = codes "{\"code\":\"ok\",\"service\":\"web\",\"status\":\"Paused\",\"step\":3,\"weight\":50}" }))) false false
    ≡ codes "HTTP/1.1 200 OK\r\nContent-Type: application/json\r\nContent-Length: 68\r\n\r\n{\"code\":\"ok\",\"service\":\"web\",\"status\":\"Paused\",\"step\":3,\"weight\":50}"
unfolding reply_text head_text digits
promoted_text = refl

method_text_to_head : reply_text (response.Rejected (Method Put)) false true
    ≡ codes "HTTP/1.1 405 Method Not Allowed\r\nContent-Type: application/json\r\nContent-Length: 17\r\nAllow: PUT\r\n\r\n"
unfolding reply_text head_text digits
method_text_to_head = refl

-- as to HEAD /services/web
method_text_to_head_of_a_service : reply_text (response.Rejected (Method Get)) false true
    ≡ codes "HTTP/1.1 405 Method Not Allowed\r\nContent-Type: application/json\r\nContent-Length: 17\r\nAllow: GET\r\n\r\n"
unfolding reply_text head_text digits
method_text_to_head_of_a_service = refl

too_long_text : reply_text (response.Rejected TooLong) true false
    ≡ codes "HTTP/1.1 413 Content Too Large\r\nContent-Type: application/json\r\nContent-Length: 19\r\nConnection: close\r\n\r\n{\"code\":\"too-long\"}"
unfolding reply_text head_text digits
too_long_text = refl

length_text : reply_text (response.Rejected Length) true false
    ≡ codes "HTTP/1.1 411 Length Required\r\nContent-Type: application/json\r\nContent-Length: 17\r\nConnection: close\r\n\r\n{\"code\":\"length\"}"
unfolding reply_text head_text digits
length_text = refl

unsupported_text : reply_text (response.Rejected Unsupported) false false
    ≡ codes "HTTP/1.1 400 Bad Request\r\nContent-Type: application/json\r\nContent-Length: 22\r\n\r\n{\"code\":\"unsupported\"}"
unfolding reply_text head_text digits
unsupported_text = refl

refused_text : reply_text (response.Answered (Replied (record { status = Refused; body = codes "{\"code\":\"unknown-service\"}" }))) false false
    ≡ codes "HTTP/1.1 422 Unprocessable Content\r\nContent-Type: application/json\r\nContent-Length: 26\r\n\r\n{\"code\":\"unknown-service\"}"
unfolding reply_text head_text digits
refused_text = refl

-- there was no memory to read a command
no_memory_text : reply_text response.NoMemory false false
    ≡ codes "HTTP/1.1 503 Service Unavailable\r\nContent-Type: application/json\r\nContent-Length: 20\r\n\r\n{\"code\":\"no-memory\"}"
unfolding reply_text head_text digits
no_memory_text = refl

-- or to settle it
unsettled_text : reply_text (response.Answered (Unavailable Memory)) false false
    ≡ codes "HTTP/1.1 503 Service Unavailable\r\nContent-Type: application/json\r\nContent-Length: 20\r\n\r\n{\"code\":\"no-memory\"}"
unfolding reply_text head_text digits
unsettled_text = refl

storage_text : reply_text (response.Answered (Unavailable Storage)) false false
    ≡ codes "HTTP/1.1 503 Service Unavailable\r\nContent-Type: application/json\r\nContent-Length: 18\r\n\r\n{\"code\":\"storage\"}"
unfolding reply_text head_text digits
storage_text = refl
