-- What httparse's answers say of the first message of a stream.
use Rattle.std.proofs.Common.{◌≡◌, ◌≢◌, ℕ, zero, suc, lit<, Bool, false, ◌||◌, ◌==◌, ◌+◌, ◌-◌, ◌<◌, ◌≤◌, List, ◌++◌, map, [], take, drop, length, refl, sym, ap, ◌∙◌, subst, inl, inr, arith}
use Rattle.std.specs.Prelude.{slice_range, bytes_eq, codes}
use Rattle.std.specs.Str.{IsAscii}
use Rattle.std.proofs.lemmas.Str.{IsUtf8-from_ascii}
use Rattle.std.proofs.lemmas.List.{append-nil, append_assoc, length-append, length-map, length-take, length-take-le, length-drop, take-append-drop, take-append-le, drop-drop}
use Rattle.std.proofs.Math.Seq.{take-append_seam}
use Rattle.httparse.specs.declared.Error.{Error}
use Rattle.httparse.specs.declared.Error.TheVariants.{TooManyHeaders, HeaderName, HeaderValue, NewLine, Status, Token, Version}
use Rattle.httparse.specs.declared.spans.HeaderSpan.{HeaderSpan}
use Rattle.httparse.specs.declared.spans.RequestSpans.{RequestSpans}
use Rattle.httparse.specs.Grammar.{RequestHead, IsRequestHead, ReadsRequest, AllPass, is_token_byte, is_uri_byte, crlf, print_request, HasNoRequest, NeverHasRequest}
use Rattle.httparse.specs.Spans.{span_bytes, header_bytes, name_and_value, IsRequestOf, IsRequestWithin, RequestOverflows, RequestExceeds}
use Rattle.httparse.proofs.GrammarLemmas.{request_prefix_free}
use Rattle.canary_wire.specs.declared.rejection.Rejection.{Rejection}
use Rattle.canary_wire.specs.declared.rejection.Rejection.TheVariants.{Malformed}
use Rattle.canary_wire.specs.declared.framing.Framing.{Framing}
use Rattle.canary_wire.specs.declared.framing.Framing.TheVariants.{Body, Rejected}
use Rattle.canary_wire.specs.Heads.{Header, framing_of, head_framing, headers_of, asks_to_close, closes, is_bare}
use Rattle.canary_wire.specs.Cut.{Message, IsFirst, HasHead, NeverHasHead, long, beyond, never, lines, IsRejected, malformed, framed, IsUnfinished, head, body}

-- no room for the fields of any head
pub no_head_of_overflow : (bytes : List ℕ) → RequestOverflows 64 bytes → NeverHasHead bytes
no_head_of_overflow bytes over more h after has =
    let many : 64 < length h.fields = over more h after (has.0.valid, has.1) in
    let few : length h.fields ≤ 64 = has.0.lines in
    omega arith

pub rejected_by_error : (bytes : List ℕ) (e : Error) → RequestOverflows 64 bytes
    → (e ≢ TooManyHeaders → NeverHasRequest bytes) → (e ≡ TooManyHeaders → RequestExceeds 64 bytes)
    → IsRejected bytes Malformed false
rejected_by_error bytes TooManyHeaders over other many = malformed (no_head_of_overflow bytes over) (lines (many refl))
rejected_by_error bytes HeaderName over other many = malformed (no_head_of_overflow bytes over) (never (other (λ q. cc)))
rejected_by_error bytes HeaderValue over other many = malformed (no_head_of_overflow bytes over) (never (other (λ q. cc)))
rejected_by_error bytes NewLine over other many = malformed (no_head_of_overflow bytes over) (never (other (λ q. cc)))
rejected_by_error bytes Status over other many = malformed (no_head_of_overflow bytes over) (never (other (λ q. cc)))
rejected_by_error bytes Token over other many = malformed (no_head_of_overflow bytes over) (never (other (λ q. cc)))
rejected_by_error bytes Version over other many = malformed (no_head_of_overflow bytes over) (never (other (λ q. cc)))

-- a front of a longer text
front_of : (x bytes after more : List ℕ) → length x ≤ length bytes → bytes ++ more ≡ x ++ after → bytes ≡ x ++ drop (length x) bytes
front_of x bytes after more h e =
    let a : take (length x) (bytes ++ more) ≡ x = ap (take (length x)) e ∙ take-append_seam x after in
    let b : take (length x) (bytes ++ more) ≡ take (length x) bytes = take-append-le (length x) bytes more h in
    sym (take-append-drop (length x) bytes) ∙ ap (λ t. t ++ drop (length x) bytes) (sym b ∙ a)

pub rejected_long : (bytes : List ℕ) → HasNoRequest bytes → 16384 ≤ length bytes → IsRejected bytes Malformed false
rejected_long bytes none l =
    malformed
    (λ more h after has.
    let short = has.0.short in
    let at : length (print_request h) ≤ length bytes = omega arith in
    none h (drop (length (print_request h)) bytes) (has.0.valid, front_of (print_request h) bytes after more at has.1))
    (long l)

-- a head that is too long
pub rejected_beyond : (bytes : List ℕ) (headers : List HeaderSpan) (r : RequestSpans) → IsRequestOf bytes headers r → 16384 < r.len → IsRejected bytes Malformed false
rejected_beyond bytes headers r of far =
    malformed
    (λ more h after has.
    let same = request_prefix_free bytes more of.0 h (drop r.len bytes) after of.1.reads (has.0.valid, has.1) in
    let e : length (print_request h) ≡ length (print_request of.0) = ap (λ x. length (print_request x)) (sym same.0) in
    let short = has.0.short in
    let len = of.1.len in
    omega arith)
    (beyond (of.0, drop r.len bytes, of.1.reads, inr (let len = of.1.len in omega arith)))

-- ---- a whole head, within the limits

pub has_head : (bytes : List ℕ) (headers : List HeaderSpan) (r : RequestSpans) (of : IsRequestOf bytes headers r)
    → length headers ≤ 64 → r.len ≤ 16384 → HasHead bytes of.0 (drop r.len bytes)
has_head bytes headers r of room near =
    let e : length (map (header_bytes bytes) (take r.headers headers)) ≡ length (map name_and_value of.0.fields) = ap (λ x. length x) of.1.fields in
    let l1 = length-map (take r.headers headers) (header_bytes bytes) in
    let l2 = length-map of.0.fields name_and_value in
    let l3 = length-take r.headers headers in
    let len = of.1.len in
    (record { valid = of.1.reads.0; lines = omega arith; short = omega arith }, of.1.reads.1)

pub framed_as : (bytes : List ℕ) (headers : List HeaderSpan) (r : RequestSpans) (of : IsRequestOf bytes headers r)
    (m : List ℕ) (hs : List HeaderSpan) (f : Framing) → m ≡ span_bytes bytes r.method → hs ≡ take r.headers headers
    → f ≡ framing_of m (map (header_bytes bytes) hs) → head_framing of.0 ≡ f
framed_as bytes headers r of m hs f em eh ef =
    let a : m ≡ of.0.method = em ∙ of.1.method in
    let b : map (header_bytes bytes) hs ≡ headers_of of.0 = ap (λ x. map (header_bytes bytes) x) eh ∙ of.1.fields in
    sym (ef ∙ ap (λ x. framing_of x (map (header_bytes bytes) hs)) a ∙ ap (λ x. framing_of of.0.method x) b)

-- whether the stream ends after the reply
pub closes_as : (bytes : List ℕ) (headers : List HeaderSpan) (r : RequestSpans) (of : IsRequestOf bytes headers r)
    (hs : List HeaderSpan) (b : Bool) → hs ≡ take r.headers headers → b ≡ (r.version == 0 || asks_to_close (map (header_bytes bytes) hs)) → b ≡ closes of.0
closes_as bytes headers r of hs b eh eb =
    let same : map (header_bytes bytes) hs ≡ headers_of of.0 = ap (λ (x : List HeaderSpan). map (header_bytes bytes) x) eh ∙ of.1.fields in
    eb ∙ ap (λ v. v == 0 || asks_to_close (map (header_bytes bytes) hs)) of.1.version ∙ ap (λ (x : List Header). of.0.minor == 0 || asks_to_close x) same

-- whether the reply is its head alone
pub bare_as : (bytes : List ℕ) (headers : List HeaderSpan) (r : RequestSpans) (of : IsRequestOf bytes headers r)
    (m : List ℕ) (b : Bool) → m ≡ span_bytes bytes r.method → b ≡ bytes_eq m (codes "HEAD") → b ≡ is_bare of.0
bare_as bytes headers r of m b em eb = eb ∙ ap (λ x. bytes_eq x (codes "HEAD")) (em ∙ of.1.method)

pub rejected_by_framing : (bytes : List ℕ) (headers : List HeaderSpan) (r : RequestSpans) (of : IsRequestOf bytes headers r)
    → length headers ≤ 64 → r.len ≤ 16384 → (why : Rejection) (bare : Bool) → head_framing of.0 ≡ Rejected why → bare ≡ is_bare of.0 → IsRejected bytes why bare
rejected_by_framing bytes headers r of room near why bare e b = let P : Bool → Type 0 = λ t. IsRejected bytes why t in subst P (sym b) (framed of.0 (drop r.len bytes) why (has_head bytes headers r of room near) e)

pub unfinished_body : (bytes : List ℕ) (headers : List HeaderSpan) (r : RequestSpans) (of : IsRequestOf bytes headers r)
    → length headers ≤ 64 → r.len ≤ 16384 → (n : ℕ) → head_framing of.0 ≡ Body n → n ≤ 65536 → r.len ≤ length bytes → length bytes < r.len + n → IsUnfinished bytes
unfinished_body bytes headers r of room near n e small within short =
    body of.0 (drop r.len bytes) n (has_head bytes headers r of room near) e small (rw length-drop (omega arith))

pub first_message : (bytes : List ℕ) (headers : List HeaderSpan) (r : RequestSpans) (within : IsRequestWithin bytes headers r) (of : IsRequestOf bytes headers r)
    → length headers ≤ 64 → r.len ≤ 16384 → (n last : ℕ) (shut bare : Bool) → head_framing of.0 ≡ Body n → last ≡ r.len + n → last ≤ length bytes → shut ≡ closes of.0 → bare ≡ is_bare of.0
    → (m : Message) × IsFirst bytes (record { method = r.method; target = r.path; len = r.len; end = last; is_last = shut; head_alone = bare }) m
first_message bytes headers r within of room near n last shut bare e ends fits shuts bares =
    let rest = drop r.len bytes in
    let text = slice_range bytes r.len last in
    let in_len = within.section.len_fits in
    let lr : length rest ≡ length bytes - r.len = length-drop r.len bytes in
    let count : last - r.len ≡ n = omega arith in
    let text_is : text ≡ take n rest = ap (λ k. take k rest) count in
    let text_len : length text ≡ n = ap (λ x. length x) text_is ∙ length-take-le n rest (omega arith) in
    let len = of.1.len in
    let whole : bytes ≡ (print_request of.0 ++ text) ++ drop last bytes =
    of.1.reads.1
    ∙ ap (λ x. print_request of.0 ++ x) (sym (take-append-drop n rest))
    ∙ ap (λ x. print_request of.0 ++ (x ++ drop n rest)) (sym text_is)
    ∙ ap (λ x. print_request of.0 ++ (text ++ x)) (drop-drop n r.len bytes)
    ∙ ap (λ k. print_request of.0 ++ (text ++ drop k bytes)) (sym ends)
    ∙ sym (append_assoc (print_request of.0) text (drop last bytes)) in (
      record { head = of.0; body = text },
      record {
        is = record { head = (has_head bytes headers r of room near).0; framed = e ∙ ap (λ k. Body k) (sym text_len) };
        whole = whole;
        fits = omega arith;
        end = rw (length-append (print_request of.0) text) (omega arith);
        ordered = omega arith;
        method_within = within.method;
        target_within = within.path;
        method = of.1.method;
        target = of.1.path;
        body = refl;
        is_last = shuts;
        head_alone = bares;
      },
    )

-- ---- nothing

-- a head has a byte at least
head_some : (h : RequestHead) → IsRequestHead h → 0 < length (print_request h)
unfolding print_request
head_some h is =
    let method = is.method.0 in
    simp length-append (omega arith)

-- the head of `GET / HTTP/1.1`, with no field
shortest : RequestHead
shortest = record { blank = []; method = codes "GET"; target = codes "/"; minor = 1; line_end = crlf; fields = []; last = crlf }

is_token_GET : AllPass is_token_byte (codes "GET")
unfolding is_token_byte
is_token_GET zero d h = refl
is_token_GET (suc zero) d h = refl
is_token_GET (suc (suc zero)) d h = refl
is_token_GET (suc (suc (suc k))) d h = absurd (omega arith)

is_uri_slash : AllPass is_uri_byte (codes "/")
is_uri_slash zero d h = refl
is_uri_slash (suc k) d h = absurd (omega arith)

is_ascii_slash : IsAscii (codes "/")
is_ascii_slash zero = lit< tt
is_ascii_slash (suc k) = lit< tt

may_become : (more : List ℕ) × (h : RequestHead) × ReadsRequest ([] ++ more) h []
unfolding shortest
may_become = (
  print_request shortest,
  shortest,
  (
    record {
      method = (omega arith, is_token_GET);
      target = (omega arith, is_uri_slash);
      target_text = IsUtf8-from_ascii (codes "/") is_ascii_slash;
      minor = omega arith;
      fields = λ k d h. absurd (omega arith);
    },
    sym (append-nil (print_request shortest)),
  ),
)

-- nothing is unfinished
pub unfinished_empty : IsUnfinished []
unfinished_empty = head (λ h after has. (let some = head_some h has.0 in let e = ap (λ t. length t) has.1 in omega (arith, e, length-append (print_request h) after))) (omega arith) (inl may_become)
