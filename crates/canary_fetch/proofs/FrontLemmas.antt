-- What the reader of heads finds, and why it refuses.
use Rattle.std.proofs.Common.{◌≡◌, ℕ, ◌<◌, ◌≤◌, true, false, List, [], ◌∷◌, ◌++◌, length, take, Ok, Err, Result, sym, ap, ◌∙◌, subst, arith}
use Rattle.std.proofs.lemmas.List.{append-nil, length-map, length-take}
use Rattle.httparse.specs.Grammar.{Field, ResponseHead, print_response, ReadsResponse, HasNoResponse, status_code}
use Rattle.httparse.specs.Spans.{AreFieldsAt, ResponseOverflows, header_bytes, name_and_value}
use Rattle.httparse.specs.declared.spans.HeaderSpan.{HeaderSpan}
use Rattle.httparse.proofs.GrammarLemmas.{response_unique, response_prefix_free, ReadsResponse-append}
use Rattle.http1.specs.declared.framing.Framing.{Framing}
use Rattle.http1.specs.declared.framing.Framing.TheVariants.{Length as Sized}
use Rattle.http1.specs.declared.framing.FramingError.{FramingError}
use Rattle.http1.specs.declared.framing.MethodKind.TheVariants.{Other}
use Rattle.http1.specs.Framing.{response_framing}
use Rattle.http1.specs.Message.{known_of}
use Rattle.http1.specs.Body.{ReadsBody}
use Rattle.http1.proofs.TextLemmas.{front_within}
use Rattle.canary_fetch.specs.Replies.{Heard, ReadsHead, is_interim, ReadsInterim, IsFinal, limits, ReadsFinal, ReadsReply, NeverReplies}
use Rattle.canary_fetch.specs.declared.reply.ReplyStage.TheVariants.{Head}
use Rattle.canary_fetch.specs.Reading.{IsReadingBy, IsPart}
use Rattle.canary_fetch.proofs.ReadingLemmas.{final_takes}

-- ---- what is found

-- the fields that spans cover are as many as those
pub few_fields : (buf : List ℕ) (spans : List HeaderSpan) (count room : ℕ) (fields : List Field) → AreFieldsAt buf spans count fields → count ≤ room → length fields ≤ room
few_fields buf spans count room fields e most =
    let same = sym (length-map fields name_and_value) ∙ sym (ap length e) ∙ length-map (take count spans) (header_bytes buf) ∙ length-take count spans in
    omega (arith, same)

-- ---- why it refuses: no head

no_first : (stream from : List ℕ) (reply : Heard) (rest : List ℕ) (heads : List ResponseHead) → ((h : ResponseHead) (after : List ℕ) → ¬ (ReadsHead stream h after)) → ReadsInterim heads stream from → ¬ (ReadsFinal from reply rest)
no_first stream from reply rest [] bars skips f = bars f.head f.after (subst (λ (s : List ℕ). ReadsHead s f.head f.after) (sym skips) f.reads)
no_first stream from reply rest (h ∷ hs) bars skips f = bars h skips.1 skips.2

pub no_head : (bytes : List ℕ) → ((more : List ℕ) (h : ResponseHead) (after : List ℕ) → ¬ (ReadsHead (bytes ++ more) h after)) → NeverReplies bytes
no_head bytes bars more reply rest r = no_first (bytes ++ more) r.after reply rest r.interim (bars more) r.skips r.reads

pub many_fields : (bytes : List ℕ) → ResponseOverflows 64 bytes → NeverReplies bytes
many_fields bytes over = no_head bytes (λ more h after x.
    let many : 64 < length h.fields = over more h after x.reads in
    let few : length h.fields ≤ 64 = x.few in
    absurd (omega arith))

pub long_part : (bytes : List ℕ) → HasNoResponse bytes → 16384 < length bytes → NeverReplies bytes
long_part bytes none long = no_head bytes (λ more h after x.
    let short : length (print_response h) ≤ 16384 = x.short in
    absurd (none h _ (x.reads.0, front_within bytes more (print_response h) after x.reads.1 (omega arith))))

pub long_head : (bytes rest : List ℕ) (h : ResponseHead) → ReadsResponse bytes h rest → 16384 < length (print_response h) → NeverReplies bytes
long_head bytes rest h head long = no_head bytes (λ more k after x.
    let same = (response_prefix_free bytes more h k rest after head x.reads).0 in
    let short : length (print_response k) ≤ 16384 = x.short in
    let len : length (print_response h) ≡ length (print_response k) = ap (λ (y : ResponseHead). length (print_response y)) same in
    absurd (omega arith))

-- if no head is whole, no reply is
pub head_waits : (came kept unread : List ℕ) → HasNoResponse unread → IsReadingBy came Head kept unread → IsPart came Head
head_waits came kept unread none s reply rest r =
    let longer = s.whole [] reply rest (subst (λ (x : List ℕ). ReadsReply x reply rest) (sym (append-nil came)) r) in
    let here = subst (λ (x : List ℕ). ReadsReply x reply rest) (append-nil unread) longer in
    no_first unread here.after reply rest here.interim (λ h after x. none h after x.reads) here.skips here.reads

-- ---- why it refuses: a head that is not one of a reply

pub no_final : (bytes after : List ℕ) (h : ResponseHead) → is_interim (status_code h) ≡ false → ReadsResponse bytes h after → ((status : ℕ) (framing : Framing) → ¬ (IsFinal h status framing)) → NeverReplies bytes
no_final bytes after h not head bars more reply rest r =
    let longer = ReadsResponse-append bytes h after more head in
    let f = final_takes (bytes ++ more) (after ++ more) h reply rest not longer r in
    let same = (response_unique (bytes ++ more) h f.head (after ++ more) f.after longer f.reads.reads).0 in
    bars reply.status f.framing (subst (λ (k : ResponseHead). IsFinal k reply.status f.framing) (sym same) f.final)

pub low_status : (bytes after : List ℕ) (h : ResponseHead) → is_interim (status_code h) ≡ false → ReadsResponse bytes h after → status_code h < 200 → NeverReplies bytes
low_status bytes after h not head low = no_final bytes after h not head (λ status framing f.
    let same : status ≡ status_code h = f.told in
    let high : 200 ≤ status = f.final in
    absurd (omega arith))

pub coded : (bytes after : List ℕ) (h : ResponseHead) → is_interim (status_code h) ≡ false → ReadsResponse bytes h after → (known_of h.fields).other_coding ≡ true → NeverReplies bytes
coded bytes after h not head is = no_final bytes after h not head (λ status framing f. let plain = f.plain in absurd (cc (plain, is)))

not_framed : (r : Result Framing FramingError) (framing : Framing) (e : FramingError) → r ≡ Err e → r ≡ Ok framing → ⊥
not_framed r framing e a b = cc

pub unframed : (bytes after : List ℕ) (h : ResponseHead) (e : FramingError) → is_interim (status_code h) ≡ false → ReadsResponse bytes h after → response_framing Other (status_code h) h.minor (known_of h.fields) ≡ Err e → NeverReplies bytes
unframed bytes after h e not head is = no_final bytes after h not head (λ status framing f.
    not_framed _ framing e is (ap (λ (s : ℕ). response_framing Other s h.minor (known_of h.fields)) (sym f.told) ∙ f.framed))

framed_so : (r : Result Framing FramingError) (f g : Framing) → r ≡ Ok f → r ≡ Ok g → f ≡ g
framed_so r f g a b = cc

pub long_body : (bytes after : List ℕ) (h : ResponseHead) (len : ℕ) → is_interim (status_code h) ≡ false → ReadsResponse bytes h after → response_framing Other (status_code h) h.minor (known_of h.fields) ≡ Ok (Sized len) → 1048576 < len → NeverReplies bytes
long_body bytes after h len not head is long more reply rest r =
    let longer = ReadsResponse-append bytes h after more head in
    let f = final_takes (bytes ++ more) (after ++ more) h reply rest not longer r in
    let same = (response_unique (bytes ++ more) h f.head (after ++ more) f.after longer f.reads.reads).0 in
    let final = subst (λ (k : ResponseHead). IsFinal k reply.status f.framing) (sym same) f.final in
    let framing = framed_so _ (Sized len) f.framing is (ap (λ (s : ℕ). response_framing Other s h.minor (known_of h.fields)) (sym final.told) ∙ final.framed) in
    let has = subst (λ (x : Framing). ReadsBody limits x f.after f.body rest) (sym framing) f.has in
    let size : length f.body.bytes ≡ len = has.0 in
    let small : length reply.body ≤ 1048576 = f.small.within in
    let body : length reply.body ≡ length f.body.bytes = ap length f.is in
    absurd (omega arith)
