-- What a reader makes of the bytes that came, step by step.
use Rattle.std.proofs.Common.{◌≡◌, ℕ, ◌+◌, ◌<◌, ◌≤◌, true, false, List, [], ◌∷◌, ◌++◌, length, drop, Ok, Result, refl, sym, ap, ◌∙◌, subst, subst₂, arith, length-append}
use Rattle.std.specs.Prelude.{slice_range}
use Rattle.std.proofs.lemmas.List.{append-nil, append_assoc, take_all}
use Rattle.std.proofs.lemmas.Slice.{between_from_start}
use Rattle.std.proofs.lemmas.Bool.Decides.{nat_tests}
use Rattle.httparse.specs.Grammar.{ResponseHead, ReadsResponse, status_code}
use Rattle.httparse.proofs.GrammarLemmas.{response_unique, ReadsResponse-append}
use Rattle.httparse.specs.declared.spans.HeaderSpan.{HeaderSpan}
use Rattle.http1.specs.declared.framing.Framing.{Framing}
use Rattle.http1.specs.declared.framing.FramingError.{FramingError}
use Rattle.http1.specs.declared.framing.MethodKind.TheVariants.{Other}
use Rattle.http1.specs.declared.decode.Decoder.{Decoder}
use Rattle.http1.specs.declared.decode.Decoder.TheVariants.{Length, Chunked, UntilClose}
use Rattle.http1.specs.Framing.{response_framing}
use Rattle.http1.specs.Message.{known_of}
use Rattle.http1.specs.Body.{Body, body_of, ReadsBody}
use Rattle.http1.specs.Decoder.{decoder_for, with_front, Continues, Starves, Ends, HasNoBody}
use Rattle.http1.proofs.OneParse.{body_from_completes, completes_from_body}
use Rattle.canary_fetch.specs.declared.reply.ReplyStage.{ReplyStage}
use Rattle.canary_fetch.specs.declared.reply.ReplyStage.TheVariants.{Head, Body as Within}
use Rattle.canary_fetch.specs.Replies.{Heard, response, ReadsHead, is_interim, ReadsInterim, IsFinal, limits, ReadsFinal, ReadsReply, NeverReplies}
use Rattle.canary_fetch.specs.Fronts.{IsHeadAt}
use Rattle.canary_fetch.specs.Reading.{Remains, BeginsWith, IsReadingBy, IsPart}

-- ---- heads

-- bytes that follow do not change a head
pub head_more : (bytes more rest : List ℕ) (h : ResponseHead) → ReadsHead bytes h rest → ReadsHead (bytes ++ more) h (rest ++ more)
head_more bytes more rest h r = record { reads = ReadsResponse-append bytes h rest more r.reads; short = r.short; few = r.few }

-- no head of a reply is followed by another one, and no other one ends
interim_is_low : (status : ℕ) → is_interim status ≡ true → status < 200
interim_is_low status is = grind (arith, nat_tests)

interim_not_final : (h k : ResponseHead) (status : ℕ) (framing : Framing) → h ≡ k → is_interim (status_code h) ≡ true → IsFinal k status framing → ⊥
interim_not_final h k status framing e is f =
    let low = interim_is_low (status_code h) is in
    let same : status ≡ status_code h = f.told ∙ sym (ap status_code e) in
    let high : 200 ≤ status = f.final in
    omega arith

-- a reply after an interim head is the reply, and there is no other
pub interim_gives : (stream after : List ℕ) (h : ResponseHead) (reply : Heard) (rest : List ℕ) → is_interim (status_code h) ≡ true → ReadsHead stream h after → ReadsReply after reply rest → ReadsReply stream reply rest
interim_gives stream after h reply rest is head r = record {
  interim = h ∷ r.interim;
  after = r.after;
  skips = (is, after, head, r.skips);
  reads = r.reads;
}

behind_interim : (stream after from : List ℕ) (h : ResponseHead) (reply : Heard) (rest : List ℕ) (heads : List ResponseHead) → is_interim (status_code h) ≡ true → ReadsHead stream h after → ReadsInterim heads stream from → ReadsFinal from reply rest → ReadsReply after reply rest
behind_interim stream after from h reply rest [] is head skips f =
    let first : ReadsHead stream f.head f.after = subst (λ (s : List ℕ). ReadsHead s f.head f.after) (sym skips) f.reads in
    absurd (interim_not_final h f.head reply.status f.framing (response_unique stream h f.head after f.after head.reads first.reads).0 is f.final)
behind_interim stream after from h reply rest (k ∷ ks) is head skips f =
    let same = response_unique stream h k after skips.1 head.reads skips.2.reads in
    record {
      interim = ks;
      after = from;
      skips = subst (λ (s : List ℕ). ReadsInterim ks s from) (sym same.1) skips.3;
      reads = f;
    }

pub interim_takes : (stream after : List ℕ) (h : ResponseHead) (reply : Heard) (rest : List ℕ) → is_interim (status_code h) ≡ true → ReadsHead stream h after → ReadsReply stream reply rest → ReadsReply after reply rest
interim_takes stream after h reply rest is head r = behind_interim stream after r.after h reply rest r.interim is head r.skips r.reads

not_interim : (stream after from : List ℕ) (h : ResponseHead) (reply : Heard) (rest : List ℕ) (heads : List ResponseHead) → is_interim (status_code h) ≡ false → ReadsResponse stream h after → ReadsInterim heads stream from → ReadsFinal from reply rest → ReadsFinal stream reply rest
not_interim stream after from h reply rest [] not head skips f = subst (λ (s : List ℕ). ReadsFinal s reply rest) (sym skips) f
not_interim stream after from h reply rest (k ∷ ks) not head skips f =
    let same = (response_unique stream h k after skips.1 head skips.2.reads).0 in
    let is : is_interim (status_code h) ≡ true = ap (λ (x : ResponseHead). is_interim (status_code x)) same ∙ skips.0 in
    absurd (cc (not, is))

-- a head that no other follows is that of the reply
pub final_takes : (stream after : List ℕ) (h : ResponseHead) (reply : Heard) (rest : List ℕ) → is_interim (status_code h) ≡ false → ReadsResponse stream h after → ReadsReply stream reply rest → ReadsFinal stream reply rest
final_takes stream after h reply rest not head r = not_interim stream after r.after h reply rest r.interim not head r.skips r.reads

pub final_is_high : (status : ℕ) → 200 ≤ status → is_interim status ≡ false
final_is_high status high = grind (arith, nat_tests)

-- ---- the reader: heads

-- an interim head was read
pub interim_goes : (came kept unread : List ℕ) (len : ℕ) (h : ResponseHead) → is_interim (status_code h) ≡ true → IsHeadAt unread len h → IsReadingBy came Head kept unread → IsReadingBy came Head kept (drop len unread)
interim_goes came kept unread len h is at s = record {
  fresh = s.fresh;
  sound = λ more reply rest r.
      s.sound more reply rest (interim_gives (unread ++ more) (drop len unread ++ more) h reply rest is (head_more unread more (drop len unread) h at.reads) r);
  whole = λ more reply rest r.
      interim_takes (unread ++ more) (drop len unread ++ more) h reply rest is (head_more unread more (drop len unread) h at.reads) (s.whole more reply rest r);
}

framing_is : (r q : Result Framing FramingError) (f g : Framing) → r ≡ Ok f → q ≡ Ok g → r ≡ q → f ≡ g
framing_is r q f g a b e = cc

-- what follows the head of a reply is its body
remains : (stream after kept : List ℕ) (status : ℕ) (framing : Framing) (h : ResponseHead) (reply : Heard) (rest : List ℕ) → kept ≡ [] → IsFinal h status framing → ReadsResponse stream h after → ReadsFinal stream reply rest → Remains status (decoder_for limits framing) kept after reply rest
remains stream after kept status framing h reply rest fresh f head q =
    let same = response_unique stream h q.head after q.after head q.reads.reads in
    let is : reply.status ≡ status = q.final.told ∙ sym (ap status_code same.0) ∙ sym f.told in
    let alike : response_framing Other status h.minor (known_of h.fields) ≡ response_framing Other reply.status q.head.minor (known_of q.head.fields) =
    λ i. response_framing Other (sym is i) (same.0 i).minor (known_of (same.0 i).fields) in
    let framed = framing_is _ _ framing q.framing f.framed q.final.framed alike in
    let body = q.is ∙ sym (ap (λ (k : List ℕ). k ++ q.body.bytes) fresh) in
    record {
      body = q.body;
      completes = completes_from_body limits framing after q.body rest (subst₂ (λ (x : Framing) (s : List ℕ). ReadsBody limits x s q.body rest) (sym framed) (sym same.1) q.has);
      is = λ i. response (is i) (body i);
      small = q.small;
    }

-- the head of the reply was read
pub head_goes : (came kept unread : List ℕ) (len status : ℕ) (framing : Framing) (h : ResponseHead) → IsFinal h status framing → IsHeadAt unread len h → IsReadingBy came Head kept unread → IsReadingBy came (Within status (decoder_for limits framing)) kept (drop len unread)
head_goes came kept unread len status framing h f at s = record {
  fresh = tt;
  sound = λ more reply rest r. s.sound more reply rest (record {
    interim = [];
    after = unread ++ more;
    skips = refl;
    reads = record {
      head = h;
      framing = framing;
      body = r.body;
      after = drop len unread ++ more;
      reads = head_more unread more (drop len unread) h at.reads;
      final = subst (λ (x : ℕ). IsFinal h x framing) (sym (ap (λ (x : Heard). x.status) r.is)) f;
      has = body_from_completes limits framing (drop len unread ++ more) r.body rest r.completes;
      is = ap (λ (x : Heard). x.body) r.is ∙ ap (λ (k : List ℕ). k ++ r.body.bytes) s.fresh;
      small = r.small;
    };
  });
  whole = λ more reply rest r.
      let head = ReadsResponse-append unread h (drop len unread) more at.reads.reads in
      let not = final_is_high (status_code h) (subst (λ (x : ℕ). 200 ≤ x) f.told f.final) in
      remains (unread ++ more) (drop len unread ++ more) kept status framing h reply rest s.fresh f head
      (final_takes (unread ++ more) (drop len unread ++ more) h reply rest not head (s.whole more reply rest r));
}

-- ---- the reader: bodies

pub piece_goes : (came kept unread piece : List ℕ) (status len : ℕ) (old new : Decoder) → Continues old unread new len piece → IsReadingBy came (Within status old) kept unread → IsReadingBy came (Within status new) (kept ++ piece) (drop len unread)
piece_goes came kept unread piece status len old new c s = record {
  fresh = tt;
  sound = λ more reply rest r. s.sound more reply rest (record {
    body = with_front piece r.body;
    completes = c.back more r.body rest r.completes;
    is = r.is ∙ ap (response status) (append_assoc kept piece r.body.bytes);
    small = record { within = r.small.within; fields = r.small.fields };
  });
  whole = λ more reply rest r.
      let q = s.whole more reply rest r in
      let t = c.forth more q.body rest q.completes in
      record {
        body = t.0;
        completes = t.2;
        is = q.is ∙ ap (λ (b : Body). response status (kept ++ b.bytes)) t.1 ∙ ap (response status) (sym (append_assoc kept piece t.0.bytes));
        small = record {
          within = q.small.within;
          fields = subst (λ (b : Body). length b.trailers ≤ 16) t.1 q.small.fields;
        };
      };
}

-- nothing of the body was in what was read
pub none_goes : (came kept unread : List ℕ) (status len : ℕ) (old new : Decoder) → Continues old unread new len [] → IsReadingBy came (Within status old) kept unread → IsReadingBy came (Within status new) kept (drop len unread)
none_goes came kept unread status len old new c s =
    subst (λ (k : List ℕ). IsReadingBy came (Within status new) k (drop len unread)) (append-nil kept)
    (piece_goes came kept unread [] status len old new c s)

-- what is whole in a body that more has to come of
whole_now : (came kept unread : List ℕ) (status : ℕ) (old : Decoder) (reply : Heard) (rest : List ℕ) → IsReadingBy came (Within status old) kept unread → ReadsReply came reply rest → Remains status old kept unread reply rest
whole_now came kept unread status old reply rest s r =
    subst (λ (x : List ℕ). Remains status old kept x reply rest) (append-nil unread)
    (s.whole [] reply rest (subst (λ (x : List ℕ). ReadsReply x reply rest) (sym (append-nil came)) r))

pub body_waits : (came kept unread : List ℕ) (status len : ℕ) (old new : Decoder) → Starves old unread new len → IsReadingBy came (Within status old) kept unread → IsPart came (Within status new)
body_waits came kept unread status len (Length left) new w s reply rest r =
    let q = whole_now came kept unread status (Length left) reply rest s r in
    absurd (w.unfinished (λ e. cc) q.body rest q.completes)
body_waits came kept unread status len (Chunked chunks most) new w s reply rest r =
    let q = whole_now came kept unread status (Chunked chunks most) reply rest s r in
    absurd (w.unfinished (λ e. cc) q.body rest q.completes)
body_waits came kept unread status len UntilClose new w s reply rest r = w.continues.runs

-- the body ends
pub body_ends : (came kept unread : List ℕ) (status len count : ℕ) (d : Decoder) (spans : List HeaderSpan) → (e : Ends d unread spans len count) → length kept ≤ 1048576 → length e.trailers ≤ 16 → IsReadingBy came (Within status d) kept unread → BeginsWith came (response status kept)
body_ends came kept unread status len count d spans e small few s =
    let r = s.sound [] (response status kept) (drop len unread ++ []) (record {
      body = body_of [] e.trailers;
      completes = e.completes [];
      is = ap (response status) (sym (append-nil kept));
      small = record { within = small; fields = few };
    }) in
    (drop len unread ++ [], subst (λ (x : List ℕ). ReadsReply x (response status kept) (drop len unread ++ [])) (append-nil came) r)

-- the connection ends, and the body with it
pub connection_ends : (came kept unread : List ℕ) (status : ℕ) → length (kept ++ unread) ≤ 1048576 → IsReadingBy came (Within status UntilClose) kept unread → ReadsReply came (response status (kept ++ unread)) []
connection_ends came kept unread status small s =
    let none : 0 ≤ 16 = omega arith in
    subst (λ (x : List ℕ). ReadsReply x (response status (kept ++ unread)) []) (append-nil came)
    (s.sound [] (response status (kept ++ unread)) [] (record {
      body = body_of unread [];
      completes = (sym (append-nil unread), refl, refl);
      is = refl;
      small = record { within = small; fields = none };
    }))

-- ---- the reader: refusals

pub head_refuses : (came kept unread : List ℕ) → NeverReplies unread → IsReadingBy came Head kept unread → NeverReplies came
head_refuses came kept unread never s more reply rest r = never more reply rest (s.whole more reply rest r)

pub body_refuses : (came kept unread : List ℕ) (status room : ℕ) (d : Decoder) → 16 ≤ room → HasNoBody d unread room → IsReadingBy came (Within status d) kept unread → NeverReplies came
body_refuses came kept unread status room d wide bars s more reply rest r =
    let q = s.whole more reply rest r in
    let over : room < length q.body.trailers = bars more q.body rest q.completes in
    let few : length q.body.trailers ≤ 16 = q.small.fields in
    absurd (omega arith)

longer : (kept piece bytes body : List ℕ) → body ≡ kept ++ (piece ++ bytes) → length body ≤ 1048576 → 1048576 < length kept + length piece → ⊥
longer kept piece bytes body e small long =
    let size : length body ≡ length kept + (length piece + length bytes) = ap length e ∙ simp length-append in
    omega arith

pub piece_refuses : (came kept unread piece : List ℕ) (status len : ℕ) (old new : Decoder) → Continues old unread new len piece → 1048576 < length kept + length piece → IsReadingBy came (Within status old) kept unread → NeverReplies came
piece_refuses came kept unread piece status len old new c long s more reply rest r =
    let q = s.whole more reply rest r in
    let t = c.forth more q.body rest q.completes in
    absurd (longer kept piece t.0.bytes reply.body (ap (λ (x : Heard). x.body) q.is ∙ ap (λ (b : Body). kept ++ b.bytes) t.1) q.small.within long)

-- ---- the same, of equal parts

pub same_reading : (came kept k unread u : List ℕ) (stage s : ReplyStage) → s ≡ stage → k ≡ kept → u ≡ unread → IsReadingBy came stage kept unread → IsReadingBy came s k u
same_reading came kept k unread u stage s a b c r =
    subst (λ (x : ReplyStage). IsReadingBy came x k u) (sym a)
    (subst (λ (x : List ℕ). IsReadingBy came stage x u) (sym b)
    (subst (λ (x : List ℕ). IsReadingBy came stage kept x) (sym c) r))

-- a list from its begin to its end
pub whole_range : (xs : List ℕ) (n : ℕ) → n ≡ length xs → slice_range xs 0 n ≡ xs
whole_range xs n e = between_from_start xs n ∙ take_all n xs (omega arith)

-- the same, if no reply is whole
pub same_part : (came : List ℕ) (stage s : ReplyStage) → s ≡ stage → IsPart came stage → IsPart came s
same_part came stage s e p = subst (λ (x : ReplyStage). IsPart came x) (sym e) p
