-- A stream served so far, and how its serving ends.
use Rattle.std.proofs.Common.{◌≡◌, ℕ, ◌+◌, ◌<◌, ◌≤◌, Bool, true, false, List, [], ◌∷◌, ◌++◌, drop, length, refl, sym, ap, ◌∙◌, subst, arith}
use Rattle.std.specs.Prelude.{Result, Ok, Err, flat_map, if◌then◌else◌}
use Rattle.std.specs.List.{list_all}
use Rattle.std.specs.Io.KnownBytes.{Appends, Consumes, IsAtEnd}
use Rattle.std.proofs.lemmas.List.{append-nil, append_assoc, length-append, map-append}
use Rattle.std.proofs.lemmas.Grind.{flat_map-append}
use Rattle.canary_wire.specs.declared.rejection.Rejection.{Rejection}
use Rattle.canary_wire.specs.declared.cut.MessageSpans.{MessageSpans}
use Rattle.canary_base.specs.declared.writing.WriteFault.{WriteFault}
use Rattle.canary_wire.specs.declared.serve.Ended.TheVariants.{EndOfInput, Closed, Truncated, TurnsSpent}
use Rattle.canary_wire.specs.declared.serve.Turn.{Turn}
use Rattle.canary_wire.specs.declared.serve.Turn.TheVariants.{Continues, Ends}
use Rattle.canary_wire.specs.Cut.{Message, message_bytes, IsMessage, IsFirst, IsRejected, IsUnfinished, Begins, Ending, idle, cut_off, closing, rejecting, is_newline, IsCut, unfinished, closed, rejected}
use Rattle.canary_wire.specs.Cut.{KeepsOpen}
use Rattle.canary_base.specs.Writes.{Known, Writes}
use Rattle.canary_once.specs.Laws.{RunsOn}
use Rattle.canary_once.specs.Messages.{messages_of, DeskState, HandledOne, HandledAll}
use Rattle.canary_wire.specs.Dispositions.{HttpExchange, IsExchange, reply_bytes}
use Rattle.canary_wire.specs.Serving.{last_reply, end_of, IsOpen, EndsAs, Serves, ServesTo, ServesSome, ServesUntil, IsCutShort, in_reply, in_rejection, IsSoFar, Answers, AnswersAll, AnswersUntil, AnswersHeld, RejectsAll}
use Rattle.canary_wire.proofs.CutLemmas.{unfinished_empty}
use Rattle.canary_base.proofs.WriteLemmas.{appends_none, appends_more, writes_all}
use Rattle.canary_wire.proofs.ReadLemmas.{consumes_none, consumes_more}
use Rattle.canary_once.proofs.MessageLemmas.{all-append, went_none, went_one, went_then, holds_of}

-- ---- the front of a stream

pub begins_none : (bytes : List ℕ) → Begins bytes [] bytes
begins_none bytes = record { whole = refl; each = tt }

pub begins_then : (bytes mid rest : List ℕ) (ms ns : List Message) → Begins bytes ms mid → Begins mid ns rest → Begins bytes (ms ++ ns) rest
begins_then bytes mid rest ms ns a b = record {
  whole =
      a.whole ∙ ap (λ t. flat_map message_bytes ms ++ t) b.whole ∙ sym (append_assoc (flat_map message_bytes ms) (flat_map message_bytes ns) rest)
      ∙ ap (λ t. t ++ rest) (sym (flat_map-append message_bytes ms ns));
  each = all-append KeepsOpen ms ns a.each b.each;
}

-- one message, after which the stream goes on
begins_one : (bytes rest : List ℕ) (m : Message) → KeepsOpen m → bytes ≡ message_bytes m ++ rest → Begins bytes (m ∷ []) rest
begins_one bytes rest m on e = record { whole = e ∙ ap (λ t. t ++ rest) (sym (append-nil (message_bytes m))); each = (on, tt) }

pub begins_more : (bytes rest got : List ℕ) (ms : List Message) → Begins bytes ms rest → Begins (bytes ++ got) ms (rest ++ got)
begins_more bytes rest got ms b = record { whole = ap (λ t. t ++ got) b.whole ∙ append_assoc (flat_map message_bytes ms) rest got; each = b.each }

pub begins_as : (bytes rest other : List ℕ) (ms : List Message) → rest ≡ other → Begins bytes ms rest → Begins bytes ms other
begins_as bytes rest other ms e b = let P : List ℕ → Type 0 = λ t. Begins bytes ms t in subst P e b

pub cut_then : (bytes mid : List ℕ) (ms ns : List Message) (e : Ending) → Begins bytes ms mid → IsCut mid ns e → IsCut bytes (ms ++ ns) e
cut_then bytes mid ms ns e b (unfinished ks rest c u) = unfinished (ms ++ ns) rest (begins_then bytes mid rest ms ns b c) u
cut_then bytes mid ms ns e b (rejected ks rest r bare c u) = rejected (ms ++ ns) rest r bare (begins_then bytes mid rest ms ns b c) u
cut_then bytes mid ms ns e b (closed ks last rest c is shut) =
    let P : List Message → Type 0 = λ t. IsCut bytes t closing in
    subst P (append_assoc ms ks (last ∷ [])) (closed (ms ++ ks) last rest (begins_then bytes mid (message_bytes last ++ rest) ms ks b c) is shut)

-- the messages and the replies of two lists of exchanges
pub messages-append : (xs ys : List HttpExchange) → messages_of (xs ++ ys) ≡ messages_of xs ++ messages_of ys
messages-append xs ys = map-append (λ (x : HttpExchange). x.message) xs ys

pub replies-append : (xs ys : List HttpExchange) → flat_map reply_bytes (xs ++ ys) ≡ flat_map reply_bytes xs ++ flat_map reply_bytes ys
replies-append xs ys = flat_map-append reply_bytes xs ys

texts_then : (xs ys : List HttpExchange) (text front : List ℕ) → text ≡ flat_map reply_bytes ys ++ front → flat_map reply_bytes xs ++ text ≡ flat_map reply_bytes (xs ++ ys) ++ front
texts_then xs ys text front e =
    ap (λ t. flat_map reply_bytes xs ++ t) e ∙ sym (append_assoc (flat_map reply_bytes xs) (flat_map reply_bytes ys) front) ∙ ap (λ t. t ++ front) (sym (replies-append xs ys))

pub cut_short_then : (bytes mid text : List ℕ) (xs ys : List HttpExchange) → Begins bytes (messages_of xs) mid → IsCutShort mid text ys → IsCutShort bytes (flat_map reply_bytes xs ++ text) (xs ++ ys)
cut_short_then bytes mid text xs ys b (in_reply ks last rest front c is cut e) =
    let P : List HttpExchange → Type 0 = λ t. IsCutShort bytes (flat_map reply_bytes xs ++ text) t in
    let Q : List Message → Type 0 = λ t. Begins bytes t (message_bytes last.message ++ rest) in
    subst P (append_assoc xs ks (last ∷ []))
    (in_reply (xs ++ ks) last rest front (subst Q (sym (messages-append xs ks)) (begins_then bytes mid (message_bytes last.message ++ rest) (messages_of xs) (messages_of ks) b c)) is cut
    (texts_then xs ks text front e))
cut_short_then bytes mid text xs ys b (in_rejection ks rest front r bare c is cut e) =
    let Q : List Message → Type 0 = λ t. Begins bytes t rest in
    in_rejection (xs ++ ys) rest front r bare (subst Q (sym (messages-append xs ys)) (begins_then bytes mid rest (messages_of xs) (messages_of ys) b c)) is cut (texts_then xs ys text front e)

-- ---- what is held was answered

pub answers_none : (w : Known) (p : DeskState) (bytes : List ℕ) → Answers w w p p bytes bytes
answers_none w p bytes = record { exchanges = []; begins = begins_none bytes; went = went_none p; written = appends_none w }

one_reply : (w w1 w2 : Known) (xs : List HttpExchange) (x : HttpExchange) → Appends w w1 (flat_map reply_bytes xs) → Appends w1 w2 (reply_bytes x) → Appends w w2 (flat_map reply_bytes (xs ++ x ∷ []))
one_reply w w1 w2 xs x a b =
    let P : List ℕ → Type 0 = λ t. Appends w w2 t in
    let e : flat_map reply_bytes xs ++ reply_bytes x ≡ flat_map reply_bytes (xs ++ x ∷ []) = sym (replies-append xs (x ∷ []) ∙ ap (λ t. flat_map reply_bytes xs ++ t) (append-nil (reply_bytes x))) in
    subst P e (appends_more w w1 w2 (flat_map reply_bytes xs) (reply_bytes x) a b)

pub answers_more : (w w1 w2 : Known) (p p1 p2 : DeskState) (bytes rest : List ℕ) (parts : MessageSpans) (m : Message) (x : HttpExchange)
    → Answers w w1 p p1 bytes rest → IsFirst rest parts m → x.message ≡ m → HandledOne IsExchange p1 p2 x → Writes {E = WriteFault} w1 w2 (reply_bytes x) (Ok tt) → parts.is_last ≡ false
    → Answers w w2 p p2 bytes (drop parts.end rest)
answers_more w w1 w2 p p1 p2 bytes rest parts m x so first same e wrote on =
    let Q : List Message → Type 0 = λ t. Begins bytes t (drop parts.end rest) in
    let open_is : KeepsOpen m = record { is = first.is; stays = sym first.is_last ∙ on } in
    let one : messages_of so.exchanges ++ m ∷ [] ≡ messages_of (so.exchanges ++ x ∷ []) = ap (λ (t : Message). messages_of so.exchanges ++ t ∷ []) (sym same) ∙ sym (messages-append so.exchanges (x ∷ [])) in
    record {
      exchanges = so.exchanges ++ x ∷ [];
      begins = subst Q one (begins_then bytes rest (drop parts.end rest) (messages_of so.exchanges) (m ∷ []) so.begins (begins_one rest (drop parts.end rest) m open_is first.whole));
      went = went_then p p1 p2 so.exchanges (x ∷ []) so.went (went_one p1 p2 x e);
      written = one_reply w w1 w2 so.exchanges x so.written (writes_all w1 w2 (reply_bytes x) wrote);
    }

pub answers_last : (w w1 w2 : Known) (p p1 p2 : DeskState) (bytes rest : List ℕ) (parts : MessageSpans) (m : Message) (x : HttpExchange)
    → Answers w w1 p p1 bytes rest → IsFirst rest parts m → x.message ≡ m → HandledOne IsExchange p1 p2 x → Writes {E = WriteFault} w1 w2 (reply_bytes x) (Ok tt) → parts.is_last ≡ true
    → AnswersAll w w2 p p2 bytes
answers_last w w1 w2 p p1 p2 bytes rest parts m x so first same e wrote last =
    let P : List ℕ → Type 0 = λ t. Appends w w2 t in
    let Q : List Message → Type 0 = λ t. IsCut bytes t closing in
    let one : messages_of so.exchanges ++ m ∷ [] ≡ messages_of (so.exchanges ++ x ∷ []) = ap (λ (t : Message). messages_of so.exchanges ++ t ∷ []) (sym same) ∙ sym (messages-append so.exchanges (x ∷ [])) in
    record {
      exchanges = so.exchanges ++ x ∷ [];
      end = closing;
      shut = tt;
      cut = subst Q one (closed (messages_of so.exchanges) m (drop parts.end rest) (begins_as bytes rest (message_bytes m ++ drop parts.end rest) (messages_of so.exchanges) first.whole so.begins) first.is (sym first.is_last ∙ last));
      went = went_then p p1 p2 so.exchanges (x ∷ []) so.went (went_one p1 p2 x e);
      written = subst P (sym (append-nil (flat_map reply_bytes (so.exchanges ++ x ∷ [])))) (one_reply w w1 w2 so.exchanges x so.written (writes_all w1 w2 (reply_bytes x) wrote));
    }

pub answers_until : (w w1 w2 : Known) (p p1 p2 : DeskState) (bytes rest : List ℕ) (parts : MessageSpans) (m : Message) (x : HttpExchange) (fault : WriteFault)
    → Answers w w1 p p1 bytes rest → IsFirst rest parts m → x.message ≡ m → HandledOne IsExchange p1 p2 x → Writes w1 w2 (reply_bytes x) (Err fault)
    → AnswersUntil w w2 p p2 bytes
answers_until w w1 w2 p p1 p2 bytes rest parts m x fault so first same e wrote =
    let whole : rest ≡ message_bytes x.message ++ drop parts.end rest = first.whole ∙ ap (λ (t : Message). message_bytes t ++ drop parts.end rest) (sym same) in
    record {
      text = flat_map reply_bytes so.exchanges ++ wrote.front;
      exchanges = so.exchanges ++ x ∷ [];
      cut = in_reply so.exchanges x (drop parts.end rest) wrote.front (begins_as bytes rest (message_bytes x.message ++ drop parts.end rest) (messages_of so.exchanges) whole so.begins)
          (subst IsMessage (sym same) first.is) (record { back = wrote.back; parts = wrote.parts; short = wrote.short }) refl;
      went = went_then p p1 p2 so.exchanges (x ∷ []) so.went (went_one p1 p2 x e);
      written = appends_more w w1 w2 (flat_map reply_bytes so.exchanges) wrote.front so.written wrote.written;
    }

pub answers_rejected : (w w1 w2 : Known) (p p1 : DeskState) (bytes rest left : List ℕ) (r : Rejection) (bare : Bool) (result : Result Turn WriteFault)
    → Answers w w1 p p1 bytes rest → IsRejected rest r bare → RejectsAll w1 w2 (last_reply (rejecting r bare)) result → AnswersHeld w w2 p p1 bytes left result
answers_rejected w w1 w2 p p1 bytes rest left r bare (Ok Continues) so is wrote = absurd wrote
answers_rejected w w1 w2 p p1 bytes rest left r bare (Ok Ends) so is wrote = record {
  exchanges = so.exchanges;
  end = rejecting r bare;
  shut = tt;
  cut = rejected (messages_of so.exchanges) rest r bare so.begins is;
  went = so.went;
  written = appends_more w w1 w2 (flat_map reply_bytes so.exchanges) (last_reply (rejecting r bare)) so.written wrote;
}
answers_rejected w w1 w2 p p1 bytes rest left r bare (Err fault) so is wrote = record {
  text = flat_map reply_bytes so.exchanges ++ wrote.0;
  exchanges = so.exchanges;
  cut = in_rejection so.exchanges rest wrote.0 r bare so.begins is wrote.1 refl;
  went = so.went;
  written = appends_more w w1 w2 (flat_map reply_bytes so.exchanges) wrote.0 so.written wrote.2;
}

-- ---- what was read was answered

pub so_far_none : (r w : Known) (p : DeskState) (held : List ℕ) → held ≡ [] → IsSoFar r r w w p p 0 held
so_far_none r w p held e = record {
  bytes = held;
  exchanges = [];
  read = let P : List ℕ → Type 0 = λ t. Consumes r r t in subst P (sym e) (consumes_none r);
  begins = begins_none held;
  unfinished = subst IsUnfinished (sym e) unfinished_empty;
  went = went_none p;
  written = appends_none w;
  many = omega arith;
}

-- the front that was read before, and what was read now
module _ (goes : RunsOn) (r r1 r2 w w1 : Known) (p p1 : DeskState) (n : ℕ) (old new got : List ℕ) (so : IsSoFar r r1 w w1 p p1 n old) (e : new ≡ old ++ got) (more : Consumes r1 r2 got) where
  begins_new : Begins (so.bytes ++ got) (messages_of so.exchanges) new
  begins_new = begins_as (so.bytes ++ got) (old ++ got) new (messages_of so.exchanges) (sym e) (begins_more so.bytes old got (messages_of so.exchanges) so.begins)

  read_new : Consumes r r2 (so.bytes ++ got)
  read_new = consumes_more r r1 r2 so.bytes got so.read more

  pub so_far_more : (w2 : Known) (p2 : DeskState) (rest : List ℕ) → 0 < length got → Answers w1 w2 p1 p2 new rest → IsUnfinished rest → IsSoFar r r2 w w2 p p2 (n + 1) rest
  so_far_more w2 p2 rest some a u =
      let Q : List Message → Type 0 = λ t. Begins (so.bytes ++ got) t rest in
      let P : List ℕ → Type 0 = λ t. Appends w w2 t in
      record {
        bytes = so.bytes ++ got;
        exchanges = so.exchanges ++ a.exchanges;
        read = read_new;
        begins = subst Q (sym (messages-append so.exchanges a.exchanges)) (begins_then (so.bytes ++ got) new rest (messages_of so.exchanges) (messages_of a.exchanges) begins_new a.begins);
        unfinished = u;
        went = went_then p p1 p2 so.exchanges a.exchanges so.went a.went;
        written = subst P (sym (replies-append so.exchanges a.exchanges)) (appends_more w w1 w2 (flat_map reply_bytes so.exchanges) (flat_map reply_bytes a.exchanges) so.written a.written);
        many = (let m = so.many in omega (arith, length-append so.bytes got));
      }

  pub so_far_all : (w2 : Known) (p2 : DeskState) → AnswersAll w1 w2 p1 p2 new → ServesTo r r2 w w2 p p2 Closed
  so_far_all w2 p2 a =
      let Q : List Message → Type 0 = λ t. IsCut (so.bytes ++ got) t a.end in
      let P : List ℕ → Type 0 = λ t. Appends w w2 t in
      let texts : flat_map reply_bytes so.exchanges ++ (flat_map reply_bytes a.exchanges ++ last_reply a.end) ≡ flat_map reply_bytes (so.exchanges ++ a.exchanges) ++ last_reply a.end =
      sym (append_assoc (flat_map reply_bytes so.exchanges) (flat_map reply_bytes a.exchanges) (last_reply a.end)) ∙ ap (λ t. t ++ last_reply a.end) (sym (replies-append so.exchanges a.exchanges)) in (
        so.bytes ++ got,
        a.end,
        a.shut,
        record {
          exchanges = so.exchanges ++ a.exchanges;
          read = read_new;
          cut = subst Q (sym (messages-append so.exchanges a.exchanges)) (cut_then (so.bytes ++ got) new (messages_of so.exchanges) (messages_of a.exchanges) a.end begins_new a.cut);
          holds = holds_of goes p p2 (so.exchanges ++ a.exchanges) (went_then p p1 p2 so.exchanges a.exchanges so.went a.went);
          written = subst P texts (appends_more w w1 w2 (flat_map reply_bytes so.exchanges) (flat_map reply_bytes a.exchanges ++ last_reply a.end) so.written a.written);
        },
      )

  pub so_far_until : (w2 : Known) (p2 : DeskState) → AnswersUntil w1 w2 p1 p2 new → ServesUntil r r2 w w2 p p2
  so_far_until w2 p2 a = record {
    bytes = so.bytes ++ got;
    text = flat_map reply_bytes so.exchanges ++ a.text;
    exchanges = so.exchanges ++ a.exchanges;
    read = read_new;
    cut = cut_short_then (so.bytes ++ got) new a.text so.exchanges a.exchanges begins_new a.cut;
    holds = holds_of goes p p2 (so.exchanges ++ a.exchanges) (went_then p p1 p2 so.exchanges a.exchanges so.went a.went);
    written = appends_more w w1 w2 (flat_map reply_bytes so.exchanges) a.text so.written a.written;
  }

-- the stream stops where more bytes might have gone on
no_last : (b : Bool) → last_reply (if b then idle else cut_off) ≡ []
no_last true = refl
no_last false = refl

is_open : (b : Bool) → IsOpen (if b then idle else cut_off)
is_open true = tt
is_open false = tt

serves_open : RunsOn → (r r1 w w1 : Known) (p p1 : DeskState) (bytes rest : List ℕ) (xs : List HttpExchange) → Consumes r r1 bytes → Begins bytes (messages_of xs) rest → IsUnfinished rest → HandledAll IsExchange p p1 xs → Appends w w1 (flat_map reply_bytes xs)
    → Serves r r1 w w1 p p1 bytes (if list_all is_newline rest then idle else cut_off)
serves_open goes r r1 w w1 p p1 bytes rest xs read begins u went wrote =
    let P : List ℕ → Type 0 = λ t. Appends w w1 t in record {
      exchanges = xs;
      read = read;
      cut = unfinished (messages_of xs) rest begins u;
      holds = holds_of goes p p1 xs went;
      written = subst P (sym (ap (λ t. flat_map reply_bytes xs ++ t) (no_last (list_all is_newline rest)) ∙ append-nil (flat_map reply_bytes xs))) wrote;
    }

pub so_far_open : RunsOn → (r r1 r2 w w1 : Known) (p p1 : DeskState) (n : ℕ) (old : List ℕ) → IsSoFar r r1 w w1 p p1 n old → Consumes r1 r2 [] → ServesSome r r2 w w1 p p1
so_far_open goes r r1 r2 w w1 p p1 n old so more =
    let P : List ℕ → Type 0 = λ t. Consumes r r2 t in
    let read = subst P (append-nil so.bytes) (consumes_more r r1 r2 so.bytes [] so.read more) in (
      so.bytes,
      (if list_all is_newline old then idle else cut_off),
      is_open (list_all is_newline old),
      serves_open goes r r2 w w1 p p1 so.bytes old so.exchanges read so.begins so.unfinished so.went so.written,
    )

pub so_far_spent : RunsOn → (r r1 w w1 : Known) (p p1 : DeskState) (n : ℕ) (old : List ℕ) → IsSoFar r r1 w w1 p p1 n old → 1000000000 ≤ n → ServesTo r r1 w w1 p p1 TurnsSpent
so_far_spent goes r r1 w w1 p p1 n old so spent = (
  so.bytes,
  (if list_all is_newline old then idle else cut_off),
  (is_open (list_all is_newline old), (let m = so.many in omega arith)),
  serves_open goes r r1 w w1 p p1 so.bytes old so.exchanges so.read so.begins so.unfinished so.went so.written,
)

pub empty : (xs : List ℕ) → length xs ≡ 0 → xs ≡ []
empty [] h = refl
empty (x ∷ xs) h = absurd (omega arith)

ends_at : (b : Bool) (bytes : List ℕ) (left : Known) → IsAtEnd left → EndsAs bytes (if b then idle else cut_off) left (if b then EndOfInput else Truncated)
ends_at true bytes left h = (refl, h)
ends_at false bytes left h = (refl, h)

pub so_far_end : RunsOn → (r r1 r2 w w1 : Known) (p p1 : DeskState) (n : ℕ) (old new got : List ℕ) → IsSoFar r r1 w w1 p p1 n old → new ≡ old ++ got → Consumes r1 r2 got → length got ≡ 0 → IsAtEnd r2
    → ServesTo r r2 w w1 p p1 (end_of new)
so_far_end goes r r1 r2 w w1 p p1 n old new got so e more none at =
    let nothing = empty got none in
    let P : List ℕ → Type 0 = λ t. Consumes r r2 t in
    let C : List ℕ → Type 0 = λ t. Consumes r1 r2 t in
    let same : old ≡ new = sym (e ∙ ap (λ t. old ++ t) nothing ∙ append-nil old) in
    let read = subst P (append-nil so.bytes) (consumes_more r r1 r2 so.bytes [] so.read (subst C nothing more)) in (
      so.bytes,
      (if list_all is_newline new then idle else cut_off),
      ends_at (list_all is_newline new) so.bytes r2 at,
      serves_open goes r r2 w w1 p p1 so.bytes new so.exchanges read (begins_as so.bytes old new (messages_of so.exchanges) same so.begins) (subst IsUnfinished same so.unfinished) so.went so.written,
    )

-- ---- what holds however the serving ends
