-- A stream has one list of messages.
use Rattle.std.proofs.Common.{◌≡◌, ℕ, Bool, true, false, List, [], ◌∷◌, ◌++◌, take, drop, length, refl, sym, ap, ◌∙◌, subst, arith}
use Rattle.std.specs.List.{flat_map, AllByRecursion}
use Rattle.std.proofs.lemmas.List.{append-nil, append_assoc, length-append}
use Rattle.std.proofs.Math.Seq.{take-append_seam, drop-append_seam}
use Rattle.httparse.specs.Grammar.{RequestHead, print_request}
use Rattle.httparse.proofs.GrammarLemmas.{request_unique}
use Rattle.canary_wire.specs.declared.framing.Framing.TheVariants.{Body, Rejected}
use Rattle.canary_wire.specs.declared.rejection.Rejection.{Rejection}
use Rattle.canary_wire.specs.Heads.{head_framing, closes}
use Rattle.canary_wire.specs.Cut.{Message, message_bytes, IsMessage, KeepsOpen, IsRejected, malformed, framed, IsUnfinished, head, body, HasNoHead, HasHead, Begins, Ending, IsCut, unfinished, closed, rejected}

-- two fronts of one length
fronts : (a b x y : List ℕ) → length a ≡ length b → a ++ x ≡ b ++ y → (a ≡ b) × (x ≡ y)
fronts a b x y l e = (
  sym (take-append_seam a x) ∙ ap (take (length a)) e ∙ ap (λ k. take k (b ++ y)) l ∙ take-append_seam b y,
  sym (drop-append_seam a x) ∙ ap (drop (length a)) e ∙ ap (λ k. drop k (b ++ y)) l ∙ drop-append_seam b y,
)

body_len : (m n : ℕ) → Body m ≡ Body n → m ≡ n
body_len m n e = cc

-- the head of a message, and what is after it
head_of : (m : Message) (bytes x : List ℕ) → IsMessage m → bytes ≡ message_bytes m ++ x → HasHead bytes m.head (m.body ++ x)
head_of m bytes x is e = (is.head, e ∙ append_assoc (print_request m.head) m.body x)

pub same_head : (bytes : List ℕ) (h k : RequestHead) (r q : List ℕ) → HasHead bytes h r → HasHead bytes k q → (h ≡ k) × (r ≡ q)
same_head bytes h k r q a b = request_unique bytes h k r q (a.0.valid, a.1) (b.0.valid, b.1)

pub same_first : (m n : Message) (x y : List ℕ) → IsMessage m → IsMessage n → message_bytes m ++ x ≡ message_bytes n ++ y → (m ≡ n) × (x ≡ y)
same_first m n x y a b e =
    let same = same_head (message_bytes m ++ x) m.head n.head (m.body ++ x) (n.body ++ y) (head_of m _ x a refl) (head_of n _ y b e) in
    let l : length m.body ≡ length n.body = body_len _ _ (sym a.framed ∙ ap head_framing same.0 ∙ b.framed) in
    let f = fronts m.body n.body x y l same.1 in
    (λ i. record { head = same.0 i; body = f.0 i }, f.1)

unfinished_none : (bytes x : List ℕ) (m : Message) → IsUnfinished bytes → IsMessage m → bytes ≡ message_bytes m ++ x → ⊥
unfinished_none bytes x m (head none short may) is e = none m.head (m.body ++ x) (is.head.valid, (head_of m bytes x is e).1)
unfinished_none bytes x m (body h after n has f small short) is e =
    let same = same_head bytes h m.head after (m.body ++ x) has (head_of m bytes x is e) in
    let l : n ≡ length m.body = body_len _ _ (sym f ∙ ap head_framing same.0 ∙ is.framed) in
    let k : length after ≡ length (m.body ++ x) = ap (λ t. length t) same.1 in
    omega (arith, length-append m.body x)

rejected_none : (bytes x : List ℕ) (r : Rejection) (bare : Bool) (m : Message) → IsRejected bytes r bare → IsMessage m → bytes ≡ message_bytes m ++ x → ⊥
rejected_none bytes x r bare m (malformed none h) is e = subst HasNoHead (append-nil bytes) (none []) m.head (m.body ++ x) (head_of m bytes x is e)
rejected_none bytes x r bare m (framed h after why has f) is e =
    let same = same_head bytes h m.head after (m.body ++ x) has (head_of m bytes x is e) in
    let l : Rejected r ≡ Body (length m.body) = sym f ∙ ap head_framing same.0 ∙ is.framed in
    cc

-- ---- where messages stop

-- no message after which the stream goes on stands first
abbrev pub Stops : List ℕ → Type 0
Stops rest = (m : Message) (x : List ℕ) → KeepsOpen m → rest ≡ message_bytes m ++ x → ⊥

-- the list of messages after which the stream goes on, and what stands after them
same_front : (ms ns : List Message) (r q : List ℕ) → flat_map message_bytes ms ++ r ≡ flat_map message_bytes ns ++ q
    → AllByRecursion KeepsOpen ms → AllByRecursion KeepsOpen ns → Stops r → Stops q → (ms ≡ ns) × (r ≡ q)
same_front [] [] r q same a b u v = (refl, same)
same_front [] (n ∷ ns) r q same a b u v = absurd (u n (flat_map message_bytes ns ++ q) b.0 (same ∙ append_assoc (message_bytes n) (flat_map message_bytes ns) q))
same_front (m ∷ ms) [] r q same a b u v = absurd (v m (flat_map message_bytes ms ++ r) a.0 (sym same ∙ append_assoc (message_bytes m) (flat_map message_bytes ms) r))
same_front (m ∷ ms) (n ∷ ns) r q same a b u v =
    let s = same_first m n (flat_map message_bytes ms ++ r) (flat_map message_bytes ns ++ q) a.0.is b.0.is
    (sym (append_assoc (message_bytes m) (flat_map message_bytes ms) r) ∙ same ∙ append_assoc (message_bytes n) (flat_map message_bytes ns) q) in
    let rest = same_front ms ns r q s.1 a.1 b.1 u v in
    (λ i. s.0 i ∷ rest.0 i, rest.1)

pub begin_same : (bytes : List ℕ) (ms ns : List Message) (r q : List ℕ) → Begins bytes ms r → Begins bytes ns q → Stops r → Stops q → (ms ≡ ns) × (r ≡ q)
begin_same bytes ms ns r q a b u v = same_front ms ns r q (sym a.whole ∙ b.whole) a.each b.each u v

pub stops_unfinished : (rest : List ℕ) → IsUnfinished rest → Stops rest
stops_unfinished rest u = λ m x g e. unfinished_none rest x m u g.is e

pub stops_rejected : (rest : List ℕ) (r : Rejection) (bare : Bool) → IsRejected rest r bare → Stops rest
stops_rejected rest r bare u = λ m x g e. rejected_none rest x r bare m u g.is e

pub stops_closed : (last : Message) (rest : List ℕ) → IsMessage last → closes last.head ≡ true → Stops (message_bytes last ++ rest)
stops_closed last rest is shut = λ m x g e.
    let same = same_first last m rest x is g.is e in
    let stays : closes last.head ≡ false = ap (λ (k : Message). closes k.head) same.0 ∙ g.stays in
    let clash : true ≡ false = sym shut ∙ stays in cc

-- a message stands first, and what is unfinished or rejected does too
pub not_unfinished : (last : Message) (rest q : List ℕ) → IsMessage last → IsUnfinished q → message_bytes last ++ rest ≡ q → ⊥
not_unfinished last rest q is u e = unfinished_none q rest last u is (sym e)

pub not_rejected : (last : Message) (rest q : List ℕ) (r : Rejection) (bare : Bool) → IsMessage last → IsRejected q r bare → message_bytes last ++ rest ≡ q → ⊥
not_rejected last rest q r bare is u e = rejected_none q rest r bare last u is (sym e)

pub cut_unique : (bytes : List ℕ) (ms ns : List Message) (e f : Ending) → IsCut bytes ms e → IsCut bytes ns f → ms ≡ ns
cut_unique bytes ms ns e f (unfinished a r b u) (unfinished c q d v) = (begin_same bytes a c r q b d (stops_unfinished r u) (stops_unfinished q v)).0
cut_unique bytes ms ns e f (unfinished a r b u) (rejected c q w bare d v) = (begin_same bytes a c r q b d (stops_unfinished r u) (stops_rejected q w bare v)).0
cut_unique bytes ms ns e f (rejected a r w bare b u) (unfinished c q d v) = (begin_same bytes a c r q b d (stops_rejected r w bare u) (stops_unfinished q v)).0
cut_unique bytes ms ns e f (rejected a r w bare b u) (rejected c q x other d v) = (begin_same bytes a c r q b d (stops_rejected r w bare u) (stops_rejected q x other v)).0
cut_unique bytes ms ns e f (closed a m r b is shut) (closed c n q d js too) =
    let s = begin_same bytes a c (message_bytes m ++ r) (message_bytes n ++ q) b d (stops_closed m r is shut) (stops_closed n q js too) in
    let t = same_first m n r q is js s.1 in
    λ i. s.0 i ++ t.0 i ∷ []
cut_unique bytes ms ns e f (closed a m r b is shut) (unfinished c q d v) =
    absurd (not_unfinished m r q is v (begin_same bytes a c (message_bytes m ++ r) q b d (stops_closed m r is shut) (stops_unfinished q v)).1)
cut_unique bytes ms ns e f (closed a m r b is shut) (rejected c q w bare d v) =
    absurd (not_rejected m r q w bare is v (begin_same bytes a c (message_bytes m ++ r) q b d (stops_closed m r is shut) (stops_rejected q w bare v)).1)
cut_unique bytes ms ns e f (unfinished c q d v) (closed a m r b is shut) =
    absurd (not_unfinished m r q is v (begin_same bytes a c (message_bytes m ++ r) q b d (stops_closed m r is shut) (stops_unfinished q v)).1)
cut_unique bytes ms ns e f (rejected c q w bare d v) (closed a m r b is shut) =
    absurd (not_rejected m r q w bare is v (begin_same bytes a c (message_bytes m ++ r) q b d (stops_closed m r is shut) (stops_rejected q w bare v)).1)
