-- A conversation stays in order, step by step.
use Rattle.std.proofs.Common.{◌≡◌, ℕ, List, [], ◌++◌, refl, sym, ap, ◌∙◌, subst}
use Rattle.std.specs.Prelude.{Some, flat_map}
use Rattle.std.specs.Io.KnownBytes.{Appends, Consumes}
use Rattle.std.proofs.lemmas.List.{append-nil, append_assoc}
use Rattle.canary_wire.specs.declared.conversation.ConversationState.{ConversationState}
use Rattle.canary_wire.specs.declared.conversation.ConversationState.TheVariants.{Open, Over, Broken}
use Rattle.canary_wire.specs.Cut.{Message, Begins, IsCut}
use Rattle.canary_base.specs.Writes.{Known}
use Rattle.canary_once.specs.Messages.{messages_of, DeskState}
use Rattle.canary_wire.specs.Dispositions.{HttpExchange, reply_bytes}
use Rattle.canary_wire.specs.Serving.{last_reply, Answers, AnswersAll, AnswersUntil}
use Rattle.canary_wire.specs.Conversing.{Talk, talk, IsInOrder, so_far, to_the_end, broken_off, InOrder, KeepsOrder, Receives, Sends, AnswersMore}
use Rattle.canary_once.proofs.MessageLemmas.{went_none, went_then}
use Rattle.canary_wire.proofs.ServeLemmas.{begins_then, begins_more, begins_as, cut_then, messages-append, replies-append, cut_short_then}

-- ---- the same, written otherwise

pub order_as : (read read' written written' : List ℕ) (xs xs' : List HttpExchange) (t : Talk) → read ≡ read' → written ≡ written' → xs ≡ xs' → InOrder read written xs t → InOrder read' written' xs' t
order_as read read' written written' xs xs' t er ew ex o =
    let P : List ℕ → Type 0 = λ k. InOrder k written xs t in
    let Q : List ℕ → Type 0 = λ k. InOrder read' k xs t in
    let R : List HttpExchange → Type 0 = λ k. InOrder read' written' k t in
    subst R ex (subst Q ew (subst P er o))

pub keeps_none : (t : Talk) → KeepsOrder t t [] [] []
keeps_none t read written xs o = order_as read (read ++ []) written (written ++ []) xs (xs ++ []) t (sym (append-nil read)) (sym (append-nil written)) (sym (append-nil xs)) o

pub keeps_then : (a b c : Talk) (got more put further : List ℕ) (held others : List HttpExchange) → KeepsOrder a b got put held → KeepsOrder b c more further others → KeepsOrder a c (got ++ more) (put ++ further) (held ++ others)
keeps_then a b c got more put further held others x y read written xs o =
    order_as (read ++ got ++ more) (read ++ (got ++ more)) (written ++ put ++ further) (written ++ (put ++ further)) (xs ++ held ++ others) (xs ++ (held ++ others)) c
    (append_assoc read got more) (append_assoc written put further) (append_assoc xs held others)
    (y (read ++ got) (written ++ put) (xs ++ held) (x read written xs o))

-- ---- reading

-- nothing was read
pub receives_none : (r r1 : Known) (t : Talk) → Consumes r r1 [] → Receives r r1 t t
receives_none r r1 t c = record { got = []; read = c; order = keeps_none t }

received : (read written got : List ℕ) (xs : List HttpExchange) (held new unsent : List ℕ) → new ≡ held ++ got → IsInOrder read written xs held unsent Open → IsInOrder (read ++ got) written xs new unsent Open
received read written got xs held new unsent e (so_far begins replies) =
    so_far (begins_as (read ++ got) (held ++ got) new (messages_of xs) (sym e) (begins_more read held got (messages_of xs) begins)) replies

-- more was read
pub receives_more : (r r1 : Known) (held new unsent got : List ℕ) (s : ConversationState) → s ≡ Open → new ≡ held ++ got → Consumes r r1 got → Receives r r1 (talk held unsent s) (talk new unsent s)
receives_more r r1 held new unsent got s is e c = record {
  got = got;
  read = c;
  order = λ read written xs o.
      let P : ConversationState → Type 0 = λ t. IsInOrder read written xs held unsent t in
      let Q : ConversationState → Type 0 = λ t. IsInOrder (read ++ got) written xs new unsent t in
      order_as (read ++ got) (read ++ got) written (written ++ []) xs (xs ++ []) (talk new unsent s) refl (sym (append-nil written)) (sym (append-nil xs))
      (subst Q (sym is) (received read written got xs held new unsent e (subst P is o)));
}

-- ---- writing

moved : (written put unsent new : List ℕ) → unsent ≡ put ++ new → written ++ put ++ new ≡ written ++ unsent
moved written put unsent new e = append_assoc written put new ∙ ap (λ t. written ++ t) (sym e)

sent : (put held unsent new : List ℕ) (s : ConversationState) → unsent ≡ put ++ new → (read written : List ℕ) (xs : List HttpExchange) → IsInOrder read written xs held unsent s → IsInOrder read (written ++ put) xs held new s
sent put held unsent new Open e read written xs (so_far b r) = so_far b (moved written put unsent new e ∙ r)
sent put held unsent new Over e read written xs (to_the_end end shut cut r) = to_the_end end shut cut (moved written put unsent new e ∙ r)
sent put held unsent new Broken e read written xs (broken_off text cut r) = broken_off text cut (moved written put unsent new e ∙ r)

pub sends_some : (w w1 : Known) (held unsent new : List ℕ) (s : ConversationState) → (put : List ℕ) × (unsent ≡ put ++ new) × Appends w w1 put → Sends w w1 (talk held unsent s) (talk held new s)
sends_some w w1 held unsent new s wrote = record {
  put = wrote.0;
  written = wrote.2;
  order = λ read written xs o.
      order_as read (read ++ []) (written ++ wrote.0) (written ++ wrote.0) xs (xs ++ []) (talk held new s) (sym (append-nil read)) refl (sym (append-nil xs))
      (sent wrote.0 held unsent new s wrote.1 read written xs o);
  same = (refl, refl);
}

-- ---- answering

-- nothing more was answered
pub more_none : (p : DeskState) (t : Talk) → AnswersMore p p t t
more_none p t = record { held = []; went = went_none p; order = keeps_none t }

pub more_then : (p q s : DeskState) (a b c : Talk) → AnswersMore p q a b → AnswersMore q s b c → AnswersMore p s a c
more_then p q s a b c x y = record {
  held = x.held ++ y.held;
  went = went_then p q s x.held y.held x.went y.went;
  order = keeps_then a b c [] [] [] [] x.held y.held x.order y.order;
}

replies_more : (written unsent new : List ℕ) (xs ys : List HttpExchange) (last : List ℕ) → written ++ unsent ≡ flat_map reply_bytes xs → new ≡ unsent ++ (flat_map reply_bytes ys ++ last)
    → written ++ new ≡ flat_map reply_bytes (xs ++ ys) ++ last
replies_more written unsent new xs ys last before e =
    ap (λ t. written ++ t) e
    ∙ sym (append_assoc written unsent (flat_map reply_bytes ys ++ last))
    ∙ ap (λ t. t ++ (flat_map reply_bytes ys ++ last)) before
    ∙ sym (append_assoc (flat_map reply_bytes xs) (flat_map reply_bytes ys) last)
    ∙ ap (λ t. t ++ last) (sym (replies-append xs ys))

module _ (p q : DeskState) (held new unsent owing : List ℕ) where
  open_order : (a : Answers (Some unsent) (Some owing) p q held new) → (read written : List ℕ) (xs : List HttpExchange) → IsInOrder read written xs held unsent Open → IsInOrder read written (xs ++ a.exchanges) new owing Open
  open_order a read written xs (so_far b r) =
      let Q : List Message → Type 0 = λ t. Begins read t new in
      so_far (subst Q (sym (messages-append xs a.exchanges)) (begins_then read held new (messages_of xs) (messages_of a.exchanges) b a.begins))
      (ap (λ t. written ++ t) a.written ∙ sym (append_assoc written unsent (flat_map reply_bytes a.exchanges)) ∙ ap (λ t. t ++ flat_map reply_bytes a.exchanges) r ∙ sym (replies-append xs a.exchanges))

  over_order : (a : AnswersAll (Some unsent) (Some owing) p q held) → (read written : List ℕ) (xs : List HttpExchange) → IsInOrder read written xs held unsent Open → IsInOrder read written (xs ++ a.exchanges) new owing Over
  over_order a read written xs (so_far b r) =
      let Q : List Message → Type 0 = λ t. IsCut read t a.end in
      to_the_end a.end a.shut (subst Q (sym (messages-append xs a.exchanges)) (cut_then read held (messages_of xs) (messages_of a.exchanges) a.end b a.cut))
      (replies_more written unsent owing xs a.exchanges (last_reply a.end) r a.written)

  broken_order : (a : AnswersUntil (Some unsent) (Some owing) p q held) → (read written : List ℕ) (xs : List HttpExchange) → IsInOrder read written xs held unsent Open → IsInOrder read written (xs ++ a.exchanges) new owing Broken
  broken_order a read written xs (so_far b r) =
      broken_off (flat_map reply_bytes xs ++ a.text) (cut_short_then read held a.text xs a.exchanges b a.cut)
      (ap (λ t. written ++ t) a.written ∙ sym (append_assoc written unsent a.text) ∙ ap (λ t. t ++ a.text) r)

  -- of a conversation that was open, by where it stands then
  more_of : (s t : ConversationState) (xs : List HttpExchange)
      → ((read written : List ℕ) (before : List HttpExchange) → IsInOrder read written before held unsent Open → IsInOrder read written (before ++ xs) new owing t)
      → s ≡ Open → KeepsOrder (talk held unsent s) (talk new owing t) [] [] xs
  more_of s t xs order is read written before o =
      let P : ConversationState → Type 0 = λ k. IsInOrder read written before held unsent k in
      order_as read (read ++ []) written (written ++ []) (before ++ xs) (before ++ xs) (talk new owing t) (sym (append-nil read)) (sym (append-nil written)) refl
      (order read written before (subst P is o))

  pub more_open : (s t : ConversationState) → s ≡ Open → t ≡ Open → Answers (Some unsent) (Some owing) p q held new → AnswersMore p q (talk held unsent s) (talk new owing t)
  more_open s t is still a =
      let P : ConversationState → Type 0 = λ k. KeepsOrder (talk held unsent s) (talk new owing k) [] [] a.exchanges in
      record { held = a.exchanges; went = a.went; order = subst P (sym still) (more_of s Open a.exchanges (open_order a) is) }

  pub more_over : (s : ConversationState) → s ≡ Open → AnswersAll (Some unsent) (Some owing) p q held → AnswersMore p q (talk held unsent s) (talk new owing Over)
  more_over s is a = record { held = a.exchanges; went = a.went; order = more_of s Over a.exchanges (over_order a) is }

  pub more_broken : (s : ConversationState) → s ≡ Open → AnswersUntil (Some unsent) (Some owing) p q held → AnswersMore p q (talk held unsent s) (talk new owing Broken)
  more_broken s is a = record { held = a.exchanges; went = a.went; order = more_of s Broken a.exchanges (broken_order a) is }
