-- Turns of a conversation, and what it waits for after them.
use Rattle.std.proofs.Common.{◌≡◌, ℕ, Bool, true, false, List, [], ◌++◌, length, refl, sym, ap, ◌∙◌, subst}
use Rattle.std.proofs.lemmas.List.{append-nil}
use Rattle.std.specs.Prelude.{if◌then◌else◌}
use Rattle.std.specs.List.{list_all}
use Rattle.std.specs.Io.KnownBytes.{IsAtEnd}
use Rattle.canary_wire.specs.declared.conversation.ConversationState.{ConversationState}
use Rattle.canary_wire.specs.declared.conversation.Cause.{Cause}
use Rattle.canary_wire.specs.declared.conversation.Cause.TheVariants.{EndOfInput, Truncated}
use Rattle.canary_wire.specs.Cut.{is_newline, IsUnfinished}
use Rattle.canary_base.specs.Writes.{Known}
use Rattle.canary_once.specs.Messages.{DeskState}
use Rattle.canary_wire.specs.Conversing.{Talk, talk, IsListening, end_cause, IsCause, Receives, Sends, AnswersMore, Replies, TakesTurn}
use Rattle.canary_base.proofs.WriteLemmas.{appends_none, appends_more}
use Rattle.canary_wire.proofs.ReadLemmas.{consumes_none, consumes_more}
use Rattle.canary_once.proofs.MessageLemmas.{went_none, went_then}
use Rattle.canary_wire.proofs.ServeLemmas.{empty}
use Rattle.canary_wire.proofs.OrderLemmas.{keeps_then}

-- ---- turns

turn_then : (r r1 r2 w w1 w2 : Known) (p q s : DeskState) (a b c : Talk) → TakesTurn r r1 w w1 p q a b → TakesTurn r1 r2 w1 w2 q s b c → TakesTurn r r2 w w2 p s a c
turn_then r r1 r2 w w1 w2 p q s a b c x y = record {
  got = x.got ++ y.got;
  put = x.put ++ y.put;
  held = x.held ++ y.held;
  read = consumes_more r r1 r2 x.got y.got x.read y.read;
  written = appends_more w w1 w2 x.put y.put x.written y.written;
  went = went_then p q s x.held y.held x.went y.went;
  order = keeps_then a b c x.got y.got x.put y.put x.held y.held x.order y.order;
}

turn_received : (r r1 w : Known) (p : DeskState) (a b : Talk) → Receives r r1 a b → TakesTurn r r1 w w p p a b
turn_received r r1 w p a b x = record { got = x.got; put = []; held = []; read = x.read; written = appends_none w; went = went_none p; order = x.order }

pub turn_sent : (r w w1 : Known) (p : DeskState) (a b : Talk) → Sends w w1 a b → TakesTurn r r w w1 p p a b
turn_sent r w w1 p a b x = record { got = []; put = x.put; held = []; read = consumes_none r; written = x.written; went = went_none p; order = x.order }

turn_answered : (r w : Known) (p q : DeskState) (a b : Talk) → AnswersMore p q a b → TakesTurn r r w w p q a b
turn_answered r w p q a b x = record { got = []; put = []; held = x.held; read = consumes_none r; written = appends_none w; went = x.went; order = x.order }

turn_replied : (r w w1 : Known) (p q : DeskState) (a b : Talk) → Replies w w1 p q a b → TakesTurn r r w w1 p q a b
turn_replied r w w1 p q a b x = turn_then r r r w w w1 p q q a x.0 b (turn_answered r w p q a x.0 x.1) (turn_sent r w w1 q x.0 b x.2)

-- what is owed is written, and then what is held is answered and written; and then it is read, and
-- what came is answered and written
module _ (r r1 w w1 w2 : Known) (p q : DeskState) (a b c d : Talk) (first : Sends w w1 a b) (held : Replies w1 w2 p q b c) where
  pub turn_first : TakesTurn r r w w2 p q a c
  turn_first = turn_then r r r w w1 w2 p p q a b c (turn_sent r w w1 p a b first) (turn_replied r w1 w2 p q b c held)

  pub turn_read : Receives r r1 c d → TakesTurn r r1 w w2 p q a d
  turn_read got = turn_then r r r1 w w2 w2 p q q a c d turn_first (turn_received r r1 w2 q c d got)

  pub turn_whole : (w3 : Known) (s : DeskState) (e : Talk) → Receives r r1 c d → Replies w2 w3 q s d e → TakesTurn r r1 w w3 p s a e
  turn_whole w3 s e got last = turn_then r r1 r1 w w2 w3 p q s a d e (turn_read got) (turn_replied r1 w2 w3 q s d e last)

-- ---- what it waits for

-- after a read of nothing
pub still_listens : (held new got unsent : List ℕ) (s : ConversationState) → IsListening (talk held unsent s) → new ≡ held ++ got → got ≡ [] → IsListening (talk new unsent s)
still_listens held new got unsent s l e none =
    let same : held ≡ new = sym (e ∙ ap (λ t. held ++ t) none ∙ append-nil held) in
    (l.0, l.1, subst IsUnfinished same l.2)

abbrev cause_if : Bool → Cause
cause_if b = if b then EndOfInput else Truncated

is_cause : (r : Known) (t : Talk) (b : Bool) → list_all is_newline t.held ≡ b → IsListening t → IsAtEnd r → IsCause r t (end_cause t.held)
is_cause r t true e l at = let P : Bool → Type 0 = λ b. IsCause r t (cause_if b) in subst P (sym e) (l, at, e)
is_cause r t false e l at = let P : Bool → Type 0 = λ b. IsCause r t (cause_if b) in subst P (sym e) (l, at, e)

-- at the end of the input
pub ends_by : (r : Known) (held new got unsent : List ℕ) (s : ConversationState) → IsListening (talk held unsent s) → new ≡ held ++ got → length got ≡ 0 → IsAtEnd r → IsCause r (talk new unsent s) (end_cause new)
ends_by r held new got unsent s l e none at = is_cause r (talk new unsent s) (list_all is_newline new) refl (still_listens held new got unsent s l e (empty got none)) at
