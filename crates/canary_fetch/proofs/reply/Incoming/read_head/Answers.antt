use Rattle.std.proofs.Common.{ℕ, List, refl, sym, ap, ◌∙◌, subst, drop}
use Rattle.canary_fetch.specs.declared.reply.ReplyStage.TheVariants.{Head, Body as Within}
use Rattle.http1.specs.Decoder.{decoder_for}
use Rattle.httparse.specs.Grammar.{HasNoResponse}
use Rattle.canary_fetch.specs.Replies.{limits, NeverReplies}
use Rattle.canary_fetch.specs.Fronts.{IsHeadAt}
use Rattle.canary_fetch.specs.Unreads.{bytes_unread}
use Rattle.canary_fetch.proofs.ReadingLemmas.{interim_goes, head_goes, head_refuses, same_reading, same_part}
use Rattle.canary_fetch.proofs.FrontLemmas.{head_waits}
use Rattle.canary_fetch.proofs.reply.Incoming.read_head.Goals as goal

pub returns-in-Ok-Part-clause-ok : goal.returns-in-Ok-Part-clause-ok
returns-in-Ok-Part-clause-ok c came s =
    let me = c.args.self.now in
    let kept = me.body.items in
    let unread = bytes_unread me.unread in
    let none = rw c.in-Ok-Part.field-0-is at c.in-Ok-Part.ensures.ok in
    record {
      reading = s;
      part = same_part came Head me.stage c.requires (head_waits came kept unread (subst HasNoResponse c.as_slice.ensures none) (same_reading came kept kept unread unread me.stage Head (sym c.requires) refl refl s));
    }

pub returns-in-Ok-Interim-clause-ok : goal.returns-in-Ok-Interim-clause-ok
returns-in-Ok-Interim-clause-ok c came s =
    let me = c.args.self.now in
    let kept = me.body.items in
    let unread = bytes_unread me.unread in
    let len = c.in-Ok-Interim.len in
    let front = rw c.in-Ok-Interim.field-0-is at c.in-Ok-Interim.ensures.ok in
    let at = subst (λ (b : List ℕ). IsHeadAt b len front.0) c.as_slice.ensures front.2 in
    same_reading came kept kept (drop len unread) (bytes_unread c.read.new.self) Head me.stage c.requires refl c.read.ensures
    (interim_goes came kept unread len front.0 front.1 at (same_reading came kept kept unread unread me.stage Head (sym c.requires) refl refl s))

pub returns-in-Ok-Final-clause-ok : goal.returns-in-Ok-Final-clause-ok
returns-in-Ok-Final-clause-ok c came s =
    let me = c.args.self.now in
    let kept = me.body.items in
    let unread = bytes_unread me.unread in
    let head = c.in-Ok-Final.head in
    let new = c.go_on.new.self in
    let front = rw c.in-Ok-Final.field-0-is at c.in-Ok-Final.ensures.ok in
    let at = subst (λ (b : List ℕ). IsHeadAt b head.len front.0) c.as_slice.ensures front.2 in
    same_reading came kept new.body.items (drop head.len unread) (bytes_unread new.unread) (Within head.status (decoder_for limits head.framing)) new.stage
    (c.go_on.ensures.stage ∙ ap (Within head.status) c.new-decoder.ensures) c.go_on.ensures.body c.go_on.ensures.unread
    (head_goes came kept unread head.len head.status head.framing front.0 front.1 at (same_reading came kept kept unread unread me.stage Head (sym c.requires) refl refl s))

pub returns-in-Err-clause-err : goal.returns-in-Err-clause-err
returns-in-Err-clause-err c came s fault =
    let me = c.args.self.now in
    let kept = me.body.items in
    let unread = bytes_unread me.unread in
    head_refuses came kept unread (subst NeverReplies c.as_slice.ensures c.in-Err.ensures.err) (same_reading came kept kept unread unread me.stage Head (sym c.requires) refl refl s)
