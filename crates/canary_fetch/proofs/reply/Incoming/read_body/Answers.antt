use Rattle.std.proofs.Common.{ℕ, ◌≤◌, List, ◌++◌, length, drop, refl, sym, ap, ◌∙◌, subst, arith}
use Rattle.httparse.specs.Spans.{span_bytes}
use Rattle.http1.specs.Decoder.{Continues, Starves, Ends, HasNoBody}
use Rattle.canary_fetch.specs.declared.reply.ReplyStage.TheVariants.{Body as Within}
use Rattle.canary_fetch.specs.Unreads.{bytes_unread}
use Rattle.canary_fetch.proofs.FrontLemmas.{few_fields}
use Rattle.canary_fetch.proofs.ReadingLemmas.{none_goes, body_waits, same_part, piece_goes, body_ends, body_refuses, piece_refuses, same_reading}
use Rattle.canary_fetch.proofs.reply.Incoming.read_body.Goals as goal

pub returns-in-Ok-NeedMore-clause-ok : goal.returns-in-Ok-NeedMore-clause-ok
returns-in-Ok-NeedMore-clause-ok c came s =
    let me = c.args.self.now in
    let kept = me.body.items in
    let unread = bytes_unread me.unread in
    let status = c.args.status in
    let len = c.in-Ok-NeedMore.len in
    let next = c.decode.new.self in
    let new = c.go_on.new.self in
    let starves = rw c.in-Ok-NeedMore.field-0-is at c.in-Ok-NeedMore.ensures.ok in
    let waits = subst (λ (i : List ℕ). Starves c.args.decoder i next len) c.as_slice.ensures starves in
    let before = same_reading came kept kept unread unread me.stage (Within status c.args.decoder) (sym c.requires) refl refl s in
    record {
      reading =
          same_reading came kept new.body.items (drop len unread) (bytes_unread new.unread) (Within status next) new.stage c.go_on.ensures.stage c.go_on.ensures.body c.go_on.ensures.unread
          (none_goes came kept unread status len c.args.decoder next waits.continues before);
      part = same_part came (Within status next) new.stage c.go_on.ensures.stage (body_waits came kept unread status len c.args.decoder next waits before);
    }

pub returns-in-Ok-clause-ok : goal.returns-in-Ok-clause-ok
returns-in-Ok-clause-ok c came s =
    let me = c.args.self.now in
    let kept = me.body.items in
    let unread = bytes_unread me.unread in
    let status = c.args.status in
    let piece = c.in-Ok-Data.piece in
    let next = c.decode.new.self in
    let new = c.go_on-in-Ok.new.self in
    let found = rw c.in-Ok-Data.field-0-is at c.in-Ok-Data.ensures.ok in
    let goes = subst (λ (i : List ℕ). Continues c.args.decoder i next piece.end (span_bytes i piece)) c.as_slice.ensures found.1 in
    same_reading came (kept ++ span_bytes unread piece) new.body.items (drop piece.end unread) (bytes_unread new.unread) (Within status next) new.stage c.go_on-in-Ok.ensures.stage
    (c.go_on-in-Ok.ensures.body ∙ c.in-Ok.ensures.body) (c.go_on-in-Ok.ensures.unread ∙ ap (drop piece.end) c.keep.ensures.unread)
    (piece_goes came kept unread (span_bytes unread piece) status piece.end c.args.decoder next goes (same_reading came kept kept unread unread me.stage (Within status c.args.decoder) (sym c.requires) refl refl s))

pub returns-in-Err-keep-clause-err : goal.returns-in-Err-keep-clause-err
returns-in-Err-keep-clause-err c came s fault =
    let me = c.args.self.now in
    let kept = me.body.items in
    let unread = bytes_unread me.unread in
    let status = c.args.status in
    let piece = c.in-Ok-Data.piece in
    let next = c.decode.new.self in
    let found = rw c.in-Ok-Data.field-0-is at c.in-Ok-Data.ensures.ok in
    let goes = subst (λ (i : List ℕ). Continues c.args.decoder i next piece.end (span_bytes i piece)) c.as_slice.ensures found.1 in
    piece_refuses came kept unread (span_bytes unread piece) status piece.end c.args.decoder next goes (c.in-Err-keep.ensures.long fault)
    (same_reading came kept kept unread unread me.stage (Within status c.args.decoder) (sym c.requires) refl refl s)

pub returns-in-Ok-End-clause-ok : goal.returns-in-Ok-End-clause-ok
returns-in-Ok-End-clause-ok c came s =
    let me = c.args.self.now in
    let kept = me.body.items in
    let unread = bytes_unread me.unread in
    let status = c.args.status in
    let spans = c.decode.new.trailers in
    let len = c.in-Ok-End.field-0-0 in
    let count = c.in-Ok-End.field-0-1 in
    let here = rw c.in-Ok-End.field-0-is at c.in-Ok-End.ensures.ok in
    let ends = subst (λ (i : List ℕ). Ends c.args.decoder i spans len count) c.as_slice.ensures here in
    let fits = ends.within.count_fits in
    let most : count ≤ 16 = omega arith in
    let small : length kept ≤ 1048576 = omega (arith, me.small) in
    body_ends came kept unread status len count c.args.decoder spans ends small (few_fields unread spans count 16 ends.trailers ends.covered most)
    (same_reading came kept kept unread unread me.stage (Within status c.args.decoder) (sym c.requires) refl refl s)

pub returns-in-Err-clause-err : goal.returns-in-Err-clause-err
returns-in-Err-clause-err c came s fault =
    let me = c.args.self.now in
    let kept = me.body.items in
    let unread = bytes_unread me.unread in
    let status = c.args.status in
    let bars = subst (λ (i : List ℕ). HasNoBody c.args.decoder i 16) c.as_slice.ensures c.in-Err.ensures.err in
    body_refuses came kept unread status 16 c.args.decoder (omega arith) bars
    (same_reading came kept kept unread unread me.stage (Within status c.args.decoder) (sym c.requires) refl refl s)
