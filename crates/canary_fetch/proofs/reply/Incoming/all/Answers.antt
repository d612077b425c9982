use Rattle.std.proofs.Common.{◌≡◌, ℕ, ◌≤◌, List, [], ◌++◌, length, refl, sym, ap, ◌∙◌, subst, arith}
use Rattle.http1.specs.declared.decode.Decoder.TheVariants.{UntilClose}
use Rattle.canary_fetch.specs.declared.reply.ReplyStage.TheVariants.{Body as Within}
use Rattle.canary_fetch.specs.Unreads.{bytes_unread}
use Rattle.canary_fetch.specs.Replies.{Heard, response, ReadsReply}
use Rattle.canary_fetch.proofs.ReadingLemmas.{connection_ends, same_reading, whole_range}
use Rattle.canary_fetch.proofs.reply.Incoming.all.Goals as goal

pub returns-in-Ok-clause-ok : goal.returns-in-Ok-clause-ok
returns-in-Ok-clause-ok c came s =
    let me = c.args.self.now in
    let kept = me.body.items in
    let unread = bytes_unread me.unread in
    let status = c.args.status in
    let whole = whole_range unread (length c.as_slice.result.now) (ap length c.as_slice.ensures) in
    let body : c.keep.new.self.body.items ≡ kept ++ unread = c.in-Ok.ensures.body ∙ ap (λ (x : List ℕ). kept ++ x) whole in
    let most : length c.keep.new.self.body.items ≤ 1048576 = omega (arith, c.keep.new.self.small) in
    let small : length (kept ++ unread) ≤ 1048576 = subst (λ (x : List ℕ). length x ≤ 1048576) body most in
    subst (λ (x : Heard). ReadsReply came x []) (sym (c.reply.ensures ∙ ap (response status) body))
    (connection_ends came kept unread status small (same_reading came kept kept unread unread me.stage (Within status UntilClose) (sym c.requires) refl refl s))
