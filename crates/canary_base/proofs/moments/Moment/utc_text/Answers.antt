use Rattle.std.proofs.Common.{◌≡◌, ◌≤◌, ap, ◌∙◌, arith, w64, pos, ◌*ℤ◌, None, false}
use Rattle.std.proofs.lemmas.Int.{to_z_pos}
use Rattle.std.proofs.lemmas.Result.{IfOk-at_ok}
use Rattle.jiff.specs.Words.{civil_nanos}
use Rattle.canary_base.proofs.MomentLemmas.{datetime_text_is, has_one_text}
use Rattle.canary_base.proofs.moments.Moment.utc_text.Goals as goal

pub returns-clause-text : goal.returns-clause-text
returns-clause-text c =
    let text = c.timestamp_text.ensures in
    let limit : c.args.self ≤ 253370764799 = rw c.get.ensures.value at c.get.ensures.limit in
    let lowercase : c.new.result.lowercase ≡ false = ap (λ o. o.0) c.new.ensures in
    let separator : c.new.result.separator ≡ 84 = ap (λ o. o.1) c.new.ensures in
    let precision : c.new.result.precision ≡ None = ap (λ o. o.2) c.new.ensures in
    let instant = IfOk-at_ok _ c.unwrap-instant.ensures c.from_second.ensures.value in
    let seconds = to_z_pos w64 c.get.result (omega arith) ∙ ap pos c.get.ensures.value in
    let nanos : civil_nanos text.0 ≡ pos c.args.self *ℤ pos 1_000_000_000 = text.1 ∙ ap (λ t. t.nanosecond) c.to_plain.ensures ∙ instant ∙ ap (λ z. z *ℤ pos 1_000_000_000) seconds in
    rw (lowercase, separator, precision) at text.2 ∙ datetime_text_is c.args.self text.0 limit nanos

pub returns-clause-calendar : goal.returns-clause-calendar
returns-clause-calendar c =
    let limit : c.args.self ≤ 253370764799 = rw c.get.ensures.value at c.get.ensures.limit in
    (has_one_text c.args.self c.timestamp_text.result.bytes limit).1 (returns-clause-text c)
