use Rattle.std.proofs.Common.{sym, ◌∙◌, arith}
use Rattle.canary_fetch.proofs.AddressLemmas.{split_at, named_with}
use Rattle.canary_fetch.proofs.address.named.Goals as goal

pub returns-in-Some : goal.returns-in-Some
returns-in-Some c =
    let text = split_at 58 c.args.text.now c.split_once.result c.in-Some.host c.in-Some.digits c.split_once.ensures.cases (omega arith) c.in-Some.is in
    named_with c.args.text.now c.in-Some.host.now c.in-Some.digits.now c.with_port.result text (sym c.is_name.ensures ∙ c.if-is_name.true) c.with_port.ensures.host c.with_port.ensures.port
