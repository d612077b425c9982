use Rattle.std.proofs.Common.{arith, rules}
use Rattle.std.proofs.lemmas.Str.Pattern.{strip_prefix_char}
use Rattle.canary_fetch.proofs.AddressLemmas.{split_at, numbered_with}
use Rattle.canary_fetch.proofs.address.numbered.Goals as goal

pub returns-in-Some-strip_prefix : goal.returns-in-Some-strip_prefix
returns-in-Some-strip_prefix c =
    let text = split_at 93 c.args.text.now c.split_once.result c.in-Some.host c.in-Some.rest c.split_once.ensures.cases (omega arith) c.in-Some.is in
    let colon = rw c.in-Some-strip_prefix.is at (strip_prefix_char 58 c.in-Some.rest.now c.strip_prefix.result c.strip_prefix.ensures.cases (omega arith)) in
    numbered_with c.args.text.now c.in-Some.host.now c.in-Some.rest.now c.in-Some-strip_prefix.digits.now c.with_port.result text colon (search rules) c.with_port.ensures.host c.with_port.ensures.port
