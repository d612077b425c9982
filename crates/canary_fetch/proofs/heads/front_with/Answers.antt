use Rattle.std.proofs.Common.{◌≡◌, false, sym, ap, ◌∙◌, arith, length}
use Rattle.httparse.specs.Grammar.{print_response, status_code}
use Rattle.canary_fetch.specs.Replies.{is_interim}
use Rattle.canary_fetch.proofs.FrontLemmas.{long_head, low_status}
use Rattle.canary_fetch.proofs.heads.front_with.Goals as goal

pub returns-then-head-gt-MAX_REPLY_HEAD-clause-err : goal.returns-then-head-gt-MAX_REPLY_HEAD-clause-err
returns-then-head-gt-MAX_REPLY_HEAD-clause-err c =
    let h = c.requires.is.0 in
    let x = c.requires.is.1 in
    let len : c.args.head.len ≡ length (print_response h) = x.len in
    long_head c.args.bytes.now _ h x.reads (omega arith)

pub returns-then-head-lt200-clause-err : goal.returns-then-head-lt200-clause-err
returns-then-head-lt200-clause-err c =
    let h = c.requires.is.0 in
    let x = c.requires.is.1 in
    let code : c.args.head.code ≡ status_code h = x.code in
    let not : is_interim (status_code h) ≡ false = ap is_interim (sym code) ∙ sym c.is_interim.ensures ∙ c.if-is_interim.false in
    low_status c.args.bytes.now _ h not x.reads (omega arith)
