use Rattle.std.proofs.Common.{arith}
use Rattle.canary_fetch.proofs.FrontLemmas.{long_part}
use Rattle.canary_fetch.proofs.heads.front_of_part.Goals as goal

pub returns-then-bytes-gt-MAX_REPLY_HEAD-clause-err : goal.returns-then-bytes-gt-MAX_REPLY_HEAD-clause-err
returns-then-bytes-gt-MAX_REPLY_HEAD-clause-err c = long_part c.args.bytes.now c.requires (omega arith)
