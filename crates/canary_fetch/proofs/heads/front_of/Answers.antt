use Rattle.canary_fetch.proofs.FrontLemmas.{many_fields}
use Rattle.canary_fetch.proofs.heads.front_of.Goals as goal

pub returns-in-Err-TooManyHeaders-clause-err : goal.returns-in-Err-TooManyHeaders-clause-err
returns-in-Err-TooManyHeaders-clause-err c = many_fields c.args.bytes.now c.in-Err-TooManyHeaders.ensures.no_room

pub returns-in-Err-clause-err : goal.returns-in-Err-clause-err
returns-in-Err-clause-err c = many_fields c.args.bytes.now c.in-Err.ensures.no_room
