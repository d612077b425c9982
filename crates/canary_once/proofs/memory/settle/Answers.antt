use Rattle.canary_once.proofs.Keeping.{kept_itself}
use Rattle.canary_once.proofs.memory.settle.Goals as goal

pub change-requires : goal.change-requires
change-requires c = kept_itself c.args.desk.now c.args.settlement.receipt.command c.args.settlement.change c.requires.change c.requires.kept

pub returns-in-Err-clause-err : goal.returns-in-Err-clause-err
returns-in-Err-clause-err c = (
  c.take_back.ensures c.args.callers.now c.args.settlement.receipt c.requires.receipts c.in_ok-push.ensures.ok,
  c.in-Err.ensures.err,
)
