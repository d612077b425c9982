use Rattle.canary_tables.proofs.KeptLemmas.{one_receipt_more}
use Rattle.canary_tables.proofs.cache.Cache.put_receipt.Goals as goal

pub returns-clause-receipts : goal.returns-clause-receipts
returns-clause-receipts c = λ k are is. one_receipt_more k c.args.self.now.receipts c.put.new.self c.place_of-place.result c.args.receipt are is c.put.ensures.within
