use Rattle.std.proofs.Common.{rules}
use Rattle.canary_tables.proofs.KeptLemmas.{nothing_kept}
use Rattle.canary_tables.proofs.cache.Cache.new.Goals as goal

pub returns-clause-kept : goal.returns-clause-kept
returns-clause-kept c = λ k. nothing_kept _ k (record { counts = search rules; services = search rules; templates = search rules; receipts = search rules; histories = search rules })
