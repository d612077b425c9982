use Rattle.canary_tables_contents.proofs.Found.{receipts_are_found, kept_texts_are_canonical}
use Rattle.canary_tables_contents.proofs.laws.receipts_found.Goals as goal

pub returns-clause-receipts : goal.returns-clause-receipts
returns-clause-receipts c = receipts_are_found

pub returns-clause-canonical : goal.returns-clause-canonical
returns-clause-canonical c = kept_texts_are_canonical
