-- A file at rest.
use Rattle.std.proofs.Common.{◌≡◌, ℕ, List, [], Some, ap, ◌∙◌, arith}
use Rattle.canary_client_records.specs.Texts.{texts_of}
use Rattle.canary_client_records.specs.Stores.{held, IsAtRest}
use Rattle.canary_client_records.proofs.TextLemmas.{reads_back}

-- its texts are read
pub settled_texts : (file : List ℕ) → IsAtRest file → texts_of file ≡ Some (held file)
settled_texts file r = ap texts_of r.is ∙ reads_back (held file) [] r.lines (λ none. omega arith)
