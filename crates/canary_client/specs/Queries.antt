-- What a reply means for the query that it answers.
use Rattle.std.specs.Prelude.{ℕ, ◌==◌, ◌&&◌, List, [], ◌∷◌, Option, Some, None, if◌then◌else◌, codes}
use Rattle.canary_client_journal.specs.Meanings.{is_among, message_codes}
use Rattle.canary_client_journal.specs.declared.network.RetryReason.{RetryReason}
use Rattle.canary_client_journal.specs.declared.network.RetryReason.TheVariants.{Foreign, Unavailable}

-- what there is not
abbrev pub not_found_codes : List (List ℕ)
not_found_codes = codes "unknown-service" ∷ codes "unknown-run" ∷ codes "no-route" ∷ []

-- a status, codes that a desk sends with it as it answers a query, and why such a query is sent
-- again, if it is
abbrev pub Row : Type 0
Row = ℕ × (List (List ℕ) × Option RetryReason)

abbrev pub replies : List Row
replies =
    (200, (codes "ok" ∷ [], None))
    ∷ (404, (not_found_codes, None))
    ∷ (400, (message_codes, None))
    ∷ (405, (codes "method" ∷ [], None))
    ∷ (503, (codes "no-memory" ∷ codes "storage" ∷ [], Some Unavailable))
    ∷ []

-- by the first row that has both; a pair of no row is no desk's
abbrev pub why_among : List Row → ℕ → List ℕ → Option RetryReason
why_among [] status code = Some Foreign
why_among (row ∷ rows) status code =
    if status == row.0 && is_among row.1.0 code then row.1.1 else why_among rows status code

abbrev pub why_again : ℕ → List ℕ → Option RetryReason
why_again status code = why_among replies status code
