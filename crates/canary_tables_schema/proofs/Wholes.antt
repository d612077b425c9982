-- A desk's schema is in one of the three layouts.
use Rattle.std.proofs.Common.{◌≡◌, ◌⊎◌, inl, inr, true, false}
use Rattle.sqlite.specs.Schema.{Schema}
use Rattle.canary_tables_schema.specs.Layout.{Layout, dense, gapped, made, moved, packed}
use Rattle.canary_tables_schema.specs.Schema.{schema_of, schema_at}
use Rattle.canary_tables_schema.specs.Formed.{IsDeskSchema}

pub in_layout : (schema : Schema) → (schema ≡ schema_of (dense true)) ⊎ ((schema ≡ schema_of gapped) ⊎ (schema ≡ schema_of (dense false))) → IsDeskSchema schema
in_layout schema (inl is) = (made, is)
in_layout schema (inr (inl is)) = (moved, is)
in_layout schema (inr (inr is)) = (packed, is)

pub of_layout : (schema : Schema) → IsDeskSchema schema → (schema ≡ schema_of (dense true)) ⊎ ((schema ≡ schema_of gapped) ⊎ (schema ≡ schema_of (dense false)))
of_layout schema desk = by_cases desk.0 desk.1
  where
    by_cases : (at : Layout) → schema ≡ schema_at at → (schema ≡ schema_of (dense true)) ⊎ ((schema ≡ schema_of gapped) ⊎ (schema ≡ schema_of (dense false)))
    by_cases made is = inl is
    by_cases moved is = inr (inl is)
    by_cases packed is = inr (inr is)
