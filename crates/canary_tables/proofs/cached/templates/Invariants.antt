use Rattle.std.proofs.Common.{◌≡◌, false}
use Rattle.sqlite.specs.Held.{state}
use Rattle.canary_tables_schema.specs.Stores.{IsUsable}
use Rattle.canary_tables.specs.Desk.{contents_in}
use Rattle.canary_tables.specs.Caches.{IsCacheOf}
use Rattle.canary_tables.proofs.FoundPlans.{TemplatesSoFar}
use Rattle.canary_tables.proofs.cached.templates.Given as goal

abbrev pub invariant-loop-name : goal.invariant-loop-name
invariant-loop-name g l =
    (l.conn.in_transaction ≡ false) × TemplatesSoFar l.names l.name-index (state g.S.Store l.initial.conn) (state g.S.Store l.conn) l.found
    × (IsUsable (state g.S.Store l.conn) → IsCacheOf l.kept (contents_in (state g.S.Store l.conn)))
