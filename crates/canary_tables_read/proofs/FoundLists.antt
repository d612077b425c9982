-- What the lists of callers and of names find.
use Rattle.std.proofs.Common.{◌≡◌, [], ℕ, pos, List, map, true, Option, Some, refl, ap, ◌∙◌}
use Rattle.std.specs.List.{AllByRecursion}
use Rattle.sqlite.specs.declared.types.Value.TheVariants.{Int, Text as Words}
use Rattle.sqlite.specs.Order.{Row}
use Rattle.sqlite.specs.State.{State, Shown}
use Rattle.sqlite.specs.Term.{Term}
use Rattle.canary_tables_rows.specs.declared.rows.CallerRow.{CallerRow}
use Rattle.canary_tables_rows.specs.declared.rows.RevisionRow.{RevisionRow}
use Rattle.canary_tables_rows.specs.declared.rows.ServiceRow.{ServiceRow}
use Rattle.canary_tables_rows.specs.Tables.{Tables}
use Rattle.canary_tables_schema.specs.Layout.{Layout, service_at, revision_at}
use Rattle.canary_tables_schema.specs.Cells.{caller_cells, revision_cells, service_cells}
use Rattle.canary_tables_schema.specs.Stores.{Stores}
use Rattle.canary_tables_rows.specs.Limits.{IsCallerWithin, IsRevisionWithin, IsServiceWithin}
use Rattle.canary_tables_read.specs.declared.lists.RevisionKey.{RevisionKey}
use Rattle.canary_tables_read.specs.Keys.{key_of}
use Rattle.canary_tables_read.specs.Readable.{name_in, number_in, name_of, caller_with, caller_of, key_with, revision_key_of}
use Rattle.canary_tables_read.proofs.Answer.{passes, shows, by_column, no_limit, from_start}
use Rattle.canary_tables_read.proofs.Asking.{Asks, Reads, all_found}
use Rattle.canary_tables_read.proofs.Holding.{told_same, told_all, map_itself, all_pass, name_sound, name_full, caller_sound, caller_full, key_sound, key_full}
use Rattle.canary_tables_read.proofs.Texts.{callers_text, callers_shown, callers_asks, name_shown, revision_keys_text, revision_keys_shown, revision_keys_asks, service_names_text, service_names_asks}
use Rattle.canary_tables_read.proofs.TypedRows.{Tells}

-- a text that shows all rows of a table, of which this is held
module _ {X Y : Type 0} (text : List ℕ) (tree : Layout → ℕ) (shown : List Term) (asks : Asks text tree [] shown (by_column 0) no_limit from_start) (cells : X → Row) (held : Row → Option Y) (of : X → Option Y)
    (tells : (params : Row) → Tells cells (λ _. true) of held (passes [] params) (shows shown params)) where
  pub held_all : (params : Row) (xs : List X) (rows : List Row) → Reads text tree cells xs params rows → map held rows ≡ map of xs
  held_all params xs rows h = all_found text tree [] shown asks cells (λ _. true) of held params (tells params) xs rows h ∙ ap (map of) (all_pass xs)

tells_callers : (params : Row) → Tells caller_cells (λ _. true) (λ x. caller_with (name_in (Words x.name)) (number_in (Int (pos x.settled)))) caller_of (passes [] params) (shows callers_shown params)
tells_callers params = record { filled = λ x. (_, _, refl); tests = λ id x. refl; shown = λ id x h. refl }

abbrev key_held : RevisionRow → Option RevisionKey
key_held x = key_with (name_in (Words x.name)) (number_in (Int (pos x.revision)))

tells_keys : (params : Row) → Tells revision_cells (λ _. true) key_held revision_key_of (passes [] params) (shows revision_keys_shown params)
tells_keys params = record { filled = λ x. (_, _, refl); tests = λ id x. refl; shown = λ id x h. refl }

tells_services : (params : Row) → Tells service_cells (λ _. true) (λ x. name_in (Words x.name)) name_of (passes [] params) (shows name_shown params)
tells_services params = record { filled = λ x. (_, _, refl); tests = λ id x. refl; shown = λ id x h. refl }

module _ (old new : State) (t : Tables) (params : Row) (rows : List Row) (has : Stores old t) where
  abbrev caller_held : CallerRow → Option CallerRow
  caller_held x = caller_with (name_in (Words x.name)) (number_in (Int (pos x.settled)))

  callers_held : Shown callers_text params old new rows → map caller_of rows ≡ map caller_held t.callers
  callers_held h =
      held_all callers_text (λ _. 1) callers_shown callers_asks caller_cells caller_of caller_held tells_callers params t.callers rows
      (record { old = old; new = new; layout = has.layout; schema = has.holds.schema; numbered = has.holds.numbered.1.0; stored = has.holds.callers; shows_rows = h })

  pub callers_found : (found : List CallerRow) → Shown callers_text params old new rows → map Some found ≡ map caller_of rows → found ≡ t.callers
  callers_found found h read = told_same caller_held (λ x. x) caller_sound t.callers found (read ∙ callers_held h) ∙ map_itself t.callers

  pub callers_whole : Shown callers_text params old new rows → ((all : List CallerRow) → map caller_of rows ≡ map Some all → ⊥) → AllByRecursion IsCallerWithin t.callers → ⊥
  callers_whole h broken within = broken _ (callers_held h ∙ told_all caller_held (λ x. x) IsCallerWithin caller_full t.callers within)

  keys_held : Shown revision_keys_text params old new rows → map revision_key_of rows ≡ map key_held t.revisions
  keys_held h =
      held_all revision_keys_text revision_at revision_keys_shown revision_keys_asks revision_cells revision_key_of key_held tells_keys params t.revisions rows
      (record { old = old; new = new; layout = has.layout; schema = has.holds.schema; numbered = has.holds.numbered.1.1.1.1.1.1.1.0; stored = has.holds.revisions; shows_rows = h })

  pub keys_found : (found : List RevisionKey) → Shown revision_keys_text params old new rows → map Some found ≡ map revision_key_of rows → found ≡ map key_of t.revisions
  keys_found found h read = told_same key_held key_of key_sound t.revisions found (read ∙ keys_held h)

  pub keys_whole : Shown revision_keys_text params old new rows → ((all : List RevisionKey) → map revision_key_of rows ≡ map Some all → ⊥) → AllByRecursion IsRevisionWithin t.revisions → ⊥
  keys_whole h broken within = broken _ (keys_held h ∙ told_all key_held key_of IsRevisionWithin key_full t.revisions within)

  services_held : Shown service_names_text params old new rows → map name_of rows ≡ map (λ (x : ServiceRow). name_in (Words x.name)) t.services
  services_held h =
      held_all service_names_text service_at name_shown service_names_asks service_cells name_of (λ x. name_in (Words x.name)) tells_services params t.services rows
      (record { old = old; new = new; layout = has.layout; schema = has.holds.schema; numbered = has.holds.numbered.1.1.1.0; stored = has.holds.services; shows_rows = h })

  pub services_found : (found : List (List ℕ)) → Shown service_names_text params old new rows → map Some found ≡ map name_of rows → found ≡ map (λ (row : ServiceRow). row.name) t.services
  services_found found h read = told_same (λ (x : ServiceRow). name_in (Words x.name)) (λ x. x.name) (λ x y e. name_sound x.name y e) t.services found (read ∙ services_held h)

  pub services_whole : Shown service_names_text params old new rows → ((all : List (List ℕ)) → map name_of rows ≡ map Some all → ⊥) → AllByRecursion IsServiceWithin t.services → ⊥
  services_whole h broken within =
      broken _ (services_held h ∙ told_all (λ (x : ServiceRow). name_in (Words x.name)) (λ x. x.name) IsServiceWithin (λ x w. name_full x.name w.name) t.services within)
