use Rattle.std.proofs.Common.{◌≡◌, ◌+◌, ℤ, Some, length, sym, subst, to_z, of_z, w64, rules}
use Rattle.canary_tables_read.specs.Places.{IsMark}
use Rattle.canary_tables_read.proofs.FoundPlaces.{marked_last}
use Rattle.canary_tables_read.proofs.after.last_place.Goals as goal

pub returns : goal.returns
returns c db t service from most page =
    let last = c.in_ok-last.field-0.now in
    let back : to_z w64 (of_z w64 last.place) ≡ last.place = search rules in
    subst (λ (z : ℤ). IsMark db service (from + length c.args.page.now) z) (sym back) (marked_last db t service from most c.args.page.now (Some last) (sym c.in_ok-last.ensures.value) page)
