use Rattle.std.proofs.Common.{◌≡◌, ◌+◌, ℤ, length, refl, sym, subst, to_z, of_z, w64, rules}
use Rattle.canary_tables_read.specs.Places.{IsMark}
use Rattle.canary_tables.proofs.Noted.{marked}
use Rattle.canary_tables.proofs.pages.mark_of.Goals as goal

pub returns : goal.returns
returns c db t most page =
    let back : to_z w64 (of_z w64 c.in_ok-place.place) ≡ c.in_ok-place.place = search rules in
    let counted = c.in_ok-place.ensures db t c.args.service.now c.args.from most page in
    marked db _ c.args.service.now (c.args.from + length c.args.rows.now) refl c.in_ok-index.ensures.1 (subst (λ (z : ℤ). IsMark db c.args.service.now (c.args.from + length c.args.rows.now) z) (sym back) counted)
