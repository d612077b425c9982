-- If the rows of a tree have the cells of typed rows, a change of the one row that passes a test is one of the typed rows.
use Rattle.std.proofs.Common.{◌≡◌, ℤ, List, [], ◌∷◌, map, filter, drop, Bool, true, false, cond, if◌then◌else◌, IsTrue, refl, sym, ap, ap₂, subst, ◌∙◌}
use Rattle.std.specs.List.{AllByRecursion}
use Rattle.sqlite.specs.declared.types.Value.{Value}
use Rattle.sqlite.specs.declared.types.Value.TheVariants.{Int}
use Rattle.sqlite.specs.Order.{Row}
use Rattle.sqlite.specs.Tree.{rowid, put_row, without_rowid}
use Rattle.sqlite.specs.Edit.{id_in}
use Rattle.sqlite_trees.specs.View.{is_int}
use Rattle.canary_tables_rows.specs.Changes.{change_where}
use Rattle.canary_tables_schema.specs.Cells.{cells_of}
use Rattle.canary_tables_schema.specs.Stores.{IsNumbered}
use Rattle.canary_tables_write.proofs.Places.{int_is}
use Rattle.canary_tables_write.proofs.Replaced.{replaces, stays_numbered}

abbrev AreKeyed : List Row → Type 0
AreKeyed = AllByRecursion (λ r. IsTrue (is_int (rowid r)))

module _ {R : Type 0} (cells : R → Row) (p : Row → Bool) (test : R → Bool) (fits : (v : Value) (x : R) → p (v ∷ cells x) ≡ test x) where
  passes_too : (r : Row) (x : R) → IsTrue (is_int (rowid r)) → drop 1 r ≡ cells x → p r ≡ test x
  passes_too [] x keyed is = absurd cc
  passes_too (v ∷ c) x keyed is = ap (λ cs. p (v ∷ cs)) is ∙ fits v x

  whole_row : (r : Row) (x : R) → IsTrue (is_int (rowid r)) → drop 1 r ≡ cells x → r ≡ Int (id_in (rowid r)) ∷ cells x
  whole_row [] x keyed is = absurd cc
  whole_row (v ∷ c) x keyed is = ap₂ (λ w cs. w ∷ cs) (int_is v keyed) is

  none_found : (ts : List Row) (rs : List R) → AreKeyed ts → cells_of ts ≡ map cells rs → filter test rs ≡ [] → filter p ts ≡ []
  none_found [] rs keyed is none = refl
  none_found (r ∷ ts) [] keyed is none = absurd cc
  none_found (r ∷ ts) (x ∷ rs) keyed is none =
      let first : drop 1 r ≡ cells x = cc in
      let rest : cells_of ts ≡ map cells rs = cc in
      subst (λ b. cond b (r ∷ filter p ts) (filter p ts) ≡ []) (sym (passes_too r x keyed.0 first)) (go (test x) (none_found ts rs keyed.1 rest) none)
    where
      go : (b : Bool) → (filter test rs ≡ [] → filter p ts ≡ []) → cond b (x ∷ filter test rs) (filter test rs) ≡ [] → cond b (r ∷ filter p ts) (filter p ts) ≡ []
      go true more h = absurd cc
      go false more h = more h

  -- the row of the tree that passes
  pub found : (ts : List Row) (rs : List R) (row : R) → AreKeyed ts → cells_of ts ≡ map cells rs → filter test rs ≡ row ∷ [] → (n : ℤ) × (filter p ts ≡ (Int n ∷ cells row) ∷ [])
  found [] [] row keyed is one = absurd cc
  found [] (x ∷ rs) row keyed is one = absurd cc
  found (r ∷ ts) [] row keyed is one = absurd cc
  found (r ∷ ts) (x ∷ rs) row keyed is one =
      let first : drop 1 r ≡ cells x = cc in
      let rest : cells_of ts ≡ map cells rs = cc in
      subst (λ b. (n : ℤ) × (cond b (r ∷ filter p ts) (filter p ts) ≡ (Int n ∷ cells row) ∷ [])) (sym (passes_too r x keyed.0 first))
      (go (test x) (found ts rs row keyed.1 rest) (none_found ts rs keyed.1 rest) (whole_row r x keyed.0 first) one)
    where
      go : (b : Bool) → (filter test rs ≡ row ∷ [] → (n : ℤ) × (filter p ts ≡ (Int n ∷ cells row) ∷ [])) → (filter test rs ≡ [] → filter p ts ≡ []) → r ≡ Int (id_in (rowid r)) ∷ cells x
          → cond b (x ∷ filter test rs) (filter test rs) ≡ row ∷ [] → (n : ℤ) × (cond b (r ∷ filter p ts) (filter p ts) ≡ (Int n ∷ cells row) ∷ [])
      go true more none whole h =
          let same : x ≡ row = cc in
          let left : filter test rs ≡ [] = cc in
          (id_in (rowid r), ap₂ (λ y ys. y ∷ ys) (whole ∙ ap (λ y. Int (id_in (rowid r)) ∷ cells y) same) (none left))
      go false more none whole h = more h

  module _ (change : R → R) (row : R) (n : ℤ) where
    unchanged : (ts : List Row) (rs : List R) → AreKeyed ts → cells_of ts ≡ map cells rs → filter test rs ≡ [] → cells_of (map (λ r. if p r then Int n ∷ cells (change row) else r) ts) ≡ map cells (change_where test change rs)
    unchanged [] [] keyed is none = refl
    unchanged [] (x ∷ rs) keyed is none = absurd cc
    unchanged (r ∷ ts) [] keyed is none = absurd cc
    unchanged (r ∷ ts) (x ∷ rs) keyed is none =
        let first : drop 1 r ≡ cells x = cc in
        let rest : cells_of ts ≡ map cells rs = cc in
        rw (passes_too r x keyed.0 first) (go (test x) (unchanged ts rs keyed.1 rest) first none)
      where
        go : (b : Bool) → (filter test rs ≡ [] → cells_of (map (λ r. if p r then Int n ∷ cells (change row) else r) ts) ≡ map cells (change_where test change rs)) → drop 1 r ≡ cells x → cond b (x ∷ filter test rs) (filter test rs) ≡ []
            → drop 1 (if b then Int n ∷ cells (change row) else r) ∷ cells_of (map (λ r. if p r then Int n ∷ cells (change row) else r) ts) ≡ cells (if b then change x else x) ∷ map cells (change_where test change rs)
        go true more first h = absurd cc
        go false more first h = ap₂ (λ y ys. y ∷ ys) first (more h)

    changed : (ts : List Row) (rs : List R) → AreKeyed ts → cells_of ts ≡ map cells rs → filter test rs ≡ row ∷ [] → cells_of (map (λ r. if p r then Int n ∷ cells (change row) else r) ts) ≡ map cells (change_where test change rs)
    changed [] [] keyed is one = absurd cc
    changed [] (x ∷ rs) keyed is one = absurd cc
    changed (r ∷ ts) [] keyed is one = absurd cc
    changed (r ∷ ts) (x ∷ rs) keyed is one =
        let first : drop 1 r ≡ cells x = cc in
        let rest : cells_of ts ≡ map cells rs = cc in
        rw (passes_too r x keyed.0 first) (go (test x) (changed ts rs keyed.1 rest) (unchanged ts rs keyed.1 rest) first one)
      where
        go : (b : Bool) → (filter test rs ≡ row ∷ [] → cells_of (map (λ r. if p r then Int n ∷ cells (change row) else r) ts) ≡ map cells (change_where test change rs))
            → (filter test rs ≡ [] → cells_of (map (λ r. if p r then Int n ∷ cells (change row) else r) ts) ≡ map cells (change_where test change rs)) → drop 1 r ≡ cells x → cond b (x ∷ filter test rs) (filter test rs) ≡ row ∷ []
            → drop 1 (if b then Int n ∷ cells (change row) else r) ∷ cells_of (map (λ r. if p r then Int n ∷ cells (change row) else r) ts) ≡ cells (if b then change x else x) ∷ map cells (change_where test change rs)
        go true more none first h =
            let same : x ≡ row = cc in
            let left : filter test rs ≡ [] = cc in
            ap₂ (λ y ys. y ∷ ys) (ap (λ y. cells (change y)) (sym same)) (none left)
        go false more none first h = ap₂ (λ y ys. y ∷ ys) first (more h)

    -- the rows that are then there
    pub typed : (ts next : List Row) (rs : List R) → IsNumbered ts → cells_of ts ≡ map cells rs → filter test rs ≡ row ∷ [] → filter p ts ≡ (Int n ∷ cells row) ∷ [] → next ≡ put_row (Int n ∷ cells (change row)) (without_rowid n ts)
        → IsNumbered next × (cells_of next ≡ map cells (change_where test change rs))
    typed ts next rs up is one there put = (
      subst IsNumbered (sym put) (stays_numbered p (Int n ∷ cells row) (Int n ∷ cells (change row)) refl ts n refl up),
      ap cells_of (put ∙ replaces p (Int n ∷ cells row) (Int n ∷ cells (change row)) refl ts up there) ∙ changed ts rs up.1 is one,
    )
