-- A row that is put back under its own rowid stands where it stood.
use Rattle.std.proofs.Common.{◌≡◌, ℤ, ◌<ℤ◌, not, List, [], ◌∷◌, map, filter, Bool, true, false, if◌then◌else◌, cond, IsTrue, refl, sym, ap, subst, ◌∙◌, arith, int_cmp}
use Rattle.std.proofs.lemmas.Int.{ints}
use Rattle.std.specs.List.{AllByRecursion}
use Rattle.std.specs.declared.cmp.Ordering.TheVariants.{Less, Equal, Greater}
use Rattle.sqlite.specs.declared.types.Value.{Value}
use Rattle.sqlite.specs.declared.types.Value.TheVariants.{Int}
use Rattle.sqlite.specs.Order.{Row, value_cmp}
use Rattle.sqlite.specs.Tree.{rowid, put_row, without_rowid, has_rowid, IsTable}
use Rattle.sqlite.specs.Edit.{id_in}
use Rattle.sqlite_trees.specs.View.{is_int}
use Rattle.sqlite_trees.proofs.TreeLemmas.{IsShaped-put_row, IsShaped-filter}
use Rattle.sqlite_trees.specs.declared.store.Shape.TheVariants as shape
use Rattle.sqlite_value.proofs.OrderLemmas.{value_cmp-Int}
use Rattle.sqlite_keyed.proofs.KeyedLemmas.{Less-from_lt, lt_from_Less}
use Rattle.canary_tables_schema.specs.Stores.{IsNumbered}
use Rattle.canary_tables_write.proofs.Places.{int_is}

abbrev AreKeyed : List Row → Type 0
AreKeyed = AllByRecursion (λ r. IsTrue (is_int (rowid r)))

id : Row → ℤ
id r = id_in (rowid r)

lower : (x y : Row) → IsTrue (is_int (rowid x)) → IsTrue (is_int (rowid y)) → value_cmp (rowid x) (rowid y) ≡ Less → id x <ℤ id y
unfolding id
lower x y h k less = lt_from_Less _ _ (rw (int_is (rowid x) h, int_is (rowid y) k, value_cmp-Int (id_in (rowid x)) (id_in (rowid y))) at less)

cmp_is : (v : Value) (n m : ℤ) → v ≡ Int n → value_cmp v (Int m) ≡ int_cmp n m
cmp_is v n m is = ap (λ w. value_cmp w (Int m)) is ∙ value_cmp-Int n m

at_itself : (n : ℤ) → int_cmp n n ≡ Equal
at_itself n = grind (arith, ints)

above : (a b : ℤ) → b <ℤ a → int_cmp a b ≡ Greater
above a b h = grind (arith, ints)

-- each of the rows is above the number
abbrev AreAbove : ℤ → List Row → Type 0
AreAbove n = AllByRecursion (λ y. (rowid y ≡ Int (id y)) × (n <ℤ id y))

all_above : (x : Row) (xs : List Row) → IsTrue (is_int (rowid x)) → AreKeyed xs → AllByRecursion (λ y. value_cmp (rowid x) (rowid y) ≡ Less) xs → AreAbove (id x) xs
unfolding id
all_above x [] h k up = tt
all_above x (y ∷ xs) h k up = ((int_is (rowid y) k.0, lower x y h k.0 up.0), all_above x xs h k.1 up.1)

none_gone : (n : ℤ) (xs : List Row) → AreAbove n xs → without_rowid n xs ≡ xs
none_gone n [] h = refl
none_gone n (y ∷ xs) h = rw (cmp_is (rowid y) (id y) n h.0.0, above (id y) n h.0.1) (ap (λ ys. y ∷ ys) (none_gone n xs h.1))

comes_first : (n : ℤ) (new : Row) (xs : List Row) → rowid new ≡ Int n → AreAbove n xs → put_row new xs ≡ new ∷ xs
comes_first n new [] is h = refl
comes_first n new (y ∷ xs) is h = rw (is, cmp_is (rowid y) (id y) n h.0.0, above (id y) n h.0.1) refl

no_change : (p : Row → Bool) (new : Row) (xs : List Row) → filter p xs ≡ [] → map (λ r. if p r then new else r) xs ≡ xs
no_change p new [] h = refl
no_change p new (x ∷ xs) h = go (p x) (no_change p new xs) h
  where
    go : (b : Bool) → (filter p xs ≡ [] → map (λ r. if p r then new else r) xs ≡ xs) → cond b (x ∷ filter p xs) (filter p xs) ≡ [] → cond b new x ∷ map (λ r. if p r then new else r) xs ≡ x ∷ xs
    go true more h = absurd (cc)
    go false more h = ap (λ ys. x ∷ ys) (more h)

found_above : (p : Row → Bool) (n : ℤ) (old : Row) (xs : List Row) → AreAbove n xs → filter p xs ≡ old ∷ [] → (rowid old ≡ Int (id old)) × (n <ℤ id old)
found_above p n old [] h is = absurd (cc)
found_above p n old (x ∷ xs) h is = go (found_above p n old xs h.1) (p x) is
  where
    go : (filter p xs ≡ old ∷ [] → (rowid old ≡ Int (id old)) × (n <ℤ id old)) → (b : Bool) → cond b (x ∷ filter p xs) (filter p xs) ≡ old ∷ [] → (rowid old ≡ Int (id old)) × (n <ℤ id old)
    go more true is = let same : x ≡ old = cc in subst (λ r. (rowid r ≡ Int (id r)) × (n <ℤ id r)) same h.0
    go more false is = more is

module _ (p : Row → Bool) (old new : Row) (same : rowid new ≡ rowid old) where
  here : (xs : List Row) → rowid old ≡ Int (id old) → AreAbove (id old) xs → filter p xs ≡ [] → put_row new (without_rowid (id old) (old ∷ xs)) ≡ new ∷ map (λ r. if p r then new else r) xs
  here xs is up none =
      rw (cmp_is (rowid old) (id old) (id old) is, at_itself (id old), none_gone (id old) xs up) (comes_first (id old) new xs (same ∙ is) up ∙ ap (λ ys. new ∷ ys) (sym (no_change p new xs none)))

  there : (x : Row) (xs : List Row) → rowid x ≡ Int (id x) → rowid old ≡ Int (id old) → id x <ℤ id old → put_row new (without_rowid (id old) xs) ≡ map (λ r. if p r then new else r) xs
      → put_row new (without_rowid (id old) (x ∷ xs)) ≡ x ∷ map (λ r. if p r then new else r) xs
  there x xs xid oid low more =
      rw (cmp_is (rowid x) (id x) (id old) xid, Less-from_lt (id x) (id old) low, same ∙ oid, cmp_is (rowid x) (id x) (id old) xid, Less-from_lt (id x) (id old) low) (ap (λ ys. x ∷ ys) more)

  in_place : (rows : List Row) → IsTable rows → AreKeyed rows → filter p rows ≡ old ∷ [] → put_row new (without_rowid (id old) rows) ≡ map (λ r. if p r then new else r) rows
  unfolding id
  in_place [] up keyed h = absurd (cc)
  in_place (x ∷ xs) up keyed h = go (in_place xs up.1 keyed.1) (p x) h
    where
      high : AreAbove (id x) xs
      high = all_above x xs keyed.0 keyed.1 up.0

      go : (filter p xs ≡ old ∷ [] → put_row new (without_rowid (id old) xs) ≡ map (λ r. if p r then new else r) xs) → (b : Bool) → cond b (x ∷ filter p xs) (filter p xs) ≡ old ∷ [] → put_row new (without_rowid (id old) (x ∷ xs)) ≡ cond b new x ∷ map (λ r. if p r then new else r) xs
      go more true h =
          let first : x ≡ old = cc in
          let none : filter p xs ≡ [] = cc in
          subst (λ y. put_row new (without_rowid (id old) (y ∷ xs)) ≡ new ∷ map (λ r. if p r then new else r) xs) (sym first)
          (here xs (subst (λ y. rowid y ≡ Int (id y)) first (int_is (rowid x) keyed.0)) (subst (λ y. AreAbove (id y) xs) first high) none)
      go more false h =
          let found = found_above p (id x) old xs high h in
          there x xs (int_is (rowid x) keyed.0) found.0 found.1 (more h)

  pub replaces : (rows : List Row) → IsNumbered rows → filter p rows ≡ old ∷ [] → put_row new (without_rowid (id_in (rowid old)) rows) ≡ map (λ r. if p r then new else r) rows
  unfolding id
  replaces rows up h = in_place rows up.0 up.1 h

  pub stays_numbered : (rows : List Row) (n : ℤ) → IsTrue (is_int (rowid new)) → IsNumbered rows → IsNumbered (put_row new (without_rowid n rows))
  stays_numbered rows n is up = IsShaped-put_row new (without_rowid n rows) is (IsShaped-filter shape.Table (λ r. not (has_rowid n r)) rows up)
