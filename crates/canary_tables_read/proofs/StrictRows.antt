-- The rows of a STRICT table have a value of its kind for each column.
use Rattle.std.proofs.Common.{◌≡◌, ◌+◌, ◌≤◌, ◌||◌, ◌&&◌, ℕ, suc, List, [], ◌∷◌, length, Bool, true, false, not, if◌then◌else◌, Option, Some, None, refl, sym, ap, ap₂, ◌∙◌, arith}
use Rattle.sqlite.specs.declared.types.Value.{Value}
use Rattle.sqlite.specs.declared.types.Value.TheVariants.{Null, Int, Real, Text as Words, Blob}
use Rattle.sqlite.specs.Order.{Row, column}
use Rattle.sqlite_sql.specs.Ops.{is_null}
use Rattle.sqlite_schema.specs.Names.{is_key}
use Rattle.sqlite_schema.specs.Rules.{are_typed, are_present, is_of, suits}
use Rattle.canary_tables_read.proofs.Holdings.{Holding, text, number, number_or_none, column_of, columns_of, Raw, raw_cells, int_or_null, and_second}
use Rattle.canary_tables_read.proofs.Tests.{and_first}

-- what may stand in a column
abbrev IsCell : Holding → Value → Type 0
IsCell (text name) v = (t : List ℕ) × (v ≡ Words t)
IsCell (number name) v = (z : _) × (v ≡ Int z)
IsCell (number_or_none name) v = (o : _) × (v ≡ int_or_null o)

-- a column that may hold NULL, or a value that is not NULL
abbrev is_there : Holding → Value → Bool
is_there k v = not (column_of k).not_null || not (is_null v)

one_cell : (k : Holding) (v : Value) → is_of (column_of k).kind v ≡ true → is_there k v ≡ true → IsCell k v
one_cell (text name) Null h p = absurd (cc)
one_cell (text name) (Int z) h p = absurd (cc)
one_cell (text name) (Real x) h p = absurd (cc)
one_cell (text name) (Words t) h p = (t, refl)
one_cell (text name) (Blob b) h p = absurd (cc)
one_cell (number name) Null h p = absurd (cc)
one_cell (number name) (Int z) h p = (z, refl)
one_cell (number name) (Real x) h p = absurd (cc)
one_cell (number name) (Words t) h p = absurd (cc)
one_cell (number name) (Blob b) h p = absurd (cc)
one_cell (number_or_none name) Null h p = (None, refl)
one_cell (number_or_none name) (Int z) h p = (Some z, refl)
one_cell (number_or_none name) (Real x) h p = absurd (cc)
one_cell (number_or_none name) (Words t) h p = absurd (cc)
one_cell (number_or_none name) (Blob b) h p = absurd (cc)

more_raw : (k : Holding) (ks : List Holding) (v : Value) (vs : Row) → IsCell k v → (r : Raw ks) × (vs ≡ raw_cells ks r) → (r : Raw (k ∷ ks)) × (v ∷ vs ≡ raw_cells (k ∷ ks) r)
more_raw (text name) ks v vs c rest = ((c.0, rest.0), ap₂ (λ a others. a ∷ others) c.1 rest.1)
more_raw (number name) ks v vs c rest = ((c.0, rest.0), ap₂ (λ a others. a ∷ others) c.1 rest.1)
more_raw (number_or_none name) ks v vs c rest = ((c.0, rest.0), ap₂ (λ a others. a ∷ others) c.1 rest.1)

-- no column from here on is the rowid
abbrev pub NoKey : Option ℕ → ℕ → Type 0
NoKey key at = (n : ℕ) → at ≤ n → is_key key n ≡ false

later_key : (key : Option ℕ) (at : ℕ) → NoKey key at → NoKey key (at + 1)
later_key key at h n le = h n (omega (arith, le))

-- the cells stand after the rowid from this column on
abbrev pub Behind : ℕ → Row → Row → Type 0
Behind at row cells = (i k : ℕ) → k ≡ i + at + 1 → column row k ≡ column cells i

later_cells : (at : ℕ) (row cells : Row) (v : Value) → Behind at row (v ∷ cells) → Behind (at + 1) row cells
later_cells at row cells v h i k e = h (suc i) k (omega (arith, e))

no_cells : (at : ℕ) (row : Row) → Behind at row [] → Behind (at + 1) row []
no_cells at row h i k e = h (suc i) k (omega (arith, e))

typed_here : (b : Bool) (k : Holding) (v : Value) (rest : Bool) → b ≡ false → ((if b then is_null v else suits (column_of k) v) && rest) ≡ true → is_of (column_of k).kind v ≡ true
typed_here true k v rest e h = absurd (cc)
typed_here false (text name) v rest e h = and_first _ rest h
typed_here false (number name) v rest e h = and_first _ rest h
typed_here false (number_or_none name) v rest e h = and_first _ rest h

present_here : (b : Bool) (k : Holding) (v w : Value) (rest : Bool) → b ≡ false → w ≡ v → ((b || not (column_of k).not_null || not (is_null w)) && rest) ≡ true → is_there k v ≡ true
present_here true k v w rest e same h = absurd (cc)
present_here false k v w rest e same h = ap (is_there k) (sym same) ∙ and_first _ rest h

-- the last column holds no NULL
abbrev pub EndsFilled : List Holding → Type 0
EndsFilled [] = Unit {0}
EndsFilled (text name ∷ []) = Unit {0}
EndsFilled (number name ∷ []) = Unit {0}
EndsFilled (number_or_none name ∷ []) = ⊥
EndsFilled (k ∷ l ∷ ks) = EndsFilled (l ∷ ks)

not_none : (k : Holding) (ks : List Holding) → length {A = Value} [] ≡ length (k ∷ ks) → ⊥
not_none k ks e = omega (arith, e)

module _ (key : Option ℕ) (row : Row) where
  pub raw_of : (ks : List Holding) (at : ℕ) (vs : Row) → NoKey key at → Behind at row vs → are_typed key at (columns_of ks) vs ≡ true → are_present key at (columns_of ks) row ≡ true → length vs ≡ length ks
      → (r : Raw ks) × (vs ≡ raw_cells ks r)
  raw_of [] at [] none stand typed present long = (tt, refl)
  raw_of [] at (v ∷ vs) none stand typed present long = absurd (omega (arith, long))
  raw_of (k ∷ ks) at [] none stand typed present long = absurd (omega (arith, long))
  raw_of (k ∷ ks) at (v ∷ vs) none stand typed present long =
      let open_here : is_key key at ≡ false = none at (omega arith) in
      let here : column row (at + 1) ≡ v = stand 0 (at + 1) (omega arith) in
      let cell = one_cell k v (typed_here _ k v _ open_here typed) (present_here _ k v _ _ open_here here present) in
      more_raw k ks v vs cell (raw_of ks (at + 1) vs (later_key key at none) (later_cells at row vs v stand) (and_second _ _ typed) (and_second _ _ present) (omega (arith, long)))

  null_there : (b : Bool) (w : Value) (rest : Bool) → b ≡ false → w ≡ Null → ((b || false || not (is_null w)) && rest) ≡ true → ⊥
  null_there true w rest e n h = cc
  null_there false w rest e n h = let k : (not (is_null Null) && rest) ≡ true = ap (λ v. not (is_null v) && rest) (sym n) ∙ h in cc

  -- then no row is short
  pub as_long : (ks : List Holding) (at : ℕ) (vs : Row) → NoKey key at → Behind at row vs → EndsFilled ks → are_typed key at (columns_of ks) vs ≡ true → are_present key at (columns_of ks) row ≡ true → length vs ≡ length ks
  as_long [] at [] none stand filled typed present = refl
  as_long [] at (v ∷ vs) none stand filled typed present = absurd (cc)
  as_long (text name ∷ []) at [] none stand filled typed present = absurd (null_there _ _ _ (none at (omega arith)) (stand 0 (at + 1) (omega arith)) present)
  as_long (number name ∷ []) at [] none stand filled typed present = absurd (null_there _ _ _ (none at (omega arith)) (stand 0 (at + 1) (omega arith)) present)
  as_long (number_or_none name ∷ []) at [] none stand filled typed present = absurd filled
  as_long (k ∷ l ∷ ks) at [] none stand filled typed present =
      absurd (not_none l ks (as_long (l ∷ ks) (at + 1) [] (later_key key at none) (no_cells at row stand) filled (and_second _ _ typed) (and_second _ _ present)))
  as_long (k ∷ []) at (v ∷ vs) none stand filled typed present = ap suc (as_long [] (at + 1) vs (later_key key at none) (later_cells at row vs v stand) tt (and_second _ _ typed) (and_second _ _ present))
  as_long (k ∷ l ∷ ks) at (v ∷ vs) none stand filled typed present = ap suc (as_long (l ∷ ks) (at + 1) vs (later_key key at none) (later_cells at row vs v stand) filled (and_second _ _ typed) (and_second _ _ present))
