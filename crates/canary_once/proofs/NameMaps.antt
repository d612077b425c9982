-- Tree maps under names that change at one name, and those of lists to which an item is added.
use Rattle.std.proofs.Common.{◌≡◌, ℕ, List, [], ◌∷◌, ◌++◌, Bool, true, false, Some, None, refl, sym, ap, ◌∙◌, subst}
use Rattle.std.specs.Prelude.{Option, Result, Ok, Err, OnOk, OnErr, cond, unwrap_or, IsSome}
use Rattle.std.specs.Ordering.{nat_cmp}
use Rattle.std.specs.Cmp.Lexicographic.{slice_cmp, nat_list_cmp_total}
use Rattle.std.specs.Cmp.{eq_by_cmp_equiv}
use Rattle.std.specs.Str.{bytes_eq}
use Rattle.std.specs.FinMap.{FinMap, get, insert, from_entries, get-insert, same_map, IsAntisymmetric, slice_cmp-IsAntisymmetric, nat_cmp-IsAntisymmetric}
use Rattle.std.specs.BTreeMap.{BTreeMap, is_at, Updates, WritesThrough}
use Rattle.std.proofs.lemmas.Map.Text.{is_eq-slice_cmp}
use Rattle.std.proofs.lemmas.Slice.Eq.{bytes_eq-Decides}
use Rattle.canary_once.proofs.Named.{at_name, get_name}

abbrev pub NameMap : Type 0 → Type 0
NameMap X = FinMap (slice_cmp nat_cmp) X

names_are_told_apart : IsAntisymmetric (slice_cmp nat_cmp)
names_are_told_apart = slice_cmp-IsAntisymmetric nat_cmp-IsAntisymmetric

-- two maps that answer alike are the same
pub answers_alike : {X : Type 0} (m n : NameMap X) → ((q : List ℕ) → get m q ≡ get n q) → m ≡ n
answers_alike m n h = same_map nat_list_cmp_total names_are_told_apart m n h

-- a map that answers as another but for one name
abbrev pub IsWith : {X : Type 0} → NameMap X → NameMap X → List ℕ → Option X → Type 0
IsWith m n k w = (q : List ℕ) → get n q ≡ cond (bytes_eq q k) w (get m q)

is_same_name : (k q : List ℕ) → is_at (slice_cmp nat_cmp k) q ≡ bytes_eq q k
is_same_name k q = (eq_by_cmp_equiv nat_list_cmp_total).symm k q ∙ is_eq-slice_cmp q k

pub entries_with : {X : Type 0} (es fs : List (List ℕ × X)) (k : List ℕ) (w : Option X) → ((q : List ℕ) → at_name fs q ≡ cond (is_at (slice_cmp nat_cmp k) q) w (at_name es q)) → IsWith (from_entries {R = slice_cmp nat_cmp} es) (from_entries fs) k w
entries_with es fs k w h q = get_name fs q ∙ h q ∙ ap (λ b. cond b w (at_name es q)) (is_same_name k q) ∙ ap (cond (bytes_eq q k) w) (sym (get_name es q))

-- a map to which a value was written at a name that was there
pub written_with : {X : Type 0} (m n : BTreeMap (List ℕ) X) (k : List ℕ) (r new : X) → Some r ≡ at_name m.entries k → WritesThrough (slice_cmp nat_cmp) (slice_cmp nat_cmp k) m new n → IsWith (from_entries {R = slice_cmp nat_cmp} m.entries) (from_entries n.entries) k (Some new)
written_with m n k r new there written = entries_with m.entries n.entries k (Some new) (written.3 (subst IsSome there refl)).0

-- a map that was updated, if it is the other before that
pub updated_with : {X : Type 0} (m n o : BTreeMap (List ℕ) X) (k : List ℕ) (w : Option X) → m ≡ o → Updates (slice_cmp nat_cmp) m n k w → IsWith (from_entries {R = slice_cmp nat_cmp} o.entries) (from_entries n.entries) k w
updated_with {X = X} m n o k w is u = subst (λ (p : BTreeMap (List ℕ) X). IsWith (from_entries {R = slice_cmp nat_cmp} p.entries) (from_entries n.entries) k w) is (entries_with m.entries n.entries k w u.0)

pub insert_with : {X : Type 0} (m : NameMap X) (k : List ℕ) (v : X) → IsWith m (insert m k v) k (Some v)
insert_with m k v q = get-insert nat_list_cmp_total m k v q ∙ ap (λ b. cond b (Some v) (get m q)) (is_eq-slice_cmp q k)

pub with_is_insert : {X : Type 0} (m n : NameMap X) (k : List ℕ) (v : X) → IsWith m n k (Some v) → n ≡ insert m k v
with_is_insert m n k v h = answers_alike n (insert m k v) (λ q. h q ∙ sym (insert_with m k v q))

pub at_itself : {X : Type 0} (m n : NameMap X) (k : List ℕ) (w : Option X) → IsWith m n k w → get n k ≡ w
at_itself m n k w h = h k ∙ ap (λ b. cond b w (get m k)) ((bytes_eq-Decides k k).1 refl)

same_there : {X : Type 0} (m : NameMap X) (k q : List ℕ) (w : Option X) (b : Bool) → bytes_eq q k ≡ b → w ≡ get m k → cond b w (get m q) ≡ get m q
same_there m k q w true e is = is ∙ ap (get m) (sym ((bytes_eq-Decides q k).0 e))
same_there m k q w false e is = refl

-- with the value that it had, a map is as it was
pub with_same : {X : Type 0} (m n : NameMap X) (k : List ℕ) (w : Option X) → IsWith m n k w → w ≡ get m k → n ≡ m
with_same m n k w h is = answers_alike n m (λ q. h q ∙ same_there m k q w (bytes_eq q k) refl is)

-- Lists under names.

-- the list under a name; an empty one if there is none
abbrev pub list_in : {X : Type 0} → NameMap (List X) → List ℕ → List X
list_in m k = unwrap_or (get m k) []

-- with an item more at the end of the list under a name
abbrev pub with_item : {X : Type 0} → NameMap (List X) → List ℕ → X → NameMap (List X)
with_item m k x = insert m k (list_in m k ++ x ∷ [])

-- what is there
pub found_there : {X : Type 0} (es : List (List ℕ × List X)) (m : NameMap (List X)) (k : List ℕ) (r : List X) → from_entries es ≡ m → Some r ≡ at_name es k → r ≡ list_in m k
found_there {X = X} es m k r is e = sym (ap (λ (n : NameMap (List X)). list_in n k) (sym is) ∙ ap (λ (o : Option (List X)). unwrap_or o []) (get_name es k ∙ sym e))

pub found_none : {X : Type 0} (es : List (List ℕ × List X)) (m : NameMap (List X)) (k : List ℕ) → from_entries es ≡ m → None ≡ at_name es k → [] ≡ list_in m k
found_none {X = X} es m k is e = sym (ap (λ (n : NameMap (List X)). list_in n k) (sym is) ∙ ap (λ (o : Option (List X)). unwrap_or o []) (get_name es k ∙ sym e))

-- one item more

pub pushed_there : {X : Type 0} (es fs : List (List ℕ × List X)) (m : NameMap (List X)) (k : List ℕ) (r new : List X) (x : X) → from_entries es ≡ m → r ≡ list_in m k → IsWith (from_entries es) (from_entries fs) k (Some new) → new ≡ r ++ x ∷ [] → from_entries fs ≡ with_item m k x
pushed_there {X = X} es fs m k r new x is found h more =
    with_is_insert (from_entries es) (from_entries fs) k new h
    ∙ ap (λ (n : NameMap (List X)). insert n k new) is
    ∙ ap (insert m k) (more ∙ ap (λ (l : List X). l ++ x ∷ []) found)

pub pushed_result : {X T E : Type 0} (result : Result T E) (es fs : List (List ℕ × List X)) (m : NameMap (List X)) (k : List ℕ) (r new : List X) (x : X) → from_entries es ≡ m → Some r ≡ at_name es k → IsWith (from_entries es) (from_entries fs) k (Some new) → OnOk result (new ≡ r ++ x ∷ []) → OnOk result (from_entries fs ≡ with_item m k x)
pushed_result (Ok u) es fs m k r new x is there h more = pushed_there es fs m k r new x is (found_there es m k r is there) h more
pushed_result (Err e) es fs m k r new x is there h more = tt

pub refused_result : {X T E : Type 0} (result : Result T E) (es fs : List (List ℕ × List X)) (m : NameMap (List X)) (k : List ℕ) (r new : List X) → from_entries es ≡ m → Some r ≡ at_name es k → IsWith (from_entries es) (from_entries fs) k (Some new) → OnErr result (new ≡ r) → OnErr result (from_entries fs ≡ m)
refused_result (Ok u) es fs m k r new is there h same = tt
refused_result (Err e) es fs m k r new is there h same = with_same (from_entries es) (from_entries fs) k (Some new) h (ap Some same ∙ there ∙ sym (get_name es k)) ∙ is

pub first_there : {X : Type 0} (es fs : List (List ℕ × List X)) (m : NameMap (List X)) (k : List ℕ) (first : List X) (x : X) → from_entries es ≡ m → None ≡ at_name es k → IsWith (from_entries es) (from_entries fs) k (Some first) → first ≡ x ∷ [] → from_entries fs ≡ with_item m k x
first_there es fs m k first x is none h one = pushed_there es fs m k [] first x is (found_none es m k is none) h one
