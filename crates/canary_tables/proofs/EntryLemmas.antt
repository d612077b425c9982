-- Two tree maps under names, of which the first goes before the second, as one finite map.
use Rattle.std.proofs.Common.{◌≡◌, ◌≤◌, ℕ, ◌+◌, List, [], ◌∷◌, ◌++◌, map, length, Bool, true, false, Some, None, refl, sym, ap, ◌∙◌, subst, arith, Ordering, Less, Equal, Greater}
use Rattle.std.specs.Prelude.{Option, cond, IsSome}
use Rattle.std.specs.Option.{option_or}
use Rattle.std.specs.Ordering.{nat_cmp, is_eq, match_ordering}
use Rattle.std.specs.Cmp.Lexicographic.{slice_cmp, nat_list_cmp_total}
use Rattle.std.specs.Cmp.{eq_by_cmp_equiv}
use Rattle.std.specs.FinMap.{get, insert, remove, from_entries, find, get-from_entries, get-insert, get-remove, same_map, slice_cmp-IsAntisymmetric, nat_cmp-IsAntisymmetric}
use Rattle.std.specs.BTreeMap.{BTreeMap, is_at, insert_entry, WritesThrough}
use Rattle.std.specs.Map.{lookup, remove_entry, set_value}
use Rattle.std.proofs.lemmas.Map.Text.{is_eq-slice_cmp}
use Rattle.std.proofs.lemmas.Slice.Eq.{bytes_eq-Decides}
use Rattle.canary_tables.specs.declared.cache_map.Weighed.{Weighed}
use Rattle.canary_tables.specs.CacheMaps.{Named, IsWithin, unweighed, weights, weight_if, value_if, at_name, first_of, IsPut, IsEntered}

abbrev Items : Type 0 → Type 0
Items A = List (List ℕ × Weighed A)

abbrev Found : Type 0 → Type 0
Found A = Option (Weighed A)

-- whether a name is that one
abbrev pub is_it : List ℕ → List ℕ → Bool
is_it k q = is_at (slice_cmp nat_cmp k) q

-- the map of two lists of entries
abbrev pub held : {A : Type 0} → Items A → Items A → Named A
held es fs = from_entries (map unweighed (es ++ fs))

find_first : {A : Type 0} (es fs : Items A) (q : List ℕ) → find (slice_cmp nat_cmp) q (map unweighed (es ++ fs)) ≡ value_if (first_of es fs q)
find_first [] [] q = refl
find_first {A} [] (f ∷ fs) q = elim (is_it q f.0) as (λ (b : Bool). cond b (Some f.1.value) (find (slice_cmp nat_cmp) q (map unweighed fs)) ≡ value_if (cond b (Some f.1) (at_name fs q))) [ true ↦ refl | false ↦ find_first [] fs q ]
find_first {A} (e ∷ es) fs q = elim (is_it q e.0) as (λ (b : Bool). cond b (Some e.1.value) (find (slice_cmp nat_cmp) q (map unweighed (es ++ fs))) ≡ value_if (option_or (cond b (Some e.1) (at_name es q)) (at_name fs q))) [ true ↦ refl | false ↦ find_first es fs q ]

-- what it answers
pub get_held : {A : Type 0} (es fs : Items A) (q : List ℕ) → get (held es fs) q ≡ value_if (first_of es fs q)
get_held es fs q = get-from_entries nat_list_cmp_total (map unweighed (es ++ fs)) q ∙ find_first es fs q

-- maps that answer alike are the same
pub alike : {A : Type 0} (m n : Named A) → ((q : List ℕ) → get m q ≡ get n q) → m ≡ n
alike m n h = same_map nat_list_cmp_total (slice_cmp-IsAntisymmetric nat_cmp-IsAntisymmetric) m n h

the_same : (k q : List ℕ) → is_it k q ≡ is_it q k
the_same k q = (eq_by_cmp_equiv nat_list_cmp_total).symm k q

-- One is taken out.

taken : {A : Type 0} (b : Bool) (a f : Found A) → value_if (option_or (cond b None a) (cond b None f)) ≡ cond b None (value_if (option_or a f))
taken true a f = refl
taken false a f = refl

pub removed : {A : Type 0} (es fs ds gs : Items A) (k : List ℕ) → ((q : List ℕ) → at_name ds q ≡ cond (is_it k q) None (at_name es q)) → ((q : List ℕ) → at_name gs q ≡ cond (is_it k q) None (at_name fs q)) → held ds gs ≡ remove (held es fs) k
removed {A} es fs ds gs k first second =
    alike (held ds gs) (remove (held es fs) k) (λ q.
    get_held ds gs q
    ∙ ap (λ (a : Found A). value_if (option_or a (at_name gs q))) (first q)
    ∙ ap (λ (f : Found A). value_if (option_or (cond (is_it k q) None (at_name es q)) f)) (second q)
    ∙ taken (is_it k q) (at_name es q) (at_name fs q)
    ∙ ap (λ (b : Bool). cond b None (value_if (first_of es fs q))) (the_same k q)
    ∙ ap (cond (is_it q k) None) (sym (get_held es fs q))
    ∙ sym (get-remove nat_list_cmp_total (held es fs) k q))

-- Some leave.

still : {A : Type 0} (v : A) (a f g : Found A) (b : Bool) → g ≡ cond b None f → value_if (option_or a g) ≡ Some v → value_if (option_or a f) ≡ Some v
still v (Some x) f g b is e = e
still v None f g true is e = let none : None ≡ Some v = sym (ap value_if is) ∙ e in cc
still v None f g false is e = sym (ap value_if is) ∙ e

pub less_is_within : {A : Type 0} (m : Named A) (es fs ds gs hs : Items A) (k : List ℕ) → held es fs ≡ m → ((q : List ℕ) → first_of ds gs q ≡ first_of es fs q) → ((q : List ℕ) → at_name hs q ≡ cond (is_it k q) None (at_name gs q)) → IsWithin (held ds hs) m
less_is_within {A} m es fs ds gs hs k view same less q v there =
    ap (λ (n : Named A). get n q) (sym view) ∙ get_held es fs q ∙ ap value_if (sym (same q))
    ∙ still v (at_name ds q) (at_name gs q) (at_name hs q) (is_it k q) (less q) (sym (get_held ds hs q) ∙ there)

pub same_is_within : {A : Type 0} (m : Named A) (es fs ds gs : Items A) → held es fs ≡ m → ((q : List ℕ) → first_of ds gs q ≡ first_of es fs q) → IsWithin (held ds gs) m
same_is_within {A} m es fs ds gs view same q v there = ap (λ (n : Named A). get n q) (sym view) ∙ get_held es fs q ∙ ap value_if (sym (same q)) ∙ sym (get_held ds gs q) ∙ there

-- One is put.

not_there : {A : Type 0} (x : Option A) → ((v : A) → x ≡ Some v → None ≡ Some v) → x ≡ None
not_there None h = refl
not_there (Some v) h = sym (h v refl)

pub absent : {A : Type 0} (m o : Named A) (k : List ℕ) → IsWithin m o → get o k ≡ None → get m k ≡ None
absent m o k within none = not_there (get m k) (λ v is. sym none ∙ within k v is)

first_none : {A : Type 0} (a f : Found A) → value_if (option_or a f) ≡ None → a ≡ None
first_none None f is = refl
first_none (Some x) f is = let never : Some x.value ≡ None = is in cc

-- what the map has not, the first entries have not
pub not_in_first : {A : Type 0} (m : Named A) (es fs : Items A) (k : List ℕ) → held es fs ≡ m → get m k ≡ None → at_name es k ≡ None
not_in_first {A} m es fs k view none = first_none (at_name es k) (at_name fs k) (sym (get_held es fs k) ∙ ap (λ (n : Named A). get n k) view ∙ none)

there_or : {A : Type 0} (v w : A) (x : Option A) (b : Bool) → (b ≡ true → x ≡ Some v → None ≡ Some v) → x ≡ Some v → cond b (Some w) x ≡ Some v
there_or v w x true h is = let none : None ≡ Some v = h refl is in cc
there_or v w x false h is = is

pub equal_names : (q k : List ℕ) → is_it q k ≡ true → q ≡ k
equal_names q k is = slice_cmp-IsAntisymmetric nat_cmp-IsAntisymmetric q k (equal (slice_cmp nat_cmp q k) is) where
  equal : (r : Ordering) → is_eq r ≡ true → r ≡ Equal
  equal Less h = cc
  equal Equal h = refl
  equal Greater h = cc

-- nothing is put
pub kept_within : {A : Type 0} (m o : Named A) (k : List ℕ) (w : A) → IsWithin m o → get o k ≡ None → IsWithin m (insert o k w)
kept_within {A} m o k w within none q v is =
    get-insert nat_list_cmp_total o k w q
    ∙ there_or v w (get o q) (is_it q k) (λ same there. sym none ∙ ap (get o) (sym (equal_names q k same)) ∙ there) (within q v is)

put_or : {A : Type 0} (v : A) (w : Weighed A) (a f : Found A) (x : Option A) (b : Bool) → (value_if (option_or a f) ≡ Some v → x ≡ Some v) → value_if (option_or (cond b (Some w) a) f) ≡ Some v → cond b (Some w.value) x ≡ Some v
put_or v w a f x true h is = is
put_or v w a f x false h is = h is

pub put_within : {A : Type 0} (o : Named A) (es fs ds : Items A) (k : List ℕ) (w : Weighed A) → IsWithin (held es fs) o → ((q : List ℕ) → at_name ds q ≡ cond (is_it k q) (Some w) (at_name es q)) → IsWithin (held ds fs) (insert o k w.value)
put_within {A} o es fs ds k w within more q v is =
    get-insert nat_list_cmp_total o k w.value q
    ∙ ap (λ (b : Bool). cond b (Some w.value) (get o q)) (the_same q k)
    ∙ put_or v w (at_name es q) (at_name fs q) (get o q) (is_it k q) (λ there. within q v (get_held es fs q ∙ there))
    (ap (λ (a : Found A). value_if (option_or a (at_name fs q))) (sym (more q)) ∙ sym (get_held ds fs q) ∙ is)

-- what was there or has left, with one that was entered or not
pub entered_within : {A : Type 0} (o m : Named A) (b : Bool) (es fs ds : Items A) (k : List ℕ) (w : Weighed A) → held es fs ≡ m → IsWithin m o → get o k ≡ None → (b ≡ true → IsEntered es ds k w) → (b ≡ false → ds ≡ es) → IsWithin (held ds fs) (insert o k w.value)
entered_within {A} o m true es fs ds k w view within none entered refused = put_within o es fs ds k w (subst (λ (n : Named A). IsWithin n o) (sym view) within) (entered refl)
entered_within {A} o m false es fs ds k w view within none entered refused =
    kept_within (held ds fs) o k w.value (subst (λ (n : Named A). IsWithin n o) (sym (ap (λ (xs : Items A). held xs fs) (refused refl) ∙ view)) within) none

pub put_there : {A : Type 0} (fs ds : Items A) (k : List ℕ) (w : Weighed A) → at_name ds k ≡ Some w → get (held ds fs) k ≡ Some w.value
put_there {A} fs ds k w is = get_held ds fs k ∙ ap (λ (a : Found A). value_if (option_or a (at_name fs k))) is

-- One is put in place of another.

pub same_name : (k : List ℕ) → is_it k k ≡ true
same_name k = is_eq-slice_cmp k k ∙ (bytes_eq-Decides k k).1 refl

-- what was entered is there
pub entered_there : {A : Type 0} (es ds : Items A) (k : List ℕ) (w : Weighed A) → IsEntered es ds k w → at_name ds k ≡ Some w
entered_there {A} es ds k w entered = entered k ∙ ap (λ (b : Bool). cond b (Some w) (at_name es k)) (same_name k)

-- of what was taken out nothing is there
pub none_there : {A : Type 0} (m : Named A) (k : List ℕ) → get (remove m k) k ≡ None
none_there {A} m k = get-remove nat_list_cmp_total m k k ∙ ap (λ (b : Bool). cond b None (get m k)) (same_name k)

put_twice : {A : Type 0} (b : Bool) (v : A) (x : Option A) → cond b (Some v) (cond b None x) ≡ cond b (Some v) x
put_twice true v x = refl
put_twice false v x = refl

-- taken out and put again
pub put_anew : {A : Type 0} (m : Named A) (k : List ℕ) (v : A) → insert (remove m k) k v ≡ insert m k v
put_anew {A} m k v =
    alike (insert (remove m k) k v) (insert m k v) (λ q.
    get-insert nat_list_cmp_total (remove m k) k v q
    ∙ ap (cond (is_it q k) (Some v)) (get-remove nat_list_cmp_total m k q)
    ∙ put_twice (is_it q k) v (get m q)
    ∙ sym (get-insert nat_list_cmp_total m k v q))

value_put : {A : Type 0} (b : Bool) (w : Weighed A) (a : Found A) → value_if (cond b (Some w) a) ≡ cond b (Some w.value) (value_if a)
value_put true w a = refl
value_put false w a = refl

-- what is written if a name was found
pub written_put : {A : Type 0} (m n : BTreeMap (List ℕ) (Weighed A)) (k : List ℕ) (old new : Weighed A) → Some old ≡ at_name m.entries k → WritesThrough (slice_cmp nat_cmp) (slice_cmp nat_cmp k) m new n → IsPut m.entries n.entries k new.value
written_put {A} m n k old new there written = λ q. ap value_if ((written.3 (subst IsSome there refl)).0 q) ∙ value_put (is_it k q) new (at_name m.entries q)

or_put : {A : Type 0} (b : Bool) (v : A) (d a f : Found A) → value_if d ≡ cond b (Some v) (value_if a) → value_if (option_or d f) ≡ cond b (Some v) (value_if (option_or a f))
or_put true v None a f is = let never : None ≡ Some v = is in cc
or_put true v (Some d) a f is = is
or_put false v None None f is = refl
or_put false v None (Some a) f is = let never : None ≡ Some a.value = is in cc
or_put false v (Some d) None f is = let never : Some d.value ≡ None = is in cc
or_put false v (Some d) (Some a) f is = is

put_is : {A : Type 0} (o : Named A) (es fs ds : Items A) (k : List ℕ) (v : A) → held es fs ≡ o → IsPut es ds k v → held ds fs ≡ insert o k v
put_is {A} o es fs ds k v view put =
    alike (held ds fs) (insert o k v) (λ q.
    get_held ds fs q
    ∙ or_put (is_it k q) v (at_name ds q) (at_name es q) (at_name fs q) (put q)
    ∙ ap (λ (b : Bool). cond b (Some v) (value_if (first_of es fs q))) (the_same k q)
    ∙ ap (cond (is_it q k) (Some v)) (sym (get_held es fs q) ∙ ap (λ (m : Named A). get m q) view)
    ∙ sym (get-insert nat_list_cmp_total o k v q))

pub replaced_within : {A : Type 0} (o : Named A) (es fs ds : Items A) (k : List ℕ) (v : A) → held es fs ≡ o → IsPut es ds k v → IsWithin (held ds fs) (insert o k v)
replaced_within {A} o es fs ds k v view put = λ q w is. ap (λ (m : Named A). get m q) (sym (put_is o es fs ds k v view put)) ∙ is

pub replaced_there : {A : Type 0} (o : Named A) (es fs ds : Items A) (k : List ℕ) (v : A) → held es fs ≡ o → IsPut es ds k v → get (held ds fs) k ≡ Some v
replaced_there {A} o es fs ds k v view put =
    ap (λ (m : Named A). get m k) (put_is o es fs ds k v view put) ∙ get-insert nat_list_cmp_total o k v k ∙ ap (λ (b : Bool). cond b (Some v) (get o k)) (same_name k)

-- what is written weighs what was there
pub weights_stay : {A : Type 0} (es : Items A) (test : List ℕ → Bool) (w : Weighed A) → w.weight ≡ weight_if (lookup test es) → weights (set_value test es w) ≡ weights es
weights_stay [] test w is = refl
weights_stay {A} (e ∷ es) test w is = one (test e.0) (weights_stay es test w) is where
  one : (b : Bool) → (w.weight ≡ weight_if (lookup test es) → weights (set_value test es w) ≡ weights es) → w.weight ≡ weight_if (cond b (Some e.1) (lookup test es)) → weights (cond b ((e.0, w) ∷ es) (e ∷ set_value test es w)) ≡ e.1.weight + weights es
  one true rest same = ap (λ (n : ℕ). n + weights es) same
  one false rest same = ap (λ (n : ℕ). e.1.weight + n) (rest same)

-- nothing is written
pub nothing_written : {A : Type 0} (es : Items A) (test : List ℕ → Bool) (w : Weighed A) → Some w ≡ lookup test es → set_value test es w ≡ es
nothing_written [] test w is = refl
nothing_written {A} (e ∷ es) test w is = one (test e.0) (nothing_written es test w) is where
  one : (b : Bool) → (Some w ≡ lookup test es → set_value test es w ≡ es) → Some w ≡ cond b (Some e.1) (lookup test es) → cond b ((e.0, w) ∷ es) (e ∷ set_value test es w) ≡ e ∷ es
  one true rest same = let there : w ≡ e.1 = cc in ap (λ (x : Weighed A). (e.0, x) ∷ es) there
  one false rest same = ap (λ (l : Items A). e ∷ l) (rest same)

-- Weights.

-- what is entered adds its weight
pub weights_entered : {A : Type 0} (es : Items A) (k : List ℕ) (w : Weighed A) → at_name es k ≡ None → weights (insert_entry (slice_cmp nat_cmp) es k w) ≡ weights es + w.weight
weights_entered [] k w none = omega arith
weights_entered {A} (e ∷ es) k w none = one (slice_cmp nat_cmp k e.0) (weights_entered es k w) none where
  one : (r : Ordering) → (at_name es k ≡ None → weights (insert_entry (slice_cmp nat_cmp) es k w) ≡ weights es + w.weight) → cond (is_eq r) (Some e.1) (at_name es k) ≡ None → weights (match_ordering r ((k, w) ∷ e ∷ es) ((e.0, w) ∷ es) (e ∷ insert_entry (slice_cmp nat_cmp) es k w)) ≡ (e.1.weight + weights es) + w.weight
  one Less rest none = omega arith
  one Equal rest none = let never : Some e.1 ≡ None = none in cc
  one Greater rest none = let more = rest none in omega (arith, more)

pub weights_less : {A : Type 0} (es : Items A) (test : List ℕ → Bool) → weights (remove_entry test es) + weight_if (lookup test es) ≡ weights es
weights_less [] test = refl
weights_less {A} (e ∷ es) test =
    let rest = weights_less es test in
    elim (test e.0) as (λ (b : Bool). weights (cond b es (e ∷ remove_entry test es)) + weight_if (cond b (Some e.1) (lookup test es)) ≡ e.1.weight + weights es) [ true ↦ omega arith | false ↦ omega (arith, rest) ]

-- what was taken out weighed that much
pub taken_weighs : {A : Type 0} (es ds : Items A) (k : List ℕ) (r : Found A) (n : ℕ) → n ≡ weight_if r → r ≡ at_name es k → ds ≡ remove_entry (is_it k) es → weights ds + n ≡ weights es
taken_weighs {A} es ds k r n weight found entries =
    ap (λ (m : ℕ). weights ds + m) (weight ∙ ap weight_if found) ∙ ap (λ (l : Items A). weights l + weight_if (at_name es k)) entries ∙ weights_less es (is_it k)

-- Turned.

no_entries : {A : Type 0} (es : Items A) → length es ≡ 0 → es ≡ []
no_entries [] e = refl
no_entries (x ∷ es) e = absurd (omega arith)

or_none : {X : Type 0} (x : Option X) → x ≡ option_or x None
or_none None = refl
or_none (Some x) = refl

pub turned : {A : Type 0} (es fs ds gs : Items A) → length fs ≡ 0 → ds ≡ fs → gs ≡ es → (q : List ℕ) → first_of ds gs q ≡ first_of es fs q
turned {A} es fs ds gs none d g q =
    let empty : fs ≡ [] = no_entries fs none in
    ap (λ (x : Items A). first_of x gs q) (d ∙ empty) ∙ ap (λ (x : Items A). at_name x q) g ∙ or_none (at_name es q) ∙ ap (λ (x : Items A). first_of es x q) (sym empty)
