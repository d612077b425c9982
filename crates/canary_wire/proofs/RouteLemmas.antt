-- What the router finds for a path, and how that path is split.
use Rattle.std.proofs.Common.{◌≡◌, ℕ, zero, suc, ◌+◌, ◌-◌, ◌<◌, List, [], ◌∷◌, ◌++◌, length, take, drop, get_or, subst, Option, Some, None, Bool, true, false, cond, refl, sym, ap, ◌∙◌, arith, codes, nat_eq, ◌==◌, ◌&&◌}
use Rattle.std.proofs.lemmas.Bool.Decides.{nat_tests}
use Rattle.std.proofs.lemmas.List.{length-append}
use Rattle.std.proofs.Math.Numerals.{one-add}
use Rattle.std.specs.List.{list_any, before_first}
use Rattle.std.proofs.lemmas.Bool.{or_parts}
use Rattle.std.proofs.lemmas.Option.{none-some}
use Rattle.std.proofs.lemmas.List.{get_or-append-add, take-append-drop}
use Rattle.std.specs.Cmp.Lexicographic.{pointwise}
use Rattle.std.specs.Prelude.{ltb, IsUtf8, MatchOption}
use Rattle.std.proofs.lemmas.Bool.{and_from, and_parts, lt-ltb}
use Rattle.std.proofs.Math.Seq.{drop-append_seam, take-append_seam}
use Rattle.canary_wire.specs.declared.routes.Route.{Route}
use Rattle.canary_wire.specs.declared.routes.Route.TheVariants as route
use Rattle.canary_wire.specs.Routes.{the_rows, request_row, service_row, history_row, run_row, Target, request, service, history, run, spelled, HasParts, IsPart, IsSplit, IsPathOf, HasNoRoute, route_to, EndsPart, StandsBehind}
use Rattle.matchit.specs.Rows.{RowsOf, param_token, catch_all_token}
use Rattle.matchit.specs.Seek.{own, step, or_else, seek, first, param_step, has_slash, segment, cuts, longest_suffix, with_suffix}
use Rattle.matchit.specs.Router.{RouteOf, Refused, nearest}
use Rattle.matchit.specs.declared.error.InsertError.{InsertError}
use Rattle.matchit.specs.declared.error.InsertError.TheVariants.{Conflict, InvalidParam, InvalidParamSegment, InvalidCatchAll, OutOfMemory}

abbrev is_slash : ℕ → Bool
is_slash b = b == 47

segment-part : (c q : List ℕ) → list_any is_slash c ≡ false → segment (c ++ 47 ∷ q) ≡ c ++ 47 ∷ []
segment-part [] q h = refl
segment-part (b ∷ c) q h =
    let p = or_parts (b == 47) (list_any is_slash c) h in
    rw p.0 (ap (λ t. b ∷ t) (segment-part c q p.1))

no_slash : (c : List ℕ) → list_any is_slash c ≡ false → has_slash c ≡ false
no_slash [] h = refl
no_slash (b ∷ c) h =
    let p = or_parts (b == 47) (list_any is_slash c) h in
    rw p.0 (no_slash c p.1)

cuts-slash : (b : ℕ) (c : List ℕ) → cuts (b ∷ (c ++ 47 ∷ [])) (47 ∷ []) ≡ true
cuts-slash b c =
    let e : suc (length (c ++ 47 ∷ [])) - 1 ≡ length (b ∷ c) = omega (arith, length-append c (47 ∷ [])) in
    let d : drop (suc (length (c ++ 47 ∷ [])) - 1) (b ∷ (c ++ 47 ∷ [])) ≡ 47 ∷ [] = ap (λ n. drop n (b ∷ (c ++ 47 ∷ []))) e ∙ drop-append_seam (b ∷ c) (47 ∷ []) in
    and_from _ _ (lt-ltb 1 (suc (length (c ++ 47 ∷ []))) (omega (arith, length-append c (47 ∷ [])))) (ap (λ t. pointwise nat_eq (47 ∷ []) t) d)

-- a text without a slash
segment-all : (c : List ℕ) → list_any is_slash c ≡ false → segment c ≡ c
segment-all [] h = refl
segment-all (b ∷ c) h =
    let p = or_parts (b == 47) (list_any is_slash c) h in
    rw p.0 (ap (λ t. b ∷ t) (segment-all c p.1))

and-false : (v : Bool) → (v && false) ≡ false
and-false true = refl
and-false false = refl

no_last : (n : ℕ) (c : List ℕ) → list_any is_slash c ≡ false → pointwise nat_eq (47 ∷ []) (drop n c) ≡ false
no_last zero [] h = refl
no_last zero (x ∷ c) h =
    let p = or_parts (x == 47) (list_any is_slash c) h in
    let e : (47 == x) ≡ false = (let q = p.0 in grind (arith, nat_tests)) in
    rw e refl
no_last (suc n) [] h = refl
no_last (suc n) (x ∷ c) h = no_last n c (or_parts (x == 47) (list_any is_slash c) h).1

cuts-none : (b : ℕ) (c : List ℕ) → list_any is_slash (b ∷ c) ≡ false → cuts (b ∷ c) (47 ∷ []) ≡ false
cuts-none b c h = ap (λ v. ltb 1 (suc (length c)) && v) (no_last (suc (length c) - 1) (b ∷ c) h) ∙ and-false _

drop-all : (c : List ℕ) → drop (length c) c ≡ []
drop-all [] = refl
drop-all (x ∷ c) = drop-all c

module _ {K : Type 0} where
  pub or_else-none : (a : Option K) → or_else a None ≡ a
  or_else-none None = refl
  or_else-none (Some k) = refl

  pub param_step-empty : (p : List ℕ) → (param_step {K = K} [] p).1 ≡ []
  unfolding param_step
  param_step-empty p =
      elim (has_slash p) as (λ v. (cond {A = ℕ × RowsOf K} v (0, []) (length p, [])).1 ≡ []) [
        | true ↦ refl
        | false ↦ refl
      ]

  pub seek-empty : (k : ℕ) (p : List ℕ) → seek {K = K} k [] p ≡ None
  unfolding seek
  seek-empty k [] = refl
  seek-empty (suc k) (b ∷ p) = seek-empty k p
  seek-empty zero (b ∷ p) = simp (seek-empty 0 p, param_step-empty (b ∷ p), seek-empty (((param_step {K = K} [] (b ∷ p)).0) - 1) p)

  pub seek-drop : (k : ℕ) (r : RowsOf K) (p : List ℕ) → seek k r p ≡ seek 0 r (drop k p)
  unfolding seek
  seek-drop zero r p = refl
  seek-drop (suc k) r [] = refl
  seek-drop (suc k) r (b ∷ p) = seek-drop k r p

  -- no row goes on with a parameter
  pub seek-lit : (rs : RowsOf K) (b : ℕ) (p : List ℕ) → step param_token rs ≡ [] → step catch_all_token rs ≡ [] → seek 0 rs (b ∷ p) ≡ seek 0 (step b rs) p
  unfolding seek
  seek-lit rs b p e f =
      rw (e, f) (simp (param_step-empty (b ∷ p), seek-empty ((param_step {K = K} [] (b ∷ p)).0 - 1) p, or_else-none))

  abbrev pub steps : List ℕ → RowsOf K → RowsOf K
  steps [] rs = rs
  steps (b ∷ w) rs = steps w (step b rs)

  abbrev pub is_none : RowsOf K → Bool
  is_none [] = true
  is_none (r ∷ rs) = false

  -- the rows go on with these bytes alone
  abbrev pub are_lits : List ℕ → RowsOf K → Bool
  are_lits [] rs = true
  are_lits (b ∷ w) rs = is_none (step param_token rs) && (is_none (step catch_all_token rs) && are_lits w (step b rs))

  none : (rs : RowsOf K) → is_none rs ≡ true → rs ≡ []
  none [] h = refl
  none (r ∷ rs) h = cc

  pub seek-lits : (w : List ℕ) (rs : RowsOf K) (p : List ℕ) → are_lits w rs ≡ true → seek 0 rs (w ++ p) ≡ seek 0 (steps w rs) p
  seek-lits [] rs p h = refl
  seek-lits (b ∷ w) rs p h =
      let x = and_parts _ _ h in
      let y = and_parts _ _ x.1 in
      seek-lit rs b (w ++ p) (none _ x.0) (none _ y.0) ∙ seek-lits w (step b rs) p y.1

  -- rows that go on with a parameter each
  abbrev pub under_param : RowsOf K → RowsOf K
  under_param [] = []
  under_param ((t, k) ∷ rest) = (param_token ∷ t, k) ∷ under_param rest

  step-byte : (b : ℕ) (rs : RowsOf K) → b < 256 → step b (under_param rs) ≡ []
  step-byte b [] h = refl
  step-byte b ((t, k) ∷ rest) h =
      let e : (256 == b) ≡ false = grind (arith, nat_tests) in
      rw e (step-byte b rest h)

  step-param : (rs : RowsOf K) → step param_token (under_param rs) ≡ rs
  step-param [] = refl
  step-param ((t, k) ∷ rest) = ap (λ r. (t, k) ∷ r) (step-param rest)

  step-catch_all : (rs : RowsOf K) → step catch_all_token (under_param rs) ≡ []
  step-catch_all [] = refl
  step-catch_all ((t, k) ∷ rest) = step-catch_all rest

  seek-cons : (rs : RowsOf K) (b : ℕ) (p : List ℕ) → seek 0 rs (b ∷ p)
      ≡ or_else (seek 0 (step b rs) p) (or_else (seek ((param_step (step param_token rs) (b ∷ p)).0 - 1) (param_step (step param_token rs) (b ∷ p)).1 p) (own (step catch_all_token rs)))
  unfolding seek
  seek-cons rs b p = refl

  abbrev taken : RowsOf K → List ℕ → List ℕ → ℕ × RowsOf K
  taken rs path seg =
      cond (ltb 0 (length (longest_suffix seg rs))) (length seg - length (longest_suffix seg rs), with_suffix (longest_suffix seg rs) rs)
      (cond (has_slash path) (0, []) (length path, rs))

  param_step-taken : (rs : RowsOf K) (path : List ℕ) → param_step rs path ≡ taken rs path (segment path)
  unfolding param_step
  param_step-taken rs path = refl

  -- a parameter that takes as many bytes
  seek-taken : (rs tail : RowsOf K) (b : ℕ) (c q : List ℕ) → b < 256 → param_step rs (b ∷ (c ++ q)) ≡ (length (b ∷ c), tail)
      → seek 0 (under_param rs) (b ∷ (c ++ q)) ≡ seek 0 tail q
  seek-taken rs tail b c q small ps =
      let back : length (b ∷ c) - 1 ≡ length c = omega arith in
      seek-cons _ b (c ++ q) ∙ rw (step-byte b rs small, step-param rs, step-catch_all rs, ps, seek-empty 0 (c ++ q), or_else-none, back, seek-drop (length c) tail (c ++ q), drop-append_seam c q) refl

  -- a parameter with a slash after it, and these rows going on there
  pub seek-param : (rs tail : RowsOf K) (b : ℕ) (c q : List ℕ) → b < 256 → list_any is_slash (b ∷ c) ≡ false
      → taken rs (b ∷ (c ++ 47 ∷ q)) (b ∷ (c ++ 47 ∷ [])) ≡ (length (b ∷ c), tail)
      → seek 0 (under_param rs) (b ∷ (c ++ 47 ∷ q)) ≡ seek 0 tail (47 ∷ q)
  seek-param rs tail b c q small h is =
      seek-taken rs tail b c (47 ∷ q) small
      (param_step-taken rs _ ∙ ap (taken rs (b ∷ (c ++ 47 ∷ q))) (segment-part (b ∷ c) q h) ∙ is)

  pub seek-own : (rs : RowsOf K) → seek 0 rs [] ≡ own rs
  unfolding seek
  seek-own rs = refl

  -- a parameter that takes what is left, since these rows go on with nothing that it ends with
  pub seek-last : (rs : RowsOf K) (b : ℕ) (c : List ℕ) → b < 256 → list_any is_slash (b ∷ c) ≡ false → longest_suffix (b ∷ c) rs ≡ []
      → seek 0 (under_param rs) (b ∷ c) ≡ own rs
  seek-last rs b c small h no_suffix =
      let ps : param_step rs (b ∷ c) ≡ (length (b ∷ c), rs) =
      param_step-taken rs (b ∷ c) ∙ ap (taken rs (b ∷ c)) (segment-all (b ∷ c) h) ∙ rw (no_suffix, no_slash (b ∷ c) h) refl in
      let back : length (b ∷ c) - 1 ≡ length c = omega arith in
      seek-cons _ b c ∙ rw (step-byte b rs small, step-param rs, step-catch_all rs, ps, seek-empty 0 c, or_else-none, back, seek-drop (length c) rs c, drop-all c) (seek-own rs)

  -- one row goes on with a slash
  taken-one : (b : ℕ) (c t path : List ℕ) (k : K) → taken ((47 ∷ t, k) ∷ []) path (b ∷ (c ++ 47 ∷ [])) ≡ (length (b ∷ c), (47 ∷ t, k) ∷ [])
  taken-one b c t path k =
      let e : suc (length (c ++ 47 ∷ [])) - 1 ≡ length (b ∷ c) = omega (arith, length-append c (47 ∷ [])) in
      rw (cuts-slash b c) (ap (λ n. (n, (47 ∷ t, k) ∷ [])) e)

  -- two rows do, and a third one ends
  taken-two : (b : ℕ) (c t u path : List ℕ) (k l m : K) → taken ((47 ∷ t, k) ∷ (47 ∷ u, l) ∷ ([], m) ∷ []) path (b ∷ (c ++ 47 ∷ [])) ≡ (length (b ∷ c), (47 ∷ t, k) ∷ (47 ∷ u, l) ∷ [])
  taken-two b c t u path k l m =
      let e : suc (length (c ++ 47 ∷ [])) - 1 ≡ length (b ∷ c) = omega (arith, length-append c (47 ∷ [])) in
      rw (cuts-slash b c) (ap (λ n. (n, (47 ∷ t, k) ∷ (47 ∷ u, l) ∷ [])) e)

  longest-none : (b : ℕ) (c t u : List ℕ) (k l m : K) → list_any is_slash (b ∷ c) ≡ false → longest_suffix (b ∷ c) ((47 ∷ t, k) ∷ (47 ∷ u, l) ∷ ([], m) ∷ []) ≡ []
  longest-none b c t u k l m h = rw (cuts-none b c h) refl

-- ---- the routes are added

-- a router that holds no such route takes one, or there is no memory for it
pub takes : (p : List ℕ) (rs : RowsOf (RouteOf Route)) (e : InsertError) → nearest p rs ≡ None → Refused p rs e → e ≡ OutOfMemory
takes p rs (Conflict with) free (n, some, text) = absurd (none-some n (sym free ∙ some))
takes p rs OutOfMemory free is = refl
takes p rs InvalidParamSegment free is = absurd is
takes p rs InvalidParam free is = absurd is
takes p rs InvalidCatchAll free is = absurd is

-- ---- what the router finds

abbrev pub row_of : Target → RouteOf Route
row_of (request caller number) = request_row.1
row_of (service name) = service_row.1
row_of (history name) = history_row.1
row_of (run name number) = run_row.1

abbrev behind_caller : RowsOf (RouteOf Route)
behind_caller = (codes "/requests/" ++ param_token ∷ [], request_row.1) ∷ []

abbrev behind_service : RowsOf (RouteOf Route)
behind_service = (codes "/history", history_row.1) ∷ (codes "/runs/" ++ param_token ∷ [], run_row.1) ∷ []

abbrev at_service : RowsOf (RouteOf Route)
at_service = (codes "/history", history_row.1) ∷ (codes "/runs/" ++ param_token ∷ [], run_row.1) ∷ ([], service_row.1) ∷ []

finds_request : (b x : ℕ) (c n : List ℕ) → b < 256 → x < 256 → list_any is_slash (b ∷ c) ≡ false → list_any is_slash (x ∷ n) ≡ false
    → first the_rows (codes "/callers/" ++ ((b ∷ c) ++ (codes "/requests/" ++ (x ∷ n)))) ≡ Some request_row.1
unfolding the_rows
finds_request b x c n small less h g =
    seek-lits (codes "/callers/") the_rows ((b ∷ c) ++ (codes "/requests/" ++ (x ∷ n))) refl
    ∙ seek-param behind_caller behind_caller b c (codes "requests/" ++ (x ∷ n)) small h (taken-one b c (codes "requests/" ++ param_token ∷ []) (b ∷ (c ++ 47 ∷ (codes "requests/" ++ (x ∷ n)))) request_row.1)
    ∙ seek-lits (codes "/requests/") behind_caller (x ∷ n) refl
    ∙ seek-last (([], request_row.1) ∷ []) x n less g refl

finds_service : (b : ℕ) (c : List ℕ) → b < 256 → list_any is_slash (b ∷ c) ≡ false → first the_rows (codes "/services/" ++ (b ∷ c)) ≡ Some service_row.1
unfolding the_rows
finds_service b c small h =
    seek-lits (codes "/services/") the_rows (b ∷ c) refl
    ∙ seek-last at_service b c small h (longest-none b c (codes "history") (codes "runs/" ++ param_token ∷ []) history_row.1 run_row.1 service_row.1 h)

-- the name of a service, and this after it
finds_behind : (b : ℕ) (c q : List ℕ) → b < 256 → list_any is_slash (b ∷ c) ≡ false → first the_rows (codes "/services/" ++ ((b ∷ c) ++ 47 ∷ q)) ≡ seek 0 behind_service (47 ∷ q)
unfolding the_rows
finds_behind b c q small h =
    seek-lits (codes "/services/") the_rows ((b ∷ c) ++ 47 ∷ q) refl
    ∙ seek-param at_service behind_service b c q small h (taken-two b c (codes "history") (codes "runs/" ++ param_token ∷ []) (b ∷ (c ++ 47 ∷ q)) history_row.1 run_row.1 service_row.1)

finds_history : (b : ℕ) (c : List ℕ) → b < 256 → list_any is_slash (b ∷ c) ≡ false → first the_rows (codes "/services/" ++ ((b ∷ c) ++ codes "/history")) ≡ Some history_row.1
finds_history b c small h =
    finds_behind b c (codes "history") small h
    ∙ seek-lits (codes "/history") behind_service [] refl
    ∙ seek-own (([], history_row.1) ∷ [])

finds_run : (b x : ℕ) (c n : List ℕ) → b < 256 → x < 256 → list_any is_slash (b ∷ c) ≡ false → list_any is_slash (x ∷ n) ≡ false
    → first the_rows (codes "/services/" ++ ((b ∷ c) ++ (codes "/runs/" ++ (x ∷ n)))) ≡ Some run_row.1
finds_run b x c n small less h g =
    finds_behind b c (codes "runs/" ++ (x ∷ n)) small h
    ∙ seek-lits (codes "/runs/") behind_service (x ∷ n) refl
    ∙ seek-last (([], run_row.1) ∷ []) x n less g refl

-- each byte is one
abbrev pub AreBytes : List ℕ → Type 0
AreBytes path = (k : ℕ) → get_or path k 0 < 256

bytes_behind : (front rest : List ℕ) → AreBytes (front ++ rest) → AreBytes rest
bytes_behind front rest bytes k = subst (λ v. v < 256) (get_or-append-add front rest k 0) (bytes (length front + k))

no_part : IsPart [] → ⊥
no_part p = let some = p.0 in omega arith

-- the router finds what spells a target
finds : (t : Target) → AreBytes (spelled t) → HasParts t → first the_rows (spelled t) ≡ Some (row_of t)
finds (request [] n) bytes p = absurd (no_part p.0)
finds (request (b ∷ c) []) bytes p = absurd (no_part p.1)
finds (request (b ∷ c) (x ∷ n)) bytes p =
    let behind = bytes_behind (codes "/callers/") ((b ∷ c) ++ (codes "/requests/" ++ (x ∷ n))) bytes in
    let last = bytes_behind (codes "/requests/") (x ∷ n) (bytes_behind (b ∷ c) (codes "/requests/" ++ (x ∷ n)) behind) in
    finds_request b x c n (behind 0) (last 0) p.0.1 p.1.1
finds (service []) bytes p = absurd (no_part p)
finds (service (b ∷ c)) bytes p = finds_service b c (bytes_behind (codes "/services/") (b ∷ c) bytes 0) p.1
finds (history []) bytes p = absurd (no_part p)
finds (history (b ∷ c)) bytes p = finds_history b c (bytes_behind (codes "/services/") ((b ∷ c) ++ codes "/history") bytes 0) p.1
finds (run [] n) bytes p = absurd (no_part p.0)
finds (run (b ∷ c) []) bytes p = absurd (no_part p.1)
finds (run (b ∷ c) (x ∷ n)) bytes p =
    let behind = bytes_behind (codes "/services/") ((b ∷ c) ++ (codes "/runs/" ++ (x ∷ n))) bytes in
    let last = bytes_behind (codes "/runs/") (x ∷ n) (bytes_behind (b ∷ c) (codes "/runs/" ++ (x ∷ n)) behind) in
    finds_run b x c n (behind 0) (last 0) p.0.1 p.1.1

found : (path : List ℕ) (t : Target) → AreBytes path → IsSplit path t → first the_rows path ≡ Some (row_of t)
found path t bytes s = ap (first the_rows) s.whole ∙ finds t (subst AreBytes s.whole bytes) s.parts

-- if the router finds nothing there is no route
pub none_found : (path : List ℕ) → AreBytes path → first the_rows path ≡ None → HasNoRoute path
none_found path bytes nothing t p = none-some (row_of t) (sym nothing ∙ found path t bytes p.split)

abbrev value_of : Option (RouteOf Route) → Route
value_of None = route.Request
value_of (Some r) = r.value

value_is : (t : Target) → (row_of t).value ≡ route_to t
value_is (request caller number) = refl
value_is (service name) = refl
value_is (history name) = refl
value_is (run name number) = refl

-- if it finds a route, a path that is split as that route says, or not at all, is so split or has none
pub some_found : {P : Type 0} (path : List ℕ) (r : RouteOf Route) (seen : P → Target) (split : Option P) → AreBytes path → IsUtf8 path → first the_rows path ≡ Some r
    → MatchOption split ((t : Target) → r.value ≡ route_to t → ¬ (IsSplit path t)) (λ parts. IsSplit path (seen parts))
    → MatchOption split (HasNoRoute path) (λ parts. IsPathOf path (seen parts))
some_found path r seen None bytes text is other = λ t p. other t (ap value_of (sym is ∙ found path t bytes p.split) ∙ value_is t) p.split
some_found path r seen (Some parts) bytes text is s = record { text = text; split = s }

-- ---- splitting

-- what is after a front is one text
pub one_behind : (path front a b : List ℕ) → path ≡ front ++ a → path ≡ front ++ b → a ≡ b
one_behind path front a b e f = sym (drop-append_seam front a) ∙ ap (drop (length front)) (sym e ∙ f) ∙ drop-append_seam front b

-- what stands before the first slash, if a part does
before_slash : (c q : List ℕ) → list_any is_slash c ≡ false → EndsPart q → before_first is_slash (c ++ q) ≡ c
before_slash [] [] h ends = refl
before_slash [] (b ∷ q) h ends = rw ends refl
before_slash (b ∷ c) q h ends =
    let p = or_parts (b == 47) (list_any is_slash c) h in
    rw (p.0, one-add) (ap (λ t. b ∷ t) (before_slash c q p.1 ends))

abbrev behind_slash : List ℕ → List ℕ
behind_slash l = drop (length (before_first is_slash l)) l

ends_by : (b : ℕ) (l : List ℕ) (v : Bool) → (b == 47) ≡ v → EndsPart (behind_slash l) → EndsPart (behind_slash (b ∷ l))
ends_by b l true e more = (let same : b ≡ 47 = grind (arith, nat_tests) in rw e same)
ends_by b l false e more = rw (e, one-add) more

-- after it stands nothing, or the slash
ends_behind : (l : List ℕ) → EndsPart (behind_slash l)
ends_behind [] = tt
ends_behind (b ∷ l) = ends_by b l (b == 47) refl (ends_behind l)

-- (here `front` is a front, `rest` what stands after it, `upto` what stands before the first slash of that, and `part` and `after` the two halves)
module _ (path front rest upto part after : List ℕ) (whole : path ≡ front ++ rest) (is : upto ≡ before_first is_slash rest) (first_is : part ≡ take (length upto) rest) (then_is : after ≡ drop (length upto) rest) where
  part_as : part ≡ take (length (before_first is_slash rest)) rest
  part_as = first_is ∙ ap (λ t. take (length t) rest) is

  after_as : after ≡ behind_slash rest
  after_as = then_is ∙ ap (λ t. drop (length t) rest) is

  both_are : part ++ after ≡ rest
  both_are = (λ i. part_as i ++ after_as i) ∙ take-append-drop (length (before_first is_slash rest)) rest

  pub stands : IsPart part → StandsBehind path front part after
  stands p = record { whole = whole ∙ ap (λ t. front ++ t) (sym both_are); part_is = p; ends = subst EndsPart (sym after_as) (ends_behind rest) }

  -- there is one such part, and one rest
  pub one_part : (other more : List ℕ) → StandsBehind path front other more → (other ≡ part) × (more ≡ after)
  one_part other more s =
      let same : rest ≡ other ++ more = one_behind path front rest (other ++ more) whole s.whole in
      let front_is : before_first is_slash rest ≡ other = ap (before_first is_slash) same ∙ before_slash other more s.part_is.1 s.ends in
      let one : part ≡ other = part_as ∙ ap (λ t. take (length t) rest) front_is ∙ ap (take (length other)) same ∙ take-append_seam other more in
      let two : after ≡ more = after_as ∙ ap (λ t. drop (length t) rest) front_is ∙ ap (drop (length other)) same ∙ drop-append_seam other more in
      (sym one, sym two)
