-- Routes: what a method and a target ask for.
use Rattle.std.specs.Prelude.{◌≡◌, ◌≢◌, ℕ, ◌<◌, false, ◌==◌, List, [], ◌∷◌, ◌++◌, length, codes, Result, Ok, Err, IsUtf8, IsTrue}
use Rattle.std.specs.List.{list_any, before_first}
use Rattle.matchit.specs.Rows.{RowsOf, param_token}
use Rattle.matchit.specs.Router.{RouteOf}
use Rattle.canary_base.specs.Names.{is_name}
use Rattle.canary_base.specs.Numbers.{SpellsNumber}
use Rattle.canary_once.specs.declared.event.Query.TheVariants as query
use Rattle.canary_wire.specs.declared.rejection.Allowed.{Allowed}
use Rattle.canary_wire.specs.declared.rejection.Allowed.TheVariants.{Put, Get}
use Rattle.canary_wire.specs.declared.rejection.Rejection.{Rejection}
use Rattle.canary_wire.specs.declared.rejection.Rejection.TheVariants.{NoRoute, Method, BadName, BadNumber}
use Rattle.canary_wire.specs.declared.routes.Route.{Route}
use Rattle.canary_wire.specs.declared.routes.Route.TheVariants as route
use Rattle.canary_wire.specs.declared.routes.PathParts.{PathParts}
use Rattle.canary_wire.specs.declared.routes.PathParts.TheVariants as parts
use Rattle.canary_wire.specs.declared.routes.Wanted.{Wanted}
use Rattle.canary_wire.specs.declared.routes.Wanted.TheVariants as asked
use Rattle.canary_wire.specs.ReplyTexts.{method_name}

-- ---- paths

-- what stands before the first question mark
abbrev pub path_of : List ℕ → List ℕ
path_of target = before_first (λ b. b == 63) target

-- what a path leads to, with the parts of the path: a caller and a number, a service, or a service
-- and a run's number
pub data Target : Type 0 where
  request : List ℕ → List ℕ → Target
  service : List ℕ → Target
  history : List ℕ → Target
  run : List ℕ → List ℕ → Target

-- the path that leads there
abbrev pub spelled : Target → List ℕ
spelled (request caller number) = codes "/callers/" ++ (caller ++ (codes "/requests/" ++ number))
spelled (service name) = codes "/services/" ++ name
spelled (history name) = codes "/services/" ++ (name ++ codes "/history")
spelled (run name number) = codes "/services/" ++ (name ++ (codes "/runs/" ++ number))

-- one byte at least, and no slash
abbrev pub IsPart : List ℕ → Type 0
IsPart bytes = (0 < length bytes) × (list_any (λ b. b == 47) bytes ≡ false)

abbrev pub HasParts : Target → Type 0
HasParts (request caller number) = IsPart caller × IsPart number
HasParts (service name) = IsPart name
HasParts (history name) = IsPart name
HasParts (run name number) = IsPart name × IsPart number

-- a path is spelled by these parts
pub record IsSplit (path : List ℕ) (t : Target) : Type 0 where
  pub whole : path ≡ spelled t
  pub parts : HasParts t

-- the same, of a path that is text
pub record IsPathOf (path : List ℕ) (t : Target) : Type 0 where
  pub text : IsUtf8 path
  pub split : IsSplit path t

-- no route has this path
abbrev pub HasNoRoute : List ℕ → Type 0
HasNoRoute path = (t : Target) → ¬ (IsPathOf path t)

-- ---- methods

-- the only method of a route
abbrev pub allowed_on : Target → Allowed
allowed_on (request caller number) = Put
allowed_on (service name) = Get
allowed_on (history name) = Get
allowed_on (run name number) = Get

abbrev pub method_of : Target → List ℕ
method_of t = method_name (allowed_on t)

-- a method and a target lead there, by the method of the route
pub record LeadsTo (method target : List ℕ) (t : Target) : Type 0 where
  pub path : IsPathOf (path_of target) t
  pub allowed : method ≡ method_of t

-- ---- what is asked

-- the part that is to be a name: the caller's or the service's
abbrev pub name_in : Target → List ℕ
name_in (request caller number) = caller
name_in (service name) = name
name_in (history name) = name
name_in (run name number) = name

-- the parts are read so
abbrev pub IsReadAs : Target → Wanted → Type 0
IsReadAs t (asked.Request a) =
    (digits : List ℕ) × (t ≡ request a.caller digits) × IsTrue (is_name a.caller)
    × SpellsNumber digits a.number
IsReadAs t (asked.Query (query.Service name)) = (t ≡ service name) × IsTrue (is_name name)
IsReadAs t (asked.Query (query.History name)) = (t ≡ history name) × IsTrue (is_name name)
IsReadAs t (asked.Query (query.Run name number)) =
    (digits : List ℕ) × (t ≡ run name digits) × IsTrue (is_name name) × SpellsNumber digits number

-- a part that is to be a number spells none
abbrev pub HasBadNumber : Target → Type 0
HasBadNumber (request caller digits) = (n : ℕ) → ¬ (SpellsNumber digits n)
HasBadNumber (service name) = ⊥
HasBadNumber (history name) = ⊥
HasBadNumber (run name digits) = (n : ℕ) → ¬ (SpellsNumber digits n)

-- the parts are read so, or the first rejection that holds of them
abbrev pub IsTargetRead : Target → Result Wanted Rejection → Type 0
IsTargetRead t (Ok a) = IsReadAs t a
IsTargetRead t (Err BadName) = ¬ (IsTrue (is_name (name_in t)))
IsTargetRead t (Err BadNumber) = IsTrue (is_name (name_in t)) × HasBadNumber t
IsTargetRead t (Err _) = ⊥

-- what a method and a target ask for, or the first rejection that holds
abbrev pub IsAsked : List ℕ → List ℕ → Result Wanted Rejection → Type 0
IsAsked method target (Ok a) = (t : Target) × LeadsTo method target t × IsReadAs t a
IsAsked method target (Err NoRoute) = HasNoRoute (path_of target)
IsAsked method target (Err (Method allowed)) =
    (t : Target) × IsPathOf (path_of target) t × (method ≢ method_of t) × (allowed ≡ allowed_on t)
IsAsked method target (Err BadName) =
    (t : Target) × LeadsTo method target t × ¬ (IsTrue (is_name (name_in t)))
IsAsked method target (Err BadNumber) =
    (t : Target) × LeadsTo method target t × IsTrue (is_name (name_in t)) × HasBadNumber t
IsAsked method target (Err _) = ⊥

-- ---- step by step

-- what the parts of a path lead to
abbrev pub target_of : PathParts → Target
target_of (parts.Request caller number) = request caller.now number.now
target_of (parts.Service name) = service name.now
target_of (parts.History name) = history name.now
target_of (parts.Run name number) = run name.now number.now

-- the route that leads there
abbrev pub route_to : Target → Route
route_to (request caller number) = route.Request
route_to (service name) = route.Service
route_to (history name) = route.History
route_to (run name number) = route.Run

-- nothing, or a slash and more
abbrev pub EndsPart : List ℕ → Type 0
EndsPart [] = Unit {0}
EndsPart (b ∷ rest) = b ≡ 47

-- after this front stands this part, and after that the rest
pub record StandsBehind (path front part rest : List ℕ) : Type 0 where
  pub whole : path ≡ front ++ (part ++ rest)
  pub part_is : IsPart part
  pub ends : EndsPart rest

-- ---- the router

abbrev pub request_pattern : List ℕ
request_pattern = codes "/callers/" ++ param_token ∷ codes "/requests/" ++ param_token ∷ []

abbrev pub service_pattern : List ℕ
service_pattern = codes "/services/" ++ param_token ∷ []

abbrev pub history_pattern : List ℕ
history_pattern = codes "/services/" ++ param_token ∷ codes "/history"

abbrev pub run_pattern : List ℕ
run_pattern = codes "/services/" ++ param_token ∷ codes "/runs/" ++ param_token ∷ []

abbrev pub request_row : List ℕ × RouteOf Route
request_row = (
  request_pattern,
  record {
    pattern = request_pattern;
    text = codes "/callers/{caller}/requests/{number}";
    names = (10, 16) ∷ (28, 34) ∷ [];
    value = route.Request;
  },
)

abbrev pub service_row : List ℕ × RouteOf Route
service_row = (
  service_pattern,
  record {
    pattern = service_pattern;
    text = codes "/services/{service}";
    names = (11, 18) ∷ [];
    value = route.Service;
  },
)

abbrev pub history_row : List ℕ × RouteOf Route
history_row = (
  history_pattern,
  record {
    pattern = history_pattern;
    text = codes "/services/{service}/history";
    names = (11, 18) ∷ [];
    value = route.History;
  },
)

abbrev pub run_row : List ℕ × RouteOf Route
run_row = (
  run_pattern,
  record {
    pattern = run_pattern;
    text = codes "/services/{service}/runs/{run}";
    names = (11, 18) ∷ (26, 29) ∷ [];
    value = route.Run;
  },
)

-- the routes, as the rows of their router
unfoldable pub the_rows : RowsOf (RouteOf Route)
the_rows = request_row ∷ history_row ∷ run_row ∷ service_row ∷ []
