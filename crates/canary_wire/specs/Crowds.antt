-- Many conversations at once.
use Rattle.std.specs.Prelude.{◌≡◌, ◌≢◌, ℕ, ◌==◌, List, [], ◌∷◌, ◌++◌, flat_map}
use Rattle.std.specs.Prelude.{Option, None, Some, if◌then◌else◌}
use Rattle.std.specs.List.{AllByRecursion}
use Rattle.canary_wire.specs.Dispositions.{HttpExchange}
use Rattle.canary_wire.specs.Conversing.{Talk, begun, InOrder, KeepsOrder}

-- ---- turns

-- the turn of one client, by the number of its connection: what was read of it, what was written to
-- it, and what it was answered
pub record Turn : Type 0 where
  pub client : ℕ
  pub got : List ℕ
  pub put : List ℕ
  pub held : List HttpExchange

-- what one client's turns give, in order
abbrev pub by : {X : Type 0} → ℕ → (Turn → List X) → List Turn → List X
by client part turns = flat_map (λ t. if t.client == client then part t else []) turns

-- no turn was this client's
abbrev pub IsNew : ℕ → List Turn → Type 0
IsNew client turns = AllByRecursion (λ t. t.client ≢ client) turns

-- all that was answered, to whomever, in order
abbrev pub all_held : List Turn → List HttpExchange
all_held turns = flat_map (λ t. t.held) turns

-- ---- conversations under way

-- by the numbers of their connections
abbrev pub Crowd : Type 0
Crowd = ℕ → Option Talk

-- a conversation that is under way is this one
abbrev pub IsTalk : Option Talk → Talk → Type 0
IsTalk None t = Unit {0}
IsTalk (Some u) t = t ≡ u

-- a conversation is in order by the turns of its own client alone
abbrev pub InOrderBy : List Turn → ℕ → Talk → Type 0
InOrderBy turns client t =
    InOrder (by client (λ x. x.got) turns) (by client (λ x. x.put) turns)
    (by client (λ x. x.held) turns) t

-- after these turns each conversation is in order, also one that has ended or not begun
abbrev pub IsCrowd : List Turn → Crowd → Type 0
IsCrowd turns crowd =
    (client : ℕ) → (t : Talk) × InOrderBy turns client t × IsTalk (crowd client) t

-- the conversation of one client changes
pub record Becomes (old new : Crowd) (client : ℕ) (talk : Option Talk) : Type 0 where
  pub changed : new client ≡ talk
  pub others : (other : ℕ) → other ≢ client → new other ≡ old other

-- ---- laws

-- a client comes
abbrev pub Comes : Type 0
Comes =
    (turns : List Turn) (old new : Crowd) (client : ℕ) → IsCrowd turns old → IsNew client turns
    → Becomes old new client (Some begun) → IsCrowd turns new

-- a client has its turn
abbrev pub HasTurn : Type 0
HasTurn =
    (turns : List Turn) (one : Turn) (old new : Crowd) (a b : Talk) → IsCrowd turns old
    → old one.client ≡ Some a → KeepsOrder a b one.got one.put one.held
    → Becomes old new one.client (Some b) → IsCrowd (turns ++ one ∷ []) new

-- a client goes
abbrev pub Goes : Type 0
Goes =
    (turns : List Turn) (old new : Crowd) (client : ℕ) → IsCrowd turns old
    → Becomes old new client None → IsCrowd turns new
