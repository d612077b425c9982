-- Clients come, have turns and go, one after another.
use Rattle.std.proofs.Common.{◌≡◌, ℕ, ◌+◌, ◌<◌, ◌≤◌, inl, inr, List, [], ◌∷◌, ◌++◌, refl, sym, ap, ◌∙◌, subst, arith}
use Rattle.std.specs.Prelude.{Option, None, Some}
use Rattle.std.specs.List.{AllByRecursion}
use Rattle.std.proofs.lemmas.List.{append-nil, append_assoc}
use Rattle.std.proofs.lemmas.Grind.{flat_map-append}
use Rattle.std.proofs.lemmas.Bool.{cases_lt}
use Rattle.std.proofs.lemmas.Bool.Decides.{eqb_tells}
use Rattle.canary_wire.specs.Conversing.{Talk, begun, so_far, TakesTurn}
use Rattle.canary_wire.specs.Crowds.{Turn, Crowd, all_held, IsNew, Becomes, Comes, HasTurn, Goes}
use Rattle.canary_once.specs.BookCalls.{BookState, Stays}
use Rattle.canary_once.specs.Contents.{Contents, KeepsReceipts}
use Rattle.canary_once.specs.Sound.{AreSoundContents}
use Rattle.canary_once.specs.Messages.{DeskState, desk_state, HandledAll, AnsweredInOrder}
use Rattle.canary_wire.specs.Dispositions.{HttpExchange, IsExchange}
use Rattle.canary_listen.specs.Attending.{Attendance, attendance, nobody, IsServed, KeepsServed, Attends, ServesAll}

-- ---- nothing, and one after another

pub keeps_same : (a b : Attendance) → a ≡ b → KeepsServed a b
keeps_same a b e turns s = subst (λ (x : Attendance). IsServed turns x) e s

pub keeps_then : (a b c : Attendance) → KeepsServed a b → KeepsServed b c → KeepsServed a c
keeps_then a b c x y turns s = y turns (x turns s)

pub attends_none : (p q : DeskState) (a b : Attendance) → HandledAll IsExchange p q [] → KeepsServed a b → Attends p q a b
attends_none p q a b none k = record {
  turns = [];
  went = none;
  keeps = λ before s. subst (λ (t : List Turn). IsServed t b) (sym (append-nil before)) (k before s);
}

pub attends_kept : (p : DeskState) (a b : Attendance) → HandledAll IsExchange p p [] → KeepsServed a b → Attends p p a b
attends_kept p a b none k = attends_none p p a b none k

-- nor was anything answered as it was looked where the records are
pub went_unchanged : (clock : (ℕ → ℕ) → Type 0) (s t : BookState) → HandledAll IsExchange (desk_state clock s) (desk_state clock s) [] → Stays s t → HandledAll IsExchange (desk_state clock s) (desk_state clock t) []
went_unchanged clock s t none u = record {
  each = tt;
  moments = none.moments;
  honest = u.honest;
  in_memory = u.in_memory;
  sure = (u.sure, tt);
  sound = λ honest sound. subst AreSoundContents (sym (u.same honest)) sound;
  handled = λ honest. u.same honest;
  receipts = λ honest. subst (λ (c : Contents). KeepsReceipts s.contents c) (sym (u.same honest)) (none.receipts (u.honest honest));
}

pub attends_and_keeps : (p q : DeskState) (a b c : Attendance) → Attends p q a b → KeepsServed b c → Attends p q a c
attends_and_keeps p q a b c x k = record {
  turns = x.turns;
  went = x.went;
  keeps = λ before s. k (before ++ x.turns) (x.keeps before s);
}

pub keeps_and_attends : (p q : DeskState) (a b c : Attendance) → KeepsServed a b → Attends p q b c → Attends p q a c
keeps_and_attends p q a b c k x = record {
  turns = x.turns;
  went = x.went;
  keeps = λ before s. x.keeps before (k before s);
}

-- what was held on two stretches was held on both together
abbrev pub GoOn : DeskState → DeskState → DeskState → Type 0
GoOn p q r = (xs ys : List HttpExchange) → HandledAll IsExchange p q xs → HandledAll IsExchange q r ys → HandledAll IsExchange p r (xs ++ ys)

pub attends_then : (p q r : DeskState) (a b c : Attendance) → GoOn p q r → Attends p q a b → Attends q r b c → Attends p r a c
attends_then p q r a b c on x y = record {
  turns = x.turns ++ y.turns;
  went = subst (HandledAll IsExchange p r) (sym (flat_map-append (λ (t : Turn). t.held) x.turns y.turns)) (on (all_held x.turns) (all_held y.turns) x.went y.went);
  keeps = λ before s. subst (λ (t : List Turn). IsServed t c) (append_assoc before x.turns y.turns) (y.keeps (before ++ x.turns) (x.keeps before s));
}

-- ---- the whole

served_nobody : IsServed [] nobody
served_nobody = record {
  crowd = λ client. (begun, so_far (record { whole = refl; each = tt }) refl, tt);
  given = tt;
  free = λ client h. refl;
}

pub serves_all : (p q : DeskState) (a b : Attendance) → a ≡ nobody → Attends p q a b → ((xs : List HttpExchange) → HandledAll IsExchange p q xs → AnsweredInOrder IsExchange p q xs) → ServesAll p q
serves_all p q a b e x on =
    let s : IsServed x.turns b = x.keeps [] (subst (λ (t : Attendance). IsServed [] t) (sym e) served_nobody) in
    record {
      turns = x.turns;
      order = λ client. let t = s.crowd client in (t.0, t.1);
      holds = on (all_held x.turns) x.went;
    }

-- ---- one client

below_is_new : (turns : List Turn) (n : ℕ) → AllByRecursion (λ (t : Turn). t.client < n) turns → IsNew n turns
below_is_new [] n h = tt
below_is_new (t ∷ turns) n h = (λ e. let l : t.client < n = h.0 in omega (arith, e), below_is_new turns n h.1)

below_more : (turns : List Turn) (n : ℕ) → AllByRecursion (λ (t : Turn). t.client < n) turns → AllByRecursion (λ (t : Turn). t.client < n + 1) turns
below_more [] n h = tt
below_more (t ∷ turns) n h = (let l : t.client < n = h.0 in omega arith, below_more turns n h.1)

below_one : (turns : List Turn) (one : Turn) (n : ℕ) → one.client < n → AllByRecursion (λ (t : Turn). t.client < n) turns → AllByRecursion (λ (t : Turn). t.client < n) (turns ++ one ∷ [])
below_one [] one n l h = (l, tt)
below_one (t ∷ turns) one n l h = (h.0, below_one turns one n l h.1)

pub comes_keeps : Comes → (crowd new : Crowd) (next : ℕ) → Becomes crowd new next (Some begun) → KeepsServed (attendance crowd next) (attendance new (next + 1))
comes_keeps law crowd new next becomes turns s = record {
  crowd = law turns crowd new next s.crowd (below_is_new turns next s.given) becomes;
  given = below_more turns next s.given;
  free = λ client h. becomes.others client (λ e. omega (arith, e)) ∙ s.free client (omega arith);
}

none_or_other : (crowd new : Crowd) (n client : ℕ) → Becomes crowd new n None → crowd client ≡ None → new client ≡ None
none_or_other crowd new n client becomes e = elim (eqb_tells client n) [
  | inl h ↦ ap new h.1 ∙ becomes.changed
  | inr h ↦ becomes.others client h.1 ∙ e
]

pub goes_keeps : Goes → (crowd new : Crowd) (n next : ℕ) → Becomes crowd new n None → KeepsServed (attendance crowd next) (attendance new next)
goes_keeps law crowd new n next becomes turns s = record {
  crowd = law turns crowd new n s.crowd becomes;
  given = s.given;
  free = λ client h. none_or_other crowd new n client becomes (s.free client h);
}

some_is_none : (o : Option Talk) (t : Talk) → o ≡ Some t → o ≡ None → ⊥
some_is_none o t e h = cc (e, h)

-- a client that is there has a number that was given
there_below : (crowd : Crowd) (n next : ℕ) (t : Talk) → ((client : ℕ) → next ≤ client → crowd client ≡ None) → crowd n ≡ Some t → n < next
there_below crowd n next t free there = elim (cases_lt n next) [ inl h ↦ h | inr h ↦ absurd (some_is_none (crowd n) t there (free n h)) ]

pub turn_attends : HasTurn → (p q : DeskState) (crowd new : Crowd) (n next : ℕ) (a b : Talk) → crowd n ≡ Some a → TakesTurn None None None None p q a b → Becomes crowd new n (Some b) → Attends p q (attendance crowd next) (attendance new next)
turn_attends law p q crowd new n next a b there x becomes =
    let one : Turn = record { client = n; got = x.got; put = x.put; held = x.held } in
    record {
      turns = one ∷ [];
      went = subst (HandledAll IsExchange p q) (sym (append-nil x.held)) x.went;
      keeps = λ before s. record {
        crowd = law before one crowd new a b s.crowd there x.order becomes;
        given = below_one before one next (there_below crowd n next a s.free there) s.given;
        free = λ client h. becomes.others client (λ e. some_is_none (crowd client) a (ap crowd e ∙ there) (s.free client h)) ∙ s.free client h;
      };
    }
