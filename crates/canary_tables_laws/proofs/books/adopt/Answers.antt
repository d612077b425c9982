use Rattle.std.proofs.lemmas.Result.{IfErr-weaker}
use Rattle.sqlite.specs.Held.{state}
use Rattle.canary_tables_laws.proofs.TableBooks.{taken_over, shows, as_it_was, may_lose, in_none}
use Rattle.canary_tables_laws.proofs.books.adopt.Goals as goal

pub returns-clause-adopted : goal.returns-clause-adopted
returns-clause-adopted g c = taken_over g.S.Store (state g.S.Store c.args.conn) c.adopt.result c.adopt.ensures.adopted

pub returns-clause-other : goal.returns-clause-other
returns-clause-other g c = IfErr-weaker c.adopt.result _ _ (λ e h is shown has. h is (shows g.S.Store e.1 shown) has) c.adopt.ensures.other

pub returns-clause-broken : goal.returns-clause-broken
returns-clause-broken g c = IfErr-weaker c.adopt.result _ _ (λ e h is shown. let broken = h is (shows g.S.Store e.1 shown) in (broken.0, broken.2)) c.adopt.ensures.broken

pub returns-clause-left : goal.returns-clause-left
returns-clause-left g c = IfErr-weaker c.adopt.result _ _ (λ e h. as_it_was g.S.Store (state g.S.Store c.args.conn) e.1 h) c.adopt.ensures.left

pub returns-clause-store : goal.returns-clause-store
returns-clause-store g c = IfErr-weaker c.adopt.result _ _ (λ e h. may_lose e.0 e.1 h) c.adopt.ensures.store

pub returns-clause-mode : goal.returns-clause-mode
returns-clause-mode g c = IfErr-weaker c.adopt.result _ _ (λ e h outside. in_none e.1 (h outside)) c.adopt.ensures.mode
