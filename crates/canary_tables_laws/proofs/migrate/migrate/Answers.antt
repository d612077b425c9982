use Rattle.std.proofs.lemmas.Result.{IfErr-weaker}
use Rattle.sqlite.specs.Held.{state}
use Rattle.canary_tables_laws.proofs.FirstDesks.{became_so, none_held}
use Rattle.canary_tables_laws.proofs.TableBooks.{shows, as_it_was, may_lose, in_none}
use Rattle.canary_tables_laws.proofs.migrate.migrate.Goals as goal

pub returns-clause-migrated : goal.returns-clause-migrated
returns-clause-migrated g c = became_so g.S.Store c.reads_back.ensures c.exactly_those.ensures c.one_reading.ensures (state g.S.Store c.args.conn) c.migrate.result c.migrate.ensures.done

pub returns-clause-other : goal.returns-clause-other
returns-clause-other g c = IfErr-weaker c.migrate.result _ _ (λ e h is shown has. h is (shows g.S.Store e.1 shown) has) c.migrate.ensures.other

pub returns-clause-broken : goal.returns-clause-broken
returns-clause-broken g c = IfErr-weaker c.migrate.result _ _ (λ e h is shown. let broken = h is (shows g.S.Store e.1 shown) in (broken.0, none_held c.reads_back.ensures c.exactly_those.ensures (state g.S.Store c.args.conn).now broken.1)) c.migrate.ensures.broken

pub returns-clause-left : goal.returns-clause-left
returns-clause-left g c = IfErr-weaker c.migrate.result _ _ (λ e h. as_it_was g.S.Store (state g.S.Store c.args.conn) e.1 h) c.migrate.ensures.left

pub returns-clause-store : goal.returns-clause-store
returns-clause-store g c = IfErr-weaker c.migrate.result _ _ (λ e h. may_lose e.0 e.1 h) c.migrate.ensures.store

pub returns-clause-mode : goal.returns-clause-mode
returns-clause-mode g c = IfErr-weaker c.migrate.result _ _ (λ e h outside. in_none e.1 (h outside)) c.migrate.ensures.mode
