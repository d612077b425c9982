use Rattle.std.proofs.Common.{◌≡◌, Err, IsTrue, arith, rules}
use Rattle.sqlite.specs.Held.{state}
use Rattle.sqlite.specs.State.{State}
use Rattle.canary_tables_read.specs.declared.fault.ReadFault.TheVariants.{Broken}
use Rattle.canary_tables_contents.specs.Services.{IsJudged}
use Rattle.canary_migrate.specs.Migrates.{IsRewritten}
use Rattle.canary_migrate.proofs.Rewriting.{if_judged, sound_one, typed_broken, sound_three, rewritten, judge_broken, fill_broken}
use Rattle.canary_migrate.proofs.Written.{kept_live, kept_both}
use Rattle.canary_migrate.proofs.migrate.write.Goals as goal

pub check_types-requires : goal.check_types-requires
check_types-requires g c = record {
  ready = sound_one c.args.templates.now c.args.tallies.now (state g.S.Store c.args.tx.now.conn.now) (state g.S.Store c.make_tables.new.tx.conn.now) (state g.S.Store c.make_tables.new.tx.conn.now) c.requires.live c.requires.read c.make_tables.ensures.kept c.make_tables.ensures.survives c.in_ok-make_tables.ensures.made;
}

pub validate-requires : goal.validate-requires
validate-requires g c = record {
  ready = sound_three c.args.templates.now c.args.tallies.now (state g.S.Store c.args.tx.now.conn.now) (state g.S.Store c.make_tables.new.tx.conn.now) (state g.S.Store c.check_types.new.conn.conn.now) c.requires.live c.requires.read c.make_tables.ensures.kept c.make_tables.ensures.survives c.in_ok-make_tables.ensures.made
      c.check_types.ensures.reads.same c.in_ok-check_types.ensures.typed (state g.S.Store c.fill.new.tx.conn.now) c.in_ok-fill.ensures.was c.in_ok-fill.ensures.sound c.in_ok-fill.ensures.wrote;
}

pub returns-clause-done : goal.returns-clause-done
returns-clause-done g c usable =
    if_judged c.validate.result (state g.S.Store c.fill.new.tx.conn.now) (IsRewritten (state g.S.Store c.args.tx.now.conn.now).now (state g.S.Store c.validate.new.conn.conn.now).now) IsJudged (λ judged. rewritten c.args.templates.now c.args.tallies.now (state g.S.Store c.args.tx.now.conn.now) (state g.S.Store c.make_tables.new.tx.conn.now) (state g.S.Store c.check_types.new.conn.conn.now) c.requires.live c.requires.read c.make_tables.ensures.kept c.make_tables.ensures.survives c.in_ok-make_tables.ensures.made
    c.check_types.ensures.reads.same c.in_ok-check_types.ensures.typed (state g.S.Store c.fill.new.tx.conn.now) c.in_ok-fill.ensures.was c.in_ok-fill.ensures.sound c.in_ok-fill.ensures.wrote (state g.S.Store c.validate.new.conn.conn.now) c.validate.ensures.reads.same (λ _. judged) usable) (c.validate.ensures.judged usable)

pub returns-clause-broken : goal.returns-clause-broken
returns-clause-broken g c usable is =
    judge_broken c.args.templates.now c.args.tallies.now (state g.S.Store c.args.tx.now.conn.now) (state g.S.Store c.make_tables.new.tx.conn.now) (state g.S.Store c.check_types.new.conn.conn.now) c.requires.live c.requires.read c.make_tables.ensures.kept c.make_tables.ensures.survives c.in_ok-make_tables.ensures.made
    c.check_types.ensures.reads.same c.in_ok-check_types.ensures.typed (state g.S.Store c.fill.new.tx.conn.now) c.in_ok-fill.ensures.was c.in_ok-fill.ensures.sound c.in_ok-fill.ensures.wrote (state g.S.Store c.validate.new.conn.conn.now) c.validate.ensures.reads.same (λ u t stored. c.validate.ensures.refused u t stored is) usable

pub returns-in_err-check_types-clause-broken : goal.returns-in_err-check_types-clause-broken
returns-in_err-check_types-clause-broken g c usable is =
    let broken : c.check_types.result ≡ Err Broken = search rules in
    typed_broken c.args.templates.now c.args.tallies.now (state g.S.Store c.args.tx.now.conn.now) (state g.S.Store c.make_tables.new.tx.conn.now) (state g.S.Store c.check_types.new.conn.conn.now) c.requires.live c.requires.read c.make_tables.ensures.kept c.make_tables.ensures.survives c.in_ok-make_tables.ensures.made
    c.check_types.ensures.reads.same (λ formed. c.check_types.ensures.broken usable formed broken) usable

pub returns-in_err-fill-clause-broken : goal.returns-in_err-fill-clause-broken
returns-in_err-fill-clause-broken g c usable is =
    let broken : c.fill.result ≡ Err Broken = search rules in
    let f = c.fill.ensures.broken usable broken in
    fill_broken c.args.templates.now c.args.tallies.now (state g.S.Store c.args.tx.now.conn.now) (state g.S.Store c.make_tables.new.tx.conn.now) (state g.S.Store c.check_types.new.conn.conn.now) c.requires.live c.requires.read c.make_tables.ensures.kept c.make_tables.ensures.survives c.in_ok-make_tables.ensures.made
    c.check_types.ensures.reads.same f.0 f.1

pub returns-clause-kept : goal.returns-clause-kept
returns-clause-kept g c =
    kept_both (state g.S.Store c.args.tx.now.conn.now) (state g.S.Store c.fill.new.tx.conn.now) (state g.S.Store c.validate.new.conn.conn.now)
    (kept_both (state g.S.Store c.args.tx.now.conn.now) (state g.S.Store c.check_types.new.conn.conn.now) (state g.S.Store c.fill.new.tx.conn.now)
    (kept_both (state g.S.Store c.args.tx.now.conn.now) (state g.S.Store c.make_tables.new.tx.conn.now) (state g.S.Store c.check_types.new.conn.conn.now) (kept_live (state g.S.Store c.args.tx.now.conn.now) (state g.S.Store c.make_tables.new.tx.conn.now) c.make_tables.ensures.kept (λ _. c.requires.live) c.make_tables.ensures.survives) c.check_types.ensures.reads.kept)
    c.fill.ensures.kept) c.validate.ensures.reads.kept
