use Rattle.std.proofs.Common.{◌≡◌, Err, arith, rules, sym, ap, subst, ◌∙◌}
use Rattle.sqlite.specs.Held.{state}
use Rattle.canary_tables_read.specs.declared.fault.ReadFault.TheVariants.{Broken}
use Rattle.canary_tables_read.specs.Reader.{seen_inside}
use Rattle.canary_tables_schema.specs.Stores.{IsUsable, IsHeld, Holds}
use Rattle.canary_tables_schema.specs.Layout.{moved}
use Rattle.canary_migrate.proofs.Filling.{was_before, filled_so, sound_so, bindings_broken, tallies_broken}
use Rattle.canary_migrate.proofs.Written.{kept_both}
use Rattle.canary_migrate.proofs.fill.fill.Goals as goal

pub returns-clause-was : goal.returns-clause-was
returns-clause-was g c =
    was_before (state g.S.Store c.args.tx.now.conn.now) (state g.S.Store c.bindings.new.conn.conn.now) (state g.S.Store c.with_passes.new.conn.conn.now) (state g.S.Store c.write.new.tx.conn.now) c.bindings.ensures.reads.same c.with_passes.ensures.reads.same c.write.ensures.kept c.in_ok-write.ensures.began

pub returns-clause-wrote : goal.returns-clause-wrote
returns-clause-wrote g c usable t holds =
    filled_so (state g.S.Store c.args.tx.now.conn.now) (state g.S.Store c.bindings.new.conn.conn.now) (state g.S.Store c.with_passes.new.conn.conn.now) (state g.S.Store c.write.new.tx.conn.now) c.bindings.ensures.reads.same c.with_passes.ensures.reads.same c.write.ensures.kept c.in_ok-write.ensures.began
    c.args.templates.now c.args.old.now c.in_ok-bindings.bindings c.in_ok-counted.counted c.in_ok-revisions.revisions c.in_ok-bindings.ensures.found c.in_ok-counted.ensures.found c.in_ok-revisions.ensures
    (rw (c.as_slice.ensures, c.as_slice-2.ensures, c.as_slice-3.ensures) at c.in_ok-write.ensures.wrote) usable t holds

pub returns-clause-sound : goal.returns-clause-sound
returns-clause-sound g c usable t holds =
    sound_so (state g.S.Store c.args.tx.now.conn.now) (state g.S.Store c.bindings.new.conn.conn.now) (state g.S.Store c.with_passes.new.conn.conn.now) (state g.S.Store c.write.new.tx.conn.now) c.bindings.ensures.reads.same c.with_passes.ensures.reads.same c.write.ensures.kept c.in_ok-write.ensures.began
    c.in_ok-write.ensures.sound usable t holds

pub returns-clause-kept : goal.returns-clause-kept
returns-clause-kept g c =
    kept_both (state g.S.Store c.args.tx.now.conn.now) (state g.S.Store c.with_passes.new.conn.conn.now) (state g.S.Store c.write.new.tx.conn.now)
    (kept_both (state g.S.Store c.args.tx.now.conn.now) (state g.S.Store c.bindings.new.conn.conn.now) (state g.S.Store c.with_passes.new.conn.conn.now) c.bindings.ensures.reads.kept c.with_passes.ensures.reads.kept) c.write.ensures.kept

pub returns-in_err-bindings-clause-broken : goal.returns-in_err-bindings-clause-broken
returns-in_err-bindings-clause-broken g c usable is =
    let broken : c.bindings.result ≡ Err Broken = search rules in
    ((c.bindings.ensures.reads.same usable).0, λ t holds within. bindings_broken c.args.templates.now c.args.old.now t within (c.bindings.ensures.broken usable t (record { layout = moved; holds = holds }) broken))

pub returns-in_err-counted-clause-broken : goal.returns-in_err-counted-clause-broken
returns-in_err-counted-clause-broken g c usable is =
    let broken : c.with_passes.result ≡ Err Broken = search rules in
    let mid = (c.with_passes.ensures.reads.same usable).0 in (
      (c.bindings.ensures.reads.same mid).0,
      λ t holds within. tallies_broken c.args.templates.now c.args.old.now t within (c.with_passes.ensures.broken usable t (subst (λ db. IsHeld db t) (sym (c.bindings.ensures.reads.same mid).1) (record { layout = moved; holds = holds })) broken),
    )
