use Rattle.std.proofs.Common.{◌<◌, ◌≤◌, length, arith}
use Rattle.canary_client_records.proofs.Moments.{weaker}
use Rattle.canary_client_records.proofs.Crash.{repaired_few, repaired_many, settled_few, settled_many, kept_within}
use Rattle.canary_client_records.proofs.store.repair_sized.Goals as goal

pub returns-then-size-le1-clause-rest : goal.returns-then-size-le1-clause-rest
returns-then-size-le1-clause-rest g c =
    let few : length (g.D.Device.seen c.args.device.now) ≤ 1 = omega (arith, c.requires.size, c.if-size-le1.true) in
    settled_few g.D.Device.seen g.D.Device.may_leave c.write_through.new.device (g.D.Device.seen c.args.device.now) c.args.found.now.texts c.args.found.now.gate few c.requires.texts c.requires.gate c.in_ok-write_through.ensures.written c.in_ok-write_through.ensures.durable

pub returns-then-size-le1-clause-any_moment : goal.returns-then-size-le1-clause-any_moment
returns-then-size-le1-clause-any_moment g c =
    let few : length (g.D.Device.seen c.args.device.now) ≤ 1 = omega (arith, c.requires.size, c.if-size-le1.true) in
    weaker g.D.Device.moment g.D.Device.left_since c.args.device.now c.write_through.new.device _ _ c.write_through.ensures.any_moment
    (repaired_few (g.D.Device.seen c.args.device.now) (g.D.Device.may_leave c.args.device.now) few c.requires.durable)

pub returns-in_err-write_through-clause-any_moment : goal.returns-in_err-write_through-clause-any_moment
returns-in_err-write_through-clause-any_moment g c =
    let few : length (g.D.Device.seen c.args.device.now) ≤ 1 = omega (arith, c.requires.size, c.if-size-le1.true) in
    weaker g.D.Device.moment g.D.Device.left_since c.args.device.now c.write_through.new.device _ _ c.write_through.ensures.any_moment
    (repaired_few (g.D.Device.seen c.args.device.now) (g.D.Device.may_leave c.args.device.now) few c.requires.durable)

pub overflow_add-found : goal.overflow_add-found
overflow_add-found g c =
    let many : 1 < length (g.D.Device.seen c.args.device.now) = omega (arith, c.requires.size, c.if-size-le1.false) in
    let within = kept_within (g.D.Device.seen c.args.device.now) c.args.found.now.texts c.args.found.now.gate many c.requires.texts c.requires.gate in
    omega (arith, within, c.requires.size, c.ranges.size.fits)

pub cut_through-requires : goal.cut_through-requires
cut_through-requires g c =
    let many : 1 < length (g.D.Device.seen c.args.device.now) = omega (arith, c.requires.size, c.if-size-le1.false) in
    kept_within (g.D.Device.seen c.args.device.now) c.args.found.now.texts c.args.found.now.gate many c.requires.texts c.requires.gate

pub returns-clause-rest : goal.returns-clause-rest
returns-clause-rest g c =
    let many : 1 < length (g.D.Device.seen c.args.device.now) = omega (arith, c.requires.size, c.if-size-le1.false) in
    settled_many g.D.Device.seen g.D.Device.may_leave c.cut_through.new.device (g.D.Device.seen c.args.device.now) c.args.found.now.texts c.args.found.now.gate many c.requires.texts c.requires.gate c.in_ok-cut_through.ensures.cut c.in_ok-cut_through.ensures.durable

pub returns-clause-any_moment : goal.returns-clause-any_moment
returns-clause-any_moment g c =
    let many : 1 < length (g.D.Device.seen c.args.device.now) = omega (arith, c.requires.size, c.if-size-le1.false) in
    weaker g.D.Device.moment g.D.Device.left_since c.args.device.now c.cut_through.new.device _ _ c.cut_through.ensures.any_moment
    (repaired_many (g.D.Device.seen c.args.device.now) (g.D.Device.may_leave c.args.device.now) c.args.found.now.texts c.args.found.now.gate many c.requires.texts c.requires.gate c.requires.durable)

pub returns-in_err-cut_through-clause-any_moment : goal.returns-in_err-cut_through-clause-any_moment
returns-in_err-cut_through-clause-any_moment g c =
    let many : 1 < length (g.D.Device.seen c.args.device.now) = omega (arith, c.requires.size, c.if-size-le1.false) in
    weaker g.D.Device.moment g.D.Device.left_since c.args.device.now c.cut_through.new.device _ _ c.cut_through.ensures.any_moment
    (repaired_many (g.D.Device.seen c.args.device.now) (g.D.Device.may_leave c.args.device.now) c.args.found.now.texts c.args.found.now.gate many c.requires.texts c.requires.gate c.requires.durable)
