use Rattle.std.proofs.Common.{◌≡◌, length, ◌∙◌, ap, subst, arith}
use Rattle.std.specs.Str.{IsUtf8}
use Rattle.canary_client_records.specs.Texts.{records, IsLine}
use Rattle.canary_client_records.specs.Stores.{held, IsBeforeOrAfter}
use Rattle.canary_client_records.proofs.Moments.{weaker, then_on}
use Rattle.canary_client_records.proofs.Utf8.{is_text}
use Rattle.canary_client_records.proofs.Crash.{Fits, staged_crash, gate_crash, settled_after, staged_is}
use Rattle.canary_client_records.proofs.store.Store.append.Goals as goal

-- the first write leaves the texts as they were
pub returns-in_err-write_through-clause-any_moment : goal.returns-in_err-write_through-clause-any_moment
returns-in_err-write_through-clause-any_moment g c =
    let s = c.requires.rest in
    let bytes = c.as_slice.ensures.value ∙ c.in_ok-behind.ensures in
    let size : length c.as_str-length.result.now ≡ length c.args.text.now = ap length c.as_str-length.ensures in
    let fits : Fits (g.D.Device.seen c.args.self.now.device) c.args.text.now = (λ none. let few = c.in_ok-room.ensures.first (s.place ∙ ap (λ ts. length (records ts)) none) in omega (arith, size, few)) in
    weaker g.D.Device.moment g.D.Device.left_since c.args.self.now.device c.write_through.new.device _ (IsBeforeOrAfter (held (g.D.Device.seen c.args.self.now.device)) c.args.text.now) c.write_through.ensures.any_moment
    (staged_crash (g.D.Device.seen c.args.self.now.device) (g.D.Device.may_leave c.args.self.now.device) c.args.self.now.gate c.args.text.now c.as_slice.result.now fits bytes s.rest s.place s.durable)

pub returns-in_err-write_through-2-clause-any_moment : goal.returns-in_err-write_through-2-clause-any_moment
returns-in_err-write_through-2-clause-any_moment g c =
    let s = c.requires.rest in
    let bytes = c.as_slice.ensures.value ∙ c.in_ok-behind.ensures in
    let size : length c.as_str-length.result.now ≡ length c.args.text.now = ap length c.as_str-length.ensures in
    let fits : Fits (g.D.Device.seen c.args.self.now.device) c.args.text.now = (λ none. let few = c.in_ok-room.ensures.first (s.place ∙ ap (λ ts. length (records ts)) none) in omega (arith, size, few)) in
    let line : IsLine c.args.text.now = record { utf8 = is_text c.args.text.now (subst IsUtf8 c.as_str-length.ensures c.as_str-length.utf8); one = c.requires.line } in
    let staged = staged_is (g.D.Device.seen c.args.self.now.device) c.args.self.now.gate c.args.text.now c.as_slice.result.now fits bytes s.rest s.place _ c.in_ok-write_through.ensures.written in
    then_on g.D.Device.moment g.D.Device.left_since c.args.self.now.device c.write_through.new.device c.write_through-2.new.device _ _ _ c.write_through.ensures.any_moment c.write_through-2.ensures.any_moment
    (staged_crash (g.D.Device.seen c.args.self.now.device) (g.D.Device.may_leave c.args.self.now.device) c.args.self.now.gate c.args.text.now c.as_slice.result.now fits bytes s.rest s.place s.durable)
    (gate_crash (g.D.Device.seen c.args.self.now.device) (g.D.Device.seen c.write_through.new.device) (g.D.Device.may_leave c.write_through.new.device) c.args.self.now.gate c.args.text.now fits s.rest s.place line staged c.in_ok-write_through.ensures.durable)

pub returns-clause-any_moment : goal.returns-clause-any_moment
returns-clause-any_moment g c =
    let s = c.requires.rest in
    let bytes = c.as_slice.ensures.value ∙ c.in_ok-behind.ensures in
    let size : length c.as_str-length.result.now ≡ length c.args.text.now = ap length c.as_str-length.ensures in
    let fits : Fits (g.D.Device.seen c.args.self.now.device) c.args.text.now = (λ none. let few = c.in_ok-room.ensures.first (s.place ∙ ap (λ ts. length (records ts)) none) in omega (arith, size, few)) in
    let line : IsLine c.args.text.now = record { utf8 = is_text c.args.text.now (subst IsUtf8 c.as_str-length.ensures c.as_str-length.utf8); one = c.requires.line } in
    let staged = staged_is (g.D.Device.seen c.args.self.now.device) c.args.self.now.gate c.args.text.now c.as_slice.result.now fits bytes s.rest s.place _ c.in_ok-write_through.ensures.written in
    then_on g.D.Device.moment g.D.Device.left_since c.args.self.now.device c.write_through.new.device c.write_through-2.new.device _ _ _ c.write_through.ensures.any_moment c.write_through-2.ensures.any_moment
    (staged_crash (g.D.Device.seen c.args.self.now.device) (g.D.Device.may_leave c.args.self.now.device) c.args.self.now.gate c.args.text.now c.as_slice.result.now fits bytes s.rest s.place s.durable)
    (gate_crash (g.D.Device.seen c.args.self.now.device) (g.D.Device.seen c.write_through.new.device) (g.D.Device.may_leave c.write_through.new.device) c.args.self.now.gate c.args.text.now fits s.rest s.place line staged c.in_ok-write_through.ensures.durable)

-- and then the text is on the disk
pub returns-clause-acknowledged : goal.returns-clause-acknowledged
returns-clause-acknowledged g c =
    let s = c.requires.rest in
    let bytes = c.as_slice.ensures.value ∙ c.in_ok-behind.ensures in
    let size : length c.as_str-length.result.now ≡ length c.args.text.now = ap length c.as_str-length.ensures in
    let fits : Fits (g.D.Device.seen c.args.self.now.device) c.args.text.now = (λ none. let few = c.in_ok-room.ensures.first (s.place ∙ ap (λ ts. length (records ts)) none) in omega (arith, size, few)) in
    let line : IsLine c.args.text.now = record { utf8 = is_text c.args.text.now (subst IsUtf8 c.as_str-length.ensures c.as_str-length.utf8); one = c.requires.line } in
    let staged = staged_is (g.D.Device.seen c.args.self.now.device) c.args.self.now.gate c.args.text.now c.as_slice.result.now fits bytes s.rest s.place _ c.in_ok-write_through.ensures.written in
    let after = settled_after g.D.Device.seen g.D.Device.may_leave c.write_through-2.new.device (g.D.Device.seen c.args.self.now.device) (g.D.Device.seen c.write_through.new.device) c.args.self.now.gate c.args.text.now fits s.rest s.place line staged c.in_ok-write_through-2.ensures.written c.in_ok-write_through-2.ensures.durable in
    (rw size after.0, after.1)
