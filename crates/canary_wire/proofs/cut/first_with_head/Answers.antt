use Rattle.std.proofs.Common.{◌≡◌, sym, ◌∙◌, arith, refl}
use Rattle.canary_wire.specs.Heads.{head_framing, closes, is_bare}
use Rattle.canary_wire.specs.declared.framing.Framing.TheVariants.{Body, Rejected}
use Rattle.canary_wire.proofs.CutLemmas.{rejected_beyond, framed_as, closes_as, bare_as, rejected_by_framing, unfinished_body, first_message}
use Rattle.canary_wire.proofs.cut.first_with_head.Goals as goal

pub returns-then-head-gt-MAX_HEAD : goal.returns-then-head-gt-MAX_HEAD
returns-then-head-gt-MAX_HEAD c = rejected_beyond c.args.bytes.now c.args.headers.now c.args.head c.requires.of (omega arith)

pub returns-then-bytes-end : goal.returns-then-bytes-end
returns-then-bytes-end c =
    let e : head_framing c.requires.of.0 ≡ Body c.in-Body.n =
    framed_as c.args.bytes.now c.args.headers.now c.args.head c.requires.of _ _ (Body c.in-Body.n) c.of-method.ensures refl (sym c.in-Body.is ∙ c.frame.ensures.is) in
    unfinished_body c.args.bytes.now c.args.headers.now c.args.head c.requires.of c.requires.lines (omega arith) c.in-Body.n e (rw c.in-Body.is at c.frame.ensures.small) (omega arith) (omega arith)

pub returns-in-Rejected : goal.returns-in-Rejected
returns-in-Rejected c =
    let e : head_framing c.requires.of.0 ≡ Rejected c.in-Rejected.rejection =
    framed_as c.args.bytes.now c.args.headers.now c.args.head c.requires.of _ _ (Rejected c.in-Rejected.rejection) c.of-method.ensures refl (sym c.in-Rejected.is ∙ c.frame.ensures.is) in
    let bare : c.is_bare-head_alone.result ≡ is_bare c.requires.of.0 =
    bare_as c.args.bytes.now c.args.headers.now c.args.head c.requires.of c.of-method.result.now c.is_bare-head_alone.result c.of-method.ensures c.is_bare-head_alone.ensures in
    rejected_by_framing c.args.bytes.now c.args.headers.now c.args.head c.requires.of c.requires.lines (omega arith) c.in-Rejected.rejection c.is_bare-head_alone.result e bare

pub returns-else-bytes-end : goal.returns-else-bytes-end
returns-else-bytes-end c =
    let e : head_framing c.requires.of.0 ≡ Body c.in-Body.n =
    framed_as c.args.bytes.now c.args.headers.now c.args.head c.requires.of _ _ (Body c.in-Body.n) c.of-method.ensures refl (sym c.in-Body.is ∙ c.frame.ensures.is) in
    let bare : c.is_bare-head_alone.result ≡ is_bare c.requires.of.0 =
    bare_as c.args.bytes.now c.args.headers.now c.args.head c.requires.of c.of-method.result.now c.is_bare-head_alone.result c.of-method.ensures c.is_bare-head_alone.ensures in
    let shut : c.closes.result ≡ closes c.requires.of.0 =
    closes_as c.args.bytes.now c.args.headers.now c.args.head c.requires.of _ c.closes.result refl c.closes.ensures in
    first_message c.args.bytes.now c.args.headers.now c.args.head c.requires.within c.requires.of c.requires.lines (omega arith) c.in-Body.n _ c.closes.result c.is_bare-head_alone.result e (omega arith) (omega arith) shut bare
