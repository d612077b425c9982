-- Tables with just the rows of sound contents are sound.
use Rattle.std.proofs.Common.{◌≡◌, subst, sym}
use Rattle.canary_once.specs.Contents.{Contents}
use Rattle.canary_once.specs.Sound.{AreContents, AreSoundContents}
use Rattle.canary_tables_rows.specs.Tables.{Tables}
use Rattle.canary_tables_contents.specs.Tables.{AreRows, IsReadable}
use Rattle.canary_tables_contents.specs.Reading.{contents_of, HoldsContents}
use Rattle.canary_tables_contents.specs.Laws.{ReadsBack}
use Rattle.canary_tables_contents.specs.Soundness.{AreSoundTables, HaveSoundRows, ExactlyThose}

holds_these : (t : Tables) (c : Contents) → c ≡ contents_of t → AreRows t c → IsReadable c → AreContents c → AreSoundContents c → AreSoundTables t
holds_these t c same rows readable lawful sound =
    let holds : HoldsContents t = record { rows = subst (AreRows t) same rows; readable = subst IsReadable same readable; lawful = subst AreContents same lawful } in
    (holds, subst AreSoundContents same sound)

pub exactly_those : ReadsBack → ExactlyThose
exactly_those back t = (
  λ (h : HaveSoundRows t). holds_these t h.0 (sym (back t h.0 h.1 h.2 h.3)) h.1 h.2 h.3 h.4,
  λ (h : AreSoundTables t). (contents_of t, h.0.rows, h.0.readable, h.0.lawful, h.1),
)
