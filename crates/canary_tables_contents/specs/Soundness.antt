-- When tables are those of sound contents.
use Rattle.std.specs.Prelude.{◌↔◌}
use Rattle.canary_once.specs.Contents.{Contents}
use Rattle.canary_once.specs.Sound.{AreContents, AreSoundContents}
use Rattle.canary_tables_rows.specs.Tables.{Tables}
use Rattle.canary_tables_contents.specs.Tables.{AreRows, IsReadable}
use Rattle.canary_tables_contents.specs.Reading.{contents_of, HoldsContents}

-- they hold contents, and these are sound
abbrev pub AreSoundTables : Tables → Type 0
AreSoundTables t = HoldsContents t × AreSoundContents (contents_of t)

-- their rows are just those of some contents, all of which is read back, and which are sound
abbrev pub HaveSoundRows : Tables → Type 0
HaveSoundRows t = (c : Contents) × AreRows t c × IsReadable c × AreContents c × AreSoundContents c

abbrev pub ExactlyThose : Type 0
ExactlyThose = (t : Tables) → HaveSoundRows t ↔ AreSoundTables t
