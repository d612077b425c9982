-- What a revision is found by.
use Rattle.canary_tables_rows.specs.declared.rows.RevisionRow.{RevisionRow}
use Rattle.canary_tables_read.specs.declared.lists.RevisionKey.{RevisionKey}

abbrev pub key_of : RevisionRow → RevisionKey
key_of row = record { name = row.name; revision = row.revision }
