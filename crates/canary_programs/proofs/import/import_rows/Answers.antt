use Rattle.canary_programs.proofs.import.import_rows.Goals as goal

pub returns-clause-rows : goal.returns-clause-rows
returns-clause-rows g c = (_, c.imported.ensures, _, _, c.import.ensures.rows _ c.file_reader-file.ensures.begins)
