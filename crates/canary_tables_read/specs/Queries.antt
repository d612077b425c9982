-- Texts that only read, whatever tables there are.
use Rattle.std.specs.Prelude.{List, ℕ, Ok, Err}
use Rattle.sqlite_ast.specs.declared.Statement.{Statement}
use Rattle.sqlite_ast.specs.declared.Statement.TheVariants as written
use Rattle.sqlite_syntax.specs.declared.statement.Parsed.{Parsed}
use Rattle.sqlite_resolve.specs.Lowering.{Checked}
use Rattle.sqlite_resolve.specs.Compile.{first}

abbrev pub IsSelect : Statement → Type 0
IsSelect (written.Select s) = Unit {0}
IsSelect s = ⊥

abbrev pub ParsesAsSelect : Checked Parsed → Type 0
ParsesAsSelect (Ok p) = IsSelect p.statement
ParsesAsSelect (Err e) = ⊥

-- the text is one SELECT
abbrev pub IsQuery : List ℕ → Type 0
IsQuery text = ParsesAsSelect (first text)
